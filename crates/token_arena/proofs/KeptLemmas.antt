-- Entries as they are made, item by item: what they keep so far, and what one more adds.
use Rattle.std.proofs.Common.{◌≡◌, ◌==◌, ◌&&◌, ◌∙◌, ℕ, suc, ◌+◌, ◌-◌, ◌≤◌, Bool, true, false, List, [], ◌∷◌, ◌++◌, length, take, drop, inl, inr, refl, sym, ap, subst, arith}
use Rattle.std.proofs.lemmas.Bool.{cases_Bool, and_parts, and_right, eqb-true, ne_eqb}
use Rattle.std.proofs.lemmas.List.{length-drop, length-take-le}
use Rattle.std.proofs.lemmas.List.Elements.{All-append}
use Rattle.c_chars.specs.Characters.{logical, mark_len, bytes_of}
use Rattle.c_chars.specs.declared.Dialect.{Dialect}
use Rattle.c_chars.specs.declared.TheConstants.{LIMIT}
use Rattle.c_grammar.specs.Items.{LineStart, is_gap}
use Rattle.c_grammar.specs.Text.{ReadItem, Left, IsStep, IsReadUpTo, start_of, end_of, raw_of}
use Rattle.c_grammar.proofs.Reading.{begun, stepped, ended}
use Rattle.token_arena.specs.Stored.{Stored, stored_of, stored_from, stored_items}
use Rattle.token_arena.specs.Gaps.{Stands, StandFrom, behind}
use Rattle.token_arena.specs.Hashes.{hashes_from}
use Rattle.token_arena.specs.Entries.{kept_by, kept_from, kept_by_all, AllWithin, AreEntries, ArePlain, IsPlain, comments_kept}
use Rattle.token_arena.specs.declared.arena.Entry.{Entry}
use Rattle.c_chars.proofs.Spans.{Ascend, chars_ascend}
use Rattle.token_arena.proofs.EntryLemmas.{length_kept}
use Rattle.token_arena.proofs.Spans.{IsSpanned}

-- an item that is the first where none was read
abbrev pub first_of : Bool → List ReadItem → Bool
first_of is_first [] = is_first
first_of is_first (item ∷ items) = false

-- where the gap behind these items begins
abbrev pub items_end : ℕ → List ReadItem → ℕ
items_end from [] = from
items_end from (item ∷ items) = items_end (end_of item) items

pub stored_from-push : (text : List ℕ) (is_first : Bool) (from : ℕ) (items : List ReadItem) (item : ReadItem)
    → stored_from text is_first from (items ++ item ∷ []) ≡ stored_from text is_first from items ++ stored_of text (first_of is_first items) (items_end from items) item ∷ []
stored_from-push text is_first from [] item = refl
stored_from-push text is_first from (i ∷ items) item =
    let rest = stored_from-push text false (end_of i) items item in
    let same : first_of false items ≡ false = never items in
    ap (λ s. stored_of text is_first from i ∷ s) (subst (λ b. stored_from text false (end_of i) (items ++ item ∷ []) ≡ stored_from text false (end_of i) items ++ stored_of text b (items_end (end_of i) items) item ∷ []) same rest)
  where
    never : (items : List ReadItem) → first_of false items ≡ false
    never [] = refl
    never (i ∷ items) = refl

pub items_end-push : (from : ℕ) (items : List ReadItem) (item : ReadItem) → items_end from (items ++ item ∷ []) ≡ end_of item
items_end-push from [] item = refl
items_end-push from (i ∷ items) item = items_end-push (end_of i) items item

pub length-stored_from : (text : List ℕ) (is_first : Bool) (from : ℕ) (items : List ReadItem) → length (stored_from text is_first from items) ≡ length items
length-stored_from text is_first from [] = refl
length-stored_from text is_first from (i ∷ items) = ap (λ n. suc n) (length-stored_from text false (end_of i) items)

-- one more entry is that of one more item, the first where there was none
kept_from-push : (text : List ℕ) (entries : List Entry) (entry : Entry) → kept_from text false (entries ++ entry ∷ []) ≡ kept_from text false entries ++ kept_by text false entry ∷ []
kept_from-push text [] entry = refl
kept_from-push text (e ∷ entries) entry = ap (λ s. kept_by text false e ∷ s) (kept_from-push text entries entry)

pub kept_by_all-push : (text : List ℕ) (entries : List Entry) (entry : Entry)
    → kept_by_all text (entries ++ entry ∷ []) ≡ kept_by_all text entries ++ kept_by text (length entries == 0) entry ∷ []
kept_by_all-push text [] entry = refl
kept_by_all-push text (e ∷ entries) entry =
    let later : (length (e ∷ entries) == 0) ≡ false = ne_eqb (length (e ∷ entries)) 0 (λ h. absurd (omega arith)) in
    rw later (ap (λ s. kept_by text true e ∷ s) (kept_from-push text entries entry))

-- where items end that stand in order
abbrev pub end_from : ℕ → List Stored → ℕ
end_from at [] = at
end_from at (token ∷ tokens) = end_from (behind token) tokens

pub StandFrom-push : (text : List ℕ) (at : ℕ) (tokens : List Stored) (x : Stored) → StandFrom text at tokens → Stands text (end_from at tokens) x → StandFrom text at (tokens ++ x ∷ [])
StandFrom-push text at [] x stand more = (more, more.within)
StandFrom-push text at (token ∷ tokens) x stand more = (stand.0, StandFrom-push text (behind token) tokens x stand.1 more)

pub end_from-push : (at : ℕ) (tokens : List Stored) (x : Stored) → end_from at (tokens ++ x ∷ []) ≡ behind x
end_from-push at [] x = refl
end_from-push at (token ∷ tokens) x = end_from-push (behind token) tokens x

-- No entry is kept exactly where no item was read.
pub first_is : (items : List ReadItem) (n : ℕ) → length items ≡ n → first_of true items ≡ (n == 0)
first_is [] n h = rw (← h) refl
first_is (item ∷ items) n h = rw (← h) (sym (ne_eqb (length (item ∷ items)) 0 (λ e. absurd (omega arith))))

-- Items have been read up to an offset of their text, and these entries keep them.
pub record IsKeptUpTo (d : Dialect) (text : List ℕ) (left : Left) (entries : List Entry) (at : ℕ) : Type 0 where
  pub items : List ReadItem
  pub read : IsReadUpTo d text items left
  pub up : Ascend at (length text) left.chars
  pub kept : kept_by_all text entries ≡ stored_items text items
  pub items_stop : items_end (mark_len text) items ≡ at
  pub stand : StandFrom text (mark_len text) (kept_by_all text entries)
  pub stop : end_from (mark_len text) (kept_by_all text entries) ≡ at
  pub within : AllWithin text entries
  pub plain : ArePlain text entries

-- A byte order mark is in its text.
pub record IsMarked (text : List ℕ) : Type 0 where
  pub within : mark_len text ≤ length text

not_marked : (text : List ℕ) → mark_len text ≡ 0 → IsMarked text
not_marked text e = record { within = rw e (omega arith) }

pub marked : (text : List ℕ) → IsMarked text
marked [] = not_marked [] refl
marked (a ∷ []) = let n : ((239 == a) && false) ≡ false = and_right (239 == a) false refl in not_marked (a ∷ []) (rw n refl)
marked (a ∷ b ∷ []) = let n : ((239 == a) && ((187 == b) && false)) ≡ false = and_right (239 == a) ((187 == b) && false) (and_right (187 == b) false refl) in not_marked (a ∷ b ∷ []) (rw n refl)
marked (a ∷ b ∷ c ∷ text) = elim (cases_Bool ((239 == a) && ((187 == b) && ((191 == c) && true)))) [
  | inr n ↦ not_marked (a ∷ b ∷ c ∷ text) (rw n refl)
  | inl y ↦
      let p = and_parts (239 == a) ((187 == b) && ((191 == c) && true)) y in
      let q = and_parts (187 == b) ((191 == c) && true) p.1 in
      let a_is : 239 ≡ a = eqb-true 239 a p.0 in
      let b_is : 187 ≡ b = eqb-true 187 b q.0 in
      let c_is : 191 ≡ c = eqb-true 191 c (and_parts (191 == c) true q.1).0 in
      subst (λ z. IsMarked (z ∷ b ∷ c ∷ text)) a_is (subst (λ z. IsMarked (239 ∷ z ∷ c ∷ text)) b_is (subst (λ z. IsMarked (239 ∷ 187 ∷ z ∷ text)) c_is (with_mark text)))
]
  where
    with_mark : (text : List ℕ) → IsMarked (239 ∷ 187 ∷ 191 ∷ text)
    with_mark text = record { within = omega arith }

pub kept_begun : (d : Dialect) (text : List ℕ) → IsKeptUpTo d text (record { place = LineStart; chars = logical d text }) [] (mark_len text)
kept_begun d text =
    let mark : IsMarked text = marked text in
    let len : length (drop (mark_len text) text) ≡ length text - mark_len text = length-drop (mark_len text) text in
    record {
      items = [];
      read = begun d text;
      up = chars_ascend d (mark_len text) (length text) (drop (mark_len text) text) (omega (arith, len, mark.within));
      kept = refl;
      items_stop = refl;
      stand = mark.within;
      stop = refl;
      within = λ k d below. absurd (omega arith);
      plain = λ k d below. absurd (omega arith);
    }

pub kept_step : (d : Dialect) (text : List ℕ) (old new : Left) (entries : List Entry) (entry : Entry) (at at2 : ℕ) (read : ReadItem)
    → (before : IsKeptUpTo d text old entries at)
    → IsStep d old new read
    → IsSpanned at (length text) read new.chars
    → kept_by text (length entries == 0) entry ≡ stored_of text (length entries == 0) at read
    → entry.start + entry.len ≤ length text
    → IsPlain text entry
    → at2 ≡ end_of read
    → IsKeptUpTo d text new (entries ++ entry ∷ []) at2
kept_step d text old new entries entry at at2 read before step span told room plain at2_is =
    let mark : ℕ = mark_len text in
    let tokens : List Stored = kept_by_all text entries in
    let made : Stored = kept_by text (length entries == 0) entry in
    let pushed : kept_by_all text (entries ++ entry ∷ []) ≡ tokens ++ made ∷ [] = kept_by_all-push text entries entry in
    let count : length before.items ≡ length entries =
    sym (length-stored_from text true mark before.items) ∙ (sym (ap length before.kept) ∙ length_kept text entries) in
    let first : first_of true before.items ≡ (length entries == 0) = first_is before.items (length entries) count in
    let more : stored_items text (before.items ++ read ∷ []) ≡ stored_items text before.items ++ stored_of text (first_of true before.items) (items_end mark before.items) read ∷ [] =
    stored_from-push text true mark before.items read in
    let same : stored_of text (first_of true before.items) (items_end mark before.items) read ≡ made =
    ap (λ b. stored_of text b (items_end mark before.items) read) first ∙ (ap (λ k. stored_of text (length entries == 0) k read) before.items_stop ∙ sym told) in
    let kept : kept_by_all text (entries ++ entry ∷ []) ≡ stored_items text (before.items ++ read ∷ []) =
    pushed ∙ (ap (λ s. s ++ made ∷ []) before.kept ∙ (ap (λ x. stored_items text before.items ++ x ∷ []) (sym same) ∙ sym more)) in
    let wide : ℕ = end_of read - start_of read in
    let behind_start : length (drop (start_of read) text) ≡ length text - start_of read = length-drop (start_of read) text in
    let raw_len : length (raw_of text read) ≡ wide = length-take-le wide (drop (start_of read) text) (omega (arith, behind_start, span.some, span.within)) in
    let starts : made.start ≡ start_of read = ap (λ (t : Stored). t.start) told in
    let raws : made.raw ≡ raw_of text read = ap (λ (t : Stored). t.raw) told in
    let raws_len : length made.raw ≡ wide = ap length raws ∙ raw_len in
    let raws_are : made.raw ≡ take (length made.raw) (drop made.start text) =
    raws ∙ (ap (λ k. take wide (drop k text)) (sym starts) ∙ ap (λ k. take k (drop made.start text)) (sym raws_len)) in
    let stands : Stands text at made = record {
      later = omega (arith, starts, span.later);
      within = omega (arith, starts, raws_len, span.some, span.within);
      bytes = raws_are;
      some = omega (arith, raws_len, span.some);
    } in
    let stops : behind made ≡ at2 = omega (arith, starts, raws_len, span.some, at2_is) in
    let stand : StandFrom text mark (tokens ++ made ∷ []) =
    StandFrom-push text mark tokens made before.stand (subst (λ k. Stands text k made) (sym before.stop) stands) in
    record {
      items = before.items ++ read ∷ [];
      read = stepped d text before.items old new read before.read step;
      up = subst (λ k. Ascend k (length text) new.chars) (sym at2_is) span.up;
      kept = kept;
      items_stop = items_end-push mark before.items read ∙ sym at2_is;
      stand = subst (StandFrom text mark) (sym pushed) stand;
      stop = ap (end_from mark) pushed ∙ (end_from-push mark tokens made ∙ stops);
      within = All-append (λ (e : Entry). e.start + e.len ≤ length text) entries (entry ∷ []) before.within (λ k other below. let first : k ≡ 0 = omega arith in rw first room);
      plain = All-append (IsPlain text) entries (entry ∷ []) before.plain (λ k other below. let first : k ≡ 0 = omega arith in rw first plain);
    }

pub kept_ended : (d : Dialect) (text : List ℕ) (left : Left) (entries : List Entry) (comments hashes : List ℕ) (at : ℕ) → length text ≤ LIMIT → IsKeptUpTo d text left entries at
    → is_gap (bytes_of left.chars) ≡ true → comments ≡ comments_kept 0 entries → hashes ≡ hashes_from 0 (kept_by_all text entries) → AreEntries text d entries comments hashes
kept_ended d text left entries comments hashes at fits all gap remarks marks = record {
  comments_are = remarks;
  hashes_are = marks;
  within = all.within;
  plain = all.plain;
  sound = record {
    stand = all.stand;
    fits = fits;
    holds = record {
      items = all.items;
      last = left.chars;
      lexes = ended d text all.items left all.read gap;
      tokens = all.kept;
    };
  };
}
