-- A text without the bytes between two items that may touch is a twin of it.
use Rattle.std.proofs.Common.{◌≡◌, ◌+◌, ◌&&◌, ◌==◌, ℕ, arith, length, Bool, true, false, List, [], ◌∷◌, ◌++◌, map, take, drop, refl, sym, ◌∙◌, ap, subst, append_assoc, length-append, inl, inr, ◌⊎◌}
use Rattle.std.specs.Prelude.{codes}
use Rattle.std.specs.List.{list_any}
use Rattle.std.proofs.lemmas.Bool.{cases_Bool, and_right, or_parts}
use Rattle.std.proofs.lemmas.List.{map-append, append-nil}
use Rattle.std.proofs.Math.Seq.{take-append_seam, drop-append_seam, drop-append-add}
use Rattle.c_chars.specs.Characters.{chars, bytes_of, mark_len, logical}
use Rattle.c_chars.specs.Coming.{AreBetween}
use Rattle.c_chars.specs.declared.Dialect.{Dialect}
use Rattle.c_chars.specs.declared.Dialect.TheVariants.{C11, C23}
use Rattle.c_chars.specs.declared.LogicalChar.{LogicalChar}
use Rattle.c_chars.proofs.Cuts.{units, chars_cut, chars_moved, IsCleanCut}
use Rattle.c_chars.proofs.Splits.{head_of, last_of}
use Rattle.c_chars.proofs.Ends.{units_from, units_finish, same_finish, same_from}
use Rattle.c_chars.proofs.FirstUnits.{begins_line}
use Rattle.c_chars.proofs.Spans.{finish_from, between_chars}
use Rattle.item_kinds.specs.declared.ItemKind.TheVariants.{HeaderName}
use Rattle.c_grammar.specs.Grammar.{is_new_line, is_same, is_of, Spells, Whole, IsHeaderName}
use Rattle.c_grammar.specs.Items.{Place, LineStart, AfterHash, AfterInclude, AfterDefine, AfterMacroName, InDirective, InText, past_gap, past_item, Reads, written}
use Rattle.c_grammar.specs.Text.{ReadItem, piece_of, begin_of, finish_of, start_of, end_of, raw_of, characters_of, LexesText}
use Rattle.c_grammar.specs.Touch.{starts, ends, is_punct, is_other_kind, may_touch, closed_up}
use Rattle.c_grammar.specs.Fitting.{place_behind}
use Rattle.c_grammar.specs.Twin.{IsTwin, part_of, parts_of}
use Rattle.c_grammar.proofs.Unique.{is_blank}
use Rattle.c_grammar.proofs.GapBytes.{first_byte, first_black, black_no_line}
use Rattle.c_grammar.proofs.ItemBytes.{ReadAs, AreParted, parted, next_black}
use Rattle.c_grammar.proofs.Items.{item_at, same_place, seam}
use Rattle.c_grammar.proofs.Rewritten.{HasMark, mark_of}
use Rattle.c_grammar.proofs.Seam.{Touch, touch_parts}
use Rattle.touching.specs.Spelling.{spelling}
use Rattle.touching.specs.TakingAway.{without_gap, would_open, TakesGapsAway}
use Rattle.touching.proofs.Marks.{same_spelling}
use Rattle.touching.proofs.NoMark.{no_mark_comes}
use Rattle.touching.proofs.Questions.{query_is_alone}
use Rattle.touching.proofs.Cuts.{Cut, cut, ends_chars, gone_cut}
use Rattle.touching.proofs.Nearer.{nearer, near_item, nearer_moved, nearer_bytes, near_pieces, near_kinds, near_characters, characters_cut, HaveSome, BeginBehind, begin_behind, EndBefore, end_before, near_raws, same_raws}

-- Directives

-- the item plays its part with nothing before it
same_part : (place : Place) (r : ReadItem) → list_any is_new_line (bytes_of r.gap) ≡ false → would_open place r ≡ false →
    part_of (past_gap place (bytes_of r.gap)) (bytes_of r.gap) r.kind (bytes_of r.chars) ≡ part_of (past_gap place []) [] r.kind (bytes_of r.chars)
same_part place r n o = ap (λ z. part_of z (bytes_of r.gap) r.kind (bytes_of r.chars)) (same_place place (bytes_of r.gap) n) ∙ at_place place o
  where
    at_place : (p : Place) → would_open p r ≡ false → part_of p (bytes_of r.gap) r.kind (bytes_of r.chars) ≡ part_of p [] r.kind (bytes_of r.chars)
    at_place LineStart e = refl
    at_place AfterHash e = refl
    at_place AfterInclude e = refl
    at_place AfterDefine e = refl
    at_place AfterMacroName e = let f = and_right (is_same (bytes_of r.gap) []) (is_punct r.kind && is_same (bytes_of r.chars) (codes "(")) e in rw (f, e) refl
    at_place InDirective e = refl
    at_place InText e = refl

closed_parts : (d : Dialect) (place : Place) (xs : List ReadItem) (l r : ReadItem) (ys : List ReadItem) → list_any is_new_line (bytes_of r.gap) ≡ false →
    would_open (place_behind d place (map piece_of (xs ++ l ∷ []))) r ≡ false → parts_of d place (map piece_of (xs ++ l ∷ r ∷ ys)) ≡ parts_of d place (map piece_of xs ++ piece_of l ∷ closed_up (piece_of r) ∷ map piece_of ys)
closed_parts d place [] l r ys n o =
    let here = past_item d (past_gap place (bytes_of l.gap)) l.kind (bytes_of l.chars) in
    let first = part_of (past_gap place (bytes_of l.gap)) (bytes_of l.gap) l.kind (bytes_of l.chars) in
    let head = same_part here r n o in
    let past : past_gap here (bytes_of r.gap) ≡ past_gap here [] = same_place here (bytes_of r.gap) n in
    ap (λ z. first ∷ z ∷ parts_of d (past_item d (past_gap here (bytes_of r.gap)) r.kind (bytes_of r.chars)) (map piece_of ys)) head
    ∙ ap (λ z. first ∷ part_of (past_gap here []) [] r.kind (bytes_of r.chars) ∷ parts_of d (past_item d z r.kind (bytes_of r.chars)) (map piece_of ys)) past
closed_parts d place (x ∷ xs) l r ys n o =
    ap (λ z. part_of (past_gap place (bytes_of x.gap)) (bytes_of x.gap) x.kind (bytes_of x.chars) ∷ z) (closed_parts d (past_item d (past_gap place (bytes_of x.gap)) x.kind (bytes_of x.chars)) xs l r ys n o)

-- Characters

have_some : (d : Dialect) (place : Place) (items : List ReadItem) (last : List ℕ) → Reads d place (map piece_of items) last → HaveSome items
have_some d place [] last h = tt
have_some d place (i ∷ items) last h =
    let black = next_black d (past_gap place (bytes_of i.gap)) i.kind (bytes_of i.chars) (written (map piece_of items) last) h.1 in
    let some = first_char i.chars black.0 black.1 black.2 in
    (some.0, some.1, some.2, have_some d (past_item d (past_gap place (bytes_of i.gap)) i.kind (bytes_of i.chars)) items last h.2)
  where
    first_char : (cs : List LogicalChar) (f : ℕ) (t : List ℕ) → bytes_of cs ≡ f ∷ t → (c : LogicalChar) × (v : List LogicalChar) × (cs ≡ c ∷ v)
    first_char [] f t h = cc
    first_char (c ∷ v) f t h = (c, v, refl)

-- the items before this one, and those behind it
some_at : (xs ys : List ReadItem) → HaveSome (xs ++ ys) → HaveSome ys
some_at [] ys h = h
some_at (x ∷ xs) ys h = some_at xs ys h.3

some_before : (xs ys : List ReadItem) → HaveSome (xs ++ ys) → HaveSome xs
some_before [] ys h = tt
some_before (x ∷ xs) ys h = (h.0, h.1, h.2, some_before xs ys h.3)

last_behind : (a : List LogicalChar) (c : LogicalChar) (v : List LogicalChar) → last_of (a ++ c ∷ v) ≡ last_of (c ∷ v)
last_behind [] c v = refl
last_behind (x ∷ []) c v = refl
last_behind (x ∷ y ∷ a) c v = last_behind (y ∷ a) c v

finish_behind : (at : ℕ) (a : List LogicalChar) (c : LogicalChar) (v : List LogicalChar) → finish_from at (a ++ c ∷ v) ≡ finish_of (c ∷ v)
unfolding finish_from
finish_behind at (x ∷ a) c v = finish_behind x.to a c v
finish_behind at [] c [] = refl
finish_behind at [] c (e ∷ v) = finish_behind c.to [] e v

ends_behind : (p : ℕ → Bool) (a : List ℕ) (c : ℕ) (v : List ℕ) → ends p (a ++ c ∷ v) ≡ ends p (c ∷ v)
ends_behind p [] c v = refl
ends_behind p (x ∷ []) c v = refl
ends_behind p (x ∷ y ∷ a) c v = ends_behind p (y ∷ a) c v

-- the characters through the left item end with its own
front_is : (xs : List ReadItem) (l : ReadItem) → characters_of (xs ++ l ∷ []) [] ≡ (characters_of xs [] ++ l.gap) ++ l.chars
front_is xs l = characters_cut xs (l ∷ []) [] ∙ (ap (λ z. characters_of xs [] ++ (l.gap ++ z)) (append-nil l.chars) ∙ sym (append_assoc (characters_of xs []) l.gap l.chars))

no_feed : (d : Dialect) (p : ℕ) (b : List ℕ) (c : LogicalChar) → head_of (units d p b) ≡ c ∷ [] → is_blank c.byte ≡ false → begins_line b ≡ false
no_feed d p [] c h k = refl
no_feed d p (b ∷ s) c h k = black_no_line b (first_black d p b s (ap is_blank (first (units d p (b ∷ s)) h) ∙ k))
  where
    first : (u : List LogicalChar) → head_of u ≡ c ∷ [] → first_byte 32 u ≡ c.byte
    first [] h = cc
    first (x ∷ u) h = let e : x ≡ c = cc in ap (λ z. z.byte) e

begins_at : (d : Dialect) (p : ℕ) (b : List ℕ) (c : LogicalChar) (v : List LogicalChar) → head_of (units d p b) ≡ head_of (c ∷ v) → c.from ≡ p
begins_at C11 p [] c v h = cc
begins_at C23 p [] c v h = cc
begins_at d p (b ∷ s) c v h = sym (same_from (units d p (b ∷ s)) (c ∷ v) h) ∙ units_from d p b s

-- no trigraph comes together
no_trigraph : (d : Dialect) (l r : ReadItem) (c : LogicalChar) (v rest : List LogicalChar) → r.chars ≡ c ∷ v → ((l.kind ≡ HeaderName) × IsHeaderName (bytes_of l.chars)) ⊎ Spells d (Whole l.kind) (bytes_of l.chars) →
    Touch l.kind (bytes_of l.chars) r.kind (bytes_of r.chars) → (ends (λ z. z == 63) (bytes_of l.chars) && starts (is_of (codes "?=(/)'<!>-")) (bytes_of (head_of ((c ∷ v) ++ rest)))) ≡ false
no_trigraph d l r c v rest there item touch = elim (cases_Bool (ends (λ z. z == 63) (bytes_of l.chars))) [
  | inr n ↦ rw n refl
  | inl y ↦
      let others = or_parts (is_other_kind l.kind) (is_other_kind r.kind) touch.others in
      let alone = query_is_alone d l.kind (bytes_of l.chars) item touch.line others.0 y in
      let comes : (true && starts (is_of (codes "?=(/)'<!>-")) (bytes_of r.chars)) ≡ false = subst (λ z. (z && starts (is_of (codes "?=(/)'<!>-")) (bytes_of r.chars)) ≡ false) alone touch.trigraph in
      let none : starts (is_of (codes "?=(/)'<!>-")) (bytes_of (c ∷ v)) ≡ false = subst (λ z. starts (is_of (codes "?=(/)'<!>-")) (bytes_of z) ≡ false) there comes in
      and_right (ends (λ z. z == 63) (bytes_of l.chars)) (starts (is_of (codes "?=(/)'<!>-")) (bytes_of (head_of ((c ∷ v) ++ rest)))) none
]

-- the item with no gap before it
abbrev bare : ReadItem → ReadItem
bare r = record { kind = r.kind; gap = []; chars = r.chars }

-- the pieces of the items, the right one behind nothing
closed_pieces : (n : ℕ) (xs : List ReadItem) (l r : ReadItem) (ys : List ReadItem) →
    map piece_of ((xs ++ l ∷ []) ++ map (near_item n) (bare r ∷ ys)) ≡ map piece_of xs ++ piece_of l ∷ closed_up (piece_of r) ∷ map piece_of ys
closed_pieces n [] l r ys = ap (λ z. piece_of l ∷ z) (near_pieces n (bare r ∷ ys))
closed_pieces n (x ∷ xs) l r ys = ap (λ z. piece_of x ∷ z) (closed_pieces n xs l r ys)

-- What is found of a text: its bytes in front, in the gap and behind, by the items.
record Found (d : Dialect) (text : List ℕ) (xs : List ReadItem) (l r : ReadItem) (ys : List ReadItem) (last : List LogicalChar) : Type 0 where
  f : List ℕ
  g : List ℕ
  b : List ℕ
  whole : text ≡ f ++ (g ++ b)
  end : end_of l ≡ length f
  start : start_of r ≡ length f + length g
  before : EndBefore (length f) (xs ++ l ∷ [])
  behind : BeginBehind (length f + length g) (r ∷ ys)
  read : (no_new : mark_len text ≡ 0 → mark_len (f ++ b) ≡ 0) → (mark_len (f ++ b) ≡ mark_len text) × (logical d (f ++ b) ≡ characters_of ((xs ++ l ∷ []) ++ map (near_item (length g)) (bare r ∷ ys)) (map (nearer (length g)) last))

found : (d : Dialect) (text : List ℕ) (xs : List ReadItem) (l r : ReadItem) (ys : List ReadItem) (last : List LogicalChar) → LexesText d text ((xs ++ l ∷ []) ++ r ∷ ys) last →
    ((l.kind ≡ HeaderName) × IsHeaderName (bytes_of l.chars)) ⊎ Spells d (Whole l.kind) (bytes_of l.chars) → (c : LogicalChar) (v : List LogicalChar) → r.chars ≡ c ∷ v → is_blank c.byte ≡ false → HaveSome ((xs ++ l ∷ []) ++ r ∷ ys) →
    may_touch l.kind (bytes_of l.chars) r.kind (bytes_of r.chars) ≡ true → Found d text xs l r ys last
found d text xs l r ys last lexes item c v there black some touch =
    let n = mark_len text in
    let mark : HasMark text = mark_of text in
    let front = take n text in
    let old = drop n text in
    let zs = xs ++ l ∷ [] in
    let P = characters_of zs [] in
    let rest = characters_of ys last in
    let Q = (c ∷ v) ++ rest in
    let Q_is : r.chars ++ rest ≡ Q = ap (λ z. z ++ rest) there in
    let split : chars d n old ≡ P ++ (r.gap ++ Q) = lexes.whole ∙ (characters_cut zs (r ∷ ys) last ∙ ap (λ z. P ++ (r.gap ++ z)) Q_is) in
    let k : Cut d n old P r.gap Q = cut d n old P r.gap Q split in
    let own = some_at xs (l ∷ []) (some_before zs (r ∷ ys) some) in
    let P_is : P ≡ (characters_of xs [] ++ l.gap) ++ own.0 ∷ own.1 = front_is xs l ∙ ap (λ z. (characters_of xs [] ++ l.gap) ++ z) own.2 in
    let ends_so : ends_chars 63 P ≡ ends (λ z. z == 63) (bytes_of l.chars) =
    ap (ends_chars 63) P_is ∙ (ap (ends (λ z. z == 63)) (map-append (λ z. z.byte) (characters_of xs [] ++ l.gap) (own.0 ∷ own.1)) ∙ (ends_behind (λ z. z == 63) (bytes_of (characters_of xs [] ++ l.gap)) own.0.byte (bytes_of own.1) ∙ ap (λ z. ends (λ z. z == 63) (bytes_of z)) (sym own.2))) in
    let query : (ends_chars 63 P && starts (is_of (codes "?=(/)'<!>-")) (bytes_of (head_of Q))) ≡ false =
    ap (λ z. z && starts (is_of (codes "?=(/)'<!>-")) (bytes_of (head_of Q))) ends_so ∙ no_trigraph d l r c v rest there item (touch_parts l.kind (bytes_of l.chars) r.kind (bytes_of r.chars) touch) in
    let p : ℕ = n + length k.a + length k.g in
    let feed : begins_line k.b ≡ false = no_feed d p k.b c k.head black in
    let clean : IsCleanCut d n k.a k.b = gone_cut d n (length k.g) k.a k.b P Q k.last k.head query feed (black_no_line c.byte black) in
    let back : chars d (n + length k.a) k.b ≡ map (nearer (length k.g)) Q =
    sym (nearer_moved (length k.g) (chars d (n + length k.a) k.b)) ∙ (ap (map (nearer (length k.g))) (sym (chars_moved d (length k.g) (n + length k.a) k.b)) ∙ ap (map (nearer (length k.g))) k.behind) in
    let f_long : length (front ++ k.a) ≡ n + length k.a = length-append front k.a ∙ ap (λ z. z + length k.a) mark.long in
    let end_at : end_of l ≡ n + length k.a =
    ap finish_of own.2 ∙ (sym (finish_behind n (characters_of xs [] ++ l.gap) own.0 own.1) ∙ (ap (finish_from n) (sym P_is) ∙ (sym (same_finish n (units d n k.a) P k.last) ∙ units_finish d n k.a))) in
    let start_at : start_of r ≡ p = ap begin_of there ∙ begins_at d p k.b c (v ++ rest) k.head in
    let low : AreBetween n P (n + length k.a) = subst (λ z. AreBetween n z (n + length k.a)) k.front (between_chars d n k.a) in
    let high : AreBetween p Q (p + length k.b) = subst (λ z. AreBetween p z (p + length k.b)) k.behind (between_chars d p k.b) in
    let high_items : AreBetween p (characters_of (bare r ∷ ys) last) (p + length k.b) = subst (λ z. AreBetween p z (p + length k.b)) (sym Q_is) high in
    let f_mid : length (front ++ k.a) + length k.g ≡ p = ap (λ z. z + length k.g) f_long in
    record {
      f = front ++ k.a;
      g = k.g;
      b = k.b;
      whole = mark.whole ∙ (ap (λ z. front ++ z) k.whole ∙ sym (append_assoc front k.a (k.g ++ k.b)));
      end = end_at ∙ sym f_long;
      start = start_at ∙ sym f_mid;
      before = subst (λ z. EndBefore z zs) (sym f_long) (end_before n (n + length k.a) zs [] (some_before zs (r ∷ ys) some) low);
      behind = subst (λ z. BeginBehind z (r ∷ ys)) (sym f_mid) (begin_behind p p (p + length k.b) (bare r ∷ ys) last (omega arith) (some_at zs (r ∷ ys) some) high_items);
      read = λ no_new.
          let joined : (front ++ k.a) ++ k.b ≡ front ++ (k.a ++ k.b) = append_assoc front k.a k.b in
          let no_mark : mark_len text ≡ 0 → mark_len (k.a ++ k.b) ≡ 0 = λ e. subst (λ z. mark_len (z ++ (k.a ++ k.b)) ≡ 0) (ap (λ z. take z text) e) (ap mark_len (sym joined) ∙ no_new e) in
          let same : mark_len ((front ++ k.a) ++ k.b) ≡ n = ap mark_len joined ∙ mark.again (k.a ++ k.b) no_mark in
          let tail : drop n ((front ++ k.a) ++ k.b) ≡ k.a ++ k.b = ap (drop n) joined ∙ (ap (λ z. drop z (front ++ (k.a ++ k.b))) (sym mark.long) ∙ drop-append_seam front (k.a ++ k.b)) in
          let near : map (nearer (length k.g)) Q ≡ characters_of (map (near_item (length k.g)) (bare r ∷ ys)) (map (nearer (length k.g)) last) = ap (map (nearer (length k.g))) (sym Q_is) ∙ near_characters (length k.g) (bare r ∷ ys) last in (
            same,
            ap (λ z. chars d z (drop z ((front ++ k.a) ++ k.b))) same
                ∙ (ap (chars d n) tail
                ∙ (chars_cut d n k.a k.b clean
                ∙ (ap (λ z. z ++ chars d (n + length k.a) k.b) k.front
                ∙ (ap (λ z. P ++ z) (back ∙ near) ∙ sym (characters_cut zs (map (near_item (length k.g)) (bare r ∷ ys)) (map (nearer (length k.g)) last)))))),
          );
    }

-- the items of the text, as the front and what comes behind it
fronted : (xs : List ReadItem) (l r : ReadItem) (ys : List ReadItem) → xs ++ l ∷ r ∷ ys ≡ (xs ++ l ∷ []) ++ r ∷ ys
fronted xs l r ys = sym (append_assoc xs (l ∷ []) (r ∷ ys))

without_is : (d : Dialect) (text : List ℕ) (before : List ReadItem) (l r : ReadItem) (after : List ReadItem) (last : List LogicalChar) → (m : Found d text before l r after last) → without_gap text l r ≡ m.f ++ m.b
without_is d text before l r after last m =
    ap (λ z. take z text ++ drop (start_of r) text) m.end
    ∙ (ap (λ z. take (length m.f) text ++ drop z text) m.start
    ∙ (ap (λ z. take (length m.f) z ++ drop (length m.f + length m.g) z) m.whole
    ∙ (ap (λ z. z ++ drop (length m.f + length m.g) (m.f ++ (m.g ++ m.b))) (take-append_seam m.f (m.g ++ m.b)) ∙ ap (λ z. m.f ++ z) (drop-append-add m.f (m.g ++ m.b) (length m.g) ∙ drop-append_seam m.g m.b))))

-- the same with the characters of the items, where no byte order mark comes
taken_away : (d : Dialect) (text : List ℕ) (before after : List ReadItem) (l r : ReadItem) (last : List LogicalChar) → LexesText d text (before ++ l ∷ r ∷ after) last → may_touch l.kind (bytes_of l.chars) r.kind (bytes_of r.chars) ≡ true →
    list_any is_new_line (bytes_of r.gap) ≡ false → would_open (place_behind d LineStart (map piece_of (before ++ l ∷ []))) r ≡ false → ((m : Found d text before l r after last) → mark_len text ≡ 0 → mark_len (m.f ++ m.b) ≡ 0) → IsTwin d text (without_gap text l r)
taken_away d text before after l r last lexes touch lines opens no_new =
    let pieces : map piece_of (before ++ l ∷ r ∷ after) ≡ map piece_of before ++ piece_of l ∷ piece_of r ∷ map piece_of after = map-append piece_of before (l ∷ r ∷ after) in
    let reads : Reads d LineStart (map piece_of before ++ piece_of l ∷ piece_of r ∷ map piece_of after) (bytes_of last) = subst (λ z. Reads d LineStart z (bytes_of last)) pieces lexes.reads in
    let item = item_at d LineStart (map piece_of before) (piece_of l) (piece_of r ∷ map piece_of after) (bytes_of last) reads in
    let zs = before ++ l ∷ [] in
    let again : LexesText d text (zs ++ r ∷ after) last = subst (λ z. LexesText d text z last) (fronted before l r after) lexes in
    let some : HaveSome (zs ++ r ∷ after) = have_some d LineStart (zs ++ r ∷ after) (bytes_of last) again.reads in
    let first = some_at zs (r ∷ after) some in
    let black : is_blank first.0.byte ≡ false = right_black d zs r after (bytes_of last) LineStart again.reads first.0 first.1 first.2 in
    let m : Found d text before l r after last = found d text before l r after last again item first.0 first.1 first.2 black some touch in
    let n = length m.g in
    let new : without_gap text l r ≡ m.f ++ m.b = without_is d text before l r after last m in
    let read = m.read (no_new m) in
    let others = zs ++ map (near_item n) (bare r ∷ after) in
    let others_last = map (nearer n) last in
    let closed : map piece_of others ≡ map piece_of before ++ piece_of l ∷ closed_up (piece_of r) ∷ map piece_of after = closed_pieces n before l r after in
    let stays : Reads d LineStart (map piece_of before ++ piece_of l ∷ closed_up (piece_of r) ∷ map piece_of after) (bytes_of last) = seam d LineStart (map piece_of before) (piece_of l) (piece_of r) (map piece_of after) (bytes_of last) reads touch lines in
    let other_reads : Reads d LineStart (map piece_of others) (bytes_of others_last) = subst (λ z. Reads d LineStart (map piece_of others) z) (sym (nearer_bytes n last)) (subst (λ z. Reads d LineStart z (bytes_of last)) (sym closed) stays) in
    let twin : IsTwin d text (m.f ++ m.b) = record {
      items = before ++ l ∷ r ∷ after;
      last = last;
      lexes = lexes;
      other_items = others;
      other_last = others_last;
      other_lexes = record { whole = read.1; reads = other_reads };
      kinds = ap (map (λ item. item.kind)) (fronted before l r after) ∙ (map-append (λ item. item.kind) zs (r ∷ after) ∙ (ap (λ z. map (λ item. item.kind) zs ++ z) (sym (near_kinds n (bare r ∷ after))) ∙ sym (map-append (λ item. item.kind) zs (map (near_item n) (bare r ∷ after)))));
      raws = raws d text before l r after last m;
      parts = closed_parts d LineStart before l r after lines opens ∙ ap (parts_of d LineStart) (sym closed);
      mark = sym read.0;
    } in
    subst (λ z. IsTwin d text z) (sym new) twin
  where
    right_black : (d : Dialect) (xs : List ReadItem) (r : ReadItem) (ys : List ReadItem) (last : List ℕ) (place : Place) → Reads d place (map piece_of (xs ++ r ∷ ys)) last → (c : LogicalChar) (v : List LogicalChar) → r.chars ≡ c ∷ v → is_blank c.byte ≡ false
    right_black d [] r ys last place h c v there =
        let black = next_black d (past_gap place (bytes_of r.gap)) r.kind (bytes_of r.chars) (written (map piece_of ys) last) h.1 in
        let same : c.byte ≡ black.0 = first_is (sym (ap bytes_of there) ∙ black.2) in
        ap is_blank same ∙ black.3
      where
        first_is : {f : ℕ} {t : List ℕ} → bytes_of (c ∷ v) ≡ f ∷ t → c.byte ≡ f
        first_is h = cc
    right_black d (x ∷ xs) r ys last place h c v there = right_black d xs r ys last (past_item d (past_gap place (bytes_of x.gap)) x.kind (bytes_of x.chars)) h.2 c v there

    raws : (d : Dialect) (text : List ℕ) (before : List ReadItem) (l r : ReadItem) (after : List ReadItem) (last : List LogicalChar) → (m : Found d text before l r after last) →
        map (raw_of text) (before ++ l ∷ r ∷ after) ≡ map (raw_of (m.f ++ m.b)) ((before ++ l ∷ []) ++ map (near_item (length m.g)) (bare r ∷ after))
    raws d text before l r after last m =
        let zs = before ++ l ∷ [] in
        let old = m.f ++ (m.g ++ m.b) in
        let new = m.f ++ m.b in
        let others = map (near_item (length m.g)) (bare r ∷ after) in
        ap (λ z. map (raw_of z) (before ++ l ∷ r ∷ after)) m.whole
        ∙ (ap (map (raw_of old)) (fronted before l r after)
        ∙ (map-append (raw_of old) zs (r ∷ after)
        ∙ (ap (λ z. z ++ map (raw_of old) (r ∷ after)) (same_raws m.f (m.g ++ m.b) m.b zs m.before)
        ∙ (ap (λ z. map (raw_of new) zs ++ z) (near_raws m.f m.g m.b (bare r ∷ after) m.behind) ∙ sym (map-append (raw_of new) zs others)))))

-- how an item of a text stands in it
record StandsSo (d : Dialect) (text : List ℕ) (item : ReadItem) : Type 0 where
  reads : ReadAs d item.chars (raw_of text item)
  long : end_of item ≡ start_of item + length (raw_of text item)

stands_at : (d : Dialect) (text : List ℕ) (at : ℕ) (s : List ℕ) (xs : List ReadItem) (item : ReadItem) (ys : List ReadItem) → AreParted d text at s (xs ++ item ∷ ys) → StandsSo d text item
stands_at d text at s [] item ys h = record { reads = h.4; long = h.8 }
stands_at d text at s (x ∷ xs) item ys h = stands_at d text (end_of x) h.1 xs item ys h.9

pub takes_gaps_away : TakesGapsAway
takes_gaps_away d text before after l r last lexes touch lines opens =
    let zs = before ++ l ∷ [] in
    let mark : HasMark text = mark_of text in
    let front = take (mark_len text) text in
    let old = drop (mark_len text) text in
    let at_front : chars d (length front) old ≡ characters_of (before ++ l ∷ r ∷ after) last = ap (λ z. chars d z old) mark.long ∙ lexes.whole in
    let parts : AreParted d text (length front) old (before ++ l ∷ r ∷ after) = parted d text front old LineStart (before ++ l ∷ r ∷ after) last mark.whole at_front lexes.reads in
    let left : StandsSo d text l = stands_at d text (length front) old before l (r ∷ after) parts in
    let right : StandsSo d text r = stands_at d text (length front) old zs r after (subst (λ z. AreParted d text (length front) old z) (fronted before l r after) parts) in
    let left_item = item_at d LineStart (map piece_of before) (piece_of l) (piece_of r ∷ map piece_of after) (bytes_of last) (subst (λ z. Reads d LineStart z (bytes_of last)) (map-append piece_of before (l ∷ r ∷ after)) lexes.reads) in
    let right_pieces : map piece_of (before ++ l ∷ r ∷ after) ≡ map piece_of zs ++ piece_of r ∷ map piece_of after = ap (map piece_of) (fronted before l r after) ∙ map-append piece_of zs (r ∷ after) in
    let right_item = item_at d LineStart (map piece_of zs) (piece_of r) (map piece_of after) (bytes_of last) (subst (λ z. Reads d LineStart z (bytes_of last)) right_pieces lexes.reads) in
    let others = or_parts (is_other_kind l.kind) (is_other_kind r.kind) (touch_parts l.kind (spelling d (raw_of text l)) r.kind (spelling d (raw_of text r)) touch).others in
    let left_is = same_spelling d l (raw_of text l) left.reads left_item others.0 in
    let right_is = same_spelling d r (raw_of text r) right.reads right_item others.1 in
    let by_chars : may_touch l.kind (bytes_of l.chars) r.kind (bytes_of r.chars) ≡ true = subst (λ z. may_touch l.kind (bytes_of l.chars) r.kind z ≡ true) right_is (subst (λ z. may_touch l.kind z r.kind (spelling d (raw_of text r)) ≡ true) left_is touch) in
    taken_away d text before after l r last lexes by_chars lines opens (λ m none. no_mark_comes d text m.f m.g m.b l m.whole m.end left.long left.reads left_item others.0 none)
