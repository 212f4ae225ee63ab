-- The items that may be a `#`: none of the others is one, and lines without them are text.
use Rattle.std.proofs.Common.{◌≡◌, ◌∙◌, ◌==◌, ◌||◌, ◌&&◌, ◌⊎◌, ℕ, zero, suc, ◌+◌, ◌-◌, ◌<◌, ◌≤◌, inl, inr, Bool, true, false, None, List, [], ◌∷◌, ◌++◌, length, take, drop, get_or, refl, sym, ap, subst, arith}
use Rattle.std.specs.Prelude.{nat_le, nat_lt, if◌then◌else◌}
use Rattle.std.specs.List.{list_all, list_any, slice_index_or}
use Rattle.std.proofs.lemmas.Bool.{and_from, and_parts, both_ways, cases_Bool, or_parts}
use Rattle.std.proofs.lemmas.Bool.Decides.{nat_tests}
use Rattle.std.proofs.Math.ListN.{drop_of_length-le}
use Rattle.std.proofs.lemmas.List.{append-nil, drop-drop, drop_more, length-drop, length-take-le, take-append-drop}
use Rattle.c_chars.specs.Characters.{is_plain}
use Rattle.c_chars.specs.declared.Dialect.{Dialect}
use Rattle.c_grammar.specs.Grammar.{is_same}
use Rattle.c_grammar.specs.Fitting.{is_comment}
use Rattle.c_grammar.specs.Items.{is_hash}
use Rattle.c_grammar.specs.Rewritten.{read_alone}
use Rattle.c_grammar.specs.Touch.{is_punct}
use Rattle.token_arena.specs.Stored.{Stored}
use Rattle.token_arena.specs.Directives.{is_hash_token}
use Rattle.token_arena.specs.Entries.{kept_by}
use Rattle.token_arena.specs.Hashes.{hashes_from, is_likely_hash, may_spell_hash}
use Rattle.token_arena.specs.Sections.{before_lines, lines_of, behind_hash, line_before, sections_from}
use Rattle.token_arena.specs.declared.directives.Section.{Section}
use Rattle.token_arena.specs.declared.directives.Section.TheVariants.{Text}
use Rattle.token_arena.proofs.LineEnds.{no_entry}
use Rattle.token_arena.proofs.LinesOf.{cases_le, lines_line, more_text, pushed_none, tail_len, with_some, with_text}
use Rattle.token_arena.proofs.Remarks.{remark_of}
use Rattle.token_arena.proofs.Spellings.{plain_alone}
use Rattle.token_arena.proofs.Whole.{AreLines, are_lines}

-- What a `#` begins with.

first_of : (b : ℕ) (x y : Bool) → (((b == 35) && x) || ((b == 37) && y)) ≡ true → may_spell_hash b ≡ true
unfolding may_spell_hash
first_of b x y h = grind (arith, nat_tests)

written_of : (b : ℕ) → is_plain b ≡ false → may_spell_hash b ≡ true
unfolding may_spell_hash
written_of b h = grind (arith, nat_tests)

nothing_of : may_spell_hash 0 ≡ true
unfolding may_spell_hash
nothing_of = refl

hash_first : (d : Dialect) (raw : List ℕ) → is_hash (read_alone d raw) ≡ true → may_spell_hash (get_or raw 0 0) ≡ true
hash_first d [] h = nothing_of
hash_first d (b ∷ raw) h = elim (cases_Bool (is_plain b)) [
  | inl y ↦ first_of b (is_same (read_alone d raw) []) (is_same (read_alone d raw) (58 ∷ [])) (subst (λ s. is_hash s ≡ true) (plain_alone d b raw y) h)
  | inr n ↦ written_of b n
]

plain_byte : (b : ℕ) → is_plain b ≡ true → nat_le b 37 ≡ may_spell_hash b
unfolding may_spell_hash
plain_byte b h = grind (arith, nat_tests)

-- bytes that are characters by themselves spell one only where the first is small
pub plain_hash : (s : List ℕ) → list_all is_plain s ≡ true → nat_le (get_or s 0 0) 37 ≡ may_spell_hash (get_or s 0 0)
plain_hash [] h = sym nothing_of
plain_hash (b ∷ s) h = plain_byte b (and_parts (is_plain b) (list_all is_plain s) h).0

pub empty_hash : (s : List ℕ) → length s < 1 → true ≡ may_spell_hash (get_or s 0 0)
empty_hash [] none = sym nothing_of
empty_hash (b ∷ s) none = absurd (omega (arith, none))

hash_likely : (d : Dialect) (t : Stored) → is_hash_token d t ≡ true → is_likely_hash t ≡ true
hash_likely d t h =
    let parts = and_parts (is_punct t.kind) (is_hash (read_alone d t.raw)) h in
    and_from (is_punct t.kind) (may_spell_hash (get_or t.raw 0 0)) parts.0 (hash_first d t.raw parts.1)

no_hash : (d : Dialect) (t : Stored) → is_likely_hash t ≡ false → is_hash_token d t ≡ false
no_hash d t h = elim (cases_Bool (is_hash_token d t)) [
  | inl y ↦ absurd (both_ways (is_likely_hash t) h (hash_likely d t y))
  | inr n ↦ n
]

-- Lines without them.

none_behind : (d : Dialect) (line : List Stored) → list_any is_likely_hash line ≡ false → behind_hash d line ≡ None
none_behind d [] h = refl
none_behind d (t ∷ line) h =
    let parts = or_parts (is_likely_hash t) (list_any is_likely_hash line) h in
    elim (cases_Bool (is_comment t.kind)) [
      | inl y ↦ rw y (none_behind d line parts.1)
      | inr n ↦ let other = no_hash d t parts.0 in rw (n, other) refl
    ]

-- a line begins before the first of these items, if there is one
abbrev pub BeginsLine : List Stored → Type 0
BeginsLine [] = Unit {0}
BeginsLine (t ∷ ts) = t.gap.began ≡ true

one_line : (x : Stored) (rest : List Stored) → BeginsLine rest → lines_of (x ∷ rest) ≡ (x ∷ []) ∷ lines_of rest
one_line x [] begins = refl
one_line x (y ∷ ys) begins =
    let n = tail_len ys in
    let apart : before_lines x (y ∷ ys) ((y ∷ take n ys) ∷ lines_of (drop n ys)) ≡ (x ∷ []) ∷ (y ∷ take n ys) ∷ lines_of (drop n ys) = rw begins refl in
    ap (before_lines x (y ∷ ys)) (lines_line y ys) ∙ (apart ∙ ap (λ ls. (x ∷ []) ∷ ls) (sym (lines_line y ys)))

join_lines : (b : Bool) (x : Stored) (line : List Stored) (lines rest : List (List Stored))
    → (if b then (x ∷ []) ∷ line ∷ (lines ++ rest) else (x ∷ line) ∷ (lines ++ rest)) ≡ (if b then (x ∷ []) ∷ line ∷ lines else (x ∷ line) ∷ lines) ++ rest
join_lines true x line lines rest = refl
join_lines false x line lines rest = refl

lines_apart : (ts rest : List Stored) → BeginsLine rest → lines_of (ts ++ rest) ≡ lines_of ts ++ lines_of rest
lines_apart [] rest begins = refl
lines_apart (x ∷ []) rest begins = one_line x rest begins
lines_apart (x ∷ y ∷ ts) rest begins =
    let n = tail_len ts in
    let line : lines_of (y ∷ ts) ≡ (y ∷ take n ts) ∷ lines_of (drop n ts) = lines_line y ts in
    ap (before_lines x (y ∷ (ts ++ rest))) (lines_apart (y ∷ ts) rest begins ∙ ap (λ ls. ls ++ lines_of rest) line)
    ∙ (join_lines y.gap.began x (y ∷ take n ts) (lines_of (drop n ts)) (lines_of rest) ∙ ap (λ ls. before_lines x (y ∷ ts) ls ++ lines_of rest) (sym line))

-- none of these lines has what may be a `#`
AllText : List (List Stored) → Type 0
AllText [] = Unit {0}
AllText (line ∷ lines) = (list_any is_likely_hash line ≡ false) × AllText lines

alone_text : (x : Stored) → is_likely_hash x ≡ false → list_any is_likely_hash (x ∷ []) ≡ false
alone_text x h = rw h refl

more_lines : (b : Bool) (x : Stored) (line : List Stored) (lines : List (List Stored)) → is_likely_hash x ≡ false → AllText (line ∷ lines) → AllText (if b then (x ∷ []) ∷ line ∷ lines else (x ∷ line) ∷ lines)
unfolding AllText
more_lines true x line lines h all = (alone_text x h, all)
more_lines false x line lines h all = (rw h all.0, all.1)

text_with : (x : Stored) (xs : List Stored) (lines : List (List Stored)) → is_likely_hash x ≡ false → AllText lines → AllText (before_lines x xs lines)
unfolding AllText
text_with x [] lines h all = (alone_text x h, tt)
text_with x (y ∷ xs) [] h all = (alone_text x h, tt)
text_with x (y ∷ xs) (line ∷ lines) h all = more_lines y.gap.began x line lines h all

all_text : (ts : List Stored) → list_any is_likely_hash ts ≡ false → AllText (lines_of ts)
unfolding AllText
all_text [] h = tt
all_text (x ∷ xs) h =
    let parts = or_parts (is_likely_hash x) (list_any is_likely_hash xs) h in
    text_with x xs (lines_of xs) parts.0 (all_text xs parts.1)

text_lines : (d : Dialect) (lines rest : List (List Stored)) (from at n : ℕ) → AreLines n lines → AllText lines → from ≤ at
    → with_text from at (sections_from d at (lines ++ rest)) ≡ with_text from (at + n) (sections_from d (at + n) rest)
unfolding AllText
text_lines d [] rest from at n lines all order = let e : at ≡ at + n = omega (arith, lines) in ap (λ k. with_text from k (sections_from d k rest)) e
text_lines d (line ∷ lines) rest from at n are all order =
    let end = at + length line in
    let more : List Section = sections_from d end (lines ++ rest) in
    let far : end + (n - length line) ≡ at + n = omega (arith, are.1) in
    ap (λ h. with_text from at (line_before d at end h more)) (none_behind d line all.0)
    ∙ (more_text from at end more (omega (arith, are.0)) (cases_le from at order)
    ∙ (text_lines d lines rest from end (n - length line) are.2 all.1 (omega (arith, order)) ∙ ap (λ k. with_text from k (sections_from d k rest)) far))

-- what stands from a place on is text up to another one, before which a line begins
pub text_up_to : (d : Dialect) (items : List Stored) (from at end : ℕ) → at ≤ end → end ≤ length items → list_any is_likely_hash (take (end - at) (drop at items)) ≡ false → (at ≡ end) ⊎ BeginsLine (drop end items)
    → from ≤ at → with_text from at (sections_from d at (lines_of (drop at items))) ≡ with_text from end (sections_from d end (lines_of (drop end items)))
text_up_to d items from at end order within none (inl same) less = ap (λ k. with_text from k (sections_from d k (lines_of (drop k items)))) same
text_up_to d items from at end order within none (inr begins) less =
    let n = end - at in
    let ts = take n (drop at items) in
    let sum : n + at ≡ end = omega (arith, order) in
    let left : drop n (drop at items) ≡ drop end items = drop-drop n at items ∙ ap (λ k. drop k items) (omega (arith, order)) in
    let whole : drop at items ≡ ts ++ drop end items = sym (take-append-drop n (drop at items)) ∙ ap (λ s. ts ++ s) left in
    let room = length-drop at items in
    let long : length ts ≡ n = length-take-le n (drop at items) (omega (arith, room, order, within)) in
    let far : at + n ≡ end = omega (arith, order) in
    ap (λ s. with_text from at (sections_from d at (lines_of s))) whole
    ∙ (ap (λ ls. with_text from at (sections_from d at ls)) (lines_apart ts (drop end items) begins)
    ∙ (text_lines d (lines_of ts) (lines_of (drop end items)) from at n (subst (λ k. AreLines k (lines_of ts)) long (are_lines ts)) (all_text ts none) less
    ∙ ap (λ k. with_text from k (sections_from d k (lines_of (drop end items)))) far))

pub begins_there : (items : List Stored) (at : ℕ) (no_token : Stored) → at < length items → (get_or items at no_token).gap.began ≡ true → BeginsLine (drop at items)
begins_there items at no_token within begins = subst BeginsLine (sym (drop_more items at no_token within)) begins

pub begins_end : (items : List Stored) (at : ℕ) → length items ≤ at → BeginsLine (drop at items)
begins_end [] zero past = tt
begins_end [] (suc at) past = tt
begins_end (t ∷ items) zero past = absurd (omega (arith, past))
begins_end (t ∷ items) (suc at) past = begins_end items at (omega (arith, past))

-- Their numbers, from a place on.

-- those of the numbers from the first on that isn't below this one
abbrev pub from_number : ℕ → List ℕ → List ℕ
from_number at [] = []
from_number at (h ∷ s) = if nat_lt h at then from_number at s else h ∷ s

pub number_stays : (at h : ℕ) (s : List ℕ) → at ≤ h → from_number at (h ∷ s) ≡ h ∷ s
number_stays at h s order = grind arith

pub number_goes : (at h : ℕ) (s : List ℕ) → h < at → from_number at (h ∷ s) ≡ from_number at s
number_goes at h s less = grind arith

all_stay : (at low : ℕ) (ts : List Stored) → low ≤ at → from_number low (hashes_from at ts) ≡ hashes_from at ts
all_stay at low [] order = refl
all_stay at low (t ∷ ts) order = elim (cases_Bool (is_likely_hash t)) [
  | inl y ↦ rw y (number_stays low at (hashes_from (at + 1) ts) order)
  | inr n ↦ rw n (all_stay (at + 1) low ts (omega (arith, order)))
]

pub all_numbers : (ts : List Stored) → hashes_from 0 ts ≡ from_number 0 (hashes_from 0 ts)
all_numbers ts = sym (all_stay 0 0 ts (omega arith))

behind_some : (at n : ℕ) (ts : List Stored) → from_number (at + n) (hashes_from at ts) ≡ hashes_from (at + n) (drop n ts)
behind_some at zero ts = let e : at + 0 ≡ at = omega arith in all_stay at (at + 0) ts (omega arith) ∙ ap (λ k. hashes_from k ts) (sym e)
behind_some at (suc n) [] = refl
behind_some at (suc n) (t ∷ ts) =
    let far : (at + 1) + n ≡ at + suc n = omega arith in
    let rest : from_number (at + suc n) (hashes_from (at + 1) ts) ≡ hashes_from (at + suc n) (drop n ts) =
    subst (λ k. from_number k (hashes_from (at + 1) ts) ≡ hashes_from k (drop n ts)) far (behind_some (at + 1) n ts) in
    elim (cases_Bool (is_likely_hash t)) [
      | inl y ↦ rw y (number_goes (at + suc n) at (hashes_from (at + 1) ts) (omega arith) ∙ rest)
      | inr m ↦ rw m rest
    ]

-- the numbers from a place on are those from an earlier one on, without those between the two
pub numbers_behind : (items : List Stored) (at end : ℕ) (s : List ℕ) → at ≤ end → hashes_from at (drop at items) ≡ s → hashes_from end (drop end items) ≡ from_number end s
numbers_behind items at end s order is =
    let far : at + (end - at) ≡ end = omega (arith, order) in
    let left : drop (end - at) (drop at items) ≡ drop end items = drop-drop (end - at) at items ∙ ap (λ k. drop k items) (omega (arith, order)) in
    ap (hashes_from end) (sym left) ∙ (sym (subst (λ k. from_number k (hashes_from at (drop at items)) ≡ hashes_from k (drop (end - at) (drop at items))) far (behind_some at (end - at) (drop at items))) ∙ ap (from_number end) is)

-- before the first of them none is
pub none_before : (at n h : ℕ) (ts : List Stored) (s : List ℕ) → hashes_from at ts ≡ h ∷ s → at + n ≤ h → list_any is_likely_hash (take n ts) ≡ false
none_before at zero h ts s is far = refl
none_before at (suc n) h [] s is far = refl
none_before at (suc n) h (t ∷ ts) s is far = elim (cases_Bool (is_likely_hash t)) [
  | inl y ↦
      let here : at ∷ hashes_from (at + 1) ts ≡ h ∷ s = rw y at is in
      let same : at ≡ h = cc in
      absurd (omega (arith, same, far))
  | inr m ↦
      let later : hashes_from (at + 1) ts ≡ h ∷ s = rw m at is in
      rw m (none_before (at + 1) n h ts s later (omega (arith, far)))
]

pub none_at_all : (at n : ℕ) (ts : List Stored) → hashes_from at ts ≡ [] → list_any is_likely_hash (take n ts) ≡ false
none_at_all at zero ts is = refl
none_at_all at (suc n) [] is = refl
none_at_all at (suc n) (t ∷ ts) is = elim (cases_Bool (is_likely_hash t)) [
  | inl y ↦ let here : at ∷ hashes_from (at + 1) ts ≡ [] = rw y at is in cc
  | inr m ↦ let later : hashes_from (at + 1) ts ≡ [] = rw m at is in rw m (none_at_all (at + 1) n ts later)
]

pub number_within : (at h : ℕ) (ts : List Stored) (s : List ℕ) → hashes_from at ts ≡ h ∷ s → h < at + length ts
number_within at h [] s is = cc
number_within at h (t ∷ ts) s is = elim (cases_Bool (is_likely_hash t)) [
  | inl y ↦
      let here : at ∷ hashes_from (at + 1) ts ≡ h ∷ s = rw y at is in
      let same : at ≡ h = cc in
      omega (arith, same)
  | inr m ↦
      let later : hashes_from (at + 1) ts ≡ h ∷ s = rw m at is in
      let rest = number_within (at + 1) h ts s later in
      omega (arith, rest)
]

-- The numbers that are left, of which the first isn't below a place.

headed : (s : List ℕ) → 1 ≤ length s → s ≡ slice_index_or s 0 0 ∷ drop 1 s
headed [] some = absurd (omega (arith, some))
headed (h ∷ s) some = refl

ahead : (items : List Stored) (at : ℕ) (s : List ℕ) → hashes_from at (drop at items) ≡ from_number at s → 1 ≤ length s → at ≤ slice_index_or s 0 0 → hashes_from at (drop at items) ≡ slice_index_or s 0 0 ∷ drop 1 s
ahead items at s left some order = left ∙ (ap (from_number at) (headed s some) ∙ number_stays at (slice_index_or s 0 0) (drop 1 s) order)

pub ahead_within : (items : List Stored) (at : ℕ) (s : List ℕ) → at ≤ length items → hashes_from at (drop at items) ≡ from_number at s → 1 ≤ length s → at ≤ slice_index_or s 0 0 → slice_index_or s 0 0 < length items
ahead_within items at s within left some order =
    let len = length-drop at items in
    let less = number_within at (slice_index_or s 0 0) (drop at items) (drop 1 s) (ahead items at s left some order) in
    omega (arith, len, less, within)

-- up to its line all is text
pub ahead_text : (d : Dialect) (items : List Stored) (from at start : ℕ) (s : List ℕ) → at ≤ length items → hashes_from at (drop at items) ≡ from_number at s → 1 ≤ length s → at ≤ slice_index_or s 0 0 → at ≤ start → start ≤ slice_index_or s 0 0
    → ((none : Stored) → at < start → (get_or items start none).gap.began ≡ true) → from ≤ at
    → with_text from at (sections_from d at (lines_of (drop at items))) ≡ with_text from start (sections_from d start (lines_of (drop start items)))
ahead_text d items from at start s within left some order low high begins less =
    let inside : slice_index_or s 0 0 < length items = ahead_within items at s within left some order in
    let below : start < length items = omega (arith, high, inside) in
    let far : at + (start - at) ≤ slice_index_or s 0 0 = omega (arith, low, high) in
    text_up_to d items from at start low (omega (arith, below)) (none_before at (start - at) (slice_index_or s 0 0) (drop at items) (drop 1 s) (ahead items at s left some order) far) (edge below (cases_le at start low)) less
  where
    edge : start < length items → (at ≡ start) ⊎ (at < start) → (at ≡ start) ⊎ BeginsLine (drop start items)
    edge below (inl same) = inl same
    edge below (inr later) = inr (begins_there items start (kept_by [] false no_entry) below (begins (kept_by [] false no_entry) later))

pub ahead_numbers : (items : List Stored) (at end : ℕ) (s : List ℕ) → hashes_from at (drop at items) ≡ from_number at s → 1 ≤ length s → at ≤ slice_index_or s 0 0 → at ≤ end → hashes_from end (drop end items) ≡ from_number end s
ahead_numbers items at end s left some order far =
    numbers_behind items at end (slice_index_or s 0 0 ∷ drop 1 s) far (ahead items at s left some order) ∙ sym (ap (from_number end) (headed s some))

-- where no number is left all is text
pub text_left : (d : Dialect) (items : List Stored) (from at count : ℕ) (s : List ℕ) → hashes_from at (drop at items) ≡ from_number at s → length s < 1 → count ≡ length items → at ≤ length items → from ≤ at
    → with_text from at (sections_from d at (lines_of (drop at items))) ≡ with_text from count []
text_left d items from at count [] left below count_is within order =
    let past : length items ≤ count = omega (arith, count_is) in
    text_up_to d items from at count (omega (arith, within, count_is)) (omega (arith, count_is)) (none_at_all at (count - at) (drop at items) left) (inr (begins_end items count past)) order
    ∙ ap (λ ts. with_text from count (sections_from d count (lines_of ts))) (drop_of_length-le items past)
text_left d items from at count (h ∷ s) left below count_is within order = absurd (omega (arith, below))

pub pushed_last : (from count : ℕ) (done new : List Section) → from < count → new ≡ done ++ Text from count ∷ [] → new ≡ done ++ with_text from count []
pushed_last from count done new less is = is ∙ ap (λ xs. done ++ xs) (sym (with_some from count [] less))

pub none_last : (from count : ℕ) (done : List Section) → from ≤ count → count ≤ from → done ≡ done ++ with_text from count []
none_last from count done order past = sym (append-nil done) ∙ pushed_none from count done [] order past

-- one more item
hashes_push : (at : ℕ) (ts : List Stored) (t : Stored) → hashes_from at (ts ++ t ∷ []) ≡ hashes_from at ts ++ remark_of (at + length ts) (is_likely_hash t)
hashes_push at [] t = let same : at + 0 ≡ at = omega arith in ap (λ k. remark_of k (is_likely_hash t)) (sym same)
hashes_push at (x ∷ ts) t =
    let far : (at + 1) + length ts ≡ at + suc (length ts) = omega arith in
    let rest : hashes_from (at + 1) (ts ++ t ∷ []) ≡ hashes_from (at + 1) ts ++ remark_of (at + suc (length ts)) (is_likely_hash t) =
    hashes_push (at + 1) ts t ∙ ap (λ k. hashes_from (at + 1) ts ++ remark_of k (is_likely_hash t)) far in
    elim (cases_Bool (is_likely_hash x)) [ inl y ↦ rw y (ap (λ (s : List ℕ). at ∷ s) rest) | inr n ↦ rw n rest ]

pub hash_pushed : (ts all : List Stored) (t : Stored) (hashes more : List ℕ) (id : ℕ) (is : Bool) → all ≡ ts ++ t ∷ [] → hashes ≡ hashes_from 0 ts → id ≡ length ts → is ≡ is_likely_hash t → more ≡ hashes ++ remark_of id is
    → more ≡ hashes_from 0 all
hash_pushed ts all t hashes more id is all_is before id_is kind_is more_is =
    let none : 0 + length ts ≡ length ts = omega arith in
    more_is
    ∙ (ap (λ (s : List ℕ). s ++ remark_of id is) before
    ∙ (ap (λ k. hashes_from 0 ts ++ remark_of k is) (id_is ∙ sym none)
    ∙ (ap (λ b. hashes_from 0 ts ++ remark_of (0 + length ts) b) kind_is ∙ (sym (hashes_push 0 ts t) ∙ ap (hashes_from 0) (sym all_is)))))
