-- Tokens between comments, put one behind another.
use Rattle.std.proofs.Common.{◌≡◌, ◌∙◌, ℕ, zero, suc, ◌+◌, ◌-◌, ◌<◌, ◌≤◌, nat_le, Bool, true, false, List, [], ◌∷◌, ◌++◌, length, take, drop, get_or}
use Rattle.std.proofs.Common.{Option, refl, sym, ap, arith, subst, length-append}
use Rattle.std.specs.Prelude.{if◌then◌else◌, slice_get}
use Rattle.std.specs.List.{range_with_len}
use Rattle.std.proofs.lemmas.List.{append-nil, append_assoc, drop-drop, length-drop, length-take-le}
use Rattle.std.proofs.lemmas.List.FromFn.{length-range_with_len}
use Rattle.token_classes.specs.declared.class.TokenClass.{TokenClass}
use Rattle.token_classes.specs.declared.class.TokenClass.TheVariants.{Nothing}
use Rattle.token_classes.specs.Classes.{is_comment}
use Rattle.statement_lines.specs.Tokens.{place_of, AscendFrom}
use Rattle.unwrapped_lines.proofs.Passed.{drop_none}
use Rattle.unwrapped_lines.specs.Viewed.{code_places_from, numbers_from, numbers_of}
use Rattle.unwrapped_lines.specs.Inside.{code_classes, code_partners, comment_places_from, AreCodeFirst}

-- ## A stretch without comments

pub stretch_classes : (n : ℕ) (cs : List TokenClass) → AreCodeFirst n cs → code_classes cs ≡ take n cs ++ code_classes (drop n cs)
stretch_classes zero cs h = refl
stretch_classes (suc n) [] h = refl
stretch_classes (suc n) (c ∷ cs) h = rw (h.0, code_classes) (ap (λ (x : List TokenClass). c ∷ x) (stretch_classes n cs h.1))

no_partners : (cs : List TokenClass) → [] ≡ code_partners cs []
no_partners [] = refl
no_partners (c ∷ cs) = refl

pub stretch_partners : (n : ℕ) (cs : List TokenClass) (ps : List (Option ℕ)) → n ≤ length cs → AreCodeFirst n cs → code_partners cs ps ≡ take n ps ++ code_partners (drop n cs) (drop n ps)
stretch_partners zero cs ps few h = refl
stretch_partners (suc n) [] ps few h = absurd (omega (arith, few))
stretch_partners (suc n) (c ∷ cs) [] few h = no_partners (drop n cs)
stretch_partners (suc n) (c ∷ cs) (p ∷ ps) few h = rw (h.0, code_partners) (ap (λ (x : List (Option ℕ)). p ∷ x) (stretch_partners n cs ps (omega (arith, few)) h.1))

pub stretch_numbers : (n m : ℕ) (cs : List TokenClass) → n ≤ length cs → AreCodeFirst n cs → numbers_from m cs ≡ range_with_len m n ++ numbers_from (m + n) (drop n cs)
stretch_numbers zero m cs few h = let e : m ≡ m + 0 = omega arith in ap (λ k. numbers_from k cs) e
stretch_numbers (suc n) m [] few h = absurd (omega (arith, few))
stretch_numbers (suc n) m (c ∷ cs) few h =
    let e : m + 1 + n ≡ m + suc n = omega arith in
    rw (h.0, numbers_from) (ap (λ (x : List ℕ). m ∷ x) (stretch_numbers n (m + 1) cs (omega (arith, few)) h.1 ∙ ap (λ k. range_with_len (m + 1) n ++ numbers_from k (drop n cs)) e))

-- ## The places of comments

ascend_less : (m k : ℕ) (cs : List ℕ) → m ≤ k → AscendFrom k cs → AscendFrom m cs
ascend_less m k [] low h = tt
ascend_less m k (c ∷ cs) low h = ((omega (arith, low, h.0)), h.1)

pub comments_ascend : (k : ℕ) (cs : List TokenClass) → AscendFrom k (comment_places_from k cs)
comments_ascend k [] = tt
comments_ascend k (c ∷ cs) =
    elim (is_comment c) as (λ x. AscendFrom k (if x then k ∷ comment_places_from (k + 1) cs else comment_places_from (k + 1) cs)) [
      | true ↦ (omega arith, comments_ascend (k + 1) cs)
      | false ↦ ascend_less k (k + 1) (comment_places_from (k + 1) cs) (omega arith) (comments_ascend (k + 1) cs)
    ]

-- so many tokens stand before the first comment, which stands at this place and before the others
pub record AreSplit (n : ℕ) (cs : List TokenClass) (p : ℕ) (ps : List ℕ) : Type 0 where
  pub within : n < length cs
  pub code : AreCodeFirst n cs
  pub comment : is_comment (get_or cs n Nothing) ≡ true
  pub places : comment_places_from (p + 1) (drop (n + 1) cs) ≡ ps

pub first_comment : (k : ℕ) (cs : List TokenClass) (p : ℕ) (ps : List ℕ) → comment_places_from k cs ≡ p ∷ ps → (k ≤ p) × AreSplit (p - k) cs p ps
first_comment k [] p ps e = cc
first_comment k (c ∷ cs) p ps e =
    elim (is_comment c) as (λ x. is_comment c ≡ x → (if x then k ∷ comment_places_from (k + 1) cs else comment_places_from (k + 1) cs) ≡ p ∷ ps → (k ≤ p) × AreSplit (p - k) (c ∷ cs) p ps) [
      | true ↦ λ is f.
          let here : k ≡ p = ap (λ (xs : List ℕ). get_or xs 0 0) f in
          let none : 0 ≡ p - k = omega (arith, here) in
          let P : ℕ → Type 0 = λ q. comment_places_from (q + 1) cs ≡ ps in
          let Q : ℕ → Type 0 = λ n. AreSplit n (c ∷ cs) p ps in
          let all : AreSplit 0 (c ∷ cs) p ps = record { within = omega arith; code = tt; comment = is; places = subst P here (ap (drop 1) f) } in
          ((omega (arith, here)), subst Q none all)
      | false ↦ λ is f.
          let h = first_comment (k + 1) cs p ps f in
          let low : k + 1 ≤ p = h.0 in
          let split : AreSplit (p - (k + 1)) cs p ps = h.1 in
          let n = p - (k + 1) in
          let more : suc n ≡ p - k = omega (arith, low) in
          let next : suc (n + 1) ≡ suc n + 1 = omega arith in
          let Q : ℕ → Type 0 = λ n. AreSplit n (c ∷ cs) p ps in
          let all : AreSplit (suc n) (c ∷ cs) p ps = record { within = omega (arith, split.within); code = (is, split.code); comment = split.comment; places = ap (λ k. comment_places_from (p + 1) (drop k (c ∷ cs))) (sym next) ∙ split.places } in
          ((omega (arith, low)), subst Q more all)
    ] refl e

pub comment_classes : (n : ℕ) (cs : List TokenClass) → n < length cs → is_comment (get_or cs n Nothing) ≡ true → code_classes (drop n cs) ≡ code_classes (drop (n + 1) cs)
comment_classes zero [] lt is = absurd (omega (arith, lt))
comment_classes zero (c ∷ cs) lt is = rw (is, code_classes) refl
comment_classes (suc n) [] lt is = absurd (omega (arith, lt))
comment_classes (suc n) (c ∷ cs) lt is = let e : suc (n + 1) ≡ suc n + 1 = omega arith in comment_classes n cs (omega (arith, lt)) is ∙ ap (λ k. code_classes (drop k (c ∷ cs))) e

pub comment_partners : (n : ℕ) (cs : List TokenClass) (qs : List (Option ℕ)) → n < length cs → is_comment (get_or cs n Nothing) ≡ true → code_partners (drop n cs) (drop n qs) ≡ code_partners (drop (n + 1) cs) (drop (n + 1) qs)
comment_partners zero [] qs lt is = absurd (omega (arith, lt))
comment_partners zero (c ∷ cs) [] lt is = no_partners cs
comment_partners zero (c ∷ cs) (q ∷ qs) lt is = rw (is, code_partners) refl
comment_partners (suc n) [] qs lt is = absurd (omega (arith, lt))
comment_partners (suc n) (c ∷ cs) [] lt is =
    let e : suc (n + 1) ≡ suc n + 1 = omega arith in
    let none : List (Option ℕ) = [] in
    sym (no_partners (drop n cs)) ∙ no_partners (drop (n + 1) cs) ∙ ap (λ k. code_partners (drop k (c ∷ cs)) (drop k none)) e
comment_partners (suc n) (c ∷ cs) (q ∷ qs) lt is =
    let e : suc (n + 1) ≡ suc n + 1 = omega arith in
    comment_partners n cs qs (omega (arith, lt)) is ∙ ap (λ k. code_partners (drop k (c ∷ cs)) (drop k (q ∷ qs))) e

pub comment_numbers : (n m : ℕ) (cs : List TokenClass) → n < length cs → is_comment (get_or cs n Nothing) ≡ true → numbers_from m (drop n cs) ≡ m ∷ numbers_from m (drop (n + 1) cs)
comment_numbers zero m [] lt is = absurd (omega (arith, lt))
comment_numbers zero m (c ∷ cs) lt is = rw (is, numbers_from) refl
comment_numbers (suc n) m [] lt is = absurd (omega (arith, lt))
comment_numbers (suc n) m (c ∷ cs) lt is = let e : suc (n + 1) ≡ suc n + 1 = omega arith in comment_numbers n m cs (omega (arith, lt)) is ∙ ap (λ k. m ∷ numbers_from m (drop k (c ∷ cs))) e

-- behind the last comment
pub no_comment : (k : ℕ) (cs : List TokenClass) → comment_places_from k cs ≡ [] → AreCodeFirst (length cs) cs
no_comment k [] e = tt
no_comment k (c ∷ cs) e =
    elim (is_comment c) as (λ x. is_comment c ≡ x → (if x then k ∷ comment_places_from (k + 1) cs else comment_places_from (k + 1) cs) ≡ [] → AreCodeFirst (suc (length cs)) (c ∷ cs)) [
      | true ↦ λ is f. cc
      | false ↦ λ is f. (is, no_comment (k + 1) cs f)
    ] refl e

-- ## Stretch by stretch

-- these are the tokens before a place, put one behind another, and the numbers of the places
pub record AreJoined (classes : List TokenClass) (partners : List (Option ℕ)) (from : ℕ) (kept : List TokenClass) (ps : List (Option ℕ)) (ns : List ℕ) : Type 0 where
  pub classes-told : kept ++ code_classes (drop from classes) ≡ code_classes classes
  pub partners-told : ps ++ code_partners (drop from classes) (drop from partners) ≡ code_partners classes partners
  pub numbers-told : ns ++ numbers_from (length kept) (drop from classes) ≡ numbers_of classes
  pub count : length ns ≡ from
  pub fewer : length kept ≤ from

-- up to the next comment
pub join_more : (classes : List TokenClass) (partners : List (Option ℕ)) (from p : ℕ) (rest : List ℕ) (kept kept2 : List TokenClass) (ps ps2 : List (Option ℕ)) (ns ns2 ns3 : List ℕ)
    → AreJoined classes partners from kept ps ns → from ≤ p → AreSplit (p - from) (drop from classes) p rest → kept2 ≡ kept ++ take (p - from) (drop from classes)
    → ps2 ≡ ps ++ take (p - from) (drop from partners) → ns2 ≡ ns ++ range_with_len (length kept) (p - from) → ns3 ≡ ns2 ++ length kept2 ∷ []
    → AreJoined classes partners (p + 1) kept2 ps2 ns3
join_more classes partners from p rest kept kept2 ps ps2 ns ns2 ns3 h low split e1 e2 e3 e4 =
    let n = p - from in
    let cs = drop from classes in
    let qs = drop from partners in
    let next : from + (n + 1) ≡ p + 1 = omega (arith, low) in
    let few : n ≤ length cs = omega (arith, split.within) in
    let classes_behind : drop (n + 1) cs ≡ drop (p + 1) classes = drop-drop (n + 1) from classes ∙ ap (λ k. drop k classes) next in
    let partners_behind : drop (n + 1) qs ≡ drop (p + 1) partners = drop-drop (n + 1) from partners ∙ ap (λ k. drop k partners) next in
    let left = code_classes (drop (p + 1) classes) in
    let left2 = code_partners (drop (p + 1) classes) (drop (p + 1) partners) in
    let taken : length (take n cs) ≡ n = length-take-le n cs few in
    let more = length-append kept (take n cs) in
    let many : length kept2 ≡ length kept + n = omega (arith, ap length e1, more, taken) in
    let numbered = numbers_from (length kept2) (drop (p + 1) classes) in
    let range = range_with_len (length kept) n in
    let one : code_classes cs ≡ take n cs ++ left =
    stretch_classes n cs split.code ∙ ap (λ x. take n cs ++ x) (comment_classes n cs split.within split.comment ∙ ap code_classes classes_behind) in
    let two : code_partners cs qs ≡ take n qs ++ left2 =
    stretch_partners n cs qs few split.code
    ∙ ap (λ x. take n qs ++ x) (comment_partners n cs qs split.within split.comment ∙ ap (λ x. code_partners x (drop (n + 1) qs)) classes_behind ∙ ap (code_partners (drop (p + 1) classes)) partners_behind) in
    let three : numbers_from (length kept) cs ≡ range ++ length kept2 ∷ numbered =
    stretch_numbers n (length kept) cs few split.code
    ∙ ap (λ m. range ++ numbers_from m (drop n cs)) (sym many)
    ∙ ap (λ x. range ++ x) (comment_numbers n (length kept2) cs split.within split.comment ∙ ap (λ x. length kept2 ∷ numbers_from (length kept2) x) classes_behind) in
    let each = length-range_with_len (length kept) n in
    let all = length-append ns range in
    let last = length-append ns2 (length kept2 ∷ []) in
    record {
      classes-told = ap (λ x. x ++ left) e1 ∙ append_assoc kept (take n cs) left ∙ sym (ap (λ x. kept ++ x) one) ∙ h.classes-told;
      partners-told = ap (λ x. x ++ left2) e2 ∙ append_assoc ps (take n qs) left2 ∙ sym (ap (λ x. ps ++ x) two) ∙ h.partners-told;
      numbers-told =
          ap (λ x. x ++ numbered) e4 ∙ append_assoc ns2 (length kept2 ∷ []) numbered ∙ ap (λ x. x ++ length kept2 ∷ numbered) e3 ∙ append_assoc ns range (length kept2 ∷ numbered) ∙ sym (ap (λ x. ns ++ x) three) ∙ h.numbers-told;
      count = omega (arith, ap length e4, last, ap length e3, all, each, h.count, low);
      fewer = omega (arith, many, h.fewer, low);
    }

-- behind the last comment
record AreLast (classes : List TokenClass) (partners : List (Option ℕ)) (from : ℕ) : Type 0 where
  classes-left : code_classes (drop from classes) ≡ take (length classes - from) (drop from classes)
  partners-left : code_partners (drop from classes) (drop from partners) ≡ take (length classes - from) (drop from partners)
  numbers-left : (m : ℕ) → numbers_from m (drop from classes) ≡ range_with_len m (length classes - from)

last : (classes : List TokenClass) (partners : List (Option ℕ)) (from : ℕ) → comment_places_from from (drop from classes) ≡ [] → AreLast classes partners from
last classes partners from none =
    let n = length classes - from in
    let cs = drop from classes in
    let count : length cs ≡ n = length-drop from classes in
    let P : ℕ → Type 0 = λ k. AreCodeFirst k cs in
    let code : AreCodeFirst n cs = subst P count (no_comment from cs none) in
    let nothing : drop n cs ≡ [] = drop_none cs n (omega (arith, count)) in
    record {
      classes-left = stretch_classes n cs code ∙ ap (λ x. take n cs ++ code_classes x) nothing ∙ append-nil (take n cs);
      partners-left = stretch_partners n cs (drop from partners) (omega (arith, count)) code ∙ ap (λ x. take n (drop from partners) ++ code_partners x (drop n (drop from partners))) nothing ∙ append-nil (take n (drop from partners));
      numbers-left = λ m. stretch_numbers n m cs (omega (arith, count)) code ∙ ap (λ x. range_with_len m n ++ numbers_from (m + n) x) nothing ∙ append-nil (range_with_len m n);
    }

pub classes_end : (classes : List TokenClass) (partners : List (Option ℕ)) (from : ℕ) (kept : List TokenClass) (ps : List (Option ℕ)) (ns : List ℕ) → AreJoined classes partners from kept ps ns
    → comment_places_from from (drop from classes) ≡ [] → kept ++ take (length classes - from) (drop from classes) ≡ code_classes classes
classes_end classes partners from kept ps ns h none = sym (ap (λ x. kept ++ x) (last classes partners from none).classes-left) ∙ h.classes-told

pub partners_end : (classes : List TokenClass) (partners : List (Option ℕ)) (from : ℕ) (kept : List TokenClass) (ps : List (Option ℕ)) (ns : List ℕ) → AreJoined classes partners from kept ps ns
    → comment_places_from from (drop from classes) ≡ [] → ps ++ take (length classes - from) (drop from partners) ≡ code_partners classes partners
partners_end classes partners from kept ps ns h none = sym (ap (λ x. ps ++ x) (last classes partners from none).partners-left) ∙ h.partners-told

pub numbers_end : (classes : List TokenClass) (partners : List (Option ℕ)) (from : ℕ) (kept : List TokenClass) (ps : List (Option ℕ)) (ns : List ℕ) → AreJoined classes partners from kept ps ns
    → comment_places_from from (drop from classes) ≡ [] → ns ++ range_with_len (length kept) (length classes - from) ≡ numbers_of classes
numbers_end classes partners from kept ps ns h none = sym (ap (λ x. ns ++ x) ((last classes partners from none).numbers-left (length kept))) ∙ h.numbers-told

-- ## One token

-- how many items stand before the token with a number
abbrev pub items_before : List TokenClass → ℕ → ℕ
items_before [] i = 0
items_before (c ∷ cs) zero = if is_comment c then suc (items_before cs zero) else 0
items_before (c ∷ cs) (suc i) = if is_comment c then suc (items_before cs (suc i)) else suc (items_before cs i)

pub places_at : (s : ℕ) (cs : List TokenClass) (i : ℕ) → i < length (code_classes cs) → get_or (code_places_from s cs) i 0 ≡ s + items_before cs i
places_at s [] i h = absurd (omega (arith, h))
places_at s (c ∷ cs) zero h =
    elim (is_comment c) as (λ x. 0 < length (if x then code_classes cs else c ∷ code_classes cs) → get_or (if x then code_places_from (s + 1) cs else s ∷ code_places_from (s + 1) cs) 0 0 ≡ s + (if x then suc (items_before cs 0) else 0)) [
      | true ↦ λ lt. let e : s + 1 + items_before cs 0 ≡ s + suc (items_before cs 0) = omega arith in places_at (s + 1) cs 0 lt ∙ e
      | false ↦ λ lt. omega arith
    ] h
places_at s (c ∷ cs) (suc i) h =
    elim (is_comment c) as (λ x. suc i < length (if x then code_classes cs else c ∷ code_classes cs) → get_or (if x then code_places_from (s + 1) cs else s ∷ code_places_from (s + 1) cs) (suc i) 0 ≡ s + (if x then suc (items_before cs (suc i)) else suc (items_before cs i))) [
      | true ↦ λ lt. let e : s + 1 + items_before cs (suc i) ≡ s + suc (items_before cs (suc i)) = omega arith in places_at (s + 1) cs (suc i) lt ∙ e
      | false ↦ λ lt. let e : s + 1 + items_before cs i ≡ s + suc (items_before cs i) = omega arith in places_at (s + 1) cs i (omega (arith, lt)) ∙ e
    ] h

pub items_within : (cs : List TokenClass) (i : ℕ) → i < length (code_classes cs) → items_before cs i < length cs
items_within [] i h = absurd (omega (arith, h))
items_within (c ∷ cs) zero h =
    elim (is_comment c) as (λ x. 0 < length (if x then code_classes cs else c ∷ code_classes cs) → (if x then suc (items_before cs 0) else 0) < suc (length cs)) [
      | true ↦ λ lt. let q = items_within cs 0 lt in omega (arith, q)
      | false ↦ λ lt. omega arith
    ] h
items_within (c ∷ cs) (suc i) h =
    elim (is_comment c) as (λ x. suc i < length (if x then code_classes cs else c ∷ code_classes cs) → (if x then suc (items_before cs (suc i)) else suc (items_before cs i)) < suc (length cs)) [
      | true ↦ λ lt. let q = items_within cs (suc i) lt in omega (arith, q)
      | false ↦ λ lt. let q = items_within cs i (omega (arith, lt)) in omega (arith, q)
    ] h

pub class_at : (cs : List TokenClass) (i : ℕ) (d : TokenClass) → i < length (code_classes cs) → get_or (code_classes cs) i d ≡ get_or cs (items_before cs i) d
class_at [] i d h = absurd (omega (arith, h))
class_at (c ∷ cs) zero d h =
    elim (is_comment c) as (λ x. 0 < length (if x then code_classes cs else c ∷ code_classes cs) → get_or (if x then code_classes cs else c ∷ code_classes cs) 0 d ≡ get_or (c ∷ cs) (if x then suc (items_before cs 0) else 0) d) [
      | true ↦ λ lt. class_at cs 0 d lt
      | false ↦ λ lt. refl
    ] h
class_at (c ∷ cs) (suc i) d h =
    elim (is_comment c) as (λ x. suc i < length (if x then code_classes cs else c ∷ code_classes cs) → get_or (if x then code_classes cs else c ∷ code_classes cs) (suc i) d ≡ get_or (c ∷ cs) (if x then suc (items_before cs (suc i)) else suc (items_before cs i)) d) [
      | true ↦ λ lt. class_at cs (suc i) d lt
      | false ↦ λ lt. class_at cs i d (omega (arith, lt))
    ] h

pub partner_at : (cs : List TokenClass) (ps : List (Option ℕ)) (i : ℕ) → i < length (code_classes cs) → slice_get (code_partners cs ps) i ≡ slice_get ps (items_before cs i)
partner_at [] ps i h = absurd (omega (arith, h))
partner_at (c ∷ cs) [] i h = refl
partner_at (c ∷ cs) (p ∷ ps) zero h =
    elim (is_comment c) as (λ x. 0 < length (if x then code_classes cs else c ∷ code_classes cs) → slice_get (if x then code_partners cs ps else p ∷ code_partners cs ps) 0 ≡ slice_get (p ∷ ps) (if x then suc (items_before cs 0) else 0)) [
      | true ↦ λ lt. partner_at cs ps 0 lt
      | false ↦ λ lt. refl
    ] h
partner_at (c ∷ cs) (p ∷ ps) (suc i) h =
    elim (is_comment c) as (λ x. suc i < length (if x then code_classes cs else c ∷ code_classes cs) → slice_get (if x then code_partners cs ps else p ∷ code_partners cs ps) (suc i) ≡ slice_get (p ∷ ps) (if x then suc (items_before cs (suc i)) else suc (items_before cs i))) [
      | true ↦ λ lt. partner_at cs ps (suc i) lt
      | false ↦ λ lt. partner_at cs ps i (omega (arith, lt))
    ] h

place_first : (k m : ℕ) (ps : List ℕ) → k < m → AscendFrom m ps → place_of ps k ≡ k
place_first k m [] lt h = refl
place_first k m (p ∷ ps) lt h =
    let no : nat_le p k ≡ false = (let up : k < p = omega (arith, lt, h.0) in grind (arith, up)) in
    ap (λ (b : Bool). if b then place_of ps (k + 1) else k) no

behind_comment : (s n : ℕ) (ps : List ℕ) (x : ℕ) → s ≤ n → place_of ps (n + 1) ≡ x → place_of (s ∷ ps) n ≡ x
behind_comment s n ps x low e =
    let yes : nat_le s n ≡ true = grind (arith, low) in
    ap (λ (b : Bool). if b then place_of ps (n + 1) else n) yes ∙ e

pub mark_at : (s : ℕ) (cs : List TokenClass) (i : ℕ) → i < length (code_classes cs) → place_of (comment_places_from s cs) (s + i) ≡ s + items_before cs i
mark_at s [] i h = absurd (omega (arith, h))
mark_at s (c ∷ cs) zero h =
    elim (is_comment c) as (λ x. 0 < length (if x then code_classes cs else c ∷ code_classes cs) → place_of (if x then s ∷ comment_places_from (s + 1) cs else comment_places_from (s + 1) cs) (s + 0) ≡ s + (if x then suc (items_before cs 0) else 0)) [
      | true ↦ λ lt.
          let up : s + 0 + 1 ≡ s + 1 + 0 = omega arith in
          let e : s + 1 + items_before cs 0 ≡ s + suc (items_before cs 0) = omega arith in
          behind_comment s (s + 0) (comment_places_from (s + 1) cs) (s + suc (items_before cs 0)) (omega arith) (ap (place_of (comment_places_from (s + 1) cs)) up ∙ mark_at (s + 1) cs 0 lt ∙ e)
      | false ↦ λ lt. place_first (s + 0) (s + 1) (comment_places_from (s + 1) cs) (omega arith) (comments_ascend (s + 1) cs)
    ] h
mark_at s (c ∷ cs) (suc i) h =
    elim (is_comment c) as (λ x. suc i < length (if x then code_classes cs else c ∷ code_classes cs) → place_of (if x then s ∷ comment_places_from (s + 1) cs else comment_places_from (s + 1) cs) (s + suc i) ≡ s + (if x then suc (items_before cs (suc i)) else suc (items_before cs i))) [
      | true ↦ λ lt.
          let up : s + suc i + 1 ≡ s + 1 + suc i = omega arith in
          let e : s + 1 + items_before cs (suc i) ≡ s + suc (items_before cs (suc i)) = omega arith in
          behind_comment s (s + suc i) (comment_places_from (s + 1) cs) (s + suc (items_before cs (suc i))) (omega arith) (ap (place_of (comment_places_from (s + 1) cs)) up ∙ mark_at (s + 1) cs (suc i) lt ∙ e)
      | false ↦ λ lt.
          let up : s + suc i ≡ s + 1 + i = omega arith in
          let e : s + 1 + items_before cs i ≡ s + suc (items_before cs i) = omega arith in
          ap (place_of (comment_places_from (s + 1) cs)) up ∙ mark_at (s + 1) cs i (omega (arith, lt)) ∙ e
    ] h

-- ## Counts

pub both_counts : (s : ℕ) (cs : List TokenClass) → length (code_classes cs) + length (comment_places_from s cs) ≡ length cs
both_counts s [] = refl
both_counts s (c ∷ cs) =
    elim (is_comment c) as (λ x. length (if x then code_classes cs else c ∷ code_classes cs) + length (if x then s ∷ comment_places_from (s + 1) cs else comment_places_from (s + 1) cs) ≡ suc (length cs)) [
      | true ↦ let q = both_counts (s + 1) cs in omega (arith, q)
      | false ↦ let q = both_counts (s + 1) cs in omega (arith, q)
    ]

pub code_count : (s : ℕ) (cs : List TokenClass) → length (code_classes cs) ≡ length (code_places_from s cs)
code_count s [] = refl
code_count s (c ∷ cs) =
    elim (is_comment c) as (λ x. length (if x then code_classes cs else c ∷ code_classes cs) ≡ length (if x then code_places_from (s + 1) cs else s ∷ code_places_from (s + 1) cs)) [
      | true ↦ code_count (s + 1) cs
      | false ↦ ap suc (code_count (s + 1) cs)
    ]

-- where there is no comment
pub all_classes : (cs : List TokenClass) → AreCodeFirst (length cs) cs → code_classes cs ≡ cs
all_classes [] h = refl
all_classes (c ∷ cs) h = rw (h.0, code_classes) (ap (λ (x : List TokenClass). c ∷ x) (all_classes cs h.1))

pub all_before : (cs : List TokenClass) (i : ℕ) → AreCodeFirst (length cs) cs → i < length cs → items_before cs i ≡ i
all_before [] i h lt = absurd (omega (arith, lt))
all_before (c ∷ cs) zero h lt = rw (h.0, items_before) refl
all_before (c ∷ cs) (suc i) h lt = rw (h.0, items_before) (ap suc (all_before cs i h.1 (omega (arith, lt))))
