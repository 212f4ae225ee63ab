-- The tokens of a view, made one after another.
use Rattle.std.proofs.Common.{◌≡◌, ◌∙◌, ℕ, zero, suc, ◌+◌, ◌-◌, ◌<◌, Bool, true, false, ◌&&◌, ◌||◌, not}
use Rattle.std.proofs.Common.{nat_lt, Some, List, [], ◌∷◌, ◌++◌, length, drop, get_or, set, append_assoc}
use Rattle.std.proofs.Common.{length-append, refl, sym, ap, subst, arith, eq-eqb}
use Rattle.std.specs.Prelude.{slice_get}
use Rattle.std.proofs.lemmas.Option.{get_or_from_slice_get}
use Rattle.std.proofs.Math.Seq.{drop-cons, get_or-append_seam, set-append_seam}
use Rattle.token_arena.specs.Gaps.{Contents}
use Rattle.line_tokens.specs.declared.LineTok.{LineTok}
use Rattle.token_roles.specs.declared.mark.Mark.{Mark}
use Rattle.token_roles.specs.Classes.{is_hash}
use Rattle.token_roles.specs.Held.{is_held, is_inner, TellsHeld}
use Rattle.view_tokens.specs.Inside.{told}
use Rattle.token_roles.specs.Left.{no_token, outside}
use Rattle.view_tokens.specs.Tokens.{tok_of, toks_from, IsPushed}
use Rattle.item_classes.specs.Items.{stands_apart}

and_not : (b : Bool) → (b && not true) ≡ false
and_not true = refl
and_not false = refl

-- no directive stands between two items that follow one another
pub follows : (ids : List ℕ) (k id : ℕ) → get_or ids k 0 ≡ id → get_or ids (k + 1) 0 ≡ id + 1 → stands_apart ids (k + 1) ≡ false
follows ids k id at next =
    let less : k + 1 - 1 ≡ k = omega arith in
    let same : get_or ids (k + 1) 0 ≡ get_or ids (k + 1 - 1) 0 + 1 = next ∙ ap (λ x. x + 1) (sym at ∙ ap (λ i. get_or ids i 0) (sym less)) in
    ap (λ (b : Bool). nat_lt 0 (k + 1) && not b) (eq-eqb (get_or ids (k + 1) 0) (get_or ids (k + 1 - 1) 0 + 1) same) ∙ and_not (nat_lt 0 (k + 1))

-- one more token is made
pushed : (arena : Contents) (ids : List ℕ) (marks : List Mark) (toks : List LineTok) (place k id : ℕ) (d : Mark) (apart held : Bool) → k < length marks → get_or ids place 0 ≡ id → apart ≡ stands_apart ids place
    → held ≡ is_held (drop k marks)
    → (toks ++ tok_of arena id apart (get_or marks k d) held ∷ []) ++ toks_from arena ids (place + 1) (drop (k + 1) marks) ≡ toks ++ toks_from arena ids place (drop k marks)
pushed arena ids marks toks place k id d apart held within at is holds =
    let one : suc k ≡ k + 1 = omega arith in
    let mark : Mark = get_or marks k d in
    let split : drop k marks ≡ mark ∷ drop (k + 1) marks = drop-cons marks k d within ∙ ap (λ j. mark ∷ drop j marks) one in
    let later : List LineTok = toks_from arena ids (place + 1) (drop (k + 1) marks) in
    let step : tok_of arena id apart mark held ∷ later ≡ toks_from arena ids place (drop k marks) =
    ap (λ (b : Bool). tok_of arena id b mark held ∷ later) is
    ∙ (ap (λ (b : Bool). tok_of arena id (stands_apart ids place) mark b ∷ later) (holds ∙ ap (λ (ms : List Mark). is_held ms) split)
    ∙ (ap (λ i. tok_of arena i (stands_apart ids place) mark (is_held (mark ∷ drop (k + 1) marks)) ∷ later) (sym at) ∙ ap (λ (ms : List Mark). toks_from arena ids place ms) (sym split))) in
    append_assoc toks (tok_of arena id apart mark held ∷ []) later ∙ ap (λ (xs : List LineTok). toks ++ xs) step

longer : (toks after : List LineTok) (tok : LineTok) → after ≡ toks ++ tok ∷ [] → length after ≡ length toks + 1
longer toks after tok made = ap (λ (xs : List LineTok). length xs) made ∙ length-append toks (tok ∷ [])

abbrev pub no_mark : Mark
no_mark = record { seen = no_token; trailing_list = false; power = 0; around = outside }

-- the token that is made of an item
abbrev made_of : Contents → ℕ → Bool → List Mark → List LineTok → LineTok
made_of arena id apart marks toks = tok_of arena id apart (get_or marks (length toks) no_mark) (is_held (drop (length toks) marks))

-- the tokens so far with one more
pub pushed_on : (arena : Contents) (ids : List ℕ) (marks : List Mark) (toks after : List LineTok) (from id : ℕ) (apart : Bool) → length toks < length marks → get_or ids (from + length toks) 0 ≡ id → apart ≡ stands_apart ids (from + length toks)
    → IsPushed arena id apart marks toks after
    → after ++ toks_from arena ids (from + length after) (drop (length after) marks) ≡ toks ++ toks_from arena ids (from + length toks) (drop (length toks) marks)
pushed_on arena ids marks toks after from id apart within at is push =
    let k : ℕ = length toks in
    let made : after ≡ toks ++ made_of arena id apart marks toks ∷ [] = push no_mark in
    let more : length after ≡ k + 1 = longer toks after (made_of arena id apart marks toks) made in
    let next : from + (k + 1) ≡ from + k + 1 = omega arith in
    ap (λ n. after ++ toks_from arena ids (from + n) (drop n marks)) more
    ∙ (ap (λ n. after ++ toks_from arena ids n (drop (k + 1) marks)) next
    ∙ (ap (λ (xs : List LineTok). xs ++ toks_from arena ids (from + k + 1) (drop (k + 1) marks)) made
    ∙ pushed arena ids marks toks (from + k) k id no_mark apart (is_held (drop k marks)) within at is refl))

pub counted_on : (arena : Contents) (id : ℕ) (apart : Bool) (marks : List Mark) (toks after : List LineTok) → IsPushed arena id apart marks toks after → length after ≡ length toks + 1
counted_on arena id apart marks toks after push = longer toks after (made_of arena id apart marks toks) (push no_mark)

-- it tells whether it is held
pub told_on : (arena : Contents) (id : ℕ) (apart : Bool) (marks : List Mark) (toks after : List LineTok) → IsPushed arena id apart marks toks after → TellsHeld marks after
told_on arena id apart marks toks after push d some =
    let k : ℕ = length toks in
    let tok : LineTok = made_of arena id apart marks toks in
    let made : after ≡ toks ++ tok ∷ [] = push no_mark in
    let last : length after - 1 ≡ k = omega (arith, longer toks after tok made) in
    let here : get_or after (length after - 1) d ≡ tok = ap (λ n. get_or after n d) last ∙ (ap (λ (xs : List LineTok). get_or xs k d) made ∙ get_or-append_seam toks tok [] d) in
    ap (λ (t : LineTok). t.held) here ∙ ap (λ n. is_held (drop n marks)) (sym last)

or_false : (b : Bool) → b ≡ (b || false)
or_false true = refl
or_false false = refl

-- the class alone tells it of a token that is no inner comment
held_by_class : (marks : List Mark) (k : ℕ) (mark : Mark) → slice_get marks k ≡ Some mark → is_inner mark.seen.role ≡ false → is_hash mark.seen.class ≡ is_held (drop k marks)
held_by_class [] k mark is inner = cc
held_by_class (m ∷ marks) zero mark is inner =
    let same : m ≡ mark = cc in
    subst (λ (x : Mark). is_hash mark.seen.class ≡ is_held (x ∷ marks)) (sym same) (rw inner (or_false (is_hash mark.seen.class)))
held_by_class (m ∷ marks) (suc k) mark is inner = held_by_class marks k mark is inner

-- a token that is no inner comment is the next one
pub plain_pushed : (arena : Contents) (id : ℕ) (apart : Bool) (marks : List Mark) (toks after : List LineTok) (mark : Mark) → slice_get marks (length toks) ≡ Some mark
    → is_inner mark.seen.role ≡ false → after ≡ toks ++ tok_of arena id apart mark (is_hash mark.seen.class) ∷ [] → IsPushed arena id apart marks toks after
plain_pushed arena id apart marks toks after mark is inner made d =
    made
    ∙ (ap (λ (held : Bool). toks ++ tok_of arena id apart mark held ∷ []) (held_by_class marks (length toks) mark is inner)
    ∙ ap (λ (m : Mark). toks ++ tok_of arena id apart m (is_held (drop (length toks) marks)) ∷ []) (sym (get_or_from_slice_get marks (length toks) mark d is)))

-- the last of the tokens is told what its line tells of its place
pub told_last : (toks after : List LineTok) (bare was new : LineTok) (mark : Mark) (held : Bool) (place : ℕ) → place ≡ length toks → after ≡ toks ++ bare ∷ [] → was ≡ get_or after place was → new ≡ told was mark held
    → set after place new ≡ toks ++ told bare mark held ∷ []
told_last toks after bare was new mark held place at made is tells =
    let here : was ≡ bare = is ∙ (ap (λ (xs : List LineTok). get_or xs place was) made ∙ (ap (λ (n : ℕ). get_or (toks ++ bare ∷ []) n was) at ∙ get_or-append_seam toks bare [] was)) in
    ap (λ (xs : List LineTok). set xs place new) made
    ∙ (ap (λ (n : ℕ). set (toks ++ bare ∷ []) n new) at
    ∙ (set-append_seam toks bare [] new
    ∙ ap (λ (t : LineTok). toks ++ t ∷ []) (tells ∙ ap (λ (t : LineTok). told t mark held) here)))
