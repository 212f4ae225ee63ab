-- Tokens that change nothing of what is known of brackets, and those before the first brace inside brackets.
use Rattle.std.proofs.Common.{◌≡◌, ◌∙◌, ◌==◌, ℕ, zero, suc, ◌<◌, ◌≤◌, ◌+◌, ◌-◌, Bool, true, false, ◌&&◌, ◌||◌, add-one, List, [], ◌∷◌, length, get_or, replicate, take, drop, Option, None, refl, arith, subst, sym, ap, inl, inr}
use Rattle.std.specs.List.{list_any}
use Rattle.std.proofs.lemmas.Bool.{cases_eq, ne_eqb}
use Rattle.std.proofs.lemmas.List.{get_or-drop, get_or-take, length-drop, length-take-le}
use Rattle.token_classes.specs.declared.pairing.Opener.{Opener}
use Rattle.token_classes.specs.declared.class.TokenClass.{TokenClass}
use Rattle.token_classes.specs.declared.class.TokenClass.TheVariants.{OpenRound, CloseRound, OpenSquare, CloseSquare, OpenBrace, CloseBrace, Nothing}
use Rattle.token_classes.specs.Classes.{is_open_brace, is_semicolon}
use Rattle.token_classes.specs.Partners.{Matching, StandBefore, TakesStep, bracket_step, matching_from, paired, partners_of}
use Rattle.token_classes.specs.Kept.{class_at, is_brace_in_brackets, is_round_or_square, is_topmost, waiting_at}
use Rattle.token_classes.specs.Lanes.{is_quiet}
use Rattle.token_classes.proofs.KeptSteps.{before_more, is_marked_before, pairs_next, waits_next}

quiet_step : (c : TokenClass) (i : ℕ) (m : Matching) → is_quiet c ≡ true → m ≡ bracket_step c i m
quiet_step OpenRound i m is = cc
quiet_step CloseRound i m is = cc
quiet_step OpenSquare i m is = cc
quiet_step CloseSquare i m is = cc
quiet_step OpenBrace i m is = cc
quiet_step CloseBrace i m is = cc
quiet_step _ i m is = refl

no_open_brace : (c : TokenClass) → is_quiet c ≡ true → is_open_brace c ≡ false
no_open_brace OpenBrace is = cc
no_open_brace _ is = refl

-- what is known of the brackets before a place
pub record AreRead (classes : List TokenClass) (i : ℕ) (stack : List Opener) (partners : List (Option ℕ)) (marks : List Bool) : Type 0 where
  pub waits : stack ≡ waiting_at classes i
  pub before : StandBefore i stack
  pub marked : (j : ℕ) → get_or marks j false ≡ is_marked_before classes i j
  pub pairs : (matching_from i (record { open_brackets = stack; partners = partners }) (drop i classes)).partners ≡ partners_of classes

-- where no brace inside brackets stands before it
pub record ReadOutside (classes : List TokenClass) (i : ℕ) (stack : List Opener) (partners : List (Option ℕ)) : Type 0 where
  pub waits : stack ≡ waiting_at classes i
  pub before : StandBefore i stack
  pub outside : (j : ℕ) → j < i → is_brace_in_brackets classes j ≡ false
  pub unmarked : (j : ℕ) → is_marked_before classes i j ≡ false
  pub pairs : (matching_from i (record { open_brackets = stack; partners = partners }) (drop i classes)).partners ≡ partners_of classes

both_false : (brace semicolon top : Bool) → (semicolon ≡ true → top ≡ true → brace ≡ false) → (rest : Bool) → (brace && rest) ≡ false → (brace && ((semicolon && top) || rest)) ≡ false
both_false false semicolon top apart rest e = refl
both_false true false top apart rest e = e
both_false true true false apart rest e = e
both_false true true true apart rest e = let no : true ≡ false = apart refl refl in cc

top_stands : (os : List Opener) (i j : ℕ) → StandBefore i os → is_topmost os j ≡ true → j < i
top_stands [] i j before is = cc
top_stands (o ∷ os) i j before is = elim (cases_eq o.place j) [
  | inl same ↦ (let below = before.0 in omega (arith, below, same))
  | inr other ↦ (let no : (o.place == j) ≡ false = ne_eqb o.place j other in cc)
]

still_unmarked : (classes : List TokenClass) (i : ℕ) (stack : List Opener) → stack ≡ waiting_at classes i → StandBefore i stack → ((j : ℕ) → j < i → is_brace_in_brackets classes j ≡ false)
    → (j : ℕ) → is_marked_before classes i j ≡ false → is_marked_before classes (i + 1) j ≡ false
still_unmarked classes i stack waits before outside j none =
    rw add-one (both_false (is_brace_in_brackets classes j) (is_semicolon (class_at classes i)) (is_topmost (waiting_at classes i) j)
    (λ semicolon top. outside j (top_stands stack i j before (ap (λ (os : List Opener). is_topmost os j) waits ∙ top))) _ none)

-- a token that is no brace inside brackets
pub outside_next : (classes : List TokenClass) (i : ℕ) (old new : List Opener) (taken : Option ℕ) (partners after : List (Option ℕ)) → i < length classes → TakesStep (class_at classes i) i old taken new
    → after ≡ paired partners taken i → StandBefore (i + 1) new → is_brace_in_brackets classes i ≡ false → ReadOutside classes i old partners → ReadOutside classes (i + 1) new after
outside_next classes i old new taken partners after within step made before none read = record {
  waits = waits_next classes i old new taken within read.waits step;
  before = before;
  outside = λ j below. elim (cases_eq j i) [
    | inl same ↦ rw same none
    | inr other ↦ read.outside j (omega (arith, below, other))
  ];
  unmarked = λ j. still_unmarked classes i old read.waits read.before read.outside j (read.unmarked j);
  pairs = pairs_next classes i old new taken partners after within step made read.pairs;
}

and_none : (b : Bool) → (b && false) ≡ false
and_none true = refl
and_none false = refl

-- before the first token
pub at_start : (classes : List TokenClass) (partners : List (Option ℕ)) → partners ≡ replicate (length classes) None → ReadOutside classes 0 [] partners
at_start classes partners alone = record {
  waits = refl;
  before = tt;
  outside = λ j below. absurd (omega (arith, below));
  unmarked = λ j. and_none (is_brace_in_brackets classes j);
  pairs = ap (λ (ps : List (Option ℕ)). (matching_from 0 (record { open_brackets = []; partners = ps }) (drop 0 classes)).partners) alone;
}

module _ (classes : List TokenClass) (stack : List Opener) (partners : List (Option ℕ)) where
  one_quiet : (i : ℕ) → i < length classes → is_quiet (class_at classes i) ≡ true → ReadOutside classes i stack partners → ReadOutside classes (i + 1) stack partners
  one_quiet i within quiet read =
      let step : TakesStep (class_at classes i) i stack None stack = λ ps. quiet_step (class_at classes i) i (record { open_brackets = stack; partners = ps }) quiet in
      let none : is_brace_in_brackets classes i ≡ false = ap (λ (b : Bool). b && list_any is_round_or_square (waiting_at classes i)) (no_open_brace (class_at classes i) quiet) in
      outside_next classes i stack stack None partners partners within step refl (before_more i (i + 1) stack (omega arith) read.before) none read

  -- some tokens that are no brackets
  pub quiet_on : (i n : ℕ) → i + n ≤ length classes → ((k : ℕ) → k < n → is_quiet (class_at classes (i + k)) ≡ true) → ReadOutside classes i stack partners → ReadOutside classes (i + n) stack partners
  quiet_on i zero within quiet read =
      let same : i ≡ i + 0 = omega arith in
      subst (λ (p : ℕ). ReadOutside classes p stack partners) same read
  quiet_on i (suc n) within quiet read =
      let before : ReadOutside classes (i + n) stack partners = quiet_on i n (omega (arith, within)) (λ k below. quiet k (omega (arith, below))) read in
      let more : i + n + 1 ≡ i + suc n = omega arith in
      subst (λ (p : ℕ). ReadOutside classes p stack partners) more (one_quiet (i + n) (omega (arith, within)) (quiet n (omega arith)) before)

-- the tokens that are passed at once, by their places in all
pub of_all : (classes : List TokenClass) (place n : ℕ) → place + n ≤ length classes → ((k : ℕ) → (d : TokenClass) → k < n → is_quiet (get_or (take (length classes - place) (drop place classes)) k d) ≡ true)
    → (k : ℕ) → k < n → is_quiet (class_at classes (place + k)) ≡ true
of_all classes place n within quiet k below =
    ap (λ (class : TokenClass). is_quiet class) (sym (get_or-take (length classes - place) (drop place classes) k Nothing (omega (arith, below, within)) ∙ get_or-drop place classes k Nothing)) ∙ quiet k Nothing below

-- they are no more than those that are left
pub of_rest : (classes : List TokenClass) (place n : ℕ) → place ≤ length classes → n ≤ length (take (length classes - place) (drop place classes)) → place + n ≤ length classes
of_rest classes place n within few =
    let rest : length (drop place classes) ≡ length classes - place = length-drop place classes in
    omega (arith, few, within, length-take-le (length classes - place) (drop place classes) (omega (arith, rest)))
