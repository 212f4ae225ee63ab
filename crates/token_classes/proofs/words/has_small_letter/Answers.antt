use Rattle.std.proofs.Common.{◌≡◌, ◌∙◌, ◌||◌, ℕ, Bool, true, false, List, take, drop, sym, ap, take-append-drop}
use Rattle.std.proofs.lemmas.List.Folds.{list_any-append}
use Rattle.std.specs.Char.{is_ascii_lowercase}
use Rattle.std.specs.List.{list_any}
use Rattle.token_classes.proofs.words.has_small_letter.Goals as goal

in_parts : (s first rest : List ℕ) → first ≡ take 8 s → rest ≡ drop 8 s → list_any is_ascii_lowercase s ≡ (list_any is_ascii_lowercase first || list_any is_ascii_lowercase rest)
in_parts s first rest e f =
    let any = list_any is_ascii_lowercase in
    ap any (sym (take-append-drop 8 s)) ∙ (list_any-append is_ascii_lowercase (take 8 s) (drop 8 s) ∙ (ap (λ (xs : List ℕ). any xs || any (drop 8 s)) (sym e) ∙ ap (λ (xs : List ℕ). any first || any xs) (sym f)))

in_first : (a b all r : Bool) → all ≡ (a || b) → r ≡ a → r ≡ true → r ≡ all
in_first true b all r whole is some = is ∙ sym whole
in_first false b all r whole is some = cc

in_rest : (a b all f r : Bool) → all ≡ (a || b) → f ≡ a → f ≡ false → r ≡ b → r ≡ all
in_rest true b all f r whole is none at = cc
in_rest false b all f r whole is none at = at ∙ sym whole

pub returns-then-has_small_in_eight : goal.returns-then-has_small_in_eight
returns-then-has_small_in_eight c =
    let cases = c.in-Some.ensures.cases in
    in_first _ _ _ _ (in_parts c.args.spelled.now c.in-Some.eight.now c.in-Some.rest.now cases.0 cases.1) c.has_small_in_eight.ensures c.if-has_small_in_eight.true

pub returns-else-has_small_in_eight : goal.returns-else-has_small_in_eight
returns-else-has_small_in_eight c =
    let cases = c.in-Some.ensures.cases in
    in_rest _ _ _ _ _ (in_parts c.args.spelled.now c.in-Some.eight.now c.in-Some.rest.now cases.0 cases.1) c.has_small_in_eight.ensures c.if-has_small_in_eight.false c.has_small_in_few.ensures
