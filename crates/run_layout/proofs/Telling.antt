-- Tokens that tell their items stand for them.
use Rattle.std.proofs.Common.{◌≡◌, ◌∙◌, ◌==◌, ◌&&◌, not, nat_lt, ℕ, zero, suc, ◌+◌, ◌-◌, ◌<◌, Bool, true, false, List}
use Rattle.std.proofs.Common.{length, get_or, refl, sym, ap, arith, subst}
use Rattle.std.specs.Prelude.{IsTrue, IsFalse}
use Rattle.std.proofs.lemmas.Bool.{eqb-true}
use Rattle.std.proofs.lemmas.Bool.Decides.{nat_tests}
use Rattle.std.proofs.lemmas.Option.{slice_get-get_or}
use Rattle.line_tokens.specs.declared.LineTok.{LineTok}
use Rattle.token_arena.specs.Gaps.{Contents}
use Rattle.item_classes.specs.Items.{TellItems, TellsItem, touches, stands_apart, item_at}
use Rattle.line_tokens.specs.Tokens.{no_token}
use Rattle.run_layout.specs.Tells.{MayTouch, StandsForItem, StandForItems}

one_less : (k : ℕ) → suc k - 1 ≡ k
one_less k = omega arith

-- an item that may stand directly behind the one before it
may_touch_there : (arena : Contents) (id : ℕ) (touch : Bool) → touch ≡ touches arena id → IsTrue touch → 0 < id → MayTouch arena.dialect (item_at arena (id - 1)) (item_at arena id)
may_touch_there arena zero touch is says some = absurd (omega (arith, some))
may_touch_there arena (suc before) touch is says some =
    subst (λ (b : ℕ). MayTouch arena.dialect (item_at arena b) (item_at arena (suc before))) (sym (one_less before)) (subst (λ (b : Bool). IsTrue b) is says)

-- no directive stands between two neighbours
neighbours : (some same : Bool) → some ≡ true → (some && not same) ≡ false → same ≡ true
neighbours true true is apart = refl
neighbours true false is apart = cc
neighbours false same is apart = cc

module _ (arena : Contents) (ids : List ℕ) (toks : List LineTok) (many : length toks ≡ length ids) (tell : TellItems arena ids toks) where
  told_at : (k : ℕ) → k < length ids → TellsItem arena ids k (get_or toks k no_token)
  told_at k within = tell k (get_or toks k no_token) (slice_get-get_or toks k no_token (omega (arith, many, within)))

  item_told : (k : ℕ) → k < length ids → StandsForItem arena (get_or ids k 0) (get_or toks k no_token)
  item_told k within =
      let told = told_at k within in
      record { number = told.id; kind = told.kind; gap = told.gap; touch = λ says some. may_touch_there arena (get_or ids k 0) (get_or toks k no_token).touch told.touch says some }

  next_told : (k : ℕ) → suc k < length ids → IsFalse (get_or toks (suc k) no_token).directive → get_or ids (suc k) 0 ≡ get_or ids k 0 + 1
  next_told k within none =
      let apart : stands_apart ids (suc k) ≡ false = sym (told_at (suc k) within).directive ∙ none in
      eqb-true (get_or ids (suc k) 0) (get_or ids (suc k - 1) 0 + 1) (neighbours (nat_lt 0 (suc k)) (get_or ids (suc k) 0 == get_or ids (suc k - 1) 0 + 1) (some_before k) apart)
      ∙ ap (λ i. get_or ids i 0 + 1) (one_less k)
    where
      some_before : (k : ℕ) → nat_lt 0 (suc k) ≡ true
      some_before k = grind (arith, nat_tests)

  pub stand_for_items : StandForItems arena ids toks
  stand_for_items = record { as_many = many; items = item_told; next = next_told }
