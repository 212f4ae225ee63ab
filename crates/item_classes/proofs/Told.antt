-- For callers: tokens that tell the items of a view tell items of the text.
use Rattle.std.proofs.Common.{◌≡◌, ◌<◌, ℕ, zero, suc, Some, All, List, [], ◌∷◌, length, get_or, refl, arith}
use Rattle.std.specs.Prelude.{slice_get}
use Rattle.line_tokens.specs.declared.LineTok.{LineTok}
use Rattle.token_arena.specs.Gaps.{Contents}
use Rattle.item_classes.specs.Viewed.{AreWithin}
use Rattle.item_classes.specs.Items.{TellItems}

numbers_within : (arena : Contents) (ids : List ℕ) (toks : List LineTok) → ((k : ℕ) (tok : LineTok) → slice_get toks k ≡ Some tok → tok.id.0 ≡ get_or ids k 0) → length toks ≡ length ids → AreWithin arena ids → (k : ℕ) (d : LineTok) → k < length toks → (get_or toks k d).id.0 < length arena.tokens
numbers_within arena ids [] tell many within k d below = absurd (omega (arith, below))
numbers_within arena [] (tok ∷ toks) tell many within k d below = absurd (omega (arith, many))
numbers_within arena (id ∷ ids) (tok ∷ toks) tell many within zero d below =
    let here : tok.id.0 ≡ id = tell 0 tok refl in
    rw here (within 0 0 (omega arith))
numbers_within arena (id ∷ ids) (tok ∷ toks) tell many within (suc k) d below =
    numbers_within arena ids toks (λ j t is. tell (suc j) t is) (omega (arith, many)) (λ j e h. within (suc j) e (omega (arith, h))) k d (omega (arith, below))

-- each token's item is one of the text
pub told_within : (arena : Contents) (ids : List ℕ) (toks : List LineTok) → TellItems arena ids toks → length toks ≡ length ids → AreWithin arena ids → All (λ tok. tok.id.0 < length arena.tokens) toks
told_within arena ids toks tell many within = λ k d below. numbers_within arena ids toks (λ j t is. (tell j t is).id) many within k d below
