-- The token in front.
use Rattle.std.proofs.Common.{◌≡◌, ◌<◌, List, [], ◌∷◌, length, map, drop, get_or, refl, ap, sym, arith}
use Rattle.pp_events.specs.View.{tok_shown}
use Rattle.pp_events.specs.declared.token.Tok.{Tok as TokValue}

pub front_first : (ts : List TokValue) (t : TokValue) → 0 < length ts → t ≡ get_or ts 0 t → map tok_shown ts ≡ tok_shown t ∷ map tok_shown (drop 1 ts)
front_first [] t n e = absurd (omega arith)
front_first (u ∷ us) t n e = ap (λ x. tok_shown x ∷ map tok_shown us) (sym e)

pub no_front : (ts : List TokValue) → length ts ≡ 0 → map tok_shown ts ≡ []
no_front [] n = refl
no_front (u ∷ us) n = absurd (omega arith)
