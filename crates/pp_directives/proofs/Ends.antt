-- The end of a key, and the front of a table.
use Rattle.std.proofs.Common.{◌≡◌, ℕ, suc, false, List, [], ◌∷◌, length, map, refl, sym, rules, tests}
use Rattle.std.specs.Prelude.{nat_eq}
use Rattle.pp_model.specs.Token.{list_eq}
use Rattle.pp_model.specs.Preprocess.{key_of}
use Rattle.pp_events.specs.View.{tok_shown}
use Rattle.pp_events.specs.declared.token.Tok.{Tok as TokValue}

none_left : (n : ℕ) → nat_eq (suc n) 0 ≡ false
none_left n = search (rules, tests)

pub key_end : (ts : List TokValue) → list_eq [] (key_of (map tok_shown ts)) ≡ nat_eq (length ts) 0
key_end [] = refl
key_end (t ∷ ts) = sym (none_left (length ts))
