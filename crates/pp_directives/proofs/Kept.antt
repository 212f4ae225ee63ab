-- The table without a name.
use Rattle.std.proofs.Common.{◌≡◌, Bool, true, false, cond, List, [], ◌∷◌, map, refl, ap}
use Rattle.std.specs.Prelude.{not, filter, bytes_eq}
use Rattle.pp_model.specs.Token.{Name}
use Rattle.pp_model.specs.Preprocess.{without}
use Rattle.pp_events.specs.View.{macro_shown}
use Rattle.pp_events.specs.declared.token.Macro.{Macro as MacroValue}

-- the macro has another name
abbrev pub is_other : Name → MacroValue → Bool
is_other name m = not (bytes_eq m.name.items name)

by_case : {A B : Type 0} (f : A → B) (b : Bool) (x : A) (xs ys : List A) (zs : List B) → map f xs ≡ zs → map f (cond b (x ∷ xs) xs) ≡ cond b (f x ∷ zs) zs
by_case f true x xs ys zs e = ap (λ us. f x ∷ us) e
by_case f false x xs ys zs e = e

pub kept_shown : (name : Name) (ms : List MacroValue) → map macro_shown (filter (is_other name) ms) ≡ without name (map macro_shown ms)
kept_shown name [] = refl
kept_shown name (m ∷ ms) = by_case macro_shown (is_other name m) m (filter (is_other name) ms) [] (without name (map macro_shown ms)) (kept_shown name ms)
