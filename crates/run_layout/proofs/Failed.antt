-- What contracts say where nothing is returned.
use Rattle.std.proofs.Common.{◌≡◌, true, false}
use Rattle.std.specs.Prelude.{IfOk, IsErr, OnOk, Result, Ok, Err}

unlike : false ≡ true → ⊥
unlike e = cc

-- nothing is said of what isn't returned
pub no_value : {T E : Type 0} (r : Result T E) (P : T → Type 0) → IsErr r → IfOk r P
no_value (Ok x) P err = absurd (unlike err)
no_value (Err e) P err = tt

-- nor of what isn't done
pub not_done : {T E : Type 0} (r : Result T E) (P : Type 0) → IsErr r → OnOk r P
not_done r P err = no_value r (λ _. P) err
