-- What contracts say where nothing is done.
use Rattle.std.specs.Prelude.{IsErr, OnOk, Result}
use Rattle.part_walk.proofs.Failed.{no_value}

pub not_done : {T E : Type 0} (r : Result T E) (P : Type 0) → IsErr r → OnOk r P
not_done r P err = no_value r (λ _. P) err
