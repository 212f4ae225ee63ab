-- What follows from what holds of a result.
use Rattle.std.proofs.Common.{Ok, Err, IfOk, IfErr, OnOk}
use Rattle.std.specs.declared.result.Result.{Result}

-- what holds on success, whatever is answered then
pub on_ok : {T E : Type 0} (P : Type 0) (r : Result T E) → IfOk r (λ _. P) → OnOk r P
on_ok P (Ok v) p = p
on_ok P (Err e) p = p

pub err_map : {T E : Type 0} (P Q : E → Type 0) (r : Result T E) → ((e : E) → P e → Q e) → IfErr r P → IfErr r Q
err_map P Q (Ok v) f p = p
err_map P Q (Err e) f p = f e p

pub ok_follows : {T E : Type 0} (P Q : T → Type 0) (r : Result T E) → ((v : T) → P v → Q v) → IfOk r P → IfOk r Q
ok_follows P Q (Ok v) f p = f v p
ok_follows P Q (Err e) f p = p

pub on_map : {T E : Type 0} (P Q : Type 0) (r : Result T E) → (P → Q) → OnOk r P → OnOk r Q
on_map P Q (Ok v) f p = f p
on_map P Q (Err e) f p = p
