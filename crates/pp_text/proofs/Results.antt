-- What a result that isn't an error is equal to.
use Rattle.std.proofs.Common.{◌≡◌, ◌∙◌, Result, Ok, Err, IfOk}

-- the same from another value
pub ok_from : {T E A : Type 0} (r : Result T E) (a b : A) (f : T → A) → a ≡ b → IfOk r (λ x. b ≡ f x) → IfOk r (λ x. a ≡ f x)
ok_from (Ok x) a b f e h = e ∙ h
ok_from (Err x) a b f e h = h

-- the same to another value
pub ok_to : {T E A : Type 0} (r : Result T E) (f : T → A) (a b : A) → a ≡ b → IfOk r (λ x. f x ≡ a) → IfOk r (λ x. f x ≡ b)
ok_to (Ok x) f a b e h = h ∙ e
ok_to (Err x) f a b e h = h
