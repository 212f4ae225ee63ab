-- `==` of two frames.
use Rattle.std.proofs.Common.{rules, ◌≡◌, ℕ, Decides, ◌∙◌, Bool, true, false, ◌&&◌, refl, ap, eqb-true, eq-eqb}
use denote.Enum.Bare.{same_true, true_same}
use Rattle.line_tokens.specs.declared.role.Role.{Role}
use Rattle.line_tokens.specs.contracts.role.Role.{the_type}
use Rattle.frame_store.specs.declared.frames.Frame.{Frame}
use Rattle.frame_store.specs.contracts.frames.FramePartialEq.TheImpl.{eq-value}

both : (x y : Bool) → (x && y) ≡ true → (x ≡ true) × (y ≡ true)
both true y e = (refl, e)
both false y e = absurd (false-true e)
  where
    false-true : false ≡ true → ⊥
    false-true e = cc

and_true : (x y : Bool) → x ≡ true → y ≡ true → (x && y) ≡ true
and_true true y e f = f
and_true false y e f = e

abbrev frame : ℕ → ℕ → ℕ → ℕ → Role → Frame
frame indent base comma opening opener = record { indent = indent; base = base; comma = comma; opening = opening; opener = opener }

from_parts : (a b : Frame) → a.indent ≡ b.indent → a.base ≡ b.base → a.comma ≡ b.comma → a.opening ≡ b.opening → a.opener ≡ b.opener → a ≡ b
from_parts a b i s c o r =
    ap (λ (x : ℕ). frame x a.base a.comma a.opening a.opener) i ∙ ap (λ (x : ℕ). frame b.indent x a.comma a.opening a.opener) s ∙ ap (λ (x : ℕ). frame b.indent b.base x a.opening a.opener) c
    ∙ ap (λ (x : ℕ). frame b.indent b.base b.comma x a.opener) o ∙ ap (λ (x : Role). frame b.indent b.base b.comma b.opening x) r

-- `==` of two frames says whether they are one
pub frames_decide : (a b : Frame) → Decides (eq-value.it a b) (a ≡ b)
frames_decide a b = (
  λ same.
      let p = both _ _ same in
      let q = both _ _ p.1 in
      let r = both _ _ q.1 in
      let s = both _ _ r.1 in
      from_parts a b (eqb-true _ _ p.0) (eqb-true _ _ q.0) (eqb-true _ _ r.0) (eqb-true _ _ s.0) (same_true the_type (search rules) _ _ s.1),
  λ same. and_true _ _ (eq-eqb _ _ (ap (λ (f : Frame). f.indent) same)) (and_true _ _ (eq-eqb _ _ (ap (λ (f : Frame). f.base) same)) (and_true _ _ (eq-eqb _ _ (ap (λ (f : Frame). f.comma) same))
      (and_true _ _ (eq-eqb _ _ (ap (λ (f : Frame). f.opening) same)) (true_same the_type _ _ (ap (λ (f : Frame). f.opener) same))))),
)
