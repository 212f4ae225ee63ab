-- What stands to the left of a token behind one that is no `=` and doesn't go with `asm`.
use Rattle.std.proofs.Common.{◌≡◌, ◌∙◌, ◌||◌, ◌&&◌, Bool, true, false, refl, sym, ap}
use Rattle.token_roles.specs.declared.left.Left.{Left}
use Rattle.token_roles.specs.declared.left.Seen.{Seen}
use Rattle.token_roles.specs.Classes.{is_equals, is_asm, is_asm_tail}
use Rattle.token_roles.specs.Left.{passed}

or_none : (x none : Bool) → none ≡ false → x ≡ (x || none)
or_none true none is = refl
or_none false none is = sym is

neither : (asm chain tail : Bool) → asm ≡ false → tail ≡ false → false ≡ (asm || (chain && tail))
neither asm true tail none last = rw (none, last) refl
neither asm false tail none last = rw none refl

pub plain_step : (left : Left) (seen : Seen) → is_equals seen.class ≡ false → is_asm seen.class ≡ false → is_asm_tail seen.class ≡ false
    → record (passed left seen left.around left.splits) { equals = left.equals; asm = false } ≡ passed left seen left.around left.splits
plain_step left seen equals asm tail =
    ap (λ (e : Bool). record (passed left seen left.around left.splits) { equals = e; asm = false }) (or_none left.equals (is_equals seen.class) equals)
    ∙ ap (λ (a : Bool). record (passed left seen left.around left.splits) { asm = a }) (neither (is_asm seen.class) left.asm (is_asm_tail seen.class) asm tail)
