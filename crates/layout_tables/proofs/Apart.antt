-- Blanks keep apart what may not touch.
use Rattle.std.proofs.Common.{◌<◌, ◌==◌, ◌&&◌, not, ℕ, zero, suc, Bool, true, false, inl, inr, refl, arith}
use Rattle.std.specs.Prelude.{◌⊎◌, IsTrue, if◌then◌else◌}
use Rattle.std.proofs.lemmas.Bool.{ne_eqb}
use Rattle.layout_tables.specs.KeepsApart.{KeepsApart}
use Rattle.layout_tables.specs.Spaces.{spaces_by_table}

-- so many blanks by the table, where the gap was empty or not and the two may touch or not
blanks : (spaces : ℕ) (empty touch : Bool) → (0 < (if (spaces == 0) && not empty && not touch then 1 else spaces)) ⊎ (IsTrue empty ⊎ IsTrue touch)
blanks spaces true touch = inr (inl refl)
blanks spaces false true = inr (inr refl)
blanks zero false false = inl (omega arith)
blanks (suc spaces) false false = inl (rw (ne_eqb (suc spaces) 0 (λ e. absurd (omega (arith, e)))) (omega arith))

pub apart : KeepsApart
apart style left right = blanks (spaces_by_table style left right) right.gap.empty right.touch
