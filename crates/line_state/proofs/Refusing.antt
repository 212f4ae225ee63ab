-- A break that the tables refuse, whatever the frames are.
use Rattle.std.proofs.Common.{◌≡◌, ℕ, ◌<◌, ◌==◌, Bool, true, false, Option, arith, sym, subst}
use Rattle.std.proofs.lemmas.Bool.Decides.{nat_tests}
use Rattle.std.specs.Bool.{OnTrue}
use Rattle.line_tokens.specs.declared.LineTok.{LineTok}
use Rattle.line_tokens.specs.declared.Fixed.{Fixed}
use Rattle.style_table.specs.declared.style.Style.{Style}
use Rattle.line_state.specs.declared.spot.Spot.{Spot}
use Rattle.line_state.specs.Layout.{gap_before, allows_at, spot_of}
use Rattle.line_state.specs.Beside.{HasToStay}

inside : (i : ℕ) → 0 < i → (i == 0) ≡ false
inside i some = grind (arith, nat_tests)

-- what is refused at each spot inside a line is refused behind each layout
pub stays_behind : (style : Style) (left right : LineTok) (fixed : Option Fixed) (no : Bool) → OnTrue no ((spot : Spot) → allows_at style spot (record { left = left; right = right; fixed = fixed; first = false }) true ≡ false) → OnTrue no (HasToStay style left right fixed)
stays_behind style left right fixed false h = tt
stays_behind style left right fixed true h = λ layout some.
    subst (λ (b : Bool). allows_at style (spot_of layout (gap_before layout left right fixed)) (record { left = left; right = right; fixed = fixed; first = b }) true ≡ false) (sym (inside layout.index some)) (h (spot_of layout (gap_before layout left right fixed)))
