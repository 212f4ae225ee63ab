-- The parts of a view, found one after another.
use Rattle.std.proofs.Common.{◌≡◌, ◌∙◌, ℕ, zero, suc, ◌-◌, ◌<◌, ◌≤◌, Bool, Option, None, List, [], ◌∷◌, length, refl}
use Rattle.std.proofs.Common.{sym, ap, arith}
use Rattle.std.specs.Prelude.{if◌then◌else◌}
use Rattle.std.proofs.lemmas.Bool.{lt-ltb, le-ltb}
use Rattle.style_table.specs.declared.style.Style.{Style}
use Rattle.token_arena.specs.Gaps.{Contents}
use Rattle.part_walk.specs.Places.{Place}
use Rattle.view_parts.specs.Parts.{PartStop, ends_from, laid_items, part_ends, stop_from}
use Rattle.replacements.specs.declared.slot.Slot.{Slot}
use Rattle.run_layout.specs.declared.report.Tally.{Tally}
use Rattle.format_core.specs.RunsTold.{AreItemsTold, ArePartsTold}
use Rattle.format_core.specs.PartByPart.{GoesOnParts, GoesOnFrom}
use Rattle.format_core.proofs.RunsTold.{parts_begin, part_done, parts_end}
use Rattle.format_core.proofs.SoundPlan.{items_keep}

pub from_begin : (style : Style) (budget : ℕ) (arena : Contents) (run : ℕ) (plan : List (Option Slot)) (ids : List ℕ) (before : Tally) → GoesOnFrom style budget arena run plan ids before plan None 0 before
from_begin style budget arena run plan ids before = record {
  fuel = length ids;
  enough = omega arith;
  stays = λ place slot is. is;
  on = parts_begin style budget arena run plan ids (part_ends arena ids) (part_ends arena ids) before refl;
}

-- behind the part that begins there
pub from_part : (style : Style) (budget : ℕ) (arena : Contents) (run : ℕ) (plan : List (Option Slot)) (ids : List ℕ) (before now next : Tally) (here after : List (Option Slot)) (begins : Option Place) (first : ℕ) (stop : PartStop)
    → first < length ids → first < stop.end → stop ≡ stop_from arena ids begins first → GoesOnFrom style budget arena run plan ids before here begins first now
    → AreItemsTold style budget arena run here (laid_items begins ids first stop.end) after now next → GoesOnFrom style budget arena run plan ids before after stop.inside stop.end next
from_part style budget arena run plan ids before now next here after begins first stop here_is some is from laid = by_fuel from.fuel from.enough from.on
  where
    by_fuel : (fuel : ℕ) → length ids - first ≤ fuel → GoesOnParts style budget arena run plan ids (part_ends arena ids) before here begins first (ends_from fuel arena ids begins first) now
        → GoesOnFrom style budget arena run plan ids before after stop.inside stop.end next
    by_fuel zero enough on = absurd (omega (arith, enough, here_is))
    by_fuel (suc fuel) enough on =
        let found = stop_from arena ids begins first in
        let more : ends_from (suc fuel) arena ids begins first ≡ stop ∷ ends_from fuel arena ids stop.inside stop.end =
        ap (λ (b : Bool). if b then found ∷ ends_from fuel arena ids found.inside found.end else []) (lt-ltb first (length ids) here_is)
        ∙ ap (λ (s : PartStop). s ∷ ends_from fuel arena ids s.inside s.end) (sym is) in
        record {
          fuel = fuel;
          enough = omega (arith, enough, some);
          stays = λ place slot is. items_keep style budget arena run here (laid_items begins ids first stop.end) after laid.done place slot laid.items (from.stays place slot is);
          on = part_done style budget arena run plan ids (part_ends arena ids) before now next here after begins first stop (ends_from (suc fuel) arena ids begins first) (ends_from fuel arena ids stop.inside stop.end) more on laid;
        }

-- behind the last one
pub from_end : (style : Style) (budget : ℕ) (arena : Contents) (run : ℕ) (plan : List (Option Slot)) (ids : List ℕ) (before now : Tally) (here : List (Option Slot)) (begins : Option Place) (first : ℕ) → length ids ≤ first
    → GoesOnFrom style budget arena run plan ids before here begins first now → ArePartsTold style budget arena run plan ids None 0 (part_ends arena ids) here before now
from_end style budget arena run plan ids before now here begins first done from =
    parts_end style budget arena run plan ids (part_ends arena ids) (ends_from from.fuel arena ids begins first) begins first before now here (none from.fuel) from.on
  where
    none : (fuel : ℕ) → ends_from fuel arena ids begins first ≡ []
    none zero = refl
    none (suc fuel) =
        let found = stop_from arena ids begins first in
        ap (λ (b : Bool). if b then found ∷ ends_from fuel arena ids found.inside found.end else []) (le-ltb first (length ids) done)
