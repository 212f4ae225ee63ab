-- What lines are laid out by fits their view.
use Rattle.std.specs.Prelude.{◌≡◌, ◌<◌, ◌≤◌, ◌+◌, List, Option, length, map}
use Rattle.style_table.specs.Range.{IsInRange}
use Rattle.item_classes.specs.Viewed.{AreWithin, classes_of}
use Rattle.replacements.specs.declared.slot.Slot.{Slot}
use Rattle.line_gaps.specs.Fixed.{fixed_of_token}
use Rattle.run_layout.specs.Broken.{of_line}
use Rattle.line_gaps.specs.OpenGaps.{IsOpen}
use Rattle.run_layout.specs.Tells.{StandForItems}
use Rattle.run_layout.specs.declared.broken.OpenLine.{OpenLine}
use Rattle.line_gaps.specs.declared.view_layout.ViewLayout.{ViewLayout}

-- Style and budget are in range, and classes and tokens are those of the items that the view has of the text.
pub record IsReady (layout : ViewLayout) : Type 0 where
  pub range : IsInRange layout.style.now
  pub budget : layout.budget ≤ 16000000
  pub within : AreWithin layout.arena.now layout.view.now
  pub classes : layout.classes.now ≡ classes_of layout.arena.now layout.view.now
  pub tell : StandForItems layout.arena.now layout.view.now layout.tokens.now

-- A line of the view has an open gap behind this plan, and its tokens and what is decided before them are told.
pub record IsOpenLine (layout : ViewLayout) (plan : List (Option Slot)) (open_line : OpenLine) : Type 0 where
  pub some : open_line.line.now.first ≤ open_line.line.now.last
  pub places : open_line.line.now.last < length layout.view.now
  pub small : open_line.line.now.last < 4294967295
  pub whole : length plan ≡ length layout.arena.now.tokens + 1
  pub opens : IsOpen plan layout.view.now open_line.line.now
  pub tokens_are : open_line.tokens.now ≡ of_line open_line.line.now layout.tokens.now
  pub fixed_are : open_line.fixed.now ≡ map (fixed_of_token layout.arena.now plan) open_line.tokens.now
