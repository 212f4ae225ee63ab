use Rattle.std.proofs.Common.{◌≡◌, ℕ, ◌≤◌, ◌-◌}
use Rattle.token_classes.specs.declared.class.TokenClass.TheVariants.{Nothing}
use Rattle.statement_lines.specs.Forms.{tag_before}
use Rattle.statement_lines.proofs.scans.tag_before.Given as goal

abbrev pub invariant-loop-place : goal.invariant-loop-place
invariant-loop-place l = (n : ℕ) × ((l.place - l.first ≤ n) × (tag_before n l.tokens l.first l.place l.found ≡ tag_before (l.brace - l.first) l.tokens l.first l.brace Nothing))

abbrev pub decreases-loop-place : goal.decreases-loop-place
decreases-loop-place l = l.place - l.first
