use Rattle.std.proofs.Common.{◌≡◌, ◌≤◌, ◌-◌, false, length, reverse}
use Rattle.token_classes.specs.Partners.{count_braces}
use Rattle.token_classes.proofs.KeptSteps.{AreBuilt}
use Rattle.token_classes.proofs.QuietRuns.{AreRead, ReadOutside}
use Rattle.token_classes.proofs.kept.read_brackets.Given as goal

abbrev pub invariant-loop-place : goal.invariant-loop-place
invariant-loop-place l = record {
  within : l.place ≤ length l.classes;
  read : ReadOutside l.classes l.place (reverse l.stack.items) l.partners;
  built : AreBuilt l.classes (reverse l.stack.items);
  count : l.braces ≡ count_braces (reverse l.stack.items);
  small : l.braces ≤ l.place;
}

abbrev pub decreases-loop-place : goal.decreases-loop-place
decreases-loop-place l = length l.classes - l.place

abbrev pub invariant-loop-place-2 : goal.invariant-loop-place-2
invariant-loop-place-2 l = record {
  within : l.place ≤ length l.classes;
  read : AreRead l.classes l.place (reverse l.stack.items) l.partners l.marks;
  built : AreBuilt l.classes (reverse l.stack.items);
  count : l.braces ≡ count_braces (reverse l.stack.items);
  small : l.braces ≤ l.place;
  none : l.any ≡ false → l.marks ≡ l.initial.marks;
}

abbrev pub decreases-loop-place-2 : goal.decreases-loop-place-2
decreases-loop-place-2 l = length l.classes - l.place
