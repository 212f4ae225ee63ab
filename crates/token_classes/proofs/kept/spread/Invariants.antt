use Rattle.std.proofs.Common.{◌≡◌, ◌<◌, ◌≤◌, false, ℕ, get_or, nat_lt}
use Rattle.token_classes.specs.Kept.{is_inside, some_below}
use Rattle.token_classes.proofs.KeptPlaces.{reaches}
use Rattle.token_classes.proofs.kept.spread.Given as goal

abbrev pub invariant-loop-place : goal.invariant-loop-place
invariant-loop-place l = record {
  done : (k : ℕ) → k < l.place → get_or l.marks k false ≡ is_inside l.initial.marks l.partners k;
  left : (k : ℕ) → l.place ≤ k → get_or l.marks k false ≡ get_or l.initial.marks k false;
  reached : (k : ℕ) → nat_lt k l.end ≡ some_below l.place (reaches l.initial.marks l.partners k);
}
