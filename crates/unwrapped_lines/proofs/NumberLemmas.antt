-- How tokens that are no comments are numbered.
use Rattle.std.proofs.Common.{◌≡◌, ℕ, suc, ◌+◌, List, [], ◌∷◌, length, refl, ap}
use Rattle.std.specs.Prelude.{if◌then◌else◌}
use Rattle.token_classes.specs.declared.class.TokenClass.{TokenClass}
use Rattle.token_classes.specs.Classes.{is_comment}
use Rattle.unwrapped_lines.specs.Viewed.{numbers_from}

pub numbers_count : (n : ℕ) (cs : List TokenClass) → length (numbers_from n cs) ≡ length cs
numbers_count n [] = refl
numbers_count n (c ∷ cs) = ap suc (numbers_count (if is_comment c then n else n + 1) cs)
