use Rattle.std.proofs.Common.{◌∙◌, ◌==◌, w8, ap, arith}
use Rattle.std.proofs.lemmas.Simd.{bitmask_splat, ones-mask_l}
use Rattle.std.specs.Prelude.{count_ones}
use Rattle.token_arena.specs.Stored.{is_line_feed}
use Rattle.token_arena.proofs.facts.line_feeds_in.Goals as goal

pub returns : goal.returns
returns c =
    ap count_ones (bitmask_splat w8 (λ a b. a == b) c.args.sixteen.now 16 10 c.told-sixteen (omega arith)) ∙ ones-mask_l is_line_feed c.args.sixteen.now
