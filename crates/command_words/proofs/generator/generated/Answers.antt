use Rattle.std.proofs.Common.{◌∙◌}
use Rattle.command_words.proofs.Joined.{no_pieces, piece_added}
use Rattle.command_words.proofs.generator.generated.Goals as goal

pub loop-index-init : goal.loop-index-init
loop-index-init c = c.new-text.ensures.items ∙ no_pieces c.args.seed

pub loop-index-preserved : goal.loop-index-preserved
loop-index-preserved c = rw c.in_ok-add_piece.ensures (rw c.loop-index.invariant (piece_added c.args.seed c.loop-index.index))
