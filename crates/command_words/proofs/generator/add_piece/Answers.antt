use Rattle.std.proofs.Common.{decimal}
use Rattle.command_words.specs.Generated.{piece, value_of}
use Rattle.command_words.proofs.generator.add_piece.Goals as goal

pub returns : goal.returns
unfolding piece
returns c =
    rw (c.format.ensures.text, c.format-2.ensures.text, c.value_of.ensures, c.parts_of.ensures (decimal c.args.index) (decimal (value_of c.args.seed c.args.index))) at c.add_parts.ensures
