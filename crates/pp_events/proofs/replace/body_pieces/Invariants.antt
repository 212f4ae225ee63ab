use Rattle.std.proofs.Common.{◌≡◌, ◌++◌, map, drop}
use Rattle.std.specs.Prelude.{flat_map}
use Rattle.pp_events.specs.View.{toks_shown, piece_shown, part_shown}
use Rattle.pp_model.specs.Replace.{pieces_of}
use Rattle.pp_events.proofs.replace.body_pieces.Given as goal

abbrev pub invariant-loop-part : goal.invariant-loop-part
invariant-loop-part l = let f = pieces_of l.line (map toks_shown l.written) (map toks_shown l.full) in map piece_shown l.out.items ++ flat_map f (map part_shown (drop l.part-index l.body)) ≡ flat_map f (map part_shown l.body)
