use Rattle.std.proofs.Common.{length, sym}
use Rattle.view_parts.proofs.NoteChains.{below_no, below_yes, ends_length}
use Rattle.view_parts.proofs.notes.KnownEnds.has_place.Goals as goal

pub returns-clause-yes : goal.returns-clause-yes
returns-clause-yes c =
    below_yes c.args.id.0 c.self.inside.count (length c.args.self.now) (ends_length c.self.inside.notes.items c.self.inside.newest.items c.self.inside.count c.args.self.now (sym c.self.view_is))

pub returns-clause-no : goal.returns-clause-no
returns-clause-no c =
    below_no c.args.id.0 c.self.inside.count (length c.args.self.now) (ends_length c.self.inside.notes.items c.self.inside.newest.items c.self.inside.count c.args.self.now (sym c.self.view_is))
