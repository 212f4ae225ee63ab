use Rattle.std.proofs.Common.{◌∙◌, sym}
use Rattle.token_arena.proofs.Remarks.{remarks_kept}
use Rattle.token_arena.proofs.arena.TokenArena.comments.Goals as goal

pub returns : goal.returns
returns c = rw (← c.self.view_is) (c.self.invariant.comments_are ∙ sym (remarks_kept c.self.inside.text.now c.self.inside.entries.now))
