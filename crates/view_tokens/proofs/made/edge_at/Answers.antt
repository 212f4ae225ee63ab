use Rattle.std.proofs.Common.{◌∙◌, ap}
use Rattle.token_arena.specs.Stored.{Stored}
use Rattle.touching.specs.Edges.{edge_of}
use Rattle.view_tokens.proofs.made.edge_at.Goals as goal

pub returns : goal.returns
returns c = c.edge_of.ensures ∙ ap (λ (token : Stored). edge_of token.kind token.raw) c.item-token.ensures
