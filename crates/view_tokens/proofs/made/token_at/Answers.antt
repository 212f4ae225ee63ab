use Rattle.std.proofs.Common.{arith}
use Rattle.view_tokens.proofs.Items.{item_within}
use Rattle.view_tokens.proofs.Pushed.{no_mark}
use Rattle.view_tokens.proofs.Rows.{made_token}
use Rattle.view_tokens.proofs.Starts.{first_item}
use Rattle.view_tokens.proofs.made.token_at.Goals as goal

pub token_of-requires-clause-within : goal.token_of-requires-clause-within
token_of-requires-clause-within c =
    item_within c.args.arena.now c.args.view.now c.args.place c.row_start-start.result.id c.requires.told.within (omega (arith, c.requires.place, c.requires.told.places)) (first_item c.args.view.now c.args.place c.row_start-start.result c.row_start-start.ensures)

pub returns : goal.returns
returns c = λ d.
    made_token c.args.arena.now c.args.view.now c.args.marks.now c.args.place c.row_start-start.result.id c.row_start-start.result.apart c.token_of.result d c.requires.place
    (first_item c.args.view.now c.args.place c.row_start-start.result c.row_start-start.ensures) c.row_start-start.ensures.apart (c.token_of.ensures no_mark)
