use Rattle.std.proofs.Common.{sym}
use Rattle.std.proofs.lemmas.Option.{get_or_from_slice_get}
use Rattle.token_arena.specs.Entries.{told_by}
use Rattle.item_classes.specs.Items.{no_item}
use Rattle.view_tokens.proofs.made.item.Goals as goal

pub returns : goal.returns
returns c = sym (get_or_from_slice_get c.args.arena.now.tokens c.args.id (told_by c.get.result) no_item c.get.ensures)
