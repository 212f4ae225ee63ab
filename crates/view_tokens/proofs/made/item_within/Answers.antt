use Rattle.std.proofs.Common.{sym, arith}
use Rattle.std.proofs.lemmas.Option.{get_or_from_slice_get}
use Rattle.c_chars.specs.Characters.{mark_len}
use Rattle.token_arena.specs.Entries.{told_by}
use Rattle.item_classes.specs.Items.{no_item}
use Rattle.view_tokens.proofs.Items.{no_longer}
use Rattle.view_tokens.proofs.made.item_within.Goals as goal

pub returns-clause-is : goal.returns-clause-is
returns-clause-is c = sym (get_or_from_slice_get c.args.arena.now.tokens c.args.id (told_by c.get.result) no_item c.get.ensures)

pub returns-clause-fits : goal.returns-clause-fits
returns-clause-fits c =
    let arena = c.args.arena.now in
    omega (arith, no_longer arena.text (mark_len arena.text) arena.tokens c.args.id (told_by c.get.result) c.len-count.ensures.stand c.get.ensures, c.len-count.ensures.fits)
