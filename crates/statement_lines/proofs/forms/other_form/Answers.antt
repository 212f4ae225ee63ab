use Rattle.std.proofs.Common.{◌<◌, arith, refl}
use Rattle.std.proofs.lemmas.Bool.{OnTrue_at}
use Rattle.statement_lines.proofs.FormLemmas.{moved}
use Rattle.statement_lines.proofs.forms.other_form.Goals as goal

pub returns-after-is_enum-clause-stays : goal.returns-after-is_enum-clause-stays
returns-after-is_enum-clause-stays c =
    let within : c.statement_stop-stop.result.at < c.args.opened.end = OnTrue_at c.if-stop.true c.statement_stop-stop.ensures.brace in
    let up = moved c.args.closes c.args.tokens.now c.args.at _ c.statement_stop-stop.result.at c.behind_close-from.ensures.behind c.behind_close-from.ensures.here c.statement_stop-stop.ensures.least c.requires.first (OnTrue_at c.if-stop.true c.statement_stop-stop.ensures.open) in
    record {
      begins = (omega arith);
      takes = λ e. up;
      goes_on = c.block_end.ensures.least;
      ends = c.block_end.ensures.most;
      is_block = refl;
      level = (omega arith);
      case_level = (omega arith);
      head_level = (omega arith);
    }
