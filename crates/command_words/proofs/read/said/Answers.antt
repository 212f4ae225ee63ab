use Rattle.std.proofs.Common.{Err, Option, codes, refl, subst}
use Rattle.clap.proofs.WalkLemmas.{first_value-rows, raw_values-rows}
use Rattle.clap.specs.Words.{Text, found_of, rows_of}
use Rattle.command_words.specs.Command.{lines_word}
use Rattle.command_words.specs.Lines.{IsLinesOrNot}
use Rattle.command_words.proofs.LineLemmas.{lines_told, passed, refused_lines}
use Rattle.command_words.proofs.read.said.Goals as goal

pub returns-in-Err-clause-says : goal.returns-in-Err-clause-says
returns-in-Err-clause-says c = (
  lines_told (lines_word (rows_of (found_of c.args.matches.now))) c.in_ok-lines.lines (rw (← first_value-rows (found_of c.args.matches.now) (codes "lines")) c.in_ok-lines.ensures),
  record {
    given = rw (← first_value-rows (found_of c.args.matches.now) (codes "states")) c.in-Err.ensures.none.0;
    bad = c.in-Err.ensures.none.1;
  },
)

pub returns-clause-says : goal.returns-clause-says
returns-clause-says c = record {
  says = record {
    style = rw (← first_value-rows (found_of c.args.matches.now) (codes "style")) c.style_of-style.ensures;
    lines = rw (← first_value-rows (found_of c.args.matches.now) (codes "lines")) c.in_ok-lines.ensures;
    budget = rw (← first_value-rows (found_of c.args.matches.now) (codes "states")) c.in-Ok.ensures.some;
    in_place = rw (← first_value-rows (found_of c.args.matches.now) (codes "in-place")) c.is_given-in_place.ensures;
    dry_run = rw (← first_value-rows (found_of c.args.matches.now) (codes "dry-run")) c.is_given-dry_run.ensures;
    werror = rw (← first_value-rows (found_of c.args.matches.now) (codes "Werror")) c.is_given-werror.ensures;
    dump_config = rw (← first_value-rows (found_of c.args.matches.now) (codes "dump-config")) c.is_given-dump_config.ensures;
    files = rw (← raw_values-rows (found_of c.args.matches.now) (codes "file")) c.in_ok-files.ensures;
  };
  word = rw (← first_value-rows (found_of c.args.matches.now) (codes "generate")) c.get_str-generate.ensures;
  unread = refl;
}

pub returns-in_err-lines-clause-says : goal.returns-in_err-lines-clause-says
returns-in_err-lines-clause-says c =
    rw (passed c.from_residual.result c.in_err-lines.field-0.0 c.from_residual.ensures)
    (refused_lines (rows_of (found_of c.args.matches.now)) c.in_err-lines.field-0.0
    (subst (λ (value : Option Text). IsLinesOrNot value (Err c.in_err-lines.field-0.0)) (first_value-rows (found_of c.args.matches.now) (codes "lines")) c.in_err-lines.ensures))
