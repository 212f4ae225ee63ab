use Rattle.std.proofs.Common.{subst, sym, rules, Ok}
use Rattle.std.specs.Str.{IsUtf8}
use Rattle.std.proofs.lemmas.Result.{err_from_is_err_and}
use Rattle.style_config.proofs.Effects.{Reads_fault}
use Rattle.style_config.proofs.DumpText.{dump_is_text}
use Rattle.style_config.proofs.DumpRead.{dump_is_read_back}
use Rattle.style_config.proofs.read.Goals as goal

pub returns-in_err-style-clause-read : goal.returns-in_err-style-clause-read
returns-in_err-style-clause-read c =
    let p = err_from_is_err_and c.from_residual-in_err-style.result c.from_residual-in_err-style.ensures.1 in
    rw (p.1, p.2) (Reads_fault c.args.text.now c.args.base _ _ _ c.in_default.ensures.cases.1 (search rules) c.in_err-style.ensures.read)

pub returns-in-Err-clause-written : goal.returns-in-Err-clause-written
returns-in-Err-clause-written c = λ style range is. c.in-Err.ensures.cases.0 (subst IsUtf8 (sym is) (dump_is_text style range))

pub returns-in_err-style-clause-written : goal.returns-in_err-style-clause-written
returns-in_err-style-clause-written c = λ style range is.
    dump_is_read_back style c.args.base c.args.text.now _ range is c.in_default.ensures.cases.1 (returns-in_err-style-clause-read c)

pub returns-clause-written : goal.returns-clause-written
returns-clause-written c = λ style range is.
    dump_is_read_back style c.args.base c.args.text.now (Ok (c.in_ok-style.style, c.new.result)) range is c.in_default.ensures.cases.1 (search rules)
