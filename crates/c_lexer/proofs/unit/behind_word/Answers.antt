use Rattle.c_chars.specs.Characters.{bytes_of}
use Rattle.c_grammar.specs.Grammar.{is_word_unit, is_letter, is_digit}
use Rattle.std.proofs.Common.{◌||◌}
use Rattle.std.specs.List.{prefix_len}
use Rattle.unicode_ident.specs.Ident.{is_xid_continue}
use Rattle.c_lexer.specs.Unit.{is_rare_unit}
use Rattle.c_lexer.proofs.Units.{word_greedy}
use Rattle.c_lexer.proofs.UnitsOff.{shrinks, run_off, run_at, word_run, word_stopped, word_of_rare, word_none, no_word_unit, no_rare_unit}
use Rattle.c_lexer.proofs.unit.behind_word.Goals as goal

pub loop-left-init : goal.loop-left-init
loop-left-init c = (
  word_stopped c.args.text.now c.behind_word-rest.result c.behind_word-rest.ensures,
  λ end r. word_run c.args.text.now c.behind_word-rest.result end c.behind_word-rest.ensures r,
)

pub loop-left-smaller : goal.loop-left-smaller
loop-left-smaller c =
    shrinks (is_rare_unit is_xid_continue) c.loop-left.rest c.in-Some.left c.behind_word-rest-in-Some.result (prefix_len (λ x. is_letter x || is_digit x) (bytes_of c.in-Some.left.chars)) no_rare_unit c.in-Some.ensures c.behind_word-rest-in-Some.ensures

pub loop-left-preserved : goal.loop-left-preserved
loop-left-preserved c = (
  word_stopped c.in-Some.left c.behind_word-rest-in-Some.result c.behind_word-rest-in-Some.ensures,
  λ end r. c.loop-left.invariant.1 end
      (run_off is_word_unit c.loop-left.rest c.in-Some.left end no_word_unit word_greedy (word_of_rare c.loop-left.rest c.in-Some.left c.in-Some.ensures)
      (word_run c.in-Some.left c.behind_word-rest-in-Some.result end c.behind_word-rest-in-Some.ensures r)),
)

pub returns : goal.returns
returns c = c.loop-left.invariant.1 c.loop-left.rest (run_at is_word_unit c.loop-left.rest (word_none (bytes_of c.loop-left.rest.chars) c.loop-left.invariant.0 c.in_default.ensures))
