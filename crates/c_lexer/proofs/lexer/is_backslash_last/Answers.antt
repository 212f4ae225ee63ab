use Rattle.std.proofs.Common.{◌≡◌, ◌∙◌, ◌-◌, false, get_or, sym, ap}
use Rattle.c_lexer.specs.Reading.{ends_backslash}
use Rattle.c_lexer.proofs.Backslashes.{last_slashed}
use Rattle.c_lexer.proofs.lexer.is_backslash_last.Goals as goal

pub returns-then-not-may_end_backslash : goal.returns-then-not-may_end_backslash
returns-then-not-may_end_backslash c = λ n within e.
    let other : ends_backslash (get_or c.args.text.now (c.args.left.now.at - 2) 0) (get_or c.args.text.now (c.args.left.now.at - 1) 0) ≡ false =
    ap (λ k. ends_backslash (get_or c.args.text.now (k - 2) 0) (get_or c.args.text.now (k - 1) 0)) (sym c.at.ensures) ∙ (sym c.may_end_backslash.ensures ∙ c.if-not-may_end_backslash.true) in
    sym (last_slashed c.args.text.now c.args.chars.now.dialect c.args.chars.now.at n c.args.chars.now.chars within c.requires.slashed
    (ap (λ z. ends_backslash (get_or c.args.text.now (z.at - 2) 0) (get_or c.args.text.now (z.at - 1) 0)) (sym e) ∙ other))
