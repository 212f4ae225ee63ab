use Rattle.std.proofs.Common.{◌≡◌, Bool, true, false, refl, sym}
use Rattle.std.specs.Prelude.{◌&&◌}
use Rattle.line_joiner.specs.Facts.{is_bare_header, word_of}
use Rattle.line_joiner.specs.JoinTable.{begins_with_simple}
use Rattle.line_joiner.specs.Kinds.{is_control, is_loop}
use Rattle.line_joiner.proofs.table.is_short_loop.Goals as goal

off : (a b c d e : Bool) → e ≡ false → false ≡ a && b && c && d && e
off true true true true e is = sym is
off false b c d e is = refl
off true false c d e is = refl
off true true false d e is = refl
off true true true false e is = refl

pub returns-then-not-style : goal.returns-then-not-style
returns-then-not-style c =
    let toks = c.args.tokens.now in
    let head = c.args.head.now in
    let rest = c.args.rest.now in
    off (is_control head.kind) (is_loop (word_of c.args.classes.now head)) (is_bare_header toks head) (begins_with_simple rest) c.args.style.now.allow_short_loops_on_a_single_line c.if-not-style.true
