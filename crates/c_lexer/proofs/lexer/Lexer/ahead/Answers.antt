use Rattle.std.proofs.Common.{sym, subst}
use Rattle.c_lexer.specs.Fault.{IsAt}
use Rattle.c_lexer.specs.Reading.{AreRaw, AreSlashed}
use Rattle.c_lexer.proofs.lexer.Lexer.ahead.Goals as goal

pub invariant_of-result : goal.invariant_of-result
invariant_of-result c =
    let same = sym c.ahead.ensures in (
      subst (IsAt c.self.inside.text.now c.self.inside.dialect) same c.self.invariant.0,
      subst (λ z. AreSlashed c.self.inside.text.now z.chars) same c.self.invariant.1,
      subst (λ z. AreRaw c.self.inside.text.now z.chars) same c.self.invariant.2,
    )
