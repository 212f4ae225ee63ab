use Rattle.std.proofs.Common.{◌∙◌, sym}
use Rattle.c_chars.proofs.Fronts.{none_first, other_first, same_first}
use Rattle.c_chars.proofs.front.begins_with.Goals as goal

pub returns-then-c-b : goal.returns-then-c-b
returns-then-c-b c =
    sym (sym c.loop-b.invariant ∙ other_first c.args.front.now c.loop-b.b-index c.loop-b-test.true c.loop-b.rest.chars c.next.new.self.chars c.in-Some.c c.in-Some.ensures.some.0 c.if-c-b.true)

pub returns-in-None : goal.returns-in-None
returns-in-None c = sym (sym c.loop-b.invariant ∙ none_first c.args.front.now c.loop-b.b-index c.loop-b-test.true c.loop-b.rest.chars c.in-None.ensures.none.0)

pub loop-b-preserved : goal.loop-b-preserved
loop-b-preserved c =
    same_first c.args.front.now c.loop-b.b-index c.loop-b-test.true c.loop-b.rest.chars c.next.new.self.chars c.in-Some.c c.in-Some.ensures.some.0 c.if-c-b.false ∙ c.loop-b.invariant
