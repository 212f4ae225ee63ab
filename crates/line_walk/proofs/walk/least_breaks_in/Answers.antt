use Rattle.std.proofs.Common.{Bool, List, arith, sym, subst}
use Rattle.line_state.specs.StoredStates.{state_in}
use Rattle.line_walk.specs.Starts.{IsAdmissible}
use Rattle.line_walk.proofs.LeastBreaks.{little_begins_in, little_more, little_ends}
use Rattle.line_walk.proofs.walk.least_breaks_in.Goals as goal

pub tokens-init : goal.tokens-init
tokens-init c =
    little_begins_in _ c.in_ok-breaks.breaks.items c.first.new.store c.in_ok-state.state c.in_ok-breaks.ensures.items c.requires.some c.in_ok-state.ensures.layout c.in_ok-state.ensures.small c.in_ok-state.ensures.known

pub tokens-preserved : goal.tokens-preserved
tokens-preserved c = record {
  little = little_more _ c.tokens.breaks.items _ (state_in c.tokens.store c.tokens.state) (state_in c.least_next.new.store c.in_ok-next.next) c.tokens.placed c.in_ok-next.brk c.tokens.invariant.little c.in_ok-next.ensures.next
      c.in_ok-next.ensures.stay c.in_ok-push.ensures.items;
  known = c.in_ok-next.ensures.known;
}

pub returns : goal.returns
returns c =
    subst (λ (bs : List Bool). IsAdmissible c.args.line.now bs) (sym c.into_bump_slice.ensures) (little_ends _ c.tokens.breaks.items _ _ c.tokens.invariant.little (omega (arith, c.tokens-test.false, c.tokens.auto.placed-end, c.gaps-count.ensures)))
