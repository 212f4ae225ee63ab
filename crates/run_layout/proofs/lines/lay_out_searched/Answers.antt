use Rattle.std.proofs.Common.{◌≡◌, ◌+◌, ◌≤◌, arith, length}
use Rattle.line_gaps.specs.InputColumns.{input_before}
use Rattle.run_layout.proofs.LineOutcomes.{above_zero, on_ok}
use Rattle.run_layout.proofs.RowLines.{tokens_within}
use Rattle.run_layout.proofs.Failed.{no_value, not_done}
use Rattle.run_layout.proofs.lines.lay_out_searched.Goals as goal

pub prove-unreachable-requires : goal.prove-unreachable-requires
prove-unreachable-requires c = omega (arith, c.requires.places, c.len-count.ensures.count, c.if-prove.true)

pub fixed_of-requires : goal.fixed_of-requires
fixed_of-requires c = record {
  whole = c.requires.whole;
  within = tokens_within c.args.layout.now.arena.now c.args.layout.now.view.now c.args.layout.now.tokens.now c.args.tokens.now c.args.line.now (length c.args.plan.now) c.requires.ready.within c.requires.ready.tell c.requires.places c.requires.whole c.requires.tokens;
}

pub lay_out_unlimited-requires : goal.lay_out_unlimited-requires
lay_out_unlimited-requires c = record {
  ready = c.requires.ready;
  tell = c.requires.tell;
  line = record {
    some = c.requires.some;
    places = c.requires.places;
    small = omega (arith, c.if-prove.false);
    whole = c.requires.whole;
    opens = c.requires.opens;
    tokens_are = c.requires.tokens;
    fixed_are = c.in_ok-fixed.ensures;
  };
  limit = c.if-layout-eq0.true;
}

pub returns-then-layout-eq0 : goal.returns-then-layout-eq0
returns-then-layout-eq0 c = record {
  laid = c.lay_out_unlimited.ensures.laid;
  len = c.lay_out_unlimited.ensures.len;
  before = on_ok c.lay_out_unlimited.result (c.args.cursor.now.place ≤ c.args.line.now.last + 1) (omega (arith, c.requires.before, c.requires.some));
  column = on_ok c.lay_out_unlimited.result (c.args.cursor.now.column ≡ input_before c.args.layout.now.style.now c.args.layout.now.arena.now c.args.layout.now.view.now c.args.cursor.now.place) c.requires.column;
}

pub lay_out_limited-requires : goal.lay_out_limited-requires
lay_out_limited-requires c = record {
  ready = c.requires.ready;
  tell = c.requires.tell;
  line = record {
    some = c.requires.some;
    places = c.requires.places;
    small = omega (arith, c.if-prove.false);
    whole = c.requires.whole;
    opens = c.requires.opens;
    tokens_are = c.requires.tokens;
    fixed_are = c.in_ok-fixed.ensures;
  };
  limit = above_zero c.args.layout.now.style.now.column_limit c.if-layout-eq0.false;
  before = c.requires.before;
  column = c.requires.column;
}

pub returns : goal.returns
returns c = record {
  laid = c.lay_out_limited.ensures.laid;
  len = c.lay_out_limited.ensures.len;
  before = c.lay_out_limited.ensures.before;
  column = c.lay_out_limited.ensures.column;
}

pub returns-in_err-fixed : goal.returns-in_err-fixed
returns-in_err-fixed c =
    let result = c.from_residual.result in
    let err = c.from_residual.ensures.0 in
    record {
      laid = no_value result _ err;
      len = not_done result _ err;
      before = not_done result _ err;
      column = not_done result _ err;
    }
