use Rattle.std.proofs.Common.{◌∙◌, ◌-◌, ◌≤◌, Bool, List, length, ap, arith}
use Rattle.std.proofs.lemmas.Result.{on_ok_weaker}
use Rattle.item_classes.proofs.Lists.{few_below}
use Rattle.replacements.specs.Decisions.{decided_all}
use Rattle.run_parts.specs.KeptGaps.{kept_decisions}
use Rattle.format_core.proofs.MadeSo.{made_so}
use Rattle.format_core.proofs.RunsTold.{items_from}
use Rattle.format_core.proofs.Failed.{not_done}
use Rattle.format_core.proofs.runs.lay_out_in_room.Goals as goal

pub prove-unreachable-requires : goal.prove-unreachable-requires
prove-unreachable-requires c =
    let view = c.args.view.now in
    let items = length c.args.context.now.arena.now.tokens in
    let few : length view ≤ items - 0 = few_below 0 items view c.len-count.ensures.increase c.requires.within in
    omega (arith, few, c.if-prove.true, c.len-count.ensures.count, c.len-items.ensures.count)

pub read_items-requires : goal.read_items-requires
read_items-requires c = record { all = c.requires.ready.all; within = c.requires.within }

pub keep_gaps-requires : goal.keep_gaps-requires
keep_gaps-requires c = record {
  tab = c.requires.ready.range.least_tab_width;
  within = c.requires.within;
  count = c.in_ok-read.ensures.marks;
  whole = c.requires.made.whole;
}

pub lay_out_view-requires : goal.lay_out_view-requires
lay_out_view-requires c =
    let read = c.in_ok-read.ensures in
    record {
      range = c.requires.ready.range;
      budget = c.requires.ready.budget;
      within = c.requires.within;
      classes = read.classes;
      count = read.count;
      tell = read.tell;
      cut = read.cut;
      whole = c.keep_gaps.ensures.len ∙ c.requires.made.whole;
      room = c.requires.room;
      cheap = c.requires.made.cheap;
      counted = c.requires.made.counted;
    }

pub returns : goal.returns
returns c =
    let style = c.args.context.now.style.now in
    let arena = c.args.context.now.arena.now in
    let ids = c.args.view.now in
    let plan = c.args.made.now.plan in
    let read = c.in_ok-read.ensures in
    record {
      told = on_ok_weaker c.lay_out_view.result (λ laid.
          items_from style c.args.context.now.budget arena c.args.number plan c.keep_gaps.new.plan ids c.in_ok-read.read.tokens c.in_ok-read.read.lines.now c.lay_out_view.new.plan c.args.made.now.tally c.lay_out_view.new.tally
          read.tokens (c.keep_gaps.ensures.plan ∙ ap (λ (marks : List Bool). decided_all plan (kept_decisions style arena 0 ids marks)) read.kept) read.lines laid) c.lay_out_view.ensures.laid;
      made = made_so c.lay_out_view.result arena (record { plan = c.lay_out_view.new.plan; tally = c.lay_out_view.new.tally })
          (on_ok_weaker c.lay_out_view.result (λ len. len ∙ (c.keep_gaps.ensures.len ∙ c.requires.made.whole)) c.lay_out_view.ensures.len) c.lay_out_view.ensures.cheap c.lay_out_view.ensures.counted;
      room = c.lay_out_view.ensures.room;
    }

pub returns-in_err-read : goal.returns-in_err-read
returns-in_err-read c =
    let result = c.from_residual.result in
    let err = c.from_residual.ensures.0 in
    record { told = not_done result _ err; made = not_done result _ err; room = not_done result _ err }
