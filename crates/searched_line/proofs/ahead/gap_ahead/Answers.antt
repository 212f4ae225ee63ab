use Rattle.searched_line.proofs.ahead.gap_ahead.Goals as goal

pub returns-clause-gap : goal.returns-clause-gap
returns-clause-gap c = record {
  rules = c.gap_rules-rules.ensures;
  aside = c.row_ahead-aside.ensures.aside;
  row = c.width_below-row.ensures c.args.decision c.row_ahead-aside.ensures.aside;
  stays = c.has_to_stay.ensures;
}
