use Rattle.std.proofs.Common.{arith}
use Rattle.view_tokens.proofs.Starts.{apart_told, only_item}
use Rattle.view_tokens.proofs.start.start_found.Goals as goal

pub returns-in-None : goal.returns-in-None
returns-in-None c = record {
  some = omega arith;
  items = only_item c.args.view.now c.args.place c.at_near-id.result.0 (c.at_near-id.ensures 0);
  apart = apart_told c.directive_before.result c.args.view.now c.args.place c.directive_before.ensures;
}
