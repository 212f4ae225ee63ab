use Rattle.std.proofs.Common.{length, arith}
use Rattle.c_chars.proofs.Spans.{later_ascend}
use Rattle.pp_items.proofs.Walks.{ascend, between}
use Rattle.pp_items.proofs.reader.Reader.new.Goals as goal

pub returns-clause-reader : goal.returns-clause-reader
returns-clause-reader c =
    let start = c.new-2.result.at in
    let stop = length c.args.text.now in
    record {
      text_is = c.new-2.ensures.text;
      spans = between start stop c.new.result.chars (later_ascend start c.new.result.at stop c.new.result.chars (omega (arith, c.new-2.ensures.at)) (ascend c.new.result.at stop c.new.result.chars c.new.ensures.spans));
    }
