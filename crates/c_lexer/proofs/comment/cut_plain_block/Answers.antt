use Rattle.c_lexer.proofs.Quiet.{IsBlockEnd, quiet_block, quiet_comment_own}
use Rattle.c_lexer.proofs.comment.cut_plain_block.Goals as goal

pub returns-then-slash-eq47-clause-off : goal.returns-then-slash-eq47-clause-off
returns-then-slash-eq47-clause-off c =
    let begun = c.args.begun.now in
    let end : IsBlockEnd c.pass_quiet.new.self c.next_plain-2.new.self = record {
      between = c.next_plain.new.self;
      star = c.in_ok-star.star;
      slash = c.in_ok-slash.slash;
      star_is = c.if-star-eq42.true;
      slash_is = c.if-slash-eq47.true;
      first = record { chars_are = c.in_ok-star.ensures.some.0; at_is = c.in_ok-star.ensures.some.1; dialect_is = c.next_plain.ensures.dialect; from_is = c.in_ok-star.ensures.plain.0; to_is = c.in_ok-star.ensures.plain.1 };
      second = record { chars_are = c.in_ok-slash.ensures.some.0; at_is = c.in_ok-slash.ensures.some.1; dialect_is = c.next_plain-2.ensures.dialect; from_is = c.in_ok-slash.ensures.plain.0; to_is = c.in_ok-slash.ensures.plain.1 };
    } in
    quiet_block begun.text begun.behind c.behind-left.result c.pass_quiet.new.self c.next_plain-2.new.self begun.first c.args.second c.requires.begun c.if-begun-ne47.false c.requires.second c.if-second-ne42.false c.behind-left.ensures
    c.pass_quiet.ensures.passed end

pub returns-then-slash-eq47-clause-plain : goal.returns-then-slash-eq47-clause-plain
returns-then-slash-eq47-clause-plain c =
    let begun = c.args.begun.now in
    let end : IsBlockEnd c.pass_quiet.new.self c.next_plain-2.new.self = record {
      between = c.next_plain.new.self;
      star = c.in_ok-star.star;
      slash = c.in_ok-slash.slash;
      star_is = c.if-star-eq42.true;
      slash_is = c.if-slash-eq47.true;
      first = record { chars_are = c.in_ok-star.ensures.some.0; at_is = c.in_ok-star.ensures.some.1; dialect_is = c.next_plain.ensures.dialect; from_is = c.in_ok-star.ensures.plain.0; to_is = c.in_ok-star.ensures.plain.1 };
      second = record { chars_are = c.in_ok-slash.ensures.some.0; at_is = c.in_ok-slash.ensures.some.1; dialect_is = c.next_plain-2.ensures.dialect; from_is = c.in_ok-slash.ensures.plain.0; to_is = c.in_ok-slash.ensures.plain.1 };
    } in
    quiet_comment_own begun.behind c.behind-left.result c.pass_quiet.new.self c.next_plain-2.new.self begun.first c.args.second c.if-begun-ne47.false c.requires.second c.requires.plain.0 c.requires.plain.1 c.if-second-ne42.false
    c.behind-left.ensures c.pass_quiet.ensures.bytes end
