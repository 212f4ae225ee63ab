use Rattle.std.proofs.Common.{◌∙◌, false, sym}
use Rattle.c_chars.specs.Characters.{bytes_of}
use Rattle.c_chars.specs.Coming.{behind}
use Rattle.c_lexer.specs.Header.{ends_name, name_len, begins_header, header_len}
use Rattle.c_lexer.proofs.Headers.{angle_header, no_header_mark, quote_header}
use Rattle.c_lexer.proofs.Passing.{same_outcome}
use Rattle.c_lexer.proofs.quote.behind_header.Goals as goal

pub returns-then-first-eq60 : goal.returns-then-first-eq60
returns-then-first-eq60 c =
    let same = angle_header c.args.text.now c.behind.result (sym c.byte_at-first.ensures ∙ c.if-first-eq60.true) c.behind.ensures in
    same_outcome c.behind_name.result (begins_header (bytes_of c.args.text.now.chars)) (ends_name 62 false (bytes_of c.behind.result.chars))
    (behind c.args.text.now (header_len (bytes_of c.args.text.now.chars))) (behind c.behind.result (name_len 62 (bytes_of c.behind.result.chars))) same.0 same.1 c.behind_name.ensures

pub returns-then-first-eq34 : goal.returns-then-first-eq34
returns-then-first-eq34 c =
    let same = quote_header c.args.text.now c.behind-then-first-eq34.result (sym c.byte_at-first.ensures ∙ c.if-first-eq34.true) c.behind-then-first-eq34.ensures in
    same_outcome c.behind_name-then-first-eq34.result (begins_header (bytes_of c.args.text.now.chars)) (ends_name 34 false (bytes_of c.behind-then-first-eq34.result.chars))
    (behind c.args.text.now (header_len (bytes_of c.args.text.now.chars))) (behind c.behind-then-first-eq34.result (name_len 34 (bytes_of c.behind-then-first-eq34.result.chars))) same.0 same.1 c.behind_name-then-first-eq34.ensures

pub returns : goal.returns
returns c = no_header_mark (bytes_of c.args.text.now.chars) c.byte_at-first.result c.byte_at-first.ensures c.if-first-eq60.false c.if-first-eq34.false
