use Rattle.std.proofs.Common.{◌≤◌, ◌∙◌, ◌+◌, ◌||◌, length, refl, sym, ap, subst, arith}
use Rattle.std.specs.Option.{option_map_or}
use Rattle.c_chars.specs.Characters.{bytes_of}
use Rattle.pp_model.specs.Stream.{line_at}
use Rattle.c_grammar.specs.Place.{place_of}
use Rattle.pp_items.specs.Walk.{before, past, part_here}
use Rattle.pp_items.proofs.ItemReads.{next_start, next_line, unwrap_within, walked, still_between}
use Rattle.pp_items.proofs.reader.Reader.read.Goals as goal
use Rattle.pp_items.proofs.reader.Reader.read.Goals.{then-self, else-self}

pub line_begun-begun-requires : goal.line_begun-begun-requires
line_begun-begun-requires c = record {
  onwards = λ to is.
      let start = next_start _ _ _ _ c.requires.reader.spans c.requires.next in
      let line = next_line _ _ _ _ _ c.requires.reader.spans c.requires.next c.pass_gap-line_end.ensures.found to is in
      (line.0, omega (arith, line.1, start.1));
}

pub line_of-line-requires-clause-onwards : goal.line_of-line-requires-clause-onwards
line_of-line-requires-clause-onwards c =
    let start = next_start _ _ _ _ c.requires.reader.spans c.requires.next in
    let line = next_line _ _ _ _ _ c.requires.reader.spans c.requires.next c.pass_gap-line_end.ensures.found in
    let within = unwrap_within c.pass_gap-line_end.result c.args.self.now.lines.at c.args.lexeme.now.item.start line start.0 in
    subst (λ k. k ≤ c.args.lexeme.now.item.start) (sym c.line_begun-begun.ensures.at) within

pub line_of-line-requires-clause-within : goal.line_of-line-requires-clause-within
line_of-line-requires-clause-within c =
    let start = next_start _ _ _ _ c.requires.reader.spans c.requires.next in
    subst (λ t. c.args.lexeme.now.item.start ≤ length t) (sym c.line_begun-begun.ensures.text) start.1

pub returns-clause-read : goal.returns-clause-read
returns-clause-read c =
    let old = c.args.self.now in
    let item = c.args.lexeme.now.item in
    let end = item.start + length item.raw.now in
    let place = place_of c.past_gap-standing.result in
    walked _ _ _ _ _ c.args.stood c.past_gap-standing.result c.requires.reader.spans (record {
      begun = c.line_begun-begun.ensures.line ∙ ap (λ o. option_map_or (line_at old.lines.text.now) o 0) c.pass_gap-line_end.ensures.found;
      line = c.line_of-line.ensures.line ∙ ap (λ t. line_at t item.start) c.line_begun-begun.ensures.text;
      spelling = c.in_ok-text.ensures.text ∙ ap (λ z. bytes_of (before end z)) c.pass_gap-line_end.ensures.rest;
      rest = c.in_ok-text.ensures.rest ∙ ap (past end) c.pass_gap-line_end.ensures.rest;
      place_is = c.past_gap-standing.ensures;
      part = c.part_of-part.ensures ∙ ap (part_here place c.args.lexeme.now.white item.kind) c.as_slice.ensures.value;
      white =
          elim c.if-self.branch [
            | then-self w ↦ w.white-is ∙ (w.if-self.true ∙ sym (ap (λ z. z || c.args.lexeme.now.white) w.if-self.true))
            | else-self w ↦ w.white-is ∙ sym (ap (λ z. z || c.args.lexeme.now.white) w.if-self.false)
          ];
      kind = refl;
      after = c.is_comment-self.ensures;
    })

pub returns-clause-reader : goal.returns-clause-reader
returns-clause-reader c =
    let item = c.args.lexeme.now.item in
    record {
      text_is = c.line_of-line.ensures.text ∙ c.line_begun-begun.ensures.text;
      spans =
          still_between _ c.args.self.now _ c.args.lexeme.now _ c.requires.reader.spans c.requires.next c.line_of-line.ensures.at
          (c.in_ok-text.ensures.rest ∙ ap (past (item.start + length item.raw.now)) c.pass_gap-line_end.ensures.rest);
    }
