use Rattle.std.proofs.Common.{◌∙◌, sym, ap, subst}
use Rattle.c_grammar.specs.Text.{IsStep}
use Rattle.c_grammar.specs.Place.{place_of}
use Rattle.pp_model.specs.Preprocess.{Lexed}
use Rattle.pp_items.specs.Walk.{streamed_at}
use Rattle.pp_items.specs.Reading.{IsReaderOf}
use Rattle.pp_items.proofs.ItemReads.{at_some, at_none, told_next, step_shorter}
use Rattle.pp_items.proofs.Follows.{IsCutSoFar, cut_step, cut_ended, open_fault}
use Rattle.pp_items.proofs.sections.sections_of.Goals as goal

pub read-requires-clause-next : goal.read-requires-clause-next
read-requires-clause-next c =
    let i = c.loop-lexeme.invariant in
    let next = at_some _ _ _ _ c.in-Ok-Some.field-0-is c.in-Ok-Some.ensures.some in
    (next.next.read, c.next_lexeme.new.self.left.chars, told_next _ _ _ _ _ (i.text_stays ∙ sym i.reader.text_is) i.chars next)

pub loop-lexeme-smaller : goal.loop-lexeme-smaller
loop-lexeme-smaller c =
    let next = at_some _ _ _ _ c.in-Ok-Some.field-0-is c.in-Ok-Some.ensures.some in
    step_shorter _ _ _ _ next.next.step

pub loop-lexeme-preserved : goal.loop-lexeme-preserved
loop-lexeme-preserved c =
    let i = c.loop-lexeme.invariant in
    let old = c.loop-lexeme in
    let new = c.next_lexeme.new.self in
    let next = at_some _ _ _ _ c.in-Ok-Some.field-0-is c.in-Ok-Some.ensures.some in
    let item = next.next.read in
    let step = next.next.step in
    let r = c.in_ok-read-in-Ok-Some.ensures.read item new.left.chars (told_next _ _ _ _ _ (i.text_stays ∙ sym i.reader.text_is) i.chars next) in
    let s = c.in_ok-read-in-Ok-Some.field-0 in
    record {
      text_stays = c.in-Ok-Some.ensures.text ∙ i.text_stays;
      dialect_stays = c.in-Ok-Some.ensures.dialect ∙ i.dialect_stays;
      reader = subst (λ z. IsReaderOf z c.read.new.self) i.reader.text_is c.in_ok-read-in-Ok-Some.ensures.reader;
      chars = r.chars;
      cut =
          subst (λ a. IsCutSoFar c.args.dialect c.args.text.now new.left a c.take.new.self) (sym r.after)
          (cut_step c.args.dialect c.args.text.now old.lexer.left new.left old.reader.after_comment old.cutter c.take.new.self s item i.cut
          (subst (λ z. IsStep z old.lexer.left new.left item) i.dialect_stays step)
          (r.item ∙ (ap (λ z. streamed_at z old.reader.after_comment (place_of c.standing-stood.result) item) i.reader.text_is ∙ ap (λ p. streamed_at c.args.text.now old.reader.after_comment p item) c.standing-stood.ensures))
          c.in_ok-take-in-Ok-Some.ensures.sections);
    }

pub returns-in-Ok-None : goal.returns-in-Ok-None
returns-in-Ok-None c =
    let i = c.loop-lexeme.invariant in
    let gap = at_none _ _ _ c.in-Ok-None.field-0-is c.in-Ok-None.ensures.some in
    sym (cut_ended c.args.dialect c.args.text.now c.loop-lexeme.lexer.left c.loop-lexeme.reader.after_comment c.loop-lexeme.cutter i.cut gap ∙ ap Lexed (sym c.in_ok-sections-in-Ok-None.ensures))

pub returns-in-Err-UnterminatedComment : goal.returns-in-Err-UnterminatedComment
returns-in-Err-UnterminatedComment c =
    let i = c.loop-lexeme.invariant in
    sym (open_fault c.args.dialect c.args.text.now c.loop-lexeme.lexer c.in-Err-UnterminatedComment.field-0 c.loop-lexeme.reader.after_comment c.loop-lexeme.cutter i.dialect_stays i.cut c.in-Err-UnterminatedComment.ensures.fault)
