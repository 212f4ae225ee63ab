use Rattle.std.proofs.Common.{◌≡◌, ◌∙◌, ◌<◌, ◌++◌, length, sym, subst, ap, arith}
use Rattle.c_chars.specs.Characters.{mark_len}
use Rattle.c_lexer.specs.Reading.{Reading}
use Rattle.token_arena.specs.declared.facts.Told.{Told}
use Rattle.token_arena.proofs.KeptLemmas.{IsKeptUpTo, kept_begun, kept_ended}
use Rattle.token_arena.proofs.NextLemmas.{hash_noted, next_behind, next_kept_behind, few_kept, kept_within, at_some, at_none}
use Rattle.token_arena.proofs.Remarks.{remark_of, remark_pushed}
use Rattle.token_arena.specs.Entries.{comments_kept, keeps_comment, kept_by_all}
use Rattle.token_arena.specs.Hashes.{hashes_from}
use Rattle.c_grammar.specs.Fitting.{is_comment}
use Rattle.token_arena.proofs.Spans.{step_shorter}
use Rattle.token_arena.proofs.reading.entries_of.Goals as goal

pub loop-lexeme-init : goal.loop-lexeme-init
loop-lexeme-init c = record {
  text_stays = c.new-lexer.ensures.text;
  dialect_stays = c.new-lexer.ensures.dialect;
  kept =
      subst (λ k. IsKeptUpTo c.args.dialect c.args.text.now c.new-lexer.result.left c.in_ok-entries.entries.items k) (sym c.new-lexer.ensures.at)
      (subst (λ left. IsKeptUpTo c.args.dialect c.args.text.now left c.in_ok-entries.entries.items (mark_len c.args.text.now)) (sym c.new-lexer.ensures.left)
      (rw c.in_ok-entries.ensures.items (kept_begun c.args.dialect c.args.text.now)));
  remarks = c.in_ok-comments.ensures.items ∙ sym (ap (comments_kept 0) c.in_ok-entries.ensures.items);
  marks = c.in_ok-hashes.ensures.items ∙ sym (ap (λ es. hashes_from 0 (kept_by_all c.args.text.now es)) c.in_ok-entries.ensures.items);
}

pub note_comment-requires : goal.note_comment-requires
note_comment-requires c =
    let few = few_kept _ _ _ _ _ c.loop-lexeme.invariant.kept in
    omega (arith, few, c.requires.fits, c.len-id.ensures)

pub note_hash-requires : goal.note_hash-requires
note_hash-requires c =
    let few = few_kept _ _ _ _ _ c.loop-lexeme.invariant.kept in
    omega (arith, few, c.requires.fits, c.len-id.ensures)

-- an item that plain bytes tell

pub entry_of-requires-clause-fits : goal.entry_of-requires-clause-fits
entry_of-requires-clause-fits c =
    omega (arith, (next_behind _ _ _ _ _ _ c.in-Some.lexeme c.loop-lexeme.invariant.text_stays c.loop-lexeme.invariant.kept c.in-Some.ensures.some).within, c.requires.fits)

pub entry_of-requires-clause-order : goal.entry_of-requires-clause-order
entry_of-requires-clause-order c =
    let within = kept_within c.args.dialect c.args.text.now c.loop-lexeme.lexer.left c.loop-lexeme.entries.items c.loop-lexeme.lexer.at c.loop-lexeme.invariant.kept in
    omega (arith, within, c.requires.fits, c.at-gap.ensures, (next_behind _ _ _ _ _ _ c.in-Some.lexeme c.loop-lexeme.invariant.text_stays c.loop-lexeme.invariant.kept c.in-Some.ensures.some).later)

pub loop-lexeme-smaller-in-Some : goal.loop-lexeme-smaller-in-Some
loop-lexeme-smaller-in-Some c = (step_shorter _ _ _ _ c.in-Some.ensures.some.next.step).1

pub loop-lexeme-preserved-in-Some : goal.loop-lexeme-preserved-in-Some
loop-lexeme-preserved-in-Some c =
    let count : c.len-id.result ≡ length c.loop-lexeme.entries.items = omega (arith, c.len-id.ensures) in
    let within = kept_within c.args.dialect c.args.text.now c.loop-lexeme.lexer.left c.loop-lexeme.entries.items c.loop-lexeme.lexer.at c.loop-lexeme.invariant.kept in
    record {
      text_stays = c.in-Some.ensures.text ∙ c.loop-lexeme.invariant.text_stays;
      dialect_stays = c.in-Some.ensures.dialect ∙ c.loop-lexeme.invariant.dialect_stays;
      kept =
          rw c.in_ok-push.ensures.items
          (next_kept_behind _ _ _ _ _ c.in-Some.lexeme c.loop-lexeme.invariant.text_stays c.loop-lexeme.invariant.dialect_stays c.loop-lexeme.invariant.kept c.in-Some.ensures.some c.in-Some.ensures.behind Told.Itself (c.in-Some.ensures.plain, c.in-Some.ensures.itself) _
          (omega (arith, within, c.requires.fits, c.at-gap.ensures)) _ c.entry_of.ensures);
      remarks =
          rw c.in_ok-push.ensures.items
          (remark_pushed c.loop-lexeme.entries.items c.entry_of.result c.loop-lexeme.comments.items c.note_comment.new.comments.items c.len-id.result (is_comment c.in-Some.lexeme.item.kind) c.loop-lexeme.invariant.remarks count (sym (ap keeps_comment c.entry_of.ensures)) c.in_ok-note_comment.ensures.ok);
      marks =
          rw c.in_ok-push.ensures.items
          (hash_noted _ _ _ _ c.loop-lexeme.entries.items c.in-Some.lexeme c.loop-lexeme.invariant.text_stays c.loop-lexeme.invariant.kept c.in-Some.ensures.some Told.Itself c.at-gap.result c.entry_of.result c.entry_of.ensures
          c.loop-lexeme.hashes.items c.note_hash.new.hashes.items c.len-id.result c.loop-lexeme.invariant.marks count
          (c.in_ok-note_hash.ensures.ok ∙ ap (λ b. c.loop-lexeme.hashes.items ++ remark_of c.len-id.result b) c.may_be_plain_hash-likely.ensures));
    }

-- any other item: the reader stands where it stood

pub note_hash-requires-in-Ok-Some : goal.note_hash-requires-in-Ok-Some
note_hash-requires-in-Ok-Some c =
    let few = few_kept _ _ _ _ _ c.loop-lexeme.invariant.kept in
    omega (arith, few, c.requires.fits, c.len-id-in-Ok-Some.ensures)

pub note_comment-requires-in-Ok-Some : goal.note_comment-requires-in-Ok-Some
note_comment-requires-in-Ok-Some c =
    let few = few_kept _ _ _ _ _ c.loop-lexeme.invariant.kept in
    omega (arith, few, c.requires.fits, c.len-id-in-Ok-Some.ensures)

pub entry_of-requires-in-Ok-Some-clause-fits : goal.entry_of-requires-in-Ok-Some-clause-fits
entry_of-requires-in-Ok-Some-clause-fits c =
    let same = c.ahead-other.ensures ∙ c.in_default.ensures.none in
    let text_is = ap (λ (r : Reading). r.text) same ∙ c.loop-lexeme.invariant.text_stays in
    let kept = subst (λ (r : Reading). IsKeptUpTo c.args.dialect c.args.text.now r.left c.loop-lexeme.entries.items r.at) (sym same) c.loop-lexeme.invariant.kept in
    let next = at_some _ _ _ _ c.in-Ok-Some.field-0-is c.in-Ok-Some.ensures.some in
    omega (arith, (next_behind _ _ _ _ _ _ c.in-Ok-Some.lexeme text_is kept next).within, c.requires.fits)

pub entry_of-requires-in-Ok-Some-clause-order : goal.entry_of-requires-in-Ok-Some-clause-order
entry_of-requires-in-Ok-Some-clause-order c =
    let same = c.ahead-other.ensures ∙ c.in_default.ensures.none in
    let text_is = ap (λ (r : Reading). r.text) same ∙ c.loop-lexeme.invariant.text_stays in
    let kept = subst (λ (r : Reading). IsKeptUpTo c.args.dialect c.args.text.now r.left c.loop-lexeme.entries.items r.at) (sym same) c.loop-lexeme.invariant.kept in
    let next = at_some _ _ _ _ c.in-Ok-Some.field-0-is c.in-Ok-Some.ensures.some in
    let within = kept_within c.args.dialect c.args.text.now c.loop-lexeme.lexer.left c.loop-lexeme.entries.items c.loop-lexeme.lexer.at c.loop-lexeme.invariant.kept in
    let at_is = ap (λ (r : Reading). r.at) same in
    omega (arith, at_is, within, c.requires.fits, c.at-gap.ensures, (next_behind _ _ _ _ _ _ c.in-Ok-Some.lexeme text_is kept next).later)

pub loop-lexeme-smaller : goal.loop-lexeme-smaller
loop-lexeme-smaller c =
    let same = c.ahead-other.ensures ∙ c.in_default.ensures.none in
    let next = at_some _ _ _ _ c.in-Ok-Some.field-0-is c.in-Ok-Some.ensures.some in
    subst (λ (r : Reading). length c.next_any.new.self.left.chars < length r.left.chars) same (step_shorter _ _ _ _ next.next.step).1

pub loop-lexeme-preserved : goal.loop-lexeme-preserved
loop-lexeme-preserved c =
    let count : c.len-id-in-Ok-Some.result ≡ length c.loop-lexeme.entries.items = omega (arith, c.len-id-in-Ok-Some.ensures) in
    let same = c.ahead-other.ensures ∙ c.in_default.ensures.none in
    let text_is = ap (λ (r : Reading). r.text) same ∙ c.loop-lexeme.invariant.text_stays in
    let dialect_is = ap (λ (r : Reading). r.dialect) same ∙ c.loop-lexeme.invariant.dialect_stays in
    let kept = subst (λ (r : Reading). IsKeptUpTo c.args.dialect c.args.text.now r.left c.loop-lexeme.entries.items r.at) (sym same) c.loop-lexeme.invariant.kept in
    let next = at_some _ _ _ _ c.in-Ok-Some.field-0-is c.in-Ok-Some.ensures.some in
    let within = kept_within c.args.dialect c.args.text.now c.loop-lexeme.lexer.left c.loop-lexeme.entries.items c.loop-lexeme.lexer.at c.loop-lexeme.invariant.kept in
    let at_is = ap (λ (r : Reading). r.at) same in
    record {
      text_stays = c.in-Ok-Some.ensures.text ∙ text_is;
      dialect_stays = c.in-Ok-Some.ensures.dialect ∙ dialect_is;
      kept =
          rw c.in_ok-push-in-Ok-Some.ensures.items
          (next_kept_behind _ _ _ _ _ c.in-Ok-Some.lexeme text_is dialect_is kept next (at_some _ _ _ _ c.in-Ok-Some.field-0-is c.in-Ok-Some.ensures.behind) c.told_by_bytes.result c.told_by_bytes.ensures _
          (omega (arith, at_is, within, c.requires.fits, c.at-gap.ensures)) _ c.entry_of-in-Ok-Some.ensures);
      remarks =
          rw c.in_ok-push-in-Ok-Some.ensures.items
          (remark_pushed c.loop-lexeme.entries.items c.entry_of-in-Ok-Some.result c.loop-lexeme.comments.items c.note_comment-in-Ok-Some.new.comments.items c.len-id-in-Ok-Some.result (is_comment c.in-Ok-Some.lexeme.item.kind) c.loop-lexeme.invariant.remarks count (sym (ap keeps_comment c.entry_of-in-Ok-Some.ensures)) c.in_ok-note_comment-in-Ok-Some.ensures.ok);
      marks =
          rw c.in_ok-push-in-Ok-Some.ensures.items
          (hash_noted _ _ _ _ c.loop-lexeme.entries.items c.in-Ok-Some.lexeme text_is kept next c.told_by_bytes.result c.at-gap.result c.entry_of-in-Ok-Some.result c.entry_of-in-Ok-Some.ensures
          c.loop-lexeme.hashes.items c.note_hash-in-Ok-Some.new.hashes.items c.len-id-in-Ok-Some.result c.loop-lexeme.invariant.marks count
          (c.in_ok-note_hash-in-Ok-Some.ensures.ok ∙ ap (λ b. c.loop-lexeme.hashes.items ++ remark_of c.len-id-in-Ok-Some.result b) c.may_be_hash-likely.ensures));
    }

pub returns-in-Ok-None-clause-entries : goal.returns-in-Ok-None-clause-entries
returns-in-Ok-None-clause-entries c =
    let same = c.ahead-other.ensures ∙ c.in_default.ensures.none in
    let kept = subst (λ (r : Reading). IsKeptUpTo c.args.dialect c.args.text.now r.left c.loop-lexeme.entries.items r.at) (sym same) c.loop-lexeme.invariant.kept in
    rw c.into_bump_slice.ensures
    (kept_ended c.args.dialect c.args.text.now c.ahead-other.result.left c.loop-lexeme.entries.items _ _ c.ahead-other.result.at c.requires.fits kept
    (at_none _ _ _ c.in-Ok-None.field-0-is c.in-Ok-None.ensures.some) (c.into_bump_slice-in-Ok-None.ensures ∙ c.loop-lexeme.invariant.remarks) (c.into_bump_slice-in-Ok-None-2.ensures ∙ c.loop-lexeme.invariant.marks))

pub overflow_cast-gap : goal.overflow_cast-gap
overflow_cast-gap c =
    let within = kept_within c.args.dialect c.args.text.now c.loop-lexeme.lexer.left c.loop-lexeme.entries.items c.loop-lexeme.lexer.at c.loop-lexeme.invariant.kept in
    record { fits = omega (arith, within, c.requires.fits, c.at-gap.ensures) }
