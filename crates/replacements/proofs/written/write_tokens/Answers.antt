use Rattle.std.proofs.Common.{◌≡◌, ◌∙◌, ◌≤◌, ℕ, List, [], ◌++◌, append_assoc, ap, sym, arith, drop, length, rules, refl}
use Rattle.std.proofs.KnownBytes.{Appends-trans, Appends-nil}
use Rattle.std.proofs.lemmas.Result.{on_ok_weaker}
use Rattle.c_chars.specs.Characters.{mark_len}
use Rattle.fmt_ports.proofs.Parts.{part_of_front, part_of_rest}
use Rattle.token_arena.specs.Gaps.{gap_start}
use Rattle.replacements.specs.Guards.{guard_before, guarded_text}
use Rattle.replacements.specs.Written.{bytes_between, decision_at, written_from}
use Rattle.replacements.specs.declared.guard.Guard.TheVariants.{Free}
use Rattle.replacements.proofs.Held.{held_begun, held_passed}
use Rattle.replacements.proofs.Writing.{starts_within, written_end}
use Rattle.replacements.proofs.written.write_tokens.Goals as goal

pub loop-place-init : goal.loop-place-init
loop-place-init g c =
    let arena = c.args.arena.now in
    let begin : c.first_offset-begin.result ≡ mark_len arena.text = c.first_offset-begin.ensures in
    record {
      within = omega arith;
      section = omega arith;
      at = begin;
      held = omega arith;
      known = λ k a b. absurd {A = _} (omega (arith, b, c.none.ensures));
      later = λ k a. refl;
      faults = refl;
      taken = (
        [],
        Appends-nil _,
        rw begin (held_begun arena.text (mark_len arena.text) (written_from c.args.style.now c.args.crlf arena c.args.sections.now c.args.plan.now Free (mark_len arena.text) 0 arena.tokens)),
      );
    }

pub returns-in_err-write_token-clause-part : goal.returns-in_err-write_token-clause-part
returns-in_err-write_token-clause-part g c =
    let kept = c.loop-place.invariant in
    part_of_rest _ _ _ kept.taken.0 _ _ kept.taken.2 kept.taken.1 c.in_err-write_token.ensures.part

pub loop-place-preserved : goal.loop-place-preserved
loop-place-preserved g c =
    let arena = c.args.arena.now in
    let kept = c.loop-place.invariant in
    let piece = c.in_ok-write_token.ensures.ok in
    let on = c.in_ok-write_token.ensures.at in
    let walk = c.write_token.new.walk in
    let passed = c.pass_blanks-passed.ensures in
    let place = c.pass_blanks-passed.result.place in
    let at = c.pass_blanks-passed.result.at in
    let rest : List ℕ = written_from c.args.style.now c.args.crlf arena c.args.sections.now c.args.plan.now (guard_before arena.tokens place) at place (drop place arena.tokens) in
    let all : List ℕ = bytes_between arena.text walk.held at ++ rest in
    let more = held_passed arena.text walk.held walk.at at _ rest on.1 passed.on (passed.same c.args.style.now c.args.crlf c.args.sections.now) in
    record {
      within = passed.within;
      section = c.write_token.ensures.within;
      at = passed.at;
      held = omega (arith, on.1, passed.on);
      known = λ k a b. c.write_token.ensures.known k (omega (arith, a, passed.later)) b;
      later = λ k a. c.write_token.ensures.later k (omega (arith, a, passed.later));
      faults = search rules;
      taken = (
        kept.taken.0 ++ piece.0,
        Appends-trans _ _ _ _ _ kept.taken.1 piece.1,
        kept.taken.2 ∙ (ap (λ (z : List ℕ). kept.taken.0 ++ z) (piece.2 ∙ ap (λ (z : List ℕ). piece.0 ++ z) more) ∙ sym (append_assoc kept.taken.0 piece.0 all)),
      );
    }

pub between-requires-clause-within : goal.between-requires-clause-within
between-requires-clause-within g c =
    let arena = c.args.arena.now in
    let kept = c.loop-place.invariant in
    let inside : gap_start (mark_len arena.text) arena.tokens c.loop-place.place ≤ length arena.text = starts_within arena.text (mark_len arena.text) arena.tokens c.loop-place.place c.len-count.ensures.stand kept.within in
    rw c.text.ensures (omega (arith, inside, kept.at))

pub returns-in_err-write_all-clause-part : goal.returns-in_err-write_all-clause-part
returns-in_err-write_all-clause-part g c =
    let arena = c.args.arena.now in
    let kept = c.loop-place.invariant in
    let walk = c.loop-place.walk in
    let rest : List ℕ = written_from c.args.style.now c.args.crlf arena c.args.sections.now c.args.plan.now (guard_before arena.tokens c.loop-place.place) walk.at c.loop-place.place (drop c.loop-place.place arena.tokens) in
    let held : c.between.result.now ≡ bytes_between arena.text walk.held walk.at = c.between.ensures ∙ ap (λ z. bytes_between z walk.held walk.at) c.text.ensures in
    part_of_rest _ _ _ kept.taken.0 (bytes_between arena.text walk.held walk.at ++ rest) _ kept.taken.2 kept.taken.1
    (part_of_front _ _ (bytes_between arena.text walk.held walk.at) rest _ refl (rw held at c.in_err-write_all.ensures.part))

pub returns-clause-ok : goal.returns-clause-ok
returns-clause-ok g c =
    let arena = c.args.arena.now in
    let kept = c.loop-place.invariant in
    let walk = c.loop-place.walk in
    let held : List ℕ = bytes_between arena.text walk.held walk.at in
    let held_is : c.between.result.now ≡ held = c.between.ensures ∙ ap (λ z. bytes_between z walk.held walk.at) c.text.ensures in
    let last : List ℕ = guarded_text c.args.style.now c.args.crlf (guard_before arena.tokens c.loop-place.place) (decision_at c.args.plan.now c.len-count.result) c.gap.result.now in
    let same : c.len-count.result ≡ c.loop-place.place = omega (arith, c.len-count.ensures.count, c.loop-place-test.false, kept.within) in
    let guard : c.guard_before-guard.result ≡ guard_before arena.tokens c.loop-place.place = c.guard_before-guard.ensures ∙ ap (λ n. guard_before arena.tokens n) same in
    let place_is : c.loop-place.place ≡ length arena.tokens = omega (arith, c.len-count.ensures.count, same) in
    let end = written_end c.args.style.now c.args.crlf arena c.args.sections.now c.args.plan.now (guard_before arena.tokens c.loop-place.place) walk.at c.loop-place.place c.len-count.result c.gap.result.now place_is same kept.at c.gap.ensures in
    let whole = kept.taken.2 ∙ (ap (λ (z : List ℕ). kept.taken.0 ++ (held ++ z)) end ∙ sym (append_assoc kept.taken.0 held last)) in
    let taken = Appends-trans _ _ _ _ _ kept.taken.1 (rw held_is at c.in_ok-write_all.ensures.ok) in
    rw whole (on_ok_weaker c.write_guarded.result (λ h. Appends-trans _ _ _ _ _ taken h) (rw (c.decision_at-decision.ensures, guard) at c.write_guarded.ensures.ok))

pub returns-clause-part : goal.returns-clause-part
returns-clause-part g c =
    let arena = c.args.arena.now in
    let kept = c.loop-place.invariant in
    let walk = c.loop-place.walk in
    let held : List ℕ = bytes_between arena.text walk.held walk.at in
    let held_is : c.between.result.now ≡ held = c.between.ensures ∙ ap (λ z. bytes_between z walk.held walk.at) c.text.ensures in
    let last : List ℕ = guarded_text c.args.style.now c.args.crlf (guard_before arena.tokens c.loop-place.place) (decision_at c.args.plan.now c.len-count.result) c.gap.result.now in
    let same : c.len-count.result ≡ c.loop-place.place = omega (arith, c.len-count.ensures.count, c.loop-place-test.false, kept.within) in
    let guard : c.guard_before-guard.result ≡ guard_before arena.tokens c.loop-place.place = c.guard_before-guard.ensures ∙ ap (λ n. guard_before arena.tokens n) same in
    let place_is : c.loop-place.place ≡ length arena.tokens = omega (arith, c.len-count.ensures.count, same) in
    let end = written_end c.args.style.now c.args.crlf arena c.args.sections.now c.args.plan.now (guard_before arena.tokens c.loop-place.place) walk.at c.loop-place.place c.len-count.result c.gap.result.now place_is same kept.at c.gap.ensures in
    let whole = kept.taken.2 ∙ (ap (λ (z : List ℕ). kept.taken.0 ++ (held ++ z)) end ∙ sym (append_assoc kept.taken.0 held last)) in
    let taken = Appends-trans _ _ _ _ _ kept.taken.1 (rw held_is at c.in_ok-write_all.ensures.ok) in
    part_of_rest _ _ _ (kept.taken.0 ++ held) last _ whole taken (rw (c.decision_at-decision.ensures, guard) at c.write_guarded.ensures.part)
