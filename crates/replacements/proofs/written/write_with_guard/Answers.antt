use Rattle.std.proofs.Common.{◌≡◌, ◌∙◌, List, ℕ, refl, ap}
use Rattle.fmt_ports.proofs.Parts.{part_of_front, part_of_rest}
use Rattle.replacements.specs.GapText.{gap_text}
use Rattle.replacements.specs.Guards.{guard_for, guard_text, guarded_ends}
use Rattle.replacements.proofs.written.write_with_guard.Goals as goal

pub returns-in_err-write_all-clause-part : goal.returns-in_err-write_all-clause-part
returns-in_err-write_all-clause-part g c =
    let needed = guard_for c.args.guard c.args.decision in
    let front : List ℕ = guard_text c.args.crlf needed in
    let rest : List ℕ = gap_text c.args.style.now (guarded_ends c.args.crlf needed) c.args.decision c.args.old.now in
    let text : c.guard_text.result.now ≡ front = c.guard_text.ensures ∙ ap (λ x. guard_text c.args.crlf x) c.guard_for-needed.ensures in
    part_of_front _ _ front rest _ refl (rw text at c.in_err-write_all.ensures.part)

pub returns-clause-part : goal.returns-clause-part
returns-clause-part g c =
    let needed = guard_for c.args.guard c.args.decision in
    let front : List ℕ = guard_text c.args.crlf needed in
    let rest : List ℕ = gap_text c.args.style.now (guarded_ends c.args.crlf needed) c.args.decision c.args.old.now in
    let text : c.guard_text.result.now ≡ front = c.guard_text.ensures ∙ ap (λ x. guard_text c.args.crlf x) c.guard_for-needed.ensures in
    let ends : c.guarded_ends.result ≡ guarded_ends c.args.crlf needed = c.guarded_ends.ensures ∙ ap (λ x. guarded_ends c.args.crlf x) c.guard_for-needed.ensures in
    part_of_rest _ _ _ front rest _ refl (rw text at c.in_ok-write_all.ensures.ok) (rw ends at c.write_gap.ensures.part)
