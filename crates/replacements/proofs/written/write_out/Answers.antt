use Rattle.std.proofs.Common.{List, ℕ, refl}
use Rattle.std.proofs.KnownBytes.{Appends-trans}
use Rattle.std.proofs.lemmas.Result.{on_ok_weaker}
use Rattle.c_chars.specs.Characters.{mark_len}
use Rattle.fmt_ports.proofs.Parts.{part_of_front, part_of_rest}
use Rattle.replacements.specs.Written.{mark_bytes, written, written_from}
use Rattle.replacements.specs.declared.guard.Guard.TheVariants.{Free}
use Rattle.replacements.proofs.written.write_out.Goals as goal

pub returns-in_err-write_all-clause-part : goal.returns-in_err-write_all-clause-part
unfolding written
returns-in_err-write_all-clause-part g c =
    let arena = c.args.arena.now in
    let rest : List ℕ = written_from c.args.style.now c.args.crlf arena c.args.sections.now c.args.plan.now Free (mark_len arena.text) 0 arena.tokens in
    part_of_front _ _ (mark_bytes (mark_len arena.text)) rest _ refl (rw c.mark_of.ensures at c.in_err-write_all.ensures.part)

pub returns-clause-ok : goal.returns-clause-ok
unfolding written
returns-clause-ok g c =
    let taken = rw c.mark_of.ensures at c.in_ok-write_all.ensures.ok in
    on_ok_weaker c.write_tokens.result (λ h. Appends-trans _ _ _ _ _ taken h) c.write_tokens.ensures.ok

pub returns-clause-part : goal.returns-clause-part
unfolding written
returns-clause-part g c =
    let arena = c.args.arena.now in
    let rest : List ℕ = written_from c.args.style.now c.args.crlf arena c.args.sections.now c.args.plan.now Free (mark_len arena.text) 0 arena.tokens in
    part_of_rest _ _ _ (mark_bytes (mark_len arena.text)) rest _ refl (rw c.mark_of.ensures at c.in_ok-write_all.ensures.ok) c.write_tokens.ensures.part
