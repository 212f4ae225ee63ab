use Rattle.std.proofs.Common.{◌≡◌, ◌==◌, ◌<◌, ◌+◌, ◌-◌, ◌∙◌, ◌⊎◌, eqb-true, inl, inr, Bool, false, length, get_or, ap, refl, sym, arith}
use Rattle.style_table.specs.declared.style.Style.{Style}
use Rattle.token_arena.specs.Entries.{told_by}
use Rattle.replacements.specs.declared.gap_text.Decision.TheVariants.{Spaces}
use Rattle.replacements.specs.Same.{IsSame, blanks_told}
use Rattle.replacements.specs.Stances.{may_begin_hash}
use Rattle.replacements.proofs.SameGaps.{same_blank, same_blanks}
use Rattle.replacements.proofs.StandingBlanks.{one_or_none, comes_none, first_byte, spells_none, one_between}
use Rattle.replacements.proofs.CommentBytes.{no_comment}
use Rattle.replacements.proofs.same.are_same_blanks.Goals as goal

pub returns : goal.returns
returns c = λ h style crlf.
    let arena = c.args.arena.now in
    let token = told_by c.args.token.now in
    let byte : get_or c.text.result.now c.args.at 0 ≡ get_or arena.text c.args.at 0 = ap (λ z. get_or z c.args.at 0) c.text.ensures in
    let told = ap blanks_told (sym byte) ∙ (sym (c.from.ensures ∙ c.blanks_told.ensures) ∙ eqb-true c.from.result (c.args.count + 1) h) in
    let within : c.args.at < length arena.text = omega (arith, c.requires.stands.later, c.requires.stands.within, c.requires.stands.some) in
    by_count style crlf told (one_or_none (get_or arena.text c.args.at 0) c.args.count told) within
  where
    behind : c.args.place ≡ 0 → ⊥
    behind none = omega (arith, none, c.requires.later)

    by_count : (style : Style) (crlf : Bool) → blanks_told (get_or c.args.arena.now.text c.args.at 0) ≡ c.args.count + 1
        → ((c.args.count ≡ 1) × (get_or c.args.arena.now.text c.args.at 0 ≡ 32)) ⊎ ((c.args.count ≡ 0) × (may_begin_hash (get_or c.args.arena.now.text c.args.at 0) ≡ false) × ((get_or c.args.arena.now.text c.args.at 0 == 47) ≡ false))
        → c.args.at < length c.args.arena.now.text → IsSame style crlf c.args.arena.now c.args.at c.args.place (Spaces c.args.count) (told_by c.args.token.now)
    by_count style crlf told (inl h) within =
        same_blank style crlf c.args.arena.now c.args.at c.args.place (Spaces c.args.count) (told_by c.args.token.now) behind (ap Spaces h.0)
        (one_between c.args.arena.now.text c.args.at c.args.token.now.item.start within (omega (arith, c.if-token-at.false, h.0)) h.1)
    by_count style crlf told (inr h) within =
        let start : c.args.at ≡ c.args.token.now.item.start = omega (arith, c.if-token-at.false, h.0, c.requires.stands.later) in
        let none : c.args.token.now.item.start - c.args.at ≡ 0 = omega (arith, start) in
        let other = ap (λ n. may_begin_hash (get_or c.args.arena.now.text n 0)) (sym start) ∙ h.1 in
        let slash = ap (λ n. get_or c.args.arena.now.text n 0 == 47) (sym start) ∙ h.2 in
        let byte = first_byte c.args.arena.now.text c.args.at (told_by c.args.token.now) c.requires.stands in
        let kind = no_comment c.args.arena.now c.args.place (told_by c.args.token.now) c.len-items.ensures.holds c.requires.here c.requires.stands.some (ap may_begin_hash byte ∙ other) (ap (λ b. b == 47) byte ∙ slash) in
        same_blanks style crlf c.args.arena.now c.args.at c.args.place c.args.count (Spaces c.args.count) (told_by c.args.token.now) behind refl
        (comes_none (told_by c.args.token.now) kind (spells_none c.args.arena.now.text c.args.at (told_by c.args.token.now) c.requires.stands other))
        (rw (none, h.0) refl)
