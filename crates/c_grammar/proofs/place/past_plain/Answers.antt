use Rattle.std.proofs.Common.{◌≡◌, true, inl, inr, refl, subst, sym}
use Rattle.std.specs.Prelude.{Some}
use Rattle.item_kinds.specs.declared.ItemKind.{ItemKind}
use Rattle.item_kinds.specs.declared.ItemKind.TheVariants.{CharConst, Number, StringLit}
use Rattle.c_grammar.specs.Place.{place_of}
use Rattle.c_grammar.proofs.Places.{IsToldPlace, is_plain, told_comment, told_line, told_mark, told_other, told_word}
use Rattle.c_grammar.proofs.place.past_plain.Goals as goal

pub returns-in-Identifier : goal.returns-in-Identifier
returns-in-Identifier c =
    subst (λ k. IsToldPlace c.args.dialect (place_of c.args.standing) k c.args.first c.past_plain_word.result) (sym c.in-Identifier.is)
    (told_word c.args.dialect (place_of c.args.standing) c.args.first c.past_plain_word.result c.past_plain_word.ensures)

pub returns-in-Punct : goal.returns-in-Punct
returns-in-Punct c =
    subst (λ k. IsToldPlace c.args.dialect (place_of c.args.standing) k c.args.first c.past_plain_mark.result) (sym c.in-Punct.is)
    (told_mark c.args.dialect (place_of c.args.standing) c.args.first c.past_plain_mark.result c.past_plain_mark.ensures)

pub returns-in-Number : goal.returns-in-Number
returns-in-Number c =
    let told : (k : ItemKind) → is_plain k ≡ true → c.args.kind ≡ k → IsToldPlace c.args.dialect (place_of c.args.standing) c.args.kind c.args.first (Some c.past_other.result) =
    λ k plain is. subst (λ k. IsToldPlace c.args.dialect (place_of c.args.standing) k c.args.first (Some c.past_other.result)) (sym is)
    (told_other c.args.dialect (place_of c.args.standing) k c.args.first c.past_other.result plain c.past_other.ensures) in
    elim c.in-Number.is [
      | inl e ↦ told Number refl e
      | inr e ↦ elim e [ inl e ↦ told CharConst refl e | inr e ↦ told StringLit refl e ]
    ]

pub returns-in-BlockComment : goal.returns-in-BlockComment
returns-in-BlockComment c = elim c.in-BlockComment.is [
  | inl e ↦
      subst (λ k. IsToldPlace c.args.dialect (place_of c.args.standing) k c.args.first (Some c.past_comment.result)) (sym e)
      (told_comment c.args.dialect (place_of c.args.standing) c.args.first c.past_comment.result c.past_comment.ensures)
  | inr e ↦
      subst (λ k. IsToldPlace c.args.dialect (place_of c.args.standing) k c.args.first (Some c.past_comment.result)) (sym e)
      (told_line c.args.dialect (place_of c.args.standing) c.args.first c.past_comment.result c.past_comment.ensures)
]
