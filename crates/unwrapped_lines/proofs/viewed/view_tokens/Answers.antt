use Rattle.std.proofs.Common.{◌≡◌, ◌∙◌, ℕ, List, [], ◌∷◌, Bool, Option, false, ap, arith, eqb-true, length, nat_eq, refl, subst, sym}
use Rattle.token_classes.specs.declared.class.TokenClass.{TokenClass}
use Rattle.statement_lines.specs.declared.token.CodeToken.{CodeToken}
use Rattle.statement_lines.specs.Tokens.{ArePlaced, token_told, tokens_from}
use Rattle.statement_lines.proofs.TokenLemmas.{token_of_each_class}
use Rattle.unwrapped_lines.specs.Viewed.{numbers_of}
use Rattle.unwrapped_lines.specs.Inside.{AreTouched, code_classes, code_partners, comment_places_from, comments_of, parts_with}
use Rattle.unwrapped_lines.proofs.CommentParts.{parts_same}
use Rattle.unwrapped_lines.proofs.Joins.{both_counts}
use Rattle.unwrapped_lines.proofs.Tokens.{joined_placed, joined_tokens, plain_tokens}
use Rattle.unwrapped_lines.proofs.viewed.view_tokens.Goals as goal

nothing : (xs : List ℕ) → length xs ≡ 0 → xs ≡ []
nothing [] h = refl
nothing (x ∷ xs) h = absurd (omega (arith, h))

-- ## Without comments

pub returns-then-is_empty-clause-tokens : goal.returns-then-is_empty-clause-tokens
returns-then-is_empty-clause-tokens c =
    let arena = c.args.arena.now in
    let view = c.args.view.now in
    let classes = c.args.classes.now in
    let partners = c.args.partners.now in
    let marked = c.as_slice-marked.result.now in
    let touched = c.as_slice-touched.result.now in
    let marked_is : marked ≡ comment_places_from 0 classes = c.as_slice-marked.ensures.value ∙ c.requires.marked in
    let P : List Bool → Type 0 = λ x. AreTouched arena view classes (length classes) x in
    let each : AreTouched arena view classes (length classes) touched = subst P (sym c.as_slice-touched.ensures.value) c.requires.touched in
    let none : comment_places_from 0 classes ≡ [] = sym marked_is ∙ nothing marked (eqb-true _ _ (sym c.is_empty.ensures ∙ c.if-is_empty.true)) in
    let told : List ℕ → List CodeToken = λ ms. tokens_from (token_told arena view ms touched partners [] (length classes)) 0 classes in
    c.of-tokens.ensures ∙ ap told marked_is ∙ plain_tokens arena view classes partners touched each none

pub returns-then-is_empty-clause-few : goal.returns-then-is_empty-clause-few
returns-then-is_empty-clause-few c =
    let same : length c.of-tokens.result ≡ length c.args.classes.now = ap (λ (ts : List CodeToken). length ts) c.of-tokens.ensures ∙ token_of_each_class _ 0 c.args.classes.now in
    omega (arith, same, c.requires.few)

pub returns-then-is_empty-clause-parts : goal.returns-then-is_empty-clause-parts
returns-then-is_empty-clause-parts c =
    let arena = c.args.arena.now in
    let view = c.args.view.now in
    let classes = c.args.classes.now in
    let all : c.as_slice-comments.result.now ≡ comments_of arena view classes = c.as_slice-comments.ensures.value ∙ c.requires.comments in
    ap (parts_with (length view) 0) all ∙ (ap (λ n. parts_with n 0 (comments_of arena view classes)) (sym c.requires.places) ∙ parts_same arena view 0 0 false classes (omega arith) refl)

-- ## With comments

pub of-tokens-requires-2 : goal.of-tokens-requires-2
of-tokens-requires-2 c =
    let some : nat_eq (length c.args.read.now.marked.items) 0 ≡ false = ap (λ (ms : List ℕ). nat_eq (length ms) 0) (sym c.as_slice-marked.ensures.value) ∙ (sym c.is_empty.ensures ∙ c.if-is_empty.false) in
    let arena = c.args.arena.now in
    let view = c.args.view.now in
    let classes = c.args.classes.now in
    let kept = c.as_slice-kept.result.now in
    let marked_is : c.as_slice-marked.result.now ≡ comment_places_from 0 classes = c.as_slice-marked.ensures.value ∙ c.requires.marked in
    let kept_is : kept ≡ code_classes classes = c.as_slice-kept.ensures.value ∙ c.requires.joined.by_class some in
    let P : List ℕ → Type 0 = λ ms. ArePlaced arena view ms (length kept) in
    let Q : List TokenClass → Type 0 = λ cs. ArePlaced arena view (comment_places_from 0 classes) (length cs) in
    subst P (sym marked_is) (subst Q (sym kept_is) (joined_placed arena view classes c.requires.places c.requires.few c.requires.within))

pub returns-clause-tokens : goal.returns-clause-tokens
returns-clause-tokens c =
    let some : nat_eq (length c.args.read.now.marked.items) 0 ≡ false = ap (λ (ms : List ℕ). nat_eq (length ms) 0) (sym c.as_slice-marked.ensures.value) ∙ (sym c.is_empty.ensures ∙ c.if-is_empty.false) in
    let arena = c.args.arena.now in
    let view = c.args.view.now in
    let classes = c.args.classes.now in
    let partners = c.args.partners.now in
    let marked = c.as_slice-marked.result.now in
    let touched = c.as_slice-touched.result.now in
    let marked_is : marked ≡ comment_places_from 0 classes = c.as_slice-marked.ensures.value ∙ c.requires.marked in
    let P : List Bool → Type 0 = λ x. AreTouched arena view classes (length classes) x in
    let each : AreTouched arena view classes (length classes) touched = subst P (sym c.as_slice-touched.ensures.value) c.requires.touched in
    let kept = c.as_slice-kept.result.now in
    let ps = c.as_slice-kept_partners.result.now in
    let ns = c.as_slice-numbers.result.now in
    let kept_is : kept ≡ code_classes classes = c.as_slice-kept.ensures.value ∙ c.requires.joined.by_class some in
    let ps_is : ps ≡ code_partners classes partners = c.as_slice-kept_partners.ensures.value ∙ c.requires.joined.by_partner some in
    let ns_is : ns ≡ numbers_of classes = c.as_slice-numbers.ensures.value ∙ c.requires.joined.by_number some in
    let told : List ℕ → List (Option ℕ) → List ℕ → List TokenClass → List CodeToken = λ ms qs xs cs. tokens_from (token_told arena view ms touched qs xs (length cs)) 0 cs in
    c.of-tokens-2.ensures
    ∙ ap (λ ms. told ms ps ns kept) marked_is
    ∙ ap (λ qs. told (comment_places_from 0 classes) qs ns kept) ps_is
    ∙ ap (λ xs. told (comment_places_from 0 classes) (code_partners classes partners) xs kept) ns_is
    ∙ ap (told (comment_places_from 0 classes) (code_partners classes partners) (numbers_of classes)) kept_is
    ∙ joined_tokens arena view classes partners touched each

pub returns-clause-few : goal.returns-clause-few
returns-clause-few c =
    let some : nat_eq (length c.args.read.now.marked.items) 0 ≡ false = ap (λ (ms : List ℕ). nat_eq (length ms) 0) (sym c.as_slice-marked.ensures.value) ∙ (sym c.is_empty.ensures ∙ c.if-is_empty.false) in
    let classes = c.args.classes.now in
    let same : length c.of-tokens-2.result ≡ length c.as_slice-kept.result.now = ap (λ (ts : List CodeToken). length ts) c.of-tokens-2.ensures ∙ token_of_each_class _ 0 c.as_slice-kept.result.now in
    let kept : length c.as_slice-kept.result.now ≡ length (code_classes classes) = ap (λ (cs : List TokenClass). length cs) (c.as_slice-kept.ensures.value ∙ c.requires.joined.by_class some) in
    omega (arith, same, kept, both_counts 0 classes, c.requires.few)

pub returns-clause-parts : goal.returns-clause-parts
returns-clause-parts c =
    let arena = c.args.arena.now in
    let view = c.args.view.now in
    let classes = c.args.classes.now in
    let all : c.as_slice-comments.result.now ≡ comments_of arena view classes = c.as_slice-comments.ensures.value ∙ c.requires.comments in
    ap (parts_with (length view) 0) all ∙ (ap (λ n. parts_with n 0 (comments_of arena view classes)) (sym c.requires.places) ∙ parts_same arena view 0 0 false classes (omega arith) refl)
