use Rattle.std.proofs.Common.{◌≡◌, ◌∙◌, ◌+◌, ◌∷◌, [], ◌++◌, ◌&&◌, List, true, false, nat_lt, ap, arith, get_or, length, subst, sym}
use Rattle.std.specs.Prelude.{slice_get}
use Rattle.token_classes.specs.Classes.{is_colon, is_comment}
use Rattle.token_classes.specs.declared.class.TokenClass.TheVariants.{If, Nothing}
use Rattle.item_classes.specs.Part.{part_of}
use Rattle.item_classes.specs.declared.part.Part.{Part}
use Rattle.std.proofs.lemmas.List.{get_or_default}
use Rattle.statement_lines.specs.Tokens.{is_touched}
use Rattle.unwrapped_lines.specs.declared.part.ViewComment.{ViewComment}
use Rattle.unwrapped_lines.specs.Viewed.{colon_touches}
use Rattle.unwrapped_lines.specs.Inside.{AreNoted}
use Rattle.unwrapped_lines.proofs.Noted.{comment_item, token_item, touched_more, untouched_more}
use Rattle.unwrapped_lines.proofs.viewed.note_item.Goals as goal

pub returns-then-is_comment : goal.returns-then-is_comment
returns-then-is_comment c =
    let arena = c.args.arena.now in
    let view = c.args.view.now in
    let classes = c.args.classes.now in
    let k = c.args.place in
    let old = c.args.noted.now.comments.items in
    let touched = c.args.noted.now.touched.items in
    let class = get_or classes k If in
    let is : is_comment class ≡ true = sym c.is_comment.ensures ∙ c.if-is_comment.true in
    let count : c.len.result ≡ length old = omega (arith, c.len.ensures, c.args.noted.now.comments.ok.0) in
    let noted : c.push.new.self.items ≡ old ++ record { place = k; part = part_of arena c.args.id (nat_lt (length old) k) class } ∷ [] =
    c.in_ok-push.ensures.items
    ∙ ap (λ (p : Part). old ++ record { place = k; part = p } ∷ []) (c.comment_part.ensures ∙ ap (λ n. part_of arena c.args.id (nat_lt n k) class) count) in
    let all = comment_item arena view classes k c.args.id If old touched c.requires.before c.requires.places is c.requires.item in
    let P : List ViewComment → Type 0 = λ x. AreNoted arena view classes (k + 1) x touched in
    subst P (sym noted) all

pub returns-in_ok-note_touched : goal.returns-in_ok-note_touched
returns-in_ok-note_touched c =
    let arena = c.args.arena.now in
    let view = c.args.view.now in
    let classes = c.args.classes.now in
    let k = c.args.place in
    let class = get_or classes k If in
    let new = c.note_touched.new.touched.items in
    let is : is_comment class ≡ false = sym c.is_comment.ensures ∙ c.if-is_comment.false in
    let same : class ≡ get_or classes k Nothing = get_or_default classes k If Nothing c.requires.places in
    let here : is_touched (slice_get new k) ≡ (is_colon (get_or classes k Nothing) && colon_touches arena (get_or view k 0)) =
    c.in_ok-note_touched.ensures.here
    ∙ (sym c.if-branch.true
    ∙ (c.in_ok-touched.ensures
    ∙ (ap (λ x. is_colon x && colon_touches arena c.args.id) same ∙ ap (λ i. is_colon (get_or classes k Nothing) && colon_touches arena i) (sym c.requires.item)))) in
    token_item arena view classes k If c.args.noted.now.comments.items c.args.noted.now.touched.items new c.requires.before c.requires.places is
    (touched_more arena view classes k c.args.noted.now.touched.items new c.requires.before.touched c.in_ok-note_touched.ensures.before here) (omega (arith, c.in_ok-note_touched.ensures.few))

pub returns-else-branch : goal.returns-else-branch
returns-else-branch c =
    let arena = c.args.arena.now in
    let view = c.args.view.now in
    let classes = c.args.classes.now in
    let k = c.args.place in
    let class = get_or classes k If in
    let old = c.args.noted.now.touched.items in
    let is : is_comment class ≡ false = sym c.is_comment.ensures ∙ c.if-is_comment.false in
    let same : class ≡ get_or classes k Nothing = get_or_default classes k If Nothing c.requires.places in
    let none : (is_colon (get_or classes k Nothing) && colon_touches arena (get_or view k 0)) ≡ false =
    sym (ap (λ x. is_colon x && colon_touches arena c.args.id) same ∙ ap (λ i. is_colon (get_or classes k Nothing) && colon_touches arena i) (sym c.requires.item))
    ∙ (sym c.in_ok-touched.ensures ∙ c.if-branch.false) in
    token_item arena view classes k If c.args.noted.now.comments.items old old c.requires.before c.requires.places is
    (untouched_more arena view classes k old c.requires.before.touched c.requires.before.few none) (omega (arith, c.requires.before.few))
