use Rattle.std.proofs.Common.{◌∙◌, ◌≤◌, ◌+◌, ◌-◌, ap, arith, drop, length, sym}
use Rattle.std.proofs.lemmas.List.{get_or-drop, get_or-take, length-drop}
use Rattle.token_classes.specs.declared.class.TokenClass.TheVariants.{If}
use Rattle.unwrapped_lines.specs.Inside.{is_usual}
use Rattle.unwrapped_lines.proofs.CommentParts.{all_noted}
use Rattle.unwrapped_lines.proofs.Noted.{usual_items}
use Rattle.unwrapped_lines.proofs.viewed.note_items.Goals as goal

pub note_place-requires-clause-before : goal.note_place-requires-clause-before
note_place-requires-clause-before c =
    let classes = c.args.classes.now in
    let k = c.loop-place.place in
    let n = c.usual_len.result in
    let left = length-drop k classes in
    let most : k + n ≤ length classes = omega (arith, c.usual_len.ensures.within, left, c.loop-place.invariant.most) in
    let noted = usual_items c.args.arena.now c.args.view.now classes n k If c.loop-place.noted.comments.items c.loop-place.noted.touched.items c.loop-place.invariant.noted most
    (λ j lt. ap is_usual (sym (get_or-take (length classes - k) (drop k classes) j If (omega (arith, lt, most)) ∙ get_or-drop k classes j If)) ∙ c.usual_len.ensures.usual j If lt) in
    noted

pub loop-place-preserved : goal.loop-place-preserved
loop-place-preserved c =
    let classes = c.args.classes.now in
    let k = c.loop-place.place in
    let n = c.usual_len.result in
    let left = length-drop k classes in
    let most : k + n ≤ length classes = omega (arith, c.usual_len.ensures.within, left, c.loop-place.invariant.most) in
    let noted = usual_items c.args.arena.now c.args.view.now classes n k If c.loop-place.noted.comments.items c.loop-place.noted.touched.items c.loop-place.invariant.noted most
    (λ j lt. ap is_usual (sym (get_or-take (length classes - k) (drop k classes) j If (omega (arith, lt, most)) ∙ get_or-drop k classes j If)) ∙ c.usual_len.ensures.usual j If lt) in
    record { noted = noted; most = most }

pub returns-clause-comments : goal.returns-clause-comments
returns-clause-comments c = all_noted c.args.arena.now c.args.view.now c.args.classes.now c.loop-place.place c.loop-place.noted.comments.items c.loop-place.invariant.noted.comments (omega (arith, c.loop-place-test.false))

pub returns-clause-touched : goal.returns-clause-touched
returns-clause-touched c = λ i lt. c.loop-place.invariant.noted.touched i (omega (arith, lt, c.loop-place-test.false))
