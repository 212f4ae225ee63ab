use Rattle.std.proofs.Common.{◌≡◌, ◌∙◌, ◌+◌, ◌&&◌, Bool, true, ap, arith, sym}
use Rattle.std.proofs.lemmas.Bool.{and_right}
use Rattle.std.proofs.lemmas.Option.{slice_get_past}
use Rattle.token_classes.specs.Classes.{is_colon}
use Rattle.item_classes.specs.Viewed.{item_class}
use Rattle.unwrapped_lines.specs.Viewed.{colon_touches, empty_of_item}
use Rattle.unwrapped_lines.proofs.viewed.touched.Goals as goal

both : (a b x y : Bool) → a ≡ true → b ≡ true → x ≡ y → x ≡ (a && (b && y))
both a b x y p q e = rw (p, q) e

pub returns-then-not-is_colon : goal.returns-then-not-is_colon
returns-then-not-is_colon c = ap (λ (b : Bool). b && colon_touches c.args.arena.now c.args.id) (sym c.if-not-is_colon.true ∙ c.is_colon.ensures)

pub returns-then-count-id : goal.returns-then-count-id
returns-then-count-id c =
    let arena = c.args.arena.now in
    let past = slice_get_past arena.tokens (c.args.id + 1) (omega (arith, c.len-count.ensures.count, c.if-count-id.true)) in
    let behind = is_colon (item_class arena (c.args.id + 1)) in
    sym (and_right (is_colon c.args.class) (colon_touches arena c.args.id) (ap (λ t. empty_of_item t && behind) past))

pub returns-then-not-get : goal.returns-then-not-get
returns-then-not-get c =
    let arena = c.args.arena.now in
    let behind = is_colon (item_class arena (c.args.id + 1)) in
    sym (and_right (is_colon c.args.class) (colon_touches arena c.args.id)
    (ap (λ t. empty_of_item t && behind) c.get.ensures ∙ ap (λ (b : Bool). b && behind) c.if-not-get.true))

pub returns : goal.returns
returns c =
    both _ _ _ _ (sym c.is_colon.ensures ∙ c.if-not-is_colon.false) (ap empty_of_item c.get.ensures ∙ c.if-not-get.false)
    (c.is_colon-2.ensures ∙ ap is_colon c.in_ok-behind.ensures)
