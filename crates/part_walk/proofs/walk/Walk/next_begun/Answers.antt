use Rattle.std.proofs.Common.{◌≡◌, ◌∙◌, ◌&&◌, Bool, true, false, refl, sym, ap}
use Rattle.std.specs.Prelude.{if◌then◌else◌}
use Rattle.part_walk.specs.declared.walk.Begun.TheVariants.{With}
use Rattle.part_walk.specs.Walk.{begins_behind, is_leading, kept_begun}
use Rattle.part_walk.proofs.walk.Walk.next_begun.Goals as goal

turned : (a b : Bool) → a && b ≡ b && a
turned true true = refl
turned true false = refl
turned false true = refl
turned false false = refl

pub returns-then-begins_leading : goal.returns-then-begins_leading
returns-then-begins_leading c =
    let walk = c.args.self.now in
    let leads = turned (begins_behind walk.last) (is_leading c.args.class) ∙ (sym c.begins_leading.ensures ∙ c.if-begins_leading.true) in
    ap (λ b. if b then With (record { id = c.args.id.0; place = walk.place }) else kept_begun walk.last c.args.class walk.begun) (sym leads)

pub returns : goal.returns
returns c =
    let walk = c.args.self.now in
    let leads = turned (begins_behind walk.last) (is_leading c.args.class) ∙ (sym c.begins_leading.ensures ∙ c.if-begins_leading.false) in
    c.kept_begun.ensures ∙ ap (λ b. if b then With (record { id = c.args.id.0; place = walk.place }) else kept_begun walk.last c.args.class walk.begun) (sym leads)
