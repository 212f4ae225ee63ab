use Rattle.std.proofs.Common.{◌∙◌, ℕ, ◌-◌, Bool, List, length, refl, ap}
use Rattle.std.specs.Prelude.{slice_set, if◌then◌else◌}
use Rattle.line_walk.specs.Indents.{is_aligned, next_start}
use Rattle.line_walk.proofs.Starting.{starts_there, tells_there}
use Rattle.line_walk.proofs.starts.TokenStarts.next.Goals as goal

pub returns-clause-start : goal.returns-clause-start
returns-clause-start c =
    λ layout some told. starts_there c.args.style.now c.args.self.now layout c.args.left.now c.args.right.now c.args.fixed c.args.spaces c.args.brk _ c.requires
    (c.start-start.ensures ∙ ap (λ (xs : List ℕ). next_start c.args.style.now c.args.self.now.line xs c.args.self.now.column c.args.right.now.role c.args.fixed c.args.spaces c.args.brk) c.truncate.ensures.items) some told

pub returns-clause-next : goal.returns-clause-next
returns-clause-next c =
    let start : ℕ = c.start-start.result in
    let is = c.start-start.ensures ∙ ap (λ (xs : List ℕ). next_start c.args.style.now c.args.self.now.line xs c.args.self.now.column c.args.right.now.role c.args.fixed c.args.spaces c.args.brk) c.truncate.ensures.items in
    let after = c.align.ensures
    ∙ ap (λ (b : Bool). if b then slice_set c.truncate.new.self.items (length c.truncate.new.self.items - 1) start else c.truncate.new.self.items) c.is_aligned-aligned.ensures
    ∙ ap (λ (xs : List ℕ). if is_aligned c.args.style.now (length xs) c.args.left.now c.args.right.now c.args.brk then slice_set c.truncate.new.self.items (length c.truncate.new.self.items - 1) start else c.truncate.new.self.items) c.as_slice.ensures.value
    ∙ ap (λ (xs : List ℕ). if is_aligned c.args.style.now (length c.args.self.now.indents.items) c.args.left.now c.args.right.now c.args.brk then slice_set xs (length xs - 1) start else xs) c.truncate.ensures.items in
    λ layout some told. tells_there c.args.style.now c.args.self.now _ layout c.args.left.now c.args.right.now c.args.fixed c.args.spaces c.args.brk start c.requires is _ after c.in_ok-open.ensures refl c.end_of-self.ensures some told
