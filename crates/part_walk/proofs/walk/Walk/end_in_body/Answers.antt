use Rattle.std.proofs.Common.{◌≡◌, ◌∙◌, ◌<◌, ◌+◌, ℕ, Bool, true, false, ◌==◌, not, ◌&&◌, Some, None, refl, sym, ap}
use Rattle.std.specs.Prelude.{if◌then◌else◌}
use Rattle.std.proofs.lemmas.Bool.{lt-leb}
use Rattle.token_classes.specs.declared.class.TokenClass.{TokenClass}
use Rattle.part_walk.specs.declared.walk.Walk.{Walk}
use Rattle.part_walk.specs.Walk.{end_in_body, ends_apart, ends_in_row, is_apart, or_place, parts_statements}
use Rattle.part_walk.proofs.walk.Walk.end_in_body.Goals.{then-self-lt-LEAST_APART-via-then-self-lt-LEAST_APART, then-self-lt-LEAST_APART-via-else-self-lt-LEAST_APART+then-not-parts_statements, then-self-lt-LEAST_IN_ROW-via-then-self-lt-LEAST_IN_ROW, then-self-lt-LEAST_IN_ROW-via-else-self-lt-LEAST_IN_ROW+then-not-parts_statements-2}
use Rattle.part_walk.proofs.walk.Walk.end_in_body.Goals as goal

no_statement : (walk : Walk) (id : ℕ) (class : TokenClass) → parts_statements walk class ≡ false → end_in_body walk id class ≡ None
no_statement walk id class none = ap (λ b. if b then (if is_apart walk id then ends_apart walk else ends_in_row walk id) else None) none

few_apart : (walk : Walk) (id : ℕ) (class : TokenClass) → is_apart walk id ≡ true → walk.place < 64 → end_in_body walk id class ≡ None
few_apart walk id class apart few = by_parts (parts_statements walk class)
  where
    ends : ends_apart walk ≡ None
    ends = ap (λ b. if b then Some (or_place walk.asked walk.place) else None) (lt-leb 64 walk.place few)

    by_parts : (parts : Bool) → (if parts then (if is_apart walk id then ends_apart walk else ends_in_row walk id) else None) ≡ None
    by_parts true = ap (λ b. if b then ends_apart walk else ends_in_row walk id) apart ∙ ends
    by_parts false = refl

few_in_row : (walk : Walk) (id : ℕ) (class : TokenClass) → is_apart walk id ≡ false → walk.place < 512 → end_in_body walk id class ≡ None
few_in_row walk id class row few = by_parts (parts_statements walk class)
  where
    ends : ends_in_row walk id ≡ None
    ends = ap (λ b. if b && id == walk.last.id + 1 && not walk.last.commented then Some walk.place else None) (lt-leb 512 walk.place few)

    by_parts : (parts : Bool) → (if parts then (if is_apart walk id then ends_apart walk else ends_in_row walk id) else None) ≡ None
    by_parts true = ap (λ b. if b then ends_apart walk else ends_in_row walk id) row ∙ ends
    by_parts false = refl

pub returns-then-self-lt-LEAST_APART : goal.returns-then-self-lt-LEAST_APART
returns-then-self-lt-LEAST_APART c =
    let walk = c.args.self.now in
    let id = c.args.id.0 in
    let class = c.args.class in
    let none : end_in_body walk id class ≡ None = elim c.then-self-lt-LEAST_APART.branch [
      | then-self-lt-LEAST_APART-via-then-self-lt-LEAST_APART w ↦ few_apart walk id class (sym c.is_apart.ensures ∙ c.if-is_apart.true) w.if-self-lt-LEAST_APART.true
      | then-self-lt-LEAST_APART-via-else-self-lt-LEAST_APART+then-not-parts_statements w ↦ no_statement walk id class (sym w.parts_statements.ensures ∙ w.if-not-parts_statements.true)
    ] in
    sym none

pub returns-then-self-lt-LEAST_IN_ROW : goal.returns-then-self-lt-LEAST_IN_ROW
returns-then-self-lt-LEAST_IN_ROW c =
    let walk = c.args.self.now in
    let id = c.args.id.0 in
    let class = c.args.class in
    let none : end_in_body walk id class ≡ None = elim c.then-self-lt-LEAST_IN_ROW.branch [
      | then-self-lt-LEAST_IN_ROW-via-then-self-lt-LEAST_IN_ROW w ↦ few_in_row walk id class (sym c.is_apart.ensures ∙ c.if-is_apart.false) w.if-self-lt-LEAST_IN_ROW.true
      | then-self-lt-LEAST_IN_ROW-via-else-self-lt-LEAST_IN_ROW+then-not-parts_statements-2 w ↦ no_statement walk id class (sym w.parts_statements-else-self-lt-LEAST_IN_ROW.ensures ∙ w.if-not-parts_statements-2.true)
    ] in
    sym none
