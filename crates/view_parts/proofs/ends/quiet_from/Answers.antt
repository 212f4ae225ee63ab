use Rattle.std.proofs.Common.{◌≡◌, ◌∙◌, ◌<◌, ◌≤◌, ◌+◌, ◌-◌, ℕ, Bool, true, List, drop, take, get_or, sym, ap, arith}
use Rattle.std.proofs.lemmas.List.{get_or-drop, get_or-take}
use Rattle.token_classes.specs.declared.class.TokenClass.{TokenClass}
use Rattle.part_walk.specs.declared.walk.Around.{Around}
use Rattle.part_walk.specs.declared.walk.Around.TheVariants.{Body, Group}
use Rattle.view_parts.specs.Quiet.{is_quiet}
use Rattle.view_parts.proofs.ends.quiet_from.Goals.{in-Outside, in-Body, in-Group}
use Rattle.view_parts.proofs.ends.quiet_from.Goals as goal

-- so many tokens of a stretch, as those of the whole
of_stretch : (stands : Around) (held : Bool) (all : List TokenClass) (next far count : ℕ) → count ≤ far - next → ((k : ℕ) → (d : TokenClass) → k < count → is_quiet stands held (get_or (take (far - next) (drop next all)) k d) ≡ true)
    → (k : ℕ) → (d : TokenClass) → next ≤ k → k < next + count → is_quiet stands held (get_or all k d) ≡ true
of_stretch stands held all next far count within quiet k d after before =
    let n = k - next in
    let at : next + n ≡ k = omega (arith, after) in
    let is : get_or (take (far - next) (drop next all)) n d ≡ get_or all k d = get_or-take (far - next) (drop next all) n d (omega (arith, after, before, within)) ∙ (get_or-drop next all n d ∙ ap (λ j. get_or all j d) at) in
    ap (λ (class : TokenClass). is_quiet stands held class) (sym is) ∙ quiet n d (omega (arith, after, before))

pub returns-clause-quiet : goal.returns-clause-quiet
returns-clause-quiet c =
    let all = c.args.all.now in
    let place = c.args.first + c.args.place in
    let shift = c.args.row.now.shift in
    let held = c.args.held in
    let next = place + shift in
    let count = c.match-around.count in
    let quiet : (k : ℕ) → (d : TokenClass) → next ≤ k → k < next + count → is_quiet c.args.around held (get_or all k d) ≡ true = elim c.match-around.branch [
      | in-Outside w ↦ λ k d after before. absurd (omega (arith, after, before, w.count-is))
      | in-Body w ↦ λ k d after before.
          let told = w.quiet_count-count.ensures in
          ap (λ (a : Around). is_quiet a held (get_or all k d)) w.in-Body.is
          ∙ of_stretch Body held all next _ w.quiet_count-count.result (omega (arith, told.within)) told.quiet k d after (omega (arith, before, w.count-is))
      | in-Group w ↦ λ k d after before.
          let told = w.quiet_count-count-in-Group.ensures in
          ap (λ (a : Around). is_quiet a held (get_or all k d)) w.in-Group.is
          ∙ of_stretch Group held all next _ w.quiet_count-count-in-Group.result (omega (arith, told.within)) told.quiet k d after (omega (arith, before, w.count-is))
    ] in
    λ k d after upto. quiet (k + shift) d (omega (arith, after)) (omega (arith, upto))
