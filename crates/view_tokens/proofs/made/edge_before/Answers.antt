use Rattle.std.proofs.Common.{◌≡◌, ℕ, ◌+◌, ◌-◌, subst, arith}
use Rattle.view_tokens.specs.Inside.{edge_at, TellsTouch}
use Rattle.view_tokens.proofs.Items.{edges_touch}
use Rattle.view_tokens.proofs.made.edge_before.Goals as goal

pub returns : goal.returns
returns c =
    let arena = c.args.arena.now in
    let id : ℕ = c.args.id in
    let whole : id - 1 + 1 ≡ id = omega (arith, c.if-id-eq0.false) in
    subst (λ (n : ℕ). TellsTouch arena n c.edge_at.result (edge_at arena n)) whole (edges_touch arena (id - 1) c.edge_at.result c.edge_at.ensures)
