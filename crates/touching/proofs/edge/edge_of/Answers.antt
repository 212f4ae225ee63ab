use Rattle.std.proofs.Common.{◌≡◌, ◌∙◌, nat_lt, length, get_or, ap, arith}
use Rattle.touching.specs.declared.edge.First.{First}
use Rattle.touching.specs.Inside.{edge_by, first_of}
use Rattle.touching.proofs.EdgeTables.{unknown_first, known_first}
use Rattle.touching.proofs.edge.edge_of.Goals as goal

pub returns-in-Unknown : goal.returns-in-Unknown
returns-in-Unknown c =
    let kind = c.args.kind in
    let raw = c.args.raw.now in
    let by : c.edge_by-edge.result ≡ edge_by kind (nat_lt 1 (length raw)) (first_of (get_or raw 0 0)) =
    c.edge_by-edge.ensures ∙ ap (λ (first : First). edge_by kind (nat_lt 1 (length raw)) first) c.first_of.ensures in
    c.long_edge.ensures ∙ unknown_first kind raw c.edge_by-edge.result c.in-len1-up.len_at_least (omega (arith, c.type_inv.raw 0)) by c.in-Unknown.is

pub returns-in_default : goal.returns-in_default
returns-in_default c =
    let kind = c.args.kind in
    let raw = c.args.raw.now in
    let by : c.edge_by-edge.result ≡ edge_by kind (nat_lt 1 (length raw)) (first_of (get_or raw 0 0)) =
    c.edge_by-edge.ensures ∙ ap (λ (first : First). edge_by kind (nat_lt 1 (length raw)) first) c.first_of.ensures in
    known_first kind raw c.edge_by-edge.result c.in-len1-up.len_at_least (omega (arith, c.type_inv.raw 0)) by c.in_default.not-Unknown
