use Rattle.std.proofs.Common.{◌≡◌, ◌∙◌, ◌-◌, ℕ, List, ap, arith, drop, length, sym}
use Rattle.fmt_ports.proofs.Taken.{held_length, rest_held}
use Rattle.fmt_ports.proofs.streams.room.Room.remove.Goals as goal

pub returns-else-self : goal.returns-else-self
returns-else-self c =
    let items = c.self.inside.bytes.items in
    let sent = c.self.inside.sent in
    let end = c.self.inside.end in
    let len : length c.args.self.now ≡ end - sent = ap (λ (l : List ℕ). length l) (sym c.self.view_is) ∙ held_length items sent end c.self.invariant.1 in
    rest_held items sent end c.args.count (omega (arith, c.requires, len, c.self.invariant.0)) ∙ ap (λ (l : List ℕ). drop c.args.count l) c.self.view_is
