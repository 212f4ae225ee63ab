use Rattle.std.proofs.Common.{◌≡◌, ◌∙◌, ◌+◌, ◌-◌, ◌≤◌, ◌++◌, ℕ, List, ap, sym, take, length, arith, rules}
use Rattle.std.proofs.lemmas.List.{with_items_is}
use Rattle.std.specs.List.{slice_range}
use borrow.Rule.Slice.PartMut.{mid_len, mid_of, post_of, put_mid, same_len_mid}
use Rattle.fmt_ports.proofs.Taken.{front_added}
use Rattle.fmt_ports.proofs.streams.room.Room.try_add_front.Goals as goal

pub returns-clause-added : goal.returns-clause-added
returns-clause-added c = λ _.
    let room : List ℕ = c.deref_mut.result.now in
    let copied : List ℕ = c.copy_from_slice.new.self in
    let sent = c.self.inside.sent in
    let end = c.self.inside.end in
    let bytes = c.args.bytes.now in
    let count : ℕ = (end + length bytes) - end in
    let whole : List ℕ = put_mid end count room copied in
    let behind : List ℕ = post_of end count room in
    let is : room ≡ c.self.inside.bytes.items = search rules in
    let len : length room ≡ length c.self.inside.bytes.items = ap (λ (l : List ℕ). length l) is in
    let fits : end + length bytes ≤ length room = omega arith in
    let few : count ≡ length bytes = omega arith in
    let part : length (mid_of end count room) ≡ count = mid_len end (end + length bytes) room fits in
    let many : length copied ≡ length bytes = ap (λ (l : List ℕ). length l) c.copy_from_slice.ensures.after in
    let same : length whole ≡ length room = same_len_mid end count room copied (many ∙ (sym few ∙ sym part)) in
    let long : length whole ≡ c.self.inside.bytes.len = same ∙ (len ∙ sym c.self.inside.bytes.ok.0) in
    ap (λ (l : List ℕ). slice_range l sent (end + c.args.count)) (with_items_is c.self.inside.bytes whole long)
    ∙ (ap (λ (l : List ℕ). slice_range (take end room ++ (l ++ behind)) sent (end + c.args.count)) c.copy_from_slice.ensures.after
    ∙ (front_added room bytes behind sent end c.args.count c.self.invariant.0 (omega (arith, c.self.invariant.1, len)) c.requires
    ∙ (ap (λ (l : List ℕ). slice_range l sent end ++ take c.args.count bytes) is ∙ ap (λ (l : List ℕ). l ++ take c.args.count bytes) c.self.view_is)))
