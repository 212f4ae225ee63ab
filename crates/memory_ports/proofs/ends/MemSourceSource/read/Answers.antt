use Rattle.std.proofs.Common.{◌≡◌, ℕ, List, min, length, take, drop, arith}
use Rattle.std.proofs.lemmas.List.{take_rest}
use Rattle.memory_ports.proofs.Copied.{read_copied, copied_none}
use Rattle.memory_ports.proofs.ends.MemSourceSource.read.Goals as goal

pub returns-clause-bytes : goal.returns-clause-bytes
returns-clause-bytes c =
    let xs : List ℕ = c.self.inside.bytes.items in
    let at : ℕ = c.self.inside.at in
    let n : ℕ = c.min-count.result in
    let is : n ≡ min (length (drop at xs)) (length c.args.buf.now) =
    rw (take_rest c.deref.result.now at, c.deref.ensures.value) at c.min-count.ensures in
    let copied : c.copy_from_slice.new.self ≡ take n (drop at xs) =
    rw (take_rest c.deref.result.now at, c.deref.ensures.value) at c.copy_from_slice.ensures.after in
    rw (← c.self.view_is) (
      read_copied xs c.args.buf.now c.copy_from_slice.new.self at n (omega (arith, is)) copied,
      copied_none xs c.args.buf.now c.copy_from_slice.new.self at n is copied (omega (arith, is)),
    )
