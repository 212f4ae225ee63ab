use Rattle.std.proofs.Common.{◌≤◌, ◌<◌, arith}
use Rattle.command_words.proofs.Digits.{few_digits}
use Rattle.command_words.proofs.budget.digits_in.Goals as goal

pub overflow_mul-number : goal.overflow_mul-number
overflow_mul-number c =
    let few : c.loop-byte.byte-index ≤ 8 = omega arith in
    let small : c.loop-byte.number < 100000000 = few_digits c.loop-byte.number c.loop-byte.byte-index c.loop-byte.invariant.small few in
    omega arith

pub overflow_add-number : goal.overflow_add-number
overflow_add-number c =
    let few : c.loop-byte.byte-index ≤ 8 = omega arith in
    let small : c.loop-byte.number < 100000000 = few_digits c.loop-byte.number c.loop-byte.byte-index c.loop-byte.invariant.small few in
    grind arith
