use Rattle.std.proofs.Common.{◌≡◌, ◌∙◌, ◌-◌, get_or, sym, ap, arith}
use Rattle.std.proofs.lemmas.List.Sums.{prefix_len-le-length}
use Rattle.c_chars.specs.Characters.{is_space_byte, is_quiet_comment}
use Rattle.c_chars.proofs.Words.{quiet_front, quiet_less, words_front}
use Rattle.c_chars.proofs.classes.quiet_words_len.Goals as goal

pub bounds-bytes-len : goal.bounds-bytes-len
bounds-bytes-len c =
    let few = prefix_len-le-length is_quiet_comment c.args.bytes.now in
    omega (arith, few, c.loop-len.invariant)

pub returns-else-is_space_byte-clause-within : goal.returns-else-is_space_byte-clause-within
returns-else-is_space_byte-clause-within c =
    let few = prefix_len-le-length is_quiet_comment c.args.bytes.now in
    omega (arith, few, c.loop-len.invariant)

pub returns-else-is_space_byte-clause-words : goal.returns-else-is_space_byte-clause-words
returns-else-is_space_byte-clause-words c =
    let less = quiet_less c.args.bytes.now in
    words_front c.loop-len.len c.args.bytes.now (omega (arith, less, c.loop-len.invariant)) (λ m e.
    let at : c.loop-len.len - 1 ≡ m = omega (arith, e) in
    ap (λ k. is_space_byte (get_or c.args.bytes.now k 0)) (sym at) ∙ (sym c.is_space_byte.ensures ∙ c.if-is_space_byte.false))

pub returns-else-is_space_byte-clause-quiet : goal.returns-else-is_space_byte-clause-quiet
returns-else-is_space_byte-clause-quiet c = quiet_front c.loop-len.len c.args.bytes.now c.loop-len.invariant
