-- Bytes that spell no `#`.
use Rattle.std.proofs.Common.{◌≡◌, ◌==◌, ◌||◌, ◌<◌, not, ℕ, Bool, true, false, List, [], ◌∷◌, length, refl, sym, arith, get_or}
use Rattle.std.proofs.lemmas.Bool.{or_parts}
use Rattle.c_grammar.specs.Rewritten.{read_alone}
use Rattle.replacements.specs.Stances.{may_begin_hash, SpellsNoHash}
use Rattle.replacements.proofs.Spelled.{plain_alone}

untrue : (b : Bool) → not b ≡ true → b ≡ false
untrue true e = sym e
untrue false e = refl

-- by the first one
pub first_no_hash : (raw : List ℕ) → 0 < length raw → not (may_begin_hash (get_or raw 0 0)) ≡ true → SpellsNoHash raw
first_no_hash [] some other = absurd (omega (arith, some))
first_no_hash (b ∷ s) some other = λ d.
    let hash = or_parts (b == 35) ((b == 37) || ((b == 63) || ((b == 13) || (b == 92)))) (untrue (may_begin_hash b) other) in
    let percent = or_parts (b == 37) ((b == 63) || ((b == 13) || (b == 92))) hash.1 in
    let question = or_parts (b == 63) ((b == 13) || (b == 92)) percent.1 in
    let return = or_parts (b == 13) (b == 92) question.1 in
    let reads : read_alone d (b ∷ s) ≡ b ∷ read_alone d s = plain_alone d b s question.0 return.0 return.1 in
    let no_hash : (b == 35) ≡ false = hash.0 in
    let no_percent : (b == 37) ≡ false = percent.0 in
    rw (reads, no_hash, no_percent) refl
