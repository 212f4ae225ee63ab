use Rattle.std.proofs.Common.{◌≡◌, ◌∙◌, ◌&&◌, true, get_or, sym, ap}
use Rattle.std.proofs.lemmas.Bool.{both_ways}
use Rattle.c_grammar.specs.Touch.{is_punct}
use Rattle.token_arena.specs.Hashes.{may_spell_hash}
use Rattle.token_arena.proofs.Hashes.{empty_hash, plain_hash}
use Rattle.token_arena.proofs.reading.may_be_plain_hash.Goals as goal
use Rattle.token_arena.proofs.reading.may_be_plain_hash.Goals.{in-Punct, in_default}

pub returns-in_default-raw : goal.returns-in_default-raw
returns-in_default-raw c =
    let punct : is_punct c.args.kind ≡ true =
    elim c.match-matches.branch [
      | in-Punct w ↦ ap is_punct w.in-Punct.is
      | in_default w ↦ absurd (both_ways c.match-matches.matches w.matches-is c.if-not-matches.false)
    ] in
    empty_hash c.args.raw.now c.in_default-raw.len_below ∙ sym (ap (λ b. b && may_spell_hash (get_or c.args.raw.now 0 0)) punct)

pub returns-in-len1-up : goal.returns-in-len1-up
returns-in-len1-up c =
    let punct : is_punct c.args.kind ≡ true =
    elim c.match-matches.branch [
      | in-Punct w ↦ ap is_punct w.in-Punct.is
      | in_default w ↦ absurd (both_ways c.match-matches.matches w.matches-is c.if-not-matches.false)
    ] in
    plain_hash c.args.raw.now c.requires ∙ sym (ap (λ b. b && may_spell_hash (get_or c.args.raw.now 0 0)) punct)
