use Rattle.std.proofs.Common.{rules, ◌≡◌, ◌∙◌, List, length, ap, arith}
use Rattle.std.specs.Vec.{vec_len}
use Rattle.token_classes.specs.declared.pairing.Opener.{Opener}
use Rattle.part_walk.specs.Brackets.{heads_at}
use Rattle.part_walk.specs.Places.{place_in}
use Rattle.part_walk.proofs.Waits.{braces_many, stands_so}
use Rattle.part_walk.proofs.brackets.OpenBrackets.start.Goals as goal

pub returns-clause-braces : goal.returns-clause-braces
returns-clause-braces c =
    let all : vec_len c.begin_bodies.new.waiting ≡ length c.begin_bodies.new.waiting.items = first_of (omega (arith), search (rules), grind (arith, rules)) in
    c.len-braces.ensures ∙ (all ∙ (ap (λ (os : List Opener). length os) c.in_ok-begin_bodies.ensures.waiting ∙ braces_many (heads_at (place_in c.args.begins))))

pub returns-clause-around : goal.returns-clause-around
returns-clause-around c = stands_so _ _ _ _ _ c.around-around.ensures c.deref-2.ensures.value c.deref.ensures.value
