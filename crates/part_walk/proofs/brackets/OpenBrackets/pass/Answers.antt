use Rattle.std.proofs.Common.{rules, ◌≡◌, ◌∙◌, length, reverse, sym, arith}
use Rattle.std.specs.Vec.{vec_len}
use Rattle.std.proofs.lemmas.List.{length-reverse}
use Rattle.part_walk.proofs.Waits.{stands_so}
use Rattle.part_walk.proofs.brackets.OpenBrackets.pass.Goals as goal

pub returns-clause-walk : goal.returns-clause-walk
returns-clause-walk c =
    let new = reverse c.pass_bracket.new.waiting.items in
    let all : vec_len c.pass_bracket.new.waiting ≡ length c.pass_bracket.new.waiting.items = first_of (omega (arith), search (rules), grind (arith, rules)) in
    let many : length new ≡ c.len.result = length-reverse c.pass_bracket.new.waiting.items ∙ (sym all ∙ sym c.len.ensures) in
    c.in_ok-pass_brace.ensures.walk new many

pub returns-clause-bodies : goal.returns-clause-bodies
returns-clause-bodies c =
    let new = reverse c.pass_bracket.new.waiting.items in
    let all : vec_len c.pass_bracket.new.waiting ≡ length c.pass_bracket.new.waiting.items = first_of (omega (arith), search (rules), grind (arith, rules)) in
    let many : length new ≡ c.len.result = length-reverse c.pass_bracket.new.waiting.items ∙ (sym all ∙ sym c.len.ensures) in
    c.in_ok-pass_brace.ensures.bodies new many

pub returns-clause-around : goal.returns-clause-around
returns-clause-around c = stands_so _ _ _ _ _ c.around-self.ensures c.deref-2.ensures.value c.deref.ensures.value
