use Rattle.std.proofs.Common.{◌∙◌, ap, sym}
use Rattle.std.specs.List.{list_any}
use Rattle.c_chars.specs.Characters.{bytes_of}
use Rattle.c_chars.specs.Coming.{Coming}
use Rattle.c_grammar.specs.Grammar.{is_new_line}
use Rattle.replacements.proofs.Spelled.{mark_lines, line_first, other_line}
use Rattle.replacements.proofs.reading.has_new_line.Goals as goal

pub loop-character-init : goal.loop-character-init
loop-character-init c = ap (λ (x : Coming). list_any is_new_line (bytes_of x.chars)) c.new-chars.ensures.coming ∙ mark_lines c.args.dialect c.args.gap.now

pub returns-then-character-eq10 : goal.returns-then-character-eq10
returns-then-character-eq10 c =
    line_first c.loop-character.chars.chars c.next.new.self.chars c.in-Some.character c.in-Some.ensures.some.0 c.if-character-eq10.true ∙ c.loop-character.invariant

pub loop-character-preserved : goal.loop-character-preserved
loop-character-preserved c =
    other_line c.loop-character.chars.chars c.next.new.self.chars c.in-Some.character c.in-Some.ensures.some.0 c.if-character-eq10.false ∙ c.loop-character.invariant

pub returns : goal.returns
returns c = ap (λ z. list_any is_new_line (bytes_of z)) (sym c.in_default.ensures.none.0) ∙ c.loop-character.invariant
