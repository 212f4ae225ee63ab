use Rattle.token_arena.proofs.Standings.{sections_say_how_items_stand, outside_is_at_no_directive, inside_is_on_one_line}
use Rattle.token_arena.proofs.Numbers.{each_item_stands_as_its_section_says}
use Rattle.token_arena.proofs.directives.laws.sections_say_how_items_stand.Goals as goal

pub returns-clause-standings : goal.returns-clause-standings
returns-clause-standings c = sections_say_how_items_stand

pub returns-clause-outside : goal.returns-clause-outside
returns-clause-outside c = outside_is_at_no_directive

pub returns-clause-inside : goal.returns-clause-inside
returns-clause-inside c = inside_is_on_one_line

pub returns-clause-by_number : goal.returns-clause-by_number
returns-clause-by_number c = each_item_stands_as_its_section_says
