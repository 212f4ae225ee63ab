-- What a cutter makes of the items that are to come.
use Rattle.std.specs.Prelude.{List, map, ◌++◌, true}
use Rattle.pp_model.specs.Preprocess.{Section}
use Rattle.pp_model.specs.Stream.{Streamed, cut_from}
use Rattle.pp_items.specs.View.{section_shown, items_shown, within_shown}
use Rattle.pp_items.specs.declared.cut.Cutter.{Cutter}
use Rattle.pp_items.specs.declared.cut.Within.{Within}
use Rattle.pp_items.specs.declared.cut.Within.TheVariants.{Text, Directive}

-- the sections that are cut, and those that these items go on with
abbrev pub sections_with : Cutter → List Streamed → List Section
sections_with c rest =
    map section_shown c.done.items ++ cut_from c.dialect (within_shown c.within (items_shown c.items)) rest

-- a directive that defines a function-like macro
abbrev pub opened : Within → Within
opened Text = Text
opened (Directive fl) = Directive true
