-- What items and sections as values stand for in the model.
use Rattle.std.specs.Prelude.{List, Option, Some, None, map, Vec}
use Rattle.std.specs.declared.alloc.Global.{Global}
use Rattle.c_grammar.specs.Twin.{Part}
use Rattle.pp_model.specs.Preprocess.{Item, SectionKind, Section, Source, Lexed, NotLexed}
use Rattle.pp_model.specs.Stream.{Streamed, Inside, InText, InDirective}
use Rattle.pp_items.specs.declared.item.PpItem.{PpItem}
use Rattle.pp_items.specs.declared.item.PpSection.{PpSection}
use Rattle.pp_items.specs.declared.item.Part.{Part as PartValue}
use Rattle.pp_items.specs.declared.item.Streamed.{Streamed as StreamedValue}
use Rattle.pp_items.specs.declared.item.SectionKind.{SectionKind as KindValue}
use Rattle.pp_items.specs.declared.cut.Within.{Within as WithinValue}

-- an item
abbrev pub item_shown : PpItem → Item
item_shown i = record { kind = i.kind; text = i.text.items; white = i.white; line = i.line }

-- a list of items
abbrev pub items_shown : Vec PpItem Global → List Item
items_shown v = map item_shown v.items

-- what a section is
abbrev pub kind_shown : KindValue → SectionKind
kind_shown KindValue.Text = SectionKind.Text
kind_shown KindValue.If = SectionKind.If
kind_shown KindValue.Ifdef = SectionKind.Ifdef
kind_shown KindValue.Ifndef = SectionKind.Ifndef
kind_shown KindValue.Elif = SectionKind.Elif
kind_shown KindValue.Elifdef = SectionKind.Elifdef
kind_shown KindValue.Elifndef = SectionKind.Elifndef
kind_shown KindValue.Else = SectionKind.Else
kind_shown KindValue.Endif = SectionKind.Endif
kind_shown KindValue.Include = SectionKind.Include
kind_shown KindValue.Define = SectionKind.Define
kind_shown KindValue.Undef = SectionKind.Undef
kind_shown KindValue.LineNumber = SectionKind.LineNumber
kind_shown KindValue.Error = SectionKind.Error
kind_shown KindValue.Warning = SectionKind.Warning
kind_shown KindValue.Embed = SectionKind.Embed
kind_shown KindValue.Pragma = SectionKind.Pragma
kind_shown KindValue.Null = SectionKind.Null
kind_shown KindValue.Unknown = SectionKind.Unknown

-- a section
abbrev pub section_shown : PpSection → Section
section_shown s =
    record { kind = kind_shown s.kind; function_like = s.function_like; items = items_shown s.items; next = s.next }

-- the sections of a text, or none where it doesn't lex
abbrev pub source_shown : Option (Vec PpSection Global) → Source
source_shown None = NotLexed
source_shown (Some v) = Lexed (map section_shown v.items)

-- what an item is to a directive
abbrev pub part_shown : PartValue → Part
part_shown PartValue.OfText = Part.OfText
part_shown PartValue.BeginsDirective = Part.BeginsDirective
part_shown PartValue.OpensParameters = Part.OpensParameters
part_shown PartValue.OfDirective = Part.OfDirective

-- an item as it is read
abbrev pub streamed_shown : StreamedValue → Streamed
streamed_shown s =
    record {
      part = part_shown s.part;
      kind = s.item.kind;
      text = s.item.text.items;
      white = s.item.white;
      line = s.item.line;
      begun = s.begun;
    }

-- the section that is read, with its items so far
abbrev pub within_shown : WithinValue → List Item → Inside
within_shown WithinValue.Text is = InText is
within_shown (WithinValue.Directive fl) is = InDirective fl is
