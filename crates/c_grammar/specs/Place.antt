-- The place where an item stands, as who reads a text keeps it.
use Rattle.std.specs.Prelude.{◌≡◌, ◌⊎◌, ℕ, ◌≤◌, List, length, take, if◌then◌else◌}
use Rattle.c_chars.specs.Characters.{bytes_of}
use Rattle.c_chars.specs.Coming.{Coming, AreBetween, behind}
use Rattle.c_chars.specs.declared.Dialect.{Dialect}
use Rattle.c_grammar.specs.Items.{Place, LineStart, AfterHash, AfterInclude, AfterDefine, AfterMacroName, InDirective}
use Rattle.c_grammar.specs.Items.{InText, is_hash, past_name}
use Rattle.c_grammar.specs.declared.place.Standing.{Standing}
use Rattle.c_grammar.specs.declared.place.Standing.TheVariants.{FirstInLine, BehindHash, BehindInclude, BehindDefine}
use Rattle.c_grammar.specs.declared.place.Standing.TheVariants.{BehindMacroName, WithinDirective, WithinText}

-- the place that an item has that stands so
abbrev pub place_of : Standing → Place
place_of FirstInLine = LineStart
place_of BehindHash = AfterHash
place_of BehindInclude = AfterInclude
place_of BehindDefine = AfterDefine
place_of BehindMacroName = AfterMacroName
place_of WithinDirective = InDirective
place_of WithinText = InText

-- behind an item whose spelling tells nothing
abbrev pub past_plain : Place → Place
past_plain LineStart = InText
past_plain InText = InText
past_plain place = InDirective

-- behind a punctuator
abbrev pub past_mark : Place → List ℕ → Place
past_mark LineStart s = if is_hash s then AfterHash else InText
past_mark place s = past_plain place

-- behind a word
abbrev pub past_word : Dialect → Place → List ℕ → Place
past_word d AfterHash s = past_name d s
past_word d AfterDefine s = AfterMacroName
past_word d place s = past_plain place

-- An item stands in a text line, or first in its line.
abbrev pub IsInText : Place → Type 0
IsInText place = (place ≡ LineStart) ⊎ (place ≡ InText)

-- The characters that are to come stand one behind another in the text.
pub record IsSpanned (x : Coming) : Type 0 where
  pub high : ℕ
  pub spans : AreBetween x.at x.chars high

-- It holds of the characters of the text up to what is left of it.
abbrev pub SpelledBy : Coming → Coming → (List ℕ → Type 0) → Type 0
SpelledBy text left Holds =
    (n : ℕ) → n ≤ length text.chars → left ≡ behind text n → Holds (take n (bytes_of text.chars))
