-- The lines that are asked for: docs/PROFILE.md, "Lines that are asked for" and "Words of the command".
use Rattle.std.specs.Prelude.{◌≡◌, ⊤, List, Option, Some, None, Ok, Err}
use Rattle.std.specs.declared.result.Result.{Result}
use Rattle.clap.specs.Words.{Text}
use Rattle.off_regions.specs.Form.{ranges_in}
use Rattle.off_regions.specs.declared.fault.RangeFault.{RangeFault}
use Rattle.off_regions.specs.declared.range.LineRange.{LineRange}
use Rattle.command_words.specs.declared.fault.WordsFault.{WordsFault}
use Rattle.command_words.specs.declared.fault.WordsFault.TheVariants.{BadLines, NoMemory}

-- ranges that a text tells are those that are asked for
abbrev pub asked_by : Result (List LineRange) RangeFault → Result (Option (List LineRange)) RangeFault
asked_by (Ok ranges) = Ok (Some ranges)
asked_by (Err fault) = Err fault

-- the ranges that a value of `--lines` tells, or why it tells none; without a value all lines are asked for
abbrev pub lines_of : Option Text → Result (Option (List LineRange)) RangeFault
lines_of None = Ok None
lines_of (Some word) = asked_by (ranges_in word)

-- a value of `--lines` is no list of ranges, for this fault
pub record IsBadLines (value : Option Text) (word : Text) (fault : RangeFault) : Type 0 where
  pub given : value ≡ Some word
  pub bad : ranges_in word ≡ Err fault

-- the ranges that a value of `--lines` tells, or why it is refused; want of memory may come at any time
abbrev pub IsLinesOrNot : Option Text → Result (Option (List LineRange)) WordsFault → Type 0
IsLinesOrNot value (Ok lines) = lines_of value ≡ Ok lines
IsLinesOrNot value (Err (BadLines word fault)) = IsBadLines value word.now fault
IsLinesOrNot value (Err NoMemory) = ⊤
IsLinesOrNot value (Err fault) = ⊥
