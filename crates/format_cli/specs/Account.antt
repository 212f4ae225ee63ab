-- What a call did, from the words to its last input.
use Rattle.std.specs.Prelude.{◌≡◌, ◌≢◌, ◌⊎◌, ◌↔◌, ℕ, Bool, true, false, List, [], Option, Some, None, Ok, IsTrue}
use Rattle.std.specs.Prelude.{IsFalse, ◌&&◌, if◌then◌else◌, map}
use Rattle.std.proofs.Common.{inl, inr}
use Rattle.std.specs.Io.KnownBytes.{Appends, Keeps}
use Rattle.fmt_ports.specs.Causes.{AppendsPart, Rose}
use Rattle.fmt_ports.specs.Files.{Held, KeepsAll}
use Rattle.style_table.specs.declared.style.Style.{Style}
use Rattle.style_config.specs.Dump.{dump_text}
use Rattle.command_words.specs.declared.pieces.Generate.{Generate}
use Rattle.command_words.specs.declared.read.Words.{Words}
use Rattle.command_words.specs.Said.{Reads}
use Rattle.command_refusals.specs.declared.refusal.Refusal.{Refusal}
use Rattle.command_refusals.specs.declared.refusal.Refusal.TheVariants.{OutFailed}
use Rattle.command_refusals.specs.InForce.{IsInForce, IsStyleRefused}
use Rattle.command_refusals.specs.Notes.{row_of, status_of}
use Rattle.command_refusals.specs.Words.{AreWordsRefused}
use Rattle.format_cli.specs.declared.command.Outcome.{Outcome}
use Rattle.format_cli.specs.declared.command.Outcome.TheVariants.{Done, WouldChange}
use Rattle.format_cli.specs.Options.{Options}
use Rattle.format_cli.specs.declared.input.Place.{Place}
use Rattle.format_cli.specs.declared.input.Place.TheVariants.{Output, Itself, Nowhere}
use Rattle.format_cli.specs.Generated.{IsGeneratedDone, IsGeneratedRefused, text_of}
use Rattle.format_cli.specs.Inputs.{Ends, ends, IsSourceDone, IsSourceRefused, AreDone, AreRefused, SomeChanges}

-- where the texts go: nowhere with `--dry-run`, and otherwise into their files with `-i`, and to the output without
abbrev pub place_of : (dry_run in_place : Bool) → Place
place_of true in_place = Nowhere
place_of false true = Itself
place_of false false = Output

-- the FILEs of the words
abbrev pub files_of : Words → List (List ℕ)
files_of said = map (λ name. name.now) said.files.items

-- how texts are formatted: in this style, with the lines and the budget of the words
abbrev pub options_of : Words → Style → Options
options_of said style = record { style = style; ranges = said.lines; budget = said.budget }

-- Standard input, what the output and the notes have taken, and the files, at one moment.
pub record World : Type 0 where
  pub left : Option (List ℕ)
  pub ends : Ends

abbrev pub world : (left taken : Option (List ℕ)) → Held → (told : Option (List ℕ)) → World
world left taken held told = record { left = left; ends = ends taken held told }

-- the output took the style's text, and nothing else happened
pub record IsDumped (style : Style) (before now : World) : Type 0 where
  pub text : Appends before.ends.taken now.ends.taken (dump_text style)
  pub held : KeepsAll before.ends.held now.ends.held
  pub told : Keeps before.ends.told now.ends.told
  pub left : now.left ≡ before.left

-- the notes took the rows of standard input, and the output its formatted text
pub record IsSourceWritten (options : Options) (place : Place) (before now : World) : Type 0 where
  pub done : IsSourceDone options place before.left before.ends.taken now.ends.taken before.ends.told now.ends.told
  pub held : KeepsAll before.ends.held now.ends.held

-- every FILE was done, and standard input wasn't read
pub record AreFilesWritten (said : Words) (style : Style) (before now : World) : Type 0 where
  pub some : files_of said ≢ []
  pub done : AreDone (options_of said style) (place_of said.dry_run said.in_place) (files_of said) before.ends now.ends
  pub left : now.left ≡ before.left

-- the text that `--generate` makes was done, and nothing but its rows was written; standard input wasn't read
pub record IsGeneratedTold (said : Words) (style : Style) (before now : World) : Type 0 where
  pub generate : Generate
  pub given : said.generate ≡ Some generate
  pub done : IsGeneratedDone (options_of said style) (text_of generate) before.ends.told now.ends.told
  pub taken : Keeps before.ends.taken now.ends.taken
  pub held : KeepsAll before.ends.held now.ends.held
  pub left : now.left ≡ before.left

-- What the words ask for was done: the style was dumped, or else every input was done, or the one that `--generate`
-- makes.
abbrev pub IsPerformed : Words → Style → World → World → Type 0
IsPerformed said style before now =
    (IsTrue said.dump_config × IsDumped style before now)
    ⊎ (IsFalse said.dump_config × (files_of said ≡ [])
    × IsSourceWritten (options_of said style) (place_of said.dry_run said.in_place) before now
    × (said.generate ≡ None))
    ⊎ (IsFalse said.dump_config × AreFilesWritten said style before now)
    ⊎ (IsFalse said.dump_config × IsGeneratedTold said style before now)

-- what the words ask for was done, and the text of some input changes
abbrev pub TextChanges : (said : Words) (style : Style) (before now : World) → IsPerformed said style before now →
    Type 0
TextChanges said style before now (inl dumped) = ⊥
TextChanges said style before now (inr (inl source)) = source.2.done.1 ≢ source.2.done.0
TextChanges said style before now (inr (inr (inl files))) =
    SomeChanges (options_of said style) (place_of said.dry_run said.in_place) (files_of said) before.ends now.ends
    files.1.done
TextChanges said style before now (inr (inr (inr made))) = made.1.done.0 ≢ text_of made.1.generate

-- what the words ask for was done, and this tells whether some text changes
abbrev pub IsPerformedWith : Words → Style → World → World → (changes : Bool) → Type 0
IsPerformedWith said style before now changes =
    (performed : IsPerformed said style before now) × (IsTrue changes ↔ TextChanges said style before now performed)

-- the output failed and took a front of the style's text
pub record IsDumpRefused (style : Style) (before now : World) (refusal : Refusal) : Type 0 where
  pub cause : refusal ≡ OutFailed
  pub text : AppendsPart before.ends.taken now.ends.taken (dump_text style)
  pub held : KeepsAll before.ends.held now.ends.held
  pub told : Keeps before.ends.told now.ends.told
  pub left : now.left ≡ before.left

-- standard input was refused
pub record IsSourceNotWritten (options : Options) (place : Place) (before now : World) (refusal : Refusal) : Type 0
  where
    pub refused : IsSourceRefused options place before.left before.ends.taken now.ends.taken before.ends.told
        now.ends.told refusal
    pub held : KeepsAll before.ends.held now.ends.held

-- one of the FILEs was refused, those before it done, and standard input wasn't read
pub record AreFilesNotWritten (said : Words) (style : Style) (before now : World) (refusal : Refusal) : Type 0 where
  pub some : files_of said ≢ []
  pub refused : AreRefused (options_of said style) (place_of said.dry_run said.in_place) (files_of said) before.ends
      now.ends refusal
  pub left : now.left ≡ before.left

-- the text that `--generate` makes was refused, nothing but rows was written, and standard input wasn't read
pub record IsGeneratedNotTold (said : Words) (style : Style) (before now : World) (refusal : Refusal) : Type 0 where
  pub generate : Generate
  pub given : said.generate ≡ Some generate
  pub refused : IsGeneratedRefused (options_of said style) (text_of generate) before.ends.told now.ends.told refusal
  pub taken : Keeps before.ends.taken now.ends.taken
  pub held : KeepsAll before.ends.held now.ends.held
  pub left : now.left ≡ before.left

-- what the words ask for ended in this refusal
abbrev pub IsNotPerformed : Words → Style → World → World → Refusal → Type 0
IsNotPerformed said style before now refusal =
    (IsTrue said.dump_config × IsDumpRefused style before now refusal)
    ⊎ (IsFalse said.dump_config × (files_of said ≡ [])
    × IsSourceNotWritten (options_of said style) (place_of said.dry_run said.in_place) before now refusal
    × (said.generate ≡ None))
    ⊎ (IsFalse said.dump_config × AreFilesNotWritten said style before now refusal)
    ⊎ (IsFalse said.dump_config × IsGeneratedNotTold said style before now refusal)

-- ---- a whole call

-- nothing was read from standard input, and nothing written but notes
pub record IsUntouched (before now : World) : Type 0 where
  pub taken : Keeps before.ends.taken now.ends.taken
  pub held : KeepsAll before.ends.held now.ends.held
  pub left : now.left ≡ before.left

-- a call was refused for its words: nothing else happened
pub record EndsAtWords (words : List (List ℕ)) (before now : World) (refusal : Refusal) : Type 0 where
  pub cause : AreWordsRefused words refusal
  pub untouched : IsUntouched before now
  pub silent : Keeps before.ends.told now.ends.told

-- a call was refused for its style: no input was read, and nothing but rows was written
pub record EndsAtStyle (words : List (List ℕ)) (before now : World) (refusal : Refusal) : Type 0 where
  pub said : Words
  pub reads : Reads words (Ok said)
  pub refused : IsStyleRefused said.style before.ends.held before.ends.told now.ends.told refusal
  pub untouched : IsUntouched before now

-- The words and the style in force are these, `begun` is the world after the style was read, and the notes took the
-- rows of the skipped keys.
pub record IsBegun (words : List (List ℕ)) (before begun : World) (said : Words) (style : Style) : Type 0 where
  pub reads : Reads words (Ok said)
  pub rows : List ℕ
  pub in_force : IsInForce said.style before.ends.held style rows
  pub told : Appends before.ends.told begun.ends.told rows
  pub untouched : IsUntouched before begun

-- a call was refused at its output or at one of its inputs
pub record EndsAtInputs (words : List (List ℕ)) (before now : World) (refusal : Refusal) : Type 0 where
  pub said : Words
  pub style : Style
  pub begun : World
  pub begins : IsBegun words before begun said style
  pub refused : IsNotPerformed said style begun now refusal

-- the status of a call that did all that its words ask for
abbrev pub outcome_status : Outcome → ℕ
outcome_status Done = 0
outcome_status WouldChange = 1

-- how a call ends, where all was done, and these tell whether the words ask for texts that change and whether some text
-- does
abbrev pub outcome_of : (asks changes : Bool) → Outcome
outcome_of asks changes = if asks && changes then WouldChange else Done

-- the words have `--dry-run` and `--Werror`, and some text changes
abbrev pub WouldFail : Words → (changes : Type 0) → Type 0
WouldFail said changes = IsTrue said.dry_run × IsTrue said.werror × changes

-- 1 where a dry run with `--Werror` found a text that changes, and otherwise 0
abbrev pub Answers : (fails : Type 0) → (status : ℕ) → Type 0
Answers fails status = (fails × (status ≡ 1)) ⊎ ((¬ fails) × (status ≡ 0))

-- A call did all that its words ask for, and this is its status: the notes took the rows of the skipped keys, and then
-- those of each input.
pub record EndsWell (words : List (List ℕ)) (before now : World) (status : ℕ) : Type 0 where
  pub said : Words
  pub style : Style
  pub begun : World
  pub begins : IsBegun words before begun said style
  pub performed : IsPerformed said style begun now
  pub answers : Answers (WouldFail said (TextChanges said style begun now performed)) status

-- a call was refused so: for its words, for its style, or at its output or inputs
abbrev pub IsRefused : List (List ℕ) → World → World → Refusal → Type 0
IsRefused words before now refusal =
    EndsAtWords words before now refusal ⊎ EndsAtStyle words before now refusal
    ⊎ EndsAtInputs words before now refusal

-- the same world, where the notes have taken this
abbrev pub where_told : World → Option (List ℕ) → World
where_told now told = world now.left now.ends.taken now.ends.held told

-- A call was refused with this status, and the notes took the row of the refusal last; or a front of it, where their
-- faults rose.
pub record IsRefusedWith (words : List (List ℕ)) (before now : World) (faults faults' : ℕ) (status : ℕ) : Type 0 where
  pub refusal : Refusal
  pub is_its : status ≡ status_of refusal
  pub told : Option (List ℕ)
  pub refused : IsRefused words before (where_told now told) refusal
  pub row : Appends told now.ends.told (row_of refusal)
      ⊎ (Rose faults faults' × AppendsPart told now.ends.told (row_of refusal))
