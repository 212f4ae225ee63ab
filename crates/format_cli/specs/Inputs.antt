-- What is done with the inputs, in their order.
use Rattle.std.specs.Prelude.{◌≡◌, ◌≢◌, ◌≤◌, ◌<◌, ◌⊎◌, ◌↔◌, ⊤, ℕ, Bool, IsTrue, not, List, [], ◌∷◌, Option, IfSome}
use Rattle.std.specs.Prelude.{codes, false, length, true}
use Rattle.std.specs.Borrow.{Bor}
use Rattle.std.specs.Io.KnownBytes.{Appends, Keeps}
use Rattle.fmt_ports.specs.Causes.{AppendsPart}
use Rattle.fmt_ports.specs.Files.{Held, KeepsAll, KeepsOthers}
use Rattle.fmt_ports.specs.declared.files.FileFault.{FileFault}
use Rattle.fmt_ports.specs.declared.files.FileFault.TheVariants as File
use Rattle.c_chars.specs.declared.TheConstants.{LIMIT}
use Rattle.c_chars.specs.declared.Dialect.TheVariants.{C11}
use Rattle.c_lexer.specs.Fault.{IsOpenAt}
use Rattle.c_grammar.specs.Grammar.{is_same}
use Rattle.c_grammar.specs.Twin.{IsTwin}
use Rattle.pp_model.specs.Alike.{Alike}
use Rattle.run_layout.specs.declared.report.Counts.{Counts}
use Rattle.run_layout.specs.declared.report.Report.{Report}
use Rattle.format_core.specs.Formats.{Formats}
use Rattle.format_core.specs.declared.fault.FormatFault.{FormatFault}
use Rattle.format_core.specs.declared.fault.FormatFault.TheVariants as Format
use Rattle.format_core.specs.Reports.{AreCounts}
use Rattle.command_refusals.specs.declared.refusal.Refusal.{Refusal}
use Rattle.command_refusals.specs.declared.refusal.Refusal.TheVariants.{TooLarge, OpenComment, SourceFailed, FileFailed}
use Rattle.command_refusals.specs.declared.refusal.Refusal.TheVariants.{OutFailed, NotesFailed, Missing, NoMemory}
use Rattle.command_refusals.specs.InForce.{IsHeld, IsLonger, IsMissing}
use Rattle.format_cli.specs.Options.{Options}
use Rattle.format_cli.specs.Notes.{input_rows}
use Rattle.format_cli.specs.declared.input.Place.{Place}
use Rattle.format_cli.specs.declared.input.Place.TheVariants.{Output, Itself, Nowhere}

-- The second text is the formatted text of the first, which is within the limit, with these reports and counts: a twin
-- of it that preprocesses alike.
pub record IsFormatted (options : Options) (b c : List ℕ) : Type 0 where
  pub fits : length b ≤ LIMIT
  pub reports : List Report
  pub counts : Counts
  pub formats : Formats options.style options.ranges options.budget C11 b c reports
  pub counted : AreCounts formats.contents formats.done counts
  pub twins : IsTwin C11 b c
  pub alike : Alike C11 b c

-- what the output has taken, the files, and what the notes have taken
pub record Ends : Type 0 where
  pub taken : Option (List ℕ)
  pub held : Held
  pub told : Option (List ℕ)

abbrev pub ends : Option (List ℕ) → Held → Option (List ℕ) → Ends
ends taken held told = record { taken = taken; held = held; told = told }

-- nothing was written
pub record Stays (before now : Ends) : Type 0 where
  pub taken : Keeps before.taken now.taken
  pub held : KeepsAll before.held now.held
  pub told : Keeps before.told now.told

-- the rows of what an input of this name has of reports, and in a dry run its summary
abbrev pub rows_told : {options : Options} {b c : List ℕ} → Place → List ℕ → IsFormatted options b c → List ℕ
rows_told {options} {b} {c} place name made =
    input_rows place name options.budget made.reports made.counts (not (is_same c b))

-- why a text of this name isn't formatted
abbrev pub IsTextCause : List ℕ → List ℕ → Refusal → Type 0
IsTextCause name text (TooLarge input) = (input.now ≡ name) × (LIMIT < length text)
IsTextCause name text (OpenComment input at) = (input.now ≡ name) × (length text ≤ LIMIT) × IsOpenAt C11 text at
IsTextCause name text NoMemory = ⊤
IsTextCause name text refusal = ⊥

-- the refusal of a text of this name that isn't formatted
abbrev pub text_refusal : Bor (List ℕ) → FormatFault → Refusal
text_refusal name (Format.UnterminatedComment start) = OpenComment name start
text_refusal name (Format.TooLarge bytes) = TooLarge name
text_refusal name Format.NoMemory = NoMemory

-- a text of this name was formatted, and the notes took its rows
abbrev pub IsTextTold : Options → Place → (name b c : List ℕ) → (told told' : Option (List ℕ)) → Type 0
IsTextTold options place name b c told told' =
    (made : IsFormatted options b c) × Appends told told' (rows_told place name made)

-- A text of this name was refused before it went anywhere: no row was told, for this cause, or the notes failed and
-- took a front of its rows.
abbrev pub IsTextRefused : Options → Place → (name b : List ℕ) → (told told' : Option (List ℕ)) → Refusal → Type 0
IsTextRefused options place name b told told' refusal =
    (Keeps told told' × IsTextCause name b refusal)
    ⊎ ((refusal ≡ NotesFailed)
    × ((c : List ℕ) × (made : IsFormatted options b c) × AppendsPart told told' (rows_told place name made)))

-- ---- standard input

-- where standard input is told, it has these bytes
abbrev pub IsTold : Option (List ℕ) → List ℕ → Type 0
IsTold input bytes = IfSome input (λ b. bytes ≡ b)

-- the formatted text of standard input went to the output, and in a dry run nowhere
abbrev pub SourcePuts : Place → (c : List ℕ) → (old new : Option (List ℕ)) → Type 0
SourcePuts Output c old new = Appends old new c
SourcePuts Itself c old new = Appends old new c
SourcePuts Nowhere c old new = Keeps old new

-- the output failed and took a front of the formatted text of standard input
abbrev pub SourcePutFails : Place → (c : List ℕ) → (old new : Option (List ℕ)) → Type 0
SourcePutFails Output c old new = AppendsPart old new c
SourcePutFails Itself c old new = AppendsPart old new c
SourcePutFails Nowhere c old new = ⊥

-- the notes took the rows of standard input, and the output its formatted text
abbrev pub IsSourceDone : Options → Place → (input old new told told' : Option (List ℕ)) → Type 0
IsSourceDone options place input old new told told' =
    (b : List ℕ) × (c : List ℕ) × IsTold input b × (made : IsFormatted options b c) × SourcePuts place c old new
    × Appends told told' (rows_told place (codes "<stdin>") made)

-- standard input was done, and this tells whether its text changes
abbrev pub IsSourceDoneWith : Options → Place → (input old new told told' : Option (List ℕ)) → (changes : Bool) → Type 0
IsSourceDoneWith options place input old new told told' changes =
    (done : IsSourceDone options place input old new told told') × (IsTrue changes ↔ (done.1 ≢ done.0))

-- why standard input isn't done, where nothing of it was written
abbrev pub IsSourceCause : Option (List ℕ) → Refusal → Type 0
IsSourceCause input (TooLarge name) = (name.now ≡ codes "<stdin>") × IfSome input (λ b. LIMIT < length b)
IsSourceCause input (OpenComment name at) =
    (name.now ≡ codes "<stdin>") × ((b : List ℕ) × IsTold input b × (length b ≤ LIMIT) × IsOpenAt C11 b at)
IsSourceCause input SourceFailed = ⊤
IsSourceCause input NoMemory = ⊤
IsSourceCause input refusal = ⊥

-- Standard input was refused: behind its rows a front of its formatted text was written, or a front of its rows, or
-- nothing for this cause.
abbrev pub IsSourceRefused : Options → Place → (input old new told told' : Option (List ℕ)) → Refusal → Type 0
IsSourceRefused options place input old new told told' OutFailed =
    (b : List ℕ) × (c : List ℕ) × IsTold input b × (made : IsFormatted options b c) × SourcePutFails place c old new
    × Appends told told' (rows_told place (codes "<stdin>") made)
IsSourceRefused options place input old new told told' NotesFailed =
    (b : List ℕ) × (c : List ℕ) × IsTold input b × (made : IsFormatted options b c) × Keeps old new
    × AppendsPart told told' (rows_told place (codes "<stdin>") made)
IsSourceRefused options place input old new told told' refusal =
    Keeps old new × IsSourceCause input refusal × Keeps told told'

-- ---- a FILE

-- The formatted text `c` of a FILE `b` went to its place: to the output, or with `-i` into the file, which is written
-- only where its text changes; in a dry run nothing was written.
abbrev pub Puts : Place → (name b c : List ℕ) → Ends → Ends → Type 0
Puts Output name b c before now = Appends before.taken now.taken c × KeepsAll before.held now.held
Puts Itself name b c before now =
    Keeps before.taken now.taken
    × (((c ≡ b) × KeepsAll before.held now.held)
    ⊎ ((c ≢ b) × IsHeld now.held name c × KeepsOthers name before.held now.held))
Puts Nowhere name b c before now = Keeps before.taken now.taken × KeepsAll before.held now.held

-- a FILE was done: behind its rows its text was put in its place
abbrev pub IsDone : Options → Place → List ℕ → Ends → Ends → Type 0
IsDone options place name before now =
    (b : List ℕ) × (c : List ℕ) × IsHeld before.held name b × (made : IsFormatted options b c)
    × Puts place name b c before now
    × Appends before.told now.told (rows_told place name made)

-- a FILE was done, and this tells whether its text changes
abbrev pub IsDoneWith : Options → Place → List ℕ → Ends → Ends → (changes : Bool) → Type 0
IsDoneWith options place name before now changes =
    (done : IsDone options place name before now) × (IsTrue changes ↔ (done.1 ≢ done.0))

-- why a FILE isn't done, where nothing of it was written
abbrev pub IsFileCause : Held → List ℕ → Refusal → Type 0
IsFileCause held name (Missing file) = (file.now ≡ name) × IsMissing held name
IsFileCause held name (TooLarge file) = (file.now ≡ name) × IsLonger held name LIMIT
IsFileCause held name (OpenComment file at) =
    (file.now ≡ name) × ((b : List ℕ) × IsHeld held name b × (length b ≤ LIMIT) × IsOpenAt C11 b at)
IsFileCause held name (FileFailed file) = file.now ≡ name
IsFileCause held name NoMemory = ⊤
IsFileCause held name refusal = ⊥

-- the refusal of a FILE that can't be read or written
abbrev pub file_refusal : Bor (List ℕ) → FileFault → Refusal
file_refusal name File.Missing = Missing name
file_refusal name File.Failed = FileFailed name
file_refusal name File.TooLong = TooLarge name
file_refusal name File.NoMemory = NoMemory

-- a file wasn't written back: it is unknown, or no file changed
abbrev pub IsWriteRefused : List ℕ → Held → Held → Refusal → Type 0
IsWriteRefused name old new (FileFailed file) = (file.now ≡ name) × KeepsOthers name old new
IsWriteRefused name old new NoMemory = KeepsAll old new
IsWriteRefused name old new refusal = ⊥

-- the formatted text of a FILE, which changes or not, went to its place
abbrev pub FilePuts : Place → (name c : List ℕ) → (changes : Bool) → (taken taken' : Option (List ℕ)) → Held → Held →
    Type 0
FilePuts Output name c changes taken taken' held held' = Appends taken taken' c × KeepsAll held held'
FilePuts Itself name c true taken taken' held held' =
    Keeps taken taken' × IsHeld held' name c × KeepsOthers name held held'
FilePuts Itself name c false taken taken' held held' = Keeps taken taken' × KeepsAll held held'
FilePuts Nowhere name c changes taken taken' held held' = Keeps taken taken' × KeepsAll held held'

-- the output took a front of the formatted text of a FILE, or the file, whose text changes, wasn't written back
abbrev pub FilePutFails : Place → (name c : List ℕ) → (changes : Bool) → (taken taken' : Option (List ℕ)) → Held →
    Held → Refusal → Type 0
FilePutFails Output name c changes taken taken' held held' refusal =
    (refusal ≡ OutFailed) × AppendsPart taken taken' c × KeepsAll held held'
FilePutFails Itself name c changes taken taken' held held' refusal =
    IsTrue changes × Keeps taken taken' × IsWriteRefused name held held' refusal
FilePutFails Nowhere name c changes taken taken' held held' refusal = ⊥

-- Behind these rows a write of a text failed: the output took a front of it, or with `-i` the file, whose text changes,
-- is unknown, or no file changed. Or the notes failed and took a front of the rows.
abbrev pub PutFails : Place → (name b c rows : List ℕ) → Ends → Ends → Refusal → Type 0
PutFails Output name b c rows before now OutFailed =
    AppendsPart before.taken now.taken c × KeepsAll before.held now.held × Appends before.told now.told rows
PutFails Output name b c rows before now NotesFailed =
    Keeps before.taken now.taken × KeepsAll before.held now.held × AppendsPart before.told now.told rows
PutFails Itself name b c rows before now (FileFailed file) =
    (file.now ≡ name) × (c ≢ b) × Keeps before.taken now.taken × KeepsOthers name before.held now.held
    × Appends before.told now.told rows
PutFails Itself name b c rows before now NotesFailed =
    Keeps before.taken now.taken × KeepsAll before.held now.held × AppendsPart before.told now.told rows
PutFails Itself name b c rows before now NoMemory =
    Keeps before.taken now.taken × KeepsAll before.held now.held × Appends before.told now.told rows
PutFails Nowhere name b c rows before now NotesFailed =
    Keeps before.taken now.taken × KeepsAll before.held now.held × AppendsPart before.told now.told rows
PutFails place name b c rows before now refusal = ⊥

-- a FILE was refused: nothing was written, for a cause, or a write failed
abbrev pub IsFileRefused : Options → Place → List ℕ → Ends → Ends → Refusal → Type 0
IsFileRefused options place name before now refusal =
    (Stays before now × IsFileCause before.held name refusal)
    ⊎ ((b : List ℕ) × (c : List ℕ) × IsHeld before.held name b × (made : IsFormatted options b c)
    × PutFails place name b c (rows_told place name made) before now refusal)

-- ---- the FILEs

-- every FILE was done, one after another
abbrev pub AreDone : Options → Place → List (List ℕ) → Ends → Ends → Type 0
AreDone options place [] before now = Stays before now
AreDone options place (name ∷ names) before now =
    (between : Ends) × IsDone options place name before between × AreDone options place names between now

-- of FILEs that were done, some text changes
abbrev pub SomeChanges : (options : Options) (place : Place) (names : List (List ℕ)) (before now : Ends) →
    AreDone options place names before now → Type 0
SomeChanges options place [] before now done = ⊥
SomeChanges options place (name ∷ names) before now done =
    (done.1.1 ≢ done.1.0) ⊎ SomeChanges options place names done.0 now done.2

-- every FILE was done, and this tells whether some text changes
abbrev pub AreDoneWith : Options → Place → List (List ℕ) → Ends → Ends → (changes : Bool) → Type 0
AreDoneWith options place names before now changes =
    (done : AreDone options place names before now) × (IsTrue changes ↔ SomeChanges options place names before now done)

-- The first FILE was refused so and no later one was begun; or it was done, and this holds of the others.
abbrev pub AreRefused : Options → Place → List (List ℕ) → Ends → Ends → Refusal → Type 0
AreRefused options place [] before now refusal = ⊥
AreRefused options place (name ∷ names) before now refusal =
    IsFileRefused options place name before now refusal
    ⊎ ((between : Ends) × IsDone options place name before between × AreRefused options place names between now refusal)
