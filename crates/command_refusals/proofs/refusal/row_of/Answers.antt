use Rattle.std.proofs.Common.{refl}
use Rattle.command_refusals.proofs.refusal.row_of.Goals as goal

pub returns-in-BadWords : goal.returns-in-BadWords
returns-in-BadWords c = rw c.in-BadWords.is refl

pub returns-in-BadLines : goal.returns-in-BadLines
returns-in-BadLines c = rw c.in-BadLines.is c.lines_row.ensures

pub returns-in-BadStates : goal.returns-in-BadStates
returns-in-BadStates c = rw c.in-BadStates.is refl

pub returns-in-NoInput : goal.returns-in-NoInput
returns-in-NoInput c = rw c.in-NoInput.is refl

pub returns-in-ManyFiles : goal.returns-in-ManyFiles
returns-in-ManyFiles c = rw c.in-ManyFiles.is refl

pub returns-in-BadGenerate : goal.returns-in-BadGenerate
returns-in-BadGenerate c = rw c.in-BadGenerate.is refl

pub returns-in-GenerateBeside : goal.returns-in-GenerateBeside
returns-in-GenerateBeside c = rw c.in-GenerateBeside.is refl

pub returns-in-UnknownStyle : goal.returns-in-UnknownStyle
returns-in-UnknownStyle c = rw c.in-UnknownStyle.is refl

pub returns-in-LongConfiguration : goal.returns-in-LongConfiguration
returns-in-LongConfiguration c = rw c.in-LongConfiguration.is refl

pub returns-in-BadConfiguration : goal.returns-in-BadConfiguration
returns-in-BadConfiguration c = rw c.in-BadConfiguration.is c.fault_row.ensures

pub returns-in-TooLarge : goal.returns-in-TooLarge
returns-in-TooLarge c = rw c.in-TooLarge.is refl

pub returns-in-OpenComment : goal.returns-in-OpenComment
returns-in-OpenComment c = rw c.in-OpenComment.is refl

pub returns-in-SourceFailed : goal.returns-in-SourceFailed
returns-in-SourceFailed c = rw c.in-SourceFailed.is refl

pub returns-in-FileFailed : goal.returns-in-FileFailed
returns-in-FileFailed c = rw c.in-FileFailed.is refl

pub returns-in-OutFailed : goal.returns-in-OutFailed
returns-in-OutFailed c = rw c.in-OutFailed.is refl

pub returns-in-NotesFailed : goal.returns-in-NotesFailed
returns-in-NotesFailed c = rw c.in-NotesFailed.is refl

pub returns-in-Missing : goal.returns-in-Missing
returns-in-Missing c = rw c.in-Missing.is refl

pub returns-in-NoMemory : goal.returns-in-NoMemory
returns-in-NoMemory c = rw c.in-NoMemory.is refl
