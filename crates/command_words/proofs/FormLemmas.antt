-- The command is one of which `clap` says exactly what it makes of the words.
use Rattle.std.proofs.Common.{◌≡◌, ◌≢◌, ◌⊎◌, List, [], refl, sym, true, subst, inl, inr, Ok, Err}
use Rattle.clap.specs.Words.{HasKind, Kinds, Row, Text, is_simple, kind_of}
use Rattle.clap.specs.Faults.{is_simple_and_free}
use Rattle.clap.specs.declared.error.Error.{Error}
use Rattle.clap.specs.declared.error.kind.ErrorKind.TheVariants.{OutOfMemory}
use Rattle.std.specs.declared.result.Result.{Result}
use Rattle.command_words.specs.Command.{command, form_faults, rows_of_words}
use Rattle.command_words.specs.Said.{HasBadLines, HasBadStates, HasLines, ReadsForm, SaysBut, SaysOrNot}
use Rattle.command_words.specs.declared.read.Given.{Given}
use Rattle.command_words.specs.declared.fault.WordsFault.{WordsFault}
use Rattle.command_words.specs.declared.fault.WordsFault.TheVariants.{Form, BadLines, BadStates, NoInput, ManyFiles, BadGenerate, GenerateBeside, NoMemory}

pub command_is_simple : is_simple command ≡ true
command_is_simple = refl

pub command_is_free : is_simple_and_free command ≡ true
command_is_free = refl

-- an error that isn't want of memory comes only where the form has a fault
has_fault : (words : List Text) (e : Error) → HasKind (form_faults words) e
    → kind_of e ≢ OutOfMemory → form_faults words ≢ []
has_fault words e has other = λ none.
    let has_none : HasKind [] e = subst (λ (kinds : Kinds). HasKind kinds e) none has in
    elim has_none [ inl memory ↦ other memory | inr never ↦ absurd never ]

-- what a failed parse is told as
pub refuses : (words : List Text) (fault : WordsFault) (e : Error) → HasKind (form_faults words) e
    → (fault ≡ Form → kind_of e ≢ OutOfMemory) → (fault ≡ Form) ⊎ (fault ≡ NoMemory) → ReadsForm words (Err fault)
refuses words fault e has form cause = elim cause [
  | inl is ↦ subst (λ (told : WordsFault). ReadsForm words (Err told)) (sym is) (has_fault words e has (form is))
  | inr is ↦ subst (λ (told : WordsFault). ReadsForm words (Err told)) (sym is) tt
]

-- words without a fault say what the rows say that were found
pub of_form : (words : List Text) (rows : List Row) (result : Result Given WordsFault) → form_faults words ≡ [] → rows ≡ rows_of_words words → SaysOrNot rows result → ReadsForm words result
of_form words rows (Ok given) none is says = (none, subst (λ (r : List Row). SaysBut r given) is says)
of_form words rows (Err Form) none is says = absurd says
of_form words rows (Err (BadLines word fault)) none is says = (none, subst (λ (r : List Row). HasBadLines r word.now fault) is says)
of_form words rows (Err (BadStates word)) none is says =
    (none, subst (λ (r : List Row). HasLines r) is says.0, subst (λ (r : List Row). HasBadStates r word.now) is says.1)
of_form words rows (Err NoInput) none is says = absurd says
of_form words rows (Err ManyFiles) none is says = absurd says
of_form words rows (Err (BadGenerate word)) none is says = absurd says
of_form words rows (Err GenerateBeside) none is says = absurd says
of_form words rows (Err NoMemory) none is says = tt
