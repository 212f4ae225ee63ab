-- What the words, names and bytes tell decides how a call ends.
use Rattle.std.proofs.Common.{◌≡◌, ◌⊎◌, ◌∙◌, ◌++◌, ℕ, Bool, true, false, List, [], Some, None, Ok, Err, IsTrue, IsFalse, OnOk, refl, sym, subst, inl, inr}
use Rattle.std.proofs.KnownBytes.{Appends-trans}
use Rattle.std.specs.declared.option.Option.{Option}
use Rattle.std.specs.declared.result.Result.{Result}
use Rattle.std.specs.Io.KnownBytes.{Appends}
use Rattle.fmt_ports.specs.Causes.{AppendsPart, Counts, Rose}
use Rattle.fmt_ports.specs.Files.{Held}
use Rattle.style_table.specs.declared.style.Style.{Style}
use Rattle.command_words.specs.declared.pieces.Generate.{Generate}
use Rattle.command_words.specs.declared.read.Words.{Words}
use Rattle.command_words.specs.Said.{Reads}
use Rattle.command_refusals.specs.declared.refusal.Refusal.{Refusal}
use Rattle.command_refusals.specs.declared.refusal.Refusal.TheVariants.{BadWords, BadLines, BadStates, NoInput, ManyFiles, BadGenerate, GenerateBeside, UnknownStyle, LongConfiguration, BadConfiguration, TooLarge, OpenComment, SourceFailed, FileFailed, OutFailed, NotesFailed, Missing, NoMemory}
use Rattle.command_refusals.specs.Counts.{Faults, Raises}
use Rattle.command_refusals.specs.Notes.{row_of, status_of}
use Rattle.command_refusals.specs.Order.{HasStyle, IsThere, StyleStops}
use Rattle.command_refusals.specs.Words.{AreWordsRefused}
use Rattle.command_refusals.proofs.OneChoice.{has_same, in_force_same, stops_same}
use Rattle.command_refusals.proofs.Statuses.{notes_rose}
use Rattle.command_refusals.proofs.StyleOrder.{EndsSo, goes_on, style_ends, style_fails}
use Rattle.format_cli.specs.Account.{EndsWell, IsBegun, IsNotPerformed, IsPerformed, IsRefused, World, files_of, options_of, place_of}
use Rattle.format_cli.specs.Generated.{text_of}
use Rattle.format_cli.specs.Order.{AreDifferent, FilesStop, InputsStop, IsBadText, LacksRows, StopsWith}
use Rattle.format_cli.proofs.Choice.{made_alone, made_by, one_dry, one_dump, one_list, one_made, one_place, one_style}
use Rattle.format_cli.proofs.Statuses.{no_budget, no_lines}
use Rattle.format_cli.proofs.NotesTaken.{performed_takes, not_performed_takes}
use Rattle.format_cli.proofs.InputOrder.{AreOnce, files_end, files_stay, made_ends, not_bad, source_ends, source_stays, stop_stays}

-- words that say something are refused only for want of memory
read_words : (words : List (List ℕ)) (said : Words) (refusal : Refusal) → AreWordsRefused words refusal → Reads words (Ok said) → status_of refusal ≡ 7
read_words words said BadWords k reads = absurd (k reads.0)
read_words words said (BadLines its_word fault) k reads = absurd (no_lines words its_word.now fault said k.1 reads.2)
read_words words said (BadStates word) k reads = absurd (no_budget words word.now said k.2 reads.2)
read_words words said NoInput k reads = absurd (reads.1 k.3)
read_words words said ManyFiles k reads = absurd (reads.3 k.3)
read_words words said (BadGenerate word) k reads = absurd (reads.4.in_form word.now k.2)
read_words words said GenerateBeside k reads = absurd (reads.4.alone k.3)
read_words words said (UnknownStyle unknown) k reads = absurd k
read_words words said (LongConfiguration file) k reads = absurd k
read_words words said (BadConfiguration file fault) k reads = absurd k
read_words words said (TooLarge its_name) k reads = absurd k
read_words words said (OpenComment its_name at) k reads = absurd k
read_words words said SourceFailed k reads = absurd k
read_words words said (FileFailed file) k reads = absurd k
read_words words said OutFailed k reads = absurd k
read_words words said NotesFailed k reads = absurd k
read_words words said (Missing file) k reads = absurd k
read_words words said NoMemory k reads = refl

-- FILEs that are named once with `-i`, but in a dry run
once_of : (dry_run in_place : Bool) (names : List (List ℕ)) → (IsTrue in_place → IsFalse dry_run → AreDifferent names) → AreOnce (place_of dry_run in_place) names
once_of true in_place names different = tt
once_of false true names different = different refl refl
once_of false false names different = tt

no_names : (names : List (List ℕ)) (held : Held) (status : ℕ) → names ≡ [] → FilesStop held names status → ⊥
no_names names held status none s = subst (λ (xs : List (List ℕ)). FilesStop held xs status) none s

-- the FILEs of these words, once the style was read, stop as they do at entry
stop_begun : (words : List (List ℕ)) (before begun : World) (said other : Words) (style : Style) (status : ℕ) →
    IsBegun words before begun said style → Reads words (Ok other) → FilesStop before.ends.held (files_of other) status →
    FilesStop begun.ends.held (files_of said) status
stop_begun words before begun said other style status k reads s =
    stop_stays (files_of said) before.ends.held begun.ends.held status k.untouched.held
    (subst (λ (xs : List (List ℕ)). FilesStop before.ends.held xs status) (one_list words other said reads k.reads) s)

once_begun : (words : List (List ℕ)) (said other : Words) → Reads words (Ok said) → Reads words (Ok other) → (IsTrue other.in_place → IsFalse other.dry_run → AreDifferent (files_of other)) →
    AreOnce (place_of said.dry_run said.in_place) (files_of said)
once_begun words said other reads its different =
    once_of said.dry_run said.in_place (files_of said)
    (λ is wet. subst AreDifferent (one_list words other said its reads) (different (one_place words said other reads its is) (one_dry words said other reads its wet)))

-- words that make an input name no FILE
none_named : (words : List (List ℕ)) (said : Words) (generate : Generate) (held : Held) (status : ℕ) → Reads words (Ok said) → said.generate ≡ Some generate →
    FilesStop held (files_of said) status → ⊥
none_named words said generate held status reads is s =
    made_alone words said reads (made_by words said generate reads is) (λ none. no_names (files_of said) held status none s)

unmade : (words : List (List ℕ)) (a b : Words) (generate : Generate) → Reads words (Ok a) → Reads words (Ok b) → a.generate ≡ None → b.generate ≡ Some generate → ⊥
unmade words a b generate p q none some = let wrong : None ≡ Some generate = sym none ∙ one_made words a b p q ∙ some in cc

same_text : (words : List (List ℕ)) (a b : Words) (x y : Generate) → Reads words (Ok a) → Reads words (Ok b) → a.generate ≡ Some x → b.generate ≡ Some y → IsBadText (text_of y) →
    IsBadText (text_of x)
same_text words a b x y p q is other bad =
    let both : Some y ≡ Some x = sym other ∙ one_made words b a q p ∙ is in
    let same : y ≡ x = cc in
    subst (λ (generate : Generate). IsBadText (text_of generate)) same bad

-- inputs of which one is refused aren't all done
inputs_stay : (words : List (List ℕ)) (before begun now : World) (said other : Words) (style : Style) (status : ℕ) →
    IsBegun words before begun said style → IsPerformed said style begun now → Reads words (Ok other) → IsFalse other.dump_config →
    InputsStop other before.left before.ends.held status → ⊥
inputs_stay words before begun now said other style status k (inl p) reads no_dump i = one_dump words said other k.reads reads p.0 no_dump
inputs_stay words before begun now said other style status k (inr (inl p)) reads no_dump (inl i) =
    source_stays (options_of said style) _ begun.left _ _ _ _ p.2.done (subst (IsThere IsBadText) (sym k.untouched.left) i.1)
inputs_stay words before begun now said other style status k (inr (inl p)) reads no_dump (inr (inl i)) =
    no_names (files_of other) before.ends.held status (one_list words other said reads k.reads ∙ p.1) i.0
inputs_stay words before begun now said other style status k (inr (inl p)) reads no_dump (inr (inr i)) = unmade words said other i.0 k.reads reads p.3 i.1
inputs_stay words before begun now said other style status k (inr (inr (inr p))) reads no_dump (inl i) =
    unmade words other said p.1.generate reads k.reads i.3 p.1.given
inputs_stay words before begun now said other style status k (inr (inr (inr p))) reads no_dump (inr (inl i)) =
    none_named words other p.1.generate before.ends.held status reads (one_made words other said reads k.reads ∙ p.1.given) i.0
inputs_stay words before begun now said other style status k (inr (inr (inr p))) reads no_dump (inr (inr i)) =
    not_bad (options_of said style) (text_of p.1.generate) p.1.done.0 p.1.done.1 (same_text words said other p.1.generate i.0 k.reads reads p.1.given i.1 i.2)
inputs_stay words before begun now said other style status k (inr (inr (inl p))) reads no_dump (inl i) =
    p.1.some (one_list words said other k.reads reads ∙ i.0)
inputs_stay words before begun now said other style status k (inr (inr (inl p))) reads no_dump (inr (inr i)) =
    made_alone words said k.reads (made_by words other i.0 reads i.1) p.1.some
inputs_stay words before begun now said other style status k (inr (inr (inl p))) reads no_dump (inr (inl i)) =
    files_stay (options_of said style) (place_of said.dry_run said.in_place) (files_of said) begun.ends now.ends status p.1.done (once_begun words said other k.reads reads i.1)
    (stop_begun words before begun said other style status k reads i.0)

-- inputs of which one is refused end so
inputs_end : (words : List (List ℕ)) (before begun now : World) (said other : Words) (style : Style) (refusal : Refusal) (status : ℕ) →
    IsBegun words before begun said style → IsNotPerformed said style begun now refusal → Reads words (Ok other) → IsFalse other.dump_config →
    InputsStop other before.left before.ends.held status → EndsSo status refusal
inputs_end words before begun now said other style refusal status k (inl p) reads no_dump i = absurd (one_dump words said other k.reads reads p.0 no_dump)
inputs_end words before begun now said other style refusal status k (inr (inl p)) reads no_dump (inl i) =
    subst (λ (n : ℕ). EndsSo n refusal) (sym i.2) (source_ends (options_of said style) _ begun.left _ _ _ _ refusal p.2.refused)
inputs_end words before begun now said other style refusal status k (inr (inl p)) reads no_dump (inr (inl i)) =
    absurd (no_names (files_of other) before.ends.held status (one_list words other said reads k.reads ∙ p.1) i.0)
inputs_end words before begun now said other style refusal status k (inr (inl p)) reads no_dump (inr (inr i)) =
    absurd (unmade words said other i.0 k.reads reads p.3 i.1)
inputs_end words before begun now said other style refusal status k (inr (inr (inr p))) reads no_dump (inl i) =
    absurd (unmade words other said p.1.generate reads k.reads i.3 p.1.given)
inputs_end words before begun now said other style refusal status k (inr (inr (inr p))) reads no_dump (inr (inl i)) =
    absurd (none_named words other p.1.generate before.ends.held status reads (one_made words other said reads k.reads ∙ p.1.given) i.0)
inputs_end words before begun now said other style refusal status k (inr (inr (inr p))) reads no_dump (inr (inr i)) =
    subst (λ (n : ℕ). EndsSo n refusal) (sym i.3) (made_ends (options_of said style) (text_of p.1.generate) begun.ends.told now.ends.told refusal p.1.refused)
inputs_end words before begun now said other style refusal status k (inr (inr (inl p))) reads no_dump (inl i) =
    absurd (p.1.some (one_list words said other k.reads reads ∙ i.0))
inputs_end words before begun now said other style refusal status k (inr (inr (inl p))) reads no_dump (inr (inr i)) =
    absurd (made_alone words said k.reads (made_by words other i.0 reads i.1) p.1.some)
inputs_end words before begun now said other style refusal status k (inr (inr (inl p))) reads no_dump (inr (inl i)) =
    files_end (options_of said style) (place_of said.dry_run said.in_place) (files_of said) begun.ends now.ends refusal status p.1.refused (once_begun words said other k.reads reads i.1)
    (stop_begun words before begun said other style status k reads i.0)

-- a call that is to be refused doesn't end well
pub ends_not_well : (words : List (List ℕ)) (before now : World) (answer status : ℕ) → EndsWell words before now answer →
    StopsWith words before.left before.ends.held status → ⊥
ends_not_well words before now answer status k s = by s.stops
  where
    by : StyleStops s.said.style before.ends.held status
        ⊎ (HasStyle s.said.style before.ends.held × IsFalse s.said.dump_config × InputsStop s.said before.left before.ends.held status) → ⊥
    by (inl stops) =
        goes_on k.said.style before.ends.held k.style k.begins.rows status k.begins.in_force
        (stops_same s.said.style k.said.style before.ends.held status (one_style words s.said k.said s.reads k.begins.reads) stops)
    by (inr i) = inputs_stay words before k.begun now k.said s.said k.style status k.begins k.performed s.reads i.1 i.2

-- a call that is to be refused ends so
pub ends_so : (words : List (List ℕ)) (before now : World) (refusal : Refusal) (status : ℕ) → IsRefused words before now refusal →
    StopsWith words before.left before.ends.held status → EndsSo status refusal
ends_so words before now refusal status (inl k) s = inr (inr (read_words words s.said refusal k.cause s.reads))
ends_so words before now refusal status (inr (inl k)) s = by s.stops
  where
    by : StyleStops s.said.style before.ends.held status
        ⊎ (HasStyle s.said.style before.ends.held × IsFalse s.said.dump_config × InputsStop s.said before.left before.ends.held status) → EndsSo status refusal
    by (inl stops) =
        style_ends k.said.style before.ends.held before.ends.told now.ends.told refusal status k.refused
        (stops_same s.said.style k.said.style before.ends.held status (one_style words s.said k.said s.reads k.reads) stops)
    by (inr i) =
        inr (style_fails k.said.style before.ends.held before.ends.told now.ends.told refusal k.refused
        (has_same s.said.style k.said.style before.ends.held (one_style words s.said k.said s.reads k.reads) i.0))
ends_so words before now refusal status (inr (inr k)) s = by s.stops
  where
    by : StyleStops s.said.style before.ends.held status
        ⊎ (HasStyle s.said.style before.ends.held × IsFalse s.said.dump_config × InputsStop s.said before.left before.ends.held status) → EndsSo status refusal
    by (inl stops) =
        absurd (goes_on k.said.style before.ends.held k.style k.begins.rows status k.begins.in_force
        (stops_same s.said.style k.said.style before.ends.held status (one_style words s.said k.said s.reads k.begins.reads) stops))
    by (inr i) = inputs_end words before k.begun now k.said s.said k.style refusal status k.begins k.refused s.reads i.1 i.2

-- ---- the rows of the skipped keys

-- a call whose notes lack rows doesn't end well
pub lacks_not_well : (words : List (List ℕ)) (before now : World) (answer : ℕ) → EndsWell words before now answer → LacksRows words before.ends.held before.ends.told now.ends.told → ⊥
lacks_not_well words before now answer k s =
    let more = performed_takes k.said k.style k.begun now k.performed in
    s.lacks k.style k.begins.rows more.0
    (in_force_same k.said.style s.said.style before.ends.held k.style k.begins.rows (one_style words k.said s.said k.begins.reads s.reads) k.begins.in_force)
    (Appends-trans before.ends.told k.begun.ends.told now.ends.told k.begins.rows more.0 k.begins.told more.1)

-- what the notes took last: the row of a refusal, or a front of it
abbrev pub IsToldLast : (told notes' : Option (List ℕ)) (faults faults' : ℕ) → Refusal → Type 0
IsToldLast told notes' faults faults' refusal = Appends told notes' (row_of refusal) ⊎ (Rose faults faults' × AppendsPart told notes' (row_of refusal))

some_row : (told notes' : Option (List ℕ)) (faults faults' : ℕ) (refusal : Refusal) → IsToldLast told notes' faults faults' refusal → (more : List ℕ) × Appends told notes' more
some_row told notes' faults faults' refusal (inl k) = (row_of refusal, k)
some_row told notes' faults faults' refusal (inr k) = (k.1.0, k.1.3)

-- a call whose notes lack rows failed, or memory ran out
pub lacks_so : (words : List (List ℕ)) (before now : World) (b : Option (List ℕ)) (faults faults' : ℕ) (refusal : Refusal) → IsRefused words before now refusal →
    IsToldLast now.ends.told b faults faults' refusal → LacksRows words before.ends.held before.ends.told b → (status_of refusal ≡ 5) ⊎ (status_of refusal ≡ 7)
lacks_so words before now b faults faults' refusal (inl k) row s = inr (read_words words s.said refusal k.cause s.reads)
lacks_so words before now b faults faults' refusal (inr (inl k)) row s =
    style_fails k.said.style before.ends.held before.ends.told now.ends.told refusal k.refused
    (has_same s.said.style k.said.style before.ends.held (one_style words s.said k.said s.reads k.reads) s.has_style)
lacks_so words before now b faults faults' refusal (inr (inr k)) row s =
    let last = some_row now.ends.told b faults faults' refusal row in
    let more = not_performed_takes k.said k.style k.begun now refusal k.refused in
    absurd (s.lacks k.style k.begins.rows (more.0 ++ last.0)
    (in_force_same k.said.style s.said.style before.ends.held k.style k.begins.rows (one_style words k.said s.said k.begins.reads s.reads) k.begins.in_force)
    (Appends-trans before.ends.told k.begun.ends.told b k.begins.rows (more.0 ++ last.0) k.begins.told (Appends-trans k.begun.ends.told now.ends.told b more.0 last.0 more.1 last.1)))

-- ---- the row of a refusal

-- the row was told, or the notes' faults rose
pub row_told : {T E : Type 0} (refusal : Refusal) (a b : Faults) (notes : ℕ) (told new : Option (List ℕ)) (result : Result T E) → Raises refusal a b →
    Counts b.notes notes result → OnOk result (Appends told new (row_of refusal)) → AppendsPart told new (row_of refusal) →
    IsToldLast told new a.notes notes refusal
row_told refusal a b notes told new (Ok v) k counts ok part = inl ok
row_told refusal a b notes told new (Err e) k counts ok part = inr (notes_rose refusal a b notes k counts.later counts.cause, part)
