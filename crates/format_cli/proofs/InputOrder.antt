-- What names and bytes tell of the inputs decides how they end.
use Rattle.std.proofs.Common.{◌≡◌, ◌≢◌, ◌⊎◌, ◌∙◌, ◌<◌, ℕ, List, [], ◌∷◌, Some, None, refl, sym, subst, inl, inr, ap, length, IsSomeAnd, arith}
use Rattle.std.specs.Prelude.{⊤}
use Rattle.std.specs.declared.option.Option.{Option}
use Rattle.fmt_ports.specs.Files.{Held, HeldAt, KeepsAll, KeepsOthers}
use Rattle.c_chars.specs.declared.TheConstants.{LIMIT}
use Rattle.c_chars.specs.declared.Dialect.TheVariants.{C11}
use Rattle.c_lexer.specs.Fault.{IsOpenAt}
use Rattle.format_core.proofs.Opens.{open_texts_have_no_layout}
use Rattle.command_refusals.specs.declared.refusal.Refusal.{Refusal}
use Rattle.command_refusals.specs.declared.refusal.Refusal.TheVariants.{BadWords, BadLines, BadStates, NoInput, ManyFiles, BadGenerate, GenerateBeside, UnknownStyle, LongConfiguration, BadConfiguration, TooLarge, OpenComment, SourceFailed, FileFailed, OutFailed, NotesFailed, Missing, NoMemory}
use Rattle.command_refusals.specs.InForce.{IsHeld}
use Rattle.command_refusals.specs.Notes.{status_of}
use Rattle.command_refusals.specs.Order.{IsThere, Tells}
use Rattle.command_refusals.proofs.StyleOrder.{EndsSo}
use Rattle.format_cli.specs.Options.{Options}
use Rattle.format_cli.specs.declared.input.Place.{Place}
use Rattle.format_cli.specs.declared.input.Place.TheVariants.{Output, Itself, Nowhere}
use Rattle.format_cli.specs.Generated.{IsGeneratedRefused}
use Rattle.format_cli.specs.Inputs.{AreDone, AreRefused, Ends, IsDone, IsFileCause, IsFileRefused, IsFormatted, IsSourceDone, IsSourceRefused, IsTextCause, PutFails}
use Rattle.format_cli.specs.Order.{AreDifferent, FilesStop, IsBadText}
use Rattle.format_cli.specs.Statuses.{IsOneOf}

-- ---- one text

-- a text that has a layout isn't refused
pub not_bad : (options : Options) (b c : List ℕ) → IsFormatted options b c → IsBadText b → ⊥
not_bad options b c made (inl long) = omega (arith, made.fits, long)
not_bad options b c made (inr unended) = open_texts_have_no_layout options.style options.ranges options.budget C11 b c made.reports unended.0 made.formats unended.1

-- standard input that is refused for its bytes isn't done
pub source_stays : (options : Options) (place : Place) (left old new told now : Option (List ℕ)) → IsSourceDone options place left old new told now → IsThere IsBadText left → ⊥
source_stays options place None old new told now k bad = bad
source_stays options place (Some b) old new told now k bad = not_bad options k.0 k.1 k.3 (subst IsBadText (sym k.2) bad)

-- standard input ends so, where it is refused
pub source_ends : (options : Options) (place : Place) (left old new told now : Option (List ℕ)) (refusal : Refusal) → IsSourceRefused options place left old new told now refusal → EndsSo 4 refusal
source_ends options place left old new told now BadWords k = absurd k.1
source_ends options place left old new told now (BadLines its_word fault) k = absurd k.1
source_ends options place left old new told now (BadStates word) k = absurd k.1
source_ends options place left old new told now NoInput k = absurd k.1
source_ends options place left old new told now ManyFiles k = absurd k.1
source_ends options place left old new told now (BadGenerate word) k = absurd k.1
source_ends options place left old new told now GenerateBeside k = absurd k.1
source_ends options place left old new told now (UnknownStyle unknown) k = absurd k.1
source_ends options place left old new told now (LongConfiguration file) k = absurd k.1
source_ends options place left old new told now (BadConfiguration file fault) k = absurd k.1
source_ends options place left old new told now (TooLarge its_name) k = inl refl
source_ends options place left old new told now (OpenComment its_name at) k = inl refl
source_ends options place left old new told now SourceFailed k = inr (inl refl)
source_ends options place left old new told now (FileFailed file) k = absurd k.1
source_ends options place left old new told now OutFailed k = inr (inl refl)
source_ends options place left old new told now NotesFailed k = inr (inl refl)
source_ends options place left old new told now (Missing file) k = absurd k.1
source_ends options place left old new told now NoMemory k = inr (inr refl)

-- a text that is refused for a cause of its own ends so
text_ends : (name text : List ℕ) (refusal : Refusal) → IsTextCause name text refusal → EndsSo 4 refusal
text_ends name text BadWords k = absurd k
text_ends name text (BadLines its_word fault) k = absurd k
text_ends name text (BadStates word) k = absurd k
text_ends name text NoInput k = absurd k
text_ends name text ManyFiles k = absurd k
text_ends name text (BadGenerate word) k = absurd k
text_ends name text GenerateBeside k = absurd k
text_ends name text (UnknownStyle unknown) k = absurd k
text_ends name text (LongConfiguration file) k = absurd k
text_ends name text (BadConfiguration file fault) k = absurd k
text_ends name text (TooLarge its_name) k = inl refl
text_ends name text (OpenComment its_name at) k = inl refl
text_ends name text SourceFailed k = absurd k
text_ends name text (FileFailed file) k = absurd k
text_ends name text OutFailed k = absurd k
text_ends name text NotesFailed k = absurd k
text_ends name text (Missing file) k = absurd k
text_ends name text NoMemory k = inr (inr refl)

-- a text that is made ends so, where it is refused
pub made_ends : (options : Options) (text : List ℕ) (told now : Option (List ℕ)) (refusal : Refusal) → IsGeneratedRefused options text told now refusal → EndsSo 4 refusal
made_ends options text told now refusal (inl k) = text_ends _ text refusal k.1
made_ends options text told now refusal (inr k) = inr (inl (ap status_of k.0))

-- ---- one FILE

-- a FILE is refused with this status: it isn't there, or its text is refused
abbrev pub Stops : ℕ → Option (List ℕ) → Type 0
Stops status file = ((file ≡ None) × (status ≡ 6)) ⊎ (IsThere IsBadText file × (status ≡ 4))

-- a FILE is there, and its text isn't refused
abbrev pub IsFine : Option (List ℕ) → Type 0
IsFine file = IsThere (λ text. IsBadText text → ⊥) file

stays : (held : Held) (options : Options) (name b c : List ℕ) (status : ℕ) → IsHeld held name b → IsFormatted options b c → Tells held name (Stops status) → ⊥
stays None options name b c status h made s = s
stays (Some at) options name b c status h made (inl s) = let wrong : Some b ≡ None = sym h ∙ s.0 in cc
stays (Some at) options name b c status h made (inr s) = not_bad options b c made (subst (IsThere IsBadText) h s.0)

-- bytes that are there can only be refused with 4
four : (held : Held) (name : List ℕ) (status : ℕ) (P : Option (List ℕ) → Type 0) → HeldAt held name P → (P None → ⊥) → Tells held name (Stops status) → 4 ≡ status
four None name status P h never s = absurd s
four (Some at) name status P h never (inl s) = absurd (never (subst P s.0 h))
four (Some at) name status P h never (inr s) = sym s.1

six : (held : Held) (name : List ℕ) (status : ℕ) → HeldAt held name (λ b. b ≡ None) → Tells held name (Stops status) → 6 ≡ status
six None name status h s = absurd s
six (Some at) name status h (inl s) = sym s.1
six (Some at) name status h (inr s) = absurd (subst (IsThere IsBadText) h s.0)

never_none : (text : List ℕ) → None ≡ Some text → ⊥
never_none text wrong = cc

cause_ends : (held : Held) (name : List ℕ) (refusal : Refusal) (status : ℕ) → IsFileCause held name refusal → Tells held name (Stops status) → EndsSo status refusal
cause_ends held name BadWords status k s = absurd k
cause_ends held name (BadLines its_word fault) status k s = absurd k
cause_ends held name (BadStates word) status k s = absurd k
cause_ends held name NoInput status k s = absurd k
cause_ends held name ManyFiles status k s = absurd k
cause_ends held name (BadGenerate word) status k s = absurd k
cause_ends held name GenerateBeside status k s = absurd k
cause_ends held name (UnknownStyle unknown) status k s = absurd k
cause_ends held name (LongConfiguration file) status k s = absurd k
cause_ends held name (BadConfiguration file fault) status k s = absurd k
cause_ends held name (TooLarge its_name) status k s = inl (four held name status (λ b. IsSomeAnd b (λ text. LIMIT < length text)) k.1 (λ never. never) s)
cause_ends held name (OpenComment its_name at) status k s = inl (four held name status (λ b. b ≡ Some k.1.0) k.1.1 (never_none k.1.0) s)
cause_ends held name SourceFailed status k s = absurd k
cause_ends held name (FileFailed file) status k s = inr (inl refl)
cause_ends held name OutFailed status k s = absurd k
cause_ends held name NotesFailed status k s = absurd k
cause_ends held name (Missing file) status k s = inl (six held name status k.1 s)
cause_ends held name NoMemory status k s = inr (inr refl)

clash : (file : Option (List ℕ)) (P : Option (List ℕ) → Type 0) → P file → (P None → ⊥) → ((text : List ℕ) → P (Some text) → IsBadText text) → IsFine file → ⊥
clash None P p never bad h = h
clash (Some text) P p never bad h = h (bad text p)

-- a text that isn't refused isn't refused for its bytes
not_refused : (held : Held) (name : List ℕ) (P : Option (List ℕ) → Type 0) → HeldAt held name P → (P None → ⊥) → ((text : List ℕ) → P (Some text) → IsBadText text) →
    Tells held name IsFine → ⊥
not_refused None name P there never bad h = h
not_refused (Some at) name P there never bad h = clash (at name) P there never bad h

cause_fails : (held : Held) (name : List ℕ) (refusal : Refusal) → IsFileCause held name refusal → Tells held name IsFine → (status_of refusal ≡ 5) ⊎ (status_of refusal ≡ 7)
cause_fails held name BadWords k h = absurd k
cause_fails held name (BadLines its_word fault) k h = absurd k
cause_fails held name (BadStates word) k h = absurd k
cause_fails held name NoInput k h = absurd k
cause_fails held name ManyFiles k h = absurd k
cause_fails held name (BadGenerate word) k h = absurd k
cause_fails held name GenerateBeside k h = absurd k
cause_fails held name (UnknownStyle unknown) k h = absurd k
cause_fails held name (LongConfiguration file) k h = absurd k
cause_fails held name (BadConfiguration file fault) k h = absurd k
cause_fails held name (TooLarge its_name) k h =
    absurd (not_refused held name (λ b. IsSomeAnd b (λ text. LIMIT < length text)) k.1 (λ never. never) (λ text long. inl long) h)
cause_fails held name (OpenComment its_name at) k h =
    absurd (not_refused held name (λ b. b ≡ Some k.1.0) k.1.1 (never_none k.1.0)
    (λ text is. let same : k.1.0 ≡ text = cc in inr (at, subst (λ (x : List ℕ). IsOpenAt C11 x at) same k.1.3)) h)
cause_fails held name SourceFailed k h = absurd k
cause_fails held name (FileFailed file) k h = inl refl
cause_fails held name OutFailed k h = absurd k
cause_fails held name NotesFailed k h = absurd k
cause_fails held name (Missing file) k h = absurd (gone held k.1 h)
  where
    gone : (held : Held) → HeldAt held name (λ b. b ≡ None) → Tells held name IsFine → ⊥
    gone None none h = h
    gone (Some at) none h = subst IsFine none h
cause_fails held name NoMemory k h = inr refl

put_ends : (place : Place) (name b c rows : List ℕ) (before now : Ends) (refusal : Refusal) → PutFails place name b c rows before now refusal → (status_of refusal ≡ 5) ⊎ (status_of refusal ≡ 7)
put_ends Output name b c rows before now BadWords k = absurd k
put_ends Output name b c rows before now (BadLines its_word fault) k = absurd k
put_ends Output name b c rows before now (BadStates word) k = absurd k
put_ends Output name b c rows before now NoInput k = absurd k
put_ends Output name b c rows before now ManyFiles k = absurd k
put_ends Output name b c rows before now (BadGenerate word) k = absurd k
put_ends Output name b c rows before now GenerateBeside k = absurd k
put_ends Output name b c rows before now (UnknownStyle unknown) k = absurd k
put_ends Output name b c rows before now (LongConfiguration file) k = absurd k
put_ends Output name b c rows before now (BadConfiguration file fault) k = absurd k
put_ends Output name b c rows before now (TooLarge its_name) k = absurd k
put_ends Output name b c rows before now (OpenComment its_name at) k = absurd k
put_ends Output name b c rows before now SourceFailed k = absurd k
put_ends Output name b c rows before now (FileFailed file) k = absurd k
put_ends Output name b c rows before now OutFailed k = inl refl
put_ends Output name b c rows before now NotesFailed k = inl refl
put_ends Output name b c rows before now (Missing file) k = absurd k
put_ends Output name b c rows before now NoMemory k = absurd k
put_ends Itself name b c rows before now BadWords k = absurd k
put_ends Itself name b c rows before now (BadLines its_word fault) k = absurd k
put_ends Itself name b c rows before now (BadStates word) k = absurd k
put_ends Itself name b c rows before now NoInput k = absurd k
put_ends Itself name b c rows before now ManyFiles k = absurd k
put_ends Itself name b c rows before now (BadGenerate word) k = absurd k
put_ends Itself name b c rows before now GenerateBeside k = absurd k
put_ends Itself name b c rows before now (UnknownStyle unknown) k = absurd k
put_ends Itself name b c rows before now (LongConfiguration file) k = absurd k
put_ends Itself name b c rows before now (BadConfiguration file fault) k = absurd k
put_ends Itself name b c rows before now (TooLarge its_name) k = absurd k
put_ends Itself name b c rows before now (OpenComment its_name at) k = absurd k
put_ends Itself name b c rows before now SourceFailed k = absurd k
put_ends Itself name b c rows before now (FileFailed file) k = inl refl
put_ends Itself name b c rows before now OutFailed k = absurd k
put_ends Itself name b c rows before now NotesFailed k = inl refl
put_ends Itself name b c rows before now (Missing file) k = absurd k
put_ends Itself name b c rows before now NoMemory k = inr refl
put_ends Nowhere name b c rows before now BadWords k = absurd k
put_ends Nowhere name b c rows before now (BadLines its_word fault) k = absurd k
put_ends Nowhere name b c rows before now (BadStates word) k = absurd k
put_ends Nowhere name b c rows before now NoInput k = absurd k
put_ends Nowhere name b c rows before now ManyFiles k = absurd k
put_ends Nowhere name b c rows before now (BadGenerate word) k = absurd k
put_ends Nowhere name b c rows before now GenerateBeside k = absurd k
put_ends Nowhere name b c rows before now (UnknownStyle unknown) k = absurd k
put_ends Nowhere name b c rows before now (LongConfiguration file) k = absurd k
put_ends Nowhere name b c rows before now (BadConfiguration file fault) k = absurd k
put_ends Nowhere name b c rows before now (TooLarge its_name) k = absurd k
put_ends Nowhere name b c rows before now (OpenComment its_name at) k = absurd k
put_ends Nowhere name b c rows before now SourceFailed k = absurd k
put_ends Nowhere name b c rows before now (FileFailed file) k = absurd k
put_ends Nowhere name b c rows before now OutFailed k = absurd k
put_ends Nowhere name b c rows before now NotesFailed k = inl refl
put_ends Nowhere name b c rows before now (Missing file) k = absurd k
put_ends Nowhere name b c rows before now NoMemory k = absurd k

file_ends : (options : Options) (place : Place) (name : List ℕ) (before now : Ends) (refusal : Refusal) (status : ℕ) → IsFileRefused options place name before now refusal →
    Tells before.held name (Stops status) → EndsSo status refusal
file_ends options place name before now refusal status (inl k) s = cause_ends before.held name refusal status k.1 s
file_ends options place name before now refusal status (inr k) s = inr (put_ends place name k.0 k.1 _ before now refusal k.4)

file_fails : (options : Options) (place : Place) (name : List ℕ) (before now : Ends) (refusal : Refusal) → IsFileRefused options place name before now refusal →
    Tells before.held name IsFine → (status_of refusal ≡ 5) ⊎ (status_of refusal ≡ 7)
file_fails options place name before now refusal (inl k) h = cause_fails before.held name refusal k.1 h
file_fails options place name before now refusal (inr k) h = put_ends place name k.0 k.1 _ before now refusal k.4

-- ---- the FILEs

none_stops : (names : List (List ℕ)) (status : ℕ) → FilesStop None names status → ⊥
none_stops [] status s = s
none_stops (name ∷ names) status (inl s) = s
none_stops (name ∷ names) status (inr s) = s.0

stop_kept : (names : List (List ℕ)) (at at' : List ℕ → Option (List ℕ)) (status : ℕ) → ((other : List ℕ) → IsOneOf other names → at' other ≡ at other) →
    FilesStop (Some at) names status → FilesStop (Some at') names status
stop_kept [] at at' status same s = s
stop_kept (name ∷ names) at at' status same (inl s) = inl (subst (Stops status) (sym (same name (inl refl))) s)
stop_kept (name ∷ names) at at' status same (inr s) =
    inr (subst IsFine (sym (same name (inl refl))) s.0, stop_kept names at at' status (λ other m. same other (inr m)) s.1)

-- where all files stay, they stop as before
pub stop_stays : (names : List (List ℕ)) (a b : Held) (status : ℕ) → KeepsAll a b → FilesStop a names status → FilesStop b names status
stop_stays names None b status same s = absurd (none_stops names status s)
stop_stays names (Some at) None status same s = absurd same
stop_stays names (Some at) (Some at') status same s = stop_kept names at at' status (λ other m. same other) s

stop_others : (names : List (List ℕ)) (name : List ℕ) (a b : Held) (status : ℕ) → (IsOneOf name names → ⊥) → KeepsOthers name a b → FilesStop a names status → FilesStop b names status
stop_others names name None b status once same s = absurd (none_stops names status s)
stop_others names name (Some at) None status once same s = absurd same
stop_others names name (Some at) (Some at') status once same s =
    stop_kept names at at' status (λ other m. same other (λ e. once (subst (λ (x : List ℕ). IsOneOf x names) e m))) s

-- with `-i` no name stands twice
abbrev pub AreOnce : Place → List (List ℕ) → Type 0
AreOnce Output names = ⊤
AreOnce Itself names = AreDifferent names
AreOnce Nowhere names = ⊤

once_behind : (place : Place) (name : List ℕ) (names : List (List ℕ)) → AreOnce place (name ∷ names) → AreOnce place names
once_behind Output name names once = tt
once_behind Itself name names once = once.1
once_behind Nowhere name names once = tt

stop_after : (options : Options) (place : Place) (name : List ℕ) (names : List (List ℕ)) (before between : Ends) (status : ℕ) → IsDone options place name before between →
    AreOnce place (name ∷ names) → FilesStop before.held names status → FilesStop between.held names status
stop_after options Output name names before between status k once s = stop_stays names before.held between.held status k.4.1 s
stop_after options Nowhere name names before between status k once s = stop_stays names before.held between.held status k.4.1 s
stop_after options Itself name names before between status k once s = put k.4.1
  where
    put : ((k.1 ≡ k.0) × KeepsAll before.held between.held) ⊎ ((k.1 ≢ k.0) × IsHeld between.held name k.1 × KeepsOthers name before.held between.held) →
        FilesStop between.held names status
    put (inl p) = stop_stays names before.held between.held status p.1 s
    put (inr p) = stop_others names name before.held between.held status once.0 p.2 s

-- FILEs of which one is refused aren't all done
pub files_stay : (options : Options) (place : Place) (names : List (List ℕ)) (before now : Ends) (status : ℕ) → AreDone options place names before now → AreOnce place names →
    FilesStop before.held names status → ⊥
files_stay options place [] before now status k once s = s
files_stay options place (name ∷ names) before now status k once (inl s) = stays before.held options name k.1.0 k.1.1 status k.1.2 k.1.3 s
files_stay options place (name ∷ names) before now status k once (inr s) =
    files_stay options place names k.0 now status k.2 (once_behind place name names once) (stop_after options place name names before k.0 status k.1 once s.1)

-- FILEs of which one is refused end so
pub files_end : (options : Options) (place : Place) (names : List (List ℕ)) (before now : Ends) (refusal : Refusal) (status : ℕ) → AreRefused options place names before now refusal →
    AreOnce place names → FilesStop before.held names status → EndsSo status refusal
files_end options place [] before now refusal status k once s = absurd k
files_end options place (name ∷ names) before now refusal status (inl k) once (inl s) = file_ends options place name before now refusal status k s
files_end options place (name ∷ names) before now refusal status (inl k) once (inr s) = inr (file_fails options place name before now refusal k s.0)
files_end options place (name ∷ names) before now refusal status (inr k) once (inl s) = absurd (stays before.held options name k.1.0 k.1.1 status k.1.2 k.1.3 s)
files_end options place (name ∷ names) before now refusal status (inr k) once (inr s) =
    files_end options place names k.0 now refusal status k.2 (once_behind place name names once) (stop_after options place name names before k.0 status k.1 once s.1)
