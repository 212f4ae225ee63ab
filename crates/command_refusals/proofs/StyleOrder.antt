-- What names and bytes tell of the style decides how its choice ends.
use Rattle.std.proofs.Common.{◌≡◌, ◌≢◌, ◌⊎◌, ◌∙◌, ◌<◌, ℕ, List, Some, None, Ok, Err, refl, sym, ap, subst, inl, inr, length, IsSomeAnd, arith}
use Rattle.std.specs.declared.option.Option.{Option}
use Rattle.fmt_ports.specs.Files.{Held, HeldAt}
use Rattle.style_table.specs.declared.style.Style.{Style}
use Rattle.style_table.specs.Named.{named}
use Rattle.style_config.specs.declared.TheConstants.{LIMIT}
use Rattle.style_config.specs.declared.skipped.SkippedKey.{SkippedKey}
use Rattle.style_config.specs.declared.fault.ConfigFault.{ConfigFault}
use Rattle.style_config.specs.declared.fault.ConfigFault.TheVariants as Config
use Rattle.style_config.specs.Reading.{Effect, Reads, reading}
use Rattle.command_words.specs.declared.read.StyleChoice.{StyleChoice}
use Rattle.command_words.specs.declared.read.StyleChoice.TheVariants.{File as DefaultFile, FileAt, Named}
use Rattle.command_refusals.specs.declared.refusal.Refusal.{Refusal}
use Rattle.command_refusals.specs.declared.refusal.Refusal.TheVariants.{BadWords, BadLines, BadStates, NoInput, ManyFiles, BadGenerate, GenerateBeside, UnknownStyle, LongConfiguration, BadConfiguration, TooLarge, OpenComment, SourceFailed, FileFailed, OutFailed, NotesFailed, Missing, NoMemory}
use Rattle.command_refusals.specs.InForce.{Configures, IsAtFault, IsBase, IsInForce, IsStyleRefused, configuration_of, default_file}
use Rattle.command_refusals.specs.Notes.{status_of}
use Rattle.command_refusals.specs.Order.{HasStyle, IsBadConfiguration, IsThere, StyleStops, Tells}

-- a refusal has this status, or a port failed or memory ran out
abbrev pub EndsSo : ℕ → Refusal → Type 0
EndsSo status refusal = (status_of refusal ≡ status) ⊎ (status_of refusal ≡ 5) ⊎ (status_of refusal ≡ 7)

apart : (text : List ℕ) (base other : Style) (effect : Effect) (fault : ConfigFault) → base ≡ other → reading text base ≡ Ok effect → reading text other ≡ Err fault → ⊥
apart text base other effect fault same r k = let wrong : Err fault ≡ Ok effect = sym k ∙ (ap (reading text) (sym same) ∙ r) in cc

-- a reading has one answer
no_fault : (text : List ℕ) (base other : Style) (read : Style × List SkippedKey) (fault : ConfigFault) → base ≡ other → fault ≢ Config.NoMemory →
    Reads text base (Ok read) → Reads text other (Err fault) → ⊥
no_fault text base other read (Config.NotUtf8 offset) same some r k = k.0 r.0
no_fault text base other read (Config.BadLine line) same some r k = apart text base other _ _ same r.1 k.1
no_fault text base other read (Config.UnknownStyle line) same some r k = apart text base other _ _ same r.1 k.1
no_fault text base other read (Config.BadValue line) same some r k = apart text base other _ _ same r.1 k.1
no_fault text base other read (Config.OutOfRange line) same some r k = apart text base other _ _ same r.1 k.1
no_fault text base other read (Config.Repeated line) same some r k = apart text base other _ _ same r.1 k.1
no_fault text base other read Config.NoMemory same some r k = some refl

one_base : (base other : Style) → IsBase base → IsBase other → base ≡ other
one_base base other p q = let same : Some base ≡ Some other = sym p ∙ q in cc

-- a configuration that makes a style isn't refused
pub makes_a_style : (file text : List ℕ) (style : Style) (rows : List ℕ) → Configures file text style rows → IsBadConfiguration text → ⊥
makes_a_style file text style rows made (inl long) = omega (arith, made.0, long)
makes_a_style file text style rows made (inr bad) =
    no_fault text made.1.0 bad.1.0 (style, made.1.1) bad.0 (one_base made.1.0 bad.1.0 made.1.2 bad.1.1) bad.1.2 made.1.3 bad.1.3

there_is : (P : List ℕ → Type 0) (file : Option (List ℕ)) (text : List ℕ) → file ≡ Some text → IsThere P file → P text
there_is P file text is k = subst (IsThere P) is k

not_there : (P : List ℕ → Type 0) (file : Option (List ℕ)) → file ≡ None → IsThere P file → ⊥
not_there P file is k = subst (IsThere P) is k

some_none : {A : Type 0} (file : Option A) (x : A) → file ≡ Some x → file ≡ None → ⊥
some_none file x is none = let both : Some x ≡ None = sym is ∙ none in cc

-- where a style is in force its choice isn't refused
pub goes_on : (choice : StyleChoice) (held : Held) (style : Style) (rows : List ℕ) (status : ℕ) → IsInForce choice held style rows → StyleStops choice held status → ⊥
goes_on (Named name) held style rows status f s = some_none (named name.now) style f.0 s.0
goes_on (FileAt path) None style rows status f s = absurd s
goes_on (FileAt path) (Some at) style rows status f (inl s) = some_none (at path.now) f.0 f.1 s.0
goes_on (FileAt path) (Some at) style rows status f (inr s) = makes_a_style path.now f.0 style rows f.2 (there_is IsBadConfiguration (at path.now) f.0 f.1 s.0)
goes_on DefaultFile None style rows status f s = absurd s
goes_on DefaultFile (Some at) style rows status (inl f) s = makes_a_style default_file f.0 style rows f.2 (there_is IsBadConfiguration (at default_file) f.0 f.1 s.0)
goes_on DefaultFile (Some at) style rows status (inr f) s = not_there IsBadConfiguration (at default_file) f.0 s.0

-- a configuration that is there can only be refused with 3
three : (choice : StyleChoice) (held : Held) (file : List ℕ) (status : ℕ) (P : Option (List ℕ) → Type 0) → configuration_of choice ≡ Some file →
    HeldAt held file P → (P None → ⊥) → StyleStops choice held status → status ≡ 3
three (Named name) held file status P is there never s = absurd (cc)
three (FileAt path) None file status P is there never s = absurd s
three (FileAt path) (Some at) file status P is there never (inl s) =
    let same : file ≡ path.now = cc in
    let here : P (at path.now) = subst (λ (x : List ℕ). P (at x)) same there in
    absurd (never (subst P s.0 here))
three (FileAt path) (Some at) file status P is there never (inr s) = s.1
three DefaultFile None file status P is there never s = absurd s
three DefaultFile (Some at) file status P is there never s = s.1

path_missing : (held : Held) (file : List ℕ) (status : ℕ) → HeldAt held file (λ b. b ≡ None) →
    Tells held file (λ b. ((b ≡ None) × (status ≡ 6)) ⊎ (IsThere IsBadConfiguration b × (status ≡ 3))) → 6 ≡ status
path_missing None file status none s = absurd s
path_missing (Some at) file status none (inl s) = sym s.1
path_missing (Some at) file status none (inr s) = absurd (not_there IsBadConfiguration (at file) none s.0)

-- a choice that is refused ends so
pub style_ends : (choice : StyleChoice) (held : Held) (old new : Option (List ℕ)) (refusal : Refusal) (status : ℕ) → IsStyleRefused choice held old new refusal →
    StyleStops choice held status → EndsSo status refusal
style_ends choice held old new BadWords status k s = absurd k.1
style_ends choice held old new (BadLines its_word fault) status k s = absurd k.1
style_ends choice held old new (BadStates word) status k s = absurd k.1
style_ends choice held old new NoInput status k s = absurd k.1
style_ends choice held old new ManyFiles status k s = absurd k.1
style_ends choice held old new (BadGenerate word) status k s = absurd k.1
style_ends choice held old new GenerateBeside status k s = absurd k.1
style_ends choice held old new (UnknownStyle unknown) status k s =
    inl (sym (subst (λ (c : StyleChoice). StyleStops c held status) k.1.0 s).1)
style_ends choice held old new (LongConfiguration file) status k s =
    inl (sym (three choice held file.now status (λ b. IsSomeAnd b (λ bytes. LIMIT < length bytes)) k.1.0 k.1.1 (λ never. never) s))
style_ends choice held old new (BadConfiguration file fault) status k s =
    inl (sym (three choice held file.now status (λ b. b ≡ Some k.1.1.0) k.1.0 k.1.1.1 (λ wrong. some_none None k.1.1.0 wrong refl) s))
style_ends choice held old new (TooLarge its_name) status k s = absurd k.1
style_ends choice held old new (OpenComment its_name at) status k s = absurd k.1
style_ends choice held old new SourceFailed status k s = absurd k.1
style_ends choice held old new (FileFailed file) status k s = inr (inl refl)
style_ends choice held old new OutFailed status k s = absurd k.1
style_ends choice held old new NotesFailed status k s = inr (inl refl)
style_ends choice held old new (Missing file) status k s =
    inl (path_missing held file.now status k.1.1 (subst (λ (c : StyleChoice). StyleStops c held status) k.1.0 s))
style_ends choice held old new NoMemory status k s = inr (inr refl)

clash : (file : Option (List ℕ)) (P : Option (List ℕ) → Type 0) → P file → (P None → ⊥) → ((text : List ℕ) → P (Some text) → IsBadConfiguration text) →
    IsThere (λ text. IsBadConfiguration text → ⊥) file → ⊥
clash None P p never bad h = h
clash (Some text) P p never bad h = h (bad text p)

-- a configuration that makes a style isn't refused for its bytes
not_refused : (choice : StyleChoice) (held : Held) (file : List ℕ) (P : Option (List ℕ) → Type 0) → configuration_of choice ≡ Some file → HeldAt held file P →
    (P None → ⊥) → ((text : List ℕ) → P (Some text) → IsBadConfiguration text) → HasStyle choice held → ⊥
not_refused (Named name) held file P is there never bad h = absurd (cc)
not_refused (FileAt path) None file P is there never bad h = h
not_refused (FileAt path) (Some at) file P is there never bad h =
    let same : file ≡ path.now = cc in
    clash (at path.now) P (subst (λ (x : List ℕ). P (at x)) same there) never bad h
not_refused DefaultFile None file P is there never bad h = h
not_refused DefaultFile (Some at) file P is there never bad (inl h) =
    let same : file ≡ default_file = cc in
    never (subst P h (subst (λ (x : List ℕ). P (at x)) same there))
not_refused DefaultFile (Some at) file P is there never bad (inr h) =
    let same : file ≡ default_file = cc in
    clash (at default_file) P (subst (λ (x : List ℕ). P (at x)) same there) never bad h

path_there : (held : Held) (file : List ℕ) → HeldAt held file (λ b. b ≡ None) → Tells held file (IsThere (λ text. IsBadConfiguration text → ⊥)) → ⊥
path_there None file none h = h
path_there (Some at) file none h = not_there (λ text. IsBadConfiguration text → ⊥) (at file) none h

-- where a style is in force only a port or memory ends its choice
pub style_fails : (choice : StyleChoice) (held : Held) (old new : Option (List ℕ)) (refusal : Refusal) → IsStyleRefused choice held old new refusal →
    HasStyle choice held → (status_of refusal ≡ 5) ⊎ (status_of refusal ≡ 7)
style_fails choice held old new BadWords k h = absurd k.1
style_fails choice held old new (BadLines its_word fault) k h = absurd k.1
style_fails choice held old new (BadStates word) k h = absurd k.1
style_fails choice held old new NoInput k h = absurd k.1
style_fails choice held old new ManyFiles k h = absurd k.1
style_fails choice held old new (BadGenerate word) k h = absurd k.1
style_fails choice held old new GenerateBeside k h = absurd k.1
style_fails choice held old new (UnknownStyle unknown) k h = absurd (subst (λ (c : StyleChoice). HasStyle c held) k.1.0 h k.1.1)
style_fails choice held old new (LongConfiguration file) k h =
    absurd (not_refused choice held file.now (λ b. IsSomeAnd b (λ bytes. LIMIT < length bytes)) k.1.0 k.1.1 (λ never. never) (λ text long. inl long) h)
style_fails choice held old new (BadConfiguration file fault) k h =
    absurd (not_refused choice held file.now (λ b. b ≡ Some k.1.1.0) k.1.0 k.1.1.1 (λ wrong. some_none None k.1.1.0 wrong refl)
    (λ text is. let same : k.1.1.0 ≡ text = cc in inr (fault, subst (λ (x : List ℕ). IsAtFault x fault) same k.1.1.2)) h)
style_fails choice held old new (TooLarge its_name) k h = absurd k.1
style_fails choice held old new (OpenComment its_name at) k h = absurd k.1
style_fails choice held old new SourceFailed k h = absurd k.1
style_fails choice held old new (FileFailed file) k h = inl refl
style_fails choice held old new OutFailed k h = absurd k.1
style_fails choice held old new NotesFailed k h = inl refl
style_fails choice held old new (Missing file) k h = absurd (path_there held file.now k.1.1 (subst (λ (c : StyleChoice). HasStyle c held) k.1.0 h))
style_fails choice held old new NoMemory k h = inr refl
