-- Two choices of one word give one style.
use Rattle.std.proofs.Common.{◌≡◌, ◌⊎◌, ◌++◌, ◌∙◌, ℕ, List, None, Some, sym, subst, codes}
use Rattle.std.specs.Prelude.{⊤}
use Rattle.std.proofs.lemmas.List.{append_cancel_left}
use Rattle.fmt_ports.specs.Files.{Held}
use Rattle.style_table.specs.declared.style.Style.{Style}
use Rattle.style_table.specs.Named.{named}
use Rattle.command_words.specs.Said.{Chooses}
use Rattle.command_words.specs.declared.read.StyleChoice.{StyleChoice}
use Rattle.command_words.specs.declared.read.StyleChoice.TheVariants.{File as DefaultFile, FileAt, Named}
use Rattle.command_refusals.specs.InForce.{Configures, IsHeld, IsInForce}
use Rattle.command_refusals.specs.Order.{HasStyle, IsBadConfiguration, IsThere, StyleStops, Tells}

-- two choices of the same word
abbrev pub IsSameChoice : StyleChoice → StyleChoice → Type 0
IsSameChoice DefaultFile DefaultFile = ⊤
IsSameChoice (FileAt path) (FileAt other) = path.now ≡ other.now
IsSameChoice (Named name) (Named other) = name.now ≡ other.now
IsSameChoice DefaultFile (FileAt other) = ⊥
IsSameChoice DefaultFile (Named other) = ⊥
IsSameChoice (FileAt path) DefaultFile = ⊥
IsSameChoice (FileAt path) (Named other) = ⊥
IsSameChoice (Named name) DefaultFile = ⊥
IsSameChoice (Named name) (FileAt other) = ⊥

no_path : (word path : List ℕ) → word ≡ codes "file" → word ≡ codes "file:" ++ path → ⊥
no_path word path is named = let both : codes "file" ≡ codes "file:" ++ path = sym is ∙ named in cc

pub one_choice : (word : List ℕ) (a b : StyleChoice) → Chooses word a → Chooses word b → IsSameChoice a b
one_choice word DefaultFile DefaultFile p q = tt
one_choice word DefaultFile (FileAt other) p q = absurd (no_path word other.now p q)
one_choice word DefaultFile (Named other) p q = absurd (q.1 p)
one_choice word (FileAt path) DefaultFile p q = absurd (no_path word path.now q p)
one_choice word (FileAt path) (FileAt other) p q = append_cancel_left (codes "file:") path.now other.now (sym p ∙ q)
one_choice word (FileAt path) (Named other) p q = absurd (q.2 path.now p)
one_choice word (Named name) DefaultFile p q = absurd (p.1 q)
one_choice word (Named name) (FileAt other) p q = absurd (p.2 other.now q)
one_choice word (Named name) (Named other) p q = sym p.0 ∙ q.0

pub stops_same : (a b : StyleChoice) (held : Held) (status : ℕ) → IsSameChoice a b → StyleStops a held status → StyleStops b held status
stops_same DefaultFile DefaultFile held status same s = s
stops_same DefaultFile (FileAt other) held status same s = absurd same
stops_same DefaultFile (Named other) held status same s = absurd same
stops_same (FileAt path) DefaultFile held status same s = absurd same
stops_same (FileAt path) (FileAt other) held status same s =
    subst (λ (x : List ℕ). Tells held x (λ file. ((file ≡ None) × (status ≡ 6)) ⊎ (IsThere IsBadConfiguration file × (status ≡ 3)))) same s
stops_same (FileAt path) (Named other) held status same s = absurd same
stops_same (Named name) DefaultFile held status same s = absurd same
stops_same (Named name) (FileAt other) held status same s = absurd same
stops_same (Named name) (Named other) held status same s = (subst (λ (x : List ℕ). named x ≡ None) same s.0, s.1)

pub has_same : (a b : StyleChoice) (held : Held) → IsSameChoice a b → HasStyle a held → HasStyle b held
has_same DefaultFile DefaultFile held same h = h
has_same DefaultFile (FileAt other) held same h = absurd same
has_same DefaultFile (Named other) held same h = absurd same
has_same (FileAt path) DefaultFile held same h = absurd same
has_same (FileAt path) (FileAt other) held same h =
    subst (λ (x : List ℕ). Tells held x (IsThere (λ text. IsBadConfiguration text → ⊥))) same h
has_same (FileAt path) (Named other) held same h = absurd same
has_same (Named name) DefaultFile held same h = absurd same
has_same (Named name) (FileAt other) held same h = absurd same
has_same (Named name) (Named other) held same h = subst (λ (x : List ℕ). named x ≡ None → ⊥) same h

pub in_force_same : (a b : StyleChoice) (held : Held) (style : Style) (rows : List ℕ) → IsSameChoice a b → IsInForce a held style rows → IsInForce b held style rows
in_force_same DefaultFile DefaultFile held style rows same f = f
in_force_same DefaultFile (FileAt other) held style rows same f = absurd same
in_force_same DefaultFile (Named other) held style rows same f = absurd same
in_force_same (FileAt path) DefaultFile held style rows same f = absurd same
in_force_same (FileAt path) (FileAt other) held style rows same f =
    subst (λ (x : List ℕ). (text : List ℕ) × IsHeld held x text × Configures x text style rows) same f
in_force_same (FileAt path) (Named other) held style rows same f = absurd same
in_force_same (Named name) DefaultFile held style rows same f = absurd same
in_force_same (Named name) (FileAt other) held style rows same f = absurd same
in_force_same (Named name) (Named other) held style rows same f = (subst (λ (x : List ℕ). named x ≡ Some style) same f.0, f.1)
