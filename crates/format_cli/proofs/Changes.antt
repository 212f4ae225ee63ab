-- Whether some text changes, over several FILEs and in a whole call.
use Rattle.std.proofs.Common.{◌≡◌, ◌⊎◌, ◌∙◌, ◌↔◌, ◌||◌, ◌&&◌, ℕ, Bool, true, false, List, [], ◌∷◌, IsTrue, refl, subst, sym, inl, inr}
use Rattle.std.proofs.lemmas.Bool.{false≢true}
use Rattle.command_words.specs.declared.read.Words.{Words}
use Rattle.format_cli.specs.Options.{Options}
use Rattle.format_cli.specs.declared.input.Place.{Place}
use Rattle.format_cli.specs.Account.{Answers, WouldFail, outcome_of, outcome_status}
use Rattle.format_cli.specs.Inputs.{AreDoneWith, Ends, IsDoneWith}
use Rattle.format_cli.proofs.Ends.{keeps_self, keeps_all_self}

-- where nothing changes
pub none_changes : (changes : Bool) → changes ≡ false → IsTrue changes ↔ ⊥
none_changes changes is = (λ t. false≢true (sym is ∙ t), λ never. absurd never)

or_iff : (a b : Bool) (P Q : Type 0) → (IsTrue a ↔ P) → (IsTrue b ↔ Q) → IsTrue (a || b) ↔ (P ⊎ Q)
or_iff true b P Q h k = (λ t. inl (h.0 refl), λ s. refl)
or_iff false b P Q h k = (λ t. inr (k.0 t), back)
  where
    back : P ⊎ Q → IsTrue b
    back (inl p) = absurd (false≢true (h.1 p))
    back (inr q) = k.1 q

or_again : (a b c : Bool) → (a || b) || c ≡ a || (b || c)
or_again true b c = refl
or_again false b c = refl

or_false : (a : Bool) → a || false ≡ a
or_false true = refl
or_false false = refl

-- a FILE that was done, and those behind it
pub and_those_behind : (options : Options) (place : Place) (name : List ℕ) (names : List (List ℕ)) (before between now : Ends) (here rest : Bool) → IsDoneWith options place name before between here →
    AreDoneWith options place names between now rest → AreDoneWith options place (name ∷ names) before now (here || rest)
and_those_behind options place name names before between now here rest h k = ((between, h.0, k.0), or_iff here rest _ _ h.1 k.1)

-- what is told of one more
pub one_more : (options : Options) (place : Place) (names : List (List ℕ)) (before now : Ends) (old here rest : Bool) → AreDoneWith options place names before now (old || (here || rest)) →
    AreDoneWith options place names before now ((old || here) || rest)
one_more options place names before now old here rest k = subst (λ (b : Bool). AreDoneWith options place names before now b) (sym (or_again old here rest)) k

-- no FILE is left
pub none_left : (options : Options) (place : Place) (names : List (List ℕ)) (now : Ends) → names ≡ [] → AreDoneWith options place names now now false
none_left options place names now none =
    subst (λ (xs : List (List ℕ)). AreDoneWith options place xs now now false) (sym none)
    (record { taken = keeps_self _; held = keeps_all_self _; told = keeps_self _ }, (λ t. false≢true t, λ k. absurd k))

pub all_told : (options : Options) (place : Place) (names : List (List ℕ)) (before now : Ends) (changes : Bool) → AreDoneWith options place names before now (changes || false) →
    AreDoneWith options place names before now changes
all_told options place names before now changes k = subst (λ (b : Bool). AreDoneWith options place names before now b) (or_false changes) k

answers_by : (dry_run werror changes : Bool) (P : Type 0) → (IsTrue changes ↔ P) →
    Answers (IsTrue dry_run × IsTrue werror × P) (outcome_status (outcome_of (dry_run && werror) changes))
answers_by true true true P h = inl ((refl, refl, h.0 refl), refl)
answers_by true true false P h = inr (λ k. false≢true (h.1 k.2), refl)
answers_by true false changes P h = inr (λ k. false≢true k.1, refl)
answers_by false werror changes P h = inr (λ k. false≢true k.0, refl)

-- the status of a call that did all that its words ask for
pub answers : (said : Words) (changes : Bool) (P : Type 0) → (IsTrue changes ↔ P) → Answers (WouldFail said P) (outcome_status (outcome_of (said.dry_run && said.werror) changes))
answers said changes P h = answers_by said.dry_run said.werror changes P h
