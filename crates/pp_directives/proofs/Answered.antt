-- What the answer to a condition does.
use Rattle.std.proofs.Common.{◌≡◌, ℕ, Bool, true, false, List, [], ◌∷◌, Option, Some, None, refl, ap, sym}
use Rattle.std.specs.Prelude.{not}
use Rattle.pp_model.specs.Token.{PpToken, Tok}
use Rattle.pp_model.specs.Condition.{is_name, is_defined}
use Rattle.pp_model.specs.Expand.{Expanded, Done, Spent}
use Rattle.pp_model.specs.Preprocess.{World, tested, asked, spend, malformed, with_turns, key_of}
use Rattle.pp_directives.specs.WorldView.{front_defined}

pub tested_by_tokens : (holds : List PpToken → Bool) (go : Bool → World → World) (w : World) (e : Expanded) (ts : List Tok) (n : ℕ) → Done ts n ≡ e → tested holds go w e ≡ go (holds (key_of ts)) (with_turns n w)
tested_by_tokens holds go w e ts n h = ap (tested holds go w) (sym h)

pub tested_by_none : (holds : List PpToken → Bool) (go : Bool → World → World) (w : World) (e : Expanded) → Spent ≡ e → tested holds go w e ≡ spend w
tested_by_none holds go w e h = ap (tested holds go w) (sym h)

same_answer : (d e : Bool) → Some e ≡ Some d → d ≡ e
same_answer d e h = cc

none_defined : (b d : Bool) (x y : World) → None ≡ (let r : Option Bool = elim b [ true ↦ Some d | false ↦ None ] in r) → (let r : World = elim b [ true ↦ x | false ↦ y ] in r) ≡ y
none_defined true d x y h = absurd (cc)
none_defined false d x y h = refl

some_defined : (b d defined : Bool) (go : Bool → World) (y : World) → Some defined ≡ (let r : Option Bool = elim b [ true ↦ Some d | false ↦ None ] in r) → (let r : World = elim b [ true ↦ go d | false ↦ y ] in r) ≡ go defined
some_defined true d defined go y h = ap go (same_answer d defined h)
some_defined false d defined go y h = absurd (cc)

pub asked_of_none : (sense : Bool) (go : Bool → World → World) (ts : List Tok) (w : World) → None ≡ front_defined w.table ts → asked sense go ts w ≡ go false (malformed w)
asked_of_none sense go [] w h = refl
asked_of_none sense go (t ∷ ts) w h = none_defined (is_name t) (is_defined w.table t) _ _ h

pub asked_of_name : (sense : Bool) (go : Bool → World → World) (ts : List Tok) (w : World) (defined : Bool) → Some defined ≡ front_defined w.table ts → asked sense go ts w ≡ go (elim sense [ true ↦ defined | false ↦ not defined ]) w
asked_of_name sense go [] w defined h = absurd (cc)
asked_of_name sense go (t ∷ ts) w defined h = some_defined (is_name t) (is_defined w.table t) defined (λ d. go (elim sense [ true ↦ d | false ↦ not d ]) w) _ h
