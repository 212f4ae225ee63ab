-- What is decided of the gaps of a line before it is laid out.
use Rattle.std.specs.Prelude.{ℕ, zero, suc, Option, None, List, [], ◌∷◌}
use Rattle.line_tokens.specs.declared.LineTok.{LineTok}
use Rattle.line_tokens.specs.declared.Fixed.{Fixed}
use Rattle.token_arena.specs.Gaps.{Contents}
use Rattle.replacements.specs.declared.slot.Slot.{Slot}
use Rattle.replacements.specs.Decisions.{slot_of}
use Rattle.replacements.specs.Breaks.{fixed_by}

-- what is decided of the gap before a token
abbrev pub fixed_of_token : Contents → List (Option Slot) → LineTok → Option Fixed
fixed_of_token arena plan token = fixed_by arena token.id.0 (slot_of plan token.id.0)

-- what is decided of the gap before an item
abbrev pub fixed_of_id : Contents → List (Option Slot) → ℕ → Option Fixed
fixed_of_id arena plan id = fixed_by arena id (slot_of plan id)

-- what is told of the gaps before these tokens or items, of which so many are looked at: before the others nothing yet
abbrev pub fixed_up_to : {A : Type 0} → (A → Option Fixed) → List A → ℕ → List (Option Fixed)
fixed_up_to {A} f [] n = []
fixed_up_to {A} f (token ∷ tokens) zero = None ∷ fixed_up_to f tokens zero
fixed_up_to {A} f (token ∷ tokens) (suc n) = f token ∷ fixed_up_to f tokens n
