-- Partners of brackets.
use Rattle.std.specs.Prelude.{◌≡◌, ℕ, suc, ◌+◌, Bool, true, false, List, [], ◌∷◌, Option, Some, None, slice_set}
use Rattle.std.specs.Prelude.{replicate, length, reverse, ◌<◌}
use Rattle.token_classes.specs.declared.class.TokenClass.{TokenClass}
use Rattle.token_classes.specs.declared.class.TokenClass.TheVariants.{OpenRound, CloseRound, OpenSquare, CloseSquare}
use Rattle.token_classes.specs.declared.class.TokenClass.TheVariants.{OpenBrace, CloseBrace}
use Rattle.token_classes.specs.declared.pairing.Opener.{Opener}

abbrev pub is_brace : Opener → Bool
is_brace o = elim o.kind [ OpenBrace ↦ true | _ ↦ false ]

abbrev pub is_round : Opener → Bool
is_round o = elim o.kind [ OpenRound ↦ true | _ ↦ false ]

abbrev pub is_square : Opener → Bool
is_square o = elim o.kind [ OpenSquare ↦ true | _ ↦ false ]

-- the openers that wait, the topmost first, and the partners found so far
pub record Matching : Type 0 where
  pub open_brackets : List Opener
  pub partners : List (Option ℕ)

-- what the code keeps, as the definition sees it
abbrev pub matching_of : List Opener → List (Option ℕ) → Matching
matching_of stack partners = record { open_brackets = reverse stack; partners = partners }

-- the nearest brace, and the openers below it
pub record Nearest : Type 0 where
  pub place : ℕ
  pub below : List Opener

abbrev pub nearest_brace : List Opener → Option Nearest
nearest_brace [] = None
nearest_brace (o ∷ os) =
    elim (is_brace o) [ true ↦ Some (record { place = o.place; below = os }) | false ↦ nearest_brace os ]

-- the topmost opener, if it is of that kind, and the openers below it
abbrev pub topmost : (Opener → Bool) → List Opener → Option Nearest
topmost fits [] = None
topmost fits (o ∷ os) = elim (fits o) [ true ↦ Some (record { place = o.place; below = os }) | false ↦ None ]

-- an opener waits for its partner
abbrev pub opened : TokenClass → ℕ → Matching → Matching
opened c i m = record { open_brackets = record { place = i; kind = c } ∷ m.open_brackets; partners = m.partners }

-- a closer takes off its partner; without partner it changes nothing
abbrev pub closed : ℕ → Option Nearest → Matching → Matching
closed i None m = m
closed i (Some o) m =
    record { open_brackets = o.below; partners = slice_set (slice_set m.partners o.place (Some i)) i (Some o.place) }

-- one token
abbrev pub bracket_step : TokenClass → ℕ → Matching → Matching
bracket_step OpenRound i m = opened OpenRound i m
bracket_step OpenSquare i m = opened OpenSquare i m
bracket_step OpenBrace i m = opened OpenBrace i m
bracket_step CloseRound i m = closed i (topmost is_round m.open_brackets) m
bracket_step CloseSquare i m = closed i (topmost is_square m.open_brackets) m
bracket_step CloseBrace i m = closed i (nearest_brace m.open_brackets) m
bracket_step _ i m = m

-- the partners with those of a closer and of the opener that it takes off, where it takes one off
abbrev pub paired : List (Option ℕ) → Option ℕ → ℕ → List (Option ℕ)
paired partners None i = partners
paired partners (Some o) i = slice_set (slice_set partners o (Some i)) i (Some o)

-- one token takes off this opener, and leaves these openers in place of those, whatever partners were found so far
abbrev pub TakesStep : TokenClass → ℕ → List Opener → Option ℕ → List Opener → Type 0
TakesStep c i old taken new =
    (partners : List (Option ℕ)) →
    record { open_brackets = new; partners = paired partners taken i }
    ≡ bracket_step c i (record { open_brackets = old; partners = partners })

-- the tokens from place `i` on
abbrev pub matching_from : ℕ → Matching → List TokenClass → Matching
matching_from i m [] = m
matching_from i m (c ∷ cs) = matching_from (i + 1) (bracket_step c i m) cs

-- the partner of each place
abbrev pub partners_of : List TokenClass → List (Option ℕ)
partners_of cs = (matching_from 0 (record { open_brackets = []; partners = replicate (length cs) None }) cs).partners

-- every opener stands before this place
abbrev pub StandBefore : ℕ → List Opener → Type 0
StandBefore n [] = Unit {0}
StandBefore n (o ∷ os) = (o.place < n) × StandBefore n os

abbrev pub count_braces : List Opener → ℕ
count_braces [] = 0
count_braces (o ∷ os) = elim (is_brace o) [ true ↦ suc (count_braces os) | false ↦ count_braces os ]
