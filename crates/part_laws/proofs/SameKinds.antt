-- Where declarations end depends on the kinds of the openers that wait, and not on their places.
use Rattle.std.proofs.Common.{◌≡◌, ◌∙◌, ℕ, Bool, true, false, Option, Some, None, List, [], ◌∷◌, length, refl, ap}
use Rattle.std.proofs.Common.{arith}
use Rattle.std.specs.Prelude.{⊤}
use Rattle.token_arena.specs.Gaps.{Contents}
use Rattle.token_classes.specs.declared.class.TokenClass.{TokenClass}
use Rattle.token_classes.specs.declared.class.TokenClass.TheVariants.{OpenRound, CloseRound, OpenSquare, CloseSquare}
use Rattle.token_classes.specs.declared.class.TokenClass.TheVariants.{OpenBrace, CloseBrace}
use Rattle.item_classes.specs.Viewed.{item_class}
use Rattle.token_classes.specs.declared.pairing.Opener.{Opener}
use Rattle.token_classes.specs.Partners.{Nearest, is_brace, is_round, is_square, nearest_brace, topmost, closed}
use Rattle.part_laws.specs.Declarations.{Reading, Ends, Never, GoesOn, Walk, reading, waiting_behind, is_open, next_end}
use Rattle.part_laws.proofs.FirstPart.{by_reading}
use Rattle.part_walk.specs.declared.bodies.Head.{Head}
use Rattle.part_walk.specs.Brackets.{braces_of}
use Rattle.view_parts.proofs.BodiesPassed.{waits_so}
use Rattle.view_parts.proofs.Waits.{AreBraces}

-- these openers are of the same kinds, one by one
abbrev pub SameKinds : List Opener → List Opener → Type 0
SameKinds [] [] = ⊤
SameKinds [] (other ∷ others) = ⊥
SameKinds (opener ∷ below) [] = ⊥
SameKinds (opener ∷ below) (other ∷ others) = (opener.kind ≡ other.kind) × SameKinds below others

pub same_kinds : (waiting : List Opener) → SameKinds waiting waiting
same_kinds [] = tt
same_kinds (opener ∷ below) = (refl, same_kinds below)

-- ## Behind one token

abbrev below_found : Option Nearest → List Opener → List Opener
below_found None waiting = waiting
below_found (Some found) waiting = found.below

kind_of_brace : (opener other : Opener) → opener.kind ≡ other.kind → is_brace opener ≡ is_brace other
kind_of_brace opener other same = ap (λ (kind : TokenClass). is_brace (record { place = 0; kind = kind })) same

kind_of_round : (opener other : Opener) → opener.kind ≡ other.kind → is_round opener ≡ is_round other
kind_of_round opener other same = ap (λ (kind : TokenClass). is_round (record { place = 0; kind = kind })) same

kind_of_square : (opener other : Opener) → opener.kind ≡ other.kind → is_square opener ≡ is_square other
kind_of_square opener other same = ap (λ (kind : TokenClass). is_square (record { place = 0; kind = kind })) same

-- the openers below the one that is found, of each
nearest_same : (waiting others all both : List Opener) → SameKinds waiting others → SameKinds all both
    → SameKinds (below_found (nearest_brace waiting) all) (below_found (nearest_brace others) both)
nearest_same [] [] all both same whole = whole
nearest_same [] (other ∷ others) all both same whole = absurd same
nearest_same (opener ∷ below) [] all both same whole = absurd same
nearest_same (opener ∷ below) (other ∷ others) all both same whole =
    by_brace (is_brace opener) (is_brace other) (kind_of_brace opener other same.0) (nearest_same below others all both same.1 whole)
  where
    by_brace : (brace fits : Bool) → brace ≡ fits → SameKinds (below_found (nearest_brace below) all) (below_found (nearest_brace others) both)
        → SameKinds (below_found (elim brace as (λ _. Option Nearest) [ true ↦ Some (record { place = opener.place; below = below }) | false ↦ nearest_brace below ]) all)
        (below_found (elim fits as (λ _. Option Nearest) [ true ↦ Some (record { place = other.place; below = others }) | false ↦ nearest_brace others ]) both)
    by_brace true true e on = same.1
    by_brace true false e on = cc
    by_brace false true e on = cc
    by_brace false false e on = on

topmost_same : (fits : Opener → Bool) → ((opener other : Opener) → opener.kind ≡ other.kind → fits opener ≡ fits other) → (waiting others : List Opener)
    → SameKinds waiting others → SameKinds (below_found (topmost fits waiting) waiting) (below_found (topmost fits others) others)
topmost_same fits alike [] [] same = tt
topmost_same fits alike [] (other ∷ others) same = absurd same
topmost_same fits alike (opener ∷ below) [] same = absurd same
topmost_same fits alike (opener ∷ below) (other ∷ others) same = by_fit (fits opener) (fits other) (alike opener other same.0)
  where
    by_fit : (fit does : Bool) → fit ≡ does
        → SameKinds (below_found (elim fit as (λ _. Option Nearest) [ true ↦ Some (record { place = opener.place; below = below }) | false ↦ None ]) (opener ∷ below))
        (below_found (elim does as (λ _. Option Nearest) [ true ↦ Some (record { place = other.place; below = others }) | false ↦ None ]) (other ∷ others))
    by_fit true true e = same.1
    by_fit true false e = cc
    by_fit false true e = cc
    by_fit false false e = same

by_below : (place there : ℕ) (found other : Option Nearest) (waiting others : List Opener) → SameKinds (below_found found waiting) (below_found other others)
    → SameKinds (closed place found (waits_so waiting)).open_brackets (closed there other (waits_so others)).open_brackets
by_below place there None None waiting others same = same
by_below place there None (Some other) waiting others same = same
by_below place there (Some found) None waiting others same = same
by_below place there (Some found) (Some other) waiting others same = same

pub same_behind : (class : TokenClass) (place there : ℕ) (waiting others : List Opener) → SameKinds waiting others
    → SameKinds (waiting_behind class place waiting) (waiting_behind class there others)
same_behind OpenRound place there waiting others same = (refl, same)
same_behind OpenSquare place there waiting others same = (refl, same)
same_behind OpenBrace place there waiting others same = (refl, same)
same_behind CloseRound place there waiting others same =
    by_below place there (topmost is_round waiting) (topmost is_round others) waiting others (topmost_same is_round kind_of_round waiting others same)
same_behind CloseSquare place there waiting others same =
    by_below place there (topmost is_square waiting) (topmost is_square others) waiting others (topmost_same is_square kind_of_square waiting others same)
same_behind CloseBrace place there waiting others same =
    by_below place there (nearest_brace waiting) (nearest_brace others) waiting others (nearest_same waiting others waiting others same same)
same_behind _ place there waiting others same = same

-- ## What depends on kinds alone

same_open : (waiting others : List Opener) → SameKinds waiting others → is_open waiting ≡ is_open others
same_open [] [] same = refl
same_open [] (other ∷ others) same = absurd same
same_open (opener ∷ below) [] same = absurd same
same_open (opener ∷ below) (other ∷ others) same = refl

pub same_ends : (arena : Contents) (walk : Walk) (waiting others : List Opener) (ids : List ℕ) → SameKinds waiting others
    → next_end arena walk waiting ids ≡ next_end arena walk others ids
same_ends arena walk waiting others [] same = refl
same_ends arena walk waiting others (id ∷ ids) same =
    ap (λ (b : Bool). by_reading arena (waiting_behind (item_class arena id) walk.place waiting) ids (reading arena walk b id (item_class arena id)))
    (same_open waiting others same)
    ∙ by_read (reading arena walk (is_open others) id (item_class arena id))
    (λ next. same_ends arena next (waiting_behind (item_class arena id) walk.place waiting) (waiting_behind (item_class arena id) walk.place others) ids
    (same_behind (item_class arena id) walk.place walk.place waiting others same))
  where
    by_read : (read : Reading) → ((next : Walk) → next_end arena next (waiting_behind (item_class arena id) walk.place waiting) ids
        ≡ next_end arena next (waiting_behind (item_class arena id) walk.place others) ids)
        → by_reading arena (waiting_behind (item_class arena id) walk.place waiting) ids read
        ≡ by_reading arena (waiting_behind (item_class arena id) walk.place others) ids read
    by_read (Ends count) on = refl
    by_read Never on = refl
    by_read (GoesOn next) on = on next

-- ## Braces

brace_kind : (place : ℕ) (kind : TokenClass) → is_brace (record { place = place; kind = kind }) ≡ true → kind ≡ OpenBrace
brace_kind place OpenBrace brace = refl
brace_kind place _ brace = cc

-- openers that are all a `{` are of the same kinds as those of as many heads
pub kinds_of_braces : (waiting : List Opener) (heads : List Head) → AreBraces waiting → length waiting ≡ length heads → SameKinds waiting (braces_of heads)
kinds_of_braces [] [] braces same = tt
kinds_of_braces [] (head ∷ heads) braces same = absurd (omega (arith, same))
kinds_of_braces (opener ∷ waiting) [] braces same = absurd (omega (arith, same))
kinds_of_braces (opener ∷ waiting) (head ∷ heads) braces same =
    (brace_kind opener.place opener.kind braces.0, kinds_of_braces waiting heads braces.1 (omega (arith, same)))
