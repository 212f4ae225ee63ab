-- Gaps that are kept as they are: those inside the braces of statements that stand inside brackets (`docs/PROFILE.md`,
-- "Kept gaps").
use Rattle.std.specs.Prelude.{◌≡◌, ◌==◌, ℕ, zero, suc, Bool, true, false, not, ◌&&◌, ◌||◌, nat_le, List, [], ◌∷◌}
use Rattle.std.specs.Prelude.{Option, Some, None, map, take, length, slice_set, if◌then◌else◌}
use Rattle.std.specs.List.{list_any, slice_index_or, range_with_len}
use Rattle.token_classes.specs.declared.class.TokenClass.{TokenClass}
use Rattle.token_classes.specs.declared.class.TokenClass.TheVariants.{Nothing}
use Rattle.token_classes.specs.declared.pairing.Opener.{Opener}
use Rattle.token_classes.specs.Classes.{is_open_brace, is_semicolon}
use Rattle.token_classes.specs.Partners.{Matching, is_round, is_square, matching_from, partners_of}

-- no opener waits, and no partner is looked for
abbrev pub none_waits : Matching
none_waits = record { open_brackets = []; partners = [] }

-- the openers that wait when the token at this place is read, the topmost first ("Partners")
abbrev pub waiting_at : List TokenClass → ℕ → List Opener
waiting_at classes place = (matching_from 0 none_waits (take place classes)).open_brackets

-- the class of the token at this place
abbrev pub class_at : List TokenClass → ℕ → TokenClass
class_at classes place = slice_index_or classes place Nothing

-- a `(` or a `[`
abbrev pub is_round_or_square : Opener → Bool
is_round_or_square opener = is_round opener || is_square opener

-- the topmost opener stands at this place
abbrev pub is_topmost : List Opener → ℕ → Bool
is_topmost [] place = false
is_topmost (opener ∷ below) place = opener.place == place

-- the test holds for some number below this one
abbrev pub some_below : ℕ → (ℕ → Bool) → Bool
some_below zero test = false
some_below (suc n) test = test n || some_below n test

-- a `;` stands at a place, directly inside the bracket at this one, and so before its partner: the bracket is the
-- topmost opener that waits when the `;` is read
abbrev pub is_semicolon_inside : List TokenClass → ℕ → ℕ → Bool
is_semicolon_inside classes bracket place =
    is_semicolon (class_at classes place) && is_topmost (waiting_at classes place) bracket

-- a `{` stands at this place, and a `(` or `[` waits when it is read
abbrev pub is_brace_in_brackets : List TokenClass → ℕ → Bool
is_brace_in_brackets classes place =
    is_open_brace (class_at classes place) && list_any is_round_or_square (waiting_at classes place)

-- a statement brace: such a `{` with a `;` directly inside
abbrev pub is_statement_brace : List TokenClass → ℕ → Bool
is_statement_brace classes place =
    is_brace_in_brackets classes place && some_below (length classes) (is_semicolon_inside classes place)

-- the place doesn't come behind this partner
abbrev pub is_up_to : Option ℕ → ℕ → Bool
is_up_to None place = false
is_up_to (Some partner) place = nat_le place partner

-- the gap before a place is kept: the place comes behind a statement brace, and not behind its partner
abbrev pub is_kept : List TokenClass → ℕ → Bool
is_kept classes place =
    some_below place (λ brace.
    is_statement_brace classes brace && is_up_to (slice_index_or (partners_of classes) brace None) place)

-- of each place of a view, whether the gap before it is kept
abbrev pub kept_gaps_of : List TokenClass → List Bool
kept_gaps_of classes = map (is_kept classes) (range_with_len 0 (length classes))

-- What the code keeps

-- the gap before this place stands between a marked brace and its partner
abbrev pub is_inside : List Bool → List (Option ℕ) → ℕ → Bool
is_inside marks partners place =
    some_below place
    (λ brace. slice_index_or marks brace false && is_up_to (slice_index_or partners brace None) place)

-- the marks with that of the topmost opener, where that is a brace inside brackets
abbrev pub marked : List Opener → List Bool → List Bool
marked [] marks = marks
marked (opener ∷ below) marks =
    if is_open_brace opener.kind && list_any is_round_or_square below then slice_set marks opener.place true
    else marks

-- each opener is either a `{` or a `(` or `[`
abbrev pub AreOpeners : List Opener → Type 0
AreOpeners [] = Unit {0}
AreOpeners (opener ∷ below) = (is_round_or_square opener ≡ not (is_open_brace opener.kind)) × AreOpeners below
