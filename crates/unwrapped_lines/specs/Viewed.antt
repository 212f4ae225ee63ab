-- A view as a list of tokens and comments.
use Rattle.std.specs.Prelude.{◌&&◌, ◌||◌, not, ℕ, ◌+◌, Bool, false, Option, Some, None, List, [], ◌∷◌, map, get_or}
use Rattle.std.specs.Prelude.{slice_get, if◌then◌else◌}
use Rattle.token_arena.specs.Gaps.{Contents, item_began}
use Rattle.token_arena.specs.Stored.{Stored}
use Rattle.token_classes.specs.declared.class.TokenClass.{TokenClass}
use Rattle.token_classes.specs.declared.class.TokenClass.TheVariants.{Nothing}
use Rattle.token_classes.specs.Classes.{is_colon, is_comment}
use Rattle.item_classes.specs.Viewed.{item_class}
use Rattle.statement_lines.specs.declared.token.CodeToken.{CodeToken}
use Rattle.item_classes.specs.declared.part.Part.{Part}
use Rattle.item_classes.specs.Part.{part_of}

-- ## The gaps of the file

abbrev pub empty_of_item : Option Stored → Bool
empty_of_item None = false
empty_of_item (Some token) = token.gap.empty

-- a colon comes directly behind the item with this number, with nothing between them
abbrev pub colon_touches : Contents → ℕ → Bool
colon_touches arena id = empty_of_item (slice_get arena.tokens (id + 1)) && is_colon (item_class arena (id + 1))

-- ## Tokens that are no comments

-- how many of them stand before each place, where so many stand before the first
abbrev pub numbers_from : ℕ → List TokenClass → List ℕ
numbers_from n [] = []
numbers_from n (c ∷ cs) = n ∷ numbers_from (if is_comment c then n else n + 1) cs

abbrev pub numbers_of : List TokenClass → List ℕ
numbers_of classes = numbers_from 0 classes

-- a partner, counted over them
abbrev pub partner_number : List ℕ → Option (Option ℕ) → Option ℕ
partner_number numbers None = None
partner_number numbers (Some None) = None
partner_number numbers (Some (Some place)) = slice_get numbers place

-- the token at a place
abbrev pub token_at : Contents → List ℕ → List TokenClass → List (Option ℕ) → ℕ → CodeToken
token_at arena ids classes partners k =
    let c = get_or classes k Nothing in
    record {
      class = c;
      began = item_began arena (get_or ids k 0);
      touched = is_colon c && colon_touches arena (get_or ids k 0);
      partner = partner_number (numbers_of classes) (slice_get partners k);
    }

-- the places of the tokens that are no comments, where the first class stands at this place
abbrev pub code_places_from : ℕ → List TokenClass → List ℕ
code_places_from k [] = []
code_places_from k (c ∷ cs) = if is_comment c then code_places_from (k + 1) cs else k ∷ code_places_from (k + 1) cs

-- the tokens of a view that are no comments, with their partners
abbrev pub code_tokens : Contents → List ℕ → List TokenClass → List (Option ℕ) → List CodeToken
code_tokens arena ids classes partners = map (token_at arena ids classes partners) (code_places_from 0 classes)

-- ## Comments

-- the parts of a view from a place on
abbrev pub parts_from : Contents → List ℕ → ℕ → Bool → List TokenClass → List Part
parts_from arena ids k started [] = []
parts_from arena ids k started (c ∷ cs) =
    part_of arena (get_or ids k 0) started c ∷ parts_from arena ids (k + 1) (started || not (is_comment c)) cs

-- the parts of a view
abbrev pub parts_of : Contents → List ℕ → List TokenClass → List Part
parts_of arena ids classes = parts_from arena ids 0 false classes
