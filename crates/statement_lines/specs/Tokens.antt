-- Tokens that are no comments, told by their classes, their partners and their places of a view.
use Rattle.std.specs.Prelude.{ℕ, ◌+◌, ◌<◌, ◌≤◌, ◌^◌, Bool, false, nat_le, nat_lt, List, [], ◌∷◌, Option, Some, None}
use Rattle.std.specs.Prelude.{All, length, get_or, slice_get, if◌then◌else◌}
use Rattle.token_arena.specs.Gaps.{Contents, item_began}
use Rattle.token_classes.specs.declared.class.TokenClass.{TokenClass}
use Rattle.token_classes.specs.declared.class.TokenClass.TheVariants.{Nothing}
use Rattle.statement_lines.specs.declared.token.CodeToken.{CodeToken}

-- the place of the token with a number, where comments stand at these places
abbrev pub place_of : List ℕ → ℕ → ℕ
place_of [] k = k
place_of (c ∷ cs) k = if nat_le c k then place_of cs (k + 1) else k

-- the number of the token at a place, if there is one: by the numbers of all places, or of so many tokens the place
abbrev pub number_at : List ℕ → ℕ → Option ℕ → Option ℕ
number_at numbers count None = None
number_at [] count (Some place) = if nat_lt place count then Some place else None
number_at (n ∷ numbers) count (Some place) = slice_get (n ∷ numbers) place

abbrev pub partner_told : List ℕ → ℕ → Option (Option ℕ) → Option ℕ
partner_told numbers count None = None
partner_told numbers count (Some partner) = number_at numbers count partner

abbrev pub class_in : Option TokenClass → TokenClass
class_in None = Nothing
class_in (Some class) = class

abbrev pub is_touched : Option Bool → Bool
is_touched None = false
is_touched (Some touched) = touched

-- one of so many tokens: the one with a number, which has this class
abbrev pub token_told : Contents → List ℕ → List ℕ → List Bool → List (Option ℕ) → List ℕ → ℕ → ℕ → TokenClass →
    CodeToken
token_told arena ids comments touched partners numbers count k class =
    record {
      class = class;
      began = item_began arena (get_or ids (place_of comments k) 0);
      touched = is_touched (slice_get touched (place_of comments k));
      partner = partner_told numbers count (slice_get partners k);
    }

-- the tokens that have these classes, the first of which has this number
abbrev pub tokens_from : (ℕ → TokenClass → CodeToken) → ℕ → List TokenClass → List CodeToken
tokens_from token k [] = []
tokens_from token k (c ∷ cs) = token k c ∷ tokens_from token (k + 1) cs

-- each stands behind the one before it, and the first not before a place
abbrev pub AscendFrom : ℕ → List ℕ → Type 0
AscendFrom k [] = Unit {0}
AscendFrom k (c ∷ cs) = (k ≤ c) × AscendFrom (c + 1) cs

-- so many tokens have places of a view between its comments, and each item there stands in the text
pub record ArePlaced (arena : Contents) (ids : List ℕ) (comments : List ℕ) (count : ℕ) : Type 0 where
  pub order : AscendFrom 0 comments
  pub places : (k : ℕ) → k < count → place_of comments k < length ids
  pub all : count + length comments ≤ length ids
  pub few : length ids < 2 ^ 32
  pub within : All (λ id. id < length arena.tokens) ids
