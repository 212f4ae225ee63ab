-- The parts of a line of a configuration: blanks, comments, quotes, keys and values.
-- docs/PROFILE.md states the rules under "Configuration".
use Rattle.std.specs.Prelude.{ℕ, suc, ◌+◌, ◌-◌, Bool, false, ◌==◌, ◌||◌, ◌&&◌, Option, Some, None, if◌then◌else◌, List}
use Rattle.std.specs.Prelude.{[], ◌∷◌, length, take, drop, nat_le, nat_lt, slice_index}
use Rattle.std.specs.List.{prefix_len, suffix_len}
use Rattle.std.specs.Char.{is_ascii_alphanumeric}

-- a blank or a tab
abbrev pub is_blank : ℕ → Bool
is_blank c = (c == 32) || (c == 9)

-- a letter, a digit or `_`
abbrev pub is_key_byte : ℕ → Bool
is_key_byte c = is_ascii_alphanumeric c || (c == 95)

-- how many blanks a text begins with
abbrev pub blanks_of : List ℕ → ℕ
blanks_of text = prefix_len is_blank text

-- a text without the blanks at its start
abbrev pub without_first_blanks : List ℕ → List ℕ
without_first_blanks text = drop (blanks_of text) text

-- a text without the blanks at its end
abbrev pub without_last_blanks : List ℕ → List ℕ
without_last_blanks text = take (length text - suffix_len is_blank text) text

-- a text begins with `#`
abbrev pub begins_with_hash : List ℕ → Bool
begins_with_hash [] = false
begins_with_hash (c ∷ rest) = c == 35

-- a text begins with a comment: with a blank and `#`
abbrev pub begins_comment : List ℕ → Bool
begins_comment [] = false
begins_comment (c ∷ rest) = is_blank c && begins_with_hash rest

-- where a comment begins; the text's end where there is none
unfoldable pub comment_start : List ℕ → ℕ
comment_start [] = 0
comment_start (c ∷ rest) = if begins_comment (c ∷ rest) then 0 else suc (comment_start rest)

-- a text without its comment
abbrev pub without_comment : List ℕ → List ℕ
without_comment text = take (comment_start text) text

-- a text of two bytes and more begins and ends with the same `'` or `"`
abbrev pub is_quoted : List ℕ → Bool
is_quoted text =
    nat_le 2 (length text) && ((slice_index text 0 == 39) || (slice_index text 0 == 34))
    && (slice_index text 0 == slice_index text (length text - 1))

-- a text without one pair of quotes around it
abbrev pub without_quotes : List ℕ → List ℕ
without_quotes text = if is_quoted text then take (length text - 2) (drop 1 text) else text

-- what is written behind a key's `:`, without its comment and the blanks around it
abbrev pub written_of : List ℕ → List ℕ
written_of text = without_first_blanks (without_last_blanks (without_comment text))

-- a key, its value, and whether quotes stood around the value
pub record Pair : Type 0 where
  pub key : List ℕ
  pub value : List ℕ
  pub is_quoted : Bool

-- a key with what is written as its value
abbrev pub pair_with : List ℕ → List ℕ → Pair
pair_with key written = record { key = key; value = without_quotes written; is_quoted = is_quoted written }

-- behind a key of so many bytes stands `:`, and behind that a blank or nothing
abbrev pub is_pair : ℕ → List ℕ → Bool
is_pair n text =
    nat_lt 0 n && nat_lt n (length text) && (slice_index text n == 58)
    && (nat_le (length text) (n + 1) || is_blank (slice_index text (n + 1)))

-- the key and the value of a text of the form `Key:` or `Key: value`
abbrev pub pair_from : ℕ → List ℕ → Option Pair
pair_from n text =
    if is_pair n text then Some (pair_with (take n text) (written_of (drop (n + 1) text))) else None

abbrev pub pair_of : List ℕ → Option Pair
pair_of text = pair_from (prefix_len is_key_byte text) text
