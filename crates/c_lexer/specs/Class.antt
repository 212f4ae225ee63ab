-- Classes of characters that tell where an item ends.
use Rattle.std.specs.Prelude.{◌==◌, ◌||◌, not, ℕ, Bool, codes}
use Rattle.c_grammar.specs.Bytes.{is_beyond, is_quote_mark}
use Rattle.c_grammar.specs.Grammar.{is_of, is_letter, is_digit, is_sign}
use Rattle.c_lexer.specs.Run.{goes_on_long}
use Rattle.c_lexer.specs.Unit.{is_single}

-- what ends a word that stands before it, which begins no literal
abbrev pub ends_word : ℕ → Bool
ends_word c = not ((is_letter c || is_digit c) || (is_beyond c || is_quote_mark c))

-- what ends a number that stands before it
abbrev pub ends_number : ℕ → Bool
ends_number c = not (is_single c || (is_sign c || (is_beyond c || c == 39)))

-- a punctuator by itself, that none begins with that is longer
unfoldable pub is_lone_mark : ℕ → Bool
is_lone_mark c = is_of (codes "[](){}~;,") c

-- what ends a punctuator of one character that stands before it
abbrev pub ends_mark : ℕ → Bool
ends_mark c = not (goes_on_long c || (is_digit c || (c == 47 || c == 42)))
