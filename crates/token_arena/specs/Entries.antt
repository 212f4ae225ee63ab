-- How the items lie in memory.
use Rattle.std.specs.Prelude.{◌==◌, ◌||◌, ◌≤◌, ◌+◌, ◌-◌, not, ℕ, Bool, true, false, List, [], ◌∷◌, ⊤, All, length, take}
use Rattle.std.specs.Prelude.{◌≡◌, drop, count_by, IsTrue, if◌then◌else◌}
use Rattle.std.specs.Int.{is_in_range}
use Rattle.std.specs.List.{list_all}
use Rattle.token_arena.specs.Gaps.{Contents}
use Rattle.token_arena.specs.Hashes.{hashes_from}
use Rattle.token_arena.specs.Holds.{IsSound}
use Rattle.c_chars.specs.Characters.{is_plain}
use Rattle.c_chars.specs.declared.Dialect.{Dialect}
use Rattle.c_grammar.specs.Fitting.{is_comment}
use Rattle.c_lexer.specs.declared.item.Lexeme.{Lexeme}
use Rattle.line_tokens.specs.declared.GapFacts.{GapFacts}
use Rattle.token_arena.specs.Stored.{Stored, is_line_feed, line_at, rows_of, first_row, last_row, width_of}
use Rattle.token_arena.specs.declared.arena.Entry.{Entry}
use Rattle.token_arena.specs.declared.arena.Spelled.{Spelled}
use Rattle.token_arena.specs.declared.arena.Spelled.TheVariants.{Itself, Plain, Backslash, Other}
use Rattle.token_arena.specs.declared.arena.Token.{Token}
use Rattle.token_arena.specs.declared.facts.Told.{Told}

-- a backslash is the last character of an item that is spelled so
abbrev pub is_back : Spelled → Bool
is_back Itself = false
is_back Plain = false
is_back Backslash = true
is_back Other = false

-- an item that is spelled so is known to have bytes of printable ASCII alone
abbrev pub is_printable : Spelled → Bool
is_printable Itself = true
is_printable Plain = true
is_printable Backslash = false
is_printable Other = false

-- each byte of an item that is spelled so is known to be a character by itself
abbrev pub is_itself : Spelled → Bool
is_itself Itself = true
is_itself Plain = false
is_itself Backslash = false
is_itself Other = false

-- how an item is spelled, where a backslash is its last character or not, and this is told of its bytes
abbrev pub spelled : Bool → Told → Spelled
spelled true told = Backslash
spelled false Told.Itself = Itself
spelled false Told.Printable = Plain
spelled false Told.Nothing = Other

-- a line begins before the item of this entry, if it isn't the first of its text
abbrev pub is_begun : Entry → Bool
is_begun entry = not (entry.lines == 0)

-- the item of this entry is a comment
abbrev pub keeps_comment : Entry → Bool
keeps_comment entry = is_comment entry.kind

-- what an entry says of the gap of its item, which is the first of its text or not: without a character and a splice it
-- is empty
abbrev pub gap_kept : Bool → Entry → GapFacts
gap_kept is_first entry = record {
  lines = entry.lines;
  empty = not (entry.white || entry.splice);
  white = entry.white;
  splice = entry.splice;
  began = is_first || not (entry.lines == 0);
}

-- what an entry says of an item of this text, the first or another: its line is that of its first byte, and its rows
-- are those of its bytes
abbrev pub kept_by : List ℕ → Bool → Entry → Stored
kept_by text is_first entry = record {
  kind = entry.kind;
  start = entry.start;
  raw = take entry.len (drop entry.start text);
  gap = gap_kept is_first entry;
  line = line_at text entry.start;
  rows = rows_of (take entry.len (drop entry.start text));
  first_width = width_of (first_row (take entry.len (drop entry.start text)));
  last_width = width_of (last_row (take entry.len (drop entry.start text)));
  back = is_back entry.spelled;
}

-- what entries that follow one another say of their items, where the first of these is the first of its text or not
abbrev pub kept_from : List ℕ → Bool → List Entry → List Stored
kept_from text is_first [] = []
kept_from text is_first (entry ∷ entries) = kept_by text is_first entry ∷ kept_from text false entries

-- what the entries say of their items
abbrev pub kept_by_all : List ℕ → List Entry → List Stored
kept_by_all text entries = kept_from text true entries

-- what a token says of its item: its line has the new-lines before it
abbrev pub told_by : Token → Stored
told_by token = record {
  kind = token.item.kind;
  start = token.item.start;
  raw = token.item.raw.now;
  gap = token.gap;
  line = 1 + count_by is_line_feed token.before.now;
  rows = rows_of token.item.raw.now;
  first_width = width_of (first_row token.item.raw.now);
  last_width = width_of (last_row token.item.raw.now);
  back = token.back;
}

-- each entry's bytes are bytes of this text
abbrev pub AllWithin : List ℕ → List Entry → Type 0
AllWithin text entries = All (λ entry. entry.start + entry.len ≤ length text) entries

-- what is told of an item's bytes
abbrev pub IsTold : Told → List ℕ → Type 0
IsTold Told.Itself raw = IsTrue (list_all (is_in_range 0x20 0x7E) raw) × IsTrue (list_all is_plain raw)
IsTold Told.Printable raw = IsTrue (list_all (is_in_range 0x20 0x7E) raw)
IsTold Told.Nothing raw = ⊤

-- what an item that is spelled so has: bytes of printable ASCII alone, each of them a character by itself or not
abbrev pub IsSpelled : Spelled → List ℕ → Type 0
IsSpelled Itself raw = IsTrue (list_all (is_in_range 0x20 0x7E) raw) × IsTrue (list_all is_plain raw)
IsSpelled Plain raw = IsTrue (list_all (is_in_range 0x20 0x7E) raw)
IsSpelled Backslash raw = ⊤
IsSpelled Other raw = ⊤

-- the bytes of an entry's item are what it says
abbrev pub IsPlain : List ℕ → Entry → Type 0
IsPlain text entry = IsSpelled entry.spelled (take entry.len (drop entry.start text))

-- those of each
abbrev pub ArePlain : List ℕ → List Entry → Type 0
ArePlain text entries = All (IsPlain text) entries

-- a text, its dialect and what these entries keep of it
abbrev pub contents_of : List ℕ → Dialect → List Entry → Contents
contents_of text dialect entries = record { text = text; dialect = dialect; tokens = kept_by_all text entries }

-- the numbers of the comments among the items of these entries, of which the first has this number
abbrev pub comments_kept : ℕ → List Entry → List ℕ
comments_kept at [] = []
comments_kept at (entry ∷ entries) =
    if keeps_comment entry then at ∷ comments_kept (at + 1) entries else comments_kept (at + 1) entries

-- these entries are an arena of this text, and these numbers are those of the comments, and of what may be a `#`
pub record AreEntries (text : List ℕ) (dialect : Dialect) (entries : List Entry)
    (comments hashes : List ℕ) : Type 0 where
  pub within : AllWithin text entries
  pub plain : ArePlain text entries
  pub sound : IsSound (contents_of text dialect entries)
  pub comments_are : comments ≡ comments_kept 0 entries
  pub hashes_are : hashes ≡ hashes_from 0 (kept_by_all text entries)

-- the entry of this item, of whose bytes this is told, behind a gap that begins at this offset: a spliced line end is
-- in no character
abbrev pub entry_of : Lexeme → ℕ → Told → Entry
entry_of lexeme gap told = record {
  start = lexeme.item.start;
  len = length lexeme.item.raw.now;
  lines = lexeme.lines;
  kind = lexeme.item.kind;
  white = lexeme.white;
  splice = not (lexeme.bytes == lexeme.item.start - gap);
  spelled = spelled lexeme.back told;
}
