-- What the entry of an item keeps, from what the lexer tells of it.
use Rattle.std.proofs.Common.{◌≡◌, ◌==◌, ◌||◌, ◌&&◌, ◌∙◌, not, ℕ, ◌+◌, ◌-◌, ◌≤◌, Bool, true, false, List, [], ◌∷◌, length, take, drop, refl, ap, arith, eq-eqb}
use Rattle.std.specs.Cmp.{both_ways}
use Rattle.std.proofs.lemmas.Bool.{and_parts, eqb-true}
use Rattle.std.proofs.lemmas.List.{length-drop, length-take-le}
use Rattle.c_chars.specs.declared.LogicalChar.{LogicalChar}
use Rattle.item_kinds.specs.declared.ItemKind.{ItemKind}
use Rattle.c_grammar.specs.Text.{ReadItem, start_of, end_of, raw_of}
use Rattle.c_lexer.specs.Reading.{Reading, IsNextLexeme, new_lines, bytes_in, ends_in_backslash}
use Rattle.c_lexer.specs.declared.item.Lexeme.{Lexeme}
use Rattle.line_tokens.specs.declared.GapFacts.{GapFacts}
use Rattle.token_arena.specs.Stored.{Stored, stored_of, gap_facts, line_at, rows_of, first_row, last_row, width_of}
use Rattle.token_arena.specs.Entries.{IsSpelled, IsTold, kept_by, gap_kept, entry_of, is_back, spelled}
use Rattle.token_arena.specs.declared.facts.Told.{Told}
use Rattle.token_arena.proofs.Spans.{IsSpanned}

-- an item has the bytes between where it begins and where it ends
pub length-raw : (text : List ℕ) (at : ℕ) (read : ReadItem) (rest : List LogicalChar) → IsSpanned at (length text) read rest → length (raw_of text read) ≡ end_of read - start_of read
length-raw text at read rest span =
    let behind_start : length (drop (start_of read) text) ≡ length text - start_of read = length-drop (start_of read) text in
    length-take-le (end_of read - start_of read) (drop (start_of read) text) (omega (arith, behind_start, span.some, span.within))

-- no character has no byte
no_bytes : (s : List LogicalChar) → length s ≡ 0 → bytes_in s ≡ 0
no_bytes [] h = refl
no_bytes (c ∷ s) h = absurd (omega arith)

neither : (s t : Bool) → not (not s || not t) ≡ (s && t)
neither true true = refl
neither true false = refl
neither false t = refl

-- a gap is empty where it has no character and no byte beside its characters
empty_told : (at : ℕ) (s : List LogicalChar) (start : ℕ) → at + length s ≤ start
    → not (not (length s == 0) || not (bytes_in s == start - at)) ≡ (start == at)
empty_told at s start wide =
    rw (neither (length s == 0) (bytes_in s == start - at))
    (both_ways ((length s == 0) && (bytes_in s == start - at)) (start == at) there back)
  where
    there : ((length s == 0) && (bytes_in s == start - at)) ≡ true → (start == at) ≡ true
    there h =
        let parts = and_parts (length s == 0) (bytes_in s == start - at) h in
        let none : bytes_in s ≡ 0 = no_bytes s (eqb-true (length s) 0 parts.0) in
        let same : bytes_in s ≡ start - at = eqb-true (bytes_in s) (start - at) parts.1 in
        eq-eqb start at (omega (arith, none, same, wide))

    back : (start == at) ≡ true → ((length s == 0) && (bytes_in s == start - at)) ≡ true
    back h =
        let here : start ≡ at = eqb-true start at h in
        let none : length s ≡ 0 = omega (arith, here, wide) in
        let bytes : bytes_in s ≡ start - at = omega (arith, no_bytes s none, here) in
        rw (eq-eqb (length s) 0 none, eq-eqb (bytes_in s) (start - at) bytes) refl

gap_made : (lines lines2 : ℕ) (empty empty2 white white2 splice splice2 began began2 : Bool) → lines ≡ lines2 → empty ≡ empty2 → white ≡ white2 → splice ≡ splice2 → began ≡ began2
    → ◌≡◌ {A = GapFacts} (record { lines = lines; empty = empty; white = white; splice = splice; began = began }) (record { lines = lines2; empty = empty2; white = white2; splice = splice2; began = began2 })
gap_made lines lines2 empty empty2 white white2 splice splice2 began began2 a b c e f = cc

back_spelled : (back : Bool) (told : Told) → is_back (spelled back told) ≡ back
back_spelled true told = refl
back_spelled false Told.Itself = refl
back_spelled false Told.Printable = refl
back_spelled false Told.Nothing = refl

-- how an item is spelled says no more than what is told of its bytes
pub spelled_told : (back : Bool) (told : Told) (raw : List ℕ) → IsTold told raw → IsSpelled (spelled back told) raw
spelled_told true told raw h = tt
spelled_told false Told.Itself raw h = h
spelled_told false Told.Printable raw h = h
spelled_told false Told.Nothing raw h = tt

-- what the entry says of a gap is what its characters tell
told_gap : (old new : Reading) (lexeme : Lexeme) (is_first : Bool) (at : ℕ) (told : Told) → (next : IsNextLexeme old new lexeme) → at + length next.next.read.gap ≤ start_of next.next.read
    → gap_kept is_first (entry_of lexeme at told) ≡ gap_facts is_first at next.next.read
told_gap old new lexeme is_first at told next wide =
    let gap : List LogicalChar = next.next.read.gap in
    let start : ℕ = start_of next.next.read in
    let lines : lexeme.lines ≡ new_lines gap = next.lines_are in
    let white : lexeme.white ≡ not (length gap == 0) = next.white_is in
    let splice : not (lexeme.bytes == lexeme.item.start - at) ≡ not (bytes_in gap == start - at) =
    ap (λ k. not (k == lexeme.item.start - at)) next.bytes_are ∙ ap (λ k. not (bytes_in gap == k - at)) next.next.start_is in
    gap_made lexeme.lines (new_lines gap) (not (lexeme.white || not (lexeme.bytes == lexeme.item.start - at))) (start == at) lexeme.white (not (length gap == 0))
    (not (lexeme.bytes == lexeme.item.start - at)) (not (bytes_in gap == start - at)) (is_first || not (lexeme.lines == 0)) (is_first || not (new_lines gap == 0))
    lines
    (ap (λ t. not (t || not (lexeme.bytes == lexeme.item.start - at))) white ∙ (ap (λ t. not (not (length gap == 0) || t)) splice ∙ empty_told at gap start wide))
    white
    splice
    (ap (λ k. is_first || not (k == 0)) lines)

stored_made : (kind kind2 : ItemKind) (start start2 : ℕ) (raw raw2 : List ℕ) (gap gap2 : GapFacts) (line line2 rows rows2 first first2 last last2 : ℕ) (back back2 : Bool)
    → kind ≡ kind2 → start ≡ start2 → raw ≡ raw2 → gap ≡ gap2 → line ≡ line2 → rows ≡ rows2 → first ≡ first2 → last ≡ last2 → back ≡ back2
    → ◌≡◌ {A = Stored} (record { kind = kind; start = start; raw = raw; gap = gap; line = line; rows = rows; first_width = first; last_width = last; back = back })
    (record { kind = kind2; start = start2; raw = raw2; gap = gap2; line = line2; rows = rows2; first_width = first2; last_width = last2; back = back2 })
stored_made kind kind2 start start2 raw raw2 gap gap2 line line2 rows rows2 first first2 last last2 back back2 a b c e f g h i j = cc

-- The entry that is made of what the lexer tells keeps what the definitions say of the item.
pub entry_told : (text : List ℕ) (at : ℕ) (is_first : Bool) (told : Told) (old new : Reading) (lexeme : Lexeme) (rest : List LogicalChar) → old.text ≡ text → (next : IsNextLexeme old new lexeme)
    → IsSpanned at (length text) next.next.read rest
    → kept_by text is_first (entry_of lexeme at told) ≡ stored_of text is_first at next.next.read
entry_told text at is_first told old new lexeme rest text_is next span =
    let read : ReadItem = next.next.read in
    let raw : List ℕ = lexeme.item.raw.now in
    let start : ℕ = lexeme.item.start in
    let start_is : start ≡ start_of read = next.next.start_is in
    let raw_is : raw ≡ raw_of text read = next.next.raw_is ∙ ap (λ t. raw_of t read) text_is in
    let len : length raw ≡ end_of read - start_of read = ap length raw_is ∙ length-raw text at read rest span in
    let taken : take (length raw) (drop start text) ≡ raw_of text read =
    ap (λ k. take k (drop start text)) len ∙ ap (λ k. take (end_of read - start_of read) (drop k text)) start_is in
    stored_made lexeme.item.kind read.kind start (start_of read) (take (length raw) (drop start text)) (raw_of text read) (gap_kept is_first (entry_of lexeme at told)) (gap_facts is_first at read)
    (line_at text start) (line_at text (start_of read)) (rows_of (take (length raw) (drop start text))) (rows_of (raw_of text read))
    (width_of (first_row (take (length raw) (drop start text)))) (width_of (first_row (raw_of text read)))
    (width_of (last_row (take (length raw) (drop start text)))) (width_of (last_row (raw_of text read)))
    (is_back (spelled lexeme.back told)) (ends_in_backslash read.chars)
    next.next.kind_is start_is taken (told_gap old new lexeme is_first at told next span.wide) (ap (line_at text) start_is) (ap rows_of taken) (ap (λ r. width_of (first_row r)) taken) (ap (λ r. width_of (last_row r)) taken) (back_spelled lexeme.back told ∙ next.back_is)
