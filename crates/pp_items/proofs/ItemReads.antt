-- What a reader reads of the next item.
use Rattle.std.proofs.Common.{◌≡◌, ◌∙◌, ◌==◌, ◌||◌, not, ℕ, ◌+◌, ◌<◌, ◌≤◌, Bool, true, false, List, [], ◌∷◌, ◌++◌, length, length-append, Option, Some, None, refl, sym, ap, subst, arith, inl, inr, if◌then◌else◌}
use Rattle.std.specs.Prelude.{MatchOption, unwrap_or}
use Rattle.std.specs.Option.{ForSome, option_map_or}
use Rattle.std.specs.List.{list_any}
use Rattle.std.proofs.lemmas.List.{length-map}
use Rattle.c_chars.specs.Characters.{bytes_of}
use Rattle.c_chars.specs.Coming.{AreBetween}
use Rattle.c_chars.specs.declared.LogicalChar.{LogicalChar}
use Rattle.c_chars.specs.declared.Dialect.{Dialect}
use Rattle.c_grammar.specs.Grammar.{is_same, is_white, is_new_line, Whole}
use Rattle.c_grammar.specs.Items.{Place, LineStart, past_gap, IsNext}
use Rattle.c_grammar.specs.Text.{ReadItem, Left, IsStep, start_of, end_of, raw_of}
use Rattle.c_grammar.specs.Twin.{Part, part_of}
use Rattle.item_kinds.specs.declared.ItemKind.{ItemKind}
use Rattle.c_grammar.proofs.Unique.{spelled_begins}
use Rattle.c_lexer.specs.Reading.{Reading, IsNextLexeme}
use Rattle.c_grammar.specs.Place.{place_of}
use Rattle.c_lexer.specs.declared.item.Lexeme.{Lexeme}
use Rattle.c_grammar.specs.declared.place.Standing.{Standing}
use Rattle.pp_model.specs.Finding.{is_comment}
use Rattle.pp_model.specs.Stream.{Streamed, line_at, line_begun}
use Rattle.pp_items.specs.View.{part_shown}
use Rattle.pp_items.specs.Walk.{before, past, first_line_end, part_here, IsNextOf, HasNext}
use Rattle.pp_items.specs.Reading.{IsRead}
use Rattle.pp_items.specs.declared.item.Streamed.{Streamed as StreamedValue}
use Rattle.pp_items.specs.declared.reader.Reader.{Reader}
use Rattle.pp_items.proofs.Walks.{IsSpread, spread, raw_ends, line_within, begun_is, has_line, is_white_gap, part_told}

spread_of : (text : List ℕ) (at : ℕ) (chars : List LogicalChar) (lexeme : Lexeme) (read : ReadItem) (rest : List LogicalChar) → AreBetween at chars (length text) → IsNextOf text chars lexeme read rest → IsSpread at (length text) chars read rest
spread_of text at chars lexeme read rest b next = spread at (length text) chars read rest b next.whole next.some

gap_before : (text : List ℕ) (at : ℕ) (chars : List LogicalChar) (lexeme : Lexeme) (read : ReadItem) (rest : List LogicalChar) → AreBetween at chars (length text) → IsNextOf text chars lexeme read rest → before lexeme.item.start chars ≡ read.gap
gap_before text at chars lexeme read rest b next = ap (λ k. before k chars) next.start_is ∙ (spread_of text at chars lexeme read rest b next).gap

-- The next item begins in the text.
pub next_start : (text : List ℕ) (at : ℕ) (chars : List LogicalChar) (lexeme : Lexeme) → AreBetween at chars (length text) → HasNext text chars lexeme → (at ≤ lexeme.item.start) × (lexeme.item.start ≤ length text)
next_start text at chars lexeme b next =
    let s = spread_of text at chars lexeme next.0 next.1 b next.2 in
    let e = next.2.start_is in
    (omega (arith, e, s.later), omega (arith, e, s.some, s.within))

-- The first new-line of its gap ends before it.
pub next_line : (text : List ℕ) (at : ℕ) (chars : List LogicalChar) (lexeme : Lexeme) (o : Option ℕ) → AreBetween at chars (length text) → HasNext text chars lexeme → o ≡ first_line_end (before lexeme.item.start chars)
    → ForSome o (λ to. (at ≤ to) × (to ≤ lexeme.item.start))
next_line text at chars lexeme o b next found = some o (ap first_line_end (sym (gap_before text at chars lexeme next.0 next.1 b next.2)) ∙ sym found)
  where
    some : (o : Option ℕ) → first_line_end next.0.gap ≡ o → ForSome o (λ to. (at ≤ to) × (to ≤ lexeme.item.start))
    some o e = λ to is.
        let s = spread_of text at chars lexeme next.0 next.1 b next.2 in
        let in_gap = line_within at (start_of next.0) next.0.gap to s.gap_up (e ∙ is) in
        let start = next.2.start_is in
        (in_gap.0, omega (arith, start, in_gap.1))

-- its raw bytes end where it ends
raw_end : (text : List ℕ) (at : ℕ) (chars : List LogicalChar) (lexeme : Lexeme) (read : ReadItem) (rest : List LogicalChar) → AreBetween at chars (length text) → IsNextOf text chars lexeme read rest → lexeme.item.start + length lexeme.item.raw.now ≡ end_of read
raw_end text at chars lexeme read rest b next =
    let s = spread_of text at chars lexeme read rest b next in
    let ends = raw_ends text lexeme.item.raw.now read next.raw_is s.some s.within in
    omega (arith, next.start_is, ends)

streamed_made : (part part2 : Part) (kind kind2 : ItemKind) (text text2 : List ℕ) (white white2 : Bool) (line line2 begun begun2 : ℕ) → part ≡ part2 → kind ≡ kind2 → text ≡ text2 → white ≡ white2 → line ≡ line2 → begun ≡ begun2
    → ◌≡◌ {A = Streamed} (record { part = part; kind = kind; text = text; white = white; line = line; begun = begun }) (record { part = part2; kind = kind2; text = text2; white = white2; line = line2; begun = begun2 })
streamed_made part part2 kind kind2 text text2 white white2 line line2 begun begun2 a b c d e f = cc

-- What a walk over the item's characters has found.
pub record IsWalked (text : List ℕ) (old new : Reader) (s : StreamedValue) (lexeme : Lexeme) (stood standing : Standing) : Type 0 where
  pub begun : s.begun ≡ option_map_or (line_at text) (first_line_end (before lexeme.item.start old.chars.chars)) 0
  pub line : s.item.line ≡ line_at text lexeme.item.start
  pub spelling : s.item.text.items ≡ bytes_of (before (lexeme.item.start + length lexeme.item.raw.now) (past lexeme.item.start old.chars.chars))
  pub rest : new.chars.chars ≡ past (lexeme.item.start + length lexeme.item.raw.now) (past lexeme.item.start old.chars.chars)
  pub place_is : place_of standing ≡ (if not (lexeme.lines == 0) then LineStart else place_of stood)
  pub part : part_shown s.part ≡ part_here (place_of standing) lexeme.white s.item.kind s.item.text.items
  pub white : s.item.white ≡ (old.after_comment || lexeme.white)
  pub kind : s.item.kind ≡ lexeme.item.kind
  pub after : new.after_comment ≡ is_comment lexeme.item.kind

pub walked : (text : List ℕ) (old new : Reader) (s : StreamedValue) (lexeme : Lexeme) (stood standing : Standing) → AreBetween old.lines.at old.chars.chars (length text) → IsWalked text old new s lexeme stood standing
    → (read : ReadItem) (rest : List LogicalChar) → IsNextOf text old.chars.chars lexeme read rest → IsRead text (place_of stood) old new s read rest
walked text old new s lexeme stood standing b w read rest next =
    let chars = old.chars.chars in
    let sp = spread_of text old.lines.at chars lexeme read rest b next in
    let gap = gap_before text old.lines.at chars lexeme read rest b next in
    let behind : past lexeme.item.start chars ≡ read.chars ++ rest = ap (λ k. past k chars) next.start_is ∙ sp.behind in
    let end = raw_end text old.lines.at chars lexeme read rest b next in
    let spelling : s.item.text.items ≡ bytes_of read.chars =
    w.spelling ∙ (ap (λ k. bytes_of (before k (past lexeme.item.start chars))) end ∙ (ap (λ z. bytes_of (before (end_of read) z)) behind ∙ ap bytes_of sp.own)) in
    let left : new.chars.chars ≡ rest =
    w.rest ∙ (ap (λ k. past k (past lexeme.item.start chars)) end ∙ (ap (past (end_of read)) behind ∙ sp.left)) in
    let kind : s.item.kind ≡ read.kind = w.kind ∙ next.kind_is in
    let lines : not (lexeme.lines == 0) ≡ list_any is_new_line (bytes_of read.gap) = ap (λ n. not (n == 0)) next.lines_are ∙ sym (has_line read.gap) in
    let here : place_of standing ≡ past_gap (place_of stood) (bytes_of read.gap) = w.place_is ∙ ap (λ z. if z then LineStart else place_of stood) lines in
    let white : lexeme.white ≡ not (is_same (bytes_of read.gap) []) = next.white_is ∙ is_white_gap read.gap in
    let part : part_shown s.part ≡ part_of (past_gap (place_of stood) (bytes_of read.gap)) (bytes_of read.gap) read.kind (bytes_of read.chars) =
    w.part
    ∙ (ap (λ p. part_here p lexeme.white s.item.kind s.item.text.items) here
    ∙ (ap (λ z. part_here (past_gap (place_of stood) (bytes_of read.gap)) z s.item.kind s.item.text.items) white
    ∙ (ap (λ k. part_here (past_gap (place_of stood) (bytes_of read.gap)) (not (is_same (bytes_of read.gap) [])) k s.item.text.items) kind
    ∙ (ap (λ t. part_here (past_gap (place_of stood) (bytes_of read.gap)) (not (is_same (bytes_of read.gap) [])) read.kind t) spelling
    ∙ part_told (past_gap (place_of stood) (bytes_of read.gap)) (bytes_of read.gap) read.kind (bytes_of read.chars))))) in
    let begun : s.begun ≡ line_begun text read.gap = w.begun ∙ (ap (λ g. option_map_or (line_at text) (first_line_end g) 0) gap ∙ sym (begun_is text read.gap)) in
    record {
      item =
          streamed_made (part_shown s.part) (part_of (past_gap (place_of stood) (bytes_of read.gap)) (bytes_of read.gap) read.kind (bytes_of read.chars)) s.item.kind read.kind s.item.text.items (bytes_of read.chars)
          s.item.white (old.after_comment || not (is_same (bytes_of read.gap) [])) s.item.line (line_at text (start_of read)) s.begun (line_begun text read.gap)
          part kind spelling (w.white ∙ ap (λ z. old.after_comment || z) white) (w.line ∙ ap (line_at text) next.start_is) begun;
      chars = left;
      after = w.after ∙ ap is_comment next.kind_is;
    }

-- what is left stands behind the start of the item
pub still_between : (text : List ℕ) (old : Reader) (left : List LogicalChar) (lexeme : Lexeme) (at : ℕ) → AreBetween old.lines.at old.chars.chars (length text) → HasNext text old.chars.chars lexeme → at ≡ lexeme.item.start
    → left ≡ past (lexeme.item.start + length lexeme.item.raw.now) (past lexeme.item.start old.chars.chars) → AreBetween at left (length text)
still_between text old left lexeme at b next at_is rest =
    let chars = old.chars.chars in
    let sp = spread_of text old.lines.at chars lexeme next.0 next.1 b next.2 in
    let behind : past lexeme.item.start chars ≡ next.0.chars ++ next.1 = ap (λ k. past k chars) next.2.start_is ∙ sp.behind in
    let end = raw_end text old.lines.at chars lexeme next.0 next.1 b next.2 in
    let left_is : left ≡ next.1 = rest ∙ (ap (λ k. past k (past lexeme.item.start chars)) end ∙ (ap (past (end_of next.0)) behind ∙ sp.left)) in
    subst (λ k. AreBetween k left (length text)) (sym (at_is ∙ next.2.start_is)) (subst (λ z. AreBetween (start_of next.0) z (length text)) (sym left_is) sp.up)

-- ## What the lexer tells

-- an item has a character
next_some : (d : Dialect) (place : Place) (kind : ItemKind) (s t : List ℕ) → IsNext d place kind s t → 0 < length s
unfolding is_white is_new_line
next_some d place kind [] t (inl h) = let f : [] ≡ h.2.first ∷ (h.2.body ++ h.2.last ∷ []) = h.2.whole in cc
next_some d place kind [] t (inr h) = let f : true ≡ false = spelled_begins d (Whole kind) [] (32 ∷ []) h.1.spells in cc
next_some d place kind (c ∷ s) t h = omega arith

step_some : (d : Dialect) (old new : Left) (read : ReadItem) → IsStep d old new read → 0 < length read.chars
step_some d old new read step =
    let chars_len : length (bytes_of read.chars) ≡ length read.chars = length-map read.chars (λ c. c.byte) in
    let some = next_some d (past_gap old.place (bytes_of read.gap)) read.kind (bytes_of read.chars) (bytes_of new.chars) step.next in
    omega (arith, chars_len, some)

-- a step leaves less
pub step_shorter : (d : Dialect) (old new : Left) (read : ReadItem) → IsStep d old new read → length new.chars < length old.chars
step_shorter d old new read step =
    let whole : length old.chars ≡ length read.gap + (length read.chars + length new.chars) =
    ap length step.whole ∙ (length-append read.gap (read.chars ++ new.chars) ∙ ap (λ k. length read.gap + k) (length-append read.chars new.chars)) in
    omega (arith, whole, step_some d old new read step)

-- what the lexer tells of the next item, over the same characters
pub told_next : (text : List ℕ) (chars : List LogicalChar) (old new : Reading) (lexeme : Lexeme) → old.text ≡ text → chars ≡ old.left.chars → (next : IsNextLexeme old new lexeme) → IsNextOf text chars lexeme next.next.read new.left.chars
told_next text chars old new lexeme text_is chars_are next = record {
  whole = chars_are ∙ next.next.step.whole;
  some = step_some old.dialect old.left new.left next.next.read next.next.step;
  kind_is = next.next.kind_is;
  start_is = next.next.start_is;
  raw_is = next.next.raw_is ∙ ap (λ t. raw_of t next.next.read) text_is;
  lines_are = next.lines_are;
  white_is = next.white_is;
}

-- within the bounds of a line that may be none
pub unwrap_within : (o : Option ℕ) (at start : ℕ) → ForSome o (λ to. (at ≤ to) × (to ≤ start)) → at ≤ start → unwrap_or o at ≤ start
unwrap_within None at start h low = low
unwrap_within (Some to) at start h low = (h to refl).1

-- what is known of an option, where it is one or none
pub at_some : {A : Type 0} (o : Option A) (x : A) (P : Type 0) (Q : A → Type 0) → o ≡ Some x → MatchOption o P Q → Q x
at_some o x P Q e h = subst (λ z. MatchOption z P Q) e h

pub at_none : {A : Type 0} (o : Option A) (P : Type 0) (Q : A → Type 0) → o ≡ None → MatchOption o P Q → P
at_none o P Q e h = subst (λ z. MatchOption z P Q) e h
