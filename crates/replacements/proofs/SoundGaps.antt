-- What a sound plan puts between the items may stand there.
use Rattle.std.proofs.Common.{◌≡◌, ◌==◌, ◌∙◌, ◌||◌, ◌&&◌, not, ℕ, zero, suc, ◌<◌, Bool, true, false, List, [], ◌∷◌, refl, sym, ap, subst, arith, inl, inr, ◌⊎◌, map, length, nat_lt}
use Rattle.std.specs.Prelude.{if◌then◌else◌, codes}
use Rattle.std.specs.List.{list_any}
use Rattle.std.proofs.lemmas.Bool.{or_right, eqb-true}
use Rattle.std.proofs.lemmas.Bool.Decides.{nat_tests}
use Rattle.c_chars.specs.Characters.{bytes_of}
use Rattle.c_chars.specs.declared.Dialect.{Dialect}
use Rattle.c_chars.specs.declared.LogicalChar.{LogicalChar}
use Rattle.item_kinds.specs.declared.ItemKind.{ItemKind}
use Rattle.item_kinds.specs.declared.ItemKind.TheVariants.{Identifier, Number, CharConst, StringLit, Punct, HeaderName, StrayQuote, Other, BlockComment, LineComment}
use Rattle.c_grammar.specs.Grammar.{is_new_line, is_same}
use Rattle.c_grammar.specs.Items.{Place, LineStart, AfterHash, AfterInclude, AfterDefine, AfterMacroName, InDirective, InText, past_item, is_gap, is_hash}
use Rattle.c_grammar.specs.Touch.{starts, ends, is_punct, takes_line, may_touch, regapped}
use Rattle.c_grammar.specs.Text.{ReadItem, piece_of, raw_of, start_of, end_of}
use Rattle.c_grammar.specs.Fitting.{in_directive, is_comment, no_hash_comes, IsFitEnd}
use Rattle.c_grammar.specs.Rewritten.{read_alone, IsGuarded, AreFitBytes, kept_bytes}
use Rattle.c_grammar.proofs.ItemBytes.{AreParted}
use Rattle.c_grammar.proofs.Lists.{same_refl}
use Rattle.c_grammar.proofs.NewText.{read_at}
use Rattle.c_grammar.proofs.White.{white_reads_so}
use Rattle.touching.specs.Spelling.{spelling}
use Rattle.touching.specs.TakingAway.{would_open}
use Rattle.replacements.specs.FreeGaps.{MayBreak, AreFreeBytes, FitBytes, TextBytes, NoBytes, LineBytes}
use Rattle.replacements.specs.OneLine.{would_name, IsKeptApart}
use Rattle.replacements.proofs.Breaking.{blanks_text_bytes}
use Rattle.token_arena.specs.Stored.{Stored, stored_of, stored_from}
use Rattle.style_table.specs.declared.style.Style.{Style}
use Rattle.replacements.specs.declared.gap_text.Decision.{Decision}
use Rattle.replacements.specs.declared.gap_text.Decision.TheVariants.{Old, Spaces, Lines, Splice}
use Rattle.replacements.specs.GapText.{blanks}
use Rattle.replacements.specs.Guards.{guarded_lines, guarded_text}
use Rattle.replacements.specs.Places.{behind_item, would_begin_name}
use Rattle.replacements.specs.Places.{would_open as opens_stored}
use Rattle.replacements.specs.Sound.{MayJoin, MaySpace, MayPart, MayEnd}
use Rattle.replacements.specs.Stances.{hash_comes}
use Rattle.replacements.specs.Written.{bytes_between, is_of_text, is_old}
use Rattle.replacements.specs.declared.guard.Guard.{Guard}
use Rattle.replacements.specs.declared.guard.Guard.TheVariants as guard
use Rattle.replacements.specs.declared.stance.Stance.{Stance}
use Rattle.replacements.specs.declared.stance.Stance.TheVariants.{OfText, Leads, Within}
use Rattle.replacements.proofs.Broken.{IsBroken, Leaves, lines_broken, broken_chars, broken_reads, broken_gap, broken_guarded, broken_fit_bytes, blank_fit_bytes}
use Rattle.replacements.proofs.Following.{Here, kept_end, FitsLast, last_broken, no_and, none_fits}
use Rattle.replacements.proofs.Leaving.{new_lines-any}
use Rattle.replacements.proofs.OneLine.{IsLineWhite, line_blanks, line_white, line_goes_on, BeginsBlank, blank_reads, blank_white, blank_guarded, blanks_begin, spliced_begins}
use Rattle.replacements.proofs.TextLines.{stance_as, leads_hash}

-- Whether a `#` comes, by the items that are kept and by those that are read.

hash_line : (k : ItemKind) (x h : Bool) → (not (is_punct k && x) && (not (is_comment k) || not h)) ≡ not (if is_comment k then h else (is_punct k && x))
hash_line Identifier x h = refl
hash_line Number x h = refl
hash_line CharConst x h = refl
hash_line StringLit x h = refl
hash_line Punct true h = refl
hash_line Punct false h = refl
hash_line HeaderName x h = refl
hash_line StrayQuote x h = refl
hash_line Other x h = refl
hash_line BlockComment x h = refl
hash_line LineComment x h = refl

or_not : (a l : Bool) → (a || not l) ≡ not (not a && l)
or_not true l = refl
or_not false l = refl

-- none leads the line that an item begins
pub no_hash_line : (d : Dialect) (text : List ℕ) (first : Bool) (from : ℕ) (i : ReadItem) (items : List ReadItem) → read_alone d (raw_of text i) ≡ bytes_of i.chars →
    no_hash_comes (map piece_of items) ≡ not (hash_comes d (stored_from text false (end_of i) items)) →
    no_hash_comes (regapped [] (piece_of i) ∷ map piece_of items) ≡ not (leads_hash d (stored_of text first from i) (stored_from text false (end_of i) items))
no_hash_line d text first from i items spelled rest =
    let behind = hash_comes d (stored_from text false (end_of i) items) in
    ap (λ z. not (is_punct i.kind && is_hash (bytes_of i.chars)) && (not (is_comment i.kind) || z)) rest
    ∙ (hash_line i.kind (is_hash (bytes_of i.chars)) behind ∙ ap (λ (z : List ℕ). not (if is_comment i.kind then behind else (is_punct i.kind && is_hash z))) (sym spelled))

-- whether one comes
pub pieces_hash : (d : Dialect) (text : List ℕ) (from : ℕ) (old : List ℕ) (items : List ReadItem) → AreParted d text from old items → no_hash_comes (map piece_of items) ≡ not (hash_comes d (stored_from text false from items))
pieces_hash d text from old [] parts = refl
pieces_hash d text from old (i ∷ items) parts =
    let any = list_any is_new_line (bytes_of i.gap) in
    let t = stored_of text false from i in
    let ts = stored_from text false (end_of i) items in
    let line = no_hash_line d text false from i items parts.4.spelling (pieces_hash d text (end_of i) parts.1 items parts.9) in
    ap (λ z. any || z) line ∙ (or_not any (leads_hash d t ts) ∙ ap (λ b. not (not b && leads_hash d t ts)) (sym (new_lines-any i.gap)))

-- What is known at a gap: the item before it stands at the first place, leads to the second, leaves this guard and stands so; the item behind it is in a directive or not.
pub record IsGap (d : Dialect) (text : List ℕ) (stood place : Place) (stance : Stance) (left i : ReadItem) (items : List ReadItem) (g : Guard) (now : Bool) : Type 0 where
  pub leaves : Leaves left g
  pub left_spelled : read_alone d (raw_of text left) ≡ bytes_of left.chars
  pub item_spelled : read_alone d (raw_of text i) ≡ bytes_of i.chars
  pub place_is : past_item d stood left.kind (bytes_of left.chars) ≡ place
  pub kept : AreFitBytes d place left i (kept_bytes text left i)
  pub line : list_any is_new_line (bytes_of i.gap) ≡ false → takes_line left.kind ≡ false
  pub out : now ≡ false → list_any is_new_line (bytes_of i.gap) ≡ false → in_directive place ≡ false
  pub there : stance ≡ OfText → in_directive place ≡ false
  pub no_hash : now ≡ false → hash_comes d (stored_of text false (end_of left) i ∷ stored_from text false (end_of i) items) ≡ false → no_hash_comes (regapped [] (piece_of i) ∷ map piece_of items) ≡ true

-- how an item of a text stands
of_text_out : (now : Bool) (t : Stored) → stance_as now t ≡ OfText → now ≡ false
of_text_out false t h = refl
of_text_out true t h = absurd (no t.gap.began h)
  where
    no : (b : Bool) → (if b then Leads else Within) ≡ OfText → ⊥
    no true e = cc
    no false e = cc

pub text_out : (now : Bool) (t : Stored) → stance_as now t ≡ OfText → now ≡ false
text_out now t h = of_text_out now t h

is_text_out : (now : Bool) (t : Stored) → is_of_text (stance_as now t) ≡ true → now ≡ false
is_text_out false t h = refl
is_text_out true t h = absurd (no t.gap.began h)
  where
    no : (b : Bool) → is_of_text (if b then Leads else Within) ≡ true → ⊥
    no true e = cc
    no false e = cc

and_both : (a b : Bool) → (a && b) ≡ true → (a ≡ true) × (b ≡ true)
and_both true true h = (refl, refl)
and_both true false h = cc
and_both false b h = cc

not_began : (a l : Bool) → (not a && l) ≡ true → a ≡ false
not_began true l h = sym h
not_began false l h = refl

no_comes : (now : Bool) (t : Stored) (h : Bool) → now ≡ false → (is_of_text (stance_as now t) && h) ≡ false → h ≡ false
no_comes false t h e f = f
no_comes true t h e f = cc

-- Line ends.

some_broken : (d : Dialect) (crlf : Bool) (g : Guard) (bytes : List ℕ) → IsBroken crlf g bytes → is_same (read_alone d bytes) [] ≡ false
some_broken d crlf g bytes b = ap (λ z. is_same z []) (broken_reads d crlf g bytes b) ∙ by g
  where
    by : (g : Guard) → is_same (broken_chars g b.more) [] ≡ false
    by guard.Free = refl
    by guard.Blank = refl
    by guard.Splice = refl
    by guard.Return = refl

inside_line : (now : Bool) (t : Stored) → t.gap.began ≡ false → (stance_as now t ≡ Within → ⊥) → now ≡ false
inside_line false t began h = refl
inside_line true t began h = absurd (h (ap (λ b. if b then Leads else Within) began))

lines_free : (style : Style) (crlf : Bool) (d : Dialect) (text : List ℕ) (stood place : Place) (stance : Stance) (left i : ReadItem) (items : List ReadItem) (g : Guard) (now : Bool) (n column level : ℕ) → IsGap d text stood place stance left i items g now →
    (is_of_text (stance_as now (stored_of text false (end_of left) i)) && hash_comes d (stored_of text false (end_of left) i ∷ stored_from text false (end_of i) items)) ≡ false →
    (stance_as now (stored_of text false (end_of left) i) ≡ Within → ⊥) → AreFreeBytes d text stood place left i items (guarded_lines style crlf g (suc n) column level)
lines_free style crlf d text stood place stance left i items g now n column level k none may = by (list_any is_new_line (bytes_of i.gap)) refl
  where
    t : Stored
    t = stored_of text false (end_of left) i

    bytes : List ℕ
    bytes = guarded_lines style crlf g (suc n) column level

    broken : IsBroken crlf g (guarded_lines style crlf g (suc n) column level)
    broken = lines_broken style crlf g n column level

    by : (b : Bool) → list_any is_new_line (bytes_of i.gap) ≡ b → AreFreeBytes d text stood place left i items (guarded_lines style crlf g (suc n) column level)
    by true lines = FitBytes (broken_fit_bytes d place left i crlf g (guarded_lines style crlf g (suc n) column level) broken k.leaves lines)
    by false lines =
        let t = stored_of text false (end_of left) i in
        let out : now ≡ false = inside_line now t (new_lines-any i.gap ∙ lines) may in
        let hash = no_comes now t (hash_comes d (t ∷ stored_from text false (end_of i) items)) out none in
        TextBytes
        (record {
          gap = record {
            breaks = record { in_text = k.out out lines; goes_on = k.line lines; no_hash = k.no_hash out hash };
            white = ap is_gap (broken_reads d crlf g (guarded_lines style crlf g (suc n) column level) broken) ∙ broken_gap g broken.more;
            some = some_broken d crlf g (guarded_lines style crlf g (suc n) column level) broken;
          };
          guarded = broken_guarded left crlf g (guarded_lines style crlf g (suc n) column level) broken k.leaves;
        })

-- Blanks.

blanks_free : (d : Dialect) (text : List ℕ) (stood place : Place) (stance : Stance) (left i : ReadItem) (items : List ReadItem) (g : Guard) (now first : Bool) (from n : ℕ) → IsGap d text stood place stance left i items g now →
    (is_of_text (stance_as now (stored_of text false (end_of left) i)) && hash_comes d (stored_of text false (end_of left) i ∷ stored_from text false (end_of i) items)) ≡ false →
    MayJoin d stance (stored_of text first from left) (stance_as now (stored_of text false (end_of left) i)) (stored_of text false (end_of left) i) n → AreFreeBytes d text stood place left i items (blanks n)
blanks_free d text stood place stance left i items g now first from n k none may = by n may.apart
  where
    t : Stored
    t = stored_of text false (end_of left) i

    out : now ≡ false
    out = text_out now (stored_of text false (end_of left) i) may.here

    goes_on : (b : Bool) → list_any is_new_line (bytes_of i.gap) ≡ b → takes_line left.kind ≡ false
    goes_on true lines = may.goes_on (new_lines-any i.gap ∙ lines)
    goes_on false lines = k.line lines

    breaks : MayBreak place left.kind (piece_of i) (map piece_of items)
    breaks = record {
      in_text = k.there may.there;
      goes_on = goes_on (list_any is_new_line (bytes_of i.gap)) refl;
      no_hash = k.no_hash out (no_comes now (stored_of text false (end_of left) i) (hash_comes d (stored_of text false (end_of left) i ∷ stored_from text false (end_of i) items)) out none);
    }

    by : (n : ℕ) → (0 < n) ⊎ (((start_of i == end_of left) ≡ true) ⊎ (may_touch left.kind (spelling d (raw_of text left)) i.kind (spelling d (raw_of text i)) ≡ true)) → AreFreeBytes d text stood place left i items (blanks n)
    by (suc m) apart = TextBytes (blanks_text_bytes d place left i items m breaks)
    by zero (inl h) = absurd (omega (arith, h))
    by zero (inr (inl same)) = FitBytes (none_fits d text place left i k.kept same)
    by zero (inr (inr touch)) = NoBytes refl (record { touch = touch; breaks = breaks })

-- White space inside a directive.

inside_one : (now : Bool) (t : Stored) → stance_as now t ≡ Within → t.gap.began ≡ false
inside_one false t h = cc
inside_one true t h = by t.gap.began h
  where
    by : (b : Bool) → (if b then Leads else Within) ≡ Within → b ≡ false
    by true e = cc
    by false e = refl

no_length : (s : List LogicalChar) → not (length s == 0) ≡ not (is_same (bytes_of s) [])
no_length [] = refl
no_length (c ∷ s) = let long : (length (c ∷ s) == 0) ≡ false = grind (arith, nat_tests) in ap not long

not_not : (a b c : Bool) → a ≡ not b → b ≡ not c → a ≡ c
not_not a true true p q = cc
not_not a true false p q = p
not_not a false true p q = p
not_not a false false p q = cc

would_open_stored : (d : Dialect) (p : Place) (i : ReadItem) (t : Stored) → t.kind ≡ i.kind → read_alone d t.raw ≡ bytes_of i.chars → would_open p i ≡ true → opens_stored d p t ≡ true
would_open_stored d LineStart i t kind spelled h = h
would_open_stored d AfterHash i t kind spelled h = h
would_open_stored d AfterInclude i t kind spelled h = h
would_open_stored d AfterDefine i t kind spelled h = h
would_open_stored d AfterMacroName i t kind spelled h = ap (λ z. is_punct z && is_same (read_alone d t.raw) (codes "(")) kind ∙ (ap (λ z. is_punct i.kind && is_same z (codes "(")) spelled ∙ h)
would_open_stored d InDirective i t kind spelled h = h
would_open_stored d InText i t kind spelled h = h

space_free : (d : Dialect) (text : List ℕ) (stood place : Place) (stance : Stance) (left i : ReadItem) (items : List ReadItem) (g : Guard) (now first : Bool) (from : ℕ) (white : Bool) (new : List ℕ) → IsGap d text stood place stance left i items g now →
    MaySpace d stood (stored_of text first from left) (stance_as now (stored_of text false (end_of left) i)) (stored_of text false (end_of left) i) white →
    IsLineWhite new → is_same (read_alone d new) [] ≡ not white → (white ≡ true → is_same new [] ≡ false) → IsGuarded left new → AreFreeBytes d text stood place left i items new
space_free d text stood place stance left i items g now first from white new k may line reads some guarded = LineBytes (record {
  one_line = one_line;
  goes_on = k.line one_line;
  white = line_white d new line;
  no_line = line_goes_on d new line;
  apart = apart may.apart;
  opens = λ o. not_not (is_same (read_alone d new) []) white (is_same (bytes_of i.gap) []) reads (may.opens (opens o) ∙ no_length i.gap);
  names = λ n. reads ∙ ap not (may.names (names n));
  guarded = guarded;
})
  where
    l : Stored
    l = stored_of text first from left

    t : Stored
    t = stored_of text false (end_of left) i

    one_line : list_any is_new_line (bytes_of i.gap) ≡ false
    one_line = sym (new_lines-any i.gap) ∙ inside_one now t may.here

    there : behind_item d stood l ≡ place
    there = ap (λ z. past_item d stood left.kind z) k.left_spelled ∙ k.place_is

    opens : would_open place i ≡ true → opens_stored d (behind_item d stood l) t ≡ true
    opens o = ap (λ p. opens_stored d p t) there ∙ would_open_stored d place i t refl k.item_spelled o

    names : would_name stood left.kind (bytes_of left.chars) (bytes_of i.chars) ≡ true → would_begin_name d stood l t ≡ true
    names n = ap (λ z. would_name stood left.kind z (read_alone d (raw_of text i))) k.left_spelled ∙ (ap (λ z. would_name stood left.kind (bytes_of left.chars) z) k.item_spelled ∙ n)

    apart : (white ≡ true) ⊎ (((start_of i == end_of left) ≡ true) ⊎ (may_touch left.kind (spelling d (raw_of text left)) i.kind (spelling d (raw_of text i)) ≡ true)) →
        (may_touch left.kind (spelling d (raw_of text left)) i.kind (spelling d (raw_of text i)) ≡ true) ⊎ IsKeptApart d left i new
    apart (inl w) =
        let more : is_same (read_alone d new) [] ≡ false = reads ∙ ap not w in
        let bytes : is_same new [] ≡ false = some w in
        inr (record { white = ap (λ z. is_same (bytes_of i.gap) [] || not z) more ∙ or_right (is_same (bytes_of i.gap) []) true refl; some = ap (λ z. not z || (end_of left == start_of i)) bytes })
    apart (inr (inl same)) =
        let e : start_of i ≡ end_of left = eqb-true (start_of i) (end_of left) same in
        let fits = (none_fits d text place left i k.kept same).fits.stays in
        let old : is_same (bytes_of i.gap) [] ≡ true = no_or (is_same (bytes_of i.gap) []) (ap (λ z. is_same (bytes_of i.gap) [] || not (is_same z [])) (sym (white_reads_so d [])) ∙ fits) in
        let back : (end_of left == start_of i) ≡ true = grind (arith, nat_tests, e) in
        inr (record { white = ap (λ z. z || not (is_same (read_alone d new) [])) old; some = ap (λ z. not (is_same new []) || z) back ∙ or_right (not (is_same new [])) true refl })
      where
        no_or : (b : Bool) → (b || false) ≡ true → b ≡ true
        no_or true h = refl
        no_or false h = h
    apart (inr (inr touch)) = inl touch

-- some that begins with a blank
white_free : (d : Dialect) (text : List ℕ) (stood place : Place) (stance : Stance) (left i : ReadItem) (items : List ReadItem) (g : Guard) (now first : Bool) (from : ℕ) (new : List ℕ) → IsGap d text stood place stance left i items g now →
    MaySpace d stood (stored_of text first from left) (stance_as now (stored_of text false (end_of left) i)) (stored_of text false (end_of left) i) true → BeginsBlank new → AreFreeBytes d text stood place left i items new
white_free d text stood place stance left i items g now first from new k may begins =
    space_free d text stood place stance left i items g now first from true new k may (blank_white new begins) (blank_reads d new begins) (λ e. ap (λ z. is_same z []) begins.is) (blank_guarded left new begins)

-- so many blanks
spaces_free : (d : Dialect) (text : List ℕ) (stood place : Place) (stance : Stance) (left i : ReadItem) (items : List ReadItem) (g : Guard) (now first : Bool) (from n : ℕ) → IsGap d text stood place stance left i items g now →
    MaySpace d stood (stored_of text first from left) (stance_as now (stored_of text false (end_of left) i)) (stored_of text false (end_of left) i) (nat_lt 0 n) → AreFreeBytes d text stood place left i items (blanks n)
spaces_free d text stood place stance left i items g now first from zero k may =
    space_free d text stood place stance left i items g now first from false [] k may (line_blanks 0) (ap (λ z. is_same z []) (white_reads_so d [])) (λ e. cc) (record { backslash = no_and (ends (λ c. c == 92) (bytes_of left.chars)); return = no_and (ends (λ c. c == 13) (bytes_of left.chars)) })
spaces_free d text stood place stance left i items g now first from (suc m) k may =
    let some : nat_lt 0 (suc m) ≡ true = grind (arith, nat_tests) in
    white_free d text stood place stance left i items g now first from (blanks (suc m)) k (subst (λ b. MaySpace d stood (stored_of text first from left) (stance_as now (stored_of text false (end_of left) i)) (stored_of text false (end_of left) i) b) some may) (blanks_begin m)

-- A gap that a decision puts between two items.

blank_free : (d : Dialect) (text : List ℕ) (stood place : Place) (stance : Stance) (left i : ReadItem) (items : List ReadItem) (g : Guard) (now : Bool) → IsGap d text stood place stance left i items g now →
    (is_of_text (stance_as now (stored_of text false (end_of left) i)) && hash_comes d (stored_of text false (end_of left) i ∷ stored_from text false (end_of i) items)) ≡ true →
    AreFreeBytes d text stood place left i items (32 ∷ [])
blank_free d text stood place stance left i items g now k hash =
    let t = stored_of text false (end_of left) i in
    let ts = stored_from text false (end_of i) items in
    let both = and_both (is_of_text (stance_as now t)) (hash_comes d (t ∷ ts)) hash in
    let out : now ≡ false = is_text_out now t both.0 in
    let lines : list_any is_new_line (bytes_of i.gap) ≡ false = sym (new_lines-any i.gap) ∙ not_began t.gap.began (leads_hash d t ts) both.1 in
    FitBytes (blank_fit_bytes d place left i lines (k.line lines) (k.out out lines))

-- the gap before an item that isn't the first
pub gap_free : (style : Style) (crlf : Bool) (d : Dialect) (text : List ℕ) (stood place : Place) (stance : Stance) (left i : ReadItem) (items : List ReadItem) (g : Guard) (now first : Bool) (from : ℕ) (decision : Decision) → IsGap d text stood place stance left i items g now →
    MayPart d stood stance (stored_of text first from left) (stance_as now (stored_of text false (end_of left) i)) (stored_of text false (end_of left) i) decision →
    AreFreeBytes d text stood place left i items
    (if is_old decision then bytes_between text (end_of left) (start_of i)
    else (if is_of_text (stance_as now (stored_of text false (end_of left) i)) && hash_comes d (stored_of text false (end_of left) i ∷ stored_from text false (end_of i) items) then 32 ∷ []
    else guarded_text style crlf g decision []))
gap_free style crlf d text stood place stance left i items g now first from decision k may =
    by decision (is_of_text (stance_as now (stored_of text false (end_of left) i)) && hash_comes d (stored_of text false (end_of left) i ∷ stored_from text false (end_of i) items)) refl may
  where
    by : (decision : Decision) (b : Bool) → (is_of_text (stance_as now (stored_of text false (end_of left) i)) && hash_comes d (stored_of text false (end_of left) i ∷ stored_from text false (end_of i) items)) ≡ b →
        MayPart d stood stance (stored_of text first from left) (stance_as now (stored_of text false (end_of left) i)) (stored_of text false (end_of left) i) decision →
        AreFreeBytes d text stood place left i items (if is_old decision then bytes_between text (end_of left) (start_of i) else (if b then 32 ∷ [] else guarded_text style crlf g decision []))
    by Old b hash may = FitBytes k.kept
    by (Spaces n) true hash may = blank_free d text stood place stance left i items g now k hash
    by (Spaces n) false hash (inl may) = blanks_free d text stood place stance left i items g now first from n k hash may
    by (Spaces n) false hash (inr may) = spaces_free d text stood place stance left i items g now first from n k may
    by (Lines n column level) true hash may = blank_free d text stood place stance left i items g now k hash
    by (Lines zero column level) false hash may = absurd (omega (arith, may.0))
    by (Lines (suc n) column level) false hash may = lines_free style crlf d text stood place stance left i items g now n column level k hash may.1
    by (Splice pad column) true hash may = blank_free d text stood place stance left i items g now k hash
    by (Splice zero column) false hash may = absurd (omega (arith, may.0))
    by (Splice (suc pad) column) false hash may = white_free d text stood place stance left i items g now first from _ k may.1 (spliced_begins style crlf pad column)

-- The last gap.

kept_last : (d : Dialect) (text : List ℕ) (left : ReadItem) (old : List ℕ) (last : List LogicalChar) → Here d text left old [] last → is_gap (bytes_of last) ≡ true → FitsLast d left last old
kept_last d text left old last h white =
    let reads : read_alone d old ≡ bytes_of last = sym (read_at d (end_of left) old) ∙ ap bytes_of h.chars_are in
    record {
      guarded = kept_end d text left old last h;
      fits = subst (λ z. IsFitEnd (piece_of left ∷ []) (bytes_of last) z) (sym reads)
          (record {
            white = white;
            line = or_right (not (takes_line left.kind)) _ (or_right (is_same (bytes_of last) []) _ (or_right (starts is_new_line (bytes_of last)) _ (same_refl (bytes_of last))));
          });
    }

none_last : (d : Dialect) (left : ReadItem) (last : List LogicalChar) → FitsLast d left last []
none_last d left last = record {
  guarded = record { backslash = no_and (ends (λ c. c == 92) (bytes_of left.chars)); return = no_and (ends (λ c. c == 13) (bytes_of left.chars)) };
  fits = subst (λ z. IsFitEnd (piece_of left ∷ []) (bytes_of last) z) (sym (white_reads_so d []))
      (record { white = refl; line = or_right (not (takes_line left.kind)) true refl });
}

pub last_free : (style : Style) (crlf : Bool) (d : Dialect) (text : List ℕ) (g : Guard) (left : ReadItem) (old : List ℕ) (last : List LogicalChar) (decision : Decision) → Here d text left old [] last → Leaves left g → is_gap (bytes_of last) ≡ true →
    MayEnd decision → FitsLast d left last (guarded_text style crlf g decision old)
last_free style crlf d text g left old last Old h leaves white may = kept_last d text left old last h white
last_free style crlf d text g left old last (Spaces n) h leaves white may = subst (λ n. FitsLast d left last (blanks n)) (sym may) (none_last d left last)
last_free style crlf d text g left old last (Lines zero column level) h leaves white may = absurd (omega (arith, may))
last_free style crlf d text g left old last (Lines (suc n) column level) h leaves white may =
    last_broken d left last crlf g (guarded_lines style crlf g (suc n) column level) (lines_broken style crlf g n column level) leaves
last_free style crlf d text g left old last (Splice pad column) h leaves white may = absurd may

-- the gap of a text without items
pub empty_free : (style : Style) (crlf : Bool) (d : Dialect) (old : List ℕ) (decision : Decision) → is_gap (read_alone d old) ≡ true → MayEnd decision → is_gap (read_alone d (guarded_text style crlf guard.Free decision old)) ≡ true
empty_free style crlf d old Old white may = white
empty_free style crlf d old (Spaces n) white may = subst (λ n. is_gap (read_alone d (blanks n)) ≡ true) (sym may) (ap is_gap (white_reads_so d []))
empty_free style crlf d old (Lines zero column level) white may = absurd (omega (arith, may))
empty_free style crlf d old (Lines (suc n) column level) white may =
    let broken = lines_broken style crlf guard.Free n column level in
    ap is_gap (broken_reads d crlf guard.Free (guarded_lines style crlf guard.Free (suc n) column level) broken) ∙ broken_gap guard.Free broken.more
empty_free style crlf d old (Splice pad column) white may = absurd may
