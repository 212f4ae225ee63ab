-- Where a line may be broken, and white space that may stand there.
use Rattle.std.proofs.Common.{◌≡◌, ◌==◌, ◌||◌, ◌&&◌, not, ℕ, zero, suc, Bool, true, false, List, [], ◌∷◌, ◌++◌, Bool, map, refl, ◌∙◌, ap, subst, replicate}
use Rattle.std.specs.List.{list_any, list_all}
use Rattle.std.proofs.lemmas.Bool.{and_parts, and_right, or_right}
use Rattle.c_chars.specs.Characters.{bytes_of}
use Rattle.c_chars.specs.declared.Dialect.{Dialect}
use Rattle.item_kinds.specs.declared.ItemKind.{ItemKind}
use Rattle.c_grammar.specs.Grammar.{is_same, is_white, is_new_line}
use Rattle.c_grammar.specs.Items.{Place, LineStart, past_gap, past_item, is_gap, is_hash, Piece}
use Rattle.c_grammar.specs.Touch.{ends, is_punct, takes_line}
use Rattle.c_grammar.specs.Text.{ReadItem, piece_of}
use Rattle.c_grammar.specs.Fitting.{in_directive, is_comment, no_hash_comes}
use Rattle.c_grammar.specs.Rewritten.{read_alone, IsGuarded, FitBehind, FitText, White, Blank, Tab, LineEnd, Splice, white_bytes, white_chars}
use Rattle.c_grammar.proofs.White.{white_reads_so}
use Rattle.replacements.specs.FreeGaps.{MayBreak, AreTextBytes, FitBytes, FreeBehind, FreeText}

-- Where a line may be broken

-- before an item that is neither a `#` nor a comment
pub break_before : (place : Place) (left : ItemKind) (item : Piece) (after : List Piece) → in_directive place ≡ false → takes_line left ≡ false → (is_punct item.kind && is_hash item.spelling) ≡ false → is_comment item.kind ≡ false →
    MayBreak place left item after
break_before place left item after text line hash comment = record { in_text = text; goes_on = line; no_hash = rw (hash, comment) refl }

-- before a comment that no `#` comes behind
pub break_before_comment : (place : Place) (left : ItemKind) (item : Piece) (after : List Piece) → in_directive place ≡ false → takes_line left ≡ false → (is_punct item.kind && is_hash item.spelling) ≡ false → no_hash_comes after ≡ true →
    MayBreak place left item after
break_before_comment place left item after text line hash none = record { in_text = text; goes_on = line; no_hash = rw (hash, none) (or_right (not (is_comment item.kind)) true refl) }

-- the next line begins here
abbrev pub begins_line : List Piece → Bool
begins_line [] = true
begins_line (p ∷ ps) = list_any is_new_line p.gap

-- no `#` comes of a line that has none
pub no_hash_line : (xs rest : List Piece) → list_all (λ p. not (is_punct p.kind && is_hash p.spelling)) xs ≡ true → begins_line rest ≡ true → no_hash_comes (xs ++ rest) ≡ true
no_hash_line [] [] none begins = refl
no_hash_line [] (p ∷ rest) none begins = rw begins refl
no_hash_line (x ∷ xs) rest none begins =
    let parts = and_parts (not (is_punct x.kind && is_hash x.spelling)) (list_all (λ p. not (is_punct p.kind && is_hash p.spelling)) xs) none in
    let here = parts.0 in
    let behind = no_hash_line xs rest parts.1 begins in
    or_right (list_any is_new_line x.gap) (not (is_punct x.kind && is_hash x.spelling) && (not (is_comment x.kind) || no_hash_comes (xs ++ rest))) (rw (here, behind) (or_right (not (is_comment x.kind)) true refl))

-- White space

-- bytes that read as these characters
pub read_text_bytes : (d : Dialect) (place : Place) (left item : ReadItem) (after : List ReadItem) (new chars : List ℕ) → MayBreak place left.kind (piece_of item) (map piece_of after) →
    read_alone d new ≡ chars → is_gap chars ≡ true → is_same chars [] ≡ false → IsGuarded left new → AreTextBytes d place left item after new
read_text_bytes d place left item after new chars breaks is white some guarded = record {
  gap = record { breaks = breaks; white = ap is_gap is ∙ white; some = ap (λ z. is_same z []) is ∙ some };
  guarded = guarded;
}

white_is_gap : (ws : List White) → is_gap (white_chars ws) ≡ true
unfolding is_white is_new_line
white_is_gap [] = refl
white_is_gap (Blank ∷ ws) = white_is_gap ws
white_is_gap (Tab ∷ ws) = white_is_gap ws
white_is_gap (LineEnd crlf ∷ ws) = white_is_gap ws
white_is_gap (Splice crlf ∷ ws) = white_is_gap ws

-- blanks, tabs, line ends and splices, not splices alone
pub white_text_bytes : (d : Dialect) (place : Place) (left item : ReadItem) (after : List ReadItem) (ws : List White) → MayBreak place left.kind (piece_of item) (map piece_of after) →
    is_same (white_chars ws) [] ≡ false → IsGuarded left (white_bytes ws) → AreTextBytes d place left item after (white_bytes ws)
white_text_bytes d place left item after ws breaks some guarded = read_text_bytes d place left item after (white_bytes ws) (white_chars ws) breaks (white_reads_so d ws) (white_is_gap ws) some guarded

blanks_are : (n : ℕ) → white_bytes (replicate n Blank) ≡ replicate n 32
blanks_are zero = refl
blanks_are (suc n) = ap (λ z. 32 ∷ z) (blanks_are n)

blanks_guarded : (left : ReadItem) (n : ℕ) → IsGuarded left (white_bytes (replicate (suc n) Blank))
blanks_guarded left zero = record { backslash = and_right (ends (λ c. c == 92) (bytes_of left.chars)) false refl; return = and_right (ends (λ c. c == 13) (bytes_of left.chars)) false refl }
blanks_guarded left (suc n) = record { backslash = and_right (ends (λ c. c == 92) (bytes_of left.chars)) false refl; return = and_right (ends (λ c. c == 13) (bytes_of left.chars)) false refl }

-- one blank or more
pub blanks_text_bytes : (d : Dialect) (place : Place) (left item : ReadItem) (after : List ReadItem) (n : ℕ) → MayBreak place left.kind (piece_of item) (map piece_of after) → AreTextBytes d place left item after (replicate (suc n) 32)
blanks_text_bytes d place left item after n breaks =
    subst (λ z. AreTextBytes d place left item after z) (blanks_are (suc n)) (white_text_bytes d place left item after (replicate (suc n) Blank) breaks refl (blanks_guarded left n))

-- Bytes that may stand for the old ones

fit_behind_free : (d : Dialect) (text : List ℕ) (stood place : Place) (left : ReadItem) (gaps : List (List ℕ)) (items : List ReadItem) (end : List ℕ) → FitBehind d place left gaps items end → FreeBehind d text stood place left gaps items end
fit_behind_free d text stood place left [] [] end fit = fit
fit_behind_free d text stood place left [] (i ∷ items) end fit = absurd fit
fit_behind_free d text stood place left (g ∷ gaps) [] end fit = absurd fit
fit_behind_free d text stood place left (g ∷ gaps) (i ∷ items) end fit = (FitBytes fit.0, fit_behind_free d text (past_gap place (bytes_of i.gap)) (past_item d (past_gap place (bytes_of i.gap)) i.kind (bytes_of i.chars)) i gaps items end fit.1)

-- are free
pub fit_text_free : (d : Dialect) (text : List ℕ) (gaps : List (List ℕ)) (items : List ReadItem) (end : List ℕ) → FitText d gaps items end → FreeText d text gaps items end
fit_text_free d text [] [] end fit = tt
fit_text_free d text [] (i ∷ items) end fit = absurd fit
fit_text_free d text (g ∷ gaps) [] end fit = absurd fit
fit_text_free d text (g ∷ gaps) (i ∷ items) end fit = (fit.0, fit_behind_free d text LineStart (past_item d LineStart i.kind (bytes_of i.chars)) i gaps items end fit.1)
