-- A text that has a block comment without an end has no list of items.
use Rattle.std.proofs.Common.{◌≡◌, ◌==◌, ℕ, suc, ◌+◌, Bool, true, false, List, [], ◌∷◌, ◌++◌, drop, map, refl, sym, ◌∙◌}
use Rattle.std.proofs.Common.{ap, subst, arith, inl, inr}
use Rattle.std.specs.List.{list_all, prefix_len}
use Rattle.std.proofs.lemmas.Bool.{and_parts, both_ways, eq-eqb}
use Rattle.std.proofs.lemmas.List.{append-nil, drop-map}
use Rattle.c_chars.specs.Characters.{bytes_of, logical}
use Rattle.c_chars.specs.declared.Dialect.{Dialect}
use Rattle.c_chars.specs.declared.LogicalChar.{LogicalChar}
use Rattle.c_grammar.specs.Grammar.{Unended, Whole, Spells}
use Rattle.c_grammar.specs.Items.{Place, LineStart, past_gap, past_item, IsLongest, IsNext, Piece, Reads, written}
use Rattle.c_grammar.specs.Text.{ReadItem, Left, IsStep, ReadsUpTo, LexesText, piece_of}
use Rattle.c_grammar.specs.Touch.{starts}
use Rattle.item_kinds.specs.declared.ItemKind.{ItemKind}
use Rattle.c_grammar.proofs.Reading.{bytes_append, characters_written}
use Rattle.c_grammar.proofs.Sorts.{one_kind}
use Rattle.c_grammar.proofs.Unique.{is_blank, same_span, next_begins, next_not_empty, next_same}
use Rattle.c_lexer.specs.Fault.{IsOpenAt, past_blank}
use Rattle.format_core.specs.Exact.{OpenTextsHaveNoLayout}

-- what is left behind some items, where these pieces are read from the start: the pieces behind them
record StillReads (d : Dialect) (left : Left) (last : List ℕ) : Type 0 where
  pieces : List Piece
  reads : Reads d left.place pieces last
  whole : bytes_of left.chars ≡ written pieces last

still : (d : Dialect) (from left : Left) (items : List ReadItem) (ps : List Piece) (last : List ℕ) → ReadsUpTo d from items left → Reads d from.place ps last → bytes_of from.chars ≡ written ps last → StillReads d left last
still d from left [] ps last h reads whole = subst (λ z. StillReads d z last) h (record { pieces = ps; reads = reads; whole = whole })
still d from left (i ∷ items) [] last h reads whole =
    let step : IsStep d from h.0 i = h.1 in
    let gap = bytes_of i.gap in
    let own = bytes_of i.chars in
    let rest = bytes_of h.0.chars in
    let cut = same_span is_blank last [] gap (own ++ rest) reads step.white refl (next_begins d (past_gap from.place gap) i.kind own rest step.next) (append-nil last ∙ (sym whole ∙ (ap bytes_of step.whole ∙ (bytes_append i.gap (i.chars ++ h.0.chars) ∙ ap (λ z. gap ++ z) (bytes_append i.chars h.0.chars))))) in
    absurd (next_not_empty d (past_gap from.place gap) i.kind own rest step.next (sym cut.rest_is))
still d from left (i ∷ items) (p ∷ ps) last h reads whole =
    let step : IsStep d from h.0 i = h.1 in
    let gap = bytes_of i.gap in
    let own = bytes_of i.chars in
    let rest = bytes_of h.0.chars in
    let i_begins = next_begins d (past_gap from.place gap) i.kind own rest step.next in
    let p_begins = next_begins d (past_gap from.place p.gap) p.kind p.spelling (written ps last) reads.1 in
    let same : gap ++ (own ++ rest) ≡ p.gap ++ (p.spelling ++ written ps last) = sym (ap bytes_of step.whole ∙ (bytes_append i.gap (i.chars ++ h.0.chars) ∙ ap (λ z. gap ++ z) (bytes_append i.chars h.0.chars))) ∙ whole in
    let cut = same_span is_blank gap (own ++ rest) p.gap (p.spelling ++ written ps last) step.white reads.0 i_begins p_begins same in
    let gaps = cut.front_is in
    let next : IsNext d (past_gap from.place p.gap) i.kind own rest = subst (λ z. IsNext d (past_gap from.place z) i.kind own rest) gaps step.next in
    let one = next_same d (past_gap from.place p.gap) i.kind p.kind own rest p.spelling (written ps last) next reads.1 cut.rest_is in
    let kinds = one.kind_is in
    let spellings = one.spelling_is in
    let places : past_item d (past_gap from.place p.gap) p.kind p.spelling ≡ h.0.place = rw (← gaps, ← kinds, ← spellings) (sym step.place) in
    still d h.0 left items ps last h.2 (subst (λ z. Reads d z ps last) places reads.2) one.rest_is

-- what stands behind a gap
behind_span : (p : ℕ → Bool) (g t : List ℕ) → list_all p g ≡ true → starts p t ≡ false → drop (prefix_len p (g ++ t)) (g ++ t) ≡ t
behind_span p [] [] a s = refl
behind_span p [] (c ∷ t) a s = rw s refl
behind_span p (c ∷ g) t a s =
    let both = and_parts (p c) (list_all p g) a in
    let head = both.0 in
    let one : 1 + prefix_len p (g ++ t) ≡ suc (prefix_len p (g ++ t)) = omega arith in
    rw (head, one) (behind_span p g t both.1 s)

same_first : {a b : ℕ} {s t : List ℕ} → a ∷ s ≡ b ∷ t → a ≡ b
same_first e = cc

-- a comment without an end stands for no item and is no gap
no_end : (d : Dialect) (place : Place) (kind : ItemKind) (s w : List ℕ) → IsNext d place kind s w → IsLongest d Unended (s ++ w) [] → ⊥
no_end d place kind s w (inl h) unended = elim h.2.ends [
  | inl k ↦ both_ways (60 == 47) refl (subst (λ z. (z == 47) ≡ true) k.0 slash)
  | inr k ↦ both_ways (34 == 47) refl (subst (λ z. (z == 47) ≡ true) k.0 slash)
]
  where
    slash : (h.2.first == 47) ≡ true
    slash = eq-eqb h.2.first 47 (same_first (sym (ap (λ z. z ++ w) h.2.whole) ∙ unended.spells.whole))
no_end d place kind s [] (inr h) unended = whole_is_not (one_kind d (Whole kind) Unended s h.1.spells (subst (λ z. Spells d Unended z) (append-nil s) unended.spells))
  where
    whole_is_not : Whole kind ≡ Unended → ⊥
    whole_is_not e = cc
no_end d place kind s (c ∷ more) (inr h) unended = h.1.longest Unended c more [] (sym (append-nil (c ∷ more))) unended.spells

past_is : (s : List LogicalChar) → bytes_of (past_blank s) ≡ drop (prefix_len is_blank (bytes_of s)) (bytes_of s)
past_is s = sym (drop-map (λ c. c.byte) (prefix_len is_blank (bytes_of s)) s)

not_left : (d : Dialect) (left : Left) (last : List ℕ) → StillReads d left last → IsLongest d Unended (bytes_of (past_blank left.chars)) [] → ⊥
not_left d left last still unended = by_pieces still.pieces still.reads still.whole
  where
    by_pieces : (ps : List Piece) → Reads d left.place ps last → bytes_of left.chars ≡ written ps last → ⊥
    by_pieces [] reads whole =
        let none : bytes_of (past_blank left.chars) ≡ [] = past_is left.chars ∙ (ap (λ z. drop (prefix_len is_blank z) z) (whole ∙ sym (append-nil last)) ∙ behind_span is_blank last [] reads refl) in
        let o = (subst (λ z. IsLongest d Unended z []) none unended).spells.whole in cc
    by_pieces (p ∷ ps) reads whole =
        let begins = next_begins d (past_gap left.place p.gap) p.kind p.spelling (written ps last) reads.1 in
        let past : bytes_of (past_blank left.chars) ≡ p.spelling ++ written ps last = past_is left.chars ∙ (ap (λ z. drop (prefix_len is_blank z) z) whole ∙ behind_span is_blank p.gap (p.spelling ++ written ps last) reads.0 begins) in
        no_end d (past_gap left.place p.gap) p.kind p.spelling (written ps last) reads.1 (subst (λ z. IsLongest d Unended z []) past unended)

lexes_not_open : (d : Dialect) (text : List ℕ) (items : List ReadItem) (last : List LogicalChar) (at : ℕ) → LexesText d text items last → IsOpenAt d text at → ⊥
lexes_not_open d text items last at lexes unended =
    let start : Left = record { place = LineStart; chars = logical d text } in
    let whole : bytes_of start.chars ≡ written (map piece_of items) (bytes_of last) = ap bytes_of lexes.whole ∙ characters_written items last in
    not_left d unended.left (bytes_of last) (still d start unended.left unended.items (map piece_of items) (bytes_of last) unended.read.steps lexes.reads whole) unended.unended

pub open_texts_have_no_layout : OpenTextsHaveNoLayout
open_texts_have_no_layout style ranges budget d b c reports at formats unended =
    let lexes : LexesText d b formats.holds.items formats.holds.last = subst (λ z. LexesText d z formats.holds.items formats.holds.last) formats.text (subst (λ z. LexesText z formats.contents.text formats.holds.items formats.holds.last) formats.dialect formats.holds.lexes) in
    lexes_not_open d b formats.holds.items formats.holds.last at lexes unended
