-- Where items stand, from the spans of their characters.
use Rattle.std.proofs.Common.{◌≡◌, ◌∙◌, ◌+◌, ◌<◌, ◌≤◌, true, false, ℕ, List, [], ◌∷◌, ◌++◌, length, refl, inl, inr, ap, subst, arith, length-append}
use Rattle.std.proofs.lemmas.List.{length-map}
use Rattle.c_chars.specs.Characters.{bytes_of}
use Rattle.c_chars.specs.declared.Dialect.{Dialect}
use Rattle.c_chars.specs.declared.LogicalChar.{LogicalChar}
use Rattle.c_chars.proofs.Spans.{Ascend, finish_from, ascend_cut, ascend_on, ascend_fits}
use Rattle.item_kinds.specs.declared.ItemKind.{ItemKind}
use Rattle.c_grammar.specs.Grammar.{Whole, is_white, is_new_line}
use Rattle.c_grammar.specs.Items.{Place, IsNext, past_gap}
use Rattle.c_grammar.specs.Text.{ReadItem, Left, IsStep, begin_of, finish_of, start_of, end_of}
use Rattle.c_grammar.proofs.Unique.{spelled_begins}

-- Characters whose spans ascend begin before they end.
pub record IsSpan (at stop : ℕ) (s : List LogicalChar) : Type 0 where
  pub later : at ≤ begin_of s
  pub some : begin_of s < finish_of s
  pub within : finish_of s ≤ stop
  pub ends : finish_from at s ≡ finish_of s

pub span_of : (at stop : ℕ) (s : List LogicalChar) → 0 < length s → Ascend at stop s → IsSpan at stop s
unfolding finish_from
span_of at stop [] h up = absurd (omega arith)
span_of at stop (c ∷ []) h up = record { later = up.0; some = up.1; within = up.2; ends = refl }
span_of at stop (c ∷ e ∷ s) h up =
    let rest : IsSpan c.to stop (e ∷ s) = span_of c.to stop (e ∷ s) (omega arith) up.2 in
    record {
      later = up.0;
      some = omega (arith, up.1, rest.later, rest.some);
      within = rest.within;
      ends = rest.ends;
    }

-- characters whose spans ascend have a byte or more each
wide_ascend : (at stop : ℕ) (s : List LogicalChar) → Ascend at stop s → at + length s ≤ finish_from at s
unfolding finish_from
wide_ascend at stop [] up = omega arith
wide_ascend at stop (c ∷ s) up = omega (arith, up.0, up.1, wide_ascend c.to stop s up.2)

-- An item with characters stands behind this offset and the characters of its gap, and in the text, and what is left ascends from its end on.
pub record IsSpanned (at stop : ℕ) (read : ReadItem) (rest : List LogicalChar) : Type 0 where
  pub later : at ≤ start_of read
  pub wide : at + length read.gap ≤ start_of read
  pub some : start_of read < end_of read
  pub within : end_of read ≤ stop
  pub up : Ascend (end_of read) stop rest

pub spanned_step : (at stop : ℕ) (left rest : List LogicalChar) (read : ReadItem) → Ascend at stop left → left ≡ read.gap ++ (read.chars ++ rest) → 0 < length read.chars
    → IsSpanned at stop read rest
spanned_step at stop left rest read up whole some =
    let split : Ascend at (finish_from at read.gap) read.gap × Ascend (finish_from at read.gap) stop (read.chars ++ rest) =
    ascend_cut at stop read.gap (read.chars ++ rest) (subst (Ascend at stop) whole up) in
    let from : ℕ = finish_from at read.gap in
    let behind : at ≤ from = ascend_on at from read.gap split.0 in
    let parts : Ascend from (finish_from from read.chars) read.chars × Ascend (finish_from from read.chars) stop rest = ascend_cut from stop read.chars rest split.1 in
    let span : IsSpan from (finish_from from read.chars) read.chars = span_of from (finish_from from read.chars) read.chars some parts.0 in
    let up_from : Ascend (end_of read) stop rest = subst (λ k. Ascend k stop rest) span.ends parts.1 in
    let wide : at + length read.gap ≤ from = wide_ascend at from read.gap split.0 in
    record {
      later = omega (arith, behind, span.later);
      wide = omega (arith, wide, span.later);
      some = span.some;
      within = ascend_fits (end_of read) stop rest up_from;
      up = up_from;
    }

-- an item has a character
pub next_some : (d : Dialect) (place : Place) (kind : ItemKind) (s t : List ℕ) → IsNext d place kind s t → 0 < length s
unfolding is_white is_new_line
next_some d place kind [] t (inl h) = let f : [] ≡ h.2.first ∷ (h.2.body ++ h.2.last ∷ []) = h.2.whole in cc
next_some d place kind [] t (inr h) = let f : true ≡ false = spelled_begins d (Whole kind) [] (32 ∷ []) h.1.spells in cc
next_some d place kind (c ∷ s) t h = omega arith

-- a step leaves less
pub step_shorter : (d : Dialect) (old new : Left) (read : ReadItem) → IsStep d old new read → (0 < length read.chars) × (length new.chars < length old.chars)
step_shorter d old new read step =
    let whole : length old.chars ≡ length read.gap + (length read.chars + length new.chars) =
    ap length step.whole ∙ (length-append read.gap (read.chars ++ new.chars) ∙ ap (λ k. length read.gap + k) (length-append read.chars new.chars)) in
    let chars_len : length (bytes_of read.chars) ≡ length read.chars = length-map read.chars (λ c. c.byte) in
    let some : 0 < length (bytes_of read.chars) = next_some d (past_gap old.place (bytes_of read.gap)) read.kind (bytes_of read.chars) (bytes_of new.chars) step.next in
    (omega (arith, chars_len, some), omega (arith, whole, chars_len, some))
