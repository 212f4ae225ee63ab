-- Other bytes between the items of a text give a twin.
use Rattle.std.proofs.Common.{◌≡◌, ◌==◌, ◌||◌, ◌&&◌, not, ℕ, ◌+◌, ◌-◌, arith, length, Bool, true, false, List, [], ◌∷◌, ◌++◌, map, take, drop, refl, sym, ◌∙◌, ap, subst, inl, inr, append_assoc, length-append}
use Rattle.std.specs.Prelude.{if◌then◌else◌}
use Rattle.std.specs.List.{list_any}
use Rattle.std.proofs.lemmas.Bool.{cases_Bool, and_right, and_parts, or_cases, not-true, eqb-true}
use Rattle.std.proofs.Math.Seq.{take-append_seam, drop-append_seam}
use Rattle.c_chars.specs.Characters.{chars, bytes_of, moved, mark_len, logical}
use Rattle.c_chars.specs.declared.Dialect.{Dialect}
use Rattle.c_chars.specs.declared.LogicalChar.{LogicalChar}
use Rattle.item_kinds.specs.declared.ItemKind.{ItemKind}
use Rattle.c_grammar.specs.Grammar.{is_new_line, is_same}
use Rattle.c_grammar.specs.Items.{Place, LineStart, AfterHash, AfterInclude, AfterDefine, AfterMacroName, InDirective, InText, past_gap, past_item, is_gap, Piece, Reads, Lexes, written}
use Rattle.c_grammar.specs.Text.{ReadItem, piece_of, begin_of, finish_of, end_of, raw_of, characters_of}
use Rattle.c_grammar.specs.Twin.{part_of, parts_of}
use Rattle.c_grammar.specs.Regapping.{IsSameItem, regapped_text}
use Rattle.c_grammar.specs.Fitting.{in_directive, IsFitGap, HaveFitGaps, AreFit, IsFitEnd}
use Rattle.c_grammar.specs.Rewritten.{read_alone, FitBehind, FitText, RewritesGaps}
use Rattle.c_grammar.proofs.AllGaps.{first_place}
use Rattle.c_grammar.proofs.FitGaps.{keeps_items_over_fit_gaps}
use Rattle.c_chars.proofs.Moved.{chars_at}
use Rattle.c_grammar.proofs.ItemBytes.{ReadAs, AreParted, parted, next_black}
use Rattle.c_grammar.proofs.NewText.{read_at, new_items, new_end, text_chars}

-- Pieces

read_item : (d : Dialect) (n : ℕ) (i : ReadItem) (gap : List LogicalChar) (raw : List ℕ) → ReadAs d i.chars raw → IsSameItem (piece_of i) (record { gap = bytes_of gap; kind = i.kind; spelling = bytes_of (chars d n raw) })
read_item d n i gap raw reads = record { kind = refl; spelling = read_at d n raw ∙ reads.spelling }

behind_fit : (d : Dialect) (text : List ℕ) (place : Place) (left : ReadItem) (old : List ℕ) (gaps : List (List ℕ)) (items : List ReadItem) (end : List ℕ) (at : ℕ) → AreParted d text (end_of left) old items →
    FitBehind d place left gaps items end → HaveFitGaps d place left.kind (map piece_of items) (map piece_of (new_items d at gaps items text))
unfolding new_items
behind_fit d text place left old [] [] end at parts fit = tt
behind_fit d text place left old [] (i ∷ items) end at parts fit = absurd fit
behind_fit d text place left old (g ∷ gaps) [] end at parts fit = absurd fit
behind_fit d text place left old (g ∷ gaps) (i ∷ items) end at parts fit =
    let raw = raw_of text i in
    let next = past_item d (past_gap place (bytes_of i.gap)) i.kind (bytes_of i.chars) in (
      read_item d (at + length g) i (chars d at g) raw parts.4,
      subst (λ z. IsFitGap place left.kind (bytes_of i.gap) z) (sym (read_at d at g)) fit.0.fits,
      behind_fit d text next i parts.1 gaps items end (at + length g + length raw) parts.9 fit.1,
    )

text_fit : (d : Dialect) (text : List ℕ) (start : ℕ) (old : List ℕ) (gaps : List (List ℕ)) (items : List ReadItem) (end : List ℕ) (at : ℕ) → AreParted d text start old items →
    FitText d gaps items end → AreFit d (map piece_of items) (map piece_of (new_items d at gaps items text))
unfolding new_items
text_fit d text start old [] [] end at parts fit = tt
text_fit d text start old [] (i ∷ items) end at parts fit = absurd fit
text_fit d text start old (g ∷ gaps) [] end at parts fit = absurd fit
text_fit d text start old (g ∷ gaps) (i ∷ items) end at parts fit =
    let raw = raw_of text i in
    let next = past_item d LineStart i.kind (bytes_of i.chars) in (
      read_item d (at + length g) i (chars d at g) raw parts.4,
      ap is_gap (read_at d at g) ∙ fit.0,
      behind_fit d text next i parts.1 gaps items end (at + length g + length raw) parts.9 fit.1,
    )

-- Kinds and bytes

fit_lengths : Dialect → List (List ℕ) → List ReadItem → Type 0
fit_lengths d [] [] = Unit {0}
fit_lengths d (g ∷ gaps) (i ∷ items) = fit_lengths d gaps items
fit_lengths d [] (i ∷ items) = ⊥
fit_lengths d (g ∷ gaps) [] = ⊥

behind_lengths : (d : Dialect) (place : Place) (left : ReadItem) (gaps : List (List ℕ)) (items : List ReadItem) (end : List ℕ) → FitBehind d place left gaps items end → fit_lengths d gaps items
unfolding fit_lengths
behind_lengths d place left [] [] end fit = tt
behind_lengths d place left [] (i ∷ items) end fit = absurd fit
behind_lengths d place left (g ∷ gaps) [] end fit = absurd fit
behind_lengths d place left (g ∷ gaps) (i ∷ items) end fit = behind_lengths d (past_item d (past_gap place (bytes_of i.gap)) i.kind (bytes_of i.chars)) i gaps items end fit.1

text_lengths : (d : Dialect) (gaps : List (List ℕ)) (items : List ReadItem) (end : List ℕ) → FitText d gaps items end → fit_lengths d gaps items
unfolding fit_lengths
text_lengths d [] [] end fit = tt
text_lengths d [] (i ∷ items) end fit = absurd fit
text_lengths d (g ∷ gaps) [] end fit = absurd fit
text_lengths d (g ∷ gaps) (i ∷ items) end fit = behind_lengths d (past_item d LineStart i.kind (bytes_of i.chars)) i gaps items end fit.1

new_kinds : (d : Dialect) (at : ℕ) (gaps : List (List ℕ)) (items : List ReadItem) (text : List ℕ) → fit_lengths d gaps items → map (λ item. item.kind) items ≡ map (λ item. item.kind) (new_items d at gaps items text)
unfolding new_items fit_lengths
new_kinds d at [] [] text fit = refl
new_kinds d at [] (i ∷ items) text fit = absurd fit
new_kinds d at (g ∷ gaps) [] text fit = absurd fit
new_kinds d at (g ∷ gaps) (i ∷ items) text fit = ap (λ z. i.kind ∷ z) (new_kinds d (at + length g + length (raw_of text i)) gaps items text fit)

begin_at : (n : ℕ) (s : List LogicalChar) (f : ℕ) (t : List ℕ) → bytes_of s ≡ f ∷ t → begin_of s ≡ 0 → begin_of (map (moved n) s) ≡ n
begin_at n [] f t e h = cc
begin_at n (c ∷ s) f t e h = omega (arith, h)

finish_at : (n m : ℕ) (s : List LogicalChar) (f : ℕ) (t : List ℕ) → bytes_of s ≡ f ∷ t → finish_of s ≡ m → finish_of (map (moved n) s) ≡ m + n
finish_at n m [] f t e h = cc
finish_at n m (c ∷ s) f t e h = moved_finish c s ∙ ap (λ z. z + n) h
  where
    moved_finish : (c : LogicalChar) (s : List LogicalChar) → finish_of (map (moved n) (c ∷ s)) ≡ finish_of (c ∷ s) + n
    moved_finish c [] = refl
    moved_finish c (e ∷ s) = moved_finish e s

raw_new : (d : Dialect) (before raw behind new : List ℕ) (kind : ItemKind) (gap : List LogicalChar) (at f : ℕ) (t : List ℕ) (cs : List LogicalChar) → ReadAs d cs raw → bytes_of cs ≡ f ∷ t → length before ≡ at → new ≡ before ++ (raw ++ behind) →
    raw_of new (record { kind = kind; gap = gap; chars = chars d at raw }) ≡ raw
raw_new d before raw behind new kind gap at f t cs reads some here w =
    let home = reads.spelling ∙ some in
    let start : begin_of (chars d at raw) ≡ at = ap begin_of (chars_at d at raw) ∙ begin_at at (chars d 0 raw) f t home reads.from in
    let stop : finish_of (chars d at raw) ≡ length raw + at = ap finish_of (chars_at d at raw) ∙ finish_at at (length raw) (chars d 0 raw) f t home reads.finish in
    let long : finish_of (chars d at raw) - begin_of (chars d at raw) ≡ length raw = omega (arith, start, stop) in
    let rest : drop (begin_of (chars d at raw)) new ≡ raw ++ behind = ap (λ z. drop z new) (start ∙ sym here) ∙ (ap (drop (length before)) w ∙ drop-append_seam before (raw ++ behind)) in
    rw (long, rest) (take-append_seam raw behind)

-- each item of the old text has characters
abbrev HaveChars : List ReadItem → Type 0
HaveChars [] = Unit {0}
HaveChars (i ∷ items) = (f : ℕ) × (t : List ℕ) × (bytes_of i.chars ≡ f ∷ t) × HaveChars items

new_raws : (d : Dialect) (text new before : List ℕ) (start : ℕ) (old : List ℕ) (at : ℕ) (gaps : List (List ℕ)) (items : List ReadItem) (end : List ℕ) → AreParted d text start old items → fit_lengths d gaps items → HaveChars items →
    length before ≡ at → new ≡ before ++ regapped_text gaps items text end → map (raw_of text) items ≡ map (raw_of new) (new_items d at gaps items text)
unfolding new_items fit_lengths
new_raws d text new before start old at [] [] end parts fit have here w = refl
new_raws d text new before start old at [] (i ∷ items) end parts fit have here w = absurd fit
new_raws d text new before start old at (g ∷ gaps) [] end parts fit have here w = absurd fit
new_raws d text new before start old at (g ∷ gaps) (i ∷ items) end parts fit have here w =
    let raw = raw_of text i in
    let rest = regapped_text gaps items text end in
    let to_item : new ≡ (before ++ g) ++ (raw ++ rest) = w ∙ sym (append_assoc before g (raw ++ rest)) in
    let to_rest : new ≡ ((before ++ g) ++ raw) ++ rest = to_item ∙ sym (append_assoc (before ++ g) raw rest) in
    let gap_end : length (before ++ g) ≡ at + length g = length-append before g ∙ ap (λ z. z + length g) here in
    let item_end : length ((before ++ g) ++ raw) ≡ at + length g + length raw = length-append (before ++ g) raw ∙ ap (λ z. z + length raw) gap_end in
    let head : raw_of new (record { kind = i.kind; gap = chars d at g; chars = chars d (at + length g) raw }) ≡ raw = raw_new d (before ++ g) raw rest new i.kind (chars d at g) (at + length g) have.0 have.1 i.chars parts.4 have.2 gap_end to_item in
    let tail : map (raw_of text) items ≡ map (raw_of new) (new_items d (at + length g + length raw) gaps items text) = new_raws d text new ((before ++ g) ++ raw) (end_of i) parts.1 (at + length g + length raw) gaps items end parts.9 fit have.3 item_end to_rest in
    ap (λ z. z ∷ map (raw_of text) items) (sym head) ∙ ap (λ z. raw_of new (record { kind = i.kind; gap = chars d at g; chars = chars d (at + length g) raw }) ∷ z) tail

-- Directives

fit_part : (place : Place) (left kind : ItemKind) (o g s : List ℕ) → IsFitGap place left o g → part_of (past_gap place o) o kind s ≡ part_of (past_gap place g) g kind s
fit_part place left kind o g s fit = ap (λ b. part_of (if b then LineStart else place) o kind s) (sym fit.lines) ∙ by_line (list_any is_new_line g)
  where
    same_empty : in_directive place ≡ true → is_same o [] ≡ is_same g []
    same_empty p = elim (cases_Bool (is_same o [])) [
      | inl e ↦
          let c : (not true || (is_same g [] || not true)) ≡ true = subst (λ z. (not true || (is_same g [] || not z)) ≡ true) p (subst (λ z. (not z || (is_same g [] || not (in_directive place))) ≡ true) e fit.comes) in
          elim (or_cases (is_same g []) false c) [ inl y ↦ e ∙ sym y | inr f ↦ cc ]
      | inr e ↦
          let c : (false || not (is_same g [])) ≡ true = subst (λ z. (z || not (is_same g [])) ≡ true) e fit.stays in
          e ∙ sym (not-true (is_same g []) c)
    ]

    at_place : (p : Place) → (in_directive p ≡ true → is_same o [] ≡ is_same g []) → part_of p o kind s ≡ part_of p g kind s
    at_place LineStart e = refl
    at_place AfterHash e = refl
    at_place AfterInclude e = refl
    at_place AfterDefine e = refl
    at_place AfterMacroName e = let f = e refl in rw f refl
    at_place InDirective e = refl
    at_place InText e = refl

    by_line : (b : Bool) → part_of (if b then LineStart else place) o kind s ≡ part_of (if b then LineStart else place) g kind s
    by_line true = refl
    by_line false = at_place place same_empty

fit_parts : (d : Dialect) (place : Place) (left : ItemKind) (ps qs : List Piece) → HaveFitGaps d place left ps qs → parts_of d place ps ≡ parts_of d place qs
fit_parts d place left [] [] fit = refl
fit_parts d place left [] (q ∷ qs) fit = absurd fit
fit_parts d place left (p ∷ ps) [] fit = absurd fit
fit_parts d place left (p ∷ ps) (q ∷ qs) fit =
    let same : IsSameItem p q = fit.0 in
    let k = same.kind in
    let s = same.spelling in
    let e : past_gap place q.gap ≡ past_gap place p.gap = ap (λ b. if b then LineStart else place) fit.1.lines in
    let head : part_of (past_gap place p.gap) p.gap p.kind p.spelling ≡ part_of (past_gap place q.gap) q.gap q.kind q.spelling = rw (k, s) (fit_part place left p.kind p.gap q.gap p.spelling fit.1) in
    let behind : past_item d (past_gap place q.gap) q.kind q.spelling ≡ past_item d (past_gap place p.gap) p.kind p.spelling = rw (k, s, e) refl in
    let tail : parts_of d (past_item d (past_gap place p.gap) p.kind p.spelling) ps ≡ parts_of d (past_item d (past_gap place q.gap) q.kind q.spelling) qs =
    fit_parts d (past_item d (past_gap place p.gap) p.kind p.spelling) p.kind ps qs fit.2 ∙ ap (λ z. parts_of d z qs) (sym behind) in
    cc

all_parts : (d : Dialect) (ps qs : List Piece) → AreFit d ps qs → parts_of d LineStart ps ≡ parts_of d LineStart qs
all_parts d [] [] fit = refl
all_parts d [] (q ∷ qs) fit = absurd fit
all_parts d (p ∷ ps) [] fit = absurd fit
all_parts d (p ∷ ps) (q ∷ qs) fit =
    let same : IsSameItem p q = fit.0 in
    let k = same.kind in
    let s = same.spelling in
    let e = first_place p.gap in
    let f = first_place q.gap in
    let head : part_of (past_gap LineStart p.gap) p.gap p.kind p.spelling ≡ part_of (past_gap LineStart q.gap) q.gap q.kind q.spelling = rw (k, s, e, f) refl in
    let there : past_item d (past_gap LineStart p.gap) p.kind p.spelling ≡ past_item d LineStart p.kind p.spelling = rw e refl in
    let behind : past_item d LineStart p.kind p.spelling ≡ past_item d (past_gap LineStart q.gap) q.kind q.spelling = rw (k, s, f) refl in
    let tail : parts_of d (past_item d (past_gap LineStart p.gap) p.kind p.spelling) ps ≡ parts_of d (past_item d (past_gap LineStart q.gap) q.kind q.spelling) qs =
    ap (λ z. parts_of d z ps) there ∙ (fit_parts d (past_item d LineStart p.kind p.spelling) p.kind ps qs fit.2 ∙ ap (λ z. parts_of d z qs) behind) in
    cc

-- The byte order mark

pub record HasMark (text : List ℕ) : Type 0 where
  pub whole : text ≡ take (mark_len text) text ++ drop (mark_len text) text
  pub long : length (take (mark_len text) text) ≡ mark_len text
  pub again : (rest : List ℕ) → (mark_len text ≡ 0 → mark_len rest ≡ 0) → mark_len (take (mark_len text) text ++ rest) ≡ mark_len text

no_mark : (text : List ℕ) → mark_len text ≡ 0 → HasMark text
no_mark text e = record { whole = rw e refl; long = rw e refl; again = λ rest h. rw e (h e) }

with_mark : (text : List ℕ) → HasMark (239 ∷ 187 ∷ 191 ∷ text)
with_mark text = record { whole = refl; long = refl; again = λ rest h. refl }

pub mark_of : (text : List ℕ) → HasMark text
mark_of [] = no_mark [] refl
mark_of (a ∷ []) = let n : ((239 == a) && false) ≡ false = and_right (239 == a) false refl in no_mark (a ∷ []) (rw n refl)
mark_of (a ∷ b ∷ []) = let n : ((239 == a) && ((187 == b) && false)) ≡ false = and_right (239 == a) ((187 == b) && false) (and_right (187 == b) false refl) in no_mark (a ∷ b ∷ []) (rw n refl)
mark_of (a ∷ b ∷ c ∷ text) = elim (cases_Bool ((239 == a) && ((187 == b) && ((191 == c) && true)))) [
  | inr n ↦ no_mark (a ∷ b ∷ c ∷ text) (rw n refl)
  | inl y ↦
      let p = and_parts (239 == a) ((187 == b) && ((191 == c) && true)) y in
      let q = and_parts (187 == b) ((191 == c) && true) p.1 in
      let a_is : 239 ≡ a = eqb-true 239 a p.0 in
      let b_is : 187 ≡ b = eqb-true 187 b q.0 in
      let c_is : 191 ≡ c = eqb-true 191 c (and_parts (191 == c) true q.1).0 in
      subst (λ z. HasMark (z ∷ b ∷ c ∷ text)) a_is (subst (λ z. HasMark (239 ∷ z ∷ c ∷ text)) b_is (subst (λ z. HasMark (239 ∷ 187 ∷ z ∷ text)) c_is (with_mark text)))
]

-- The new text

have_chars : (d : Dialect) (place : Place) (items : List ReadItem) (last : List ℕ) → Reads d place (map piece_of items) last → HaveChars items
have_chars d place [] last h = tt
have_chars d place (i ∷ items) last h =
    let black = next_black d (past_gap place (bytes_of i.gap)) i.kind (bytes_of i.chars) (written (map piece_of items) last) h.1 in
    (black.0, black.1, black.2, have_chars d (past_item d (past_gap place (bytes_of i.gap)) i.kind (bytes_of i.chars)) items last h.2)

pub rewrites_gaps : RewritesGaps
rewrites_gaps d text items last gaps end h fit fit_end no_new =
    let mark : HasMark text = mark_of text in
    let n = mark_len text in
    let front = take n text in
    let old = drop n text in
    let rest = regapped_text gaps items text end in
    let new = front ++ rest in
    let at_front : chars d (length front) old ≡ characters_of items last = ap (λ z. chars d z old) mark.long ∙ h.whole in
    let parts : AreParted d text (length front) old items = parted d text front old LineStart items last mark.whole at_front h.reads in
    let same_mark : mark_len new ≡ n = mark.again rest no_new in
    let new_rest : drop n new ≡ rest = ap (λ z. drop z new) (sym mark.long) ∙ drop-append_seam front rest in
    let new_logical : logical d new ≡ chars d n rest = ap (λ z. chars d z (drop z new)) same_mark ∙ ap (chars d n) new_rest in
    let found = new_items d n gaps items text in
    let found_last = chars d (new_end n gaps items text) end in
    let ps = map piece_of items in
    let qs = map piece_of found in
    let fits : AreFit d ps qs = text_fit d text (length front) old gaps items end n parts fit in
    let last_is : read_alone d end ≡ bytes_of found_last = sym (read_at d (new_end n gaps items text) end) in
    let lexes : Lexes d (written ps (bytes_of last)) ps (bytes_of last) = record { whole = refl; reads = h.reads } in
    let again : Lexes d (written qs (bytes_of found_last)) qs (bytes_of found_last) = keeps_items_over_fit_gaps d (written ps (bytes_of last)) ps qs (bytes_of last) (bytes_of found_last) lexes fits (subst (λ z. IsFitEnd ps (bytes_of last) z) last_is fit_end) in
    let lengths = text_lengths d gaps items end fit in
    record {
      items = items;
      last = last;
      lexes = h;
      other_items = found;
      other_last = found_last;
      other_lexes = record { whole = new_logical ∙ text_chars d text (length front) old gaps items end n parts fit fit_end.white; reads = again.reads };
      kinds = new_kinds d n gaps items text lengths;
      raws = new_raws d text new front (length front) old n gaps items end parts lengths (have_chars d LineStart items (bytes_of last) h.reads) mark.long refl;
      parts = all_parts d ps qs fits;
      mark = sym same_mark;
    }
