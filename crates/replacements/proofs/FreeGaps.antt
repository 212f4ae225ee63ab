-- Free gaps leave all items, and the part that each plays in a directive.
use Rattle.std.proofs.Common.{◌≡◌, ◌||◌, not, ℕ, false, List, [], ◌∷◌, ◌++◌, refl, sym, ◌∙◌, ap, subst, inl, inr}
use Rattle.std.specs.Prelude.{⊤, IsTrue}
use Rattle.c_chars.specs.declared.Dialect.{Dialect}
use Rattle.item_kinds.specs.declared.ItemKind.{ItemKind}
use Rattle.c_grammar.specs.Grammar.{is_new_line, is_white, is_same}
use Rattle.c_grammar.specs.Items.{Place, LineStart, past_gap, past_item, is_gap, Piece, written, Reads}
use Rattle.c_grammar.specs.Touch.{regapped}
use Rattle.c_grammar.specs.Twin.{part_of, parts_of}
use Rattle.c_grammar.specs.Regapping.{IsSameItem}
use Rattle.c_grammar.specs.Fitting.{in_directive, place_behind, IsFitGap, HaveFitGaps, IsFitEnd}
use Rattle.c_grammar.proofs.Lists.{same_is}
use Rattle.c_grammar.proofs.Items.{keeps_items}
use Rattle.c_grammar.proofs.AllGaps.{first_place, piece_is, onward}
use Rattle.c_grammar.proofs.FitGaps.{fit_gaps, keeps_items_over_fit_gaps}
use Rattle.c_grammar.proofs.KeptBytes.{fit_itself}
use Rattle.c_grammar.proofs.Lines.{keeps_items_over_lines}
use Rattle.replacements.proofs.OneLineGaps.{line_gap}
use Rattle.replacements.proofs.Places.{IsFreeGap, AreAlike, alike_text, AreStood, stood_alike, step_alike, step_part}

-- the same items, each behind a free gap
abbrev pub HaveFreeGaps : Dialect → Place → Place → ItemKind → List ℕ → List Piece → List Piece → Type 0
HaveFreeGaps d stood place left l [] [] = ⊤
HaveFreeGaps d stood place left l (p ∷ ps) (q ∷ qs) =
    IsSameItem p q × IsFreeGap stood place left l p ps q.gap × HaveFreeGaps d (past_gap place p.gap) (past_item d (past_gap place p.gap) p.kind p.spelling) p.kind p.spelling ps qs
HaveFreeGaps d stood place left l [] (q ∷ qs) = ⊥
HaveFreeGaps d stood place left l (p ∷ ps) [] = ⊥

-- the same items, the first behind any gap, each other behind a free one
abbrev pub AreFree : Dialect → List Piece → List Piece → Type 0
AreFree d [] [] = ⊤
AreFree d (p ∷ ps) (q ∷ qs) = IsSameItem p q × IsTrue (is_gap q.gap) × HaveFreeGaps d LineStart (past_item d LineStart p.kind p.spelling) p.kind p.spelling ps qs
AreFree d [] (q ∷ qs) = ⊥
AreFree d (p ∷ ps) [] = ⊥

-- Gaps as they are

reads_behind : (d : Dialect) (place : Place) (xs ys : List Piece) (last : List ℕ) → Reads d place (xs ++ ys) last → Reads d (place_behind d place xs) ys last
reads_behind d place [] ys last h = h
reads_behind d place (x ∷ xs) ys last h = reads_behind d (past_item d (past_gap place x.gap) x.kind x.spelling) xs ys last h.2

stay_fit : (d : Dialect) (stand place : Place) (left : ItemKind) (ps : List Piece) (last : List ℕ) → Reads d stand ps last → HaveFitGaps d place left ps ps
stay_fit d stand place left [] last h = tt
stay_fit d stand place left (p ∷ ps) last h = (
  record { kind = refl; spelling = refl },
  fit_itself place left p.gap h.0,
  stay_fit d (past_item d (past_gap stand p.gap) p.kind p.spelling) (past_item d (past_gap place p.gap) p.kind p.spelling) p.kind ps last h.2,
)

-- a gap fits by the place alone being in a directive or not
fit_moved : (p q : Place) (left : ItemKind) (o g : List ℕ) → in_directive p ≡ in_directive q → IsFitGap p left o g → IsFitGap q left o g
fit_moved p q left o g e fit = record {
  white = fit.white;
  lines = fit.lines;
  stays = fit.stays;
  comes = subst (λ z. IsTrue (not (is_same o []) || (is_same g [] || not z))) e fit.comes;
  line = fit.line;
}

-- One gap

free_gap : (d : Dialect) (stood p : Place) (xs : List Piece) (l x : Piece) (ps : List Piece) (last g : List ℕ) → Reads d LineStart (xs ++ l ∷ x ∷ ps) last →
    AreStood stood (past_gap (place_behind d LineStart xs) l.gap) → AreAlike p (place_behind d LineStart (xs ++ l ∷ [])) (x ∷ ps) → IsFreeGap stood p l.kind l.spelling x ps g → Reads d LineStart (xs ++ l ∷ regapped g x ∷ ps) last
unfolding is_white is_new_line
free_gap d stood p xs l x ps last g h at alike (inl fit) =
    let behind = place_behind d LineStart (xs ++ l ∷ []) in
    let there : Reads d LineStart ((xs ++ l ∷ []) ++ x ∷ ps) last = subst (λ z. Reads d LineStart z last) (sym (onward xs l (x ∷ ps))) h in
    let rest : Reads d behind (x ∷ ps) last = reads_behind d LineStart (xs ++ l ∷ []) (x ∷ ps) last there in
    let next = past_item d (past_gap behind x.gap) x.kind x.spelling in
    fit_gaps d LineStart xs l (x ∷ ps) (regapped g x ∷ ps) last h (
      record { kind = refl; spelling = refl },
      fit_moved p behind l.kind x.gap g (alike_text p behind (x ∷ ps) alike) fit,
      stay_fit d next next x.kind ps last rest.2,
    )
free_gap d stood p xs l x ps last g h at alike (inr (inl free)) =
    let behind = place_behind d LineStart (xs ++ l ∷ []) in
    let text : in_directive behind ≡ false = sym (alike_text p behind (x ∷ ps) alike) ∙ free.breaks.in_text in
    (keeps_items_over_lines d (written (xs ++ l ∷ x ∷ ps) last) xs ps l x last g (record { whole = refl; reads = h }) free.white (not_empty g free.some) free.breaks.goes_on text free.breaks.no_hash).reads
  where
    not_empty : (g : List ℕ) → is_same g [] ≡ false → g ≡ [] → ⊥
    not_empty [] s e = cc
    not_empty (c ∷ g) s e = cc
free_gap d stood p xs l x ps last g h at alike (inr (inr (inr line))) = line_gap d stood p xs l x ps last g h at line
free_gap d stood p xs l x ps last g h at alike (inr (inr (inl closed))) =
    let behind = place_behind d LineStart (xs ++ l ∷ []) in
    let text : in_directive behind ≡ false = sym (alike_text p behind (x ∷ ps) alike) ∙ closed.breaks.in_text in
    let joined = (keeps_items_over_lines d (written (xs ++ l ∷ x ∷ ps) last) xs ps l x last (32 ∷ []) (record { whole = refl; reads = h }) refl (λ z. cc) closed.breaks.goes_on text closed.breaks.no_hash).reads in
    let none = (keeps_items d (written (xs ++ l ∷ regapped (32 ∷ []) x ∷ ps) last) xs ps l (regapped (32 ∷ []) x) last (record { whole = refl; reads = joined }) closed.touch refl).reads in
    subst (λ z. Reads d LineStart (xs ++ l ∷ regapped z x ∷ ps) last) (sym (same_is g [] closed.none)) none

-- All gaps

behind_more : (d : Dialect) (place : Place) (xs ys : List Piece) → place_behind d place (xs ++ ys) ≡ place_behind d (place_behind d place xs) ys
behind_more d place [] ys = refl
behind_more d place (x ∷ xs) ys = behind_more d (past_item d (past_gap place x.gap) x.kind x.spelling) xs ys

item_same : (d : Dialect) (place : Place) (p q : Piece) → IsSameItem p q → past_item d place p.kind p.spelling ≡ past_item d place q.kind q.spelling
item_same d place p q same = ap (λ z. past_item d place z p.spelling) (sym same.kind) ∙ ap (λ z. past_item d place q.kind z) (sym same.spelling)

item_moved : (d : Dialect) (stood place : Place) (p q : Piece) (ps qs : List Piece) → IsSameItem p q → HaveFreeGaps d stood place p.kind p.spelling ps qs → HaveFreeGaps d stood place q.kind q.spelling ps qs
item_moved d stood place p q ps qs same free = subst (λ z. HaveFreeGaps d stood place q.kind z ps qs) (sym same.spelling) (subst (λ z. HaveFreeGaps d stood place z p.spelling ps qs) (sym same.kind) free)

free_gaps : (d : Dialect) (stood p : Place) (xs : List Piece) (l : Piece) (ps qs : List Piece) (last : List ℕ) → Reads d LineStart (xs ++ l ∷ ps) last →
    AreStood stood (past_gap (place_behind d LineStart xs) l.gap) → AreAlike p (place_behind d LineStart (xs ++ l ∷ [])) ps → HaveFreeGaps d stood p l.kind l.spelling ps qs → Reads d LineStart (xs ++ l ∷ qs) last
free_gaps d stood p xs l [] [] last h at alike free = h
free_gaps d stood p xs l [] (y ∷ qs) last h at alike free = absurd free
free_gaps d stood p xs l (x ∷ ps) [] last h at alike free = absurd free
free_gaps d stood p xs l (x ∷ ps) (y ∷ qs) last h at alike free =
    let same : IsSameItem x y = free.0 in
    let behind = place_behind d LineStart (xs ++ l ∷ []) in
    let next = past_item d (past_gap p x.gap) x.kind x.spelling in
    let one : Reads d LineStart (xs ++ l ∷ y ∷ ps) last = subst (λ z. Reads d LineStart (xs ++ l ∷ z ∷ ps) last) (piece_is x y same) (free_gap d stood p xs l x ps last y.gap h at alike free.1) in
    let there : Reads d LineStart ((xs ++ l ∷ []) ++ y ∷ ps) last = subst (λ z. Reads d LineStart z last) (sym (onward xs l (y ∷ ps))) one in
    let place_is : past_item d (past_gap behind y.gap) x.kind x.spelling ≡ place_behind d LineStart ((xs ++ l ∷ []) ++ y ∷ []) =
    item_same d (past_gap behind y.gap) x y same ∙ sym (behind_more d LineStart (xs ++ l ∷ []) (y ∷ [])) in
    let now : AreAlike next (place_behind d LineStart ((xs ++ l ∷ []) ++ y ∷ [])) ps = subst (λ z. AreAlike next z ps) place_is (step_alike d stood p behind l.kind l.spelling x ps y.gap alike free.1) in
    let rest : HaveFreeGaps d (past_gap p x.gap) next y.kind y.spelling ps qs = item_moved d (past_gap p x.gap) next x y ps qs same free.2 in
    subst (λ z. Reads d LineStart z last) (onward xs l (y ∷ qs)) (free_gaps d (past_gap p x.gap) next (xs ++ l ∷ []) y ps qs last there (stood_alike stood p behind l.kind l.spelling x ps y.gap alike free.1) now rest)

-- the place behind the first item, whatever gap is before it
first_alike : (d : Dialect) (p q : Piece) → IsSameItem p q → past_item d LineStart p.kind p.spelling ≡ past_item d (past_gap LineStart q.gap) q.kind q.spelling
first_alike d p q same = item_same d LineStart p q same ∙ ap (λ z. past_item d z q.kind q.spelling) (sym (first_place q.gap))

-- Free gaps and a last gap that may stand for the old one leave all items.
pub keeps_free_items : (d : Dialect) (ps qs : List Piece) (last end : List ℕ) → Reads d LineStart ps last → AreFree d ps qs → IsFitEnd ps last end → Reads d LineStart qs end
keeps_free_items d [] [] last end h free e = e.white
keeps_free_items d [] (q ∷ qs) last end h free e = absurd free
keeps_free_items d (p ∷ ps) [] last end h free e = absurd free
keeps_free_items d (p ∷ ps) (q ∷ qs) last end h free e =
    let same : IsSameItem p q = free.0 in
    let next = past_item d LineStart p.kind p.spelling in
    let stay : HaveFitGaps d next p.kind ps ps = stay_fit d (past_item d (past_gap LineStart p.gap) p.kind p.spelling) next p.kind ps last h.2 in
    let first = keeps_items_over_fit_gaps d (written (p ∷ ps) last) (p ∷ ps) (q ∷ ps) last end (record { whole = refl; reads = h }) (same, free.1, stay) e in
    let rest : HaveFreeGaps d LineStart next q.kind q.spelling ps qs = item_moved d LineStart next p q ps qs same free.2 in
    free_gaps d LineStart next [] q ps qs end first.reads (inl (sym (first_place q.gap))) (inl (first_alike d p q same)) rest

-- Parts

part_same : (place : Place) (g : List ℕ) (p q : Piece) → IsSameItem p q → part_of place g p.kind p.spelling ≡ part_of place g q.kind q.spelling
part_same place g p q same = ap (λ z. part_of place g z p.spelling) (sym same.kind) ∙ ap (λ z. part_of place g q.kind z) (sym same.spelling)

free_parts : (d : Dialect) (stood p q : Place) (left : ItemKind) (l : List ℕ) (ps qs : List Piece) → AreAlike p q ps → HaveFreeGaps d stood p left l ps qs → parts_of d p ps ≡ parts_of d q qs
free_parts d stood p q left l [] [] alike free = refl
free_parts d stood p q left l [] (y ∷ qs) alike free = absurd free
free_parts d stood p q left l (x ∷ ps) [] alike free = absurd free
free_parts d stood p q left l (x ∷ ps) (y ∷ qs) alike free =
    let same : IsSameItem x y = free.0 in
    let next = past_item d (past_gap p x.gap) x.kind x.spelling in
    let other = past_item d (past_gap q y.gap) y.kind y.spelling in
    let head : part_of (past_gap p x.gap) x.gap x.kind x.spelling ≡ part_of (past_gap q y.gap) y.gap y.kind y.spelling =
    step_part stood p q left l x ps y.gap alike free.1 ∙ part_same (past_gap q y.gap) y.gap x y same in
    let now : AreAlike next other ps = subst (λ z. AreAlike next z ps) (item_same d (past_gap q y.gap) x y same) (step_alike d stood p q left l x ps y.gap alike free.1) in
    ap (λ z. z ∷ parts_of d next ps) head ∙ ap (λ z. part_of (past_gap q y.gap) y.gap y.kind y.spelling ∷ z) (free_parts d (past_gap p x.gap) next other x.kind x.spelling ps qs now free.2)

-- The same items are of directives.
pub keeps_parts : (d : Dialect) (ps qs : List Piece) → AreFree d ps qs → parts_of d LineStart ps ≡ parts_of d LineStart qs
keeps_parts d [] [] free = refl
keeps_parts d [] (q ∷ qs) free = absurd free
keeps_parts d (p ∷ ps) [] free = absurd free
keeps_parts d (p ∷ ps) (q ∷ qs) free =
    let same : IsSameItem p q = free.0 in
    let next = past_item d LineStart p.kind p.spelling in
    let other = past_item d (past_gap LineStart q.gap) q.kind q.spelling in
    let head : part_of (past_gap LineStart p.gap) p.gap p.kind p.spelling ≡ part_of (past_gap LineStart q.gap) q.gap q.kind q.spelling =
    ap (λ z. part_of z p.gap p.kind p.spelling) (first_place p.gap) ∙ (part_same LineStart q.gap p q same ∙ ap (λ z. part_of z q.gap q.kind q.spelling) (sym (first_place q.gap))) in
    let old : past_item d (past_gap LineStart p.gap) p.kind p.spelling ≡ next = ap (λ z. past_item d z p.kind p.spelling) (first_place p.gap) in
    let tail : parts_of d (past_item d (past_gap LineStart p.gap) p.kind p.spelling) ps ≡ parts_of d other qs =
    ap (λ z. parts_of d z ps) old ∙ free_parts d LineStart next other p.kind p.spelling ps qs (inl (first_alike d p q same)) free.2 in
    ap (λ z. z ∷ parts_of d (past_item d (past_gap LineStart p.gap) p.kind p.spelling) ps) head ∙ ap (λ z. part_of (past_gap LineStart q.gap) q.gap q.kind q.spelling ∷ z) tail
