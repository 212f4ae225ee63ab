-- Gaps that may stand for the old ones leave all items.
use Rattle.std.proofs.Common.{◌≡◌, ◌||◌, not, ℕ, true, false, List, [], ◌∷◌, ◌++◌, refl, sym, ◌∙◌, ap, subst, inl, inr}
use Rattle.std.specs.Prelude.{if◌then◌else◌}
use Rattle.std.specs.List.{list_any}
use Rattle.std.proofs.lemmas.Bool.{cases_Bool, or_cases, both_ways, not-true}
use Rattle.c_chars.specs.declared.Dialect.{Dialect}
use Rattle.c_grammar.specs.Grammar.{is_new_line, is_same}
use Rattle.c_grammar.specs.Items.{Place, LineStart, past_gap, past_item, is_gap, IsNext, Piece, written, Reads}
use Rattle.c_grammar.specs.Touch.{starts, takes_line, regapped}
use Rattle.c_grammar.specs.Regapping.{IsSameItem}
use Rattle.c_grammar.specs.Fitting.{in_directive, place_behind, IsFitGap, HaveFitGaps, last_takes_line, KeepsItemsOverFitGaps}
use Rattle.c_grammar.proofs.Lists.{same_is}
use Rattle.c_grammar.proofs.Firsts.{starts_or_empty}
use Rattle.c_grammar.proofs.OtherGap.{other_gap, other_rest, like_gaps, gap_at}
use Rattle.c_grammar.proofs.AllGaps.{first_place, piece_is, other_first, gap_may_follow, onward}
use Rattle.c_grammar.proofs.LineGaps.{IsSameLine, line_rest}
use Rattle.c_grammar.proofs.Apart.{apart_gap}

-- behind an item that takes its line
line_gap : (d : Dialect) (place : Place) (xs : List Piece) (l r : Piece) (ys : List Piece) (last g : List ℕ) → Reads d place (xs ++ l ∷ r ∷ ys) last → is_gap g ≡ true →
    list_any is_new_line g ≡ list_any is_new_line r.gap → (starts is_new_line g || is_same g r.gap) ≡ true → Reads d place (xs ++ l ∷ regapped g r ∷ ys) last
line_gap d place xs l r ys last g h w lines first = elim (or_cases (starts is_new_line g) (is_same g r.gap) first) [
  | inl begins ↦
      line_rest d place xs l (r ∷ ys) (regapped g r ∷ ys) last last h
      (record { front = []; old_rest = r.gap ++ (r.spelling ++ written ys last); new_rest = g ++ (r.spelling ++ written ys last); old_is = refl; new_is = refl; stops = stops g begins (r.spelling ++ written ys last) })
      (λ behind k.
      let same : past_gap behind r.gap ≡ past_gap behind g = places behind in (
        w,
        subst (λ z. IsNext d z r.kind r.spelling (written ys last)) same k.1,
        subst (λ z. Reads d (past_item d z r.kind r.spelling) ys last) same k.2,
      ))
  | inr equal ↦
      let is : r.gap ≡ g = sym (same_is g r.gap equal) in
      subst (λ z. Reads d place (xs ++ l ∷ record { gap = z; kind = r.kind; spelling = r.spelling } ∷ ys) last) is h
]
  where
    stops : (g : List ℕ) → starts is_new_line g ≡ true → (rest : List ℕ) → starts_or_empty is_new_line (g ++ rest) ≡ true
    stops [] b rest = cc
    stops (c ∷ g) b rest = b

    places : (behind : Place) → past_gap behind r.gap ≡ past_gap behind g
    places behind = ap (λ b. if b then LineStart else behind) (sym lines)

not_empty : (g : List ℕ) (c : ℕ) (s : List ℕ) → g ≡ c ∷ s → g ≡ [] → ⊥
not_empty g c s e f = cc

-- one gap that may stand for the old one
fit_gap : (d : Dialect) (place : Place) (xs : List Piece) (l r : Piece) (ys : List Piece) (last g : List ℕ) → Reads d place (xs ++ l ∷ r ∷ ys) last →
    IsFitGap (place_behind d place (xs ++ l ∷ [])) l.kind r.gap g → Reads d place (xs ++ l ∷ regapped g r ∷ ys) last
fit_gap d place xs l r ys last g h fit = elim (cases_Bool (takes_line l.kind)) [
  | inl t ↦
      let line : (not true || (starts is_new_line g || is_same g r.gap)) ≡ true = subst (λ z. (not z || (starts is_new_line g || is_same g r.gap)) ≡ true) t fit.line in
      line_gap d place xs l r ys last g h fit.white fit.lines line
  | inr t ↦ by_gap g r.gap refl refl t
]
  where
    text : is_same r.gap [] ≡ true → is_same g [] ≡ false → in_directive (place_behind d place (xs ++ l ∷ [])) ≡ false
    text e n =
        let c : (not true || (false || not (in_directive (place_behind d place (xs ++ l ∷ []))))) ≡ true = subst (λ z. (not z || (false || not (in_directive (place_behind d place (xs ++ l ∷ []))))) ≡ true) e
        (subst (λ z. (not (is_same r.gap []) || (z || not (in_directive (place_behind d place (xs ++ l ∷ []))))) ≡ true) n fit.comes) in
        not-true _ c

    by_gap : (new old : List ℕ) → g ≡ new → r.gap ≡ old → takes_line l.kind ≡ false → Reads d place (xs ++ l ∷ regapped g r ∷ ys) last
    by_gap [] [] e f t = subst (λ z. Reads d place (xs ++ l ∷ record { gap = z; kind = r.kind; spelling = r.spelling } ∷ ys) last) (f ∙ sym e) h
    by_gap [] (x ∷ o) e f t =
        let s : (is_same (x ∷ o) [] || not (is_same [] [])) ≡ true = subst (λ z. (is_same z [] || not (is_same [] [])) ≡ true) f (subst (λ z. (is_same r.gap [] || not (is_same z [])) ≡ true) e fit.stays) in
        absurd (both_ways false refl s)
    by_gap (b ∷ new) [] e f t =
        apart_gap d place xs l r ys last g h fit.white (not_empty g b new e) fit.lines t (text (ap (λ z. is_same z []) f) (ap (λ z. is_same z []) e))
    by_gap (b ∷ new) (x ∷ o) e f t =
        other_gap d place xs l r ys last g h (like_gaps g r.gap fit.white (gap_at d place xs l r ys last h) (not_empty g b new e) (not_empty r.gap x o f) fit.lines) t

-- All gaps

behind_more : (d : Dialect) (place : Place) (xs ys : List Piece) → place_behind d place (xs ++ ys) ≡ place_behind d (place_behind d place xs) ys
behind_more d place [] ys = refl
behind_more d place (x ∷ xs) ys = behind_more d (past_item d (past_gap place x.gap) x.kind x.spelling) xs ys

pub fit_gaps : (d : Dialect) (place : Place) (xs : List Piece) (l : Piece) (ps qs : List Piece) (last : List ℕ) → Reads d place (xs ++ l ∷ ps) last →
    HaveFitGaps d (place_behind d place (xs ++ l ∷ [])) l.kind ps qs → Reads d place (xs ++ l ∷ qs) last
fit_gaps d place xs l [] [] last h fit = h
fit_gaps d place xs l [] (q ∷ qs) last h fit = absurd fit
fit_gaps d place xs l (p ∷ ps) [] last h fit = absurd fit
fit_gaps d place xs l (p ∷ ps) (q ∷ qs) last h fit =
    let same : IsSameItem p q = fit.0 in
    let behind = place_behind d place (xs ++ l ∷ []) in
    let one : Reads d place (xs ++ l ∷ q ∷ ps) last = subst (λ z. Reads d place (xs ++ l ∷ z ∷ ps) last) (piece_is p q same) (fit_gap d place xs l p ps last q.gap h fit.1) in
    let there : Reads d place ((xs ++ l ∷ []) ++ q ∷ ps) last = subst (λ z. Reads d place z last) (sym (onward xs l (q ∷ ps))) one in
    let gaps : past_gap behind p.gap ≡ past_gap behind q.gap = ap (λ b. if b then LineStart else behind) (sym fit.1.lines) in
    let k = same.kind in
    let s = same.spelling in
    let place_is : past_item d (past_gap behind p.gap) p.kind p.spelling ≡ place_behind d place ((xs ++ l ∷ []) ++ q ∷ []) = item_same behind gaps k s ∙ sym (behind_more d place (xs ++ l ∷ []) (q ∷ [])) in
    let rest : HaveFitGaps d (place_behind d place ((xs ++ l ∷ []) ++ q ∷ [])) q.kind ps qs =
    subst (λ z. HaveFitGaps d z q.kind ps qs) place_is (subst (λ z. HaveFitGaps d (past_item d (past_gap behind p.gap) p.kind p.spelling) z ps qs) (sym k) fit.2) in
    subst (λ z. Reads d place z last) (onward xs l (q ∷ qs)) (fit_gaps d place (xs ++ l ∷ []) q ps qs last there rest)
  where
    item_same : (behind : Place) → past_gap behind p.gap ≡ past_gap behind q.gap → q.kind ≡ p.kind → q.spelling ≡ p.spelling → past_item d (past_gap behind p.gap) p.kind p.spelling ≡ past_item d (past_gap behind q.gap) q.kind q.spelling
    item_same behind g k s = ap (λ z. past_item d z p.kind p.spelling) g ∙ (ap (λ z. past_item d (past_gap behind q.gap) z p.spelling) (sym k) ∙ ap (λ z. past_item d (past_gap behind q.gap) q.kind z) (sym s))

-- The last gap

fit_last : (d : Dialect) (place : Place) (xs : List Piece) (l : Piece) (ps : List Piece) (last end : List ℕ) → Reads d place (xs ++ l ∷ ps) last →
    is_gap end ≡ true → (not (last_takes_line (l ∷ ps)) || (is_same end [] || (starts is_new_line end || is_same end last))) ≡ true → Reads d place (xs ++ l ∷ ps) end
fit_last d place xs l (p ∷ ps) last end h w line =
    let there : Reads d place ((xs ++ l ∷ []) ++ p ∷ ps) last = subst (λ z. Reads d place z last) (sym (onward xs l (p ∷ ps))) h in
    subst (λ z. Reads d place z end) (onward xs l (p ∷ ps)) (fit_last d place (xs ++ l ∷ []) p ps last end there w line)
fit_last d place xs l [] last end h w line = elim (cases_Bool (takes_line l.kind)) [
  | inr t ↦ other_rest d place xs l [] [] last end h (gap_may_follow last end w) t (λ behind k. w)
  | inl t ↦
      let ends : (not true || (is_same end [] || (starts is_new_line end || is_same end last))) ≡ true = subst (λ z. (not z || (is_same end [] || (starts is_new_line end || is_same end last))) ≡ true) t line in
      elim (or_cases (is_same end []) (starts is_new_line end || is_same end last) ends) [
        | inl none ↦ with_line (record { front = []; old_rest = last; new_rest = end; old_is = refl; new_is = refl; stops = ap (starts_or_empty is_new_line) (same_is end [] none) })
        | inr o ↦ elim (or_cases (starts is_new_line end) (is_same end last) o) [
          | inl begins ↦ with_line (record { front = []; old_rest = last; new_rest = end; old_is = refl; new_is = refl; stops = stops end begins })
          | inr equal ↦ subst (λ z. Reads d place (xs ++ l ∷ []) z) (sym (same_is end last equal)) h
        ]
      ]
]
  where
    with_line : IsSameLine last end → Reads d place (xs ++ l ∷ []) end
    with_line same = line_rest d place xs l [] [] last end h same (λ behind k. w)

    stops : (g : List ℕ) → starts is_new_line g ≡ true → starts_or_empty is_new_line g ≡ true
    stops [] b = cc
    stops (c ∷ g) b = b

pub keeps_items_over_fit_gaps : KeepsItemsOverFitGaps
keeps_items_over_fit_gaps d text [] [] last end h fit e = record { whole = refl; reads = e.white }
keeps_items_over_fit_gaps d text [] (q ∷ qs) last end h fit e = absurd fit
keeps_items_over_fit_gaps d text (p ∷ ps) [] last end h fit e = absurd fit
keeps_items_over_fit_gaps d text (p ∷ ps) (q ∷ qs) last end h fit e =
    let same : IsSameItem p q = fit.0 in
    let k = same.kind in
    let s = same.spelling in
    let first = other_first d p q ps last h.reads same fit.1 in
    let line : (not (last_takes_line (q ∷ ps)) || (is_same end [] || (starts is_new_line end || is_same end last))) ≡ true =
    subst (λ z. (not z || (is_same end [] || (starts is_new_line end || is_same end last))) ≡ true) (last_kind p q ps k) e.line in
    let ended = fit_last d LineStart [] q ps last end first e.white line in
    let place_is : past_item d LineStart p.kind p.spelling ≡ past_item d (past_gap LineStart q.gap) q.kind q.spelling =
    ap (λ z. past_item d LineStart z p.spelling) (sym k) ∙ (ap (λ z. past_item d LineStart q.kind z) (sym s) ∙ ap (λ z. past_item d z q.kind q.spelling) (sym (first_place q.gap))) in
    let rest : HaveFitGaps d (past_item d (past_gap LineStart q.gap) q.kind q.spelling) q.kind ps qs =
    subst (λ z. HaveFitGaps d z q.kind ps qs) place_is (subst (λ z. HaveFitGaps d (past_item d LineStart p.kind p.spelling) z ps qs) (sym k) fit.2) in
    record { whole = refl; reads = fit_gaps d LineStart [] q ps qs end ended rest }
  where
    last_kind : (p q : Piece) (ps : List Piece) → q.kind ≡ p.kind → last_takes_line (p ∷ ps) ≡ last_takes_line (q ∷ ps)
    last_kind p q [] k = ap takes_line (sym k)
    last_kind p q (r ∷ ps) k = refl
