-- White space between two items with nothing between them leaves the items of a text.
use Rattle.std.proofs.Common.{◌≡◌, ℕ, Bool, true, false, List, [], ◌∷◌, ◌++◌, refl, sym, ◌∙◌, ap, subst, inl, inr, append_assoc}
use Rattle.std.specs.Prelude.{if◌then◌else◌, codes}
use Rattle.std.specs.List.{list_any}
use Rattle.std.proofs.lemmas.Bool.{cases_Bool, or_parts, or_right, both_ways, and_parts}
use Rattle.c_chars.specs.declared.Dialect.{Dialect}
use Rattle.item_kinds.specs.declared.ItemKind.{ItemKind}
use Rattle.item_kinds.specs.declared.ItemKind.TheVariants.{Identifier, BlockComment}
use Rattle.c_grammar.specs.Grammar.{is_new_line, is_same, Whole}
use Rattle.c_grammar.specs.Items.{IsLongest, Place, LineStart, AfterHash, AfterInclude, AfterDefine, AfterMacroName, InDirective, InText, past_gap, past_item, past_name, is_include, is_gap, BeginsHeader, IsNext, Piece, written, Reads}
use Rattle.c_grammar.specs.Touch.{takes_line, regapped}
use Rattle.c_grammar.specs.Fitting.{in_directive, place_behind, KeepsItemsApart}
use Rattle.c_grammar.proofs.Firsts.{starts_or_empty}
use Rattle.c_grammar.proofs.Unique.{is_blank}
use Rattle.c_grammar.proofs.Items.{rest_is, same_place}
use Rattle.c_grammar.proofs.OtherGap.{no_blank_after, before_blank}
use Rattle.c_grammar.proofs.LineGaps.{header_within}

-- A directive goes on to the next new-line.

name_in_directive : (d : Dialect) (s : List ℕ) → in_directive (past_name d s) ≡ true
name_in_directive d s = elim (cases_Bool (is_include d s)) [
  | inl y ↦ rw y refl
  | inr n ↦ elim (cases_Bool (is_same s (codes "define"))) [ inl y ↦ rw (n, y) refl | inr m ↦ rw (n, m) refl ]
]

pub item_in_directive : (d : Dialect) (place : Place) (kind : ItemKind) (s : List ℕ) → in_directive place ≡ true → in_directive (past_item d place kind s) ≡ true
item_in_directive d LineStart kind s h = cc
item_in_directive d InText kind s h = cc
item_in_directive d AfterHash Identifier s h = name_in_directive d s
item_in_directive d AfterInclude BlockComment s h = refl
item_in_directive d AfterDefine BlockComment s h = refl
item_in_directive d AfterMacroName BlockComment s h = refl
item_in_directive d InDirective BlockComment s h = refl
item_in_directive d place kind s h = refl

none_parts : (p : ℕ → Bool) (a b : List ℕ) → list_any p (a ++ b) ≡ false → (list_any p a ≡ false) × (list_any p b ≡ false)
none_parts p [] b h = (refl, h)
none_parts p (c ∷ a) b h =
    let parts = or_parts (p c) (list_any p (a ++ b)) h in
    let rest = none_parts p a b parts.1 in
    let first = parts.0 in
    (rw first rest.0, rest.1)

directive_stays : (d : Dialect) (place : Place) (xs : List Piece) → in_directive place ≡ true → list_any is_new_line (written xs []) ≡ false → in_directive (place_behind d place xs) ≡ true
directive_stays d place [] h n = h
directive_stays d place (x ∷ xs) h n =
    let parts = none_parts is_new_line x.gap (x.spelling ++ written xs []) n in
    let rest = none_parts is_new_line x.spelling (written xs []) parts.1 in
    let here : in_directive (past_gap place x.gap) ≡ true = ap in_directive (same_place place x.gap parts.0) ∙ h in
    directive_stays d (past_item d (past_gap place x.gap) x.kind x.spelling) xs (item_in_directive d (past_gap place x.gap) x.kind x.spelling here) rest.1

-- the item directly before, where what comes begins with a blank
left_blank : (d : Dialect) (place : Place) (kind : ItemKind) (s old new : List ℕ) → IsNext d place kind s old → starts_or_empty is_blank new ≡ true → (place ≡ AfterInclude → ⊥) → takes_line kind ≡ false → IsNext d place kind s new
left_blank d place kind s old new (inl h) blank none t = absurd (none h.0)
left_blank d place kind s old new (inr h) blank none t = inr (λ p k. none p, longest)
  where
    longest : IsLongest d (Whole kind) s new
    longest = record { spells = h.1.spells; longest = λ k c more left cut q. no_blank_after d kind k s c more h.1.spells t (subst (λ z. starts_or_empty is_blank z ≡ true) cut blank) q }

-- The items up to l stay where what comes behind it begins with a blank and l stands in a text.
pub apart_rest : (d : Dialect) (place : Place) (xs : List Piece) (l : Piece) (ns ms : List Piece) (last end : List ℕ) → Reads d place (xs ++ l ∷ ns) last → starts_or_empty is_blank (written ms end) ≡ true → takes_line l.kind ≡ false →
    in_directive (place_behind d place (xs ++ l ∷ [])) ≡ false → (Reads d (place_behind d place (xs ++ l ∷ [])) ns last → Reads d (place_behind d place (xs ++ l ∷ [])) ms end) → Reads d place (xs ++ l ∷ ms) end
apart_rest d place [] l ns ms last end h blank t text rest = (h.0, left_blank d (past_gap place l.gap) l.kind l.spelling (written ns last) (written ms end) h.1 blank no_include t, rest h.2)
  where
    no_include : past_gap place l.gap ≡ AfterInclude → ⊥
    no_include p = both_ways (in_directive (past_item d (past_gap place l.gap) l.kind l.spelling)) text (item_in_directive d (past_gap place l.gap) l.kind l.spelling (ap in_directive p))
apart_rest d place (x ∷ xs) l ns ms last end h blank t text rest =
    (h.0, before_blank d here x.kind x.spelling xs l ns ms last end h.1 h.2 blank no_header t, apart_rest d (past_item d here x.kind x.spelling) xs l ns ms last end h.2 blank t text rest)
  where
    here : Place
    here = past_gap place x.gap

    A : List ℕ
    A = written (xs ++ l ∷ []) []

    line : here ≡ AfterInclude → list_any is_new_line A ≡ true
    line p = elim (cases_Bool (list_any is_new_line A)) [
      | inl y ↦ y
      | inr n ↦ absurd (both_ways (in_directive (place_behind d (past_item d here x.kind x.spelling) (xs ++ l ∷ []))) text
          (directive_stays d (past_item d here x.kind x.spelling) (xs ++ l ∷ []) (item_in_directive d here x.kind x.spelling (ap in_directive p)) n))
    ]

    any_behind : (a b : List ℕ) → list_any is_new_line b ≡ true → list_any is_new_line (a ++ b) ≡ true
    any_behind [] b h = h
    any_behind (c ∷ a) b h = or_right (is_new_line c) (list_any is_new_line (a ++ b)) (any_behind a b h)

    no_header : here ≡ AfterInclude → (BeginsHeader (x.spelling ++ written (xs ++ l ∷ ns) last) → ⊥) → BeginsHeader (x.spelling ++ written (xs ++ l ∷ ms) end) → ⊥
    no_header p none k =
        let there : BeginsHeader ((x.spelling ++ A) ++ written ms end) = subst (λ z. BeginsHeader z) (ap (λ z. x.spelling ++ z) (rest_is xs l ms end) ∙ sym (append_assoc x.spelling A (written ms end))) k in
        let over = header_within (x.spelling ++ A) (written ms end) (written ns last) (any_behind x.spelling A (line p)) there in
        none (subst (λ z. BeginsHeader z) (append_assoc x.spelling A (written ns last) ∙ ap (λ z. x.spelling ++ z) (sym (rest_is xs l ns last))) over)

pub gap_starts : (g rest : List ℕ) → is_gap g ≡ true → (g ≡ [] → ⊥) → starts_or_empty is_blank (g ++ rest) ≡ true
gap_starts [] rest w n = absurd (n refl)
gap_starts (c ∷ g) rest w n = (and_parts (is_blank c) (is_gap g) w).0

-- one gap that comes
pub apart_gap : (d : Dialect) (place : Place) (xs : List Piece) (l r : Piece) (ys : List Piece) (last g : List ℕ) → Reads d place (xs ++ l ∷ r ∷ ys) last → is_gap g ≡ true → (g ≡ [] → ⊥) →
    list_any is_new_line g ≡ list_any is_new_line r.gap → takes_line l.kind ≡ false → in_directive (place_behind d place (xs ++ l ∷ [])) ≡ false → Reads d place (xs ++ l ∷ regapped g r ∷ ys) last
apart_gap d place xs l r ys last g h w some lines t text =
    let behind = place_behind d place (xs ++ l ∷ []) in
    let same : past_gap behind r.gap ≡ past_gap behind g = ap (λ b. if b then LineStart else behind) (sym lines) in
    apart_rest d place xs l (r ∷ ys) (regapped g r ∷ ys) last last h (gap_starts g (r.spelling ++ written ys last) w some) t text
    (λ k. (
      w,
      subst (λ z. IsNext d z r.kind r.spelling (written ys last)) same k.1,
      subst (λ z. Reads d (past_item d z r.kind r.spelling) ys last) same k.2,
    ))

pub keeps_items_apart : KeepsItemsApart
keeps_items_apart d text before after l r last [] h e w n t p =
    let same : l ∷ r ∷ after ≡ l ∷ regapped [] r ∷ after = ap (λ z. l ∷ record { gap = z; kind = r.kind; spelling = r.spelling } ∷ after) e in
    record { whole = refl; reads = subst (λ z. Reads d LineStart (before ++ z) last) same h.reads }
keeps_items_apart d text before after l r last (c ∷ g) h e w n t p =
    let lines : list_any is_new_line (c ∷ g) ≡ list_any is_new_line r.gap = n ∙ ap (list_any is_new_line) (sym e) in
    record { whole = refl; reads = apart_gap d LineStart before l r after last (c ∷ g) h.reads w (λ z. cc) lines t p }
