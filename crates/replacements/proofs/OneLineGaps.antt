-- White space comes and goes between two items of one line: all items stay.
use Rattle.std.proofs.Common.{◌≡◌, ◌||◌, ◌&&◌, not, ℕ, true, false, List, [], ◌∷◌, ◌++◌, refl, sym, ◌∙◌, ap, subst, inl, inr, ◌⊎◌, append_assoc}
use Rattle.std.specs.Prelude.{if◌then◌else◌}
use Rattle.std.specs.List.{list_any}
use Rattle.std.proofs.lemmas.Bool.{both_ways, false_from_ne_true}
use Rattle.c_chars.specs.declared.Dialect.{Dialect}
use Rattle.item_kinds.specs.declared.ItemKind.{ItemKind}
use Rattle.c_grammar.specs.Grammar.{is_new_line, is_same, Spells, Whole}
use Rattle.c_grammar.specs.Items.{IsLongest, Place, LineStart, AfterInclude, past_gap, past_item, is_gap, BeginsHeader, IsNext, Piece, written, Reads}
use Rattle.c_grammar.specs.Touch.{is_punct, takes_line, may_touch, regapped}
use Rattle.c_grammar.specs.Fitting.{place_behind}
use Rattle.c_grammar.proofs.Apart.{gap_starts}
use Rattle.c_grammar.proofs.Firsts.{Begins, begins, starts_or_empty, can_begin}
use Rattle.c_grammar.proofs.ItemBytes.{next_black}
use Rattle.c_grammar.proofs.Items.{item_at, item_begins, rest_is, something, keeps_items}
use Rattle.c_grammar.proofs.OtherGap.{no_blank_after, before_blank, other_gap, like_gaps, gap_at}
use Rattle.c_grammar.proofs.Seam.{item_begin}
use Rattle.c_grammar.proofs.Unique.{is_blank}
use Rattle.replacements.specs.OneLine.{would_name}
use Rattle.replacements.proofs.Headers.{IsShut, header_without, no_lone_quote, angle_is_punct}
use Rattle.replacements.proofs.Places.{IsLineGap, AreStood, stood_names}

-- the item before white space that comes between it and these characters
left_apart : (d : Dialect) (place : Place) (kind : ItemKind) (s t more g : List ℕ) (c : ℕ) (u : List ℕ) → t ≡ c ∷ u → IsNext d place kind s (t ++ more) → is_gap g ≡ true → (g ≡ [] → ⊥) → takes_line kind ≡ false → would_name place kind s t ≡ false →
    IsNext d place kind s (g ++ (t ++ more))
left_apart d place kind s t more g c u t_is (inl h) w some line name = inl h
left_apart d place kind s t more g c u t_is (inr h) w some line name = inr (no_header, longest)
  where
    start : Begins (can_begin d (Whole kind)) s
    start = begins d (Whole kind) s h.1.spells

    named : (f : ℕ) (S : List ℕ) → s ≡ f ∷ S → IsShut f S (t ++ more) → place ≡ AfterInclude → ⊥
    named f S is shut p = elim shut.ends [
      | inl e ↦
          let left : s ≡ 60 ∷ [] = is ∙ (ap (λ z. z ∷ S) e.0 ∙ ap (λ z. 60 ∷ z) shut.alone) in
          let all : c ∷ (u ++ more) ≡ shut.last ∷ shut.rest = ap (λ z. z ++ more) (sym t_is) ∙ shut.begins in
          let first : c ≡ shut.last = cc in
          let right : t ≡ 62 ∷ u = t_is ∙ ap (λ z. z ∷ u) (first ∙ e.1) in
          let angle : is_punct kind ≡ true = angle_is_punct d kind (subst (λ z. Spells d (Whole kind) z) left h.1.spells) in
          let no : would_name AfterInclude kind (60 ∷ []) (62 ∷ u) ≡ false = subst (λ z. would_name AfterInclude kind (60 ∷ []) z ≡ false) right (subst (λ z. would_name AfterInclude kind z t ≡ false) left (subst (λ z. would_name z kind s t ≡ false) p name)) in
          both_ways (would_name AfterInclude kind (60 ∷ []) (62 ∷ u)) no (ap (λ z. z && true) angle)
      | inr e ↦ no_lone_quote d kind line (subst (λ z. Spells d (Whole kind) z) (is ∙ (ap (λ z. z ∷ S) e.0 ∙ ap (λ z. 34 ∷ z) shut.alone)) h.1.spells)
    ]

    no_header : place ≡ AfterInclude → BeginsHeader (s ++ (g ++ (t ++ more))) → ⊥
    no_header p k = elim (header_without start.c start.rest (t ++ more) g w (subst (λ z. BeginsHeader (z ++ (g ++ (t ++ more)))) start.whole k)) [
      | inl b ↦ h.0 p (subst (λ z. BeginsHeader (z ++ (t ++ more))) (sym start.whole) b)
      | inr shut ↦ named start.c start.rest start.whole shut p
    ]

    longest : IsLongest d (Whole kind) s (g ++ (t ++ more))
    longest = record {
      spells = h.1.spells;
      longest = λ k c more' left cut q. no_blank_after d kind k s c more' h.1.spells line (subst (λ z. starts_or_empty is_blank z ≡ true) cut (gap_starts g (t ++ more) w some)) q;
    }

-- what stands behind the white space that comes
behind_gap : (d : Dialect) (place : Place) (r : Piece) (ys : List Piece) (last g : List ℕ) → Reads d place (r ∷ ys) last → is_gap g ≡ true → list_any is_new_line g ≡ list_any is_new_line r.gap → Reads d place (regapped g r ∷ ys) last
behind_gap d place r ys last g h w lines =
    let same : past_gap place r.gap ≡ past_gap place g = ap (λ b. if b then LineStart else place) (sym lines) in (
      w,
      subst (λ z. IsNext d z r.kind r.spelling (written ys last)) same h.1,
      subst (λ z. Reads d (past_item d z r.kind r.spelling) ys last) same h.2,
    )

-- white space comes where nothing stood
opened : (d : Dialect) (place : Place) (xs : List Piece) (l r : Piece) (ys : List Piece) (last g : List ℕ) → Reads d place (xs ++ l ∷ r ∷ ys) last → is_gap g ≡ true → (g ≡ [] → ⊥) → list_any is_new_line g ≡ false → r.gap ≡ [] →
    takes_line l.kind ≡ false → would_name (past_gap (place_behind d place xs) l.gap) l.kind l.spelling r.spelling ≡ false → Reads d place (xs ++ l ∷ regapped g r ∷ ys) last
opened d place [] l r ys last g h w some n none t name =
    let here = past_gap place l.gap in
    let behind = past_item d here l.kind l.spelling in
    let black = next_black d (past_gap behind r.gap) r.kind r.spelling (written ys last) h.2.1 in
    let next : IsNext d here l.kind l.spelling (r.spelling ++ written ys last) = subst (λ z. IsNext d here l.kind l.spelling (z ++ (r.spelling ++ written ys last))) none h.1 in (
      h.0,
      left_apart d here l.kind l.spelling r.spelling (written ys last) g black.0 black.1 black.2 next w some t name,
      behind_gap d behind r ys last g h.2 w (n ∙ ap (list_any is_new_line) (sym none)),
    )
opened d place (x ∷ xs) l r ys last g h w some n none t name = (
  h.0,
  before_blank d here x.kind x.spelling xs l (r ∷ ys) (regapped g r ∷ ys) last last h.1 h.2 (gap_starts g (r.spelling ++ written ys last) w some) no_header t,
  opened d (past_item d here x.kind x.spelling) xs l r ys last g h.2 w some n none t name,
)
  where
    here : Place
    here = past_gap place x.gap

    A : List ℕ
    A = written (xs ++ l ∷ []) []

    Z : List ℕ
    Z = r.spelling ++ written ys last

    old : written (xs ++ l ∷ r ∷ ys) last ≡ A ++ Z
    old = rest_is xs l (r ∷ ys) last ∙ ap (λ z. A ++ (z ++ Z)) none

    new : written (xs ++ l ∷ regapped g r ∷ ys) last ≡ A ++ (g ++ Z)
    new = rest_is xs l (regapped g r ∷ ys) last

    left_there : Begins (item_begin d l.kind) l.spelling
    left_there = item_begins d l.kind l.spelling (item_at d (past_item d here x.kind x.spelling) xs l (r ∷ ys) last h.2)

    more : (e : ℕ) × (a : List ℕ) × (A ≡ e ∷ a)
    more = something xs l left_there.c left_there.rest left_there.whole

    not_alone : (S : List ℕ) → S ++ A ≡ [] → ⊥
    not_alone [] e = let there = more.2 in cc
    not_alone (c ∷ S) e = cc

    no_header : here ≡ AfterInclude → (BeginsHeader (x.spelling ++ written (xs ++ l ∷ r ∷ ys) last) → ⊥) → BeginsHeader (x.spelling ++ written (xs ++ l ∷ regapped g r ∷ ys) last) → ⊥
    no_header p none_old k = by x.spelling refl
      where
        by : (s : List ℕ) → x.spelling ≡ s → ⊥
        by [] is =
            let black = next_black d here x.kind x.spelling (written (xs ++ l ∷ r ∷ ys) last) h.1 in
            let e : [] ≡ black.0 ∷ black.1 = sym is ∙ black.2 in cc
        by (f ∷ S) is =
            let there : BeginsHeader ((f ∷ (S ++ A)) ++ (g ++ Z)) = subst (λ z. BeginsHeader z) (ap (λ z. z ++ written (xs ++ l ∷ regapped g r ∷ ys) last) is ∙ (ap (λ z. (f ∷ S) ++ z) new ∙ sym (append_assoc (f ∷ S) A (g ++ Z)))) k in
            elim (header_without f (S ++ A) Z g w there) [
              | inl b ↦ none_old (subst (λ z. BeginsHeader z) (append_assoc (f ∷ S) A Z ∙ (ap (λ z. (f ∷ S) ++ z) (sym old) ∙ ap (λ z. z ++ written (xs ++ l ∷ r ∷ ys) last) (sym is))) b)
              | inr shut ↦ not_alone S shut.alone
            ]

not_empty : (g : List ℕ) (c : ℕ) (s : List ℕ) → g ≡ c ∷ s → g ≡ [] → ⊥
not_empty g c s e f = cc

-- one gap of a line
pub line_gap : (d : Dialect) (stood p : Place) (xs : List Piece) (l x : Piece) (ps : List Piece) (last g : List ℕ) → Reads d LineStart (xs ++ l ∷ x ∷ ps) last →
    AreStood stood (past_gap (place_behind d LineStart xs) l.gap) → IsLineGap stood p l.kind l.spelling x g → Reads d LineStart (xs ++ l ∷ regapped g x ∷ ps) last
line_gap d stood p xs l x ps last g h at line = by g x.gap refl refl
  where
    closed : is_same x.gap [] ≡ false → is_same g [] ≡ true → (may_touch l.kind l.spelling x.kind x.spelling ≡ true) ⊎ ((is_same x.gap [] || not (is_same g [])) ≡ true) → may_touch l.kind l.spelling x.kind x.spelling ≡ true
    closed some none (inl touch) = touch
    closed some none (inr kept) = let no : (is_same x.gap [] || not (is_same g [])) ≡ false = rw (some, none) refl in absurd (both_ways (is_same x.gap [] || not (is_same g [])) no kept)

    names : is_same g [] ≡ false → would_name stood l.kind l.spelling x.spelling ≡ false
    names some = false_from_ne_true (would_name stood l.kind l.spelling x.spelling) (λ y. both_ways (is_same g []) some (line.names y))

    by : (new old : List ℕ) → g ≡ new → x.gap ≡ old → Reads d LineStart (xs ++ l ∷ regapped g x ∷ ps) last
    by [] [] e f = subst (λ z. Reads d LineStart (xs ++ l ∷ record { gap = z; kind = x.kind; spelling = x.spelling } ∷ ps) last) (f ∙ sym e) h
    by [] (o ∷ old) e f =
        let touch = closed (ap (λ z. is_same z []) f) (ap (λ z. is_same z []) e) line.apart in
        subst (λ z. Reads d LineStart (xs ++ l ∷ regapped z x ∷ ps) last) (sym e) (keeps_items d (written (xs ++ l ∷ x ∷ ps) last) xs ps l x last (record { whole = refl; reads = h }) touch line.one_line).reads
    by (b ∷ new) (o ∷ old) e f =
        other_gap d LineStart xs l x ps last g h (like_gaps g x.gap line.white (gap_at d LineStart xs l x ps last h) (not_empty g b new e) (not_empty x.gap o old f) (line.no_line ∙ sym line.one_line)) line.goes_on
    by (b ∷ new) [] e f =
        opened d LineStart xs l x ps last g h line.white (not_empty g b new e) line.no_line f line.goes_on
        (stood_names stood (past_gap (place_behind d LineStart xs) l.gap) l.kind l.spelling x.spelling at (names (ap (λ z. is_same z []) e)))
