-- The places of a text, before and behind a change of lines.
use Rattle.std.proofs.Common.{◌≡◌, ◌||◌, ◌&&◌, not, ℕ, Bool, true, false, List, [], ◌∷◌, refl, sym, ◌∙◌, ap, subst, inl, inr, ◌⊎◌}
use Rattle.std.specs.Prelude.{codes, if◌then◌else◌}
use Rattle.std.specs.List.{list_any}
use Rattle.std.proofs.lemmas.Bool.{cases_Bool, and_parts, and_right, or_cases, not-true}
use Rattle.c_chars.specs.declared.Dialect.{Dialect}
use Rattle.item_kinds.specs.declared.ItemKind.{ItemKind}
use Rattle.item_kinds.specs.declared.ItemKind.TheVariants.{Identifier, Punct, BlockComment, LineComment}
use Rattle.c_grammar.specs.Grammar.{is_new_line, is_same}
use Rattle.c_grammar.specs.Items.{Place, LineStart, AfterHash, AfterInclude, AfterDefine, AfterMacroName, InDirective, InText, past_gap, past_item, is_gap, is_hash, Piece}
use Rattle.c_grammar.specs.Touch.{is_punct, takes_line, may_touch}
use Rattle.c_grammar.specs.Twin.{OfText, part_of}
use Rattle.c_grammar.specs.Fitting.{in_directive, is_comment, no_hash_comes, IsFitGap}
use Rattle.c_grammar.proofs.Items.{same_place}
use Rattle.replacements.specs.FreeGaps.{MayBreak, IsTextGap}
use Rattle.replacements.specs.OneLine.{would_name}

-- In a text

-- an item of a text that is no comment
text_item : (d : Dialect) (p : Place) (kind : ItemKind) (s : List ℕ) → in_directive p ≡ false → (is_punct kind && is_hash s) ≡ false → is_comment kind ≡ false → past_item d p kind s ≡ InText
text_item d AfterHash kind s a h c = cc
text_item d AfterInclude kind s a h c = cc
text_item d AfterDefine kind s a h c = cc
text_item d AfterMacroName kind s a h c = cc
text_item d InDirective kind s a h c = cc
text_item d LineStart BlockComment s a h c = cc
text_item d LineStart LineComment s a h c = cc
text_item d LineStart Punct s a h c = rw h refl
text_item d LineStart Identifier s a h c = refl
text_item d LineStart kind s a h c = refl
text_item d InText BlockComment s a h c = cc
text_item d InText LineComment s a h c = cc
text_item d InText kind s a h c = refl

text_comment : (d : Dialect) (p : Place) (kind : ItemKind) (s : List ℕ) → in_directive p ≡ false → is_comment kind ≡ true → past_item d p kind s ≡ p
text_comment d AfterHash kind s a c = cc
text_comment d AfterInclude kind s a c = cc
text_comment d AfterDefine kind s a c = cc
text_comment d AfterMacroName kind s a c = cc
text_comment d InDirective kind s a c = cc
text_comment d LineStart BlockComment s a c = refl
text_comment d LineStart LineComment s a c = refl
text_comment d LineStart kind s a c = cc
text_comment d InText BlockComment s a c = refl
text_comment d InText LineComment s a c = refl
text_comment d InText kind s a c = cc

gap_in_text : (p : Place) (g : List ℕ) → in_directive p ≡ false → in_directive (past_gap p g) ≡ false
gap_in_text p g a = elim (cases_Bool (list_any is_new_line g)) [ inl y ↦ rw y refl | inr n ↦ rw n a ]

text_part : (p : Place) (g s : List ℕ) (kind : ItemKind) → in_directive p ≡ false → (is_punct kind && is_hash s) ≡ false → part_of p g kind s ≡ OfText
text_part AfterHash g s kind a h = cc
text_part AfterInclude g s kind a h = cc
text_part AfterDefine g s kind a h = cc
text_part AfterMacroName g s kind a h = cc
text_part InDirective g s kind a h = cc
text_part LineStart g s kind a h = rw h refl
text_part InText g s kind a h = refl

-- Pieces

-- directly behind a macro's name the item would open its parameters
abbrev pub opens_parameters : Place → Piece → Bool
opens_parameters AfterMacroName p = is_punct p.kind && is_same p.spelling (codes "(")
opens_parameters place p = false

-- No gap before an item, where a line may go on and it may touch the left one, of this kind and spelling.
pub record IsClosed (place : Place) (kind : ItemKind) (s : List ℕ) (item : Piece) (after : List Piece) (new : List ℕ) : Type 0 where
  pub none : is_same new [] ≡ true
  pub touch : may_touch kind s item.kind item.spelling ≡ true
  pub breaks : MayBreak place kind item after

-- A gap before an item of the same line, where the left one of this kind and spelling stands at the first place.
pub record IsLineGap (stood place : Place) (kind : ItemKind) (s : List ℕ) (item : Piece) (new : List ℕ) : Type 0 where
  pub one_line : list_any is_new_line item.gap ≡ false
  pub goes_on : takes_line kind ≡ false
  pub white : is_gap new ≡ true
  pub no_line : list_any is_new_line new ≡ false
  pub apart : (may_touch kind s item.kind item.spelling ≡ true) ⊎ ((is_same item.gap [] || not (is_same new [])) ≡ true)
  pub opens : opens_parameters place item ≡ true → is_same new [] ≡ is_same item.gap []
  pub names : would_name stood kind s item.spelling ≡ true → is_same new [] ≡ true

-- a gap that may stand for the old one, one of a text, none, or one of a line
abbrev pub IsFreeGap : Place → Place → ItemKind → List ℕ → Piece → List Piece → List ℕ → Type 0
IsFreeGap stood place kind s item after new = IsFitGap place kind item.gap new ⊎ (IsTextGap place kind item after new ⊎ (IsClosed place kind s item after new ⊎ IsLineGap stood place kind s item new))

-- Alike

-- Both places stand in a text, and no `#` comes, comments aside.
pub record AreInText (p q : Place) (ps : List Piece) : Type 0 where
  pub first : in_directive p ≡ false
  pub second : in_directive q ≡ false
  pub no_hash : no_hash_comes ps ≡ true

-- Before these pieces the two places are one to a directive.
abbrev pub AreAlike : Place → Place → List Piece → Type 0
AreAlike p q ps = (p ≡ q) ⊎ AreInText p q ps

pub alike_text : (p q : Place) (ps : List Piece) → AreAlike p q ps → in_directive p ≡ in_directive q
alike_text p q ps (inl e) = ap in_directive e
alike_text p q ps (inr t) = t.first ∙ sym t.second

-- What stands next in a text is no `#`, and behind a comment none comes.
abbrev no_hash_next : Piece → List Piece → Type 0
no_hash_next x ps = (not (is_punct x.kind && is_hash x.spelling) && (not (is_comment x.kind) || no_hash_comes ps)) ≡ true

-- with no new-line before it
next_of : (x : Piece) (ps : List Piece) → list_any is_new_line x.gap ≡ false → no_hash_comes (x ∷ ps) ≡ true → no_hash_next x ps
next_of x ps none n = subst (λ z. (z || (not (is_punct x.kind && is_hash x.spelling) && (not (is_comment x.kind) || no_hash_comes ps))) ≡ true) none n

item_alike : (d : Dialect) (p q : Place) (x : Piece) (ps : List Piece) → in_directive p ≡ false → in_directive q ≡ false → no_hash_next x ps →
    AreAlike (past_item d p x.kind x.spelling) (past_item d q x.kind x.spelling) ps
item_alike d p q x ps a b n =
    let parts = and_parts (not (is_punct x.kind && is_hash x.spelling)) (not (is_comment x.kind) || no_hash_comes ps) n in
    let hash : (is_punct x.kind && is_hash x.spelling) ≡ false = not-true (is_punct x.kind && is_hash x.spelling) parts.0 in
    elim (cases_Bool (is_comment x.kind)) [
      | inr c ↦ inl (text_item d p x.kind x.spelling a hash c ∙ sym (text_item d q x.kind x.spelling b hash c))
      | inl c ↦
          let more : (not true || no_hash_comes ps) ≡ true = subst (λ z. (not z || no_hash_comes ps) ≡ true) c parts.1 in
          inr (record {
            first = ap in_directive (text_comment d p x.kind x.spelling a c) ∙ a;
            second = ap in_directive (text_comment d q x.kind x.spelling b c) ∙ b;
            no_hash = more;
          })
    ]

fit_places : (p q : Place) (left : ItemKind) (o g : List ℕ) → IsFitGap p left o g → p ≡ q → past_gap p o ≡ past_gap q g
fit_places p q left o g fit e = ap (λ b. if b then LineStart else p) (sym fit.lines) ∙ ap (λ z. past_gap z g) e

-- where a line may end or go on
break_alike : (d : Dialect) (p q : Place) (left : ItemKind) (x : Piece) (ps : List Piece) (g : List ℕ) → AreAlike p q (x ∷ ps) → MayBreak p left x ps → AreAlike (past_item d (past_gap p x.gap) x.kind x.spelling) (past_item d (past_gap q g) x.kind x.spelling) ps
break_alike d p q left x ps g alike b =
    let second : in_directive q ≡ false = sym (alike_text p q (x ∷ ps) alike) ∙ b.in_text in
    item_alike d (past_gap p x.gap) (past_gap q g) x ps (gap_in_text p x.gap b.in_text) (gap_in_text q g second) b.no_hash

-- in one line
line_alike : (d : Dialect) (p q : Place) (x : Piece) (ps : List Piece) → AreAlike p q (x ∷ ps) → list_any is_new_line x.gap ≡ false → AreAlike (past_item d (past_gap p x.gap) x.kind x.spelling) (past_item d q x.kind x.spelling) ps
line_alike d p q x ps (inl e) n = inl (ap (λ z. past_item d z x.kind x.spelling) (same_place p x.gap n ∙ e))
line_alike d p q x ps (inr t) n = item_alike d (past_gap p x.gap) q x ps (gap_in_text p x.gap t.first) t.second (next_of x ps n t.no_hash)

-- behind a free gap and its item
pub step_alike : (d : Dialect) (stood p q : Place) (left : ItemKind) (l : List ℕ) (x : Piece) (ps : List Piece) (g : List ℕ) → AreAlike p q (x ∷ ps) → IsFreeGap stood p left l x ps g →
    AreAlike (past_item d (past_gap p x.gap) x.kind x.spelling) (past_item d (past_gap q g) x.kind x.spelling) ps
step_alike d stood p q left l x ps g (inl e) (inl fit) = inl (ap (λ z. past_item d z x.kind x.spelling) (fit_places p q left x.gap g fit e))
step_alike d stood p q left l x ps g (inr t) (inl fit) = elim (cases_Bool (list_any is_new_line x.gap)) [
  | inl y ↦
      let new : list_any is_new_line g ≡ true = fit.lines ∙ y in
      let same : past_gap p x.gap ≡ past_gap q g = rw (y, new) refl in
      inl (ap (λ z. past_item d z x.kind x.spelling) same)
  | inr n ↦ item_alike d (past_gap p x.gap) (past_gap q g) x ps (gap_in_text p x.gap t.first) (gap_in_text q g t.second) (next_of x ps n t.no_hash)
]
step_alike d stood p q left l x ps g alike (inr (inl free)) = break_alike d p q left x ps g alike free.breaks
step_alike d stood p q left l x ps g alike (inr (inr (inl closed))) = break_alike d p q left x ps g alike closed.breaks
step_alike d stood p q left l x ps g alike (inr (inr (inr line))) =
    subst (λ z. AreAlike (past_item d (past_gap p x.gap) x.kind x.spelling) (past_item d z x.kind x.spelling) ps) (sym (same_place q g line.no_line)) (line_alike d p q x ps alike line.one_line)

-- Where an item stands: the two places are one, or in no directive.
abbrev pub AreStood : Place → Place → Type 0
AreStood p q = (p ≡ q) ⊎ ((in_directive p ≡ false) × (in_directive q ≡ false))

-- behind a free gap
pub stood_alike : (stood p q : Place) (left : ItemKind) (l : List ℕ) (x : Piece) (ps : List Piece) (g : List ℕ) → AreAlike p q (x ∷ ps) → IsFreeGap stood p left l x ps g → AreStood (past_gap p x.gap) (past_gap q g)
stood_alike stood p q left l x ps g (inr t) free = inr (gap_in_text p x.gap t.first, gap_in_text q g t.second)
stood_alike stood p q left l x ps g (inl e) (inl fit) = inl (fit_places p q left x.gap g fit e)
stood_alike stood p q left l x ps g (inl e) (inr (inl free)) = inr (gap_in_text p x.gap free.breaks.in_text, gap_in_text q g (ap in_directive (sym e) ∙ free.breaks.in_text))
stood_alike stood p q left l x ps g (inl e) (inr (inr (inl closed))) = inr (gap_in_text p x.gap closed.breaks.in_text, gap_in_text q g (ap in_directive (sym e) ∙ closed.breaks.in_text))
stood_alike stood p q left l x ps g (inl e) (inr (inr (inr line))) = inl (same_place p x.gap line.one_line ∙ (e ∙ sym (same_place q g line.no_line)))

-- a header name would come at both places or at none
pub stood_names : (p q : Place) (kind : ItemKind) (l r : List ℕ) → AreStood p q → would_name p kind l r ≡ false → would_name q kind l r ≡ false
stood_names p q kind l r (inl e) n = ap (λ z. would_name z kind l r) (sym e) ∙ n
stood_names p LineStart kind l r (inr t) n = refl
stood_names p AfterHash kind l r (inr t) n = refl
stood_names p AfterInclude kind l r (inr t) n = let u = t.1 in cc
stood_names p AfterDefine kind l r (inr t) n = refl
stood_names p AfterMacroName kind l r (inr t) n = refl
stood_names p InDirective kind l r (inr t) n = refl
stood_names p InText kind l r (inr t) n = refl

-- Parts

-- the part of an item behind a gap that may stand for the old one
fit_part : (place : Place) (left kind : ItemKind) (o g s : List ℕ) → IsFitGap place left o g → part_of (past_gap place o) o kind s ≡ part_of (past_gap place g) g kind s
fit_part place left kind o g s fit = ap (λ b. part_of (if b then LineStart else place) o kind s) (sym fit.lines) ∙ by_line (list_any is_new_line g)
  where
    same_empty : in_directive place ≡ true → is_same o [] ≡ is_same g []
    same_empty p = elim (cases_Bool (is_same o [])) [
      | inl e ↦
          let c : (not true || (is_same g [] || not true)) ≡ true = subst (λ z. (not true || (is_same g [] || not z)) ≡ true) p (subst (λ z. (not z || (is_same g [] || not (in_directive place))) ≡ true) e fit.comes) in
          elim (or_cases (is_same g []) false c) [ inl y ↦ e ∙ sym y | inr f ↦ cc ]
      | inr e ↦
          let c : (false || not (is_same g [])) ≡ true = subst (λ z. (z || not (is_same g [])) ≡ true) e fit.stays in
          e ∙ sym (not-true (is_same g []) c)
    ]

    at_place : (p : Place) → (in_directive p ≡ true → is_same o [] ≡ is_same g []) → part_of p o kind s ≡ part_of p g kind s
    at_place LineStart e = refl
    at_place AfterHash e = refl
    at_place AfterInclude e = refl
    at_place AfterDefine e = refl
    at_place AfterMacroName e = let f = e refl in rw f refl
    at_place InDirective e = refl
    at_place InText e = refl

    by_line : (b : Bool) → part_of (if b then LineStart else place) o kind s ≡ part_of (if b then LineStart else place) g kind s
    by_line true = refl
    by_line false = at_place place same_empty

-- an item of a text that is no `#`
both_text : (p q : Place) (x : Piece) (ps : List Piece) (g : List ℕ) → in_directive p ≡ false → in_directive q ≡ false → no_hash_next x ps →
    part_of (past_gap p x.gap) x.gap x.kind x.spelling ≡ part_of (past_gap q g) g x.kind x.spelling
both_text p q x ps g a b n =
    let hash : (is_punct x.kind && is_hash x.spelling) ≡ false = not-true _ (and_parts (not (is_punct x.kind && is_hash x.spelling)) (not (is_comment x.kind) || no_hash_comes ps) n).0 in
    text_part (past_gap p x.gap) x.gap x.spelling x.kind (gap_in_text p x.gap a) hash ∙ sym (text_part (past_gap q g) g x.spelling x.kind (gap_in_text q g b) hash)

-- where a line may end or go on
break_part : (p q : Place) (left : ItemKind) (x : Piece) (ps : List Piece) (g : List ℕ) → AreAlike p q (x ∷ ps) → MayBreak p left x ps → part_of (past_gap p x.gap) x.gap x.kind x.spelling ≡ part_of (past_gap q g) g x.kind x.spelling
break_part p q left x ps g alike b = both_text p q x ps g b.in_text (sym (alike_text p q (x ∷ ps) alike) ∙ b.in_text) b.no_hash

-- an item of a line plays the same part behind another gap
same_part : (p : Place) (x : Piece) (g : List ℕ) → (opens_parameters p x ≡ true → is_same g [] ≡ is_same x.gap []) → part_of p x.gap x.kind x.spelling ≡ part_of p g x.kind x.spelling
same_part LineStart x g o = refl
same_part AfterHash x g o = refl
same_part AfterInclude x g o = refl
same_part AfterDefine x g o = refl
same_part AfterMacroName x g o = elim (cases_Bool (is_punct x.kind && is_same x.spelling (codes "("))) [
  | inl y ↦ let f = o y in rw (f, y) refl
  | inr n ↦ let a = and_right (is_same x.gap []) (is_punct x.kind && is_same x.spelling (codes "(")) n in let b = and_right (is_same g []) (is_punct x.kind && is_same x.spelling (codes "(")) n in rw (a, b) refl
]
same_part InDirective x g o = refl
same_part InText x g o = refl

line_part : (stood p q : Place) (left : ItemKind) (l : List ℕ) (x : Piece) (ps : List Piece) (g : List ℕ) → AreAlike p q (x ∷ ps) → IsLineGap stood p left l x g → part_of (past_gap p x.gap) x.gap x.kind x.spelling ≡ part_of q g x.kind x.spelling
line_part stood p q left l x ps g (inl e) line =
    ap (λ z. part_of z x.gap x.kind x.spelling) (same_place p x.gap line.one_line) ∙ (same_part p x g line.opens ∙ ap (λ z. part_of z g x.kind x.spelling) e)
line_part stood p q left l x ps g (inr t) line =
    both_text p q x ps g t.first t.second (next_of x ps line.one_line t.no_hash) ∙ ap (λ z. part_of z g x.kind x.spelling) (same_place q g line.no_line)

-- the item plays the same part
pub step_part : (stood p q : Place) (left : ItemKind) (l : List ℕ) (x : Piece) (ps : List Piece) (g : List ℕ) → AreAlike p q (x ∷ ps) → IsFreeGap stood p left l x ps g →
    part_of (past_gap p x.gap) x.gap x.kind x.spelling ≡ part_of (past_gap q g) g x.kind x.spelling
step_part stood p q left l x ps g (inl e) (inl fit) = fit_part p left x.kind x.gap g x.spelling fit ∙ ap (λ z. part_of (past_gap z g) g x.kind x.spelling) e
step_part stood p q left l x ps g (inr t) (inl fit) = elim (cases_Bool (list_any is_new_line x.gap)) [
  | inl y ↦ let new : list_any is_new_line g ≡ true = fit.lines ∙ y in rw (y, new) refl
  | inr n ↦ both_text p q x ps g t.first t.second (next_of x ps n t.no_hash)
]
step_part stood p q left l x ps g alike (inr (inl free)) = break_part p q left x ps g alike free.breaks
step_part stood p q left l x ps g alike (inr (inr (inl closed))) = break_part p q left x ps g alike closed.breaks
step_part stood p q left l x ps g alike (inr (inr (inr line))) = line_part stood p q left l x ps g alike line ∙ ap (λ z. part_of z g x.kind x.spelling) (sym (same_place q g line.no_line))
