-- Items that stand some bytes nearer to the front, and the bytes that they have there.
use Rattle.std.proofs.Common.{◌≡◌, ◌≤◌, ◌+◌, ◌-◌, ℕ, arith, length, List, [], ◌∷◌, ◌++◌, map, take, drop, refl, sym, ◌∙◌, ap, subst, append_assoc}
use Rattle.std.proofs.Math.Seq.{drop-append-add}
use Rattle.std.proofs.lemmas.List.{take-append-le, drop-append-le, map-append, length-drop}
use Rattle.c_chars.specs.Characters.{bytes_of, moved}
use Rattle.c_chars.specs.Coming.{AreBetween}
use Rattle.c_chars.specs.declared.LogicalChar.{LogicalChar}
use Rattle.c_grammar.specs.Text.{ReadItem, piece_of, begin_of, finish_of, start_of, end_of, raw_of, characters_of}

-- g bytes nearer
abbrev pub nearer : ℕ → LogicalChar → LogicalChar
nearer g c = record { byte = c.byte; from = c.from - g; to = c.to - g }

abbrev pub near_item : ℕ → ReadItem → ReadItem
near_item g item = record { kind = item.kind; gap = map (nearer g) item.gap; chars = map (nearer g) item.chars }

pub nearer_moved : (g : ℕ) (s : List LogicalChar) → map (nearer g) (map (moved g) s) ≡ s
nearer_moved g [] = refl
nearer_moved g (c ∷ s) =
    let from : (c.from + g) - g ≡ c.from = omega arith in
    let to : (c.to + g) - g ≡ c.to = omega arith in
    ap (λ z. record { byte = c.byte; from = z; to = (c.to + g) - g } ∷ map (nearer g) (map (moved g) s)) from
    ∙ (ap (λ z. record { byte = c.byte; from = c.from; to = z } ∷ map (nearer g) (map (moved g) s)) to ∙ ap (λ z. c ∷ z) (nearer_moved g s))

pub nearer_bytes : (g : ℕ) (s : List LogicalChar) → bytes_of (map (nearer g) s) ≡ bytes_of s
nearer_bytes g [] = refl
nearer_bytes g (c ∷ s) = ap (λ z. c.byte ∷ z) (nearer_bytes g s)

pub near_pieces : (g : ℕ) (items : List ReadItem) → map piece_of (map (near_item g) items) ≡ map piece_of items
near_pieces g [] = refl
near_pieces g (i ∷ items) =
    ap (λ z. record { gap = z; kind = i.kind; spelling = bytes_of (map (nearer g) i.chars) } ∷ map piece_of (map (near_item g) items)) (nearer_bytes g i.gap)
    ∙ (ap (λ z. record { gap = bytes_of i.gap; kind = i.kind; spelling = z } ∷ map piece_of (map (near_item g) items)) (nearer_bytes g i.chars) ∙ ap (λ z. piece_of i ∷ z) (near_pieces g items))

pub near_kinds : (g : ℕ) (items : List ReadItem) → map (λ item. item.kind) (map (near_item g) items) ≡ map (λ item. item.kind) items
near_kinds g [] = refl
near_kinds g (i ∷ items) = ap (λ z. i.kind ∷ z) (near_kinds g items)

pub near_characters : (g : ℕ) (items : List ReadItem) (last : List LogicalChar) → map (nearer g) (characters_of items last) ≡ characters_of (map (near_item g) items) (map (nearer g) last)
near_characters g [] last = refl
near_characters g (i ∷ items) last =
    map-append (nearer g) i.gap (i.chars ++ characters_of items last)
    ∙ ap (λ z. map (nearer g) i.gap ++ z) (map-append (nearer g) i.chars (characters_of items last) ∙ ap (λ z. map (nearer g) i.chars ++ z) (near_characters g items last))

-- the characters of the first items, and then those of the others
pub characters_cut : (xs ys : List ReadItem) (last : List LogicalChar) → characters_of (xs ++ ys) last ≡ characters_of xs [] ++ characters_of ys last
characters_cut [] ys last = refl
characters_cut (i ∷ xs) ys last =
    ap (λ z. i.gap ++ (i.chars ++ z)) (characters_cut xs ys last)
    ∙ (ap (λ z. i.gap ++ z) (sym (append_assoc i.chars (characters_of xs []) (characters_of ys last))) ∙ sym (append_assoc i.gap (i.chars ++ characters_of xs []) (characters_of ys last)))

-- Where they stand

skip : (low high : ℕ) (a b : List LogicalChar) → AreBetween low (a ++ b) high → (mid : ℕ) × (low ≤ mid) × AreBetween mid b high
skip low high [] b h = (low, omega arith, h)
skip low high (c ∷ a) b h = let r = skip c.to high a b h.2 in (r.0, omega (arith, h.0, h.1, r.1), r.2)

fits : (low high : ℕ) (s : List LogicalChar) → AreBetween low s high → low ≤ high
fits low high [] h = h
fits low high (c ∷ s) h = omega (arith, h.0, h.1, fits c.to high s h.2)

-- each item's characters are some
abbrev pub HaveSome : List ReadItem → Type 0
HaveSome [] = Unit {0}
HaveSome (i ∷ items) = (c : LogicalChar) × (v : List LogicalChar) × (i.chars ≡ c ∷ v) × HaveSome items

-- the items begin at this offset or behind it
abbrev pub BeginBehind : ℕ → List ReadItem → Type 0
BeginBehind low [] = Unit {0}
BeginBehind low (i ∷ items) = (low ≤ start_of i) × BeginBehind low items

pub begin_behind : (low mid high : ℕ) (items : List ReadItem) (last : List LogicalChar) → low ≤ mid → HaveSome items → AreBetween mid (characters_of items last) high → BeginBehind low items
begin_behind low mid high [] last le some h = tt
begin_behind low mid high (i ∷ items) last le some h =
    let gap = skip mid high i.gap (i.chars ++ characters_of items last) h in
    let own : AreBetween gap.0 ((some.0 ∷ some.1) ++ characters_of items last) high = subst (λ z. AreBetween gap.0 (z ++ characters_of items last) high) some.2 gap.2 in
    let behind = skip gap.0 high (some.0 ∷ some.1) (characters_of items last) own in
    let begins : begin_of i.chars ≡ some.0.from = ap begin_of some.2 in
    (omega (arith, le, gap.1, own.0, begins), begin_behind low behind.0 high items last (omega (arith, le, gap.1, behind.1)) some.3 behind.2)

-- the items begin and end before this offset, or at it
abbrev pub EndBefore : ℕ → List ReadItem → Type 0
EndBefore high [] = Unit {0}
EndBefore high (i ∷ items) = (start_of i ≤ high) × (end_of i ≤ high) × EndBefore high items

finish_within : (low high : ℕ) (c : LogicalChar) (v rest : List LogicalChar) → AreBetween low ((c ∷ v) ++ rest) high → finish_of (c ∷ v) ≤ high
finish_within low high c [] rest h = fits c.to high rest h.2
finish_within low high c (e ∷ v) rest h = finish_within c.to high e v rest h.2

pub end_before : (low high : ℕ) (items : List ReadItem) (last : List LogicalChar) → HaveSome items → AreBetween low (characters_of items last) high → EndBefore high items
end_before low high [] last some h = tt
end_before low high (i ∷ items) last some h =
    let gap = skip low high i.gap (i.chars ++ characters_of items last) h in
    let own : AreBetween gap.0 ((some.0 ∷ some.1) ++ characters_of items last) high = subst (λ z. AreBetween gap.0 (z ++ characters_of items last) high) some.2 gap.2 in
    let behind = skip gap.0 high (some.0 ∷ some.1) (characters_of items last) own in
    let begins : begin_of i.chars ≡ some.0.from = ap begin_of some.2 in
    let ends : end_of i ≡ finish_of (some.0 ∷ some.1) = ap finish_of some.2 in
    let inside : some.0.to ≤ high = fits some.0.to high (some.1 ++ characters_of items last) own.2 in
    let last_in = finish_within gap.0 high some.0 some.1 (characters_of items last) own in
    (omega (arith, begins, own.1, inside), omega (arith, ends, last_in), end_before behind.0 high items last some.3 behind.2)

-- Their bytes

begin_near : (g : ℕ) (s : List LogicalChar) → begin_of (map (nearer g) s) ≡ begin_of s - g
begin_near g [] = omega arith
begin_near g (c ∷ s) = refl

finish_near : (g : ℕ) (s : List LogicalChar) → finish_of (map (nearer g) s) ≡ finish_of s - g
finish_near g [] = omega arith
finish_near g (c ∷ []) = refl
finish_near g (c ∷ e ∷ s) = finish_near g (e ∷ s)

-- behind the bytes that are gone
pub near_raws : (f g b : List ℕ) (items : List ReadItem) → BeginBehind (length f + length g) items → map (raw_of (f ++ (g ++ b))) items ≡ map (raw_of (f ++ b)) (map (near_item (length g)) items)
near_raws f g b [] h = refl
near_raws f g b (i ∷ items) h =
    let n = length g in
    let k = start_of i - (length f + n) in
    let start : start_of (near_item n i) ≡ length f + k = begin_near n i.chars ∙ omega (arith, h.0) in
    let long : end_of (near_item n i) - start_of (near_item n i) ≡ end_of i - start_of i = ap (λ z. z - start_of (near_item n i)) (finish_near n i.chars) ∙ (ap (λ z. (end_of i - n) - z) (begin_near n i.chars) ∙ omega (arith, h.0)) in
    let new : drop (start_of (near_item n i)) (f ++ b) ≡ drop k b = ap (λ z. drop z (f ++ b)) start ∙ drop-append-add f b k in
    let there : start_of i ≡ length f + (n + k) = omega (arith, h.0) in
    let old : drop (start_of i) (f ++ (g ++ b)) ≡ drop k b = ap (λ z. drop z (f ++ (g ++ b))) there ∙ (drop-append-add f (g ++ b) (n + k) ∙ drop-append-add g b k) in
    let same : raw_of (f ++ (g ++ b)) i ≡ raw_of (f ++ b) (near_item n i) = ap (take (end_of i - start_of i)) (old ∙ sym new) ∙ ap (λ z. take z (drop (start_of (near_item n i)) (f ++ b))) (sym long) in
    ap (λ z. z ∷ map (raw_of (f ++ (g ++ b))) items) same ∙ ap (λ z. raw_of (f ++ b) (near_item n i) ∷ z) (near_raws f g b items h.1)

-- before them
pub same_raws : (f x y : List ℕ) (items : List ReadItem) → EndBefore (length f) items → map (raw_of (f ++ x)) items ≡ map (raw_of (f ++ y)) items
same_raws f x y [] h = refl
same_raws f x y (i ∷ items) h =
    let own : (z : List ℕ) → raw_of (f ++ z) i ≡ take (end_of i - start_of i) (drop (start_of i) f) = λ z.
    let room : end_of i - start_of i ≤ length (drop (start_of i) f) = omega (arith, h.0, h.1, length-drop (start_of i) f) in
    ap (take (end_of i - start_of i)) (drop-append-le (start_of i) f z h.0) ∙ take-append-le (end_of i - start_of i) (drop (start_of i) f) z room in
    ap (λ z. z ∷ map (raw_of (f ++ x)) items) (own x ∙ sym (own y)) ∙ ap (λ z. raw_of (f ++ y) i ∷ z) (same_raws f x y items h.2)
