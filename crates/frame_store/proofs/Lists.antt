-- The lists of a store's nodes, as nodes are added.
use Rattle.std.proofs.Common.{◌≡◌, ℕ, ◌+◌, ◌-◌, ◌<◌, ◌≤◌, Option, Some, None, List, [], ◌∷◌, ◌++◌, length, take, fold}
use Rattle.std.proofs.Common.{refl, arith, ap, sym, ◌∙◌, ◌⊎◌, inl, inr, suc, zero, slice_set, slice_index_or, get_or}
use Rattle.std.proofs.Math.ListN.{get_or-append}
use Rattle.std.proofs.Math.Seq.{get_or-append_seam}
use Rattle.std.proofs.lemmas.List.{length-append, append_cancel_right, take-append-le}
use Rattle.std.proofs.lemmas.List.Sums.{fold-append}
use Rattle.std.proofs.lemmas.Bool.{cases_eq}
use Rattle.frame_store.specs.declared.frames.Frame.{Frame}
use Rattle.frame_store.specs.declared.node.Node.{Node}
use Rattle.frame_store.specs.Frames.{topmost, below_topmost, with_topmost}
use Rattle.frame_store.specs.Store.{FrameList, no_list, list_at, extended, with_node, lists_of, IsKnown, AreApart}
use Rattle.frame_store.specs.Store.{IsNowhere, IsGrown}

-- as many lists as nodes
pub lists_length : (nodes : List Node) → length (lists_of nodes) ≡ length nodes
unfolding lists_of
lists_length nodes = from nodes [] ∙ omega arith
  where
    from : (nodes : List Node) (lists : List FrameList) → length (fold with_node lists nodes) ≡ length lists + length nodes
    from [] lists = omega arith
    from (n ∷ ns) lists = from ns (with_node lists n) ∙ omega (arith, length-append lists (extended lists n.frame n.below ∷ []))

pub lists_push : (nodes : List Node) (node : Node) → lists_of (nodes ++ node ∷ []) ≡ with_node (lists_of nodes) node
unfolding lists_of
lists_push nodes node = fold-append with_node [] nodes (node ∷ [])

pub grown_refl : (lists : List FrameList) → IsGrown lists lists
grown_refl lists = record { longer = omega arith; kept = λ v h. refl }

pub grown_trans : (a b c : List FrameList) → IsGrown a b → IsGrown b c → IsGrown a c
grown_trans a b c g h = record { longer = omega (arith, g.longer, h.longer); kept = λ v less. h.kept v (omega (arith, less, g.longer)) ∙ g.kept v less }

pub grown_push : (lists : List FrameList) (list : FrameList) → IsGrown lists (lists ++ list ∷ [])
grown_push lists list = record { longer = omega (arith, length-append lists (list ∷ [])); kept = λ v less. get_or-append lists (list ∷ []) no_list v less }

pub pushed_at : (lists : List FrameList) (list : FrameList) → list_at (lists ++ list ∷ []) (length lists) ≡ list
pushed_at lists list = get_or-append_seam lists list [] no_list

-- a list on a node stays when nodes are added
pub extended_grown : (lists more : List FrameList) → IsGrown lists more → (frame : Frame) (below : Option ℕ) → IsKnown lists below → extended more frame below ≡ extended lists frame below
extended_grown lists more grown frame None known = refl
extended_grown lists more grown frame (Some b) known = ap (λ (l : FrameList). let e : FrameList = record { base = l.base; frames = l.frames ++ frame ∷ [] } in e) (grown.kept b known)

-- the last of a list and one more
last_of : (xs ys : List Frame) (x y : Frame) → xs ++ x ∷ [] ≡ ys ++ y ∷ [] → x ≡ y
last_of xs ys x y e =
    let same : length xs ≡ length ys = omega (arith, ap length e, length-append xs (x ∷ []), length-append ys (y ∷ [])) in
    sym (get_or-append_seam xs x [] x) ∙ ap (λ (l : List Frame). get_or l (length xs) x) e ∙ ap (λ (k : ℕ). get_or (ys ++ y ∷ []) k x) same ∙ get_or-append_seam ys y [] x

front_of : (xs ys : List Frame) (x y : Frame) → xs ++ x ∷ [] ≡ ys ++ y ∷ [] → xs ≡ ys
front_of xs ys x y e =
    let last : x ≡ y = last_of xs ys x y e in
    append_cancel_right xs ys (y ∷ []) (ap (λ (z : Frame). xs ++ z ∷ []) (sym last) ∙ e)

none_more : (xs : List Frame) (x : Frame) → [] ≡ xs ++ x ∷ [] → ⊥
none_more xs x e = omega (arith, ap length e, length-append xs (x ∷ []))

pub from_parts : (a b : FrameList) → a.base ≡ b.base → a.frames ≡ b.frames → a ≡ b
from_parts a b x y =
    ap (λ (z : Frame). let e : FrameList = record { base = z; frames = a.frames } in e) x ∙ ap (λ (z : List Frame). let e : FrameList = record { base = b.base; frames = z } in e) y

-- where lists are apart, a list tells its frame and its node below
pub extended_injective : (lists : List FrameList) → AreApart lists → (f g : Frame) (a b : Option ℕ) → IsKnown lists a → IsKnown lists b → extended lists f a ≡ extended lists g b → (f ≡ g) × (a ≡ b)
extended_injective lists apart f g None None ka kb e = (ap (λ (l : FrameList). l.base) e, refl)
extended_injective lists apart f g None (Some b) ka kb e = absurd (none_more (list_at lists b).frames g (ap (λ (l : FrameList). l.frames) e))
extended_injective lists apart f g (Some a) None ka kb e = absurd (none_more (list_at lists a).frames f (sym (ap (λ (l : FrameList). l.frames) e)))
extended_injective lists apart f g (Some a) (Some b) ka kb e =
    let fs : (list_at lists a).frames ++ f ∷ [] ≡ (list_at lists b).frames ++ g ∷ [] = ap (λ (l : FrameList). l.frames) e in
    let base : (list_at lists a).base ≡ (list_at lists b).base = ap (λ (l : FrameList). l.base) e in
    let front : (list_at lists a).frames ≡ (list_at lists b).frames = front_of (list_at lists a).frames (list_at lists b).frames f g fs in
    let same : a ≡ b = apart a b ka kb (from_parts (list_at lists a) (list_at lists b) base front) in
    (last_of (list_at lists a).frames (list_at lists b).frames f g fs, ap (λ (k : ℕ). let o : Option ℕ = Some k in o) same)

-- lists are apart with one more that wasn't there
pub apart_push : (lists : List FrameList) (list : FrameList) → AreApart lists → IsNowhere lists list → AreApart (lists ++ list ∷ [])
apart_push lists list apart new u v lu lv e =
    let count = length-append lists (list ∷ []) in
    by_cases (cases_at u (omega (arith, lu, count))) (cases_at v (omega (arith, lv, count)))
  where
    more : List FrameList
    more = lists ++ list ∷ []

    cases_at : (w : ℕ) → w < length lists + 1 → (w < length lists) ⊎ (w ≡ length lists)
    cases_at w h = elim (cases_eq w (length lists)) [
      | inl e ↦ inr e
      | inr ne ↦ inl (omega (arith, h, ne))
    ]

    at_old : (w : ℕ) → w < length lists → list_at more w ≡ list_at lists w
    at_old w h = (grown_push lists list).kept w h

    at_new : (w : ℕ) → w ≡ length lists → list_at more w ≡ list
    at_new w h = ap (λ (k : ℕ). list_at more k) h ∙ pushed_at lists list

    by_cases : (u < length lists) ⊎ (u ≡ length lists) → (v < length lists) ⊎ (v ≡ length lists) → u ≡ v
    by_cases (inl a) (inl b) = apart u v a b (sym (at_old u a) ∙ e ∙ at_old v b)
    by_cases (inl a) (inr b) = absurd (new u a (sym (at_old u a) ∙ e ∙ at_new v b))
    by_cases (inr a) (inl b) = absurd (new v b (sym (at_old v b) ∙ sym e ∙ at_new u a))
    by_cases (inr a) (inr b) = a ∙ sym b

-- what is topmost, and what stands below it, of a frame on a list
pub topmost_extended : (base frame : Frame) (frames : List Frame) → topmost base (frames ++ frame ∷ []) ≡ frame
topmost_extended base frame frames =
    let count : length (frames ++ frame ∷ []) - 1 ≡ length frames = omega (arith, length-append frames (frame ∷ [])) in
    ap (λ (k : ℕ). slice_index_or (frames ++ frame ∷ []) k base) count ∙ get_or-append_seam frames frame [] base

pub below_extended : (base frame : Frame) (frames : List Frame) → below_topmost base (frames ++ frame ∷ []) ≡ topmost base frames
below_extended base frame [] = refl
below_extended base frame (f ∷ fs) =
    let count : length ((f ∷ fs) ++ frame ∷ []) - 1 ≡ suc (length fs) = omega (arith, length-append (f ∷ fs) (frame ∷ [])) in
    let top : length (f ∷ fs) - 1 ≡ length fs = omega arith in
    ap (λ (k : ℕ). slice_index_or (base ∷ ((f ∷ fs) ++ frame ∷ [])) k base) count ∙ get_or-append (f ∷ fs) (frame ∷ []) base (length fs) (omega arith) ∙ ap (λ (k : ℕ). slice_index_or (f ∷ fs) k base) (sym top)

set_last : (frames : List Frame) (frame other : Frame) → slice_set (frames ++ frame ∷ []) (length frames) other ≡ frames ++ other ∷ []
set_last [] frame other = refl
set_last (f ∷ fs) frame other = ap (λ (l : List Frame). f ∷ l) (set_last fs frame other)

pub with_topmost_extended : (frame other : Frame) (frames : List Frame) → with_topmost (frames ++ frame ∷ []) other ≡ frames ++ other ∷ []
with_topmost_extended frame other frames =
    let count : length (frames ++ frame ∷ []) - 1 ≡ length frames = omega (arith, length-append frames (frame ∷ [])) in
    ap (λ (k : ℕ). slice_set (frames ++ frame ∷ []) k other) count ∙ set_last frames frame other

-- the lowest frames of a list and one more
pub take_extended : (count : ℕ) (frames : List Frame) (frame : Frame) → count < length (frames ++ frame ∷ []) → take count (frames ++ frame ∷ []) ≡ take count frames
take_extended count frames frame h = take-append-le count frames (frame ∷ []) (omega (arith, h, length-append frames (frame ∷ [])))

take_all : (n : ℕ) (xs : List Frame) → length xs ≤ n → take n xs ≡ xs
take_all n [] h = take_none n
  where
    take_none : (n : ℕ) → take n (let e : List Frame = [] in e) ≡ []
    take_none zero = refl
    take_none (suc n) = refl
take_all zero (x ∷ xs) h = absurd (omega arith)
take_all (suc n) (x ∷ xs) h = ap (λ (l : List Frame). x ∷ l) (take_all n xs (omega arith))

pub all_taken : (list : FrameList) (count : ℕ) → length list.frames ≤ count → list ≡ record { base = list.base; frames = take count list.frames }
all_taken list count h = ap (λ (z : List Frame). let e : FrameList = record { base = list.base; frames = z } in e) (sym (take_all count list.frames h))
