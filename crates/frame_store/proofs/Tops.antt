-- The topmost frame of a node's list, and its lowest frames.
use Rattle.std.proofs.Common.{◌≡◌, ℕ, ◌<◌, ◌≤◌, Option, Some, None, List, [], ◌∷◌, ◌++◌, length, take, refl, arith, ap}
use Rattle.std.proofs.Common.{sym, ◌∙◌}
use Rattle.frame_store.specs.declared.frames.Frame.{Frame}
use Rattle.frame_store.specs.declared.node.Node.{Node}
use Rattle.frame_store.specs.Frames.{topmost, below_topmost, with_topmost}
use Rattle.frame_store.specs.Store.{FrameList, list_at, extended, IsNode}
use Rattle.frame_store.proofs.Lists.{topmost_extended, below_extended, with_topmost_extended, take_extended, all_taken}
use Rattle.frame_store.proofs.Lists.{from_parts}
use Rattle.frame_store.proofs.Sharing.{is_base, is_on, is_on_less}

-- a list with another topmost frame
abbrev pub topped : FrameList → Frame → FrameList
topped list frame = record { base = list.base; frames = with_topmost list.frames frame }

module _ (lists : List FrameList) (v : ℕ) (node : Node) (is : IsNode lists v node) where
  -- the base frame stays
  pub base_stays : (frame : Frame) → node.below ≡ None → list_at lists v ≡ topped (list_at lists v) frame
  base_stays frame e = is_base lists v node is e ∙ ap (λ (l : FrameList). topped l frame) (sym (is_base lists v node is e))

  pub on_topped : (frame : Frame) (b : ℕ) → node.below ≡ Some b → extended lists frame (Some b) ≡ topped (list_at lists v) frame
  on_topped frame b e =
      let one : topped (list_at lists v) frame ≡ record { base = (list_at lists b).base; frames = with_topmost ((list_at lists b).frames ++ node.frame ∷ []) frame } = ap (λ (l : FrameList). topped l frame) (is_on lists v b node is e) in
      sym (one ∙ ap (λ (fs : List Frame). let l : FrameList = record { base = (list_at lists b).base; frames = fs } in l) (with_topmost_extended node.frame frame (list_at lists b).frames))

  pub same_stays : (frame : Frame) (b : ℕ) → node.below ≡ Some b → node.frame ≡ frame → list_at lists v ≡ topped (list_at lists v) frame
  same_stays frame b e same = is_on lists v b node is e ∙ ap (λ (f : Frame). extended lists f (Some b)) same ∙ on_topped frame b e

  -- the node's frame is the topmost one
  pub top_is : node.frame ≡ topmost (list_at lists v).base (list_at lists v).frames
  top_is = by_below node.below refl
    where
      by_below : (o : Option ℕ) → node.below ≡ o → node.frame ≡ topmost (list_at lists v).base (list_at lists v).frames
      by_below None e = sym (ap (λ (l : FrameList). topmost l.base l.frames) (is_base lists v node is e))
      by_below (Some b) e = sym (ap (λ (l : FrameList). topmost l.base l.frames) (is_on lists v b node is e) ∙ topmost_extended (list_at lists b).base node.frame (list_at lists b).frames)

  pub below_base : node.below ≡ None → node.base ≡ below_topmost (list_at lists v).base (list_at lists v).frames
  below_base e =
      let base : (list_at lists v).base ≡ node.frame = ap (λ (l : FrameList). l.base) (is_base lists v node is e) in
      is.base ∙ base ∙ sym (ap (λ (l : FrameList). below_topmost l.base l.frames) (is_base lists v node is e))

  pub below_top : (b : ℕ) → node.below ≡ Some b → below_topmost (list_at lists v).base (list_at lists v).frames ≡ topmost (list_at lists b).base (list_at lists b).frames
  below_top b e = ap (λ (l : FrameList). below_topmost l.base l.frames) (is_on lists v b node is e) ∙ below_extended (list_at lists b).base node.frame (list_at lists b).frames

-- the lowest frames of a list
abbrev pub lowest_of : FrameList → ℕ → FrameList
lowest_of list count = record { base = list.base; frames = take count list.frames }

-- what a walk down from a node keeps
pub record IsAbove (lists : List FrameList) (node count at : ℕ) : Type 0 where
  pub known : at < length lists
  pub base : (list_at lists at).base ≡ (list_at lists node).base
  pub frames : take count (list_at lists at).frames ≡ take count (list_at lists node).frames

pub above_start : (lists : List FrameList) (node count : ℕ) → node < length lists → IsAbove lists node count node
above_start lists node count known = record { known = known; base = refl; frames = refl }

module _ (lists : List FrameList) (node count at : ℕ) (a : IsAbove lists node count at) (here : Node) (is : IsNode lists at here) where
  pub above_end : here.depth ≤ count → list_at lists at ≡ lowest_of (list_at lists node) count
  above_end low = all_taken (list_at lists at) count (omega (arith, low, is.depth)) ∙ from_parts (lowest_of (list_at lists at) count) (lowest_of (list_at lists node) count) a.base a.frames

  pub above_base : here.below ≡ None → list_at lists at ≡ lowest_of (list_at lists node) count
  above_base e = above_end (omega (arith, is.depth, ap (λ (l : FrameList). length l.frames) (is_base lists at here is e)))

  pub above_step : (b : ℕ) → here.below ≡ Some b → count < here.depth → IsAbove lists node count b
  above_step b e deep = record {
    known = omega (arith, a.known, is_on_less lists at b here is e);
    base = sym (ap (λ (l : FrameList). l.base) (is_on lists at b here is e)) ∙ a.base;
    frames = sym (take_extended count (list_at lists b).frames here.frame more) ∙ sym (ap (λ (l : FrameList). take count l.frames) (is_on lists at b here is e)) ∙ a.frames;
  }
    where
      more : count < length ((list_at lists b).frames ++ here.frame ∷ [])
      more = omega (arith, deep, is.depth, ap (λ (l : FrameList). length l.frames) (is_on lists at b here is e))
