-- The frames at the top of a list.
use Rattle.std.specs.Prelude.{◌-◌, List, ◌∷◌, length, slice_index_or, slice_set}
use Rattle.frame_store.specs.declared.frames.Frame.{Frame}

-- the topmost frame, and the one below it: the base frame where it stands alone
abbrev pub topmost : Frame → List Frame → Frame
topmost base frames = slice_index_or frames (length frames - 1) base

abbrev pub below_topmost : Frame → List Frame → Frame
below_topmost base frames = slice_index_or (base ∷ frames) (length frames - 1) base

-- the frames with another topmost one
abbrev pub with_topmost : List Frame → Frame → List Frame
with_topmost frames frame = slice_set frames (length frames - 1) frame
