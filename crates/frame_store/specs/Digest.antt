-- Digests, by which layouts are looked up.
use Rattle.std.specs.Prelude.{ℕ, ◌+◌, ◌*◌, ◌%◌, ◌^◌}
use Rattle.frame_store.specs.declared.frames.Frame.{Frame}

-- a digest with one number more, within 64 bits
abbrev pub digest_with : ℕ → ℕ → ℕ
digest_with digest x = ((digest * 6364136223846793005) % 2 ^ 64 + x) % 2 ^ 64

-- .. with what a frame has that the line's tokens don't tell
abbrev pub frame_digest : ℕ → Frame → ℕ
frame_digest digest frame = digest_with (digest_with digest frame.indent) (4 * frame.comma + frame.opening)
