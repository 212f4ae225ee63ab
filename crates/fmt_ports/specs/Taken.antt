-- What a sink took behind which a room holds more.
use Rattle.std.specs.Prelude.{◌≡◌, ℕ, List, Some, None, length, take}
use Rattle.std.specs.declared.option.Option.{Option}
use Rattle.std.specs.Io.KnownBytes.{append_known}
use Rattle.fmt_ports.specs.declared.streams.pieces.Pieces.{Pieces}

-- what the sink behind took, and then what is held
abbrev pub taken_by : {K : Type 0} → (K → Option (List ℕ)) → Pieces K → Option (List ℕ)
taken_by taken pieces = append_known (taken pieces.out.now) pieces.room.now

-- as many of the second bytes as the first ones are, where both are told
abbrev pub front_of : Option (List ℕ) → Option (List ℕ) → Option (List ℕ)
front_of None new = None
front_of (Some old) None = None
front_of (Some old) (Some new) = Some (take (length old) new)

-- bytes that are told stay at the front
abbrev pub Grows : Option (List ℕ) → Option (List ℕ) → Type 0
Grows old new = front_of old new ≡ old
