-- How the lines of the formatted text end: docs/PROFILE.md, "Line ends".
use Rattle.std.specs.Prelude.{◌==◌, ◌&&◌, not, ℕ, ◌+◌, nat_lt, Bool, true, false, List, [], ◌∷◌, if◌then◌else◌}
use Rattle.style_table.specs.declared.style.LineEnding.{LineEnding}
use Rattle.style_table.specs.declared.style.LineEnding.TheVariants.{DeriveLF, DeriveCRLF, LF, CRLF}

-- how many of these lines end in `\r\n`, where a `\r` stands before the first byte or not
abbrev pub return_lines : Bool → List ℕ → ℕ
return_lines after [] = 0
return_lines after (b ∷ s) = (if after && (b == 10) then 1 else 0) + return_lines (b == 13) s

-- how many end in `\n` alone
abbrev pub feed_lines : Bool → List ℕ → ℕ
feed_lines after [] = 0
feed_lines after (b ∷ s) = (if not after && (b == 10) then 1 else 0) + feed_lines (b == 13) s

-- lines end in `\r\n`
abbrev pub ends_by : LineEnding → List ℕ → Bool
ends_by DeriveLF text = nat_lt (feed_lines false text) (return_lines false text)
ends_by DeriveCRLF text = not (nat_lt (return_lines false text) (feed_lines false text))
ends_by LF text = false
ends_by CRLF text = true
