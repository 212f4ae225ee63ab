-- Printable characters of ASCII, eight at a time.
use Rattle.std.specs.Prelude.{ℕ, ◌+◌}
use Rattle.std.specs.Int.Bits.{bit_and, bit_or, bit_xor}

-- the highest bits of those bytes of a number of eight that aren't printable characters of ASCII
unfoldable pub unprintable : ℕ → ℕ
unprintable eight =
    bit_and
    (bit_or
    (bit_or
    (bit_xor (bit_and eight 0x7f7f_7f7f_7f7f_7f7f + 0x6060_6060_6060_6060) 0x8080_8080_8080_8080)
    (bit_and eight 0x7f7f_7f7f_7f7f_7f7f + 0x0101_0101_0101_0101))
    eight)
    0x8080_8080_8080_8080
