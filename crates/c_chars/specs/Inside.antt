-- What a reader's place in a text tells of the characters behind it.
use Rattle.std.specs.Prelude.{◌≡◌, List, [], ◌∷◌, drop, Option, MatchOption}
use Rattle.c_chars.specs.Characters.{chars}
use Rattle.c_chars.specs.declared.LogicalChar.{LogicalChar}
use Rattle.c_chars.specs.declared.reader.Cursor.{Cursor}

-- the characters behind a place
abbrev pub chars_behind : Cursor → List LogicalChar
chars_behind place = chars place.dialect place.at (drop place.at place.text.now)

-- `new` stands behind the next character of `old`; both are one place where there is none
abbrev pub IsPastNext : Cursor → Option LogicalChar → Cursor → Type 0
IsPastNext old next new =
    MatchOption next ((chars_behind old ≡ []) × (new.at ≡ old.at) × (new.text.now ≡ old.text.now))
    (λ c. (chars_behind old ≡ c ∷ chars_behind new) × (new.at ≡ c.to))
