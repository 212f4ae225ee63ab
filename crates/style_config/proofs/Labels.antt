-- What the table says of each key, as a configuration is read.
use Rattle.std.proofs.Common.{◌≡◌, ℕ, true, false, List, [], ◌∷◌, Option, Some, None, refl, codes, bytes_eq}
use Rattle.style_table.specs.declared.key.Key.{Key}
use Rattle.style_table.specs.Keys.{label_of, is_first_inside, outer_of as outer_text_of}
use Rattle.style_config.specs.Dump.{indent_of}
use Rattle.style_config.specs.declared.entry.Outer.{Outer}
use Rattle.style_config.specs.declared.reading.Meaning.TheVariants.{Known}
use Rattle.style_config.specs.Entries.{outer_of, outer_name}
use Rattle.style_config.specs.Reading.{meaning_of}
use Rattle.style_config.proofs.Shown.{is_word}

-- the outer key that a key stands under
abbrev pub outer_key : Key → Option Outer
outer_key key = outer_of (outer_text_of key)

-- what is written before the keys under an outer key, and before others
abbrev pub blanks_before : Option Outer → List ℕ
blanks_before None = []
blanks_before (Some outer) = 32 ∷ 32 ∷ []

-- how an outer key is spelled, and nothing for none
abbrev pub name_of : Option Outer → List ℕ
name_of None = []
name_of (Some outer) = outer_name outer

pub name_is : (key : Key) → outer_text_of key ≡ name_of (outer_key key)
name_is Key.ColumnLimit = refl
name_is _ = refl

pub indent_is : (key : Key) → indent_of key ≡ blanks_before (outer_key key)
indent_is Key.ColumnLimit = refl
indent_is _ = refl

pub label_is_word : (key : Key) → is_word (label_of key) ≡ true
label_is_word Key.ColumnLimit = refl
label_is_word _ = refl

pub label_is_no_outer : (key : Key) → outer_of (label_of key) ≡ None
label_is_no_outer Key.ColumnLimit = refl
label_is_no_outer _ = refl

pub label_is_no_base : (key : Key) → bytes_eq (label_of key) (codes "BasedOnStyle") ≡ false
label_is_no_base Key.ColumnLimit = refl
label_is_no_base _ = refl

pub meaning_is : (key : Key) → meaning_of (outer_key key) (label_of key) ≡ Known key
meaning_is Key.ColumnLimit = refl
meaning_is _ = refl

-- the first key under an outer key stands under it
pub first_has_outer : (key : Key) → outer_key key ≡ None → is_first_inside key ≡ false
first_has_outer Key.ColumnLimit none = refl
first_has_outer Key.BraceWrappingAfterCaseLabel none = let never : ⊥ = cc in absurd never
first_has_outer Key.AlignTrailingCommentsKind none = let never : ⊥ = cc in absurd never
first_has_outer _ none = refl
