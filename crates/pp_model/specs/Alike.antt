-- When two texts are the same to a compiler, and the law that twins are.
use Rattle.std.specs.Prelude.{◌≡◌, ◌⊎◌, ⊤, ℕ, List, [], ◌∷◌, map}
use Rattle.c_chars.specs.declared.Dialect.{Dialect}
use Rattle.c_grammar.specs.Twin.{IsTwin}
use Rattle.pp_model.specs.Preprocess.{erase_event}
use Rattle.pp_model.specs.Setting.{IncludeText, Setting, Preprocess}

-- the same key, and under it the same bytes or a twin of them
pub record IsTwinText (d : Dialect) (i j : IncludeText) : Type 0 where
  pub key : i.key ≡ j.key
  pub bytes : (i.bytes ≡ j.bytes) ⊎ IsTwin d i.bytes j.bytes

-- as many included texts, and each as its counterpart
abbrev pub AreTwinTexts : Dialect → List IncludeText → List IncludeText → Type 0
AreTwinTexts d [] [] = ⊤
AreTwinTexts d (i ∷ is) (j ∷ js) = IsTwinText d i j × AreTwinTexts d is js
AreTwinTexts d [] (j ∷ js) = ⊥
AreTwinTexts d (i ∷ is) [] = ⊥

-- Two settings are equal, but that included texts of the second may be twins of the first's.
pub record AreTwinSettings (d : Dialect) (s t : Setting) : Type 0 where
  pub macros : s.macros ≡ t.macros
  pub includes : AreTwinTexts d s.includes t.includes
  pub conditions : s.conditions ≡ t.conditions
  pub depth : s.depth ≡ t.depth
  pub turns : s.turns ≡ t.turns

-- Under every setting both give the same events in order, but for the numbers that `__LINE__` became and for the
-- amounts of white space in strings that `#` made.
abbrev pub Alike : Dialect → List ℕ → List ℕ → Type 0
Alike d b c =
    (s t : Setting) → AreTwinSettings d s t → map erase_event (Preprocess d s b) ≡ map erase_event (Preprocess d t c)

-- Twins preprocess alike: under every setting and number of turns, with included files replaced by twins or not.
abbrev pub TwinsPreprocessAlike : Type 0
TwinsPreprocessAlike = (d : Dialect) (b c : List ℕ) → IsTwin d b c → Alike d b c
