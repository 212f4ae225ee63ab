-- The same items with other gaps between them.
use Rattle.std.specs.Prelude.{◌≡◌, ℕ, List, [], ◌∷◌, ◌++◌}
use Rattle.c_grammar.specs.Items.{Piece}
use Rattle.c_grammar.specs.Text.{ReadItem, raw_of}

-- the same item, whatever stands before it
pub record IsSameItem (p q : Piece) : Type 0 where
  pub kind : q.kind ≡ p.kind
  pub spelling : q.spelling ≡ p.spelling

-- The text of these items behind these gaps, and then this last gap: each gap and its item's bytes of the old text.
abbrev pub regapped_text : List (List ℕ) → List ReadItem → List ℕ → List ℕ → List ℕ
regapped_text gaps [] text end = end
regapped_text [] (item ∷ items) text end = raw_of text item ++ regapped_text [] items text end
regapped_text (gap ∷ gaps) (item ∷ items) text end = gap ++ (raw_of text item ++ regapped_text gaps items text end)
