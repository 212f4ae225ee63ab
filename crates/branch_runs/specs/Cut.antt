-- Marks of sections that cut the items.
use Rattle.std.specs.Prelude.{◌≡◌, ◌≢◌, ◌<◌, ℕ, List, [], ◌∷◌, ⊤}
use Rattle.branch_runs.specs.declared.mark.MarkKind.TheVariants.{Text}
use Rattle.branch_runs.specs.declared.mark.Mark.{Mark}

-- the first mark is that of no text
abbrev pub BeginsNoText : List Mark → Type 0
BeginsNoText [] = ⊤
BeginsNoText (mark ∷ marks) = mark.kind ≢ Text

-- The sections follow one another from a place on, none is empty, and no text stands directly behind a text.
abbrev pub IsCutFrom : ℕ → List Mark → Type 0
IsCutFrom at [] = ⊤
IsCutFrom at (mark ∷ marks) =
    (mark.first ≡ at) × (mark.first < mark.end) × (mark.kind ≡ Text → BeginsNoText marks) × IsCutFrom mark.end marks

-- the place behind the last of the sections that begin at a place
abbrev pub end_of : ℕ → List Mark → ℕ
end_of at [] = at
end_of at (mark ∷ marks) = end_of mark.end marks
