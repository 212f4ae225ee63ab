-- Lines as they are kept.
use Rattle.std.proofs.Common.{◌≡◌, ℕ, zero, suc, ◌+◌, ◌-◌, ◌<◌, ◌≤◌, List, [], ◌∷◌, ◌++◌, length, map, refl, sym, ap, arith, ◌∙◌}
use Rattle.std.specs.Prelude.{slice_get, slice_index_or, Some}
use Rattle.line_tokens.specs.declared.line.ULine.{ULine}
use Rattle.statement_lines.specs.declared.line.Line.{Line}
use Rattle.statement_lines.specs.Lines.{line_told, lines_told, row_of}

told_behind : (rows : List ULine) (levels : List ℕ) (row : ULine) → length levels ≤ length rows
    → lines_told (rows ++ row ∷ []) levels ≡ lines_told rows levels ++ line_told row row.level ∷ []
told_behind [] [] row e = refl
told_behind [] (l ∷ levels) row e = absurd (omega (arith, e))
told_behind (r ∷ rows) [] row e = ap (λ (ls : List Line). line_told r r.level ∷ ls) (told_behind rows [] row (omega (arith, e)))
told_behind (r ∷ rows) (l ∷ levels) row e = ap (λ (ls : List Line). line_told r l ∷ ls) (told_behind rows levels row (omega (arith, e)))

told_more : (rows : List ULine) (levels : List ℕ) (row : ULine) (level : ℕ) → length levels ≡ length rows
    → lines_told (rows ++ row ∷ []) (levels ++ level ∷ []) ≡ lines_told rows levels ++ line_told row level ∷ []
told_more [] [] row level e = refl
told_more [] (l ∷ levels) row level e = absurd (omega (arith, e))
told_more (r ∷ rows) [] row level e = absurd (omega (arith, e))
told_more (r ∷ rows) (l ∷ levels) row level e = ap (λ (ls : List Line). line_told r l ∷ ls) (told_more rows levels row level (omega (arith, e)))

own_level : (rows : List ULine) (levels : List ℕ) (d : ULine) → length levels < length rows
    → lines_told rows (levels ++ (slice_index_or rows (length levels) d).level ∷ []) ≡ lines_told rows levels
own_level [] levels d e = absurd (omega (arith, e))
own_level (r ∷ rows) [] d e = refl
own_level (r ∷ rows) (l ∷ levels) d e = ap (λ (ls : List Line). line_told r l ∷ ls) (own_level rows levels d (omega (arith, e)))

-- where the level of a comment before a line is the line's own, it may be kept
pub level_kept : (rows : List ULine) (levels more : List ℕ) (n : ℕ) (d : ULine) → n ≡ length levels → n < length rows
    → more ≡ levels ++ (slice_index_or rows n d).level ∷ [] → lines_told rows more ≡ lines_told rows levels
level_kept rows levels more n d is lt e =
    ap (λ (x : List ℕ). lines_told rows x) (e ∙ ap (λ (k : ℕ). levels ++ (slice_index_or rows k d).level ∷ []) is)
    ∙ own_level rows levels d (omega (arith, is, lt))

pub line_of_each_row : (rows : List ULine) (levels : List ℕ) → length (lines_told rows levels) ≡ length rows
line_of_each_row [] levels = refl
line_of_each_row (r ∷ rows) [] = ap suc (line_of_each_row rows [])
line_of_each_row (r ∷ rows) (l ∷ levels) = ap suc (line_of_each_row rows levels)

pub told_at : (rows : List ULine) (levels : List ℕ) (n : ℕ) (row : ULine) (level : ℕ) → n < length rows
    → row ≡ slice_index_or rows n row → level ≡ slice_index_or levels n row.level → Some (line_told row level) ≡ slice_get (lines_told rows levels) n
told_at [] levels n row level lt er el = absurd (omega (arith, lt))
told_at (r ∷ rows) [] zero row level lt er el = ap (λ (x : ℕ). Some (line_told row x)) el ∙ ap (λ (x : ULine). Some (line_told x x.level)) er
told_at (r ∷ rows) (l ∷ levels) zero row level lt er el = ap (λ (x : ULine). Some (line_told x level)) er ∙ ap (λ (x : ℕ). Some (line_told r x)) el
told_at (r ∷ rows) [] (suc n) row level lt er el = told_at rows [] n row level (omega (arith, lt)) er el
told_at (r ∷ rows) (l ∷ levels) (suc n) row level lt er el = told_at rows levels n row level (omega (arith, lt)) er el

row_back : (row : ULine) (level : ℕ) → row ≡ row_of (line_told row level)
row_back row level = let e : row.last ≡ row.last + 1 - 1 = omega arith in ap (λ (n : ℕ). record row { last = n }) e

pub told_rows : (rows : List ULine) (levels : List ℕ) → rows ≡ map row_of (lines_told rows levels)
told_rows [] levels = refl
told_rows (r ∷ rows) [] =
    ap (λ (x : ULine). x ∷ rows) (row_back r r.level) ∙ ap (λ (xs : List ULine). row_of (line_told r r.level) ∷ xs) (told_rows rows [])
told_rows (r ∷ rows) (l ∷ levels) =
    ap (λ (x : ULine). x ∷ rows) (row_back r l) ∙ ap (λ (xs : List ULine). row_of (line_told r l) ∷ xs) (told_rows rows levels)

line_back : (line : Line) → 0 < line.end → line_told (row_of line) line.list_level ≡ line
line_back line some = let e : line.end - 1 + 1 ≡ line.end = omega (arith, some) in ap (λ (n : ℕ). record line { end = n }) e

-- a line at whose level a comment before it stands
pub told_pushed : (rows rows0 rows1 : List ULine) (levels : List ℕ) (now : List Line) (line : Line) → length levels ≤ length rows → rows0 ≡ rows → rows1 ≡ rows0 ++ row_of line ∷ []
    → line.list_level ≡ line.level → lines_told rows levels ≡ now → 0 < line.end → lines_told rows1 levels ≡ now ++ line ∷ []
told_pushed rows rows0 rows1 levels now line count r0 er same is some =
    ap (λ (x : List ULine). lines_told x levels) (er ∙ ap (λ (x : List ULine). x ++ row_of line ∷ []) r0)
    ∙ told_behind rows levels (row_of line) count
    ∙ ap (λ (n : ℕ). lines_told rows levels ++ line_told (row_of line) n ∷ []) (sym same)
    ∙ ap (λ (x : Line). lines_told rows levels ++ x ∷ []) (line_back line some)
    ∙ ap (λ (x : List Line). x ++ line ∷ []) is

-- one before which it stands at another
pub told_apart : (rows rows0 seen rows1 : List ULine) (levels levels0 levels1 : List ℕ) (now : List Line) (line : Line) → rows0 ≡ rows → seen ≡ rows0 → rows1 ≡ rows0 ++ row_of line ∷ []
    → lines_told seen levels0 ≡ lines_told seen levels → length levels0 ≡ length seen → levels1 ≡ levels0 ++ line.list_level ∷ []
    → lines_told rows levels ≡ now → 0 < line.end → lines_told rows1 levels1 ≡ now ++ line ∷ []
told_apart rows rows0 seen rows1 levels levels0 levels1 now line r0 rs er kept count el is some =
    ap (λ (x : List ULine). lines_told x levels1) (er ∙ ap (λ (x : List ULine). x ++ row_of line ∷ []) (sym rs))
    ∙ ap (λ (x : List ℕ). lines_told (seen ++ row_of line ∷ []) x) el
    ∙ told_more seen levels0 (row_of line) line.list_level count
    ∙ ap (λ (x : Line). lines_told seen levels0 ++ x ∷ []) (line_back line some)
    ∙ ap (λ (x : List Line). x ++ line ∷ []) (kept ∙ ap (λ (x : List ULine). lines_told x levels) (rs ∙ r0) ∙ is)
