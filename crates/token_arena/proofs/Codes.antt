-- The items that are no comments, one by one.
use Rattle.std.proofs.Common.{◌≡◌, ◌∙◌, ℕ, ◌+◌, ◌<◌, ◌≤◌, Bool, true, false, not, Some, List, [], ◌∷◌, length, refl, ap, arith, slice_get}
use Rattle.std.specs.List.{slice_range}
use Rattle.std.specs.Prelude.{if◌then◌else◌}
use Rattle.c_grammar.specs.Fitting.{is_comment}
use Rattle.token_arena.specs.Stored.{Stored}
use Rattle.token_arena.specs.Directives.{past_comments}
use Rattle.token_arena.specs.Keeping.{without_comments, operand, is_file_name, is_one_file_name}
use Rattle.token_arena.proofs.Ranges.{range_more}

pub code_stops : (t : Stored) (rest : List Stored) → is_comment t.kind ≡ false → past_comments (t ∷ rest) ≡ t ∷ rest
code_stops t rest h = rw h refl

pub code_goes : (t : Stored) (rest : List Stored) → is_comment t.kind ≡ true → past_comments (t ∷ rest) ≡ past_comments rest
code_goes t rest h = rw h refl

pub code_here : (xs : List Stored) (at end : ℕ) (t : Stored) → at < end → slice_get xs at ≡ Some t → is_comment t.kind ≡ false → past_comments (slice_range xs at end) ≡ t ∷ slice_range xs (at + 1) end
code_here xs at end t less is h = ap past_comments (range_more xs at end t less is) ∙ code_stops t (slice_range xs (at + 1) end) h

pub code_later : (xs : List Stored) (at end : ℕ) (t : Stored) → at < end → slice_get xs at ≡ Some t → is_comment t.kind ≡ true → past_comments (slice_range xs at end) ≡ past_comments (slice_range xs (at + 1) end)
code_later xs at end t less is h = ap past_comments (range_more xs at end t less is) ∙ code_goes t (slice_range xs (at + 1) end) h

shorter : (b : Bool) (t : Stored) (xs : List Stored) → length (past_comments xs) ≤ length xs → length (if b then past_comments xs else t ∷ xs) ≤ length (t ∷ xs)
shorter true t xs h = omega (arith, h)
shorter false t xs h = omega arith

pub codes_within : (xs : List Stored) → length (past_comments xs) ≤ length xs
codes_within [] = omega arith
codes_within (t ∷ xs) = shorter (is_comment t.kind) t xs (codes_within xs)

-- The items that are no comments, from the first of them on.

none_kept : (xs : List Stored) → past_comments xs ≡ [] → without_comments xs ≡ []
none_kept [] e = refl
none_kept (t ∷ xs) e = choice (is_comment t.kind) (λ h. none_kept xs h) e
  where
    choice : (b : Bool) → (past_comments xs ≡ [] → without_comments xs ≡ []) → (if b then past_comments xs else t ∷ xs) ≡ [] → (if not b then t ∷ without_comments xs else without_comments xs) ≡ []
    choice true rest e = rest e
    choice false rest e = cc

some_kept : (xs : List Stored) (x : Stored) (rest : List Stored) → past_comments xs ≡ x ∷ rest → without_comments xs ≡ x ∷ without_comments rest
some_kept [] x rest e = cc
some_kept (t ∷ xs) x rest e = choice (is_comment t.kind) (λ h. some_kept xs x rest h) e
  where
    choice : (b : Bool) → (past_comments xs ≡ x ∷ rest → without_comments xs ≡ x ∷ without_comments rest) → (if b then past_comments xs else t ∷ xs) ≡ x ∷ rest → (if not b then t ∷ without_comments xs else without_comments xs) ≡ x ∷ without_comments rest
    choice true more e = more e
    choice false more e =
        let head : t ≡ x = cc in
        let tail : xs ≡ rest = cc in
        rw (head, tail) refl

pub no_name : (xs : List Stored) → past_comments xs ≡ [] → false ≡ is_one_file_name (operand xs)
no_name xs e = rw (none_kept xs e) refl

pub no_file : (xs one : List Stored) (name : Stored) → past_comments xs ≡ name ∷ one → past_comments one ≡ [] → false ≡ is_one_file_name (operand xs)
no_file xs one name e f = rw (some_kept xs name one e, none_kept one f) refl

pub two_files : (xs one two more : List Stored) (name file other : Stored) → past_comments xs ≡ name ∷ one → past_comments one ≡ file ∷ two → past_comments two ≡ other ∷ more → false ≡ is_one_file_name (operand xs)
two_files xs one two more name file other e f g = rw (some_kept xs name one e, some_kept one file two f, some_kept two other more g) refl

pub one_file : (xs one two : List Stored) (name file : Stored) → past_comments xs ≡ name ∷ one → past_comments one ≡ file ∷ two → past_comments two ≡ [] → is_file_name file.kind ≡ is_one_file_name (operand xs)
one_file xs one two name file e f g = rw (some_kept xs name one e, some_kept one file two f, none_kept two g) refl
