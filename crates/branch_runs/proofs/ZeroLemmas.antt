-- The items of a directive, one by one.
use Rattle.std.proofs.Common.{◌≡◌, ◌∙◌, ℕ, suc, ◌+◌, ◌-◌, ◌<◌, ◌≤◌, Bool, true, false, Some, List, [], ◌∷◌, length, drop, refl, sym, ap, arith, slice_get}
use Rattle.std.specs.Prelude.{if◌then◌else◌}
use Rattle.std.specs.List.{slice_range}
use Rattle.std.proofs.lemmas.List.{drop_more}
use Rattle.std.proofs.lemmas.Option.{slice_get_within, get_or_from_slice_get}
use Rattle.c_chars.specs.declared.Dialect.{Dialect}
use Rattle.c_grammar.specs.Fitting.{is_comment}
use Rattle.token_arena.specs.Stored.{Stored}
use Rattle.branch_runs.specs.Zero.{without_comments, is_zero, is_name_and_zero, tests_zero}
use Rattle.branch_runs.specs.Operands.{IsFirst}

pub range_none : (tokens : List Stored) (at end : ℕ) → end ≤ at → slice_range tokens at end ≡ []
range_none tokens at end h = let e : end - at ≡ 0 = omega arith in rw e refl

range_more : (tokens : List Stored) (at end : ℕ) (token : Stored) → at < end → slice_get tokens at ≡ Some token
    → slice_range tokens at end ≡ token ∷ slice_range tokens (at + 1) end
range_more tokens at end token h is =
    let within : at < length tokens = slice_get_within tokens at token is in
    let here : drop at tokens ≡ token ∷ drop (at + 1) tokens = drop_more tokens at token within ∙ ap (λ y. y ∷ drop (at + 1) tokens) (get_or_from_slice_get tokens at token token is) in
    let e : end - at ≡ suc (end - (at + 1)) = omega arith in
    rw (here, e) refl

-- the first of some items is a comment or not
first : (b : Bool) (token : Stored) (tokens : List Stored) → is_comment token.kind ≡ b
    → without_comments (token ∷ tokens) ≡ (if b then without_comments tokens else token ∷ without_comments tokens)
first b token tokens is = ap (λ c. if c then without_comments tokens else token ∷ without_comments tokens) is

pub comment_here : (tokens : List Stored) (at end : ℕ) (token : Stored) → at < end → slice_get tokens at ≡ Some token → is_comment token.kind ≡ true
    → without_comments (slice_range tokens at end) ≡ without_comments (slice_range tokens (at + 1) end)
comment_here tokens at end token h is comment = ap without_comments (range_more tokens at end token h is) ∙ first true token (slice_range tokens (at + 1) end) comment

pub token_here : (tokens : List Stored) (at end : ℕ) (token : Stored) → at < end → slice_get tokens at ≡ Some token → is_comment token.kind ≡ false
    → without_comments (slice_range tokens at end) ≡ token ∷ without_comments (slice_range tokens (at + 1) end)
token_here tokens at end token h is other = ap without_comments (range_more tokens at end token h is) ∙ first false token (slice_range tokens (at + 1) end) other

-- no item, one item, two items, or more are left
pub tests_none : (d : Dialect) (tokens : List Stored) (from end : ℕ) → without_comments (slice_range tokens from end) ≡ []
    → false ≡ tests_zero d (slice_range tokens from end)
tests_none d tokens from end none_left = ap (is_name_and_zero d) (sym none_left)

pub tests_name : (d : Dialect) (tokens : List Stored) (from end at : ℕ) (name : Stored) → IsFirst tokens from end at name
    → without_comments (slice_range tokens (at + 1) end) ≡ [] → false ≡ tests_zero d (slice_range tokens from end)
tests_name d tokens from end at name first none_left = ap (is_name_and_zero d) (sym (first.rest ∙ ap (λ xs. name ∷ xs) none_left))

pub tests_more : (d : Dialect) (tokens : List Stored) (from end at next last : ℕ) (name operand other : Stored) → IsFirst tokens from end at name
    → IsFirst tokens (at + 1) end next operand → IsFirst tokens (next + 1) end last other → false ≡ tests_zero d (slice_range tokens from end)
tests_more d tokens from end at next last name operand other first second third =
    ap (is_name_and_zero d) (sym (first.rest ∙ ap (λ xs. name ∷ xs) (second.rest ∙ ap (λ xs. operand ∷ xs) third.rest)))

pub tests_two : (d : Dialect) (tokens : List Stored) (from end at next : ℕ) (name operand : Stored) → IsFirst tokens from end at name
    → IsFirst tokens (at + 1) end next operand → without_comments (slice_range tokens (next + 1) end) ≡ []
    → is_zero d operand ≡ tests_zero d (slice_range tokens from end)
tests_two d tokens from end at next name operand first second none_left =
    ap (is_name_and_zero d) (sym (first.rest ∙ ap (λ xs. name ∷ xs) (second.rest ∙ ap (λ xs. operand ∷ xs) none_left)))
