-- The tokens of a view, and those whose items follow one another.
use Rattle.std.proofs.Common.{◌≡◌, ◌∙◌, ℕ, zero, suc, ◌+◌, ◌-◌, ◌<◌, ◌≤◌, ◌==◌, ◌&&◌, Bool, true, false, List, [], ◌∷◌, ◌++◌, length, drop, take, get_or, refl, sym, ap, arith, subst, Some}
use Rattle.std.proofs.Common.{length-drop}
use Rattle.std.specs.Prelude.{slice_get}
use Rattle.std.proofs.lemmas.List.{get_or-take, length-take-le, take_at}
use Rattle.std.proofs.lemmas.Option.{get_or_from_slice_get}
use Rattle.std.proofs.Math.Dec.{eqb-suc-zero}
use Rattle.line_tokens.specs.declared.LineTok.{LineTok}
use Rattle.token_arena.specs.Gaps.{Contents}
use Rattle.token_roles.specs.declared.mark.Mark.{Mark}
use Rattle.token_roles.specs.Held.{is_held}
use Rattle.item_classes.specs.Items.{stands_apart}
use Rattle.item_classes.specs.Viewed.{AreWithin}
use Rattle.view_tokens.specs.Tokens.{tok_of, toks_from}
use Rattle.view_tokens.specs.Inside.{IsRowStart}
use Rattle.view_tokens.specs.declared.start.RowStart.{RowStart}
use Rattle.view_tokens.specs.Row.{row_from, row_of, IsRow}
use Rattle.view_tokens.proofs.Pushed.{no_mark, follows}
use Rattle.view_tokens.proofs.Told.{as_many_from}

-- ## Of a view

pub toks_at : (arena : Contents) (ids : List ℕ) (marks : List Mark) (at k : ℕ) (d : LineTok) → k < length marks
    → get_or (toks_from arena ids at marks) k d ≡ tok_of arena (get_or ids (at + k) 0) (stands_apart ids (at + k)) (get_or marks k no_mark) (is_held (drop k marks))
toks_at arena ids [] at k d within = absurd (omega (arith, within))
toks_at arena ids (mark ∷ marks) at zero d within =
    let here : at ≡ at + 0 = omega arith in
    ap (λ n. tok_of arena (get_or ids n 0) (stands_apart ids n) mark (is_held (mark ∷ marks))) here
toks_at arena ids (mark ∷ marks) at (suc k) d within =
    let there : at + 1 + k ≡ at + suc k = omega arith in
    toks_at arena ids marks (at + 1) k d (omega (arith, within)) ∙ ap (λ n. tok_of arena (get_or ids n 0) (stands_apart ids n) (get_or marks k no_mark) (is_held (drop k marks))) there

pub view_token : (arena : Contents) (ids : List ℕ) (marks : List Mark) (k : ℕ) (d : LineTok) → k < length marks
    → get_or (toks_from arena ids 0 marks) k d ≡ tok_of arena (get_or ids k 0) (stands_apart ids k) (get_or marks k no_mark) (is_held (drop k marks))
view_token arena ids marks k d within =
    let here : 0 + k ≡ k = omega arith in
    toks_at arena ids marks 0 k d within ∙ ap (λ n. tok_of arena (get_or ids n 0) (stands_apart ids n) (get_or marks k no_mark) (is_held (drop k marks))) here

pub view_count : (arena : Contents) (ids : List ℕ) (marks : List Mark) (toks : List LineTok) → toks ≡ toks_from arena ids 0 marks → length toks ≡ length marks
view_count arena ids marks toks is = ap length is ∙ as_many_from arena ids marks 0

toks_drop : (arena : Contents) (ids : List ℕ) (marks : List Mark) (at n : ℕ) → drop n (toks_from arena ids at marks) ≡ toks_from arena ids (at + n) (drop n marks)
toks_drop arena ids marks at zero =
    let here : at ≡ at + 0 = omega arith in
    ap (λ k. toks_from arena ids k marks) here
toks_drop arena ids [] at (suc n) = refl
toks_drop arena ids (mark ∷ marks) at (suc n) =
    let there : at + 1 + n ≡ at + suc n = omega arith in
    toks_drop arena ids marks (at + 1) n ∙ ap (λ k. toks_from arena ids k (drop n marks)) there

-- tokens from one place on are a range of the view's
pub range_from : (arena : Contents) (ids : List ℕ) (marks : List Mark) (toks : List LineTok) (first count : ℕ) → toks ≡ toks_from arena ids 0 marks
    → take count (toks_from arena ids first (drop first marks)) ≡ take count (drop first toks)
range_from arena ids marks toks first count is =
    let here : 0 + first ≡ first = omega arith in
    ap (λ k. take count (toks_from arena ids k (drop first marks))) (sym here)
    ∙ (ap (λ (ts : List LineTok). take count ts) (sym (toks_drop arena ids marks 0 first)) ∙ ap (λ (ts : List LineTok). take count (drop first ts)) (sym is))

-- those that are made are
pub made_range : (arena : Contents) (ids : List ℕ) (marks : List Mark) (toks made later : List LineTok) (first count : ℕ) → toks ≡ toks_from arena ids 0 marks
    → length made ≡ count → made ++ later ≡ toks_from arena ids first (drop first marks) → made ≡ take count (drop first toks)
made_range arena ids marks toks made later first count is many all =
    sym (take_at made later count many) ∙ (ap (λ (ts : List LineTok). take count ts) all ∙ range_from arena ids marks toks first count is)

-- ## In a row

-- whether a directive stands before one of them
abbrev apart_at : Bool → ℕ → Bool
apart_at apart zero = apart
apart_at apart (suc k) = false

not_apart : (k : ℕ) → apart_at false k ≡ false
not_apart zero = refl
not_apart (suc k) = refl

as_many_in : (arena : Contents) (marks : List Mark) (id : ℕ) (apart : Bool) → length (row_from arena id apart marks) ≡ length marks
as_many_in arena [] id apart = refl
as_many_in arena (mark ∷ marks) id apart = ap suc (as_many_in arena marks (id + 1) false)

row_at : (arena : Contents) (marks : List Mark) (id : ℕ) (apart : Bool) (k : ℕ) (d : LineTok) → k < length marks
    → get_or (row_from arena id apart marks) k d ≡ tok_of arena (id + k) (apart_at apart k) (get_or marks k no_mark) (is_held (drop k marks))
row_at arena [] id apart k d within = absurd (omega (arith, within))
row_at arena (mark ∷ marks) id apart zero d within =
    let here : id ≡ id + 0 = omega arith in
    ap (λ n. tok_of arena n apart mark (is_held (mark ∷ marks))) here
row_at arena (mark ∷ marks) id apart (suc k) d within =
    let there : id + 1 + k ≡ id + suc k = omega arith in
    row_at arena marks (id + 1) false k d (omega (arith, within))
    ∙ (ap (λ n. tok_of arena n (apart_at false k) (get_or marks k no_mark) (is_held (drop k marks))) there
    ∙ ap (λ (b : Bool). tok_of arena (id + suc k) b (get_or marks k no_mark) (is_held (drop k marks))) (not_apart k))

pub row_count : (arena : Contents) (id : ℕ) (apart : Bool) (marks : List Mark) (count : ℕ) (toks : List LineTok) → toks ≡ row_of arena id apart marks count → IsRow arena id marks count → length toks ≡ count
row_count arena id apart marks count toks is rule =
    ap length is ∙ length-take-le count (row_from arena id apart marks) (omega (arith, as_many_in arena marks id apart, rule.told))

pub row_token : (arena : Contents) (id : ℕ) (apart : Bool) (marks : List Mark) (count : ℕ) (toks : List LineTok) → toks ≡ row_of arena id apart marks count → IsRow arena id marks count
    → (k : ℕ) (d : LineTok) → k < length toks → get_or toks k d ≡ tok_of arena (id + k) (apart_at apart k) (get_or marks k no_mark) (is_held (drop k marks))
row_token arena id apart marks count toks is rule k d within =
    let many : length toks ≡ count = row_count arena id apart marks count toks is rule in
    ap (λ (ts : List LineTok). get_or ts k d) is
    ∙ (get_or-take count (row_from arena id apart marks) k d (omega (arith, many, within)) ∙ row_at arena marks id apart k d (omega (arith, many, within, rule.told)))

-- and of which this is told
pub row_marked : (arena : Contents) (id : ℕ) (apart : Bool) (marks : List Mark) (count : ℕ) (toks : List LineTok) → toks ≡ row_of arena id apart marks count → IsRow arena id marks count
    → (k : ℕ) (d : LineTok) (mark : Mark) → k < length toks → slice_get marks k ≡ Some mark → get_or toks k d ≡ tok_of arena (id + k) (apart_at apart k) mark (is_held (drop k marks))
row_marked arena id apart marks count toks is rule k d mark within told =
    row_token arena id apart marks count toks is rule k d within
    ∙ ap (λ (m : Mark). tok_of arena (id + k) (apart_at apart k) m (is_held (drop k marks))) (get_or_from_slice_get marks k mark no_mark told)

-- each of them is an item of the text, of which something is told
pub record IsIn (arena : Contents) (id : ℕ) (marks : List Mark) (k : ℕ) : Type 0 where
  pub item : id + k < length arena.tokens
  pub told : k < length marks

pub in_row : (arena : Contents) (id : ℕ) (apart : Bool) (marks : List Mark) (count : ℕ) (toks : List LineTok) → toks ≡ row_of arena id apart marks count → IsRow arena id marks count
    → (k : ℕ) → k < length toks → IsIn arena id marks k
in_row arena id apart marks count toks is rule k within =
    let many : length toks ≡ count = row_count arena id apart marks count toks is rule in
    record { item = omega (arith, many, within, rule.items); told = omega (arith, many, within, rule.told) }

-- no directive stands between two of them
pub together : (arena : Contents) (id : ℕ) (apart : Bool) (marks : List Mark) (count : ℕ) (toks : List LineTok) → toks ≡ row_of arena id apart marks count → IsRow arena id marks count
    → (k : ℕ) (d : LineTok) → 0 < k → k < length toks → (get_or toks k d).directive ≡ false
together arena id apart marks count toks is rule zero d some within = absurd (omega (arith, some))
together arena id apart marks count toks is rule (suc k) d some within = ap (λ (t : LineTok). t.directive) (row_token arena id apart marks count toks is rule (suc k) d within)

-- ## A row of a view

next_item : (ids : List ℕ) (k id count : ℕ) → ((j : ℕ) → j < suc count → get_or ids (k + j) 0 ≡ id + j) → (j : ℕ) → j < count → get_or ids (k + 1 + j) 0 ≡ id + 1 + j
next_item ids k id count items j below =
    let place : k + 1 + j ≡ k + (j + 1) = omega arith in
    ap (λ n. get_or ids n 0) place ∙ (items (j + 1) (omega (arith, below)) ∙ omega arith)

same_first : (arena : Contents) (ids : List ℕ) (k id : ℕ) (apart : Bool) (mark : Mark) (held : Bool) (later : List LineTok) → get_or ids (k + 0) 0 ≡ id + 0 → apart ≡ stands_apart ids k
    → tok_of arena id apart mark held ∷ later ≡ tok_of arena (get_or ids k 0) (stands_apart ids k) mark held ∷ later
same_first arena ids k id apart mark held later item is =
    let none : k ≡ k + 0 = omega arith in
    let at : get_or ids k 0 ≡ id = ap (λ n. get_or ids n 0) none ∙ (item ∙ omega arith) in
    ap (λ n. tok_of arena n apart mark held ∷ later) (sym at) ∙ ap (λ (b : Bool). tok_of arena (get_or ids k 0) b mark held ∷ later) is

same_row : (arena : Contents) (ids : List ℕ) (marks : List Mark) (count k id : ℕ) (apart : Bool) → ((j : ℕ) → j < count → get_or ids (k + j) 0 ≡ id + j) → apart ≡ stands_apart ids k
    → take count (row_from arena id apart marks) ≡ take count (toks_from arena ids k marks)
same_row arena ids marks zero k id apart items is = refl
same_row arena ids [] (suc count) k id apart items is = refl
same_row arena ids (mark ∷ marks) (suc zero) k id apart items is = same_first arena ids k id apart mark (is_held (mark ∷ marks)) [] (items 0 (omega arith)) is
same_row arena ids (mark ∷ marks) (suc (suc count)) k id apart items is =
    let none : k ≡ k + 0 = omega arith in
    let at : get_or ids k 0 ≡ id = ap (λ n. get_or ids n 0) none ∙ (items 0 (omega arith) ∙ omega arith) in
    let held : Bool = is_held (mark ∷ marks) in
    let rest : take (suc count) (row_from arena (id + 1) false marks) ≡ take (suc count) (toks_from arena ids (k + 1) marks) =
    same_row arena ids marks (suc count) (k + 1) (id + 1) false (next_item ids k id (suc count) items) (sym (follows ids k id at (items 1 (omega arith)))) in
    ap (λ (ts : List LineTok). tok_of arena id apart mark held ∷ ts) rest
    ∙ same_first arena ids k id apart mark held (take (suc count) (toks_from arena ids (k + 1) marks)) (items 0 (omega arith)) is

pub row_range : (arena : Contents) (ids : List ℕ) (marks : List Mark) (toks : List LineTok) (first count id : ℕ) (apart : Bool) → toks ≡ toks_from arena ids 0 marks
    → ((j : ℕ) → j < count → get_or ids (first + j) 0 ≡ id + j) → apart ≡ stands_apart ids first → row_of arena id apart (drop first marks) count ≡ take count (drop first toks)
row_range arena ids marks toks first count id apart is items apart_is =
    same_row arena ids (drop first marks) count first id apart items apart_is ∙ range_from arena ids marks toks first count is

-- each of them is an item of the text, of which something is told
pub row_within : (arena : Contents) (ids : List ℕ) (marks : List Mark) (first count id : ℕ) → AreWithin arena ids → length marks ≡ length ids → 0 < count → first + count ≤ length ids
    → ((j : ℕ) → j < count → get_or ids (first + j) 0 ≡ id + j) → IsRow arena id (drop first marks) count
row_within arena ids marks first count id within many some fits items =
    let last : get_or ids (first + (count - 1)) 0 ≡ id + (count - 1) = items (count - 1) (omega (arith, some)) in
    let below : get_or ids (first + (count - 1)) 0 < length arena.tokens = within (first + (count - 1)) 0 (omega (arith, some, fits)) in
    record { items = omega (arith, last, below, some); told = omega (arith, length-drop first marks, many, fits) }

-- those from a place on, as many as follow one another
pub row_on : (arena : Contents) (ids : List ℕ) (marks cut : List Mark) (first count : ℕ) (start : RowStart) → AreWithin arena ids → length marks ≡ length ids → 0 < count → first + count ≤ length ids → count ≤ start.count
    → IsRowStart ids first start → cut ≡ drop first marks → IsRow arena start.id cut count
row_on arena ids marks cut first count start within many some fits few is cut_is =
    subst (λ (ms : List Mark). IsRow arena start.id ms count) (sym cut_is) (row_within arena ids marks first count start.id within many some fits (λ j below. is.items j (omega (arith, below, few))))

-- ## One token

pub made_token : (arena : Contents) (ids : List ℕ) (marks : List Mark) (k id : ℕ) (apart : Bool) (tok d : LineTok) → k < length marks → get_or ids k 0 ≡ id → apart ≡ stands_apart ids k
    → tok ≡ tok_of arena id apart (get_or marks k no_mark) (is_held (drop k marks)) → tok ≡ get_or (toks_from arena ids 0 marks) k d
made_token arena ids marks k id apart tok d within at is made =
    made
    ∙ (ap (λ n. tok_of arena n apart (get_or marks k no_mark) (is_held (drop k marks))) (sym at)
    ∙ (ap (λ (b : Bool). tok_of arena (get_or ids k 0) b (get_or marks k no_mark) (is_held (drop k marks))) is ∙ sym (view_token arena ids marks k d within)))

pub first_apart : (apart : Bool) (k : ℕ) → (apart && k == 0) ≡ apart_at apart k
first_apart true zero = refl
first_apart false zero = refl
first_apart true (suc k) = eqb-suc-zero k
first_apart false (suc k) = refl

-- the same in a row
pub row_made : (arena : Contents) (id : ℕ) (apart : Bool) (marks : List Mark) (count : ℕ) (toks : List LineTok) → toks ≡ row_of arena id apart marks count → IsRow arena id marks count
    → (k item : ℕ) (tok d : LineTok) → k < length toks → item ≡ id + k → tok ≡ tok_of arena item (apart && k == 0) (get_or marks k no_mark) (is_held (drop k marks)) → tok ≡ get_or toks k d
row_made arena id apart marks count toks is rule k item tok d within at made =
    made
    ∙ (ap (λ n. tok_of arena n (apart && k == 0) (get_or marks k no_mark) (is_held (drop k marks))) at
    ∙ (ap (λ (b : Bool). tok_of arena (id + k) b (get_or marks k no_mark) (is_held (drop k marks))) (first_apart apart k) ∙ sym (row_token arena id apart marks count toks is rule k d within)))
