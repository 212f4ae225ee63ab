-- The tokens of both parts.
use Rattle.std.proofs.Common.{◌≡◌, ◌∙◌, ◌==◌, ℕ, ◌+◌, ◌-◌, ◌<◌, ◌≤◌, Bool, false, not, ◌&&◌, ◌||◌, List, [], ◌∷◌, ◌++◌}
use Rattle.std.proofs.Common.{length, get_or, refl, sym, ap, arith}
use Rattle.std.specs.Prelude.{nat_lt}
use Rattle.std.proofs.lemmas.Bool.{lt-ltb}
use Rattle.std.proofs.lemmas.List.{get_or-append-add}
use Rattle.std.proofs.Math.ListN.{get_or-append}
use Rattle.line_tokens.specs.declared.LineTok.{LineTok}
use Rattle.token_arena.specs.Gaps.{Contents}
use Rattle.token_roles.specs.declared.mark.Mark.{Mark}
use Rattle.token_roles.specs.Classes.{is_hash}
use Rattle.token_roles.specs.Held.{is_inner, is_held}
use Rattle.view_tokens.specs.Tokens.{tok_of, toks_from}
use Rattle.item_classes.specs.Items.{stands_apart}
use Rattle.part_laws.specs.RolesCut.{ends_inner, with_first_apart}

-- the last of these marks is that of an inner comment
abbrev pub last_inner : Bool → List Mark → Bool
last_inner last [] = last
last_inner last (mark ∷ marks) = last_inner (is_inner mark.seen.role) marks

pub ends_so : (arena : Contents) (ids : List ℕ) (k : ℕ) (last : Bool) (marks : List Mark) → ends_inner last (toks_from arena ids k marks) ≡ last_inner last marks
ends_so arena ids k last [] = refl
ends_so arena ids k last (mark ∷ marks) = ends_so arena ids (k + 1) (is_inner mark.seen.role) marks

-- nothing before the cut is held by what stands behind it
held_on : (mark : Mark) (marks later : List Mark) → last_inner (is_inner mark.seen.role) marks ≡ false → is_held (mark ∷ (marks ++ later)) ≡ is_held (mark ∷ marks)
held_on mark [] later none = rw none refl
held_on mark (next ∷ marks) later none = ap (λ (b : Bool). is_hash mark.seen.class || (is_inner mark.seen.role && b)) (held_on next marks later none)

apart_before : (ids more : List ℕ) (k : ℕ) → k < length ids → stands_apart (ids ++ more) k ≡ stands_apart ids k
apart_before ids more k within =
    ap (λ (x : ℕ). nat_lt 0 k && not (x == get_or (ids ++ more) (k - 1) 0 + 1)) (get_or-append ids more 0 k within)
    ∙ ap (λ (x : ℕ). nat_lt 0 k && not (get_or ids k 0 == x + 1)) (get_or-append ids more 0 (k - 1) (omega (arith, within)))

pub toks_before : (arena : Contents) (ids more : List ℕ) (k : ℕ) (last : Bool) (marks later : List Mark) → k + length marks ≤ length ids → last_inner last marks ≡ false
    → toks_from arena (ids ++ more) k (marks ++ later) ≡ toks_from arena ids k marks ++ toks_from arena (ids ++ more) (k + length marks) later
toks_before arena ids more k last [] later within none =
    let same : k ≡ k + 0 = omega arith in
    ap (λ (n : ℕ). toks_from arena (ids ++ more) n later) same
toks_before arena ids more k last (mark ∷ marks) later within none =
    let here : k < length ids = omega (arith, within) in
    let held = held_on mark marks later none in
    let on : k + 1 + length marks ≡ k + length (mark ∷ marks) = omega arith in
    let rest = toks_before arena ids more (k + 1) (is_inner mark.seen.role) marks later (omega (arith, within)) none in
    ap (λ (i : ℕ). tok_of arena i (stands_apart (ids ++ more) k) mark (is_held (mark ∷ (marks ++ later))) ∷ toks_from arena (ids ++ more) (k + 1) (marks ++ later)) (get_or-append ids more 0 k here)
    ∙ (ap (λ (b : Bool). tok_of arena (get_or ids k 0) b mark (is_held (mark ∷ (marks ++ later))) ∷ toks_from arena (ids ++ more) (k + 1) (marks ++ later)) (apart_before ids more k here)
    ∙ (ap (λ (b : Bool). tok_of arena (get_or ids k 0) (stands_apart ids k) mark b ∷ toks_from arena (ids ++ more) (k + 1) (marks ++ later)) held
    ∙ ap (λ (ts : List LineTok). tok_of arena (get_or ids k 0) (stands_apart ids k) mark (is_held (mark ∷ marks)) ∷ ts)
    (rest ∙ ap (λ (n : ℕ). toks_from arena ids (k + 1) marks ++ toks_from arena (ids ++ more) n later) on)))

apart_behind : (before ids : List ℕ) (k : ℕ) → 0 < k → stands_apart (before ++ ids) (length before + k) ≡ stands_apart ids k
apart_behind before ids k some =
    let n : ℕ = length before in
    let less : n + k - 1 ≡ n + (k - 1) = omega (arith, some) in
    let both : nat_lt 0 (n + k) ≡ nat_lt 0 k = lt-ltb 0 (n + k) (omega (arith, some)) ∙ sym (lt-ltb 0 k some) in
    ap (λ (b : Bool). b && not (get_or (before ++ ids) (n + k) 0 == get_or (before ++ ids) (n + k - 1) 0 + 1)) both
    ∙ (ap (λ (x : ℕ). nat_lt 0 k && not (x == get_or (before ++ ids) (n + k - 1) 0 + 1)) (get_or-append-add before ids k 0)
    ∙ ap (λ (x : ℕ). nat_lt 0 k && not (get_or ids k 0 == x + 1)) (ap (λ j. get_or (before ++ ids) j 0) less ∙ get_or-append-add before ids (k - 1) 0))

toks_behind : (arena : Contents) (before ids : List ℕ) (k : ℕ) (marks : List Mark) → 0 < k → toks_from arena (before ++ ids) (length before + k) marks ≡ toks_from arena ids k marks
toks_behind arena before ids k [] some = refl
toks_behind arena before ids k (mark ∷ marks) some =
    let n : ℕ = length before in
    let on : n + k + 1 ≡ n + (k + 1) = omega arith in
    let rest : toks_from arena (before ++ ids) (n + k + 1) marks ≡ toks_from arena ids (k + 1) marks =
    ap (λ (j : ℕ). toks_from arena (before ++ ids) j marks) on ∙ toks_behind arena before ids (k + 1) marks (omega arith) in
    ap (λ (i : ℕ). tok_of arena i (stands_apart (before ++ ids) (n + k)) mark (is_held (mark ∷ marks)) ∷ toks_from arena (before ++ ids) (n + k + 1) marks) (get_or-append-add before ids k 0)
    ∙ (ap (λ (b : Bool). tok_of arena (get_or ids k 0) b mark (is_held (mark ∷ marks)) ∷ toks_from arena (before ++ ids) (n + k + 1) marks) (apart_behind before ids k some)
    ∙ ap (λ (ts : List LineTok). tok_of arena (get_or ids k 0) (stands_apart ids k) mark (is_held (mark ∷ marks)) ∷ ts) rest)

-- the first token behind the cut tells of the item before it
pub toks_behind_cut : (arena : Contents) (before ids : List ℕ) (marks : List Mark)
    → toks_from arena (before ++ ids) (length before) marks ≡ with_first_apart (stands_apart (before ++ ids) (length before)) (toks_from arena ids 0 marks)
toks_behind_cut arena before ids [] = refl
toks_behind_cut arena before ids (mark ∷ marks) =
    let n : ℕ = length before in
    let same : n ≡ n + 0 = omega arith in
    let item : get_or (before ++ ids) n 0 ≡ get_or ids 0 0 = ap (λ j. get_or (before ++ ids) j 0) same ∙ get_or-append-add before ids 0 0 in
    ap (λ (i : ℕ). tok_of arena i (stands_apart (before ++ ids) n) mark (is_held (mark ∷ marks)) ∷ toks_from arena (before ++ ids) (n + 1) marks) item
    ∙ ap (λ (ts : List LineTok). tok_of arena (get_or ids 0 0) (stands_apart (before ++ ids) n) mark (is_held (mark ∷ marks)) ∷ ts) (toks_behind arena before ids 1 marks (omega arith))
