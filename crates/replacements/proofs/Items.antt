-- The items from a place on, and the gaps between them.
use Rattle.std.proofs.Common.{◌≡◌, ◌&&◌, not, ◌<◌, ◌≤◌, ℕ, zero, suc, ◌+◌, ◌-◌, Bool, true, false, List, [], ◌∷◌, length, take, drop, subst, length-append, length-drop, refl, sym, ap, ◌∙◌, arith, add-one, Some, slice_get, get_or, drop-cons, below_more}
use Rattle.std.specs.Prelude.{if◌then◌else◌}
use Rattle.std.proofs.lemmas.Option.{slice_get_within, get_or_from_slice_get}
use Rattle.std.proofs.lemmas.List.{drop_all, take-append-drop}
use Rattle.c_chars.specs.Characters.{mark_len}
use Rattle.c_chars.specs.declared.Dialect.{Dialect}
use Rattle.c_chars.specs.declared.TheConstants.{LIMIT}
use Rattle.c_grammar.specs.Fitting.{is_comment}
use Rattle.c_grammar.specs.Text.{ReadItem, start_of, end_of}
use Rattle.token_arena.specs.Stored.{Stored, stored_of, stored_from}
use Rattle.token_arena.specs.Gaps.{Contents, behind, gap_of, gap_from, gap_start}
use Rattle.token_arena.specs.Holds.{HoldsItems}
use Rattle.token_arena.specs.Directives.{is_hash_token}
use Rattle.replacements.specs.Guards.{guard_before, guard_from, guard_of}
use Rattle.replacements.specs.Stances.{hash_comes, IsKnown}
use Rattle.replacements.specs.declared.guard.Guard.{Guard}
use Rattle.replacements.specs.declared.guard.Guard.TheVariants.{Free}

-- the token at this place comes next
pub drop_next : (tokens : List Stored) (place : ℕ) (token : Stored) → slice_get tokens place ≡ Some token → drop place tokens ≡ token ∷ drop (place + 1) tokens
drop_next tokens place token is =
    let within : place < length tokens = slice_get_within tokens place token is in
    let same : get_or tokens place token ≡ token = get_or_from_slice_get tokens place token token is in
    let next : drop place tokens ≡ get_or tokens place token ∷ drop (suc place) tokens = drop-cons tokens place token within in
    next ∙ (ap (λ (t : Stored). t ∷ drop (suc place) tokens) same ∙ ap (λ (n : ℕ). token ∷ drop n tokens) (sym (add-one place)))

-- whether a `#` comes, from an item on
pub hash_at : (d : Dialect) (tokens : List Stored) (place : ℕ) (t : Stored) → slice_get tokens place ≡ Some t →
    hash_comes d (drop place tokens) ≡ (not t.gap.began && (if is_comment t.kind then hash_comes d (drop (place + 1) tokens) else is_hash_token d t))
hash_at d tokens place t is = ap (hash_comes d) (drop_next tokens place t is)

pub hash_began : (d : Dialect) (tokens : List Stored) (place : ℕ) (t : Stored) → slice_get tokens place ≡ Some t → t.gap.began ≡ true → hash_comes d (drop place tokens) ≡ false
hash_began d tokens place t is began = hash_at d tokens place t is ∙ ap (λ b. not b && (if is_comment t.kind then hash_comes d (drop (place + 1) tokens) else is_hash_token d t)) began

pub hash_here : (d : Dialect) (tokens : List Stored) (place : ℕ) (t : Stored) → slice_get tokens place ≡ Some t → t.gap.began ≡ false → is_comment t.kind ≡ false → hash_comes d (drop place tokens) ≡ is_hash_token d t
hash_here d tokens place t is began other =
    hash_at d tokens place t is
    ∙ (ap (λ b. not b && (if is_comment t.kind then hash_comes d (drop (place + 1) tokens) else is_hash_token d t)) began
    ∙ ap (λ b. if b then hash_comes d (drop (place + 1) tokens) else is_hash_token d t) other)

pub hash_on : (d : Dialect) (tokens : List Stored) (place : ℕ) (t : Stored) → slice_get tokens place ≡ Some t → t.gap.began ≡ false → is_comment t.kind ≡ true → hash_comes d (drop place tokens) ≡ hash_comes d (drop (place + 1) tokens)
hash_on d tokens place t is began comment =
    hash_at d tokens place t is
    ∙ (ap (λ b. not b && (if is_comment t.kind then hash_comes d (drop (place + 1) tokens) else is_hash_token d t)) began
    ∙ ap (λ b. if b then hash_comes d (drop (place + 1) tokens) else is_hash_token d t) comment)

-- the answer is one for all items up to this one
pub IsOne : Dialect → List Stored → ℕ → ℕ → Type 0
IsOne d tokens place at = (k : ℕ) → place ≤ k → k < at → hash_comes d (drop k tokens) ≡ hash_comes d (drop at tokens)

pub one_begun : (d : Dialect) (tokens : List Stored) (place : ℕ) → IsOne d tokens place place
unfolding IsOne
one_begun d tokens place k a b = absurd (omega arith)

pub one_more : (d : Dialect) (tokens : List Stored) (place at : ℕ) (t : Stored) → IsOne d tokens place at → slice_get tokens at ≡ Some t → t.gap.began ≡ false → is_comment t.kind ≡ true → IsOne d tokens place (at + 1)
unfolding IsOne
one_more d tokens place at t one is began comment =
    let on = hash_on d tokens at t is began comment in
    λ k a b. below_more (λ k. place ≤ k → hash_comes d (drop k tokens) ≡ hash_comes d (drop (at + 1) tokens)) at (λ k b a. one k a b ∙ on) (λ a. on) k b a

pub known_at : (d : Dialect) (tokens : List Stored) (place at : ℕ) (hash : Bool) → IsOne d tokens place at → hash_comes d (drop at tokens) ≡ hash → IsKnown d tokens place (at + 1) hash
unfolding IsOne
known_at d tokens place at hash one is = λ k a b. below_more (λ k. place ≤ k → hash_comes d (drop k tokens) ≡ hash) at (λ k b a. one k a b ∙ is) (λ a. is) k b a

pub drop_all_at : (tokens : List Stored) (at : ℕ) → length tokens ≤ at → drop at tokens ≡ []
drop_all_at tokens at past = drop_all at tokens past

pub known_end : (d : Dialect) (tokens : List Stored) (place at count : ℕ) → IsOne d tokens place at → length tokens ≤ at → count ≤ at → IsKnown d tokens place count false
unfolding IsOne
known_end d tokens place at count one past few = λ k a b. one k a (omega arith) ∙ ap (hash_comes d) (drop_all_at tokens at past)

piece_fits : (n m : ℕ) (text : List ℕ) → length (take n (drop m text)) ≤ length text
piece_fits n m text =
    let front = ap length (take-append-drop n (drop m text)) in
    omega (arith, front, length-append (take n (drop m text)) (drop n (drop m text)), length-drop m text)

none_there : (k : ℕ) (t : Stored) → slice_get [] k ≡ Some t → ⊥
none_there k t is = let within : k < length {A = Stored} [] = slice_get_within [] k t is in omega (arith, within)

stored_fits : (text : List ℕ) (first : Bool) (from : ℕ) (items : List ReadItem) (k : ℕ) (t : Stored) → slice_get (stored_from text first from items) k ≡ Some t → length t.raw ≤ length text
stored_fits text first from [] k t is = absurd (none_there k t is)
stored_fits text first from (i ∷ items) zero t is =
    let same : stored_of text first from i ≡ t = cc in
    subst (λ (x : Stored). length x.raw ≤ length text) same (piece_fits (end_of i - start_of i) (start_of i) text)
stored_fits text first from (i ∷ items) (suc k) t is = stored_fits text false (end_of i) items k t is

pub raw_fits : (arena : Contents) (k : ℕ) (t : Stored) → HoldsItems arena → length arena.text ≤ LIMIT → slice_get arena.tokens k ≡ Some t → length t.raw ≤ LIMIT
raw_fits arena k t holds fits is =
    let few : length t.raw ≤ length arena.text = stored_fits arena.text true (mark_len arena.text) holds.items k t (ap (λ z. slice_get z k) (sym holds.tokens) ∙ is) in
    omega (arith, few, fits)

start_next : (at : ℕ) (tokens : List Stored) (place : ℕ) (t : Stored) → slice_get tokens place ≡ Some t → gap_start at tokens (suc place) ≡ behind t
start_next at [] place t is = absurd (none_there place t is)
start_next at (x ∷ xs) zero t is = let same : x ≡ t = cc in ap behind same
start_next at (x ∷ xs) (suc place) t is = start_next (behind x) xs place t is

pub gap_start-next : (at : ℕ) (tokens : List Stored) (place : ℕ) (t : Stored) → slice_get tokens place ≡ Some t → gap_start at tokens (place + 1) ≡ behind t
gap_start-next at tokens place t is = ap (λ n. gap_start at tokens n) (add-one place) ∙ start_next at tokens place t is

guards_next : (g : Guard) (tokens : List Stored) (place : ℕ) (t : Stored) → slice_get tokens place ≡ Some t → guard_from g tokens (suc place) ≡ guard_of t
guards_next g [] place t is = absurd (none_there place t is)
guards_next g (x ∷ xs) zero t is = let same : x ≡ t = cc in ap guard_of same
guards_next g (x ∷ xs) (suc place) t is = guards_next (guard_of x) xs place t is

-- the guard behind an item
pub guard_next : (tokens : List Stored) (place : ℕ) (t : Stored) → slice_get tokens place ≡ Some t → guard_before tokens (place + 1) ≡ guard_of t
guard_next tokens place t is = ap (λ n. guard_before tokens n) (add-one place) ∙ guards_next Free tokens place t is

pub gap_there : (text : List ℕ) (at : ℕ) (tokens : List Stored) (place : ℕ) (t : Stored) → slice_get tokens place ≡ Some t → gap_from text at tokens place ≡ take (t.start - gap_start at tokens place) (drop (gap_start at tokens place) text)
gap_there text at [] place t is = absurd (none_there place t is)
gap_there text at (x ∷ xs) zero t is = let same : x ≡ t = cc in ap (λ (z : Stored). take (z.start - at) (drop at text)) same
gap_there text at (x ∷ xs) (suc place) t is = gap_there text (behind x) xs place t is

pub gap_last : (text : List ℕ) (at : ℕ) (tokens : List Stored) (place : ℕ) → place ≡ length tokens → gap_from text at tokens place ≡ drop (gap_start at tokens place) text
gap_last text at [] zero is = refl
gap_last text at [] (suc place) is = absurd (omega (arith, is))
gap_last text at (x ∷ xs) zero is = absurd (omega (arith, is))
gap_last text at (x ∷ xs) (suc place) is = gap_last text (behind x) xs place (omega (arith, is))

-- the last gap is no more than its text
pub gap_fits : (arena : Contents) (place : ℕ) → place ≡ length arena.tokens → length arena.text ≤ LIMIT → length (gap_of arena place) ≤ LIMIT
gap_fits arena place is fits =
    let start = gap_start (mark_len arena.text) arena.tokens place in
    let long = ap length (gap_last arena.text (mark_len arena.text) arena.tokens place is) in
    omega (arith, long, fits, length-drop start arena.text)
