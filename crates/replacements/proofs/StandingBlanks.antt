-- Blanks that stand in the input, told by the first byte behind the item before them.
use Rattle.std.proofs.Common.{◌≡◌, ◌∙◌, ◌<◌, ◌+◌, ◌-◌, ◌==◌, ◌⊎◌, ◌&&◌, ◌||◌, inl, inr, ℕ, Bool, true, false, not, List, ◌∷◌, [], length, take, drop, get_or, refl, ap, arith, eqb-true, map}
use Rattle.std.specs.Prelude.{if◌then◌else◌}
use Rattle.std.specs.List.{range_with_len}
use Rattle.std.proofs.lemmas.Bool.{and_right, or_parts}
use Rattle.std.proofs.Math.Seq.{drop-cons}
use Rattle.std.proofs.lemmas.List.{get_or-map, get_or-take, get_or-drop}
use Rattle.std.proofs.lemmas.List.FromFn.{get_or-range_with_len, length-range_with_len}
use Rattle.c_grammar.specs.Fitting.{is_comment}
use Rattle.c_grammar.specs.Touch.{is_punct}
use Rattle.token_arena.specs.Stored.{Stored}
use Rattle.token_arena.specs.Gaps.{Stands}
use Rattle.replacements.specs.GapText.{blanks}
use Rattle.replacements.specs.Same.{ComesNoHash, blanks_told}
use Rattle.replacements.specs.Stances.{may_begin_hash, SpellsNoHash}
use Rattle.replacements.specs.Written.{bytes_between}
use Rattle.replacements.proofs.Hashes.{first_no_hash}

-- what is told of each byte
pub each_told : (b : ℕ) → b < 256 → get_or (map blanks_told (range_with_len 0 256)) b 0 ≡ blanks_told b
each_told b h =
    let len = length-range_with_len 0 256 in
    let same : 0 + b ≡ b = omega arith in
    get_or-map blanks_told (range_with_len 0 256) b 0 0 (omega (arith, len, h)) ∙ (ap blanks_told (get_or-range_with_len 0 256 b 0 h) ∙ ap blanks_told same)

by_tests : (blank hash : Bool) (count : ℕ) → (if blank then 2 else if hash then 0 else 1) ≡ count + 1 → ((count ≡ 1) × (blank ≡ true)) ⊎ ((count ≡ 0) × (hash ≡ false))
by_tests true hash count e = inl (omega (arith, e), refl)
by_tests false true count e = absurd (omega (arith, e))
by_tests false false count e = inr (omega (arith, e), refl)

-- a blank, or a byte that begins neither a comment nor what spells a `#`
pub one_or_none : (b count : ℕ) → blanks_told b ≡ count + 1 → ((count ≡ 1) × (b ≡ 32)) ⊎ ((count ≡ 0) × (may_begin_hash b ≡ false) × ((b == 47) ≡ false))
one_or_none b count e = told (by_tests (b == 32) (may_begin_hash b || b == 47) count e)
  where
    told : ((count ≡ 1) × ((b == 32) ≡ true)) ⊎ ((count ≡ 0) × ((may_begin_hash b || b == 47) ≡ false)) → ((count ≡ 1) × (b ≡ 32)) ⊎ ((count ≡ 0) × (may_begin_hash b ≡ false) × ((b == 47) ≡ false))
    told (inl h) = inl (h.0, eqb-true b 32 h.1)
    told (inr h) = let parts = or_parts (may_begin_hash b) (b == 47) h.1 in inr (h.0, parts.0, parts.1)

-- no `#` comes where an item is no comment and spells none
pub comes_none : (t : Stored) → is_comment t.kind ≡ false → SpellsNoHash t.raw → ComesNoHash t
comes_none t other none = λ d tokens.
    rw (other, none d) (ap (λ b. not t.gap.began && b) (and_right (is_punct t.kind) false refl) ∙ and_right (not t.gap.began) false refl)

-- an item's first byte is that of the text where it stands
pub first_byte : (text : List ℕ) (at : ℕ) (t : Stored) → Stands text at t → get_or t.raw 0 0 ≡ get_or text t.start 0
first_byte text at t stands =
    let same : t.start + 0 ≡ t.start = omega arith in
    ap (λ (z : List ℕ). get_or z 0 0) stands.bytes ∙ (get_or-take (length t.raw) (drop t.start text) 0 0 stands.some ∙ (get_or-drop t.start text 0 0 ∙ ap (λ n. get_or text n 0) same))

-- an item whose first byte spells no `#`
pub spells_none : (text : List ℕ) (at : ℕ) (t : Stored) → Stands text at t → may_begin_hash (get_or text t.start 0) ≡ false → SpellsNoHash t.raw
spells_none text at t stands other = first_no_hash t.raw stands.some (ap (λ b. not (may_begin_hash b)) (first_byte text at t stands) ∙ ap not other)

-- so many blanks between, one or none
pub one_between : (text : List ℕ) (at start : ℕ) → at < length text → start - at ≡ 1 → get_or text at 0 ≡ 32 → bytes_between text at start ≡ blanks 1
one_between text at start within one blank =
    ap (λ n. take n (drop at text)) one ∙ (ap (take 1) (drop-cons text at 0 within) ∙ ap (λ b. b ∷ []) blank)
