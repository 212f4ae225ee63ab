-- The raw bytes of backslashes.
use Rattle.std.proofs.Common.{◌≡◌, ◌==◌, ◌&&◌, ◌∙◌, not, Bool, true, false, ℕ, zero, suc, ◌+◌, ◌-◌, ◌<◌, ◌≤◌, List, [], ◌∷◌, length, take, drop, get_or, inl, inr, refl, sym, ap, subst, arith, if◌then◌else◌}
use Rattle.std.specs.Prelude.{⊤}
use Rattle.std.proofs.lemmas.Bool.{cases_Bool, and_parts, eqb-true}
use Rattle.std.proofs.lemmas.List.{drop-drop}
use Rattle.c_chars.specs.Characters.{placed, replaced, with_lines, spliced, phase_1, logical, mark_len, is_trigraph, trigraph}
use Rattle.c_chars.specs.Coming.{Coming, AreBetween, passed, behind}
use Rattle.c_chars.specs.declared.Dialect.{Dialect}
use Rattle.c_chars.specs.declared.Dialect.TheVariants.{C11, C23}
use Rattle.c_chars.specs.declared.LogicalChar.{LogicalChar}
use Rattle.c_grammar.specs.Place.{IsSpanned}
use Rattle.c_chars.proofs.Steps.{behind_next, onwards}
use Rattle.c_lexer.proofs.Stepping.{behind_chars}
use Rattle.c_lexer.specs.Reading.{AreSlashed, ends_backslash, ends_in_backslash}

-- each of these characters is a raw byte, and they stand one behind another from this offset on
abbrev AreBytes : List ℕ → ℕ → List LogicalChar → Type 0
AreBytes text at [] = ⊤
AreBytes text at (c ∷ s) = (c.to ≡ at + 1) × (c.byte ≡ get_or text at 0) × AreBytes text (at + 1) s

placed_bytes : (text : List ℕ) (at : ℕ) (s : List ℕ) → s ≡ drop at text → AreBytes text at (placed at s)
placed_bytes text at [] e = tt
placed_bytes text at (b ∷ s) e =
    (refl, ap (λ z. get_or z 0 0) e ∙ first text at, placed_bytes text (at + 1) s (ap (drop 1) e ∙ drop-drop 1 at text))
  where
    first : (text : List ℕ) (at : ℕ) → get_or (drop at text) 0 0 ≡ get_or text at 0
    first text zero = refl
    first [] (suc at) = refl
    first (b ∷ text) (suc at) = first text at

-- a backslash by itself
plain_ends : (text : List ℕ) (at to byte : ℕ) → to ≡ at + 1 → byte ≡ get_or text at 0 → byte ≡ 92 → ends_backslash (get_or text (to - 2) 0) (get_or text (to - 1) 0) ≡ true
unfolding ends_backslash
plain_ends text at to byte to_is byte_is e =
    let last : to - 1 ≡ at = omega (arith, to_is) in
    let b : get_or text (to - 1) 0 ≡ 92 = ap (λ k. get_or text k 0) last ∙ (sym byte_is ∙ e) in
    rw b refl

-- its trigraph
trigraph_ends : (before last : ℕ) → before ≡ 63 → last ≡ 47 → ends_backslash before last ≡ true
unfolding ends_backslash
trigraph_ends before last b l = rw (b, l) refl

bytes_slashed : (text : List ℕ) (at : ℕ) (s : List LogicalChar) → AreBytes text at s → AreSlashed text s
bytes_slashed text at [] h = tt
bytes_slashed text at (c ∷ s) h = (plain_ends text at c.to c.byte h.0 h.1, bytes_slashed text (at + 1) s h.2)

slash_of : (c : ℕ) → trigraph c ≡ 92 → c ≡ 47
unfolding trigraph
slash_of c h = grind arith

pub by_test : {A : Type 0} (P : A → Type 0) (t : Bool) (x y : A) → P x → P y → P (if t then x else y)
by_test P true x y p q = p
by_test P false x y p q = q

replaced_slashed : (text : List ℕ) (at : ℕ) (s : List LogicalChar) → AreBytes text at s → AreSlashed text (replaced s)
replaced_slashed text at [] h = tt
replaced_slashed text at (a ∷ []) h = bytes_slashed text at (a ∷ []) h
replaced_slashed text at (a ∷ b ∷ []) h = bytes_slashed text at (a ∷ b ∷ []) h
replaced_slashed text at (a ∷ b ∷ c ∷ s) h = by_case (is_trigraph a b c) refl (replaced_slashed text ((at + 1 + 1) + 1) s h.2.2.2) (replaced_slashed text (at + 1) (b ∷ c ∷ s) h.2)
  where
    by_case : (t : Bool) → is_trigraph a b c ≡ t → AreSlashed text (replaced s) → AreSlashed text (replaced (b ∷ c ∷ s))
        → AreSlashed text (if t then record { byte = trigraph c.byte; from = a.from; to = c.to } ∷ replaced s else a ∷ replaced (b ∷ c ∷ s))
    by_case true is rest more =
        let parts = and_parts (a.byte == 63) ((b.byte == 63) && not (trigraph c.byte == 0)) is in
        let mark : b.byte ≡ 63 = eqb-true b.byte 63 (and_parts (b.byte == 63) (not (trigraph c.byte == 0)) parts.1).0 in
        let to_is : c.to ≡ (at + 1 + 1) + 1 = h.2.2.0 in
        let one : c.to - 1 ≡ at + 1 + 1 = omega (arith, to_is) in
        let two : c.to - 2 ≡ at + 1 = omega (arith, to_is) in (
          λ e. trigraph_ends (get_or text (c.to - 2) 0) (get_or text (c.to - 1) 0) (ap (λ k. get_or text k 0) two ∙ (sym h.2.1 ∙ mark)) (ap (λ k. get_or text k 0) one ∙ (sym h.2.2.1 ∙ slash_of c.byte e)),
          rest,
        )
    by_case false is rest more = (plain_ends text at a.to a.byte h.0 h.1, more)

lines_slashed : (text : List ℕ) (s : List LogicalChar) → AreSlashed text s → AreSlashed text (with_lines s)
lines_slashed text [] h = tt
lines_slashed text (a ∷ []) h = h
lines_slashed text (a ∷ b ∷ s) h =
    by_test (AreSlashed text) ((a.byte == 13) && (b.byte == 10)) (record { byte = 10; from = a.from; to = b.to } ∷ with_lines s) (a ∷ with_lines (b ∷ s))
    (λ e. absurd (omega (arith, e)), lines_slashed text s h.1.1)
    (h.0, lines_slashed text (b ∷ s) h.1)

spliced_slashed : (text : List ℕ) (s : List LogicalChar) → AreSlashed text s → AreSlashed text (spliced s)
spliced_slashed text [] h = tt
spliced_slashed text (a ∷ []) h = h
spliced_slashed text (a ∷ b ∷ s) h =
    by_test (AreSlashed text) ((a.byte == 92) && (b.byte == 10)) (spliced s) (a ∷ spliced (b ∷ s)) (spliced_slashed text s h.1.1) (h.0, spliced_slashed text (b ∷ s) h.1)

phase_slashed : (text : List ℕ) (at : ℕ) (d : Dialect) (s : List LogicalChar) → AreBytes text at s → AreSlashed text (phase_1 d s)
phase_slashed text at C11 s h = replaced_slashed text at s h
phase_slashed text at C23 s h = bytes_slashed text at s h

-- a backslash of a text ends with a byte that may end one
pub text_slashed : (text : List ℕ) (d : Dialect) → AreSlashed text (logical d text)
text_slashed text d =
    let at : ℕ = mark_len text in
    spliced_slashed text (with_lines (phase_1 d (placed at (drop at text))))
    (lines_slashed text (phase_1 d (placed at (drop at text))) (phase_slashed text at d (placed at (drop at text)) (placed_bytes text at (drop at text) refl)))

rest_slashed : (text : List ℕ) (n : ℕ) (s : List LogicalChar) → AreSlashed text s → AreSlashed text (drop n s)
rest_slashed text zero s h = h
rest_slashed text (suc n) [] h = h
rest_slashed text (suc n) (c ∷ s) h = rest_slashed text n s h.1

pub slashed_rest : (text : List ℕ) (x y : Coming) (n : ℕ) → AreSlashed text x.chars → y ≡ behind x n → AreSlashed text y.chars
slashed_rest text x y n h e = subst (AreSlashed text) (sym (ap (λ z. z.chars) e ∙ behind_chars x.dialect x.at n x.chars)) (rest_slashed text n x.chars h)

-- where no such byte stands before what is left, no backslash is the last character
pub last_slashed : (text : List ℕ) (d : Dialect) (at n : ℕ) (s : List LogicalChar) → n ≤ length s → AreSlashed text s → ends_backslash (get_or text ((passed d at s n).at - 2) 0) (get_or text ((passed d at s n).at - 1) 0) ≡ false →
    ends_in_backslash (take n s) ≡ false
last_slashed text d at zero s within h other = refl
last_slashed text d at (suc n) [] within h other = refl
last_slashed text d at (suc zero) (c ∷ s) within h other = elim (cases_Bool (c.byte == 92)) [
  | inl y ↦ let f : true ≡ false = sym (h.0 (eqb-true c.byte 92 y)) ∙ other in cc
  | inr n ↦ n
]
last_slashed text d at (suc (suc n)) (c ∷ []) within h other = absurd (omega arith)
last_slashed text d at (suc (suc n)) (c ∷ e ∷ s) within h other = last_slashed text d c.to (suc n) (e ∷ s) (omega arith) h.1 other

-- whether a backslash ends these characters, where it ends those before them or not
abbrev pub ends_from : Bool → List LogicalChar → Bool
ends_from back [] = back
ends_from back (c ∷ s) = ends_from (c.byte == 92) s

pub ends_from-none : (s : List LogicalChar) → ends_from false s ≡ ends_in_backslash s
ends_from-none [] = refl
ends_from-none (c ∷ s) = some c s
  where
    some : (c : LogicalChar) (s : List LogicalChar) → ends_from (c.byte == 92) s ≡ ends_in_backslash (c ∷ s)
    some c [] = refl
    some c (e ∷ s) = some e s

-- From here so many characters are left to walk, and then it is told whether a backslash ends all.
pub record IsWalked (ahead left : Coming) (back all : Bool) : Type 0 where
  pub n : ℕ
  pub within : n ≤ length ahead.chars
  pub left_is : left ≡ behind ahead n
  pub tells : ends_from back (take n ahead.chars) ≡ all

pub walk_begun : (x left : Coming) (n : ℕ) → n ≤ length x.chars → left ≡ behind x n → IsWalked x left false (ends_in_backslash (take n x.chars))
walk_begun x left n within e = record { n = n; within = within; left_is = e; tells = ends_from-none (take n x.chars) }

-- what is left stands behind the next character, where it doesn't stand before it
pub walk_step : (x y left : Coming) (c : LogicalChar) (back all : Bool) → x.chars ≡ c ∷ y.chars → y.at ≡ c.to → y.dialect ≡ x.dialect → x.at < left.at → IsWalked x left back all →
    IsWalked y left (c.byte == 92) all
walk_step x y left c back all e at d before w = step w.n w.within w.left_is w.tells
  where
    step : (n : ℕ) → n ≤ length x.chars → left ≡ behind x n → ends_from back (take n x.chars) ≡ all → IsWalked y left (c.byte == 92) all
    step zero within left_is tells = let same : left.at ≡ x.at = ap (λ z. z.at) left_is in absurd (omega (arith, before, same))
    step (suc n) within left_is tells =
        let one : 1 + n ≡ suc n = omega arith in
        let len : length x.chars ≡ length (c ∷ y.chars) = ap length e in
        record {
          n = n;
          within = omega (arith, within, len);
          left_is = left_is ∙ (ap (behind x) (sym one) ∙ behind_next x y c n e at d);
          tells = sym (ap (λ z. ends_from back (take (suc n) z)) e) ∙ tells;
        }

-- where nothing is left to walk
pub walk_done : (x left : Coming) (back all : Bool) → IsSpanned x → left.at ≤ x.at → IsWalked x left back all → back ≡ all
walk_done x left back all spanned after w = done w.n w.left_is w.tells x.chars spanned.spans refl
  where
    done : (n : ℕ) → left ≡ behind x n → ends_from back (take n x.chars) ≡ all → (s : List LogicalChar) → AreBetween x.at s spanned.high → x.chars ≡ s → back ≡ all
    done zero left_is tells s b e = tells
    done (suc n) left_is tells [] b e = sym (ap (λ z. ends_from back (take (suc n) z)) e) ∙ tells
    done (suc n) left_is tells (c ∷ s) b e =
        let there : left.at ≡ (passed x.dialect x.at (c ∷ s) (suc n)).at = ap (λ z. z.at) left_is ∙ ap (λ z. (passed x.dialect x.at z (suc n)).at) e in
        let on : c.to ≤ (passed x.dialect c.to s n).at = onwards x.dialect c.to n spanned.high s b.2 in
        let first : x.at ≤ c.from = b.0 in
        let some : c.from < c.to = b.1 in
        absurd (omega (arith, after, there, on, first, some))

-- where no character is left
pub walk_ended : (x left : Coming) (back all : Bool) → x.chars ≡ [] → IsWalked x left back all → back ≡ all
walk_ended x left back all e w =
    let none : take w.n x.chars ≡ [] = none_left w.n x.chars e in
    sym (ap (ends_from back) none) ∙ w.tells
  where
    none_left : (n : ℕ) (s : List LogicalChar) → s ≡ [] → take n s ≡ []
    none_left zero s e = refl
    none_left (suc n) [] e = refl
    none_left (suc n) (c ∷ s) e = cc
