-- Scans past their end.
use Rattle.std.proofs.Common.{◌≡◌, ℕ, zero, suc, ◌<◌, ◌≤◌, ◌+◌, ◌-◌, ◌&&◌, ◌||◌, not, Bool, true, false, List, refl, sym, ap, subst, arith}
use Rattle.token_classes.specs.declared.class.TokenClass.{TokenClass}
use Rattle.statement_lines.specs.declared.token.CodeToken.{CodeToken}
use Rattle.statement_lines.specs.declared.form.Stop.{Stop}
use Rattle.statement_lines.specs.Forms.{statement_stop, case_colon, tag_before, class_at, opens_block, step_over}
use Rattle.statement_lines.specs.Forms.{assigns, behind_partner, is_member_word, call_opener, opens_list, partner_in}
use Rattle.token_classes.specs.Classes.{is_assigning, is_open_brace, is_opener, is_semicolon, is_word}
use Rattle.statement_lines.proofs.Known.{lt_true}

pub stop_at_end : (n : ℕ) (tokens : List CodeToken) (end i : ℕ) (assigned : Bool) → end ≤ i → statement_stop n tokens end i assigned ≡ record { at = end; opens = false; assigned = assigned }
stop_at_end zero tokens end i assigned h = refl
stop_at_end (suc n) tokens end i assigned h = grind arith

pub tag_at_end : (n : ℕ) (tokens : List CodeToken) (first i : ℕ) (found : TokenClass) → i ≤ first → tag_before n tokens first i found ≡ found
tag_at_end zero tokens first i found h = refl
tag_at_end (suc n) tokens first i found h = grind arith

pub stop_step : (n : ℕ) (tokens : List CodeToken) (end i j : ℕ) (a b : Bool) (whole : Stop)
    → i < end → i < j → end - i ≤ n → is_semicolon (class_at tokens i) ≡ false → opens_block tokens a i ≡ false
    → j ≡ step_over tokens end i → b ≡ assigns tokens a i → statement_stop n tokens end i a ≡ whole
    → (m : ℕ) × ((end - j ≤ m) × (statement_stop m tokens end j b ≡ whole))
stop_step zero tokens end i j a b whole lt up fuel semi opens ej eb e = absurd (omega arith)
stop_step (suc n) tokens end i j a b whole lt up fuel semi opens ej eb e =
    (n, ((omega arith), rw (ej, eb) (rw (lt_true i end lt, semi, opens, statement_stop) at e)))

or_none : (x none : Bool) → none ≡ false → x ≡ (x || none)
or_none true none is = refl
or_none false none is = sym is

-- a token that neither ends a statement, opens anything nor assigns
pub still_step : (n : ℕ) (tokens : List CodeToken) (end i : ℕ) (a : Bool) (whole : Stop) → i < end → end - i ≤ n
    → is_semicolon (class_at tokens i) ≡ false → is_opener (class_at tokens i) ≡ false → is_open_brace (class_at tokens i) ≡ false → is_assigning (class_at tokens i) ≡ false
    → statement_stop n tokens end i a ≡ whole → (m : ℕ) × ((end - (i + 1) ≤ m) × (statement_stop m tokens end (i + 1) a ≡ whole))
still_step n tokens end i a whole lt fuel semi opener brace assigning e =
    let opens : opens_block tokens a i ≡ false = ap (λ (b : Bool). b && not (opens_list tokens a i)) brace in
    let next : step_over tokens end i ≡ i + 1 = ap (λ (b : Bool). elim b as (λ _. ℕ) [ true ↦ behind_partner end (partner_in tokens end i) | false ↦ i + 1 ]) opener in
    stop_step n tokens end i (i + 1) a a whole lt (omega arith) fuel semi opens (sym next) (or_none a (is_assigning (class_at tokens i)) assigning) e

pub tag_member : (n : ℕ) (tokens : List CodeToken) (first i : ℕ) (found : TokenClass) → first < i → i - first ≤ n
    → is_member_word (class_at tokens (i - 1)) ≡ true → tag_before n tokens first i found ≡ class_at tokens (i - 1)
tag_member zero tokens first i found lt fuel m = absurd (omega arith)
tag_member (suc n) tokens first i found lt fuel m = rw (lt_true first i lt, m, tag_before) refl

pub tag_other : (n : ℕ) (tokens : List CodeToken) (first i : ℕ) (found : TokenClass) → first < i → i - first ≤ n
    → is_member_word (class_at tokens (i - 1)) ≡ false → is_word (class_at tokens (i - 1)) ≡ false → call_opener tokens first i ≡ 0 → tag_before n tokens first i found ≡ found
tag_other zero tokens first i found lt fuel m w o = absurd (omega arith)
tag_other (suc n) tokens first i found lt fuel m w o = rw (lt_true first i lt, m, w, o, tag_before) refl

pub tag_group : (n : ℕ) (tokens : List CodeToken) (first i o : ℕ) (found tag : TokenClass) → first < i → 0 < o → i - first ≤ n → o < i
    → is_member_word (class_at tokens (i - 1)) ≡ false → is_word (class_at tokens (i - 1)) ≡ false → o ≡ call_opener tokens first i → tag_before n tokens first i found ≡ tag
    → (m : ℕ) × ((o - first ≤ m) × (tag_before m tokens first o found ≡ tag))
tag_group zero tokens first i o found tag lt some fuel down m w eo e = absurd (omega (arith, lt, fuel))
tag_group (suc n) tokens first i o found tag lt some fuel down m w eo e =
    let opener : 0 < call_opener tokens first i = subst (λ (x : ℕ). 0 < x) eo some in
    (n, ((omega (arith, fuel, down)), rw eo (rw (lt_true first i lt, m, w, lt_true 0 (call_opener tokens first i) opener, tag_before) at e)))

pub colon_at_end : (n : ℕ) (tokens : List CodeToken) (end i asked : ℕ) → end ≤ i → case_colon n tokens end i asked ≡ end
colon_at_end zero tokens end i asked h = refl
colon_at_end (suc n) tokens end i asked h = grind arith
