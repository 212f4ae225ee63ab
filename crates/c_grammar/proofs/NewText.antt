-- The characters of a text with other bytes between its items: those of each part in turn.
use Rattle.std.proofs.Common.{◌≡◌, ◌==◌, ◌||◌, ◌&&◌, not, ℕ, ◌+◌, arith, length, Bool, true, false, List, [], ◌∷◌, ◌++◌, refl, sym, ◌∙◌, ap, subst}
use Rattle.std.proofs.lemmas.Bool.{and_parts, and_left, and_right, or_parts, or_from, both_ways, eqb-true}
use Rattle.std.proofs.lemmas.List.{append-nil}
use Rattle.c_chars.specs.Characters.{placed, phase_1, chars, bytes_of, begins_line_end}
use Rattle.c_chars.specs.declared.Dialect.{Dialect}
use Rattle.c_chars.specs.declared.Dialect.TheVariants.{C11, C23}
use Rattle.c_chars.specs.declared.LogicalChar.{LogicalChar}
use Rattle.c_chars.proofs.Cuts.{ends_in, starts_in, starts_third, starts_inner, trigraph_over, phase_over, units, IsCleanCut, chars_cut}
use Rattle.c_chars.proofs.Ends.{last_byte, lines_last, ends_last}
use Rattle.c_chars.proofs.FirstUnits.{front_line, begins_line}
use Rattle.c_grammar.specs.Grammar.{is_same}
use Rattle.c_grammar.specs.Items.{Place, LineStart, past_gap, past_item, is_gap}
use Rattle.c_grammar.specs.Touch.{starts, ends}
use Rattle.c_grammar.specs.Text.{ReadItem, start_of, end_of, raw_of, characters_of}
use Rattle.c_grammar.specs.Regapping.{regapped_text}
use Rattle.c_grammar.specs.Rewritten.{read_alone, IsGuarded, FitBehind, FitText}
use Rattle.c_grammar.proofs.Unique.{is_blank}
use Rattle.c_grammar.proofs.GapBytes.{third_byte, inner_byte, third_placed, inner_placed, OpensNone, gap_opens, gap_cut, units_no_line, black_no_line, black_no_end}
use Rattle.c_chars.proofs.Moved.{bytes_moved, chars_at}
use Rattle.c_grammar.proofs.ItemBytes.{ReadAs, AreParted, last_at}

-- bytes alone read as they read anywhere
pub read_at : (d : Dialect) (at : ℕ) (s : List ℕ) → bytes_of (chars d at s) ≡ read_alone d s
read_at d at s = ap bytes_of (chars_at d at s) ∙ bytes_moved at (chars d 0 s)

-- Trigraphs

-- where the new bytes go on with a trigraph, the old ones do
pub record Follows (old new : List ℕ) : Type 0 where
  pub third : third_byte new ≡ true → third_byte old ≡ true
  pub inner : inner_byte new ≡ true → inner_byte old ≡ true

follows_none : (old new : List ℕ) → OpensNone new → Follows old new
follows_none old new h = record { third = λ k. absurd (both_ways (third_byte new) h.third k); inner = λ k. absurd (both_ways (inner_byte new) h.inner k) }

follows_empty : (old : List ℕ) → Follows old []
follows_empty old = follows_none old [] (record { third = refl; inner = refl })

follows_item : (b : ℕ) (s old new : List ℕ) → Follows old new → Follows ((b ∷ s) ++ old) ((b ∷ s) ++ new)
follows_item b [] old new h = record { third = λ k. k; inner = λ k. let parts = and_parts (b == 63) (third_byte new) k in and_mono parts.0 (h.third parts.1) }
  where
    and_mono : (b == 63) ≡ true → third_byte old ≡ true → ((b == 63) && third_byte old) ≡ true
    and_mono q t = rw (q, t) refl
follows_item b (c ∷ s) old new h = record { third = λ k. k; inner = λ k. k }

follows_gap : (d : Dialect) (old g rest : List ℕ) (b : ℕ) (s : List ℕ) → g ≡ b ∷ s → is_gap (read_alone d g) ≡ true → Follows old (g ++ rest)
follows_gap d old g rest b s e w = subst (λ z. Follows old (z ++ rest)) (sym e) (follows_none old ((b ∷ s) ++ rest) (gap_opens d 0 b s rest (subst (λ z. is_gap (read_alone d z) ≡ true) e w)))

pub not_false : (a b : Bool) → a ≡ false → (b ≡ true → a ≡ true) → b ≡ false
not_false a false h f = refl
not_false a true h f = absurd (both_ways a h (f refl))

over_follows : (p q m n : ℕ) (a old new : List ℕ) → trigraph_over (placed p a) (placed q old) ≡ false → Follows old new → trigraph_over (placed m a) (placed n new) ≡ false
over_follows p q m n [] old new h f = refl
over_follows p q m n (x ∷ []) old new h f =
    let was : ((x == 63) && inner_byte old) ≡ false = ap (λ z. (x == 63) && z) (sym (inner_placed q old)) ∙ h in
    ap (λ z. (x == 63) && z) (inner_placed n new) ∙ not_false ((x == 63) && inner_byte old) ((x == 63) && inner_byte new) was
    (λ k. let parts = and_parts (x == 63) (inner_byte new) k in both (x == 63) (inner_byte old) parts.0 (f.inner parts.1))
  where
    both : (a b : Bool) → a ≡ true → b ≡ true → (a && b) ≡ true
    both a b h k = rw (h, k) refl
over_follows p q m n (x ∷ y ∷ []) old new h f =
    let parts = or_parts ((x == 63) && ((y == 63) && starts_third (placed q old))) ((y == 63) && starts_inner (placed q old)) h in
    let first : ((x == 63) && ((y == 63) && third_byte old)) ≡ false = ap (λ z. (x == 63) && ((y == 63) && z)) (sym (third_placed q old)) ∙ parts.0 in
    let second : ((y == 63) && inner_byte old) ≡ false = ap (λ z. (y == 63) && z) (sym (inner_placed q old)) ∙ parts.1 in
    or_from ((x == 63) && ((y == 63) && starts_third (placed n new))) ((y == 63) && starts_inner (placed n new))
    (ap (λ z. (x == 63) && ((y == 63) && z)) (third_placed n new) ∙ not_false ((x == 63) && ((y == 63) && third_byte old)) ((x == 63) && ((y == 63) && third_byte new)) first
    (λ k. let ps = and_parts (x == 63) ((y == 63) && third_byte new) k in let qs = and_parts (y == 63) (third_byte new) ps.1 in both (x == 63) ((y == 63) && third_byte old) ps.0 (both (y == 63) (third_byte old) qs.0 (f.third qs.1))))
    (ap (λ z. (y == 63) && z) (inner_placed n new) ∙ not_false ((y == 63) && inner_byte old) ((y == 63) && inner_byte new) second
    (λ k. let ps = and_parts (y == 63) (inner_byte new) k in both (y == 63) (inner_byte old) ps.0 (f.inner ps.1)))
  where
    both : (a b : Bool) → a ≡ true → b ≡ true → (a && b) ≡ true
    both a b h k = rw (h, k) refl
over_follows p q m n (x ∷ y ∷ z ∷ a) old new h f = over_follows (p + 1) q (m + 1) n (y ∷ z ∷ a) old new h f

phase_over_follows : (d : Dialect) (p q m n : ℕ) (a old new : List ℕ) → phase_over d (placed p a) (placed q old) ≡ false → Follows old new → phase_over d (placed m a) (placed n new) ≡ false
phase_over_follows C11 p q m n a old new h f = over_follows p q m n a old new h f
phase_over_follows C23 p q m n a old new h f = refl

no_length : (n : ℕ) (s : List ℕ) → n ≡ n + length s → s ≡ []
no_length n [] h = refl
no_length n (c ∷ s) h = absurd (omega (arith, h))

-- the bytes behind an item of the new text go on with no trigraph that wasn't there
pub rest_follows : (d : Dialect) (text : List ℕ) (place : Place) (left : ReadItem) (old : List ℕ) (gaps : List (List ℕ)) (items : List ReadItem) (end : List ℕ) → AreParted d text (end_of left) old items →
    FitBehind d place left gaps items end → is_gap (read_alone d end) ≡ true → Follows old (regapped_text gaps items text end)
rest_follows d text place left old [] [] end parts fit w = by_end end w
  where
    by_end : (end : List ℕ) → is_gap (read_alone d end) ≡ true → Follows old end
    by_end [] w = follows_empty old
    by_end (b ∷ s) w = subst (λ z. Follows old z) (append-nil (b ∷ s)) (follows_gap d old (b ∷ s) [] b s refl w)
rest_follows d text place left old [] (i ∷ items) end parts fit w = absurd fit
rest_follows d text place left old (g ∷ gaps) [] end parts fit w = absurd fit
rest_follows d text place left old (g ∷ gaps) (i ∷ items) end parts fit w =
    by_gap g refl (rest_follows d text (past_item d (past_gap place (bytes_of i.gap)) i.kind (bytes_of i.chars)) i parts.1 gaps items end parts.9 fit.1 w)
  where
    raw : List ℕ
    raw = raw_of text i

    rest : List ℕ
    rest = regapped_text gaps items text end

    by_gap : (z : List ℕ) → g ≡ z → Follows parts.1 rest → Follows old (z ++ (raw ++ rest))
    by_gap (b ∷ s) e f = follows_gap d old (b ∷ s) (raw ++ rest) b s refl (subst (λ z. is_gap (read_alone d z) ≡ true) e fit.0.fits.white)
    by_gap [] e f =
        let some : (not true || (end_of left == start_of i)) ≡ true = subst (λ z. (not (is_same z []) || (end_of left == start_of i)) ≡ true) e fit.0.some in
        let touch : end_of left ≡ start_of i = eqb-true (end_of left) (start_of i) some in
        let none : parts.0 ≡ [] = no_length (end_of left) parts.0 (touch ∙ parts.3) in
        let old_is : old ≡ raw ++ parts.1 = parts.2 ∙ ap (λ z. z ++ (raw ++ parts.1)) none in
        let item : Follows (raw ++ parts.1) (raw ++ rest) = subst (λ z. Follows (z ++ parts.1) (z ++ rest)) (sym parts.4.there) (follows_item parts.4.first parts.4.rest parts.1 rest f) in
        subst (λ z. Follows z (raw ++ rest)) (sym old_is) item

-- Line ends

ends_bytes : (n z : ℕ) (s : List LogicalChar) → (z == n) ≡ false → ends (λ c. c == n) (bytes_of s) ≡ (last_byte z s == n)
ends_bytes n z [] h = sym h
ends_bytes n z (c ∷ []) h = refl
ends_bytes n z (c ∷ e ∷ s) h = ends_any n c.byte e s
  where
    ends_any : (n m : ℕ) (e : LogicalChar) (s : List LogicalChar) → ends (λ c. c == n) (bytes_of (e ∷ s)) ≡ (last_byte m (e ∷ s) == n)
    ends_any n m e [] = refl
    ends_any n m e (f ∷ s) = ends_any n e.byte f s

-- what the guards say of all that stands behind an item
pub record IsGuardedRest (left : ReadItem) (new : List ℕ) : Type 0 where
  pub backslash : (ends (λ c. c == 92) (bytes_of left.chars) && begins_line_end new) ≡ false
  pub return : (ends (λ c. c == 13) (bytes_of left.chars) && begins_line new) ≡ false

pub starts_is : (s : List ℕ) → starts (λ c. c == 10) s ≡ begins_line s
starts_is [] = refl
starts_is (b ∷ s) = refl

end_guarded : (left : ReadItem) (end : List ℕ) → IsGuarded left end → IsGuardedRest left end
end_guarded left end h = record { backslash = h.backslash; return = ap (λ z. ends (λ c. c == 13) (bytes_of left.chars) && z) (sym (starts_is end)) ∙ h.return }

-- a gap before a byte that isn't blank begins with a line end where it does by itself
pub line_end_append : (b : ℕ) (s : List ℕ) (c : ℕ) (t : List ℕ) → is_blank c ≡ false → begins_line_end ((b ∷ s) ++ c ∷ t) ≡ begins_line_end (b ∷ s)
line_end_append b [] c t h =
    let n : ((b == 13) && (c == 10)) ≡ false = and_right (b == 13) (c == 10) (black_no_line c h) in
    rw n refl
line_end_append b (e ∷ s) c t h = refl

pub rest_guarded : (d : Dialect) (text : List ℕ) (place : Place) (left : ReadItem) (old : List ℕ) (gaps : List (List ℕ)) (items : List ReadItem) (end : List ℕ) → AreParted d text (end_of left) old items →
    FitBehind d place left gaps items end → IsGuardedRest left (regapped_text gaps items text end)
rest_guarded d text place left old [] [] end parts fit = end_guarded left end fit
rest_guarded d text place left old [] (i ∷ items) end parts fit = absurd fit
rest_guarded d text place left old (g ∷ gaps) [] end parts fit = absurd fit
rest_guarded d text place left old (g ∷ gaps) (i ∷ items) end parts fit = by_gap g refl
  where
    raw : List ℕ
    raw = raw_of text i

    rest : List ℕ
    rest = regapped_text gaps items text end

    first : ℕ
    first = parts.4.first

    raw_is : raw ++ rest ≡ first ∷ (parts.4.rest ++ rest)
    raw_is = ap (λ z. z ++ rest) parts.4.there

    by_gap : (z : List ℕ) → g ≡ z → IsGuardedRest left (z ++ (raw ++ rest))
    by_gap [] e =
        let all : IsGuardedRest left (first ∷ (parts.4.rest ++ rest)) = record {
          backslash = and_right (ends (λ c. c == 92) (bytes_of left.chars)) (begins_line_end (first ∷ (parts.4.rest ++ rest))) (black_no_end first (parts.4.rest ++ rest) parts.4.black);
          return = and_right (ends (λ c. c == 13) (bytes_of left.chars)) (first == 10) (black_no_line first parts.4.black);
        } in
        subst (λ z. IsGuardedRest left z) (sym raw_is) all
    by_gap (b ∷ s) e =
        let guard : IsGuarded left (b ∷ s) = subst (λ z. IsGuarded left z) e fit.0.guarded in
        let all : IsGuardedRest left ((b ∷ s) ++ first ∷ (parts.4.rest ++ rest)) = record {
          backslash = ap (λ z. ends (λ c. c == 92) (bytes_of left.chars) && z) (line_end_append b s first (parts.4.rest ++ rest) parts.4.black) ∙ guard.backslash;
          return = guard.return;
        } in
        subst (λ z. IsGuardedRest left ((b ∷ s) ++ z)) (sym raw_is) all

-- Cuts

-- an item's bytes end as its characters do
pub ends_return : (d : Dialect) (at : ℕ) (cs : List LogicalChar) (raw : List ℕ) → ReadAs d cs raw → ends_in (λ c. c.byte == 13) (phase_1 d (placed at raw)) ≡ ends (λ c. c == 13) (bytes_of cs)
ends_return d at cs raw reads =
    ends_last 13 0 (phase_1 d (placed at raw)) refl
    ∙ (ap (λ z. z == 13) (sym (lines_last 0 (phase_1 d (placed at raw)))) ∙ (ap (λ z. z == 13) (last_at d at raw ∙ reads.last) ∙ sym (ends_bytes 13 0 cs refl)))

pub ends_backslash : (d : Dialect) (at : ℕ) (cs : List LogicalChar) (raw : List ℕ) → ReadAs d cs raw → ends_in (λ c. c.byte == 92) (units d at raw) ≡ ends (λ c. c == 92) (bytes_of cs)
ends_backslash d at cs raw reads = ends_last 92 0 (units d at raw) refl ∙ (ap (λ z. z == 92) (last_at d at raw ∙ reads.last) ∙ sym (ends_bytes 92 0 cs refl))

-- between an item and what stands behind it
pub item_cut : (d : Dialect) (at : ℕ) (left : ReadItem) (raw old new : List ℕ) → ReadAs d left.chars raw → phase_over d (placed 0 raw) (placed 0 old) ≡ false → Follows old new → IsGuardedRest left new → IsCleanCut d at raw new
item_cut d at left raw old new reads over follows guard = record {
  trigraph = phase_over_follows d 0 0 at (at + length raw) raw old new over follows;
  line = ap (λ z. z && starts_in (λ c. c.byte == 10) (phase_1 d (placed (at + length raw) new))) (ends_return d at left.chars raw reads) ∙ (ap (λ z. ends (λ c. c == 13) (bytes_of left.chars) && z) (front_line d (at + length raw) new) ∙ guard.return);
  splice = ap (λ z. z && starts_in (λ c. c.byte == 10) (units d (at + length raw) new)) (ends_backslash d at left.chars raw reads) ∙ by_line (begins_line_end new) refl;
}
  where
    one : (a : Bool) → (a && true) ≡ false → a ≡ false
    one true h = cc
    one false h = refl

    by_line : (t : Bool) → begins_line_end new ≡ t → (ends (λ c. c == 92) (bytes_of left.chars) && starts_in (λ c. c.byte == 10) (units d (at + length raw) new)) ≡ false
    by_line false e = and_right (ends (λ c. c == 92) (bytes_of left.chars)) (starts_in (λ c. c.byte == 10) (units d (at + length raw) new)) (units_no_line d (at + length raw) new e)
    by_line true e = and_left (ends (λ c. c == 92) (bytes_of left.chars)) (starts_in (λ c. c.byte == 10) (units d (at + length raw) new)) (one (ends (λ c. c == 92) (bytes_of left.chars)) (subst (λ z. (ends (λ c. c == 92) (bytes_of left.chars) && z) ≡ false) e guard.backslash))

-- The new text

-- the items of the new text, the first gap at this offset
unfoldable pub new_items : Dialect → ℕ → List (List ℕ) → List ReadItem → List ℕ → List ReadItem
new_items d at gaps [] text = []
new_items d at [] (i ∷ items) text = []
new_items d at (g ∷ gaps) (i ∷ items) text =
    record { kind = i.kind; gap = chars d at g; chars = chars d (at + length g) (raw_of text i) } ∷ new_items d (at + length g + length (raw_of text i)) gaps items text

-- the offset of its last gap
unfoldable pub new_end : ℕ → List (List ℕ) → List ReadItem → List ℕ → ℕ
new_end at gaps [] text = at
new_end at [] (i ∷ items) text = at
new_end at (g ∷ gaps) (i ∷ items) text = new_end (at + length g + length (raw_of text i)) gaps items text

-- one gap and its item
step_chars : (d : Dialect) (at : ℕ) (g raw rest : List ℕ) (item : ReadItem) → is_gap (read_alone d g) ≡ true → ReadAs d item.chars raw → IsCleanCut d (at + length g) raw rest →
    chars d at (g ++ (raw ++ rest)) ≡ chars d at g ++ (chars d (at + length g) raw ++ chars d (at + length g + length raw) rest)
step_chars d at g raw rest item w reads clean =
    let gap : is_gap (bytes_of (chars d at g)) ≡ true = ap is_gap (read_at d at g) ∙ w in
    let cut : IsCleanCut d at g (raw ++ rest) = subst (λ z. IsCleanCut d at g (z ++ rest)) (sym reads.there) (gap_cut d at g reads.first (reads.rest ++ rest) gap reads.black) in
    chars_cut d at g (raw ++ rest) cut ∙ ap (λ z. chars d at g ++ z) (chars_cut d (at + length g) raw rest clean)

pub behind_chars : (d : Dialect) (text : List ℕ) (place : Place) (left : ReadItem) (old : List ℕ) (gaps : List (List ℕ)) (items : List ReadItem) (end : List ℕ) (at : ℕ) → AreParted d text (end_of left) old items →
    FitBehind d place left gaps items end → is_gap (read_alone d end) ≡ true →
    chars d at (regapped_text gaps items text end) ≡ characters_of (new_items d at gaps items text) (chars d (new_end at gaps items text) end)
unfolding new_items new_end
behind_chars d text place left old [] [] end at parts fit w = refl
behind_chars d text place left old [] (i ∷ items) end at parts fit w = absurd fit
behind_chars d text place left old (g ∷ gaps) [] end at parts fit w = absurd fit
behind_chars d text place left old (g ∷ gaps) (i ∷ items) end at parts fit w =
    let raw = raw_of text i in
    let rest = regapped_text gaps items text end in
    let next = past_item d (past_gap place (bytes_of i.gap)) i.kind (bytes_of i.chars) in
    let clean = item_cut d (at + length g) i raw parts.1 rest parts.4 parts.5 (rest_follows d text next i parts.1 gaps items end parts.9 fit.1 w) (rest_guarded d text next i parts.1 gaps items end parts.9 fit.1) in
    step_chars d at g raw rest i fit.0.fits.white parts.4 clean
    ∙ ap (λ z. chars d at g ++ (chars d (at + length g) raw ++ z)) (behind_chars d text next i parts.1 gaps items end (at + length g + length raw) parts.9 fit.1 w)

pub text_chars : (d : Dialect) (text : List ℕ) (start : ℕ) (old : List ℕ) (gaps : List (List ℕ)) (items : List ReadItem) (end : List ℕ) (at : ℕ) → AreParted d text start old items →
    FitText d gaps items end → is_gap (read_alone d end) ≡ true →
    chars d at (regapped_text gaps items text end) ≡ characters_of (new_items d at gaps items text) (chars d (new_end at gaps items text) end)
unfolding new_items new_end
text_chars d text start old [] [] end at parts fit w = refl
text_chars d text start old [] (i ∷ items) end at parts fit w = absurd fit
text_chars d text start old (g ∷ gaps) [] end at parts fit w = absurd fit
text_chars d text start old (g ∷ gaps) (i ∷ items) end at parts fit w =
    let raw = raw_of text i in
    let rest = regapped_text gaps items text end in
    let next = past_item d LineStart i.kind (bytes_of i.chars) in
    let clean = item_cut d (at + length g) i raw parts.1 rest parts.4 parts.5 (rest_follows d text next i parts.1 gaps items end parts.9 fit.1 w) (rest_guarded d text next i parts.1 gaps items end parts.9 fit.1) in
    step_chars d at g raw rest i fit.0 parts.4 clean
    ∙ ap (λ z. chars d at g ++ (chars d (at + length g) raw ++ z)) (behind_chars d text next i parts.1 gaps items end (at + length g + length raw) parts.9 fit.1 w)
