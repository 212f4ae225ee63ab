-- The characters of a text with other bytes between its items, of which nothing is asked but that they read as gaps, are guarded, and are none only where there were none or the two items stand together.
use Rattle.std.proofs.Common.{◌≡◌, ◌==◌, ◌||◌, ◌&&◌, not, ℕ, ◌+◌, arith, length, true, false, List, [], ◌∷◌, ◌++◌, refl, sym, ◌∙◌, ap, subst, inl, inr, ◌⊎◌}
use Rattle.std.specs.Prelude.{⊤}
use Rattle.std.proofs.lemmas.Bool.{and_parts, and_right, both_ways, eqb-true}
use Rattle.std.proofs.lemmas.List.{append-nil}
use Rattle.c_chars.specs.Characters.{placed, chars, bytes_of, begins_line_end}
use Rattle.c_chars.specs.declared.Dialect.{Dialect}
use Rattle.c_chars.specs.declared.LogicalChar.{LogicalChar}
use Rattle.c_chars.proofs.Cuts.{phase_over, IsCleanCut, chars_cut}
use Rattle.c_grammar.specs.Grammar.{is_same}
use Rattle.c_grammar.specs.Items.{is_gap}
use Rattle.c_grammar.specs.Touch.{ends}
use Rattle.c_grammar.specs.Text.{ReadItem, start_of, end_of, raw_of, characters_of}
use Rattle.c_grammar.specs.Regapping.{regapped_text}
use Rattle.c_grammar.specs.Rewritten.{read_alone, IsGuarded}
use Rattle.c_grammar.proofs.GapBytes.{third_byte, inner_byte, OpensNone, gap_opens, gap_cut, black_no_line, black_no_end}
use Rattle.c_grammar.proofs.ItemBytes.{ReadAs, AreParted}
use Rattle.c_grammar.proofs.NewText.{read_at, Follows, IsGuardedRest, starts_is, line_end_append, item_cut, new_items, new_end}
use Rattle.replacements.proofs.Trigraphs.{StandTogether, no_trigraph_over, no_trigraph_follows}

-- Bytes between two items that read as a gap, are guarded, and are none only where there were none or the two items stand together.
pub record AreBytesBetween (d : Dialect) (left item : ReadItem) (new : List ℕ) : Type 0 where
  pub white : is_gap (read_alone d new) ≡ true
  pub guarded : IsGuarded left new
  pub some : ((not (is_same new []) || (end_of left == start_of item)) ≡ true) ⊎ StandTogether left item

-- such bytes before each item behind this one, and guarded bytes at the end
abbrev pub BytesBehind : Dialect → ReadItem → List (List ℕ) → List ReadItem → List ℕ → Type 0
BytesBehind d left [] [] end = IsGuarded left end
BytesBehind d left (gap ∷ gaps) (item ∷ items) end = AreBytesBetween d left item gap × BytesBehind d item gaps items end
BytesBehind d left [] (item ∷ items) end = ⊥
BytesBehind d left (gap ∷ gaps) [] end = ⊥

-- any gap before the first item, and such bytes before the others
abbrev pub BytesOfText : Dialect → List (List ℕ) → List ReadItem → List ℕ → Type 0
BytesOfText d [] [] end = ⊤
BytesOfText d (gap ∷ gaps) (item ∷ items) end = (is_gap (read_alone d gap) ≡ true) × BytesBehind d item gaps items end
BytesOfText d [] (item ∷ items) end = ⊥
BytesOfText d (gap ∷ gaps) [] end = ⊥

-- Trigraphs

follows_none : (old new : List ℕ) → OpensNone new → Follows old new
follows_none old new h = record { third = λ k. absurd (both_ways (third_byte new) h.third k); inner = λ k. absurd (both_ways (inner_byte new) h.inner k) }

follows_empty : (old : List ℕ) → Follows old []
follows_empty old = follows_none old [] (record { third = refl; inner = refl })

follows_item : (b : ℕ) (s old new : List ℕ) → Follows old new → Follows ((b ∷ s) ++ old) ((b ∷ s) ++ new)
follows_item b [] old new h = record { third = λ k. k; inner = λ k. let parts = and_parts (b == 63) (third_byte new) k in and_mono parts.0 (h.third parts.1) }
  where
    and_mono : (b == 63) ≡ true → third_byte old ≡ true → ((b == 63) && third_byte old) ≡ true
    and_mono q t = rw (q, t) refl
follows_item b (c ∷ s) old new h = record { third = λ k. k; inner = λ k. k }

follows_gap : (d : Dialect) (old g rest : List ℕ) (b : ℕ) (s : List ℕ) → g ≡ b ∷ s → is_gap (read_alone d g) ≡ true → Follows old (g ++ rest)
follows_gap d old g rest b s e w = subst (λ z. Follows old (z ++ rest)) (sym e) (follows_none old ((b ∷ s) ++ rest) (gap_opens d 0 b s rest (subst (λ z. is_gap (read_alone d z) ≡ true) e w)))

no_length : (n : ℕ) (s : List ℕ) → n ≡ n + length s → s ≡ []
no_length n [] h = refl
no_length n (c ∷ s) h = absurd (omega (arith, h))

-- Line ends

end_guarded : (left : ReadItem) (end : List ℕ) → IsGuarded left end → IsGuardedRest left end
end_guarded left end h = record { backslash = h.backslash; return = ap (λ z. ends (λ c. c == 13) (bytes_of left.chars) && z) (sym (starts_is end)) ∙ h.return }

pub rest_guarded : (d : Dialect) (text : List ℕ) (left : ReadItem) (old : List ℕ) (gaps : List (List ℕ)) (items : List ReadItem) (end : List ℕ) → AreParted d text (end_of left) old items →
    BytesBehind d left gaps items end → IsGuardedRest left (regapped_text gaps items text end)
rest_guarded d text left old [] [] end parts fit = end_guarded left end fit
rest_guarded d text left old [] (i ∷ items) end parts fit = absurd fit
rest_guarded d text left old (g ∷ gaps) [] end parts fit = absurd fit
rest_guarded d text left old (g ∷ gaps) (i ∷ items) end parts fit = by_gap g refl
  where
    raw : List ℕ
    raw = raw_of text i

    rest : List ℕ
    rest = regapped_text gaps items text end

    first : ℕ
    first = parts.4.first

    raw_is : raw ++ rest ≡ first ∷ (parts.4.rest ++ rest)
    raw_is = ap (λ z. z ++ rest) parts.4.there

    by_gap : (z : List ℕ) → g ≡ z → IsGuardedRest left (z ++ (raw ++ rest))
    by_gap [] e =
        let all : IsGuardedRest left (first ∷ (parts.4.rest ++ rest)) = record {
          backslash = and_right (ends (λ c. c == 92) (bytes_of left.chars)) (begins_line_end (first ∷ (parts.4.rest ++ rest))) (black_no_end first (parts.4.rest ++ rest) parts.4.black);
          return = and_right (ends (λ c. c == 13) (bytes_of left.chars)) (first == 10) (black_no_line first parts.4.black);
        } in
        subst (λ z. IsGuardedRest left z) (sym raw_is) all
    by_gap (b ∷ s) e =
        let guard : IsGuarded left (b ∷ s) = subst (λ z. IsGuarded left z) e fit.0.guarded in
        let all : IsGuardedRest left ((b ∷ s) ++ first ∷ (parts.4.rest ++ rest)) = record {
          backslash = ap (λ z. ends (λ c. c == 92) (bytes_of left.chars) && z) (line_end_append b s first (parts.4.rest ++ rest) parts.4.black) ∙ guard.backslash;
          return = guard.return;
        } in
        subst (λ z. IsGuardedRest left ((b ∷ s) ++ z)) (sym raw_is) all

-- Seams

-- Behind these bytes of an item new bytes stand in place of old ones: no pattern lies over the cut, and no trigraph goes on that wasn't there.
pub record IsSeam (d : Dialect) (raw old new : List ℕ) : Type 0 where
  pub clean : (at : ℕ) → IsCleanCut d at raw new
  pub follows : Follows (raw ++ old) (raw ++ new)

follows_raw : (d : Dialect) (cs : List LogicalChar) (raw old new : List ℕ) → ReadAs d cs raw → Follows old new → Follows (raw ++ old) (raw ++ new)
follows_raw d cs raw old new reads f = subst (λ z. Follows (z ++ old) (z ++ new)) (sym reads.there) (follows_item reads.first reads.rest old new f)

seam_follows : (d : Dialect) (left : ReadItem) (raw old new : List ℕ) → ReadAs d left.chars raw → phase_over d (placed 0 raw) (placed 0 old) ≡ false → Follows old new → IsGuardedRest left new → IsSeam d raw old new
seam_follows d left raw old new reads over f guard = record { clean = λ at. item_cut d at left raw old new reads over f guard; follows = follows_raw d left.chars raw old new reads f }

-- an item directly behind another
seam_touches : (d : Dialect) (left item : ReadItem) (raw old own rest : List ℕ) → ReadAs d left.chars raw → ReadAs d item.chars own → StandTogether left item → IsGuardedRest left (own ++ rest) → IsSeam d raw old (own ++ rest)
seam_touches d left item raw old own rest reads other none guard = record {
  clean = λ at. item_cut d at left raw (own ++ rest) (own ++ rest) reads (no_trigraph_over d left item raw own rest reads other none) (record { third = λ k. k; inner = λ k. k }) guard;
  follows = no_trigraph_follows d left item raw old own rest reads other none;
}

-- the seam behind an item of the new text
pub rest_seam : (d : Dialect) (text : List ℕ) (left : ReadItem) (raw old : List ℕ) (gaps : List (List ℕ)) (items : List ReadItem) (end : List ℕ) → ReadAs d left.chars raw → phase_over d (placed 0 raw) (placed 0 old) ≡ false →
    AreParted d text (end_of left) old items → BytesBehind d left gaps items end → is_gap (read_alone d end) ≡ true → IsSeam d raw old (regapped_text gaps items text end)
rest_seam d text left raw old [] [] end reads over parts fit w = seam_follows d left raw old end reads over (by_end end w) (rest_guarded d text left old [] [] end parts fit)
  where
    by_end : (end : List ℕ) → is_gap (read_alone d end) ≡ true → Follows old end
    by_end [] w = follows_empty old
    by_end (b ∷ s) w = subst (λ z. Follows old z) (append-nil (b ∷ s)) (follows_gap d old (b ∷ s) [] b s refl w)
rest_seam d text left raw old [] (i ∷ items) end reads over parts fit w = absurd fit
rest_seam d text left raw old (g ∷ gaps) [] end reads over parts fit w = absurd fit
rest_seam d text left raw old (g ∷ gaps) (i ∷ items) end reads over parts fit w =
    by_gap g refl (rest_seam d text i own parts.1 gaps items end parts.4 parts.5 parts.9 fit.1 w).follows (rest_guarded d text left old (g ∷ gaps) (i ∷ items) end parts fit)
  where
    own : List ℕ
    own = raw_of text i

    rest : List ℕ
    rest = regapped_text gaps items text end

    touched : (not true || (end_of left == start_of i)) ≡ true → Follows (own ++ parts.1) (own ++ rest) → Follows old (own ++ rest)
    touched some f =
        let touch : end_of left ≡ start_of i = eqb-true (end_of left) (start_of i) some in
        let none : parts.0 ≡ [] = no_length (end_of left) parts.0 (touch ∙ parts.3) in
        let old_is : old ≡ own ++ parts.1 = parts.2 ∙ ap (λ z. z ++ (own ++ parts.1)) none in
        subst (λ z. Follows z (own ++ rest)) (sym old_is) f

    by_gap : (z : List ℕ) → g ≡ z → Follows (own ++ parts.1) (own ++ rest) → IsGuardedRest left (g ++ (own ++ rest)) → IsSeam d raw old (z ++ (own ++ rest))
    by_gap (b ∷ s) e f guard =
        seam_follows d left raw old ((b ∷ s) ++ (own ++ rest)) reads over (follows_gap d old (b ∷ s) (own ++ rest) b s refl (subst (λ z. is_gap (read_alone d z) ≡ true) e fit.0.white)) (subst (λ z. IsGuardedRest left (z ++ (own ++ rest))) e guard)
    by_gap [] e f guard =
        let here : IsGuardedRest left (own ++ rest) = subst (λ z. IsGuardedRest left (z ++ (own ++ rest))) e guard in
        elim fit.0.some [
          | inl some ↦ seam_follows d left raw old (own ++ rest) reads over (touched (subst (λ z. (not (is_same z []) || (end_of left == start_of i)) ≡ true) e some) f) here
          | inr none ↦ seam_touches d left i raw old own rest reads parts.4 none here
        ]

-- The new text

-- one gap and its item
step_chars : (d : Dialect) (at : ℕ) (g raw rest : List ℕ) (item : ReadItem) → is_gap (read_alone d g) ≡ true → ReadAs d item.chars raw → IsCleanCut d (at + length g) raw rest →
    chars d at (g ++ (raw ++ rest)) ≡ chars d at g ++ (chars d (at + length g) raw ++ chars d (at + length g + length raw) rest)
step_chars d at g raw rest item w reads clean =
    let gap : is_gap (bytes_of (chars d at g)) ≡ true = ap is_gap (read_at d at g) ∙ w in
    let cut : IsCleanCut d at g (raw ++ rest) = subst (λ z. IsCleanCut d at g (z ++ rest)) (sym reads.there) (gap_cut d at g reads.first (reads.rest ++ rest) gap reads.black) in
    chars_cut d at g (raw ++ rest) cut ∙ ap (λ z. chars d at g ++ z) (chars_cut d (at + length g) raw rest clean)

pub behind_chars : (d : Dialect) (text : List ℕ) (left : ReadItem) (old : List ℕ) (gaps : List (List ℕ)) (items : List ReadItem) (end : List ℕ) (at : ℕ) → AreParted d text (end_of left) old items →
    BytesBehind d left gaps items end → is_gap (read_alone d end) ≡ true →
    chars d at (regapped_text gaps items text end) ≡ characters_of (new_items d at gaps items text) (chars d (new_end at gaps items text) end)
unfolding new_items new_end
behind_chars d text left old [] [] end at parts fit w = refl
behind_chars d text left old [] (i ∷ items) end at parts fit w = absurd fit
behind_chars d text left old (g ∷ gaps) [] end at parts fit w = absurd fit
behind_chars d text left old (g ∷ gaps) (i ∷ items) end at parts fit w =
    let raw = raw_of text i in
    let rest = regapped_text gaps items text end in
    let clean = (rest_seam d text i raw parts.1 gaps items end parts.4 parts.5 parts.9 fit.1 w).clean (at + length g) in
    step_chars d at g raw rest i fit.0.white parts.4 clean
    ∙ ap (λ z. chars d at g ++ (chars d (at + length g) raw ++ z)) (behind_chars d text i parts.1 gaps items end (at + length g + length raw) parts.9 fit.1 w)

pub text_chars : (d : Dialect) (text : List ℕ) (start : ℕ) (old : List ℕ) (gaps : List (List ℕ)) (items : List ReadItem) (end : List ℕ) (at : ℕ) → AreParted d text start old items →
    BytesOfText d gaps items end → is_gap (read_alone d end) ≡ true →
    chars d at (regapped_text gaps items text end) ≡ characters_of (new_items d at gaps items text) (chars d (new_end at gaps items text) end)
unfolding new_items new_end
text_chars d text start old [] [] end at parts fit w = refl
text_chars d text start old [] (i ∷ items) end at parts fit w = absurd fit
text_chars d text start old (g ∷ gaps) [] end at parts fit w = absurd fit
text_chars d text start old (g ∷ gaps) (i ∷ items) end at parts fit w =
    let raw = raw_of text i in
    let rest = regapped_text gaps items text end in
    let clean = (rest_seam d text i raw parts.1 gaps items end parts.4 parts.5 parts.9 fit.1 w).clean (at + length g) in
    step_chars d at g raw rest i fit.0 parts.4 clean
    ∙ ap (λ z. chars d at g ++ (chars d (at + length g) raw ++ z)) (behind_chars d text i parts.1 gaps items end (at + length g + length raw) parts.9 fit.1 w)
