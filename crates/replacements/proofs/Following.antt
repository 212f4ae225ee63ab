-- Bytes that follow an item may stand for the text's own.
use Rattle.std.proofs.Common.{◌≡◌, ◌==◌, ◌∙◌, ◌&&◌, ℕ, ◌+◌, ◌-◌, Bool, true, false, List, [], ◌∷◌, ◌++◌, refl, sym, ap, subst, arith, length, take, drop, append_assoc, length-append}
use Rattle.std.proofs.lemmas.List.{length-map, drop-drop}
use Rattle.std.proofs.lemmas.Bool.{and_parts, and_from, eqb-true}
use Rattle.std.proofs.Math.Seq.{drop-append_seam}
use Rattle.c_chars.specs.Characters.{bytes_of, chars, begins_line_end, placed, phase_1}
use Rattle.c_chars.specs.declared.Dialect.{Dialect}
use Rattle.c_chars.specs.declared.LogicalChar.{LogicalChar}
use Rattle.c_chars.proofs.Cuts.{IsCleanCut, chars_cut, ends_in, starts_in, units}
use Rattle.c_chars.proofs.FirstUnits.{front_line, begins_line}
use Rattle.c_grammar.specs.Grammar.{is_same}
use Rattle.c_grammar.specs.Items.{Place, is_gap}
use Rattle.c_grammar.specs.Touch.{starts, ends}
use Rattle.c_grammar.specs.Text.{ReadItem, piece_of, raw_of, start_of, end_of, characters_of}
use Rattle.c_grammar.specs.Fitting.{IsFitEnd}
use Rattle.c_grammar.specs.Rewritten.{read_alone, IsGuarded, AreFitBytes, kept_bytes}
use Rattle.c_grammar.proofs.ItemBytes.{ReadAs, AreParted}
use Rattle.c_grammar.proofs.GapBytes.{gap_cut}
use Rattle.c_grammar.proofs.NewText.{read_at, not_false, ends_backslash, ends_return}
use Rattle.c_grammar.proofs.White.{units_line}
use Rattle.replacements.specs.declared.guard.Guard.{Guard}
use Rattle.replacements.proofs.Broken.{IsBroken, Leaves, broken_chars, broken_reads, broken_gap, broken_line, broken_guarded}

-- An item and what stands behind it in the text.
pub record Here (d : Dialect) (text : List ℕ) (left : ReadItem) (old : List ℕ) (items : List ReadItem) (last : List LogicalChar) : Type 0 where
  pub reads : ReadAs d left.chars (raw_of text left)
  pub clean : IsCleanCut d (start_of left) (raw_of text left) old
  pub there : drop (end_of left) text ≡ old
  pub chars_are : chars d (end_of left) old ≡ characters_of items last
  pub parts : AreParted d text (end_of left) old items

pub cancel : (a b x y : List LogicalChar) → length a ≡ length b → a ++ x ≡ b ++ y → x ≡ y
cancel a b x y long same =
    sym (drop-append_seam a x) ∙ (ap (λ z. drop (length a) z) same ∙ (ap (λ n. drop n (b ++ y)) long ∙ drop-append_seam b y))

pub same_length : (s t : List LogicalChar) → bytes_of s ≡ bytes_of t → length s ≡ length t
same_length s t h = sym (length-map s (λ (c : LogicalChar). c.byte)) ∙ (ap length h ∙ length-map t (λ (c : LogicalChar). c.byte))

-- the next item
pub next_here : (d : Dialect) (text : List ℕ) (at : ℕ) (old : List ℕ) (i : ReadItem) (items : List ReadItem) (last : List LogicalChar) →
    drop at text ≡ old → chars d at old ≡ characters_of (i ∷ items) last → (parts : AreParted d text at old (i ∷ items)) → is_gap (bytes_of i.gap) ≡ true → Here d text i parts.1 items last
next_here d text at old i items last there chars_are parts white =
    let gap = parts.0 in
    let raw = raw_of text i in
    let rest = parts.1 in
    let long : end_of i ≡ at + length (gap ++ raw) = let a = parts.8 in let b = parts.3 in omega (arith, a, b, length-append gap raw) in
    let old_is : old ≡ (gap ++ raw) ++ rest = parts.2 ∙ sym (append_assoc gap raw rest) in
    let there_now : drop (end_of i) text ≡ rest =
    ap (λ n. drop n text) long ∙ (sym (drop-drop (length (gap ++ raw)) at text) ∙ (ap (drop (length (gap ++ raw))) (there ∙ old_is) ∙ drop-append_seam (gap ++ raw) rest)) in
    let gap_reads : bytes_of (chars d at gap) ≡ bytes_of i.gap = read_at d at gap ∙ parts.6 in
    let gap_white : is_gap (bytes_of (chars d at gap)) ≡ true = ap is_gap gap_reads ∙ white in
    let raw_is : raw ++ rest ≡ parts.4.first ∷ (parts.4.rest ++ rest) = ap (λ z. z ++ rest) parts.4.there in
    let gap_clean : IsCleanCut d at gap (raw ++ rest) = subst (λ z. IsCleanCut d at gap z) (sym raw_is) (gap_cut d at gap parts.4.first (parts.4.rest ++ rest) gap_white parts.4.black) in
    let raw_clean : IsCleanCut d (at + length gap) raw rest = subst (λ n. IsCleanCut d n raw rest) parts.3 parts.7 in
    let cut : chars d at old ≡ chars d at gap ++ (chars d (at + length gap) raw ++ chars d (at + length gap + length raw) rest) =
    ap (chars d at) parts.2 ∙ (chars_cut d at gap (raw ++ rest) gap_clean ∙ ap (λ z. chars d at gap ++ z) (chars_cut d (at + length gap) raw rest raw_clean)) in
    let behind_gap : chars d (at + length gap) raw ++ chars d (at + length gap + length raw) rest ≡ i.chars ++ characters_of items last =
    cancel (chars d at gap) i.gap _ _ (same_length (chars d at gap) i.gap gap_reads) (sym cut ∙ chars_are) in
    let raw_reads : bytes_of (chars d (at + length gap) raw) ≡ bytes_of i.chars = read_at d (at + length gap) raw ∙ parts.4.spelling in
    let behind_raw : chars d (at + length gap + length raw) rest ≡ characters_of items last =
    cancel (chars d (at + length gap) raw) i.chars _ _ (same_length (chars d (at + length gap) raw) i.chars raw_reads) behind_gap in
    let end_is : end_of i ≡ at + length gap + length raw = parts.8 ∙ ap (λ n. n + length raw) parts.3 in
    record { reads = parts.4; clean = parts.7; there = there_now; chars_are = ap (λ n. chars d n rest) end_is ∙ behind_raw; parts = parts.9 }

pub kept_end : (d : Dialect) (text : List ℕ) (left : ReadItem) (old : List ℕ) (last : List LogicalChar) → Here d text left old [] last → IsGuarded left old
kept_end d text left old last h =
    let at = start_of left in
    let raw = raw_of text left in
    record {
      backslash = not_false (ends_in (λ c. c.byte == 92) (units d at raw) && starts_in (λ c. c.byte == 10) (units d (at + length raw) old)) (ends (λ c. c == 92) (bytes_of left.chars) && begins_line_end old) h.clean.splice
          (λ k. let parts = and_parts (ends (λ c. c == 92) (bytes_of left.chars)) (begins_line_end old) k in and_from _ _ (ends_backslash d at left.chars raw h.reads ∙ parts.0) (units_line d (at + length raw) old parts.1));
      return = not_false (ends_in (λ c. c.byte == 13) (phase_1 d (placed at raw)) && starts_in (λ c. c.byte == 10) (phase_1 d (placed (at + length raw) old))) (ends (λ c. c == 13) (bytes_of left.chars) && starts (λ c. c == 10) old) h.clean.line
          (λ k. let parts = and_parts (ends (λ c. c == 13) (bytes_of left.chars)) (starts (λ c. c == 10) old) k in and_from _ _ (ends_return d at left.chars raw h.reads ∙ parts.0) (front_line d (at + length raw) old ∙ line old parts.1));
    }
  where
    line : (g : List ℕ) → starts (λ c. c == 10) g ≡ true → begins_line g ≡ true
    line [] k = cc
    line (x ∷ g) k = k

-- a last gap that fits
pub record FitsLast (d : Dialect) (left : ReadItem) (last : List LogicalChar) (end : List ℕ) : Type 0 where
  pub guarded : IsGuarded left end
  pub fits : IsFitEnd (piece_of left ∷ []) (bytes_of last) (read_alone d end)

pub last_broken : (d : Dialect) (left : ReadItem) (last : List LogicalChar) (crlf : Bool) (g : Guard) (end : List ℕ) → IsBroken crlf g end → Leaves left g → FitsLast d left last end
last_broken d left last crlf g end b leaves =
    let new = broken_chars g b.more in
    let fits : IsFitEnd (piece_of left ∷ []) (bytes_of last) new = record { white = broken_gap g b.more; line = broken_line left g b.more (is_same new []) (is_same new (bytes_of last)) leaves } in
    record { guarded = broken_guarded left crlf g end b leaves; fits = subst (λ z. IsFitEnd (piece_of left ∷ []) (bytes_of last) z) (sym (broken_reads d crlf g end b)) fits }

pub no_and : (a : Bool) → (a && false) ≡ false
no_and true = refl
no_and false = refl

-- nothing stays where there was nothing
pub none_fits : (d : Dialect) (text : List ℕ) (place : Place) (left i : ReadItem) → AreFitBytes d place left i (kept_bytes text left i) → (start_of i == end_of left) ≡ true → AreFitBytes d place left i []
none_fits d text place left i kept same =
    let e : start_of i ≡ end_of left = eqb-true (start_of i) (end_of left) same in
    let zero_is : start_of i - end_of left ≡ 0 = omega (arith, e) in
    subst (λ n. AreFitBytes d place left i (take n (drop (end_of left) text))) zero_is kept
