-- The bytes between two items may stay there.
use Rattle.std.proofs.Common.{◌≡◌, ◌==◌, ◌||◌, ◌&&◌, not, ℕ, ◌+◌, ◌-◌, arith, length, Bool, true, false, List, [], ◌∷◌, ◌++◌, map, take, drop, refl, sym, ◌∙◌, ap, subst, inl, inr, ◌⊎◌, append_assoc, length-append}
use Rattle.std.proofs.lemmas.Bool.{and_parts, and_from, or_right}
use Rattle.std.proofs.Math.Seq.{take-append_seam, drop-append_seam}
use Rattle.c_chars.specs.Characters.{placed, phase_1, chars, bytes_of, mark_len, begins_line_end}
use Rattle.c_chars.specs.declared.Dialect.{Dialect}
use Rattle.c_chars.proofs.Cuts.{ends_in, starts_in, units, IsCleanCut}
use Rattle.c_chars.proofs.FirstUnits.{front_line, begins_line}
use Rattle.item_kinds.specs.declared.ItemKind.{ItemKind}
use Rattle.c_grammar.specs.Grammar.{is_new_line, is_same}
use Rattle.c_grammar.specs.Items.{Place, LineStart, past_gap, past_item, is_gap, Reads}
use Rattle.c_grammar.specs.Touch.{starts, ends, takes_line}
use Rattle.c_grammar.specs.Text.{ReadItem, piece_of, start_of, end_of, raw_of}
use Rattle.c_grammar.specs.Fitting.{in_directive, IsFitGap}
use Rattle.c_grammar.specs.Rewritten.{IsGuarded, AreFitBytes, kept_bytes, KeptBytesFit}
use Rattle.c_grammar.proofs.Lists.{same_refl}
use Rattle.c_grammar.proofs.ItemBytes.{ReadAs, AreParted, parted}
use Rattle.c_grammar.proofs.NewText.{not_false, line_end_append, ends_return, ends_backslash}
use Rattle.c_grammar.proofs.White.{units_line}
use Rattle.c_grammar.proofs.Rewritten.{HasMark, mark_of}

-- a gap may stand for itself
pub fit_itself : (place : Place) (left : ItemKind) (g : List ℕ) → is_gap g ≡ true → IsFitGap place left g g
fit_itself place left g w = record {
  white = w;
  lines = refl;
  stays = either (is_same g []);
  comes = comes (is_same g []) (not (in_directive place));
  line = or_right (not (takes_line left)) (starts is_new_line g || is_same g g) (or_right (starts is_new_line g) (is_same g g) (same_refl g));
}
  where
    either : (b : Bool) → (b || not b) ≡ true
    either true = refl
    either false = refl

    comes : (b c : Bool) → (not b || (b || c)) ≡ true
    comes true c = refl
    comes false c = refl

same_nil : (n : ℕ) (g : List ℕ) → (not (is_same g []) || (n == n + length g)) ≡ true
same_nil n [] = let e : n + 0 ≡ n = omega arith in rw e (itself n)
  where
    itself : (n : ℕ) → (n == n) ≡ true
    itself n = grind arith
same_nil n (c ∷ g) = refl

kept_guarded : (d : Dialect) (left : ReadItem) (at : ℕ) (raw gap : List ℕ) (b : ℕ) (s : List ℕ) → ReadAs d left.chars raw → IsCleanCut d at raw (gap ++ b ∷ s) → begins_line_end (gap ++ b ∷ s) ≡ begins_line_end gap ⊎ (gap ≡ []) → IsGuarded left gap
kept_guarded d left at raw gap b s reads clean same = record {
  backslash = not_false (ends_in (λ c. c.byte == 92) (units d at raw) && starts_in (λ c. c.byte == 10) (units d (at + length raw) (gap ++ b ∷ s))) (ends (λ c. c == 92) (bytes_of left.chars) && begins_line_end gap) clean.splice
      (λ k. let parts = and_parts (ends (λ c. c == 92) (bytes_of left.chars)) (begins_line_end gap) k in and_from _ _ (ends_backslash d at left.chars raw reads ∙ parts.0) (units_line d (at + length raw) (gap ++ b ∷ s) (line parts.1)));
  return = not_false (ends_in (λ c. c.byte == 13) (phase_1 d (placed at raw)) && starts_in (λ c. c.byte == 10) (phase_1 d (placed (at + length raw) (gap ++ b ∷ s)))) (ends (λ c. c == 13) (bytes_of left.chars) && starts (λ c. c == 10) gap) clean.line
      (λ k. let parts = and_parts (ends (λ c. c == 13) (bytes_of left.chars)) (starts (λ c. c == 10) gap) k in and_from _ _ (ends_return d at left.chars raw reads ∙ parts.0) (front_line d (at + length raw) (gap ++ b ∷ s) ∙ first gap parts.1));
}
  where
    line : begins_line_end gap ≡ true → begins_line_end (gap ++ b ∷ s) ≡ true
    line k = elim same [ inl e ↦ e ∙ k | inr e ↦ let f : begins_line_end [] ≡ true = subst (λ z. begins_line_end z ≡ true) e k in cc ]

    first : (g : List ℕ) → starts (λ c. c == 10) g ≡ true → begins_line (g ++ b ∷ s) ≡ true
    first [] k = cc
    first (x ∷ g) k = k

kept_here : (d : Dialect) (text before s : List ℕ) (place : Place) (left i : ReadItem) (items : List ReadItem) → text ≡ before ++ s → length before ≡ end_of left → ReadAs d left.chars (raw_of text left) →
    IsCleanCut d (start_of left) (raw_of text left) s → AreParted d text (end_of left) s (i ∷ items) → is_gap (bytes_of i.gap) ≡ true → AreFitBytes d place left i (kept_bytes text left i)
kept_here d text before s place left i items w at reads clean parts white =
    let gap = parts.0 in
    let raw = raw_of text i in
    let long : start_of i - end_of left ≡ length gap = let e = parts.3 in omega (arith, e) in
    let there : drop (end_of left) text ≡ gap ++ (raw ++ parts.1) = ap (λ z. drop z text) (sym at) ∙ (ap (drop (length before)) w ∙ (drop-append_seam before s ∙ parts.2)) in
    let kept : kept_bytes text left i ≡ gap = rw (long, there) (take-append_seam gap (raw ++ parts.1)) in
    let s_is : s ≡ gap ++ parts.4.first ∷ (parts.4.rest ++ parts.1) = parts.2 ∙ ap (λ z. gap ++ (z ++ parts.1)) parts.4.there in
    let here : AreFitBytes d place left i gap = record {
      fits = subst (λ z. IsFitGap place left.kind (bytes_of i.gap) z) (sym parts.6) (fit_itself place left.kind (bytes_of i.gap) white);
      guarded = kept_guarded d left (start_of left) (raw_of text left) gap parts.4.first (parts.4.rest ++ parts.1) reads (subst (λ z. IsCleanCut d (start_of left) (raw_of text left) z) s_is clean) (line_same gap);
      some = ap (λ z. not (is_same gap []) || (end_of left == z)) parts.3 ∙ same_nil (end_of left) gap;
    } in
    subst (λ z. AreFitBytes d place left i z) (sym kept) here
  where
    line_same : (g : List ℕ) → begins_line_end (g ++ parts.4.first ∷ (parts.4.rest ++ parts.1)) ≡ begins_line_end g ⊎ (g ≡ [])
    line_same [] = inr refl
    line_same (x ∷ g) = inl (line_end_append x g parts.4.first (parts.4.rest ++ parts.1) parts.4.black)

-- behind the gap and the bytes of an item
past_item_bytes : (d : Dialect) (text before s : List ℕ) (at : ℕ) (i : ReadItem) (items : List ReadItem) → text ≡ before ++ s → length before ≡ at → (parts : AreParted d text at s (i ∷ items)) →
    (past : List ℕ) × (text ≡ past ++ parts.1) × (length past ≡ end_of i)
past_item_bytes d text before s at i items w here parts =
    let past : List ℕ = (before ++ parts.0) ++ raw_of text i in
    let past_is : text ≡ past ++ parts.1 = w ∙ (ap (λ z. before ++ z) parts.2 ∙ (sym (append_assoc before parts.0 (raw_of text i ++ parts.1)) ∙ sym (append_assoc (before ++ parts.0) (raw_of text i) parts.1))) in
    let long : length past ≡ end_of i = length-append (before ++ parts.0) (raw_of text i) ∙ (ap (λ z. z + length (raw_of text i)) (length-append before parts.0 ∙ (ap (λ z. z + length parts.0) here ∙ sym parts.3)) ∙ sym parts.8) in
    (past, past_is, long)

kept_walk : (d : Dialect) (text before s : List ℕ) (at : ℕ) (stand place : Place) (xs : List ReadItem) (left i : ReadItem) (ys : List ReadItem) (last : List ℕ) → text ≡ before ++ s → length before ≡ at →
    AreParted d text at s (xs ++ left ∷ i ∷ ys) → Reads d stand (map piece_of (xs ++ left ∷ i ∷ ys)) last → AreFitBytes d place left i (kept_bytes text left i)
kept_walk d text before s at stand place [] left i ys last w here parts reads =
    let past = past_item_bytes d text before s at left (i ∷ ys) w here parts in
    kept_here d text past.0 parts.1 place left i ys past.1 past.2 parts.4 parts.7 parts.9 reads.2.0
kept_walk d text before s at stand place (x ∷ xs) left i ys last w here parts reads =
    let past = past_item_bytes d text before s at x (xs ++ left ∷ i ∷ ys) w here parts in
    kept_walk d text past.0 parts.1 (end_of x) (past_item d (past_gap stand (bytes_of x.gap)) x.kind (bytes_of x.chars)) place xs left i ys last past.1 past.2 parts.9 reads.2

pub kept_bytes_fit : KeptBytesFit
kept_bytes_fit d text before after left item last place h =
    let mark : HasMark text = mark_of text in
    let front = take (mark_len text) text in
    let old = drop (mark_len text) text in
    let items = before ++ left ∷ item ∷ after in
    let parts : AreParted d text (length front) old items = parted d text front old LineStart items last mark.whole (ap (λ z. chars d z old) mark.long ∙ h.whole) h.reads in
    kept_walk d text front old (length front) LineStart place before left item after (bytes_of last) mark.whole refl parts h.reads
