-- The lines of a file, and the level at its end, are cut where its first part ends.
use Rattle.std.proofs.Common.{◌≡◌, ◌∙◌, ℕ, zero, suc, ◌+◌, ◌<◌, ◌≤◌, true, false, Option, Some, List, [], ◌∷◌, ◌++◌, length, append_assoc, length-append, refl, arith, sym, ap, subst, inl, inr, ◌⊎◌, nat_lt}
use Rattle.std.specs.Prelude.{slice_get}
use Rattle.std.proofs.lemmas.Bool.{and_parts, lt-ltb}
use Rattle.token_classes.specs.Classes.{is_word, is_open_round, is_close_round}
use Rattle.statement_lines.specs.declared.token.CodeToken.{CodeToken}
use Rattle.statement_lines.specs.declared.line.Line.{Line}
use Rattle.statement_lines.specs.declared.braces.Braces.{Braces}
use Rattle.statement_lines.specs.declared.open.Open.{Open}
use Rattle.statement_lines.specs.declared.open.Start.{Start}
use Rattle.statement_lines.specs.declared.open.Start.TheVariants.{Fresh, Tail, Closing}
use Rattle.statement_lines.specs.declared.form.Next.{Next}
use Rattle.statement_lines.specs.declared.form.Next.TheVariants.{Ends, Goes, Waits, Opens}
use Rattle.statement_lines.specs.Forms.{class_of, class_at, partner_of, partner_in, within, form_of}
use Rattle.statement_lines.specs.Tree.{lines_from, end_level_from, line_of, head_lines, lines_of, end_level}
use Rattle.statement_lines.proofs.StackLemmas.{from_end}
use Rattle.part_laws.specs.Declarations.{Between}
use Rattle.part_laws.proofs.CodeCut.{ArePaired, BeginsWord, file_up_to, ArePassed}
use Rattle.part_laws.proofs.WaySteps.{EndsBeforeWord, way_longer}
use Rattle.part_laws.proofs.FormsAlike.{Stand, Leaves, fresh_at, form_alike}
use Rattle.part_laws.proofs.FormsReach.{Reaches, form_reaches}
use Rattle.part_laws.proofs.Places.{slice_before, slice_at_seam}
use Rattle.part_laws.proofs.PartnerPlaces.{partner_place}
use Rattle.part_laws.proofs.Turns.{lines_after, lines_turn, level_after, level_turn, same_lines, same_level}
use Rattle.part_laws.proofs.Choices.{at_true}
use Rattle.statement_lines.specs.declared.form.Form.{Form}

-- the list of the file with this end, alone
abbrev up_to : ℕ → List Open
up_to end = file_up_to end ∷ []

-- ## Where the list begins anew

-- a line begins in the first part, or it is passed
stands_where : (tokens : List CodeToken) (end : ℕ) (start : Start) (at : ℕ) → Stand tokens end start at → ((start ≡ Fresh) × (at ≡ end)) ⊎ (at < end)
stands_where tokens end Fresh at (inl e) = inl (refl, e)
stands_where tokens end Fresh at (inr s) = inr s.0
stands_where tokens end Tail at s = absurd s
stands_where tokens end (Closing b) at s = inr s.within_list

-- ## Lines

anew : (n m r : ℕ) (braces : Braces) (tokens : List CodeToken) (end whole at : ℕ) → at ≡ end → end ≤ whole → whole ≤ end + m → whole ≤ end + r
    → lines_from m braces tokens (up_to whole) Fresh at ≡ lines_from n braces tokens (up_to end) Fresh at ++ lines_from r braces tokens (up_to whole) Fresh end
anew n m r braces tokens end whole at e order many some =
    ap (lines_from m braces tokens (up_to whole) Fresh) e
    ∙ (same_lines m r braces tokens (up_to whole) Fresh end whole (refl, tt) many some
    ∙ ap (λ (ls : List Line). ls ++ lines_from r braces tokens (up_to whole) Fresh end)
    (sym (from_end n braces tokens [] (file_up_to end) Fresh at (omega arith))))

fresh_cut : (n m r : ℕ) (braces : Braces) (tokens : List CodeToken) (end whole : ℕ) (start : Start) (at : ℕ) → EndsBeforeWord tokens end whole
    → (start ≡ Fresh) × (at ≡ end) → whole ≤ at + m → whole ≤ end + r
    → lines_from m braces tokens (up_to whole) start at ≡ lines_from n braces tokens (up_to end) start at ++ lines_from r braces tokens (up_to whole) Fresh end
fresh_cut n m r braces tokens end whole start at ends past many some =
    let order : end ≤ whole = ends.order in
    let e : at ≡ end = past.1 in
    subst (λ (s : Start). lines_from m braces tokens (up_to whole) s at ≡ lines_from n braces tokens (up_to end) s at ++ lines_from r braces tokens
    (up_to whole) Fresh end) (sym past.0) (anew n m r braces tokens end whole at e order (omega arith) some)

pub lines_cut : (n m r : ℕ) (braces : Braces) (tokens : List CodeToken) (end whole : ℕ) (start : Start) (at : ℕ) → EndsBeforeWord tokens end whole
    → Stand tokens end start at → end ≤ at + n → whole ≤ at + m → whole ≤ end + r
    → lines_from m braces tokens (up_to whole) start at ≡ lines_from n braces tokens (up_to end) start at ++ lines_from r braces tokens (up_to whole) Fresh end
lines_cut zero m r braces tokens end whole start at ends stand few many some = elim (stands_where tokens end start at stand) [
  | inl past ↦ fresh_cut zero m r braces tokens end whole start at ends past many some
  | inr lt ↦ absurd (omega arith)
]
lines_cut (suc n) zero r braces tokens end whole start at ends stand few many some = elim (stands_where tokens end start at stand) [
  | inl past ↦ fresh_cut (suc n) zero r braces tokens end whole start at ends past many some
  | inr lt ↦ absurd (let order : end ≤ whole = ends.order in omega arith)
]
lines_cut (suc n) (suc m) r braces tokens end whole start at ends stand few many some = elim (stands_where tokens end start at stand) [
  | inl past ↦ fresh_cut (suc n) (suc m) r braces tokens end whole start at ends past many some
  | inr lt ↦
      let o = file_up_to end in
      let p = file_up_to whole in
      let order : end ≤ whole = ends.order in
      let f = form_of braces tokens o start at in
      let alike = form_alike braces tokens end whole start at ends lt stand in
      let wide : at < whole = omega arith in
      let rest : List Line = lines_from r braces tokens (up_to whole) Fresh end in
      lines_turn m braces tokens p [] start at wide
      ∙ (ap (λ (g : Form). lines_after m braces tokens p [] start at g g.next) (sym alike.same)
      ∙ (elim f.next as (λ (x : Next). Reaches at o.end f x → Leaves tokens end f x
      → lines_after m braces tokens p [] start at f x ≡ lines_after n braces tokens o [] start at f x ++ rest) [
        | Ends ↦ λ reaches leaves.
            let up : at < f.end = reaches.0 in
            ap (λ (ls : List Line). line_of o start at f ∷ ls)
            (lines_cut n m r braces tokens end whole Fresh f.end ends leaves (omega arith) (omega arith) some)
        | Goes later ↦ λ reaches leaves. absurd leaves
        | Waits head ↦ λ reaches leaves. absurd leaves
        | Opens wrapped block ↦ λ reaches leaves.
            let begins : at ≤ f.end = reaches.begins in let goes_on : f.end < block.end = reaches.goes_on in let low : block.end ≤ end = reaches.ends in
            let head : List Line = head_lines o start at f wrapped in
            let inner : List Line = lines_from n braces tokens (block ∷ []) Fresh (f.end + 1) in
            ap (λ (ls : List Line). head ++ ls ++ lines_from m braces tokens (up_to whole) (Closing block) block.end)
            (same_lines m n braces tokens (block ∷ []) Fresh (f.end + 1) block.end (refl, tt) (omega arith) (omega arith))
            ∙ (ap (λ (ls : List Line). head ++ inner ++ ls)
            (lines_cut n m r braces tokens end whole (Closing block) block.end ends leaves (omega arith) (omega arith) some)
            ∙ sym (append_assoc (head ++ inner) (lines_from n braces tokens (up_to end) (Closing block) block.end) rest))
      ] (form_reaches braces tokens o start at lt) alike.leaves
      ∙ ap (λ (ls : List Line). ls ++ rest) (sym (lines_turn n braces tokens o [] start at lt))))
]

-- ## The level at the end

pub level_cut : (m r : ℕ) (braces : Braces) (tokens : List CodeToken) (end whole : ℕ) (start : Start) (at : ℕ) → EndsBeforeWord tokens end whole
    → Stand tokens end start at → whole < at + m → whole < end + r
    → end_level_from m braces tokens (up_to whole) start at ≡ end_level_from r braces tokens (up_to whole) Fresh end
level_cut zero r braces tokens end whole start at ends stand many some = elim (stands_where tokens end start at stand) [
  | inl past ↦ absurd (let order : end ≤ whole = ends.order in let e : at ≡ end = past.1 in omega arith)
  | inr lt ↦ absurd (let order : end ≤ whole = ends.order in omega arith)
]
level_cut (suc m) r braces tokens end whole start at ends stand many some = elim (stands_where tokens end start at stand) [
  | inl past ↦
      let order : end ≤ whole = ends.order in
      let e : at ≡ end = past.1 in
      ap (λ (s : Start). end_level_from (suc m) braces tokens (up_to whole) s at) past.0
      ∙ (ap (end_level_from (suc m) braces tokens (up_to whole) Fresh) e
      ∙ same_level (suc m) r braces tokens (up_to whole) Fresh end whole (refl, tt) (omega arith) (omega arith) (omega arith) some)
  | inr lt ↦
      let o = file_up_to end in
      let p = file_up_to whole in
      let order : end ≤ whole = ends.order in
      let f = form_of braces tokens o start at in
      let alike = form_alike braces tokens end whole start at ends lt stand in
      let wide : at < whole = omega arith in
      level_turn m braces tokens p [] start at wide
      ∙ (ap (λ (g : Form). level_after m braces tokens p [] g g.next) (sym alike.same)
      ∙ elim f.next as (λ (x : Next). Reaches at o.end f x → Leaves tokens end f x
      → level_after m braces tokens p [] f x ≡ end_level_from r braces tokens (up_to whole) Fresh end) [
        | Ends ↦ λ reaches leaves.
            let up : at < f.end = reaches.0 in
            level_cut m r braces tokens end whole Fresh f.end ends leaves (omega arith) some
        | Goes later ↦ λ reaches leaves. absurd leaves
        | Waits head ↦ λ reaches leaves. absurd leaves
        | Opens wrapped block ↦ λ reaches leaves.
            let begins : at ≤ f.end = reaches.begins in let goes_on : f.end < block.end = reaches.goes_on in
            let inside : block.end < end = leaves.within_list in
            at_true (nat_lt block.end whole) _ _ (lt-ltb block.end whole (omega arith))
            ∙ level_cut m r braces tokens end whole (Closing block) block.end ends leaves (omega arith) some
      ] (form_reaches braces tokens o start at lt) alike.leaves)
]

-- ## A first part

word_there : (earlier later : List CodeToken) → BeginsWord later → is_word (class_at (earlier ++ later) (length earlier)) ≡ true
word_there earlier [] begins = absurd begins
word_there earlier (x ∷ later) begins = ap (λ (t : Option CodeToken). is_word (class_of t)) (slice_at_seam earlier (x ∷ later))
    ∙ (and_parts (is_word x.class) x.began begins).0

ends_before : (earlier later : List CodeToken) → ArePaired earlier → BeginsWord later
    → EndsBeforeWord (earlier ++ later) (length earlier) (length (earlier ++ later))
ends_before earlier later paired begins = record {
  order = (omega (arith, length-append earlier later));
  all = refl;
  word = word_there earlier later begins;
  paired = λ i p round found. pair_there i p round found;
}
  where
    all : List CodeToken
    all = earlier ++ later

    pair_there : (i p : ℕ) → is_open_round (class_at all i) ≡ true → partner_in all (length earlier) i ≡ Some p
        → (is_close_round (class_at all p) ≡ true) × (partner_of (slice_get all p) ≡ Some i)
    pair_there i p round found =
        let place = partner_place all (length earlier) i p found in
        let up : i < p = place.0 in
        let same_i : slice_get all i ≡ slice_get earlier i = slice_before earlier later i (let low : p < length earlier = place.1 in omega arith) in
        let same_p : slice_get all p ≡ slice_get earlier p = slice_before earlier later p place.1 in
        let pair = paired i p (sym (ap (λ (t : Option CodeToken). is_open_round (class_of t)) same_i) ∙ round)
        (sym (ap (λ (t : Option CodeToken). within i (length earlier) (partner_of t)) same_i) ∙ found) in
        (ap (λ (t : Option CodeToken). is_close_round (class_of t)) same_p ∙ pair.0, ap partner_of same_p ∙ pair.1)

-- The lines of a file behind a first part begin anew.
pub record AreLinesCut (braces : Braces) (earlier later : List CodeToken) : Type 0 where
  pub lines : lines_of braces (earlier ++ later)
      ≡ lines_from (length earlier) braces (earlier ++ later) (file_up_to (length earlier) ∷ []) Fresh 0
      ++ lines_from (length later) braces (earlier ++ later) (file_up_to (length (earlier ++ later)) ∷ []) Fresh (length earlier)
  pub level : end_level braces (earlier ++ later)
      ≡ end_level_from (length later + 1) braces (earlier ++ later) (file_up_to (length (earlier ++ later)) ∷ []) Fresh (length earlier)

pub cuts_lines : (braces : Braces) (earlier later : List CodeToken) → ArePassed earlier → ArePaired earlier → BeginsWord later
    → AreLinesCut braces earlier later
cuts_lines braces earlier later passed paired begins =
    let all = earlier ++ later in
    let ends = ends_before earlier later paired begins in
    let stand : Stand all (length earlier) Fresh 0 =
    fresh_at all (length earlier) 0 Between false (length earlier, way_longer (length earlier) earlier later 0 Between false passed) (λ w. cc) in
    let count = length-append earlier later in
    record {
      lines = lines_cut (length earlier) (length all) (length later) braces all (length earlier) (length all) Fresh 0 ends stand (omega arith) (omega arith)
          (omega (arith, count));
      level = level_cut (length all + 1) (length later + 1) braces all (length earlier) (length all) Fresh 0 ends stand (omega arith) (omega (arith, count));
    }
