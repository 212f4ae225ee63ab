-- The lines of lists, turn by turn: where the number of turns suffices, it doesn't tell them, and they cut their tokens whole and in order.
use Rattle.std.proofs.Common.{◌≡◌, ℕ, suc, ◌+◌, ◌<◌, nat_lt, true, false, List, [], ◌∷◌, ◌++◌, ◌∙◌, zero, ◌≤◌, ◌&&◌, refl, arith, sym, ap, inl, inr, Bool, length, ◌⊎◌, subst}
use Rattle.std.proofs.lemmas.Bool.{lt-ltb, cases_lt}
use Rattle.statement_lines.specs.declared.token.CodeToken.{CodeToken}
use Rattle.statement_lines.specs.declared.line.Line.{Line}
use Rattle.statement_lines.specs.declared.braces.Braces.{Braces}
use Rattle.statement_lines.specs.declared.open.Open.{Open}
use Rattle.statement_lines.specs.declared.open.Start.{Start}
use Rattle.statement_lines.specs.declared.open.Start.TheVariants.{Fresh, Closing}
use Rattle.statement_lines.specs.declared.form.Next.{Next}
use Rattle.statement_lines.specs.declared.form.Next.TheVariants.{Ends, Goes, Waits, Opens}
use Rattle.statement_lines.specs.declared.form.Form.{Form}
use Rattle.statement_lines.specs.Forms.{form_of, seen, tail_end, is_if_head, is_do_head}
use Rattle.statement_lines.specs.Tree.{lines_from, end_level_from, level_of_list, settled, line_of, head_lines, body_of, Reading, answers_else, answers_tail, lines_of, whole_file}
use Rattle.part_laws.proofs.Choices.{at_true, chosen, either}
use Rattle.token_classes.specs.Classes.{is_else}
use Rattle.statement_lines.proofs.StackLemmas.{choice_keeps, from_end, cut_more}
use Rattle.part_laws.proofs.FormsReach.{Reaches, form_reaches}
use Rattle.statement_lines.proofs.EndLemmas.{end_here}
use Rattle.statement_lines.specs.Stack.{IsCut}

-- the lines from a line's form on
abbrev pub lines_after : ℕ → Braces → List CodeToken → Open → List Open → Start → ℕ → Form → Next → List Line
lines_after n braces tokens o os start at f Ends =
    line_of o start at f ∷ lines_from n braces tokens (settled tokens f.end (o ∷ os)).opens (settled tokens f.end (o ∷ os)).start f.end
lines_after n braces tokens o os start at f (Goes later) = line_of o start at f ∷ lines_from n braces tokens (o ∷ os) later f.end
lines_after n braces tokens o os start at f (Waits head) = line_of o start at f ∷ lines_from n braces tokens (body_of o head f.level ∷ o ∷ os) Fresh f.end
lines_after n braces tokens o os start at f (Opens wrapped block) =
    head_lines o start at f wrapped ++ lines_from n braces tokens (block ∷ []) Fresh (f.end + 1) ++ lines_from n braces tokens (o ∷ os)
    (Closing block) block.end

pub lines_turn : (n : ℕ) (braces : Braces) (tokens : List CodeToken) (o : Open) (os : List Open) (start : Start) (at : ℕ) → at < o.end
    → let f = form_of braces tokens o start at in
    lines_from (suc n) braces tokens (o ∷ os) start at ≡ lines_after n braces tokens o os start at f f.next
lines_turn n braces tokens o os start at inside =
    let f = form_of braces tokens o start at in
    at_true (nat_lt at o.end) (lines_after n braces tokens o os start at f f.next) [] (lt-ltb at o.end inside)

-- the level from a line's form on
abbrev pub level_after : ℕ → Braces → List CodeToken → Open → List Open → Form → Next → ℕ
level_after n braces tokens o os f Ends = end_level_from n braces tokens (settled tokens f.end (o ∷ os)).opens (settled tokens f.end (o ∷ os)).start f.end
level_after n braces tokens o os f (Goes later) = end_level_from n braces tokens (o ∷ os) later f.end
level_after n braces tokens o os f (Waits head) = end_level_from n braces tokens (body_of o head f.level ∷ o ∷ os) Fresh f.end
level_after n braces tokens o os f (Opens wrapped block) =
    elim (nat_lt block.end o.end) as (λ _. ℕ) [
      | true ↦ end_level_from n braces tokens (o ∷ os) (Closing block) block.end
      | false ↦ end_level_from n braces tokens (block ∷ []) Fresh (f.end + 1)
    ]

pub level_turn : (n : ℕ) (braces : Braces) (tokens : List CodeToken) (o : Open) (os : List Open) (start : Start) (at : ℕ) → at < o.end
    → let f = form_of braces tokens o start at in
    end_level_from (suc n) braces tokens (o ∷ os) start at ≡ level_after n braces tokens o os f f.next
level_turn n braces tokens o os start at inside =
    let f = form_of braces tokens o start at in
    at_true (nat_lt at o.end) (level_after n braces tokens o os f f.next) (level_of_list (o ∷ os)) (lt-ltb at o.end inside)

-- ## Enough turns

-- each of these lists ends at this place
abbrev pub EndAt : ℕ → List Open → Type 0
EndAt end [] = Unit {0}
EndAt end (o ∷ os) = (o.end ≡ end) × EndAt end os

settled_end : (tokens : List CodeToken) (at end : ℕ) (os : List Open) → EndAt end os → EndAt end (settled tokens at os).opens
settled_end tokens at end [] h = h
settled_end tokens at end (o ∷ os) h =
    elim o.block as (λ b. EndAt end (record o { block = b } ∷ os) → EndAt end (settled tokens at (record o { block = b } ∷ os)).opens) [
      | true ↦ λ k. k
      | false ↦ λ k. choice_keeps (λ x. EndAt end x) (is_if_head o.head && is_else (seen tokens o.end at))
          (is_do_head o.head && nat_lt at (tail_end tokens o.end at)) os (settled tokens at os) k.1 (settled_end tokens at end os k.1)
    ] h

-- ## Lines

abbrev SameLines : ℕ → ℕ → Braces → List CodeToken → Type 0
SameLines n m braces tokens = (os : List Open) (start : Start) (at end : ℕ) → EndAt end os → end ≤ at + n → end ≤ at + m
    → lines_from n braces tokens os start at ≡ lines_from m braces tokens os start at

lines_step : (n m : ℕ) (braces : Braces) (tokens : List CodeToken) → SameLines n m braces tokens
    → (o : Open) (os : List Open) (start : Start) (at end : ℕ) (f : Form) (next : Next)
    → EndAt end (o ∷ os) → end ≤ at + suc n → end ≤ at + suc m → Reaches at o.end f next
    → lines_after n braces tokens o os start at f next ≡ lines_after m braces tokens o os start at f next
lines_step n m braces tokens same o os start at end f Ends ends few many reaches =
    let up : at < f.end = reaches.0 in
    let left = settled tokens f.end (o ∷ os) in
    ap (λ (ls : List Line). line_of o start at f ∷ ls)
    (same left.opens left.start f.end end (settled_end tokens f.end end (o ∷ os) ends) (omega arith) (omega arith))
lines_step n m braces tokens same o os start at end f (Goes later) ends few many reaches =
    let up : at < f.end = reaches.0 in
    ap (λ (ls : List Line). line_of o start at f ∷ ls) (same (o ∷ os) later f.end end ends (omega arith) (omega arith))
lines_step n m braces tokens same o os start at end f (Waits head) ends few many reaches =
    let up : at < f.end = reaches.0 in
    ap (λ (ls : List Line). line_of o start at f ∷ ls) (same (body_of o head f.level ∷ o ∷ os) Fresh f.end end (ends.0, ends) (omega arith) (omega arith))
lines_step n m braces tokens same o os start at end f (Opens wrapped block) ends few many reaches =
    let begins : at ≤ f.end = reaches.begins in let goes_on : f.end < block.end = reaches.goes_on in let low : block.end ≤ o.end = reaches.ends in
    let is : o.end ≡ end = ends.0 in
    let head : List Line = head_lines o start at f wrapped in
    ap (λ (ls : List Line). head ++ ls ++ lines_from n braces tokens (o ∷ os) (Closing block) block.end)
    (same (block ∷ []) Fresh (f.end + 1) block.end (refl, tt) (omega arith) (omega arith))
    ∙ ap (λ (ls : List Line). head ++ lines_from m braces tokens (block ∷ []) Fresh (f.end + 1) ++ ls)
    (same (o ∷ os) (Closing block) block.end end ends (omega arith) (omega arith))

no_lists : (n : ℕ) (braces : Braces) (tokens : List CodeToken) (start : Start) (at : ℕ) → lines_from n braces tokens [] start at ≡ []
no_lists zero braces tokens start at = refl
no_lists (suc n) braces tokens start at = refl

pub same_lines : (n m : ℕ) (braces : Braces) (tokens : List CodeToken) → SameLines n m braces tokens
same_lines n m braces tokens [] start at end ends few many = no_lists n braces tokens start at ∙ sym (no_lists m braces tokens start at)
same_lines zero m braces tokens (o ∷ os) start at end ends few many = let e = ends.0 in sym (from_end m braces tokens os o start at (omega arith))
same_lines (suc n) zero braces tokens (o ∷ os) start at end ends few many = let e = ends.0 in from_end (suc n) braces tokens os o start at (omega arith)
same_lines (suc n) (suc m) braces tokens (o ∷ os) start at end ends few many = elim (cases_lt at o.end) [
  | inr out ↦ from_end (suc n) braces tokens os o start at out ∙ sym (from_end (suc m) braces tokens os o start at out)
  | inl into ↦
      let f = form_of braces tokens o start at in
      lines_turn n braces tokens o os start at into
      ∙ (lines_step n m braces tokens (same_lines n m braces tokens) o os start at end f f.next ends few many (form_reaches braces tokens o start at into)
      ∙ sym (lines_turn m braces tokens o os start at into))
]

-- ## The level at the end

abbrev SameLevel : ℕ → ℕ → Braces → List CodeToken → Type 0
SameLevel n m braces tokens = (os : List Open) (start : Start) (at end : ℕ) → EndAt end os → 0 < n → 0 < m → end < at + n → end < at + m
    → end_level_from n braces tokens os start at ≡ end_level_from m braces tokens os start at

level_step : (n m : ℕ) (braces : Braces) (tokens : List CodeToken) → SameLevel n m braces tokens
    → (o : Open) (os : List Open) (start : Start) (at end : ℕ) (f : Form) (next : Next)
    → at < o.end → EndAt end (o ∷ os) → end < at + suc n → end < at + suc m → Reaches at o.end f next
    → level_after n braces tokens o os f next ≡ level_after m braces tokens o os f next
level_step n m braces tokens same o os start at end f Ends inside ends few many reaches =
    let up : at < f.end = reaches.0 in let is : o.end ≡ end = ends.0 in
    let left = settled tokens f.end (o ∷ os) in
    same left.opens left.start f.end end (settled_end tokens f.end end (o ∷ os) ends) (omega arith) (omega arith) (omega arith) (omega arith)
level_step n m braces tokens same o os start at end f (Goes later) inside ends few many reaches =
    let up : at < f.end = reaches.0 in let is : o.end ≡ end = ends.0 in
    same (o ∷ os) later f.end end ends (omega arith) (omega arith) (omega arith) (omega arith)
level_step n m braces tokens same o os start at end f (Waits head) inside ends few many reaches =
    let up : at < f.end = reaches.0 in let is : o.end ≡ end = ends.0 in
    same (body_of o head f.level ∷ o ∷ os) Fresh f.end end (ends.0, ends) (omega arith) (omega arith) (omega arith) (omega arith)
level_step n m braces tokens same o os start at end f (Opens wrapped block) inside ends few many reaches =
    let begins : at ≤ f.end = reaches.begins in let goes_on : f.end < block.end = reaches.goes_on in let low : block.end ≤ o.end = reaches.ends in
    let is : o.end ≡ end = ends.0 in
    chosen (nat_lt block.end o.end) (nat_lt block.end o.end) _ _ _ _ refl
    (λ _. same (o ∷ os) (Closing block) block.end end ends (omega arith) (omega arith) (omega arith) (omega arith))
    (λ _. same (block ∷ []) Fresh (f.end + 1) block.end (refl, tt) (omega arith) (omega arith) (omega arith) (omega arith))

no_level : (n : ℕ) (braces : Braces) (tokens : List CodeToken) (start : Start) (at : ℕ) → end_level_from n braces tokens [] start at ≡ 0
no_level zero braces tokens start at = refl
no_level (suc n) braces tokens start at = refl

pub same_level : (n m : ℕ) (braces : Braces) (tokens : List CodeToken) → SameLevel n m braces tokens
same_level n m braces tokens [] start at end ends some any few many = no_level n braces tokens start at ∙ sym (no_level m braces tokens start at)
same_level zero m braces tokens (o ∷ os) start at end ends some any few many = absurd (omega arith)
same_level (suc n) zero braces tokens (o ∷ os) start at end ends some any few many = absurd (omega arith)
same_level (suc n) (suc m) braces tokens (o ∷ os) start at end ends some any few many = elim (cases_lt at o.end) [
  | inr out ↦ end_here (suc n) braces tokens os o start at some out ∙ sym (end_here (suc m) braces tokens os o start at any out)
  | inl into ↦
      let f = form_of braces tokens o start at in
      level_turn n braces tokens o os start at into
      ∙ (level_step n m braces tokens (same_level n m braces tokens) o os start at end f f.next into ends few many (form_reaches braces tokens o start at into)
      ∙ sym (level_turn m braces tokens o os start at into))
]

-- ## They cut their tokens

-- these are the headers that wait in a list with this end, above the list itself
abbrev Listed : ℕ → List Open → Type 0
Listed end [] = ⊥
Listed end (o ∷ os) = (o.end ≡ end) × (o.block ≡ false → Listed end os)

settled_listed : (tokens : List CodeToken) (at end : ℕ) (os : List Open) → Listed end os → Listed end (settled tokens at os).opens
settled_listed tokens at end [] listed = listed
settled_listed tokens at end (o ∷ os) listed =
    either (λ (r : Reading). Listed end r.opens) o.block _ _
    (λ e. listed)
    (λ e.
    either (λ (r : Reading). Listed end r.opens) (answers_else tokens o at) _ _
    (λ _. listed.1 e)
    (λ _.
    either (λ (r : Reading). Listed end r.opens) (answers_tail tokens o at) _ _
    (λ _. listed.1 e)
    (λ _. settled_listed tokens at end os (listed.1 e))))

head_cut : (o : Open) (start : Start) (at : ℕ) (form : Form) (wrapped : Bool) → at ≤ form.end → (wrapped ≡ true → at < form.end)
    → IsCut at (form.end + 1) (head_lines o start at form wrapped)
head_cut o start at form true begins takes = (refl, (takes refl, (refl, (omega arith, refl))))
head_cut o start at form false begins takes = (refl, (omega (arith, begins), refl))

-- with so many turns the lines of a list cut what is left of it
abbrev CutWith : ℕ → Braces → List CodeToken → Type 0
CutWith n braces tokens = (os : List Open) (start : Start) (at end : ℕ) → Listed end os → at ≤ end → end ≤ at + n
    → IsCut at end (lines_from n braces tokens os start at)

cut_step : (n : ℕ) (braces : Braces) (tokens : List CodeToken) (o : Open) (os : List Open) (start : Start) (at end : ℕ) → CutWith n braces tokens
    → Listed end (o ∷ os) → at ≤ end → end ≤ at + suc n → IsCut at end (lines_from (suc n) braces tokens (o ∷ os) start at)
cut_step n braces tokens o os start at end cuts listed low enough = by_place (cases_lt at o.end)
  where
    form : Form
    form = form_of braces tokens o start at

    by_next : (next : Next) → Reaches at o.end form next → IsCut at end (lines_after n braces tokens o os start at form next)
    by_next Ends reaches =
        let left = settled tokens form.end (o ∷ os) in
        let listed_on = settled_listed tokens form.end end (o ∷ os) listed in
        (refl, (reaches.0, cuts left.opens left.start form.end end listed_on (omega (arith, reaches.1, listed.0)) (omega (arith, reaches.0, enough))))
    by_next (Goes later) reaches =
        (refl, (reaches.0, cuts (o ∷ os) later form.end end listed (omega (arith, reaches.1, listed.0)) (omega (arith, reaches.0, enough))))
    by_next (Waits head) reaches =
        let waits : List Open = body_of o head form.level ∷ o ∷ os in
        (refl, (reaches.0, cuts waits Fresh form.end end (listed.0, λ e. listed) (omega (arith, reaches.1, listed.0)) (omega (arith, reaches.0, enough))))
    by_next (Opens wrapped block) reaches =
        let no : block.block ≡ false → ⊥ = λ e. (let q : true ≡ false = sym reaches.is_block ∙ e in cc) in
        let goes_on : form.end < block.end = reaches.goes_on in
        let ends : block.end ≤ o.end = reaches.ends in
        let begins : at ≤ form.end = reaches.begins in
        let inner = cuts (block ∷ []) Fresh (form.end + 1) block.end (refl, λ e. absurd (no e)) (omega (arith, goes_on))
        (omega (arith, begins, ends, listed.0, enough)) in
        let outer = cuts (o ∷ os) (Closing block) block.end end listed (omega (arith, ends, listed.0)) (omega (arith, begins, goes_on, enough)) in
        cut_more at block.end end _ _ (cut_more at (form.end + 1) block.end _ _ (head_cut o start at form wrapped begins reaches.takes) inner) outer

    by_place : (at < o.end) ⊎ (o.end ≤ at) → IsCut at end (lines_from (suc n) braces tokens (o ∷ os) start at)
    by_place (inl up) = subst (IsCut at end) (sym (lines_turn n braces tokens o os start at up)) (by_next form.next (form_reaches braces tokens o start at up))
    by_place (inr done) = rw (from_end (suc n) braces tokens os o start at done) (omega (arith, done, low, listed.0))

lines_cut_from : (n : ℕ) (braces : Braces) (tokens : List CodeToken) → CutWith n braces tokens
lines_cut_from zero braces tokens os start at end listed low enough = omega (arith, low, enough)
lines_cut_from (suc n) braces tokens [] start at end listed low enough = absurd listed
lines_cut_from (suc n) braces tokens (o ∷ os) start at end listed low enough =
    cut_step n braces tokens o os start at end (lines_cut_from n braces tokens) listed low enough

-- so do those of a file
pub lines_cut : (braces : Braces) (tokens : List CodeToken) → IsCut 0 (length tokens) (lines_of braces tokens)
lines_cut braces tokens =
    lines_cut_from (length tokens) braces tokens (whole_file tokens ∷ []) Fresh 0 (length tokens) (refl, λ e. absurd (let q : true ≡ false = e in cc))
    (omega arith) (omega arith)
