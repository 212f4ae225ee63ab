-- Lemmas on the level behind the last token.
use Rattle.std.proofs.Common.{◌≡◌, ℕ, zero, suc, ◌+◌, ◌-◌, ◌*◌, ◌<◌, ◌≤◌, nat_lt, Bool, true, false, ◌&&◌, List, []}
use Rattle.std.proofs.Common.{◌∷◌, ◌++◌, length, reverse, refl, arith, sym, ◌∙◌, ap, subst}
use Rattle.statement_lines.specs.declared.token.CodeToken.{CodeToken}
use Rattle.statement_lines.specs.declared.braces.Braces.{Braces}
use Rattle.statement_lines.specs.declared.open.Open.{Open}
use Rattle.statement_lines.specs.declared.open.Start.{Start}
use Rattle.statement_lines.specs.declared.open.Start.TheVariants.{Fresh, Closing}
use Rattle.statement_lines.specs.declared.open.Head.{Head}
use Rattle.statement_lines.specs.declared.form.Form.{Form}
use Rattle.statement_lines.specs.declared.form.Next.{Next}
use Rattle.statement_lines.specs.declared.form.Next.TheVariants.{Ends, Goes, Waits, Opens}
use Rattle.token_classes.specs.Classes.{is_else}
use Rattle.statement_lines.specs.Forms.{IsLow, StaysIn, form_of, seen, tail_end, is_if_head, is_do_head}
use Rattle.statement_lines.specs.Tree.{end_level_from, end_level, level_of_list, settled, Reading, body_of, whole_file}
use Rattle.statement_lines.specs.Stack.{OpenToEnd, LeadsToEnd, GoesBehind}
use Rattle.statement_lines.proofs.Lists.{reverse_snoc}
use Rattle.statement_lines.proofs.StackLemmas.{choice_keeps, settled_low}
use Rattle.statement_lines.proofs.Known.{lt_false, lt_true}
use Rattle.statement_lines.proofs.TurnLemmas.{stays_at, low_up}

-- ## Lists that are open to the end

pub open_later : (whole at to : ℕ) (os : List Open) → at ≤ to → OpenToEnd whole at os → OpenToEnd whole to os
open_later whole at to [] h k = tt
open_later whole at to (o ∷ os) h k =
    (k.0, ((let q = k.1.0 in omega arith), ((let q = k.1.1.0 in omega arith), open_later whole at to os h k.1.1.1)))

pub settled_open : (tokens : List CodeToken) (i whole at : ℕ) (os : List Open) → OpenToEnd whole at os → OpenToEnd whole at (settled tokens i os).opens
settled_open tokens i whole at [] h = h
settled_open tokens i whole at (o ∷ os) h =
    elim o.block as (λ b. let p = record o { block = b } in OpenToEnd whole at (p ∷ os) → OpenToEnd whole at (settled tokens i (p ∷ os)).opens) [
      | true ↦ λ k. k
      | false ↦ λ k. choice_keeps (λ x. OpenToEnd whole at x) (is_if_head o.head && is_else (seen tokens o.end i)) (is_do_head o.head && nat_lt i (tail_end tokens o.end i)) os (settled tokens i os) k.1.1.1 (settled_open tokens i whole at os k.1.1.1)
    ] h

-- ## One line

pub end_here : (n : ℕ) (braces : Braces) (tokens : List CodeToken) (os : List Open) (o : Open) (start : Start) (at : ℕ)
    → 0 < n → o.end ≤ at → end_level_from n braces tokens (o ∷ os) start at ≡ level_of_list (o ∷ os)
end_here zero braces tokens os o start at some h = absurd (omega arith)
end_here (suc n) braces tokens os o start at some h = let e : nat_lt at o.end ≡ false = grind arith in rw (e, end_level_from) refl

end_ends : (n : ℕ) (braces : Braces) (tokens : List CodeToken) (os : List Open) (o : Open) (start : Start) (at : ℕ) (f : Form)
    → nat_lt at o.end ≡ true → form_of braces tokens o start at ≡ f → f.next ≡ Ends
    → end_level_from (suc n) braces tokens (o ∷ os) start at
    ≡ end_level_from n braces tokens (settled tokens f.end (o ∷ os)).opens (settled tokens f.end (o ∷ os)).start f.end
end_ends n braces tokens os o start at f lt e q =
    let P : Form → Type 0 = λ g. g.next ≡ Ends → end_level_from (suc n) braces tokens (o ∷ os) start at ≡ end_level_from n braces tokens (settled tokens g.end (o ∷ os)).opens (settled tokens g.end (o ∷ os)).start g.end in
    subst P e (λ k. rw (lt, k, end_level_from) refl) q

end_goes : (n : ℕ) (braces : Braces) (tokens : List CodeToken) (os : List Open) (o : Open) (start : Start) (at : ℕ) (f : Form) (s : Start)
    → nat_lt at o.end ≡ true → form_of braces tokens o start at ≡ f → f.next ≡ Goes s
    → end_level_from (suc n) braces tokens (o ∷ os) start at ≡ end_level_from n braces tokens (o ∷ os) s f.end
end_goes n braces tokens os o start at f s lt e q =
    let P : Form → Type 0 = λ g. g.next ≡ Goes s → end_level_from (suc n) braces tokens (o ∷ os) start at ≡ end_level_from n braces tokens (o ∷ os) s g.end in
    subst P e (λ k. rw (lt, k, end_level_from) refl) q

end_waits : (n : ℕ) (braces : Braces) (tokens : List CodeToken) (os : List Open) (o : Open) (start : Start) (at : ℕ) (f : Form) (h : Head)
    → nat_lt at o.end ≡ true → form_of braces tokens o start at ≡ f → f.next ≡ Waits h
    → end_level_from (suc n) braces tokens (o ∷ os) start at ≡ end_level_from n braces tokens (body_of o h f.level ∷ o ∷ os) Fresh f.end
end_waits n braces tokens os o start at f h lt e q =
    let P : Form → Type 0 = λ g. g.next ≡ Waits h → end_level_from (suc n) braces tokens (o ∷ os) start at ≡ end_level_from n braces tokens (body_of o h g.level ∷ o ∷ os) Fresh g.end in
    subst P e (λ k. rw (lt, k, end_level_from) refl) q

end_past : (n : ℕ) (braces : Braces) (tokens : List CodeToken) (os : List Open) (o : Open) (start : Start) (at : ℕ) (f : Form) (w : Bool) (b : Open)
    → nat_lt at o.end ≡ true → form_of braces tokens o start at ≡ f → f.next ≡ Opens w b → nat_lt b.end o.end ≡ true
    → end_level_from (suc n) braces tokens (o ∷ os) start at ≡ end_level_from n braces tokens (o ∷ os) (Closing b) b.end
end_past n braces tokens os o start at f w b lt e q before =
    let P : Form → Type 0 = λ g. g.next ≡ Opens w b → end_level_from (suc n) braces tokens (o ∷ os) start at ≡ end_level_from n braces tokens (o ∷ os) (Closing b) b.end in
    subst P e (λ k. rw (lt, k, before, end_level_from) refl) q

end_into : (n : ℕ) (braces : Braces) (tokens : List CodeToken) (os : List Open) (o : Open) (start : Start) (at : ℕ) (f : Form) (w : Bool) (b : Open)
    → nat_lt at o.end ≡ true → form_of braces tokens o start at ≡ f → f.next ≡ Opens w b → nat_lt b.end o.end ≡ false
    → end_level_from (suc n) braces tokens (o ∷ os) start at ≡ end_level_from n braces tokens (b ∷ []) Fresh (f.end + 1)
end_into n braces tokens os o start at f w b lt e q before =
    let P : Form → Type 0 = λ g. g.next ≡ Opens w b → end_level_from (suc n) braces tokens (o ∷ os) start at ≡ end_level_from n braces tokens (b ∷ []) Fresh (g.end + 1) in
    subst P e (λ k. rw (lt, k, before, end_level_from) refl) q

-- ## Between two lines

-- from one place to a later one, with one line read
leads : (fuel at to : ℕ) (braces : Braces) (tokens : List CodeToken) (os os' : List Open) (start start' : Start)
    → length tokens - at < fuel → end_level_from fuel braces tokens os start at ≡ end_level braces tokens → at < to → at < length tokens
    → ((n : ℕ) → end_level_from (suc n) braces tokens os start at ≡ end_level_from n braces tokens os' start' to)
    → OpenToEnd (length tokens) to os' → IsLow to start' → LeadsToEnd braces tokens os' start' to
leads zero at to braces tokens os os' start start' enough same up within step opens low = absurd (omega arith)
leads (suc n) at to braces tokens os os' start start' enough same up within step opens low =
    record { fuel = n; enough = (omega arith); same = sym (step n) ∙ same; open_lists = opens; low = low }

move_stack : (braces : Braces) (tokens : List CodeToken) (os os' : List Open) (start : Start) (at : ℕ) → os ≡ os' → LeadsToEnd braces tokens os start at → LeadsToEnd braces tokens os' start at
move_stack braces tokens os os' start at e h = let P : List Open → Type 0 = λ x. LeadsToEnd braces tokens x start at in subst P e h

move_reading : (braces : Braces) (tokens : List CodeToken) (r r' : Reading) (at : ℕ) → r ≡ r' → LeadsToEnd braces tokens r.opens r.start at → LeadsToEnd braces tokens r'.opens r'.start at
move_reading braces tokens r r' at e h = let P : Reading → Type 0 = λ x. LeadsToEnd braces tokens x.opens x.start at in subst P e h

leads_moved : (braces : Braces) (tokens : List CodeToken) (os os' : List Open) (s s' : Start) (at at' : ℕ) → os' ≡ os → s' ≡ s → at' ≡ at
    → LeadsToEnd braces tokens os s at → LeadsToEnd braces tokens os' s' at'
leads_moved braces tokens os os' s s' at at' es e ea h =
    let P : ℕ → Type 0 = λ x. LeadsToEnd braces tokens os' s' x in
    let Q : Start → Type 0 = λ x. LeadsToEnd braces tokens os' x at in
    subst P (sym ea) (subst Q (sym e) (move_stack braces tokens os os' s at (sym es) h))

-- a line behind which no block stands
pub skipped : (braces : Braces) (tokens : List CodeToken) (o : Open) (stack0 stack1 stack2 : List Open) (start s2 : Start) (at to : ℕ) (f : Form) (n : Next)
    → LeadsToEnd braces tokens (o ∷ reverse stack0) start at → at < o.end → form_of braces tokens o start at ≡ f → f.next ≡ n → StaysIn at o f f.next → f.level ≤ 2 * at
    → ((w : Bool) (b : Open) → f.next ≡ Opens w b → ⊥)
    → stack1 ≡ stack0 ++ o ∷ [] → GoesBehind tokens o f (reverse stack1) (reverse stack2) s2 to n
    → LeadsToEnd braces tokens (reverse stack2) s2 to
skipped braces tokens o stack0 stack1 stack2 start s2 at to f Ends s lt e q stay level other es w =
    let h = stays_at at o f Ends q stay in
    let up : at < f.end = h.0 in
    let end : o.end ≡ length tokens = s.open_lists.0 in
    let os : List Open = o ∷ reverse stack0 in
    let t = leads s.fuel at f.end braces tokens os (settled tokens f.end os).opens start (settled tokens f.end os).start s.enough s.same up (omega (arith, lt, end))
    (λ n. end_ends n braces tokens (reverse stack0) o start at f (lt_true at o.end lt) e q)
    (settled_open tokens f.end (length tokens) f.end os (open_later (length tokens) at f.end os (omega (arith, up)) s.open_lists)) (settled_low tokens f.end f.end os) in
    let k = move_reading braces tokens (settled tokens f.end os) (record { opens = reverse stack2; start = s2 }) f.end (rw (reverse_snoc stack0 stack1 o es) at w.0) t in
    leads_moved braces tokens (reverse stack2) (reverse stack2) s2 s2 f.end to refl refl w.1 k
skipped braces tokens o stack0 stack1 stack2 start s2 at to f (Goes g) s lt e q stay level other es w =
    let h = stays_at at o f (Goes g) q stay in
    let up : at < f.end = h.0 in
    let end : o.end ≡ length tokens = s.open_lists.0 in
    let os : List Open = o ∷ reverse stack0 in
    leads_moved braces tokens os (reverse stack2) g s2 f.end to (w.0 ∙ reverse_snoc stack0 stack1 o es) w.1.0 w.1.1
    (leads s.fuel at f.end braces tokens os os start g s.enough s.same up (omega (arith, lt, end))
    (λ n. end_goes n braces tokens (reverse stack0) o start at f g (lt_true at o.end lt) e q)
    (open_later (length tokens) at f.end os (omega (arith, up)) s.open_lists) (low_up at f.end g (omega (arith, up)) h.1.1))
skipped braces tokens o stack0 stack1 stack2 start s2 at to f (Waits k) s lt e q stay level other es w =
    let h = stays_at at o f (Waits k) q stay in
    let up : at < f.end = h.0 in
    let end : o.end ≡ length tokens = s.open_lists.0 in
    let os : List Open = o ∷ reverse stack0 in
    leads_moved braces tokens (body_of o k f.level ∷ os) (reverse stack2) Fresh s2 f.end to (w.0 ∙ ap (λ os. body_of o k f.level ∷ os) (reverse_snoc stack0 stack1 o es)) w.1.0 w.1.1
    (leads s.fuel at f.end braces tokens os (body_of o k f.level ∷ os) start Fresh s.enough s.same up (omega (arith, lt, end))
    (λ n. end_waits n braces tokens (reverse stack0) o start at f k (lt_true at o.end lt) e q)
    (end, ((omega (arith, level, up)), ((omega (arith, level, up)), open_later (length tokens) at f.end os (omega (arith, up)) s.open_lists))) tt)
skipped braces tokens o stack0 stack1 stack2 start s2 at to f (Opens wrapped b) s lt e q stay level other es w = absurd (other wrapped b q)

pub past_skip : (braces : Braces) (tokens : List CodeToken) (o b : Open) (stack0 stack1 : List Open) (start : Start) (at : ℕ) (f : Form) (w : Bool)
    → LeadsToEnd braces tokens (o ∷ reverse stack0) start at → at < o.end → form_of braces tokens o start at ≡ f → f.next ≡ Opens w b → StaysIn at o f f.next → f.level ≤ 2 * at
    → b.end < o.end → stack1 ≡ stack0 ++ o ∷ [] → LeadsToEnd braces tokens (reverse stack1) (Closing b) b.end
past_skip braces tokens o b stack0 stack1 start at f w s lt e q stay level before es =
    let h = stays_at at o f (Opens w b) q stay in
    let begins : at ≤ f.end = h.begins in
    let on : f.end < b.end = h.goes_on in
    let low : b.head_level ≤ f.level = h.head_level in
    let end : o.end ≡ length tokens = s.open_lists.0 in
    let os : List Open = o ∷ reverse stack0 in
    move_stack braces tokens os (reverse stack1) (Closing b) b.end (sym (reverse_snoc stack0 stack1 o es))
    (leads s.fuel at b.end braces tokens os os start (Closing b) s.enough s.same (omega arith) (omega arith)
    (λ n. end_past n braces tokens (reverse stack0) o start at f w b (lt_true at o.end lt) e q (lt_true b.end o.end before))
    (open_later (length tokens) at b.end os (omega arith) s.open_lists) (omega arith))

pub into_skip : (braces : Braces) (tokens : List CodeToken) (o b : Open) (stack0 stack1 stack2 : List Open) (start : Start) (at : ℕ) (f : Form) (w : Bool)
    → LeadsToEnd braces tokens (o ∷ reverse stack0) start at → at < o.end → form_of braces tokens o start at ≡ f → f.next ≡ Opens w b → StaysIn at o f f.next → f.level ≤ 2 * at
    → o.end ≤ b.end → stack1 ≡ [] → stack2 ≡ stack1 ++ b ∷ [] → LeadsToEnd braces tokens (reverse stack2) Fresh (f.end + 1)
into_skip braces tokens o b stack0 stack1 stack2 start at f w s lt e q stay level after es es2 =
    let h = stays_at at o f (Opens w b) q stay in
    let begins : at ≤ f.end = h.begins in
    let inside : b.end ≤ o.end = h.ends in
    let l1 : b.level ≤ f.level + 2 = h.level in
    let l2 : b.case_level ≤ f.level + 2 = h.case_level in
    let end : o.end ≡ length tokens = s.open_lists.0 in
    let not_before = lt_false b.end o.end after in
    let only : b ∷ [] ≡ stack2 = cc in
    move_stack braces tokens (b ∷ []) (reverse stack2) Fresh (f.end + 1) (ap reverse only)
    (leads s.fuel at (f.end + 1) braces tokens (o ∷ reverse stack0) (b ∷ []) start Fresh s.enough s.same (omega arith) (omega arith)
    (λ n. end_into n braces tokens (reverse stack0) o start at f w b (lt_true at o.end lt) e q not_before)
    ((omega arith), ((omega arith), ((omega arith), tt))) tt)

-- ## The start

pub leads_from_start : (braces : Braces) (tokens : List CodeToken) → LeadsToEnd braces tokens (whole_file tokens ∷ []) Fresh 0
leads_from_start braces tokens =
    record { fuel = length tokens + 1; enough = (omega arith); same = refl; open_lists = (refl, ((omega arith), ((omega arith), tt))); low = tt }

pub leads_from_file : (braces : Braces) (tokens : List CodeToken) (stack0 stack1 : List Open) (o : Open)
    → stack0 ≡ [] → o ≡ whole_file tokens → stack1 ≡ stack0 ++ o ∷ [] → LeadsToEnd braces tokens (reverse stack1) Fresh 0
leads_from_file braces tokens stack0 stack1 o empty whole pushed =
    let one : whole_file tokens ∷ [] ≡ reverse stack1 = cc in
    move_stack braces tokens (whole_file tokens ∷ []) (reverse stack1) Fresh 0 one (leads_from_start braces tokens)

-- ## The innermost list

pub leads_within : (braces : Braces) (tokens : List CodeToken) (stack0 stack1 : List Open) (o : Open) (start : Start) (at : ℕ)
    → stack1 ≡ stack0 ++ o ∷ [] → LeadsToEnd braces tokens (reverse stack1) start at → LeadsToEnd braces tokens (o ∷ reverse stack0) start at
leads_within braces tokens stack0 stack1 o start at e h = move_stack braces tokens (reverse stack1) (o ∷ reverse stack0) start at (reverse_snoc stack0 stack1 o e) h

pub whole_within : (braces : Braces) (tokens : List CodeToken) (os : List Open) (o : Open) (start : Start) (at : ℕ) → LeadsToEnd braces tokens (o ∷ os) start at → o.end ≤ length tokens
whole_within braces tokens os o start at s = let e : o.end ≡ length tokens = s.open_lists.0 in omega (arith, e)

-- the list that is open behind the last token
pub end_found : (braces : Braces) (tokens : List CodeToken) (stack0 stack1 : List Open) (o : Open) (start : Start) (at : ℕ)
    → stack1 ≡ stack0 ++ o ∷ [] → LeadsToEnd braces tokens (reverse stack1) start at → o.end ≤ at → level_of_list (o ∷ reverse stack0) ≡ end_level braces tokens
end_found braces tokens stack0 stack1 o start at e h within =
    let s = move_stack braces tokens (reverse stack1) (o ∷ reverse stack0) start at (reverse_snoc stack0 stack1 o e) h in
    sym (end_here s.fuel braces tokens (reverse stack0) o start at (let q = s.enough in omega arith) within) ∙ s.same

pub nearer : (whole end at to : ℕ) → at < end → end ≤ whole → at < to → whole - to < whole - at
nearer whole end at to here within up = omega (arith, here, within, up)
