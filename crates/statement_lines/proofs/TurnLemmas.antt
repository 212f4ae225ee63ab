-- What the code's writes leave.
use Rattle.std.proofs.Common.{◌≡◌, ℕ, ◌+◌, ◌*◌, ◌^◌, ◌<◌, ◌≤◌, Bool, true, false, List, [], ◌∷◌, ◌++◌, length}
use Rattle.std.proofs.Common.{length-append, reverse, Some, None, Result, Ok, Err, IfOk, ◌-◌, refl, arith, sym, ◌∙◌, ap}
use Rattle.std.proofs.Common.{subst}
use Rattle.std.proofs.lemmas.List.{nil_from_length}
use Rattle.statement_lines.specs.declared.token.CodeToken.{CodeToken}
use Rattle.statement_lines.specs.declared.line.Line.{Line}
use Rattle.statement_lines.specs.declared.braces.Braces.{Braces}
use Rattle.statement_lines.specs.declared.open.Open.{Open}
use Rattle.statement_lines.specs.declared.open.Start.{Start}
use Rattle.statement_lines.specs.declared.open.Start.TheVariants.{Fresh, Tail, Closing}
use Rattle.statement_lines.specs.declared.form.Form.{Form}
use Rattle.line_tokens.specs.declared.line.LineKind.TheVariants.{Simple}
use Rattle.statement_lines.specs.declared.tree.Place.{Place}
use Rattle.statement_lines.specs.declared.form.Next.{Next}
use Rattle.statement_lines.specs.declared.form.Next.TheVariants.{Ends, Goes, Waits, Opens}
use Rattle.statement_lines.specs.Forms.{IsLow, StaysIn, form_of}
use Rattle.statement_lines.specs.Tree.{settled, Reading, line_of, lines_of, head_lines, body_of, whole_file}
use Rattle.statement_lines.specs.Stack.{left, form_lines, GoesBehind, Stands, LeavesOpen}
use Rattle.statement_lines.proofs.Lists.{reverse_snoc}
use Rattle.statement_lines.proofs.StackLemmas.{begins, ends, stands_ends, stands_goes, stands_waits, stands_opens}
use Rattle.statement_lines.proofs.StackLemmas.{stands_leaves, leaves, left_some, fits_within}

put : (braces : Braces) (tokens : List CodeToken) (out out' : List Line) (os os' : List Open) (start : Start) (at : ℕ)
    → out ≡ out' → os ≡ os' → Stands braces tokens out os start at → Stands braces tokens out' os' start at
put braces tokens out out' os os' start at e q s =
    let P : List Line → Type 0 = λ x. Stands braces tokens x os start at in
    let Q : List Open → Type 0 = λ x. Stands braces tokens out' x start at in
    subst Q q (subst P e s)

put_reading : (braces : Braces) (tokens : List CodeToken) (out : List Line) (r r' : Reading) (at : ℕ)
    → r ≡ r' → Stands braces tokens out r.opens r.start at → Stands braces tokens out r'.opens r'.start at
put_reading braces tokens out r r' at e s = let P : Reading → Type 0 = λ x. Stands braces tokens out x.opens x.start at in subst P e s

pub stays_at : (at : ℕ) (o : Open) (f : Form) (n : Next) → f.next ≡ n → StaysIn at o f f.next → StaysIn at o f n
stays_at at o f n e h = let P : Next → Type 0 = λ x. StaysIn at o f x in subst P e h

pushed_line : (out0 out1 : List Line) (x y : Line) → x ≡ y → out1 ≡ out0 ++ x ∷ [] → out0 ++ y ∷ [] ≡ out1
pushed_line out0 out1 x y e q = cc

pub low_up : (at to : ℕ) (g : Start) → at ≤ to → IsLow at g → IsLow to g
low_up at to Fresh h k = tt
low_up at to Tail h k = tt
low_up at to (Closing b) h k = omega arith

settled_block : (x : Bool) (tokens : List CodeToken) (at : ℕ) (o : Open) (os : List Open) → x ≡ true
    → settled tokens at (record o { block = x } ∷ os) ≡ record { opens = record o { block = x } ∷ os; start = Fresh }
settled_block true tokens at o os e = refl
settled_block false tokens at o os e = cc

-- a line that leaves the open lists as they are
pub stays_turn : (braces : Braces) (tokens : List CodeToken) (out0 out1 : List Line) (line : Line) (o : Open) (os : List Open) (start s2 : Start) (at : ℕ) (f : Form) (n : Next)
    → Stands braces tokens out0 (o ∷ os) start at → at < o.end → form_of braces tokens o start at ≡ f → f.next ≡ n → StaysIn at o f f.next → LeavesOpen o n s2
    → line ≡ line_of o start at f → out1 ≡ out0 ++ line ∷ [] → Stands braces tokens out1 (o ∷ os) s2 f.end
stays_turn braces tokens out0 out1 line o os start s2 at f Ends s lt e q stay leaves l eo =
    let h = stays_at at o f Ends q stay in
    let t = stands_ends braces tokens out0 o os start at f s lt e q h.0 h.1 in
    let same : settled tokens f.end (o ∷ os) ≡ record { opens = o ∷ os; start = s2 } = settled_block o.block tokens f.end o os leaves.0 ∙ ap (λ x. record { opens = o ∷ os; start = x }) (sym leaves.1) in
    put braces tokens _ out1 _ (o ∷ os) s2 f.end (pushed_line out0 out1 line (line_of o start at f) l eo) refl
    (put_reading braces tokens (out0 ++ line_of o start at f ∷ []) (settled tokens f.end (o ∷ os)) (record { opens = o ∷ os; start = s2 }) f.end same t)
stays_turn braces tokens out0 out1 line o os start s2 at f (Goes g) s lt e q stay leaves l eo =
    let h = stays_at at o f (Goes g) q stay in
    let t = stands_goes braces tokens out0 o os start at f g s lt e q h.0 h.1.0 (low_up at f.end g (let z : at < f.end = h.0 in omega arith) h.1.1) in
    let P : Start → Type 0 = λ x. Stands braces tokens out1 (o ∷ os) x f.end in
    subst P (sym leaves) (put braces tokens _ out1 _ (o ∷ os) g f.end (pushed_line out0 out1 line (line_of o start at f) l eo) refl t)
stays_turn braces tokens out0 out1 line o os start s2 at f (Waits h) s lt e q stay leaves l eo = absurd leaves
stays_turn braces tokens out0 out1 line o os start s2 at f (Opens w b) s lt e q stay leaves l eo = absurd leaves

-- as a simple line does
pub simple_turn : (braces : Braces) (tokens : List CodeToken) (out0 out1 : List Line) (line : Line) (o : Open) (os : List Open) (start : Start) (at end : ℕ) (f : Form)
    → Stands braces tokens out0 (o ∷ os) start at → at < o.end → form_of braces tokens o start at ≡ record { kind = Simple; level = o.level; end = end; next = Ends }
    → f ≡ record { kind = Simple; level = o.level; end = end; next = Ends } → at < end → end ≤ o.end → o.block ≡ true
    → line ≡ line_of o start at f → out1 ≡ out0 ++ line ∷ [] → Stands braces tokens out1 (o ∷ os) Fresh end
simple_turn braces tokens out0 out1 line o os start at end f s lt e ef up within block l eo =
    let g : Form = record { kind = Simple; level = o.level; end = end; next = Ends } in
    stays_turn braces tokens out0 out1 line o os start Fresh at g Ends s lt e refl (up, within) (block, refl) (l ∙ ap (λ x. line_of o start at x) ef) eo

-- and is behind its first place
pub stays_up : (at : ℕ) (o : Open) (f : Form) (n : Next) (s2 : Start) → f.next ≡ n → StaysIn at o f f.next → LeavesOpen o n s2 → at < f.end
stays_up at o f Ends s2 q stay leaves = (stays_at at o f Ends q stay).0
stays_up at o f (Goes g) s2 q stay leaves = (stays_at at o f (Goes g) q stay).0
stays_up at o f (Waits h) s2 q stay leaves = absurd leaves
stays_up at o f (Opens w b) s2 q stay leaves = absurd leaves

-- ## Any line

stands_moved : (braces : Braces) (tokens : List CodeToken) (out out' : List Line) (os os' : List Open) (s s' : Start) (at at' : ℕ)
    → out' ≡ out → os' ≡ os → s' ≡ s → at' ≡ at → Stands braces tokens out os s at → Stands braces tokens out' os' s' at'
stands_moved braces tokens out out' os os' s s' at at' eo es e ea h =
    let P : ℕ → Type 0 = λ x. Stands braces tokens out' os' s' x in
    let Q : Start → Type 0 = λ x. Stands braces tokens out' os' x at in
    subst P (sym ea) (subst Q (sym e) (put braces tokens out out' os os' s at (sym eo) (sym es) h))

pub taken : (braces : Braces) (tokens : List CodeToken) (out0 out1 : List Line) (o : Open) (stack0 stack1 stack2 : List Open) (start s2 : Start) (at to : ℕ) (f : Form) (n : Next)
    → Stands braces tokens out0 (o ∷ reverse stack0) start at → at < o.end → form_of braces tokens o start at ≡ f → f.next ≡ n → StaysIn at o f f.next → f.level ≤ 2 * at
    → out1 ≡ out0 ++ form_lines o start at f n → stack1 ≡ stack0 ++ o ∷ [] → GoesBehind tokens o f (reverse stack1) (reverse stack2) s2 to n
    → Stands braces tokens out1 (reverse stack2) s2 to
taken braces tokens out0 out1 o stack0 stack1 stack2 start s2 at to f Ends s lt e q stay level eo es w =
    let h = stays_at at o f Ends q stay in
    let t = stands_ends braces tokens out0 o (reverse stack0) start at f s lt e q h.0 h.1 in
    let r : Reading = record { opens = reverse stack2; start = s2 } in
    let k = put_reading braces tokens (out0 ++ line_of o start at f ∷ []) (settled tokens f.end (o ∷ reverse stack0)) r f.end (rw (reverse_snoc stack0 stack1 o es) at w.0) t in
    stands_moved braces tokens (out0 ++ line_of o start at f ∷ []) out1 (reverse stack2) (reverse stack2) s2 s2 f.end to eo refl refl w.1 k
taken braces tokens out0 out1 o stack0 stack1 stack2 start s2 at to f (Goes g) s lt e q stay level eo es w =
    let h = stays_at at o f (Goes g) q stay in
    let t = stands_goes braces tokens out0 o (reverse stack0) start at f g s lt e q h.0 h.1.0 (low_up at f.end g (let z : at < f.end = h.0 in omega arith) h.1.1) in
    stands_moved braces tokens (out0 ++ line_of o start at f ∷ []) out1 (o ∷ reverse stack0) (reverse stack2) g s2 f.end to eo (w.0 ∙ reverse_snoc stack0 stack1 o es) w.1.0 w.1.1 t
taken braces tokens out0 out1 o stack0 stack1 stack2 start s2 at to f (Waits k) s lt e q stay level eo es w =
    let h = stays_at at o f (Waits k) q stay in
    let t = stands_waits braces tokens out0 o (reverse stack0) start at f k s lt e q h.0 h.1 level in
    stands_moved braces tokens (out0 ++ line_of o start at f ∷ []) out1 (body_of o k f.level ∷ o ∷ reverse stack0) (reverse stack2) Fresh s2 f.end to eo
    (w.0 ∙ ap (λ os. body_of o k f.level ∷ os) (reverse_snoc stack0 stack1 o es)) w.1.0 w.1.1 t
taken braces tokens out0 out1 o stack0 stack1 stack2 start s2 at to f (Opens wrapped b) s lt e q stay level eo es w =
    let t = stands_opens braces tokens out0 o (reverse stack0) start at f wrapped b s lt e q (stays_at at o f (Opens wrapped b) q stay) level in
    stands_moved braces tokens (out0 ++ head_lines o start at f wrapped) out1 (b ∷ o ∷ reverse stack0) (reverse stack2) Fresh s2 (f.end + 1) to eo
    (w.0 ∙ ap (λ os. b ∷ os) (reverse_snoc stack0 stack1 o es)) w.1.0 w.1.1 t

-- it ends behind its first place
pub taken_up : (tokens : List CodeToken) (o : Open) (f : Form) (os opens : List Open) (s : Start) (at to : ℕ) (n : Next)
    → f.next ≡ n → StaysIn at o f f.next → GoesBehind tokens o f os opens s to n → at < to
taken_up tokens o f os opens s at to Ends q stay w =
    let up : at < f.end = (stays_at at o f Ends q stay).0 in let e : to ≡ f.end = w.1 in omega (arith, up, e)
taken_up tokens o f os opens s at to (Goes g) q stay w =
    let up : at < f.end = (stays_at at o f (Goes g) q stay).0 in let e : to ≡ f.end = w.1.1 in omega (arith, up, e)
taken_up tokens o f os opens s at to (Waits h) q stay w =
    let up : at < f.end = (stays_at at o f (Waits h) q stay).0 in let e : to ≡ f.end = w.1.1 in omega (arith, up, e)
taken_up tokens o f os opens s at to (Opens wrapped b) q stay w =
    let begins : at ≤ f.end = (stays_at at o f (Opens wrapped b) q stay).begins in let e : to ≡ f.end + 1 = w.1.1 in omega (arith, begins, e)

pub at_most_two_more : {A : Type 0} (new : ℕ) (xs ys : List A) (x : A) → ys ≡ xs ++ x ∷ [] → new ≤ length ys + 1 → new ≤ length xs + 2
at_most_two_more new xs ys x e h =
    let more : length ys ≡ length xs + 1 = ap length e ∙ length-append xs (x ∷ []) in
    omega (arith, more, h)

-- how far a line goes
pub line_small : (at end whole : ℕ) → at < end → end ≤ whole → whole < 2 ^ 30 → at < 2 ^ 32
line_small at end whole lt within few = omega (arith, lt, within, few)

pub end_small : (stop end whole : ℕ) → stop ≤ end → end ≤ whole → whole < 2 ^ 30 → stop + 1 < 2 ^ 32
end_small stop end whole low within few = omega (arith, low, within, few)

pub place_small : (stop end whole : ℕ) → stop ≤ end → end ≤ whole → whole < 2 ^ 30 → stop < 2 ^ 33
place_small stop end whole low within few = omega (arith, low, within, few)

pub level_small : (level at end whole : ℕ) → level ≤ 2 * at → at < end → end ≤ whole → whole < 2 ^ 30 → level < 2 ^ 31
level_small level at end whole low lt within few = omega (arith, low, lt, within, few)

-- where a line ends that takes part in no block, and where a head's brace stands
pub ends_low : (at : ℕ) (o : Open) (f : Form) (n : Next) → f.next ≡ n → StaysIn at o f f.next → f.end ≤ o.end
ends_low at o f Ends e h = (stays_at at o f Ends e h).1
ends_low at o f (Goes g) e h = (stays_at at o f (Goes g) e h).1.0
ends_low at o f (Waits k) e h = (stays_at at o f (Waits k) e h).1
ends_low at o f (Opens w b) e h =
    let s = stays_at at o f (Opens w b) e h in let x : f.end < b.end = s.goes_on in let y : b.end ≤ o.end = s.ends in omega arith

-- ## Where a list ends

left_block : (x : Bool) (o : Open) (os : List Open) → x ≡ true → left (record o { block = x } ∷ os) ≡ Some (record { block = record o { block = x }; below = os })
left_block true o os e = refl
left_block false o os e = cc

left_body : (x : Bool) (o : Open) (os : List Open) → x ≡ false → left (record o { block = x } ∷ os) ≡ left os
left_body true o os e = cc
left_body false o os e = refl

pub block_turn : (braces : Braces) (tokens : List CodeToken) (out : List Line) (o : Open) (os : List Open) (start : Start) (at : ℕ)
    → Stands braces tokens out (o ∷ os) start at → o.end ≤ at → o.block ≡ true → Stands braces tokens out os (Closing o) o.end
block_turn braces tokens out o os start at s h e = stands_leaves braces tokens out o os start at (record { block = o; below = os }) s h (left_block o.block o os e)

pub body_turn : (braces : Braces) (tokens : List CodeToken) (out : List Line) (o b : Open) (os below : List Open) (start : Start) (at : ℕ)
    → Stands braces tokens out (o ∷ os) start at → o.end ≤ at → o.block ≡ false → left os ≡ Some (record { block = b; below = below })
    → Stands braces tokens out below (Closing b) b.end
body_turn braces tokens out o b os below start at s h e q =
    stands_leaves braces tokens out o os start at (record { block = b; below = below }) s h (left_body o.block o os e ∙ q)

pub body_end : (braces : Braces) (tokens : List CodeToken) (out : List Line) (o b : Open) (os below : List Open) (start : Start) (at : ℕ)
    → Stands braces tokens out (o ∷ os) start at → o.end ≤ at → o.block ≡ false → left os ≡ Some (record { block = b; below = below })
    → b.end ≡ at
body_end braces tokens out o b os below start at s h e q =
    let k : o.end ≡ at = (let z = s.fits.0 in omega arith) in
    (leaves braces tokens at s.reads.rest (o ∷ os) (record { block = b; below = below }) o.end refl k s.fits s.reads.follows (left_body o.block o os e ∙ q)).ends

pub no_turn : (braces : Braces) (tokens : List CodeToken) (out : List Line) (o : Open) (os : List Open) (start : Start) (at : ℕ)
    → Stands braces tokens out (o ∷ os) start at → o.block ≡ false → left os ≡ None → ⊥
no_turn braces tokens out o os start at s e q = left_some (length tokens) at at (o ∷ os) o.end refl s.fits (left_body o.block o os e ∙ q)

pub top_within : (braces : Braces) (tokens : List CodeToken) (out : List Line) (o : Open) (os : List Open) (start : Start) (at : ℕ)
    → Stands braces tokens out (o ∷ os) start at → o.end ≤ length tokens
top_within braces tokens out o os start at s = fits_within (length tokens) at o.end os s.fits.1.1.1.1.1

-- a line brings the end nearer
pub turned : {E : Type 0} (r : Result Place E) (whole end from at new first old : ℕ) → from ≤ at → old ≡ first → at < end → end ≤ whole
    → IfOk r (λ p. (at < p.at) × (new ≤ old + 2))
    → IfOk r (λ p. 2 * (whole - p.at) + new < 2 * (whole - from) + first + 1)
turned (Ok p) whole end from at new first old on same lt within h = let a = h.0 in let b = h.1 in omega arith
turned (Err e) whole end from at new first old on same lt within h = tt

-- ## The start

pub at_start : (braces : Braces) (tokens : List CodeToken) (out : List Line) (stack0 stack1 : List Open) (o : Open)
    → out ≡ [] → stack0 ≡ [] → o ≡ whole_file tokens → stack1 ≡ stack0 ++ o ∷ [] → Stands braces tokens out (reverse stack1) Fresh 0
at_start braces tokens out stack0 stack1 o none empty whole pushed =
    let one : whole_file tokens ∷ [] ≡ reverse stack1 = cc in
    put braces tokens [] out (whole_file tokens ∷ []) (reverse stack1) Fresh 0 (sym none) one (begins braces tokens)

-- ## The end

pub all_read : (braces : Braces) (tokens : List CodeToken) (out : List Line) (stack : List Open) (start : Start) (at : ℕ)
    → length stack ≡ 0 → Stands braces tokens out (reverse stack) start at → out ≡ lines_of braces tokens
all_read braces tokens out stack start at none s =
    let e : reverse stack ≡ [] = ap reverse (nil_from_length stack none) in
    (ends braces tokens out start at (put braces tokens out out (reverse stack) [] start at refl e s)).0

-- ## The innermost list

pub stands_within : (braces : Braces) (tokens : List CodeToken) (out : List Line) (stack0 stack1 : List Open) (o : Open) (start : Start) (at : ℕ)
    → stack1 ≡ stack0 ++ o ∷ [] → Stands braces tokens out (reverse stack1) start at → Stands braces tokens out (o ∷ reverse stack0) start at
stands_within braces tokens out stack0 stack1 o start at e s = put braces tokens out out (reverse stack1) (o ∷ reverse stack0) start at refl (reverse_snoc stack0 stack1 o e) s

pub less_left : (new left : ℕ) (stack0 stack1 : List Open) (o : Open) → stack1 ≡ stack0 ++ o ∷ [] → new < left + length stack0 + 1 → new < left + length stack1
less_left new left stack0 stack1 o e h =
    let more : length stack1 ≡ length stack0 + 1 = ap length e ∙ length-append stack0 (o ∷ []) in
    omega (arith, more, h)
