-- Lemmas on the stack.
use Rattle.std.proofs.Common.{◌≡◌, ℕ, zero, suc, ◌+◌, ◌-◌, ◌*◌, ◌<◌, ◌≤◌, nat_lt, Bool, true, false, ◌&&◌, List, []}
use Rattle.std.proofs.Common.{◌∷◌, ◌++◌, length, Some, None, refl, arith, sym, ◌∙◌, ap, subst, append_assoc}
use Rattle.std.proofs.lemmas.List.{append-nil}
use Rattle.statement_lines.specs.declared.token.CodeToken.{CodeToken}
use Rattle.statement_lines.specs.declared.line.Line.{Line}
use Rattle.statement_lines.specs.declared.braces.Braces.{Braces}
use Rattle.statement_lines.specs.declared.open.Open.{Open}
use Rattle.statement_lines.specs.declared.open.Start.{Start}
use Rattle.statement_lines.specs.declared.open.Start.TheVariants.{Fresh, Tail, Closing}
use Rattle.statement_lines.specs.declared.form.Form.{Form}
use Rattle.statement_lines.specs.declared.open.Head.{Head}
use Rattle.statement_lines.specs.declared.form.Next.TheVariants.{Ends, Goes, Waits, Opens}
use Rattle.token_classes.specs.Classes.{is_else}
use Rattle.statement_lines.specs.Forms.{IsLow, StaysIn, form_of, seen, tail_end, is_if_head, is_do_head}
use Rattle.statement_lines.specs.Tree.{lines_from, lines_of, settled, Reading, line_of, head_lines, body_of, whole_file}
use Rattle.statement_lines.specs.Stack.{IsCut, current, left, Left, Rest, Reads, IsMore, Fits, Stands}
use Rattle.statement_lines.proofs.Known.{lt_true}

-- ## Cuts

pub cut_more : (a b c : ℕ) (ls ms : List Line) → IsCut a b ls → IsCut b c ms → IsCut a c (ls ++ ms)
cut_more a b c [] ms h k = let P : ℕ → Type 0 = λ x. IsCut x c ms in subst P (sym h) k
cut_more a b c (l ∷ ls) ms h k = (h.0, (h.1.0, cut_more l.end b c ls ms h.1.1 k))

-- ## Settling

-- the reading of the innermost list
abbrev in_list : Reading → Reading
in_list r = record { opens = current r.opens; start = r.start }

abbrev choice : Bool → Bool → List Open → Reading → Reading
choice x y os r = elim x [ true ↦ record { opens = os; start = Fresh } | false ↦ elim y [ true ↦ record { opens = os; start = Tail } | false ↦ r ] ]

choice-in_list : (x y : Bool) (os : List Open) (r r' : Reading) → r' ≡ in_list r → choice x y (current os) r' ≡ in_list (choice x y os r)
choice-in_list true y os r r' e = refl
choice-in_list false true os r r' e = refl
choice-in_list false false os r r' e = e

pub settled-current : (tokens : List CodeToken) (at : ℕ) (os : List Open) → settled tokens at (current os) ≡ in_list (settled tokens at os)
settled-current tokens at [] = refl
settled-current tokens at (o ∷ os) =
    elim o.block as (λ b. let p = record o { block = b } in settled tokens at (current (p ∷ os)) ≡ in_list (settled tokens at (p ∷ os))) [
      | true ↦ refl
      | false ↦ choice-in_list (is_if_head o.head && is_else (seen tokens o.end at)) (is_do_head o.head && nat_lt at (tail_end tokens o.end at)) os (settled tokens at os) (settled tokens at (current os)) (settled-current tokens at os)
    ]

pub choice_keeps : (P : List Open → Type 0) (x y : Bool) (os : List Open) (r : Reading) → P os → P r.opens → P (choice x y os r).opens
choice_keeps P true y os r h k = h
choice_keeps P false true os r h k = h
choice_keeps P false false os r h k = k

pub settled_rest : (braces : Braces) (tokens : List CodeToken) (at : ℕ) (ls : List Line) (os : List Open) → Rest braces tokens os ls → Rest braces tokens (settled tokens at os).opens ls
settled_rest braces tokens at ls [] h = h
settled_rest braces tokens at ls (o ∷ os) h =
    elim o.block as (λ b. let p = record o { block = b } in Rest braces tokens (p ∷ os) ls → Rest braces tokens (settled tokens at (p ∷ os)).opens ls) [
      | true ↦ λ k. k
      | false ↦ λ k. choice_keeps (λ x. Rest braces tokens x ls) (is_if_head o.head && is_else (seen tokens o.end at)) (is_do_head o.head && nat_lt at (tail_end tokens o.end at)) os (settled tokens at os) k (settled_rest braces tokens at ls os k)
    ] h

-- ## Places and levels

pub lower : (whole at e d : ℕ) (os : List Open) (x : ℕ) → d ≤ e → IsMore false x os → Fits whole at e os → Fits whole at d os
lower whole at e d [] x h m f = absurd m
lower whole at e d (o ∷ os) x h m f = (let q = f.0 in omega arith, f.1)

pub raise : (whole at to e : ℕ) (os : List Open) → at ≤ to → Fits whole at e os → Fits whole to e os
raise whole at to e [] h f = f
raise whole at to e (o ∷ os) h f =
    (f.0, ((let q = f.1.0 in omega arith), ((let q = f.1.1.0 in omega arith), ((let q = f.1.1.1.0 in omega arith), (f.1.1.1.1.0, raise whole at to o.end os h f.1.1.1.1.1)))))

pub fits_within : (whole at e : ℕ) (os : List Open) → Fits whole at e os → e ≤ whole
fits_within whole at e [] f = omega arith
fits_within whole at e (o ∷ os) f = let q = f.0 in let r = fits_within whole at o.end os f.1.1.1.1.1 in omega arith

pub settled_fits : (tokens : List CodeToken) (i whole at e : ℕ) (os : List Open) → Fits whole at e os → Fits whole at e (settled tokens i os).opens
settled_fits tokens i whole at e [] f = f
settled_fits tokens i whole at e (o ∷ os) f =
    elim o.block as (λ b. let p = record o { block = b } in Fits whole at e (p ∷ os) → Fits whole at e (settled tokens i (p ∷ os)).opens) [
      | true ↦ λ k. k
      | false ↦ λ k. let low = lower whole at o.end e os o.end k.0 k.1.1.1.1.0 k.1.1.1.1.1 in
          choice_keeps (λ x. Fits whole at e x) (is_if_head o.head && is_else (seen tokens o.end i)) (is_do_head o.head && nat_lt i (tail_end tokens o.end i)) os (settled tokens i os) low (settled_fits tokens i whole at e os low)
    ] f

-- ## One line

lines_from_nil : (n : ℕ) (braces : Braces) (tokens : List CodeToken) (start : Start) (at : ℕ) → [] ≡ lines_from n braces tokens [] start at ++ []
lines_from_nil zero braces tokens start at = refl
lines_from_nil (suc n) braces tokens start at = refl

pub from_end : (n : ℕ) (braces : Braces) (tokens : List CodeToken) (os : List Open) (o : Open) (start : Start) (at : ℕ)
    → o.end ≤ at → lines_from n braces tokens (o ∷ os) start at ≡ []
from_end zero braces tokens os o start at h = refl
from_end (suc n) braces tokens os o start at h =
    let e : nat_lt at o.end ≡ false = grind arith in rw (e, lines_from) refl

pub from_ends : (n : ℕ) (braces : Braces) (tokens : List CodeToken) (os : List Open) (o : Open) (start : Start) (at : ℕ) (f : Form)
    → nat_lt at o.end ≡ true → form_of braces tokens o start at ≡ f → f.next ≡ Ends
    → lines_from (suc n) braces tokens (o ∷ os) start at
    ≡ line_of o start at f ∷ lines_from n braces tokens (settled tokens f.end (o ∷ os)).opens (settled tokens f.end (o ∷ os)).start f.end
from_ends n braces tokens os o start at f lt e q =
    let P : Form → Type 0 = λ g. g.next ≡ Ends → lines_from (suc n) braces tokens (o ∷ os) start at ≡ line_of o start at g ∷ lines_from n braces tokens (settled tokens g.end (o ∷ os)).opens (settled tokens g.end (o ∷ os)).start g.end in
    subst P e (λ k. rw (lt, k, lines_from) refl) q

pub from_goes : (n : ℕ) (braces : Braces) (tokens : List CodeToken) (os : List Open) (o : Open) (start : Start) (at : ℕ) (f : Form) (s : Start)
    → nat_lt at o.end ≡ true → form_of braces tokens o start at ≡ f → f.next ≡ Goes s
    → lines_from (suc n) braces tokens (o ∷ os) start at ≡ line_of o start at f ∷ lines_from n braces tokens (o ∷ os) s f.end
from_goes n braces tokens os o start at f s lt e q =
    let P : Form → Type 0 = λ g. g.next ≡ Goes s → lines_from (suc n) braces tokens (o ∷ os) start at ≡ line_of o start at g ∷ lines_from n braces tokens (o ∷ os) s g.end in
    subst P e (λ k. rw (lt, k, lines_from) refl) q

pub from_waits : (n : ℕ) (braces : Braces) (tokens : List CodeToken) (os : List Open) (o : Open) (start : Start) (at : ℕ) (f : Form) (h : Head)
    → nat_lt at o.end ≡ true → form_of braces tokens o start at ≡ f → f.next ≡ Waits h
    → lines_from (suc n) braces tokens (o ∷ os) start at ≡ line_of o start at f ∷ lines_from n braces tokens (body_of o h f.level ∷ o ∷ os) Fresh f.end
from_waits n braces tokens os o start at f h lt e q =
    let P : Form → Type 0 = λ g. g.next ≡ Waits h → lines_from (suc n) braces tokens (o ∷ os) start at ≡ line_of o start at g ∷ lines_from n braces tokens (body_of o h g.level ∷ o ∷ os) Fresh g.end in
    subst P e (λ k. rw (lt, k, lines_from) refl) q

pub from_opens : (n : ℕ) (braces : Braces) (tokens : List CodeToken) (os : List Open) (o : Open) (start : Start) (at : ℕ) (f : Form) (w : Bool) (b : Open)
    → nat_lt at o.end ≡ true → form_of braces tokens o start at ≡ f → f.next ≡ Opens w b
    → lines_from (suc n) braces tokens (o ∷ os) start at
    ≡ head_lines o start at f w ++ lines_from n braces tokens (b ∷ []) Fresh (f.end + 1) ++ lines_from n braces tokens (o ∷ os) (Closing b) b.end
from_opens n braces tokens os o start at f w b lt e q =
    let P : Form → Type 0 = λ g. g.next ≡ Opens w b → lines_from (suc n) braces tokens (o ∷ os) start at ≡ head_lines o start at g w ++ lines_from n braces tokens (b ∷ []) Fresh (g.end + 1) ++ lines_from n braces tokens (o ∷ os) (Closing b) b.end in
    subst P e (λ k. rw (lt, k, lines_from) refl) q

-- ## Between two lines

keep_ends : (out new ls rest all whole : List Line) → whole ≡ new ++ ls → out ++ (whole ++ rest) ≡ all → (out ++ new) ++ (ls ++ rest) ≡ all
keep_ends out new ls rest all whole e h =
    append_assoc out new (ls ++ rest) ∙ (ap (λ x. out ++ x) (sym (append_assoc new ls rest)) ∙ (ap (λ x. out ++ (x ++ rest)) (sym e) ∙ h))

pub choice_low : (at : ℕ) (x y : Bool) (os : List Open) (r : Reading) → IsLow at r.start → IsLow at (choice x y os r).start
choice_low at true y os r h = tt
choice_low at false true os r h = tt
choice_low at false false os r h = h

pub settled_low : (tokens : List CodeToken) (i at : ℕ) (os : List Open) → IsLow at (settled tokens i os).start
settled_low tokens i at [] = tt
settled_low tokens i at (o ∷ os) =
    elim o.block as (λ b. IsLow at (settled tokens i (record o { block = b } ∷ os)).start) [
      | true ↦ tt
      | false ↦ choice_low at (is_if_head o.head && is_else (seen tokens o.end i)) (is_do_head o.head && nat_lt i (tail_end tokens o.end i)) os (settled tokens i os) (settled_low tokens i at os)
    ]

pub is_more : (b : Bool) (e : ℕ) (o : Open) (os : List Open) → (b ≡ false → e ≡ o.end) → IsMore b e (o ∷ os)
is_more true e o os h = tt
is_more false e o os h = h refl

-- the place of a statement's first token is before the end
before_end : (whole at : ℕ) (o : Open) (os : List Open) → Fits whole at at (o ∷ os) → at < o.end → at < whole
before_end whole at o os f lt = let q = fits_within whole at o.end os f.1.1.1.1.1 in omega arith

reads_ends : (fuel : ℕ) (rest : List Line) (braces : Braces) (tokens : List CodeToken) (out : List Line) (o : Open) (os : List Open) (start : Start) (at : ℕ) (f : Form)
    → at < length tokens → length tokens - at ≤ fuel → Rest braces tokens (o ∷ os) rest
    → out ++ (lines_from fuel braces tokens (current (o ∷ os)) start at ++ rest) ≡ lines_of braces tokens
    → at < o.end → form_of braces tokens o start at ≡ f → f.next ≡ Ends → at < f.end
    → Reads braces tokens (out ++ line_of o start at f ∷ []) (settled tokens f.end (o ∷ os)).opens (settled tokens f.end (o ∷ os)).start f.end
reads_ends zero rest braces tokens out o os start at f within enough follows same lt e q up = absurd (omega arith)
reads_ends (suc n) rest braces tokens out o os start at f within enough follows same lt e q up =
    let line = from_ends n braces tokens (elim o.block [ true ↦ [] | false ↦ current os ]) o start at f (lt_true at o.end lt) e q in
    record {
      fuel = n;
      rest = rest;
      enough = (omega arith);
      follows = settled_rest braces tokens f.end rest (o ∷ os) follows;
      same = keep_ends out (line_of o start at f ∷ []) _ rest _ _ (rw (settled-current tokens f.end (o ∷ os)) at line) same;
    }

pub stands_ends : (braces : Braces) (tokens : List CodeToken) (out : List Line) (o : Open) (os : List Open) (start : Start) (at : ℕ) (f : Form)
    → Stands braces tokens out (o ∷ os) start at → at < o.end → form_of braces tokens o start at ≡ f → f.next ≡ Ends → at < f.end → f.end ≤ o.end
    → Stands braces tokens (out ++ line_of o start at f ∷ []) (settled tokens f.end (o ∷ os)).opens (settled tokens f.end (o ∷ os)).start f.end
stands_ends braces tokens out o os start at f s lt e q up stay =
    let r = s.reads in
    let raised = raise (length tokens) at f.end at (o ∷ os) (omega arith) s.fits in
    record {
      reads = reads_ends r.fuel r.rest braces tokens out o os start at f (before_end (length tokens) at o os s.fits lt) r.enough r.follows r.same lt e q up;
      fits = settled_fits tokens f.end (length tokens) f.end f.end (o ∷ os) (stay, raised.1);
      low = settled_low tokens f.end f.end (o ∷ os);
      cut = cut_more 0 at f.end out (line_of o start at f ∷ []) s.cut (refl, (up, refl));
    }

reads_goes : (fuel : ℕ) (rest : List Line) (braces : Braces) (tokens : List CodeToken) (out : List Line) (o : Open) (os : List Open) (start : Start) (at : ℕ) (f : Form) (g : Start)
    → at < length tokens → length tokens - at ≤ fuel → Rest braces tokens (o ∷ os) rest
    → out ++ (lines_from fuel braces tokens (current (o ∷ os)) start at ++ rest) ≡ lines_of braces tokens
    → at < o.end → form_of braces tokens o start at ≡ f → f.next ≡ Goes g → at < f.end
    → Reads braces tokens (out ++ line_of o start at f ∷ []) (o ∷ os) g f.end
reads_goes zero rest braces tokens out o os start at f g within enough follows same lt e q up = absurd (omega arith)
reads_goes (suc n) rest braces tokens out o os start at f g within enough follows same lt e q up =
    record {
      fuel = n;
      rest = rest;
      enough = (omega arith);
      follows = follows;
      same = keep_ends out (line_of o start at f ∷ []) _ rest _ _ (from_goes n braces tokens (elim o.block [ true ↦ [] | false ↦ current os ]) o start at f g (lt_true at o.end lt) e q) same;
    }

pub stands_goes : (braces : Braces) (tokens : List CodeToken) (out : List Line) (o : Open) (os : List Open) (start : Start) (at : ℕ) (f : Form) (g : Start)
    → Stands braces tokens out (o ∷ os) start at → at < o.end → form_of braces tokens o start at ≡ f → f.next ≡ Goes g → at < f.end → f.end ≤ o.end → IsLow f.end g
    → Stands braces tokens (out ++ line_of o start at f ∷ []) (o ∷ os) g f.end
stands_goes braces tokens out o os start at f g s lt e q up stay low =
    let r = s.reads in
    let raised = raise (length tokens) at f.end at (o ∷ os) (omega arith) s.fits in
    record {
      reads = reads_goes r.fuel r.rest braces tokens out o os start at f g (before_end (length tokens) at o os s.fits lt) r.enough r.follows r.same lt e q up;
      fits = (stay, raised.1);
      low = low;
      cut = cut_more 0 at f.end out (line_of o start at f ∷ []) s.cut (refl, (up, refl));
    }

reads_waits : (fuel : ℕ) (rest : List Line) (braces : Braces) (tokens : List CodeToken) (out : List Line) (o : Open) (os : List Open) (start : Start) (at : ℕ) (f : Form) (h : Head)
    → at < length tokens → length tokens - at ≤ fuel → Rest braces tokens (o ∷ os) rest
    → out ++ (lines_from fuel braces tokens (current (o ∷ os)) start at ++ rest) ≡ lines_of braces tokens
    → at < o.end → form_of braces tokens o start at ≡ f → f.next ≡ Waits h → at < f.end
    → Reads braces tokens (out ++ line_of o start at f ∷ []) (body_of o h f.level ∷ o ∷ os) Fresh f.end
reads_waits zero rest braces tokens out o os start at f h within enough follows same lt e q up = absurd (omega arith)
reads_waits (suc n) rest braces tokens out o os start at f h within enough follows same lt e q up =
    record {
      fuel = n;
      rest = rest;
      enough = (omega arith);
      follows = follows;
      same = keep_ends out (line_of o start at f ∷ []) _ rest _ _ (from_waits n braces tokens (elim o.block [ true ↦ [] | false ↦ current os ]) o start at f h (lt_true at o.end lt) e q) same;
    }

pub stands_waits : (braces : Braces) (tokens : List CodeToken) (out : List Line) (o : Open) (os : List Open) (start : Start) (at : ℕ) (f : Form) (h : Head)
    → Stands braces tokens out (o ∷ os) start at → at < o.end → form_of braces tokens o start at ≡ f → f.next ≡ Waits h → at < f.end → f.end ≤ o.end → f.level ≤ 2 * at
    → Stands braces tokens (out ++ line_of o start at f ∷ []) (body_of o h f.level ∷ o ∷ os) Fresh f.end
stands_waits braces tokens out o os start at f h s lt e q up stay level =
    let r = s.reads in
    let raised = raise (length tokens) at f.end at (o ∷ os) (omega arith) s.fits in
    record {
      reads = reads_waits r.fuel r.rest braces tokens out o os start at f h (before_end (length tokens) at o os s.fits lt) r.enough r.follows r.same lt e q up;
      fits = (stay, ((omega arith), ((omega arith), ((omega arith), (refl, ((omega arith), raised.1))))));
      low = tt;
      cut = cut_more 0 at f.end out (line_of o start at f ∷ []) s.cut (refl, (up, refl));
    }

keep_opens : (out new inner later rest all whole : List Line) → whole ≡ (new ++ inner) ++ later → out ++ (whole ++ rest) ≡ all
    → (out ++ new) ++ (inner ++ (later ++ rest)) ≡ all
keep_opens out new inner later rest all whole e h =
    simp append_assoc (simp append_assoc at (rw e at h))

block_current : (x : Bool) (b : Open) (os : List Open) → true ≡ x → current (record b { block = x } ∷ os) ≡ record b { block = x } ∷ []
block_current true b os e = refl
block_current false b os e = cc

block_rest : (x : Bool) (braces : Braces) (tokens : List CodeToken) (b : Open) (os : List Open) (n : ℕ) (rest : List Line) → true ≡ x → length tokens - b.end ≤ n → Rest braces tokens os rest
    → Rest braces tokens (record b { block = x } ∷ os) (lines_from n braces tokens (current os) (Closing (record b { block = x })) b.end ++ rest)
block_rest true braces tokens b os n rest e enough follows = (n, (rest, (enough, (follows, refl))))
block_rest false braces tokens b os n rest e enough follows = cc

reads_opens : (fuel : ℕ) (rest : List Line) (braces : Braces) (tokens : List CodeToken) (out : List Line) (o : Open) (os : List Open) (start : Start) (at : ℕ) (f : Form) (w : Bool) (b : Open)
    → at < length tokens → length tokens - at ≤ fuel → Rest braces tokens (o ∷ os) rest
    → out ++ (lines_from fuel braces tokens (current (o ∷ os)) start at ++ rest) ≡ lines_of braces tokens
    → at < o.end → form_of braces tokens o start at ≡ f → f.next ≡ Opens w b → at ≤ f.end → f.end < b.end → true ≡ b.block
    → Reads braces tokens (out ++ head_lines o start at f w) (b ∷ o ∷ os) Fresh (f.end + 1)
reads_opens zero rest braces tokens out o os start at f w b within enough follows same lt e q up on is = absurd (omega arith)
reads_opens (suc n) rest braces tokens out o os start at f w b within enough follows same lt e q up on is =
    let whole = from_opens n braces tokens (elim o.block [ true ↦ [] | false ↦ current os ]) o start at f w b (lt_true at o.end lt) e q in
    record {
      fuel = n;
      rest = lines_from n braces tokens (current (o ∷ os)) (Closing b) b.end ++ rest;
      enough = (omega arith);
      follows = block_rest b.block braces tokens b (o ∷ os) n rest is (omega arith) follows;
      same = rw (block_current b.block b (o ∷ os) is)
          (keep_opens out (head_lines o start at f w) (lines_from n braces tokens (b ∷ []) Fresh (f.end + 1)) (lines_from n braces tokens (current (o ∷ os)) (Closing b) b.end) rest _ _ whole same);
    }

head_cut : (o : Open) (start : Start) (at : ℕ) (f : Form) (w : Bool) → at ≤ f.end → (w ≡ true → at < f.end) → IsCut at (f.end + 1) (head_lines o start at f w)
head_cut o start at f true up takes = (refl, (takes refl, (refl, ((omega arith), refl))))
head_cut o start at f false up takes = (refl, ((omega arith), refl))

pub stands_opens : (braces : Braces) (tokens : List CodeToken) (out : List Line) (o : Open) (os : List Open) (start : Start) (at : ℕ) (f : Form) (w : Bool) (b : Open)
    → Stands braces tokens out (o ∷ os) start at → at < o.end → form_of braces tokens o start at ≡ f → f.next ≡ Opens w b → StaysIn at o f (Opens w b) → f.level ≤ 2 * at
    → Stands braces tokens (out ++ head_lines o start at f w) (b ∷ o ∷ os) Fresh (f.end + 1)
stands_opens braces tokens out o os start at f w b s lt e q stay level =
    let r = s.reads in
    let begins : at ≤ f.end = stay.begins in
    let on : f.end < b.end = stay.goes_on in
    let l1 : b.level ≤ f.level + 2 = stay.level in
    let l2 : b.case_level ≤ f.level + 2 = stay.case_level in
    let l3 : b.head_level ≤ f.level = stay.head_level in
    let raised = raise (length tokens) at (f.end + 1) at (o ∷ os) (omega arith) s.fits in
    record {
      reads = reads_opens r.fuel r.rest braces tokens out o os start at f w b (before_end (length tokens) at o os s.fits lt) r.enough r.follows r.same lt e q begins on (sym stay.is_block);
      fits = ((omega arith), ((omega arith), ((omega arith), ((omega arith), (is_more b.block b.end o os (λ x. absurd (let y : b.block ≡ true = stay.is_block in cc)), (stay.ends, raised.1))))));
      low = tt;
      cut = cut_more 0 at (f.end + 1) out (head_lines o start at f w) s.cut (head_cut o start at f w begins stay.takes);
    }

-- ## Where a list ends

-- what holds when the innermost block is left
pub record Leaves (braces : Braces) (tokens : List CodeToken) (at : ℕ) (rest : List Line) (l : Left) : Type 0 where
  pub ends : l.block.end ≡ at
  pub fits : Fits (length tokens) at at l.below
  pub head_level : l.block.head_level ≤ 2 * at
  pub fuel : ℕ
  pub later : List Line
  pub enough : length tokens - at ≤ fuel
  pub follows : Rest braces tokens l.below later
  pub same : rest ≡ lines_from fuel braces tokens (current l.below) (Closing l.block) at ++ later

leaves_block : (braces : Braces) (tokens : List CodeToken) (at : ℕ) (rest : List Line) (o : Open) (os : List Open) (l : Left)
    → at ≡ o.end → o.head_level ≤ 2 * at → Fits (length tokens) at o.end os
    → (n : ℕ) × ((later : List Line) × ((length tokens - o.end ≤ n) × (Rest braces tokens os later × (rest ≡ lines_from n braces tokens (current os) (Closing o) o.end ++ later))))
    → record { block = o; below = os } ≡ l → Leaves braces tokens at rest l
leaves_block braces tokens at rest o os l e low fits h same =
    let P : Left → Type 0 = λ x. Leaves braces tokens at rest x in
    let Q : ℕ → Type 0 = λ x. Fits (length tokens) at x os in
    let R : ℕ → Type 0 = λ x. rest ≡ lines_from h.0 braces tokens (current os) (Closing o) x ++ h.1.0 in
    subst P same (record {
      ends = sym e;
      fits = subst Q (sym e) fits;
      head_level = low;
      fuel = h.0;
      later = h.1.0;
      enough = (let q = h.1.1.0 in omega arith);
      follows = h.1.1.1.0;
      same = subst R (sym e) h.1.1.1.1;
    })

some_left : (a b : Left) → Some a ≡ Some b → a ≡ b
some_left a b e = cc

pub leaves : (braces : Braces) (tokens : List CodeToken) (at : ℕ) (rest : List Line) (os : List Open) (l : Left)
    → ((x : ℕ) → IsMore false x os → x ≡ at → Fits (length tokens) at at os → Rest braces tokens os rest → left os ≡ Some l → Leaves braces tokens at rest l)
leaves braces tokens at rest [] l x m h f r q = absurd m
leaves braces tokens at rest (o ∷ os) l x m h f r q =
    let e : at ≡ o.end = cc in
    elim o.block as (λ b. let p = record o { block = b } in IsMore b o.end os → Rest braces tokens (p ∷ os) rest → left (p ∷ os) ≡ Some l → Leaves braces tokens at rest l) [
      | true ↦ λ k r' q'. leaves_block braces tokens at rest (record o { block = true }) os l e f.1.1.1.0 f.1.1.1.1.1 r' (some_left _ _ q')
      | false ↦ λ k r' q'. leaves braces tokens at rest os l o.end k (sym e) (lower (length tokens) at o.end at os o.end f.0 k f.1.1.1.1.1) r' q'
    ] f.1.1.1.1.0 r q

pub stands_leaves : (braces : Braces) (tokens : List CodeToken) (out : List Line) (o : Open) (os : List Open) (start : Start) (at : ℕ) (l : Left)
    → Stands braces tokens out (o ∷ os) start at → o.end ≤ at → left (o ∷ os) ≡ Some l
    → Stands braces tokens out l.below (Closing l.block) l.block.end
stands_leaves braces tokens out o os start at l s h q =
    let e : o.end ≡ at = (let k = s.fits.0 in omega arith) in
    let v = leaves braces tokens at s.reads.rest (o ∷ os) l o.end refl e s.fits s.reads.follows q in
    let none = from_end s.reads.fuel braces tokens (elim o.block [ true ↦ [] | false ↦ current os ]) o start at h in
    let P : ℕ → Type 0 = λ x. Stands braces tokens out l.below (Closing l.block) x in
    subst P (sym v.ends) (record {
      reads = record { fuel = v.fuel; rest = v.later; enough = v.enough; follows = v.follows; same = rw (← v.same) (rw none at s.reads.same) };
      fits = v.fits;
      low = v.head_level;
      cut = s.cut;
    })

-- a list is never left without a block
pub left_some : (whole at e : ℕ) (os : List Open) (x : ℕ) → IsMore false x os → Fits whole at e os → left os ≡ None → ⊥
left_some whole at e [] x m f q = m
left_some whole at e (o ∷ os) x m f q =
    elim o.block as (λ b. let p = record o { block = b } in IsMore b o.end os → left (p ∷ os) ≡ None → ⊥) [
      | true ↦ λ k q'. cc
      | false ↦ λ k q'. left_some whole at o.end os o.end k f.1.1.1.1.1 q'
    ] f.1.1.1.1.0 q

-- ## The start and the end

pub begins : (braces : Braces) (tokens : List CodeToken) → Stands braces tokens [] (whole_file tokens ∷ []) Fresh 0
begins braces tokens = record {
  reads = record { fuel = length tokens; rest = []; enough = (omega arith); follows = (0, ([], ((omega arith), (refl, (lines_from_nil 0 braces tokens (Closing (whole_file tokens)) (length tokens)))))); same = append-nil _ };
  fits = ((omega arith), ((omega arith), ((omega arith), ((omega arith), (tt, refl)))));
  low = tt;
  cut = refl;
}

pub ends : (braces : Braces) (tokens : List CodeToken) (out : List Line) (start : Start) (at : ℕ) → Stands braces tokens out [] start at
    → (out ≡ lines_of braces tokens) × IsCut 0 (length tokens) out
ends braces tokens out start at s =
    let none = lines_from_nil s.reads.fuel braces tokens start at in
    let P : ℕ → Type 0 = λ x. IsCut 0 x out in
    (sym (append-nil out) ∙ rw (← none) at (rw (s.reads.follows) at s.reads.same), subst P s.fits s.cut)
