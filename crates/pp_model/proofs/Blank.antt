-- Each step of an expansion does on blank tokens what it does on the tokens themselves.
use Rattle.std.proofs.Common.{◌≡◌, ℕ, zero, suc, ◌+◌, ◌-◌, nat_eq, Bool, true, false, cond, not, ◌&&◌, ◌||◌, List, [], ◌∷◌, ◌++◌, map, length, Option, Some, None, option_map, option_and_then, refl, sym, ap, ◌∙◌}
use Rattle.std.specs.Prelude.{bytes_eq, flat_map, codes}
use Rattle.std.proofs.lemmas.List.{map-append, length-map}
use Rattle.pp_model.specs.Token.{PpToken, Plain, Line, Str, Pasted, part, erase, erase_parts, Tok, Name, text_of, is_in, PpTokens, no_token, one_more, erase_tokens, common}
use Rattle.c_grammar.specs.Touch.{is_identifier}
use Rattle.item_kinds.specs.declared.ItemKind.{ItemKind}
use Rattle.item_kinds.specs.declared.ItemKind.TheVariants.{Other}
use Rattle.pp_model.specs.Macro.{Macro, Table, lookup, What, Word, Full, Written, Quoted, Part}
use Rattle.pp_model.specs.Call.{Actuals, collect, opens, closes, parts_args, may_part, one_less, no_tokens, fits, Begun, limit_of, with_actuals, begin_call, begin_macro, named, begin}
use Rattle.pp_model.specs.Replace.{Piece, argument, parts_of, quoted, free, pieces, tokens_of, pieces_of, joined, Reader, paste_read, paste_joined, paste, join, paste_from, paste_all, add_kept, kept, hidden, replacement, spaced, joined_tokens, pasted, two, made}
use Rattle.pp_model.specs.Expand.{Call, State, resume, is_line, settle, opened, read_on, expanded, close, step_on, step, is_over, is_nil, run, expand}
use Rattle.pp_model.proofs.Blanks.{blank, blank_macro, blank_part, blank_what, blank_actuals, blank_begun, blank_call, blank_state, blank_expanded}

pub cond-map : {A B : Type 0} (f : A → B) (b : Bool) {x y : A} {x' y' : B} → f x ≡ x' → f y ≡ y' → f (cond b x y) ≡ cond b x' y'
cond-map f true p q = p
cond-map f false p q = q

pub and_then-map : {A A' B B' : Type 0} (f : A → A') (g : B → B') (k : A → Option B) (k' : A' → Option B') → ((a : A) → option_map g (k a) ≡ k' (f a)) → (o : Option A) → option_map g (option_and_then k o) ≡ option_and_then k' (option_map f o)
and_then-map f g k k' h None = refl
and_then-map f g k k' h (Some a) = h a

pub text_of-erase : (p : PpToken) → text_of (erase p) ≡ text_of p
text_of-erase (Plain s) = refl
text_of-erase (Line n) = refl
text_of-erase (Str ps) = refl
text_of-erase (Pasted ts) = refl

pub if-map : {A B : Type 0} (f : A → B) (b : Bool) {x y : A} {x' y' : B} → f x ≡ x' → f y ≡ y' → f (elim b [ true ↦ x | false ↦ y ]) ≡ elim b [ true ↦ x' | false ↦ y' ]
if-map f true p q = p
if-map f false p q = q

-- the same, where the test is another term
pub if-test : {A B : Type 0} (f : A → B) (b b' : Bool) {x y : A} {x' y' : B} → b' ≡ b → f x ≡ x' → f y ≡ y' → f (elim b [ true ↦ x | false ↦ y ]) ≡ elim b' [ true ↦ x' | false ↦ y' ]
if-test f true true e p q = p
if-test f false false e p q = q
if-test f true false e p q = cc
if-test f false true e p q = cc

-- what is read off a token's spelling
pub by_text : {A : Type 0} (g : List ℕ → A) (t : Tok) → g (text_of (blank t).token) ≡ g (text_of t.token)
by_text g t = ap g (text_of-erase t.token)

-- ## Calls

pub collect-blank : (limit : Option ℕ) (depth : ℕ) (arg : List Tok) (args : List (List Tok)) (ts : List Tok) → option_map blank_actuals (collect limit depth arg args ts) ≡ collect limit depth (map blank arg) (map (map blank) args) (map blank ts)
collect-blank limit depth arg args [] = refl
collect-blank limit depth arg args (t ∷ ts) =
    let f : Option Actuals → Option Actuals = option_map blank_actuals in
    if-test f _ (opens (blank t)) (by_text (λ s. bytes_eq s (40 ∷ [])) t)
    (rw map-append at (collect-blank limit (suc depth) (arg ++ t ∷ []) args ts))
    (if-test f _ (closes (blank t)) (by_text (λ s. bytes_eq s (41 ∷ [])) t)
    (if-map f (nat_eq depth 0)
    (rw map-append refl)
    (rw map-append at (collect-blank limit (depth - 1) (arg ++ t ∷ []) args ts)))
    (if-test f _ (parts_args (blank t) && (nat_eq depth 0 && may_part limit)) (by_text (λ s. bytes_eq s (44 ∷ []) && (nat_eq depth 0 && may_part limit)) t)
    (rw map-append at (collect-blank (one_less limit) depth [] (args ++ arg ∷ []) ts))
    (rw map-append at (collect-blank limit depth (arg ++ t ∷ []) args ts))))

pub lookup-blank : (table : Table) (name : Name) → option_map blank_macro (lookup table name) ≡ lookup (map blank_macro table) name
lookup-blank [] name = refl
lookup-blank (m ∷ ms) name = cond-map (option_map blank_macro) (bytes_eq m.name name) refl (lookup-blank ms name)

no_tokens-blank : (args : List (List Tok)) → no_tokens (map (map blank) args) ≡ no_tokens args
no_tokens-blank [] = refl
no_tokens-blank ([] ∷ []) = refl
no_tokens-blank ([] ∷ b ∷ bs) = refl
no_tokens-blank ((t ∷ ts) ∷ []) = refl
no_tokens-blank ((t ∷ ts) ∷ b ∷ bs) = refl

fits-blank : (m : Macro) (args : List (List Tok)) → fits (blank_macro m) (map (map blank) args) ≡ fits m args
fits-blank m args =
    ap (λ n. let r : Bool = elim m.variadic [ true ↦ nat_eq n (m.arity + 1) | false ↦ nat_eq n m.arity || (nat_eq m.arity 0 && no_tokens (map (map blank) args)) ] in r) (length-map args (map blank))
    ∙ ap (λ b. let r : Bool = elim m.variadic [ true ↦ nat_eq (length args) (m.arity + 1) | false ↦ nat_eq (length args) m.arity || (nat_eq m.arity 0 && b) ] in r) (no_tokens-blank args)

with_actuals-blank : (m : Macro) (t : Tok) (a : Actuals) → option_map blank_begun (with_actuals m t a) ≡ with_actuals (blank_macro m) (blank t) (blank_actuals a)
with_actuals-blank m t a =
    if-test (option_map blank_begun) _ (fits (blank_macro m) (map (map blank) a.args)) (fits-blank m a.args) refl refl

begin_call-blank : (m : Macro) (t : Tok) (ts : List Tok) → option_map blank_begun (begin_call m t ts) ≡ begin_call (blank_macro m) (blank t) (map blank ts)
begin_call-blank m t [] = refl
begin_call-blank m t (u ∷ us) =
    if-test (option_map blank_begun) _ (opens (blank u)) (by_text (λ s. bytes_eq s (40 ∷ [])) u)
    (and_then-map blank_actuals blank_begun (with_actuals m t) (with_actuals (blank_macro m) (blank t)) (with_actuals-blank m t) (collect (limit_of m) 0 [] [] us)
    ∙ ap (option_and_then (with_actuals (blank_macro m) (blank t))) (collect-blank (limit_of m) 0 [] [] us))
    refl

begin_macro-blank : (t : Tok) (ts : List Tok) (m : Macro) → option_map blank_begun (begin_macro t ts m) ≡ begin_macro (blank t) (map blank ts) (blank_macro m)
begin_macro-blank t ts m = if-map (option_map blank_begun) m.function_like (begin_call-blank m t ts) refl

named-blank : (table : Table) (t : Tok) → option_map blank_macro (named table t) ≡ named (map blank_macro table) (blank t)
named-blank table t =
    if-test (option_map blank_macro) _ (is_identifier t.kind && not (is_in (text_of (blank t).token) t.hide)) (by_text (λ s. is_identifier t.kind && not (is_in s t.hide)) t)
    (lookup-blank table (text_of t.token) ∙ sym (by_text (lookup (map blank_macro table)) t))
    refl

pub begin-blank : (table : Table) (t : Tok) (ts : List Tok) → option_map blank_begun (begin table t ts) ≡ begin (map blank_macro table) (blank t) (map blank ts)
begin-blank table t ts =
    and_then-map blank_macro blank_begun (begin_macro t ts) (begin_macro (blank t) (map blank ts)) (begin_macro-blank t ts) (named table t)
    ∙ ap (option_and_then (begin_macro (blank t) (map blank ts))) (named-blank table t)

-- ## Replacements

abbrev pub blank_piece : Piece → Piece
blank_piece p = record { tok = option_map blank p.tok; glue = p.glue }

argument-blank : (args : List (List Tok)) (i : ℕ) → map blank (argument args i) ≡ argument (map (map blank) args) i
argument-blank [] i = refl
argument-blank (a ∷ rest) zero = refl
argument-blank (a ∷ rest) (suc i) = argument-blank rest i

spaced-blank : (ts : List Tok) → erase_parts (spaced ts) ≡ spaced (map blank ts)
spaced-blank [] = refl
spaced-blank (t ∷ ts) = ap (part false (erase t.token)) (spaced-blank ts)

parts_of-blank : (ts : List Tok) → erase_parts (parts_of ts) ≡ parts_of (map blank ts)
parts_of-blank [] = refl
parts_of-blank (t ∷ ts) = ap (part false (erase t.token)) (spaced-blank ts)

free-blank : (ts : List Tok) → map blank_piece (map free ts) ≡ map free (map blank ts)
free-blank [] = refl
free-blank (t ∷ ts) = ap (λ ps. free (blank t) ∷ ps) (free-blank ts)

pieces-blank : (glue white : Bool) (ts : List Tok) → map blank_piece (pieces glue white ts) ≡ pieces glue false (map blank ts)
pieces-blank glue white [] = refl
pieces-blank glue white (t ∷ ts) = ap (λ ps. record { tok = Some (blank t); glue = glue } ∷ ps) (free-blank ts)

tokens_of-blank : (line : ℕ) (written full : List (List Tok)) (w : What) → map blank (tokens_of line written full w) ≡ tokens_of 0 (map (map blank) written) (map (map blank) full) (blank_what w)
tokens_of-blank line written full (Word t) = refl
tokens_of-blank line written full (Full i) = argument-blank full i
tokens_of-blank line written full (Written i) = argument-blank written i
tokens_of-blank line written full (Quoted i) =
    ap (λ ps. record { token = Str ps; kind = Other; hide = []; white = false; line = 0 } ∷ []) (parts_of-blank (argument written i))
    ∙ ap (λ ts. quoted 0 ts ∷ []) (argument-blank written i)

pieces_of-blank : (line : ℕ) (written full : List (List Tok)) (p : Part) → map blank_piece (pieces_of line written full p) ≡ pieces_of 0 (map (map blank) written) (map (map blank) full) (blank_part p)
pieces_of-blank line written full p =
    pieces-blank p.glue p.white (tokens_of line written full p.what)
    ∙ ap (pieces p.glue false) (tokens_of-blank line written full p.what)

body-blank : (line : ℕ) (written full : List (List Tok)) (body : List Part) → map blank_piece (flat_map (pieces_of line written full) body) ≡ flat_map (pieces_of 0 (map (map blank) written) (map (map blank) full)) (map blank_part body)
body-blank line written full [] = refl
body-blank line written full (p ∷ ps) =
    rw map-append (rw (pieces_of-blank line written full p, body-blank line written full ps) refl)

joined-erase : (a b : PpToken) → joined (erase a) (erase b) ≡ joined a b
joined-erase (Plain s) (Plain t) = refl
joined-erase (Plain s) (Line n) = refl
joined-erase (Plain s) (Str ps) = refl
joined-erase (Plain s) (Pasted ts) = refl
joined-erase (Line n) b = refl
joined-erase (Str ps) b = refl
joined-erase (Pasted ts) b = refl

joined_tokens-erase : (ts us : PpTokens) → erase_tokens (joined_tokens ts us) ≡ joined_tokens (erase_tokens ts) (erase_tokens us)
joined_tokens-erase no_token us = refl
joined_tokens-erase (one_more t ts) us = ap (one_more (erase t)) (joined_tokens-erase ts us)

pasted-erase : (a : PpToken) → erase_tokens (pasted a) ≡ pasted (erase a)
pasted-erase (Plain s) = refl
pasted-erase (Line n) = refl
pasted-erase (Str ps) = refl
pasted-erase (Pasted ts) = refl

two-erase : (a b : PpToken) → erase (two a b) ≡ two (erase a) (erase b)
two-erase a b =
    ap Pasted
    (joined_tokens-erase (pasted a) (pasted b)
    ∙ ap (λ ts. joined_tokens ts (erase_tokens (pasted b))) (pasted-erase a)
    ∙ ap (joined_tokens (pasted (erase a))) (pasted-erase b))

two-blank : (a b : Tok) → blank (made (two a.token b.token) Other a b) ≡ made (two (erase a.token) (erase b.token)) Other (blank a) (blank b)
two-blank a b = ap (λ t. let x : Tok = record { token = t; kind = Other; hide = common a.hide b.hide; white = false; line = 0 } in x) (two-erase a.token b.token)

paste_read-blank : (a b : Tok) (s : List ℕ) (kind : Option ItemKind) → blank (paste_read a b s kind) ≡ paste_read (blank a) (blank b) s kind
paste_read-blank a b s None = two-blank a b
paste_read-blank a b s (Some kind) = refl

paste_joined-blank : (read : Reader) (a b : Tok) (s : Option (List ℕ)) → blank (paste_joined read a b s) ≡ paste_joined read (blank a) (blank b) s
paste_joined-blank read a b None = two-blank a b
paste_joined-blank read a b (Some s) = paste_read-blank a b s (read s)

paste-blank : (read : Reader) (a b : Tok) → blank (paste read a b) ≡ paste read (blank a) (blank b)
paste-blank read a b = rw joined-erase (paste_joined-blank read a b (joined a.token b.token))

join-blank : (read : Reader) (a b : Option Tok) → option_map blank (join read a b) ≡ join read (option_map blank a) (option_map blank b)
join-blank read None q = refl
join-blank read (Some a) None = refl
join-blank read (Some a) (Some b) = ap Some (paste-blank read a b)

paste_from-blank : (read : Reader) (p : Piece) (ps : List Piece) → map blank_piece (paste_from read p ps) ≡ paste_from read (blank_piece p) (map blank_piece ps)
paste_from-blank read p [] = refl
paste_from-blank read p (q ∷ qs) =
    if-map (map blank_piece) q.glue
    (paste_from-blank read (record { tok = join read p.tok q.tok; glue = false }) qs
    ∙ ap (λ t. paste_from read (record { tok = t; glue = false }) (map blank_piece qs)) (join-blank read p.tok q.tok))
    (ap (λ rs. blank_piece p ∷ rs) (paste_from-blank read q qs))

paste_all-blank : (read : Reader) (ps : List Piece) → map blank_piece (paste_all read ps) ≡ paste_all read (map blank_piece ps)
paste_all-blank read [] = refl
paste_all-blank read (p ∷ ps) = paste_from-blank read p ps

add_kept-blank : (t : Option Tok) (ts : List Tok) → map blank (add_kept t ts) ≡ add_kept (option_map blank t) (map blank ts)
add_kept-blank None ts = refl
add_kept-blank (Some t) ts = refl

kept-blank : (ps : List Piece) → map blank (kept ps) ≡ kept (map blank_piece ps)
kept-blank [] = refl
kept-blank (p ∷ ps) = add_kept-blank p.tok (kept ps) ∙ ap (add_kept (option_map blank p.tok)) (kept-blank ps)

hidden-blank : (hide : List Name) (ts : List Tok) → map blank (map (hidden hide) ts) ≡ map (hidden hide) (map blank ts)
hidden-blank hide [] = refl
hidden-blank hide (t ∷ ts) = ap (λ us. hidden hide (blank t) ∷ us) (hidden-blank hide ts)

pub replacement-blank : (read : Reader) (line : ℕ) (hide : List Name) (written full : List (List Tok)) (body : List Part) → map blank (replacement read line hide written full body) ≡ replacement read 0 hide (map (map blank) written) (map (map blank) full) (map blank_part body)
replacement-blank read line hide written full body =
    let ps = flat_map (pieces_of line written full) body in
    hidden-blank hide (kept (paste_all read ps))
    ∙ ap (map (hidden hide)) (kept-blank (paste_all read ps) ∙ ap kept (paste_all-blank read ps ∙ ap (paste_all read) (body-blank line written full body)))

-- ## Steps

resume-blank : (read : Reader) (c : Call) (calls : List Call) (waiting : List (List Tok)) → blank_state (resume read c calls waiting) ≡ resume read (blank_call c) (map blank_call calls) (map (map blank) waiting)
resume-blank read c calls [] =
    ap (λ ts. let s : State = record { rest = ts; out = map blank c.before; calls = map blank_call calls } in s)
    (map-append blank (replacement read c.line c.hide c.written c.full c.macro.body) c.after
    ∙ ap (λ ts. ts ++ map blank c.after) (replacement-blank read c.line c.hide c.written c.full c.macro.body))
resume-blank read c calls (a ∷ waiting) = refl

settle-blank : (t : Tok) → blank (settle t) ≡ settle (blank t)
settle-blank t = if-test blank _ (is_line (blank t)) (by_text (λ s. is_identifier t.kind && bytes_eq s (codes "__LINE__")) t) refl refl

read_on-blank : (read : Reader) (t : Tok) (ts out : List Tok) (calls : List Call) (b : Option Begun) → blank_state (read_on read t ts out calls b) ≡ read_on read (blank t) (map blank ts) (map blank out) (map blank_call calls) (option_map blank_begun b)
read_on-blank read t ts out calls None = rw (map-append, settle-blank) refl
read_on-blank read t ts out calls (Some b) = resume-blank read (opened t out b) calls b.args

close-blank : (read : Reader) (out : List Tok) (calls : List Call) → blank_state (close read out calls) ≡ close read (map blank out) (map blank_call calls)
close-blank read out [] = refl
close-blank read out (c ∷ calls) =
    resume-blank read (expanded c out) calls c.waiting
    ∙ ap (λ full. resume read (record { macro = blank_macro c.macro; line = 0; hide = c.hide; written = map (map blank) c.written; full = full; waiting = map (map blank) c.waiting; before = map blank c.before; after = map blank c.after }) (map blank_call calls) (map (map blank) c.waiting))
    (map-append (map blank) c.full (out ∷ []))

step_on-blank : (read : Reader) (table : Table) (out : List Tok) (calls : List Call) (ts : List Tok) → blank_state (step_on read table out calls ts) ≡ step_on read (map blank_macro table) (map blank out) (map blank_call calls) (map blank ts)
step_on-blank read table out calls [] = close-blank read out calls
step_on-blank read table out calls (t ∷ ts) =
    read_on-blank read t ts out calls (begin table t ts)
    ∙ ap (read_on read (blank t) (map blank ts) (map blank out) (map blank_call calls)) (begin-blank table t ts)

pub step-blank : (read : Reader) (table : Table) (s : State) → blank_state (step read table s) ≡ step read (map blank_macro table) (blank_state s)
step-blank read table s = step_on-blank read table s.out s.calls s.rest

is_nil-map : {A B : Type 0} (f : A → B) (xs : List A) → is_nil (map f xs) ≡ is_nil xs
is_nil-map f [] = refl
is_nil-map f (x ∷ xs) = refl

is_over-blank : (s : State) → is_over (blank_state s) ≡ is_over s
is_over-blank s = rw (is_nil-map blank s.rest, is_nil-map blank_call s.calls) refl

pub run-blank : (read : Reader) (table : Table) (n : ℕ) (s : State) → blank_expanded (run read table n s) ≡ run read (map blank_macro table) n (blank_state s)
run-blank read table zero s = if-test blank_expanded _ (is_over (blank_state s)) (is_over-blank s) refl refl
run-blank read table (suc n) s =
    if-test blank_expanded _ (is_over (blank_state s)) (is_over-blank s) refl
    (run-blank read table n (step read table s) ∙ ap (run read (map blank_macro table) n) (step-blank read table s))

pub expand-blank : (read : Reader) (table : Table) (turns : ℕ) (ts : List Tok) → blank_expanded (expand read table turns ts) ≡ expand read (map blank_macro table) turns (map blank ts)
expand-blank read table turns ts = run-blank read table turns (record { rest = ts; out = []; calls = [] })
