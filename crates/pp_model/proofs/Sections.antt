-- Each section but an include does on a blank state what it does on the state itself.
use Rattle.std.proofs.Common.{◌≡◌, ℕ, Bool, true, false, not, ◌&&◌, List, [], ◌∷◌, ◌++◌, map, Option, Some, None, option_map, refl, sym, ap, ◌∙◌}
use Rattle.std.specs.Prelude.{bytes_eq}
use Rattle.std.proofs.lemmas.List.{map-append}
use Rattle.pp_model.specs.Token.{PpToken, Plain, Line, Str, Pasted, Spaceds, no_part, part, erase, erase_parts, PpTokens, no_token, one_more, erase_tokens, Tok, Name, text_of}
use Rattle.pp_model.specs.Macro.{Macro, Table}
use Rattle.pp_model.specs.Replace.{Reader}
use Rattle.pp_model.specs.Expand.{Expanded, Done, Spent, expand}
use Rattle.pp_model.specs.Define.{is_name, is_kept_name, define_of}
use Rattle.pp_model.specs.Condition.{Free, resolve, is_defined, Cond, is_active}
use Rattle.pp_model.specs.Preprocess.{SectionKind, Text, If, Ifdef, Ifndef, Elif, Elifdef, Elifndef, Else, Endif, Include, Define, Undef, LineNumber, Error, Warning, Embed, Pragma, Null, Unknown, Event, TokenEvent, PragmaEvent, LineEvent, ErrorEvent, WarningEvent, EmbedEvent, Malformed, TurnsSpent, erase_event, World, with_table, with_turns, with_pending, with_jump, emit, spend, malformed, spelled, key_of, token_events, flushed, flush, tested, test, begin_if, asked, if_active, blame, entered, branch, otherwise, endif, defined_as, without, undef, is_line_number, number_of, jump_of, line_read, names_header, embed_read, embedded, act, unless_over, acted, plain, left_open, finish}
use Rattle.pp_model.proofs.Blank.{cond-map, if-map, if-test, by_text, expand-blank}
use Rattle.pp_model.proofs.Defines.{define_of-blank, is_defined-blank, resolve-blank}
use Rattle.pp_model.proofs.Blanks.{blank, blank_macro, blank_expanded, blank_world}

mutual
  pub erase-erase : (p : PpToken) → erase (erase p) ≡ erase p
  erase-erase (Plain s) = refl
  erase-erase (Line n) = refl
  erase-erase (Str ps) = ap Str (erase_parts-erase_parts ps)
  erase-erase (Pasted ts) = ap Pasted (erase_tokens-erase_tokens ts)

  erase_parts-erase_parts : (ps : Spaceds) → erase_parts (erase_parts ps) ≡ erase_parts ps
  erase_parts-erase_parts no_part = refl
  erase_parts-erase_parts (part w t ps) = ap (λ x. part false x (erase_parts (erase_parts ps))) (erase-erase t) ∙ ap (part false (erase t)) (erase_parts-erase_parts ps)

  erase_tokens-erase_tokens : (ts : PpTokens) → erase_tokens (erase_tokens ts) ≡ erase_tokens ts
  erase_tokens-erase_tokens no_token = refl
  erase_tokens-erase_tokens (one_more t ts) = ap (λ x. one_more x (erase_tokens (erase_tokens ts))) (erase-erase t) ∙ ap (one_more (erase t)) (erase_tokens-erase_tokens ts)

pub key_of-blank : (ts : List Tok) → key_of (map blank ts) ≡ key_of ts
key_of-blank [] = refl
key_of-blank (t ∷ ts) = ap (λ x. x ∷ key_of (map blank ts)) (erase-erase t.token) ∙ ap (λ xs. erase t.token ∷ xs) (key_of-blank ts)

spelled-blank : (ts : List Tok) → map erase (spelled ts) ≡ spelled (map blank ts)
spelled-blank [] = refl
spelled-blank (t ∷ ts) = ap (λ xs. erase t.token ∷ xs) (spelled-blank ts)

token_events-blank : (ts : List Tok) → map erase_event (token_events ts) ≡ token_events (map blank ts)
token_events-blank [] = refl
token_events-blank (t ∷ ts) = ap (λ xs. TokenEvent (erase t.token) ∷ xs) (token_events-blank ts)

pub emit-blank : (es es' : List Event) (w : World) → map erase_event es ≡ es' → blank_world (emit es w) ≡ emit es' (blank_world w)
emit-blank es es' w e =
    ap (λ xs. let v : World = record { table = map blank_macro w.table; turns = w.turns; events = xs; over = w.over; pending = map blank w.pending; conds = w.conds; jump = w.jump } in v)
    (map-append erase_event w.events es ∙ ap (λ xs. map erase_event w.events ++ xs) e)

pub spend-blank : (w : World) → blank_world (spend w) ≡ spend (blank_world w)
spend-blank w =
    ap (λ xs. let v : World = record { table = map blank_macro w.table; turns = 0; events = xs; over = true; pending = []; conds = w.conds; jump = w.jump } in v)
    (map-append erase_event w.events (TurnsSpent ∷ []))

pub malformed-blank : (w : World) → blank_world (malformed w) ≡ malformed (blank_world w)
malformed-blank w = emit-blank (Malformed [] ∷ []) (Malformed [] ∷ []) w refl

flushed-blank : (w : World) (e : Expanded) → blank_world (flushed w e) ≡ flushed (blank_world w) (blank_expanded e)
flushed-blank w (Done ts n) = emit-blank (token_events ts) (token_events (map blank ts)) (with_turns n (with_pending [] w)) (token_events-blank ts)
flushed-blank w Spent = spend-blank w

pub flush-blank : (read : Reader) (w : World) → blank_world (flush read w) ≡ flush read (blank_world w)
flush-blank read w =
    flushed-blank w (expand read w.table w.turns w.pending) ∙ ap (flushed (blank_world w)) (expand-blank read w.table w.turns w.pending)

-- ## Conditionals

tested-blank : (holds : List PpToken → Bool) (go : Bool → World → World) → ((b : Bool) (w : World) → blank_world (go b w) ≡ go b (blank_world w)) → (w : World) (e : Expanded) → blank_world (tested holds go w e) ≡ tested holds go (blank_world w) (blank_expanded e)
tested-blank holds go h w (Done ts n) =
    h (holds (key_of ts)) (with_turns n w) ∙ ap (λ k. go (holds k) (with_turns n (blank_world w))) (sym (key_of-blank ts))
tested-blank holds go h w Spent = spend-blank w

test-blank : (read : Reader) (holds : List PpToken → Bool) (go : Bool → World → World) → ((b : Bool) (w : World) → blank_world (go b w) ≡ go b (blank_world w)) → (ts : List Tok) (w : World) → blank_world (test read holds go ts w) ≡ test read holds go (map blank ts) (blank_world w)
test-blank read holds go h ts w =
    tested-blank holds go h w (expand read w.table w.turns (resolve w.table Free ts))
    ∙ ap (tested holds go (blank_world w))
    (expand-blank read w.table w.turns (resolve w.table Free ts) ∙ ap (expand read (map blank_macro w.table) w.turns) (resolve-blank w.table Free ts))

asked-blank : (sense : Bool) (go : Bool → World → World) → ((b : Bool) (w : World) → blank_world (go b w) ≡ go b (blank_world w)) → (ts : List Tok) (w : World) → blank_world (asked sense go ts w) ≡ asked sense go (map blank ts) (blank_world w)
asked-blank sense go h [] w = h false (malformed w) ∙ ap (go false) (malformed-blank w)
asked-blank sense go h (t ∷ ts) w =
    if-map blank_world (is_name t)
    (h (elim sense [ true ↦ is_defined w.table t | false ↦ not (is_defined w.table t) ]) w
    ∙ ap (λ b. go (elim sense [ true ↦ b | false ↦ not b ]) (blank_world w)) (sym (is_defined-blank w.table t)))
    (h false (malformed w) ∙ ap (go false) (malformed-blank w))

if_active-blank : (go go' : World → World) (w : World) → blank_world (go w) ≡ go' (blank_world w) → blank_world (if_active go w) ≡ if_active go' (blank_world w)
if_active-blank go go' w e = if-map blank_world (is_active w.conds) e refl

blame-blank : (c : Cond) (w : World) → blank_world (blame c w) ≡ blame c (blank_world w)
blame-blank c w = if-map blank_world c.skipped refl (malformed-blank w)

branch-blank : (go go' : Cond → List Cond → World → World) → ((c : Cond) (cs : List Cond) (w : World) → blank_world (go c cs w) ≡ go' c cs (blank_world w)) → (cs : List Cond) (w : World) → blank_world (branch go cs w) ≡ branch go' cs (blank_world w)
branch-blank go go' h [] w = malformed-blank w
branch-blank go go' h (c ∷ cs) w = if-map blank_world c.had_else (blame-blank c w) (if-map blank_world c.taken refl (h c cs w))

otherwise-blank : (cs : List Cond) (w : World) → blank_world (otherwise cs w) ≡ otherwise cs (blank_world w)
otherwise-blank [] w = malformed-blank w
otherwise-blank (c ∷ cs) w = if-map blank_world c.had_else (blame-blank c w) refl

endif-blank : (cs : List Cond) (w : World) → blank_world (endif cs w) ≡ endif cs (blank_world w)
endif-blank [] w = malformed-blank w
endif-blank (c ∷ cs) w = refl

-- ## The other directives

defined_as-blank : (w : World) (m : Option Macro) → blank_world (defined_as w m) ≡ defined_as (blank_world w) (option_map blank_macro m)
defined_as-blank w None = malformed-blank w
defined_as-blank w (Some m) = refl

without-blank : (name : Name) (table : Table) → map blank_macro (without name table) ≡ without name (map blank_macro table)
without-blank name [] = refl
without-blank name (m ∷ ms) =
    cond-map (map blank_macro) (not (bytes_eq m.name name)) (ap (λ xs. blank_macro m ∷ xs) (without-blank name ms)) (without-blank name ms)

undef-blank : (ts : List Tok) (w : World) → blank_world (undef ts w) ≡ undef (map blank ts) (blank_world w)
undef-blank [] w = malformed-blank w
undef-blank (t ∷ ts) w =
    if-test blank_world _ (is_name t && not (is_kept_name (text_of (blank t).token))) (by_text (λ s. is_name t && not (is_kept_name s)) t)
    (ap (λ table. with_table table (blank_world w)) (without-blank (text_of t.token) w.table) ∙ sym (by_text (λ s. with_table (without s (map blank_macro w.table)) (blank_world w)) t))
    (malformed-blank w)

jump_of-blank : (ts : List Tok) → jump_of (map blank ts) ≡ jump_of ts
jump_of-blank [] = refl
jump_of-blank (t ∷ ts) = by_text (λ s. let r : Option ℕ = elim (is_line_number s) [ true ↦ Some (number_of s) | false ↦ None ] in r) t

line_read-blank : (w : World) (e : Expanded) → blank_world (line_read w e) ≡ line_read (blank_world w) (blank_expanded e)
line_read-blank w (Done ts n) =
    ap (with_jump (jump_of ts)) (emit-blank (LineEvent (spelled ts) ∷ []) (LineEvent (spelled (map blank ts)) ∷ []) (with_turns n w) (ap (λ xs. LineEvent xs ∷ []) (spelled-blank ts)))
    ∙ ap (λ j. with_jump j (emit (LineEvent (spelled (map blank ts)) ∷ []) (with_turns n (blank_world w)))) (sym (jump_of-blank ts))
line_read-blank w Spent = spend-blank w

names_header-blank : (ts : List Tok) → names_header (map blank ts) ≡ names_header ts
names_header-blank [] = refl
names_header-blank (t ∷ []) = refl
names_header-blank (t ∷ u ∷ us) = refl

embed_read-blank : (w : World) (e : Expanded) → blank_world (embed_read w e) ≡ embed_read (blank_world w) (blank_expanded e)
embed_read-blank w (Done ts n) = emit-blank (EmbedEvent (spelled ts) ∷ []) (EmbedEvent (spelled (map blank ts)) ∷ []) (with_turns n w) (ap (λ xs. EmbedEvent xs ∷ []) (spelled-blank ts))
embed_read-blank w Spent = spend-blank w

embedded-blank : (read : Reader) (ts : List Tok) (w : World) → blank_world (embedded read ts w) ≡ embedded read (map blank ts) (blank_world w)
embedded-blank read ts w =
    if-test blank_world (names_header ts) (names_header (map blank ts)) (names_header-blank ts)
    (emit-blank (EmbedEvent (spelled ts) ∷ []) (EmbedEvent (spelled (map blank ts)) ∷ []) w (ap (λ xs. EmbedEvent xs ∷ []) (spelled-blank ts)))
    (embed_read-blank w (expand read w.table w.turns ts) ∙ ap (embed_read (blank_world w)) (expand-blank read w.table w.turns ts))

act-blank : (read : Reader) (kind : SectionKind) (fl : Bool) (ts : List Tok) (w : World) → blank_world (act read kind fl ts w) ≡ act read kind fl (map blank ts) (blank_world w)
act-blank read Define fl ts w = defined_as-blank w (define_of fl ts) ∙ ap (defined_as (blank_world w)) (define_of-blank fl ts)
act-blank read Undef fl ts w = undef-blank ts w
act-blank read LineNumber fl ts w =
    line_read-blank w (expand read w.table w.turns ts) ∙ ap (line_read (blank_world w)) (expand-blank read w.table w.turns ts)
act-blank read Error fl ts w = emit-blank (ErrorEvent (spelled ts) ∷ []) _ w (ap (λ xs. ErrorEvent xs ∷ []) (spelled-blank ts))
act-blank read Warning fl ts w = emit-blank (WarningEvent (spelled ts) ∷ []) _ w (ap (λ xs. WarningEvent xs ∷ []) (spelled-blank ts))
act-blank read Embed fl ts w = embedded-blank read ts w
act-blank read Pragma fl ts w = emit-blank (PragmaEvent (spelled ts) ∷ []) _ w (ap (λ xs. PragmaEvent xs ∷ []) (spelled-blank ts))
act-blank read Unknown fl ts w = emit-blank (Malformed (spelled ts) ∷ []) _ w (ap (λ xs. Malformed xs ∷ []) (spelled-blank ts))
act-blank read Text fl ts w = refl
act-blank read If fl ts w = refl
act-blank read Ifdef fl ts w = refl
act-blank read Ifndef fl ts w = refl
act-blank read Elif fl ts w = refl
act-blank read Elifdef fl ts w = refl
act-blank read Elifndef fl ts w = refl
act-blank read Else fl ts w = refl
act-blank read Endif fl ts w = refl
act-blank read Include fl ts w = refl
act-blank read Null fl ts w = refl

unless_over-blank : (go go' : World → World) → ((w : World) → blank_world (go w) ≡ go' (blank_world w)) → (w : World) → blank_world (unless_over go w) ≡ unless_over go' (blank_world w)
unless_over-blank go go' h w = if-map blank_world w.over refl (h w)

acted-blank : (read : Reader) (kind : SectionKind) (fl : Bool) (ts : List Tok) (w : World) → blank_world (acted read kind fl ts w) ≡ acted read kind fl (map blank ts) (blank_world w)
acted-blank read kind fl ts w =
    if-map blank_world (is_active w.conds)
    (unless_over-blank (act read kind fl ts) (act read kind fl (map blank ts)) (act-blank read kind fl ts) (flush read w)
    ∙ ap (unless_over (act read kind fl (map blank ts))) (flush-blank read w))
    refl

pub plain-blank : (read : Reader) (holds : List PpToken → Bool) (kind : SectionKind) (fl : Bool) (ts : List Tok) (w : World) → blank_world (plain read holds kind fl ts w) ≡ plain read holds kind fl (map blank ts) (blank_world w)
plain-blank read holds Text fl ts w =
    if-map blank_world (is_active w.conds) (ap (λ us. with_pending us (blank_world w)) (map-append blank w.pending ts)) refl
plain-blank read holds If fl ts w = if_active-blank (test read holds begin_if ts) (test read holds begin_if (map blank ts)) w (test-blank read holds begin_if (λ b v. refl) ts w)
plain-blank read holds Ifdef fl ts w = if_active-blank (asked true begin_if ts) (asked true begin_if (map blank ts)) w (asked-blank true begin_if (λ b v. refl) ts w)
plain-blank read holds Ifndef fl ts w = if_active-blank (asked false begin_if ts) (asked false begin_if (map blank ts)) w (asked-blank false begin_if (λ b v. refl) ts w)
plain-blank read holds Elif fl ts w =
    branch-blank (λ c cs. test read holds (entered c cs) ts) (λ c cs. test read holds (entered c cs) (map blank ts)) (λ c cs v. test-blank read holds (entered c cs) (λ b u. refl) ts v) w.conds w
plain-blank read holds Elifdef fl ts w =
    branch-blank (λ c cs. asked true (entered c cs) ts) (λ c cs. asked true (entered c cs) (map blank ts)) (λ c cs v. asked-blank true (entered c cs) (λ b u. refl) ts v) w.conds w
plain-blank read holds Elifndef fl ts w =
    branch-blank (λ c cs. asked false (entered c cs) ts) (λ c cs. asked false (entered c cs) (map blank ts)) (λ c cs v. asked-blank false (entered c cs) (λ b u. refl) ts v) w.conds w
plain-blank read holds Else fl ts w = otherwise-blank w.conds w
plain-blank read holds Endif fl ts w = endif-blank w.conds w
plain-blank read holds Include fl ts w = acted-blank read Include fl ts w
plain-blank read holds Define fl ts w = acted-blank read Define fl ts w
plain-blank read holds Undef fl ts w = acted-blank read Undef fl ts w
plain-blank read holds LineNumber fl ts w = acted-blank read LineNumber fl ts w
plain-blank read holds Error fl ts w = acted-blank read Error fl ts w
plain-blank read holds Warning fl ts w = acted-blank read Warning fl ts w
plain-blank read holds Embed fl ts w = acted-blank read Embed fl ts w
plain-blank read holds Pragma fl ts w = acted-blank read Pragma fl ts w
plain-blank read holds Null fl ts w = acted-blank read Null fl ts w
plain-blank read holds Unknown fl ts w = acted-blank read Unknown fl ts w

left_open-blank : (cs : List Cond) → map erase_event (left_open cs) ≡ left_open cs
left_open-blank [] = refl
left_open-blank (c ∷ cs) = if-map (map erase_event) c.skipped (left_open-blank cs) (ap (λ es. Malformed [] ∷ es) (left_open-blank cs))

pub finish-blank : (read : Reader) (w : World) → blank_world (finish read w) ≡ finish read (blank_world w)
finish-blank read w =
    unless_over-blank (λ v. emit (left_open v.conds) v) (λ v. emit (left_open v.conds) v) (λ v. emit-blank (left_open v.conds) (left_open v.conds) v (left_open-blank v.conds)) (flush read w)
    ∙ ap (unless_over (λ v. emit (left_open v.conds) v)) (flush-blank read w)
