-- Translation phase 4 (C11 5.1.1.2, 6.10) over the sections of a text.
use Rattle.std.specs.Prelude.{ℕ, zero, suc, ◌+◌, ◌-◌, ◌*◌, nat_le, Bool, true, false, not, ◌&&◌, List, [], ◌∷◌, ◌++◌}
use Rattle.std.specs.Prelude.{map, filter, Option, Some, None, bytes_eq, fold}
use Rattle.std.specs.Str.{all_ascii_digits}
use Rattle.pp_model.specs.Token.{PpToken, Plain, erase, Tok, Name, text_of}
use Rattle.item_kinds.specs.declared.ItemKind.{ItemKind}
use Rattle.item_kinds.specs.declared.ItemKind.TheVariants.{HeaderName, StringLit}
use Rattle.pp_model.specs.Macro.{Macro, Table}
use Rattle.pp_model.specs.Replace.{Reader}
use Rattle.pp_model.specs.Expand.{Expanded, Done, Spent, expand, is_nil}
use Rattle.pp_model.specs.Define.{is_name, is_kept_name, define_of}
use Rattle.pp_model.specs.Condition.{Free, resolve, is_defined, Cond, is_active, opened_cond, skipped_cond}

-- ## What is read

-- an item of a section, comments aside: its kind and spelling, whether white space stands before it, and its physical
-- line
pub record Item : Type 0 where
  pub kind : ItemKind
  pub text : List ℕ
  pub white : Bool
  pub line : ℕ

-- what a section is: a text, or a directive (6.10p1); `Elifdef`, `Elifndef`, `Warning` and `Embed` are C23's
pub data SectionKind : Type 0 where
  Text : SectionKind
  If : SectionKind
  Ifdef : SectionKind
  Ifndef : SectionKind
  Elif : SectionKind
  Elifdef : SectionKind
  Elifndef : SectionKind
  Else : SectionKind
  Endif : SectionKind
  Include : SectionKind
  Define : SectionKind
  Undef : SectionKind
  LineNumber : SectionKind
  Error : SectionKind
  Warning : SectionKind
  Embed : SectionKind
  Pragma : SectionKind
  Null : SectionKind
  Unknown : SectionKind

-- A text, or a directive with the items behind its name (behind the # of an unknown one); whether it defines a
-- function-like macro; the physical line behind it.
pub record Section : Type 0 where
  pub kind : SectionKind
  pub function_like : Bool
  pub items : List Item
  pub next : ℕ

-- a text that lexes, or one that doesn't
pub data Source : Type 0 where
  Lexed : List Section → Source
  NotLexed : Source

-- ## What comes out

-- What comes out, in order: tokens, directives that are left to the compiler, and what went wrong. The tokens of
-- Malformed are those of an unknown directive, and otherwise none.
pub data Event : Type 0 where
  TokenEvent : PpToken → Event
  PragmaEvent : List PpToken → Event
  LineEvent : List PpToken → Event
  ErrorEvent : List PpToken → Event
  WarningEvent : List PpToken → Event
  EmbedEvent : List PpToken → Event
  IncludeNotFound : Event
  Malformed : List PpToken → Event
  Unlexed : Event
  TurnsSpent : Event

-- Erase of an event
abbrev pub erase_event : Event → Event
erase_event (TokenEvent t) = TokenEvent (erase t)
erase_event (PragmaEvent ts) = PragmaEvent (map erase ts)
erase_event (LineEvent ts) = LineEvent (map erase ts)
erase_event (ErrorEvent ts) = ErrorEvent (map erase ts)
erase_event (WarningEvent ts) = WarningEvent (map erase ts)
erase_event (EmbedEvent ts) = EmbedEvent (map erase ts)
erase_event IncludeNotFound = IncludeNotFound
erase_event (Malformed ts) = Malformed (map erase ts)
erase_event Unlexed = Unlexed
erase_event TurnsSpent = TurnsSpent

-- ## The state

-- The macros, the turns that are left, the events so far, whether the turns were spent, the text that waits for its
-- expansion, the open conditionals, the innermost first, and the number that the section just read gives to the next
-- line.
pub record World : Type 0 where
  pub table : Table
  pub turns : ℕ
  pub events : List Event
  pub over : Bool
  pub pending : List Tok
  pub conds : List Cond
  pub jump : Option ℕ

-- with this table
abbrev pub with_table : Table → World → World
with_table table w =
    record {
      table = table;
      turns = w.turns;
      events = w.events;
      over = w.over;
      pending = w.pending;
      conds = w.conds;
      jump = w.jump;
    }

-- with so many turns left
abbrev pub with_turns : ℕ → World → World
with_turns turns w =
    record {
      table = w.table;
      turns = turns;
      events = w.events;
      over = w.over;
      pending = w.pending;
      conds = w.conds;
      jump = w.jump;
    }

-- with this pending text
abbrev pub with_pending : List Tok → World → World
with_pending pending w =
    record {
      table = w.table;
      turns = w.turns;
      events = w.events;
      over = w.over;
      pending = pending;
      conds = w.conds;
      jump = w.jump;
    }

-- with these open conditionals
abbrev pub with_conds : List Cond → World → World
with_conds conds w =
    record {
      table = w.table;
      turns = w.turns;
      events = w.events;
      over = w.over;
      pending = w.pending;
      conds = conds;
      jump = w.jump;
    }

-- with this number, or none, for the next line
abbrev pub with_jump : Option ℕ → World → World
with_jump jump w =
    record {
      table = w.table;
      turns = w.turns;
      events = w.events;
      over = w.over;
      pending = w.pending;
      conds = w.conds;
      jump = jump;
    }

-- with these events behind the others
abbrev pub emit : List Event → World → World
emit es w =
    record {
      table = w.table;
      turns = w.turns;
      events = w.events ++ es;
      over = w.over;
      pending = w.pending;
      conds = w.conds;
      jump = w.jump;
    }

-- no turn is left
abbrev pub spend : World → World
spend w =
    record {
      table = w.table;
      turns = 0;
      events = w.events ++ TurnsSpent ∷ [];
      over = true;
      pending = [];
      conds = w.conds;
      jump = w.jump;
    }

-- something that 6.10 doesn't allow
abbrev pub malformed : World → World
malformed w = emit (Malformed [] ∷ []) w

-- the tokens alone
abbrev pub spelled : List Tok → List PpToken
spelled ts = map (λ t. t.token) ts

-- the tokens by which a setting is asked
abbrev pub key_of : List Tok → List PpToken
key_of ts = map (λ t. erase t.token) ts

-- an event for each token
abbrev pub token_events : List Tok → List Event
token_events ts = map (λ t. TokenEvent t.token) ts

-- with the pending text expanded
abbrev pub flushed : World → Expanded → World
flushed w (Done ts n) = emit (token_events ts) (with_turns n (with_pending [] w))
flushed w Spent = spend w

-- expands the pending text into tokens
abbrev pub flush : Reader → World → World
flush read w = flushed w (expand read w.table w.turns w.pending)

-- ## Conditionals

-- one more conditional
abbrev pub push : Cond → World → World
push c w = with_conds (c ∷ w.conds) w

-- goes on with what a condition holds once it is expanded; ends where the turns don't suffice
abbrev pub tested : (List PpToken → Bool) → (Bool → World → World) → World → Expanded → World
tested holds go w (Done ts n) = go (holds (key_of ts)) (with_turns n w)
tested holds go w Spent = spend w

-- A condition (6.10.1p1 to p4): `defined` is answered first, then the rest is expanded, and the setting answers.
abbrev pub test : Reader → (List PpToken → Bool) → (Bool → World → World) → List Tok → World → World
test read holds go ts w = tested holds go w (expand read w.table w.turns (resolve w.table Free ts))

-- a conditional that begins with this answer
abbrev pub begin_if : Bool → World → World
begin_if b w = push (opened_cond b) w

-- Whether a name is defined, or isn't (6.10.1p5): without a name it is malformed, and false.
abbrev pub asked : Bool → (Bool → World → World) → List Tok → World → World
asked sense go [] w = go false (malformed w)
asked sense go (t ∷ ts) w =
    elim (is_name t) [
      | true ↦ go (elim sense [ true ↦ is_defined w.table t | false ↦ not (is_defined w.table t) ]) w
      | false ↦ go false (malformed w)
    ]

-- a conditional in a skipped group is followed for nesting alone (6.10.1p6)
abbrev pub if_active : (World → World) → World → World
if_active go w = elim (is_active w.conds) [ true ↦ go w | false ↦ push skipped_cond w ]

-- malformed, but in a skipped group
abbrev pub blame : Cond → World → World
blame c w = elim c.skipped [ true ↦ w | false ↦ malformed w ]

-- the next group of a conditional of which none was taken, with this answer
abbrev pub entered : Cond → List Cond → Bool → World → World
entered c cs b w = with_conds (record { taken = b; active = b; had_else = false; skipped = c.skipped } ∷ cs) w

-- the next group of a conditional of which one was taken
abbrev pub left : Cond → List Cond → World → World
left c cs w = with_conds (record { taken = true; active = false; had_else = c.had_else; skipped = c.skipped } ∷ cs) w

-- Another group (6.10.1p6): `go` asks its condition, where no group before it was taken. There is none without an open
-- conditional, nor behind an #else.
abbrev pub branch : (Cond → List Cond → World → World) → List Cond → World → World
branch go [] w = malformed w
branch go (c ∷ cs) w =
    elim c.had_else [ true ↦ blame c w | false ↦ elim c.taken [ true ↦ left c cs w | false ↦ go c cs w ] ]

-- the last group, taken where none before it was
abbrev pub otherwise : List Cond → World → World
otherwise [] w = malformed w
otherwise (c ∷ cs) w =
    elim c.had_else [
      | true ↦ blame c w
      | false ↦ with_conds (record { taken = true; active = not c.taken; had_else = true; skipped = c.skipped } ∷ cs) w
    ]

-- the end of a conditional
abbrev pub endif : List Cond → World → World
endif [] w = malformed w
endif (c ∷ cs) w = with_conds cs w

-- ## The other directives, in an active group

-- one more macro, in the place of one of the same name
abbrev pub defined_as : World → Option Macro → World
defined_as w None = malformed w
defined_as w (Some m) = with_table (m ∷ w.table) w

-- the table without this name
abbrev pub without : Name → Table → Table
without name table = filter (λ m. not (bytes_eq m.name name)) table

-- 6.10.3.5
abbrev pub undef : List Tok → World → World
undef [] w = malformed w
undef (t ∷ ts) w =
    elim (is_name t && not (is_kept_name (text_of t.token)))
    [ true ↦ with_table (without (text_of t.token) w.table) w | false ↦ malformed w ]

-- the value of decimal digits
abbrev pub number_of : List ℕ → ℕ
number_of s = fold (λ n c. 10 * n + (c - 48)) 0 s

-- a digit sequence that may be a line's number (6.10.4p3)
abbrev pub is_line_number : List ℕ → Bool
is_line_number s = not (is_nil s) && (all_ascii_digits s && nat_le (number_of s) 2147483647)

-- the number that a line directive gives
abbrev pub jump_of : List Tok → Option ℕ
jump_of [] = None
jump_of (t ∷ ts) = elim (is_line_number (text_of t.token)) [ true ↦ Some (number_of (text_of t.token)) | false ↦ None ]

-- a line directive, its operand expanded (6.10.4p5)
abbrev pub line_read : World → Expanded → World
line_read w (Done ts n) = with_jump (jump_of ts) (emit (LineEvent (spelled ts) ∷ []) (with_turns n w))
line_read w Spent = spend w

-- the operand is one header name
abbrev pub names_header : List Tok → Bool
names_header [] = false
names_header (t ∷ []) = elim t.kind [ HeaderName ↦ true | _ ↦ false ]
names_header (t ∷ u ∷ us) = false

-- an embed directive, its operand expanded; which bytes it stands for isn't said
abbrev pub embed_read : World → Expanded → World
embed_read w (Done ts n) = emit (EmbedEvent (spelled ts) ∷ []) (with_turns n w)
embed_read w Spent = spend w

-- an embed directive
abbrev pub embedded : Reader → List Tok → World → World
embedded read ts w =
    elim (names_header ts)
    [ true ↦ emit (EmbedEvent (spelled ts) ∷ []) w | false ↦ embed_read w (expand read w.table w.turns ts) ]

-- what a directive does: 6.10.3, 6.10.3.5, 6.10.4, 6.10.5, 6.10.6 and 6.10.7
abbrev pub act : Reader → SectionKind → Bool → List Tok → World → World
act read Define function_like ts w = defined_as w (define_of function_like ts)
act read Undef function_like ts w = undef ts w
act read LineNumber function_like ts w = line_read w (expand read w.table w.turns ts)
act read Error function_like ts w = emit (ErrorEvent (spelled ts) ∷ []) w
act read Warning function_like ts w = emit (WarningEvent (spelled ts) ∷ []) w
act read Embed function_like ts w = embedded read ts w
act read Pragma function_like ts w = emit (PragmaEvent (spelled ts) ∷ []) w
act read Unknown function_like ts w = emit (Malformed (spelled ts) ∷ []) w
act read _ function_like ts w = w

-- goes on, unless no turn is left
abbrev pub unless_over : (World → World) → World → World
unless_over go w = elim w.over [ true ↦ w | false ↦ go w ]

-- In an active group a directive first expands the text before it.
abbrev pub acted : Reader → SectionKind → Bool → List Tok → World → World
acted read kind function_like ts w =
    elim (is_active w.conds) [ true ↦ unless_over (act read kind function_like ts) (flush read w) | false ↦ w ]

-- every section but an include directive; conditionals don't cut the pending text
abbrev pub plain : Reader → (List PpToken → Bool) → SectionKind → Bool → List Tok → World → World
plain read holds Text function_like ts w =
    elim (is_active w.conds) [ true ↦ with_pending (w.pending ++ ts) w | false ↦ w ]
plain read holds If function_like ts w = if_active (test read holds begin_if ts) w
plain read holds Ifdef function_like ts w = if_active (asked true begin_if ts) w
plain read holds Ifndef function_like ts w = if_active (asked false begin_if ts) w
plain read holds Elif function_like ts w = branch (λ c cs. test read holds (entered c cs) ts) w.conds w
plain read holds Elifdef function_like ts w = branch (λ c cs. asked true (entered c cs) ts) w.conds w
plain read holds Elifndef function_like ts w = branch (λ c cs. asked false (entered c cs) ts) w.conds w
plain read holds Else function_like ts w = otherwise w.conds w
plain read holds Endif function_like ts w = endif w.conds w
plain read holds kind function_like ts w = acted read kind function_like ts w

-- ## Includes

-- what an include of this key does
abbrev pub Includer : Type 0
Includer = World → List PpToken → World

-- a header name or a string
abbrev pub is_file_kind : ItemKind → Bool
is_file_kind HeaderName = true
is_file_kind StringLit = true
is_file_kind _ = false

-- the operand is one header name or one string (6.10.2p2, p3)
abbrev pub names_file : List Tok → Bool
names_file (t ∷ []) = is_file_kind t.kind
names_file _ = false

-- an include whose operand is expanded
abbrev pub keyed : Includer → World → Expanded → World
keyed include w (Done ts n) = include (with_turns n w) (key_of ts)
keyed include w Spent = spend w

-- An include directive: any other operand is expanded first (6.10.2p4).
abbrev pub include_by : Reader → Includer → List Tok → World → World
include_by read include ts w =
    elim (names_file ts) [ true ↦ include w (key_of ts) | false ↦ keyed include w (expand read w.table w.turns ts) ]

-- In an active group an include first expands the text before it.
abbrev pub included : Reader → Includer → List Tok → World → World
included read include ts w =
    elim (is_active w.conds) [ true ↦ unless_over (include_by read include ts) (flush read w) | false ↦ w ]

-- an include directive
abbrev pub is_include : SectionKind → Bool
is_include Include = true
is_include _ = false

-- ## A whole text

-- presumed lines (6.10.4p3): the physical line `from` has the number `to`, and each line behind it one more
pub record Shift : Type 0 where
  pub from : ℕ
  pub to : ℕ

-- the presumed number of a physical line
abbrev pub presumed : Shift → ℕ → ℕ
presumed s line = s.to + (line - s.from)

-- with the number that a line directive gives to the line behind it
abbrev pub moved : Shift → ℕ → Option ℕ → Shift
moved s next None = s
moved s next (Some n) = record { from = next; to = n }

-- an item before any expansion
abbrev pub tok_of : Shift → Item → Tok
tok_of s i = record { token = Plain i.text; kind = i.kind; hide = []; white = i.white; line = presumed s i.line }

-- one section
abbrev pub one_section : Reader → (List PpToken → Bool) → Includer → Shift → Section → World → World
one_section read holds include shift x w =
    elim (is_include x.kind) [
      | true ↦ included read include (map (tok_of shift) x.items) (with_jump None w)
      | false ↦ plain read holds x.kind x.function_like (map (tok_of shift) x.items) (with_jump None w)
    ]

-- a Malformed for each conditional that is open, but for those in skipped groups
abbrev pub left_open : List Cond → List Event
left_open [] = []
left_open (c ∷ cs) = elim c.skipped [ true ↦ left_open cs | false ↦ Malformed [] ∷ left_open cs ]

-- at the end the pending text is expanded, and each conditional that is open is malformed
abbrev pub finish : Reader → World → World
finish read w = unless_over (λ v. emit (left_open v.conds) v) (flush read w)

-- the sections in order, and then the end
abbrev pub walk : Reader → (List PpToken → Bool) → Includer → Shift → World → List Section → World
walk read holds include shift w [] = elim w.over [ true ↦ w | false ↦ finish read w ]
walk read holds include shift w (x ∷ xs) =
    let v : World = one_section read holds include shift x w in
    (elim w.over [ true ↦ w | false ↦ walk read holds include (moved shift x.next v.jump) v xs ])

-- physical lines
abbrev pub unmoved : Shift
unmoved = record { from = 0; to = 0 }

-- a text; one that doesn't lex gives Unlexed alone
abbrev pub read_source : Reader → (List PpToken → Bool) → Includer → World → Source → World
read_source read holds include w (Lexed xs) = walk read holds include unmoved w xs
read_source read holds include w NotLexed = emit (Unlexed ∷ []) w

-- An included text begins with no pending text and no open conditional, and leaves those of the text around it. It has
-- its own lines; its macros stay.
abbrev pub inside : World → World
inside w = with_conds [] (with_pending [] w)

-- back in the text around it
abbrev pub outside : World → World → World
outside w v = with_jump None (with_conds w.conds (with_pending [] v))

-- the text that the setting has for a key, or none (6.10.2p1)
abbrev pub found : (World → Source → World) → World → Option Source → World
found go w None = emit (IncludeNotFound ∷ []) w
found go w (Some src) = outside w (go (inside w) src)

-- with no depth left every include is not found
abbrev pub includer : Reader → (List PpToken → Bool) → (List PpToken → Option Source) → ℕ → Includer
includer read holds files zero w key = emit (IncludeNotFound ∷ []) w
includer read holds files (suc d) w key =
    found (λ v src. read_source read holds (includer read holds files d) v src) w (files key)

-- at the start
abbrev pub starting : Table → ℕ → World
starting table turns =
    record { table = table; turns = turns; events = []; over = false; pending = []; conds = []; jump = None }

-- the events of a text
abbrev pub preprocess : Reader → (List PpToken → Bool) → (List PpToken → Option Source) → ℕ → Table → ℕ → Source →
    List Event
preprocess read holds files depth table turns src =
    (read_source read holds (includer read holds files depth) (starting table turns) src).events
