-- Macro expansion (C11 6.10.3.1, 6.10.3.4) by Prosser's hide sets, as a machine. Each step spends one turn: to read a
-- token, a whole call where it begins one, or to end an argument.
use Rattle.std.specs.Prelude.{ℕ, zero, suc, Bool, true, false, ◌&&◌, List, [], ◌∷◌, ◌++◌, codes, Option, Some, None}
use Rattle.pp_model.specs.Token.{Tok, Name, Line, is_text}
use Rattle.c_grammar.specs.Touch.{is_identifier}
use Rattle.item_kinds.specs.declared.ItemKind.TheVariants.{Other}
use Rattle.pp_model.specs.Macro.{Macro, Table}
use Rattle.pp_model.specs.Call.{Begun, begin}
use Rattle.pp_model.specs.Replace.{Reader, replacement}

-- A call whose arguments are being expanded, each as if it were all that is left of the file (6.10.3.1p1): the
-- arguments as written, those that are expanded, those that wait, and what stands before and after the call.
pub record Call : Type 0 where
  pub macro : Macro
  pub line : ℕ
  pub hide : List Name
  pub written : List (List Tok)
  pub full : List (List Tok)
  pub waiting : List (List Tok)
  pub before : List Tok
  pub after : List Tok

-- what is still to be read, what was read, and the calls that are open, the innermost first
pub record State : Type 0 where
  pub rest : List Tok
  pub out : List Tok
  pub calls : List Call

-- With every argument expanded, the replacement is read again with what follows it (6.10.3.4p1). Otherwise the next
-- argument is read.
abbrev pub resume : Reader → Call → List Call → List (List Tok) → State
resume read c calls [] =
    record {
      rest = replacement read c.line c.hide c.written c.full c.macro.body ++ c.after;
      out = c.before;
      calls = calls;
    }
resume read c calls (a ∷ waiting) =
    record {
      rest = a;
      out = [];
      calls =
          record {
            macro = c.macro;
            line = c.line;
            hide = c.hide;
            written = c.written;
            full = c.full;
            waiting = waiting;
            before = c.before;
            after = c.after;
          }
          ∷ calls;
    }

-- `__LINE__`
abbrev pub is_line : Tok → Bool
is_line t = is_identifier t.kind && is_text (codes "__LINE__") t

-- its presumed line
abbrev pub line_token : Tok → Tok
line_token t = record { token = Line t.line; kind = Other; hide = t.hide; white = t.white; line = t.line }

-- a token that is no call stays; `__LINE__` becomes its line
abbrev pub settle : Tok → Tok
settle t = elim (is_line t) [ true ↦ line_token t | false ↦ t ]

-- a call that begins, with what was read before it
abbrev pub opened : Tok → List Tok → Begun → Call
opened t out b =
    record {
      macro = b.macro;
      line = t.line;
      hide = b.hide;
      written = b.args;
      full = [];
      waiting = b.args;
      before = out;
      after = b.after;
    }

-- reads a token that begins no replacement, or one that does
abbrev pub read_on : Reader → Tok → List Tok → List Tok → List Call → Option Begun → State
read_on read t ts out calls None = record { rest = ts; out = out ++ settle t ∷ []; calls = calls }
read_on read t ts out calls (Some b) = resume read (opened t out b) calls b.args

-- with one more argument expanded
abbrev pub expanded : Call → List Tok → Call
expanded c out =
    record {
      macro = c.macro;
      line = c.line;
      hide = c.hide;
      written = c.written;
      full = c.full ++ out ∷ [];
      waiting = c.waiting;
      before = c.before;
      after = c.after;
    }

-- the end of an argument
abbrev pub close : Reader → List Tok → List Call → State
close read out [] = record { rest = []; out = out; calls = [] }
close read out (c ∷ calls) = resume read (expanded c out) calls c.waiting

-- one step, by what is still to be read
abbrev pub step_on : Reader → Table → List Tok → List Call → List Tok → State
step_on read table out calls [] = close read out calls
step_on read table out calls (t ∷ ts) = read_on read t ts out calls (begin table t ts)

-- one step
abbrev pub step : Reader → Table → State → State
step read table s = step_on read table s.out s.calls s.rest

-- the list is empty
abbrev pub is_nil : {A : Type 0} → List A → Bool
is_nil [] = true
is_nil (x ∷ xs) = false

-- all is read
abbrev pub is_over : State → Bool
is_over s = is_nil s.rest && is_nil s.calls

-- the tokens and the turns that are left, or the turns didn't suffice
pub data Expanded : Type 0 where
  Done : List Tok → ℕ → Expanded
  Spent : Expanded

-- steps until all is read, as long as turns are left
abbrev pub run : Reader → Table → ℕ → State → Expanded
run read table zero s = elim (is_over s) [ true ↦ Done s.out zero | false ↦ Spent ]
run read table (suc n) s = elim (is_over s) [ true ↦ Done s.out (suc n) | false ↦ run read table n (step read table s) ]

-- the expansion of a text
abbrev pub expand : Reader → Table → ℕ → List Tok → Expanded
expand read table turns ts = run read table turns (record { rest = ts; out = []; calls = [] })
