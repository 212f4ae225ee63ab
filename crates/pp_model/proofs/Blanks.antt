-- What is the same in twins: each type of the model without white space and lines, and with its tokens erased. Two values are the
-- same but for these where they are equal when blank.
use Rattle.std.proofs.Common.{false, map}
use Rattle.pp_model.specs.Token.{erase, Tok}
use Rattle.pp_model.specs.Macro.{What, Word, Full, Written, Quoted, Part, Macro}
use Rattle.pp_model.specs.Call.{Actuals, Begun}
use Rattle.pp_model.specs.Expand.{Call, State, Expanded, Done, Spent}
use Rattle.pp_model.specs.Preprocess.{Item, Section, Source, Lexed, NotLexed, erase_event, World}
use Rattle.pp_model.specs.Stream.{Streamed}

-- a token
abbrev pub blank : Tok → Tok
blank t = record { token = erase t.token; kind = t.kind; hide = t.hide; white = false; line = 0 }

-- what a part of a body stands for
abbrev pub blank_what : What → What
blank_what (Word t) = Word (blank t)
blank_what (Full i) = Full i
blank_what (Written i) = Written i
blank_what (Quoted i) = Quoted i

-- a part of a body
abbrev pub blank_part : Part → Part
blank_part p = record { what = blank_what p.what; white = false; glue = p.glue }

-- a macro
abbrev pub blank_macro : Macro → Macro
blank_macro m = record { name = m.name; function_like = m.function_like; arity = m.arity; variadic = m.variadic; body = map blank_part m.body }

-- the arguments of a call
abbrev pub blank_actuals : Actuals → Actuals
blank_actuals a = record { args = map (map blank) a.args; close = a.close; after = map blank a.after }

-- a replacement that begins
abbrev pub blank_begun : Begun → Begun
blank_begun b = record { macro = blank_macro b.macro; hide = b.hide; args = map (map blank) b.args; after = map blank b.after }

-- an open call
abbrev pub blank_call : Call → Call
blank_call c =
    record {
      macro = blank_macro c.macro;
      line = 0;
      hide = c.hide;
      written = map (map blank) c.written;
      full = map (map blank) c.full;
      waiting = map (map blank) c.waiting;
      before = map blank c.before;
      after = map blank c.after;
    }

-- a state of an expansion
abbrev pub blank_state : State → State
blank_state s = record { rest = map blank s.rest; out = map blank s.out; calls = map blank_call s.calls }

-- the result of an expansion
abbrev pub blank_expanded : Expanded → Expanded
blank_expanded (Done ts n) = Done (map blank ts) n
blank_expanded Spent = Spent

-- an item
abbrev pub blank_item : Item → Item
blank_item i = record { kind = i.kind; text = i.text; white = false; line = 0 }

-- a section
abbrev pub blank_section : Section → Section
blank_section x = record { kind = x.kind; function_like = x.function_like; items = map blank_item x.items; next = 0 }

-- a text
abbrev pub blank_source : Source → Source
blank_source (Lexed xs) = Lexed (map blank_section xs)
blank_source NotLexed = NotLexed

-- a state of phase 4
abbrev pub blank_world : World → World
blank_world w =
    record {
      table = map blank_macro w.table;
      turns = w.turns;
      events = map erase_event w.events;
      over = w.over;
      pending = map blank w.pending;
      conds = w.conds;
      jump = w.jump;
    }

-- an item of a stream
abbrev pub blank_streamed : Streamed → Streamed
blank_streamed s = record { part = s.part; kind = s.kind; text = s.text; white = false; line = 0; begun = 0 }
