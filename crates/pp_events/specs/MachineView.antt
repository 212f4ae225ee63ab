-- What the values of an expansion stand for in the model.
use Rattle.std.specs.Prelude.{ℕ, List, map, Option, Some, None, Vec}
use Rattle.std.specs.declared.alloc.Global.{Global}
use Rattle.std.specs.declared.collections.VecDeque.{VecDeque}
use Rattle.pp_model.specs.Token.{Tok}
use Rattle.pp_model.specs.Replace.{Reader, replacement}
use Rattle.pp_model.specs.Call.{Begun}
use Rattle.pp_model.specs.Expand.{Call, State, Expanded, Done, Spent}
use Rattle.pp_events.specs.View.{tok_shown, toks_shown, macro_shown}
use Rattle.pp_events.specs.declared.token.Tok.{Tok as TokValue}
use Rattle.pp_events.specs.declared.state.Call.{Call as CallValue}
use Rattle.pp_events.specs.declared.state.State.{State as StateValue}
use Rattle.pp_events.specs.declared.state.Begun.{Begun as BegunValue}

-- a replacement that begins
abbrev pub begun_shown : BegunValue → Begun
begun_shown b =
    record {
      macro = macro_shown b.named.now;
      hide = map (λ n. n.items) b.hide.items;
      args = map toks_shown b.args.items;
      after = map tok_shown b.after.items;
    }

-- an open call
abbrev pub call_shown : CallValue → Call
call_shown c =
    record {
      macro = macro_shown c.named.now;
      line = c.line;
      hide = map (λ n. n.items) c.hide.items;
      written = map toks_shown c.written.items;
      full = map toks_shown c.full.items;
      waiting = map toks_shown c.waiting.items;
      before = map tok_shown c.before.items;
      after = map tok_shown c.after.items;
    }

-- the innermost call is first
abbrev pub calls_shown : VecDeque CallValue Global → List Call
calls_shown cs = map call_shown cs.items

-- where an expansion stands
abbrev pub state_shown : StateValue → State
state_shown s =
    record { rest = map tok_shown s.rest.items; out = map tok_shown s.out.items; calls = calls_shown s.calls }

-- the result of an expansion
abbrev pub expanded_shown : Option (Vec TokValue Global × ℕ) → Expanded
expanded_shown None = Spent
expanded_shown (Some p) = Done (map tok_shown p.0.items) p.1

-- what a call becomes
abbrev pub call_replacement : Reader → Call → List Tok
call_replacement read c = replacement read c.line c.hide c.written c.full c.macro.body
