-- What the values of a preprocessing stand for in the model.
use Rattle.std.specs.Prelude.{ℕ, Bool, true, false, not, ◌&&◌, List, [], ◌∷◌, map, Option, Some, None, Vec}
use Rattle.std.specs.declared.alloc.Global.{Global}
use Rattle.pp_model.specs.Token.{Tok as Token, Name, text_of}
use Rattle.pp_model.specs.Macro.{Table}
use Rattle.pp_model.specs.Define.{is_kept_name}
use Rattle.pp_model.specs.Condition.{Cond, is_name, is_defined}
use Rattle.pp_model.specs.Expand.{Expanded, Done, Spent}
use Rattle.pp_model.specs.Preprocess.{Event, World, Shift, unless_over, spend, with_turns}
use Rattle.pp_events.specs.View.{shown, tok_shown, macro_shown}
use Rattle.pp_events.specs.declared.token.Tok.{Tok}
use Rattle.pp_directives.specs.declared.cond.Cond.{Cond as CondValue}
use Rattle.pp_directives.specs.CondView.{cond_shown}
use Rattle.pp_directives.specs.declared.conditionals.Conditionals.{Conditionals}
use Rattle.pp_directives.specs.declared.events.Event.{Event as EventValue}
use Rattle.pp_directives.specs.declared.state.World.{World as WorldValue}
use Rattle.pp_directives.specs.declared.lines.Shift.{Shift as ShiftValue}

-- the open conditionals, the innermost first
abbrev pub conds_shown : Conditionals → List Cond
conds_shown cs = map cond_shown cs.open.items

-- what comes out
abbrev pub event_shown : EventValue → Event
event_shown (EventValue.Token t) = Event.TokenEvent (shown t)
event_shown (EventValue.Pragma ts) = Event.PragmaEvent (map shown ts.items)
event_shown (EventValue.Line ts) = Event.LineEvent (map shown ts.items)
event_shown (EventValue.Error ts) = Event.ErrorEvent (map shown ts.items)
event_shown (EventValue.Warning ts) = Event.WarningEvent (map shown ts.items)
event_shown (EventValue.Embed ts) = Event.EmbedEvent (map shown ts.items)
event_shown EventValue.IncludeNotFound = Event.IncludeNotFound
event_shown (EventValue.Malformed ts) = Event.Malformed (map shown ts.items)
event_shown EventValue.Unlexed = Event.Unlexed
event_shown EventValue.TurnsSpent = Event.TurnsSpent

-- the state
abbrev pub world_shown : WorldValue → World
world_shown w =
    record {
      table = map macro_shown w.table.items;
      turns = w.turns;
      events = map event_shown w.events.items;
      over = w.over;
      pending = map tok_shown w.pending.items;
      conds = conds_shown w.conds;
      jump = w.jump;
    }

-- presumed lines
abbrev pub shift_shown : ShiftValue → Shift
shift_shown s = record { from = s.from; to = s.to }

-- an expansion by its tokens, or none, and the turns that are left
abbrev pub expansion_of : Option (Vec Tok Global) → ℕ → Expanded
expansion_of None turns = Spent
expansion_of (Some ts) turns = Done (map tok_shown ts.items) turns

-- the state behind it
abbrev pub behind_expansion : Option (Vec Tok Global) → ℕ → World → World
behind_expansion None turns w = spend w
behind_expansion (Some ts) turns w = with_turns turns w

-- the name in front that a macro may have
abbrev pub front_name : List Token → Option Name
front_name [] = None
front_name (t ∷ ts) =
    elim (is_name t && not (is_kept_name (text_of t.token))) [ true ↦ Some (text_of t.token) | false ↦ None ]

-- whether the name in front is defined; none where there is no name
abbrev pub front_defined : Table → List Token → Option Bool
front_defined table [] = None
front_defined table (t ∷ ts) = elim (is_name t) [ true ↦ Some (is_defined table t) | false ↦ None ]

-- what is asked of a conditional whose next group asks a condition, with what stands around it
abbrev pub asked_next : Option CondValue → (Cond → List Cond → World → World) → List Cond → World → World
asked_next None go cs w = w
asked_next (Some c) go cs w = go (cond_shown c) cs w

-- goes on with an answer, or ends where there is none
abbrev pub goes_with : Option Bool → (Bool → World → World) → World → World
goes_with None go w = w
goes_with (Some b) go w = go b w

-- a directive in an active group, behind the text before it, unless no turn is left; and otherwise nothing
abbrev pub acted_on : (active : Bool) → (World → World) → (flushed w : World) → World
acted_on true go v w = unless_over go v
acted_on false go v w = w

-- goes on, or has ended
abbrev pub goes_on : Bool → (World → World) → World → World
goes_on true go w = go w
goes_on false go w = w
