-- What is left to be read: of a text, and of the texts that include it.
use Rattle.std.specs.Prelude.{ℕ, ◌-◌, Bool, List, [], ◌∷◌, Option, Some, None}
use Rattle.pp_model.specs.Token.{PpToken}
use Rattle.pp_model.specs.Condition.{Cond}
use Rattle.pp_model.specs.Replace.{Reader}
use Rattle.pp_model.specs.Preprocess.{Section, Source, Shift, World, Includer, walk, includer, moved, unmoved, inside}
use Rattle.pp_model.specs.Preprocess.{outside, with_jump, with_conds, with_pending}

-- what texts are read by: the kinds of spellings, the answers to conditions, and the texts that includes find
pub record Rules : Type 0 where
  pub kinds : Reader
  pub holds : List PpToken → Bool
  pub files : List PpToken → Option Source

-- the sections of a text that are left, its presumed lines, and how deep its includes go
pub record Unread : Type 0 where
  pub sections : List Section
  pub shift : Shift
  pub depth : ℕ

-- a text that waits for the end of one that it includes, and its open conditionals (C11 6.10.2)
pub record Waiting : Type 0 where
  pub text : Unread
  pub conds : List Cond

-- the state, the text that is read, and those that wait for it, the innermost first
pub record Reading : Type 0 where
  pub world : World
  pub text : Unread
  pub waiting : List Waiting

-- what the includes of a text do
abbrev pub includes_of : Rules → ℕ → Includer
includes_of rules depth = includer rules.kinds rules.holds rules.files depth

-- the rest of a text is read
abbrev pub read_rest : Rules → Unread → World → World
read_rest rules t w = walk rules.kinds rules.holds (includes_of rules t.depth) t.shift w t.sections

-- behind an included text, which has its own pending text, conditionals and lines
abbrev pub resumed : List Cond → World → World
resumed conds w = with_jump None (with_conds conds (with_pending [] w))

-- the texts that wait are read
abbrev pub unwound : Rules → List Waiting → World → World
unwound rules [] w = w
unwound rules (s ∷ ss) w = unwound rules ss (read_rest rules s.text (resumed s.conds w))

-- all that is left is read
abbrev pub whole : Rules → Reading → World
whole rules r = unwound rules r.waiting (read_rest rules r.text r.world)

-- a text behind a section, which may give the next line a number
abbrev pub moved_text : Unread → ℕ → Option ℕ → Unread
moved_text t next jump = record { sections = t.sections; shift = moved t.shift next jump; depth = t.depth }

-- all that is left behind a section is read
abbrev pub behind_section : Rules → Unread → ℕ → List Waiting → World → World
behind_section rules t next ss v = unwound rules ss (read_rest rules (moved_text t next v.jump) v)

-- behind an include: these sections are those of the text that it finds, or it finds none
abbrev pub entered : Rules → ℕ → Option (List Section) → World → World
entered rules depth None w = w
entered rules depth (Some xs) w =
    outside w (walk rules.kinds rules.holds (includes_of rules (depth - 1)) unmoved (inside w) xs)

-- where reading stands once an included text begins
abbrev pub begun_text : List Section → Reading → Reading
begun_text xs r =
    record {
      world = inside r.world;
      text = record { sections = xs; shift = unmoved; depth = r.text.depth - 1 };
      waiting = record { text = r.text; conds = r.world.conds } ∷ r.waiting;
    }
