-- Lines that cut the tokens, and what the code's stack of open lists stands for, the innermost first.
use Rattle.std.specs.Prelude.{ℕ, ◌+◌, ◌-◌, ◌*◌, ◌<◌, ◌≤◌, ◌≡◌, Bool, true, false, List, [], ◌∷◌, ◌++◌, length, Option}
use Rattle.std.specs.Prelude.{Some, None}
use Rattle.statement_lines.specs.declared.token.CodeToken.{CodeToken}
use Rattle.statement_lines.specs.declared.line.Line.{Line}
use Rattle.statement_lines.specs.declared.braces.Braces.{Braces}
use Rattle.statement_lines.specs.declared.open.Open.{Open}
use Rattle.statement_lines.specs.declared.open.Start.{Start}
use Rattle.statement_lines.specs.declared.open.Start.TheVariants.{Fresh, Closing}
use Rattle.statement_lines.specs.declared.form.Form.{Form}
use Rattle.statement_lines.specs.declared.form.Next.{Next}
use Rattle.statement_lines.specs.declared.form.Next.TheVariants.{Ends, Goes, Waits, Opens}
use Rattle.statement_lines.specs.Forms.{IsLow}
use Rattle.statement_lines.specs.Tree.{body_of, end_level_from, end_level, head_lines, line_of, lines_from, lines_of}
use Rattle.statement_lines.specs.Tree.{settled}

-- ## Lines that cut the tokens

-- the lines cut the tokens from `a` to before `b` whole and in order
abbrev pub IsCut : ℕ → ℕ → List Line → Type 0
IsCut a b [] = a ≡ b
IsCut a b (l ∷ ls) = (l.first ≡ a) × ((a < l.end) × IsCut l.end b ls)

-- ## The stack

-- the innermost list: its headers that wait, and itself
abbrev pub current : List Open → List Open
current [] = []
current (o ∷ os) = o ∷ elim o.block [ true ↦ [] | false ↦ current os ]

-- the innermost block, and what stands below it
pub record Left : Type 0 where
  pub block : Open
  pub below : List Open

abbrev pub left : List Open → Option Left
left [] = None
left (o ∷ os) = elim o.block [ true ↦ Some (record { block = o; below = os }) | false ↦ left os ]

-- what follows the innermost list are these lines
abbrev pub Rest : Braces → List CodeToken → List Open → List Line → Type 0
Rest braces tokens [] ls = ls ≡ []
Rest braces tokens (o ∷ os) ls =
    elim o.block [
      | false ↦ Rest braces tokens os ls
      | true ↦ (n : ℕ)
          × ((later : List Line)
          × ((length tokens - o.end ≤ n)
          × (Rest braces tokens os later
          × (ls ≡ lines_from n braces tokens (current os) (Closing o) o.end ++ later))))
    ]

-- the lines so far, and those that are to come, are all lines
pub record Reads (braces : Braces) (tokens : List CodeToken) (out : List Line) (os : List Open) (start : Start)
    (at : ℕ) : Type 0 where
  pub fuel : ℕ
  pub rest : List Line
  pub enough : length tokens - at ≤ fuel
  pub follows : Rest braces tokens os rest
  pub same : out ++ (lines_from fuel braces tokens (current os) start at ++ rest) ≡ lines_of braces tokens

-- the statement of a header stands in a list with the same end
abbrev pub IsMore : Bool → ℕ → List Open → Type 0
IsMore true e os = Unit {0}
IsMore false e [] = ⊥
IsMore false e (o ∷ os) = e ≡ o.end

-- Each list ends where or before the one below it does, the last behind the last token; levels are low.
abbrev pub Fits : ℕ → ℕ → ℕ → List Open → Type 0
Fits whole at e [] = e ≡ whole
Fits whole at e (o ∷ os) =
    (e ≤ o.end)
    × ((o.level ≤ 2 * at)
    × ((o.case_level ≤ 2 * at) × ((o.head_level ≤ 2 * at) × (IsMore o.block o.end os × Fits whole at o.end os))))

-- all that holds between two lines
pub record Stands (braces : Braces) (tokens : List CodeToken) (out : List Line) (os : List Open) (start : Start)
    (at : ℕ) : Type 0 where
  pub reads : Reads braces tokens out os start at
  pub fits : Fits (length tokens) at at os
  pub low : IsLow at start
  pub cut : IsCut 0 at out

-- ## The end of the tokens

-- each of these lists is open to the last token, and its levels are low
abbrev pub OpenToEnd : ℕ → ℕ → List Open → Type 0
OpenToEnd whole at [] = Unit {0}
OpenToEnd whole at (o ∷ os) = (o.end ≡ whole) × ((o.level ≤ 2 * at) × ((o.case_level ≤ 2 * at) × OpenToEnd whole at os))

-- what is left to read from here has the end's level
pub record LeadsToEnd (braces : Braces) (tokens : List CodeToken) (os : List Open) (start : Start) (at : ℕ) : Type 0
  where
    pub fuel : ℕ
    pub enough : length tokens - at < fuel
    pub same : end_level_from fuel braces tokens os start at ≡ end_level braces tokens
    pub open_lists : OpenToEnd (length tokens) at os
    pub low : IsLow at start

-- ## Lines within a list

-- a line of this list after which this begins leaves all open lists as they are
abbrev pub LeavesOpen : Open → Next → Start → Type 0
LeavesOpen o Ends s = (o.block ≡ true) × (s ≡ Fresh)
LeavesOpen o (Goes g) s = s ≡ g
LeavesOpen o (Waits h) s = ⊥
LeavesOpen o (Opens wrapped b) s = ⊥

-- the lines of a form
abbrev pub form_lines : Open → Start → ℕ → Form → Next → List Line
form_lines o start at f Ends = line_of o start at f ∷ []
form_lines o start at f (Goes s) = line_of o start at f ∷ []
form_lines o start at f (Waits h) = line_of o start at f ∷ []
form_lines o start at f (Opens wrapped b) = head_lines o start at f wrapped

-- Behind a line of the list `o` these lists are open in place of those, and this begins at this place.
abbrev pub GoesBehind : List CodeToken → Open → Form → List Open → List Open → Start → ℕ → Next → Type 0
GoesBehind tokens o f os opens s at Ends =
    (settled tokens f.end os ≡ record { opens = opens; start = s }) × (at ≡ f.end)
GoesBehind tokens o f os opens s at (Goes g) = (opens ≡ os) × ((s ≡ g) × (at ≡ f.end))
GoesBehind tokens o f os opens s at (Waits h) =
    (opens ≡ body_of o h f.level ∷ os) × ((s ≡ Fresh) × (at ≡ f.end))
GoesBehind tokens o f os opens s at (Opens wrapped b) = (opens ≡ b ∷ os) × ((s ≡ Fresh) × (at ≡ f.end + 1))
