-- What is told of tokens that are no comments: behind so many others, around a cut, and on the way outside brackets.
use Rattle.std.proofs.Common.{◌≡◌, ◌<◌, ◌⊎◌, ℕ, zero, suc, ◌+◌, Bool, true, false, not, ◌&&◌, Some, List, [], ◌∷◌}
use Rattle.std.proofs.Common.{length, Option}
use Rattle.std.specs.Prelude.{IsTrue, IsFalse, if◌then◌else◌, slice_get}
use Rattle.token_arena.specs.Gaps.{Contents}
use Rattle.token_classes.specs.declared.class.TokenClass.{TokenClass}
use Rattle.token_classes.specs.Classes.{is_word, is_opener, is_open_round, is_open_brace, is_semicolon, is_plain}
use Rattle.token_classes.specs.Classes.{is_assigning, is_before_list, is_close_round}
use Rattle.item_classes.specs.Viewed.{classes_of}
use Rattle.statement_lines.specs.declared.token.CodeToken.{CodeToken}
use Rattle.statement_lines.specs.declared.line.Line.{Line}
use Rattle.statement_lines.specs.declared.open.Open.{Open}
use Rattle.statement_lines.specs.declared.open.Start.{Start}
use Rattle.statement_lines.specs.declared.open.Start.TheVariants.{Fresh, Tail, Closing}
use Rattle.statement_lines.specs.Forms.{class_at, class_before, partner_in, partner_of}
use Rattle.statement_lines.specs.Tree.{whole_file}
use Rattle.unwrapped_lines.specs.Viewed.{code_tokens}
use Rattle.part_laws.specs.Declarations.{Before, Name, Parameters, Semicolon, Body, Between, Other, is_end, is_lost}
use Rattle.part_laws.specs.LinesCut.{partner_behind, partners_in}

-- ## Behind so many tokens

abbrev pub token_behind : ℕ → CodeToken → CodeToken
token_behind count token = record token { partner = partner_behind count token.partner }

abbrev pub code_line_behind : ℕ → Line → Line
code_line_behind count line = record line { first = count + line.first; end = count + line.end }

abbrev pub open_behind : ℕ → Open → Open
open_behind count list = record list { end = count + list.end }

abbrev pub start_behind : ℕ → Start → Start
start_behind count Fresh = Fresh
start_behind count Tail = Tail
start_behind count (Closing block) = Closing (open_behind count block)

-- ## Around a cut

-- the first of these tokens is a word that began its line
abbrev pub BeginsWord : List CodeToken → Type 0
BeginsWord [] = ⊥
BeginsWord (token ∷ tokens) = IsTrue (is_word token.class && token.began)

-- nothing follows, or such a word
abbrev pub IsCutBefore : List CodeToken → Type 0
IsCutBefore later = (later ≡ []) ⊎ BeginsWord later

-- a `{` behind these tokens opens no list of values
pub record IsCutBehind (earlier : List CodeToken) : Type 0 where
  pub list : IsFalse (is_before_list (class_before earlier (length earlier)))
  pub closes : IsFalse (is_close_round (class_before earlier (length earlier)))

-- ## The way outside brackets

-- what stands behind a token outside brackets, or behind the group that it opens; a comment isn't met
abbrev pub behind_opener : Bool → Before → TokenClass → Before
behind_opener assigned Name opener = if is_open_round opener then Parameters else Other
behind_opener assigned Parameters opener = if is_open_brace opener && not assigned then Body else Other
behind_opener assigned before opener = Other

abbrev pub behind_code : Bool → Before → TokenClass → Before
behind_code assigned before class =
    if is_opener class then behind_opener assigned before class
    else (if is_semicolon class then Semicolon
    else (if is_plain class then Name else Other))

-- an `=` or `return` stands behind the last `;`
abbrev pub assigned_behind : Bool → TokenClass → Bool
assigned_behind assigned class = if is_semicolon class then false else (if is_assigning class then true else assigned)

-- this holds behind a token, or behind the group that it opens and its partner closes
abbrev pub GoesBy : TokenClass → Option ℕ → ℕ → Before → Bool → (ℕ → Before → Bool → Type 0) → Type 0
GoesBy class partner at before assigned Next =
    (IsTrue (is_opener class)
    × ((closer : ℕ) × ((partner ≡ Some closer) × Next (closer + 1) (behind_code assigned before class) (assigned_behind assigned class))))
    ⊎ (IsFalse (is_opener class) × Next (at + 1) (behind_code assigned before class) (assigned_behind assigned class))

-- From a place outside brackets the way goes on, group by group, to the end of the list, behind a declaration: no control statement and no label
-- is met, and each group is closed.
abbrev pub Way : ℕ → List CodeToken → ℕ → ℕ → Before → Bool → Type 0
Way zero tokens end at before assigned = (at ≡ end) × IsTrue (is_end before)
Way (suc n) tokens end at before assigned =
    ((at ≡ end) × IsTrue (is_end before))
    ⊎ ((at < end) × (IsFalse (is_lost (class_at tokens at)) × GoesBy (class_at tokens at) (partner_in tokens end at) at before assigned (Way n tokens end)))

abbrev pub WayOn : List CodeToken → ℕ → ℕ → Before → Bool → Type 0
WayOn tokens end at before assigned = (n : ℕ) × Way n tokens end at before assigned

-- these tokens by themselves are a first part
abbrev pub ArePassed : List CodeToken → Type 0
ArePassed tokens = Way (length tokens) tokens (length tokens) 0 Between false

-- each `(` that has a partner has a `)`, which has it
abbrev pub ArePaired : List CodeToken → Type 0
ArePaired tokens = (i p : ℕ) → is_open_round (class_at tokens i) ≡ true → partner_in tokens (length tokens) i ≡ Some p
    → (is_close_round (class_at tokens p) ≡ true) × (partner_of (slice_get tokens p) ≡ Some i)

-- ## Tokens and lists

-- the tokens of items that are no comments
abbrev pub code_of : Contents → List ℕ → List CodeToken
code_of arena ids = code_tokens arena ids (classes_of arena ids) (partners_in arena ids)

-- the list of a file whose tokens end at a place
abbrev pub file_up_to : ℕ → Open
file_up_to end = record (whole_file []) { end = end }
