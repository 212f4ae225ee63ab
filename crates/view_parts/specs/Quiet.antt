-- Tokens that tell nothing, and groups and bodies that are passed at once.
use Rattle.std.specs.Prelude.{◌≡◌, ◌<◌, ◌≤◌, ℕ, suc, ◌+◌, ◌-◌, nat_lt, Bool, true, false, ◌&&◌, ◌||◌, not, List, []}
use Rattle.std.specs.Prelude.{◌∷◌, get_or, if◌then◌else◌, replicate}
use Rattle.token_classes.specs.declared.class.TokenClass.{TokenClass}
use Rattle.token_classes.specs.declared.class.TokenClass.TheVariants.{OpenRound, OpenSquare, CloseSquare, OpenBrace}
use Rattle.token_classes.specs.declared.class.TokenClass.TheVariants.{CloseBrace}
use Rattle.token_classes.specs.Classes.{is_bracket, is_close_round, is_comment, is_control, is_semicolon}
use Rattle.part_walk.specs.declared.walk.Around.{Around}
use Rattle.part_walk.specs.declared.walk.Around.TheVariants as around
use Rattle.part_walk.specs.declared.walk.Walk.{Walk}
use Rattle.part_walk.specs.Walk.{is_label, is_record}
use Rattle.part_walk.specs.Steps.{may_end, opens_group, passed}
use Rattle.view_parts.specs.declared.groups.OpenKinds.{OpenKinds}

abbrev pub is_group : Around → Bool
is_group around.Group = true
is_group _ = false

-- a label holds the part's end
abbrev pub is_held : Walk → Bool
is_held walk = nat_lt 0 walk.last.held

-- a token of a body changes what is known by its class: where a label holds the part's end, a `;` does
abbrev pub is_telling : Bool → TokenClass → Bool
is_telling held class = is_label class || is_control class || is_record class || (held && is_semicolon class)

-- a token that tells nothing, by what it stands in
abbrev pub is_quiet : Around → Bool → TokenClass → Bool
is_quiet stands held class =
    not (is_bracket class) && not (is_comment class) && (is_group stands || not (is_telling held class))

-- from this token on so many in a row tell nothing, and the way goes on behind them
pub record PassesQuiet (all : List TokenClass) (stands : Around) (walk : Walk) (id n : ℕ) (next : Walk) : Type 0 where
  pub none : n ≡ 0 → next ≡ walk
  pub some : (m : ℕ) → (d : TokenClass) → n ≡ m + 1 →
      next ≡ passed walk stands (walk.place + m + 1) (id + m) (get_or all (id + m) d)
  pub never : 0 < n → may_end walk stands id ≡ false
  pub low : 0 < n → stands ≡ around.Body → walk.place + n ≤ 512
  pub quiet : (k : ℕ) → (d : TokenClass) → k < n → is_quiet stands (is_held walk) (get_or all (id + k) d) ≡ true

abbrev pub without_first : List TokenClass → List TokenClass
without_first [] = []
without_first (class ∷ classes) = classes

-- this bracket closes a `(` or `[`
abbrev pub closes_group : TokenClass → TokenClass → Bool
closes_group OpenRound closer = is_close_round closer
closes_group OpenSquare CloseSquare = true
closes_group opener closer = false

-- the openers of groups that wait behind a token, by their kinds, the innermost first
abbrev pub kinds_behind : List TokenClass → TokenClass → List TokenClass
kinds_behind kinds class =
    if opens_group class then class ∷ kinds else (if is_bracket class then without_first kinds else kinds)

-- in the innermost of these groups this token opens one or closes that, or tells nothing
abbrev pub stands_in : List TokenClass → TokenClass → Bool
stands_in [] class = false
stands_in (kind ∷ kinds) class =
    opens_group class || closes_group kind class || is_quiet around.Group false class

-- these tokens close such groups, and not before the last of them
abbrev pub ClosesGroup : List TokenClass → List TokenClass → Type 0
ClosesGroup kinds [] = kinds ≡ []
ClosesGroup kinds (class ∷ classes) = (stands_in kinds class ≡ true) × ClosesGroup (kinds_behind kinds class) classes

-- `[` or `]`
abbrev pub is_square : TokenClass → Bool
is_square OpenSquare = true
is_square CloseSquare = true
is_square _ = false

-- the kinds of the brackets that are open
abbrev pub kinds_in : OpenKinds → List TokenClass
kinds_in kinds =
    if kinds.square then OpenSquare ∷ replicate kinds.rounds OpenRound else replicate kinds.rounds OpenRound

-- so many braces are open behind this token
abbrev pub depth_behind : ℕ → TokenClass → ℕ
depth_behind depth OpenBrace = suc depth
depth_behind depth CloseBrace = depth - 1
depth_behind depth _ = depth

-- these tokens close so many braces, and not before the last of them
abbrev pub Closes : ℕ → List TokenClass → Type 0
Closes depth [] = depth ≡ 0
Closes depth (class ∷ classes) = (0 < depth) × Closes (depth_behind depth class) classes
