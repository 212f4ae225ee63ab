-- Conditions and open conditionals (C11 6.10.1).
use Rattle.std.specs.Prelude.{Bool, true, false, ◌&&◌, List, [], ◌∷◌, codes, is_some}
use Rattle.std.specs.List.{list_all}
use Rattle.pp_model.specs.Token.{Tok, Plain, is_text, text_of}
use Rattle.c_grammar.specs.Touch.{is_identifier}
use Rattle.item_kinds.specs.declared.ItemKind.TheVariants.{Number}
use Rattle.pp_model.specs.Macro.{Table, lookup}
use Rattle.pp_model.specs.Call.{opens, closes}

-- what was read of a `defined X` or `defined(X)` (6.10.1p1), and is held back until it is whole
pub data Held : Type 0 where
  Free : Held
  Asked : Tok → Held
  Opened : Tok → Tok → Held
  Named : Tok → Tok → Tok → Held

-- what is held back
abbrev pub held : Held → List Tok
held Free = []
held (Asked d) = d ∷ []
held (Opened d o) = d ∷ o ∷ []
held (Named d o x) = d ∷ o ∷ x ∷ []

-- the table has the token's name
abbrev pub is_defined : Table → Tok → Bool
is_defined table t = is_some (lookup table (text_of t.token))

-- 1 or 0 in the place of a `defined`
abbrev pub answer : Tok → Bool → Tok
answer d b =
    record {
      token = Plain (elim b [ true ↦ codes "1" | false ↦ codes "0" ]);
      kind = Number;
      hide = [];
      white = d.white;
      line = d.line;
    }

-- an identifier
abbrev pub is_name : Tok → Bool
is_name t = is_identifier t.kind

-- `defined`
abbrev pub asks : Tok → Bool
asks t = is_identifier t.kind && is_text (codes "defined") t

-- a condition with each `defined` answered by the table; one that isn't whole stays as it is written
abbrev pub resolve : Table → Held → List Tok → List Tok
resolve table h [] = held h
resolve table Free (t ∷ ts) = elim (asks t) [ true ↦ resolve table (Asked t) ts | false ↦ t ∷ resolve table Free ts ]
resolve table (Asked d) (t ∷ ts) =
    elim (is_name t) [
      | true ↦ answer d (is_defined table t) ∷ resolve table Free ts
      | false ↦ elim (opens t) [ true ↦ resolve table (Opened d t) ts | false ↦ d ∷ t ∷ resolve table Free ts ]
    ]
resolve table (Opened d o) (t ∷ ts) =
    elim (is_name t) [ true ↦ resolve table (Named d o t) ts | false ↦ d ∷ o ∷ t ∷ resolve table Free ts ]
resolve table (Named d o x) (t ∷ ts) =
    elim (closes t) [
      | true ↦ answer d (is_defined table x) ∷ resolve table Free ts
      | false ↦ d ∷ o ∷ x ∷ t ∷ resolve table Free ts
    ]

-- An open conditional: whether a branch was taken, whether the group is, whether an #else was read, and whether it
-- stands in a skipped group.
pub record Cond : Type 0 where
  pub taken : Bool
  pub active : Bool
  pub had_else : Bool
  pub skipped : Bool

-- every group around is taken
abbrev pub is_active : List Cond → Bool
is_active cs = list_all (λ c. c.active) cs

-- a conditional that begins with this answer
abbrev pub opened_cond : Bool → Cond
opened_cond b = record { taken = b; active = b; had_else = false; skipped = false }

-- one that begins in a skipped group, and is followed for nesting alone (6.10.1p6)
abbrev pub skipped_cond : Cond
skipped_cond = record { taken = true; active = false; had_else = false; skipped = true }
