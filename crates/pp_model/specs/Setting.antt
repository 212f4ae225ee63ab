-- What a text is preprocessed with: the macros that are defined from the start, the texts that includes find, the
-- answers to conditions, how deep includes go, and how many turns of expansion there are.
use Rattle.std.specs.Prelude.{ℕ, Bool, true, false, not, ◌&&◌, ◌||◌, List, [], ◌∷◌, map, length, filter_map, codes}
use Rattle.std.specs.Prelude.{Option, Some, None, option_map, unwrap_or}
use Rattle.c_chars.specs.declared.Dialect.{Dialect}
use Rattle.item_kinds.specs.declared.ItemKind.{ItemKind}
use Rattle.item_kinds.specs.declared.ItemKind.TheVariants.{Other}
use Rattle.pp_model.specs.Token.{PpToken, Plain, erase, Tok, Name, is_in, list_eq}
use Rattle.pp_model.specs.Macro.{Macro, Table}
use Rattle.pp_model.specs.Replace.{Reader}
use Rattle.pp_model.specs.Define.{parts_of_body, Nothing, all_names, with_body, is_kept_name}
use Rattle.pp_model.specs.Finding.{kind_of}
use Rattle.pp_model.specs.Stream.{source_of}
use Rattle.pp_model.specs.Preprocess.{Event, preprocess}

-- a token of a macro's body, and whether white space stands before it
pub record Spaced : Type 0 where
  pub token : PpToken
  pub white : Bool

-- a macro; the parameters and `variadic` count for a function-like one alone
pub record MacroDef : Type 0 where
  pub name : Name
  pub function_like : Bool
  pub params : List Name
  pub variadic : Bool
  pub body : List Spaced

-- the bytes that an include of this operand finds
pub record IncludeText : Type 0 where
  pub key : List PpToken
  pub bytes : List ℕ

-- whether a condition of these tokens, expanded, holds
pub record Condition : Type 0 where
  pub key : List PpToken
  pub holds : Bool

-- A setting. A depth or a number of turns of 0 is none left.
pub record Setting : Type 0 where
  pub macros : List MacroDef
  pub includes : List IncludeText
  pub conditions : List Condition
  pub depth : ℕ
  pub turns : ℕ

-- the kind of a setting's token
abbrev pub kind_by : Reader → PpToken → ItemKind
kind_by read (Plain s) = unwrap_or (read s) Other
kind_by read _ = Other

-- a body's token before any expansion
abbrev pub tok_by : Reader → Spaced → Tok
tok_by read t = record { token = t.token; kind = kind_by read t.token; hide = []; white = t.white; line = 0 }

-- no name stands twice
abbrev pub are_different : List Name → Bool
are_different [] = true
are_different (x ∷ xs) = not (is_in x xs) && are_different xs

-- The name may be defined, and the parameters may stand in a list (6.10.3p6, 6.10.3p5, 6.10.8p4).
abbrev pub is_allowed : MacroDef → Bool
is_allowed d = not (is_kept_name d.name) && (not d.function_like || are_different (codes "__VA_ARGS__" ∷ d.params))

-- the names that stand for arguments in the body
abbrev pub parameters : MacroDef → List Name
parameters d =
    elim d.function_like
    [ true ↦ all_names (record { names = d.params; variadic = d.variadic; body = [] }) | false ↦ [] ]

-- the macro of a definition; none where 6.10.3 doesn't allow it
abbrev pub macro_by : Reader → MacroDef → Option Macro
macro_by read d =
    elim (is_allowed d) [
      | true ↦
          option_map (with_body d.name d.function_like (length d.params) (d.function_like && d.variadic))
          (parts_of_body (parameters d) d.function_like Nothing (map (tok_by read) d.body))
      | false ↦ None
    ]

-- the table at the start
abbrev pub table_by : Reader → List MacroDef → Table
table_by read ds = filter_map (macro_by read) ds

-- the first entry of a key decides; keys are compared after Erase
abbrev pub find_text : List IncludeText → List PpToken → Option (List ℕ)
find_text [] k = None
find_text (i ∷ is) k = elim (list_eq (map erase i.key) k) [ true ↦ Some i.bytes | false ↦ find_text is k ]

-- an absent condition is false
abbrev pub holds_in : List Condition → List PpToken → Bool
holds_in [] k = false
holds_in (c ∷ cs) k = elim (list_eq (map erase c.key) k) [ true ↦ c.holds | false ↦ holds_in cs k ]

-- The events of a text under a setting: what translation phases 1 to 4 make of it (5.1.1.2).
abbrev pub Preprocess : Dialect → Setting → List ℕ → List Event
Preprocess d s text =
    preprocess (kind_of d) (holds_in s.conditions) (λ k. option_map (source_of d) (find_text s.includes k)) s.depth
    (table_by (kind_of d) s.macros) s.turns (source_of d text)
