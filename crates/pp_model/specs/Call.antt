-- Whether a token begins a replacement (C11 6.10.3p9, p10), and the collection of a call's arguments (6.10.3p11, p12).
use Rattle.std.specs.Prelude.{ℕ, suc, ◌-◌, ◌+◌, nat_eq, Bool, true, false, not, ◌&&◌, ◌||◌, List, [], ◌∷◌, ◌++◌, length}
use Rattle.std.specs.Prelude.{Option, Some, None, option_and_then}
use Rattle.pp_model.specs.Token.{Tok, Name, is_text, is_in, common, text_of}
use Rattle.c_grammar.specs.Touch.{is_identifier}
use Rattle.pp_model.specs.Macro.{Macro, Table, lookup}

-- `(`
abbrev pub opens : Tok → Bool
opens t = is_text (40 ∷ []) t

-- `)`
abbrev pub closes : Tok → Bool
closes t = is_text (41 ∷ []) t

-- `,`
abbrev pub parts_args : Tok → Bool
parts_args t = is_text (44 ∷ []) t

-- the arguments of a call, what hides its `)`, and what follows it
pub record Actuals : Type 0 where
  pub args : List (List Tok)
  pub close : List Name
  pub after : List Tok

-- how many commas still part arguments: all, or those of the named parameters of a variadic macro
abbrev pub may_part : Option ℕ → Bool
may_part None = true
may_part (Some n) = not (nat_eq n 0)

-- after one comma more
abbrev pub one_less : Option ℕ → Option ℕ
one_less None = None
one_less (Some n) = Some (n - 1)

-- Reads up to the ) of the call (6.10.3p10, p11): brackets inside it keep commas together. `depth` brackets are open,
-- `args` are read, and `arg` is read of the next argument.
abbrev pub collect : Option ℕ → ℕ → List Tok → List (List Tok) → List Tok → Option Actuals
collect limit depth arg args [] = None
collect limit depth arg args (t ∷ ts) =
    elim (opens t) [
      | true ↦ collect limit (suc depth) (arg ++ t ∷ []) args ts
      | false ↦ elim (closes t) [
        | true ↦ elim (nat_eq depth 0) [
          | true ↦ Some record { args = args ++ arg ∷ []; close = t.hide; after = ts }
          | false ↦ collect limit (depth - 1) (arg ++ t ∷ []) args ts
        ]
        | false ↦ elim (parts_args t && (nat_eq depth 0 && may_part limit)) [
          | true ↦ collect (one_less limit) depth [] (args ++ arg ∷ []) ts
          | false ↦ collect limit depth (arg ++ t ∷ []) args ts
        ]
      ]
    ]

-- one argument without a token
abbrev pub no_tokens : List (List Tok) → Bool
no_tokens ([] ∷ []) = true
no_tokens _ = false

-- The number of arguments is right (6.10.3p4): one for each parameter and at least one for `...`; `F()` gives none to a
-- macro without parameters.
abbrev pub fits : Macro → List (List Tok) → Bool
fits m args =
    elim m.variadic [
      | true ↦ nat_eq (length args) (m.arity + 1)
      | false ↦ nat_eq (length args) m.arity || (nat_eq m.arity 0 && no_tokens args)
    ]

-- a replacement that begins: its macro, what will hide its result, the arguments, and what follows
pub record Begun : Type 0 where
  pub macro : Macro
  pub hide : List Name
  pub args : List (List Tok)
  pub after : List Tok

-- in a variadic macro the arguments behind the named ones are one, with their commas
abbrev pub limit_of : Macro → Option ℕ
limit_of m = elim m.variadic [ true ↦ Some m.arity | false ↦ None ]

-- A call hides its result by its own name, and by what hides both its name and its `)`.
abbrev pub with_actuals : Macro → Tok → Actuals → Option Begun
with_actuals m t a =
    elim (fits m a.args) [
      | true ↦ Some record { macro = m; hide = m.name ∷ common t.hide a.close; args = a.args; after = a.after }
      | false ↦ None
    ]

-- a function-like macro's name is a call only before `(`
abbrev pub begin_call : Macro → Tok → List Tok → Option Begun
begin_call m t [] = None
begin_call m t (u ∷ us) =
    elim (opens u) [ true ↦ option_and_then (with_actuals m t) (collect (limit_of m) 0 [] [] us) | false ↦ None ]

-- An object-like macro hides its result by its own name, and by what hides that name.
abbrev pub begin_macro : Tok → List Tok → Macro → Option Begun
begin_macro t ts m =
    elim m.function_like [
      | true ↦ begin_call m t ts
      | false ↦ Some record { macro = m; hide = m.name ∷ t.hide; args = []; after = ts }
    ]

-- the macro that a token names: an identifier that its own hide set doesn't have
abbrev pub named : Table → Tok → Option Macro
named table t =
    elim (is_identifier t.kind && not (is_in (text_of t.token) t.hide))
    [ true ↦ lookup table (text_of t.token) | false ↦ None ]

-- the replacement that begins with this token before these
abbrev pub begin : Table → Tok → List Tok → Option Begun
begin table t ts = option_and_then (begin_macro t ts) (named table t)
