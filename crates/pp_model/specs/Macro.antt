-- Macros (C11 6.10.3), their bodies cut into parts, and the table of macros.
use Rattle.std.specs.Prelude.{ℕ, Bool, List, Option, find, bytes_eq}
use Rattle.pp_model.specs.Token.{Tok, Name}

-- A part of a body: a token; a parameter in whose place the expanded argument comes (6.10.3.1); one beside ##, in whose
-- place it comes as it is written (6.10.3.3p2); one behind #, in whose place it comes as a string (6.10.3.2).
pub data What : Type 0 where
  Word : Tok → What
  Full : ℕ → What
  Written : ℕ → What
  Quoted : ℕ → What

-- a part, whether white space stands before it, and whether ## does
pub record Part : Type 0 where
  pub what : What
  pub white : Bool
  pub glue : Bool

-- a macro: `arity` counts the named parameters, and a variadic one has `...` behind them (6.10.3p10)
pub record Macro : Type 0 where
  pub name : Name
  pub function_like : Bool
  pub arity : ℕ
  pub variadic : Bool
  pub body : List Part

-- the macros that are defined; the first entry of a name decides
abbrev pub Table : Type 0
Table = List Macro

-- the macro of this name
abbrev pub lookup : Table → Name → Option Macro
lookup table name = find (λ m. bytes_eq m.name name) table
