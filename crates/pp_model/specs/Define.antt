-- How the operand of a define directive is read (C11 6.10.3): the name, the parameters, and the body cut into parts.
use Rattle.std.specs.Prelude.{ℕ, zero, suc, Bool, true, false, not, ◌&&◌, ◌||◌, List, [], ◌∷◌, ◌++◌, length, codes}
use Rattle.std.specs.Prelude.{Option, Some, None, option_map, option_and_then, bytes_eq}
use Rattle.pp_model.specs.Token.{Tok, Name, is_text, is_in, text_of}
use Rattle.c_grammar.specs.Touch.{is_identifier}
use Rattle.pp_model.specs.Macro.{Macro, Part, What, Word, Full, Written, Quoted}
use Rattle.pp_model.specs.Call.{closes, parts_args}

-- `#` or its digraph
abbrev pub is_hash : Tok → Bool
is_hash t = is_text (35 ∷ []) t || is_text (37 ∷ 58 ∷ []) t

-- `##` or its digraph
abbrev pub is_paste : Tok → Bool
is_paste t = is_text (35 ∷ 35 ∷ []) t || is_text (37 ∷ 58 ∷ 37 ∷ 58 ∷ []) t

-- `...`
abbrev pub is_dots : Tok → Bool
is_dots t = is_text (46 ∷ 46 ∷ 46 ∷ []) t

-- an identifier
abbrev pub is_name : Tok → Bool
is_name t = is_identifier t.kind

-- names that are never defined nor undefined (6.10.8p4, 6.10.3p5)
abbrev pub is_kept_name : Name → Bool
is_kept_name s = is_in s (codes "defined" ∷ codes "__LINE__" ∷ codes "__VA_ARGS__" ∷ [])

-- Where a parameter list is read (6.10p1): behind its (, where a name, ... or ) may follow; behind a name, where a
-- comma or ) may; behind a comma, where a name or ... may; behind ..., where ) may.
pub data Place : Type 0 where
  AfterOpen : Place
  AfterName : Place
  AfterComma : Place
  AfterDots : Place

-- the parameters, whether ... follows them, and what is behind the )
pub record Params : Type 0 where
  pub names : List Name
  pub variadic : Bool
  pub body : List Tok

-- a name or ... may follow
abbrev pub may_name : Place → Bool
may_name AfterOpen = true
may_name AfterComma = true
may_name _ = false

-- ) may follow
abbrev pub may_end : Place → Bool
may_end AfterComma = false
may_end _ = true

-- a comma may follow
abbrev pub may_go_on : Place → Bool
may_go_on AfterName = true
may_go_on _ = false

-- behind ...
abbrev pub is_after_dots : Place → Bool
is_after_dots AfterDots = true
is_after_dots _ = false

-- The parameter list, from this place on, behind these names. Each name is another one, and none is `__VA_ARGS__`
-- (6.10.3p5, p6).
abbrev pub params_of : List Name → Place → List Tok → Option Params
params_of names place [] = None
params_of names place (t ∷ ts) =
    elim (closes t && may_end place) [
      | true ↦ Some record { names = names; variadic = is_after_dots place; body = ts }
      | false ↦ elim (parts_args t && may_go_on place) [
        | true ↦ params_of names AfterComma ts
        | false ↦ elim (is_dots t && may_name place) [
          | true ↦ params_of names AfterDots ts
          | false ↦
              elim (is_name t && (may_name place && not (is_in (text_of t.token) (codes "__VA_ARGS__" ∷ names)))) [
                | true ↦ params_of (names ++ text_of t.token ∷ []) AfterName ts
                | false ↦ None
              ]
        ]
      ]
    ]

-- where a name stands among these
abbrev pub index_of : Name → List Name → Option ℕ
index_of s [] = None
index_of s (x ∷ xs) = elim (bytes_eq s x) [ true ↦ Some zero | false ↦ option_map suc (index_of s xs) ]

-- the parameter that a token of the body names
abbrev pub param_of : List Name → Tok → Option ℕ
param_of names t = elim (is_name t) [ true ↦ index_of (text_of t.token) names | false ↦ None ]

-- ## is next
abbrev pub paste_next : List Tok → Bool
paste_next [] = false
paste_next (t ∷ ts) = is_paste t

-- a parameter beside ## takes its argument as written
abbrev pub what_of : Bool → Tok → Option ℕ → What
what_of beside t None = Word t
what_of true t (Some i) = Written i
what_of false t (Some i) = Full i

-- what was read of a body last: nothing yet; an item; ##; a #, with what stands before it
pub data Before : Type 0 where
  Nothing : Before
  Item : Before
  Paste : Before
  Hash : (glue white : Bool) → Before

-- behind ##
abbrev pub is_paste_before : Before → Bool
is_paste_before Paste = true
is_paste_before _ = false

-- behind an item
abbrev pub is_item_before : Before → Bool
is_item_before Item = true
is_item_before _ = false

-- a body ends neither in ## (6.10.3.3p1) nor in a # that wants a parameter (6.10.3.2p1)
abbrev pub ends_body : Before → Option (List Part)
ends_body Nothing = Some []
ends_body Item = Some []
ends_body Paste = None
ends_body (Hash glue white) = None

-- with this part before them
abbrev pub and_part : Part → Option (List Part) → Option (List Part)
and_part p ps = option_map (λ qs. p ∷ qs) ps

-- a string of a parameter; # before anything else is malformed
abbrev pub quoted_part : Bool → Bool → Option ℕ → Option (List Part) → Option (List Part)
quoted_part glue white None ps = None
quoted_part glue white (Some i) ps = and_part (record { what = Quoted i; white = white; glue = glue }) ps

-- The parts of a body, or none where it is malformed: ## stands between two items (6.10.3.3p1), and in a function-like
-- macro # stands before a parameter (6.10.3.2p1).
abbrev pub parts_of_body : List Name → Bool → Before → List Tok → Option (List Part)
parts_of_body names function_like before [] = ends_body before
parts_of_body names function_like (Hash glue white) (t ∷ ts) =
    quoted_part glue white (param_of names t) (parts_of_body names function_like Item ts)
parts_of_body names function_like before (t ∷ ts) =
    elim (is_paste t) [
      | true ↦ elim (is_item_before before) [ true ↦ parts_of_body names function_like Paste ts | false ↦ None ]
      | false ↦ elim (function_like && is_hash t) [
        | true ↦ parts_of_body names function_like (Hash (is_paste_before before) t.white) ts
        | false ↦ and_part
            (record {
              what = what_of (is_paste_before before || paste_next ts) t (param_of names t);
              white = t.white;
              glue = is_paste_before before;
            })
            (parts_of_body names function_like Item ts)
      ]
    ]

-- the names of the parameters, `__VA_ARGS__` among them in a variadic macro (6.10.3.1p2)
abbrev pub all_names : Params → List Name
all_names p = elim p.variadic [ true ↦ p.names ++ codes "__VA_ARGS__" ∷ [] | false ↦ p.names ]

-- the macro of a name, its parameters and a body
abbrev pub with_body : Name → Bool → ℕ → Bool → List Part → Macro
with_body name function_like arity variadic body =
    record { name = name; function_like = function_like; arity = arity; variadic = variadic; body = body }

-- a function-like macro of these parameters
abbrev pub function_of : Name → Params → Option Macro
function_of name p =
    option_map (with_body name true (length p.names) p.variadic) (parts_of_body (all_names p) true Nothing p.body)

-- what is read behind the name where ( follows it directly
abbrev pub after_paren : Name → List Tok → Option Macro
after_paren name [] = None
after_paren name (t ∷ ts) = option_and_then (function_of name) (params_of [] AfterOpen ts)

-- an object-like macro
abbrev pub object_of : Name → List Tok → Option Macro
object_of name ts = option_map (with_body name false 0 false) (parts_of_body [] false Nothing ts)

-- the macro of a define directive's operand; none where it is malformed
abbrev pub define_of : Bool → List Tok → Option Macro
define_of function_like [] = None
define_of function_like (t ∷ ts) =
    elim (is_name t && not (is_kept_name (text_of t.token))) [
      | true ↦ elim function_like [ true ↦ after_paren (text_of t.token) ts | false ↦ object_of (text_of t.token) ts ]
      | false ↦ None
    ]
