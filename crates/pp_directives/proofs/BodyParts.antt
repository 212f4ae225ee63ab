-- The parts of a body that is read from its front.
use Rattle.std.proofs.Common.{◌≡◌, ℕ, ◌<◌, Bool, true, false, List, [], ◌∷◌, ◌++◌, length, get_or, map, Option, Some, None, refl, ap, sym, ◌∙◌, append_assoc, arith}
use Rattle.std.specs.Prelude.{◌&&◌, ◌||◌, option_map}
use Rattle.std.proofs.lemmas.List.{append-nil}
use Rattle.pp_model.specs.Token.{Tok, Name}
use Rattle.pp_model.specs.Macro.{Part}
use Rattle.pp_model.specs.Define.{Before, Nothing, Item, Paste, Hash, parts_of_body, and_part, is_paste, is_hash, is_item_before, is_paste_before, what_of, paste_next, param_of, Params, all_names, with_body, function_of}
use Rattle.pp_events.specs.View.{tok_shown}
use Rattle.pp_events.specs.declared.token.Tok.{Tok as TokValue}
use Rattle.pp_directives.specs.Body.{behind, is_hash_before}

-- the parts from a token on that is behind no #
abbrev pub plain_parts : List Name → Bool → Before → Tok → List Tok → Option (List Part)
plain_parts names function_like before t ts =
    elim (is_paste t) [
      | true ↦ elim (is_item_before before) [ true ↦ parts_of_body names function_like Paste ts | false ↦ None ]
      | false ↦ elim (function_like && is_hash t) [
        | true ↦ parts_of_body names function_like (Hash (is_paste_before before) t.white) ts
        | false ↦ and_part
            (record { what = what_of (is_paste_before before || paste_next ts) t (param_of names t); white = t.white; glue = is_paste_before before })
            (parts_of_body names function_like Item ts)
      ]
    ]

pub plain_body : (names : List Name) (fl : Bool) (before : Before) (t : Tok) (ts : List Tok) → is_hash_before before ≡ false → parts_of_body names fl before (t ∷ ts) ≡ plain_parts names fl before t ts
plain_body names fl Nothing t ts h = refl
plain_body names fl Item t ts h = refl
plain_body names fl Paste t ts h = refl
plain_body names fl (Hash glue white) t ts h = cc

pub behind_part : (ps : List Part) (p : Part) (r : Option (List Part)) → behind ps (and_part p r) ≡ behind (ps ++ p ∷ []) r
behind_part ps p None = refl
behind_part ps p (Some qs) = ap Some (sym (append_assoc ps (p ∷ []) qs))

pub behind_nothing : (ps : List Part) → behind ps (Some []) ≡ Some ps
behind_nothing ps = ap Some (append-nil ps)

pub nothing_behind : (r : Option (List Part)) → behind [] r ≡ r
nothing_behind None = refl
nothing_behind (Some qs) = refl

pub paste_in_front : (ts : List TokValue) (t : TokValue) → 0 < length ts → t ≡ get_or ts 0 t → paste_next (map tok_shown ts) ≡ is_paste (tok_shown t)
paste_in_front [] t n e = absurd (omega arith)
paste_in_front (u ∷ us) t n e = ap (λ x. is_paste (tok_shown x)) (sym e)

pub no_paste_next : (ts : List TokValue) → length ts ≡ 0 → paste_next (map tok_shown ts) ≡ false
no_paste_next [] n = refl
no_paste_next (u ∷ us) n = absurd (omega arith)

-- a macro by its parameters' names and its parts
pub function_by : (name : Name) (p : Params) (names : List Name) (n : ℕ) → names ≡ all_names p → n ≡ length p.names → option_map (with_body name true n p.variadic) (parts_of_body names true Nothing p.body) ≡ function_of name p
function_by name p names n e l =
    ap (λ k. option_map (with_body name true k p.variadic) (parts_of_body names true Nothing p.body)) l
    ∙ ap (λ ns. option_map (with_body name true (length p.names) p.variadic) (parts_of_body ns true Nothing p.body)) e
