-- A define directive and a condition are read alike from blank tokens.
use Rattle.std.proofs.Common.{◌≡◌, ℕ, Bool, true, false, not, ◌&&◌, ◌||◌, List, [], ◌∷◌, ◌++◌, map, length, Option, Some, None, option_map, option_and_then, refl, sym, ap, ◌∙◌}
use Rattle.std.specs.Prelude.{codes, is_some, bytes_eq}
use Rattle.pp_model.specs.Token.{Tok, Name, text_of, is_in}
use Rattle.pp_model.specs.Macro.{Macro, Table, lookup, Part, Quoted}
use Rattle.pp_model.specs.Call.{opens, closes, parts_args}
use Rattle.pp_model.specs.Define.{is_hash, is_paste, is_dots, is_name, is_kept_name, Place, AfterOpen, AfterName, AfterComma, AfterDots, Params, may_name, may_end, may_go_on, params_of, param_of, index_of, paste_next, what_of, Before, Nothing, Item, Paste, Hash, and_part, quoted_part, parts_of_body, all_names, with_body, function_of, after_paren, object_of, define_of}
use Rattle.pp_model.specs.Condition.{Held, Free, Asked, Opened, Named, is_defined, asks, answer, resolve}
use Rattle.pp_model.proofs.Blank.{if-map, if-test, by_text, and_then-map, text_of-erase, lookup-blank}
use Rattle.pp_model.proofs.Blanks.{blank, blank_macro, blank_part, blank_what}

abbrev pub blank_params : Params → Params
blank_params p = record { names = p.names; variadic = p.variadic; body = map blank p.body }

params_of-blank : (names : List Name) (place : Place) (ts : List Tok) → option_map blank_params (params_of names place ts) ≡ params_of names place (map blank ts)
params_of-blank names place [] = refl
params_of-blank names place (t ∷ ts) =
    let f : Option Params → Option Params = option_map blank_params in
    if-test f _ (closes (blank t) && may_end place) (by_text (λ s. bytes_eq s (41 ∷ []) && may_end place) t) refl
    (if-test f _ (parts_args (blank t) && may_go_on place) (by_text (λ s. bytes_eq s (44 ∷ []) && may_go_on place) t) (params_of-blank names AfterComma ts)
    (if-test f _ (is_dots (blank t) && may_name place) (by_text (λ s. bytes_eq s (46 ∷ 46 ∷ 46 ∷ []) && may_name place) t) (params_of-blank names AfterDots ts)
    (if-test f (is_name t && (may_name place && not (is_in (text_of t.token) (codes "__VA_ARGS__" ∷ names)))) _
    (by_text (λ s. is_name t && (may_name place && not (is_in s (codes "__VA_ARGS__" ∷ names)))) t)
    (params_of-blank (names ++ text_of t.token ∷ []) AfterName ts ∙ sym (by_text (λ s. params_of (names ++ s ∷ []) AfterName (map blank ts)) t))
    refl)))

paste_next-blank : (ts : List Tok) → paste_next (map blank ts) ≡ paste_next ts
paste_next-blank [] = refl
paste_next-blank (t ∷ ts) = rw text_of-erase refl

what_of-blank : (beside : Bool) (t : Tok) (i : Option ℕ) → blank_what (what_of beside t i) ≡ what_of beside (blank t) i
what_of-blank beside t None = refl
what_of-blank true t (Some i) = refl
what_of-blank false t (Some i) = refl

and_part-blank : (p : Part) (ps : Option (List Part)) → option_map (map blank_part) (and_part p ps) ≡ and_part (blank_part p) (option_map (map blank_part) ps)
and_part-blank p None = refl
and_part-blank p (Some ps) = refl

quoted_part-blank : (glue white : Bool) (i : Option ℕ) (ps : Option (List Part)) → option_map (map blank_part) (quoted_part glue white i ps) ≡ quoted_part glue false i (option_map (map blank_part) ps)
quoted_part-blank glue white None ps = refl
quoted_part-blank glue white (Some i) ps = and_part-blank (record { what = Quoted i; white = white; glue = glue }) ps

abbrev pub blank_before : Before → Before
blank_before Nothing = Nothing
blank_before Item = Item
blank_before Paste = Paste
blank_before (Hash glue white) = Hash glue false

param_of-blank : (names : List Name) (t : Tok) → param_of names (blank t) ≡ param_of names t
param_of-blank names t = by_text (λ s. let r : Option ℕ = elim (is_name t) [ true ↦ index_of s names | false ↦ None ] in r) t

is_paste-blank : (t : Tok) → is_paste (blank t) ≡ is_paste t
is_paste-blank t = by_text (λ s. bytes_eq s (35 ∷ 35 ∷ []) || bytes_eq s (37 ∷ 58 ∷ 37 ∷ 58 ∷ [])) t

is_hash-blank : (t : Tok) → is_hash (blank t) ≡ is_hash t
is_hash-blank t = by_text (λ s. bytes_eq s (35 ∷ []) || bytes_eq s (37 ∷ 58 ∷ [])) t

-- a part that is a token or a parameter
word-blank : (names : List Name) (glue beside beside' : Bool) (t : Tok) (ps qs : Option (List Part)) → beside ≡ beside' → option_map (map blank_part) ps ≡ qs → option_map (map blank_part) (and_part (record { what = what_of beside t (param_of names t); white = t.white; glue = glue }) ps) ≡ and_part (record { what = what_of beside' (blank t) (param_of names (blank t)); white = false; glue = glue }) qs
word-blank names glue beside beside' t ps qs b e =
    let p : Part = record { what = what_of beside t (param_of names t); white = t.white; glue = glue } in
    and_part-blank p ps
    ∙ ap (λ w. and_part (record { what = w; white = false; glue = glue }) (option_map (map blank_part) ps)) (what_of-blank beside t (param_of names t))
    ∙ ap (λ i. and_part (record { what = what_of beside (blank t) i; white = false; glue = glue }) (option_map (map blank_part) ps)) (sym (param_of-blank names t))
    ∙ ap (λ c. and_part (record { what = what_of c (blank t) (param_of names (blank t)); white = false; glue = glue }) (option_map (map blank_part) ps)) b
    ∙ ap (and_part (record { what = what_of beside' (blank t) (param_of names (blank t)); white = false; glue = glue })) e

parts_of_body-blank : (names : List Name) (fl : Bool) (before : Before) (ts : List Tok) → option_map (map blank_part) (parts_of_body names fl before ts) ≡ parts_of_body names fl (blank_before before) (map blank ts)
parts_of_body-blank names fl Nothing [] = refl
parts_of_body-blank names fl Item [] = refl
parts_of_body-blank names fl Paste [] = refl
parts_of_body-blank names fl (Hash glue white) [] = refl
parts_of_body-blank names fl (Hash glue white) (t ∷ ts) =
    quoted_part-blank glue white (param_of names t) (parts_of_body names fl Item ts)
    ∙ ap (quoted_part glue false (param_of names t)) (parts_of_body-blank names fl Item ts)
    ∙ ap (λ i. quoted_part glue false i (parts_of_body names fl Item (map blank ts))) (sym (param_of-blank names t))
parts_of_body-blank names fl Nothing (t ∷ ts) =
    if-test (option_map (map blank_part)) _ (is_paste (blank t)) (is_paste-blank t) refl
    (if-test (option_map (map blank_part)) _ (fl && is_hash (blank t)) (ap (λ b. fl && b) (is_hash-blank t)) (parts_of_body-blank names fl (Hash false t.white) ts)
    (word-blank names false _ _ t (parts_of_body names fl Item ts) _ (sym (paste_next-blank ts)) (parts_of_body-blank names fl Item ts)))
parts_of_body-blank names fl Item (t ∷ ts) =
    if-test (option_map (map blank_part)) _ (is_paste (blank t)) (is_paste-blank t) (parts_of_body-blank names fl Paste ts)
    (if-test (option_map (map blank_part)) _ (fl && is_hash (blank t)) (ap (λ b. fl && b) (is_hash-blank t)) (parts_of_body-blank names fl (Hash false t.white) ts)
    (word-blank names false _ _ t (parts_of_body names fl Item ts) _ (sym (paste_next-blank ts)) (parts_of_body-blank names fl Item ts)))
parts_of_body-blank names fl Paste (t ∷ ts) =
    if-test (option_map (map blank_part)) _ (is_paste (blank t)) (is_paste-blank t) refl
    (if-test (option_map (map blank_part)) _ (fl && is_hash (blank t)) (ap (λ b. fl && b) (is_hash-blank t)) (parts_of_body-blank names fl (Hash true t.white) ts)
    (word-blank names true true true t (parts_of_body names fl Item ts) _ refl (parts_of_body-blank names fl Item ts)))

with_body-blank : (name : Name) (fl : Bool) (arity : ℕ) (variadic : Bool) (ps : Option (List Part)) → option_map blank_macro (option_map (with_body name fl arity variadic) ps) ≡ option_map (with_body name fl arity variadic) (option_map (map blank_part) ps)
with_body-blank name fl arity variadic None = refl
with_body-blank name fl arity variadic (Some ps) = refl

function_of-blank : (name : Name) (p : Params) → option_map blank_macro (function_of name p) ≡ function_of name (blank_params p)
function_of-blank name p =
    with_body-blank name true (length p.names) p.variadic (parts_of_body (all_names p) true Nothing p.body)
    ∙ ap (option_map (with_body name true (length p.names) p.variadic)) (parts_of_body-blank (all_names p) true Nothing p.body)

after_paren-blank : (name : Name) (ts : List Tok) → option_map blank_macro (after_paren name ts) ≡ after_paren name (map blank ts)
after_paren-blank name [] = refl
after_paren-blank name (t ∷ ts) =
    and_then-map blank_params blank_macro (function_of name) (function_of name) (function_of-blank name) (params_of [] AfterOpen ts)
    ∙ ap (option_and_then (function_of name)) (params_of-blank [] AfterOpen ts)

object_of-blank : (name : Name) (ts : List Tok) → option_map blank_macro (object_of name ts) ≡ object_of name (map blank ts)
object_of-blank name ts =
    with_body-blank name false 0 false (parts_of_body [] false Nothing ts)
    ∙ ap (option_map (with_body name false 0 false)) (parts_of_body-blank [] false Nothing ts)

pub define_of-blank : (fl : Bool) (ts : List Tok) → option_map blank_macro (define_of fl ts) ≡ define_of fl (map blank ts)
define_of-blank fl [] = refl
define_of-blank fl (t ∷ ts) =
    if-test (option_map blank_macro) _ (is_name t && not (is_kept_name (text_of (blank t).token))) (by_text (λ s. is_name t && not (is_kept_name s)) t)
    (if-map (option_map blank_macro) fl (after_paren-blank (text_of t.token) ts) (object_of-blank (text_of t.token) ts)
    ∙ sym (by_text (λ s. let r : Option Macro = elim fl [ true ↦ after_paren s (map blank ts) | false ↦ object_of s (map blank ts) ] in r) t))
    refl

-- ## Conditions

abbrev pub blank_held : Held → Held
blank_held Free = Free
blank_held (Asked d) = Asked (blank d)
blank_held (Opened d o) = Opened (blank d) (blank o)
blank_held (Named d o x) = Named (blank d) (blank o) (blank x)

is_some-map : {A B : Type 0} (f : A → B) (o : Option A) → is_some (option_map f o) ≡ is_some o
is_some-map f None = refl
is_some-map f (Some x) = refl

pub is_defined-blank : (table : Table) (t : Tok) → is_defined (map blank_macro table) (blank t) ≡ is_defined table t
is_defined-blank table t =
    ap is_some (sym (lookup-blank table (text_of (blank t).token))) ∙ is_some-map blank_macro (lookup table (text_of (blank t).token))
    ∙ by_text (λ s. is_some (lookup table s)) t

answer-blank : (table : Table) (d x : Tok) → blank (answer d (is_defined table x)) ≡ answer (blank d) (is_defined (map blank_macro table) (blank x))
answer-blank table d x = ap (answer (blank d)) (sym (is_defined-blank table x))

cons-same : {A : Type 0} {a b : A} {xs ys : List A} → a ≡ b → xs ≡ ys → a ∷ xs ≡ b ∷ ys
cons-same p q = cc

pub resolve-blank : (table : Table) (h : Held) (ts : List Tok) → map blank (resolve table h ts) ≡ resolve (map blank_macro table) (blank_held h) (map blank ts)
resolve-blank table Free [] = refl
resolve-blank table (Asked d) [] = refl
resolve-blank table (Opened d o) [] = refl
resolve-blank table (Named d o x) [] = refl
resolve-blank table Free (t ∷ ts) =
    if-test (map blank) _ (asks (blank t)) (by_text (λ s. is_name t && bytes_eq s (codes "defined")) t)
    (resolve-blank table (Asked t) ts)
    (ap (λ us. blank t ∷ us) (resolve-blank table Free ts))
resolve-blank table (Asked d) (t ∷ ts) =
    if-map (map blank) (is_name t) (cons-same (answer-blank table d t) (resolve-blank table Free ts))
    (if-test (map blank) _ (opens (blank t)) (by_text (λ s. bytes_eq s (40 ∷ [])) t) (resolve-blank table (Opened d t) ts)
    (ap (λ us. blank d ∷ blank t ∷ us) (resolve-blank table Free ts)))
resolve-blank table (Opened d o) (t ∷ ts) =
    if-map (map blank) (is_name t) (resolve-blank table (Named d o t) ts)
    (ap (λ us. blank d ∷ blank o ∷ blank t ∷ us) (resolve-blank table Free ts))
resolve-blank table (Named d o x) (t ∷ ts) =
    if-test (map blank) _ (closes (blank t)) (by_text (λ s. bytes_eq s (41 ∷ [])) t)
    (cons-same (answer-blank table d x) (resolve-blank table Free ts))
    (ap (λ us. blank d ∷ blank o ∷ blank x ∷ blank t ∷ us) (resolve-blank table Free ts))
