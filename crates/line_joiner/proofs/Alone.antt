-- Lines to which none is joined.
use Rattle.std.proofs.Common.{◌≡◌, ◌∙◌, ℕ, suc, ◌+◌, ◌-◌, ◌<◌, ◌≤◌, Bool, true, false, Option, refl, List, [], ◌∷◌, ◌++◌, drop, length, get_or, take, sym, ap, arith, ◌⊎◌, inl, inr}
use Rattle.std.proofs.lemmas.List.{append_assoc, drop_more, get_or_default}
use Rattle.std.specs.Prelude.{if◌then◌else◌, ◌&&◌, ◌||◌, nat_lt, not}
use Rattle.std.proofs.lemmas.Bool.{or_parts}
use Rattle.line_tokens.specs.declared.LineTok.{LineTok}
use Rattle.line_tokens.specs.declared.line.ULine.{ULine}
use Rattle.style_table.specs.declared.style.Style.{Style}
use Rattle.token_classes.specs.declared.class.TokenClass.{TokenClass}
use Rattle.line_tokens.specs.declared.Fixed.{Fixed}
use Rattle.line_joiner.specs.Joined.{joined, joined_from, lines_joined, may_join, merged}
use Rattle.line_joiner.specs.Kinds.{is_case_label, is_control, is_enum_head, is_func_head, is_loop, is_struct_head, may_have_else}
use Rattle.line_joiner.specs.Facts.{is_attached, is_bare_header, word_of}
use Rattle.line_joiner.specs.Heads.{heads_row, joins_blocks, joins_functions, joins_headers, joins_some_ifs}
use Rattle.line_joiner.specs.Keys.{joins_all_blocks, joins_all_functions, joins_elses, joins_empty_blocks, joins_empty_functions, joins_ifs, joins_ifs_with_else}
use Rattle.token_classes.specs.Classes.{is_else, is_if}
use Rattle.line_tokens.specs.Table.{first_row}
use Rattle.line_joiner.specs.JoinTable.{begins_with_close, begins_with_lone_close, begins_with_simple, behind, behind_enumerators, body_of, else_stands, lines_by_table, short_case}

-- where the first and the last of some conditions don't hold together
between : (a b c : Bool) → a && c ≡ false → a && b && c ≡ false
between false b c off = refl
between true false c off = refl
between true true c off = off

-- where the last doesn't hold in either way
first_way : (a b c : Bool) → a && (b || c) ≡ false → a && b ≡ false
first_way false b c off = refl
first_way true b c off = (or_parts b c off).0

second_way : (a b c : Bool) → a && (b || c) ≡ false → a && c ≡ false
second_way false b c off = refl
second_way true b c off = (or_parts b c off).1

deep : (a b c d : Bool) → a && d ≡ false → a && b && c && d ≡ false
deep a b c d off = between (a && b) c d (between a b d off)

deeper : (a b c d e : Bool) → a && e ≡ false → a && b && c && d && e ≡ false
deeper a b c d e off = between (a && b && c) d e (deep a b c e off)

deepest : (a b c d e f : Bool) → a && f ≡ false → a && b && c && d && e && f ≡ false
deepest a b c d e f off = between (a && b && c && d) e f (deeper a b c d f off)

-- where the first doesn't hold
first_off : (a b : Bool) → a ≡ false → a && b ≡ false
first_off a b off = rw off refl

-- no row is taken where none of the first eleven is
no_row : (a b c d e f g h i j k : Bool) (l m n o p q r s t u v : ℕ) → a ≡ false → b ≡ false → c ≡ false → d ≡ false → e ≡ false → f ≡ false → g ≡ false → h ≡ false → i ≡ false → j ≡ false → k ≡ false
    → first_row ((a, l) ∷ (b, m) ∷ (c, n) ∷ (d, o) ∷ (e, p) ∷ (f, q) ∷ (g, r) ∷ (h, s) ∷ (i, t) ∷ (j, u) ∷ (k, v) ∷ []) 1 ≡ 1
no_row a b c d e f g h i j k l m n o p q r s t u v oa ob oc od oe of og oh oi oj ok =
    rw (oa, ob, oc, od, oe, of, og, oh, oi, oj, ok) refl

pub stays_alone : (style : Style) (classes : List TokenClass) (toks : List LineTok) (head : ULine) (rest : List ULine) → heads_row style head.kind ≡ false → lines_by_table style classes toks head rest ≡ 1
stays_alone style classes toks head rest none =
    let ifs = style.allow_short_if_statements_on_a_single_line in
    let functions = style.allow_short_functions_on_a_single_line in
    let blocks = style.allow_short_blocks_on_a_single_line in
    let header = is_control head.kind in
    let word = word_of classes head in
    let bare = is_bare_header toks head in
    let attached = is_attached toks head in
    let simple = begins_with_simple rest in
    let struct = or_parts (is_struct_head head.kind) _ none in
    let func = or_parts (is_func_head head.kind && joins_functions style) _ struct.1 in
    let control = or_parts (header && joins_headers style) _ func.1 in
    let elses = or_parts (may_have_else head.kind && joins_elses ifs) _ control.1 in
    let label = or_parts (is_case_label head.kind && style.allow_short_case_labels_on_a_single_line) _ elses.1 in
    let some_ifs = first_way header (joins_some_ifs style) _ control.0 in
    let others = second_way header (joins_some_ifs style) _ control.0 in
    let loops = first_way header style.allow_short_loops_on_a_single_line (joins_blocks style) others in
    let some_blocks = second_way header style.allow_short_loops_on_a_single_line (joins_blocks style) others in
    let no_ifs = first_way header (joins_ifs ifs) (joins_ifs_with_else ifs) some_ifs in
    let no_ifs_with_else = second_way header (joins_ifs ifs) (joins_ifs_with_else ifs) some_ifs in
    let no_empty_blocks = first_way header (joins_empty_blocks blocks) (joins_all_blocks blocks) some_blocks in
    let no_blocks = second_way header (joins_empty_blocks blocks) (joins_all_blocks blocks) some_blocks in
    let no_empty_functions = first_way (is_func_head head.kind) (joins_empty_functions functions) (joins_all_functions functions) func.0 in
    let no_functions = second_way (is_func_head head.kind) (joins_empty_functions functions) (joins_all_functions functions) func.0 in
    let func_head = is_func_head head.kind in
    let label_head = is_case_label head.kind in
    let enum_head = is_enum_head head.kind in
    let else_head = may_have_else head.kind in
    let stands = else_stands classes (behind rest) in
    let lone_close = begins_with_lone_close toks in
    no_row _ _ _ _ _ _ _ _ _ _ _ _ _ _ _ _ _ _ _ _ _ _
    (between func_head (lone_close (body_of rest)) (joins_empty_functions functions) no_empty_functions)
    (deep func_head (begins_with_simple (body_of rest)) (lone_close (behind (body_of rest))) (joins_all_functions functions) no_functions)
    (first_off (is_struct_head head.kind) (begins_with_close (body_of rest)) struct.0)
    (deepest header (is_if word) bare simple (not stands) (joins_ifs ifs) no_ifs)
    (deepest header (is_if word) bare simple stands (joins_ifs_with_else ifs) no_ifs_with_else)
    (deeper else_head (is_else word) bare simple (joins_elses ifs) elses.0)
    (deeper header (is_loop word) bare simple style.allow_short_loops_on_a_single_line loops)
    (deep header attached (lone_close rest) (joins_empty_blocks blocks) no_empty_blocks)
    (deeper header attached simple (lone_close (behind rest)) (joins_all_blocks blocks) no_blocks)
    (first_off (label_head && not attached && style.allow_short_case_labels_on_a_single_line && nat_lt 0 (short_case 0 rest)) (nat_lt (short_case 0 rest) 3)
    (first_off (label_head && not attached && style.allow_short_case_labels_on_a_single_line) (nat_lt 0 (short_case 0 rest))
    (between label_head (not attached) style.allow_short_case_labels_on_a_single_line label.0)))
    (deep enum_head attached (begins_with_close (behind_enumerators rest)) style.allow_short_enums_on_a_single_line label.1)

-- none is joined to a line where the table joins none
few_joined : (style : Style) (classes : List TokenClass) (toks : List LineTok) (fixed : List (Option Fixed)) (head : ULine) (rest : List ULine) → lines_by_table style classes toks head rest ≤ 1 → lines_joined style classes toks fixed head rest ≡ 0
few_joined style classes toks fixed head rest few =
    let none : lines_by_table style classes toks head rest - 1 ≡ 0 = omega (arith, few) in
    ap (λ (n : ℕ). if may_join style toks fixed head (take n rest) then n else 0) none ∙ either (may_join style toks fixed head (take 0 rest))
  where
    either : (b : Bool) → ◌≡◌ {A = ℕ} (if b then 0 else 0) 0
    either true = refl
    either false = refl

none_joined : (style : Style) (classes : List TokenClass) (toks : List LineTok) (fixed : List (Option Fixed)) (head : ULine) (rest : List ULine) → heads_row style head.kind ≡ false → lines_joined style classes toks fixed head rest ≡ 0
none_joined style classes toks fixed head rest none = few_joined style classes toks fixed head rest (omega (arith, stays_alone style classes toks head rest none))

-- it stays as it is
pub alone_at : (style : Style) (classes : List TokenClass) (toks : List LineTok) (fixed : List (Option Fixed)) (lines : List ULine) (i : ℕ) (d : ULine) → i < length lines → heads_row style (get_or lines i d).kind ≡ false
    → joined_from style classes toks fixed 0 (drop i lines) ≡ get_or lines i d ∷ joined_from style classes toks fixed 0 (drop (i + 1) lines)
alone_at style classes toks fixed lines i d within none =
    let line = get_or lines i d in
    let rest = drop (i + 1) lines in
    ap (λ (ls : List ULine). joined_from style classes toks fixed 0 ls) (drop_more lines i d within)
    ∙ ap (λ (n : ℕ). merged line (take n rest) ∷ joined_from style classes toks fixed n rest) (none_joined style classes toks fixed line rest none)

-- behind such a line
pub alone_pushed : (style : Style) (classes : List TokenClass) (toks : List LineTok) (fixed : List (Option Fixed)) (skip : ℕ) (lines : List ULine) (i : ℕ) (d : ULine) (old new all : List ULine) → i < length lines → skip ≡ 0 → heads_row style (get_or lines i d).kind ≡ false
    → old ++ joined_from style classes toks fixed skip (drop i lines) ≡ all → new ≡ old ++ get_or lines i d ∷ [] → new ++ joined_from style classes toks fixed skip (drop (i + 1) lines) ≡ all
alone_pushed style classes toks fixed skip lines i d old new all within none alone so made =
    let rest = joined_from style classes toks fixed 0 (drop (i + 1) lines) in
    ap (λ (n : ℕ). new ++ joined_from style classes toks fixed n (drop (i + 1) lines)) none
    ∙ (ap (λ (ls : List ULine). ls ++ rest) made
    ∙ (append_assoc old (get_or lines i d ∷ []) rest
    ∙ (ap (λ (ls : List ULine). old ++ ls) (sym (alone_at style classes toks fixed lines i d within alone))
    ∙ (ap (λ (n : ℕ). old ++ joined_from style classes toks fixed n (drop i lines)) (sym none) ∙ so))))

-- behind a line and those that are joined to it
pub joined_pushed : (style : Style) (classes : List TokenClass) (toks : List LineTok) (fixed : List (Option Fixed)) (skip more : ℕ) (lines : List ULine) (i : ℕ) (d : ULine) (old new all : List ULine) → i < length lines → skip ≡ 0
    → more ≡ lines_joined style classes toks fixed (get_or lines i d) (drop (i + 1) lines) → old ++ joined_from style classes toks fixed skip (drop i lines) ≡ all → new ≡ old ++ merged (get_or lines i d) (take more (drop (i + 1) lines)) ∷ []
    → new ++ joined_from style classes toks fixed more (drop (i + 1) lines) ≡ all
joined_pushed style classes toks fixed skip more lines i d old new all within none many so made =
    let line = get_or lines i d in
    let rest = drop (i + 1) lines in
    let at : joined_from style classes toks fixed 0 (drop i lines) ≡ merged line (take more rest) ∷ joined_from style classes toks fixed more rest =
    ap (λ (ls : List ULine). joined_from style classes toks fixed 0 ls) (drop_more lines i d within) ∙ ap (λ (n : ℕ). merged line (take n rest) ∷ joined_from style classes toks fixed n rest) (sym many) in
    ap (λ (ls : List ULine). ls ++ joined_from style classes toks fixed more rest) made
    ∙ (append_assoc old (merged line (take more rest) ∷ []) (joined_from style classes toks fixed more rest)
    ∙ (ap (λ (ls : List ULine). old ++ ls) (sym at)
    ∙ (ap (λ (n : ℕ). old ++ joined_from style classes toks fixed n (drop i lines)) (sym none) ∙ so)))

either_side : (at i : ℕ) → i < at + 1 → (i < at) ⊎ (i ≡ at)
either_side at i high = grind arith

-- the table joins no line to one of these
abbrev pub AreAlone : Style → List TokenClass → List LineTok → List ULine → ℕ → Type 0
AreAlone style classes toks lines count = (i : ℕ) (d : ULine) → i < count → lines_by_table style classes toks (get_or lines i d) (drop (suc i) lines) ≤ 1

-- one more of them
pub one_more_alone : (style : Style) (classes : List TokenClass) (toks : List LineTok) (lines : List ULine) (at : ℕ) (e : ULine) → at < length lines → lines_by_table style classes toks (get_or lines at e) (drop (suc at) lines) ≤ 1
    → AreAlone style classes toks lines at → AreAlone style classes toks lines (at + 1)
one_more_alone style classes toks lines at e within alone before i d high = elim (either_side at i high) [
  | inl earlier ↦ before i d earlier
  | inr here ↦ rw (here, get_or_default lines at d e within) alone
]

-- where all lines are such, they stay as they are
pub stay_alone : (style : Style) (classes : List TokenClass) (toks : List LineTok) (fixed : List (Option Fixed)) (lines : List ULine) → AreAlone style classes toks lines (length lines) → joined style classes toks fixed lines ≡ lines
stay_alone style classes toks fixed [] none = refl
stay_alone style classes toks fixed (line ∷ lines) none =
    ap (λ (n : ℕ). merged line (take n lines) ∷ joined_from style classes toks fixed n lines) (few_joined style classes toks fixed line lines (none 0 line (omega arith)))
    ∙ ap (λ (ls : List ULine). line ∷ ls) (stay_alone style classes toks fixed lines (λ i d within. none (suc i) d (omega (arith, within))))
