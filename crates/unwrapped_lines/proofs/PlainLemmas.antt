-- The lines of a view without comments are those of its tokens.
use Rattle.std.proofs.Common.{◌≡◌, ℕ, zero, suc, ◌+◌, ◌-◌, ◌<◌, ◌≤◌, nat_le, nat_eq, Bool, true, false, not, ◌||◌, List}
use Rattle.std.proofs.Common.{[], ◌∷◌, length, map, Option, Some, refl, arith, sym, ◌∙◌, ap, subst, inl, inr, ◌⊎◌}
use Rattle.std.specs.Prelude.{if◌then◌else◌, slice_get}
use Rattle.std.proofs.lemmas.List.{length-map}
use Rattle.style_table.specs.declared.style.Style.{Style}
use Rattle.token_arena.specs.Gaps.{Contents}
use Rattle.token_classes.specs.declared.class.TokenClass.{TokenClass}
use Rattle.token_classes.specs.Classes.{is_comment}
use Rattle.item_classes.specs.Viewed.{classes_of, item_class}
use Rattle.statement_lines.specs.declared.line.Line.{Line}
use Rattle.statement_lines.specs.declared.braces.Braces.{Braces}
use Rattle.statement_lines.specs.declared.token.CodeToken.{CodeToken}
use Rattle.unwrapped_lines.specs.declared.part.Begin.{Begin}
use Rattle.item_classes.specs.declared.part.Part.{Part}
use Rattle.item_classes.specs.declared.part.Part.TheVariants.{Token}
use Rattle.unwrapped_lines.specs.declared.part.Marks.{Marks}
use Rattle.unwrapped_lines.specs.declared.part.Run.TheVariants.{Apart}
use Rattle.unwrapped_lines.specs.Comments.{Tree, begins_from, no_marks, is_between, between_at, new_begin}
use Rattle.unwrapped_lines.specs.declared.part.ViewComment.{ViewComment}
use Rattle.unwrapped_lines.specs.Inside.{lines_with, parts_with, tree_with}
use Rattle.unwrapped_lines.specs.Viewed.{code_places_from, code_tokens, token_at, parts_from, parts_of}
use Rattle.statement_lines.specs.Stack.{IsCut}
use Rattle.statement_lines.specs.Lines.{row_of}
use Rattle.statement_lines.specs.Tree.{end_level, lines_of}
use Rattle.statement_lines.specs.Wrapping.{braces_of}
use Rattle.unwrapped_lines.specs.Lines.{lines_between, unwrapped_lines_of, tree_of}
use Rattle.unwrapped_lines.proofs.CutLemmas.{places_count}

-- ## No comments

-- none of these is a comment
abbrev pub AreCode : List TokenClass → Type 0
AreCode [] = Unit {0}
AreCode (c ∷ cs) = (is_comment c ≡ false) × AreCode cs

code_choice : (x : Bool) (k : ℕ) (cs : List TokenClass)
    → length (if x then code_places_from (k + 1) cs else k ∷ code_places_from (k + 1) cs) ≡ suc (length cs) → (x ≡ false) × (length (code_places_from (k + 1) cs) ≡ length cs)
code_choice true k cs e = absurd (let most = places_count (k + 1) cs in omega (arith, e, most))
code_choice false k cs e = (refl, omega (arith, e))

-- where each place has a token, there is no comment
all_code : (k : ℕ) (cs : List TokenClass) → length (code_places_from k cs) ≡ length cs → AreCode cs
all_code k [] e = tt
all_code k (c ∷ cs) e =
    let h = code_choice (is_comment c) k cs e in
    (h.0, all_code (k + 1) cs h.1)

-- so many tokens
abbrev tokens : ℕ → List Part
tokens zero = []
tokens (suc n) = Token ∷ tokens n

code_parts : (arena : Contents) (ids : List ℕ) (k : ℕ) (started : Bool) (cs : List TokenClass) → AreCode cs → parts_from arena ids k started cs ≡ tokens (length cs)
code_parts arena ids k started [] h = refl
code_parts arena ids k started (c ∷ cs) h = rw h.0 (ap (λ ps. Token ∷ ps) (code_parts arena ids (k + 1) (started || not false) cs h.1))

-- ## Lines of tokens

abbrev begin : Line → Begin
begin l = record { first = l.first; level = l.level; kind = l.kind }

cut_end : (e total : ℕ) (ls : List Line) → IsCut e total ls → e ≤ total
cut_end e total [] h = omega (arith, h)
cut_end e total (l ∷ ls) h = let q : l.end ≤ total = cut_end l.end total ls h.1.1 in let up : e < l.end = h.1.0 in omega arith

eq_true : (a b : ℕ) → a ≡ b → nat_eq a b ≡ true
eq_true a b h = grind arith

eq_false : (a b : ℕ) → a < b → nat_eq b a ≡ false
eq_false a b h = grind arith

equal : (a b : ℕ) → nat_eq a b ≡ true → a ≡ b
equal a b h = grind arith

unequal : (a b : ℕ) → nat_eq a b ≡ false → (a < b) ⊎ (b < a)
unequal a b h = grind arith

le_false : (a b : ℕ) → a < b → nat_le b a ≡ false
le_false a b h = grind arith

-- behind so many lines these follow
abbrev Follow : Tree → ℕ → List Line → Type 0
Follow t j ls = (i : ℕ) → slice_get t.lines (j + i) ≡ slice_get ls i

follow_more : (t : Tree) (j : ℕ) (l : Line) (ls : List Line) → Follow t j (l ∷ ls) → Follow t (j + 1) ls
follow_more t j l ls h i =
    let up : j + 1 + i ≡ j + suc i = omega arith in
    ap (slice_get t.lines) up ∙ h (suc i)

follow_first : (t : Tree) (j : ℕ) (ls : List Line) → Follow t j ls → slice_get t.lines j ≡ slice_get ls 0
follow_first t j ls h = let up : j ≡ j + 0 = omega arith in ap (slice_get t.lines) up ∙ h 0

abbrev marks : ℕ → ℕ → Marks
marks k j = record { seen = k; begun = j; run = Apart }

goes_on : (n : ℕ) (t : Tree) (k j : ℕ) → is_between t (marks k j) ≡ false → begins_from t (tokens (suc n)) k (marks k j) ≡ begins_from t (tokens n) (k + 1) (marks (k + 1) j)
goes_on n t k j h = rw (h, new_begin) refl

begins_at : (n : ℕ) (t : Tree) (k j : ℕ) (l : Line) → slice_get t.lines j ≡ Some l → l.first ≡ k
    → begins_from t (tokens (suc n)) k (marks k j) ≡ begin l ∷ begins_from t (tokens n) (k + 1) (marks (k + 1) (j + 1))
begins_at n t k j l h e =
    let between : is_between t (marks k j) ≡ true = ap (between_at t.total k) h ∙ eq_true l.first k e in
    rw (between, new_begin, h, e) refl

-- Before a place so many lines have begun, and the first of those that follow begins at `e`.
token_begins : (n : ℕ) (t : Tree) (ls : List Line) (k j e : ℕ) → Follow t j ls → IsCut e t.total ls → k ≤ e → k + n ≡ t.total
    → begins_from t (tokens n) k (marks k j) ≡ map begin ls
token_begins zero t [] k j e follow cut low all = refl
token_begins zero t (l ∷ ls) k j e follow cut low all = absurd (let q = cut_end l.end t.total ls cut.1.1 in let up : e < l.end = cut.1.0 in omega arith)
token_begins (suc n) t [] k j e follow cut low all =
    let on : is_between t (marks k j) ≡ false = ap (between_at t.total k) (follow_first t j [] follow) ∙ le_false k t.total (omega arith) in
    goes_on n t k j on ∙ token_begins n t [] (k + 1) j e follow cut (let q : e ≡ t.total = cut in omega arith) (omega arith)
token_begins (suc n) t (l ∷ ls) k j e follow cut low all =
    let first : slice_get t.lines j ≡ Some l = follow_first t j (l ∷ ls) follow in
    let place : l.first ≡ e = cut.0 in
    let up : e < l.end = cut.1.0 in
    elim (nat_eq l.first k) as (λ x. nat_eq l.first k ≡ x → begins_from t (tokens (suc n)) k (marks k j) ≡ map begin (l ∷ ls)) [
      | true ↦ λ q.
          let same : l.first ≡ k = equal (l.first) k q in
          begins_at n t k j l first same
          ∙ ap (λ bs. begin l ∷ bs) (token_begins n t ls (k + 1) (j + 1) l.end (follow_more t j l ls follow) cut.1.1 (omega arith) (omega arith))
      | false ↦ λ q.
          let other : k < e = elim (unequal l.first k q) [ inl r ↦ absurd (omega (arith, r, place, low)) | inr r ↦ omega (arith, r, place) ] in
          let on : is_between t (marks k j) ≡ false = ap (between_at t.total k) first ∙ q in
          goes_on n t k j on ∙ token_begins n t (l ∷ ls) (k + 1) j e follow cut (omega arith) (omega arith)
    ] refl

view_lines : (e count : ℕ) (ls : List Line) → IsCut e count ls → lines_between count (map begin ls) ≡ map row_of ls
view_lines e count [] cut = refl
view_lines e count (l ∷ []) cut = let end : l.end ≡ count = cut.1.1 in rw end refl
view_lines e count (l ∷ next ∷ ls) cut =
    let end : next.first ≡ l.end = cut.1.1.0 in
    ap (λ x. record { first = l.first; last = x - 1; level = l.level; kind = l.kind } ∷ lines_between count (map begin (next ∷ ls))) end
    ∙ ap (λ ls. row_of l ∷ ls) (view_lines l.end count (next ∷ ls) cut.1.1)

-- where a view has as many tokens as places, its lines are those of its tokens
pub plain_lines : (braces : Braces) (arena : Contents) (ids : List ℕ) (classes : List TokenClass) (ts : List CodeToken) (lines : List Line)
    → length ts ≡ length (code_places_from 0 classes) → lines ≡ lines_of braces ts → IsCut 0 (length ts) lines → length ts ≡ length classes
    → map row_of lines ≡ lines_with braces arena ids classes ts
plain_lines braces arena ids classes ts lines many by_line cut all =
    let t = tree_with braces ts in
    let code : AreCode classes = all_code 0 classes (sym many ∙ all) in
    let P : ℕ → Type 0 = λ x. IsCut 0 x t.lines in
    let Q : List Line → Type 0 = λ x. IsCut 0 (length ts) x in
    let cut_tree : IsCut 0 (length ts) t.lines = subst Q by_line cut in
    ap (map row_of) by_line
    ∙ sym (ap (λ ps. lines_between (length classes) (begins_from t ps 0 no_marks)) (code_parts arena ids 0 false classes code)
    ∙ ap (lines_between (length classes)) (token_begins (length classes) t t.lines 0 0 0 (λ i. let e : 0 + i ≡ i = omega arith in ap (slice_get t.lines) e) cut_tree (omega arith) (omega (arith, all)))
    ∙ view_lines 0 (length classes) t.lines (subst P all cut_tree))

-- the tokens that were read are the view's

same_tokens : (arena : Contents) (ids : List ℕ) (partners : List (Option ℕ)) (classes : List TokenClass) (ts : List CodeToken)
    → classes ≡ classes_of arena ids → ts ≡ code_tokens arena ids classes partners → ts ≡ code_tokens arena ids (classes_of arena ids) partners
same_tokens arena ids partners classes ts by_class by_token = by_token ∙ ap (λ cs. code_tokens arena ids cs partners) by_class

pub lines_read : (style : Style) (arena : Contents) (ids : List ℕ) (partners : List (Option ℕ)) (classes : List TokenClass) (ts : List CodeToken) (braces : Braces)
    → classes ≡ classes_of arena ids → ts ≡ code_tokens arena ids classes partners → braces ≡ braces_of style
    → lines_with braces arena ids classes ts ≡ unwrapped_lines_of style arena ids partners
lines_read style arena ids partners classes ts braces by_class by_token by_style =
    let own = classes_of arena ids in
    ap (λ b. lines_with b arena ids classes ts) by_style
    ∙ ap (λ x. lines_with (braces_of style) arena ids classes x) (same_tokens arena ids partners classes ts by_class by_token)
    ∙ ap (λ cs. lines_with (braces_of style) arena ids cs (code_tokens arena ids own partners)) by_class
    ∙ ap (λ n. lines_between n (begins_from (tree_of style arena ids partners) (parts_of arena ids own) 0 no_marks)) (length-map ids (item_class arena))

pub cut_read : (style : Style) (arena : Contents) (ids : List ℕ) (partners : List (Option ℕ)) (classes : List TokenClass) (ts : List CodeToken) (braces : Braces)
    → classes ≡ classes_of arena ids → ts ≡ code_tokens arena ids classes partners → braces ≡ braces_of style
    → IsCut 0 (length ts) (lines_of braces ts) → IsCut 0 (tree_of style arena ids partners).total (tree_of style arena ids partners).lines
cut_read style arena ids partners classes ts braces by_class by_token by_style cut =
    let P : List CodeToken → Type 0 = λ x. IsCut 0 (length x) (lines_of (braces_of style) x) in
    let Q : Braces → Type 0 = λ b. IsCut 0 (length ts) (lines_of b ts) in
    subst P (same_tokens arena ids partners classes ts by_class by_token) (subst Q by_style cut)

pub tokens_read : (arena : Contents) (ids : List ℕ) (partners : List (Option ℕ)) (classes : List TokenClass) (ts : List CodeToken)
    → ts ≡ code_tokens arena ids classes partners → length ts ≡ length (code_places_from 0 classes)
tokens_read arena ids partners classes ts by_token = ap length by_token ∙ length-map (code_places_from 0 classes) (token_at arena ids classes partners)

-- with its comments
pub lines_behind : (braces : Braces) (arena : Contents) (ids : List ℕ) (classes : List TokenClass) (ts : List CodeToken) (lines : List Line) (comments : List ViewComment) (total level : ℕ)
    → lines ≡ lines_of braces ts → total ≡ length ts → parts_with (length classes) 0 comments ≡ parts_of arena ids classes
    → ((ls : List Line) → begins_from (record { lines = ls; total = length ts; end_level = level }) (parts_of arena ids classes) 0 no_marks
    ≡ begins_from (record { lines = ls; total = length ts; end_level = end_level braces ts }) (parts_of arena ids classes) 0 no_marks)
    → lines_between (length classes) (begins_from (record { lines = lines; total = total; end_level = level }) (parts_with (length classes) 0 comments) 0 no_marks)
    ≡ lines_with braces arena ids classes ts
lines_behind braces arena ids classes ts lines comments total level by_line by_total by_part by_level =
    let parts = parts_of arena ids classes in
    ap (λ (ps : List Part). lines_between (length classes) (begins_from (record { lines = lines; total = total; end_level = level }) ps 0 no_marks)) by_part
    ∙ ap (λ (n : ℕ). lines_between (length classes) (begins_from (record { lines = lines; total = n; end_level = level }) parts 0 no_marks)) by_total
    ∙ ap (lines_between (length classes)) (by_level lines)
    ∙ ap (λ (ls : List Line). lines_between (length classes) (begins_from (record { lines = ls; total = length ts; end_level = end_level braces ts }) parts 0 no_marks)) by_line
