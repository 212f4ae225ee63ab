-- The lines of a view cut it.
use Rattle.std.proofs.Common.{◌≡◌, ℕ, suc, ◌+◌, ◌-◌, ◌<◌, ◌≤◌, Bool, true, false, not, ◌||◌, List, [], ◌∷◌, ◌++◌}
use Rattle.std.proofs.Common.{length, map, Option, Some, None, refl, arith, sym, ◌∙◌, ap, subst, inl, inr, ◌⊎◌}
use Rattle.std.specs.Prelude.{if◌then◌else◌, slice_get}
use Rattle.std.proofs.lemmas.List.{length-map}
use Rattle.style_table.specs.declared.style.Style.{Style}
use Rattle.token_arena.specs.Gaps.{Contents}
use Rattle.token_classes.specs.declared.class.TokenClass.{TokenClass}
use Rattle.token_classes.specs.Classes.{is_comment, is_line_comment}
use Rattle.item_classes.specs.Viewed.{item_class, classes_of}
use Rattle.statement_lines.specs.declared.line.Line.{Line}
use Rattle.line_tokens.specs.declared.line.LineKind.TheVariants.{Comment}
use Rattle.unwrapped_lines.specs.declared.part.Begin.{Begin}
use Rattle.item_classes.specs.declared.part.Part.{Part}
use Rattle.item_classes.specs.declared.part.Part.TheVariants.{Token, Own, Trailing, Inner}
use Rattle.unwrapped_lines.specs.declared.part.Marks.{Marks}
use Rattle.unwrapped_lines.specs.Comments.{Tree, new_begin, begin_of, begins_from, list_of, no_marks, next_marks}
use Rattle.unwrapped_lines.specs.Comments.{is_between, is_own, begins_line, own_level}
use Rattle.unwrapped_lines.specs.Viewed.{code_places_from, code_tokens, token_at, parts_from}
use Rattle.item_classes.specs.Part.{part_of, line_ends_behind}
use Rattle.statement_lines.specs.Stack.{IsCut}
use Rattle.statement_lines.specs.Tree.{lines_of}
use Rattle.statement_lines.specs.Wrapping.{braces_of}
use Rattle.line_tokens.specs.Lines.{CutPlaces}
use Rattle.unwrapped_lines.specs.Lines.{lines_between, unwrapped_lines_of, tree_of}

-- ## Lines begin one behind another

-- these lines begin one behind another, at this place or behind it and before the end
abbrev pub Ascends : ℕ → ℕ → List Begin → Type 0
Ascends low count [] = Unit {0}
Ascends low count (b ∷ bs) = (low ≤ b.first) × ((b.first < count) × Ascends (b.first + 1) count bs)

ascends_lower : (low high count : ℕ) (bs : List Begin) → low ≤ high → Ascends high count bs → Ascends low count bs
ascends_lower low high count [] h k = tt
ascends_lower low high count (b ∷ bs) h k = ((let q = k.0 in omega arith), k.1)

chosen_first : (x y z : Bool) (k level : ℕ) (l : Option Line) (b : Begin)
    → (elim x as (λ _. Option Begin) [ false ↦ None | true ↦ elim y as (λ _. Option Begin) [ true ↦ Some (record { first = k; level = level; kind = Comment }) | false ↦ elim z as (λ _. Option Begin) [ true ↦ begin_of k l | false ↦ None ] ] ]) ≡ Some b
    → k ≡ b.first
chosen_first false y z k level l b e = cc
chosen_first true true z k level l b e =
    let q : record { first = k; level = level; kind = Comment } ≡ b = cc in ap (λ x. x.first) q
chosen_first true false true k level None b e = cc
chosen_first true false true k level (Some l) b e =
    let q : record { first = k; level = l.level; kind = l.kind } ≡ b = cc in ap (λ x. x.first) q
chosen_first true false false k level l b e = cc

new_begin_first : (t : Tree) (k : ℕ) (p : Part) (ps : List Part) (m : Marks) (b : Begin) → new_begin t k p ps m ≡ Some b → k ≡ b.first
new_begin_first t k p ps m b e = chosen_first (is_between t m) (is_own p) (begins_line p ps m) k (own_level t.end_level (slice_get t.lines m.begun)) (slice_get t.lines m.begun) b e

ascends_list : (k count : ℕ) (found : Option Begin) (bs : List Begin) → ((b : Begin) → found ≡ Some b → k ≡ b.first) → k < count → Ascends (k + 1) count bs → Ascends k count (list_of found ++ bs)
ascends_list k count None bs first within h = ascends_lower k (k + 1) count bs (omega arith) h
ascends_list k count (Some b) bs first within h =
    let e = first b refl in
    let P : ℕ → Type 0 = λ x. Ascends (x + 1) count bs in
    ((omega arith), ((omega arith), subst P e h))

begins_ascend : (t : Tree) (ps : List Part) (k : ℕ) (m : Marks) (count : ℕ) → k + length ps ≡ count → Ascends k count (begins_from t ps k m)
begins_ascend t [] k m count e = tt
begins_ascend t (p ∷ ps) k m count e =
    ascends_list k count (new_begin t k p ps m) (begins_from t ps (k + 1) (next_marks t p ps m)) (new_begin_first t k p ps m) (omega arith)
    (begins_ascend t ps (k + 1) (next_marks t p ps m) count (omega arith))

cut_between : (low count : ℕ) (b : Begin) (bs : List Begin) → Ascends low count (b ∷ bs) → CutPlaces b.first count (lines_between count (b ∷ bs))
cut_between low count b [] h = let q : b.first < count = h.1.0 in (refl, ((omega arith), (omega arith)))
cut_between low count b (next ∷ bs) h =
    let q : b.first + 1 ≤ next.first = h.1.1.0 in
    let up : next.first ≡ (next.first - 1) + 1 = omega arith in
    let P : ℕ → Type 0 = λ x. CutPlaces x count (lines_between count (next ∷ bs)) in
    (refl, ((omega arith), subst P up (cut_between (b.first + 1) count next bs h.1.1)))

-- ## A line begins at the view's start

-- there is a line where there is a token, and the first begins at the first token
abbrev pub Starts : ℕ → List Line → Type 0
Starts total [] = 0 ≡ total
Starts total (l ∷ ls) = l.first ≡ 0

cut_starts : (total : ℕ) (lines : List Line) → IsCut 0 total lines → Starts total lines
cut_starts total [] cut = cut
cut_starts total (l ∷ ls) cut = cut.0

starts_line : (lines : List Line) (total level : ℕ) (p : Part) (ps : List Part) → Starts total lines → (p ≡ Own) ⊎ ((p ≡ Token) × (0 < total))
    → (b : Begin) × (new_begin (record { lines = lines; total = total; end_level = level }) 0 p ps no_marks ≡ Some b)
starts_line [] total level p ps starts d =
    let P : ℕ → Type 0 = λ n. (b : Begin) × (new_begin (record { lines = []; total = n; end_level = level }) 0 p ps no_marks ≡ Some b) in
    subst P starts (elim d [
      | inl e ↦ let Q : Part → Type 0 = λ x. (b : Begin) × (new_begin (record { lines = []; total = 0; end_level = level }) 0 x ps no_marks ≡ Some b) in subst Q (sym e) (_, refl)
      | inr q ↦ absurd (let some : 0 < total = q.1 in omega arith)
    ])
starts_line (l ∷ ls) total level p ps first d =
    elim d [
      | inl e ↦
          let Q : Part → Type 0 = λ x. (b : Begin) × (new_begin (record { lines = l ∷ ls; total = total; end_level = level }) 0 x ps no_marks ≡ Some b) in
          subst Q (sym e) (record { first = 0; level = l.list_level; kind = Comment }, rw first refl)
      | inr q ↦
          let Q : Part → Type 0 = λ x. (b : Begin) × (new_begin (record { lines = l ∷ ls; total = total; end_level = level }) 0 x ps no_marks ≡ Some b) in
          subst Q (sym q.0) (record { first = 0; level = l.level; kind = l.kind }, rw first refl)
    ]

cut_lines : (t : Tree) (p : Part) (ps : List Part) (count : ℕ) → length (p ∷ ps) ≡ count → (b : Begin) × (new_begin t 0 p ps no_marks ≡ Some b)
    → CutPlaces 0 count (lines_between count (begins_from t (p ∷ ps) 0 no_marks))
cut_lines t p ps count e h =
    let rest = begins_from t ps (0 + 1) (next_marks t p ps no_marks) in
    let ascends = begins_ascend t (p ∷ ps) 0 no_marks count (omega arith) in
    let P : Option Begin → Type 0 = λ o. Ascends 0 count (list_of o ++ rest) → CutPlaces 0 count (lines_between count (list_of o ++ rest)) in
    let Q : ℕ → Type 0 = λ x. CutPlaces x count (lines_between count (h.0 ∷ rest)) in
    subst P (sym h.1) (λ k. subst Q (sym (new_begin_first t 0 p ps no_marks h.0 h.1)) (cut_between 0 count h.0 rest k)) ascends

-- ## Parts and tokens of a view

pub parts_count : (arena : Contents) (ids : List ℕ) (k : ℕ) (started : Bool) (cs : List TokenClass) → length (parts_from arena ids k started cs) ≡ length cs
parts_count arena ids k started [] = refl
parts_count arena ids k started (c ∷ cs) = ap suc (parts_count arena ids (k + 1) (started || not (is_comment c)) cs)

pub places_count : (k : ℕ) (cs : List TokenClass) → length (code_places_from k cs) ≤ length cs
places_count k [] = omega arith
places_count k (c ∷ cs) =
    let rest = places_count (k + 1) cs in
    elim (is_comment c) as (λ x. length (if x then code_places_from (k + 1) cs else k ∷ code_places_from (k + 1) cs) ≤ length (c ∷ cs)) [ true ↦ omega arith | false ↦ omega arith ]

first_part : (arena : Contents) (id : ℕ) (c : TokenClass) (cs : List TokenClass)
    → (part_of arena id false c ≡ Own) ⊎ ((part_of arena id false c ≡ Token) × (0 < length (code_places_from 0 (c ∷ cs))))
first_part arena id c cs =
    elim (is_comment c) as (λ x. let p = if not x then Token else (if true then Own else (if is_line_comment c || line_ends_behind arena id then Trailing else Inner)) in
    (p ≡ Own) ⊎ ((p ≡ Token) × (0 < length (if x then code_places_from (0 + 1) cs else 0 ∷ code_places_from (0 + 1) cs)))) [
      | true ↦ inl refl
      | false ↦ inr (refl, (omega arith))
    ]

-- the lines of a view cut it, where those of its tokens start it
pub cut_started : (style : Style) (arena : Contents) (ids : List ℕ) (partners : List (Option ℕ))
    → Starts (length (code_tokens arena ids (classes_of arena ids) partners)) (lines_of (braces_of style) (code_tokens arena ids (classes_of arena ids) partners))
    → CutPlaces 0 (length ids) (unwrapped_lines_of style arena ids partners)
cut_started style arena [] partners h = refl
cut_started style arena (id ∷ ids) partners h =
    let cs = map (item_class arena) ids in
    let c = item_class arena id in
    let t = tree_of style arena (id ∷ ids) partners in
    let ps = parts_from arena (id ∷ ids) (0 + 1) (false || not (is_comment c)) cs in
    let tokens = code_tokens arena (id ∷ ids) (c ∷ cs) partners in
    let count : length (part_of arena id false c ∷ ps) ≡ length (id ∷ ids) = ap suc (parts_count arena (id ∷ ids) (0 + 1) (false || not (is_comment c)) cs ∙ length-map ids (item_class arena)) in
    let many : length tokens ≡ length (code_places_from 0 (c ∷ cs)) = length-map (code_places_from 0 (c ∷ cs)) (token_at arena (id ∷ ids) (c ∷ cs) partners) in
    let start : (part_of arena id false c ≡ Own) ⊎ ((part_of arena id false c ≡ Token) × (0 < length tokens)) = elim (first_part arena id c cs) [ inl e ↦ inl e | inr q ↦ inr (q.0, (let z = q.1 in omega arith)) ] in
    cut_lines t (part_of arena id false c) ps (length (id ∷ ids)) count (starts_line t.lines t.total t.end_level (part_of arena id false c) ps h start)

-- so do they where those of its tokens cut these
pub cut_view : (style : Style) (arena : Contents) (ids : List ℕ) (partners : List (Option ℕ))
    → IsCut 0 (length (code_tokens arena ids (classes_of arena ids) partners)) (lines_of (braces_of style) (code_tokens arena ids (classes_of arena ids) partners))
    → CutPlaces 0 (length ids) (unwrapped_lines_of style arena ids partners)
cut_view style arena ids partners h =
    let tokens = code_tokens arena ids (classes_of arena ids) partners in
    cut_started style arena ids partners (cut_starts (length tokens) (lines_of (braces_of style) tokens) h)
