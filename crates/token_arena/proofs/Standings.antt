-- How items stand, one by one.
use Rattle.std.proofs.Common.{◌≡◌, ◌∙◌, ℕ, zero, suc, ◌+◌, ◌-◌, ◌==◌, ◌||◌, ◌&&◌, not, ◌<◌, ◌≤◌, inl, inr, Bool, true, false, Option, Some, None, List, [], ◌∷◌, ◌++◌, length, take, drop, map, replicate, refl, sym, ap, subst, arith, append_assoc}
use Rattle.std.specs.Prelude.{if◌then◌else◌}
use Rattle.std.specs.List.{list_any}
use Rattle.std.proofs.lemmas.Bool.{cases_Bool}
use Rattle.std.proofs.lemmas.List.{replicate-append-replicate, take-append-drop, length-drop}
use Rattle.std.proofs.lemmas.List.Sums.{sum_by-cons}
use Rattle.c_chars.specs.Characters.{bytes_of, chars, mark_len}
use Rattle.c_chars.specs.declared.Dialect.{Dialect}
use Rattle.c_chars.specs.declared.LogicalChar.{LogicalChar}
use Rattle.item_kinds.specs.declared.ItemKind.{ItemKind}
use Rattle.item_kinds.specs.declared.ItemKind.TheVariants.{Identifier, Punct, BlockComment, LineComment}
use Rattle.c_grammar.specs.Grammar.{is_new_line, is_same}
use Rattle.c_grammar.specs.Items.{Place, LineStart, AfterHash, AfterInclude, AfterDefine, AfterMacroName, InDirective, InText, past_gap, past_item, past_name, is_hash, is_include}
use Rattle.c_grammar.specs.Touch.{is_punct}
use Rattle.c_grammar.specs.Fitting.{in_directive, is_comment}
use Rattle.c_grammar.specs.Text.{ReadItem, piece_of, end_of}
use Rattle.c_grammar.specs.Twin.{part_of, parts_of}
use Rattle.c_grammar.proofs.ItemBytes.{AreParted, parted}
use Rattle.c_grammar.proofs.Rewritten.{HasMark, mark_of}
use Rattle.token_arena.specs.Stored.{Stored, new_lines, stored_of, stored_from, stored_items}
use Rattle.token_arena.specs.declared.directives.Section.{Section}
use Rattle.token_arena.specs.declared.directives.Section.TheVariants.{Text, Dir}
use Rattle.token_arena.specs.Directives.{spelling, is_hash_token}
use Rattle.token_arena.specs.Sections.{lines_of, behind_hash, text_before, line_before, sections_from, IsCut}
use Rattle.token_arena.specs.Standing.{Standing, Outside, Begins, Inside, standing_of, standings, SectionsSayHowItemsStand, OutsideIsAtNoDirective, InsideIsOnOneLine}
use Rattle.token_arena.proofs.LinesOf.{tail_len, lines_line}
use Rattle.token_arena.proofs.Whole.{behind_shorter, cut_from}

-- The items as they are kept.

-- how an item stands at a place
abbrev pub standing_at : Place → ItemKind → List ℕ → Standing
standing_at LineStart kind s = if is_punct kind && is_hash s then Begins else Outside
standing_at InText kind s = Outside
standing_at place kind s = Inside

-- the place of an item behind its gap
abbrev pub place_here : Place → Stored → Place
place_here place t = if t.gap.began then LineStart else place

-- how kept items stand, the first of them behind this place
abbrev pub stands : Dialect → Place → List Stored → List Standing
stands d place [] = []
stands d place (t ∷ ts) = standing_at (place_here place t) t.kind (spelling d t) ∷ stands d (past_item d (place_here place t) t.kind (spelling d t)) ts

of_choice : (b : Bool) (x y : Standing) (p q : Rattle.c_grammar.specs.Twin.Part) → standing_of p ≡ x → standing_of q ≡ y → standing_of (if b then p else q) ≡ (if b then x else y)
of_choice true x y p q e f = e
of_choice false x y p q e f = f

same_choice : (b : Bool) (x : Standing) → (if b then x else x) ≡ x
same_choice true x = refl
same_choice false x = refl

pub standing_is : (place : Place) (gap : List ℕ) (kind : ItemKind) (s : List ℕ) → standing_of (part_of place gap kind s) ≡ standing_at place kind s
standing_is LineStart gap kind s = of_choice (is_punct kind && is_hash s) Begins Outside _ _ refl refl
standing_is InText gap kind s = refl
standing_is AfterHash gap kind s = refl
standing_is AfterInclude gap kind s = refl
standing_is AfterDefine gap kind s = refl
standing_is AfterMacroName gap kind s = of_choice (is_same gap [] && (is_punct kind && is_same s (40 ∷ []))) Inside Inside _ _ refl refl ∙ same_choice (is_same gap [] && (is_punct kind && is_same s (40 ∷ []))) Inside
standing_is InDirective gap kind s = refl

-- What is said of gaps.

has_lines : (gap : List LogicalChar) → list_any is_new_line (bytes_of gap) ≡ not (new_lines gap == 0)
has_lines [] = refl
has_lines (c ∷ gap) =
    let counted : new_lines (c ∷ gap) ≡ (if is_new_line c.byte then 1 else 0) + new_lines gap = sum_by-cons (λ (x : LogicalChar). if is_new_line x.byte then 1 else 0) c gap in
    choice (is_new_line c.byte) (new_lines gap) (list_any is_new_line (bytes_of gap)) (has_lines gap) ∙ ap (λ n. not (n == 0)) (sym counted)
  where
    choice : (b : Bool) (n : ℕ) (some : Bool) → some ≡ not (n == 0) → (b || some) ≡ not ((if b then 1 else 0) + n == 0)
    choice true n some e = grind arith
    choice false n some e = grind arith

line_start : (b : Bool) → (if b then LineStart else LineStart) ≡ LineStart
line_start true = refl
line_start false = refl

-- the place of an item of a text, and of the same item as it is kept
same_place : (is_first : Bool) (place : Place) (gap : List LogicalChar) → (is_first ≡ true → place ≡ LineStart)
    → past_gap place (bytes_of gap) ≡ (if is_first || not (new_lines gap == 0) then LineStart else place)
same_place true place gap h = let e = h refl in rw e (line_start (list_any is_new_line (bytes_of gap)))
same_place false place gap h = ap (λ b. if b then LineStart else place) (has_lines gap)

-- the parts of the items of a text say how they stand as they are kept
pub parts_stand : (d : Dialect) (text s : List ℕ) (at : ℕ) (place : Place) (is_first : Bool) (from : ℕ) (items : List ReadItem) → (is_first ≡ true → place ≡ LineStart) → AreParted d text at s items
    → map standing_of (parts_of d place (map piece_of items)) ≡ stands d place (stored_from text is_first from items)
parts_stand d text s at place is_first from [] h parted = refl
parts_stand d text s at place is_first from (item ∷ items) h parted =
    let here = past_gap place (bytes_of item.gap) in
    let there = place_here place (stored_of text is_first from item) in
    let same : here ≡ there = same_place is_first place item.gap h in
    let read : spelling d (stored_of text is_first from item) ≡ bytes_of item.chars = parted.4.spelling in
    let head : standing_of (part_of here (bytes_of item.gap) item.kind (bytes_of item.chars)) ≡ standing_at there item.kind (spelling d (stored_of text is_first from item)) =
    standing_is here (bytes_of item.gap) item.kind (bytes_of item.chars) ∙ rw (same, read) refl in
    let never : false ≡ true → past_item d here item.kind (bytes_of item.chars) ≡ LineStart = λ f. cc in
    let tail : map standing_of (parts_of d (past_item d here item.kind (bytes_of item.chars)) (map piece_of items)) ≡ stands d (past_item d here item.kind (bytes_of item.chars)) (stored_from text false (end_of item) items) =
    parts_stand d text parted.1 (end_of item) (past_item d here item.kind (bytes_of item.chars)) false (end_of item) items never parted.9 in
    let place_same : past_item d here item.kind (bytes_of item.chars) ≡ past_item d there item.kind (spelling d (stored_of text is_first from item)) = rw (same, read) refl in
    ap (λ x. x ∷ map standing_of (parts_of d (past_item d here item.kind (bytes_of item.chars)) (map piece_of items))) head
    ∙ ap (λ xs. standing_at there item.kind (spelling d (stored_of text is_first from item)) ∷ xs) (tail ∙ ap (λ z. stands d z (stored_from text false (end_of item) items)) place_same)

-- A line.

-- none of these items begins its line
abbrev pub NoneBegins : List Stored → Type 0
NoneBegins [] = Unit {0}
NoneBegins (t ∷ ts) = (t.gap.began ≡ false) × NoneBegins ts

inside_name : (d : Dialect) (s : List ℕ) → in_directive (past_name d s) ≡ true
inside_name d s = choice (is_include d s) (is_same s (100 ∷ 101 ∷ 102 ∷ 105 ∷ 110 ∷ 101 ∷ []))
  where
    choice : (b c : Bool) → in_directive (if b then AfterInclude else (if c then AfterDefine else InDirective)) ≡ true
    choice true c = refl
    choice false true = refl
    choice false false = refl

-- behind an item inside a directive stands the inside of it
stays_inside : (d : Dialect) (place : Place) (kind : ItemKind) (s : List ℕ) → in_directive place ≡ true → in_directive (past_item d place kind s) ≡ true
stays_inside d LineStart kind s h = cc
stays_inside d InText kind s h = cc
stays_inside d AfterHash Identifier s h = inside_name d s
stays_inside d AfterHash _ s h = refl
stays_inside d AfterInclude Identifier s h = refl
stays_inside d AfterInclude _ s h = refl
stays_inside d AfterDefine Identifier s h = refl
stays_inside d AfterDefine _ s h = refl
stays_inside d AfterMacroName Identifier s h = refl
stays_inside d AfterMacroName _ s h = refl
stays_inside d InDirective Identifier s h = refl
stays_inside d InDirective _ s h = refl

stands_inside : (place : Place) (kind : ItemKind) (s : List ℕ) → in_directive place ≡ true → standing_at place kind s ≡ Inside
stands_inside LineStart kind s h = cc
stands_inside InText kind s h = cc
stands_inside AfterHash kind s h = refl
stands_inside AfterInclude kind s h = refl
stands_inside AfterDefine kind s h = refl
stands_inside AfterMacroName kind s h = refl
stands_inside InDirective kind s h = refl

stays_in_text : (d : Dialect) (kind : ItemKind) (s : List ℕ) → past_item d InText kind s ≡ InText
stays_in_text d Identifier s = refl
stays_in_text d _ s = refl

-- items of a line that stand so, and what stands behind them at some place
abbrev Go : Dialect → Place → List Stored → List Stored → List Standing → Type 0
Go d place ts rest xs = (behind : Place) × (stands d place (ts ++ rest) ≡ xs ++ stands d behind rest)

kept_place : (place : Place) (t : Stored) → t.gap.began ≡ false → place_here place t ≡ place
kept_place place t h = rw h refl

step : (d : Dialect) (place here : Place) (t : Stored) (ts rest : List Stored) (x : Standing) (xs : List Standing) → place_here place t ≡ here → standing_at here t.kind (spelling d t) ≡ x
    → Go d (past_item d here t.kind (spelling d t)) ts rest xs → Go d place (t ∷ ts) rest (x ∷ xs)
step d place here t ts rest x xs at is go = (go.0, rw (at, is) (ap (λ z. x ∷ z) go.1))

go_inside : (d : Dialect) (place : Place) (ts rest : List Stored) → in_directive place ≡ true → NoneBegins ts → Go d place ts rest (replicate (length ts) Inside)
go_inside d place [] rest h n = (place, refl)
go_inside d place (t ∷ ts) rest h n =
    step d place place t ts rest Inside (replicate (length ts) Inside) (kept_place place t n.0) (stands_inside place t.kind (spelling d t) h)
    (go_inside d (past_item d place t.kind (spelling d t)) ts rest (stays_inside d place t.kind (spelling d t) h) n.1)

go_text : (d : Dialect) (place : Place) (ts rest : List Stored) → place ≡ InText → NoneBegins ts → Go d place ts rest (replicate (length ts) Outside)
go_text d place [] rest h n = (place, refl)
go_text d place (t ∷ ts) rest h n =
    step d place InText t ts rest Outside (replicate (length ts) Outside) (kept_place place t n.0 ∙ h) refl
    (go_text d (past_item d InText t.kind (spelling d t)) ts rest (stays_in_text d t.kind (spelling d t)) n.1)

-- how the items of a line of so many items stand, by what is behind its `#`
abbrev pub by_hash : ℕ → Option (List Stored) → List Standing
by_hash n None = replicate n Outside
by_hash n (Some behind) = replicate (n - length behind - 1) Outside ++ Begins ∷ replicate (length behind) Inside

-- none but the first of these items begins its line
abbrev pub IsLine : List Stored → Type 0
IsLine [] = Unit {0}
IsLine (t ∷ ts) = NoneBegins ts

as_line : (ts : List Stored) → NoneBegins ts → IsLine ts
as_line [] n = tt
as_line (t ∷ ts) n = n.1

start_here : (t : Stored) → place_here LineStart t ≡ LineStart
start_here t = line_start t.gap.began

comment_stands : (kind : ItemKind) (s : List ℕ) → is_comment kind ≡ true → standing_at LineStart kind s ≡ Outside
comment_stands BlockComment s h = refl
comment_stands LineComment s h = refl
comment_stands _ s h = cc

past_comment_here : (d : Dialect) (kind : ItemKind) (s : List ℕ) → is_comment kind ≡ true → past_item d LineStart kind s ≡ LineStart
past_comment_here d BlockComment s h = refl
past_comment_here d LineComment s h = refl
past_comment_here d _ s h = cc

hash_place : (d : Dialect) (kind : ItemKind) (s : List ℕ) → (is_punct kind && is_hash s) ≡ true → past_item d LineStart kind s ≡ AfterHash
hash_place d Punct s h = let e : is_hash s ≡ true = h in rw e refl
hash_place d _ s h = cc

text_place : (d : Dialect) (kind : ItemKind) (s : List ℕ) → is_comment kind ≡ false → (is_punct kind && is_hash s) ≡ false → past_item d LineStart kind s ≡ InText
text_place d Punct s c h = let e : is_hash s ≡ false = h in rw e refl
text_place d BlockComment s c h = cc
text_place d LineComment s c h = cc
text_place d _ s c h = refl

more_by_hash : (n : ℕ) (o : Option (List Stored)) → ((behind : List Stored) → o ≡ Some behind → length behind < n) → Outside ∷ by_hash n o ≡ by_hash (suc n) o
more_by_hash n None h = refl
more_by_hash n (Some behind) h =
    let less : length behind < n = h behind refl in
    let e : suc n - length behind - 1 ≡ suc (n - length behind - 1) = omega arith in
    rw e refl

-- the items of a line stand as what is behind its `#` says
pub go_line : (d : Dialect) (ts rest : List Stored) → IsLine ts → Go d LineStart ts rest (by_hash (length ts) (behind_hash d ts))
go_line d [] rest n = (LineStart, refl)
go_line d (t ∷ ts) rest n = elim (cases_Bool (is_comment t.kind)) [
  | inl comment ↦
      let same : behind_hash d (t ∷ ts) ≡ behind_hash d ts = rw comment refl in
      let more = more_by_hash (length ts) (behind_hash d ts) (λ behind is. behind_shorter d ts behind is) in
      let onward : Go d (past_item d LineStart t.kind (spelling d t)) ts rest (by_hash (length ts) (behind_hash d ts)) =
      subst (λ z. Go d z ts rest (by_hash (length ts) (behind_hash d ts))) (sym (past_comment_here d t.kind (spelling d t) comment)) (go_line d ts rest (as_line ts n)) in
      let all : Go d LineStart (t ∷ ts) rest (Outside ∷ by_hash (length ts) (behind_hash d ts)) =
      step d LineStart LineStart t ts rest Outside (by_hash (length ts) (behind_hash d ts)) (start_here t) (comment_stands t.kind (spelling d t) comment) onward in
      subst (λ z. Go d LineStart (t ∷ ts) rest z) (more ∙ ap (by_hash (suc (length ts))) (sym same)) all
  | inr code ↦ elim (cases_Bool (is_hash_token d t)) [
    | inl hash ↦
        let same : behind_hash d (t ∷ ts) ≡ Some ts = rw (code, hash) refl in
        let none : suc (length ts) - length ts - 1 ≡ 0 = omega arith in
        let begins : standing_at LineStart t.kind (spelling d t) ≡ Begins = rw hash refl in
        let onward : Go d (past_item d LineStart t.kind (spelling d t)) ts rest (replicate (length ts) Inside) =
        subst (λ z. Go d z ts rest (replicate (length ts) Inside)) (sym (hash_place d t.kind (spelling d t) hash)) (go_inside d AfterHash ts rest refl n) in
        let all : Go d LineStart (t ∷ ts) rest (Begins ∷ replicate (length ts) Inside) =
        step d LineStart LineStart t ts rest Begins (replicate (length ts) Inside) (start_here t) begins onward in
        let is : Begins ∷ replicate (length ts) Inside ≡ by_hash (suc (length ts)) (Some ts) = rw none refl in
        subst (λ z. Go d LineStart (t ∷ ts) rest z) (is ∙ ap (by_hash (suc (length ts))) (sym same)) all
    | inr other ↦
        let same : behind_hash d (t ∷ ts) ≡ None = rw (code, other) refl in
        let outside : standing_at LineStart t.kind (spelling d t) ≡ Outside = rw other refl in
        let onward : Go d (past_item d LineStart t.kind (spelling d t)) ts rest (replicate (length ts) Outside) =
        go_text d (past_item d LineStart t.kind (spelling d t)) ts rest (text_place d t.kind (spelling d t) code other) n in
        let all : Go d LineStart (t ∷ ts) rest (Outside ∷ replicate (length ts) Outside) =
        step d LineStart LineStart t ts rest Outside (replicate (length ts) Outside) (start_here t) outside onward in
        subst (λ z. Go d LineStart (t ∷ ts) rest z) (ap (by_hash (suc (length ts))) (sym same)) all
  ]
]

-- The lines.

-- the first of these items, if there is one, stands at the start of a line
abbrev pub StartsLine : Place → List Stored → Type 0
StartsLine place [] = Unit {0}
StartsLine place (t ∷ ts) = place_here place t ≡ LineStart

tail_none : (ts : List Stored) → NoneBegins (take (tail_len ts) ts)
tail_none [] = tt
tail_none (t ∷ ts) = choice t.gap.began refl (tail_none ts)
  where
    choice : (b : Bool) → t.gap.began ≡ b → NoneBegins (take (tail_len ts) ts) → NoneBegins (take (if b then 0 else suc (tail_len ts)) (t ∷ ts))
    choice true e more = tt
    choice false e more = (e, more)

tail_starts : (place : Place) (ts : List Stored) → StartsLine place (drop (tail_len ts) ts)
tail_starts place [] = tt
tail_starts place (t ∷ ts) = choice t.gap.began refl (tail_starts place ts)
  where
    choice : (b : Bool) → t.gap.began ≡ b → StartsLine place (drop (tail_len ts) ts) → StartsLine place (drop (if b then 0 else suc (tail_len ts)) (t ∷ ts))
    choice true e more = rw e refl
    choice false e more = more

two_texts : (at end last : ℕ) → at ≤ end → end ≤ last → replicate (last - at) Outside ≡ replicate (end - at) Outside ++ replicate (last - end) Outside
two_texts at end last a b = let e : last - at ≡ (end - at) + (last - end) = omega arith in rw e (sym (replicate-append-replicate (end - at) (last - end) Outside))

text_stands : (at end len : ℕ) (rest : List Section) → at ≤ end → IsCut end len rest → standings (text_before at end rest) ≡ replicate (end - at) Outside ++ standings rest
text_stands at end len [] h cut = refl
text_stands at end len (Text first last ∷ rest) h cut =
    let later : end ≤ last = omega (arith, cut.0, cut.1) in
    rw cut.0 (ap (λ z. z ++ standings rest) (two_texts at end last h later) ∙ append_assoc (replicate (end - at) Outside) (replicate (last - end) Outside) (standings rest))
text_stands at end len (Dir dir ∷ rest) h cut = refl

-- the sections of a line and what is behind it
line_stands : (d : Dialect) (at end len n : ℕ) (o : Option (List Stored)) (rest : List Section) → end ≡ at + n → ((behind : List Stored) → o ≡ Some behind → length behind < n) → IsCut end len rest
    → standings (line_before d at end o rest) ≡ by_hash n o ++ standings rest
line_stands d at end len n None rest is h cut =
    let order : at ≤ end = omega arith in
    let long : end - at ≡ n = omega arith in
    text_stands at end len rest order cut ∙ rw long refl
line_stands d at end len n (Some behind) rest is h cut =
    let less : length behind < n = h behind refl in
    let before : (end - length behind - 1) - at ≡ n - length behind - 1 = omega arith in
    let after : end - ((end - length behind - 1) + 1) ≡ length behind = omega arith in
    rw (before, after) refl

sections_stand : (d : Dialect) (fuel : ℕ) (ts : List Stored) (at : ℕ) (place : Place) → length ts ≤ fuel → StartsLine place ts → stands d place ts ≡ standings (sections_from d at (lines_of ts))
sections_stand d fuel [] at place h s = refl
sections_stand d zero (t ∷ ts) at place h s = absurd (omega arith)
sections_stand d (suc fuel) (t ∷ ts) at place h s =
    let k = tail_len ts in
    let line : List Stored = t ∷ take k ts in
    let rest = drop k ts in
    let whole : line ++ rest ≡ t ∷ ts = ap (λ z. t ∷ z) (take-append-drop k ts) in
    let at_start : stands d place (t ∷ ts) ≡ stands d LineStart (t ∷ ts) = let e : place_here place t ≡ place_here LineStart t = s ∙ sym (start_here t) in rw e refl in
    let go : Go d LineStart line rest (by_hash (length line) (behind_hash d line)) = go_line d line rest (tail_none ts) in
    let shorter : length rest ≤ fuel = omega (arith, length-drop k ts) in
    let onward : stands d go.0 rest ≡ standings (sections_from d (at + length line) (lines_of rest)) = sections_stand d fuel rest (at + length line) go.0 shorter (tail_starts go.0 ts) in
    let cut = cut_from d rest (at + length line) in
    let here : standings (line_before d at (at + length line) (behind_hash d line) (sections_from d (at + length line) (lines_of rest))) ≡ by_hash (length line) (behind_hash d line) ++ standings (sections_from d (at + length line) (lines_of rest)) =
    line_stands d at (at + length line) (at + length line + length rest) (length line) (behind_hash d line) (sections_from d (at + length line) (lines_of rest)) refl (λ behind is. behind_shorter d line behind is) cut in
    at_start ∙ (ap (stands d LineStart) (sym whole) ∙ (go.1 ∙ (ap (λ z. by_hash (length line) (behind_hash d line) ++ z) onward ∙ (sym here ∙ ap (λ z. standings (sections_from d at z)) (sym (lines_line t ts))))))

starts_file : (ts : List Stored) → StartsLine LineStart ts
starts_file [] = tt
starts_file (t ∷ ts) = start_here t

-- The law.

pub sections_say_how_items_stand : SectionsSayHowItemsStand
sections_say_how_items_stand arena held =
    let d = arena.dialect in
    let text = arena.text in
    let mark : HasMark text = mark_of text in
    let front = take (mark_len text) text in
    let body = drop (mark_len text) text in
    let bytes : AreParted d text (length front) body held.items = parted d text front body LineStart held.items held.last mark.whole (ap (λ z. chars d z body) mark.long ∙ held.lexes.whole) held.lexes.reads in
    let kept : map standing_of (parts_of d LineStart (map piece_of held.items)) ≡ stands d LineStart (stored_items text held.items) = parts_stand d text body (length front) LineStart true (mark_len text) held.items (λ e. refl) bytes in
    kept ∙ (ap (stands d LineStart) (sym held.tokens) ∙ sections_stand d (length arena.tokens) arena.tokens 0 LineStart (omega arith) (starts_file arena.tokens))

pub outside_is_at_no_directive : OutsideIsAtNoDirective
outside_is_at_no_directive place gap kind s e = by_place place (sym (standing_is place gap kind s) ∙ e)
  where
    by_place : (place : Place) → standing_at place kind s ≡ Outside → in_directive place ≡ false
    by_place LineStart f = refl
    by_place InText f = refl
    by_place AfterHash f = cc
    by_place AfterInclude f = cc
    by_place AfterDefine f = cc
    by_place AfterMacroName f = cc
    by_place InDirective f = cc

pub inside_is_on_one_line : InsideIsOnOneLine
inside_is_on_one_line place gap kind s e = by_line (list_any is_new_line gap) (sym (standing_is (past_gap place gap) gap kind s) ∙ e)
  where
    first_stands : (b : Bool) → (if b then Begins else Outside) ≡ Inside → true ≡ false
    first_stands true f = cc
    first_stands false f = cc

    by_line : (b : Bool) → standing_at (if b then LineStart else place) kind s ≡ Inside → b ≡ false
    by_line true f = first_stands (is_punct kind && is_hash s) f
    by_line false f = refl
