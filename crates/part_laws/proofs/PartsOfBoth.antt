-- What the items of a first part, and those behind it, are in the view of both: what they are by themselves.
use Rattle.std.proofs.Common.{◌≡◌, ◌∙◌, ◌⊎◌, inl, inr, ℕ, suc, ◌+◌, ◌≤◌, Bool, true, false, not, ◌||◌, List, [], ◌∷◌}
use Rattle.std.proofs.Common.{◌++◌, length, get_or, refl, sym, ap, subst, arith}
use Rattle.std.specs.Prelude.{if◌then◌else◌, ⊤}
use Rattle.std.proofs.lemmas.Bool.{cases_Bool}
use Rattle.std.proofs.lemmas.List.{map-append, length-map, get_or-append-add}
use Rattle.std.proofs.Math.ListN.{get_or-append}
use Rattle.token_arena.specs.Gaps.{Contents, item_began}
use Rattle.token_classes.specs.declared.class.TokenClass.{TokenClass}
use Rattle.token_classes.specs.declared.class.TokenClass.TheVariants.{Nothing, LineComment, BlockComment}
use Rattle.token_classes.specs.Classes.{is_comment, is_line_comment, is_word}
use Rattle.item_classes.specs.Viewed.{item_class, classes_of}
use Rattle.item_classes.specs.declared.part.Part.{Part}
use Rattle.item_classes.specs.declared.part.Part.TheVariants.{Token, Own, Trailing, Inner}
use Rattle.unwrapped_lines.specs.Viewed.{parts_from, parts_of}
use Rattle.item_classes.specs.Part.{line_ends_behind, part_of}
use Rattle.part_laws.proofs.FirstPart.{closes_part, last_of, Follows}
use Rattle.part_laws.proofs.Counted.{code_count}

-- ## Where a first part ends

-- the comments before the first of these items that is none began their lines
abbrev pub CommentsBegin : Contents → List ℕ → Type 0
CommentsBegin arena [] = ⊤
CommentsBegin arena (id ∷ ids) = is_comment (item_class arena id) ≡ true → (item_began arena id ≡ true) × CommentsBegin arena ids

word_or_comment : (class : TokenClass) → is_word class ≡ true → is_comment class ≡ true → ⊥
word_or_comment LineComment word comment = cc
word_or_comment BlockComment word comment = cc
word_or_comment _ word comment = cc

pub comments_begin : (arena : Contents) (ids : List ℕ) → Follows arena ids → CommentsBegin arena ids
comments_begin arena [] follows = tt
comments_begin arena (id ∷ ids) follows = λ comment. (
  follows.0,
  elim follows.1 [ inl word ↦ absurd (word_or_comment (item_class arena id) word comment) | inr on ↦ comments_begin arena ids on.1 ],
)

-- the last of these items is no comment, or it is known where there are none
abbrev pub ends_code : Contents → Bool → List ℕ → Bool
ends_code arena last [] = last
ends_code arena last (id ∷ ids) = ends_code arena (not (is_comment (item_class arena id))) ids

closer_is_code : (class : TokenClass) → closes_part class ≡ true → not (is_comment class) ≡ true
closer_is_code LineComment closes = cc
closer_is_code BlockComment closes = cc
closer_is_code _ closes = refl

ends_behind : (arena : Contents) (ids : List ℕ) (last : TokenClass) → closes_part (last_of last (classes_of arena ids)) ≡ true
    → ends_code arena (not (is_comment last)) ids ≡ true
ends_behind arena [] last closes = closer_is_code last closes
ends_behind arena (id ∷ ids) last closes = ends_behind arena ids (item_class arena id) closes

pub ends_in_code : (arena : Contents) (ids : List ℕ) → closes_part (last_of Nothing (classes_of arena ids)) ≡ true → ends_code arena false ids ≡ true
ends_in_code arena [] closes = cc
ends_in_code arena (id ∷ ids) closes = ends_behind arena ids (item_class arena id) closes

-- ## Tokens among parts

abbrev pub is_token : Part → Bool
is_token Token = true
is_token _ = false

abbrev pub tokens_in : List Part → ℕ
tokens_in [] = 0
tokens_in (part ∷ parts) = if is_token part then suc (tokens_in parts) else tokens_in parts

-- the last is a token, or it is known where there are none
abbrev pub ends_token : Bool → List Part → Bool
ends_token last [] = last
ends_token last (part ∷ parts) = ends_token (is_token part) parts

comment_apart : (started began line : Bool) → is_token (if started then Own else (if began then Trailing else Inner)) ≡ false
comment_apart true began line = refl
comment_apart false true line = refl
comment_apart false false line = refl

token_is : (arena : Contents) (id : ℕ) (started : Bool) (class : TokenClass) → is_token (part_of arena id started class) ≡ not (is_comment class)
token_is arena id started class = by (cases_Bool (is_comment class))
  where
    by : (is_comment class ≡ true) ⊎ (is_comment class ≡ false) → is_token (part_of arena id started class) ≡ not (is_comment class)
    by (inl comment) = rw comment (comment_apart (not started || item_began arena id) (is_line_comment class || line_ends_behind arena id) true)
    by (inr code) = rw code refl

pub ends_so : (arena : Contents) (ids rest : List ℕ) (k : ℕ) (last started : Bool)
    → ends_token last (parts_from arena ids k started (classes_of arena rest)) ≡ ends_code arena last rest
ends_so arena ids [] k last started = refl
ends_so arena ids (id ∷ rest) k last started =
    let class : TokenClass = item_class arena id in
    ap (λ (b : Bool). ends_token b (parts_from arena ids (k + 1) (started || not (is_comment class)) (classes_of arena rest)))
    (token_is arena (get_or ids k 0) started class)
    ∙ ends_so arena ids rest (k + 1) (not (is_comment class)) (started || not (is_comment class))

count_one : (comment : Bool) (n m : ℕ) → n ≡ m → (if not comment then suc n else n) ≡ (if comment then m else suc m)
count_one true n m e = e
count_one false n m e = ap suc e

pub tokens_so : (arena : Contents) (ids : List ℕ) (k : ℕ) (started : Bool) (classes : List TokenClass)
    → tokens_in (parts_from arena ids k started classes) ≡ code_count classes
tokens_so arena ids k started [] = refl
tokens_so arena ids k started (class ∷ classes) =
    let rest : List Part = parts_from arena ids (k + 1) (started || not (is_comment class)) classes in
    ap (λ (b : Bool). if b then suc (tokens_in rest) else tokens_in rest) (token_is arena (get_or ids k 0) started class)
    ∙ count_one (is_comment class) (tokens_in rest) (code_count classes) (tokens_so arena ids (k + 1) (started || not (is_comment class)) classes)

-- ## Both

-- a token that is no comment stands before the place behind these
abbrev started_behind : Bool → List TokenClass → Bool
started_behind started [] = started
started_behind started (class ∷ classes) = started_behind (started || not (is_comment class)) classes

parts_on : (arena : Contents) (ids : List ℕ) (k : ℕ) (started : Bool) (xs ys : List TokenClass)
    → parts_from arena ids k started (xs ++ ys) ≡ parts_from arena ids k started xs ++ parts_from arena ids (k + length xs) (started_behind started xs) ys
parts_on arena ids k started [] ys =
    let same : k ≡ k + 0 = omega arith in
    ap (λ (j : ℕ). parts_from arena ids j started ys) same
parts_on arena ids k started (x ∷ xs) ys =
    let same : k + 1 + length xs ≡ k + length (x ∷ xs) = omega arith in
    let next : Bool = started || not (is_comment x) in
    ap (λ (ps : List Part). part_of arena (get_or ids k 0) started x ∷ ps)
    (parts_on arena ids (k + 1) next xs ys ∙ ap (λ (j : ℕ). parts_from arena ids (k + 1) next xs ++ parts_from arena ids j (started_behind next xs) ys) same)

parts_before : (arena : Contents) (ids later : List ℕ) (k : ℕ) (started : Bool) (classes : List TokenClass) → k + length classes ≤ length ids
    → parts_from arena (ids ++ later) k started classes ≡ parts_from arena ids k started classes
parts_before arena ids later k started [] within = refl
parts_before arena ids later k started (class ∷ classes) within =
    let next : Bool = started || not (is_comment class) in
    ap (λ (id : ℕ). part_of arena id started class ∷ parts_from arena (ids ++ later) (k + 1) next classes) (get_or-append ids later 0 k (omega (arith, within)))
    ∙ ap (λ (ps : List Part). part_of arena (get_or ids k 0) started class ∷ ps) (parts_before arena ids later (k + 1) next classes (omega (arith, within)))

parts_behind : (arena : Contents) (early ids : List ℕ) (k : ℕ) (started : Bool) (classes : List TokenClass)
    → parts_from arena (early ++ ids) (length early + k) started classes ≡ parts_from arena ids k started classes
parts_behind arena early ids k started [] = refl
parts_behind arena early ids k started (class ∷ classes) =
    let next : Bool = started || not (is_comment class) in
    let on : length early + k + 1 ≡ length early + (k + 1) = omega arith in
    ap (λ (id : ℕ). part_of arena id started class ∷ parts_from arena (early ++ ids) (length early + k + 1) next classes) (get_or-append-add early ids k 0)
    ∙ ap (λ (ps : List Part). part_of arena (get_or ids k 0) started class ∷ ps)
    (ap (λ (j : ℕ). parts_from arena (early ++ ids) j next classes) on ∙ parts_behind arena early ids (k + 1) next classes)

-- comments that began their lines are on lines of their own, whatever stands before them
own_either : (arena : Contents) (id : ℕ) (class : TokenClass) → is_comment class ≡ true → item_began arena id ≡ true
    → part_of arena id true class ≡ part_of arena id false class
own_either arena id class comment began =
    rw (comment, began) refl

started_step : (arena : Contents) (ids rest : List ℕ) (k id : ℕ) → ((j : ℕ) → get_or ids (k + j) 0 ≡ get_or (id ∷ rest) j 0) → CommentsBegin arena (id ∷ rest)
    → (((j : ℕ) → get_or ids (k + 1 + j) 0 ≡ get_or rest j 0) → CommentsBegin arena rest
    → parts_from arena ids (k + 1) true (classes_of arena rest) ≡ parts_from arena ids (k + 1) false (classes_of arena rest))
    → parts_from arena ids k true (classes_of arena (id ∷ rest)) ≡ parts_from arena ids k false (classes_of arena (id ∷ rest))
started_step arena ids rest k id same begin on = by (cases_Bool (is_comment class))
  where
    class : TokenClass
    class = item_class arena id

    none : k + 0 ≡ k
    none = omega arith

    here : get_or ids k 0 ≡ id
    here = subst (λ (i : ℕ). get_or ids i 0 ≡ id) none (same 0)

    later : (j : ℕ) → get_or ids (k + 1 + j) 0 ≡ get_or rest j 0
    later j = (let one : k + suc j ≡ k + 1 + j = omega arith in subst (λ (i : ℕ). get_or ids i 0 ≡ get_or rest j 0) one (same (suc j)))

    by : (is_comment class ≡ true) ⊎ (is_comment class ≡ false)
        → parts_from arena ids k true (class ∷ classes_of arena rest) ≡ parts_from arena ids k false (class ∷ classes_of arena rest)
    by (inl comment) =
        let began = begin comment in
        let item : item_began arena (get_or ids k 0) ≡ true = ap (item_began arena) here ∙ began.0 in
        ap (λ (p : Part). p ∷ parts_from arena ids (k + 1) true (classes_of arena rest)) (own_either arena (get_or ids k 0) class comment item)
        ∙ (ap (λ (ps : List Part). part_of arena (get_or ids k 0) false class ∷ ps) (on later began.1)
        ∙ ap (λ (b : Bool). part_of arena (get_or ids k 0) false class ∷ parts_from arena ids (k + 1) (not b) (classes_of arena rest)) (sym comment))
    by (inr code) = rw code refl

parts_started : (arena : Contents) (ids rest : List ℕ) (k : ℕ) → ((j : ℕ) → get_or ids (k + j) 0 ≡ get_or rest j 0) → CommentsBegin arena rest
    → parts_from arena ids k true (classes_of arena rest) ≡ parts_from arena ids k false (classes_of arena rest)
parts_started arena ids [] k same begin = refl
parts_started arena ids (id ∷ rest) k same begin = started_step arena ids rest k id same begin (λ later began. parts_started arena ids rest (k + 1) later began)

or_later : (a b : Bool) → b ≡ true → (a || b) ≡ true
or_later true b e = refl
or_later false b e = e

starts : (arena : Contents) (ids : List ℕ) (last started : Bool) → (last ≡ true → started ≡ true) → ends_code arena last ids ≡ true
    → started_behind started (classes_of arena ids) ≡ true
starts arena [] last started so e = so e
starts arena (id ∷ ids) last started so e =
    let code : Bool = not (is_comment (item_class arena id)) in
    starts arena ids code (started || code) (λ f. or_later started code f) e

pub parts_of_both : (arena : Contents) (earlier later : List ℕ) → ends_code arena false earlier ≡ true → CommentsBegin arena later
    → parts_of arena (earlier ++ later) (classes_of arena (earlier ++ later))
    ≡ parts_of arena earlier (classes_of arena earlier) ++ parts_of arena later (classes_of arena later)
parts_of_both arena earlier later ends begin =
    ap (parts_of arena (earlier ++ later)) (map-append (item_class arena) earlier later)
    ∙ (parts_on arena (earlier ++ later) 0 false ce cl
    ∙ (ap (λ (ps : List Part). ps ++ parts_from arena (earlier ++ later) (0 + length ce) (started_behind false ce) cl)
    (parts_before arena earlier later 0 false ce (omega (arith, many)))
    ∙ ap (λ (ps : List Part). parts_of arena earlier ce ++ ps) second))
  where
    ce : List TokenClass
    ce = classes_of arena earlier

    cl : List TokenClass
    cl = classes_of arena later

    many : length ce ≡ length earlier
    many = length-map earlier (item_class arena)

    second : parts_from arena (earlier ++ later) (0 + length ce) (started_behind false ce) cl ≡ parts_of arena later cl
    second =
        let place : 0 + length ce ≡ length earlier + 0 = omega (arith, many) in
        ap (λ (k : ℕ). parts_from arena (earlier ++ later) k (started_behind false ce) cl) place
        ∙ (parts_behind arena earlier later 0 (started_behind false ce) cl
        ∙ (ap (λ (b : Bool). parts_from arena later 0 b cl) (starts arena earlier false false (λ e. e) ends)
        ∙ parts_started arena later later 0 (λ j. (let same : 0 + j ≡ j = omega arith in ap (λ (i : ℕ). get_or later i 0) same)) begin))
