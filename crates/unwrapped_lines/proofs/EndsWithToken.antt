-- Behind its last token no line begins, whatever the level at the view's end.
use Rattle.std.proofs.Common.{◌≡◌, ◌∙◌, ℕ, suc, ◌+◌, ◌-◌, ◌<◌, Bool, true, false, not, nat_le, ◌||◌, Option, None, Some}
use Rattle.std.proofs.Common.{List, [], ◌∷◌, ◌++◌, length, get_or, slice_get, refl, arith, ap, sym}
use Rattle.std.specs.Prelude.{if◌then◌else◌}
use Rattle.token_arena.specs.Gaps.{Contents, item_began}
use Rattle.token_classes.specs.declared.class.TokenClass.{TokenClass}
use Rattle.token_classes.specs.Classes.{is_comment, is_line_comment}
use Rattle.line_tokens.specs.declared.line.LineKind.TheVariants.{Comment}
use Rattle.statement_lines.specs.declared.line.Line.{Line}
use Rattle.unwrapped_lines.specs.declared.part.Begin.{Begin}
use Rattle.unwrapped_lines.specs.declared.part.Marks.{Marks}
use Rattle.item_classes.specs.declared.part.Part.{Part}
use Rattle.item_classes.specs.declared.part.Part.TheVariants.{Token, Own, Trailing, Inner}
use Rattle.unwrapped_lines.specs.Comments.{Tree, begins_from, between_at, list_of, new_begin, next_marks, own_level}
use Rattle.unwrapped_lines.specs.Viewed.{code_places_from, parts_from}
use Rattle.item_classes.specs.Part.{line_ends_behind, part_of}

-- how many of these are tokens
abbrev pub tokens_in : List Part → ℕ
tokens_in [] = 0
tokens_in (Token ∷ ps) = 1 + tokens_in ps
tokens_in (Own ∷ ps) = tokens_in ps
tokens_in (Trailing ∷ ps) = tokens_in ps
tokens_in (Inner ∷ ps) = tokens_in ps

-- a token stands last, or nothing stands here
abbrev pub EndInToken : List Part → Type 0
EndInToken [] = Unit {0}
EndInToken (p ∷ []) = 0 < tokens_in (p ∷ [])
EndInToken (p ∷ q ∷ ps) = EndInToken (q ∷ ps)

abbrev tree : List Line → ℕ → ℕ → Tree
tree lines total level = record { lines = lines; total = total; end_level = level }

some_token : (p : Part) (ps : List Part) → EndInToken (p ∷ ps) → 0 < tokens_in (p ∷ ps)
some_token p [] h = h
some_token Token (q ∷ ps) h = omega arith
some_token Own (q ∷ ps) h = some_token q ps h
some_token Trailing (q ∷ ps) h = some_token q ps h
some_token Inner (q ∷ ps) h = some_token q ps h

more_tokens : (p : Part) (ps : List Part) → EndInToken (p ∷ ps) → EndInToken ps
more_tokens p [] h = tt
more_tokens p (q ∷ ps) h = h

some_left : (ps : List Part) → EndInToken (Own ∷ ps) → 0 < tokens_in ps
some_left [] h = absurd (omega (arith, h))
some_left (q ∷ ps) h = some_token q ps h

own_begin : (lines : List Line) (total level other k : ℕ) (ps : List Part) (m : Marks) (o : Option Line) → slice_get lines m.begun ≡ o → m.seen < total
    → new_begin (tree lines total level) k Own ps m ≡ new_begin (tree lines total other) k Own ps m
own_begin lines total level other k ps m None e left =
    let choose : ℕ → Bool → Option Begin = λ n b. elim b [ false ↦ None | true ↦ Some (record { first = k; level = n; kind = Comment }) ] in
    let made : ℕ → Option Line → Option Begin = λ n o. elim (between_at total m.seen o) [ false ↦ None | true ↦ Some (record { first = k; level = own_level n o; kind = Comment }) ] in
    let on : nat_le total m.seen ≡ false = grind (arith, left) in
    ap (made level) e ∙ (ap (choose level) on ∙ (sym (ap (choose other) on) ∙ sym (ap (made other) e)))
own_begin lines total level other k ps m (Some l) e left =
    let made : ℕ → Option Line → Option Begin = λ n o. elim (between_at total m.seen o) [ false ↦ None | true ↦ Some (record { first = k; level = own_level n o; kind = Comment }) ] in
    ap (made level) e ∙ sym (ap (made other) e)

-- where a token stands last, the level at the end says nothing
pub same_begins : (lines : List Line) (total level other : ℕ) (ps : List Part) (k : ℕ) (m : Marks) → EndInToken ps → m.seen + tokens_in ps ≡ total
    → begins_from (tree lines total level) ps k m ≡ begins_from (tree lines total other) ps k m
same_begins lines total level other [] k m ends all = refl
same_begins lines total level other (Token ∷ ps) k m ends all =
    let t = tree lines total level in
    let one : m.seen + 1 + tokens_in ps ≡ total = omega (arith, all) in
    ap (λ (bs : List Begin). list_of (new_begin t k Token ps m) ++ bs) (same_begins lines total level other ps (k + 1) (next_marks t Token ps m) (more_tokens Token ps ends) one)
same_begins lines total level other (Own ∷ ps) k m ends all =
    let t = tree lines total level in
    let left : m.seen < total = let some = some_left ps ends in omega (arith, some, all) in
    ap (λ (o : Option Begin). list_of o ++ begins_from t ps (k + 1) (next_marks t Own ps m)) (own_begin lines total level other k ps m (slice_get lines m.begun) refl left)
    ∙ ap (λ (bs : List Begin). list_of (new_begin (tree lines total other) k Own ps m) ++ bs) (same_begins lines total level other ps (k + 1) (next_marks t Own ps m) (more_tokens Own ps ends) all)
same_begins lines total level other (Trailing ∷ ps) k m ends all =
    let t = tree lines total level in
    ap (λ (bs : List Begin). list_of (new_begin t k Trailing ps m) ++ bs) (same_begins lines total level other ps (k + 1) (next_marks t Trailing ps m) (more_tokens Trailing ps ends) all)
same_begins lines total level other (Inner ∷ ps) k m ends all =
    let t = tree lines total level in
    ap (λ (bs : List Begin). list_of (new_begin t k Inner ps m) ++ bs) (same_begins lines total level other ps (k + 1) (next_marks t Inner ps m) (more_tokens Inner ps ends) all)

-- ## The parts of a view

comment_counts : (began started line : Bool) (ps : List Part) → tokens_in ((if (not started || began) then Own else (if line then Trailing else Inner)) ∷ ps) ≡ tokens_in ps
comment_counts true true true ps = refl
comment_counts true true false ps = refl
comment_counts true false true ps = refl
comment_counts true false false ps = refl
comment_counts false true true ps = refl
comment_counts false true false ps = refl
comment_counts false false true ps = refl
comment_counts false false false ps = refl

token_part : (arena : Contents) (id : ℕ) (started : Bool) (c : TokenClass) → is_comment c ≡ false → part_of arena id started c ≡ Token
token_part arena id started c is = rw (is, part_of) refl

comment_part : (arena : Contents) (id : ℕ) (started : Bool) (c : TokenClass) → is_comment c ≡ true
    → part_of arena id started c ≡ (if (not started || item_began arena id) then Own else (if (is_line_comment c || line_ends_behind arena id) then Trailing else Inner))
comment_part arena id started c is = rw (is, part_of) refl

pub tokens_count : (arena : Contents) (ids : List ℕ) (k : ℕ) (started : Bool) (cs : List TokenClass) → tokens_in (parts_from arena ids k started cs) ≡ length (code_places_from k cs)
tokens_count arena ids k started [] = refl
tokens_count arena ids k started (c ∷ cs) =
    let id = get_or ids k 0 in
    let on = (started || not (is_comment c)) in
    let later = parts_from arena ids (k + 1) on cs in
    let rest : tokens_in later ≡ length (code_places_from (k + 1) cs) = tokens_count arena ids (k + 1) on cs in
    elim (is_comment c) as (λ x. is_comment c ≡ x → tokens_in (part_of arena id started c ∷ later) ≡ length (if x then code_places_from (k + 1) cs else k ∷ code_places_from (k + 1) cs)) [
      | true ↦ λ is.
          ap (λ (p : Part). tokens_in (p ∷ later)) (comment_part arena id started c is)
          ∙ (comment_counts (item_began arena id) started (is_line_comment c || line_ends_behind arena id) later ∙ rest)
      | false ↦ λ is. let one = ap (λ (p : Part). tokens_in (p ∷ later)) (token_part arena id started c is) in omega (arith, one, rest)
    ] refl

last_place : (c d : TokenClass) (cs : List TokenClass) → length (c ∷ d ∷ cs) - 1 ≡ suc (length (d ∷ cs) - 1)
last_place c d cs = omega arith

pub end_in_token : (arena : Contents) (ids : List ℕ) (k : ℕ) (started : Bool) (cs : List TokenClass) (blank : TokenClass) → is_comment (get_or cs (length cs - 1) blank) ≡ false → EndInToken (parts_from arena ids k started cs)
end_in_token arena ids k started [] blank is = tt
end_in_token arena ids k started (c ∷ []) blank is =
    let one = ap (λ (p : Part). tokens_in (p ∷ [])) (token_part arena (get_or ids k 0) started c is) in
    omega (arith, one)
end_in_token arena ids k started (c ∷ d ∷ cs) blank is =
    let last : is_comment (get_or (d ∷ cs) (length (d ∷ cs) - 1) blank) ≡ false = sym (ap (λ n. is_comment (get_or (c ∷ d ∷ cs) n blank)) (last_place c d cs)) ∙ is in
    end_in_token arena ids (k + 1) (started || not (is_comment c)) (d ∷ cs) blank last
