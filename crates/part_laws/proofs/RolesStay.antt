-- The roles of a view are those of what stands between the ends of its declarations, its parts.
use Rattle.std.proofs.Common.{◌≡◌, ◌∙◌, ◌==◌, ℕ, zero, suc, ◌+◌, ◌-◌, ◌<◌, ◌≤◌, Bool, true, false, not, ◌&&◌, ◌||◌}
use Rattle.std.proofs.Common.{nat_lt, Option, Some, None, List, [], ◌∷◌, ◌++◌, length, get_or, take, drop, refl, sym}
use Rattle.std.proofs.Common.{ap, subst, arith, inl, inr, ◌⊎◌}
use Rattle.std.specs.Prelude.{if◌then◌else◌, slice_range}
use Rattle.std.proofs.lemmas.Bool.{and_from, le-ltb, lt-ltb, ltb-false}
use Rattle.std.proofs.lemmas.List.Elements.{All-drop}
use Rattle.std.proofs.lemmas.List.{append-nil, drop_all, drop-drop, get_or-append-add, get_or-drop, length-append}
use Rattle.std.proofs.lemmas.List.{length-drop, length-map, take_all}
use Rattle.std.proofs.Math.ListN.{get_or-append}
use Rattle.std.proofs.Math.Seq.{take-append_seam, drop-append_seam}
use Rattle.line_tokens.specs.declared.LineTok.{LineTok}
use Rattle.line_tokens.specs.declared.line.ULine.{ULine}
use Rattle.line_tokens.specs.Lines.{CutPlaces}
use Rattle.style_table.specs.declared.style.Style.{Style}
use Rattle.token_arena.specs.Gaps.{Contents, item_began}
use Rattle.token_classes.specs.declared.class.TokenClass.{TokenClass}
use Rattle.token_classes.specs.declared.class.TokenClass.TheVariants.{Nothing, LineComment, BlockComment}
use Rattle.token_classes.specs.Classes.{is_comment, is_word}
use Rattle.item_classes.specs.Viewed.{AreWithin, item_class, classes_of}
use Rattle.unwrapped_lines.proofs.Started.{lines_cut_views}
use Rattle.token_roles.specs.declared.mark.Mark.{Mark}
use Rattle.view_tokens.specs.Tokens.{toks_from}
use Rattle.annotator.specs.Tokens.{roles_of}
use Rattle.item_classes.specs.Items.{stands_apart}
use Rattle.annotator.specs.View.{marks_of}
use Rattle.view_tokens.proofs.Told.{as_many_toks}
use Rattle.part_laws.specs.Declarations.{start, next_end, or_all, first_len, ends_from}
use Rattle.part_laws.specs.LinesCut.{IsFirstPart, partners_in}
use Rattle.unwrapped_lines.specs.Lines.{lines_of_items}
use Rattle.part_laws.proofs.FirstPart.{closes_part, last_of, Follows, IsEnded, first_part, has_first}
use Rattle.part_laws.proofs.LinesStay.{lines_stay}
use Rattle.part_laws.proofs.Matchings.{partners_count}
use Rattle.part_laws.proofs.PartnersStay.{partners_stay}
use Rattle.part_laws.specs.RolesCut.{ItemRun, joined, last_code, comments_begin, with_first_apart, IsCut}
use Rattle.part_laws.specs.Parts.{toks_of_items, toks_of_parts, RolesStay}
use Rattle.part_laws.proofs.Before.{marks_before}
use Rattle.part_laws.proofs.LastToken.{code_is_last, opens_no_list, is_no_round, marks_end}
use Rattle.part_laws.proofs.Toks.{ends_so}
use Rattle.part_laws.proofs.TellsParts.{sights_of, tells_parts}

-- ## A first part may be cut off

abbrev run_of : Style → Contents → List ℕ → ItemRun
run_of style arena ids = record { ids = ids; partners = partners_in arena ids; lines = lines_of_items style arena ids }

word_is_no_comment : (class : TokenClass) → is_word class ≡ true → is_comment class ≡ false
word_is_no_comment LineComment word = cc
word_is_no_comment BlockComment word = cc
word_is_no_comment _ word = refl

begins_one : (arena : Contents) (id : ℕ) (ids : List ℕ) → item_began arena id ≡ true → (is_word (item_class arena id) ≡ true) ⊎ ((is_comment (item_class arena id) ≡ true) × (comments_begin arena ids ≡ true))
    → comments_begin arena (id ∷ ids) ≡ true
begins_one arena id ids began (inl word) = ap (λ (b : Bool). not b || (item_began arena id && comments_begin arena ids)) (word_is_no_comment (item_class arena id) word)
begins_one arena id ids began (inr comment) =
    ap (λ (b : Bool). not b || (item_began arena id && comments_begin arena ids)) comment.0 ∙ and_from (item_began arena id) (comments_begin arena ids) began comment.1

-- comments before the first token of what follows began their lines
begins_so : (arena : Contents) (ids : List ℕ) → Follows arena ids → comments_begin arena ids ≡ true
begins_so arena [] follows = absurd follows
begins_so arena (id ∷ ids) follows =
    begins_one arena id ids follows.0 (elim follows.1 [
      | inl word ↦ inl word
      | inr comment ↦ inr (comment.0, begins_so arena ids comment.1)
    ])

within_earlier : (arena : Contents) (earlier later : List ℕ) → AreWithin arena (earlier ++ later) → AreWithin arena earlier
within_earlier arena earlier later within = λ k d inside.
    subst (λ (id : ℕ). id < length arena.tokens) (get_or-append earlier later d k inside) (within k d (omega (arith, length-append earlier later, inside)))

within_later : (arena : Contents) (earlier later : List ℕ) → AreWithin arena (earlier ++ later) → AreWithin arena later
within_later arena earlier later within = λ k d inside.
    subst (λ (id : ℕ). id < length arena.tokens) (get_or-append-add earlier later k d) (within (length earlier + k) d (omega (arith, length-append earlier later, inside)))

within_rest : (arena : Contents) (first : ℕ) (ids : List ℕ) → AreWithin arena ids → AreWithin arena (drop first ids)
within_rest arena first ids within = All-drop (λ (id : ℕ). id < length arena.tokens) first ids within

some_classes : (arena : Contents) (ids : List ℕ) → closes_part (last_of Nothing (classes_of arena ids)) ≡ true → 0 < length (classes_of arena ids)
some_classes arena [] closes = cc
some_classes arena (id ∷ ids) closes = omega arith

is_cut : (style : Style) (arena : Contents) (earlier later : List ℕ) → AreWithin arena (earlier ++ later) → IsEnded arena earlier later → IsCut arena (run_of style arena earlier) (run_of style arena later)
is_cut style arena earlier later within ended =
    let as_many : length (classes_of arena earlier) ≡ length earlier = length-map earlier (item_class arena) in
    let lines = lines_cut_views style arena earlier (partners_in arena earlier) in
    let code = code_is_last (classes_of arena earlier) ended.ends in
    record {
      earlier_items = within_earlier arena earlier later within;
      later_items = within_later arena earlier later within;
      partners = partners_count (classes_of arena earlier) ∙ as_many;
      earlier_lines = lines;
      later_lines = lines_cut_views style arena later (partners_in arena later);
      opens_list = opens_no_list (last_code Nothing (classes_of arena earlier)) code;
      closes = is_no_round (last_code Nothing (classes_of arena earlier)) code;
      inner = ends_so arena earlier 0 false (marks_of (sights_of arena (run_of style arena earlier)) (lines_of_items style arena earlier))
          ∙ marks_end false (sights_of arena (run_of style arena earlier)) [] Nothing (lines_of_items style arena earlier) 0 (subst (λ (n : ℕ). CutPlaces 0 n (lines_of_items style arena earlier)) (sym as_many) lines) (some_classes arena earlier ended.ends) ended.ends;
      comments = begins_so arena later ended.follows;
    }

-- ## Two parts

toks_of_both : (style : Style) (arena : Contents) (earlier later : List ℕ) → IsFirstPart arena earlier later
    → toks_of_items style arena (earlier ++ later) ≡ toks_of_items style arena earlier ++ with_first_apart (stands_apart (earlier ++ later) (length earlier)) (toks_of_items style arena later)
toks_of_both style arena earlier later is =
    let ids : List ℕ = earlier ++ later in
    ap (λ (partners : List (Option ℕ)). roles_of arena ids partners (lines_of_items style arena ids)) (partners_stay arena earlier later is)
    ∙ (ap (λ (lines : List ULine). roles_of arena ids (joined (run_of style arena earlier) (run_of style arena later)).partners lines) (lines_stay style arena earlier later is)
    ∙ tells_parts arena (run_of style arena earlier) (run_of style arena later) (is_cut style arena earlier later is.within (first_part arena earlier later is)))

-- as many tokens as items
toks_count : (style : Style) (arena : Contents) (ids : List ℕ) → length (toks_of_items style arena ids) ≡ length ids
toks_count style arena ids =
    let run : ItemRun = run_of style arena ids in
    let as_many : length (classes_of arena ids) ≡ length ids = length-map ids (item_class arena) in
    let partners : length (partners_in arena ids) ≡ length ids = partners_count (classes_of arena ids) ∙ as_many in
    let marks : List Mark = marks_of (sights_of arena (run_of style arena ids)) (lines_of_items style arena ids) in
    as_many_toks arena ids marks (toks_of_items style arena ids) refl
    ∙ (marks_before (sights_of arena run) [] [] [] [] Nothing run.lines [] partners as_many (lines_cut_views style arena ids run.partners)).1

apart_append : (apart : Bool) (earlier later : List LineTok) → 0 < length earlier → with_first_apart apart (earlier ++ later) ≡ with_first_apart apart earlier ++ later
apart_append apart [] later some = absurd (omega (arith, some))
apart_append apart (tok ∷ earlier) later some = refl

-- a directive stands before a place of the rest of a view, or doesn't, as before it in the view
apart_in_rest : (ids : List ℕ) (first count : ℕ) → 0 < count → stands_apart (drop first ids) count ≡ stands_apart ids (first + count)
apart_in_rest ids first count some =
    let less : first + (count - 1) ≡ first + count - 1 = omega (arith, some) in
    let both : nat_lt 0 count ≡ nat_lt 0 (first + count) = lt-ltb 0 count some ∙ sym (lt-ltb 0 (first + count) (omega (arith, some))) in
    ap (λ (b : Bool). b && not (get_or (drop first ids) count 0 == get_or (drop first ids) (count - 1) 0 + 1)) both
    ∙ (ap (λ (id : ℕ). nat_lt 0 (first + count) && not (id == get_or (drop first ids) (count - 1) 0 + 1)) (get_or-drop first ids count 0)
    ∙ ap (λ (id : ℕ). nat_lt 0 (first + count) && not (get_or ids (first + count) 0 == id + 1)) (get_or-drop first ids (count - 1) 0 ∙ ap (λ (k : ℕ). get_or ids k 0) less))

-- a first part has an item, and no more than there are
fits : (arena : Contents) (ids : List ℕ) (count : ℕ) → next_end arena start [] ids ≡ Some count → (0 < count) × (count ≤ length ids)
fits arena ids count told =
    let cut = has_first arena ids count told in (
      omega (arith, some_classes arena cut.earlier cut.ended.ends, length-map cut.earlier (item_class arena), cut.counted),
      omega (arith, ap length cut.both, length-append cut.earlier cut.later, cut.counted),
    )

-- the first part of what is left, and what follows it
next_part : (style : Style) (arena : Contents) (ids : List ℕ) (first count : ℕ) (ends : List ℕ) → AreWithin arena ids → next_end arena start [] (drop first ids) ≡ Some count
    → with_first_apart (stands_apart ids (first + count)) (toks_of_items style arena (drop (first + count) ids)) ≡ toks_of_parts style arena ids (first + count) ends
    → with_first_apart (stands_apart ids first) (toks_of_items style arena (drop first ids)) ≡ toks_of_parts style arena ids first ((first + count) ∷ ends)
next_part style arena ids first count ends within told on =
    let cut = has_first arena (drop first ids) count told in
    let apart : Bool = stands_apart ids first in
    let some : 0 < count = (fits arena (drop first ids) count told).0 in
    let many : first + count - first ≡ length cut.earlier = omega (arith, cut.counted) in
    let is : IsFirstPart arena cut.earlier cut.later = record {
      within = subst (λ (xs : List ℕ). AreWithin arena xs) cut.both (within_rest arena first ids within);
      ends = ap (λ (xs : List ℕ). next_end arena start [] xs) (sym cut.both) ∙ (told ∙ ap (λ (n : ℕ). Some n) (sym cut.counted));
    } in
    let here : slice_range ids first (first + count) ≡ cut.earlier =
    ap (λ (n : ℕ). take n (drop first ids)) many ∙ (ap (λ (xs : List ℕ). take (length cut.earlier) xs) cut.both ∙ take-append_seam cut.earlier cut.later) in
    let rest : drop (first + count) ids ≡ cut.later =
    sym (drop-drop count first ids) ∙ (ap (λ (xs : List ℕ). drop count xs) cut.both ∙ (ap (λ (n : ℕ). drop n (cut.earlier ++ cut.later)) (sym cut.counted) ∙ drop-append_seam cut.earlier cut.later)) in
    let there : stands_apart (cut.earlier ++ cut.later) (length cut.earlier) ≡ stands_apart ids (first + count) =
    ap (λ (n : ℕ). stands_apart (cut.earlier ++ cut.later) n) cut.counted ∙ (ap (λ (xs : List ℕ). stands_apart xs count) (sym cut.both) ∙ apart_in_rest ids first count some) in
    ap (λ (xs : List ℕ). with_first_apart apart (toks_of_items style arena xs)) cut.both
    ∙ (ap (with_first_apart apart) (toks_of_both style arena cut.earlier cut.later is)
    ∙ (apart_append apart (toks_of_items style arena cut.earlier) (with_first_apart (stands_apart (cut.earlier ++ cut.later) (length cut.earlier)) (toks_of_items style arena cut.later)) (omega (arith, toks_count style arena cut.earlier, cut.counted, some))
    ∙ (ap (λ (b : Bool). with_first_apart apart (toks_of_items style arena cut.earlier) ++ with_first_apart b (toks_of_items style arena cut.later)) there
    ∙ (ap (λ (xs : List ℕ). with_first_apart apart (toks_of_items style arena cut.earlier) ++ with_first_apart (stands_apart ids (first + count)) (toks_of_items style arena xs)) (sym rest)
    ∙ (ap (λ (toks : List LineTok). with_first_apart apart (toks_of_items style arena cut.earlier) ++ toks) on
    ∙ ap (λ (xs : List ℕ). with_first_apart apart (toks_of_items style arena xs) ++ toks_of_parts style arena ids (first + count) ends) (sym here))))))

-- ## All parts

-- no part begins behind the last item
none_left : (n : ℕ) (arena : Contents) (ids : List ℕ) (first : ℕ) → length ids ≤ first → ends_from n arena ids first ≡ []
none_left zero arena ids first past = refl
none_left (suc n) arena ids first past =
    let none : nat_lt first (length ids) ≡ false = le-ltb first (length ids) past in
    ap (λ (b : Bool). if b then (first + first_len arena (drop first ids)) ∷ ends_from n arena ids (first + first_len arena (drop first ids)) else []) none

-- no token stands there
nothing_left : (style : Style) (arena : Contents) (ids : List ℕ) (first : ℕ) (apart : Bool) → length ids ≤ first → with_first_apart apart (toks_of_items style arena (drop first ids)) ≡ []
nothing_left style arena ids first apart past = ap (λ (xs : List ℕ). with_first_apart apart (toks_of_items style arena xs)) (drop_all first ids past)

-- the last part
last_part : (n : ℕ) (style : Style) (arena : Contents) (ids : List ℕ) (first : ℕ) → first ≤ length ids
    → with_first_apart (stands_apart ids first) (toks_of_items style arena (drop first ids))
    ≡ toks_of_parts style arena ids first ((first + length (drop first ids)) ∷ ends_from n arena ids (first + length (drop first ids)))
last_part n style arena ids first within =
    let rest : List ℕ = drop first ids in
    let end : ℕ = first + length rest in
    let apart : Bool = stands_apart ids first in
    let all : length rest ≤ end - first = omega arith in
    let past : length ids ≤ end = omega (arith, length-drop first ids, within) in
    let row : slice_range ids first end ≡ rest = take_all (end - first) rest all in
    ap (λ (xs : List ℕ). with_first_apart apart (toks_of_items style arena xs)) (sym row)
    ∙ (sym (append-nil (with_first_apart apart (toks_of_items style arena (slice_range ids first end))))
    ∙ ap (λ (ends : List ℕ). toks_of_parts style arena ids first (end ∷ ends)) (sym (none_left n arena ids end past)))

-- what is left from a place on is told by the parts that end so
abbrev IsTold : Style → Contents → List ℕ → ℕ → List ℕ → Type 0
IsTold style arena ids first ends = with_first_apart (stands_apart ids first) (toks_of_items style arena (drop first ids)) ≡ toks_of_parts style arena ids first ends

rest_of_parts : (n : ℕ) (style : Style) (arena : Contents) (ids : List ℕ) (first : ℕ) → AreWithin arena ids → first ≤ length ids → length ids - first ≤ n
    → IsTold style arena ids first (ends_from n arena ids first)
rest_of_parts zero style arena ids first within inside enough = nothing_left style arena ids first (stands_apart ids first) (omega (arith, enough))
rest_of_parts (suc n) style arena ids first within inside enough =
    by_here (nat_lt first (length ids)) refl (λ end later below. rest_of_parts n style arena ids end within below (omega (arith, enough, later)))
  where
    by_end : (end : Option ℕ) → next_end arena start [] (drop first ids) ≡ end → ((end : ℕ) → first < end → end ≤ length ids → IsTold style arena ids end (ends_from n arena ids end))
        → IsTold style arena ids first ((first + or_all end (length (drop first ids))) ∷ ends_from n arena ids (first + or_all end (length (drop first ids))))
    by_end None is on = last_part n style arena ids first inside
    by_end (Some count) is on =
        let few = fits arena (drop first ids) count is in
        next_part style arena ids first count (ends_from n arena ids (first + count)) within is
        (on (first + count) (omega (arith, few.0)) (omega (arith, few.1, length-drop first ids, inside)))

    by_here : (here : Bool) → nat_lt first (length ids) ≡ here → ((end : ℕ) → first < end → end ≤ length ids → IsTold style arena ids end (ends_from n arena ids end))
        → IsTold style arena ids first (if here then (first + first_len arena (drop first ids)) ∷ ends_from n arena ids (first + first_len arena (drop first ids)) else [])
    by_here true is on = by_end (next_end arena start [] (drop first ids)) refl on
    by_here false is on = nothing_left style arena ids first (stands_apart ids first) (ltb-false first (length ids) is)

-- nothing stands before the first token of a view
first_of_all : (arena : Contents) (ids : List ℕ) (marks : List Mark) → toks_from arena ids 0 marks ≡ with_first_apart (stands_apart ids 0) (toks_from arena ids 0 marks)
first_of_all arena ids [] = refl
first_of_all arena ids (mark ∷ marks) = refl

pub roles_stay : RolesStay
roles_stay style arena ids within =
    first_of_all arena ids (marks_of (sights_of arena (run_of style arena ids)) (lines_of_items style arena ids))
    ∙ rest_of_parts (length ids) style arena ids 0 within (omega arith) (omega arith)
