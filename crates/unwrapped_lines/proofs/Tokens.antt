-- The tokens of a view, told by their classes, their partners and their places.
use Rattle.std.proofs.Common.{◌≡◌, ◌∙◌, ℕ, suc, ◌+◌, ◌<◌, ◌≤◌, ◌&&◌, nat_lt, Bool, true, false, List, [], ◌∷◌, ◌++◌, length, map, get_or}
use Rattle.std.proofs.Common.{Option, Some, None, refl, sym, ap, arith, subst}
use Rattle.std.specs.Prelude.{if◌then◌else◌, slice_get}
use Rattle.std.specs.List.{range_with_len}
use Rattle.std.proofs.lemmas.List.{append-nil}
use Rattle.std.proofs.lemmas.List.FromFn.{get_or-range_with_len, length-range_with_len}
use Rattle.std.proofs.lemmas.Option.{slice_get-get_or, slice_get_past}
use Rattle.c_chars.specs.declared.TheConstants.{LIMIT}
use Rattle.token_arena.specs.Gaps.{Contents, item_began}
use Rattle.item_classes.specs.Viewed.{AreWithin}
use Rattle.token_classes.specs.declared.class.TokenClass.{TokenClass}
use Rattle.token_classes.specs.declared.class.TokenClass.TheVariants.{Nothing}
use Rattle.token_classes.specs.Classes.{is_colon}
use Rattle.statement_lines.specs.declared.token.CodeToken.{CodeToken}
use Rattle.statement_lines.specs.Tokens.{ArePlaced, is_touched, partner_told, place_of, token_told, tokens_from}
use Rattle.unwrapped_lines.specs.Viewed.{code_places_from, code_tokens, colon_touches, numbers_of, numbers_from, partner_number, token_at}
use Rattle.unwrapped_lines.specs.Inside.{AreCodeFirst, AreTouched, code_classes, code_partners, comment_places_from}
use Rattle.unwrapped_lines.proofs.Passed.{drop_none}
use Rattle.unwrapped_lines.proofs.Joins.{all_before, all_classes, both_counts, class_at, code_count, comments_ascend, items_before, items_within, mark_at, no_comment}
use Rattle.unwrapped_lines.proofs.Joins.{partner_at, places_at, stretch_numbers}

same_list : (token : ℕ → TokenClass → CodeToken) (g : ℕ → CodeToken) (k : ℕ) (cs : List TokenClass) (ps : List ℕ) (d : TokenClass) → length cs ≡ length ps
    → ((i : ℕ) → i < length ps → token (k + i) (get_or cs i d) ≡ g (get_or ps i 0)) → tokens_from token k cs ≡ map g ps
same_list token g k [] [] d many each = refl
same_list token g k [] (p ∷ ps) d many each = absurd (omega (arith, many))
same_list token g k (c ∷ cs) [] d many each = absurd (omega (arith, many))
same_list token g k (c ∷ cs) (p ∷ ps) d many each =
    let here : k ≡ k + 0 = omega arith in
    let first : token k c ≡ g p = ap (λ n. token n c) here ∙ each 0 (omega arith) in
    let rest : tokens_from token (k + 1) cs ≡ map g ps =
    same_list token g (k + 1) cs ps d (omega (arith, many)) (λ i lt. let up : k + 1 + i ≡ k + suc i = omega arith in ap (λ n. token n (get_or cs i d)) up ∙ each (suc i) (omega (arith, lt))) in
    ap (λ t. t ∷ tokens_from token (k + 1) cs) first ∙ ap (λ ts. g p ∷ ts) rest

told : (arena : Contents) (ids : List ℕ) (classes : List TokenClass) (partners : List (Option ℕ)) (comments : List ℕ) (touched : List Bool) (kept : List (Option ℕ)) (numbers : List ℕ) (count i p : ℕ) (c : TokenClass)
    → c ≡ get_or classes p Nothing → place_of comments i ≡ p → is_touched (slice_get touched p) ≡ (is_colon (get_or classes p Nothing) && colon_touches arena (get_or ids p 0))
    → partner_told numbers count (slice_get kept i) ≡ partner_number (numbers_of classes) (slice_get partners p)
    → token_told arena ids comments touched kept numbers count i c ≡ token_at arena ids classes partners p
told arena ids classes partners comments touched kept numbers count i p c by_class by_place by_touch by_partner =
    let make : TokenClass → Bool → Bool → Option ℕ → CodeToken = λ x b t q. record { class = x; began = b; touched = t; partner = q } in
    let class = get_or classes p Nothing in
    let partner = partner_told numbers count (slice_get kept i) in
    ap (λ x. make x (item_began arena (get_or ids (place_of comments i) 0)) (is_touched (slice_get touched (place_of comments i))) partner) by_class
    ∙ ap (λ k. make class (item_began arena (get_or ids k 0)) (is_touched (slice_get touched k)) partner) by_place
    ∙ ap (λ t. make class (item_began arena (get_or ids p 0)) t partner) by_touch
    ∙ ap (make class (item_began arena (get_or ids p 0)) (is_colon class && colon_touches arena (get_or ids p 0))) by_partner

-- ## With comments

joined_partner : (cs : List TokenClass) (q : Option (Option ℕ)) → partner_told (numbers_of cs) (length (code_classes cs)) q ≡ partner_number (numbers_of cs) q
joined_partner [] None = refl
joined_partner (c ∷ cs) None = refl
joined_partner [] (Some None) = refl
joined_partner (c ∷ cs) (Some None) = refl
joined_partner [] (Some (Some p)) = let none : nat_lt p 0 ≡ false = grind arith in ap (λ (b : Bool). if b then Some p else None) none
joined_partner (c ∷ cs) (Some (Some p)) = refl

pub joined_tokens : (arena : Contents) (ids : List ℕ) (classes : List TokenClass) (partners : List (Option ℕ)) (touched : List Bool) → AreTouched arena ids classes (length classes) touched
    → tokens_from (token_told arena ids (comment_places_from 0 classes) touched (code_partners classes partners) (numbers_of classes) (length (code_classes classes))) 0 (code_classes classes) ≡ code_tokens arena ids classes partners
joined_tokens arena ids classes partners touched each =
    same_list (token_told arena ids (comment_places_from 0 classes) touched (code_partners classes partners) (numbers_of classes) (length (code_classes classes))) (token_at arena ids classes partners) 0 (code_classes classes) (code_places_from 0 classes) Nothing (code_count 0 classes)
    (λ i h.
    let lt : i < length (code_classes classes) = omega (arith, h, code_count 0 classes) in
    let p = get_or (code_places_from 0 classes) i 0 in
    let at : items_before classes i ≡ p = omega (arith, places_at 0 classes i lt) in
    let within : p < length classes = omega (arith, at, items_within classes i lt) in
    let place : place_of (comment_places_from 0 classes) (0 + i) ≡ p = omega (arith, mark_at 0 classes i lt, at) in
    let same : 0 + i ≡ i = omega arith in
    let partner : partner_told (numbers_of classes) (length (code_classes classes)) (slice_get (code_partners classes partners) (0 + i)) ≡ partner_number (numbers_of classes) (slice_get partners p) =
    joined_partner classes (slice_get (code_partners classes partners) (0 + i))
    ∙ ap (λ n. partner_number (numbers_of classes) (slice_get (code_partners classes partners) n)) same
    ∙ ap (partner_number (numbers_of classes)) (partner_at classes partners i lt ∙ ap (slice_get partners) at) in
    told arena ids classes partners (comment_places_from 0 classes) touched (code_partners classes partners) (numbers_of classes) (length (code_classes classes)) (0 + i) p (get_or (code_classes classes) i Nothing)
    (class_at classes i Nothing lt ∙ ap (λ n. get_or classes n Nothing) at) place (each p within) partner)

pub joined_placed : (arena : Contents) (ids : List ℕ) (classes : List TokenClass) → length classes ≡ length ids → length classes ≤ LIMIT → AreWithin arena ids → ArePlaced arena ids (comment_places_from 0 classes) (length (code_classes classes))
joined_placed arena ids classes many few within =
    record {
      order = comments_ascend 0 classes;
      places =
          λ i lt.
          let same : 0 + i ≡ i = omega arith in
          let mark = mark_at 0 classes i lt in
          let low = items_within classes i lt in
          let place : place_of (comment_places_from 0 classes) i ≡ place_of (comment_places_from 0 classes) (0 + i) = ap (place_of (comment_places_from 0 classes)) (sym same) in
          omega (arith, place, mark, low, many);
      all = omega (arith, both_counts 0 classes, many);
      few = omega (arith, many, few);
      within = within;
    }

-- ## Without comments

in_range : (n i : ℕ) → slice_get (range_with_len 0 n) i ≡ (if nat_lt i n then Some i else None)
in_range n i =
    let count = length-range_with_len 0 n in
    elim (nat_lt i n) as (λ x. nat_lt i n ≡ x → slice_get (range_with_len 0 n) i ≡ (if x then Some i else None)) [
      | true ↦ λ q.
          let lt : i < n = grind (arith, q) in
          let same : get_or (range_with_len 0 n) i 0 ≡ i = get_or-range_with_len 0 n i 0 lt ∙ (omega arith) in
          slice_get-get_or (range_with_len 0 n) i 0 (omega (arith, lt, count)) ∙ ap (λ k. Some k) same
      | false ↦ λ q.
          let past : n ≤ i = grind (arith, q) in
          slice_get_past (range_with_len 0 n) i (omega (arith, past, count))
    ] refl

plain_numbers : (cs : List TokenClass) → AreCodeFirst (length cs) cs → numbers_of cs ≡ range_with_len 0 (length cs)
plain_numbers cs h =
    stretch_numbers (length cs) 0 cs (omega arith) h
    ∙ ap (λ xs. range_with_len 0 (length cs) ++ numbers_from (0 + length cs) xs) (drop_none cs (length cs) (omega arith))
    ∙ append-nil (range_with_len 0 (length cs))

plain_partner : (cs : List TokenClass) (q : Option (Option ℕ)) → AreCodeFirst (length cs) cs → partner_told [] (length cs) q ≡ partner_number (numbers_of cs) q
plain_partner cs None h = refl
plain_partner cs (Some None) h = refl
plain_partner cs (Some (Some p)) h =
    sym (ap (λ (xs : List ℕ). slice_get xs p) (plain_numbers cs h) ∙ in_range (length cs) p)

pub plain_tokens : (arena : Contents) (ids : List ℕ) (classes : List TokenClass) (partners : List (Option ℕ)) (touched : List Bool) → AreTouched arena ids classes (length classes) touched
    → comment_places_from 0 classes ≡ []
    → tokens_from (token_told arena ids (comment_places_from 0 classes) touched partners [] (length classes)) 0 classes ≡ code_tokens arena ids classes partners
plain_tokens arena ids classes partners touched each none =
    let code = no_comment 0 classes none in
    let all = ap length (all_classes classes code) in
    let count : length classes ≡ length (code_places_from 0 classes) = omega (arith, all, code_count 0 classes) in
    same_list (token_told arena ids (comment_places_from 0 classes) touched partners [] (length classes)) (token_at arena ids classes partners) 0 classes (code_places_from 0 classes) Nothing count
    (λ i h.
    let within : i < length classes = omega (arith, h, count) in
    let lt : i < length (code_classes classes) = omega (arith, within, all) in
    let p = get_or (code_places_from 0 classes) i 0 in
    let at : i ≡ p = omega (arith, places_at 0 classes i lt, all_before classes i code within) in
    let place : place_of (comment_places_from 0 classes) (0 + i) ≡ p = omega (arith, mark_at 0 classes i lt, all_before classes i code within, at) in
    let same : 0 + i ≡ p = omega (arith, at) in
    let partner : partner_told [] (length classes) (slice_get partners (0 + i)) ≡ partner_number (numbers_of classes) (slice_get partners p) =
    plain_partner classes (slice_get partners (0 + i)) code ∙ ap (λ n. partner_number (numbers_of classes) (slice_get partners n)) same in
    told arena ids classes partners (comment_places_from 0 classes) touched partners [] (length classes) (0 + i) p (get_or classes i Nothing)
    (ap (λ n. get_or classes n Nothing) at) place (each p (omega (arith, within, at))) partner)

pub plain_placed : (arena : Contents) (ids : List ℕ) (classes : List TokenClass) → length classes ≡ length ids → length classes ≤ LIMIT → AreWithin arena ids → comment_places_from 0 classes ≡ []
    → ArePlaced arena ids (comment_places_from 0 classes) (length classes)
plain_placed arena ids classes many few within none =
    let P : ℕ → Type 0 = λ n. ArePlaced arena ids (comment_places_from 0 classes) n in
    subst P (ap length (all_classes classes (no_comment 0 classes none))) (joined_placed arena ids classes many few within)
