-- The comments of a view tell its parts.
use Rattle.std.proofs.Common.{◌≡◌, ◌∙◌, ℕ, suc, ◌+◌, ◌<◌, ◌≤◌, Bool, true, false, not, nat_eq, nat_lt, ◌||◌, List, []}
use Rattle.std.proofs.Common.{◌∷◌, ◌++◌, length, length-append, drop, get_or, refl, arith, ap, sym}
use Rattle.std.specs.Prelude.{if◌then◌else◌}
use Rattle.std.proofs.lemmas.List.{append-nil, append_assoc, drop_more}
use Rattle.token_arena.specs.Gaps.{Contents}
use Rattle.token_classes.specs.declared.class.TokenClass.{TokenClass}
use Rattle.token_classes.specs.Classes.{is_comment}
use Rattle.item_classes.specs.declared.part.Part.{Part}
use Rattle.item_classes.specs.declared.part.Part.TheVariants.{Token}
use Rattle.unwrapped_lines.specs.declared.part.ViewComment.{ViewComment}
use Rattle.unwrapped_lines.specs.Viewed.{parts_from}
use Rattle.item_classes.specs.Part.{part_of}
use Rattle.unwrapped_lines.specs.Inside.{parts_with, FollowFrom, comments_from, comments_of, AreCommentsBefore}
use Rattle.unwrapped_lines.proofs.Passed.{drop_none, follow_less, token_first}

comments_follow : (arena : Contents) (ids : List ℕ) (k n : ℕ) (cs : List TokenClass) → FollowFrom k (comments_from arena ids k n cs)
comments_follow arena ids k n [] = tt
comments_follow arena ids k n (c ∷ cs) =
    elim (is_comment c) as (λ x. FollowFrom k (if x then record { place = k; part = part_of arena (get_or ids k 0) (nat_lt n k) c } ∷ comments_from arena ids (k + 1) (n + 1) cs else comments_from arena ids (k + 1) n cs)) [
      | true ↦ omega arith
      | false ↦ follow_less k (k + 1) (comments_from arena ids (k + 1) n cs) (omega arith) (comments_follow arena ids (k + 1) n cs)
    ]

keeps : (x : Bool) (n k : ℕ) → x ≡ nat_lt n k → (x || not true) ≡ nat_lt (n + 1) (k + 1)
keeps true n k e = grind (arith, e)
keeps false n k e = grind (arith, e)

starts : (x : Bool) (n k : ℕ) → n ≤ k → (x || not false) ≡ nat_lt n (k + 1)
starts true n k e = grind (arith, e)
starts false n k e = grind (arith, e)

here : (n k : ℕ) (p : Part) (comments : List ViewComment) → parts_with (suc n) k (record { place = k; part = p } ∷ comments) ≡ p ∷ parts_with n (k + 1) comments
here n k p comments = let same : nat_eq k k ≡ true = grind arith in rw (same, parts_with) refl

-- the parts of a view are those with its comments
pub parts_same : (arena : Contents) (ids : List ℕ) (k n : ℕ) (started : Bool) (cs : List TokenClass) → n ≤ k → started ≡ nat_lt n k
    → parts_with (length cs) k (comments_from arena ids k n cs) ≡ parts_from arena ids k started cs
parts_same arena ids k n started [] few e = refl
parts_same arena ids k n started (c ∷ cs) few e =
    let id = get_or ids k 0 in
    elim (is_comment c) as (λ x. is_comment c ≡ x → parts_with (suc (length cs)) k (comments_from arena ids k n (c ∷ cs)) ≡ parts_from arena ids k started (c ∷ cs)) [
      | true ↦ λ is.
          let p = part_of arena id (nat_lt n k) c in
          let later = comments_from arena ids (k + 1) (n + 1) cs in
          let first : comments_from arena ids k n (c ∷ cs) ≡ record { place = k; part = p } ∷ later = ap (λ (x : Bool). if x then record { place = k; part = p } ∷ later else comments_from arena ids (k + 1) n cs) is in
          let on : (started || not (is_comment c)) ≡ nat_lt (n + 1) (k + 1) = ap (λ (x : Bool). started || not x) is ∙ keeps started n k e in
          ap (parts_with (suc (length cs)) k) first
          ∙ (here (length cs) k p later
          ∙ (ap (λ (x : Bool). part_of arena id x c ∷ parts_with (length cs) (k + 1) later) (sym e)
          ∙ ap (λ (ps : List Part). part_of arena id started c ∷ ps) (parts_same arena ids (k + 1) (n + 1) (started || not (is_comment c)) cs (omega (arith, few)) on)))
      | false ↦ λ is.
          let later = comments_from arena ids (k + 1) n cs in
          let first : comments_from arena ids k n (c ∷ cs) ≡ later = ap (λ (x : Bool). if x then record { place = k; part = part_of arena id (nat_lt n k) c } ∷ comments_from arena ids (k + 1) (n + 1) cs else later) is in
          let on : (started || not (is_comment c)) ≡ nat_lt n (k + 1) = ap (λ (x : Bool). started || not x) is ∙ starts started n k few in
          let part : Token ≡ part_of arena id started c = rw (is, part_of) refl in
          ap (parts_with (suc (length cs)) k) first
          ∙ (token_first (length cs) k later (comments_follow arena ids (k + 1) n cs)
          ∙ (ap (λ (p : Part). p ∷ parts_with (length cs) (k + 1) later) part
          ∙ ap (λ (ps : List Part). part_of arena id started c ∷ ps) (parts_same arena ids (k + 1) n (started || not (is_comment c)) cs (omega (arith, few)) on)))
    ] refl

-- ## One place

pub comment_noted : (arena : Contents) (ids : List ℕ) (classes : List TokenClass) (k : ℕ) (c : TokenClass) (comments : List ViewComment) → AreCommentsBefore arena ids classes k comments
    → k < length classes → is_comment (get_or classes k c) ≡ true
    → AreCommentsBefore arena ids classes (k + 1) (comments ++ record { place = k; part = part_of arena (get_or ids k 0) (nat_lt (length comments) k) (get_or classes k c) } ∷ [])
comment_noted arena ids classes k c comments h lt is =
    let n = length comments in
    let v : ViewComment = record { place = k; part = part_of arena (get_or ids k 0) (nat_lt n k) (get_or classes k c) } in
    let later : List ViewComment = comments_from arena ids (k + 1) (n + 1) (drop (k + 1) classes) in
    let one : comments_from arena ids k n (drop k classes) ≡ v ∷ later =
    ap (comments_from arena ids k n) (drop_more classes k c lt)
    ∙ ap (λ (x : Bool). if x then v ∷ later else comments_from arena ids (k + 1) n (drop (k + 1) classes)) is in
    let more = length-append comments (v ∷ []) in
    let count : length (comments ++ v ∷ []) ≡ n + 1 = omega (arith, more) in
    ap (λ m. (comments ++ v ∷ []) ++ comments_from arena ids (k + 1) m (drop (k + 1) classes)) count
    ∙ (append_assoc comments (v ∷ []) later ∙ (sym (ap (λ x. comments ++ x) one) ∙ h))

pub token_noted : (arena : Contents) (ids : List ℕ) (classes : List TokenClass) (k : ℕ) (c : TokenClass) (comments : List ViewComment) → AreCommentsBefore arena ids classes k comments
    → k < length classes → is_comment (get_or classes k c) ≡ false → AreCommentsBefore arena ids classes (k + 1) comments
token_noted arena ids classes k c comments h lt is =
    let n = length comments in
    let v : ViewComment = record { place = k; part = part_of arena (get_or ids k 0) (nat_lt n k) (get_or classes k c) } in
    let later : List ViewComment = comments_from arena ids (k + 1) n (drop (k + 1) classes) in
    let one : comments_from arena ids k n (drop k classes) ≡ later =
    ap (comments_from arena ids k n) (drop_more classes k c lt)
    ∙ ap (λ (x : Bool). if x then v ∷ comments_from arena ids (k + 1) (n + 1) (drop (k + 1) classes) else later) is in
    sym (ap (λ x. comments ++ x) one) ∙ h

pub all_noted : (arena : Contents) (ids : List ℕ) (classes : List TokenClass) (k : ℕ) (comments : List ViewComment) → AreCommentsBefore arena ids classes k comments
    → length classes ≤ k → comments ≡ comments_of arena ids classes
all_noted arena ids classes k comments h e =
    sym (append-nil comments) ∙ (ap (λ (cs : List TokenClass). comments ++ comments_from arena ids k (length comments) cs) (sym (drop_none classes k e)) ∙ h)
