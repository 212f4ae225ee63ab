use Rattle.std.proofs.Common.{◌≡◌, ◌∙◌, ℕ, ◌≤◌, ◌<◌, ◌+◌, ◌-◌, ◌∷◌, [], ◌++◌, List, ap, arith, drop, get_or, length, length-append, sym, take}
use Rattle.std.proofs.lemmas.List.{drop-drop, drop_more, length-drop}
use Rattle.std.proofs.lemmas.List.FromFn.{length-range_with_len}
use Rattle.std.proofs.lemmas.Result.{IfOk-weaker}
use Rattle.std.specs.List.{range_with_len}
use Rattle.token_classes.specs.declared.class.TokenClass.{TokenClass}
use Rattle.unwrapped_lines.specs.Viewed.{numbers_of}
use Rattle.unwrapped_lines.specs.Inside.{code_classes, code_partners, comment_places_from}
use Rattle.unwrapped_lines.proofs.Passed.{drop_none}
use Rattle.unwrapped_lines.proofs.Joins.{AreSplit, classes_end, first_comment, join_more, numbers_end, partners_end}
use Rattle.unwrapped_lines.proofs.viewed.join_tokens.Goals as goal

next : (classes : List TokenClass) (comments : List ℕ) (from i : ℕ) → comment_places_from from (drop from classes) ≡ drop i comments → i < length comments
    → (from ≤ get_or comments i 0) × AreSplit (get_or comments i 0 - from) (drop from classes) (get_or comments i 0) (drop (i + 1) comments)
next classes comments from i rest lt = first_comment from (drop from classes) (get_or comments i 0) (drop (i + 1) comments) (rest ∙ drop_more comments i 0 lt)

pub push_stretch-requires-clause-order : goal.push_stretch-requires-clause-order
push_stretch-requires-clause-order c = let h = next c.args.classes.now c.args.comments.now c.loop-comment.from c.loop-comment.comment-index c.loop-comment.invariant.rest c.loop-comment-test.true in h.0

pub push_stretch-requires-clause-within : goal.push_stretch-requires-clause-within
push_stretch-requires-clause-within c =
    let h = next c.args.classes.now c.args.comments.now c.loop-comment.from c.loop-comment.comment-index c.loop-comment.invariant.rest c.loop-comment-test.true in
    omega (arith, h.0, h.1.within, length-drop c.loop-comment.from c.args.classes.now)

pub push_stretch-requires-clause-fewer : goal.push_stretch-requires-clause-fewer
push_stretch-requires-clause-fewer c = c.loop-comment.invariant.joined.fewer

pub push_stretch-requires-clause-numbers : goal.push_stretch-requires-clause-numbers
push_stretch-requires-clause-numbers c = c.loop-comment.invariant.joined.count

pub push_reserved-requires : goal.push_reserved-requires
push_reserved-requires c =
    let h = next c.args.classes.now c.args.comments.now c.loop-comment.from c.loop-comment.comment-index c.loop-comment.invariant.rest c.loop-comment-test.true in
    let p = get_or c.args.comments.now c.loop-comment.comment-index 0 in
    let kept = c.loop-comment.joined.classes.items in
    let ns = c.loop-comment.joined.numbers.items in
    let all = length-append ns (range_with_len (length kept) (p - c.loop-comment.from)) in
    let each = length-range_with_len (length kept) (p - c.loop-comment.from) in
    omega (arith, c.in_ok-stretched.stretched.numbers.ok.0, ap length c.in_ok-stretched.ensures.numbers, all, each, h.0, h.1.within, length-drop c.loop-comment.from c.args.classes.now, c.loop-comment.invariant.joined.count, c.in_ok-stretched.ensures.room, c.loop-comment.invariant.room)

pub loop-comment-preserved : goal.loop-comment-preserved
loop-comment-preserved c =
    let classes = c.args.classes.now in
    let from = c.loop-comment.from in
    let h = next classes c.args.comments.now from c.loop-comment.comment-index c.loop-comment.invariant.rest c.loop-comment-test.true in
    let p = get_or c.args.comments.now c.loop-comment.comment-index 0 in
    let split = h.1 in
    let kept = c.in_ok-stretched.stretched.classes.items in
    let ns = c.in_ok-stretched.stretched.numbers.items in
    let e : from + (p - from + 1) ≡ p + 1 = omega (arith, h.0) in
    let count : c.len-number.result ≡ length kept = omega (arith, c.len-number.ensures, c.in_ok-stretched.stretched.classes.ok.0) in
    record {
      rest = sym (ap (comment_places_from (p + 1)) (drops (p - from + 1) from classes ∙ ap (λ k. drop k classes) e)) ∙ split.places;
      joined =
          join_more classes c.args.partners.now from p (drop (c.loop-comment.comment-index + 1) c.args.comments.now) c.loop-comment.joined.classes.items kept c.loop-comment.joined.partners.items c.in_ok-stretched.stretched.partners.items
          c.loop-comment.joined.numbers.items ns c.push_reserved.new.self.items c.loop-comment.invariant.joined h.0 split c.in_ok-stretched.ensures.classes c.in_ok-stretched.ensures.partners c.in_ok-stretched.ensures.numbers
          (c.push_reserved.ensures.items ∙ ap (λ (n : ℕ). ns ++ n ∷ []) count);
      most = omega (arith, h.0, split.within, length-drop from classes);
      room = omega (arith, c.push_reserved.ensures.capacity, c.in_ok-stretched.ensures.room, c.loop-comment.invariant.room);
    }
  where
    drops : (m n : ℕ) (cs : List TokenClass) → drop m (drop n cs) ≡ drop (n + m) cs
    drops m n cs = drop-drop m n cs

pub push_stretch-requires-2-clause-fewer : goal.push_stretch-requires-2-clause-fewer
push_stretch-requires-2-clause-fewer c = c.loop-comment.invariant.joined.fewer

pub push_stretch-requires-2-clause-numbers : goal.push_stretch-requires-2-clause-numbers
push_stretch-requires-2-clause-numbers c = c.loop-comment.invariant.joined.count

pub returns-clause-classes : goal.returns-clause-classes
returns-clause-classes c =
    let none = c.loop-comment.invariant.rest ∙ drop_none c.args.comments.now c.loop-comment.comment-index (omega (arith, c.loop-comment-test.false)) in
    let classes = c.args.classes.now in
    let from = c.loop-comment.from in
    let same = classes_end classes c.args.partners.now from c.loop-comment.joined.classes.items c.loop-comment.joined.partners.items c.loop-comment.joined.numbers.items c.loop-comment.invariant.joined none in
    IfOk-weaker c.push_stretch-2.result (λ r. r.classes.items ≡ c.loop-comment.joined.classes.items ++ take (length classes - from) (drop from classes)) (λ r. r.classes.items ≡ code_classes classes) (λ r e. e ∙ same) c.push_stretch-2.ensures.classes

pub returns-clause-partners : goal.returns-clause-partners
returns-clause-partners c =
    let none = c.loop-comment.invariant.rest ∙ drop_none c.args.comments.now c.loop-comment.comment-index (omega (arith, c.loop-comment-test.false)) in
    let classes = c.args.classes.now in
    let partners = c.args.partners.now in
    let from = c.loop-comment.from in
    let same = partners_end classes partners from c.loop-comment.joined.classes.items c.loop-comment.joined.partners.items c.loop-comment.joined.numbers.items c.loop-comment.invariant.joined none in
    IfOk-weaker c.push_stretch-2.result (λ r. r.partners.items ≡ c.loop-comment.joined.partners.items ++ take (length classes - from) (drop from partners)) (λ r. r.partners.items ≡ code_partners classes partners) (λ r e. e ∙ same) c.push_stretch-2.ensures.partners

pub returns-clause-numbers : goal.returns-clause-numbers
returns-clause-numbers c =
    let none = c.loop-comment.invariant.rest ∙ drop_none c.args.comments.now c.loop-comment.comment-index (omega (arith, c.loop-comment-test.false)) in
    let classes = c.args.classes.now in
    let from = c.loop-comment.from in
    let same = numbers_end classes c.args.partners.now from c.loop-comment.joined.classes.items c.loop-comment.joined.partners.items c.loop-comment.joined.numbers.items c.loop-comment.invariant.joined none in
    IfOk-weaker c.push_stretch-2.result (λ r. r.numbers.items ≡ c.loop-comment.joined.numbers.items ++ range_with_len (length c.loop-comment.joined.classes.items) (length classes - from)) (λ r. r.numbers.items ≡ numbers_of classes) (λ r e. e ∙ same) c.push_stretch-2.ensures.numbers
