use Rattle.std.proofs.Common.{arith, subst, ◌<◌, ◌^◌, ◌≡◌, ◌∙◌, ◌++◌, sym, ap, map, get_or}
use Rattle.std.proofs.lemmas.List.{append-nil}
use Rattle.branch_runs.specs.Links.{node_mark}
use Rattle.branch_runs.specs.Fits.{no_node}
use Rattle.branch_runs.specs.Reading.{read}
use Rattle.branch_runs.specs.Seen.{seen_texts, text_of}
use Rattle.branch_runs.proofs.Left.{none_left, pushed}
use Rattle.branch_runs.proofs.Ascending.{seen_ascend}
use Rattle.branch_runs.proofs.seen.seen_texts.Goals as goal

pub loop-place-preserved : goal.loop-place-preserved
loop-place-preserved c = record {
  left = pushed c.loop-place.texts.items c.push_text.new.texts.items (text_of (get_or c.args.nodes.now c.loop-place.place.at no_node) c.loop-place.place) _ _
      c.in_ok-push_text.ensures c.in_ok-place.ensures.left ∙ c.loop-place.invariant.left;
  fits = c.in_ok-place.ensures.runs;
}

pub returns-clause-texts : goal.returns-clause-texts
returns-clause-texts c =
    let p = c.loop-place.place in
    let done = none_left c.args.nodes.now p.at p.from p.till c.loop-place.slots c.loop-place-test.false in
    let texts = c.loop-place.texts.items in
    c.into_bump_slice.ensures ∙ (sym (ap (λ xs. texts ++ xs) done ∙ append-nil texts) ∙ c.loop-place.invariant.left)

pub returns-clause-ascend : goal.returns-clause-ascend
returns-clause-ascend c =
    let marks = map node_mark c.args.nodes.now in
    let few : c.args.runs < 2 ^ 32 = omega (arith, c.ranges.runs.fits) in
    let p = c.loop-place.place in
    let done = none_left c.args.nodes.now p.at p.from p.till c.loop-place.slots c.loop-place-test.false in
    let texts = c.loop-place.texts.items in
    let are : texts ≡ seen_texts (read marks) 0 c.args.runs = sym (ap (λ xs. texts ++ xs) done ∙ append-nil texts) ∙ c.loop-place.invariant.left in
    rw c.into_bump_slice.ensures
    (seen_ascend marks texts c.requires.cut (subst (λ n. n < 2 ^ 32) c.requires.need few) (subst (λ n. texts ≡ seen_texts (read marks) 0 n) c.requires.need are))
