use Rattle.std.proofs.Common.{◌≡◌, ◌∙◌, ◌+◌, ◌-◌, ◌<◌, ◌≤◌, ℕ, true, List, [], length, get_or, drop, take, sym, ap, subst, arith}
use Rattle.std.proofs.lemmas.List.{append-nil, get_or-drop, get_or-take}
use Rattle.token_classes.specs.declared.class.TokenClass.{TokenClass}
use Rattle.token_classes.specs.declared.class.TokenClass.TheVariants.{If}
use Rattle.view_parts.specs.Lanes.{is_flat}
use Rattle.view_parts.specs.Quiet.{Closes, depth_behind}
use Rattle.view_parts.proofs.FlatTokens.{OpenBehind, close_depth, closes_more, open_depth, other_depth}
use Rattle.view_parts.proofs.ends.closing_len.Goals.{then-is_open_brace, else-is_open_brace}
use Rattle.view_parts.proofs.ends.closing_len.Goals as goal

-- the tokens that are passed at once, by their places in all
of_all : (classes : List TokenClass) (count n : ℕ) → count + n < length classes → ((k : ℕ) → (d : TokenClass) → k < n → is_flat (get_or (take (length classes - count) (drop count classes)) k d) ≡ true)
    → (k : ℕ) → k < n → is_flat (get_or classes (count + k) If) ≡ true
of_all classes count n within flat k below =
    ap (λ (class : TokenClass). is_flat class) (sym (get_or-take (length classes - count) (drop count classes) k If (omega (arith, below, within)) ∙ get_or-drop count classes k If)) ∙ flat k If below

-- what is open behind them and the token behind these
open_behind : (classes : List TokenClass) (count n most depth : ℕ) → count + n < most → most ≤ length classes → 0 < depth → ((k : ℕ) → (d : TokenClass) → k < n → is_flat (get_or (take (length classes - count) (drop count classes)) k d) ≡ true)
    → OpenBehind classes count depth → OpenBehind classes (count + n + 1) (depth_behind depth (get_or classes (count + n) If))
open_behind classes count n most depth within room some flat on = closes_more classes count n depth If (omega (arith, within, room)) some (of_all classes count n (omega (arith, within, room)) flat) on

pub returns-then-depth-eq0-clause-closes : goal.returns-then-depth-eq0-clause-closes
returns-then-depth-eq0-clause-closes c =
    let classes = c.args.classes.now in
    let inv = c.loop-count.invariant in
    let count = c.loop-count.count in
    let depth = c.loop-count.depth in
    let n = c.flat_len.result in
    let class = get_or classes (count + n) If in
    let opens = open_behind classes count n c.args.most depth (omega (arith, c.if-next-most.false)) c.requires inv.some c.flat_len.ensures.flat inv.on in
    let told : c.if-is_open_brace.depth ≡ depth_behind depth class = elim c.if-is_open_brace.branch [
      | then-is_open_brace w ↦ w.depth-is ∙ sym (open_depth depth class (sym c.is_open_brace.ensures ∙ w.if-is_open_brace.true))
      | else-is_open_brace w ↦ w.depth-is ∙ sym (close_depth depth class (sym c.is_brace.ensures ∙ c.if-is_brace.true) (sym c.is_open_brace.ensures ∙ w.if-is_open_brace.false))
    ] in
    subst (λ (cs : List TokenClass). Closes 1 cs) (append-nil (take (count + n + 1) classes)) (opens [] (sym told ∙ c.if-depth-eq0.true))

pub loop-count-preserved-else-depth-eq0 : goal.loop-count-preserved-else-depth-eq0
loop-count-preserved-else-depth-eq0 c =
    let classes = c.args.classes.now in
    let inv = c.loop-count.invariant in
    let count = c.loop-count.count in
    let depth = c.loop-count.depth in
    let n = c.flat_len.result in
    let class = get_or classes (count + n) If in
    let opens = open_behind classes count n c.args.most depth (omega (arith, c.if-next-most.false)) c.requires inv.some c.flat_len.ensures.flat inv.on in
    let told : c.if-is_open_brace.depth ≡ depth_behind depth class = elim c.if-is_open_brace.branch [
      | then-is_open_brace w ↦ w.depth-is ∙ sym (open_depth depth class (sym c.is_open_brace.ensures ∙ w.if-is_open_brace.true))
      | else-is_open_brace w ↦ w.depth-is ∙ sym (close_depth depth class (sym c.is_brace.ensures ∙ c.if-is_brace.true) (sym c.is_open_brace.ensures ∙ w.if-is_open_brace.false))
    ] in
    let few : c.if-is_open_brace.depth ≤ count + n + 1 + 1 = elim c.if-is_open_brace.branch [
      | then-is_open_brace w ↦ omega (arith, w.depth-is, inv.few)
      | else-is_open_brace w ↦ omega (arith, w.depth-is, inv.few)
    ] in
    record {
      within = omega (arith, c.if-next-most.false);
      some = omega (arith, c.if-depth-eq0.false);
      few = few;
      on = subst (λ j. OpenBehind classes (count + n + 1) j) (sym told) opens;
    }

pub loop-count-preserved : goal.loop-count-preserved
loop-count-preserved c =
    let classes = c.args.classes.now in
    let inv = c.loop-count.invariant in
    let count = c.loop-count.count in
    let depth = c.loop-count.depth in
    let n = c.flat_len.result in
    let class = get_or classes (count + n) If in
    let opens = open_behind classes count n c.args.most depth (omega (arith, c.if-next-most.false)) c.requires inv.some c.flat_len.ensures.flat inv.on in
    let told = other_depth depth class (sym c.is_brace.ensures ∙ c.if-is_brace.false) in
    record {
      within = omega (arith, c.if-next-most.false);
      some = inv.some;
      few = omega (arith, inv.few);
      on = subst (λ j. OpenBehind classes (count + n + 1) j) told opens;
    }
