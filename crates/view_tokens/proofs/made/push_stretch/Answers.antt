use Rattle.std.proofs.Common.{◌≡◌, ◌∙◌, ◌+◌, ◌-◌, ◌<◌, ℕ, length, get_or, ap, sym, subst, refl, arith}
use Rattle.touching.specs.declared.edge.Edge.{Edge}
use Rattle.view_tokens.specs.Inside.{TellsTouch}
use Rattle.item_classes.specs.Items.{stands_apart}
use Rattle.view_tokens.proofs.Items.{edges_touch}
use Rattle.view_tokens.proofs.Pushed.{follows, pushed_on, counted_on, told_on}
use Rattle.view_tokens.proofs.made.push_stretch.Goals as goal

pub loop-id-init : goal.loop-id-init
loop-id-init c =
    let arena = c.args.arena.now in
    record {
      from = omega arith;
      until = omega (arith, c.requires.some);
      count = omega arith;
      room = refl;
      same = refl;
      edge = c.edge_at-edge.ensures;
      left = subst (λ (e : Edge). TellsTouch arena c.args.stretch.first c.edge_before-left.result e) (sym c.edge_at-edge.ensures) c.edge_before-left.ensures;
      apart = c.requires.apart;
      told = c.requires.told;
    }

pub loop-id-preserved : goal.loop-id-preserved
loop-id-preserved c =
    let v = c.loop-id.invariant in
    let arena = c.args.arena.now in
    let ids = c.args.view.now in
    let marks = c.args.marks.now in
    let id : ℕ = c.loop-id.id in
    let first = c.args.stretch.first in
    let from = c.args.first in
    let toks = c.loop-id.toks.items in
    let after = c.push_token.new.toks.items in
    let push = c.push_token.ensures.token in
    let before : ℕ = length c.args.toks.now.items in
    let i : ℕ = id - first in
    let within : length toks < length marks = omega (arith, v.count, v.from, c.loop-id-test.true, c.requires.places) in
    let place : from + before + i ≡ from + length toks = omega (arith, v.count) in
    let next_place : from + before + (i + 1) ≡ from + length toks + 1 = omega (arith, v.count) in
    let at : get_or ids (from + length toks) 0 ≡ id = subst (λ x. get_or ids x 0 ≡ first + i) place (c.requires.items i (omega (arith, v.from, c.loop-id-test.true))) ∙ omega (arith, v.from) in
    let next : get_or ids (from + length toks + 1) 0 ≡ id + 1 = subst (λ x. get_or ids x 0 ≡ first + (i + 1)) next_place (c.requires.items (i + 1) (omega (arith, v.from, c.loop-id-test.true))) ∙ omega (arith, v.from) in
    let count : length after ≡ length toks + 1 = counted_on arena id c.loop-id.apart marks toks after push in
    let more : from + length toks + 1 ≡ from + length after = omega (arith, count) in
    record {
      from = omega (arith, v.from);
      until = omega (arith, c.loop-id-test.true);
      count = omega (arith, count, v.count, v.from);
      room = c.push_token.ensures.room ∙ v.room;
      same = pushed_on arena ids marks toks after from id c.loop-id.apart within at v.apart push ∙ v.same;
      edge = c.edge_at-next.ensures;
      left = subst (λ (e : Edge). TellsTouch arena (id + 1) c.loop-id.edge e) (sym c.edge_at-next.ensures) (edges_touch arena id c.loop-id.edge v.edge);
      apart = sym (ap (λ n. stands_apart ids n) (sym more) ∙ follows ids (from + length toks) id at next);
      told = told_on arena id c.loop-id.apart marks toks after push;
    }

pub push_token-requires-2-clause-touch : goal.push_token-requires-2-clause-touch
push_token-requires-2-clause-touch c =
    let v = c.loop-id.invariant in
    let last : c.loop-id.id ≡ c.args.stretch.end - 1 = omega (arith, v.until, c.loop-id-test.false) in
    subst (λ (n : ℕ). TellsTouch c.args.arena.now n c.loop-id.left c.loop-id.edge) last v.left

pub returns-clause-count : goal.returns-clause-count
returns-clause-count c =
    let v = c.loop-id.invariant in
    omega (arith, counted_on c.args.arena.now (c.args.stretch.end - 1) c.loop-id.apart c.args.marks.now c.loop-id.toks.items c.push_token-2.new.toks.items c.push_token-2.ensures.token, v.count, v.until, c.loop-id-test.false, c.requires.some)

pub returns-clause-tokens : goal.returns-clause-tokens
returns-clause-tokens c =
    let v = c.loop-id.invariant in
    let ids = c.args.view.now in
    let first = c.args.stretch.first in
    let from = c.args.first in
    let id : ℕ = c.args.stretch.end - 1 in
    let toks = c.loop-id.toks.items in
    let before : ℕ = length c.args.toks.now.items in
    let i : ℕ = id - first in
    let place : from + before + i ≡ from + length toks = omega (arith, v.count, v.until, c.loop-id-test.false) in
    let within : length toks < length c.args.marks.now = omega (arith, place, c.requires.some, c.requires.places) in
    let at : get_or ids (from + length toks) 0 ≡ id = subst (λ x. get_or ids x 0 ≡ first + i) place (c.requires.items i (omega (arith, c.requires.some))) ∙ omega (arith, c.requires.some) in
    pushed_on c.args.arena.now ids c.args.marks.now toks c.push_token-2.new.toks.items from id c.loop-id.apart within at v.apart c.push_token-2.ensures.token ∙ v.same

pub returns-clause-told : goal.returns-clause-told
returns-clause-told c =
    told_on c.args.arena.now (c.args.stretch.end - 1) c.loop-id.apart c.args.marks.now c.loop-id.toks.items c.push_token-2.new.toks.items c.push_token-2.ensures.token
