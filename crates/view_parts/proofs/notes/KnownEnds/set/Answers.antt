use Rattle.std.proofs.Common.{◌≡◌, ◌∙◌, ◌/◌, [], ◌∷◌, ◌++◌, length, get_or, refl, sym, arith, rules}
use Rattle.std.specs.Vec.{vec_len}
use Rattle.std.proofs.lemmas.List.{get_or_default}
use Rattle.view_parts.specs.declared.notes.Note.{Note}
use Rattle.view_parts.proofs.NoteChains.{added_chains, added_now, block_within}
use Rattle.view_parts.proofs.notes.KnownEnds.set.Goals as goal

pub index-requires : goal.index-requires
index-requires c =
    let known = c.self.inside in
    let many : vec_len known.newest ≡ length known.newest.items = first_of (omega (arith), search (rules), grind (arith, rules)) in
    let block = block_within known.notes.items known.newest.items known.count c.args.self.now c.args.id.0 c.self.invariant (sym c.if-replace.ensures.no ∙ sym c.self.view_is) c.requires in
    omega (arith, many, block)

pub index_mut-requires : goal.index_mut-requires
index_mut-requires c =
    let known = c.self.inside in
    let many : vec_len known.newest ≡ length known.newest.items = first_of (omega (arith), search (rules), grind (arith, rules)) in
    let block = block_within known.notes.items known.newest.items known.count c.args.self.now c.args.id.0 c.self.invariant (sym c.if-replace.ensures.no ∙ sym c.self.view_is) c.requires in
    omega (arith, many, block)

pub invariant_of-self-2 : goal.invariant_of-self-2
invariant_of-self-2 c =
    let known = c.self.inside in
    let notes = known.notes.items in
    let newest = known.newest.items in
    let id = c.args.id.0 in
    let note : Note = record { id = id; before = c.index.result.now; end = c.args.end } in
    let many : vec_len known.notes ≡ length notes = first_of (omega (arith), search (rules), grind (arith, rules)) in
    let block = block_within notes newest known.count c.args.self.now id c.self.invariant (sym c.if-replace.ensures.no ∙ sym c.self.view_is) c.requires in
    let before : c.index.result.now ≡ get_or newest (id / 16) 0 = c.index.ensures ∙ get_or_default newest (id / 16) _ 0 block in
    let added : c.push.new.self.items ≡ notes ++ note ∷ [] = search rules in
    added_chains notes c.push.new.self.items note newest known.count c.len-count.result (id / 16) c.self.invariant block before added (c.len-count.ensures ∙ many)

pub returns : goal.returns
returns c =
    let known = c.self.inside in
    let notes = known.notes.items in
    let newest = known.newest.items in
    let id = c.args.id.0 in
    let note : Note = record { id = id; before = c.index.result.now; end = c.args.end } in
    let many : vec_len known.notes ≡ length notes = first_of (omega (arith), search (rules), grind (arith, rules)) in
    let view = sym c.if-replace.ensures.no ∙ sym c.self.view_is in
    let block = block_within notes newest known.count c.args.self.now id c.self.invariant view c.requires in
    let before : c.index.result.now ≡ get_or newest (id / 16) 0 = c.index.ensures ∙ get_or_default newest (id / 16) _ 0 block in
    let added : c.push.new.self.items ≡ notes ++ note ∷ [] = search rules in
    record {
      set = added_now notes c.push.new.self.items note newest known.count c.len-count.result c.args.self.now id c.self.invariant view c.requires refl before added (c.len-count.ensures ∙ many);
      same = tt;
    }
