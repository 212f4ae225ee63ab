use Rattle.std.proofs.Common.{◌≡◌, ◌∙◌, ◌/◌, List, Some, None, length, get_or, refl, sym, ap, arith, rules}
use Rattle.std.specs.Vec.{vec_len}
use Rattle.std.proofs.lemmas.List.{get_or_default}
use Rattle.view_parts.specs.declared.notes.Note.{Note}
use Rattle.view_parts.specs.Notes.{note_of}
use Rattle.view_parts.proofs.NoteChains.{block_within, noted, put_now}
use Rattle.view_parts.proofs.notes.KnownEnds.replace.Goals as goal

pub index-newest-requires : goal.index-newest-requires
index-newest-requires c =
    let known = c.self.inside in
    let many : vec_len known.newest ≡ length known.newest.items = first_of (omega (arith), search (rules), grind (arith, rules)) in
    let block = block_within known.notes.items known.newest.items known.count c.args.self.now c.args.id.0 c.self.invariant (sym c.self.view_is) c.requires in
    omega (arith, many, block)

pub note_of-requires-clause-within : goal.note_of-requires-clause-within
note_of-requires-clause-within c =
    let known = c.self.inside in
    let block = block_within known.notes.items known.newest.items known.count c.args.self.now c.args.id.0 c.self.invariant (sym c.self.view_is) c.requires in
    let place : c.index-newest.result.now ≡ get_or known.newest.items (c.args.id.0 / 16) 0 = c.index-newest.ensures ∙ get_or_default known.newest.items (c.args.id.0 / 16) _ 0 block in
    let same : c.as_slice.result.now ≡ known.notes.items = first_of (cc, search (rules)) in
    omega (arith, place, ap (λ (them : List Note). length them) same, c.self.invariant.within (c.args.id.0 / 16))

pub returns-in_default-clause-none : goal.returns-in_default-clause-none
returns-in_default-clause-none c =
    let known = c.self.inside in
    let notes = known.notes.items in
    let id = c.args.id.0 in
    let block = block_within notes known.newest.items known.count c.args.self.now id c.self.invariant (sym c.self.view_is) c.requires in
    let place : c.index-newest.result.now ≡ get_or known.newest.items (id / 16) 0 = c.index-newest.ensures ∙ get_or_default known.newest.items (id / 16) _ 0 block in
    let same : c.as_slice.result.now ≡ notes = first_of (cc, search (rules)) in
    let lacks : c.note_of.result ≡ None = first_of (cc, search (rules)) in
    let found : None ≡ note_of notes id c.index-newest.result.now = sym lacks ∙ (c.note_of.ensures.found ∙ ap (λ (them : List Note). note_of them id c.index-newest.result.now) same) in
    sym (noted notes known.newest.items known.count c.args.self.now id c.index-newest.result.now None (sym c.self.view_is) c.requires place found)

pub returns-clause-yes : goal.returns-clause-yes
returns-clause-yes c =
    let known = c.self.inside in
    let notes = known.notes.items in
    let id = c.args.id.0 in
    let old = c.index_mut.result.now in
    let note : Note = record { id = old.id; before = old.before; end = c.args.end } in
    let block = block_within notes known.newest.items known.count c.args.self.now id c.self.invariant (sym c.self.view_is) c.requires in
    let place : c.index-newest.result.now ≡ get_or known.newest.items (id / 16) 0 = c.index-newest.ensures ∙ get_or_default known.newest.items (id / 16) _ 0 block in
    let same : c.as_slice.result.now ≡ notes = first_of (cc, search (rules)) in
    let found : note_of notes id c.index-newest.result.now ≡ Some c.in-Some.at = sym (c.in-Some.ensures.found ∙ ap (λ (them : List Note). note_of them id c.index-newest.result.now) same) in
    let is : old ≡ get_or notes c.in-Some.at old = c.index_mut.ensures.value in
    let own : old.id ≡ id = ap (λ (n : Note). n.id) is ∙ (ap (λ (them : List Note). (get_or them c.in-Some.at old).id) (sym same) ∙ c.in-Some.ensures.own old) in
    put_now notes old note known.newest.items known.count c.args.self.now id c.index-newest.result.now c.in-Some.at c.self.invariant (sym c.self.view_is) c.requires place found
    (omega (arith, c.in-Some.ensures.within, ap (λ (them : List Note). length them) same)) is own refl refl
