use Rattle.std.proofs.Common.{◌≡◌, ◌∙◌, ◌/◌, List, Some, None, length, get_or, sym, ap, arith, rules}
use Rattle.std.specs.Vec.{vec_len}
use Rattle.std.proofs.lemmas.Bool.{OnTrue_at}
use Rattle.std.proofs.lemmas.List.{get_or_default}
use Rattle.view_parts.specs.declared.notes.Note.{Note}
use Rattle.view_parts.specs.Notes.{note_of}
use Rattle.view_parts.proofs.NoteChains.{block_within, noted, told_here}
use Rattle.view_parts.proofs.notes.KnownEnds.get.Goals as goal

pub index-newest-requires : goal.index-newest-requires
index-newest-requires c =
    let known = c.self.inside in
    let many : vec_len known.newest ≡ length known.newest.items = first_of (omega (arith), search (rules), grind (arith, rules)) in
    let below = OnTrue_at c.if-not-has_place.false c.has_place.ensures.yes in
    let block = block_within known.notes.items known.newest.items known.count c.args.self.now c.args.id.0 c.self.invariant (sym c.self.view_is) below in
    omega (arith, many, block)

pub note_of-requires-clause-within : goal.note_of-requires-clause-within
note_of-requires-clause-within c =
    let known = c.self.inside in
    let below = OnTrue_at c.if-not-has_place.false c.has_place.ensures.yes in
    let block = block_within known.notes.items known.newest.items known.count c.args.self.now c.args.id.0 c.self.invariant (sym c.self.view_is) below in
    let place : c.index-newest.result.now ≡ get_or known.newest.items (c.args.id.0 / 16) 0 = c.index-newest.ensures ∙ get_or_default known.newest.items (c.args.id.0 / 16) _ 0 block in
    let same : c.as_slice.result.now ≡ known.notes.items = first_of (cc, search (rules)) in
    omega (arith, place, ap (λ (them : List Note). length them) same, c.self.invariant.within (c.args.id.0 / 16))

pub returns-in-Some : goal.returns-in-Some
returns-in-Some c =
    let known = c.self.inside in
    let notes = known.notes.items in
    let id = c.args.id.0 in
    let note = c.index.result.now in
    let below = OnTrue_at c.if-not-has_place.false c.has_place.ensures.yes in
    let block = block_within notes known.newest.items known.count c.args.self.now id c.self.invariant (sym c.self.view_is) below in
    let place : c.index-newest.result.now ≡ get_or known.newest.items (id / 16) 0 = c.index-newest.ensures ∙ get_or_default known.newest.items (id / 16) _ 0 block in
    let same : c.as_slice.result.now ≡ notes = first_of (cc, search (rules)) in
    let found : Some c.in-Some.at ≡ note_of notes id c.index-newest.result.now = c.in-Some.ensures.found ∙ ap (λ (them : List Note). note_of them id c.index-newest.result.now) same in
    let own : note.id ≡ id = ap (λ (n : Note). n.id) c.index.ensures ∙ (ap (λ (them : List Note). (get_or them c.in-Some.at note).id) (sym same) ∙ c.in-Some.ensures.own note) in
    sym (told_here notes id c.in-Some.at note (omega (arith, c.in-Some.ensures.within, ap (λ (them : List Note). length them) same)) c.index.ensures own)
    ∙ noted notes known.newest.items known.count c.args.self.now id c.index-newest.result.now (Some c.in-Some.at) (sym c.self.view_is) below place found

pub returns-in-None : goal.returns-in-None
returns-in-None c =
    let known = c.self.inside in
    let notes = known.notes.items in
    let id = c.args.id.0 in
    let below = OnTrue_at c.if-not-has_place.false c.has_place.ensures.yes in
    let block = block_within notes known.newest.items known.count c.args.self.now id c.self.invariant (sym c.self.view_is) below in
    let place : c.index-newest.result.now ≡ get_or known.newest.items (id / 16) 0 = c.index-newest.ensures ∙ get_or_default known.newest.items (id / 16) _ 0 block in
    let same : c.as_slice.result.now ≡ notes = first_of (cc, search (rules)) in
    let found : None ≡ note_of notes id c.index-newest.result.now = c.in-None.ensures.found ∙ ap (λ (them : List Note). note_of them id c.index-newest.result.now) same in
    noted notes known.newest.items known.count c.args.self.now id c.index-newest.result.now None (sym c.self.view_is) below place found
