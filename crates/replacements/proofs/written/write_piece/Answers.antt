use Rattle.std.proofs.Common.{◌≡◌, ◌∙◌, ◌++◌, [], List, refl, rules, sym, ap, take, ℕ}
use Rattle.std.proofs.KnownBytes.{Appends-nil, Appends-trans}
use Rattle.fmt_ports.proofs.Parts.{part_of_front, part_of_rest}
use Rattle.replacements.specs.Written.{bytes_between}
use Rattle.replacements.proofs.Held.{between-append}
use Rattle.replacements.proofs.Writing.{held_none}
use Rattle.replacements.proofs.written.write_piece.Goals as goal

pub returns-then-are_equal-clause-ok : goal.returns-then-are_equal-clause-ok
returns-then-are_equal-clause-ok g c =
    let text = c.args.text.now in
    let held = c.args.held.now in
    let same : bytes_between text c.args.at c.args.start ≡ take c.args.piece.len c.args.piece.bytes.now = sym c.between.ensures ∙ c.are_equal.ensures (search rules) in (
      [],
      Appends-nil _,
      ap (λ (z : List ℕ). bytes_between text held c.args.at ++ z) (sym same) ∙ between-append text held c.args.at c.args.start c.requires.held c.requires.order,
    )

pub returns-then-are_equal-clause-part : goal.returns-then-are_equal-clause-part
returns-then-are_equal-clause-part g c = ([], _, refl, Appends-nil _)

pub returns-in_err-write_between-clause-part : goal.returns-in_err-write_between-clause-part
returns-in_err-write_between-clause-part g c =
    part_of_front _ _ (bytes_between c.args.text.now c.args.held.now c.args.at) (take c.args.piece.len c.args.piece.bytes.now) _ refl c.in_err-write_between.ensures.part

pub returns-in_err-write_front-clause-part : goal.returns-in_err-write_front-clause-part
returns-in_err-write_front-clause-part g c =
    part_of_rest _ _ _ (bytes_between c.args.text.now c.args.held.now c.args.at) (take c.args.piece.len c.args.piece.bytes.now) _ refl c.in_ok-write_between.ensures.ok c.in_err-write_front.ensures.part

pub returns-clause-ok : goal.returns-clause-ok
returns-clause-ok g c =
    let text = c.args.text.now in
    let held : List ℕ = bytes_between text c.args.held.now c.args.at in (
      held ++ take c.args.piece.len c.args.piece.bytes.now,
      Appends-trans _ _ _ _ _ c.in_ok-write_between.ensures.ok c.in_ok-write_front.ensures.ok,
      held_none text (held ++ take c.args.piece.len c.args.piece.bytes.now) c.args.start,
    )

pub returns-clause-part : goal.returns-clause-part
returns-clause-part g c =
    part_of_rest _ _ _ (bytes_between c.args.text.now c.args.held.now c.args.at) (take c.args.piece.len c.args.piece.bytes.now) _ refl c.in_ok-write_between.ensures.ok c.in_ok-write_front.ensures.part
