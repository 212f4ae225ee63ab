use Rattle.std.proofs.Common.{◌≡◌, ◌∙◌, List, Option, ℕ, length, ap}
use Rattle.std.proofs.lemmas.List.{length-map}
use Rattle.token_classes.specs.Kept.{kept_gaps_of}
use Rattle.token_classes.specs.Partners.{partners_of}
use Rattle.item_classes.specs.Viewed.{classes_of, item_class}
use Rattle.token_classes.specs.declared.class.TokenClass.{TokenClass}
use Rattle.unwrapped_lines.specs.Lines.{unwrapped_lines_of}
use Rattle.line_tokens.specs.declared.line.ULine.{ULine}
use Rattle.annotator.specs.Tokens.{roles_of}
use Rattle.run_parts.proofs.read.read_items.Goals as goal

pub classes_among-requires : goal.classes_among-requires
classes_among-requires c = record { all = c.requires.all; within = c.requires.within }

pub lines_of_classes-requires : goal.lines_of_classes-requires
lines_of_classes-requires c = record { within = c.requires.within; classes = c.in_ok-classes.ensures.classes }

pub roles_of_classes-requires : goal.roles_of_classes-requires
roles_of_classes-requires c = record { within = c.requires.within; classes = c.in_ok-classes.ensures.classes; cut = c.in_ok-lines.ensures.cut }

pub returns : goal.returns
returns c =
    let style = c.args.style.now in
    let arena = c.args.arena.now in
    let ids = c.args.view.now in
    let lines = c.in_ok-lines.lines.now in
    let classes = c.in_ok-classes.ensures.classes in
    let partners_is : c.in_ok-facts.facts.partners.now ≡ partners_of (classes_of arena ids) = c.in_ok-facts.ensures.partners ∙ ap (λ (cs : List TokenClass). partners_of cs) classes in
    let lines_is : lines ≡ unwrapped_lines_of style arena ids (partners_of (classes_of arena ids)) = c.in_ok-lines.ensures.lines ∙ ap (λ (ps : List (Option ℕ)). unwrapped_lines_of style arena ids ps) partners_is in
    record {
      classes = classes;
      kept = c.in_ok-facts.ensures.kept ∙ ap (λ (cs : List TokenClass). kept_gaps_of cs) classes;
      marks = c.in_ok-facts.ensures.count ∙ (ap (λ (cs : List TokenClass). length cs) classes ∙ length-map ids (item_class arena));
      lines = lines_is;
      cut = c.in_ok-lines.ensures.cut;
      tokens = c.in_ok-tokens.ensures.roles ∙ (ap (λ (ps : List (Option ℕ)). roles_of arena ids ps lines) partners_is ∙ ap (λ (ls : List ULine). roles_of arena ids (partners_of (classes_of arena ids)) ls) lines_is);
      count = c.in_ok-tokens.ensures.count;
      tell = c.in_ok-tokens.ensures.items;
    }
