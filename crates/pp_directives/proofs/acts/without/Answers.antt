use Rattle.std.proofs.Common.{map, ap, ◌∙◌, rules}
use Rattle.std.proofs.lemmas.Fn.{filter_same}
use Rattle.pp_events.specs.View.{macro_shown}
use Rattle.pp_directives.proofs.Kept.{is_other, kept_shown}
use Rattle.pp_directives.proofs.acts.without.Goals as goal

pub returns : goal.returns
returns c =
    ap (map macro_shown) (filter_same _ (is_other c.args.name.now) _ (λ x b q h. (search rules, search rules)) _ _ c.retain.ensures.filtered)
    ∙ kept_shown c.args.name.now c.args.table.now.items
