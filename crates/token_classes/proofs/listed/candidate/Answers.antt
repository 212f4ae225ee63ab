use Rattle.std.proofs.Common.{◌∙◌, ◌∷◌, [], arith, ap, sym, refl, get_or}
use Rattle.token_classes.specs.Inside.{no_row}
use Rattle.token_classes.specs.Words.{class_in}
use Rattle.token_classes.specs.declared.listed.TheConstants.{ROW_OF_KEY}
use Rattle.token_classes.proofs.ListedLemmas.{all_rows, candidate_told, each_below}
use Rattle.token_classes.proofs.listed.candidate.Goals as goal

pub row_at-requires : goal.row_at-requires
row_at-requires c =
    let few = each_below 49 c.key_of.result ROW_OF_KEY refl in
    omega (arith, few, c.row_of.ensures)

pub returns : goal.returns
returns c = λ other.
    let spelled = c.args.spelled.now in
    sym (c.row_at.ensures spelled other)
    ∙ (ap (λ place. class_in (get_or all_rows place no_row ∷ []) spelled other) (c.row_of.ensures ∙ ap (λ key. get_or ROW_OF_KEY key 0) c.key_of.ensures.value)
    ∙ candidate_told ROW_OF_KEY spelled other refl c.requires)
