use Rattle.std.proofs.Common.{◌≡◌, ◌∙◌, ◌&&◌, Bool, true, nat_lt, reverse, length, ap, sym}
use Rattle.std.specs.List.{list_any}
use Rattle.std.proofs.lemmas.List.{length-reverse}
use Rattle.token_classes.specs.Classes.{is_open_brace}
use Rattle.token_classes.specs.Kept.{is_round_or_square}
use Rattle.token_classes.specs.Partners.{count_braces}
use Rattle.token_classes.proofs.KeptLemmas.{some_no_brace}
use Rattle.token_classes.proofs.kept.opens_inside.Goals as goal

pub returns-then-is_open_brace : goal.returns-then-is_open_brace
returns-then-is_open_brace c =
    let stack = c.args.stack.now in
    let brace : is_open_brace c.args.class ≡ true = sym c.is_open_brace.ensures ∙ c.if-is_open_brace.true in
    ap (λ n. nat_lt n (length stack)) c.requires.count
    ∙ (ap (λ n. nat_lt (count_braces (reverse stack)) n) (sym (length-reverse stack))
    ∙ (sym (some_no_brace (reverse stack) c.requires.openers)
    ∙ ap (λ (b : Bool). b && list_any is_round_or_square (reverse stack)) (sym brace)))
