use Rattle.std.proofs.Common.{◌≡◌, ◌∙◌, length, nat_eq, true, sym}
use Rattle.unwrapped_lines.proofs.viewed.joined_tokens.Goals as goal

pub returns-then-is_empty : goal.returns-then-is_empty
returns-then-is_empty c =
    let none : nat_eq (length c.args.marked.now) 0 ≡ true = sym c.is_empty.ensures ∙ c.if-is_empty.true in
    record { by_class = λ some. absurd cc; by_partner = λ some. absurd cc; by_number = λ some. absurd cc }

pub returns : goal.returns
returns c =
    record {
      by_class = λ some. c.in_ok-joined.ensures.classes;
      by_partner = λ some. c.in_ok-joined.ensures.partners;
      by_number = λ some. c.in_ok-joined.ensures.numbers;
    }
