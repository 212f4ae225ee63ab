-- The line of an offset, by the line of an offset before it.
use Rattle.std.proofs.Common.{◌≡◌, ◌∙◌, ℕ, ◌+◌, ◌-◌, ◌≤◌, ◌==◌, List, ◌++◌, length, take, drop, sym, ap, arith, count_by}
use Rattle.std.specs.Prelude.{filter}
use Rattle.std.proofs.lemmas.List.Sums.{length-filter, count_by-le-length}
use Rattle.std.proofs.lemmas.List.Elements.{filter-append}
use Rattle.std.proofs.lemmas.List.{length-take, length-append}
use Rattle.std.proofs.Math.Seq.{take-add}
use Rattle.pp_model.specs.Stream.{line_at}

-- Each new-line on the way is a line more.
pub lines_further : (text : List ℕ) (at to : ℕ) → at ≤ to → line_at text to ≡ line_at text at + count_by (λ c. c == 10) (take (to - at) (drop at text))
lines_further text at to h =
    let reach : at + (to - at) ≡ to = omega arith in
    let cut : take to text ≡ take at text ++ take (to - at) (drop at text) = ap (λ k. take k text) (sym reach) ∙ take-add at (to - at) text in
    let parts : filter (λ c. c == 10) (take to text) ≡ filter (λ c. c == 10) (take at text) ++ filter (λ c. c == 10) (take (to - at) (drop at text)) =
    ap (filter (λ c. c == 10)) cut ∙ filter-append (λ c. c == 10) (take at text) (take (to - at) (drop at text)) in
    let lens : length (filter (λ c. c == 10) (take to text)) ≡ length (filter (λ c. c == 10) (take at text)) + length (filter (λ c. c == 10) (take (to - at) (drop at text))) =
    ap length parts ∙ length-append (filter (λ c. c == 10) (take at text)) (filter (λ c. c == 10) (take (to - at) (drop at text))) in
    let count = length-filter (λ c. c == 10) (take (to - at) (drop at text)) in
    omega (arith, lens, count)

-- a text has at most a line more than bytes
pub line_small : (text : List ℕ) (at : ℕ) → line_at text at ≤ length text + 1
line_small text at =
    let count = length-filter (λ c. c == 10) (take at text) in
    let some = count_by-le-length (λ c. c == 10) (take at text) in
    omega (arith, count, some, length-take at text)
