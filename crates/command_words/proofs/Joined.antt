-- Texts joined, one more at a time.
use Rattle.std.proofs.Common.{◌≡◌, ◌∙◌, ◌+◌, ◌++◌, ◌<◌, ℕ, List, [], ◌∷◌, append-nil, append_assoc, ap, length, get_or, map, refl, sym, take, zero-add}
use Rattle.std.specs.List.{concat, range_with_len}
use Rattle.std.proofs.lemmas.List.{map_more}
use Rattle.std.proofs.lemmas.List.Folds.{concat-append}
use Rattle.std.proofs.lemmas.List.FromFn.{map-range_with_len_more}
use Rattle.command_words.specs.Generated.{generated, piece}

one_more : (parts : List (List ℕ)) (part : List ℕ) → concat (parts ++ part ∷ []) ≡ concat parts ++ part
one_more parts part = concat-append parts (part ∷ []) ∙ ap (λ (end : List ℕ). concat parts ++ end) (append-nil part)

-- a text with the next part behind it
pub part_added : {A : Type 0} (text_of : A → List ℕ) (before : List ℕ) (parts : List A) (i : ℕ) (d : A) → i < length parts →
    (before ++ concat (map text_of (take i parts))) ++ text_of (get_or parts i d) ≡ before ++ concat (map text_of (take (i + 1) parts))
part_added text_of before parts i d within =
    let done : List (List ℕ) = map text_of (take i parts) in
    append_assoc before (concat done) (text_of (get_or parts i d))
    ∙ ap (λ (all : List ℕ). before ++ all) (sym (ap concat (map_more text_of parts i d within) ∙ one_more done (text_of (get_or parts i d))))

-- the pieces with the next one behind them
pub piece_added : (seed count : ℕ) → generated seed count ++ piece seed count ≡ generated seed (count + 1)
unfolding generated
piece_added seed count = sym (ap concat (map-range_with_len_more (piece seed) 0 count count (zero-add count)) ∙ one_more (map (piece seed) (range_with_len 0 count)) (piece seed count))

pub no_pieces : (seed : ℕ) → [] ≡ generated seed 0
unfolding generated
no_pieces seed = refl
