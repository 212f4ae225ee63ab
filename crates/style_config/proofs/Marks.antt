-- The documents between the marks, one after another.
use Rattle.std.proofs.Common.{◌≡◌, ◌<◌, ◌+◌, ℕ, suc, List, [], ◌∷◌, ◌++◌, length, take, drop, Bool, true, false, not, cond, filter, refl, ap, sym, ◌∙◌, arith, append_assoc}
use Rattle.std.specs.List.{position_or_len, slice_split, onto_first}
use Rattle.std.specs.Borrow.{Bor}
use Rattle.std.specs.List.{take-map, drop-map}
use Rattle.std.proofs.lemmas.List.{drop-drop, length-map, take_all}
use Rattle.std.proofs.lemmas.List.Splits.{slice_split_first}
use Rattle.std.proofs.lemmas.List.Elements.{filter-append}
use Rattle.style_config.specs.declared.line.NumberedLine.{NumberedLine as ReadNumberedLine}
use Rattle.style_config.specs.Lines.{NumberedLine, Marker, numbered_text, is_marker, document_text, documents_text, documents, documents_for_c, is_for_c}

abbrev mark : NumberedLine → Bool
mark line = is_marker line.line

split_case : {X : Type 0} (b : Bool) (x : X) (xs : List X) (parts : List (List X)) (len : ℕ) → cond (not b) (1 + len) 0 ≡ suc (length xs)
    → (len ≡ length xs → parts ≡ xs ∷ []) → cond b ([] ∷ parts) (onto_first x parts) ≡ (x ∷ xs) ∷ []
split_case true x xs parts len all rest = let never : ⊥ = omega (arith, all) in absurd never
split_case false x xs parts len all rest = ap (onto_first x) (rest (omega (arith, all)))

-- where no element passes there is one part
split_none : {X : Type 0} (p : X → Bool) (xs : List X) → position_or_len p xs ≡ length xs → slice_split p xs ≡ xs ∷ []
split_none p [] len = refl
split_none p (x ∷ xs) len = split_case (p x) x xs (slice_split p xs) (position_or_len p xs) len (split_none p xs)

-- the last document was looked at
pub last_document : (found items : List (Bor (List ReadNumberedLine))) (lines rest document : List ReadNumberedLine) (start len : ℕ) (all : List (List NumberedLine))
    → rest ≡ drop start lines → document ≡ take len rest → len ≡ position_or_len mark (document_text rest) → len ≡ length rest
    → documents_text found ++ documents_for_c (document_text (drop start lines)) ≡ all
    → documents_text items ≡ documents_text found ++ filter is_for_c (document_text document ∷ []) → documents_text items ≡ all
last_document found items lines rest document start len all from part first whole before kept =
    let one : documents (document_text rest) ≡ document_text rest ∷ [] =
    split_none mark (document_text rest) (sym first ∙ (whole ∙ sym (length-map rest numbered_text))) in
    let same : document ≡ rest = part ∙ take_all len rest (omega (arith, whole)) in
    kept ∙ (ap (λ xs. documents_text found ++ filter is_for_c (document_text xs ∷ [])) same
    ∙ (ap (λ parts. documents_text found ++ filter is_for_c parts) (sym one)
    ∙ (ap (λ xs. documents_text found ++ documents_for_c (document_text xs)) from ∙ before)))

-- a document was looked at, and others follow
pub next_document : (found items : List (Bor (List ReadNumberedLine))) (lines rest document : List ReadNumberedLine) (start len : ℕ) (all : List (List NumberedLine))
    → rest ≡ drop start lines → document ≡ take len rest → len ≡ position_or_len mark (document_text rest) → len < length rest
    → documents_text found ++ documents_for_c (document_text (drop start lines)) ≡ all
    → documents_text items ≡ documents_text found ++ filter is_for_c (document_text document ∷ [])
    → documents_text items ++ documents_for_c (document_text (drop (start + (len + 1)) lines)) ≡ all
next_document found items lines rest document start len all from part first within before kept =
    let behind : List NumberedLine = document_text (drop (start + (len + 1)) lines) in
    let cut : documents (document_text rest) ≡ take len (document_text rest) ∷ documents (drop (len + 1) (document_text rest)) =
    rw first (slice_split_first mark (document_text rest) (record { number = 0; line = Marker }) (rw (← first, length-map rest numbered_text) within)) in
    let others : drop (len + 1) (document_text rest) ≡ behind =
    drop-map numbered_text (len + 1) rest ∙ ap document_text (ap (drop (len + 1)) from ∙ drop-drop (len + 1) start lines) in
    let front : take len (document_text rest) ≡ document_text document = take-map numbered_text len rest ∙ ap document_text (sym part) in
    let both : filter is_for_c (document_text document ∷ []) ++ documents_for_c behind ≡ documents_for_c (document_text rest) =
    sym (filter-append is_for_c (document_text document ∷ []) (documents behind))
    ∙ ap (filter is_for_c) (sym (cut ∙ (ap (λ d. d ∷ documents (drop (len + 1) (document_text rest))) front ∙ ap (λ xs. document_text document ∷ documents xs) others))) in
    ap (λ xs. xs ++ documents_for_c behind) kept
    ∙ (append_assoc (documents_text found) (filter is_for_c (document_text document ∷ [])) (documents_for_c behind)
    ∙ (ap (λ xs. documents_text found ++ xs) both ∙ (ap (λ xs. documents_text found ++ documents_for_c (document_text xs)) from ∙ before)))
