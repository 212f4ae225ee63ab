-- The lines of a text, one after another.
use Rattle.std.proofs.Common.{◌≡◌, ◌≤◌, ℕ, zero, suc, ◌+◌, List, [], ◌∷◌, ◌++◌, map, length, drop, refl, ap, sym, arith, ◌∙◌, append-nil, append_assoc, Some, None}
use Rattle.std.proofs.lemmas.List.{length-map}
use Rattle.bstr.specs.Text.{lines_from, lines_of, line_len, without_terminator}
use Rattle.style_config.specs.Lines.{NumberedLine, with_line, line_of, line_text, numbered_from, numbered_text, document_text}
use Rattle.style_config.specs.declared.line.Line.{Line as ReadLine}
use Rattle.style_config.specs.declared.line.NumberedLine.{NumberedLine as ReadNumberedLine}

length-lines_from : (fuel : ℕ) (text : List ℕ) → length (lines_from fuel text) ≤ fuel
unfolding lines_from
length-lines_from zero text = omega arith
length-lines_from (suc n) [] = omega arith
length-lines_from (suc n) (c ∷ rest) = let shorter = length-lines_from n (drop (line_len (c ∷ rest)) (c ∷ rest)) in omega (arith, shorter)

-- there are no more lines than bytes
pub length_lines : (text : List ℕ) → length (map without_terminator (lines_of text)) ≤ length text
length_lines text = rw (length-map (lines_of text) without_terminator) (length-lines_from (length text) text)

-- one line more
pub numbered_step : (number : ℕ) (text : List ℕ) (rest : List (List ℕ))
    → numbered_from number (text ∷ rest) ≡ with_line number (line_of text) (numbered_from (number + 1) rest)
unfolding numbered_from
numbered_step number text rest = refl

-- no line is left
pub numbered_end : (number : ℕ) → numbered_from number [] ≡ []
unfolding numbered_from
numbered_end number = refl

-- a line that is put behind others
pub document_text_push : (lines : List ReadNumberedLine) (line : ReadNumberedLine)
    → document_text (lines ++ line ∷ []) ≡ document_text lines ++ numbered_text line ∷ []
document_text_push [] line = refl
document_text_push (x ∷ lines) line = ap (λ rest. numbered_text x ∷ rest) (document_text_push lines line)

-- a line that isn't passed over was read
pub line_was_read : (lines items : List ReadNumberedLine) (number : ℕ) (text : List ℕ) (line : ReadLine) (now rest : List (List ℕ)) (all : List NumberedLine)
    → document_text lines ++ numbered_from number now ≡ all → now ≡ text ∷ rest → Some (line_text line) ≡ line_of text
    → items ≡ lines ++ record { number = number; line = line } ∷ [] → document_text items ++ numbered_from (number + 1) rest ≡ all
line_was_read lines items number text line now rest all before first is pushed =
    let read : numbered_from number now ≡ record { number = number; line = line_text line } ∷ numbered_from (number + 1) rest =
    ap (numbered_from number) first ∙ (numbered_step number text rest ∙ ap (λ o. with_line number o (numbered_from (number + 1) rest)) (sym is)) in
    ap (λ xs. document_text xs ++ numbered_from (number + 1) rest) pushed
    ∙ (ap (λ xs. xs ++ numbered_from (number + 1) rest) (document_text_push lines (record { number = number; line = line }))
    ∙ (append_assoc (document_text lines) _ _ ∙ (ap (λ xs. document_text lines ++ xs) (sym read) ∙ before)))

-- a line that is passed over was read
pub line_was_passed : (lines : List ReadNumberedLine) (number : ℕ) (text : List ℕ) (now rest : List (List ℕ)) (all : List NumberedLine)
    → document_text lines ++ numbered_from number now ≡ all → now ≡ text ∷ rest → None ≡ line_of text
    → document_text lines ++ numbered_from (number + 1) rest ≡ all
line_was_passed lines number text now rest all before first is =
    let read : numbered_from number now ≡ numbered_from (number + 1) rest =
    ap (numbered_from number) first ∙ (numbered_step number text rest ∙ ap (λ o. with_line number o (numbered_from (number + 1) rest)) (sym is)) in
    ap (λ xs. document_text lines ++ xs) (sym read) ∙ before

-- all lines were read
pub all_was_read : (lines : List ReadNumberedLine) (number : ℕ) (now : List (List ℕ)) (all : List NumberedLine)
    → document_text lines ++ numbered_from number now ≡ all → now ≡ [] → document_text lines ≡ all
all_was_read lines number now all before none =
    sym (append-nil (document_text lines))
    ∙ (ap (λ xs. document_text lines ++ xs) (sym (ap (numbered_from number) none ∙ numbered_end number)) ∙ before)
