-- What is made of a style, one line and one document after another.
use Rattle.std.proofs.Common.{Bool, ◌≡◌, ◌<◌, ◌≤◌, ◌+◌, ℕ, suc, List, [], ◌∷◌, length, drop, get_or, drop_of_length-le, Some, None, Ok, Err, Result, refl, ap, sym, ◌∙◌, arith}
use Rattle.std.specs.declared.option.Option.{Option}
use Rattle.std.specs.Borrow.{Bor}
use Rattle.std.specs.Str.{IsUtf8}
use Rattle.std.proofs.Math.Seq.{drop-cons}
use Rattle.style_table.specs.declared.style.Style.{Style}
use Rattle.style_config.specs.declared.line.NumberedLine.{NumberedLine as ReadNumberedLine}
use Rattle.style_config.specs.declared.entry.Owner.{Owner}
use Rattle.style_config.specs.declared.skipped.SkippedKey.{SkippedKey}
use Rattle.style_config.specs.declared.fault.ConfigFault.{ConfigFault}
use Rattle.style_config.specs.declared.fault.ConfigFault.TheVariants.{NotUtf8, BadLine, UnknownStyle, BadValue, OutOfRange, Repeated, NoMemory}
use Rattle.style_config.specs.Lines.{NumberedLine, numbered_text, line_text, document_text, documents_text, base_of, base_after}
use Rattle.style_config.specs.Entries.{Item, items_from, items_of, item_of, owner_after, begins_nested, with_item}
use Rattle.style_config.specs.Reading.{Effect, Gives, Reads, reading, read_items, read_given, before_given, read_documents, unless_fault}
use Rattle.style_config.proofs.Documents.{drop_line}

drop_document : (documents : List (Bor (List ReadNumberedLine))) (at : ℕ) (d : Bor (List ReadNumberedLine)) → at < length documents
    → drop at documents ≡ get_or documents at d ∷ drop (at + 1) documents
drop_document documents at d within = let next : at + 1 ≡ suc at = omega arith in rw next (drop-cons documents at d within)

base_of-cons : (style : Style) (documents rest : List (Bor (List ReadNumberedLine))) (document : Bor (List ReadNumberedLine)) → documents ≡ document ∷ rest
    → base_of style (documents_text documents) ≡ base_of (base_after style (document_text document.now)) (documents_text rest)
unfolding base_of
base_of-cons style documents rest document first = ap (λ xs. base_of style (documents_text xs)) first

base_of-nil : (style : Style) (documents : List (Bor (List ReadNumberedLine))) → documents ≡ [] → base_of style (documents_text documents) ≡ style
unfolding base_of
base_of-nil style documents none = ap (λ xs. base_of style (documents_text xs)) none

-- a document more was looked at for the base
pub base_of_document : (style next base : Style) (documents : List (Bor (List ReadNumberedLine))) (at : ℕ) (d : Bor (List ReadNumberedLine)) → at < length documents
    → next ≡ base_after style (document_text (get_or documents at d).now) → base_of style (documents_text (drop at documents)) ≡ base
    → base_of next (documents_text (drop (at + 1) documents)) ≡ base
base_of_document style next base documents at d within is before =
    ap (λ s. base_of s (documents_text (drop (at + 1) documents))) is
    ∙ (sym (base_of-cons style (drop at documents) (drop (at + 1) documents) (get_or documents at d) (drop_document documents at d within)) ∙ before)

-- all documents were looked at for the base
pub base_of_all : (style base : Style) (documents : List (Bor (List ReadNumberedLine))) (at : ℕ) → length documents ≤ at
    → base_of style (documents_text (drop at documents)) ≡ base → style ≡ base
base_of_all style base documents at past before = sym (base_of-nil style (drop at documents) (drop_of_length-le documents past)) ∙ before

-- an answer that is a fault is the answer for the whole, where the fault ends the reading
pub Gives_fault : (part whole : Result Effect ConfigFault) (fault : ConfigFault) (skipped after : List SkippedKey) → Gives part (Err fault) skipped
    → (part ≡ Err fault → whole ≡ Err fault) → Gives whole (Err fault) after
Gives_fault part whole (NotUtf8 offset) skipped after gives ends = gives
Gives_fault part whole (BadLine line) skipped after gives ends = ends gives
Gives_fault part whole (UnknownStyle line) skipped after gives ends = ends gives
Gives_fault part whole (BadValue line) skipped after gives ends = ends gives
Gives_fault part whole (OutOfRange line) skipped after gives ends = ends gives
Gives_fault part whole (Repeated line) skipped after gives ends = ends gives
Gives_fault part whole NoMemory skipped after gives ends = tt

items-cons : (owner : Owner) (lines rest : List NumberedLine) (line : NumberedLine) → lines ≡ line ∷ rest
    → items_from owner lines ≡ with_item (item_of owner line.number line.line (begins_nested rest)) (items_from (owner_after owner line.line) rest)
unfolding items_from
items-cons owner lines rest line first = ap (items_from owner) first

items-nil : (owner : Owner) (lines : List NumberedLine) → lines ≡ [] → items_from owner lines ≡ []
unfolding items_from
items-nil owner lines none = ap (items_from owner) none

read_items-with : (before : List (List ℕ)) (effect : Effect) (item : Option Item) (rest : List Item)
    → read_items before effect (with_item item rest) ≡ unless_fault (read_given before effect item) (λ next. read_items (before_given before item) next rest)
unfolding read_items
read_items-with before effect None rest = refl
read_items-with before effect (Some item) rest = refl

read_items-nil : (before : List (List ℕ)) (effect : Effect) → read_items before effect [] ≡ Ok effect
unfolding read_items
read_items-nil before effect = refl

line_read : (before : List (List ℕ)) (effect : Effect) (owner : Owner) (lines : List ReadNumberedLine) (at : ℕ) (d : ReadNumberedLine) (item : Option Item) (next : Bool) (others : List ReadNumberedLine) → at < length lines
    → item ≡ item_of owner (get_or lines at d).number (line_text (get_or lines at d).line) next → next ≡ begins_nested (document_text others) → others ≡ drop (at + 1) lines
    → read_items before effect (items_from owner (document_text (drop at lines)))
    ≡ unless_fault (read_given before effect item) (λ next. read_items (before_given before item) next (items_from (owner_after owner (line_text (get_or lines at d).line)) (document_text (drop (at + 1) lines))))
line_read before effect owner lines at d item next others within is nested from =
    let line : ReadNumberedLine = get_or lines at d in
    let rest : List NumberedLine = document_text (drop (at + 1) lines) in
    let items : List Item = items_from (owner_after owner (line_text line.line)) rest in
    ap (read_items before effect) (items-cons owner (document_text (drop at lines)) rest (numbered_text line) (ap document_text (drop_line lines at d within))
    ∙ ap (λ i. with_item i items) (sym (is ∙ ap (item_of owner line.number (line_text line.line)) (nested ∙ ap (λ xs. begins_nested (document_text xs)) from))))
    ∙ read_items-with before effect item items

-- a line more was read
pub line_was_read : (before after : List (List ℕ)) (effect changed : Effect) (owner behind : Owner) (lines : List ReadNumberedLine) (at : ℕ) (d : ReadNumberedLine) (item : Option Item)
    (next : Bool) (others : List ReadNumberedLine) (all : Result Effect ConfigFault) → at < length lines
    → item ≡ item_of owner (get_or lines at d).number (line_text (get_or lines at d).line) next → next ≡ begins_nested (document_text others) → others ≡ drop (at + 1) lines
    → read_given before effect item ≡ Ok changed → after ≡ before_given before item → behind ≡ owner_after owner (line_text (get_or lines at d).line)
    → read_items before effect (items_from owner (document_text (drop at lines))) ≡ all
    → read_items after changed (items_from behind (document_text (drop (at + 1) lines))) ≡ all
line_was_read before after effect changed owner behind lines at d item next others all within is nested from gives seen owns known =
    let rest : List NumberedLine = document_text (drop (at + 1) lines) in
    ap (λ b. read_items b changed (items_from behind rest)) seen
    ∙ (ap (λ o. read_items (before_given before item) changed (items_from o rest)) owns
    ∙ (sym (ap (λ r. unless_fault r (λ e. read_items (before_given before item) e (items_from (owner_after owner (line_text (get_or lines at d).line)) rest))) gives)
    ∙ (sym (line_read before effect owner lines at d item next others within is nested from) ∙ known)))

-- a line is at fault
pub line_is_at_fault : (before : List (List ℕ)) (effect : Effect) (owner : Owner) (lines : List ReadNumberedLine) (at : ℕ) (d : ReadNumberedLine) (item : Option Item)
    (next : Bool) (others : List ReadNumberedLine) (fault : ConfigFault) (all : Result Effect ConfigFault) → at < length lines
    → item ≡ item_of owner (get_or lines at d).number (line_text (get_or lines at d).line) next → next ≡ begins_nested (document_text others) → others ≡ drop (at + 1) lines
    → read_items before effect (items_from owner (document_text (drop at lines))) ≡ all
    → read_given before effect item ≡ Err fault → all ≡ Err fault
line_is_at_fault before effect owner lines at d item next others fault all within is nested from known gives =
    sym known ∙ (line_read before effect owner lines at d item next others within is nested from
    ∙ ap (λ r. unless_fault r (λ e. read_items (before_given before item) e (items_from (owner_after owner (line_text (get_or lines at d).line)) (document_text (drop (at + 1) lines))))) gives)

-- all lines were read
pub lines_were_read : (before : List (List ℕ)) (effect : Effect) (owner : Owner) (lines : List ReadNumberedLine) (at : ℕ) (all : Result Effect ConfigFault) → length lines ≤ at
    → read_items before effect (items_from owner (document_text (drop at lines))) ≡ all → all ≡ Ok effect
lines_were_read before effect owner lines at all past known =
    sym known ∙ (ap (read_items before effect) (items-nil owner (document_text (drop at lines)) (ap document_text (drop_of_length-le lines past))) ∙ read_items-nil before effect)

documents-cons : (effect : Effect) (documents rest : List (Bor (List ReadNumberedLine))) (document : Bor (List ReadNumberedLine)) → documents ≡ document ∷ rest
    → read_documents effect (documents_text documents)
    ≡ unless_fault (read_items [] effect (items_of (document_text document.now))) (λ next. read_documents next (documents_text rest))
unfolding read_documents
documents-cons effect documents rest document first = ap (λ xs. read_documents effect (documents_text xs)) first

documents-nil : (effect : Effect) (documents : List (Bor (List ReadNumberedLine))) → documents ≡ [] → read_documents effect (documents_text documents) ≡ Ok effect
unfolding read_documents
documents-nil effect documents none = ap (λ xs. read_documents effect (documents_text xs)) none

-- a document more was read
pub document_was_read : (effect next : Effect) (documents : List (Bor (List ReadNumberedLine))) (at : ℕ) (d : Bor (List ReadNumberedLine)) (all : Result Effect ConfigFault) → at < length documents
    → read_items [] effect (items_of (document_text (get_or documents at d).now)) ≡ Ok next
    → read_documents effect (documents_text (drop at documents)) ≡ all
    → read_documents next (documents_text (drop (at + 1) documents)) ≡ all
document_was_read effect next documents at d all within gives known =
    sym (documents-cons effect (drop at documents) (drop (at + 1) documents) (get_or documents at d) (drop_document documents at d within)
    ∙ ap (λ r. unless_fault r (λ e. read_documents e (documents_text (drop (at + 1) documents)))) gives) ∙ known

-- a document is at fault
pub document_is_at_fault : (effect : Effect) (documents : List (Bor (List ReadNumberedLine))) (at : ℕ) (d : Bor (List ReadNumberedLine)) (fault : ConfigFault) (all : Result Effect ConfigFault)
    → at < length documents → read_documents effect (documents_text (drop at documents)) ≡ all
    → read_items [] effect (items_of (document_text (get_or documents at d).now)) ≡ Err fault → all ≡ Err fault
document_is_at_fault effect documents at d fault all within known gives =
    sym known ∙ (documents-cons effect (drop at documents) (drop (at + 1) documents) (get_or documents at d) (drop_document documents at d within)
    ∙ ap (λ r. unless_fault r (λ e. read_documents e (documents_text (drop (at + 1) documents)))) gives)

-- all documents were read
pub documents_were_read : (effect : Effect) (documents : List (Bor (List ReadNumberedLine))) (at : ℕ) (all : Result Effect ConfigFault) → length documents ≤ at
    → read_documents effect (documents_text (drop at documents)) ≡ all → all ≡ Ok effect
documents_were_read effect documents at all past known = sym known ∙ documents-nil effect (drop at documents) (drop_of_length-le documents past)

-- a fault of a text that is UTF-8
pub Reads_fault : (text : List ℕ) (base : Style) (expected : Result Effect ConfigFault) (fault : ConfigFault) (skipped : List SkippedKey) → IsUtf8 text
    → expected ≡ reading text base → Gives expected (Err fault) skipped → Reads text base (Err fault)
Reads_fault text base expected (NotUtf8 offset) skipped valid is gives = absurd gives
Reads_fault text base expected (BadLine line) skipped valid is gives = (valid, sym is ∙ gives)
Reads_fault text base expected (UnknownStyle line) skipped valid is gives = (valid, sym is ∙ gives)
Reads_fault text base expected (BadValue line) skipped valid is gives = (valid, sym is ∙ gives)
Reads_fault text base expected (OutOfRange line) skipped valid is gives = (valid, sym is ∙ gives)
Reads_fault text base expected (Repeated line) skipped valid is gives = (valid, sym is ∙ gives)
Reads_fault text base expected NoMemory skipped valid is gives = tt
