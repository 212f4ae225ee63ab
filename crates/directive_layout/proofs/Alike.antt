-- Where no splice stands, what is decided depends on no column and on no braces.
use Rattle.std.proofs.Common.{◌≡◌, ◌∙◌, ◌<◌, ℕ, zero, suc, ◌+◌, ◌-◌, Bool, true, false, List, [], ◌∷◌, Option, Some, None, drop, refl, sym, ap, arith, slice_get}
use Rattle.std.specs.Prelude.{if◌then◌else◌}
use Rattle.std.proofs.lemmas.Bool.{or_parts}
use Rattle.c_chars.specs.declared.Dialect.{Dialect}
use Rattle.c_grammar.specs.Fitting.{is_comment}
use Rattle.line_tokens.specs.declared.LineTok.{LineTok}
use Rattle.token_arena.specs.Stored.{Stored}
use Rattle.token_arena.specs.Gaps.{Contents}
use Rattle.style_table.specs.declared.style.Style.{Style}
use Rattle.replacements.specs.declared.gap_text.Decision.{Decision}
use Rattle.replacements.specs.declared.gap_text.Decision.TheVariants.{Old}
use Rattle.replacements.specs.declared.slot.Slot.{Slot}
use Rattle.replacements.specs.Decisions.{decided, decided_all}
use Rattle.directive_layout.specs.Heads.{first_decision, head_spaces}
use Rattle.directive_layout.specs.Staying.{stays}
use Rattle.directive_layout.specs.Operands.{operand_spaces, decision_for, inner_decision}
use Rattle.directive_layout.specs.Parts.{first_part, next_part}
use Rattle.directive_layout.specs.Laid.{is_operand, slot_for, next_index, next_walk, has_splice, inner_from, laid_between}
use Rattle.directive_layout.specs.declared.part.HeadPart.{HeadPart}
use Rattle.directive_layout.specs.declared.part.HeadPart.TheVariants.{Before, Hash, BeforeName, Name, BeforeMacro}
use Rattle.directive_layout.specs.declared.part.HeadPart.TheVariants.{Nameless, Macro, Opening, Parameter, Closing}
use Rattle.directive_layout.specs.declared.part.HeadPart.TheVariants.{Operand}
use Rattle.directive_layout.specs.declared.staying.Staying.{Staying}
use Rattle.directive_layout.specs.declared.walk.Walk.{Walk}
use Rattle.directive_layout.proofs.Laid.{walk_at, longest_of, first_laid, next_step, next_spliced}

-- ## One decision

-- a walk of which the part and the index alone are known
abbrev pub plain : HeadPart → ℕ → Walk
plain part index = record { part = part; braces = 0; index = index; column = 0 }

decided_alike : (style : Style) (d : Dialect) (longest longest2 column column2 braces braces2 : ℕ) (left token : Stored) (count : Option ℕ) (spaces : ℕ) → token.gap.splice ≡ false →
    decision_for style d longest column braces left token count spaces ≡ decision_for style d longest2 column2 braces2 left token count spaces
decided_alike style d longest longest2 column column2 braces braces2 left token (Some count) spaces none = refl
decided_alike style d longest longest2 column column2 braces braces2 left token None spaces none = rw none refl

-- what is decided at a walk that stands so
abbrev decision_of : Style → Dialect → ℕ → Staying → List LineTok → ℕ → ℕ → ℕ → HeadPart → ℕ → Stored → Stored → Decision
decision_of style d depth staying toks longest column braces part index left token =
    if stays d staying part token then Old
    else decision_for style d longest column braces left token (head_spaces style d depth part left token) (operand_spaces style toks part token index)

-- the same is decided at any walk with this part and index
pub decision_alike : (style : Style) (d : Dialect) (depth : ℕ) (staying : Staying) (toks : List LineTok) (longest longest2 : ℕ) (walk walk2 : Walk) (left token : Stored) → token.gap.splice ≡ false → walk.part ≡ walk2.part → walk.index ≡ walk2.index →
    inner_decision style d depth staying toks longest walk left token ≡ inner_decision style d depth staying toks longest2 walk2 left token
decision_alike style d depth staying toks longest longest2 walk walk2 left token none part index =
    ap (λ p. decision_of style d depth staying toks longest walk.column walk.braces p walk.index left token) part
    ∙ ap (λ i. decision_of style d depth staying toks longest walk.column walk.braces walk2.part i left token) index
    ∙ ap (λ (z : Decision). if stays d staying walk2.part token then Old else z)
    (decided_alike style d longest longest2 walk.column walk2.column walk.braces walk2.braces left token (head_spaces style d depth walk2.part left token) (operand_spaces style toks walk2.part token walk2.index) none)

-- ## All of them

pub laid_alike : (style : Style) (d : Dialect) (depth : ℕ) (staying : Staying) (toks : List LineTok) (longest longest2 place : ℕ) (walk walk2 : Walk) (left : Stored) (tokens : List Stored) (count : ℕ) → has_splice tokens count ≡ false → walk.part ≡ walk2.part → walk.index ≡ walk2.index →
    inner_from style d depth staying toks longest place walk left tokens count ≡ inner_from style d depth staying toks longest2 place walk2 left tokens count
laid_alike style d depth staying toks longest longest2 place walk walk2 left tokens zero none part index = refl
laid_alike style d depth staying toks longest longest2 place walk walk2 left [] (suc count) none part index = refl
laid_alike style d depth staying toks longest longest2 place walk walk2 left (token ∷ tokens) (suc count) none part index =
    let parts = or_parts token.gap.splice (has_splice tokens count) none in
    let here = decision_alike style d depth staying toks longest longest2 walk walk2 left token parts.0 part index in
    let next = next_walk d walk left token (inner_decision style d depth staying toks longest walk left token) in
    let next2 = next_walk d walk2 left token (inner_decision style d depth staying toks longest2 walk2 left token) in
    let next_part_is : next.part ≡ next2.part = ap (λ p. next_part d p left token) part in
    let next_index_is : next.index ≡ next2.index = ap (λ p. next_index (next_part d p left token) walk.index) part ∙ ap (λ i. next_index (next_part d walk2.part left token) i) index in
    let rest = laid_alike style d depth staying toks longest longest2 (place + 1) next next2 token tokens count parts.1 next_part_is next_index_is in
    ap (λ (z : Decision). (place, slot_for z) ∷ inner_from style d depth staying toks longest (place + 1) next token tokens count) here
    ∙ ap (λ z. (place, slot_for (inner_decision style d depth staying toks longest2 walk2 left token)) ∷ z) rest

-- ## Steps of the loops

-- no splice stands before the item at a place, and none behind it
pub none_here : (arena : Contents) (place end : ℕ) (token : Stored) → slice_get arena.tokens place ≡ Some token → place < end → has_splice (drop place arena.tokens) (end - place) ≡ false →
    (token.gap.splice ≡ false) × (has_splice (drop (place + 1) arena.tokens) (end - (place + 1)) ≡ false)
none_here arena place end token is within none = or_parts token.gap.splice (has_splice (drop (place + 1) arena.tokens) (end - (place + 1))) (sym (next_spliced arena place end token is within) ∙ none)

pub first_unspliced : (style : Style) (arena : Contents) (depth : ℕ) (staying : Staying) (toks : List LineTok) (first end : ℕ) (token : Stored) (plan new : List (Option Slot)) (decision : Decision) (part : HeadPart) → slice_get arena.tokens first ≡ Some token →
    has_splice (drop (first + 1) arena.tokens) (end - (first + 1)) ≡ false → new ≡ decided plan first (slot_for decision) → decision ≡ first_decision style depth first token.gap → part ≡ first_part token →
    decided_all new (inner_from style arena.dialect depth staying toks 0 (first + 1) (plain part 0) token (drop (first + 1) arena.tokens) (end - (first + 1))) ≡ decided_all plan (laid_between style arena depth staying toks first end)
first_unspliced style arena depth staying toks first end token plan new decision part is none new_is decision_is part_is =
    let rest = inner_from style arena.dialect depth staying toks 0 (first + 1) (plain part 0) token (drop (first + 1) arena.tokens) (end - (first + 1)) in
    ap (λ z. decided_all z rest) (new_is ∙ ap (λ (z : Decision). decided plan first (slot_for z)) decision_is)
    ∙ ap (λ z. decided_all (decided plan first (slot_for (first_decision style depth first token.gap))) z)
    (laid_alike style arena.dialect depth staying toks 0 (longest_of style arena depth staying toks first end token) (first + 1) (plain part 0) (walk_at style depth first token) token (drop (first + 1) arena.tokens) (end - (first + 1)) none part_is refl)
    ∙ sym (ap (decided_all plan) (first_laid style arena depth staying toks first end token is))

pub next_unspliced : (style : Style) (arena : Contents) (d : Dialect) (depth : ℕ) (staying : Staying) (toks : List LineTok) (longest place end : ℕ) (part next : HeadPart) (index more : ℕ) (left token : Stored) (plan new : List (Option Slot)) (decision : Decision) →
    slice_get arena.tokens place ≡ Some token → place < end → d ≡ arena.dialect → has_splice (drop place arena.tokens) (end - place) ≡ false → new ≡ decided plan place (slot_for decision) → decision ≡ inner_decision style d depth staying toks longest (plain part index) left token → next ≡ next_part d part left token → more ≡ next_index next index →
    decided_all new (inner_from style arena.dialect depth staying toks longest (place + 1) (plain next more) token (drop (place + 1) arena.tokens) (end - (place + 1)))
    ≡ decided_all plan (inner_from style arena.dialect depth staying toks longest place (plain part index) left (drop place arena.tokens) (end - place))
next_unspliced style arena d depth staying toks longest place end part next index more left token plan new decision is within d_is none new_is decision_is next_is more_is =
    let behind = none_here arena place end token is within none in
    let walk = next_walk d (plain part index) left token decision in
    ap (decided_all new)
    (laid_alike style arena.dialect depth staying toks longest longest (place + 1) (plain next more) walk token (drop (place + 1) arena.tokens) (end - (place + 1)) behind.1 next_is (more_is ∙ ap (λ p. next_index p index) next_is))
    ∙ next_step style arena d depth staying toks longest place end (plain part index) walk left token plan new decision is within d_is new_is decision_is refl

-- ## Parts

pub operand_of : (part : HeadPart) → is_operand part ≡ true → part ≡ Operand
operand_of Before is = cc
operand_of Hash is = cc
operand_of BeforeName is = cc
operand_of Name is = cc
operand_of BeforeMacro is = cc
operand_of Nameless is = cc
operand_of Macro is = cc
operand_of Opening is = cc
operand_of Parameter is = cc
operand_of Closing is = cc
operand_of Operand is = refl

-- the first item is none of the operand
before_operand : (comment : Bool) → is_operand (if comment then Before else Hash) ≡ false
before_operand true = refl
before_operand false = refl

pub first_head : (token : Stored) → is_operand (first_part token) ≡ false
first_head token = before_operand (is_comment token.kind)

-- an item of the operand is counted, and one of the head isn't
pub counted_first : (part : HeadPart) → is_operand part ≡ true → 1 ≡ next_index part 0
counted_first part is = rw is refl

pub counted_none : (part : HeadPart) → is_operand part ≡ false → 0 ≡ next_index part 0
counted_none part is = rw is refl

-- behind the first item of an operand one has come
pub operand_begun : (style : Style) (arena : Contents) (depth : ℕ) (staying : Staying) (toks : List LineTok) (longest first end : ℕ) (walk : Walk) (left token : Stored) → has_splice (drop (first + 1) arena.tokens) (end - (first + 1)) ≡ false → walk.part ≡ Operand → walk.index ≡ 1 → slice_get arena.tokens first ≡ Some left → slice_get arena.tokens first ≡ Some token →
    inner_from style arena.dialect depth staying toks longest (first + 1) (plain Operand (first + 1 - first)) token (drop (first + 1) arena.tokens) (end - (first + 1)) ≡ inner_from style arena.dialect depth staying toks longest (first + 1) walk left (drop (first + 1) arena.tokens) (end - (first + 1))
operand_begun style arena depth staying toks longest first end walk left token none part index is is2 =
    let same : token ≡ left = cc in
    let one : first + 1 - first ≡ 1 = omega arith in
    laid_alike style arena.dialect depth staying toks longest longest (first + 1) (plain Operand (first + 1 - first)) walk token (drop (first + 1) arena.tokens) (end - (first + 1)) none (sym part) (one ∙ sym index)
    ∙ ap (λ z. inner_from style arena.dialect depth staying toks longest (first + 1) walk z (drop (first + 1) arena.tokens) (end - (first + 1))) same
