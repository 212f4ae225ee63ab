use Rattle.std.proofs.Common.{◌∙◌, ap, sym, filter, ℕ, arith}
use Rattle.token_classes.specs.Words.{class_in, begins, punctuators}
use Rattle.token_classes.proofs.WordLemmas.{Outside, first_marks, no_other_mark}
use Rattle.token_classes.proofs.words.listed_mark.Goals as goal

pub returns-in-33 : goal.returns-in-33
returns-in-33 c = c.class_in.ensures ∙ ap (λ (first : ℕ). class_in (filter (begins first) punctuators) c.args.spelled.now c.args.other) (sym c.in-33.is)

pub returns-in-35 : goal.returns-in-35
returns-in-35 c = c.class_in-in-35.ensures ∙ ap (λ (first : ℕ). class_in (filter (begins first) punctuators) c.args.spelled.now c.args.other) (sym c.in-35.is)

pub returns-in-37 : goal.returns-in-37
returns-in-37 c = c.class_in-in-37.ensures ∙ ap (λ (first : ℕ). class_in (filter (begins first) punctuators) c.args.spelled.now c.args.other) (sym c.in-37.is)

pub returns-in-38 : goal.returns-in-38
returns-in-38 c = c.class_in-in-38.ensures ∙ ap (λ (first : ℕ). class_in (filter (begins first) punctuators) c.args.spelled.now c.args.other) (sym c.in-38.is)

pub returns-in-40 : goal.returns-in-40
returns-in-40 c = c.class_in-in-40.ensures ∙ ap (λ (first : ℕ). class_in (filter (begins first) punctuators) c.args.spelled.now c.args.other) (sym c.in-40.is)

pub returns-in-41 : goal.returns-in-41
returns-in-41 c = c.class_in-in-41.ensures ∙ ap (λ (first : ℕ). class_in (filter (begins first) punctuators) c.args.spelled.now c.args.other) (sym c.in-41.is)

pub returns-in-42 : goal.returns-in-42
returns-in-42 c = c.class_in-in-42.ensures ∙ ap (λ (first : ℕ). class_in (filter (begins first) punctuators) c.args.spelled.now c.args.other) (sym c.in-42.is)

pub returns-in-43 : goal.returns-in-43
returns-in-43 c = c.class_in-in-43.ensures ∙ ap (λ (first : ℕ). class_in (filter (begins first) punctuators) c.args.spelled.now c.args.other) (sym c.in-43.is)

pub returns-in-44 : goal.returns-in-44
returns-in-44 c = c.class_in-in-44.ensures ∙ ap (λ (first : ℕ). class_in (filter (begins first) punctuators) c.args.spelled.now c.args.other) (sym c.in-44.is)

pub returns-in-45 : goal.returns-in-45
returns-in-45 c = c.class_in-in-45.ensures ∙ ap (λ (first : ℕ). class_in (filter (begins first) punctuators) c.args.spelled.now c.args.other) (sym c.in-45.is)

pub returns-in-46 : goal.returns-in-46
returns-in-46 c = c.class_in-in-46.ensures ∙ ap (λ (first : ℕ). class_in (filter (begins first) punctuators) c.args.spelled.now c.args.other) (sym c.in-46.is)

pub returns-in-47 : goal.returns-in-47
returns-in-47 c = c.class_in-in-47.ensures ∙ ap (λ (first : ℕ). class_in (filter (begins first) punctuators) c.args.spelled.now c.args.other) (sym c.in-47.is)

pub returns-in-58 : goal.returns-in-58
returns-in-58 c = c.class_in-in-58.ensures ∙ ap (λ (first : ℕ). class_in (filter (begins first) punctuators) c.args.spelled.now c.args.other) (sym c.in-58.is)

pub returns-in-59 : goal.returns-in-59
returns-in-59 c = c.class_in-in-59.ensures ∙ ap (λ (first : ℕ). class_in (filter (begins first) punctuators) c.args.spelled.now c.args.other) (sym c.in-59.is)

pub returns-in-60 : goal.returns-in-60
returns-in-60 c = c.class_in-in-60.ensures ∙ ap (λ (first : ℕ). class_in (filter (begins first) punctuators) c.args.spelled.now c.args.other) (sym c.in-60.is)

pub returns-in-61 : goal.returns-in-61
returns-in-61 c = c.class_in-in-61.ensures ∙ ap (λ (first : ℕ). class_in (filter (begins first) punctuators) c.args.spelled.now c.args.other) (sym c.in-61.is)

pub returns-in-62 : goal.returns-in-62
returns-in-62 c = c.class_in-in-62.ensures ∙ ap (λ (first : ℕ). class_in (filter (begins first) punctuators) c.args.spelled.now c.args.other) (sym c.in-62.is)

pub returns-in-63 : goal.returns-in-63
returns-in-63 c = c.class_in-in-63.ensures ∙ ap (λ (first : ℕ). class_in (filter (begins first) punctuators) c.args.spelled.now c.args.other) (sym c.in-63.is)

pub returns-in-91 : goal.returns-in-91
returns-in-91 c = c.class_in-in-91.ensures ∙ ap (λ (first : ℕ). class_in (filter (begins first) punctuators) c.args.spelled.now c.args.other) (sym c.in-91.is)

pub returns-in-93 : goal.returns-in-93
returns-in-93 c = c.class_in-in-93.ensures ∙ ap (λ (first : ℕ). class_in (filter (begins first) punctuators) c.args.spelled.now c.args.other) (sym c.in-93.is)

pub returns-in-94 : goal.returns-in-94
returns-in-94 c = c.class_in-in-94.ensures ∙ ap (λ (first : ℕ). class_in (filter (begins first) punctuators) c.args.spelled.now c.args.other) (sym c.in-94.is)

pub returns-in-123 : goal.returns-in-123
returns-in-123 c = c.class_in-in-123.ensures ∙ ap (λ (first : ℕ). class_in (filter (begins first) punctuators) c.args.spelled.now c.args.other) (sym c.in-123.is)

pub returns-in-124 : goal.returns-in-124
returns-in-124 c = c.class_in-in-124.ensures ∙ ap (λ (first : ℕ). class_in (filter (begins first) punctuators) c.args.spelled.now c.args.other) (sym c.in-124.is)

pub returns-in-125 : goal.returns-in-125
returns-in-125 c = c.class_in-in-125.ensures ∙ ap (λ (first : ℕ). class_in (filter (begins first) punctuators) c.args.spelled.now c.args.other) (sym c.in-125.is)

pub returns-in-126 : goal.returns-in-126
returns-in-126 c = c.class_in-in-126.ensures ∙ ap (λ (first : ℕ). class_in (filter (begins first) punctuators) c.args.spelled.now c.args.other) (sym c.in-126.is)

pub returns-in_default : goal.returns-in_default
returns-in_default c =
    let outside : Outside c.args.first first_marks =
    (omega arith, (omega arith, (omega arith, (omega arith, (omega arith, (omega arith, (omega arith, (omega arith, (omega arith, (omega arith, (omega arith, (omega arith, (omega arith, (omega arith, (omega arith, (omega arith, (omega arith, (omega arith, (omega arith, (omega arith, (omega arith, (omega arith, (omega arith, (omega arith, (omega arith, tt))))))))))))))))))))))))) in
    ap (λ rows. class_in rows c.args.spelled.now c.args.other) (sym (no_other_mark c.args.first outside))
