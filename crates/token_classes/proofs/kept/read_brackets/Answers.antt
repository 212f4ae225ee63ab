use Rattle.std.proofs.Common.{◌≡◌, ◌∙◌, ◌&&◌, ◌<◌, ◌≤◌, ◌+◌, ℕ, false, true, List, [], length, reverse, get_or, arith, refl, sym, ap, subst}
use Rattle.std.specs.List.{list_any}
use Rattle.std.proofs.lemmas.List.{get_or_default, length-replicate}
use Rattle.token_classes.specs.declared.pairing.Opener.{Opener}
use Rattle.token_classes.specs.declared.class.TokenClass.{TokenClass}
use Rattle.token_classes.specs.declared.class.TokenClass.TheVariants.{Nothing}
use Rattle.token_classes.specs.Classes.{is_open_brace, is_semicolon}
use Rattle.token_classes.specs.Kept.{AreOpeners, class_at, is_brace_in_brackets, is_round_or_square, marked}
use Rattle.token_classes.specs.Lanes.{is_quiet}
use Rattle.token_classes.specs.Partners.{StandBefore, count_braces}
use Rattle.token_classes.proofs.KeptSteps.{AreBuilt, all_marks, before_more, built_next, marked_next, openers_of, pairs_next, step_at, unmarked_next, waits_next}
use Rattle.token_classes.proofs.QuietRuns.{ReadOutside, at_start, of_all, of_rest, outside_next, quiet_on}
use Rattle.token_classes.proofs.kept.read_brackets.Goals as goal
use Rattle.token_classes.proofs.kept.read_brackets.Goals.{then-is_semicolon+then-mark_topmost, else-is_semicolon, else-is_semicolon-via-then-is_semicolon+else-mark_topmost, else-is_semicolon-via-else-is_semicolon}

pub loop-place-init : goal.loop-place-init
loop-place-init c =
    let classes = c.args.classes.now in
    let partners = c.args.partners.now in
    let n = c.quiet_len-place.result in
    let empty = c.in_ok-stack.ensures.items in
    let quiet : (k : ℕ) → k < n → is_quiet (class_at classes (0 + k)) ≡ true = λ k below.
    let at : k ≡ 0 + k = omega arith in
    subst (λ (p : ℕ). is_quiet (class_at classes p) ≡ true) at (c.quiet_len-place.ensures.quiet k Nothing below) in
    let read : ReadOutside classes (0 + n) [] partners = quiet_on classes [] partners 0 n (omega (arith, c.quiet_len-place.ensures.within)) quiet (at_start classes partners c.requires.alone) in
    let here : 0 + n ≡ n = omega arith in
    record {
      within = c.quiet_len-place.ensures.within;
      read = subst (λ (s : List Opener). ReadOutside classes n (reverse s) partners) (sym empty) (subst (λ (p : ℕ). ReadOutside classes p [] partners) here read);
      built = subst (λ (s : List Opener). AreBuilt classes (reverse s)) (sym empty) tt;
      count = ap (λ (s : List Opener). count_braces (reverse s)) (sym empty);
      small = omega arith;
    }

pub opens_inside-requires-clause-openers : goal.opens_inside-requires-clause-openers
opens_inside-requires-clause-openers c =
    subst (λ (s : List Opener). AreOpeners (reverse s)) (sym c.deref.ensures.value) (openers_of c.args.classes.now (reverse c.loop-place.stack.items) c.loop-place.invariant.built)

pub loop-place-preserved : goal.loop-place-preserved
loop-place-preserved c =
    let classes = c.args.classes.now in
    let place : ℕ = c.loop-place.place in
    let v = c.loop-place.invariant in
    let old = reverse c.loop-place.stack.items in
    let new = reverse c.waiting_step.new.stack.items in
    let taken = c.in_ok-taken.taken in
    let within : place < length classes = omega (arith, c.loop-place-test.true) in
    let step = step_at classes place _ _ old new taken refl within c.in_ok-taken.ensures.step in
    let none : is_brace_in_brackets classes place ≡ false =
    ap (λ (os : List Opener). is_open_brace (class_at classes place) && list_any is_round_or_square os) (sym v.read.waits)
    ∙ (ap (λ (s : List Opener). is_open_brace (class_at classes place) && list_any is_round_or_square (reverse s)) (sym c.deref.ensures.value)
    ∙ (ap (λ (class : TokenClass). is_open_brace class && list_any is_round_or_square (reverse c.deref.result.now)) (sym (get_or_default classes place _ _ within))
    ∙ (sym c.opens_inside.ensures ∙ c.if-not-opens_inside.true))) in
    let behind : ReadOutside classes (place + 1) new c.close.new.partners = outside_next classes place old new taken c.loop-place.partners _ within step c.close.ensures c.in_ok-taken.ensures.before none v.read in
    let n : ℕ = c.quiet_len-place-in-loop-place.result in
    let few : place + 1 + n ≤ length classes = of_rest classes (place + 1) n (omega (arith, within)) c.quiet_len-place-in-loop-place.ensures.within in
    record {
      within = few;
      read = quiet_on classes new c.close.new.partners (place + 1) n few (of_all classes (place + 1) n few c.quiet_len-place-in-loop-place.ensures.quiet) behind;
      built = built_next classes place old new taken v.read.waits step v.built;
      count = c.in_ok-taken.ensures.count;
      small = omega (arith, c.in_ok-taken.ensures.small);
    }

pub mark_topmost-requires-clause-openers : goal.mark_topmost-requires-clause-openers
mark_topmost-requires-clause-openers c =
    subst (λ (s : List Opener). AreOpeners (reverse s)) (sym c.deref-then-is_semicolon.ensures.value) (openers_of c.args.classes.now (reverse c.loop-place-2.stack.items) c.loop-place-2.invariant.built)

pub mark_topmost-requires-clause-before : goal.mark_topmost-requires-clause-before
mark_topmost-requires-clause-before c =
    let whole = c.loop-place-2.auto.marks ∙ ap length c.requires.unmarked ∙ length-replicate (length c.args.classes.now) false in
    let room : c.loop-place-2.place ≤ length c.loop-place-2.marks = omega (arith, whole, c.loop-place-2.invariant.within) in
    subst (λ (s : List Opener). StandBefore (length c.loop-place-2.marks) (reverse s)) (sym c.deref-then-is_semicolon.ensures.value)
    (before_more c.loop-place-2.place (length c.loop-place-2.marks) (reverse c.loop-place-2.stack.items) room c.loop-place-2.invariant.read.before)

pub loop-place-2-preserved : goal.loop-place-2-preserved
loop-place-2-preserved c =
    let classes = c.args.classes.now in
    let i : ℕ = c.loop-place-2.place in
    let read = c.loop-place-2.invariant.read in
    let old = reverse c.loop-place-2.stack.items in
    let new = reverse c.waiting_step-in-loop-place-2.new.stack.items in
    let taken = c.in_ok-taken-2.taken in
    let within : i < length classes = omega (arith, c.loop-place-2-test.true) in
    let step = step_at classes i _ _ old new taken refl within c.in_ok-taken-2.ensures.step in
    let class : is_semicolon (class_at classes i) ≡ c.is_semicolon.result = ap is_semicolon (sym (get_or_default classes i _ _ within)) ∙ sym c.is_semicolon.ensures in
    let whole = c.loop-place-2.auto.marks ∙ ap length c.requires.unmarked ∙ length-replicate (length classes) false in
    let room : i ≤ length c.loop-place-2.marks = omega (arith, whole, within) in
    let before = before_more i (length c.loop-place-2.marks) old room read.before in
    record {
      within = omega (arith, within);
      read = record {
        waits = waits_next classes i old new taken within read.waits step;
        before = c.in_ok-taken-2.ensures.before;
        marked = λ j. elim c.if-is_semicolon.branch [
          | then-is_semicolon+then-mark_topmost w ↦
              let made = w.mark_topmost.ensures.marks ∙ ap (λ s. marked (reverse s) c.loop-place-2.marks) w.deref-then-is_semicolon.ensures.value in
              ap (λ m. get_or m j false) (w.marks-is ∙ made)
              ∙ marked_next classes i old c.loop-place-2.marks read.waits c.loop-place-2.invariant.built before (class ∙ w.if-is_semicolon.true) j (read.marked j)
          | else-is_semicolon w ↦ elim w.else-is_semicolon.branch [
            | else-is_semicolon-via-then-is_semicolon+else-mark_topmost v ↦
                let made = v.mark_topmost.ensures.marks ∙ ap (λ s. marked (reverse s) c.loop-place-2.marks) v.deref-then-is_semicolon.ensures.value in
                ap (λ m. get_or m j false) (w.marks-is ∙ v.marks-is ∙ made)
                ∙ marked_next classes i old c.loop-place-2.marks read.waits c.loop-place-2.invariant.built before (class ∙ v.if-is_semicolon.true) j (read.marked j)
            | else-is_semicolon-via-else-is_semicolon v ↦
                ap (λ m. get_or m j false) (w.marks-is ∙ v.marks-is) ∙ unmarked_next classes i c.loop-place-2.marks (class ∙ v.if-is_semicolon.false) j (read.marked j)
          ]
        ];
        pairs = pairs_next classes i old new taken c.loop-place-2.partners _ within step c.close-in-loop-place-2.ensures read.pairs;
      };
      built = built_next classes i old new taken read.waits step c.loop-place-2.invariant.built;
      count = c.in_ok-taken-2.ensures.count;
      small = c.in_ok-taken-2.ensures.small;
      none = λ e. elim c.if-is_semicolon.branch [
        | then-is_semicolon+then-mark_topmost w ↦ let marked_one : true ≡ false = sym w.any-is ∙ e in cc
        | else-is_semicolon w ↦
            let unmarked = c.loop-place-2.invariant.none (sym w.any-is ∙ e) in
            elim w.else-is_semicolon.branch [
              | else-is_semicolon-via-then-is_semicolon+else-mark_topmost v ↦ w.marks-is ∙ v.marks-is ∙ v.mark_topmost.ensures.none v.if-mark_topmost.false ∙ unmarked
              | else-is_semicolon-via-else-is_semicolon v ↦ w.marks-is ∙ v.marks-is ∙ unmarked
            ]
      ];
    }

pub returns-clause-marks : goal.returns-clause-marks
returns-clause-marks c =
    all_marks c.args.classes.now c.loop-place-2.place c.loop-place-2.marks (omega (arith, c.loop-place-2.invariant.within, c.loop-place-2-test.false))
    (c.loop-place-2.auto.marks ∙ ap length c.requires.unmarked ∙ length-replicate (length c.args.classes.now) false) c.loop-place-2.invariant.read.marked
