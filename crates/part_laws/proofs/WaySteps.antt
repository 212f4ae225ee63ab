-- The way outside brackets: what one step of it passes, and that it is the same in longer lists.
use Rattle.std.proofs.Common.{◌≡◌, ◌∙◌, ℕ, zero, suc, ◌+◌, ◌<◌, ◌≤◌, Bool, true, false, Option, Some, List, ◌++◌, length, refl, arith, sym, ap, subst, inl, inr, ◌⊎◌}
use Rattle.std.specs.Prelude.{slice_get, if◌then◌else◌, IsFalse}
use Rattle.std.proofs.lemmas.Bool.{cases_Bool}
use Rattle.token_classes.specs.declared.class.TokenClass.{TokenClass}
use Rattle.token_classes.specs.Classes.{is_word, is_plain, is_opener, is_open_round, is_close_round, is_semicolon}
use Rattle.statement_lines.specs.declared.token.CodeToken.{CodeToken}
use Rattle.statement_lines.specs.Forms.{class_of, class_at, partner_of, within, partner_in}
use Rattle.part_laws.specs.Declarations.{Before, Name, Parameters, Semicolon, Other, is_end, is_lost}
use Rattle.part_laws.proofs.CodeCut.{behind_code, behind_opener, assigned_behind, Way, WayOn, GoesBy}
use Rattle.part_laws.proofs.Places.{slice_before}

-- ## Longer lists

pub way_longer : (n : ℕ) (earlier later : List CodeToken) (at : ℕ) (before : Before) (assigned : Bool) → Way n earlier (length earlier) at before assigned
    → Way n (earlier ++ later) (length earlier) at before assigned
way_longer zero earlier later at before assigned way = way
way_longer (suc n) earlier later at before assigned (inl end) = inl end
way_longer (suc n) earlier later at before assigned (inr on) =
    let all = earlier ++ later in
    let end = length earlier in
    let same : slice_get earlier at ≡ slice_get all at = sym (slice_before earlier later at on.0) in
    let class : class_at earlier at ≡ class_at all at = ap class_of same in
    let P : TokenClass → Option CodeToken → Type 0 = λ c t.
    IsFalse (is_lost c) × GoesBy c (within at end (partner_of t)) at before assigned (Way n all end) in
    let step : P (class_of (slice_get earlier at)) (slice_get earlier at) = (
      on.1.0,
      elim on.1.1 [
        | inl group ↦ inl (group.0, (group.1.0, (group.1.1.0, way_longer n earlier later (group.1.0 + 1) _ _ group.1.1.1)))
        | inr one ↦ inr (one.0, way_longer n earlier later (at + 1) _ _ one.1)
      ],
    ) in
    inr (on.0, subst (λ (t : Option CodeToken). P (class_of t) t) same step)

-- ## One step

-- what a step of the way passes over
pub record Step (tokens : List CodeToken) (end at : ℕ) (before : Before) (assigned : Bool) : Type 0 where
  pub within_list : at < end
  pub kept : is_lost (class_at tokens at) ≡ false
  pub passed : GoesBy (class_at tokens at) (partner_in tokens end at) at before assigned (WayOn tokens end)

pub step_of : (tokens : List CodeToken) (end at : ℕ) (before : Before) (assigned : Bool) → WayOn tokens end at before assigned → at < end
    → Step tokens end at before assigned
step_of tokens end at before assigned (zero, way) lt = absurd (let e : at ≡ end = way.0 in omega arith)
step_of tokens end at before assigned (suc n, inl out) lt = absurd (let e : at ≡ end = out.0 in omega arith)
step_of tokens end at before assigned (suc n, inr on) lt =
    record {
      within_list = on.0;
      kept = on.1.0;
      passed = elim on.1.1 [
        | inl group ↦ inl (group.0, (group.1.0, (group.1.1.0, (n, group.1.1.1))))
        | inr one ↦ inr (one.0, (n, one.1))
      ];
    }

pub at_most : (tokens : List CodeToken) (end at : ℕ) (before : Before) (assigned : Bool) → WayOn tokens end at before assigned → (at ≡ end) ⊎ (at < end)
at_most tokens end at before assigned (zero, way) = inl way.0
at_most tokens end at before assigned (suc n, inl out) = inl out.0
at_most tokens end at before assigned (suc n, inr on) = inr on.0

-- the list doesn't end within a declaration
pub goes_on : (tokens : List CodeToken) (end at : ℕ) (before : Before) (assigned : Bool) → WayOn tokens end at before assigned → is_end before ≡ false
    → at < end
goes_on tokens end at before assigned (zero, way) h = absurd (let e : is_end before ≡ true = way.1 in cc)
goes_on tokens end at before assigned (suc n, inl out) h = absurd (let e : is_end before ≡ true = out.1 in cc)
goes_on tokens end at before assigned (suc n, inr on) h = on.0

-- ## What stands before

-- a group of parameters or a body may follow
abbrev pub is_waiting : Before → Bool
is_waiting Name = true
is_waiting Parameters = true
is_waiting _ = false

pub opener_code : (assigned : Bool) (before : Before) (c : TokenClass) → is_opener c ≡ true → behind_code assigned before c ≡ behind_opener assigned before c
opener_code assigned before c e = rw e refl

pub other_code : (assigned : Bool) (before : Before) (c : TokenClass) → is_opener c ≡ false → is_semicolon c ≡ false
    → behind_code assigned before c ≡ (if is_plain c then Name else Other)
other_code assigned before c e s = rw (e, s) refl

pub semicolon_code : (assigned : Bool) (before : Before) (c : TokenClass) → is_opener c ≡ false → is_semicolon c ≡ true
    → behind_code assigned before c ≡ Semicolon
semicolon_code assigned before c e s = rw (e, s) refl

quiet_opener : (assigned : Bool) (before : Before) (c : TokenClass) → is_waiting before ≡ false
    → behind_opener assigned before c ≡ behind_opener assigned Other c
quiet_opener assigned Name c h = cc
quiet_opener assigned Parameters c h = cc
quiet_opener assigned _ c h = refl

unwaited : (assigned : Bool) (before : Before) (c : TokenClass) → (is_waiting before ≡ true → is_opener c ≡ false)
    → behind_code assigned before c ≡ behind_code assigned Other c
unwaited assigned before c h = elim (cases_Bool (is_opener c)) [
  | inr e ↦ rw e refl
  | inl e ↦
      let quiet : is_waiting before ≡ false = elim (cases_Bool (is_waiting before)) [ inl w ↦ absurd (let z = h w in cc) | inr w ↦ w ] in
      opener_code assigned before c e ∙ (quiet_opener assigned before c quiet ∙ sym (opener_code assigned Other c e))
]

-- where no group follows that belongs to what stands before, that doesn't matter
pub unwaited_way : (tokens : List CodeToken) (end at : ℕ) (before : Before) (assigned : Bool) → WayOn tokens end at before assigned → at < end
    → (is_waiting before ≡ true → is_opener (class_at tokens at) ≡ false) → WayOn tokens end at Other assigned
unwaited_way tokens end at before assigned way lt h =
    let s = step_of tokens end at before assigned way lt in
    let e = unwaited assigned before (class_at tokens at) h in
    elim s.passed [
      | inl group ↦
          let w = subst (λ (b : Before). WayOn tokens end (group.1.0 + 1) b (assigned_behind assigned (class_at tokens at))) e group.1.1.1 in
          (suc w.0, inr (lt, (s.kept, inl (group.0, (group.1.0, (group.1.1.0, w.1))))))
      | inr one ↦
          let w = subst (λ (b : Before). WayOn tokens end (at + 1) b (assigned_behind assigned (class_at tokens at))) e one.1 in
          (suc w.0, inr (lt, (s.kept, inr (one.0, w.1))))
    ]

-- ## Both lists

-- a list of the file ends at this place of the tokens, before a word, and another at their end
pub record EndsBeforeWord (tokens : List CodeToken) (end whole : ℕ) : Type 0 where
  pub order : end ≤ whole
  pub all : whole ≡ length tokens
  pub word : is_word (class_at tokens end) ≡ true
  pub paired : (i p : ℕ) → is_open_round (class_at tokens i) ≡ true → partner_in tokens end i ≡ Some p
      → (is_close_round (class_at tokens p) ≡ true) × (partner_of (slice_get tokens p) ≡ Some i)
