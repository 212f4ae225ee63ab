-- The colons of case labels, found from the right.
use Rattle.std.proofs.Common.{◌≡◌, ℕ, zero, suc, ◌+◌, ◌-◌, ◌<◌, ◌≤◌, nat_lt, Bool, true, false, ◌&&◌, List, length}
use Rattle.std.proofs.Common.{Option, Some, None, refl, arith, sym, ◌∙◌, ap, subst, inl, inr, ◌⊎◌}
use Rattle.std.specs.Prelude.{slice_get, slice_index_or}
use Rattle.statement_lines.specs.Colons.{AreColonsFrom}
use Rattle.std.proofs.lemmas.Bool.{cases_Bool}
use Rattle.token_classes.specs.Classes.{is_question, is_colon, is_opener}
use Rattle.statement_lines.specs.declared.token.CodeToken.{CodeToken}
use Rattle.statement_lines.specs.Forms.{case_colon, step_over, class_at, within, behind_partner, partner_in, partner_of}
use Rattle.statement_lines.proofs.Known.{lt_false, lt_true}
use Rattle.statement_lines.proofs.ScanLemmas.{colon_at_end}

-- ## One step

at_question : (k : ℕ) (tokens : List CodeToken) (end i asked : ℕ) → i < end → is_question (class_at tokens i) ≡ true
    → case_colon (suc k) tokens end i asked ≡ case_colon k tokens end (i + 1) (asked + 1)
at_question k tokens end i asked lt q = rw (lt_true i end lt, q, case_colon) refl

at_colon : (k : ℕ) (tokens : List CodeToken) (end i : ℕ) → i < end → is_question (class_at tokens i) ≡ false → is_colon (class_at tokens i) ≡ true
    → case_colon (suc k) tokens end i 0 ≡ i
at_colon k tokens end i lt q c = rw (lt_true i end lt, q, c, case_colon) refl

at_answer : (k : ℕ) (tokens : List CodeToken) (end i asked : ℕ) → i < end → is_question (class_at tokens i) ≡ false → is_colon (class_at tokens i) ≡ true
    → 0 < asked → case_colon (suc k) tokens end i asked ≡ case_colon k tokens end (i + 1) (asked - 1)
at_answer k tokens end i asked lt q c some = rw (lt_true i end lt, q, c, lt_true 0 asked some, case_colon) refl

at_other : (k : ℕ) (tokens : List CodeToken) (end i asked : ℕ) → i < end → is_question (class_at tokens i) ≡ false → is_colon (class_at tokens i) ≡ false
    → case_colon (suc k) tokens end i asked ≡ case_colon k tokens end (step_over tokens end i) asked
at_other k tokens end i asked lt q c = rw (lt_true i end lt, q, c, case_colon) refl

-- ## Steps over groups

pub record Up (i end j : ℕ) : Type 0 where
  pub least : i < j
  pub most : j ≤ end

up_choice : (x y : Bool) (i end p : ℕ) → i < end → (x ≡ true → i < p) → (y ≡ true → p < end)
    → Up i end (behind_partner end (elim (x && y) as (λ _. Option ℕ) [ true ↦ Some p | false ↦ None ]))
up_choice true true i end p lt a b = let l : i < p = a refl in let m : p < end = b refl in record { least = (omega arith); most = (omega arith) }
up_choice true false i end p lt a b = record { least = lt; most = (omega arith) }
up_choice false y i end p lt a b = record { least = lt; most = (omega arith) }

below : (a b : ℕ) → nat_lt a b ≡ true → a < b
below a b h = grind arith

not_below : (a b : ℕ) → nat_lt a b ≡ false → b ≤ a
not_below a b h = grind arith

up_behind : (i end : ℕ) (o : Option ℕ) → i < end → Up i end (behind_partner end (within i end o))
up_behind i end None lt = record { least = lt; most = (omega arith) }
up_behind i end (Some p) lt = up_choice (nat_lt i p) (nat_lt p end) i end p lt (below i p) (below p end)

step_up : (tokens : List CodeToken) (end i : ℕ) → i < end → Up i end (step_over tokens end i)
step_up tokens end i lt =
    elim (is_opener (class_at tokens i)) as (λ b. Up i end (elim b as (λ _. ℕ) [ true ↦ behind_partner end (partner_in tokens end i) | false ↦ i + 1 ])) [
      | true ↦ up_behind i end (partner_of (slice_get tokens i)) lt
      | false ↦ record { least = (omega arith); most = (omega arith) }
    ]

-- in a list that ends earlier a step is the same, or it leads to the list's end and the other one past that
abbrev pub Agree : ℕ → ℕ → ℕ → Type 0
Agree e a b = (a ≡ b) ⊎ ((a ≡ e) × (e ≤ b))

agree_choice : (x y z : Bool) (e n p : ℕ) → e ≤ n → (y ≡ true → z ≡ true) → (y ≡ false → e ≤ p)
    → Agree e (behind_partner e (elim (x && y) as (λ _. Option ℕ) [ true ↦ Some p | false ↦ None ])) (behind_partner n (elim (x && z) as (λ _. Option ℕ) [ true ↦ Some p | false ↦ None ]))
agree_choice true true true e n p h a b = inl refl
agree_choice true true false e n p h a b = let q : false ≡ true = a refl in cc
agree_choice true false true e n p h a b = let q : e ≤ p = b refl in inr (refl, (omega arith))
agree_choice true false false e n p h a b = inr (refl, h)
agree_choice false y z e n p h a b = inr (refl, h)

below_more : (e n p : ℕ) → e ≤ n → nat_lt p e ≡ true → nat_lt p n ≡ true
below_more e n p h b = let q : p < e = below p e b in lt_true p n (omega arith)

agree_behind : (i e n : ℕ) (o : Option ℕ) → e ≤ n → Agree e (behind_partner e (within i e o)) (behind_partner n (within i n o))
agree_behind i e n None h = inr (refl, h)
agree_behind i e n (Some p) h = agree_choice (nat_lt i p) (nat_lt p e) (nat_lt p n) e n p h (below_more e n p h) (not_below p e)

step_agree : (tokens : List CodeToken) (e n i : ℕ) → e ≤ n → Agree e (step_over tokens e i) (step_over tokens n i)
step_agree tokens e n i h =
    elim (is_opener (class_at tokens i)) as (λ b. Agree e (elim b as (λ _. ℕ) [ true ↦ behind_partner e (partner_in tokens e i) | false ↦ i + 1 ]) (elim b as (λ _. ℕ) [ true ↦ behind_partner n (partner_in tokens n i) | false ↦ i + 1 ])) [
      | true ↦ agree_behind i e n (partner_of (slice_get tokens i)) h
      | false ↦ inl refl
    ]

-- ## The place that is found

pub record Found (i end j : ℕ) : Type 0 where
  pub least : i ≤ j
  pub most : j ≤ end

found_later : (i to end j : ℕ) → i ≤ to → Found to end j → Found i end j
found_later i to end j h f = record { least = (let q = f.least in omega arith); most = f.most }

pub found : (k : ℕ) (tokens : List CodeToken) (end i asked : ℕ) → i ≤ end → Found i end (case_colon k tokens end i asked)
found zero tokens end i asked h = record { least = h; most = (omega arith) }
found (suc k) tokens end i asked h = elim (cases_Bool (nat_lt i end)) [
  | inr past ↦ let e : end ≤ i = not_below i end past in rw (colon_at_end (suc k) tokens end i asked e) (record { least = h; most = (omega arith) })
  | inl before ↦
      let lt : i < end = below i end before in
      elim (cases_Bool (is_question (class_at tokens i))) [
        | inl q ↦ rw (at_question k tokens end i asked lt q) (found_later i (i + 1) end _ (omega arith) (found k tokens end (i + 1) (asked + 1) (omega arith)))
        | inr q ↦ elim (cases_Bool (is_colon (class_at tokens i))) [
          | inl c ↦ elim (cases_Bool (nat_lt 0 asked)) [
            | inl some ↦ let more : 0 < asked = below 0 asked some in rw (at_answer k tokens end i asked lt q c more) (found_later i (i + 1) end _ (omega arith) (found k tokens end (i + 1) (asked - 1) (omega arith)))
            | inr none ↦ let none_asked : asked ≡ 0 = (let q = not_below 0 asked none in omega arith) in rw none_asked (rw (at_colon k tokens end i lt q c) (record { least = (omega arith); most = h }))
          ]
          | inr c ↦ let s = step_up tokens end i lt in rw (at_other k tokens end i asked lt q c) (found_later i (step_over tokens end i) end _ (let z = s.least in omega arith) (found k tokens end (step_over tokens end i) asked s.most))
        ]
      ]
]

-- ## A list that ends earlier

-- a place before the end, or the end
abbrev pub cut_at : ℕ → ℕ → ℕ
cut_at e w = elim (nat_lt w e) [ true ↦ w | false ↦ e ]

pub cut_low : (e w : ℕ) → w < e → w ≡ cut_at e w
cut_low e w h = rw (lt_true w e h, cut_at) refl

pub cut_high : (e w : ℕ) → e ≤ w → e ≡ cut_at e w
cut_high e w h = rw (lt_false w e h, cut_at) refl

cut_past : (m : ℕ) (tokens : List CodeToken) (e n j asked : ℕ) → e ≤ j → j ≤ n → e ≡ cut_at e (case_colon m tokens n j asked)
cut_past m tokens e n j asked h k = cut_high e (case_colon m tokens n j asked) (let q = (found m tokens n j asked k).least in omega arith)

pub in_list : (k m : ℕ) (tokens : List CodeToken) (e n i asked : ℕ) → e - i ≤ k → n - i ≤ m → e ≤ n → i ≤ e
    → case_colon k tokens e i asked ≡ cut_at e (case_colon m tokens n i asked)
in_list zero m tokens e n i asked ek nm en ie = cut_past m tokens e n i asked (omega arith) (omega arith)
in_list (suc k) zero tokens e n i asked ek nm en ie =
    colon_at_end (suc k) tokens e i asked (omega arith) ∙ cut_past zero tokens e n i asked (omega arith) (omega arith)
in_list (suc k) (suc m) tokens e n i asked ek nm en ie = elim (cases_Bool (nat_lt i e)) [
  | inr past ↦ let h : e ≤ i = not_below i e past in colon_at_end (suc k) tokens e i asked h ∙ cut_past (suc m) tokens e n i asked h (omega arith)
  | inl before ↦
      let lt : i < e = below i e before in
      let ltn : i < n = omega arith in
      elim (cases_Bool (is_question (class_at tokens i))) [
        | inl q ↦ at_question k tokens e i asked lt q ∙ in_list k m tokens e n (i + 1) (asked + 1) (omega arith) (omega arith) en (omega arith) ∙ ap (cut_at e) (sym (at_question m tokens n i asked ltn q))
        | inr q ↦ elim (cases_Bool (is_colon (class_at tokens i))) [
          | inl c ↦ elim (cases_Bool (nat_lt 0 asked)) [
            | inl some ↦ let more : 0 < asked = below 0 asked some in
                at_answer k tokens e i asked lt q c more ∙ in_list k m tokens e n (i + 1) (asked - 1) (omega arith) (omega arith) en (omega arith) ∙ ap (cut_at e) (sym (at_answer m tokens n i asked ltn q c more))
            | inr none ↦ let none_asked : asked ≡ 0 = (let q = not_below 0 asked none in omega arith) in
                rw none_asked (at_colon k tokens e i lt q c ∙ cut_low e i lt ∙ ap (cut_at e) (sym (at_colon m tokens n i ltn q c)))
          ]
          | inr c ↦
              let up = step_up tokens n i ltn in
              let upe = step_up tokens e i lt in
              let a : i < step_over tokens n i = up.least in
              let b : step_over tokens e i ≤ e = upe.most in
              let a' : i < step_over tokens e i = upe.least in
              at_other k tokens e i asked lt q c
              ∙ elim (step_agree tokens e n i en) [
                | inl same ↦ in_list k m tokens e n (step_over tokens e i) asked (omega arith) (omega arith) en b ∙ ap (λ j. cut_at e (case_colon m tokens n j asked)) same
                | inr far ↦ ap (λ j. case_colon k tokens e j asked) far.0 ∙ colon_at_end k tokens e e asked (omega arith) ∙ cut_past m tokens e n (step_over tokens n i) asked far.1 up.most
              ]
              ∙ ap (cut_at e) (sym (at_other m tokens n i asked ltn q c))
        ]
      ]
]

cut_same : (n w : ℕ) → w ≤ n → cut_at n w ≡ w
cut_same n w h = elim (cases_Bool (nat_lt w n)) [ inl lt ↦ rw (lt, cut_at) refl | inr past ↦ let q : n ≤ w = not_below w n past in rw (past, cut_at) (omega arith) ]

-- more steps find the same
pub enough : (k m : ℕ) (tokens : List CodeToken) (n i asked : ℕ) → n - i ≤ k → n - i ≤ m → i ≤ n → case_colon k tokens n i asked ≡ case_colon m tokens n i asked
enough k m tokens n i asked nk nm h =
    in_list k m tokens n n i asked nk nm (omega arith) h ∙ cut_same n (case_colon m tokens n i asked) (found m tokens n i asked h).most

-- ## A question mark

-- what is found behind a colon, where one more question mark waits
abbrev pub behind_colon : List CodeToken → ℕ → ℕ → ℕ → ℕ
behind_colon tokens n c asked = elim (nat_lt c n) [ true ↦ case_colon (n - (c + 1)) tokens n (c + 1) asked | false ↦ n ]

behind_end : (tokens : List CodeToken) (n c asked : ℕ) → n ≤ c → behind_colon tokens n c asked ≡ n
behind_end tokens n c asked h = rw (lt_false c n h, behind_colon) refl

behind_low : (k : ℕ) (tokens : List CodeToken) (n c asked : ℕ) → c < n → n - (c + 1) ≤ k → behind_colon tokens n c asked ≡ case_colon k tokens n (c + 1) asked
behind_low k tokens n c asked lt nk = rw (lt_true c n lt, behind_colon) (enough (n - (c + 1)) k tokens n (c + 1) asked (omega arith) nk (omega arith))

pub one_question_more : (k : ℕ) (tokens : List CodeToken) (n i asked : ℕ) → n - i ≤ k → i ≤ n
    → case_colon k tokens n i (asked + 1) ≡ behind_colon tokens n (case_colon k tokens n i 0) asked
one_question_more zero tokens n i asked nk h = sym (behind_end tokens n n asked (omega arith))
one_question_more (suc k) tokens n i asked nk h = elim (cases_Bool (nat_lt i n)) [
  | inr past ↦ let e : n ≤ i = not_below i n past in
      colon_at_end (suc k) tokens n i (asked + 1) e ∙ sym (ap (λ c. behind_colon tokens n c asked) (colon_at_end (suc k) tokens n i 0 e) ∙ behind_end tokens n n asked (omega arith))
  | inl before ↦
      let lt : i < n = below i n before in
      elim (cases_Bool (is_question (class_at tokens i))) [
        | inl q ↦
            let c1 = case_colon k tokens n (i + 1) 0 in
            let f = found k tokens n (i + 1) 0 (omega arith) in
            let up : i + 1 ≤ c1 = f.least in
            let left : case_colon (suc k) tokens n i (asked + 1) ≡ behind_colon tokens n c1 (asked + 1) =
            at_question k tokens n i (asked + 1) lt q ∙ one_question_more k tokens n (i + 1) (asked + 1) (omega arith) (omega arith) in
            let right : case_colon (suc k) tokens n i 0 ≡ behind_colon tokens n c1 0 =
            at_question k tokens n i 0 lt q ∙ one_question_more k tokens n (i + 1) 0 (omega arith) (omega arith) in
            left ∙ elim (cases_Bool (nat_lt c1 n)) [
              | inr far ↦ let high : n ≤ c1 = not_below c1 n far in
                  behind_end tokens n c1 (asked + 1) high ∙ sym (ap (λ c. behind_colon tokens n c asked) (behind_end tokens n c1 0 high) ∙ behind_end tokens n n asked (omega arith))
              | inl near ↦ let low : c1 < n = below c1 n near in
                  behind_low k tokens n c1 (asked + 1) low (omega arith) ∙ one_question_more k tokens n (c1 + 1) asked (omega arith) (omega arith)
                  ∙ ap (λ c. behind_colon tokens n c asked) (sym (behind_low k tokens n c1 0 low (omega arith)))
            ] ∙ ap (λ c. behind_colon tokens n c asked) (sym right)
        | inr q ↦ elim (cases_Bool (is_colon (class_at tokens i))) [
          | inl c ↦
              let less : (asked + 1) - 1 ≡ asked = omega arith in
              at_answer k tokens n i (asked + 1) lt q c (omega arith) ∙ ap (λ a. case_colon k tokens n (i + 1) a) less
              ∙ sym (ap (λ j. behind_colon tokens n j asked) (at_colon k tokens n i lt q c) ∙ behind_low k tokens n i asked lt (omega arith))
          | inr c ↦
              let up = step_up tokens n i lt in
              let a : i < step_over tokens n i = up.least in
              at_other k tokens n i (asked + 1) lt q c ∙ one_question_more k tokens n (step_over tokens n i) asked (omega arith) up.most
              ∙ ap (λ j. behind_colon tokens n j asked) (sym (at_other k tokens n i 0 lt q c))
        ]
      ]
]

-- ## The colons of all places

pub label_found : (tokens : List CodeToken) (colons : List ℕ) (end at : ℕ) → AreColonsFrom 0 colons tokens → at < end → end ≤ length tokens
    → case_colon (end - (at + 1)) tokens end (at + 1) 0 ≡ cut_at end (slice_index_or colons (at + 1) 0)
label_found tokens colons end at h lt list =
    in_list (end - (at + 1)) (length tokens - (at + 1)) tokens end (length tokens) (at + 1) 0 (omega arith) (omega arith) list (omega arith)
    ∙ ap (cut_at end) (sym (h.colon (at + 1) (omega arith) (omega arith)))

pub label_up : (tokens : List CodeToken) (colons : List ℕ) (end at : ℕ) → AreColonsFrom 0 colons tokens → at < end → end ≤ length tokens
    → at < slice_index_or colons (at + 1) 0
label_up tokens colons end at h lt list =
    let e = h.colon (at + 1) (omega arith) (omega arith) in
    let P : ℕ → Type 0 = λ x. at < x in
    subst P (sym e) (let q = (found (length tokens - (at + 1)) tokens (length tokens) (at + 1) 0 (omega arith)).least in omega arith)

question_at : (tokens : List CodeToken) (colons : List ℕ) (place : ℕ) → AreColonsFrom (place + 1) colons tokens → place < length tokens → is_question (class_at tokens place) ≡ true
    → case_colon (length tokens - place) tokens (length tokens) place 0 ≡ behind_colon tokens (length tokens) (slice_index_or colons (place + 1) 0) 0
question_at tokens colons place h lt q =
    let n = length tokens in
    let k = n - (place + 1) in
    let more : n - place ≡ suc k = omega arith in
    ap (λ m. case_colon m tokens n place 0) more
    ∙ at_question k tokens n place 0 lt q
    ∙ one_question_more k tokens n (place + 1) 0 (omega arith) (omega arith)
    ∙ ap (λ c. behind_colon tokens n c 0) (sym (h.colon (place + 1) (omega arith) (omega arith)))

pub question_near : (tokens : List CodeToken) (colons : List ℕ) (place : ℕ) → AreColonsFrom (place + 1) colons tokens → place < length tokens → is_question (class_at tokens place) ≡ true
    → slice_index_or colons (place + 1) 0 < length tokens
    → slice_index_or colons (slice_index_or colons (place + 1) 0 + 1) 0 ≡ case_colon (length tokens - place) tokens (length tokens) place 0
question_near tokens colons place h lt q near =
    let n = length tokens in
    let answer = slice_index_or colons (place + 1) 0 in
    let e = h.colon (place + 1) (omega arith) (omega arith) in
    let P : ℕ → Type 0 = λ x. place + 1 ≤ x in
    let up : place + 1 ≤ answer = subst P (sym e) (found (n - (place + 1)) tokens n (place + 1) 0 (omega arith)).least in
    sym (question_at tokens colons place h lt q ∙ behind_low (n - (answer + 1)) tokens n answer 0 near (omega arith) ∙ sym (h.colon (answer + 1) (omega arith) (omega arith)))

pub question_far : (tokens : List CodeToken) (colons : List ℕ) (place : ℕ) → AreColonsFrom (place + 1) colons tokens → place < length tokens → is_question (class_at tokens place) ≡ true
    → length tokens ≤ slice_index_or colons (place + 1) 0 → length tokens ≡ case_colon (length tokens - place) tokens (length tokens) place 0
question_far tokens colons place h lt q far =
    sym (question_at tokens colons place h lt q ∙ behind_end tokens (length tokens) (slice_index_or colons (place + 1) 0) 0 far)

pub other_at : (tokens : List CodeToken) (colons : List ℕ) (place j : ℕ) → AreColonsFrom (place + 1) colons tokens → place < length tokens
    → is_question (class_at tokens place) ≡ false → is_colon (class_at tokens place) ≡ false → j ≡ step_over tokens (length tokens) place
    → slice_index_or colons j 0 ≡ case_colon (length tokens - place) tokens (length tokens) place 0
other_at tokens colons place j h lt q c e =
    let n = length tokens in
    let k = n - (place + 1) in
    let s = step_over tokens n place in
    let more : n - place ≡ suc k = omega arith in
    let up = step_up tokens n place lt in
    let least : place < s = up.least in
    let most : s ≤ n = up.most in
    ap (λ x. slice_index_or colons x 0) e
    ∙ sym (ap (λ m. case_colon m tokens n place 0) more
    ∙ at_other k tokens n place 0 lt q c
    ∙ enough k (n - s) tokens n s 0 (omega arith) (omega arith) most
    ∙ sym (h.colon s (omega arith) most))

-- ## One step of a scan

pub scan_question : (tokens : List CodeToken) (end i asked : ℕ) → i < end → is_question (class_at tokens i) ≡ true
    → case_colon (end - (i + 1)) tokens end (i + 1) (asked + 1) ≡ case_colon (end - i) tokens end i asked
scan_question tokens end i asked lt q =
    let more : end - i ≡ suc (end - (i + 1)) = omega arith in
    sym (ap (λ m. case_colon m tokens end i asked) more ∙ at_question (end - (i + 1)) tokens end i asked lt q)

pub scan_answer : (tokens : List CodeToken) (end i asked : ℕ) → i < end → is_question (class_at tokens i) ≡ false → is_colon (class_at tokens i) ≡ true → 0 < asked
    → case_colon (end - (i + 1)) tokens end (i + 1) (asked - 1) ≡ case_colon (end - i) tokens end i asked
scan_answer tokens end i asked lt q c some =
    let more : end - i ≡ suc (end - (i + 1)) = omega arith in
    sym (ap (λ m. case_colon m tokens end i asked) more ∙ at_answer (end - (i + 1)) tokens end i asked lt q c some)

pub scan_other : (tokens : List CodeToken) (end i j asked : ℕ) → i < end → is_question (class_at tokens i) ≡ false → is_colon (class_at tokens i) ≡ false → j ≡ step_over tokens end i
    → case_colon (end - j) tokens end j asked ≡ case_colon (end - i) tokens end i asked
scan_other tokens end i j asked lt q c e =
    let more : end - i ≡ suc (end - (i + 1)) = omega arith in
    let s = step_over tokens end i in
    let up = step_up tokens end i lt in
    let least : i < s = up.least in
    let most : s ≤ end = up.most in
    ap (λ x. case_colon (end - x) tokens end x asked) e
    ∙ sym (ap (λ m. case_colon m tokens end i asked) more
    ∙ at_other (end - (i + 1)) tokens end i asked lt q c
    ∙ enough (end - (i + 1)) (end - s) tokens end s asked (omega arith) (omega arith) most)
