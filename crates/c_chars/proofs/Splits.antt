-- Where the characters of a text are cut, its bytes are, and no pattern lies over that cut.
use Rattle.std.proofs.Common.{◌≡◌, ◌==◌, ◌&&◌, not, ℕ, ◌+◌, arith, length, Bool, true, false, List, [], ◌∷◌, ◌++◌, refl, sym, ◌∙◌, ap, subst, inl, inr}
use Rattle.std.proofs.lemmas.Bool.{cases_Bool, and_parts, and_left, and_right, eqb-true, or_from}
use Rattle.c_chars.specs.Characters.{trigraph, is_trigraph, replaced, with_lines, spliced, placed, phase_1, chars}
use Rattle.c_chars.specs.declared.Dialect.{Dialect}
use Rattle.c_chars.specs.declared.Dialect.TheVariants.{C11, C23}
use Rattle.c_chars.specs.declared.LogicalChar.{LogicalChar}
use Rattle.c_chars.proofs.Cuts.{ends_in, starts_in, starts_third, starts_inner, trigraph_over, phase_over, return_over, splice_over, units, IsCleanCut}

-- What a pass makes of a list is cut: the list is cut, and no pattern lies over that cut.
pub record IsSplit (pass : List LogicalChar → List LogicalChar) (over : List LogicalChar → List LogicalChar → Bool) (s u v : List LogicalChar) : Type 0 where
  pub front : List LogicalChar
  pub back : List LogicalChar
  pub whole : s ≡ front ++ back
  pub before : pass front ≡ u
  pub behind : pass back ≡ v
  pub clean : over front back ≡ false

-- Trigraphs

abbrev first_trigraph : List LogicalChar → Bool
first_trigraph [] = false
first_trigraph (a ∷ []) = false
first_trigraph (a ∷ b ∷ []) = false
first_trigraph (a ∷ b ∷ c ∷ s) = is_trigraph a b c

replaced_one : (a : LogicalChar) (s : List LogicalChar) → first_trigraph (a ∷ s) ≡ false → replaced (a ∷ s) ≡ a ∷ replaced s
replaced_one a [] h = refl
replaced_one a (b ∷ []) h = refl
replaced_one a (b ∷ c ∷ s) h = rw h refl

front_none : (a : LogicalChar) (f b : List LogicalChar) → first_trigraph (a ∷ (f ++ b)) ≡ false → first_trigraph (a ∷ f) ≡ false
front_none a [] b h = refl
front_none a (x ∷ []) b h = refl
front_none a (x ∷ y ∷ f) b h = h

over_onward : (a : LogicalChar) (f b : List LogicalChar) → first_trigraph (a ∷ (f ++ b)) ≡ false → trigraph_over f b ≡ false → trigraph_over (a ∷ f) b ≡ false
over_onward a [] [] h k = and_right (a.byte == 63) false refl
over_onward a [] (y ∷ []) h k = and_right (a.byte == 63) ((y.byte == 63) && false) (and_right (y.byte == 63) false refl)
over_onward a [] (y ∷ z ∷ b) h k = h
over_onward a (x ∷ []) [] h k = or_from _ _ (and_right (a.byte == 63) ((x.byte == 63) && false) (and_right (x.byte == 63) false refl)) k
over_onward a (x ∷ []) (z ∷ b) h k = or_from _ _ h k
over_onward a (x ∷ y ∷ f) b h k = k

replaced_onward : (a t : LogicalChar) (s u v : List LogicalChar) → first_trigraph (a ∷ s) ≡ false → a ≡ t → IsSplit replaced trigraph_over s u v → IsSplit replaced trigraph_over (a ∷ s) (t ∷ u) v
replaced_onward a t s u v n e r =
    let none : first_trigraph (a ∷ (r.front ++ r.back)) ≡ false = subst (λ z. first_trigraph (a ∷ z) ≡ false) r.whole n in
    record {
      front = a ∷ r.front;
      back = r.back;
      whole = ap (λ z. a ∷ z) r.whole;
      before = replaced_one a r.front (front_none a r.front r.back none) ∙ (ap (λ z. a ∷ z) r.before ∙ ap (λ z. z ∷ u) e);
      behind = r.behind;
      clean = over_onward a r.front r.back none r.clean;
    }

third_not_query : (c : ℕ) → not (trigraph c == 0) ≡ true → (c == 63) ≡ false
unfolding trigraph
third_not_query c h = elim (cases_Bool (c == 63)) [
  | inr n ↦ n
  | inl y ↦ let is : c ≡ 63 = eqb-true c 63 y in let f : not (trigraph 63 == 0) ≡ true = subst (λ z. not (trigraph z == 0) ≡ true) is h in cc
]

-- no trigraph goes on from the end of one
over_behind : (a b c : LogicalChar) (f back : List LogicalChar) → (c.byte == 63) ≡ false → trigraph_over f back ≡ false → trigraph_over (a ∷ b ∷ c ∷ f) back ≡ false
over_behind a b c [] back n k = or_from _ _ (and_right (b.byte == 63) ((c.byte == 63) && starts_third back) (and_left (c.byte == 63) (starts_third back) n)) (and_left (c.byte == 63) (starts_inner back) n)
over_behind a b c (x ∷ []) back n k = or_from _ _ (and_left (c.byte == 63) ((x.byte == 63) && starts_third back) n) k
over_behind a b c (x ∷ y ∷ f) back n k = k

pub replaced_split : (s u v : List LogicalChar) → replaced s ≡ u ++ v → IsSplit replaced trigraph_over s u v
replaced_split s [] v h = record { front = []; back = s; whole = refl; before = refl; behind = h; clean = refl }
replaced_split [] (t ∷ u) v h = cc
replaced_split (a ∷ []) (t ∷ u) v h =
    let heads : a ≡ t = cc in
    let tails : [] ≡ u ++ v = cc in
    replaced_onward a t [] u v refl heads (replaced_split [] u v tails)
replaced_split (a ∷ b ∷ []) (t ∷ u) v h =
    let heads : a ≡ t = cc in
    let tails : b ∷ [] ≡ u ++ v = cc in
    replaced_onward a t (b ∷ []) u v refl heads (replaced_split (b ∷ []) u v tails)
replaced_split (a ∷ b ∷ c ∷ s) (t ∷ u) v h = elim (cases_Bool (is_trigraph a b c)) [
  | inl y ↦
      let made : record { byte = trigraph c.byte; from = a.from; to = c.to } ∷ replaced s ≡ t ∷ (u ++ v) = rw y at h in
      let heads : ◌≡◌ {A = LogicalChar} (record { byte = trigraph c.byte; from = a.from; to = c.to }) t = cc in
      let tails : replaced s ≡ u ++ v = cc in
      let r = replaced_split s u v tails in
      let third = (and_parts (b.byte == 63) (not (trigraph c.byte == 0)) (and_parts (a.byte == 63) ((b.byte == 63) && not (trigraph c.byte == 0)) y).1).1 in
      record {
        front = a ∷ b ∷ c ∷ r.front;
        back = r.back;
        whole = ap (λ z. a ∷ b ∷ c ∷ z) {y = r.front ++ r.back} r.whole;
        before = rw y (ap (λ z. record { byte = trigraph c.byte; from = a.from; to = c.to } ∷ z) r.before ∙ ap (λ z. z ∷ u) heads);
        behind = r.behind;
        clean = over_behind a b c r.front r.back (third_not_query c.byte third) r.clean;
      }
  | inr n ↦
      let kept : a ∷ replaced (b ∷ c ∷ s) ≡ t ∷ (u ++ v) = rw n at h in
      let heads : a ≡ t = cc in
      let tails : replaced (b ∷ c ∷ s) ≡ u ++ v = cc in
      replaced_onward a t (b ∷ c ∷ s) u v n heads (replaced_split (b ∷ c ∷ s) u v tails)
]

phase_split : (d : Dialect) (s u v : List LogicalChar) → phase_1 d s ≡ u ++ v → IsSplit (phase_1 d) (phase_over d) s u v
phase_split C11 s u v h = let r = replaced_split s u v h in record { front = r.front; back = r.back; whole = r.whole; before = r.before; behind = r.behind; clean = r.clean }
phase_split C23 s u v h = record { front = u; back = v; whole = h; before = refl; behind = refl; clean = refl }

-- Passes over pairs

-- no pair of these bytes stands first
abbrev first_pair : ℕ → List LogicalChar → Bool
first_pair n [] = false
first_pair n (a ∷ []) = false
first_pair n (a ∷ b ∷ s) = (a.byte == n) && (b.byte == 10)

-- such a pair lies over the cut
abbrev pair_over : ℕ → List LogicalChar → List LogicalChar → Bool
pair_over n a b = ends_in (λ c. c.byte == n) a && starts_in (λ c. c.byte == 10) b

pair_onward : (n : ℕ) (a : LogicalChar) (f b : List LogicalChar) → first_pair n (a ∷ (f ++ b)) ≡ false → pair_over n f b ≡ false → pair_over n (a ∷ f) b ≡ false
pair_onward n a [] [] h k = and_right (a.byte == n) false refl
pair_onward n a [] (y ∷ b) h k = h
pair_onward n a (x ∷ f) b h k = k

pair_front : (n : ℕ) (a : LogicalChar) (f b : List LogicalChar) → first_pair n (a ∷ (f ++ b)) ≡ false → first_pair n (a ∷ f) ≡ false
pair_front n a [] b h = refl
pair_front n a (x ∷ f) b h = h

-- a new-line ends no pair
pair_behind : (n : ℕ) (a b : LogicalChar) (f back : List LogicalChar) → (b.byte == n) ≡ false → pair_over n f back ≡ false → pair_over n (a ∷ b ∷ f) back ≡ false
pair_behind n a b [] back h k = and_left (b.byte == n) (starts_in (λ c. c.byte == 10) back) h
pair_behind n a b (x ∷ f) back h k = k

line_is_none : (n b : ℕ) → (10 == n) ≡ false → (b == 10) ≡ true → (b == n) ≡ false
line_is_none n b h e = let is : b ≡ 10 = eqb-true b 10 e in subst (λ z. (z == n) ≡ false) (sym is) h

lines_one : (a : LogicalChar) (s : List LogicalChar) → first_pair 13 (a ∷ s) ≡ false → with_lines (a ∷ s) ≡ a ∷ with_lines s
lines_one a [] h = refl
lines_one a (b ∷ s) h = rw h refl

lines_onward : (a t : LogicalChar) (s u v : List LogicalChar) → first_pair 13 (a ∷ s) ≡ false → a ≡ t → IsSplit with_lines return_over s u v → IsSplit with_lines return_over (a ∷ s) (t ∷ u) v
lines_onward a t s u v n e r =
    let none : first_pair 13 (a ∷ (r.front ++ r.back)) ≡ false = subst (λ z. first_pair 13 (a ∷ z) ≡ false) r.whole n in
    record {
      front = a ∷ r.front;
      back = r.back;
      whole = ap (λ z. a ∷ z) r.whole;
      before = lines_one a r.front (pair_front 13 a r.front r.back none) ∙ (ap (λ z. a ∷ z) r.before ∙ ap (λ z. z ∷ u) e);
      behind = r.behind;
      clean = pair_onward 13 a r.front r.back none r.clean;
    }

pub lines_split : (s u v : List LogicalChar) → with_lines s ≡ u ++ v → IsSplit with_lines return_over s u v
lines_split s [] v h = record { front = []; back = s; whole = refl; before = refl; behind = h; clean = refl }
lines_split [] (t ∷ u) v h = cc
lines_split (a ∷ []) (t ∷ u) v h =
    let heads : a ≡ t = cc in
    let tails : [] ≡ u ++ v = cc in
    lines_onward a t [] u v refl heads (lines_split [] u v tails)
lines_split (a ∷ b ∷ s) (t ∷ u) v h = elim (cases_Bool ((a.byte == 13) && (b.byte == 10))) [
  | inl y ↦
      let made : record { byte = 10; from = a.from; to = b.to } ∷ with_lines s ≡ t ∷ (u ++ v) = rw y at h in
      let heads : ◌≡◌ {A = LogicalChar} (record { byte = 10; from = a.from; to = b.to }) t = cc in
      let tails : with_lines s ≡ u ++ v = cc in
      let r = lines_split s u v tails in
      record {
        front = a ∷ b ∷ r.front;
        back = r.back;
        whole = ap (λ z. a ∷ b ∷ z) {y = r.front ++ r.back} r.whole;
        before = rw y (ap (λ z. record { byte = 10; from = a.from; to = b.to } ∷ z) r.before ∙ ap (λ z. z ∷ u) heads);
        behind = r.behind;
        clean = pair_behind 13 a b r.front r.back (line_is_none 13 b.byte refl (and_parts (a.byte == 13) (b.byte == 10) y).1) r.clean;
      }
  | inr n ↦
      let kept : a ∷ with_lines (b ∷ s) ≡ t ∷ (u ++ v) = rw n at h in
      let heads : a ≡ t = cc in
      let tails : with_lines (b ∷ s) ≡ u ++ v = cc in
      lines_onward a t (b ∷ s) u v n heads (lines_split (b ∷ s) u v tails)
]

-- Splices, with those between the two parts in front or behind

spliced_one : (a : LogicalChar) (s : List LogicalChar) → first_pair 92 (a ∷ s) ≡ false → spliced (a ∷ s) ≡ a ∷ spliced s
spliced_one a [] h = refl
spliced_one a (b ∷ s) h = rw h refl

spliced_onward : (a t : LogicalChar) (s u v : List LogicalChar) → first_pair 92 (a ∷ s) ≡ false → a ≡ t → IsSplit spliced splice_over s u v → IsSplit spliced splice_over (a ∷ s) (t ∷ u) v
spliced_onward a t s u v n e r =
    let none : first_pair 92 (a ∷ (r.front ++ r.back)) ≡ false = subst (λ z. first_pair 92 (a ∷ z) ≡ false) r.whole n in
    record {
      front = a ∷ r.front;
      back = r.back;
      whole = ap (λ z. a ∷ z) r.whole;
      before = spliced_one a r.front (pair_front 92 a r.front r.back none) ∙ (ap (λ z. a ∷ z) r.before ∙ ap (λ z. z ∷ u) e);
      behind = r.behind;
      clean = pair_onward 92 a r.front r.back none r.clean;
    }

spliced_behind : (a b : LogicalChar) (s u v : List LogicalChar) → ((a.byte == 92) && (b.byte == 10)) ≡ true → IsSplit spliced splice_over s u v → IsSplit spliced splice_over (a ∷ b ∷ s) u v
spliced_behind a b s u v y r = record {
  front = a ∷ b ∷ r.front;
  back = r.back;
  whole = ap (λ z. a ∷ b ∷ z) r.whole;
  before = rw y r.before;
  behind = r.behind;
  clean = pair_behind 92 a b r.front r.back (line_is_none 92 b.byte refl (and_parts (a.byte == 92) (b.byte == 10) y).1) r.clean;
}

-- the first character alone
abbrev pub head_of : List LogicalChar → List LogicalChar
head_of [] = []
head_of (c ∷ s) = c ∷ []

-- the last character alone
abbrev pub last_of : List LogicalChar → List LogicalChar
last_of [] = []
last_of (c ∷ []) = c ∷ []
last_of (c ∷ e ∷ s) = last_of (e ∷ s)

-- the part behind begins with its first character
pub record BeginsThere (s u v : List LogicalChar) : Type 0 where
  pub split : IsSplit spliced splice_over s u v
  pub head : head_of split.back ≡ head_of v

pub split_before : (s u v : List LogicalChar) → spliced s ≡ u ++ v → BeginsThere s u v
unfolding spliced_onward spliced_behind
split_before [] [] v h = record { split = record { front = []; back = []; whole = refl; before = refl; behind = h; clean = refl }; head = ap head_of h }
split_before [] (t ∷ u) v h = cc
split_before (a ∷ []) [] v h = record { split = record { front = []; back = a ∷ []; whole = refl; before = refl; behind = h; clean = refl }; head = ap head_of h }
split_before (a ∷ []) (t ∷ u) v h =
    let heads : a ≡ t = cc in
    let tails : [] ≡ u ++ v = cc in
    let r = split_before [] u v tails in
    record { split = spliced_onward a t [] u v refl heads r.split; head = r.head }
split_before (a ∷ b ∷ s) [] v h = elim (cases_Bool ((a.byte == 92) && (b.byte == 10))) [
  | inl y ↦
      let gone : spliced s ≡ v = rw y at h in
      let r = split_before s [] v gone in
      record { split = spliced_behind a b s [] v y r.split; head = r.head }
  | inr n ↦
      let kept : a ∷ spliced (b ∷ s) ≡ v = rw n at h in
      record { split = record { front = []; back = a ∷ b ∷ s; whole = refl; before = refl; behind = h; clean = refl }; head = ap head_of kept }
]
split_before (a ∷ b ∷ s) (t ∷ u) v h = elim (cases_Bool ((a.byte == 92) && (b.byte == 10))) [
  | inl y ↦
      let gone : spliced s ≡ (t ∷ u) ++ v = rw y at h in
      let r = split_before s (t ∷ u) v gone in
      record { split = spliced_behind a b s (t ∷ u) v y r.split; head = r.head }
  | inr n ↦
      let kept : a ∷ spliced (b ∷ s) ≡ t ∷ (u ++ v) = rw n at h in
      let heads : a ≡ t = cc in
      let tails : spliced (b ∷ s) ≡ u ++ v = cc in
      let r = split_before (b ∷ s) u v tails in
      record { split = spliced_onward a t (b ∷ s) u v n heads r.split; head = r.head }
]

-- the part in front ends with its last character
pub record EndsThere (s u v : List LogicalChar) : Type 0 where
  pub split : IsSplit spliced splice_over s u v
  pub last : last_of split.front ≡ last_of u

last_onward : (a t : LogicalChar) (f u : List LogicalChar) → a ≡ t → last_of f ≡ last_of u → last_of (a ∷ f) ≡ last_of (t ∷ u)
last_onward a t [] [] e h = ap (λ z. z ∷ []) e
last_onward a t [] (x ∷ u) e h = absurd (last_some x u (sym h))
  where
    last_some : (x : LogicalChar) (u : List LogicalChar) → last_of (x ∷ u) ≡ [] → ⊥
    last_some x [] h = cc
    last_some x (y ∷ u) h = last_some y u h
last_onward a t (x ∷ f) [] e h = absurd (last_some x f h)
  where
    last_some : (x : LogicalChar) (u : List LogicalChar) → last_of (x ∷ u) ≡ [] → ⊥
    last_some x [] h = cc
    last_some x (y ∷ u) h = last_some y u h
last_onward a t (x ∷ f) (y ∷ u) e h = h

last_behind : (a b t : LogicalChar) (f u : List LogicalChar) → last_of f ≡ last_of (t ∷ u) → last_of (a ∷ b ∷ f) ≡ last_of (t ∷ u)
last_behind a b t [] u h = absurd (last_some t u (sym h))
  where
    last_some : (x : LogicalChar) (u : List LogicalChar) → last_of (x ∷ u) ≡ [] → ⊥
    last_some x [] h = cc
    last_some x (y ∷ u) h = last_some y u h
last_behind a b t (x ∷ f) u h = h

pub split_behind : (s u v : List LogicalChar) → spliced s ≡ u ++ v → EndsThere s u v
unfolding spliced_onward spliced_behind
split_behind s [] v h = record { split = record { front = []; back = s; whole = refl; before = refl; behind = h; clean = refl }; last = refl }
split_behind [] (t ∷ u) v h = cc
split_behind (a ∷ []) (t ∷ u) v h =
    let heads : a ≡ t = cc in
    let tails : [] ≡ u ++ v = cc in
    let r = split_behind [] u v tails in
    record { split = spliced_onward a t [] u v refl heads r.split; last = last_onward a t r.split.front u heads r.last }
split_behind (a ∷ b ∷ s) (t ∷ u) v h = elim (cases_Bool ((a.byte == 92) && (b.byte == 10))) [
  | inl y ↦
      let gone : spliced s ≡ (t ∷ u) ++ v = rw y at h in
      let r = split_behind s (t ∷ u) v gone in
      record { split = spliced_behind a b s (t ∷ u) v y r.split; last = last_behind a b t r.split.front u r.last }
  | inr n ↦
      let kept : a ∷ spliced (b ∷ s) ≡ t ∷ (u ++ v) = rw n at h in
      let heads : a ≡ t = cc in
      let tails : spliced (b ∷ s) ≡ u ++ v = cc in
      let r = split_behind (b ∷ s) u v tails in
      record { split = spliced_onward a t (b ∷ s) u v n heads r.split; last = last_onward a t r.split.front u heads r.last }
]

-- Bytes

record PlacedSplit (at : ℕ) (s : List ℕ) (u v : List LogicalChar) : Type 0 where
  front : List ℕ
  back : List ℕ
  whole : s ≡ front ++ back
  before : placed at front ≡ u
  behind : placed (at + length front) back ≡ v

placed_split : (at : ℕ) (s : List ℕ) (u v : List LogicalChar) → placed at s ≡ u ++ v → PlacedSplit at s u v
placed_split at s [] v h = let e : at ≡ at + 0 = omega arith in record { front = []; back = s; whole = refl; before = refl; behind = ap (λ n. placed n s) (sym e) ∙ h }
placed_split at [] (t ∷ u) v h = cc
placed_split at (b ∷ s) (t ∷ u) v h =
    let heads : ◌≡◌ {A = LogicalChar} (record { byte = b; from = at; to = at + 1 }) t = cc in
    let tails : placed (at + 1) s ≡ u ++ v = cc in
    let r = placed_split (at + 1) s u v tails in
    let e : at + 1 + length r.front ≡ at + length (b ∷ r.front) = omega arith in
    record {
      front = b ∷ r.front;
      back = r.back;
      whole = ap (λ z. b ∷ z) r.whole;
      before = ap (λ z. record { byte = b; from = at; to = at + 1 } ∷ z) r.before ∙ ap (λ z. z ∷ u) heads;
      behind = ap (λ n. placed n r.back) (sym e) ∙ r.behind;
    }

-- the bytes of two parts
pub record ByteSplit (d : Dialect) (at : ℕ) (s : List ℕ) (u v front_units back_units : List LogicalChar) : Type 0 where
  pub front : List ℕ
  pub back : List ℕ
  pub whole : s ≡ front ++ back
  pub before : chars d at front ≡ u
  pub behind : chars d (at + length front) back ≡ v
  pub units_before : units d at front ≡ front_units
  pub units_behind : units d (at + length front) back ≡ back_units
  pub clean : IsCleanCut d at front back

pub byte_split : (d : Dialect) (at : ℕ) (s : List ℕ) (u v : List LogicalChar) (h : IsSplit spliced splice_over (units d at s) u v) → ByteSplit d at s u v h.front h.back
byte_split d at s u v h =
    let l = lines_split (phase_1 d (placed at s)) h.front h.back h.whole in
    let p = phase_split d (placed at s) l.front l.back l.whole in
    let b = placed_split at s p.front p.back p.whole in
    let phase_before : phase_1 d (placed at b.front) ≡ l.front = ap (phase_1 d) b.before ∙ p.before in
    let phase_behind : phase_1 d (placed (at + length b.front) b.back) ≡ l.back = ap (phase_1 d) b.behind ∙ p.behind in
    let units_before : units d at b.front ≡ h.front = ap with_lines phase_before ∙ l.before in
    let units_behind : units d (at + length b.front) b.back ≡ h.back = ap with_lines phase_behind ∙ l.behind in
    record {
      front = b.front;
      back = b.back;
      whole = b.whole;
      before = ap spliced units_before ∙ h.before;
      behind = ap spliced units_behind ∙ h.behind;
      units_before = units_before;
      units_behind = units_behind;
      clean = record {
        trigraph = subst (λ z. phase_over d z (placed (at + length b.front) b.back) ≡ false) (sym b.before) (subst (λ z. phase_over d p.front z ≡ false) (sym b.behind) p.clean);
        line = subst (λ z. return_over z (phase_1 d (placed (at + length b.front) b.back)) ≡ false) (sym phase_before) (subst (λ z. return_over l.front z ≡ false) (sym phase_behind) l.clean);
        splice = subst (λ z. splice_over z (units d (at + length b.front) b.back) ≡ false) (sym units_before) (subst (λ z. splice_over h.front z ≡ false) (sym units_behind) h.clean);
      };
    }
