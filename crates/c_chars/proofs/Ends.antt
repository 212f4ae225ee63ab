-- Where the characters of some bytes begin and end, and the bytes of some characters in the midst of others.
use Rattle.std.proofs.Common.{◌≡◌, ◌==◌, ◌&&◌, ℕ, ◌+◌, arith, length, false, List, [], ◌∷◌, ◌++◌, map, refl, sym, ◌∙◌, ap, inl, inr}
use Rattle.std.proofs.lemmas.Bool.{cases_Bool, and_parts, eqb-true}
use Rattle.c_chars.specs.Characters.{is_trigraph, replaced, with_lines, spliced, placed, phase_1, chars, moved}
use Rattle.c_chars.specs.declared.Dialect.{Dialect}
use Rattle.c_chars.specs.declared.Dialect.TheVariants.{C11, C23}
use Rattle.c_chars.specs.declared.LogicalChar.{LogicalChar}
use Rattle.c_chars.proofs.Cuts.{ends_in, units, units_cut, IsCleanCut}
use Rattle.c_chars.proofs.Spans.{finish_from}
use Rattle.c_chars.proofs.Splits.{head_of, last_of, split_before, split_behind, byte_split}

-- Where they begin

abbrev pub from_of : List LogicalChar → ℕ
from_of [] = 0
from_of (c ∷ s) = c.from

replaced_from : (s : List LogicalChar) → from_of (replaced s) ≡ from_of s
replaced_from [] = refl
replaced_from (a ∷ []) = refl
replaced_from (a ∷ b ∷ []) = refl
replaced_from (a ∷ b ∷ c ∷ s) = elim (cases_Bool (is_trigraph a b c)) [ inl y ↦ rw y refl | inr n ↦ rw n refl ]

lines_from : (s : List LogicalChar) → from_of (with_lines s) ≡ from_of s
lines_from [] = refl
lines_from (a ∷ []) = refl
lines_from (a ∷ b ∷ s) = elim (cases_Bool ((a.byte == 13) && (b.byte == 10))) [ inl y ↦ rw y refl | inr n ↦ rw n refl ]

phase_from : (d : Dialect) (s : List LogicalChar) → from_of (phase_1 d s) ≡ from_of s
phase_from C11 s = replaced_from s
phase_from C23 s = refl

pub units_from : (d : Dialect) (at : ℕ) (b : ℕ) (s : List ℕ) → from_of (units d at (b ∷ s)) ≡ at
units_from d at b s = lines_from (phase_1 d (placed at (b ∷ s))) ∙ phase_from d (placed at (b ∷ s))

-- Where they end

replaced_finish : (at : ℕ) (s : List LogicalChar) → finish_from at (replaced s) ≡ finish_from at s
unfolding finish_from
replaced_finish at [] = refl
replaced_finish at (a ∷ []) = refl
replaced_finish at (a ∷ b ∷ []) = refl
replaced_finish at (a ∷ b ∷ c ∷ s) = elim (cases_Bool (is_trigraph a b c)) [ inl y ↦ rw y (replaced_finish c.to s) | inr n ↦ rw n (replaced_finish a.to (b ∷ c ∷ s)) ]

lines_finish : (at : ℕ) (s : List LogicalChar) → finish_from at (with_lines s) ≡ finish_from at s
unfolding finish_from
lines_finish at [] = refl
lines_finish at (a ∷ []) = refl
lines_finish at (a ∷ b ∷ s) = elim (cases_Bool ((a.byte == 13) && (b.byte == 10))) [ inl y ↦ rw y (lines_finish b.to s) | inr n ↦ rw n (lines_finish a.to (b ∷ s)) ]

phase_finish : (d : Dialect) (at : ℕ) (s : List LogicalChar) → finish_from at (phase_1 d s) ≡ finish_from at s
phase_finish C11 at s = replaced_finish at s
phase_finish C23 at s = refl

placed_finish : (at : ℕ) (s : List ℕ) → finish_from at (placed at s) ≡ at + length s
unfolding finish_from
placed_finish at [] = omega arith
placed_finish at (b ∷ s) = let e : at + 1 + length s ≡ at + length (b ∷ s) = omega arith in placed_finish (at + 1) s ∙ e

pub units_finish : (d : Dialect) (at : ℕ) (s : List ℕ) → finish_from at (units d at s) ≡ at + length s
units_finish d at s = lines_finish at (phase_1 d (placed at s)) ∙ (phase_finish d at (placed at s) ∙ placed_finish at s)

-- by the last character
finish_last : (at : ℕ) (s : List LogicalChar) → ℕ
finish_last at [] = at
finish_last at (c ∷ s) = c.to

finish_by_last : (at : ℕ) (s : List LogicalChar) → finish_from at s ≡ finish_last at (last_of s)
unfolding finish_from finish_last
finish_by_last at [] = refl
finish_by_last at (c ∷ []) = refl
finish_by_last at (c ∷ e ∷ s) = finish_by_last c.to (e ∷ s) ∙ other c.to at e s
  where
    other : (n m : ℕ) (e : LogicalChar) (s : List LogicalChar) → finish_last n (last_of (e ∷ s)) ≡ finish_last m (last_of (e ∷ s))
    other n m e [] = refl
    other n m e (f ∷ s) = other n m f s

pub same_finish : (at : ℕ) (s t : List LogicalChar) → last_of s ≡ last_of t → finish_from at s ≡ finish_from at t
same_finish at s t h = finish_by_last at s ∙ (ap (finish_last at) h ∙ sym (finish_by_last at t))

pub same_from : (s t : List LogicalChar) → head_of s ≡ head_of t → from_of s ≡ from_of t
same_from s t h = by_head s ∙ (ap from_of h ∙ sym (by_head t))
  where
    by_head : (s : List LogicalChar) → from_of s ≡ from_of (head_of s)
    by_head [] = refl
    by_head (c ∷ s) = refl

-- Their last byte

abbrev pub last_byte : ℕ → List LogicalChar → ℕ
last_byte z [] = z
last_byte z (c ∷ s) = last_byte c.byte s

pub lines_last : (z : ℕ) (s : List LogicalChar) → last_byte z (with_lines s) ≡ last_byte z s
lines_last z [] = refl
lines_last z (a ∷ []) = refl
lines_last z (a ∷ b ∷ s) = elim (cases_Bool ((a.byte == 13) && (b.byte == 10))) [
  | inl y ↦ let is : b.byte ≡ 10 = eqb-true b.byte 10 (and_parts (a.byte == 13) (b.byte == 10) y).1 in rw y (lines_last 10 s ∙ ap (λ n. last_byte n s) (sym is))
  | inr n ↦ rw n (lines_last a.byte (b ∷ s))
]

pub same_last : (z : ℕ) (s t : List LogicalChar) → last_of s ≡ last_of t → last_byte z s ≡ last_byte z t
same_last z s t h = by_last z s ∙ (ap (last_byte z) h ∙ sym (by_last z t))
  where
    by_last : (z : ℕ) (s : List LogicalChar) → last_byte z s ≡ last_byte z (last_of s)
    by_last z [] = refl
    by_last z (c ∷ []) = refl
    by_last z (c ∷ e ∷ s) = by_last c.byte (e ∷ s) ∙ other c.byte z e s
      where
        other : (n m : ℕ) (e : LogicalChar) (s : List LogicalChar) → last_byte n (last_of (e ∷ s)) ≡ last_byte m (last_of (e ∷ s))
        other n m e [] = refl
        other n m e (f ∷ s) = other n m f s

pub ends_last : (n z : ℕ) (s : List LogicalChar) → (z == n) ≡ false → ends_in (λ c. c.byte == n) s ≡ (last_byte z s == n)
ends_last n z [] h = sym h
ends_last n z (c ∷ []) h = refl
ends_last n z (c ∷ e ∷ s) h = ends_any n z c.byte e s
  where
    ends_any : (n z m : ℕ) (e : LogicalChar) (s : List LogicalChar) → ends_in (λ c. c.byte == n) (e ∷ s) ≡ (last_byte m (e ∷ s) == n)
    ends_any n z m e [] = refl
    ends_any n z m e (f ∷ s) = ends_any n z e.byte f s

-- Moved

pub moved_last : (n z : ℕ) (s : List LogicalChar) → last_byte z (map (moved n) s) ≡ last_byte z s
moved_last n z [] = refl
moved_last n z (c ∷ s) = moved_last n c.byte s

-- Some characters in the midst of others

pub record Middle (d : Dialect) (at : ℕ) (s : List ℕ) (u v w : List LogicalChar) : Type 0 where
  pub front : List ℕ
  pub own : List ℕ
  pub back : List ℕ
  pub whole : s ≡ front ++ (own ++ back)
  pub before : chars d at front ≡ u
  pub is : chars d (at + length front) own ≡ v
  pub behind : chars d (at + length front + length own) back ≡ w
  pub clean : IsCleanCut d (at + length front) own back
  pub head : head_of (units d (at + length front) own) ≡ head_of v
  pub last : last_of (units d (at + length front) own) ≡ last_of v

head_own : (u v : List LogicalChar) (c : LogicalChar) (s : List LogicalChar) → spliced u ≡ c ∷ s → head_of (u ++ v) ≡ c ∷ [] → head_of u ≡ c ∷ []
head_own [] v c s e h = cc
head_own (x ∷ u) v c s e h = h

pub middle : (d : Dialect) (at : ℕ) (s : List ℕ) (u : List LogicalChar) (c : LogicalChar) (v w : List LogicalChar) → chars d at s ≡ u ++ ((c ∷ v) ++ w) → Middle d at s u (c ∷ v) w
middle d at s u c v w h =
    let first = split_before (units d at s) u ((c ∷ v) ++ w) h in
    let a = byte_split d at s u ((c ∷ v) ++ w) first.split in
    let p : ℕ = at + length a.front in
    let second = split_behind (units d p a.back) (c ∷ v) w a.behind in
    let b = byte_split d p a.back (c ∷ v) w second.split in
    let cut : units d p a.back ≡ units d p b.front ++ units d (p + length b.front) b.back = ap (units d p) b.whole ∙ units_cut d p b.front b.back b.clean in
    let heads : head_of (units d p b.front ++ units d (p + length b.front) b.back) ≡ c ∷ [] = ap head_of (sym cut) ∙ (ap head_of a.units_behind ∙ first.head) in
    record {
      front = a.front;
      own = b.front;
      back = b.back;
      whole = a.whole ∙ ap (λ z. a.front ++ z) b.whole;
      before = a.before;
      is = b.before;
      behind = b.behind;
      clean = b.clean;
      head = head_own (units d p b.front) (units d (p + length b.front) b.back) c v b.before heads;
      last = ap last_of b.units_before ∙ second.last;
    }
