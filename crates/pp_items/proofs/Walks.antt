-- Where an item stands among the characters that are to come, and what is told of its gap.
use Rattle.std.proofs.Common.{◌≡◌, ◌∙◌, ◌==◌, ◌||◌, not, ℕ, suc, ◌+◌, ◌-◌, ◌<◌, ◌≤◌, true, false, List, [], ◌∷◌, ◌++◌, length, drop, Option, Some, None, refl, sym, ap, subst, arith, inl, inr, if◌then◌else◌}
use Rattle.std.specs.Prelude.{nat_lt}
use Rattle.std.specs.Option.{option_map_or}
use Rattle.std.specs.List.{list_any}
use Rattle.std.proofs.lemmas.Bool.{cases_Bool, ne_eqb}
use Rattle.std.proofs.lemmas.Bool.Decides.{nat_tests}
use Rattle.std.proofs.lemmas.List.{length-drop, length-take-le}
use Rattle.std.proofs.lemmas.List.Sums.{sum_by-append}
use Rattle.c_chars.specs.Characters.{bytes_of}
use Rattle.c_chars.specs.Coming.{AreBetween}
use Rattle.c_chars.specs.declared.LogicalChar.{LogicalChar}
use Rattle.c_chars.proofs.Spans.{Ascend, finish_from, later_ascend, ascend_cut, ascend_on, ascend_fits}
use Rattle.c_grammar.specs.Grammar.{is_new_line, is_same}
use Rattle.c_grammar.specs.Items.{Place, LineStart, AfterHash, AfterInclude, AfterDefine, AfterMacroName, InDirective, InText}
use Rattle.c_grammar.specs.Text.{ReadItem, begin_of, finish_of, start_of, end_of, raw_of}
use Rattle.c_grammar.specs.Twin.{part_of}
use Rattle.item_kinds.specs.declared.ItemKind.{ItemKind}
use Rattle.c_lexer.specs.Reading.{new_lines}
use Rattle.pp_model.specs.Stream.{line_at, line_begun}
use Rattle.pp_items.specs.Walk.{before, past, first_line_end, part_here}

-- ## Offsets

pub ascend : (at stop : ℕ) (s : List LogicalChar) → AreBetween at s stop → Ascend at stop s
ascend at stop [] h = h
ascend at stop (c ∷ s) h = (h.0, h.1, ascend c.to stop s h.2)

pub between : (at stop : ℕ) (s : List LogicalChar) → Ascend at stop s → AreBetween at s stop
between at stop [] h = h
between at stop (c ∷ s) h = (h.0, h.1, between c.to stop s h.2)

lt_is : (a b : ℕ) → a < b → nat_lt a b ≡ true
lt_is a b h = grind (arith, nat_tests)

lt_not : (a b : ℕ) → b ≤ a → nat_lt a b ≡ false
lt_not a b h = grind (arith, nat_tests)

-- characters up to an offset, and those from there on
split_at : (at e stop : ℕ) (u v : List LogicalChar) → Ascend at e u → Ascend e stop v → (before e (u ++ v) ≡ u) × (past e (u ++ v) ≡ v)
split_at at e stop [] [] h g = (refl, refl)
split_at at e stop [] (c ∷ v) h g = let n = lt_not c.from e g.0 in (rw n refl, rw n refl)
split_at at e stop (c ∷ u) v h g =
    let fits : c.to ≤ e = ascend_fits c.to e u h.2 in
    let first : c.from < c.to = h.1 in
    let y = lt_is c.from e (omega arith) in
    let more = split_at c.to e stop u v h.2 g in
    (rw y (ap (λ z. c ∷ z) more.0), rw y more.1)

further_ascend : (at e stop : ℕ) (s : List LogicalChar) → e ≤ stop → Ascend at e s → Ascend at stop s
further_ascend at e stop [] h up = omega arith
further_ascend at e stop (c ∷ s) h up = (up.0, up.1, further_ascend c.to e stop s h up.2)

finish_is : (c : LogicalChar) (s : List LogicalChar) → finish_from c.to s ≡ finish_of (c ∷ s)
unfolding finish_from
finish_is c [] = refl
finish_is c (e ∷ s) = finish_is e s

-- an item with a character, and what is behind it
record IsOwn (from stop : ℕ) (cs rest : List LogicalChar) : Type 0 where
  later : from ≤ begin_of cs
  some : begin_of cs < finish_of cs
  here : Ascend (begin_of cs) stop (cs ++ rest)
  own : Ascend (begin_of cs) (finish_of cs) cs
  up : Ascend (finish_of cs) stop rest

own_of : (from stop : ℕ) (cs rest : List LogicalChar) → 0 < length cs → Ascend from stop (cs ++ rest) → IsOwn from stop cs rest
own_of from stop [] rest h up = absurd (omega arith)
own_of from stop (c ∷ cs) rest h up =
    let parts = ascend_cut c.to stop cs rest up.2 in
    let on : c.to ≤ finish_from c.to cs = ascend_on c.to (finish_from c.to cs) cs parts.0 in
    let first : c.from < c.to = up.1 in
    let e = finish_is c cs in
    record {
      later = up.0;
      some = subst (λ k. c.from < k) e (omega arith);
      here = (omega arith, up.1, up.2);
      own = subst (λ k. Ascend c.from k (c ∷ cs)) e (omega arith, up.1, parts.0);
      up = subst (λ k. Ascend k stop rest) e parts.1;
    }

-- The characters of the next item and of its gap, by its offsets.
pub record IsSpread (at stop : ℕ) (chars : List LogicalChar) (read : ReadItem) (rest : List LogicalChar) : Type 0 where
  pub gap : before (start_of read) chars ≡ read.gap
  pub behind : past (start_of read) chars ≡ read.chars ++ rest
  pub own : before (end_of read) (read.chars ++ rest) ≡ read.chars
  pub left : past (end_of read) (read.chars ++ rest) ≡ rest
  pub later : at ≤ start_of read
  pub some : start_of read < end_of read
  pub within : end_of read ≤ stop
  pub up : AreBetween (start_of read) rest stop
  pub gap_up : Ascend at (start_of read) read.gap

pub spread : (at stop : ℕ) (chars : List LogicalChar) (read : ReadItem) (rest : List LogicalChar) → AreBetween at chars stop → chars ≡ read.gap ++ (read.chars ++ rest) → 0 < length read.chars → IsSpread at stop chars read rest
spread at stop chars read rest b whole some =
    let split = ascend_cut at stop read.gap (read.chars ++ rest) (subst (Ascend at stop) whole (ascend at stop chars b)) in
    let from : ℕ = finish_from at read.gap in
    let own = own_of from stop read.chars rest some split.1 in
    let on : at ≤ from = ascend_on at from read.gap split.0 in
    let gap_up : Ascend at (start_of read) read.gap = further_ascend at from (start_of read) read.gap own.later split.0 in
    let first = split_at at (start_of read) stop read.gap (read.chars ++ rest) gap_up own.here in
    let second = split_at (start_of read) (end_of read) stop read.chars rest own.own own.up in
    record {
      gap = ap (before (start_of read)) whole ∙ first.0;
      behind = ap (past (start_of read)) whole ∙ first.1;
      own = second.0;
      left = second.1;
      later = omega (arith, on, own.later);
      some = own.some;
      within = ascend_fits (end_of read) stop rest own.up;
      up = between (start_of read) stop rest (later_ascend (start_of read) (end_of read) stop rest (omega (arith, own.some)) own.up);
      gap_up = gap_up;
    }

-- an item has the bytes between where it begins and where it ends
pub raw_ends : (text raw : List ℕ) (read : ReadItem) → raw ≡ raw_of text read → start_of read < end_of read → end_of read ≤ length text → start_of read + length raw ≡ end_of read
raw_ends text raw read e some within =
    let behind : length (drop (start_of read) text) ≡ length text - start_of read = length-drop (start_of read) text in
    let len = length-take-le (end_of read - start_of read) (drop (start_of read) text) (omega (arith, behind, some, within)) in
    omega (arith, ap length e, len, some)

-- ## Gaps

line_here : (c : LogicalChar) (g : List LogicalChar) → is_new_line c.byte ≡ true → first_line_end (c ∷ g) ≡ Some c.to
line_here c g h = rw h refl

line_later : (c : LogicalChar) (g : List LogicalChar) → is_new_line c.byte ≡ false → first_line_end (c ∷ g) ≡ first_line_end g
line_later c g h = rw h refl

some_is : (a b : ℕ) → Some a ≡ Some b → a ≡ b
some_is a b e = cc

-- the first of both
abbrev pub first_or : Option ℕ → Option ℕ → Option ℕ
first_or None o = o
first_or (Some a) o = Some a

-- the first new-line of a gap ends in it
pub line_within : (at stop : ℕ) (g : List LogicalChar) (to : ℕ) → Ascend at stop g → first_line_end g ≡ Some to → (at ≤ to) × (to ≤ stop)
line_within at stop [] to up e = cc
line_within at stop (c ∷ g) to up e = elim (cases_Bool (is_new_line c.byte)) [
  | inl h ↦
      let is : c.to ≡ to = some_is c.to to (sym (line_here c g h) ∙ e) in
      let fits : c.to ≤ stop = ascend_fits c.to stop g up.2 in
      let low : at ≤ c.from = up.0 in
      let first : c.from < c.to = up.1 in
      (omega arith, omega arith)
  | inr h ↦
      let more = line_within c.to stop g to up.2 (sym (line_later c g h) ∙ e) in
      let low : at ≤ c.from = up.0 in
      let first : c.from < c.to = up.1 in
      (omega (arith, more.0), more.1)
]

-- the line that it begins
pub begun_is : (text : List ℕ) (g : List LogicalChar) → line_begun text g ≡ option_map_or (line_at text) (first_line_end g) 0
begun_is text [] = refl
begun_is text (c ∷ g) = elim (cases_Bool (is_new_line c.byte)) [
  | inl h ↦
      ap (λ z. elim z [ true ↦ line_at text c.to | false ↦ line_begun text g ]) h ∙ sym (ap (λ o. option_map_or (line_at text) o 0) (line_here c g h))
  | inr h ↦
      ap (λ z. elim z [ true ↦ line_at text c.to | false ↦ line_begun text g ]) h ∙ (begun_is text g ∙ sym (ap (λ o. option_map_or (line_at text) o 0) (line_later c g h)))
]

more_lines : (c : LogicalChar) (g : List LogicalChar) → new_lines (c ∷ g) ≡ (if is_new_line c.byte then 1 else 0) + new_lines g
more_lines c g =
    let e = sum_by-append (λ (e : LogicalChar). if is_new_line e.byte then 1 else 0) (c ∷ []) g in omega (arith, e)

-- a gap has a new-line where it has one or more
pub has_line : (g : List LogicalChar) → list_any is_new_line (bytes_of g) ≡ not (new_lines g == 0)
has_line [] = refl
has_line (c ∷ g) = elim (cases_Bool (is_new_line c.byte)) [
  | inl h ↦
      let e : new_lines (c ∷ g) ≡ 1 + new_lines g = more_lines c g ∙ ap (λ b. (if b then 1 else 0) + new_lines g) h in
      let some : (new_lines (c ∷ g) == 0) ≡ false = ne_eqb (new_lines (c ∷ g)) 0 (λ z. absurd (omega (arith, e, z))) in
      ap (λ b. b || list_any is_new_line (bytes_of g)) h ∙ sym (ap not some)
  | inr h ↦
      let e : new_lines (c ∷ g) ≡ 0 + new_lines g = more_lines c g ∙ ap (λ b. (if b then 1 else 0) + new_lines g) h in
      let same : new_lines g ≡ new_lines (c ∷ g) = omega (arith, e) in
      ap (λ b. b || list_any is_new_line (bytes_of g)) h ∙ (has_line g ∙ ap (λ n. not (n == 0)) same)
]

pub is_white_gap : (g : List LogicalChar) → not (length g == 0) ≡ not (is_same (bytes_of g) [])
is_white_gap [] = refl
is_white_gap (c ∷ g) = let some : (suc (length g) == 0) ≡ false = ne_eqb (suc (length g)) 0 (λ e. absurd (omega arith)) in rw some refl

-- the part of an item depends on whether there is a gap, not on which it is
pub part_told : (place : Place) (gap : List ℕ) (kind : ItemKind) (s : List ℕ) → part_here place (not (is_same gap [])) kind s ≡ part_of place gap kind s
part_told LineStart gap kind s = refl
part_told AfterHash gap kind s = refl
part_told AfterInclude gap kind s = refl
part_told AfterDefine gap kind s = refl
part_told AfterMacroName [] kind s = refl
part_told AfterMacroName (c ∷ gap) kind s = refl
part_told InDirective gap kind s = refl
part_told InText gap kind s = refl
