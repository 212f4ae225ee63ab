-- The bytes of each item of a text read as its characters by themselves.
use Rattle.std.proofs.Common.{◌≡◌, ◌==◌, ◌||◌, ◌&&◌, ℕ, ◌+◌, ◌-◌, arith, length, false, List, [], ◌∷◌, ◌++◌, map, drop, refl, sym, ◌∙◌, ap, subst, inl, inr, append_assoc, length-append}
use Rattle.std.specs.Prelude.{⊤}
use Rattle.std.proofs.Math.Seq.{take-append_seam, drop-append_seam}
use Rattle.c_chars.specs.Characters.{placed, chars, bytes_of, moved}
use Rattle.c_chars.specs.declared.Dialect.{Dialect}
use Rattle.c_chars.specs.declared.Dialect.TheVariants.{C11, C23}
use Rattle.c_chars.specs.declared.LogicalChar.{LogicalChar}
use Rattle.c_chars.proofs.Moved.{bytes_moved, chars_at, bytes_at}
use Rattle.c_chars.proofs.Cuts.{IsCleanCut, units, phase_over, trigraph_over, starts_third, starts_inner, units_moved}
use Rattle.c_chars.proofs.Spans.{finish_from}
use Rattle.c_chars.proofs.Splits.{head_of, last_of}
use Rattle.c_chars.proofs.Ends.{from_of, units_from, units_finish, same_finish, same_from, last_byte, same_last, moved_last, Middle, middle}
use Rattle.item_kinds.specs.declared.ItemKind.{ItemKind}
use Rattle.c_grammar.specs.Items.{Place, past_gap, past_item, IsNext, Reads, written}
use Rattle.c_grammar.specs.Text.{ReadItem, piece_of, begin_of, finish_of, start_of, end_of, raw_of, characters_of}
use Rattle.c_grammar.proofs.Unique.{is_blank}
use Rattle.c_grammar.proofs.Items.{item_black}
use Rattle.c_grammar.proofs.GapBytes.{first_byte, first_black}

-- Bytes that read as these characters by themselves, from the first to the last of them.
pub record ReadAs (d : Dialect) (cs : List LogicalChar) (bytes : List ℕ) : Type 0 where
  pub spelling : bytes_of (chars d 0 bytes) ≡ bytes_of cs
  pub from : begin_of (chars d 0 bytes) ≡ 0
  pub finish : finish_of (chars d 0 bytes) ≡ length bytes
  pub last : last_byte 0 (units d 0 bytes) ≡ last_byte 0 cs
  pub first : ℕ
  pub rest : List ℕ
  pub there : bytes ≡ first ∷ rest
  pub black : is_blank first ≡ false

begin_is : (s : List LogicalChar) → begin_of s ≡ from_of s
begin_is [] = refl
begin_is (c ∷ s) = refl

finish_is : (at : ℕ) (c : LogicalChar) (s : List LogicalChar) → finish_from at (c ∷ s) ≡ finish_of (c ∷ s)
unfolding finish_from
finish_is at c [] = refl
finish_is at c (e ∷ s) = finish_is c.to e s

units_at : (d : Dialect) (n : ℕ) (s : List ℕ) → units d n s ≡ map (moved n) (units d 0 s)
units_at d n s = let e : n ≡ 0 + n = omega arith in ap (λ z. units d z s) e ∙ units_moved d n 0 s

pub last_at : (d : Dialect) (n : ℕ) (s : List ℕ) → last_byte 0 (units d n s) ≡ last_byte 0 (units d 0 s)
last_at d n s = ap (last_byte 0) (units_at d n s) ∙ moved_last n 0 (units d 0 s)

finish_moved : (n : ℕ) (c : LogicalChar) (s : List LogicalChar) → finish_of (map (moved n) (c ∷ s)) ≡ finish_of (c ∷ s) + n
finish_moved n c [] = refl
finish_moved n c (e ∷ s) = finish_moved n e s

-- the offsets of characters that begin at p, in a text that begins there
begin_home : (n : ℕ) (cs s : List LogicalChar) (c : LogicalChar) (t : List LogicalChar) → cs ≡ map (moved n) s → cs ≡ c ∷ t → begin_of cs ≡ n → begin_of s ≡ 0
begin_home n cs [] c t e f h = cc
begin_home n cs (x ∷ s) c t e f h = let k : x.from + n ≡ n = sym (ap begin_of e) ∙ h in omega (arith, k)

finish_home : (n m : ℕ) (cs s : List LogicalChar) (c : LogicalChar) (t : List LogicalChar) → cs ≡ map (moved n) s → cs ≡ c ∷ t → finish_of cs ≡ n + m → finish_of s ≡ m
finish_home n m cs [] c t e f h = cc
finish_home n m cs (x ∷ s) c t e f h = let k : finish_of (x ∷ s) + n ≡ n + m = sym (finish_moved n x s) ∙ (sym (ap finish_of e) ∙ h) in omega (arith, k)

first_head : (z : ℕ) (s : List LogicalChar) (c : LogicalChar) → head_of s ≡ c ∷ [] → first_byte z s ≡ c.byte
first_head z [] c h = cc
first_head z (x ∷ s) c h = let is : x ≡ c = cc in ap (λ e. e.byte) is

some_bytes : (d : Dialect) (at : ℕ) (s : List ℕ) (c : LogicalChar) (t : List LogicalChar) → chars d at s ≡ c ∷ t → (b : ℕ) × (r : List ℕ) × (s ≡ b ∷ r)
some_bytes C11 at [] c t h = cc
some_bytes C23 at [] c t h = cc
some_bytes d at (b ∷ r) c t h = (b, r, refl)

-- What is found at the middle of other characters.
record Found (d : Dialect) (at : ℕ) (cs : List LogicalChar) (bytes : List ℕ) : Type 0 where
  begins : begin_of cs ≡ at
  ends : finish_of cs ≡ at + length bytes
  reads : ReadAs d cs bytes

found : (d : Dialect) (at : ℕ) (c : LogicalChar) (v : List LogicalChar) (own : List ℕ) → chars d at own ≡ c ∷ v → head_of (units d at own) ≡ c ∷ [] → last_of (units d at own) ≡ last_of (c ∷ v) → is_blank c.byte ≡ false → Found d at (c ∷ v) own
found d at c v own is head last black =
    let some = some_bytes d at own c v is in
    let begins : begin_of (c ∷ v) ≡ at = same_from (c ∷ v) (units d at own) (sym head) ∙ (ap (λ z. from_of (units d at z)) some.2 ∙ units_from d at some.0 some.1) in
    let ends : finish_of (c ∷ v) ≡ at + length own = sym (finish_is at c v) ∙ (same_finish at (c ∷ v) (units d at own) (sym last) ∙ units_finish d at own) in
    let there : c ∷ v ≡ map (moved at) (chars d 0 own) = sym is ∙ chars_at d at own in
    let first : first_byte 32 (units d at (some.0 ∷ some.1)) ≡ c.byte = ap (λ z. first_byte 32 (units d at z)) (sym some.2) ∙ first_head 32 (units d at own) c head in
    record {
      begins = begins;
      ends = ends;
      reads = record {
        spelling = sym (bytes_moved at (chars d 0 own)) ∙ ap bytes_of (sym there);
        from = begin_home at (c ∷ v) (chars d 0 own) c v there refl begins;
        finish = finish_home at (length own) (c ∷ v) (chars d 0 own) c v there refl ends;
        last = sym (last_at d at own) ∙ same_last 0 (units d at own) (c ∷ v) last;
        first = some.0;
        rest = some.1;
        there = some.2;
        black = first_black d at some.0 some.1 (ap is_blank first ∙ black);
      };
    }

-- no trigraph lies over a cut, wherever it is
over_moved : (p q m n : ℕ) (a b : List ℕ) → trigraph_over (placed p a) (placed q b) ≡ false → trigraph_over (placed m a) (placed n b) ≡ false
over_moved p q m n [] b h = refl
over_moved p q m n (x ∷ []) b h = ap (λ z. (x == 63) && z) (inner_at n q b) ∙ h
  where
    third_at : (p q : ℕ) (b : List ℕ) → starts_third (placed p b) ≡ starts_third (placed q b)
    third_at p q [] = refl
    third_at p q (y ∷ b) = refl

    inner_at : (p q : ℕ) (b : List ℕ) → starts_inner (placed p b) ≡ starts_inner (placed q b)
    inner_at p q [] = refl
    inner_at p q (y ∷ b) = ap (λ z. (y == 63) && z) (third_at (p + 1) (q + 1) b)
over_moved p q m n (x ∷ y ∷ []) b h = ap (λ z. ((x == 63) && ((y == 63) && z)) || ((y == 63) && starts_inner (placed n b))) (third_at n q b) ∙ (ap (λ z. ((x == 63) && ((y == 63) && starts_third (placed q b))) || ((y == 63) && z)) (inner_at n q b) ∙ h)
  where
    third_at : (p q : ℕ) (b : List ℕ) → starts_third (placed p b) ≡ starts_third (placed q b)
    third_at p q [] = refl
    third_at p q (y ∷ b) = refl

    inner_at : (p q : ℕ) (b : List ℕ) → starts_inner (placed p b) ≡ starts_inner (placed q b)
    inner_at p q [] = refl
    inner_at p q (y ∷ b) = ap (λ z. (y == 63) && z) (third_at (p + 1) (q + 1) b)
over_moved p q m n (x ∷ y ∷ z ∷ a) b h = over_moved (p + 1) q (m + 1) n (y ∷ z ∷ a) b h

phase_over_moved : (d : Dialect) (p q m n : ℕ) (a b : List ℕ) → phase_over d (placed p a) (placed q b) ≡ false → phase_over d (placed m a) (placed n b) ≡ false
phase_over_moved C11 p q m n a b h = over_moved p q m n a b h
phase_over_moved C23 p q m n a b h = refl

-- The bytes s from this offset of a text are gaps and items in turn; an item's bytes read as its characters, and no trigraph lies over the cut behind them.
abbrev pub AreParted : Dialect → List ℕ → ℕ → List ℕ → List ReadItem → Type 0
AreParted d text at s [] = ⊤
AreParted d text at s (i ∷ items) =
    (gap : List ℕ) × (rest : List ℕ) × (s ≡ gap ++ (raw_of text i ++ rest)) × (start_of i ≡ at + length gap) × ReadAs d i.chars (raw_of text i)
    × (phase_over d (placed 0 (raw_of text i)) (placed 0 rest) ≡ false) × (bytes_of (chars d 0 gap) ≡ bytes_of i.gap) × IsCleanCut d (start_of i) (raw_of text i) rest
    × (end_of i ≡ start_of i + length (raw_of text i)) × AreParted d text (end_of i) rest items

-- the first character of the next item isn't blank
pub next_black : (d : Dialect) (place : Place) (kind : ItemKind) (s rest : List ℕ) → IsNext d place kind s rest → (f : ℕ) × (t : List ℕ) × (s ≡ f ∷ t) × (is_blank f ≡ false)
next_black d place kind s rest (inl h) = item_black d kind s (inl h.2)
next_black d place kind s rest (inr h) = item_black d kind s (inr h.1.spells)

some_chars : (cs : List LogicalChar) (f : ℕ) (t : List ℕ) → bytes_of cs ≡ f ∷ t → (c : LogicalChar) × (v : List LogicalChar) × (cs ≡ c ∷ v) × (c.byte ≡ f)
some_chars [] f t h = cc
some_chars (c ∷ v) f t h = let is : c.byte ≡ f = cc in (c, v, refl, is)

pub parted : (d : Dialect) (text before s : List ℕ) (place : Place) (items : List ReadItem) (last : List LogicalChar) → text ≡ before ++ s → chars d (length before) s ≡ characters_of items last →
    Reads d place (map piece_of items) (bytes_of last) → AreParted d text (length before) s items
parted d text before s place [] last w h r = tt
parted d text before s place (i ∷ items) last w h r =
    let at = length before in
    let black = next_black d (past_gap place (bytes_of i.gap)) i.kind (bytes_of i.chars) (written (map piece_of items) (bytes_of last)) r.1 in
    let some = some_chars i.chars black.0 black.1 black.2 in
    let cut : chars d at s ≡ i.gap ++ ((some.0 ∷ some.1) ++ characters_of items last) = h ∙ ap (λ z. i.gap ++ (z ++ characters_of items last)) some.2 in
    let m : Middle d at s i.gap (some.0 ∷ some.1) (characters_of items last) = middle d at s i.gap some.0 some.1 (characters_of items last) cut in
    let p : ℕ = at + length m.front in
    let f : Found d p (some.0 ∷ some.1) m.own = found d p some.0 some.1 m.own m.is m.head m.last (ap is_blank some.3 ∙ black.3) in
    let start : start_of i ≡ p = ap begin_of some.2 ∙ f.begins in
    let stop : end_of i ≡ p + length m.own = ap finish_of some.2 ∙ f.ends in
    let to_item : text ≡ (before ++ m.front) ++ (m.own ++ m.back) = w ∙ (ap (λ z. before ++ z) m.whole ∙ sym (append_assoc before m.front (m.own ++ m.back))) in
    let item_at : length (before ++ m.front) ≡ p = length-append before m.front in
    let raw : raw_of text i ≡ m.own = raw_there text (before ++ m.front) m.own m.back i to_item (start ∙ sym item_at) (stop ∙ ap (λ z. z + length m.own) (sym item_at)) in
    let reads : ReadAs d i.chars (raw_of text i) = subst (λ z. ReadAs d i.chars z) (sym raw) (subst (λ z. ReadAs d z m.own) (sym some.2) f.reads) in
    let over : phase_over d (placed 0 (raw_of text i)) (placed 0 m.back) ≡ false = subst (λ z. phase_over d (placed 0 z) (placed 0 m.back) ≡ false) (sym raw) (phase_over_moved d p (p + length m.own) 0 0 m.own m.back m.clean.trigraph) in
    let read : bytes_of (chars d 0 m.front) ≡ bytes_of i.gap = sym (bytes_at d at m.front) ∙ ap bytes_of m.before in
    let clean : IsCleanCut d (start_of i) (raw_of text i) m.back = subst (λ z. IsCleanCut d z (raw_of text i) m.back) (sym start) (subst (λ z. IsCleanCut d p z m.back) (sym raw) m.clean) in
    let length_is : end_of i ≡ start_of i + length (raw_of text i) = stop ∙ (ap (λ z. z + length m.own) (sym start) ∙ ap (λ z. start_of i + length z) (sym raw)) in
    let past : List ℕ = (before ++ m.front) ++ m.own in
    let past_is : text ≡ past ++ m.back = to_item ∙ sym (append_assoc (before ++ m.front) m.own m.back) in
    let past_at : length past ≡ end_of i = length-append (before ++ m.front) m.own ∙ (ap (λ z. z + length m.own) item_at ∙ sym stop) in
    let past_chars : chars d (length past) m.back ≡ characters_of items last = ap (λ z. chars d z m.back) (past_at ∙ stop) ∙ m.behind in
    let rest : AreParted d text (length past) m.back items = parted d text past m.back (past_item d (past_gap place (bytes_of i.gap)) i.kind (bytes_of i.chars)) items last past_is past_chars r.2 in
    (m.front, m.back, m.whole ∙ ap (λ z. m.front ++ (z ++ m.back)) (sym raw), start, reads, over, read, clean, length_is, subst (λ z. AreParted d text z m.back items) past_at rest)
  where
    raw_there : (text before own back : List ℕ) (i : ReadItem) → text ≡ before ++ (own ++ back) → start_of i ≡ length before → end_of i ≡ length before + length own → raw_of text i ≡ own
    raw_there text before own back i w start stop =
        let long : end_of i - start_of i ≡ length own = omega (arith, start, stop) in
        let rest : drop (start_of i) text ≡ own ++ back = ap (λ z. drop z text) start ∙ (ap (drop (length before)) w ∙ drop-append_seam before (own ++ back)) in
        rw (long, rest) (take-append_seam own back)
