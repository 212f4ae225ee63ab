-- An item's bytes in its text decide how it is spelled: its characters are what phases 1 and 2 make of these bytes alone.
use Rattle.std.proofs.Common.{◌≡◌, ◌==◌, ◌&&◌, ℕ, ◌+◌, ◌-◌, suc, arith, length, drop, map, take, Bool, true, false, List, [], ◌∷◌, ◌++◌, refl, sym, ◌∙◌, ap, subst, inl, inr, append_assoc}
use Rattle.std.proofs.lemmas.List.{drop-drop}
use Rattle.std.proofs.lemmas.Bool.{cases_Bool}
use Rattle.std.proofs.Math.Seq.{take-append_seam, drop-append_seam}
use Rattle.c_chars.specs.Characters.{is_trigraph, trigraph, replaced, with_lines, spliced, placed, phase_1, chars, moved, mark_len, logical, bytes_of}
use Rattle.c_chars.specs.declared.Dialect.{Dialect}
use Rattle.c_chars.specs.declared.Dialect.TheVariants.{C11, C23}
use Rattle.c_chars.specs.declared.LogicalChar.{LogicalChar}
use Rattle.c_chars.proofs.Cuts.{chars_moved}
use Rattle.c_grammar.specs.Text.{ReadItem, begin_of, finish_of, raw_of, characters_of, LexesText}

abbrev pub is_empty : List LogicalChar → Bool
is_empty [] = true
is_empty (c ∷ s) = false

-- behind characters with one end, what is as long ends alike
finish_over : (a b : LogicalChar) (s t : List LogicalChar) → a.to ≡ b.to → is_empty s ≡ is_empty t → finish_of s ≡ finish_of t → finish_of (a ∷ s) ≡ finish_of (b ∷ t)
finish_over a b [] [] e n f = e
finish_over a b (x ∷ s) (y ∷ t) e n f = f
finish_over a b [] (y ∷ t) e n f = cc
finish_over a b (x ∷ s) [] e n f = cc

-- A cut of what a pass gives is a cut of what it reads, and ends alike.
record IsCutBack (f : List LogicalChar → List LogicalChar) (s x y : List LogicalChar) : Type 0 where
  front : List LogicalChar
  rest : List LogicalChar
  whole : s ≡ front ++ rest
  front_is : f front ≡ x
  rest_is : f rest ≡ y
  empty : is_empty front ≡ is_empty x
  ends : finish_of front ≡ finish_of x

cut_nothing : (f : List LogicalChar → List LogicalChar) (s y : List LogicalChar) → f [] ≡ [] → f s ≡ y → IsCutBack f s [] y
cut_nothing f s y n e = record { front = []; rest = s; whole = refl; front_is = n; rest_is = e; empty = refl; ends = refl }

-- one more character before it, which the pass makes of those that come before
cut_more : (f : List LogicalChar → List LogicalChar) (pre s x y : List LogicalChar) (c : LogicalChar) (h : IsCutBack f s x y) → f (pre ++ h.front) ≡ c ∷ f h.front → is_empty (pre ++ h.front) ≡ false → finish_of (pre ++ h.front) ≡ finish_of (c ∷ x) → IsCutBack f (pre ++ s) (c ∷ x) y
cut_more f pre s x y c h e n t = record {
  front = pre ++ h.front;
  rest = h.rest;
  whole = ap (λ z. pre ++ z) h.whole ∙ sym (append_assoc pre h.front h.rest);
  front_is = e ∙ ap (λ z. c ∷ z) h.front_is;
  rest_is = h.rest_is;
  empty = n;
  ends = t;
}

same_char : (f : List LogicalChar → List LogicalChar) (s x y : List LogicalChar) (a c : LogicalChar) → a ≡ c → IsCutBack f s (a ∷ x) y → IsCutBack f s (c ∷ x) y
same_char f s x y a c e h = subst (λ z. IsCutBack f s (z ∷ x) y) e h

-- ## Each pass

front_of_nothing : (f r : List LogicalChar) → [] ≡ f ++ r → f ≡ []
front_of_nothing [] r e = refl
front_of_nothing (z ∷ f) r e = cc

lines_over : (a b : LogicalChar) (s front rest : List LogicalChar) → ((a.byte == 13) && (b.byte == 10)) ≡ false → b ∷ s ≡ front ++ rest → with_lines (a ∷ front) ≡ a ∷ with_lines front
lines_over a b s [] rest p w = refl
lines_over a b s (z ∷ f) rest p w =
    let same : b ≡ z = cc in
    let q : ((a.byte == 13) && (z.byte == 10)) ≡ false = subst (λ k. ((a.byte == 13) && (k.byte == 10)) ≡ false) same p in
    rw q refl

lines_back : (s x y : List LogicalChar) → with_lines s ≡ x ++ y → IsCutBack with_lines s x y
lines_back s [] y e = cut_nothing with_lines s y refl e
lines_back [] (c ∷ x) y e = cc
lines_back (a ∷ []) (c ∷ x) y e =
    let head : a ≡ c = cc in
    let tail : [] ≡ x ++ y = cc in
    let h = lines_back [] x y tail in
    let nothing : h.front ≡ [] = front_of_nothing h.front h.rest h.whole in
    same_char with_lines (a ∷ []) x y a c head
    (cut_more with_lines (a ∷ []) [] x y a h (rw nothing refl) refl (finish_over a a h.front x refl h.empty h.ends))
lines_back (a ∷ b ∷ s) (c ∷ x) y e = elim (cases_Bool ((a.byte == 13) && (b.byte == 10))) [
  | inl p ↦
      let both : ◌≡◌ {A = List LogicalChar} (record { byte = 10; from = a.from; to = b.to } ∷ with_lines s) (c ∷ (x ++ y)) = rw p at e in
      let head : ◌≡◌ {A = LogicalChar} (record { byte = 10; from = a.from; to = b.to }) c = cc in
      let tail : with_lines s ≡ x ++ y = cc in
      let h = lines_back s x y tail in
      same_char with_lines (a ∷ b ∷ s) x y (record { byte = 10; from = a.from; to = b.to }) c head
      (cut_more with_lines (a ∷ b ∷ []) s x y (record { byte = 10; from = a.from; to = b.to }) h (rw p refl) refl
      (finish_over b (record { byte = 10; from = a.from; to = b.to }) h.front x refl h.empty h.ends))
  | inr p ↦
      let both : ◌≡◌ {A = List LogicalChar} (a ∷ with_lines (b ∷ s)) (c ∷ (x ++ y)) = rw p at e in
      let head : a ≡ c = cc in
      let tail : with_lines (b ∷ s) ≡ x ++ y = cc in
      let h = lines_back (b ∷ s) x y tail in
      same_char with_lines (a ∷ b ∷ s) x y a c head
      (cut_more with_lines (a ∷ []) (b ∷ s) x y a h (lines_over a b s h.front h.rest p h.whole) refl (finish_over a a h.front x refl h.empty h.ends))
]

-- the last character of a text that is one
only_back : (f : List LogicalChar → List LogicalChar) (a c : LogicalChar) (x y : List LogicalChar) → f [] ≡ [] → f (a ∷ []) ≡ a ∷ [] → a ∷ [] ≡ c ∷ (x ++ y) → IsCutBack f (a ∷ []) (c ∷ x) y
only_back f a c [] [] n o e = let head : a ≡ c = cc in record { front = a ∷ []; rest = []; whole = refl; front_is = o ∙ ap (λ z. z ∷ []) head; rest_is = n; empty = refl; ends = ap (λ z. z.to) head }
only_back f a c [] (z ∷ y) n o e = cc
only_back f a c (z ∷ x) y n o e = cc

replaced_over : (a b k : LogicalChar) (s front rest : List LogicalChar) → is_trigraph a b k ≡ false → b ∷ k ∷ s ≡ front ++ rest → replaced (a ∷ front) ≡ a ∷ replaced front
replaced_over a b k s [] rest p w = refl
replaced_over a b k s (z ∷ []) rest p w = refl
replaced_over a b k s (z ∷ v ∷ f) rest p w =
    let same : b ≡ z = cc in
    let also : k ≡ v = cc in
    let q : is_trigraph a z k ≡ false = subst (λ i. is_trigraph a i k ≡ false) same p in
    let r : is_trigraph a z v ≡ false = subst (λ i. is_trigraph a z i ≡ false) also q in
    rw r refl

replaced_two : (a b : LogicalChar) (front rest : List LogicalChar) → b ∷ [] ≡ front ++ rest → replaced (a ∷ front) ≡ a ∷ replaced front
replaced_two a b [] rest w = refl
replaced_two a b (z ∷ []) rest w = refl
replaced_two a b (z ∷ v ∷ f) rest w = cc

replaced_back : (s x y : List LogicalChar) → replaced s ≡ x ++ y → IsCutBack replaced s x y
replaced_back s [] y e = cut_nothing replaced s y refl e
replaced_back [] (c ∷ x) y e = cc
replaced_back (a ∷ []) (c ∷ x) y e = only_back replaced a c x y refl refl e
replaced_back (a ∷ b ∷ []) (c ∷ x) y e =
    let head : a ≡ c = cc in
    let tail : b ∷ [] ≡ x ++ y = cc in
    let h = replaced_back (b ∷ []) x y tail in
    same_char replaced (a ∷ b ∷ []) x y a c head
    (cut_more replaced (a ∷ []) (b ∷ []) x y a h (replaced_two a b h.front h.rest h.whole) refl (finish_over a a h.front x refl h.empty h.ends))
replaced_back (a ∷ b ∷ k ∷ s) (c ∷ x) y e = elim (cases_Bool (is_trigraph a b k)) [
  | inl p ↦
      let it : LogicalChar = record { byte = trigraph k.byte; from = a.from; to = k.to } in
      let both : it ∷ replaced s ≡ c ∷ (x ++ y) = rw p at e in
      let head : it ≡ c = cc in
      let tail : replaced s ≡ x ++ y = cc in
      let h = replaced_back s x y tail in
      same_char replaced (a ∷ b ∷ k ∷ s) x y it c head
      (cut_more replaced (a ∷ b ∷ k ∷ []) s x y it h (rw p refl) refl (finish_over k it h.front x refl h.empty h.ends))
  | inr p ↦
      let both : a ∷ replaced (b ∷ k ∷ s) ≡ c ∷ (x ++ y) = rw p at e in
      let head : a ≡ c = cc in
      let tail : replaced (b ∷ k ∷ s) ≡ x ++ y = cc in
      let h = replaced_back (b ∷ k ∷ s) x y tail in
      same_char replaced (a ∷ b ∷ k ∷ s) x y a c head
      (cut_more replaced (a ∷ []) (b ∷ k ∷ s) x y a h (replaced_over a b k s h.front h.rest p h.whole) refl (finish_over a a h.front x refl h.empty h.ends))
]

phase_back : (d : Dialect) (s x y : List LogicalChar) → phase_1 d s ≡ x ++ y → IsCutBack (phase_1 d) s x y
phase_back C11 s x y e = replaced_back s x y e
phase_back C23 s x y e = record { front = x; rest = y; whole = e; front_is = refl; rest_is = refl; empty = refl; ends = refl }

splice_over : (a b : LogicalChar) (s front rest : List LogicalChar) → ((a.byte == 92) && (b.byte == 10)) ≡ false → b ∷ s ≡ front ++ rest → spliced (a ∷ front) ≡ a ∷ spliced front
splice_over a b s [] rest p w = refl
splice_over a b s (z ∷ f) rest p w =
    let same : b ≡ z = cc in
    let q : ((a.byte == 92) && (z.byte == 10)) ≡ false = subst (λ k. ((a.byte == 92) && (k.byte == 10)) ≡ false) same p in
    rw q refl

-- a splice before what is read goes with it
splice_before : (a b : LogicalChar) (s x y : List LogicalChar) (c : LogicalChar) → ((a.byte == 92) && (b.byte == 10)) ≡ true → IsCutBack spliced s (c ∷ x) y → IsCutBack spliced (a ∷ b ∷ s) (c ∷ x) y
splice_before a b s x y c p h =
    let front = h.front in
    record {
      front = a ∷ b ∷ h.front;
      rest = h.rest;
      whole = ap (λ z. a ∷ b ∷ z) h.whole;
      front_is = rw p (h.front_is);
      rest_is = h.rest_is;
      empty = refl;
      ends = not_empty h.front h.empty ∙ h.ends;
    }
  where
    not_empty : (f : List LogicalChar) → is_empty f ≡ false → finish_of (a ∷ b ∷ f) ≡ finish_of f
    not_empty [] e = cc
    not_empty (z ∷ f) e = refl

spliced_back : (s x y : List LogicalChar) → spliced s ≡ x ++ y → IsCutBack spliced s x y
spliced_back s [] y e = cut_nothing spliced s y refl e
spliced_back [] (c ∷ x) y e = cc
spliced_back (a ∷ []) (c ∷ x) y e = only_back spliced a c x y refl refl e
spliced_back (a ∷ b ∷ s) (c ∷ x) y e = elim (cases_Bool ((a.byte == 92) && (b.byte == 10))) [
  | inl p ↦ let tail : spliced s ≡ c ∷ (x ++ y) = rw p at e in splice_before a b s x y c p (spliced_back s (c ∷ x) y tail)
  | inr p ↦
      let both : a ∷ spliced (b ∷ s) ≡ c ∷ (x ++ y) = rw p at e in
      let head : a ≡ c = cc in
      let tail : spliced (b ∷ s) ≡ x ++ y = cc in
      let h = spliced_back (b ∷ s) x y tail in
      same_char spliced (a ∷ b ∷ s) x y a c head
      (cut_more spliced (a ∷ []) (b ∷ s) x y a h (splice_over a b s h.front h.rest p h.whole) refl (finish_over a a h.front x refl h.empty h.ends))
]

-- the splices before the first character that stays
record IsUnspliced (s : List LogicalChar) (c : LogicalChar) (t : List LogicalChar) : Type 0 where
  skipped : List LogicalChar
  rest : List LogicalChar
  whole : s ≡ skipped ++ c ∷ rest
  stays : spliced (c ∷ rest) ≡ c ∷ t

unspliced : (s : List LogicalChar) (c : LogicalChar) (t : List LogicalChar) → spliced s ≡ c ∷ t → IsUnspliced s c t
unspliced [] c t e = cc
unspliced (a ∷ []) c t e = let head : a ≡ c = cc in record { skipped = []; rest = []; whole = ap (λ z. z ∷ []) head; stays = subst (λ z. spliced (z ∷ []) ≡ c ∷ t) head e }
unspliced (a ∷ b ∷ s) c t e = elim (cases_Bool ((a.byte == 92) && (b.byte == 10))) [
  | inl p ↦
      let h = unspliced s c t (rw p at e) in
      record { skipped = a ∷ b ∷ h.skipped; rest = h.rest; whole = ap (λ z. a ∷ b ∷ z) h.whole; stays = h.stays }
  | inr p ↦
      let both : a ∷ spliced (b ∷ s) ≡ c ∷ t = rw p at e in
      let head : a ≡ c = cc in
      record { skipped = []; rest = b ∷ s; whole = ap (λ z. z ∷ b ∷ s) head; stays = subst (λ z. spliced (z ∷ b ∷ s) ≡ c ∷ t) head e }
]

-- ## Where characters begin

begin_lines : (s : List LogicalChar) → begin_of (with_lines s) ≡ begin_of s
begin_lines [] = refl
begin_lines (a ∷ []) = refl
begin_lines (a ∷ b ∷ s) = elim (cases_Bool ((a.byte == 13) && (b.byte == 10))) [ inl p ↦ rw p refl | inr p ↦ rw p refl ]

begin_phase : (d : Dialect) (s : List LogicalChar) → begin_of (phase_1 d s) ≡ begin_of s
begin_phase C23 s = refl
begin_phase C11 [] = refl
begin_phase C11 (a ∷ []) = refl
begin_phase C11 (a ∷ b ∷ []) = refl
begin_phase C11 (a ∷ b ∷ c ∷ s) = elim (cases_Bool (is_trigraph a b c)) [ inl p ↦ rw p refl | inr p ↦ rw p refl ]

finish_placed : (at x : ℕ) (s : List ℕ) → finish_of (placed at (x ∷ s)) ≡ at + length (x ∷ s)
finish_placed at x [] = refl
finish_placed at x (y ∷ s) = finish_placed (at + 1) y s ∙ (omega arith)

-- a cut of the bytes with their places
record IsPlacedCut (at : ℕ) (s : List ℕ) (x y : List LogicalChar) : Type 0 where
  front : List ℕ
  rest : List ℕ
  whole : s ≡ front ++ rest
  front_is : placed at front ≡ x
  rest_is : placed (at + length front) rest ≡ y

placed_back : (at : ℕ) (s : List ℕ) (x y : List LogicalChar) → placed at s ≡ x ++ y → IsPlacedCut at s x y
placed_back at s [] y e = let n : at + 0 ≡ at = omega arith in record { front = []; rest = s; whole = refl; front_is = refl; rest_is = ap (λ z. placed z s) n ∙ e }
placed_back at [] (c ∷ x) y e = cc
placed_back at (b ∷ s) (c ∷ x) y e =
    let it : LogicalChar = record { byte = b; from = at; to = at + 1 } in
    let head : it ≡ c = cc in
    let tail : placed (at + 1) s ≡ x ++ y = cc in
    let h = placed_back (at + 1) s x y tail in
    let n : at + suc (length h.front) ≡ at + 1 + length h.front = omega arith in
    record {
      front = b ∷ h.front;
      rest = h.rest;
      whole = ap (λ z. b ∷ z) h.whole;
      front_is = ap (λ z. it ∷ z) h.front_is ∙ ap (λ z. z ∷ x) head;
      rest_is = ap (λ z. placed z h.rest) n ∙ h.rest_is;
    }

bytes_moved : (n : ℕ) (s : List LogicalChar) → bytes_of (map (moved n) s) ≡ bytes_of s
bytes_moved n [] = refl
bytes_moved n (c ∷ s) = ap (λ z. c.byte ∷ z) (bytes_moved n s)

-- ## An item's bytes

raw_is : (n from to : ℕ) (text a raw r : List ℕ) → drop n text ≡ a ++ (raw ++ r) → from ≡ n + length a → to ≡ from + length raw → take (to - from) (drop from text) ≡ raw
raw_is n from to text a raw r w f t =
    let long : to - from ≡ length raw = omega (arith, t) in
    let behind : drop from text ≡ raw ++ r = ap (λ z. drop z text) f ∙ (sym (drop-drop (length a) n text) ∙ (ap (drop (length a)) w ∙ drop-append_seam a (raw ++ r))) in
    ap (λ z. take z (drop from text)) long ∙ (ap (take (length raw)) behind ∙ take-append_seam raw r)

begins_with : (c : LogicalChar) (r f g : List LogicalChar) → c ∷ r ≡ f ++ g → is_empty f ≡ false → begin_of f ≡ c.from
begins_with c r [] g w n = cc
begins_with c r (z ∷ f) g w n = let head : c ≡ z = cc in ap (λ k. k.from) (sym head)

-- these bytes alone stand for these characters
record AreBytesOf (d : Dialect) (text : List ℕ) (s : List LogicalChar) : Type 0 where
  at : ℕ
  before : List ℕ
  raw : List ℕ
  behind : List ℕ
  whole : drop (mark_len text) text ≡ before ++ (raw ++ behind)
  stands : at ≡ mark_len text + length before
  stand_for : chars d at raw ≡ s
  begin : begin_of (placed at raw) ≡ begin_of s
  finish : finish_of (placed at raw) ≡ finish_of s
  some : is_empty (placed at raw) ≡ false

bytes_found : (d : Dialect) (text : List ℕ) (front : List LogicalChar) (c : LogicalChar) (m back : List LogicalChar) → logical d text ≡ front ++ ((c ∷ m) ++ back) → AreBytesOf d text (c ∷ m)
bytes_found d text front c m back e =
    let n = mark_len text in
    let u = drop n text in
    let h1 = spliced_back (with_lines (phase_1 d (placed n u))) front ((c ∷ m) ++ back) e in
    let h2 = unspliced h1.rest c (m ++ back) h1.rest_is in
    let h3 = spliced_back (c ∷ h2.rest) (c ∷ m) back h2.stays in
    let w3 : with_lines (phase_1 d (placed n u)) ≡ (h1.front ++ h2.skipped) ++ (h3.front ++ h3.rest) =
    h1.whole ∙ (ap (λ z. h1.front ++ z) (h2.whole ∙ ap (λ z. h2.skipped ++ z) h3.whole) ∙ sym (append_assoc h1.front h2.skipped (h3.front ++ h3.rest))) in
    let h4 = lines_back (phase_1 d (placed n u)) (h1.front ++ h2.skipped) (h3.front ++ h3.rest) w3 in
    let h5 = lines_back h4.rest h3.front h3.rest h4.rest_is in
    let h6 = phase_back d (placed n u) h4.front h4.rest h4.whole in
    let h7 = phase_back d h6.rest h5.front h5.rest (h6.rest_is ∙ h5.whole) in
    let h8 = placed_back n u h6.front h6.rest h6.whole in
    let h9 = placed_back (n + length h8.front) h8.rest h7.front h7.rest (h8.rest_is ∙ h7.whole) in
    record {
      at = n + length h8.front;
      before = h8.front;
      raw = h9.front;
      behind = h9.rest;
      whole = h8.whole ∙ ap (λ z. h8.front ++ z) h9.whole;
      stands = refl;
      stand_for = ap (λ z. spliced (with_lines (phase_1 d z))) h9.front_is ∙ (ap (λ z. spliced (with_lines z)) h7.front_is ∙ (ap spliced h5.front_is ∙ h3.front_is));
      begin = ap begin_of h9.front_is ∙ (sym (begin_phase d h7.front) ∙ (ap begin_of h7.front_is ∙ (sym (begin_lines h5.front) ∙ (ap begin_of h5.front_is ∙ begins_with c h2.rest h3.front h3.rest h3.whole h3.empty))));
      finish = ap finish_of h9.front_is ∙ (h7.ends ∙ (h5.ends ∙ h3.ends));
      some = ap is_empty h9.front_is ∙ (h7.empty ∙ (h5.empty ∙ h3.empty));
    }

-- what bytes spell by themselves
abbrev pub spelled : Dialect → List ℕ → List ℕ
spelled d raw = bytes_of (chars d 0 raw)

spelled_by : (d : Dialect) (text : List ℕ) (s : List LogicalChar) (h : AreBytesOf d text s) → take (finish_of s - begin_of s) (drop (begin_of s) text) ≡ h.raw → bytes_of s ≡ spelled d (take (finish_of s - begin_of s) (drop (begin_of s) text))
spelled_by d text s h e =
    let there : h.at ≡ 0 + h.at = omega arith in
    sym (ap bytes_of h.stand_for)
    ∙ (ap (λ z. bytes_of (chars d z h.raw)) there
    ∙ (ap bytes_of (chars_moved d h.at 0 h.raw)
    ∙ (bytes_moved h.at (chars d 0 h.raw) ∙ ap (spelled d) (sym e))))

raw_found : (d : Dialect) (text : List ℕ) (s : List LogicalChar) (n at : ℕ) (before raw behind : List ℕ) → drop n text ≡ before ++ (raw ++ behind) → at ≡ n + length before → begin_of (placed at raw) ≡ begin_of s → finish_of (placed at raw) ≡ finish_of s → is_empty (placed at raw) ≡ false → take (finish_of s - begin_of s) (drop (begin_of s) text) ≡ raw
raw_found d text s n at before [] behind w a b f some = cc
raw_found d text s n at before (x ∷ raw) behind w a b f some =
    let to : finish_of s ≡ begin_of s + length (x ∷ raw) = sym f ∙ (finish_placed at x raw ∙ ap (λ z. z + length (x ∷ raw)) b) in
    raw_is n (begin_of s) (finish_of s) text before (x ∷ raw) behind w (sym b ∙ a) to

item_spelled : (d : Dialect) (text : List ℕ) (front s back : List LogicalChar) → logical d text ≡ front ++ (s ++ back) → bytes_of s ≡ spelled d (take (finish_of s - begin_of s) (drop (begin_of s) text))
item_spelled C11 text front [] back e = refl
item_spelled C23 text front [] back e = refl
item_spelled d text front (c ∷ m) back e =
    let h = bytes_found d text front c m back e in
    spelled_by d text (c ∷ m) h (raw_found d text (c ∷ m) (mark_len text) h.at h.before h.raw h.behind h.whole h.stands h.begin h.finish h.some)

all_spelled : (d : Dialect) (text : List ℕ) (front : List LogicalChar) (items : List ReadItem) (last : List LogicalChar) → logical d text ≡ front ++ characters_of items last → map (λ i. bytes_of i.chars) items ≡ map (spelled d) (map (raw_of text) items)
all_spelled d text front [] last e = refl
all_spelled d text front (i ∷ items) last e =
    let to_item : logical d text ≡ (front ++ i.gap) ++ (i.chars ++ characters_of items last) = e ∙ sym (append_assoc front i.gap (i.chars ++ characters_of items last)) in
    let behind : logical d text ≡ ((front ++ i.gap) ++ i.chars) ++ characters_of items last = to_item ∙ sym (append_assoc (front ++ i.gap) i.chars (characters_of items last)) in
    let head : bytes_of i.chars ≡ spelled d (raw_of text i) = item_spelled d text (front ++ i.gap) i.chars (characters_of items last) to_item in
    let tail = all_spelled d text ((front ++ i.gap) ++ i.chars) items last behind in
    cc

-- the spellings of a text's items are those of their bytes
pub items_spelled : (d : Dialect) (text : List ℕ) (items : List ReadItem) (last : List LogicalChar) → LexesText d text items last → map (λ i. bytes_of i.chars) items ≡ map (spelled d) (map (raw_of text) items)
items_spelled d text items last h = all_spelled d text [] items last h.whole
