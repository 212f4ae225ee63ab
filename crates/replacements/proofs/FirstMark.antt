-- No byte order mark comes where the gaps of a text are rewritten.
use Rattle.std.proofs.Common.{◌≡◌, ◌==◌, ◌∙◌, not, ℕ, ◌+◌, Bool, true, false, List, [], ◌∷◌, ◌++◌, refl, sym, ap, subst, arith, length, map, take, drop, append_assoc, append-nil, inl, inr, ◌⊎◌}
use Rattle.std.proofs.lemmas.Bool.{and_parts, eqb-true}
use Rattle.std.specs.Str.{is_utf8}
use Rattle.std.specs.Str.{chars as decoded}
use Rattle.std.proofs.Math.Utf8.{encode}
use Rattle.c_chars.specs.Characters.{bytes_of, chars, mark_len}
use Rattle.c_chars.specs.declared.Dialect.{Dialect}
use Rattle.c_chars.specs.declared.Dialect.TheVariants.{C11, C23}
use Rattle.c_chars.specs.declared.LogicalChar.{LogicalChar}
use Rattle.item_kinds.specs.declared.ItemKind.{ItemKind}
use Rattle.item_kinds.specs.declared.ItemKind.TheVariants.{Identifier, Other}
use Rattle.c_grammar.specs.Grammar.{is_new_line, is_white, is_other_unit, is_letter_unit, is_universal_name, is_wide, Shape, Whole, Spells}
use Rattle.c_grammar.specs.Items.{Place, LineStart, AfterInclude, past_gap, is_gap, IsNext, written}
use Rattle.c_grammar.specs.Text.{ReadItem, piece_of, raw_of, start_of, end_of, characters_of}
use Rattle.c_grammar.specs.Regapping.{regapped_text}
use Rattle.c_grammar.specs.Rewritten.{read_alone}
use Rattle.c_grammar.proofs.AllGaps.{first_place}
use Rattle.c_chars.proofs.Moved.{bytes_at}
use Rattle.c_grammar.proofs.ItemBytes.{AreParted, parted}
use Rattle.c_grammar.proofs.Rewritten.{HasMark, mark_of}
use Rattle.c_grammar.proofs.Unique.{is_blank}
use Rattle.touching.proofs.Marks.{high_step}
use Rattle.touching.proofs.NoMark.{mark_cases, item_not}
use Rattle.replacements.specs.FreeGaps.{KeepsMarksAway}
use Rattle.replacements.proofs.ReadItems.{IsRead, AreRead, are_read}
use Rattle.replacements.proofs.NewText.{BytesBehind}
use Rattle.replacements.proofs.Rewritten.{bytes_of_text}

-- A byte that is read as itself and isn't blank.
record IsThrough (b : ℕ) : Type 0 where
  question : (b == 63) ≡ false
  return : (b == 13) ≡ false
  back : (b == 92) ≡ false
  black : is_blank b ≡ false

AreThrough : List ℕ → Type 0
AreThrough [] = Unit {0}
AreThrough (b ∷ s) = IsThrough b × AreThrough s

through_parts : (a b : List ℕ) → AreThrough (a ++ b) → AreThrough a × AreThrough b
unfolding AreThrough
through_parts [] b h = (tt, h)
through_parts (x ∷ a) b h = let rest = through_parts a b h.1 in ((h.0, rest.0), rest.1)

plain_alone : (d : Dialect) (b : ℕ) (s : List ℕ) → IsThrough b → read_alone d (b ∷ s) ≡ b ∷ read_alone d s
plain_alone d b s h = high_step d 0 b s h.question h.return h.back ∙ ap (λ z. b ∷ z) (bytes_at d 1 s)

read_through : (d : Dialect) (w r : List ℕ) → AreThrough w → read_alone d (w ++ r) ≡ w ++ read_alone d r
unfolding AreThrough
read_through d [] r h = refl
read_through d (b ∷ w) r h = plain_alone d b (w ++ r) h.0 ∙ ap (λ z. b ∷ z) (read_through d w r h.1)

no_chars : (d : Dialect) → read_alone d [] ≡ []
no_chars C11 = refl
no_chars C23 = refl

read_themselves : (d : Dialect) (w : List ℕ) → AreThrough w → read_alone d w ≡ w
read_themselves d w h = ap (λ z. read_alone d z) (sym (append-nil w)) ∙ (read_through d w [] h ∙ (ap (λ z. w ++ z) (no_chars d) ∙ append-nil w))

-- such a byte begins no gap
no_gap : (d : Dialect) (b : ℕ) (s : List ℕ) → IsThrough b → is_gap (read_alone d (b ∷ s)) ≡ true → ⊥
no_gap d b s h white =
    let first : is_gap (b ∷ read_alone d s) ≡ true = ap is_gap (sym (plain_alone d b s h)) ∙ white in
    clash (is_blank b) h.black (and_parts (is_blank b) (is_gap (read_alone d s)) first).0
  where
    clash : (x : Bool) → x ≡ false → x ≡ true → ⊥
    clash x p q = cc

-- One of two fronts of a list goes on with the other.
data Split (a x w s : List ℕ) : Type 0 where
  within : (more : List ℕ) → w ≡ a ++ more → x ≡ more ++ s → Split a x w s
  past : (more : List ℕ) → a ≡ w ++ more → Split a x w s

longer : (c b : ℕ) (a x w s : List ℕ) → c ≡ b → Split a x w s → Split (c ∷ a) x (b ∷ w) s
longer c b a x w s e (within more p q) = within more (ap (λ z. z ∷ w) (sym e) ∙ ap (λ z. c ∷ z) p) q
longer c b a x w s e (past more p) = past more (ap (λ z. z ∷ a) e ∙ ap (λ z. b ∷ z) p)

split : (a x w s : List ℕ) → a ++ x ≡ w ++ s → Split a x w s
split [] x w s h = within w refl h
split (c ∷ a) x [] s h = past (c ∷ a) refl
split (c ∷ a) x (b ∷ w) s h =
    let first : c ≡ b = cc in
    let rest : a ++ x ≡ w ++ s = cc in
    longer c b a x w s first (split a x w s rest)

-- no bytes between two items: no characters
none_between : (d : Dialect) (at : ℕ) (gap : List ℕ) (cs : List LogicalChar) (start : ℕ) → start ≡ at + length gap → (at == start) ≡ true → bytes_of (chars d 0 gap) ≡ bytes_of cs → bytes_of cs ≡ []
none_between d at [] cs start is same reads = sym reads ∙ no_chars d
none_between d at (b ∷ gap) cs start is same reads = let e = eqb-true at start same in absurd (omega (arith, e, is))

-- A part of a mark

-- all bytes of a mark but the last, or some of them
abbrev IsMarkPart : List ℕ → Type 0
IsMarkPart raw = (raw ≡ 239 ∷ []) ⊎ ((raw ≡ 187 ∷ []) ⊎ (raw ≡ 239 ∷ 187 ∷ []))

-- what is left of a mark behind an item: nothing, or the rest behind a part
abbrev IsMarkRest : List ℕ → List ℕ → Type 0
IsMarkRest raw w = (w ≡ []) ⊎ (IsMarkPart raw × ((w ≡ 187 ∷ 191 ∷ []) ⊎ (w ≡ 191 ∷ [])))

none_of : (t more : List ℕ) → t ++ more ≡ [] → more ≡ []
none_of [] more h = h
none_of (c ∷ t) more h = cc

-- behind one more item
next_left : (b : ℕ) (w raw more : List ℕ) (f : ℕ) (t : List ℕ) → raw ≡ f ∷ t → ((b ∷ w ≡ 187 ∷ 191 ∷ []) ⊎ (b ∷ w ≡ 191 ∷ [])) → b ∷ w ≡ raw ++ more → IsMarkRest raw more
next_left b w [] more f t some rest h = cc
next_left b w (x ∷ []) more f t some (inl e) h =
    let x_is : x ≡ 187 = cc in
    let more_is : more ≡ 191 ∷ [] = cc in
    inr (inr (inl (ap (λ z. z ∷ []) x_is)), inr more_is)
next_left b w (x ∷ []) more f t some (inr e) h = inl (let more_is : more ≡ [] = cc in more_is)
next_left b w (x ∷ y ∷ u) more f t some (inl e) h = inl (none_of u more (let rest : u ++ more ≡ [] = cc in rest))
next_left b w (x ∷ y ∷ u) more f t some (inr e) h = cc

-- behind the first item
first_left : (raw more : List ℕ) (f : ℕ) (t : List ℕ) → raw ≡ f ∷ t → 239 ∷ 187 ∷ 191 ∷ [] ≡ raw ++ more → IsMarkRest raw more
first_left [] more f t some h = cc
first_left (x ∷ []) more f t some h =
    let x_is : x ≡ 239 = cc in
    let more_is : more ≡ 187 ∷ 191 ∷ [] = cc in
    inr (inl (ap (λ z. z ∷ []) x_is), inl more_is)
first_left (x ∷ y ∷ []) more f t some h =
    let x_is : x ≡ 239 = cc in
    let y_is : y ≡ 187 = cc in
    let more_is : more ≡ 191 ∷ [] = cc in
    inr (inr (inr (ap (λ z. z ∷ y ∷ []) x_is ∙ ap (λ z. 239 ∷ z ∷ []) y_is)), inr more_is)
first_left (x ∷ y ∷ z ∷ u) more f t some h = inl (none_of u more (let rest : u ++ more ≡ [] = cc in rest))

-- What is left of a mark and begins the new text behind an item began the old one too.
begins_so : (d : Dialect) (text : List ℕ) (left : ReadItem) (gaps : List (List ℕ)) (items : List ReadItem) (end old last w s : List ℕ) → AreParted d text (end_of left) old items → IsRead d text left → AreRead d text items →
    BytesBehind d left gaps items end → is_gap (read_alone d end) ≡ true → AreThrough w → IsMarkRest (raw_of text left) w → regapped_text gaps items text end ≡ w ++ s → (k : List ℕ) × (written (map piece_of items) last ≡ w ++ k)
unfolding AreThrough
begins_so d text left gaps items end old last [] s parts l all fit white h tail is = (written (map piece_of items) last, refl)
begins_so d text left [] [] end old last (b ∷ w) s parts l all fit white h tail is = absurd (no_gap d b (w ++ s) h.0 (ap (λ z. is_gap (read_alone d z)) (sym is) ∙ white))
begins_so d text left [] (i ∷ items) end old last (b ∷ w) s parts l all fit white h tail is = absurd fit
begins_so d text left (g ∷ gaps) [] end old last (b ∷ w) s parts l all fit white h tail is = absurd fit
begins_so d text left ((c ∷ g) ∷ gaps) (i ∷ items) end old last (b ∷ w) s parts l all fit white h tail is =
    let first : b ≡ c = cc in
    absurd (no_gap d c g (subst IsThrough first h.0) fit.0.white)
begins_so d text left ([] ∷ gaps) (i ∷ items) end old last (b ∷ w) s parts l all fit white h (inl e) is = cc
begins_so d text left ([] ∷ gaps) (i ∷ items) end old last (b ∷ w) s parts l all fit white h (inr tail) is = elim fit.0.some [
  | inr together ↦ absurd (item_not d left (raw_of text left) l.reads l.spells together.known tail.0)
  | inl some ↦
      let none : bytes_of i.gap ≡ [] = none_between d (end_of left) parts.0 i.gap (start_of i) parts.3 some parts.6 in
      elim (split raw (regapped_text gaps items text end) (b ∷ w) s is) [
        | within more p q ↦
            let both = through_parts raw more (subst AreThrough p (h.0, h.1)) in
            let next = next_left b w raw more parts.4.first parts.4.rest parts.4.there tail.1 p in
            let rest = begins_so d text i gaps items end parts.1 last more s parts.9 all.0 all.1 fit.1 white both.1 next q in
            let spelled : bytes_of i.chars ≡ raw = sym parts.4.spelling ∙ read_themselves d raw both.0 in (
              rest.0,
              ap (λ z. z ++ (bytes_of i.chars ++ written (map piece_of items) last)) none
                  ∙ (ap (λ z. z ++ written (map piece_of items) last) spelled
                  ∙ (ap (λ z. raw ++ z) rest.1
                  ∙ (sym (append_assoc raw more rest.0) ∙ ap (λ z. z ++ rest.0) (sym p)))),
            )
        | past more p ↦
            let spelled : bytes_of i.chars ≡ (b ∷ w) ++ read_alone d more = sym parts.4.spelling ∙ (ap (λ z. read_alone d z) p ∙ read_through d (b ∷ w) more h) in (
              read_alone d more ++ written (map piece_of items) last,
              ap (λ z. z ++ (bytes_of i.chars ++ written (map piece_of items) last)) none
                  ∙ (ap (λ z. z ++ written (map piece_of items) last) spelled
                  ∙ append_assoc (b ∷ w) (read_alone d more) (written (map piece_of items) last)),
            )
      ]
]
  where
    raw : List ℕ
    raw = raw_of text i

-- Marks

-- its bytes
mark : List ℕ
mark = 239 ∷ 187 ∷ 191 ∷ []

mark_through : AreThrough mark
unfolding AreThrough mark is_white is_new_line
mark_through = (
  record { question = refl; return = refl; back = refl; black = refl },
  (record { question = refl; return = refl; back = refl; black = refl }, (record { question = refl; return = refl; back = refl; black = refl }, tt)),
)

mark_first : IsThrough 239
unfolding is_white is_new_line
mark_first = record { question = refl; return = refl; back = refl; black = refl }

-- they are one item by themselves: one character past ASCII, which begins an identifier or nothing else
mark_unit : (d : Dialect) → is_other_unit d (239 ∷ 187 ∷ 191 ∷ []) ≡ not (is_letter_unit (239 ∷ 187 ∷ 191 ∷ []))
unfolding is_other_unit is_letter_unit is_universal_name is_wide is_utf8 decoded encode
mark_unit C11 = refl
mark_unit C23 = refl

mark_item : (d : Dialect) → (k : Shape) × Spells d k (239 ∷ 187 ∷ 191 ∷ [])
mark_item d = by (is_letter_unit (239 ∷ 187 ∷ 191 ∷ [])) refl (mark_unit d)
  where
    by : (b : Bool) → is_letter_unit (239 ∷ 187 ∷ 191 ∷ []) ≡ b → is_other_unit d (239 ∷ 187 ∷ 191 ∷ []) ≡ not (is_letter_unit (239 ∷ 187 ∷ 191 ∷ [])) → (k : Shape) × Spells d k (239 ∷ 187 ∷ 191 ∷ [])
    by true letter other = (Whole Identifier, record { head = 239 ∷ 187 ∷ 191 ∷ []; tail = []; begins = letter; goes_on = record { units = []; each = refl; whole = refl }; whole = refl })
    by false letter other = (Whole Other, other ∙ ap not letter)

-- an item that is a front of a mark, and the rest of the mark behind it
no_front : (d : Dialect) (place : Place) (kind : ItemKind) (spelled more k : List ℕ) → IsNext d place kind spelled (more ++ k) → place ≡ LineStart → (239 ∷ 187 ∷ 191 ∷ []) ≡ spelled ++ more → (more ≡ [] → ⊥) → ⊥
no_front d place kind spelled [] k next start whole some = some refl
no_front d place kind spelled (c ∷ more) k (inl h) start whole some = clash (sym start ∙ h.0)
  where
    clash : LineStart ≡ AfterInclude → ⊥
    clash e = cc
no_front d place kind spelled (c ∷ more) k (inr h) start whole some =
    let item = mark_item d in
    h.1.longest item.0 c more k refl (subst (λ z. Spells d item.0 z) whole item.1)

marked_len : (m : List ℕ) → mark_len (239 ∷ 187 ∷ 191 ∷ m) ≡ 0 → ⊥
marked_len m e = omega (arith, e)

-- an item whose bytes begin no mark, and what stands behind it
no_item : (d : Dialect) (text : List ℕ) (gaps : List (List ℕ)) (i : ReadItem) (items : List ReadItem) (end old last s : List ℕ) → AreParted d text (end_of i) old items → IsRead d text i → AreRead d text items →
    IsNext d (past_gap LineStart (bytes_of i.gap)) i.kind (bytes_of i.chars) (written (map piece_of items) last) →
    BytesBehind d i gaps items end → is_gap (read_alone d end) ≡ true → mark_len (raw_of text i) ≡ 0 →
    raw_of text i ++ regapped_text gaps items text end ≡ 239 ∷ 187 ∷ 191 ∷ s → ⊥
unfolding mark
no_item d text gaps i items end old last s parts read all next fit white none is = by (split raw (regapped_text gaps items text end) mark s is)
  where
    raw : List ℕ
    raw = raw_of text i

    by : Split raw (regapped_text gaps items text end) mark s → ⊥
    by (past more p) = marked_len more (ap mark_len (sym p) ∙ none)
    by (within more p q) =
        let both = through_parts raw more (subst AreThrough p mark_through) in
        let tail = first_left raw more read.reads.first read.reads.rest read.reads.there p in
        let behind = begins_so d text i gaps items end old last more s parts read all fit white both.1 tail q in
        let spelled : bytes_of i.chars ≡ raw = sym read.reads.spelling ∙ read_themselves d raw both.0 in
        let next_is : IsNext d (past_gap LineStart (bytes_of i.gap)) i.kind (bytes_of i.chars) (more ++ behind.0) = subst (λ z. IsNext d (past_gap LineStart (bytes_of i.gap)) i.kind (bytes_of i.chars) z) behind.1 next in
        no_front d (past_gap LineStart (bytes_of i.gap)) i.kind (bytes_of i.chars) more behind.0 next_is (first_place (bytes_of i.gap)) (p ∙ ap (λ z. z ++ more) (sym spelled)) (whole more p)
      where
        whole : (more : List ℕ) → mark ≡ raw ++ more → more ≡ [] → ⊥
        whole more p e =
            let all : raw ≡ 239 ∷ 187 ∷ 191 ∷ [] = sym (append-nil raw) ∙ (ap (λ z. raw ++ z) (sym e) ∙ sym p) in
            marked_len [] (ap mark_len (sym all) ∙ none)

-- the mark that a first item could make
first_makes_none : (d : Dialect) (text : List ℕ) (gap : List ℕ) (gaps : List (List ℕ)) (i : ReadItem) (items : List ReadItem) (end old last : List ℕ) → AreParted d text (end_of i) old items → IsRead d text i → AreRead d text items →
    IsNext d (past_gap LineStart (bytes_of i.gap)) i.kind (bytes_of i.chars) (written (map piece_of items) last) →
    BytesBehind d i gaps items end → is_gap (read_alone d end) ≡ true → is_gap (read_alone d gap) ≡ true →
    (gap ≡ [] → mark_len (raw_of text i) ≡ 0) → mark_len (gap ++ (raw_of text i ++ regapped_text gaps items text end)) ≡ 0
first_makes_none d text gap gaps i items end old last parts read all next fit white first_white none = elim (mark_cases (gap ++ (raw_of text i ++ regapped_text gaps items text end))) [
  | inl e ↦ e
  | inr m ↦ absurd (by gap first_white none m.0 m.1)
]
  where
    by : (g : List ℕ) → is_gap (read_alone d g) ≡ true → (g ≡ [] → mark_len (raw_of text i) ≡ 0) → (s : List ℕ) → g ++ (raw_of text i ++ regapped_text gaps items text end) ≡ 239 ∷ 187 ∷ 191 ∷ s → ⊥
    by [] w n s is = no_item d text gaps i items end old last s parts read all next fit white (n refl) is
    by (c ∷ g) w n s is =
        let first : 239 ≡ c = cc in
        no_gap d c g (subst IsThrough first mark_first) w

-- no mark comes of a last gap
end_makes_none : (d : Dialect) (end : List ℕ) → is_gap (read_alone d end) ≡ true → mark_len end ≡ 0
end_makes_none d end white = elim (mark_cases end) [
  | inl e ↦ e
  | inr m ↦ absurd (no_gap d 239 (187 ∷ 191 ∷ m.0) mark_first (ap (λ z. is_gap (read_alone d z)) (sym m.1) ∙ white))
]

pub keeps_marks_away : KeepsMarksAway
keeps_marks_away d text [] last [] end h free white none = end_makes_none d end white
keeps_marks_away d text [] last (g ∷ gaps) end h free white none = absurd free
keeps_marks_away d text (i ∷ items) last [] end h free white none = absurd free
keeps_marks_away d text (i ∷ items) last (g ∷ gaps) end h free white none =
    let mark : HasMark text = mark_of text in
    let n = mark_len text in
    let front = take n text in
    let old = drop n text in
    let at_front : chars d (length front) old ≡ characters_of (i ∷ items) last = ap (λ z. chars d z old) mark.long ∙ h.whole in
    let parts : AreParted d text (length front) old (i ∷ items) = parted d text front old LineStart (i ∷ items) last mark.whole at_front h.reads in
    let all : AreRead d text (i ∷ items) = are_read d text (length front) old LineStart (i ∷ items) (bytes_of last) parts h.reads in
    let bytes = bytes_of_text d text (g ∷ gaps) (i ∷ items) end all free in
    first_makes_none d text g gaps i items end parts.1 (bytes_of last) parts.9 all.0 all.1 h.reads.1 bytes.1 white bytes.0 none
