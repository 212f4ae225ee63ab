-- Other bytes between the items of a text, where lines are broken and joined among them and gaps go, give a twin.
use Rattle.std.proofs.Common.{◌≡◌, ◌==◌, ◌||◌, not, ℕ, ◌+◌, ◌-◌, arith, length, true, false, List, [], ◌∷◌, ◌++◌, map, take, drop, refl, sym, ◌∙◌, ap, subst, inl, inr, ◌⊎◌, append_assoc, length-append}
use Rattle.std.proofs.lemmas.Bool.{and_right}
use Rattle.std.proofs.Math.Seq.{take-append_seam, drop-append_seam}
use Rattle.c_chars.specs.Characters.{chars, bytes_of, moved, mark_len, logical}
use Rattle.c_chars.specs.declared.Dialect.{Dialect}
use Rattle.c_chars.specs.declared.Dialect.TheVariants.{C11, C23}
use Rattle.c_chars.specs.declared.LogicalChar.{LogicalChar}
use Rattle.item_kinds.specs.declared.ItemKind.{ItemKind}
use Rattle.c_grammar.specs.Grammar.{is_same}
use Rattle.c_grammar.specs.Items.{Place, LineStart, AfterHash, AfterInclude, AfterDefine, AfterMacroName, InDirective, InText, past_gap, past_item, is_gap, Reads, written}
use Rattle.c_grammar.specs.Touch.{ends, may_touch}
use Rattle.c_grammar.specs.Text.{ReadItem, piece_of, begin_of, finish_of, start_of, end_of, raw_of, characters_of}
use Rattle.c_grammar.specs.Regapping.{IsSameItem, regapped_text}
use Rattle.c_grammar.specs.Fitting.{IsFitGap, IsFitEnd}
use Rattle.c_grammar.specs.Rewritten.{read_alone}
use Rattle.c_grammar.proofs.Lists.{same_is}
use Rattle.c_chars.proofs.Moved.{chars_at}
use Rattle.c_grammar.proofs.ItemBytes.{ReadAs, AreParted, parted, next_black}
use Rattle.c_grammar.proofs.NewText.{read_at, new_items, new_end}
use Rattle.c_grammar.proofs.Rewritten.{HasMark, mark_of}
use Rattle.touching.specs.Spelling.{spelling}
use Rattle.touching.specs.TakingAway.{would_open}
use Rattle.replacements.specs.FreeGaps.{IsTextGap, AreFreeBytes, FitBytes, TextBytes, NoBytes, LineBytes, FreeBehind, FreeText, RewritesFreeGaps}
use Rattle.replacements.specs.OneLine.{IsKeptApart}
use Rattle.replacements.proofs.Places.{opens_parameters, IsLineGap, IsFreeGap}
use Rattle.replacements.proofs.FreeGaps.{HaveFreeGaps, AreFree, keeps_free_items, keeps_parts}
use Rattle.replacements.proofs.ReadItems.{IsRead, AreRead, are_read, touch_read, touch_together}
use Rattle.replacements.proofs.Trigraphs.{StandTogether}
use Rattle.replacements.proofs.NewText.{AreBytesBetween, BytesBehind, BytesOfText, text_chars}

-- Bytes

some_bytes : (d : Dialect) (new : List ℕ) → is_same (read_alone d new) [] ≡ false → not (is_same new []) ≡ true
some_bytes C11 [] h = cc
some_bytes C23 [] h = cc
some_bytes d (c ∷ new) h = refl

no_chars : (d : Dialect) → read_alone d [] ≡ []
no_chars C11 = refl
no_chars C23 = refl

bytes_between : (d : Dialect) (text : List ℕ) (stood place : Place) (left item : ReadItem) (after : List ReadItem) (new : List ℕ) → IsRead d text left → IsRead d text item →
    AreFreeBytes d text stood place left item after new → AreBytesBetween d left item new
bytes_between d text stood place left item after new l r (FitBytes fit) = record { white = fit.fits.white; guarded = fit.guarded; some = inl fit.some }
bytes_between d text stood place left item after new l r (TextBytes free) = record { white = free.gap.white; guarded = free.guarded; some = inl (let there = some_bytes d new free.gap.some in rw there refl) }
bytes_between d text stood place left item after new l r (NoBytes none closed) = subst (λ z. AreBytesBetween d left item z) (sym (same_is new [] none)) (record {
  white = ap is_gap (no_chars d);
  guarded = record { backslash = and_right (ends (λ c. c == 92) (bytes_of left.chars)) false refl; return = and_right (ends (λ c. c == 13) (bytes_of left.chars)) false refl };
  some = inr (touch_together d text left item l (touch_read d text left item l r closed.touch));
})
bytes_between d text stood place left item after new l r (LineBytes line) = record { white = line.white; guarded = line.guarded; some = by line.apart }
  where
    by : (may_touch left.kind (spelling d (raw_of text left)) item.kind (spelling d (raw_of text item)) ≡ true) ⊎ IsKeptApart d left item new → ((not (is_same new []) || (end_of left == start_of item)) ≡ true) ⊎ StandTogether left item
    by (inl touch) = inr (touch_together d text left item l (touch_read d text left item l r touch))
    by (inr kept) = inl kept.some

pub bytes_behind : (d : Dialect) (text : List ℕ) (stood place : Place) (left : ReadItem) (gaps : List (List ℕ)) (items : List ReadItem) (end : List ℕ) → IsRead d text left → AreRead d text items →
    FreeBehind d text stood place left gaps items end → BytesBehind d left gaps items end
bytes_behind d text stood place left [] [] end l all free = free
bytes_behind d text stood place left [] (i ∷ items) end l all free = absurd free
bytes_behind d text stood place left (g ∷ gaps) [] end l all free = absurd free
bytes_behind d text stood place left (g ∷ gaps) (i ∷ items) end l all free =
    (bytes_between d text stood place left i items g l all.0 free.0, bytes_behind d text (past_gap place (bytes_of i.gap)) (past_item d (past_gap place (bytes_of i.gap)) i.kind (bytes_of i.chars)) i gaps items end all.0 all.1 free.1)

pub bytes_of_text : (d : Dialect) (text : List ℕ) (gaps : List (List ℕ)) (items : List ReadItem) (end : List ℕ) → AreRead d text items → FreeText d text gaps items end → BytesOfText d gaps items end
bytes_of_text d text [] [] end all free = tt
bytes_of_text d text [] (i ∷ items) end all free = absurd free
bytes_of_text d text (g ∷ gaps) [] end all free = absurd free
bytes_of_text d text (g ∷ gaps) (i ∷ items) end all free = (free.0, bytes_behind d text LineStart (past_item d LineStart i.kind (bytes_of i.chars)) i gaps items end all.0 all.1 free.1)

-- Pieces

read_item : (d : Dialect) (n : ℕ) (i : ReadItem) (gap : List LogicalChar) (raw : List ℕ) → ReadAs d i.chars raw → IsSameItem (piece_of i) (record { gap = bytes_of gap; kind = i.kind; spelling = bytes_of (chars d n raw) })
read_item d n i gap raw reads = record { kind = refl; spelling = read_at d n raw ∙ reads.spelling }

opens_item : (place : Place) (item : ReadItem) → opens_parameters place (piece_of item) ≡ true → would_open place item ≡ true
opens_item LineStart item o = o
opens_item AfterHash item o = o
opens_item AfterInclude item o = o
opens_item AfterDefine item o = o
opens_item AfterMacroName item o = o
opens_item InDirective item o = o
opens_item InText item o = o

gap_read : (d : Dialect) (text : List ℕ) (at : ℕ) (stood place : Place) (left item : ReadItem) (after : List ReadItem) (new : List ℕ) → IsRead d text left → IsRead d text item →
    AreFreeBytes d text stood place left item after new → IsFreeGap stood place left.kind (bytes_of left.chars) (piece_of item) (map piece_of after) (bytes_of (chars d at new))
gap_read d text at stood place left item after new l r (FitBytes fit) = inl (subst (λ z. IsFitGap place left.kind (bytes_of item.gap) z) (sym (read_at d at new)) fit.fits)
gap_read d text at stood place left item after new l r (TextBytes free) = inr (inl (subst (λ z. IsTextGap place left.kind (piece_of item) (map piece_of after) z) (sym (read_at d at new)) free.gap))
gap_read d text at stood place left item after new l r (NoBytes none closed) = inr (inr (inl (record {
  none = ap (λ z. is_same z []) (read_at d at new ∙ (ap (read_alone d) (same_is new [] none) ∙ no_chars d));
  touch = touch_read d text left item l r closed.touch;
  breaks = closed.breaks;
})))
gap_read d text at stood place left item after new l r (LineBytes line) = inr (inr (inr (subst (λ z. IsLineGap stood place left.kind (bytes_of left.chars) (piece_of item) z) (sym (read_at d at new)) (record {
  one_line = line.one_line;
  goes_on = line.goes_on;
  white = line.white;
  no_line = line.no_line;
  apart = by line.apart;
  opens = λ o. line.opens (opens_item place item o);
  names = line.names;
}))))
  where
    by : (may_touch left.kind (spelling d (raw_of text left)) item.kind (spelling d (raw_of text item)) ≡ true) ⊎ IsKeptApart d left item new →
        (may_touch left.kind (bytes_of left.chars) item.kind (bytes_of item.chars) ≡ true) ⊎ ((is_same (bytes_of item.gap) [] || not (is_same (read_alone d new) [])) ≡ true)
    by (inl touch) = inl (touch_read d text left item l r touch)
    by (inr kept) = inr kept.white

behind_free : (d : Dialect) (text : List ℕ) (stood place : Place) (left : ReadItem) (old : List ℕ) (gaps : List (List ℕ)) (items : List ReadItem) (end : List ℕ) (at : ℕ) → AreParted d text (end_of left) old items →
    IsRead d text left → AreRead d text items → FreeBehind d text stood place left gaps items end → HaveFreeGaps d stood place left.kind (bytes_of left.chars) (map piece_of items) (map piece_of (new_items d at gaps items text))
unfolding new_items
behind_free d text stood place left old [] [] end at parts l all free = tt
behind_free d text stood place left old [] (i ∷ items) end at parts l all free = absurd free
behind_free d text stood place left old (g ∷ gaps) [] end at parts l all free = absurd free
behind_free d text stood place left old (g ∷ gaps) (i ∷ items) end at parts l all free =
    let raw = raw_of text i in
    let next = past_item d (past_gap place (bytes_of i.gap)) i.kind (bytes_of i.chars) in (
      read_item d (at + length g) i (chars d at g) raw parts.4,
      gap_read d text at stood place left i items g l all.0 free.0,
      behind_free d text (past_gap place (bytes_of i.gap)) next i parts.1 gaps items end (at + length g + length raw) parts.9 all.0 all.1 free.1,
    )

text_free : (d : Dialect) (text : List ℕ) (start : ℕ) (old : List ℕ) (gaps : List (List ℕ)) (items : List ReadItem) (end : List ℕ) (at : ℕ) → AreParted d text start old items →
    AreRead d text items → FreeText d text gaps items end → AreFree d (map piece_of items) (map piece_of (new_items d at gaps items text))
unfolding new_items
text_free d text start old [] [] end at parts all free = tt
text_free d text start old [] (i ∷ items) end at parts all free = absurd free
text_free d text start old (g ∷ gaps) [] end at parts all free = absurd free
text_free d text start old (g ∷ gaps) (i ∷ items) end at parts all free =
    let raw = raw_of text i in
    let next = past_item d LineStart i.kind (bytes_of i.chars) in (
      read_item d (at + length g) i (chars d at g) raw parts.4,
      ap is_gap (read_at d at g) ∙ free.0,
      behind_free d text LineStart next i parts.1 gaps items end (at + length g + length raw) parts.9 all.0 all.1 free.1,
    )

-- Kinds and bytes

-- as many gaps as items
abbrev AreAsMany : List (List ℕ) → List ReadItem → Type 0
AreAsMany [] [] = Unit {0}
AreAsMany (g ∷ gaps) (i ∷ items) = AreAsMany gaps items
AreAsMany [] (i ∷ items) = ⊥
AreAsMany (g ∷ gaps) [] = ⊥

behind_many : (d : Dialect) (left : ReadItem) (gaps : List (List ℕ)) (items : List ReadItem) (end : List ℕ) → BytesBehind d left gaps items end → AreAsMany gaps items
behind_many d left [] [] end fit = tt
behind_many d left [] (i ∷ items) end fit = absurd fit
behind_many d left (g ∷ gaps) [] end fit = absurd fit
behind_many d left (g ∷ gaps) (i ∷ items) end fit = behind_many d i gaps items end fit.1

text_many : (d : Dialect) (gaps : List (List ℕ)) (items : List ReadItem) (end : List ℕ) → BytesOfText d gaps items end → AreAsMany gaps items
text_many d [] [] end fit = tt
text_many d [] (i ∷ items) end fit = absurd fit
text_many d (g ∷ gaps) [] end fit = absurd fit
text_many d (g ∷ gaps) (i ∷ items) end fit = behind_many d i gaps items end fit.1

new_kinds : (d : Dialect) (at : ℕ) (gaps : List (List ℕ)) (items : List ReadItem) (text : List ℕ) → AreAsMany gaps items → map (λ item. item.kind) items ≡ map (λ item. item.kind) (new_items d at gaps items text)
unfolding new_items
new_kinds d at [] [] text fit = refl
new_kinds d at [] (i ∷ items) text fit = absurd fit
new_kinds d at (g ∷ gaps) [] text fit = absurd fit
new_kinds d at (g ∷ gaps) (i ∷ items) text fit = ap (λ z. i.kind ∷ z) (new_kinds d (at + length g + length (raw_of text i)) gaps items text fit)

begin_at : (n : ℕ) (s : List LogicalChar) (f : ℕ) (t : List ℕ) → bytes_of s ≡ f ∷ t → begin_of s ≡ 0 → begin_of (map (moved n) s) ≡ n
begin_at n [] f t e h = cc
begin_at n (c ∷ s) f t e h = omega (arith, h)

finish_at : (n m : ℕ) (s : List LogicalChar) (f : ℕ) (t : List ℕ) → bytes_of s ≡ f ∷ t → finish_of s ≡ m → finish_of (map (moved n) s) ≡ m + n
finish_at n m [] f t e h = cc
finish_at n m (c ∷ s) f t e h = moved_finish c s ∙ ap (λ z. z + n) h
  where
    moved_finish : (c : LogicalChar) (s : List LogicalChar) → finish_of (map (moved n) (c ∷ s)) ≡ finish_of (c ∷ s) + n
    moved_finish c [] = refl
    moved_finish c (e ∷ s) = moved_finish e s

raw_new : (d : Dialect) (before raw behind new : List ℕ) (kind : ItemKind) (gap : List LogicalChar) (at f : ℕ) (t : List ℕ) (cs : List LogicalChar) → ReadAs d cs raw → bytes_of cs ≡ f ∷ t → length before ≡ at → new ≡ before ++ (raw ++ behind) →
    raw_of new (record { kind = kind; gap = gap; chars = chars d at raw }) ≡ raw
raw_new d before raw behind new kind gap at f t cs reads some here w =
    let home = reads.spelling ∙ some in
    let start : begin_of (chars d at raw) ≡ at = ap begin_of (chars_at d at raw) ∙ begin_at at (chars d 0 raw) f t home reads.from in
    let stop : finish_of (chars d at raw) ≡ length raw + at = ap finish_of (chars_at d at raw) ∙ finish_at at (length raw) (chars d 0 raw) f t home reads.finish in
    let long : finish_of (chars d at raw) - begin_of (chars d at raw) ≡ length raw = omega (arith, start, stop) in
    let rest : drop (begin_of (chars d at raw)) new ≡ raw ++ behind = ap (λ z. drop z new) (start ∙ sym here) ∙ (ap (drop (length before)) w ∙ drop-append_seam before (raw ++ behind)) in
    rw (long, rest) (take-append_seam raw behind)

-- each item of the old text has characters
abbrev HaveChars : List ReadItem → Type 0
HaveChars [] = Unit {0}
HaveChars (i ∷ items) = (f : ℕ) × (t : List ℕ) × (bytes_of i.chars ≡ f ∷ t) × HaveChars items

new_raws : (d : Dialect) (text new before : List ℕ) (start : ℕ) (old : List ℕ) (at : ℕ) (gaps : List (List ℕ)) (items : List ReadItem) (end : List ℕ) → AreParted d text start old items → AreAsMany gaps items → HaveChars items →
    length before ≡ at → new ≡ before ++ regapped_text gaps items text end → map (raw_of text) items ≡ map (raw_of new) (new_items d at gaps items text)
unfolding new_items
new_raws d text new before start old at [] [] end parts fit have here w = refl
new_raws d text new before start old at [] (i ∷ items) end parts fit have here w = absurd fit
new_raws d text new before start old at (g ∷ gaps) [] end parts fit have here w = absurd fit
new_raws d text new before start old at (g ∷ gaps) (i ∷ items) end parts fit have here w =
    let raw = raw_of text i in
    let rest = regapped_text gaps items text end in
    let to_item : new ≡ (before ++ g) ++ (raw ++ rest) = w ∙ sym (append_assoc before g (raw ++ rest)) in
    let to_rest : new ≡ ((before ++ g) ++ raw) ++ rest = to_item ∙ sym (append_assoc (before ++ g) raw rest) in
    let gap_end : length (before ++ g) ≡ at + length g = length-append before g ∙ ap (λ z. z + length g) here in
    let item_end : length ((before ++ g) ++ raw) ≡ at + length g + length raw = length-append (before ++ g) raw ∙ ap (λ z. z + length raw) gap_end in
    let head : raw_of new (record { kind = i.kind; gap = chars d at g; chars = chars d (at + length g) raw }) ≡ raw = raw_new d (before ++ g) raw rest new i.kind (chars d at g) (at + length g) have.0 have.1 i.chars parts.4 have.2 gap_end to_item in
    let tail : map (raw_of text) items ≡ map (raw_of new) (new_items d (at + length g + length raw) gaps items text) = new_raws d text new ((before ++ g) ++ raw) (end_of i) parts.1 (at + length g + length raw) gaps items end parts.9 fit have.3 item_end to_rest in
    ap (λ z. z ∷ map (raw_of text) items) (sym head) ∙ ap (λ z. raw_of new (record { kind = i.kind; gap = chars d at g; chars = chars d (at + length g) raw }) ∷ z) tail

-- The new text

have_chars : (d : Dialect) (place : Place) (items : List ReadItem) (last : List ℕ) → Reads d place (map piece_of items) last → HaveChars items
have_chars d place [] last h = tt
have_chars d place (i ∷ items) last h =
    let black = next_black d (past_gap place (bytes_of i.gap)) i.kind (bytes_of i.chars) (written (map piece_of items) last) h.1 in
    (black.0, black.1, black.2, have_chars d (past_item d (past_gap place (bytes_of i.gap)) i.kind (bytes_of i.chars)) items last h.2)

pub rewrites_free_gaps : RewritesFreeGaps
rewrites_free_gaps d text items last gaps end h free fit_end no_new =
    let mark : HasMark text = mark_of text in
    let n = mark_len text in
    let front = take n text in
    let old = drop n text in
    let rest = regapped_text gaps items text end in
    let new = front ++ rest in
    let at_front : chars d (length front) old ≡ characters_of items last = ap (λ z. chars d z old) mark.long ∙ h.whole in
    let parts : AreParted d text (length front) old items = parted d text front old LineStart items last mark.whole at_front h.reads in
    let same_mark : mark_len new ≡ n = mark.again rest no_new in
    let new_rest : drop n new ≡ rest = ap (λ z. drop z new) (sym mark.long) ∙ drop-append_seam front rest in
    let new_logical : logical d new ≡ chars d n rest = ap (λ z. chars d z (drop z new)) same_mark ∙ ap (chars d n) new_rest in
    let found = new_items d n gaps items text in
    let found_last = chars d (new_end n gaps items text) end in
    let ps = map piece_of items in
    let qs = map piece_of found in
    let all : AreRead d text items = are_read d text (length front) old LineStart items (bytes_of last) parts h.reads in
    let pieces : AreFree d ps qs = text_free d text (length front) old gaps items end n parts all free in
    let bytes : BytesOfText d gaps items end = bytes_of_text d text gaps items end all free in
    let last_is : read_alone d end ≡ bytes_of found_last = sym (read_at d (new_end n gaps items text) end) in
    let many = text_many d gaps items end bytes in
    record {
      items = items;
      last = last;
      lexes = h;
      other_items = found;
      other_last = found_last;
      other_lexes = record {
        whole = new_logical ∙ text_chars d text (length front) old gaps items end n parts bytes fit_end.white;
        reads = keeps_free_items d ps qs (bytes_of last) (bytes_of found_last) h.reads pieces (subst (λ z. IsFitEnd ps (bytes_of last) z) last_is fit_end);
      };
      kinds = new_kinds d n gaps items text many;
      raws = new_raws d text new front (length front) old n gaps items end parts many (have_chars d LineStart items (bytes_of last) h.reads) mark.long refl;
      parts = keeps_parts d ps qs pieces;
      mark = sym same_mark;
    }
