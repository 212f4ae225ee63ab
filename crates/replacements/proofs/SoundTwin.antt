-- The text of a sound plan is a twin of its input.
use Rattle.std.proofs.Common.{◌≡◌, ◌==◌, ◌∙◌, ◌&&◌, not, ℕ, suc, ◌+◌, ◌-◌, Bool, true, false, List, [], ◌∷◌, ◌++◌, refl, sym, ap, subst, arith, length, map, take, drop, append_assoc, add-one, Some, None, Option, slice_get}
use Rattle.std.specs.Prelude.{if◌then◌else◌}
use Rattle.std.proofs.lemmas.List.{take-append-le, take_all}
use Rattle.c_chars.specs.Characters.{bytes_of, mark_len}
use Rattle.c_chars.specs.declared.Dialect.{Dialect}
use Rattle.c_chars.specs.declared.LogicalChar.{LogicalChar}
use Rattle.c_grammar.specs.Items.{Place, LineStart, past_gap, past_item, is_gap, IsNext, Reads, written}
use Rattle.c_grammar.specs.Text.{ReadItem, piece_of, raw_of, start_of, end_of, LexesText}
use Rattle.c_grammar.specs.Twin.{IsTwin}
use Rattle.c_grammar.specs.Regapping.{regapped_text}
use Rattle.c_grammar.specs.Fitting.{IsFitEnd}
use Rattle.c_grammar.specs.Rewritten.{read_alone}
use Rattle.c_grammar.proofs.ItemBytes.{AreParted}
use Rattle.c_grammar.proofs.AllGaps.{first_place}
use Rattle.c_grammar.proofs.KeptBytes.{kept_bytes_fit}
use Rattle.c_grammar.proofs.NewText.{read_at}
use Rattle.replacements.specs.FreeGaps.{AreFreeBytes, FreeBehind, FreeText, BeginsNoMark}
use Rattle.replacements.proofs.FirstMark.{keeps_marks_away}
use Rattle.replacements.proofs.Rewritten.{rewrites_free_gaps}
use Rattle.token_arena.specs.Stored.{Stored, stored_of, stored_from, stored_items}
use Rattle.token_arena.specs.Gaps.{Contents, behind}
use Rattle.token_arena.specs.Sections.{sections_of, sections_from, lines_of}
use Rattle.token_arena.specs.declared.directives.Section.{Section}
use Rattle.style_table.specs.declared.style.Style.{Style}
use Rattle.replacements.specs.declared.gap_text.Decision.{Decision}
use Rattle.replacements.specs.declared.gap_text.Decision.TheVariants.{Old}
use Rattle.replacements.specs.Decisions.{slot_of}
use Rattle.replacements.specs.Guards.{guard_of, guarded_text}
use Rattle.replacements.specs.Sound.{MayPart, MayEnd, MayStandBetween, MayStand, IsSound, SoundPlansAreTwins}
use Rattle.replacements.specs.Places.{stands_at, behind_item, place_from, place_in}
use Rattle.replacements.specs.Stances.{stance_in, hash_comes}
use Rattle.replacements.specs.Written.{bytes_between, mark_bytes, decision_of, decision_at, first_gap, is_of_text, is_old, planned_gap, written_from}
use Rattle.replacements.specs.Written.{written as written_plan}
use Rattle.replacements.specs.declared.guard.Guard.{Guard}
use Rattle.replacements.specs.declared.guard.Guard.TheVariants as guard
use Rattle.replacements.specs.declared.slot.Slot.{Slot}
use Rattle.replacements.specs.declared.stance.Stance.{Stance}
use Rattle.replacements.specs.declared.stance.Stance.TheVariants.{OfText}
use Rattle.replacements.proofs.Broken.{Leaves}
use Rattle.replacements.proofs.Following.{Here, next_here, FitsLast}
use Rattle.replacements.proofs.Leaving.{leaves_guard, keeps_line, new_lines-any, OutPlace, out_place, from_start}
use Rattle.replacements.proofs.OutPlaces.{next_out, gap_out, not_first, text_parts, first_white, first_marked, marks}
use Rattle.replacements.proofs.SoundGaps.{IsGap, pieces_hash, no_hash_line, text_out, gap_free, last_free, empty_free}
use Rattle.replacements.proofs.Standing.{next_place}
use Rattle.replacements.proofs.Spelled.{has_mark, no_mark, marked}
use Rattle.replacements.proofs.TextLines.{StandSo, stance_as, inside_at, leads_hash, items_stand}

-- Its gaps, and the last one.
abbrev pub planned_gaps : Style → Bool → Contents → List Section → List (Option Slot) → Guard → ℕ → ℕ → List Stored → List (List ℕ)
planned_gaps style crlf arena sections plan g at place [] = []
planned_gaps style crlf arena sections plan g at place (t ∷ ts) =
    planned_gap style crlf arena g at place (stance_in sections place) (decision_at plan place) t ts ∷ planned_gaps style crlf arena sections plan (guard_of t) (behind t) (place + 1) ts

abbrev pub planned_end : Style → Bool → Contents → List (Option Slot) → Guard → ℕ → ℕ → List Stored → List ℕ
planned_end style crlf arena plan g at place [] = guarded_text style crlf g (decision_at plan place) (drop at arena.text)
planned_end style crlf arena plan g at place (t ∷ ts) = planned_end style crlf arena plan (guard_of t) (behind t) (place + 1) ts

planned_regapped : (style : Style) (crlf : Bool) (arena : Contents) (sections : List Section) (plan : List (Option Slot)) (g : Guard) (at place from : ℕ) (first : Bool) (items : List ReadItem) →
    written_from style crlf arena sections plan g at place (stored_from arena.text first from items)
    ≡ regapped_text (planned_gaps style crlf arena sections plan g at place (stored_from arena.text first from items)) items arena.text (planned_end style crlf arena plan g at place (stored_from arena.text first from items))
planned_regapped style crlf arena sections plan g at place from first [] = refl
planned_regapped style crlf arena sections plan g at place from first (i ∷ items) =
    let t = stored_of arena.text first from i in
    let ts = stored_from arena.text false (end_of i) items in
    ap (λ (x : List ℕ). planned_gap style crlf arena g at place (stance_in sections place) (decision_at plan place) t ts ++ (raw_of arena.text i ++ x))
    (planned_regapped style crlf arena sections plan (guard_of t) (behind t) (place + 1) (end_of i) false items)

-- What may stand at each place, an item after the other.

abbrev pub AreSound : Dialect → List Section → List (Option Slot) → ℕ → Place → Stance → Stored → List Stored → Type 0
AreSound d sections plan place stood before left [] = MayEnd (decision_at plan place)
AreSound d sections plan place stood before left (t ∷ ts) =
    MayPart d stood before left (stance_in sections place) t (decision_at plan place) × AreSound d sections plan (place + 1) (stands_at (behind_item d stood left) t) (stance_in sections place) t ts

old_stands : (d : Dialect) (stood : Place) (before : Stance) (left : Option Stored) (stance : Stance) (here : Option Stored) → MayStandBetween d stood before left stance here Old
old_stands d stood before left stance None = tt
old_stands d stood before None stance (Some t) = tt
old_stands d stood before (Some l) stance (Some t) = tt

stands_at_all : (arena : Contents) (plan : List (Option Slot)) → IsSound arena plan → (place : ℕ) → MayStand arena place (decision_at plan place)
stands_at_all arena plan sound place = by (slot_of plan place) refl
  where
    by : (o : Option Slot) → slot_of plan place ≡ o → MayStand arena place (decision_of o)
    by None e = old_stands arena.dialect _ _ _ _ _
    by (Some slot) e = sound place slot e

next_stands : (arena : Contents) (plan : List (Option Slot)) → ((place : ℕ) → MayStand arena place (decision_at plan place)) → (place : ℕ) (left : Stored) (o : Option Stored) → slice_get arena.tokens place ≡ Some left →
    slice_get arena.tokens (place + 1 + 0) ≡ o → MayStandBetween arena.dialect (place_in arena place) (stance_in (sections_of arena) place) (Some left) (stance_in (sections_of arena) (place + 1)) o (decision_at plan (place + 1))
next_stands arena plan all place left o here there =
    let d = arena.dialect in
    let stood = place_in arena place in
    let sections = sections_of arena in
    let none_more : place + 1 ≡ place + 1 + 0 = omega arith in
    let next : MayStandBetween d stood (stance_in sections place) (slice_get arena.tokens place) (stance_in sections (place + 1)) (slice_get arena.tokens (place + 1)) (decision_at plan (place + 1)) =
    subst (λ n. MayStandBetween d stood (stance_in sections place) (slice_get arena.tokens place) (stance_in sections n) (slice_get arena.tokens n) (decision_at plan n)) (sym (add-one place)) (all (suc place)) in
    subst (λ o. MayStandBetween d stood (stance_in sections place) (Some left) (stance_in sections (place + 1)) o (decision_at plan (place + 1))) (ap (λ n. slice_get arena.tokens n) none_more ∙ there)
    (subst (λ l. MayStandBetween d stood (stance_in sections place) l (stance_in sections (place + 1)) (slice_get arena.tokens (place + 1)) (decision_at plan (place + 1))) here next)

sound_from : (arena : Contents) (plan : List (Option Slot)) → ((place : ℕ) → MayStand arena place (decision_at plan place)) → (place : ℕ) (left : Stored) (ts : List Stored) → slice_get arena.tokens place ≡ Some left →
    ((k : ℕ) → slice_get arena.tokens (place + 1 + k) ≡ slice_get ts k) → AreSound arena.dialect (sections_of arena) plan (place + 1) (place_in arena place) (stance_in (sections_of arena) place) left ts
sound_from arena plan all place left [] here rest = next_stands arena plan all place left None here (rest 0)
sound_from arena plan all place left (t ∷ ts) here rest =
    let none_more : place + 1 ≡ place + 1 + 0 = omega arith in
    let there : slice_get arena.tokens (place + 1) ≡ Some t = ap (λ n. slice_get arena.tokens n) none_more ∙ rest 0 in
    let more : AreSound arena.dialect (sections_of arena) plan (place + 1 + 1) (place_in arena (place + 1)) (stance_in (sections_of arena) (place + 1)) t ts = sound_from arena plan all (place + 1) t ts there
    (λ k. let far : place + 1 + 1 + k ≡ place + 1 + suc k = omega arith in ap (λ n. slice_get arena.tokens n) far ∙ rest (suc k)) in
    let stood : place_in arena (place + 1) ≡ stands_at (behind_item arena.dialect (place_in arena place) left) t =
    ap (λ n. place_in arena n) (add-one place) ∙ next_place arena.dialect LineStart arena.tokens place left t here (ap (λ n. slice_get arena.tokens n) (sym (add-one place)) ∙ there) in (
      next_stands arena plan all place left (Some t) here (rest 0),
      subst (λ p. AreSound arena.dialect (sections_of arena) plan (place + 1 + 1) p (stance_in (sections_of arena) (place + 1)) t ts) stood more,
    )

-- The gaps behind an item.

not_true : (b : Bool) → b ≡ false → not b ≡ true
not_true b e = rw e refl

-- no `#` leads the line of an item that is in none
no_hash_leads : (d : Dialect) (inside : Bool) (t : Stored) (ts : List Stored) → inside_at d inside t ts ≡ false → hash_comes d (t ∷ ts) ≡ false → leads_hash d t ts ≡ false
no_hash_leads d inside t ts outside none = by t.gap.began refl
  where
    by : (b : Bool) → t.gap.began ≡ b → leads_hash d t ts ≡ false
    by true e = ap (λ b. if b then leads_hash d t ts else inside) (sym e) ∙ outside
    by false e = ap (λ b. not b && leads_hash d t ts) (sym e) ∙ none

-- what is shown of them
record FreesBehind (d : Dialect) (text : List ℕ) (stood place : Place) (left : ReadItem) (gaps : List (List ℕ)) (items : List ReadItem) (last : List LogicalChar) (end : List ℕ) : Type 0 where
  gaps_free : FreeBehind d text stood place left gaps items end
  end_fits : IsFitEnd (piece_of left ∷ map piece_of items) (bytes_of last) (read_alone d end)

behind_free : (style : Style) (crlf : Bool) (arena : Contents) (sections : List Section) (plan : List (Option Slot)) (place left_place : Place) (n : ℕ) (inside : Bool) (g : Guard) (at : ℕ) (first : Bool) (from : ℕ) (stance : Stance) (all before : List ReadItem) (left : ReadItem) (items : List ReadItem) (last : List LogicalChar) (old : List ℕ) →
    LexesText arena.dialect arena.text all last → all ≡ before ++ left ∷ items → Here arena.dialect arena.text left old items last →
    IsNext arena.dialect left_place left.kind (bytes_of left.chars) (written (map piece_of items) (bytes_of last)) → Reads arena.dialect place (map piece_of items) (bytes_of last) →
    Leaves left g → at ≡ end_of left → (n == 0) ≡ false →
    StandSo arena.dialect (stance_in sections) n inside (stored_from arena.text false (end_of left) items) →
    (inside ≡ false → OutPlace arena.dialect place (stored_from arena.text false (end_of left) items)) →
    stance ≡ stance_as inside (stored_of arena.text first from left) →
    past_item arena.dialect left_place left.kind (bytes_of left.chars) ≡ place →
    AreSound arena.dialect sections plan n left_place stance (stored_of arena.text first from left) (stored_from arena.text false (end_of left) items) →
    FreesBehind arena.dialect arena.text left_place place left (planned_gaps style crlf arena sections plan g at n (stored_from arena.text false (end_of left) items)) items last (planned_end style crlf arena plan g at n (stored_from arena.text false (end_of left) items))
behind_free style crlf arena sections plan place left_place n inside g at first from stance all before left [] last old lexes whole here next reads leaves at_is later stand out stance_is place_is sound =
    let there : drop at arena.text ≡ old = ap (λ m. drop m arena.text) at_is ∙ here.there in
    let fits : FitsLast arena.dialect left last (guarded_text style crlf g (decision_at plan n) (drop at arena.text)) =
    subst (λ z. FitsLast arena.dialect left last (guarded_text style crlf g (decision_at plan n) z)) (sym there) (last_free style crlf arena.dialect arena.text g left old last (decision_at plan n) here leaves reads sound) in
    record { gaps_free = fits.guarded; end_fits = fits.fits }
behind_free style crlf arena sections plan place left_place n inside g at first from stance all before left (i ∷ items) last old lexes whole here next reads leaves at_is later stand out stance_is place_is sound =
    let d = arena.dialect in
    let text = arena.text in
    let l = stored_of text first from left in
    let t = stored_of text false (end_of left) i in
    let ts = stored_from text false (end_of i) items in
    let now = inside_at d inside t ts in
    let decision = decision_at plan n in
    let here_next = next_here d text (end_of left) old i items last here.there here.chars_are here.parts reads.0 in
    let k : IsGap d text left_place place stance left i items g now = record {
      leaves = leaves;
      left_spelled = here.reads.spelling;
      item_spelled = here_next.reads.spelling;
      place_is = place_is;
      kept = kept_bytes_fit d text before items left i last place (subst (λ z. LexesText d text z last) whole lexes);
      line = λ none. keeps_line d left_place (past_gap place (bytes_of i.gap)) left.kind i.kind (bytes_of left.chars) (bytes_of i.chars) (bytes_of i.gap) _ (written (map piece_of items) (bytes_of last)) refl next reads.1 none;
      out = λ outside lines. gap_out d text place inside left i ts out outside lines;
      there = λ of_text. out_place d place (t ∷ ts) (out (text_out inside l (sym stance_is ∙ of_text)));
      no_hash = λ outside none. no_hash_line d text false (end_of left) i items here_next.reads.spelling (pieces_hash d text (end_of i) here.parts.1 items here.parts.9)
          ∙ not_true (leads_hash d t ts) (no_hash_leads d inside t ts outside none);
    } in
    let leads : behind_item d left_place l ≡ place = ap (λ z. past_item d left_place left.kind z) here.reads.spelling ∙ place_is in
    let stood_next : stands_at (behind_item d left_place l) t ≡ past_gap place (bytes_of i.gap) = ap (λ p. stands_at p t) leads ∙ ap (λ b. if b then LineStart else place) (new_lines-any i.gap) in
    let may : MayPart d left_place stance l (stance_as now t) t decision = subst (λ s. MayPart d left_place stance l s t decision) stand.0 sound.0 in
    let free = gap_free style crlf d text left_place place stance left i items g now first from decision k may in
    let stands : AreFreeBytes d text left_place place left i items (planned_gap style crlf arena g (end_of left) n (stance_in sections n) decision t ts) =
    subst (λ s. AreFreeBytes d text left_place place left i items (planned_gap style crlf arena g (end_of left) n s decision t ts)) (sym stand.0)
    (subst (λ b. AreFreeBytes d text left_place place left i items
    (if is_old decision then bytes_between text (end_of left) (start_of i)
    else (if b then first_gap text t
    else (if is_of_text (stance_as now t) && hash_comes d (t ∷ ts) then 32 ∷ [] else guarded_text style crlf g decision [])))) (sym later) free) in
    let one : AreFreeBytes d text left_place place left i items (planned_gap style crlf arena g at n (stance_in sections n) decision t ts) =
    subst (λ m. AreFreeBytes d text left_place place left i items (planned_gap style crlf arena g m n (stance_in sections n) decision t ts)) (sym at_is) stands in
    let rest = behind_free style crlf arena sections plan (past_item d (past_gap place (bytes_of i.gap)) i.kind (bytes_of i.chars)) (past_gap place (bytes_of i.gap)) (n + 1) now (guard_of t) (behind t) false (end_of left) (stance_in sections n)
    all (before ++ left ∷ []) i items last here.parts.1
    lexes (whole ∙ sym (append_assoc before (left ∷ []) (i ∷ items))) here_next reads.1 reads.2
    (leaves_guard d text false (end_of left) i here_next.reads) (sym here.parts.8) (not_first n) stand.1
    (next_out d text place inside left i ts here_next.reads.spelling out) stand.0 refl (subst (λ p. AreSound d sections plan (n + 1) p (stance_in sections n) t ts) stood_next sound.1) in
    record { gaps_free = (one, rest.gaps_free); end_fits = record { white = rest.end_fits.white; line = rest.end_fits.line } }

-- The first gap.

first_kept : (d : Dialect) (text : List ℕ) (n : ℕ) (old : List ℕ) (i : ReadItem) (items : List ReadItem) → drop n text ≡ old → (parts : AreParted d text n old (i ∷ items)) → bytes_between text n (start_of i) ≡ parts.0
first_kept d text n old i items there parts =
    let long : start_of i - n ≡ length parts.0 = let a = parts.3 in omega (arith, a) in
    ap (λ m. take m (drop n text)) long
    ∙ (ap (λ z. take (length parts.0) z) (there ∙ parts.2)
    ∙ (take-append-le (length parts.0) parts.0 (raw_of text i ++ parts.1) (omega arith) ∙ take_all (length parts.0) parts.0 (omega arith)))

-- it is white space
first_free : (style : Style) (crlf : Bool) (arena : Contents) (g : Guard) (stance : Stance) (decision : Decision) (n : ℕ) (old : List ℕ) (i : ReadItem) (items : List ReadItem) (ts : List Stored) → drop n arena.text ≡ old →
    (parts : AreParted arena.dialect arena.text n old (i ∷ items)) → is_gap (bytes_of i.gap) ≡ true →
    is_gap (read_alone arena.dialect (planned_gap style crlf arena g n 0 stance decision (stored_of arena.text true n i) ts)) ≡ true
first_free style crlf arena g stance decision n old i items ts there parts white = by (is_old decision)
  where
    by : (b : Bool) → is_gap (read_alone arena.dialect (if b then bytes_between arena.text n (start_of i) else first_gap arena.text (stored_of arena.text true n i))) ≡ true
    by true = ap (λ z. is_gap (read_alone arena.dialect z)) (first_kept arena.dialect arena.text n old i items there parts) ∙ (ap is_gap parts.6 ∙ white)
    by false = first_white arena.dialect arena.text (stored_of arena.text true n i)

marked_text : (rest : List ℕ) → mark_len (239 ∷ 187 ∷ 191 ∷ rest) ≡ 0 → ⊥
marked_text rest e = omega (arith, e)

-- behind none the first item begins with no byte order mark
first_no_mark : (style : Style) (crlf : Bool) (arena : Contents) (g : Guard) (stance : Stance) (decision : Decision) (old : List ℕ) (i : ReadItem) (items : List ReadItem) (ts : List Stored) → mark_len arena.text ≡ 0 → drop (mark_len arena.text) arena.text ≡ old →
    (parts : AreParted arena.dialect arena.text (mark_len arena.text) old (i ∷ items)) →
    planned_gap style crlf arena g (mark_len arena.text) 0 stance decision (stored_of arena.text true (mark_len arena.text) i) ts ≡ [] → mark_len (raw_of arena.text i) ≡ 0
first_no_mark style crlf arena g stance decision old i items ts none there parts = by (is_old decision)
  where
    n : ℕ
    n = mark_len arena.text

    begins : bytes_between arena.text (mark_len arena.text) (start_of i) ≡ [] → arena.text ≡ raw_of arena.text i ++ parts.1
    begins e =
        let gap : parts.0 ≡ [] = sym (first_kept arena.dialect arena.text (mark_len arena.text) old i items there parts) ∙ e in
        ap (λ m. drop m arena.text) (sym none) ∙ (there ∙ (parts.2 ∙ ap (λ (z : List ℕ). z ++ (raw_of arena.text i ++ parts.1)) gap))

    by : (b : Bool) → (if b then bytes_between arena.text (mark_len arena.text) (start_of i) else first_gap arena.text (stored_of arena.text true (mark_len arena.text) i)) ≡ [] → mark_len (raw_of arena.text i) ≡ 0
    by true e = elim (marked (raw_of arena.text i)) [
      | no_mark is ↦ is
      | has_mark rest is ↦
          let whole : arena.text ≡ 239 ∷ 187 ∷ 191 ∷ (rest ++ parts.1) = begins e ∙ ap (λ (z : List ℕ). z ++ parts.1) is in
          absurd (marked_text (rest ++ parts.1) (ap mark_len (sym whole) ∙ none))
    ]
    by false e = first_marked arena.text (stored_of arena.text true (mark_len arena.text) i) none e

-- The gaps of a whole text.
record FreesText (d : Dialect) (text : List ℕ) (gaps : List (List ℕ)) (items : List ReadItem) (last : List LogicalChar) (end : List ℕ) : Type 0 where
  gaps_free : FreeText d text gaps items end
  end_fits : IsFitEnd (map piece_of items) (bytes_of last) (read_alone d end)
  begins : mark_len text ≡ 0 → BeginsNoMark text gaps items

text_free : (style : Style) (crlf : Bool) (arena : Contents) (plan : List (Option Slot)) (items : List ReadItem) (last : List LogicalChar) → LexesText arena.dialect arena.text items last → arena.tokens ≡ stored_items arena.text items →
    ((place : ℕ) → MayStand arena place (decision_at plan place)) →
    FreesText arena.dialect arena.text (planned_gaps style crlf arena (sections_of arena) plan guard.Free (mark_len arena.text) 0 (stored_items arena.text items)) items last (planned_end style crlf arena plan guard.Free (mark_len arena.text) 0 (stored_items arena.text items))
text_free style crlf arena plan [] last lexes tokens_are all =
    let d = arena.dialect in
    let n = mark_len arena.text in
    let old = drop n arena.text in
    let reads : read_alone d old ≡ bytes_of last = sym (read_at d n old) ∙ ap bytes_of lexes.whole in
    let none : slice_get arena.tokens 0 ≡ None = ap (λ z. slice_get z 0) tokens_are in
    let may : MayEnd (decision_at plan 0) = subst (λ o. MayStandBetween d LineStart OfText None (stance_in (sections_of arena) 0) o (decision_at plan 0)) none (all 0) in
    record {
      gaps_free = tt;
      end_fits = record { white = empty_free style crlf d old (decision_at plan 0) (ap is_gap reads ∙ lexes.reads) may; line = refl };
      begins = λ e. tt;
    }
text_free style crlf arena plan (i ∷ items) last lexes tokens_are all =
    let d = arena.dialect in
    let text = arena.text in
    let n = mark_len text in
    let old = drop n text in
    let sections = sections_of arena in
    let t = stored_of text true n i in
    let ts = stored_from text false (end_of i) items in
    let parts : AreParted d text n old (i ∷ items) = text_parts d text (i ∷ items) last lexes in
    let here = next_here d text n old i items last refl lexes.whole parts lexes.reads.0 in
    let is : sections ≡ sections_from d 0 (lines_of (t ∷ ts)) = ap (λ z. sections_from d 0 (lines_of z)) tokens_are in
    let stand : StandSo d (stance_in sections) 0 false (t ∷ ts) = subst (λ z. StandSo d (stance_in z) 0 false (t ∷ ts)) (sym is) (items_stand d t ts refl) in
    let start : past_gap LineStart (bytes_of i.gap) ≡ LineStart = first_place (bytes_of i.gap) in
    let next = subst (λ z. IsNext d z i.kind (bytes_of i.chars) (written (map piece_of items) (bytes_of last))) start lexes.reads.1 in
    let reads : Reads d (past_item d LineStart i.kind (bytes_of i.chars)) (map piece_of items) (bytes_of last) = subst (λ z. Reads d (past_item d z i.kind (bytes_of i.chars)) (map piece_of items) (bytes_of last)) start lexes.reads.2 in
    let at_start : place_in arena 0 ≡ LineStart = ap (λ z. place_from d LineStart z 0) tokens_are in
    let token : slice_get arena.tokens 0 ≡ Some t = ap (λ z. slice_get z 0) tokens_are in
    let sound = sound_from arena plan all 0 t ts token (λ k. let far : 0 + 1 + k ≡ suc k = omega arith in ap (λ z. slice_get z (0 + 1 + k)) tokens_are ∙ ap (λ m. slice_get (t ∷ ts) m) far) in
    let rest = behind_free style crlf arena sections plan (past_item d LineStart i.kind (bytes_of i.chars)) LineStart (0 + 1) (leads_hash d t ts) (guard_of t) (behind t) true n (stance_in sections 0)
    (i ∷ items) [] i items last parts.1
    lexes refl here next reads (leaves_guard d text true n i here.reads) (sym parts.8) (not_first 0) stand.1
    (λ outside. subst (λ z. OutPlace d (past_item d LineStart i.kind z) ts) here.reads.spelling (from_start d t ts outside)) stand.0
    refl (subst (λ p. AreSound d sections plan (0 + 1) p (stance_in sections 0) t ts) at_start sound) in
    record {
      gaps_free = (first_free style crlf arena guard.Free (stance_in sections 0) (decision_at plan 0) n old i items ts refl parts lexes.reads.0, rest.gaps_free);
      end_fits = rest.end_fits;
      begins = λ none. first_no_mark style crlf arena guard.Free (stance_in sections 0) (decision_at plan 0) old i items ts none refl parts;
    }

-- The law.
pub sound_twin : SoundPlansAreTwins
unfolding written_plan
sound_twin style crlf arena plan holds sound =
    let d = arena.dialect in
    let text = arena.text in
    let n = mark_len text in
    let sections = sections_of arena in
    let tokens = stored_items text holds.items in
    let gaps = planned_gaps style crlf arena sections plan guard.Free n 0 tokens in
    let end = planned_end style crlf arena plan guard.Free n 0 tokens in
    let free = text_free style crlf arena plan holds.items holds.last holds.lexes holds.tokens (stands_at_all arena plan sound) in
    let shape : mark_bytes n ++ written_from style crlf arena sections plan guard.Free n 0 arena.tokens ≡ take n text ++ regapped_text gaps holds.items text end =
    ap (λ z. z ++ written_from style crlf arena sections plan guard.Free n 0 arena.tokens) (marks text)
    ∙ (ap (λ z. take n text ++ written_from style crlf arena sections plan guard.Free n 0 z) holds.tokens
    ∙ ap (λ z. take n text ++ z) (planned_regapped style crlf arena sections plan guard.Free n 0 n true holds.items)) in
    subst (λ z. IsTwin d text z) (sym shape)
    (rewrites_free_gaps d text holds.items holds.last gaps end holds.lexes free.gaps_free free.end_fits
    (λ none. keeps_marks_away d text holds.items holds.last gaps end holds.lexes free.gaps_free free.end_fits.white (free.begins none)))
