-- What its stance says of an item, and where it stands.
use Rattle.std.proofs.Common.{◌≡◌, ◌∙◌, ℕ, zero, suc, ◌+◌, Bool, true, false, List, [], ◌∷◌, Some, refl, sym, ap, subst, arith, drop, slice_get}
use Rattle.std.specs.Prelude.{if◌then◌else◌}
use Rattle.c_chars.specs.Characters.{mark_len}
use Rattle.c_chars.specs.declared.Dialect.{Dialect}
use Rattle.c_grammar.specs.Items.{Place, LineStart}
use Rattle.c_grammar.specs.Text.{ReadItem, end_of, raw_of}
use Rattle.replacements.proofs.ReadItems.{IsRead, AreRead, are_read}
use Rattle.token_arena.specs.Stored.{Stored, stored_of, stored_from, stored_items}
use Rattle.token_arena.specs.Gaps.{Contents}
use Rattle.token_arena.specs.Holds.{HoldsItems}
use Rattle.token_arena.specs.Sections.{sections_of, sections_from, lines_of}
use Rattle.replacements.specs.Places.{stands_at, behind_item, place_from}
use Rattle.replacements.specs.Stances.{stance_in}
use Rattle.replacements.specs.declared.stance.Stance.{Stance}
use Rattle.replacements.specs.declared.stance.Stance.TheVariants.{OfText, Leads, Within}
use Rattle.replacements.proofs.OutPlaces.{text_parts}
use Rattle.replacements.proofs.TextLines.{StandSo, stance_as, inside_at, leads_hash, items_stand}

-- ## Places

-- where an item stands whose left neighbour stands there
pub next_place : (d : Dialect) (p : Place) (tokens : List Stored) (place : ℕ) (left t : Stored) → slice_get tokens place ≡ Some left → slice_get tokens (suc place) ≡ Some t →
    place_from d p tokens (suc place) ≡ stands_at (behind_item d (place_from d p tokens place) left) t
next_place d p [] place left t here there = cc
next_place d p (x ∷ []) zero left t here there = cc
next_place d p (x ∷ y ∷ tokens) zero left t here there =
    let same : x ≡ left = cc in
    let next : y ≡ t = cc in
    ap (λ z. stands_at (behind_item d (stands_at p x) z) y) same ∙ ap (λ z. stands_at (behind_item d (stands_at p x) left) z) next
next_place d p (x ∷ tokens) (suc place) left t here there = next_place d (behind_item d (stands_at p x) x) tokens place left t here there

-- an item that begins a line stands at its start
pub line_place : (d : Dialect) (p : Place) (tokens : List Stored) (place : ℕ) (t : Stored) → slice_get tokens place ≡ Some t → t.gap.began ≡ true → place_from d p tokens place ≡ LineStart
line_place d p [] place t is began = cc
line_place d p (x ∷ tokens) zero t is began = let same : x ≡ t = cc in ap (λ (z : Stored). stands_at p z) same ∙ ap (λ b. if b then LineStart else p) began
line_place d p (x ∷ tokens) (suc place) t is began = line_place d (behind_item d (stands_at p x) x) tokens place t is began

-- one that doesn't stands where the item before it leads
pub same_line : (d : Dialect) (p : Place) (tokens : List Stored) (place : ℕ) (left t : Stored) → slice_get tokens place ≡ Some left → slice_get tokens (suc place) ≡ Some t → t.gap.began ≡ false →
    place_from d p tokens (suc place) ≡ behind_item d (place_from d p tokens place) left
same_line d p tokens place left t here there began =
    next_place d p tokens place left t here there ∙ ap (λ b. if b then LineStart else behind_item d (place_from d p tokens place) left) began

-- ## Stances

stand_at : (d : Dialect) (stand : ℕ → Stance) (p : ℕ) (inside : Bool) (tokens : List Stored) (k : ℕ) (t : Stored) → StandSo d stand p inside tokens → slice_get tokens k ≡ Some t →
    (now : Bool) × (stand (p + k) ≡ stance_as (inside_at d now t (drop (suc k) tokens)) t)
stand_at d stand p inside [] k t so is = cc
stand_at d stand p inside (x ∷ ts) zero t so is =
    let same : x ≡ t = cc in
    let at : p + 0 ≡ p = omega arith in
    (inside, ap stand at ∙ (so.0 ∙ ap (λ z. stance_as (inside_at d inside z ts) z) same))
stand_at d stand p inside (x ∷ ts) (suc k) t so is =
    let rest = stand_at d stand (p + 1) (inside_at d inside x ts) ts k t so.1 is in
    let at : p + suc k ≡ p + 1 + k = omega arith in
    (rest.0, ap stand at ∙ rest.1)

text_stands : (arena : Contents) → HoldsItems arena → StandSo arena.dialect (stance_in (sections_of arena)) 0 false arena.tokens
text_stands arena holds = by holds.items holds.tokens
  where
    by : (items : List ReadItem) → arena.tokens ≡ stored_items arena.text items → StandSo arena.dialect (stance_in (sections_of arena)) 0 false arena.tokens
    by [] is = subst (λ z. StandSo arena.dialect (stance_in (sections_of arena)) 0 false z) (sym is) tt
    by (i ∷ items) is =
        let t = stored_of arena.text true (mark_len arena.text) i in
        let ts = stored_from arena.text false (end_of i) items in
        subst (λ z. StandSo arena.dialect (stance_in (sections_from arena.dialect 0 (lines_of z))) 0 false z) (sym is) (items_stand arena.dialect t ts refl)

-- what its stance says of the item at a place
stance_says : (arena : Contents) (place : ℕ) (t : Stored) → HoldsItems arena → slice_get arena.tokens place ≡ Some t →
    (now : Bool) × (stance_in (sections_of arena) place ≡ stance_as (inside_at arena.dialect now t (drop (suc place) arena.tokens)) t)
stance_says arena place t holds is =
    let found = stand_at arena.dialect (stance_in (sections_of arena)) 0 false arena.tokens place t (text_stands arena holds) is in
    let at : place ≡ 0 + place = omega arith in
    (found.0, ap (stance_in (sections_of arena)) at ∙ found.1)

-- the first item of a directive begins its line, and a `#` leads it
pub leads_says : (arena : Contents) (place : ℕ) (t : Stored) → HoldsItems arena → slice_get arena.tokens place ≡ Some t → stance_in (sections_of arena) place ≡ Leads →
    (t.gap.began ≡ true) × (leads_hash arena.dialect t (drop (suc place) arena.tokens) ≡ true)
leads_says arena place t holds is stance =
    let says = stance_says arena place t holds is in
    by says.0 t.gap.began refl (leads_hash arena.dialect t (drop (suc place) arena.tokens)) refl (sym says.1 ∙ stance)
  where
    by : (now b : Bool) → t.gap.began ≡ b → (l : Bool) → leads_hash arena.dialect t (drop (suc place) arena.tokens) ≡ l → stance_as (inside_at arena.dialect now t (drop (suc place) arena.tokens)) t ≡ Leads →
        (t.gap.began ≡ true) × (leads_hash arena.dialect t (drop (suc place) arena.tokens) ≡ true)
    by now true e true f h = (e, f)
    by now true e false f h = absurd (no (sym (ap (λ b. if (if b then leads_hash arena.dialect t (drop (suc place) arena.tokens) else now) then (if b then Leads else Within) else OfText) e ∙ ap (λ l. if l then Leads else OfText) f) ∙ h))
      where
        no : OfText ≡ Leads → ⊥
        no h = cc
    by now false e l f h = absurd (no now (sym (ap (λ b. if (if b then leads_hash arena.dialect t (drop (suc place) arena.tokens) else now) then (if b then Leads else Within) else OfText) e) ∙ h))
      where
        no : (b : Bool) → (if b then Within else OfText) ≡ Leads → ⊥
        no true h = cc
        no false h = cc

-- another item of a directive stands on the line of the one before it
pub within_says : (arena : Contents) (place : ℕ) (t : Stored) → HoldsItems arena → slice_get arena.tokens place ≡ Some t → stance_in (sections_of arena) place ≡ Within → t.gap.began ≡ false
within_says arena place t holds is stance =
    let says = stance_says arena place t holds is in
    by (inside_at arena.dialect says.0 t (drop (suc place) arena.tokens)) t.gap.began refl (sym says.1 ∙ stance)
  where
    by : (now b : Bool) → t.gap.began ≡ b → stance_as now t ≡ Within → t.gap.began ≡ false
    by now false e h = e
    by now true e h = absurd (no now (sym (ap (λ b. if now then (if b then Leads else Within) else OfText) e) ∙ h))
      where
        no : (b : Bool) → (if b then Leads else OfText) ≡ Within → ⊥
        no true h = cc
        no false h = cc

-- ## Spelling

-- the item that is kept at a place, as it is read
pub record IsReadThere (arena : Contents) (t : Stored) : Type 0 where
  pub item : ReadItem
  pub read : IsRead arena.dialect arena.text item
  pub kind : t.kind ≡ item.kind
  pub raw : t.raw ≡ raw_of arena.text item

read_from : (arena : Contents) (first : Bool) (from : ℕ) (items : List ReadItem) (place : ℕ) (t : Stored) → AreRead arena.dialect arena.text items → slice_get (stored_from arena.text first from items) place ≡ Some t → IsReadThere arena t
read_from arena first from [] place t all is = cc
read_from arena first from (i ∷ items) zero t all is =
    let same : stored_of arena.text first from i ≡ t = cc in
    record { item = i; read = all.0; kind = ap (λ (z : Stored). z.kind) (sym same); raw = ap (λ (z : Stored). z.raw) (sym same) }
read_from arena first from (i ∷ items) (suc place) t all is = read_from arena false (end_of i) items place t all.1 is

pub read_there : (arena : Contents) (place : ℕ) (t : Stored) → HoldsItems arena → slice_get arena.tokens place ≡ Some t → IsReadThere arena t
read_there arena place t holds is =
    let all = are_read arena.dialect arena.text (mark_len arena.text) (drop (mark_len arena.text) arena.text) LineStart holds.items _ (text_parts arena.dialect arena.text holds.items holds.last holds.lexes) holds.lexes.reads in
    read_from arena true (mark_len arena.text) holds.items place t all (ap (λ z. slice_get z place) (sym holds.tokens) ∙ is)
