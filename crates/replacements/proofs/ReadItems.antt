-- The items of a text as they are read, and what two of them that may touch are.
use Rattle.std.proofs.Common.{◌≡◌, ◌==◌, ◌&&◌, ℕ, Bool, true, false, List, [], ◌∷◌, map, refl, subst, inl, inr, ◌⊎◌}
use Rattle.std.specs.Prelude.{codes}
use Rattle.std.proofs.lemmas.Bool.{cases_Bool, and_right, or_parts}
use Rattle.c_chars.specs.Characters.{bytes_of}
use Rattle.c_chars.specs.declared.Dialect.{Dialect}
use Rattle.item_kinds.specs.declared.ItemKind.TheVariants.{HeaderName}
use Rattle.c_grammar.specs.Grammar.{is_same, is_of, Spells, Whole, IsHeaderName}
use Rattle.c_grammar.specs.Items.{Place, past_gap, past_item, Reads}
use Rattle.c_grammar.specs.Touch.{starts, ends, is_other_kind, takes_line, may_touch}
use Rattle.c_grammar.specs.Text.{ReadItem, piece_of, end_of, raw_of}
use Rattle.c_grammar.proofs.Items.{item_at}
use Rattle.c_grammar.proofs.Seam.{touch_parts}
use Rattle.c_grammar.proofs.ItemBytes.{ReadAs, AreParted}
use Rattle.touching.specs.Spelling.{spelling}
use Rattle.touching.proofs.Marks.{same_spelling}
use Rattle.touching.proofs.Questions.{query_is_alone}
use Rattle.replacements.proofs.Trigraphs.{StandTogether}

-- An item's bytes read as its characters, and its characters spell what it is.
pub record IsRead (d : Dialect) (text : List ℕ) (item : ReadItem) : Type 0 where
  pub reads : ReadAs d item.chars (raw_of text item)
  pub spells : ((item.kind ≡ HeaderName) × IsHeaderName (bytes_of item.chars)) ⊎ Spells d (Whole item.kind) (bytes_of item.chars)

-- so are all of these
abbrev pub AreRead : Dialect → List ℕ → List ReadItem → Type 0
AreRead d text [] = Unit {0}
AreRead d text (i ∷ items) = IsRead d text i × AreRead d text items

pub are_read : (d : Dialect) (text : List ℕ) (at : ℕ) (s : List ℕ) (place : Place) (items : List ReadItem) (last : List ℕ) → AreParted d text at s items → Reads d place (map piece_of items) last → AreRead d text items
are_read d text at s place [] last parts h = tt
are_read d text at s place (i ∷ items) last parts h = (
  record { reads = parts.4; spells = item_at d place [] (piece_of i) (map piece_of items) last h },
  are_read d text (end_of i) parts.1 (past_item d (past_gap place (bytes_of i.gap)) i.kind (bytes_of i.chars)) items last parts.9 h.2,
)

-- they may touch by their characters
pub touch_read : (d : Dialect) (text : List ℕ) (left item : ReadItem) → IsRead d text left → IsRead d text item →
    may_touch left.kind (spelling d (raw_of text left)) item.kind (spelling d (raw_of text item)) ≡ true → may_touch left.kind (bytes_of left.chars) item.kind (bytes_of item.chars) ≡ true
touch_read d text left item l r touch =
    let parts = touch_parts left.kind (spelling d (raw_of text left)) item.kind (spelling d (raw_of text item)) touch in
    let others = or_parts (is_other_kind left.kind) (is_other_kind item.kind) parts.others in
    let left_is = same_spelling d left (raw_of text left) l.reads l.spells others.0 in
    let item_is = same_spelling d item (raw_of text item) r.reads r.spells others.1 in
    subst (λ z. may_touch left.kind (bytes_of left.chars) item.kind z ≡ true) item_is (subst (λ z. may_touch left.kind z item.kind (spelling d (raw_of text item)) ≡ true) left_is touch)

-- and then they stand together
pub touch_together : (d : Dialect) (text : List ℕ) (left item : ReadItem) → IsRead d text left → may_touch left.kind (bytes_of left.chars) item.kind (bytes_of item.chars) ≡ true → StandTogether left item
touch_together d text left item l touch =
    let parts = touch_parts left.kind (bytes_of left.chars) item.kind (bytes_of item.chars) touch in
    let others = or_parts (is_other_kind left.kind) (is_other_kind item.kind) parts.others in
    record { trigraph = trigraph (cases_Bool (ends (λ c. c == 63) (bytes_of left.chars))) parts.line others.0 parts.trigraph; known = others.0 }
  where
    comes : Bool
    comes = starts (is_of (codes "?=(/)'<!>-")) (bytes_of item.chars)

    trigraph : (ends (λ c. c == 63) (bytes_of left.chars) ≡ true) ⊎ (ends (λ c. c == 63) (bytes_of left.chars) ≡ false) → takes_line left.kind ≡ false → is_other_kind left.kind ≡ false →
        (is_same (bytes_of left.chars) (codes "?") && comes) ≡ false → (ends (λ c. c == 63) (bytes_of left.chars) && comes) ≡ false
    trigraph (inr n) line other none = rw n refl
    trigraph (inl y) line other none =
        let alone = query_is_alone d left.kind (bytes_of left.chars) l.spells line other y in
        and_right (ends (λ c. c == 63) (bytes_of left.chars)) comes (subst (λ z. (z && comes) ≡ false) alone none)
