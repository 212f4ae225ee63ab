-- From single steps to all items of a text, and that there is one list of them.
use Rattle.std.proofs.Common.{◌≡◌, ℕ, List, [], ◌∷◌, ◌++◌, map, refl, sym, ◌∙◌, ap, subst}
use Rattle.std.specs.Prelude.{IsTrue}
use Rattle.c_chars.specs.Characters.{bytes_of, logical}
use Rattle.c_chars.specs.declared.Dialect.{Dialect}
use Rattle.c_chars.specs.declared.LogicalChar.{LogicalChar}
use Rattle.item_kinds.specs.declared.ItemKind.{ItemKind}
use Rattle.c_grammar.specs.Items.{LineStart, past_gap, is_gap, IsNext, Reads, written}
use Rattle.c_grammar.specs.Text.{ReadItem, piece_of, characters_of, LexesText, Left, IsStep, ReadsUpTo, IsReadUpTo}
use Rattle.c_grammar.proofs.Unique.{reads_same}

pub begun : (d : Dialect) (text : List ℕ) → IsReadUpTo d text [] (record { place = LineStart; chars = logical d text })
begun d text = record { steps = refl }

one_more : (d : Dialect) (from old new : Left) (items : List ReadItem) (item : ReadItem) → ReadsUpTo d from items old → IsStep d old new item → ReadsUpTo d from (items ++ item ∷ []) new
one_more d from old new [] item h step = (new, subst (λ z. IsStep d z new item) (sym h) step, refl)
one_more d from old new (i ∷ items) item h step = (h.0, h.1, one_more d h.0 old new items item h.2 step)

pub stepped : (d : Dialect) (text : List ℕ) (items : List ReadItem) (old new : Left) (item : ReadItem) → IsReadUpTo d text items old → IsStep d old new item → IsReadUpTo d text (items ++ item ∷ []) new
stepped d text items old new item h step = record { steps = one_more d (record { place = LineStart; chars = logical d text }) old new items item h.steps step }

pub bytes_append : (s t : List LogicalChar) → bytes_of (s ++ t) ≡ bytes_of s ++ bytes_of t
bytes_append [] t = refl
bytes_append (c ∷ s) t = ap (λ z. c.byte ∷ z) (bytes_append s t)

-- the characters of the items are what is written of them
pub characters_written : (items : List ReadItem) (last : List LogicalChar) → bytes_of (characters_of items last) ≡ written (map piece_of items) (bytes_of last)
characters_written [] last = refl
characters_written (i ∷ items) last =
    bytes_append i.gap (i.chars ++ characters_of items last)
    ∙ ap (λ z. bytes_of i.gap ++ z) (bytes_append i.chars (characters_of items last) ∙ ap (λ z. bytes_of i.chars ++ z) (characters_written items last))

-- the characters read and what is left are those from the start
whole_of : (d : Dialect) (from left : Left) (items : List ReadItem) → ReadsUpTo d from items left → from.chars ≡ characters_of items left.chars
whole_of d from left [] h = ap (λ z. z.chars) h
whole_of d from left (i ∷ items) h =
    let step = h.1 in
    step.whole ∙ ap (λ z. i.gap ++ (i.chars ++ z)) (whole_of d h.0 left items h.2)

reads_of : (d : Dialect) (from left : Left) (items : List ReadItem) → ReadsUpTo d from items left → IsTrue (is_gap (bytes_of left.chars)) → Reads d from.place (map piece_of items) (bytes_of left.chars)
reads_of d from left [] h w = w
reads_of d from left (i ∷ items) h w =
    let new : Left = h.0 in
    let step : IsStep d from new i = h.1 in
    let rest = reads_of d new left items h.2 w in
    let written_so : bytes_of new.chars ≡ written (map piece_of items) (bytes_of left.chars) = ap bytes_of (whole_of d new left items h.2) ∙ characters_written items left.chars in
    let next : IsNext d (past_gap from.place (bytes_of i.gap)) i.kind (bytes_of i.chars) (written (map piece_of items) (bytes_of left.chars)) =
    subst (λ z. IsNext d (past_gap from.place (bytes_of i.gap)) i.kind (bytes_of i.chars) z) written_so step.next in
    (step.white, next, subst (λ z. Reads d z (map piece_of items) (bytes_of left.chars)) step.place rest)

pub ended : (d : Dialect) (text : List ℕ) (items : List ReadItem) (left : Left) → IsReadUpTo d text items left → IsTrue (is_gap (bytes_of left.chars)) → LexesText d text items left.chars
ended d text items left h w =
    let start : Left = record { place = LineStart; chars = logical d text } in
    record { whole = whole_of d start left items h.steps; reads = reads_of d start left items h.steps w }

-- One cut of the same characters, where the bytes before it are the same.
same_cut : (s t u v : List LogicalChar) → s ++ t ≡ u ++ v → bytes_of s ≡ bytes_of u → (s ≡ u) × (t ≡ v)
same_cut [] t [] v e b = (refl, e)
same_cut [] t (c ∷ u) v e b = cc
same_cut (c ∷ s) t [] v e b = cc
same_cut (c ∷ s) t (f ∷ u) v e b =
    let heads : c ≡ f = cc in
    let tails : s ++ t ≡ u ++ v = cc in
    let bytes : bytes_of s ≡ bytes_of u = cc in
    let more = same_cut s t u v tails bytes in
    let fronts = more.0 in
    (cc, more.1)

item_is : (i j : ReadItem) → i.kind ≡ j.kind → i.gap ≡ j.gap → i.chars ≡ j.chars → i ≡ j
item_is i j k g c = made (i.kind) (j.kind) (i.gap) (j.gap) (i.chars) (j.chars) k g c
  where
    made : (k l : ItemKind) (g h c e : List LogicalChar) → k ≡ l → g ≡ h → c ≡ e → ◌≡◌ {A = ReadItem} (record { kind = k; gap = g; chars = c }) (record { kind = l; gap = h; chars = e })
    made k l g h c e p q r = cc

same_pieces : (items others : List ReadItem) (last end : List LogicalChar) → characters_of items last ≡ characters_of others end → map piece_of items ≡ map piece_of others → (items ≡ others) × (last ≡ end)
same_pieces [] [] last end e m = (refl, e)
same_pieces [] (j ∷ others) last end e m = cc
same_pieces (i ∷ items) [] last end e m = cc
same_pieces (i ∷ items) (j ∷ others) last end e m =
    let piece : piece_of i ≡ piece_of j = cc in
    let pieces : map piece_of items ≡ map piece_of others = cc in
    let kinds : i.kind ≡ j.kind = ap (λ p. p.kind) piece in
    let gaps = same_cut i.gap (i.chars ++ characters_of items last) j.gap (j.chars ++ characters_of others end) e (ap (λ p. p.gap) piece) in
    let chars = same_cut i.chars (characters_of items last) j.chars (characters_of others end) gaps.1 (ap (λ p. p.spelling) piece) in
    let more = same_pieces items others last end chars.1 pieces in
    let head : i ≡ j = item_is i j kinds gaps.0 chars.0 in
    let tail = more.0 in
    (cc, more.1)

-- a text has one list of items
pub one_list : (d : Dialect) (text : List ℕ) (items others : List ReadItem) (last end : List LogicalChar) → LexesText d text items last → LexesText d text others end → (items ≡ others) × (last ≡ end)
one_list d text items others last end g h =
    let whole : characters_of items last ≡ characters_of others end = sym g.whole ∙ h.whole in
    let bytes : written (map piece_of items) (bytes_of last) ≡ written (map piece_of others) (bytes_of end) =
    sym (characters_written items last) ∙ (ap bytes_of whole ∙ characters_written others end) in
    let same = reads_same d LineStart (map piece_of items) (map piece_of others) (bytes_of last) (bytes_of end) g.reads h.reads bytes in
    same_pieces items others last end whole same.items_are
