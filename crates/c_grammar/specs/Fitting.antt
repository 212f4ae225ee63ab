-- Which gaps may stand for others: in texts and in directives, behind items that take their line, and where nothing
-- stood.
use Rattle.std.specs.Prelude.{◌≡◌, ◌≢◌, ◌||◌, ◌&&◌, not, ℕ, Bool, true, false, List, [], ◌∷◌, ◌++◌, IsTrue, IsFalse, ⊤}
use Rattle.std.specs.List.{list_any}
use Rattle.c_grammar.specs.Grammar.{is_new_line, is_same}
use Rattle.c_grammar.specs.Items.{Place, LineStart, InText, past_gap, past_item, is_hash, Piece, Lexes, written, is_gap}
use Rattle.c_grammar.specs.Touch.{starts, is_punct, takes_line, regapped}
use Rattle.c_grammar.specs.Regapping.{IsSameItem}
use Rattle.item_kinds.specs.declared.ItemKind.{ItemKind}
use Rattle.item_kinds.specs.declared.ItemKind.TheVariants.{BlockComment, LineComment}
use Rattle.c_chars.specs.declared.Dialect.{Dialect}

-- the place is in a directive, behind its `#`
abbrev pub in_directive : Place → Bool
in_directive LineStart = false
in_directive InText = false
in_directive place = true

-- the place behind these items
abbrev pub place_behind : Dialect → Place → List Piece → Place
place_behind d place [] = place
place_behind d place (p ∷ ps) = place_behind d (past_item d (past_gap place p.gap) p.kind p.spelling) ps

-- In a text white space may come between two items with nothing between them, behind an item that doesn't take its
-- line: all items stay.
abbrev pub KeepsItemsApart : Type 0
KeepsItemsApart =
    (d : Dialect) (text : List ℕ) (before after : List Piece) (l r : Piece) (last gap : List ℕ) →
    Lexes d text (before ++ l ∷ r ∷ after) last →
    r.gap ≡ [] →
    IsTrue (is_gap gap) →
    IsFalse (list_any is_new_line gap) →
    IsFalse (takes_line l.kind) →
    IsFalse (in_directive (place_behind d LineStart (before ++ l ∷ []))) →
    Lexes d (written (before ++ l ∷ regapped gap r ∷ after) last) (before ++ l ∷ regapped gap r ∷ after) last

-- it is a comment
abbrev pub is_comment : ItemKind → Bool
is_comment BlockComment = true
is_comment LineComment = true
is_comment _ = false

-- No `#` stands next in the line, comments aside.
abbrev pub no_hash_comes : List Piece → Bool
no_hash_comes [] = true
no_hash_comes (p ∷ ps) =
    list_any is_new_line p.gap
    || (not (is_punct p.kind && is_hash p.spelling) && (not (is_comment p.kind) || no_hash_comes ps))

-- In a text another gap may stand before an item, with or without a new-line, whatever the old one was, behind an item
-- that doesn't take its line, where no `#` stands there, comments aside: all items stay.
abbrev pub KeepsItemsOverLines : Type 0
KeepsItemsOverLines =
    (d : Dialect) (text : List ℕ) (before after : List Piece) (l r : Piece) (last gap : List ℕ) →
    Lexes d text (before ++ l ∷ r ∷ after) last →
    IsTrue (is_gap gap) →
    gap ≢ [] →
    IsFalse (takes_line l.kind) →
    IsFalse (in_directive (place_behind d LineStart (before ++ l ∷ []))) →
    IsTrue (no_hash_comes (regapped [] r ∷ after)) →
    Lexes d (written (before ++ l ∷ regapped gap r ∷ after) last) (before ++ l ∷ regapped gap r ∷ after) last

-- Behind an item of this kind at this place the new gap may stand for the old one. It is a gap; it has a new-line where
-- the old one has, and only there; it isn't empty where the old one isn't; in a directive it is empty where the old one
-- is; behind an item that takes its line it begins with its new-line, or is the old one.
pub record IsFitGap (place : Place) (left : ItemKind) (old new : List ℕ) : Type 0 where
  pub white : IsTrue (is_gap new)
  pub lines : list_any is_new_line new ≡ list_any is_new_line old
  pub stays : IsTrue (is_same old [] || not (is_same new []))
  pub comes : IsTrue (not (is_same old []) || (is_same new [] || not (in_directive place)))
  pub line : IsTrue (not (takes_line left) || (starts is_new_line new || is_same new old))

-- the same items, each behind a gap that may stand for its own
abbrev pub HaveFitGaps : Dialect → Place → ItemKind → List Piece → List Piece → Type 0
HaveFitGaps d place left [] [] = ⊤
HaveFitGaps d place left (p ∷ ps) (q ∷ qs) =
    IsSameItem p q × IsFitGap place left p.gap q.gap
    × HaveFitGaps d (past_item d (past_gap place p.gap) p.kind p.spelling) p.kind ps qs
HaveFitGaps d place left [] (q ∷ qs) = ⊥
HaveFitGaps d place left (p ∷ ps) [] = ⊥

-- the same items, the first behind any gap, each other behind one that may stand for its own
abbrev pub AreFit : Dialect → List Piece → List Piece → Type 0
AreFit d [] [] = ⊤
AreFit d (p ∷ ps) (q ∷ qs) =
    IsSameItem p q × IsTrue (is_gap q.gap) × HaveFitGaps d (past_item d LineStart p.kind p.spelling) p.kind ps qs
AreFit d [] (q ∷ qs) = ⊥
AreFit d (p ∷ ps) [] = ⊥

-- the last item takes its line
abbrev pub last_takes_line : List Piece → Bool
last_takes_line [] = false
last_takes_line (p ∷ []) = takes_line p.kind
last_takes_line (p ∷ q ∷ ps) = last_takes_line (q ∷ ps)

-- The last gap: any gap, but behind an item that takes its line none, one that begins with its new-line, or the old
-- one.
pub record IsFitEnd (ps : List Piece) (old new : List ℕ) : Type 0 where
  pub white : IsTrue (is_gap new)
  pub line : IsTrue (not (last_takes_line ps) || (is_same new [] || (starts is_new_line new || is_same new old)))

-- Gaps that may stand for the old ones leave all items.
abbrev pub KeepsItemsOverFitGaps : Type 0
KeepsItemsOverFitGaps =
    (d : Dialect) (text : List ℕ) (ps qs : List Piece) (last end : List ℕ) →
    Lexes d text ps last →
    AreFit d ps qs →
    IsFitEnd ps last end →
    Lexes d (written qs end) qs end
