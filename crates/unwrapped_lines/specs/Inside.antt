-- What the code's functions tell each other of a view. No contract of a public function cites it.
use Rattle.std.specs.Prelude.{◌≡◌, ◌<◌, ◌≤◌, ℕ, zero, suc, ◌+◌, nat_eq, nat_lt, true, false, Option, Some, None, List}
use Rattle.std.specs.Prelude.{Bool, ◌&&◌, [], ◌∷◌, ◌++◌, length, drop, get_or, slice_get, if◌then◌else◌}
use Rattle.token_arena.specs.Gaps.{Contents}
use Rattle.token_classes.specs.declared.class.TokenClass.{TokenClass}
use Rattle.token_classes.specs.declared.class.TokenClass.TheVariants.{Case, Colon, LineComment, BlockComment, Nothing}
use Rattle.token_classes.specs.Classes.{is_colon, is_comment}
use Rattle.statement_lines.specs.declared.token.CodeToken.{CodeToken}
use Rattle.statement_lines.specs.Tokens.{is_touched}
use Rattle.item_classes.specs.declared.part.Part.{Part}
use Rattle.item_classes.specs.declared.part.Part.TheVariants.{Token, Own, Trailing, Inner}
use Rattle.line_tokens.specs.declared.line.LineKind.TheVariants.{Comment}
use Rattle.statement_lines.specs.declared.line.Line.{Line}
use Rattle.unwrapped_lines.specs.declared.part.Begin.{Begin}
use Rattle.unwrapped_lines.specs.declared.part.Marks.{Marks}
use Rattle.unwrapped_lines.specs.declared.part.Run.{Run}
use Rattle.unwrapped_lines.specs.declared.part.Run.TheVariants.{Apart}
use Rattle.unwrapped_lines.specs.declared.part.ViewComment.{ViewComment}
use Rattle.line_tokens.specs.declared.line.ULine.{ULine}
use Rattle.statement_lines.specs.declared.braces.Braces.{Braces}
use Rattle.unwrapped_lines.specs.Comments.{Tree, begins_from, no_marks, begin_of, is_apart, is_own, own_level, run_of}
use Rattle.unwrapped_lines.specs.Lines.{lines_between}
use Rattle.statement_lines.specs.Tree.{lines_of, end_level}
use Rattle.unwrapped_lines.specs.Viewed.{colon_touches, numbers_of, parts_of}
use Rattle.item_classes.specs.Part.{part_of}

-- ## Tokens that are no comments

-- their classes
abbrev pub code_classes : List TokenClass → List TokenClass
code_classes [] = []
code_classes (c ∷ cs) = if is_comment c then code_classes cs else c ∷ code_classes cs

-- their partners
abbrev pub code_partners : List TokenClass → List (Option ℕ) → List (Option ℕ)
code_partners [] ps = []
code_partners (c ∷ cs) [] = []
code_partners (c ∷ cs) (p ∷ ps) = if is_comment c then code_partners cs ps else p ∷ code_partners cs ps

-- so many of these, from the first on, are no comments
abbrev pub AreCodeFirst : ℕ → List TokenClass → Type 0
AreCodeFirst zero cs = Unit {0}
AreCodeFirst (suc n) [] = Unit {0}
AreCodeFirst (suc n) (c ∷ cs) = (is_comment c ≡ false) × AreCodeFirst n cs

-- an item that is neither a comment nor a colon nor a `case`
abbrev pub is_usual : TokenClass → Bool
is_usual Case = false
is_usual Colon = false
is_usual LineComment = false
is_usual BlockComment = false
is_usual _ = true

-- these are their classes, their partners and how many of them stand before each place, where there are comments
pub record AreJoined (classes : List TokenClass) (partners : List (Option ℕ)) (comments : List ℕ)
    (kept : List TokenClass) (kept_partners : List (Option ℕ)) (numbers : List ℕ) : Type 0 where
  pub by_class : nat_eq (length comments) 0 ≡ false → kept ≡ code_classes classes
  pub by_partner : nat_eq (length comments) 0 ≡ false → kept_partners ≡ code_partners classes partners
  pub by_number : nat_eq (length comments) 0 ≡ false → numbers ≡ numbers_of classes

-- ## Comments

-- the comments of a view from a place on, before which so many stand
abbrev pub comments_from : Contents → List ℕ → ℕ → ℕ → List TokenClass → List ViewComment
comments_from arena ids k n [] = []
comments_from arena ids k n (c ∷ cs) =
    if is_comment c
    then record { place = k; part = part_of arena (get_or ids k 0) (nat_lt n k) c }
    ∷ comments_from arena ids (k + 1) (n + 1) cs
    else comments_from arena ids (k + 1) n cs

-- the places of comments, where the first class stands at this place
abbrev pub comment_places_from : ℕ → List TokenClass → List ℕ
comment_places_from k [] = []
comment_places_from k (c ∷ cs) =
    if is_comment c then k ∷ comment_places_from (k + 1) cs else comment_places_from (k + 1) cs

abbrev pub comment_place : ViewComment → ℕ
comment_place comment = comment.place

-- the comments of a view
abbrev pub comments_of : Contents → List ℕ → List TokenClass → List ViewComment
comments_of arena ids classes = comments_from arena ids 0 0 classes

-- these are the comments of a view that stand before a place
abbrev pub AreCommentsBefore : Contents → List ℕ → List TokenClass → ℕ → List ViewComment → Type 0
AreCommentsBefore arena ids classes k comments =
    comments ++ comments_from arena ids k (length comments) (drop k classes) ≡ comments_of arena ids classes

-- it is told of each of so many places whether a colon touches the item there
abbrev pub AreTouched : Contents → List ℕ → List TokenClass → ℕ → List Bool → Type 0
AreTouched arena ids classes k touched =
    (i : ℕ) → i < k → is_touched (slice_get touched i)
    ≡ (is_colon (get_or classes i Nothing) && colon_touches arena (get_or ids i 0))

-- what is noted of a view before a place: its comments, and what a colon touches
pub record AreNoted (arena : Contents) (ids : List ℕ) (classes : List TokenClass) (k : ℕ) (noted : List ViewComment)
    (told : List Bool) : Type 0 where
  pub comments : AreCommentsBefore arena ids classes k noted
  pub touched : AreTouched arena ids classes k told
  pub few : length told ≤ k
  pub fewer : length noted ≤ k

-- the parts of so many places from one on, where these comments follow
abbrev pub parts_with : ℕ → ℕ → List ViewComment → List Part
parts_with zero k comments = []
parts_with (suc n) k [] = Token ∷ parts_with n (k + 1) []
parts_with (suc n) k (c ∷ comments) =
    elim (nat_eq c.place k)
    [ true ↦ c.part ∷ parts_with n (k + 1) comments | false ↦ Token ∷ parts_with n (k + 1) (c ∷ comments) ]

-- the first of these comments stands at a place or behind it
abbrev pub FollowFrom : ℕ → List ViewComment → Type 0
FollowFrom k [] = Unit {0}
FollowFrom k (c ∷ comments) = k ≤ c.place

-- ## One place

-- the line that begins at a place, by whether one may and whether the part there begins the one that is next
abbrev pub begin_with : ℕ → Option Line → Bool → Bool → ℕ → Part → Option Begin
begin_with end_level next between begins k p =
    elim between [
      | false ↦ None
      | true ↦
          elim (is_own p) [
            | true ↦ Some (record { first = k; level = own_level end_level next; kind = Comment })
            | false ↦ elim begins [ true ↦ begin_of k next | false ↦ None ]
          ]
    ]

-- what inner comments are behind one of them
abbrev pub run_with : Bool → Bool → Run → Run
run_with between begins run = elim (between && is_apart run) [ true ↦ run_of begins | false ↦ run ]

-- how the lines stand behind it
abbrev pub marks_with : Bool → Bool → Part → Marks → Marks
marks_with between begins Token m =
    record { seen = m.seen + 1; begun = elim between [ true ↦ m.begun + 1 | false ↦ m.begun ]; run = Apart }
marks_with between begins Own m = record { seen = m.seen; begun = m.begun; run = Apart }
marks_with between begins Trailing m = record { seen = m.seen; begun = m.begun; run = Apart }
marks_with between begins Inner m =
    record { seen = m.seen; begun = m.begun; run = run_with between begins m.run }

-- ## Lines

-- the lines of these tokens, their number, and the level at their end
abbrev pub tree_with : Braces → List CodeToken → Tree
tree_with braces tokens =
    record { lines = lines_of braces tokens; total = length tokens; end_level = end_level braces tokens }

-- the lines of a view that has these classes and tokens
abbrev pub lines_with : Braces → Contents → List ℕ → List TokenClass → List CodeToken → List ULine
lines_with braces arena ids classes tokens =
    lines_between (length classes) (begins_from (tree_with braces tokens) (parts_of arena ids classes) 0 no_marks)
