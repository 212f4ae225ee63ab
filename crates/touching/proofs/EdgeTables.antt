-- The tables of edges tell what the edges are.
use Rattle.std.proofs.Common.{◌≡◌, ◌==◌, ◌<◌, ◌≤◌, ◌∙◌, ◌∷◌, [], ℕ, ◌+◌, Bool, true, false, Option, None, List, refl, sym, ap, get_or, length, map, nat_lt, arith}
use Rattle.std.specs.Prelude.{if◌then◌else◌}
use Rattle.std.specs.List.{range_with_len}
use Rattle.std.proofs.lemmas.Bool.{lt-ltb}
use Rattle.std.proofs.lemmas.List.{get_or-map}
use Rattle.std.proofs.lemmas.List.FromFn.{get_or-range_with_len, length-range_with_len}
use Rattle.item_kinds.specs.declared.ItemKind.{ItemKind}
use Rattle.item_kinds.specs.declared.ItemKind.TheVariants.{Identifier, Number as NumberKind, CharConst, StringLit, Punct, HeaderName, StrayQuote, Other as OtherKind, BlockComment, LineComment}
use Rattle.touching.specs.declared.edge.Edge.{Edge}
use Rattle.touching.specs.declared.edge.Edge.TheVariants.{Name, Number, Quiet, Operator, Text, Comment, Ending, Point, Unknown}
use Rattle.touching.specs.declared.edge.First.{First}
use Rattle.touching.specs.declared.edge.First.TheVariants.{Letter, Digit, QuietMark, Mark, Slash, Quote, Apostrophe, Other}
use Rattle.touching.specs.Edges.{known, edge_of, touch_of}
use Rattle.touching.specs.Inside.{kind_number, first_number, edge_number, first_of, edge_by, long_edge}

-- ## Bytes

abbrev bytes : List ℕ
bytes = range_with_len 0 256

byte_at : (b : ℕ) → b < 256 → get_or bytes b 0 ≡ b
byte_at b h =
    let same : 0 + b ≡ b = omega arith in
    get_or-range_with_len 0 256 b 0 h ∙ same

-- what is told of each byte
abbrev pub firsts_of : List First
firsts_of = map first_of bytes

pub first_told : (b : ℕ) → b < 256 → get_or firsts_of b Other ≡ first_of b
first_told b h =
    let len = length-range_with_len 0 256 in
    get_or-map first_of bytes b 0 Other (omega (arith, len, h)) ∙ ap first_of (byte_at b h)

edge_told : (p : ℕ → Edge) (b : ℕ) → b < 256 → get_or (map p bytes) b Unknown ≡ p b
edge_told p b h =
    let len = length-range_with_len 0 256 in
    get_or-map p bytes b 0 Unknown (omega (arith, len, h)) ∙ ap p (byte_at b h)

edges_agree : (p q : ℕ → Edge) → map p bytes ≡ map q bytes → (b : ℕ) → b < 256 → p b ≡ q b
edges_agree p q same b h = sym (edge_told p b h) ∙ (ap (λ es. get_or es b Unknown) same ∙ edge_told q b h)

-- ## Tables

abbrev kinds : List ItemKind
kinds = Identifier ∷ NumberKind ∷ CharConst ∷ StringLit ∷ Punct ∷ HeaderName ∷ StrayQuote ∷ OtherKind ∷ BlockComment ∷ LineComment ∷ []

abbrev firsts : List First
firsts = Letter ∷ Digit ∷ QuietMark ∷ Mark ∷ Slash ∷ Quote ∷ Apostrophe ∷ Other ∷ []

abbrev edges : List Edge
edges = Name ∷ Number ∷ Quiet ∷ Operator ∷ Text ∷ Comment ∷ Ending ∷ Point ∷ Unknown ∷ []

in_kinds : (p : ItemKind → List (List Edge)) (kind : ItemKind) → get_or (map p kinds) (kind_number kind) [] ≡ p kind
in_kinds p Identifier = refl
in_kinds p NumberKind = refl
in_kinds p CharConst = refl
in_kinds p StringLit = refl
in_kinds p Punct = refl
in_kinds p HeaderName = refl
in_kinds p StrayQuote = refl
in_kinds p OtherKind = refl
in_kinds p BlockComment = refl
in_kinds p LineComment = refl

in_lengths : (p : Bool → List Edge) (long : Bool) → get_or (map p (false ∷ true ∷ [])) (if long then 1 else 0) [] ≡ p long
in_lengths p false = refl
in_lengths p true = refl

in_firsts : (p : First → Edge) (first : First) → get_or (map p firsts) (first_number first) Name ≡ p first
in_firsts p Letter = refl
in_firsts p Digit = refl
in_firsts p QuietMark = refl
in_firsts p Mark = refl
in_firsts p Slash = refl
in_firsts p Quote = refl
in_firsts p Apostrophe = refl
in_firsts p Other = refl

in_lefts : (p : Edge → List (Option Bool)) (edge : Edge) → get_or (map p edges) (edge_number edge) [] ≡ p edge
in_lefts p Name = refl
in_lefts p Number = refl
in_lefts p Quiet = refl
in_lefts p Operator = refl
in_lefts p Text = refl
in_lefts p Comment = refl
in_lefts p Ending = refl
in_lefts p Point = refl
in_lefts p Unknown = refl

in_rights : (p : Edge → Option Bool) (edge : Edge) → get_or (map p edges) (edge_number edge) None ≡ p edge
in_rights p Name = refl
in_rights p Number = refl
in_rights p Quiet = refl
in_rights p Operator = refl
in_rights p Text = refl
in_rights p Comment = refl
in_rights p Ending = refl
in_rights p Point = refl
in_rights p Unknown = refl

abbrev by_first : ItemKind → Bool → List Edge
by_first kind long = map (edge_by kind long) firsts

abbrev by_length : ItemKind → List (List Edge)
by_length kind = map (by_first kind) (false ∷ true ∷ [])

pub kind_told : (kind : ItemKind) (long : Bool) (first : First)
    → get_or (get_or (get_or (map by_length kinds) (kind_number kind) []) (if long then 1 else 0) []) (first_number first) Name ≡ edge_by kind long first
kind_told kind long first =
    ap (λ rows. get_or (get_or rows (if long then 1 else 0) []) (first_number first) Name) (in_kinds by_length kind)
    ∙ (ap (λ row. get_or row (first_number first) Name) (in_lengths (by_first kind) long) ∙ in_firsts (edge_by kind long) first)

abbrev by_right : Edge → List (Option Bool)
by_right left = map (touch_of left) edges

pub touch_told : (left right : Edge) → get_or (get_or (map by_right edges) (edge_number left) []) (edge_number right) None ≡ touch_of left right
touch_told left right = ap (λ row. get_or row (edge_number right) None) (in_lefts by_right left) ∙ in_rights (touch_of left) right

-- ## Items

abbrev or_else : Edge → Edge → Edge
or_else Unknown edge = edge
or_else edge _ = edge

one_told : (kind : ItemKind) (b : ℕ) → b < 256 → or_else (edge_by kind false (first_of b)) (long_edge kind (b ∷ [])) ≡ edge_of kind (b ∷ [])
one_told Identifier b h = edges_agree (λ n. or_else (edge_by Identifier false (first_of n)) Unknown) (λ n. edge_of Identifier (n ∷ [])) refl b h
one_told NumberKind b h = edges_agree (λ n. or_else (edge_by NumberKind false (first_of n)) Unknown) (λ n. edge_of NumberKind (n ∷ [])) refl b h
one_told CharConst b h = edges_agree (λ n. or_else (edge_by CharConst false (first_of n)) Unknown) (λ n. edge_of CharConst (n ∷ [])) refl b h
one_told StringLit b h = edges_agree (λ n. or_else (edge_by StringLit false (first_of n)) Unknown) (λ n. edge_of StringLit (n ∷ [])) refl b h
one_told Punct b h = edges_agree (λ n. or_else (edge_by Punct false (first_of n)) (known Point (n == 46))) (λ n. edge_of Punct (n ∷ [])) refl b h
one_told BlockComment b h = edges_agree (λ n. or_else (edge_by BlockComment false (first_of n)) Unknown) (λ n. edge_of BlockComment (n ∷ [])) refl b h
one_told LineComment b h = edges_agree (λ n. or_else (edge_by LineComment false (first_of n)) Unknown) (λ n. edge_of LineComment (n ∷ [])) refl b h
one_told HeaderName b h = refl
one_told StrayQuote b h = refl
one_told OtherKind b h = refl

more_told : (kind : ItemKind) (b c : ℕ) (raw : List ℕ) → b < 256
    → or_else (edge_by kind true (first_of b)) (long_edge kind (b ∷ c ∷ raw)) ≡ edge_of kind (b ∷ c ∷ raw)
more_told Identifier b c raw h = edges_agree (λ n. or_else (edge_by Identifier true (first_of n)) Unknown) (λ n. edge_of Identifier (n ∷ [])) refl b h
more_told NumberKind b c raw h = edges_agree (λ n. or_else (edge_by NumberKind true (first_of n)) Unknown) (λ n. edge_of NumberKind (n ∷ [])) refl b h
more_told CharConst b c raw h = edges_agree (λ n. or_else (edge_by CharConst true (first_of n)) Unknown) (λ n. edge_of CharConst (n ∷ [])) refl b h
more_told StringLit b c raw h = edges_agree (λ n. or_else (edge_by StringLit true (first_of n)) Unknown) (λ n. edge_of StringLit (n ∷ [])) refl b h
more_told BlockComment b c raw h = edges_agree (λ n. or_else (edge_by BlockComment true (first_of n)) Unknown) (λ n. edge_of BlockComment (n ∷ [])) refl b h
more_told LineComment b c raw h = edges_agree (λ n. or_else (edge_by LineComment true (first_of n)) Unknown) (λ n. edge_of LineComment (n ∷ [])) refl b h
more_told Punct b c [] h = refl
more_told Punct b c (d ∷ raw) h = refl
more_told HeaderName b c raw h = refl
more_told StrayQuote b c raw h = refl
more_told OtherKind b c raw h = refl

item_told : (kind : ItemKind) (raw : List ℕ) → 1 ≤ length raw → get_or raw 0 0 < 256
    → or_else (edge_by kind (nat_lt 1 (length raw)) (first_of (get_or raw 0 0))) (long_edge kind raw) ≡ edge_of kind raw
item_told kind [] some h = absurd (omega (arith, some))
item_told kind (b ∷ []) some h = one_told kind b h
item_told kind (b ∷ c ∷ raw) some h =
    let long : nat_lt 1 (length (b ∷ c ∷ raw)) ≡ true = lt-ltb 1 (length (b ∷ c ∷ raw)) (omega arith) in
    ap (λ (is : Bool). or_else (edge_by kind is (first_of b)) (long_edge kind (b ∷ c ∷ raw))) long ∙ more_told kind b c raw h

-- where the first byte doesn't tell the edge
pub unknown_first : (kind : ItemKind) (raw : List ℕ) (edge : Edge) → 1 ≤ length raw → get_or raw 0 0 < 256
    → edge ≡ edge_by kind (nat_lt 1 (length raw)) (first_of (get_or raw 0 0)) → edge ≡ Unknown → long_edge kind raw ≡ edge_of kind raw
unknown_first kind raw edge some h by is = ap (λ e. or_else e (long_edge kind raw)) (sym is ∙ by) ∙ item_told kind raw some h

or_else_known : (edge behind : Edge) → (edge ≡ Unknown → ⊥) → edge ≡ or_else edge behind
or_else_known Unknown behind not = absurd (not refl)
or_else_known Name behind not = refl
or_else_known Number behind not = refl
or_else_known Quiet behind not = refl
or_else_known Operator behind not = refl
or_else_known Text behind not = refl
or_else_known Comment behind not = refl
or_else_known Ending behind not = refl
or_else_known Point behind not = refl

-- where it does
pub known_first : (kind : ItemKind) (raw : List ℕ) (edge : Edge) → 1 ≤ length raw → get_or raw 0 0 < 256
    → edge ≡ edge_by kind (nat_lt 1 (length raw)) (first_of (get_or raw 0 0)) → (edge ≡ Unknown → ⊥) → edge ≡ edge_of kind raw
known_first kind raw edge some h by not =
    or_else_known edge (long_edge kind raw) not ∙ (ap (λ e. or_else e (long_edge kind raw)) by ∙ item_told kind raw some h)
