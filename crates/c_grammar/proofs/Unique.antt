-- A text has one list of items.
use Rattle.std.proofs.Common.{◌≡◌, ◌==◌, ◌||◌, ◌&&◌, not, ℕ, Bool, true, false, List, [], ◌∷◌, ◌++◌, refl, sym, ◌∙◌, subst, arith, inl, inr, append_assoc}
use Rattle.std.specs.List.{list_all}
use Rattle.std.proofs.lemmas.Bool.{and_parts, or_cases, and_left, eqb-true, eq-eqb, both_ways, or_from, ne_eqb, not_from_true}
use Rattle.std.proofs.lemmas.List.{append-nil}
use Rattle.c_grammar.specs.Grammar.{is_letter, is_digit, is_white, is_new_line, is_other, Shape, Whole, Unended, Spells, IsHeaderName}
use Rattle.c_grammar.specs.Items.{IsLongest, Place, LineStart, is_gap, past_gap, past_item, IsNext, Piece, written, Reads, Lexes}
use Rattle.c_grammar.specs.Touch.{starts, HasOneList}
use Rattle.c_chars.specs.declared.Dialect.{Dialect}
use Rattle.item_kinds.specs.declared.ItemKind.{ItemKind}
use Rattle.item_kinds.specs.declared.ItemKind.TheVariants.{Identifier, Number, CharConst, StringLit, Punct, HeaderName, StrayQuote, Other, BlockComment, LineComment}
use Rattle.c_grammar.proofs.Lists.{SameCut, two_cuts}
use Rattle.c_grammar.proofs.Firsts.{begins, can_begin, is_quote, is_letter_start, is_number_start, is_mark}
use Rattle.c_grammar.proofs.Classes.{none_of}
use Rattle.c_grammar.proofs.Sorts.{one_kind}

-- two lists of what passes, each before what doesn't
pub same_span : (p : ℕ → Bool) (a x b y : List ℕ) → list_all p a ≡ true → list_all p b ≡ true → starts p x ≡ false → starts p y ≡ false → a ++ x ≡ b ++ y → SameCut a x b y
same_span p [] x [] y ha hb hx hy e = record { front_is = refl; rest_is = e }
same_span p [] x (c ∷ b) y ha hb hx hy e =
    let f : p c ≡ false = rw e at hx in absurd (both_ways (p c) f (and_parts (p c) (list_all p b) hb).0)
same_span p (c ∷ a) x [] y ha hb hx hy e =
    let f : p c ≡ false = rw (← e) at hy in absurd (both_ways (p c) f (and_parts (p c) (list_all p a) ha).0)
same_span p (c ∷ a) x (d ∷ b) y ha hb hx hy e =
    let heads : c ≡ d = cc in
    let tails : a ++ x ≡ b ++ y = cc in
    let s = same_span p a x b y (and_parts (p c) (list_all p a) ha).1 (and_parts (p d) (list_all p b) hb).1 hx hy tails in
    let f = s.front_is in
    record { front_is = cc; rest_is = s.rest_is }

-- Gaps

abbrev pub is_blank : ℕ → Bool
is_blank c = is_white c || is_new_line c

not_blank : (p : ℕ → Bool) → list_all (λ x. not (p x)) (9 ∷ 11 ∷ 12 ∷ 13 ∷ 32 ∷ []) ≡ true → p 10 ≡ false → (c : ℕ) → p c ≡ true → is_blank c ≡ false
unfolding is_white is_new_line
not_blank p w n c h =
    or_from (is_white c) (is_new_line c) (none_of p (9 ∷ 11 ∷ 12 ∷ 13 ∷ 32 ∷ []) w c h)
    (ne_eqb c 10 (λ e. both_ways (p 10) n (subst (λ x. p x ≡ true) e h)))

letter_not_blank : (c : ℕ) → is_letter c ≡ true → is_blank c ≡ false
unfolding is_letter
letter_not_blank c h = not_blank is_letter refl refl c h

prefix_not_blank : (q c : ℕ) → is_blank q ≡ false → (is_letter c || c == q) ≡ true → is_blank c ≡ false
prefix_not_blank q c n h = elim (or_cases (is_letter c) (c == q) h) [
  | inl e ↦ letter_not_blank c e
  | inr e ↦ let is : c ≡ q = eqb-true c q e in rw is n
]

pub item_not_blank : (d : Dialect) (k : Shape) (c : ℕ) → can_begin d k c ≡ true → is_blank c ≡ false
unfolding is_letter_start is_letter is_number_start is_digit is_mark is_quote is_other is_white is_new_line
item_not_blank d (Whole Identifier) c h = not_blank is_letter_start refl refl c h
item_not_blank d (Whole Number) c h = not_blank is_number_start refl refl c h
item_not_blank d (Whole CharConst) c h = prefix_not_blank 39 c refl h
item_not_blank d (Whole StringLit) c h = prefix_not_blank 34 c refl h
item_not_blank d (Whole Punct) c h = not_blank is_mark refl refl c h
item_not_blank d (Whole HeaderName) c h = cc
item_not_blank d (Whole StrayQuote) c h = not_blank is_quote refl refl c h
item_not_blank d (Whole Other) c h = not_blank (is_other d) refl refl c h
item_not_blank d (Whole BlockComment) c h = let is : c ≡ 47 = eqb-true c 47 h in rw is refl
item_not_blank d (Whole LineComment) c h = let is : c ≡ 47 = eqb-true c 47 h in rw is refl
item_not_blank d Unended c h = let is : c ≡ 47 = eqb-true c 47 h in rw is refl

header_begins : (s t : List ℕ) → IsHeaderName s → starts is_blank (s ++ t) ≡ false
unfolding is_white is_new_line
header_begins s t h = let w = h.whole in rw w (elim h.ends [ inl e ↦ let f = e.0 in rw f refl | inr e ↦ let f = e.0 in rw f refl ])

pub spelled_begins : (d : Dialect) (k : Shape) (s t : List ℕ) → Spells d k s → starts is_blank (s ++ t) ≡ false
spelled_begins d k s t h = let b = begins d k s h in let w = b.whole in rw w (item_not_blank d k b.c b.passes)

pub next_begins : (d : Dialect) (place : Place) (kind : ItemKind) (s t : List ℕ) → IsNext d place kind s t → starts is_blank (s ++ t) ≡ false
next_begins d place kind s t (inl h) = header_begins s t h.2
next_begins d place kind s t (inr h) = spelled_begins d (Whole kind) s t h.1.spells

-- Header names

-- the last character is that which the first one asks for
header_ends : (s t : List ℕ) → (g : IsHeaderName s) → (h : IsHeaderName t) → g.first ≡ h.first → g.last ≡ h.last
header_ends s t g h e = elim g.ends [
  | inl a ↦ elim h.ends [ inl b ↦ cc | inr b ↦ let f : 60 ≡ 34 = sym a.0 ∙ (e ∙ b.0) in absurd (omega (arith, f)) ]
  | inr a ↦ elim h.ends [ inl b ↦ let f : 34 ≡ 60 = sym a.0 ∙ (e ∙ b.0) in absurd (omega (arith, f)) | inr b ↦ cc ]
]

stops_at : (l : ℕ) (r : List ℕ) → starts (λ c. not (c == l) && not (is_new_line c)) (l ∷ r) ≡ false
stops_at l r = and_left (not (l == l)) (not (is_new_line l)) (not_from_true (l == l) (eq-eqb l l refl))

pub one_header : (s x t y : List ℕ) → IsHeaderName s → IsHeaderName t → s ++ x ≡ t ++ y → SameCut s x t y
one_header s x t y g h e =
    let gw = g.whole in let hw = h.whole in
    let both : g.first ∷ ((g.body ++ g.last ∷ []) ++ x) ≡ h.first ∷ ((h.body ++ h.last ∷ []) ++ y) = rw (gw, hw) at e in
    let firsts : g.first ≡ h.first = cc in
    let lasts = header_ends s t g h firsts in
    let rests : (g.body ++ g.last ∷ []) ++ x ≡ (h.body ++ h.last ∷ []) ++ y = cc in
    let same : g.body ++ (g.last ∷ x) ≡ h.body ++ (h.last ∷ y) = sym (append_assoc g.body (g.last ∷ []) x) ∙ (rests ∙ append_assoc h.body (h.last ∷ []) y) in
    let inside : list_all (λ c. not (c == g.last) && not (is_new_line c)) h.body ≡ true = subst (λ l. list_all (λ c. not (c == l) && not (is_new_line c)) h.body ≡ true) (sym lasts) h.inside in
    let stop : starts (λ c. not (c == g.last) && not (is_new_line c)) (h.last ∷ y) ≡ false = subst (λ l. starts (λ c. not (c == g.last) && not (is_new_line c)) (l ∷ y) ≡ false) lasts (stops_at g.last y) in
    let cut = same_span (λ c. not (c == g.last) && not (is_new_line c)) g.body (g.last ∷ x) h.body (h.last ∷ y) g.inside inside (stops_at g.last x) stop same in
    let bodies = cut.front_is in
    let ends : x ≡ y = let r = cut.rest_is in cc in
    let spelled : g.first ∷ (g.body ++ g.last ∷ []) ≡ h.first ∷ (h.body ++ h.last ∷ []) = rw (firsts, bodies, lasts) refl in
    record { front_is = gw ∙ (spelled ∙ sym hw); rest_is = ends }

-- The next item

pub record SameNext (j : ItemKind) (s x : List ℕ) (k : ItemKind) (t y : List ℕ) : Type 0 where
  pub kind_is : j ≡ k
  pub spelling_is : s ≡ t
  pub rest_is : x ≡ y

whole_is : (j k : ItemKind) → Whole j ≡ Whole k → j ≡ k
whole_is j k e = cc

longest_same : (d : Dialect) (j k : ItemKind) (s x t y : List ℕ) → IsLongest d (Whole j) s x → IsLongest d (Whole k) t y → s ++ x ≡ t ++ y → SameNext j s x k t y
longest_same d j k s x t y g h e = elim (two_cuts s x t y e) [
  | inl same ↦
      let f = same.front_is in
      let r = same.rest_is in
      record { kind_is = whole_is j k (one_kind d (Whole j) (Whole k) t (subst (λ z. Spells d (Whole j) z) f g.spells) h.spells); spelling_is = f; rest_is = r }
  | inr more ↦ elim more [
    | inl on ↦ absurd (g.longest (Whole k) on.c on.more y on.rest_is (subst (λ z. Spells d (Whole k) z) on.front_is h.spells))
    | inr on ↦ absurd (h.longest (Whole j) on.c on.more x on.rest_is (subst (λ z. Spells d (Whole j) z) on.front_is g.spells))
  ]
]

pub next_same : (d : Dialect) (place : Place) (j k : ItemKind) (s x t y : List ℕ) → IsNext d place j s x → IsNext d place k t y → s ++ x ≡ t ++ y → SameNext j s x k t y
next_same d place j k s x t y (inl g) (inl h) e =
    let cut = one_header s x t y g.2 h.2 e in
    let a = g.1 in let b = h.1 in
    record { kind_is = cc; spelling_is = cut.front_is; rest_is = cut.rest_is }
next_same d place j k s x t y (inl g) (inr h) e = absurd (h.0 g.0 (record { name = s; left = x; is_name = g.2; whole = sym e }))
next_same d place j k s x t y (inr g) (inl h) e = absurd (g.0 h.0 (record { name = t; left = y; is_name = h.2; whole = e }))
next_same d place j k s x t y (inr g) (inr h) e = longest_same d j k s x t y g.1 h.1 e

-- All items

pub record SameItems (ps qs : List Piece) (last end : List ℕ) : Type 0 where
  pub items_are : ps ≡ qs
  pub last_is : last ≡ end

pub next_not_empty : (d : Dialect) (place : Place) (kind : ItemKind) (s t : List ℕ) → IsNext d place kind s t → s ++ t ≡ [] → ⊥
next_not_empty d place kind s t (inl h) e = let w = h.2.whole in let f : h.2.first ∷ ((h.2.body ++ h.2.last ∷ []) ++ t) ≡ [] = rw w at e in cc
next_not_empty d place kind s t (inr h) e = let b = begins d (Whole kind) s h.1.spells in let w = b.whole in let f : b.c ∷ (b.rest ++ t) ≡ [] = rw w at e in cc

abbrev piece : List ℕ → ItemKind → List ℕ → Piece
piece g k s = record { gap = g; kind = k; spelling = s }

piece_is : (p q : Piece) → p.gap ≡ q.gap → p.kind ≡ q.kind → p.spelling ≡ q.spelling → p ≡ q
piece_is p q a b c = let same : piece p.gap p.kind p.spelling ≡ piece q.gap q.kind q.spelling = cc in same

gap_before : (g h x : List ℕ) → is_gap g ≡ true → is_gap h ≡ true → starts is_blank x ≡ false → g ≡ h ++ x → SameCut g [] h x
gap_before g h x a b n e = same_span is_blank g [] h x a b refl n (append-nil g ∙ e)

pub reads_same : (d : Dialect) (place : Place) (ps qs : List Piece) (last end : List ℕ) → Reads d place ps last → Reads d place qs end → written ps last ≡ written qs end → SameItems ps qs last end
reads_same d place [] [] last end g h e = record { items_are = refl; last_is = e }
reads_same d place [] (q ∷ qs) last end g h e =
    let begins_so = next_begins d (past_gap place q.gap) q.kind q.spelling (written qs end) h.1 in
    let cut = gap_before last q.gap (q.spelling ++ written qs end) g h.0 begins_so e in
    absurd (next_not_empty d (past_gap place q.gap) q.kind q.spelling (written qs end) h.1 (sym cut.rest_is))
reads_same d place (p ∷ ps) [] last end g h e =
    let begins_so = next_begins d (past_gap place p.gap) p.kind p.spelling (written ps last) g.1 in
    let cut = gap_before end p.gap (p.spelling ++ written ps last) h g.0 begins_so (sym e) in
    absurd (next_not_empty d (past_gap place p.gap) p.kind p.spelling (written ps last) g.1 (sym cut.rest_is))
reads_same d place (p ∷ ps) (q ∷ qs) last end g h e =
    let p_begins = next_begins d (past_gap place p.gap) p.kind p.spelling (written ps last) g.1 in
    let q_begins = next_begins d (past_gap place q.gap) q.kind q.spelling (written qs end) h.1 in
    let cut = same_span is_blank p.gap (p.spelling ++ written ps last) q.gap (q.spelling ++ written qs end) g.0 h.0 p_begins q_begins e in
    let gaps = cut.front_is in
    let next : IsNext d (past_gap place q.gap) p.kind p.spelling (written ps last) = subst (λ z. IsNext d (past_gap place z) p.kind p.spelling (written ps last)) gaps g.1 in
    let same = next_same d (past_gap place q.gap) p.kind q.kind p.spelling (written ps last) q.spelling (written qs end) next h.1 cut.rest_is in
    let kinds = same.kind_is in
    let spellings = same.spelling_is in
    let places : past_item d (past_gap place p.gap) p.kind p.spelling ≡ past_item d (past_gap place q.gap) q.kind q.spelling = rw (gaps, kinds, spellings) refl in
    let more : Reads d (past_item d (past_gap place q.gap) q.kind q.spelling) ps last = subst (λ z. Reads d z ps last) places g.2 in
    let rest = reads_same d (past_item d (past_gap place q.gap) q.kind q.spelling) ps qs last end more h.2 same.rest_is in
    let tails = rest.items_are in
    let heads : p ≡ q = piece_is p q gaps kinds spellings in
    record { items_are = cc; last_is = rest.last_is }

-- a text has one list of items
pub lexes_once : (d : Dialect) (text : List ℕ) (ps qs : List Piece) (last end : List ℕ) → Lexes d text ps last → Lexes d text qs end → SameItems ps qs last end
lexes_once d text ps qs last end g h = reads_same d LineStart ps qs last end g.reads h.reads (sym g.whole ∙ h.whole)

pub has_one_list : HasOneList
has_one_list d text ps qs last end g h = let s = lexes_once d text ps qs last end g h in (s.items_are, s.last_is)
