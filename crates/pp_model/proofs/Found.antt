-- The items that are found in a text are those that it has.
use Rattle.std.proofs.Common.{◌≡◌, ◌≤◌, ℕ, zero, suc, arith, length, map, Bool, true, false, List, [], ◌∷◌, ◌++◌, Option, Some, None, option_map, option_and_then, refl, sym, ◌∙◌, ap, subst, inl, inr, length-append}
use Rattle.std.specs.Prelude.{IsFalse}
use Rattle.std.proofs.lemmas.Bool.{cases_Bool, and_from, and_parts}
use Rattle.std.proofs.lemmas.List.{append-nil}
use Rattle.c_chars.specs.Characters.{bytes_of, logical}
use Rattle.c_chars.specs.declared.Dialect.{Dialect}
use Rattle.c_chars.specs.declared.LogicalChar.{LogicalChar}
use Rattle.c_grammar.specs.Grammar.{IsHeaderName, Shape, Whole, Unended, Spells}
use Rattle.c_grammar.specs.Items.{IsLongest, Place, LineStart, AfterHash, AfterInclude, AfterDefine, AfterMacroName, InDirective, InText, is_gap, past_gap, past_item, BeginsHeader, IsNext, written, Reads}
use Rattle.c_grammar.specs.Text.{ReadItem, piece_of, characters_of, LexesText}
use Rattle.c_grammar.specs.Touch.{starts}
use Rattle.item_kinds.specs.declared.ItemKind.{ItemKind}
use Rattle.item_kinds.specs.declared.ItemKind.TheVariants.{HeaderName}
use Rattle.c_grammar.proofs.Reading.{bytes_append, characters_written}
use Rattle.c_grammar.proofs.Unique.{next_begins, next_not_empty, one_header}
use Rattle.pp_model.specs.Finding.{is_header_name, shape_of, is_comment, token_kind, Found, with_char, found_here, or_here, longest, header_shape, or_found, next_at, is_blank, gap_of, behind_gap, Items, with_item, item_found, no_items, found_behind, items_from, items_of, KindsAreFound, ItemsAreFound}
use Rattle.pp_model.proofs.Spells.{header_found, header_is, shape_found, shape_is, no_shape}

-- ## The longest front

longest_none : (f : List ℕ → Option Shape) (s : List LogicalChar) → ((m left : List LogicalChar) → s ≡ m ++ left → f (bytes_of m) ≡ None) → longest f s ≡ None
longest_none f [] h = ap (option_map (found_here [])) (h [] [] refl)
longest_none f (c ∷ s) h =
    ap (λ z. or_here c z (option_map (found_here (c ∷ s)) (f []))) (longest_none (λ a. f (c.byte ∷ a)) s (λ m left e. h (c ∷ m) left (ap (λ z. c ∷ z) e)))
    ∙ ap (option_map (found_here (c ∷ s))) (h [] (c ∷ s) refl)

longest_found : (f : List ℕ → Option Shape) (k : Shape) (a b : List LogicalChar) → f (bytes_of a) ≡ Some k → ((c : LogicalChar) (m left : List LogicalChar) → b ≡ (c ∷ m) ++ left → f (bytes_of a ++ bytes_of (c ∷ m)) ≡ None) → longest f (a ++ b) ≡ Some (record { shape = k; chars = a; rest = b })
longest_found f k [] [] h n = ap (option_map (found_here [])) h
longest_found f k [] (c ∷ b) h n =
    ap (λ z. or_here c z (option_map (found_here (c ∷ b)) (f []))) (longest_none (λ a. f (c.byte ∷ a)) b (λ m left e. n c m left (ap (λ z. c ∷ z) e)))
    ∙ ap (option_map (found_here (c ∷ b))) h
longest_found f k (c ∷ a) b h n =
    ap (λ z. or_here c z (option_map (found_here (c ∷ (a ++ b))) (f []))) (longest_found (λ x. f (c.byte ∷ x)) k a b h n)

none_here : (f : List ℕ → Option Shape) (c : LogicalChar) (s left : List LogicalChar) (further : (m : List LogicalChar) → longest (λ a. f (c.byte ∷ a)) s ≡ None → s ≡ m ++ left → f (c.byte ∷ bytes_of m) ≡ None)
    (o : Option Found) (p : Option Shape) → longest (λ a. f (c.byte ∷ a)) s ≡ o → f [] ≡ p → or_here c o (option_map (found_here (c ∷ s)) p) ≡ None → (m : List LogicalChar) → c ∷ s ≡ m ++ left → f (bytes_of m) ≡ None
none_here f c s left further (Some x) p q r h m e = cc
none_here f c s left further None (Some k) q r h m e = cc
none_here f c s left further None None q r h [] e = r
none_here f c s left further None None q r h (x ∷ m) e =
    let head : c ≡ x = cc in
    let tail : s ≡ m ++ left = cc in
    subst (λ z. f (z.byte ∷ bytes_of m) ≡ None) head (further m q tail)

none_at_end : (f : List ℕ → Option Shape) (o : Option Shape) → f [] ≡ o → option_map (found_here []) o ≡ None → f [] ≡ None
none_at_end f None e h = e
none_at_end f (Some k) e h = cc

none_longest : (f : List ℕ → Option Shape) (s m left : List LogicalChar) → longest f s ≡ None → s ≡ m ++ left → f (bytes_of m) ≡ None
none_longest f [] [] left h e = none_at_end f (f []) refl h
none_longest f [] (c ∷ m) left h e = cc
none_longest f (c ∷ s) m left h e =
    none_here f c s left (λ n q t. none_longest (λ a. f (c.byte ∷ a)) s n left q t) (longest (λ a. f (c.byte ∷ a)) s) (f []) refl refl h m e

record IsLongestFront (f : List ℕ → Option Shape) (s : List LogicalChar) (x : Found) : Type 0 where
  shape : f (bytes_of x.chars) ≡ Some x.shape
  whole : s ≡ x.chars ++ x.rest
  longer : (c : LogicalChar) (m left : List LogicalChar) → x.rest ≡ (c ∷ m) ++ left → f (bytes_of x.chars ++ bytes_of (c ∷ m)) ≡ None

found_is : (x y : Found) → Some x ≡ Some y → x ≡ y
found_is x y e = cc

gives_at_end : (f : List ℕ → Option Shape) (x : Found) (o : Option Shape) → f [] ≡ o → option_map (found_here []) o ≡ Some x → IsLongestFront f [] x
gives_at_end f x None e h = cc
gives_at_end f x (Some k) e h = subst (IsLongestFront f []) (found_is (found_here [] k) x h) (record { shape = e; whole = refl; longer = λ c m left w. cc })

gives_here : (f : List ℕ → Option Shape) (c : LogicalChar) (s : List LogicalChar) (x : Found) (further : (y : Found) → longest (λ a. f (c.byte ∷ a)) s ≡ Some y → IsLongestFront (λ a. f (c.byte ∷ a)) s y)
    (o : Option Found) (p : Option Shape) → longest (λ a. f (c.byte ∷ a)) s ≡ o → f [] ≡ p → or_here c o (option_map (found_here (c ∷ s)) p) ≡ Some x → IsLongestFront f (c ∷ s) x
gives_here f c s x further (Some y) p q r h =
    let i = further y q in
    subst (IsLongestFront f (c ∷ s)) (found_is (with_char c y) x h) (record { shape = i.shape; whole = ap (λ z. c ∷ z) i.whole; longer = i.longer })
gives_here f c s x further None None q r h = cc
gives_here f c s x further None (Some k) q r h =
    subst (IsLongestFront f (c ∷ s)) (found_is (found_here (c ∷ s) k) x h)
    (record { shape = r; whole = refl; longer = λ v m left w. longer v m left w })
  where
    longer : (v : LogicalChar) (m left : List LogicalChar) → c ∷ s ≡ (v ∷ m) ++ left → f (v.byte ∷ bytes_of m) ≡ None
    longer v m left w =
        let tail : s ≡ m ++ left = cc in
        let head : c ≡ v = cc in
        subst (λ z. f (z.byte ∷ bytes_of m) ≡ None) head (none_longest (λ a. f (c.byte ∷ a)) s m left q tail)

longest_gives : (f : List ℕ → Option Shape) (s : List LogicalChar) (x : Found) → longest f s ≡ Some x → IsLongestFront f s x
longest_gives f [] x h = gives_at_end f x (f []) refl h
longest_gives f (c ∷ s) x h =
    gives_here f c s x (λ y q. longest_gives (λ a. f (c.byte ∷ a)) s y q) (longest (λ a. f (c.byte ∷ a)) s) (f []) refl refl h

-- ## The next item

no_header : (s : List ℕ) → (IsHeaderName s → ⊥) → header_shape s ≡ None
no_header s h = elim (cases_Bool (is_header_name s)) [
  | inl e ↦ absurd (h (header_is s e))
  | inr e ↦ ap (λ z. elim z [ true ↦ Some (Whole HeaderName) | false ↦ None ]) e
]

header_shaped : (s : List ℕ) (k : Shape) → header_shape s ≡ Some k → IsHeaderName s × (k ≡ Whole HeaderName)
header_shaped s k e = by (is_header_name s) refl e
  where
    by : (b : Bool) → is_header_name s ≡ b → elim b [ true ↦ Some (Whole HeaderName) | false ↦ None ] ≡ Some k → IsHeaderName s × (k ≡ Whole HeaderName)
    by true h e = (header_is s h, cc)
    by false h e = cc

longest_is_found : (d : Dialect) (kind : ItemKind) (a b : List LogicalChar) → IsLongest d (Whole kind) (bytes_of a) (bytes_of b) → longest (shape_of d) (a ++ b) ≡ Some (record { shape = Whole kind; chars = a; rest = b })
longest_is_found d kind a b h =
    longest_found (shape_of d) (Whole kind) a b (shape_found d (Whole kind) (bytes_of a) h.spells)
    (λ c m left e. no_shape d (bytes_of a ++ bytes_of (c ∷ m)) (λ k spells. h.longest k c.byte (bytes_of m) (bytes_of left) (ap bytes_of e ∙ bytes_append (c ∷ m) left) spells))

header_is_found : (a b : List LogicalChar) → IsHeaderName (bytes_of a) → longest header_shape (a ++ b) ≡ Some (record { shape = Whole HeaderName; chars = a; rest = b })
header_is_found a b h =
    longest_found header_shape (Whole HeaderName) a b (ap (λ z. elim z [ true ↦ Some (Whole HeaderName) | false ↦ None ]) (header_found (bytes_of a) h))
    (λ c m left e. no_header (bytes_of a ++ bytes_of (c ∷ m)) (λ more.
    let cut = one_header (bytes_of a) (bytes_of (c ∷ m)) (bytes_of a ++ bytes_of (c ∷ m)) [] h more (sym (append-nil (bytes_of a ++ bytes_of (c ∷ m)))) in
    let nothing : c.byte ∷ bytes_of m ≡ [] = cut.rest_is in
    cc))

none_begins : (a b : List LogicalChar) → (BeginsHeader (bytes_of a ++ bytes_of b) → ⊥) → longest header_shape (a ++ b) ≡ None
none_begins a b h =
    longest_none header_shape (a ++ b) (λ m left e. no_header (bytes_of m) (λ name. h (record { name = bytes_of m; left = bytes_of left; is_name = name; whole = sym (bytes_append a b) ∙ (ap bytes_of e ∙ bytes_append m left) })))

next_found : (d : Dialect) (place : Place) (kind : ItemKind) (a b : List LogicalChar) → IsNext d place kind (bytes_of a) (bytes_of b) → next_at d place (a ++ b) ≡ Some (record { shape = Whole kind; chars = a; rest = b })
next_found d AfterInclude kind a b (inl h) =
    let header : kind ≡ HeaderName = h.1 in
    ap (λ z. or_found z (longest (shape_of d) (a ++ b))) (header_is_found a b h.2)
    ∙ ap (λ z. let x : Found = record { shape = Whole z; chars = a; rest = b } in Some x) (sym header)
next_found d AfterInclude kind a b (inr h) = ap (λ z. or_found z (longest (shape_of d) (a ++ b))) (none_begins a b (h.0 refl)) ∙ longest_is_found d kind a b h.1
next_found d LineStart kind a b (inl h) = let no = h.0 in cc
next_found d LineStart kind a b (inr h) = longest_is_found d kind a b h.1
next_found d AfterHash kind a b (inl h) = let no = h.0 in cc
next_found d AfterHash kind a b (inr h) = longest_is_found d kind a b h.1
next_found d AfterDefine kind a b (inl h) = let no = h.0 in cc
next_found d AfterDefine kind a b (inr h) = longest_is_found d kind a b h.1
next_found d AfterMacroName kind a b (inl h) = let no = h.0 in cc
next_found d AfterMacroName kind a b (inr h) = longest_is_found d kind a b h.1
next_found d InDirective kind a b (inl h) = let no = h.0 in cc
next_found d InDirective kind a b (inr h) = longest_is_found d kind a b h.1
next_found d InText kind a b (inl h) = let no = h.0 in cc
next_found d InText kind a b (inr h) = longest_is_found d kind a b h.1

-- a cut of the bytes is a cut of the characters
record IsCharCut (b : List LogicalChar) (u v : List ℕ) : Type 0 where
  front : List LogicalChar
  rest : List LogicalChar
  whole : b ≡ front ++ rest
  front_is : bytes_of front ≡ u

char_cut : (b : List LogicalChar) (u v : List ℕ) → bytes_of b ≡ u ++ v → IsCharCut b u v
char_cut b [] v e = record { front = []; rest = b; whole = refl; front_is = refl }
char_cut [] (c ∷ u) v e = cc
char_cut (x ∷ b) (c ∷ u) v e =
    let head : x.byte ≡ c = cc in
    let tail : bytes_of b ≡ u ++ v = cc in
    let i = char_cut b u v tail in
    record { front = x ∷ i.front; rest = i.rest; whole = ap (λ z. x ∷ z) i.whole; front_is = ap (λ z. x.byte ∷ z) i.front_is ∙ ap (λ z. z ∷ u) head }

not_longer : (d : Dialect) (s : List LogicalChar) (x : Found) (c : ℕ) (u : List ℕ) (other : Shape) → IsLongestFront (shape_of d) s x → (m left : List LogicalChar) → x.rest ≡ m ++ left → bytes_of m ≡ c ∷ u → Spells d other (bytes_of x.chars ++ c ∷ u) → ⊥
not_longer d s x c u other h [] left w e spells = cc
not_longer d s x c u other h (z ∷ m) left w e spells =
    let none : shape_of d (bytes_of x.chars ++ bytes_of (z ∷ m)) ≡ None = h.longer z m left w in
    let some : shape_of d (bytes_of x.chars ++ bytes_of (z ∷ m)) ≡ Some other = shape_found d other (bytes_of x.chars ++ bytes_of (z ∷ m)) (subst (λ y. Spells d other (bytes_of x.chars ++ y)) (sym e) spells) in
    let both : None ≡ Some other = sym none ∙ some in
    cc

longest_is : (d : Dialect) (s : List LogicalChar) (kind : ItemKind) (x : Found) → IsLongestFront (shape_of d) s x → x.shape ≡ Whole kind → IsLongest d (Whole kind) (bytes_of x.chars) (bytes_of x.rest)
longest_is d s kind x h k = record {
  spells = shape_is d (Whole kind) (bytes_of x.chars) (h.shape ∙ ap Some k);
  longest = λ other c more left e spells. let i = char_cut x.rest (c ∷ more) left e in not_longer d s x c more other h i.front i.rest i.whole i.front_is spells;
}

-- what is found is next, and this is what is left
record IsNextFound (d : Dialect) (place : Place) (s : List LogicalChar) (kind : ItemKind) (x : Found) : Type 0 where
  next : IsNext d place kind (bytes_of x.chars) (bytes_of x.rest)
  whole : s ≡ x.chars ++ x.rest

plain_next : (d : Dialect) (place : Place) (s : List LogicalChar) (kind : ItemKind) (x : Found) → (place ≡ AfterInclude → BeginsHeader (bytes_of s) → ⊥) → longest (shape_of d) s ≡ Some x → x.shape ≡ Whole kind → IsNextFound d place s kind x
plain_next d place s kind x none h k =
    let i = longest_gives (shape_of d) s x h in
    let whole : bytes_of s ≡ bytes_of x.chars ++ bytes_of x.rest = ap bytes_of i.whole ∙ bytes_append x.chars x.rest in
    record { next = inr (λ there begins. none there (subst BeginsHeader (sym whole) begins), longest_is d s kind x i k); whole = i.whole }

no_header_begins : (s : List LogicalChar) → longest header_shape s ≡ None → BeginsHeader (bytes_of s) → ⊥
no_header_begins s h b =
    let i = char_cut s b.name b.left b.whole in
    let none : header_shape (bytes_of i.front) ≡ None = none_longest header_shape s i.front i.rest h i.whole in
    let name : is_header_name (bytes_of i.front) ≡ true = subst (λ z. is_header_name z ≡ true) (sym i.front_is) (header_found b.name b.is_name) in
    let some : header_shape (bytes_of i.front) ≡ Some (Whole HeaderName) = ap (λ z. elim z [ true ↦ Some (Whole HeaderName) | false ↦ None ]) name in
    let both : None ≡ Some (Whole HeaderName) = sym none ∙ some in
    cc

kind_same : (j k : ItemKind) → Whole j ≡ Whole k → j ≡ k
kind_same j k e = cc

after_include : (d : Dialect) (s : List LogicalChar) (kind : ItemKind) (x : Found) (o : Option Found) → longest header_shape s ≡ o → or_found o (longest (shape_of d) s) ≡ Some x → x.shape ≡ Whole kind → IsNextFound d AfterInclude s kind x
after_include d s kind x None e h k = plain_next d AfterInclude s kind x (λ there. no_header_begins s e) h k
after_include d s kind x (Some y) e h k =
    let same : y ≡ x = found_is y x h in
    let i = longest_gives header_shape s x (e ∙ ap Some same) in
    let name = header_shaped (bytes_of x.chars) x.shape i.shape in
    record { next = inl (refl, kind_same kind HeaderName (sym k ∙ name.1), name.0); whole = i.whole }

next_is : (d : Dialect) (place : Place) (s : List LogicalChar) (kind : ItemKind) (x : Found) → next_at d place s ≡ Some x → x.shape ≡ Whole kind → IsNextFound d place s kind x
next_is d AfterInclude s kind x h k = after_include d s kind x (longest header_shape s) refl h k
next_is d LineStart s kind x h k = plain_next d LineStart s kind x (λ there. cc) h k
next_is d AfterHash s kind x h k = plain_next d AfterHash s kind x (λ there. cc) h k
next_is d AfterDefine s kind x h k = plain_next d AfterDefine s kind x (λ there. cc) h k
next_is d AfterMacroName s kind x h k = plain_next d AfterMacroName s kind x (λ there. cc) h k
next_is d InDirective s kind x h k = plain_next d InDirective s kind x (λ there. cc) h k
next_is d InText s kind x h k = plain_next d InText s kind x (λ there. cc) h k

-- ## Gaps

gap_is : (g r : List LogicalChar) → is_gap (bytes_of g) ≡ true → starts is_blank (bytes_of r) ≡ false → gap_of (g ++ r) ≡ g
gap_is [] [] h n = refl
gap_is [] (c ∷ r) h n = ap (λ z. elim z [ true ↦ c ∷ gap_of r | false ↦ [] ]) n
gap_is (c ∷ g) r h n =
    let b = and_parts (is_blank c.byte) (is_gap (bytes_of g)) h in
    ap (λ z. elim z [ true ↦ c ∷ gap_of (g ++ r) | false ↦ [] ]) b.0 ∙ ap (λ z. c ∷ z) (gap_is g r b.1 n)

behind_is : (g r : List LogicalChar) → is_gap (bytes_of g) ≡ true → starts is_blank (bytes_of r) ≡ false → behind_gap (g ++ r) ≡ r
behind_is [] [] h n = refl
behind_is [] (c ∷ r) h n = ap (λ z. elim z [ true ↦ behind_gap r | false ↦ c ∷ r ]) n
behind_is (c ∷ g) r h n =
    let b = and_parts (is_blank c.byte) (is_gap (bytes_of g)) h in
    ap (λ z. elim z [ true ↦ behind_gap (g ++ r) | false ↦ c ∷ (g ++ r) ]) b.0 ∙ behind_is g r b.1 n

gap_step : (c : LogicalChar) (s : List LogicalChar) (b : Bool) → s ≡ gap_of s ++ behind_gap s → c ∷ s ≡ elim b [ true ↦ c ∷ gap_of s | false ↦ [] ] ++ elim b [ true ↦ behind_gap s | false ↦ c ∷ s ]
gap_step c s true e = ap (λ z. c ∷ z) e
gap_step c s false e = refl

gap_and_rest : (s : List LogicalChar) → s ≡ gap_of s ++ behind_gap s
gap_and_rest [] = refl
gap_and_rest (c ∷ s) = gap_step c s (is_blank c.byte) (gap_and_rest s)

white_step : (c : LogicalChar) (s : List LogicalChar) (b : Bool) → is_blank c.byte ≡ b → is_gap (bytes_of (gap_of s)) ≡ true → is_gap (bytes_of (elim b [ true ↦ c ∷ gap_of s | false ↦ [] ])) ≡ true
white_step c s true e h = and_from (is_blank c.byte) (is_gap (bytes_of (gap_of s))) e h
white_step c s false e h = refl

gap_white : (s : List LogicalChar) → is_gap (bytes_of (gap_of s)) ≡ true
gap_white [] = refl
gap_white (c ∷ s) = white_step c s (is_blank c.byte) refl (gap_white s)

-- ## All items

only_gap : (s : List LogicalChar) → is_gap (bytes_of s) ≡ true → (gap_of s ≡ s) × (behind_gap s ≡ [])
only_gap s h =
    (ap gap_of (sym (append-nil s)) ∙ gap_is s [] h refl, ap behind_gap (sym (append-nil s)) ∙ behind_is s [] h refl)

found_some : (d : Dialect) (place : Place) (gap : List LogicalChar) (go : Place → List LogicalChar → Option Items) (r : List LogicalChar) → (bytes_of r ≡ [] → ⊥) → found_behind d place gap go r ≡ option_and_then (item_found d place gap go) (next_at d place r)
found_some d place gap go [] h = absurd (h refl)
found_some d place gap go (c ∷ r) h = refl

none_fits : (n : ℕ) → suc n ≤ 0 → ⊥
none_fits n h = omega (arith, h)

end_found : (d : Dialect) (n : ℕ) (place : Place) (last : List LogicalChar) → is_gap (bytes_of last) ≡ true → items_from d n place last ≡ Some (no_items last)
end_found d zero place last h = ap (λ z. elim z as (λ y. Option Items) [ [] ↦ Some (no_items last) | c ∷ r ↦ None ]) (only_gap last h).1
end_found d (suc n) place last h =
    ap (λ z. found_behind d (past_gap place (bytes_of z)) z (λ p r. items_from d n p r) (behind_gap last)) (only_gap last h).0
    ∙ ap (found_behind d (past_gap place (bytes_of last)) last (λ p r. items_from d n p r)) (only_gap last h).1

all_found : (d : Dialect) (n : ℕ) (place : Place) (items : List ReadItem) (last : List LogicalChar) → length items ≤ n → Reads d place (map piece_of items) (bytes_of last) → items_from d n place (characters_of items last) ≡ Some (record { items = items; last = last })
all_found d n place [] last fits h = end_found d n place last h
all_found d zero place (i ∷ items) last fits h = absurd (none_fits (length items) fits)
all_found d (suc n) place (i ∷ items) last fits h =
    let rest = characters_of items last in
    let p = past_gap place (bytes_of i.gap) in
    let go : Place → List LogicalChar → Option Items = λ q r. items_from d n q r in
    let next : IsNext d p i.kind (bytes_of i.chars) (bytes_of rest) = subst (λ z. IsNext d p i.kind (bytes_of i.chars) z) (sym (characters_written items last)) h.1 in
    let begins : starts is_blank (bytes_of (i.chars ++ rest)) ≡ false = ap (starts is_blank) (bytes_append i.chars rest) ∙ next_begins d p i.kind (bytes_of i.chars) (bytes_of rest) next in
    let some : bytes_of (i.chars ++ rest) ≡ [] → ⊥ = λ e. next_not_empty d p i.kind (bytes_of i.chars) (bytes_of rest) next (sym (bytes_append i.chars rest) ∙ e) in
    let fits_rest : length items ≤ n = omega (arith, fits) in
    ap (λ z. found_behind d (past_gap place (bytes_of z)) z go (behind_gap (i.gap ++ (i.chars ++ rest)))) (gap_is i.gap (i.chars ++ rest) h.0 begins)
    ∙ (ap (found_behind d p i.gap go) (behind_is i.gap (i.chars ++ rest) h.0 begins)
    ∙ (found_some d p i.gap go (i.chars ++ rest) some
    ∙ (ap (option_and_then (item_found d p i.gap go)) (next_found d p i.kind i.chars rest next)
    ∙ ap (option_map (with_item i)) (all_found d n (past_item d p i.kind (bytes_of i.chars)) items last fits_rest h.2))))

-- there are no more items than characters
some_chars : (d : Dialect) (place : Place) (kind : ItemKind) (a : List LogicalChar) (t : List ℕ) → IsNext d place kind (bytes_of a) t → 1 ≤ length a
some_chars d place kind [] t (inl h) = let w = h.2.whole in cc
some_chars d place kind [] t (inr h) = absurd (next_not_empty d place kind [] [] (inr (alone h.1)) refl)
  where
    alone : IsLongest d (Whole kind) [] t → ((place ≡ AfterInclude → BeginsHeader [] → ⊥) × IsLongest d (Whole kind) [] [])
    alone l = ((λ there b. let w = b.whole in let name = b.is_name.whole in cc), record { spells = l.spells; longest = λ other c more left e spells. cc })
some_chars d place kind (c ∷ a) t h = omega arith

few_items : (d : Dialect) (place : Place) (items : List ReadItem) (last : List LogicalChar) → Reads d place (map piece_of items) (bytes_of last) → length items ≤ length (characters_of items last)
few_items d place [] last h = omega arith
few_items d place (i ∷ items) last h =
    let one = some_chars d (past_gap place (bytes_of i.gap)) i.kind i.chars (written (map piece_of items) (bytes_of last)) h.1 in
    let more = few_items d (past_item d (past_gap place (bytes_of i.gap)) i.kind (bytes_of i.chars)) items last h.2 in
    let a = length-append i.gap (i.chars ++ characters_of items last) in
    let b = length-append i.chars (characters_of items last) in
    omega (arith, one, more, a, b)

pub text_found : (d : Dialect) (text : List ℕ) (items : List ReadItem) (last : List LogicalChar) → LexesText d text items last → items_of d text ≡ Some (record { items = items; last = last })
text_found d text items last h =
    ap (λ z. items_from d (length z) LineStart z) h.whole
    ∙ all_found d (length (characters_of items last)) LineStart items last (few_items d LineStart items last h.reads) h.reads

-- ## What is found is there

record AreRead (d : Dialect) (place : Place) (s : List LogicalChar) (x : Items) : Type 0 where
  whole : s ≡ characters_of x.items x.last
  reads : Reads d place (map piece_of x.items) (bytes_of x.last)

items_same : (x y : Items) → Some x ≡ Some y → x ≡ y
items_same x y e = cc

-- the item that is read behind this gap, with those behind it
module _ (d : Dialect) (place : Place) (gap r : List LogicalChar) (white : is_gap (bytes_of gap) ≡ true) (go : Place → List LogicalChar → Option Items) (sound : (p : Place) (t : List LogicalChar) (x : Items) → go p t ≡ Some x → AreRead d p t x) where
  behind : Place
  behind = past_gap place (bytes_of gap)

  with_more : (kind : ItemKind) (f : Found) (x : Items) → next_at d (past_gap place (bytes_of gap)) r ≡ Some f → f.shape ≡ Whole kind → (o : Option Items) → go (past_item d (past_gap place (bytes_of gap)) kind (bytes_of f.chars)) f.rest ≡ o → option_map (with_item (record { kind = kind; gap = gap; chars = f.chars })) o ≡ Some x → AreRead d place (gap ++ r) x
  with_more kind f x next shape None e h = cc
  with_more kind f x next shape (Some y) e h =
      let i : ReadItem = record { kind = kind; gap = gap; chars = f.chars } in
      let p = past_gap place (bytes_of gap) in
      let rest = sound (past_item d p kind (bytes_of f.chars)) f.rest y e in
      let here = next_is d p r kind f next shape in
      let whole : gap ++ r ≡ characters_of (i ∷ y.items) y.last = ap (λ z. gap ++ z) (here.whole ∙ ap (λ z. f.chars ++ z) rest.whole) in
      let read : IsNext d p kind (bytes_of f.chars) (written (map piece_of y.items) (bytes_of y.last)) = subst (λ z. IsNext d p kind (bytes_of f.chars) z) (ap bytes_of rest.whole ∙ characters_written y.items y.last) here.next in
      subst (AreRead d place (gap ++ r)) (items_same (with_item i y) x h) (record { whole = whole; reads = (white, read, rest.reads) })

  shaped : (f : Found) (x : Items) → next_at d (past_gap place (bytes_of gap)) r ≡ Some f → (k : Shape) → f.shape ≡ k → elim k [
    | Whole kind ↦ option_map (with_item (record { kind = kind; gap = gap; chars = f.chars })) (go (past_item d (past_gap place (bytes_of gap)) kind (bytes_of f.chars)) f.rest)
    | Unended ↦ None
  ] ≡ Some x → AreRead d place (gap ++ r) x
  shaped f x next (Whole kind) e h = with_more kind f x next e (go (past_item d (past_gap place (bytes_of gap)) kind (bytes_of f.chars)) f.rest) refl h
  shaped f x next Unended e h = cc

  found_next : (x : Items) (o : Option Found) → next_at d (past_gap place (bytes_of gap)) r ≡ o → option_and_then (item_found d (past_gap place (bytes_of gap)) gap go) o ≡ Some x → AreRead d place (gap ++ r) x
  found_next x None e h = cc
  found_next x (Some f) e h = shaped f x e f.shape refl h

behind_read : (d : Dialect) (place : Place) (gap r : List LogicalChar) → is_gap (bytes_of gap) ≡ true → (go : Place → List LogicalChar → Option Items) → ((p : Place) (t : List LogicalChar) (x : Items) → go p t ≡ Some x → AreRead d p t x) → (x : Items) → found_behind d (past_gap place (bytes_of gap)) gap go r ≡ Some x → AreRead d place (gap ++ r) x
behind_read d place gap [] white go sound x h =
    subst (AreRead d place (gap ++ [])) (items_same (no_items gap) x h) (record { whole = append-nil gap; reads = white })
behind_read d place gap (c ∷ r) white go sound x h =
    found_next d place gap (c ∷ r) white go sound x (next_at d (past_gap place (bytes_of gap)) (c ∷ r)) refl h

end_read : (d : Dialect) (place : Place) (s r : List LogicalChar) (x : Items) → behind_gap s ≡ r → elim r as (λ y. Option Items) [ [] ↦ Some (no_items s) | c ∷ t ↦ None ] ≡ Some x → AreRead d place s x
end_read d place s [] x e h =
    let whole : s ≡ gap_of s = gap_and_rest s ∙ (ap (λ z. gap_of s ++ z) e ∙ append-nil (gap_of s)) in
    subst (AreRead d place s) (items_same (no_items s) x h) (record { whole = refl; reads = subst (λ z. is_gap (bytes_of z) ≡ true) (sym whole) (gap_white s) })
end_read d place s (c ∷ r) x e h = cc

items_read : (d : Dialect) (n : ℕ) (place : Place) (s : List LogicalChar) (x : Items) → items_from d n place s ≡ Some x → AreRead d place s x
items_read d zero place s x h = end_read d place s (behind_gap s) x refl h
items_read d (suc n) place s x h =
    subst (λ z. AreRead d place z x) (sym (gap_and_rest s)) (behind_read d place (gap_of s) (behind_gap s) (gap_white s) (λ p r. items_from d n p r) (λ p t y e. items_read d n p t y e) x h)

text_read : (d : Dialect) (text : List ℕ) (items : List ReadItem) (last : List LogicalChar) → items_of d text ≡ Some (record { items = items; last = last }) → LexesText d text items last
text_read d text items last h =
    let r = items_read d (length (logical d text)) LineStart (logical d text) (record { items = items; last = last }) h in record { whole = r.whole; reads = r.reads }

pub items_are_found : ItemsAreFound
items_are_found d text items last = (text_read d text items last, text_found d text items last)

-- ## The kind of a spelling

kind_shaped : (k : Shape) (kind : ItemKind) → token_kind k ≡ Some kind → (k ≡ Whole kind) × (is_comment kind ≡ false)
kind_shaped Unended kind e = cc
kind_shaped (Whole j) kind e = by j (is_comment j) refl e
  where
    by : (j : ItemKind) (b : Bool) → is_comment j ≡ b → elim b [ true ↦ None | false ↦ Some j ] ≡ Some kind → (Whole j ≡ Whole kind) × (is_comment kind ≡ false)
    by j true h e = cc
    by j false h e = let same : j ≡ kind = cc in (ap Whole same, subst (λ z. is_comment z ≡ false) same h)

kind_read : (d : Dialect) (s : List ℕ) (kind : ItemKind) (o : Option Shape) → shape_of d s ≡ o → option_and_then token_kind o ≡ Some kind → Spells d (Whole kind) s × IsFalse (is_comment kind)
kind_read d s kind None e h = cc
kind_read d s kind (Some k) e h = let i = kind_shaped k kind h in (subst (λ z. Spells d z s) i.0 (shape_is d k s e), i.1)

pub kinds_are_found : KindsAreFound
kinds_are_found d s kind = (
  λ e. kind_read d s kind (shape_of d s) refl e,
  λ h. ap (option_and_then token_kind) (shape_found d (Whole kind) s h.0) ∙ ap (λ z. elim z [ true ↦ None | false ↦ Some kind ]) h.1,
)
