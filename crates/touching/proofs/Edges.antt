-- What the edges of two items tell of whether they may touch.
use Rattle.std.proofs.Common.{◌≡◌, ◌==◌, ◌&&◌, ◌||◌, ◌∙◌, not, ℕ, ◌<◌, arith, Bool, true, false, Some, None, List, [], ◌∷◌, ◌++◌, codes, length, get_or, refl, sym, ap, subst, inl, inr}
use Rattle.std.specs.Prelude.{◌⊎◌, nat_le, if◌then◌else◌}
use Rattle.std.specs.List.{list_any, list_all}
use Rattle.std.proofs.lemmas.Bool.{and_parts, and_left, and_right, not-true, eqb-true, leb-true, cases_Bool, or_cases, or_from, false≢true, true≢false, agree_below_at}
use Rattle.c_chars.specs.declared.Dialect.{Dialect}
use Rattle.c_grammar.specs.Grammar.{is_of, is_letter, is_sign}
use Rattle.c_grammar.specs.Touch.{starts, is_front, is_identifier, is_number, is_literal, is_other_kind, is_punct, takes_line, word_by_word, prefix_by_quote, number_goes_on, point_by_number, punct_goes_on, trigraph_comes, may_touch}
use Rattle.item_kinds.specs.declared.ItemKind.{ItemKind}
use Rattle.item_kinds.specs.declared.ItemKind.TheVariants.{Identifier, Number as NumberKind, Punct, StringLit, CharConst, BlockComment, LineComment, HeaderName, StrayQuote, Other}
use Rattle.touching.specs.Near.{is_plain, seconds, thirds, going_on}
use Rattle.touching.specs.Spelling.{spelling}
use Rattle.touching.proofs.PlainBytes.{near_is, one_goes_on, two_stay, pair_stays}
use Rattle.touching.specs.declared.edge.Edge.{Edge}
use Rattle.touching.specs.declared.edge.Edge.TheVariants.{Name, Number, Quiet, Operator, Text, Comment, Ending, Point, Unknown}
use Rattle.touching.specs.Edges.{is_name_byte, is_number_byte, is_quiet, is_operator, punct_edge, begins_with, known, edge_of, touch_of_name, touch_of_number, touch_of_operator, touch_of_point, touch_behind, touch_of}

-- ## Bytes

abbrev quotes : List ℕ
quotes = codes "'\""

abbrev signs : ℕ → Bool
signs b = is_of (codes ".'") b || is_sign b

abbrev no_point : ℕ → Bool
no_point b = not (b == 46)

abbrev no_later : ℕ → Bool
no_later b = not (is_of seconds b) && (not (is_of thirds b) && no_point b)

abbrev no_quote : ℕ → Bool
no_quote b = not (is_of quotes b) && no_later b

abbrev no_sign : ℕ → Bool
no_sign b = not (signs b) && no_quote b

-- with it nothing goes on but a name or a number
abbrev is_still : ℕ → Bool
is_still b = is_plain b && no_sign b

abbrev is_soft : ℕ → Bool
is_soft b = is_plain b && (not (is_of quotes b) && no_point b)

abbrev is_closed : ℕ → Bool
is_closed b = is_plain b && no_later b

record IsStill (b : ℕ) : Type 0 where
  plain : is_plain b ≡ true
  sign : signs b ≡ false
  quote : is_of quotes b ≡ false
  second : is_of seconds b ≡ false
  third : is_of thirds b ≡ false
  point : (b == 46) ≡ false

record IsSoft (b : ℕ) : Type 0 where
  plain : is_plain b ≡ true
  quote : is_of quotes b ≡ false
  point : (b == 46) ≡ false

record IsClosed (b : ℕ) : Type 0 where
  plain : is_plain b ≡ true
  second : is_of seconds b ≡ false
  third : is_of thirds b ≡ false
  point : (b == 46) ≡ false

still_parts : (b : ℕ) → is_still b ≡ true → IsStill b
still_parts b h =
    let p = and_parts (is_plain b) (no_sign b) h in
    let s = and_parts (not (signs b)) (no_quote b) p.1 in
    let q = and_parts (not (is_of quotes b)) (no_later b) s.1 in
    let l = and_parts (not (is_of seconds b)) (not (is_of thirds b) && no_point b) q.1 in
    let t = and_parts (not (is_of thirds b)) (no_point b) l.1 in
    record {
      plain = p.0;
      sign = not-true (signs b) s.0;
      quote = not-true (is_of quotes b) q.0;
      second = not-true (is_of seconds b) l.0;
      third = not-true (is_of thirds b) t.0;
      point = not-true (b == 46) t.1;
    }

soft_parts : (b : ℕ) → is_soft b ≡ true → IsSoft b
soft_parts b h =
    let p = and_parts (is_plain b) (not (is_of quotes b) && no_point b) h in
    let q = and_parts (not (is_of quotes b)) (no_point b) p.1 in
    record { plain = p.0; quote = not-true (is_of quotes b) q.0; point = not-true (b == 46) q.1 }

closed_parts : (b : ℕ) → is_closed b ≡ true → IsClosed b
closed_parts b h =
    let p = and_parts (is_plain b) (no_later b) h in
    let l = and_parts (not (is_of seconds b)) (not (is_of thirds b) && no_point b) p.1 in
    let t = and_parts (not (is_of thirds b)) (no_point b) l.1 in
    record { plain = p.0; second = not-true (is_of seconds b) l.0; third = not-true (is_of thirds b) t.0; point = not-true (b == 46) t.1 }

-- what holds of each of some characters holds of one of them
among : (test : ℕ → Bool) (cs : List ℕ) (b : ℕ) → list_all test cs ≡ true → is_of cs b ≡ true → test b ≡ true
among test [] b all is = absurd (false≢true is)
among test (c ∷ cs) b all is =
    let parts = and_parts (test c) (list_all test cs) all in
    elim (cases_Bool (c == b)) [
      | inl y ↦ ap test (sym (eqb-true c b y)) ∙ parts.0
      | inr n ↦ among test cs b parts.1 (sym (ap (λ x. x || is_of cs b) n) ∙ is)
    ]

given : (x y : Bool) → (not x || y) ≡ true → x ≡ true → y ≡ true
given true y h is = h
given false y h is = absurd (false≢true is)

name_below : (b : ℕ) → is_name_byte b ≡ true → b < 123
name_below b h = elim (or_cases ((nat_le 65 b && nat_le b 90) || (nat_le 97 b && nat_le b 122)) (b == 95) h) [
  | inl letter ↦ elim (or_cases (nat_le 65 b && nat_le b 90) (nat_le 97 b && nat_le b 122) letter) [
    | inl large ↦ omega (arith, leb-true b 90 (and_parts (nat_le 65 b) (nat_le b 90) large).1)
    | inr small ↦ omega (arith, leb-true b 122 (and_parts (nat_le 97 b) (nat_le b 122) small).1)
  ]
  | inr line ↦ omega (arith, eqb-true b 95 line)
]

name_still : (b : ℕ) → is_name_byte b ≡ true → IsStill b
unfolding is_sign
name_still b h =
    let top = name_below b h in
    still_parts b (given (is_name_byte b) (is_still b) (agree_below_at (λ x. not (is_name_byte x) || is_still x) (λ x. true) 123 b refl (omega (arith, top))) h)

number_still : (b : ℕ) → is_number_byte b ≡ true → IsStill b
unfolding is_sign
number_still b h =
    let top = leb-true b 57 (and_parts (nat_le 48 b) (nat_le b 57) h).1 in
    still_parts b (given (is_number_byte b) (is_still b) (agree_below_at (λ x. not (is_number_byte x) || is_still x) (λ x. true) 58 b refl (omega (arith, top))) h)

quiet_still : (b : ℕ) → is_quiet b ≡ true → IsStill b
unfolding is_sign
quiet_still b h = still_parts b (among is_still (codes "(),;[]{}") b refl h)

operator_soft : (b : ℕ) → is_operator b ≡ true → IsSoft b
operator_soft b h = soft_parts b (among is_soft (codes "!#%&*+-/:<=>^|~") b refl h)

quote_closed : (b : ℕ) → is_of quotes b ≡ true → IsClosed b
quote_closed b h = closed_parts b (among is_closed quotes b refl h)

slash_soft : (b : ℕ) → (b == 47) ≡ true → IsSoft b
slash_soft b h = subst IsSoft (sym (eqb-true b 47 h)) (record { plain = refl; quote = refl; point = refl })

slash_sign : (b : ℕ) → (b == 47) ≡ true → signs b ≡ false
unfolding is_sign
slash_sign b h = subst (λ x. signs x ≡ false) (sym (eqb-true b 47 h)) refl

point_plain : (b : ℕ) → (b == 46) ≡ true → is_plain b ≡ true
point_plain b h = subst (λ x. is_plain x ≡ true) (sym (eqb-true b 46 h)) refl

point_quote : (b : ℕ) → (b == 46) ≡ true → is_of quotes b ≡ false
point_quote b h = subst (λ x. is_of quotes x ≡ false) (sym (eqb-true b 46 h)) refl

-- ## Edges

record Begins (test : ℕ → Bool) (s : List ℕ) : Type 0 where
  some : 0 < length s
  first : test (get_or s 0 0) ≡ true

begins : (test : ℕ → Bool) (s : List ℕ) → begins_with test s ≡ true → Begins test s
begins test [] h = absurd (false≢true h)
begins test (b ∷ s) h = record { some = omega arith; first = h }

-- a kind that is no word, and with which an item may stand behind it
record IsApart (k : ItemKind) : Type 0 where
  identifier : is_identifier k ≡ false
  number : is_number k ≡ false
  other : is_other_kind k ≡ false
  line : takes_line k ≡ false

abbrev Facts : Edge → ItemKind → List ℕ → Type 0
Facts Name k s = (k ≡ Identifier) × Begins is_name_byte s
Facts Number k s = (k ≡ NumberKind) × Begins is_number_byte s
Facts Quiet k s = (k ≡ Punct) × (length s ≡ 1) × Begins is_quiet s
Facts Operator k s = (k ≡ Punct) × ((length s ≡ 1) ⊎ ((length s ≡ 2) × (is_operator (get_or s 1 0) ≡ true))) × Begins is_operator s
Facts Text k s = IsApart k × (is_punct k ≡ false) × Begins (is_of quotes) s
Facts Comment k s = (k ≡ BlockComment) × Begins (λ b. b == 47) s
Facts Ending k s = (k ≡ LineComment) × Begins (λ b. b == 47) s
Facts Point k s = (k ≡ Punct) × (length s ≡ 1) × Begins (λ b. b == 46) s
Facts Unknown k s = Unit {0}

known_facts : (edge : Edge) (is : Bool) (k : ItemKind) (s : List ℕ) → (is ≡ true → Facts edge k s) → Facts (known edge is) k s
known_facts edge true k s f = f refl
known_facts edge false k s f = tt

one_facts : (a : ℕ) (q o p : Bool) → is_quiet a ≡ q → is_operator a ≡ o → (a == 46) ≡ p
    → Facts (if q then Quiet else (if o then Operator else (if p then Point else Unknown))) Punct (a ∷ [])
one_facts a true o p hq ho hp = (refl, refl, record { some = omega arith; first = hq })
one_facts a false true p hq ho hp = (refl, inl refl, record { some = omega arith; first = ho })
one_facts a false false true hq ho hp = (refl, refl, record { some = omega arith; first = hp })
one_facts a false false false hq ho hp = tt

two_facts : (a b : ℕ) → (is_operator a && is_operator b) ≡ true → Facts Operator Punct (a ∷ b ∷ [])
two_facts a b h =
    let both = and_parts (is_operator a) (is_operator b) h in
    (refl, inr (refl, both.1), record { some = omega arith; first = both.0 })

punct_facts : (s : List ℕ) → Facts (punct_edge s) Punct s
punct_facts [] = tt
punct_facts (a ∷ []) = one_facts a (is_quiet a) (is_operator a) (a == 46) refl refl refl
punct_facts (a ∷ b ∷ []) = known_facts Operator (is_operator a && is_operator b) Punct (a ∷ b ∷ []) (two_facts a b)
punct_facts (a ∷ b ∷ c ∷ s) = tt

quoted : (q : ℕ) (s : List ℕ) → is_of quotes q ≡ true → begins_with (λ b. b == q) s ≡ true → Begins (is_of quotes) s
quoted q s is h =
    let first = begins (λ b. b == q) s h in
    record { some = first.some; first = ap (is_of quotes) (eqb-true (get_or s 0 0) q first.first) ∙ is }

edge_facts : (k : ItemKind) (s : List ℕ) → Facts (edge_of k s) k s
edge_facts Identifier s = known_facts Name (begins_with is_name_byte s) Identifier s (λ h. (refl, begins is_name_byte s h))
edge_facts NumberKind s = known_facts Number (begins_with is_number_byte s) NumberKind s (λ h. (refl, begins is_number_byte s h))
edge_facts Punct s = punct_facts s
edge_facts StringLit s =
    known_facts Text (begins_with (λ b. b == 34) s) StringLit s (λ h. (record { identifier = refl; number = refl; other = refl; line = refl }, refl, quoted 34 s refl h))
edge_facts CharConst s =
    known_facts Text (begins_with (λ b. b == 39) s) CharConst s (λ h. (record { identifier = refl; number = refl; other = refl; line = refl }, refl, quoted 39 s refl h))
edge_facts BlockComment s = known_facts Comment (begins_with (λ b. b == 47) s) BlockComment s (λ h. (refl, begins (λ b. b == 47) s h))
edge_facts LineComment s = known_facts Ending (begins_with (λ b. b == 47) s) LineComment s (λ h. (refl, begins (λ b. b == 47) s h))
edge_facts HeaderName s = tt
edge_facts StrayQuote s = tt
edge_facts Other s = tt

-- ## The item behind

-- an item of C whose first byte is a character
record Sound (k : ItemKind) (t : List ℕ) : Type 0 where
  some : 0 < length t
  plain : is_plain (get_or t 0 0) ≡ true
  other : is_other_kind k ≡ false

is_sound : (k kind : ItemKind) (t : List ℕ) → k ≡ kind → is_other_kind kind ≡ false → 0 < length t → is_plain (get_or t 0 0) ≡ true → Sound k t
is_sound k kind t is other some plain = record { some = some; plain = plain; other = ap is_other_kind is ∙ other }

no_some : (touch : Bool) → None ≡ Some touch → ⊥
no_some touch h = cc

sound_of : (r : Edge) (k : ItemKind) (t : List ℕ) (said touch : Bool) → Facts r k t → touch_behind said r ≡ Some touch → Sound k t
sound_of Name k t said touch f h = is_sound k Identifier t f.0 refl f.1.some (name_still (get_or t 0 0) f.1.first).plain
sound_of Number k t said touch f h = is_sound k NumberKind t f.0 refl f.1.some (number_still (get_or t 0 0) f.1.first).plain
sound_of Quiet k t said touch f h = is_sound k Punct t f.0 refl f.2.some (quiet_still (get_or t 0 0) f.2.first).plain
sound_of Operator k t said touch f h = is_sound k Punct t f.0 refl f.2.some (operator_soft (get_or t 0 0) f.2.first).plain
sound_of Text k t said touch f h = record { some = f.2.some; plain = (quote_closed (get_or t 0 0) f.2.first).plain; other = f.0.other }
sound_of Comment k t said touch f h = is_sound k BlockComment t f.0 refl f.1.some (slash_soft (get_or t 0 0) f.1.first).plain
sound_of Ending k t said touch f h = is_sound k LineComment t f.0 refl f.1.some (slash_soft (get_or t 0 0) f.1.first).plain
sound_of Point k t said touch f h = is_sound k Punct t f.0 refl f.2.some (point_plain (get_or t 0 0) f.2.first)
sound_of Unknown k t said touch f h = absurd (no_some touch h)

some_is : (a b : Bool) → Some a ≡ Some b → b ≡ a
some_is a b h = cc

said_is : (r : Edge) (said touch : Bool) → touch_behind said r ≡ Some touch → touch ≡ said
said_is Name said touch h = some_is said touch h
said_is Number said touch h = some_is said touch h
said_is Quiet said touch h = some_is said touch h
said_is Operator said touch h = some_is said touch h
said_is Text said touch h = some_is said touch h
said_is Comment said touch h = some_is said touch h
said_is Ending said touch h = some_is said touch h
said_is Point said touch h = some_is said touch h
said_is Unknown said touch h = absurd (no_some touch h)

-- what stands behind a word tells whether it goes on with it
record BehindWord (k : ItemKind) (t : List ℕ) (touch : Bool) : Type 0 where
  words : Bool
  sound : Sound k t
  is : words ≡ word_by_word Identifier k (get_or t 0 0 ∷ [])
  told : touch ≡ not (words || false)

behind_name : (r : Edge) (k : ItemKind) (t : List ℕ) (touch : Bool) → Facts r k t → touch_of_name r ≡ Some touch → BehindWord k t touch × (is_of quotes (get_or t 0 0) ≡ false)
behind_name Name k t touch f h =
    (record { words = true; sound = sound_of Name k t true true f refl; is = rw f.0 refl; told = some_is false touch h }, (name_still (get_or t 0 0) f.1.first).quote)
behind_name Number k t touch f h =
    (record { words = true; sound = sound_of Number k t true true f refl; is = rw f.0 refl; told = some_is false touch h }, (number_still (get_or t 0 0) f.1.first).quote)
behind_name Quiet k t touch f h =
    (record { words = false; sound = sound_of Quiet k t true true f refl; is = rw f.0 refl; told = some_is true touch h }, (quiet_still (get_or t 0 0) f.2.first).quote)
behind_name Operator k t touch f h =
    (record { words = false; sound = sound_of Operator k t true true f refl; is = rw f.0 refl; told = some_is true touch h }, (operator_soft (get_or t 0 0) f.2.first).quote)
behind_name Comment k t touch f h =
    (record { words = false; sound = sound_of Comment k t true true f refl; is = rw f.0 refl; told = some_is true touch h }, (slash_soft (get_or t 0 0) f.1.first).quote)
behind_name Ending k t touch f h =
    (record { words = false; sound = sound_of Ending k t true true f refl; is = rw f.0 refl; told = some_is true touch h }, (slash_soft (get_or t 0 0) f.1.first).quote)
behind_name Point k t touch f h =
    (record { words = false; sound = sound_of Point k t true true f refl; is = rw f.0 refl; told = some_is true touch h }, point_quote (get_or t 0 0) f.2.first)
behind_name Text k t touch f h = absurd (no_some touch h)
behind_name Unknown k t touch f h = absurd (no_some touch h)

behind_number : (r : Edge) (k : ItemKind) (t : List ℕ) (touch : Bool) → Facts r k t → touch_of_number r ≡ Some touch → BehindWord k t touch × (signs (get_or t 0 0) ≡ false)
behind_number Name k t touch f h = ((behind_name Name k t touch f h).0, (name_still (get_or t 0 0) f.1.first).sign)
behind_number Number k t touch f h = ((behind_name Number k t touch f h).0, (number_still (get_or t 0 0) f.1.first).sign)
behind_number Quiet k t touch f h = ((behind_name Quiet k t touch f h).0, (quiet_still (get_or t 0 0) f.2.first).sign)
behind_number Comment k t touch f h = ((behind_name Comment k t touch f h).0, slash_sign (get_or t 0 0) f.1.first)
behind_number Ending k t touch f h = ((behind_name Ending k t touch f h).0, slash_sign (get_or t 0 0) f.1.first)
behind_number Operator k t touch f h = absurd (no_some touch h)
behind_number Point k t touch f h = absurd (no_some touch h)
behind_number Text k t touch f h = absurd (no_some touch h)
behind_number Unknown k t touch f h = absurd (no_some touch h)

-- no operator goes on with what stands behind it
record BehindOperator (k : ItemKind) (t : List ℕ) (touch : Bool) : Type 0 where
  sound : Sound k t
  second : is_of seconds (get_or t 0 0) ≡ false
  third : is_of thirds (get_or t 0 0) ≡ false
  told : touch ≡ true

behind_operator : (r : Edge) (k : ItemKind) (t : List ℕ) (touch : Bool) → Facts r k t → touch_of_operator r ≡ Some touch → BehindOperator k t touch
behind_operator Name k t touch f h =
    let b = name_still (get_or t 0 0) f.1.first in
    record { sound = sound_of Name k t true true f refl; second = b.second; third = b.third; told = some_is true touch h }
behind_operator Number k t touch f h =
    let b = number_still (get_or t 0 0) f.1.first in
    record { sound = sound_of Number k t true true f refl; second = b.second; third = b.third; told = some_is true touch h }
behind_operator Quiet k t touch f h =
    let b = quiet_still (get_or t 0 0) f.2.first in
    record { sound = sound_of Quiet k t true true f refl; second = b.second; third = b.third; told = some_is true touch h }
behind_operator Text k t touch f h =
    let b = quote_closed (get_or t 0 0) f.2.first in
    record { sound = sound_of Text k t true true f refl; second = b.second; third = b.third; told = some_is true touch h }
behind_operator Operator k t touch f h = absurd (no_some touch h)
behind_operator Comment k t touch f h = absurd (no_some touch h)
behind_operator Ending k t touch f h = absurd (no_some touch h)
behind_operator Point k t touch f h = absurd (no_some touch h)
behind_operator Unknown k t touch f h = absurd (no_some touch h)

-- ## Quiet punctuators

-- a word of two characters or more begins with none of these
abbrev begins_loud : List ℕ → Bool
begins_loud [] = true
begins_loud (a ∷ []) = true
begins_loud (a ∷ b ∷ w) = not (is_quiet a)

quiet_apart : (l a : ℕ) → is_quiet l ≡ true → not (is_quiet a) ≡ true → (l == a) ≡ false
quiet_apart l a quiet loud = elim (cases_Bool (l == a)) [
  | inl y ↦ absurd (true≢false (sym quiet ∙ (ap is_quiet (eqb-true l a y) ∙ not-true (is_quiet a) loud)))
  | inr n ↦ n
]

quiet_front : (l r : ℕ) (w : List ℕ) → is_quiet l ≡ true → begins_loud w ≡ true → is_front (l ∷ r ∷ []) w ≡ false
quiet_front l r [] quiet loud = refl
quiet_front l r (a ∷ []) quiet loud = and_right (l == a) false refl
quiet_front l r (a ∷ b ∷ w) quiet loud = and_left (l == a) ((r == b) && true) (quiet_apart l a quiet loud)

none_of : (l r : ℕ) (rows : List (List ℕ)) → is_quiet l ≡ true → list_all begins_loud rows ≡ true → list_any (is_front (l ∷ r ∷ [])) rows ≡ false
none_of l r [] quiet all = refl
none_of l r (w ∷ rows) quiet all =
    let parts = and_parts (begins_loud w) (list_all begins_loud rows) all in
    or_from (is_front (l ∷ r ∷ []) w) (list_any (is_front (l ∷ r ∷ [])) rows) (quiet_front l r w quiet parts.0) (none_of l r rows quiet parts.1)

-- ## Two items

by_name : (d : Dialect) (s : List ℕ) (rk : ItemKind) (t : List ℕ) (touch : Bool) → Begins is_name_byte s → BehindWord rk t touch → is_of quotes (get_or t 0 0) ≡ false
    → touch ≡ may_touch Identifier (spelling d s) rk (spelling d t)
by_name d s rk t touch first behind quote =
    let b = name_still (get_or s 0 0) first.first in
    behind.told
    ∙ near_is d Identifier rk s t behind.words false first.some behind.sound.some b.plain behind.sound.plain quote refl (and_left (get_or s 0 0 == 46) (is_number rk) b.point)
    (or_from (is_other_kind rk) false behind.sound.other refl) behind.is refl

by_number : (d : Dialect) (s : List ℕ) (rk : ItemKind) (t : List ℕ) (touch : Bool) → Begins is_number_byte s → BehindWord rk t touch → signs (get_or t 0 0) ≡ false
    → touch ≡ may_touch NumberKind (spelling d s) rk (spelling d t)
by_number d s rk t touch first behind sign =
    let b = number_still (get_or s 0 0) first.first in
    behind.told
    ∙ near_is d NumberKind rk s t behind.words false first.some behind.sound.some b.plain behind.sound.plain refl sign (and_left (get_or s 0 0 == 46) (is_number rk) b.point)
    (or_from (is_other_kind rk) false behind.sound.other refl) behind.is refl

-- behind an item that is no word and goes on with nothing
by_other : (d : Dialect) (lk rk : ItemKind) (s t : List ℕ) → IsApart lk → 0 < length s → is_plain (get_or s 0 0) ≡ true → (get_or s 0 0 == 46) ≡ false → Sound rk t
    → false ≡ punct_goes_on lk (spelling d s) (get_or t 0 0 ∷ []) → true ≡ may_touch lk (spelling d s) rk (spelling d t)
by_other d lk rk s t apart some plain point sound stays =
    near_is d lk rk s t false false some sound.some plain sound.plain (and_left (is_identifier lk) (is_of quotes (get_or t 0 0)) apart.identifier)
    (and_left (is_number lk) (signs (get_or t 0 0)) apart.number) (and_left (get_or s 0 0 == 46) (is_number rk) point)
    (or_from (is_other_kind lk || is_other_kind rk) (takes_line lk) (or_from (is_other_kind lk) (is_other_kind rk) apart.other sound.other) apart.line)
    (sym (and_left (is_identifier lk || is_number lk) (is_identifier rk || is_number rk || (is_literal rk && starts is_letter (get_or t 0 0 ∷ []))) (or_from (is_identifier lk) (is_number lk) apart.identifier apart.number))) stays

by_punct : (d : Dialect) (rk : ItemKind) (s t : List ℕ) → 0 < length s → is_plain (get_or s 0 0) ≡ true → (get_or s 0 0 == 46) ≡ false → Sound rk t
    → false ≡ punct_goes_on Punct (spelling d s) (get_or t 0 0 ∷ []) → true ≡ may_touch Punct (spelling d s) rk (spelling d t)
by_punct d rk s t some plain point sound stays = by_other d Punct rk s t (record { identifier = refl; number = refl; other = refl; line = refl }) some plain point sound stays

by_kind : (d : Dialect) (lk rk : ItemKind) (s t : List ℕ) → IsApart lk → is_punct lk ≡ false → 0 < length s → is_plain (get_or s 0 0) ≡ true → (get_or s 0 0 == 46) ≡ false → Sound rk t
    → true ≡ may_touch lk (spelling d s) rk (spelling d t)
by_kind d lk rk s t apart no_punct some plain point sound =
    by_other d lk rk s t apart some plain point sound (sym (and_left (is_punct lk) (list_any (is_front (spelling d s ++ get_or t 0 0 ∷ [])) going_on) no_punct))

by_operator : (d : Dialect) (rk : ItemKind) (s t : List ℕ) (touch : Bool) → Begins is_operator s → (length s ≡ 1) ⊎ ((length s ≡ 2) × (is_operator (get_or s 1 0) ≡ true)) → BehindOperator rk t touch
    → touch ≡ may_touch Punct (spelling d s) rk (spelling d t)
by_operator d rk s t touch first long behind =
    let b = operator_soft (get_or s 0 0) first.first in
    let stays : false ≡ punct_goes_on Punct (spelling d s) (get_or t 0 0 ∷ []) = elim long [
      | inl one ↦ sym (pair_stays (get_or s 0 0) (get_or t 0 0) behind.second) ∙ one_goes_on d Punct s (get_or t 0 0) refl one b.plain
      | inr two ↦ two_stay d Punct s (get_or t 0 0) two.0 b.plain (operator_soft (get_or s 1 0) two.1).plain behind.third
    ] in
    behind.told ∙ by_punct d rk s t first.some b.plain b.point behind.sound stays

by_quiet : (d : Dialect) (rk : ItemKind) (s t : List ℕ) → length s ≡ 1 → Begins is_quiet s → Sound rk t → true ≡ may_touch Punct (spelling d s) rk (spelling d t)
by_quiet d rk s t one first sound =
    let b = quiet_still (get_or s 0 0) first.first in
    by_punct d rk s t first.some b.plain b.point sound
    (sym (none_of (get_or s 0 0) (get_or t 0 0) going_on first.first refl) ∙ one_goes_on d Punct s (get_or t 0 0) refl one b.plain)

by_point : (d : Dialect) (rk : ItemKind) (s t : List ℕ) → length s ≡ 1 → Begins (λ b. b == 46) s → rk ≡ Identifier → Begins is_name_byte t
    → true ≡ may_touch Punct (spelling d s) rk (spelling d t)
by_point d rk s t one first kind name =
    let b = name_still (get_or t 0 0) name.first in
    let plain = point_plain (get_or s 0 0) first.first in
    let stays : false ≡ punct_goes_on Punct (spelling d s) (get_or t 0 0 ∷ []) = sym (pair_stays (get_or s 0 0) (get_or t 0 0) b.second) ∙ one_goes_on d Punct s (get_or t 0 0) refl one plain in
    near_is d Punct rk s t false false first.some name.some plain b.plain refl refl (and_right (get_or s 0 0 == 46) (is_number rk) (ap is_number kind))
    (or_from (is_other_kind rk) false (ap is_other_kind kind) refl) refl stays

behind_point : (r : Edge) (d : Dialect) (rk : ItemKind) (s t : List ℕ) (touch : Bool) → length s ≡ 1 → Begins (λ b. b == 46) s → Facts r rk t → touch_of_point r ≡ Some touch
    → touch ≡ may_touch Punct (spelling d s) rk (spelling d t)
behind_point Name d rk s t touch one first g h = some_is true touch h ∙ by_point d rk s t one first g.0 g.1
behind_point Number d rk s t touch one first g h = absurd (no_some touch h)
behind_point Quiet d rk s t touch one first g h = absurd (no_some touch h)
behind_point Operator d rk s t touch one first g h = absurd (no_some touch h)
behind_point Text d rk s t touch one first g h = absurd (no_some touch h)
behind_point Comment d rk s t touch one first g h = absurd (no_some touch h)
behind_point Ending d rk s t touch one first g h = absurd (no_some touch h)
behind_point Point d rk s t touch one first g h = absurd (no_some touch h)
behind_point Unknown d rk s t touch one first g h = absurd (no_some touch h)

-- an item that takes its line
taken : (x : Bool) → not (x || true) ≡ false
taken true = refl
taken false = refl

line_ends : (l : List ℕ) (rk : ItemKind) (r : List ℕ) → may_touch LineComment l rk r ≡ false
line_ends l rk r =
    taken
    ((((((word_by_word LineComment rk r || prefix_by_quote LineComment l r) || number_goes_on LineComment l r) || point_by_number l rk) || punct_goes_on LineComment l r) || trigraph_comes l r)
    || (is_other_kind LineComment || is_other_kind rk))

facts_tell : (l r : Edge) (d : Dialect) (lk rk : ItemKind) (s t : List ℕ) (touch : Bool) → Facts l lk s → Facts r rk t → touch_of l r ≡ Some touch → touch ≡ may_touch lk (spelling d s) rk (spelling d t)
facts_tell Name r d lk rk s t touch f g h =
    let behind = behind_name r rk t touch g h in
    subst (λ (k : ItemKind). touch ≡ may_touch k (spelling d s) rk (spelling d t)) (sym f.0) (by_name d s rk t touch f.1 behind.0 behind.1)
facts_tell Number r d lk rk s t touch f g h =
    let behind = behind_number r rk t touch g h in
    subst (λ (k : ItemKind). touch ≡ may_touch k (spelling d s) rk (spelling d t)) (sym f.0) (by_number d s rk t touch f.1 behind.0 behind.1)
facts_tell Quiet r d lk rk s t touch f g h =
    said_is r true touch h
    ∙ subst (λ (k : ItemKind). true ≡ may_touch k (spelling d s) rk (spelling d t)) (sym f.0) (by_quiet d rk s t f.1 f.2 (sound_of r rk t true touch g h))
facts_tell Operator r d lk rk s t touch f g h =
    subst (λ (k : ItemKind). touch ≡ may_touch k (spelling d s) rk (spelling d t)) (sym f.0) (by_operator d rk s t touch f.2 f.1 (behind_operator r rk t touch g h))
facts_tell Text r d lk rk s t touch f g h =
    let b = quote_closed (get_or s 0 0) f.2.first in
    said_is r true touch h ∙ by_kind d lk rk s t f.0 f.1 f.2.some b.plain b.point (sound_of r rk t true touch g h)
facts_tell Comment r d lk rk s t touch f g h =
    let b = slash_soft (get_or s 0 0) f.1.first in
    said_is r true touch h
    ∙ subst (λ (k : ItemKind). true ≡ may_touch k (spelling d s) rk (spelling d t)) (sym f.0)
    (by_kind d BlockComment rk s t (record { identifier = refl; number = refl; other = refl; line = refl }) refl f.1.some b.plain b.point (sound_of r rk t true touch g h))
facts_tell Ending r d lk rk s t touch f g h =
    said_is r false touch h ∙ subst (λ (k : ItemKind). false ≡ may_touch k (spelling d s) rk (spelling d t)) (sym f.0) (sym (line_ends (spelling d s) rk (spelling d t)))
facts_tell Point r d lk rk s t touch f g h =
    subst (λ (k : ItemKind). touch ≡ may_touch k (spelling d s) rk (spelling d t)) (sym f.0) (behind_point r d rk s t touch f.1 f.2 g h)
facts_tell Unknown r d lk rk s t touch f g h = absurd (no_some touch h)

-- what two edges tell is so
pub edges_tell : (d : Dialect) (lk rk : ItemKind) (s t : List ℕ) (touch : Bool) → touch_of (edge_of lk s) (edge_of rk t) ≡ Some touch → touch ≡ may_touch lk (spelling d s) rk (spelling d t)
edges_tell d lk rk s t touch told = facts_tell (edge_of lk s) (edge_of rk t) d lk rk s t touch (edge_facts lk s) (edge_facts rk t) told
