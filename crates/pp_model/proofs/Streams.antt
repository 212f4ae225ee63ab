-- Streams that are the same but for white space and lines are cut into the same sections.
use Rattle.std.proofs.Common.{◌≡◌, ℕ, Bool, true, false, List, [], ◌∷◌, map, refl, ap, ◌∙◌}
use Rattle.std.specs.Prelude.{◌||◌}
use Rattle.std.proofs.lemmas.List.{map-append}
use Rattle.c_chars.specs.Characters.{bytes_of}
use Rattle.c_chars.specs.declared.Dialect.{Dialect}
use Rattle.c_grammar.specs.Text.{ReadItem}
use Rattle.c_grammar.specs.Twin.{Part, OfText, BeginsDirective, OpensParameters, OfDirective}
use Rattle.pp_model.specs.Finding.{is_comment}
use Rattle.pp_model.specs.Preprocess.{Item, SectionKind, Section}
use Rattle.pp_model.specs.Stream.{Streamed, streamed, add_item, is_unknown, kind_named, known_or_not, directive, Inside, InText, InDirective, ended, goes_into, in_text, cut_from}
use Rattle.pp_model.proofs.Blank.{if-map}
use Rattle.pp_model.proofs.Blanks.{blank_item, blank_section, blank_streamed}

add_item-blank : (is : List Item) (s : Streamed) → map blank_item (add_item is s) ≡ add_item (map blank_item is) (blank_streamed s)
add_item-blank is s = if-map (map blank_item) (is_comment s.kind) refl (map-append blank_item is (record { kind = s.kind; text = s.text; white = s.white; line = s.line } ∷ []))

known_or_not-blank : (fl : Bool) (next : ℕ) (i : Item) (is : List Item) (kind : SectionKind) → blank_section (known_or_not fl next i is kind) ≡ known_or_not fl 0 (blank_item i) (map blank_item is) kind
known_or_not-blank fl next i is kind =
    ap (λ js. let x : Section = record { kind = kind; function_like = fl; items = js; next = 0 } in x) (if-map (map blank_item) (is_unknown kind) refl refl)

directive-blank : (d : Dialect) (fl : Bool) (next : ℕ) (is : List Item) → blank_section (directive d fl next is) ≡ directive d fl 0 (map blank_item is)
directive-blank d fl next [] = refl
directive-blank d fl next (i ∷ is) = known_or_not-blank fl next i is (kind_named d i)

abbrev pub blank_inside : Inside → Inside
blank_inside (InText is) = InText (map blank_item is)
blank_inside (InDirective fl is) = InDirective fl (map blank_item is)

ended-blank : (d : Dialect) (at : Inside) (next : ℕ) → blank_section (ended d at next) ≡ ended d (blank_inside at) 0
ended-blank d (InText is) next = refl
ended-blank d (InDirective fl is) next = directive-blank d fl next is

goes_into-blank : (at : Inside) (opens : Bool) (s : Streamed) → blank_inside (goes_into at opens s) ≡ goes_into (blank_inside at) opens (blank_streamed s)
goes_into-blank (InText is) opens s = ap InText (add_item-blank is s)
goes_into-blank (InDirective fl is) opens s = ap (InDirective (fl || opens)) (add_item-blank is s)

in_text-blank : (at : Inside) → in_text (blank_inside at) ≡ in_text at
in_text-blank (InText is) = refl
in_text-blank (InDirective fl is) = refl

cons-both : {A : Type 0} {a b : A} {xs ys : List A} → a ≡ b → xs ≡ ys → a ∷ xs ≡ b ∷ ys
cons-both p q = cc

-- an item that goes on with what is read, and one that begins something
module _ (d : Dialect) (ss : List Streamed) (cut : (at : Inside) → map blank_section (cut_from d at ss) ≡ cut_from d (blank_inside at) (map blank_streamed ss)) where
  on : (at : Inside) (opens : Bool) (s : Streamed) → map blank_section (cut_from d (goes_into at opens s) ss) ≡ cut_from d (goes_into (blank_inside at) opens (blank_streamed s)) (map blank_streamed ss)
  on at opens s = cut (goes_into at opens s) ∙ ap (λ z. cut_from d z (map blank_streamed ss)) (goes_into-blank at opens s)

  anew : (at begun : Inside) (next : ℕ) → map blank_section (ended d at next ∷ cut_from d begun ss) ≡ ended d (blank_inside at) 0 ∷ cut_from d (blank_inside begun) (map blank_streamed ss)
  anew at begun next = cons-both (ended-blank d at next) (cut begun)

  of_text : (at : Inside) (s : Streamed) →
      map blank_section (elim (in_text at) [ true ↦ cut_from d (goes_into at false s) ss | false ↦ ended d at s.begun ∷ cut_from d (InText (add_item [] s)) ss ])
      ≡ elim (in_text (blank_inside at)) [ true ↦ cut_from d (goes_into (blank_inside at) false (blank_streamed s)) (map blank_streamed ss) | false ↦ ended d (blank_inside at) 0 ∷ cut_from d (InText (add_item [] (blank_streamed s))) (map blank_streamed ss) ]
  of_text (InText is) s = on (InText is) false s
  of_text (InDirective fl is) s =
      anew (InDirective fl is) (InText (add_item [] s)) s.begun
      ∙ ap (λ z. ended d (blank_inside (InDirective fl is)) 0 ∷ cut_from d (InText z) (map blank_streamed ss)) (add_item-blank [] s)

  one : (at : Inside) (p : Part) (k : _) (text : List ℕ) (white : Bool) (line begun : ℕ) →
      (let s : Streamed = record { part = p; kind = k; text = text; white = white; line = line; begun = begun } in
      map blank_section (cut_from d at (s ∷ ss)) ≡ cut_from d (blank_inside at) (blank_streamed s ∷ map blank_streamed ss))
  one at BeginsDirective k text white line begun = anew at (InDirective false []) begun
  one at OpensParameters k text white line begun = on at true (record { part = OpensParameters; kind = k; text = text; white = white; line = line; begun = begun })
  one at OfDirective k text white line begun = on at false (record { part = OfDirective; kind = k; text = text; white = white; line = line; begun = begun })
  one at OfText k text white line begun = of_text at (record { part = OfText; kind = k; text = text; white = white; line = line; begun = begun })

pub cut_from-blank : (d : Dialect) (at : Inside) (ss : List Streamed) → map blank_section (cut_from d at ss) ≡ cut_from d (blank_inside at) (map blank_streamed ss)
cut_from-blank d at [] = ap (λ x. x ∷ []) (ended-blank d at 0)
cut_from-blank d at (s ∷ ss) = one d ss (λ z. cut_from-blank d z ss) at s.part s.kind s.text s.white s.line s.begun

-- Items of the same kinds, spellings and parts have the same stream, but for white space and lines.
pub streamed-blank : (b c : List ℕ) (after then : Bool) (is js : List ReadItem) (ps : List Part) →
    map (λ i. i.kind) is ≡ map (λ i. i.kind) js → map (λ i. bytes_of i.chars) is ≡ map (λ i. bytes_of i.chars) js →
    map blank_streamed (streamed b after is ps) ≡ map blank_streamed (streamed c then js ps)
streamed-blank b c after then [] [] ps k t = refl
streamed-blank b c after then [] (j ∷ js) ps k t = cc
streamed-blank b c after then (i ∷ is) [] ps k t = cc
streamed-blank b c after then (i ∷ is) (j ∷ js) [] k t = refl
streamed-blank b c after then (i ∷ is) (j ∷ js) (p ∷ ps) k t =
    let kind : i.kind ≡ j.kind = cc in
    let kinds : map (λ x. x.kind) is ≡ map (λ x. x.kind) js = cc in
    let text : bytes_of i.chars ≡ bytes_of j.chars = cc in
    let texts : map (λ x. bytes_of x.chars) is ≡ map (λ x. bytes_of x.chars) js = cc in
    cons-both
    (ap (λ z. let s : Streamed = record { part = p; kind = z; text = bytes_of i.chars; white = false; line = 0; begun = 0 } in s) kind
    ∙ ap (λ z. let s : Streamed = record { part = p; kind = j.kind; text = z; white = false; line = 0; begun = 0 } in s) text)
    (streamed-blank b c (is_comment i.kind) (is_comment j.kind) is js ps kinds texts)
