-- Each item of a file has a class.
use Rattle.std.proofs.Common.{◌≡◌, ◌∙◌, ℕ, suc, ◌<◌, Bool, true, false, not, List, [], ◌∷◌, length, get_or, refl, ap}
use Rattle.std.proofs.Common.{arith}
use Rattle.std.specs.Prelude.{⊤, if◌then◌else◌, bytes_eq, nat_eq, codes}
use Rattle.std.specs.List.{list_all, ends_with}
use Rattle.c_grammar.specs.Rewritten.{read_alone}
use Rattle.std.proofs.lemmas.Bool.{and_parts, not-true}
use Rattle.std.proofs.lemmas.Option.{slice_get-get_or}
use Rattle.item_kinds.specs.declared.ItemKind.{ItemKind}
use Rattle.token_arena.specs.Stored.{Stored}
use Rattle.token_arena.specs.Gaps.{Contents}
use Rattle.token_classes.specs.declared.class.TokenClass.{TokenClass}
use Rattle.token_classes.specs.declared.class.TokenClass.TheVariants.{TypeWord, CapitalWord, PlainWord, Other}
use Rattle.token_classes.specs.Words.{class_in, statement_words, call_words, type_words, named_class, is_in_capitals}
use Rattle.token_classes.specs.Words.{word_class, punctuators}
use Rattle.token_roles.specs.Classes.{is_nothing}
use Rattle.item_classes.specs.Viewed.{class_spelled, AreWithin, item_class, class_or_nothing}
use Rattle.item_classes.specs.Items.{no_item}

either : (b : Bool) (x y : TokenClass) → is_nothing x ≡ false → is_nothing y ≡ false → is_nothing (if b then x else y) ≡ false
either true x y left right = left
either false x y left right = right

row_named : (rows : List (List ℕ × TokenClass)) (s : List ℕ) (otherwise : TokenClass) → list_all (λ (row : List ℕ × TokenClass). not (is_nothing row.1)) rows ≡ true → is_nothing otherwise ≡ false → is_nothing (class_in rows s otherwise) ≡ false
row_named [] s otherwise all last = last
row_named (row ∷ rows) s otherwise all last =
    let parts = and_parts (not (is_nothing row.1)) (list_all (λ (row : List ℕ × TokenClass). not (is_nothing row.1)) rows) all in
    either (bytes_eq s row.0) row.1 (class_in rows s otherwise) (not-true (is_nothing row.1) parts.0) (row_named rows s otherwise parts.1 last)

word_named : (s : List ℕ) → is_nothing (word_class s) ≡ false
word_named s =
    let plain : is_nothing (named_class s) ≡ false = either (ends_with nat_eq s (codes "_t")) TypeWord (if is_in_capitals s then CapitalWord else PlainWord) refl (either (is_in_capitals s) CapitalWord PlainWord refl refl) in
    row_named statement_words s (class_in call_words s (class_in type_words s (named_class s))) refl
    (row_named call_words s (class_in type_words s (named_class s)) refl (row_named type_words s (named_class s) refl plain))

spelled_named : (kind : ItemKind) (s : List ℕ) → is_nothing (class_spelled kind s) ≡ false
spelled_named ItemKind.Identifier s = word_named s
spelled_named ItemKind.Punct s = row_named punctuators s Other refl refl
spelled_named _ s = refl

item_named : (arena : Contents) (id : ℕ) → id < length arena.tokens → is_nothing (item_class arena id) ≡ false
item_named arena id within =
    let token : Stored = get_or arena.tokens id no_item in
    ap (λ found. is_nothing (class_or_nothing arena.dialect found)) (slice_get-get_or arena.tokens id no_item within) ∙ spelled_named token.kind (read_alone arena.dialect token.raw)

-- so have these
abbrev pub AreNamed : Contents → List ℕ → Type 0
AreNamed arena [] = ⊤
AreNamed arena (id ∷ ids) = (is_nothing (item_class arena id) ≡ false) × AreNamed arena ids

pub are_named : (arena : Contents) (ids : List ℕ) → AreWithin arena ids → AreNamed arena ids
are_named arena [] within = tt
are_named arena (id ∷ ids) within = (item_named arena id (within 0 0 (omega arith)), are_named arena ids (λ k d inside. within (suc k) d (omega (arith, inside))))
