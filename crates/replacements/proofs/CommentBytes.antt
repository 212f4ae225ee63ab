-- The bytes that comments begin with.
use Rattle.std.proofs.Common.{◌≡◌, ◌==◌, ◌||◌, ◌∙◌, ◌<◌, ◌⊎◌, inl, inr, ℕ, true, false, Some, List, [], ◌∷◌, ◌++◌, length, get_or, slice_get, sym, ap, arith, eq-eqb}
use Rattle.std.proofs.lemmas.Bool.{cases_Bool, false≢true, or_parts}
use Rattle.c_chars.specs.Characters.{bytes_of}
use Rattle.c_chars.specs.declared.Dialect.{Dialect}
use Rattle.c_grammar.specs.Fitting.{is_comment}
use Rattle.c_grammar.specs.Grammar.{IsHeaderName, Spells, Whole}
use Rattle.c_grammar.specs.Rewritten.{read_alone}
use Rattle.item_kinds.specs.declared.ItemKind.{ItemKind}
use Rattle.item_kinds.specs.declared.ItemKind.TheVariants.{HeaderName}
use Rattle.token_arena.specs.Gaps.{Contents}
use Rattle.token_arena.specs.Holds.{HoldsItems}
use Rattle.token_arena.specs.Stored.{Stored}
use Rattle.replacements.specs.Stances.{may_begin_hash}
use Rattle.replacements.proofs.Spelled.{plain_alone}
use Rattle.replacements.proofs.Standing.{read_there}

no_header : ItemKind.BlockComment ≡ HeaderName → ⊥
no_header e = cc

no_header_line : ItemKind.LineComment ≡ HeaderName → ⊥
no_header_line e = cc

-- a comment is spelled with a slash first
slash_first : (d : Dialect) (kind : ItemKind) (s : List ℕ) → is_comment kind ≡ true → ((kind ≡ HeaderName) × IsHeaderName s) ⊎ Spells d (Whole kind) s → (rest : List ℕ) × (s ≡ 47 ∷ rest)
slash_first d ItemKind.BlockComment s is (inl h) = absurd (no_header h.0)
slash_first d ItemKind.BlockComment s is (inr h) = (42 ∷ (h.body ++ 42 ∷ 47 ∷ []), h.whole)
slash_first d ItemKind.LineComment s is (inl h) = absurd (no_header_line h.0)
slash_first d ItemKind.LineComment s is (inr h) = (47 ∷ h.body, h.whole)
slash_first d ItemKind.Identifier s is h = absurd (false≢true is)
slash_first d ItemKind.Number s is h = absurd (false≢true is)
slash_first d ItemKind.CharConst s is h = absurd (false≢true is)
slash_first d ItemKind.StringLit s is h = absurd (false≢true is)
slash_first d ItemKind.HeaderName s is h = absurd (false≢true is)
slash_first d ItemKind.Punct s is h = absurd (false≢true is)
slash_first d ItemKind.StrayQuote s is h = absurd (false≢true is)
slash_first d ItemKind.Other s is h = absurd (false≢true is)

same_first : (b c : ℕ) (s t : List ℕ) → b ∷ s ≡ c ∷ t → b ≡ c
same_first b c s t e = cc

-- bytes that spell a slash first begin with it, or with a splice or a trigraph
other_first : (d : Dialect) (raw rest : List ℕ) → 0 < length raw → may_begin_hash (get_or raw 0 0) ≡ false → (get_or raw 0 0 == 47) ≡ false → read_alone d raw ≡ 47 ∷ rest → ⊥
other_first d [] rest some hash slash is = absurd (omega (arith, some))
other_first d (b ∷ s) rest some hash slash is =
    let sharp = or_parts (b == 35) ((b == 37) || ((b == 63) || ((b == 13) || (b == 92)))) hash in
    let percent = or_parts (b == 37) ((b == 63) || ((b == 13) || (b == 92))) sharp.1 in
    let question = or_parts (b == 63) ((b == 13) || (b == 92)) percent.1 in
    let return = or_parts (b == 13) (b == 92) question.1 in
    let reads : read_alone d (b ∷ s) ≡ b ∷ read_alone d s = plain_alone d b s question.0 return.0 return.1 in
    false≢true (sym slash ∙ eq-eqb b 47 (same_first b 47 (read_alone d s) rest (sym reads ∙ is)))

-- an item that begins with another byte is no comment
pub no_comment : (arena : Contents) (place : ℕ) (t : Stored) → HoldsItems arena → slice_get arena.tokens place ≡ Some t → 0 < length t.raw → may_begin_hash (get_or t.raw 0 0) ≡ false → (get_or t.raw 0 0 == 47) ≡ false
    → is_comment t.kind ≡ false
no_comment arena place t holds here some hash slash = elim (cases_Bool (is_comment t.kind)) [
  | inr other ↦ other
  | inl comment ↦
      let there = read_there arena place t holds here in
      let first = slash_first arena.dialect there.item.kind (bytes_of there.item.chars) (sym (ap is_comment there.kind) ∙ comment) there.read.spells in
      absurd (other_first arena.dialect t.raw first.0 some hash slash (ap (read_alone arena.dialect) there.raw ∙ (there.read.reads.spelling ∙ first.1)))
]
