-- The cut of the items that were read, and of those that are to come.
use Rattle.std.proofs.Common.{◌≡◌, ◌∙◌, ℕ, Bool, true, false, List, [], ◌∷◌, ◌++◌, map, Option, Some, None, refl, sym, ap, subst, append_assoc}
use Rattle.std.proofs.lemmas.List.{append-nil}
use Rattle.c_chars.specs.Characters.{bytes_of, logical}
use Rattle.c_chars.specs.declared.Dialect.{Dialect}
use Rattle.c_grammar.specs.Grammar.{Unended}
use Rattle.c_grammar.specs.Items.{Place, LineStart, is_gap, IsLongest}
use Rattle.c_grammar.specs.Text.{ReadItem, Left, IsStep, IsReadUpTo, LexesText, piece_of}
use Rattle.c_grammar.specs.Twin.{parts_of}
use Rattle.c_grammar.proofs.Reading.{begun, stepped, ended}
use Rattle.c_lexer.specs.Fault.{IsOpenAt, IsFault, past_blank}
use Rattle.c_lexer.specs.Reading.{Reading}
use Rattle.c_lexer.specs.declared.fault.LexFault.{LexFault}
use Rattle.c_lexer.specs.declared.fault.LexFault.TheVariants.{UnterminatedComment}
use Rattle.pp_model.specs.Finding.{Items, is_comment, items_of}
use Rattle.pp_model.specs.Preprocess.{Lexed, NotLexed}
use Rattle.pp_model.specs.Stream.{Streamed, InText, cut_from, streamed, sections_of, source_by, source_of}
use Rattle.pp_model.proofs.Found.{items_are_found}
use Rattle.pp_items.specs.View.{section_shown, items_shown, streamed_shown, within_shown}
use Rattle.pp_items.specs.Walk.{streamed_at}
use Rattle.pp_items.specs.Cut.{sections_with}
use Rattle.pp_items.specs.declared.cut.Cutter.{Cutter}
use Rattle.pp_items.specs.declared.item.Streamed.{Streamed as StreamedValue}
use Rattle.pp_items.proofs.Opens.{lexes_not_open}

-- These items have been read, and what is cut of them goes on with those that are to come as the sections of all do.
pub record IsCutSoFar (d : Dialect) (text : List ℕ) (left : Left) (after : Bool) (cutter : Cutter) : Type 0 where
  pub items : List ReadItem
  pub read : IsReadUpTo d text items left
  pub told : (more : List ReadItem) → sections_with cutter (streamed text after more (parts_of d left.place (map piece_of more))) ≡ sections_of d text (items ++ more)

pub cut_begun : (d : Dialect) (text : List ℕ) (cutter : Cutter) → cutter.done.items ≡ [] → within_shown cutter.within (items_shown cutter.items) ≡ InText [] → cutter.dialect ≡ d
    → IsCutSoFar d text (record { place = LineStart; chars = logical d text }) false cutter
cut_begun d text cutter none in_text dialect = record {
  items = [];
  read = begun d text;
  told = λ more.
      let rest = streamed text false more (parts_of d LineStart (map piece_of more)) in
      ap (λ z. map section_shown z ++ cut_from cutter.dialect (within_shown cutter.within (items_shown cutter.items)) rest) none
      ∙ (ap (λ z. cut_from cutter.dialect z rest) in_text ∙ ap (λ z. cut_from z (InText []) rest) dialect);
}

pub cut_step : (d : Dialect) (text : List ℕ) (old new : Left) (after : Bool) (cutter next : Cutter) (s : StreamedValue) (read : ReadItem) → IsCutSoFar d text old after cutter → IsStep d old new read
    → streamed_shown s ≡ streamed_at text after old.place read → ((rest : List Streamed) → sections_with next rest ≡ sections_with cutter (streamed_shown s ∷ rest))
    → IsCutSoFar d text new (is_comment read.kind) next
cut_step d text old new after cutter next s read before step item more_cut = record {
  items = before.items ++ read ∷ [];
  read = stepped d text before.items old new read before.read step;
  told = λ more.
      let rest = λ (p : Place). streamed text (is_comment read.kind) more (parts_of d p (map piece_of more)) in
      more_cut (rest new.place)
      ∙ (ap (λ z. sections_with cutter (z ∷ rest new.place)) item
      ∙ (ap (λ p. sections_with cutter (streamed_at text after old.place read ∷ rest p)) step.place
      ∙ (before.told (read ∷ more) ∙ ap (sections_of d text) (sym (append_assoc before.items (read ∷ []) more)))));
}

-- where only a gap is left, the sections are those of the text
pub cut_ended : (d : Dialect) (text : List ℕ) (left : Left) (after : Bool) (cutter : Cutter) → IsCutSoFar d text left after cutter → is_gap (bytes_of left.chars) ≡ true → source_of d text ≡ Lexed (sections_with cutter [])
cut_ended d text left after cutter all gap =
    let lexes : LexesText d text all.items left.chars = ended d text all.items left all.read gap in
    ap (source_by d text) ((items_are_found d text all.items left.chars).1 lexes)
    ∙ ap Lexed (ap (sections_of d text) (sym (append-nil all.items)) ∙ sym (all.told []))

-- a text with a comment that nothing ends doesn't lex
pub open_source : (d : Dialect) (text : List ℕ) (at : ℕ) → IsOpenAt d text at → source_of d text ≡ NotLexed
open_source d text at unended = by (items_of d text) refl
  where
    by : (o : Option Items) → items_of d text ≡ o → source_of d text ≡ NotLexed
    by None e = ap (source_by d text) e
    by (Some is) e = absurd (lexes_not_open d text is.items is.last at ((items_are_found d text is.items is.last).0 e) unended)

-- where a comment that nothing ends is next, the text doesn't lex
pub open_fault : (d : Dialect) (text : List ℕ) (old : Reading) (fault : LexFault) (after : Bool) (cutter : Cutter) → old.dialect ≡ d → IsCutSoFar d text old.left after cutter → IsFault old fault → source_of d text ≡ NotLexed
open_fault d text old (UnterminatedComment start) after cutter dialect all fault =
    open_source d text start (record {
      items = all.items;
      left = old.left;
      read = all.read;
      unended = subst (λ z. IsLongest z Unended (bytes_of (past_blank old.left.chars)) []) dialect fault.1;
      start = fault.0;
    })
