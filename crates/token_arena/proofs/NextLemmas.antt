-- The next item that the lexer gives, and the entry that is made of it.
use Rattle.std.proofs.Common.{◌≡◌, ◌==◌, ◌∙◌, ℕ, ◌+◌, ◌-◌, ◌≤◌, List, [], ◌∷◌, ◌++◌, length, take, drop, sym, ap, subst, arith}
use Rattle.std.specs.Prelude.{Option, Some, None, MatchOption}
use Rattle.c_chars.specs.declared.Dialect.{Dialect}
use Rattle.c_grammar.specs.Text.{IsStep, Left, start_of, end_of, raw_of}
use Rattle.c_chars.specs.declared.LogicalChar.{LogicalChar}
use Rattle.c_chars.proofs.Spans.{Ascend}
use Rattle.c_chars.specs.Characters.{bytes_of, mark_len}
use Rattle.c_grammar.specs.Grammar.{Unended}
use Rattle.c_grammar.specs.Items.{IsLongest}
use Rattle.c_lexer.specs.Fault.{IsFault, IsOpenAt, past_blank}
use Rattle.c_lexer.specs.Reading.{Reading, IsNextLexeme}
use Rattle.c_lexer.specs.declared.fault.LexFault.TheVariants.{UnterminatedComment}
use Rattle.c_lexer.specs.declared.item.Lexeme.{Lexeme}
use Rattle.token_arena.specs.Stored.{Stored, stored_of}
use Rattle.token_arena.specs.Entries.{kept_by, kept_by_all, entry_of, IsPlain, IsSpelled, IsTold}
use Rattle.token_arena.specs.Hashes.{hashes_from, is_likely_hash, may_be_hash}
use Rattle.token_arena.specs.declared.arena.Entry.{Entry}
use Rattle.token_arena.specs.declared.facts.Told.{Told}
use Rattle.token_arena.proofs.EntryLemmas.{length_kept}
use Rattle.token_arena.proofs.GapLemmas.{few}
use Rattle.token_arena.proofs.Hashes.{hash_pushed}
use Rattle.token_arena.proofs.KeptLemmas.{IsKeptUpTo, kept_by_all-push, kept_step}
use Rattle.token_arena.proofs.Remarks.{remark_of}
use Rattle.token_arena.proofs.Spans.{IsSpanned, spanned_step, step_shorter}
use Rattle.token_arena.proofs.StepLemmas.{length-raw, entry_told, spelled_told}

-- The item is in the text, behind what was read.
pub record IsBehind (text : List ℕ) (at start : ℕ) (raw : List ℕ) : Type 0 where
  pub later : at ≤ start
  pub within : start + length raw ≤ length text

-- the step of the lexer as one over this text
step_of : (d : Dialect) (old new : Reading) (lexeme : Lexeme) → old.dialect ≡ d → (next : IsNextLexeme old new lexeme) → IsStep d old.left new.left next.next.read
step_of d old new lexeme e next = subst (λ z. IsStep z old.left new.left next.next.read) e next.next.step

span_of : (d : Dialect) (text : List ℕ) (old new : Reading) (entries : List Entry) (at : ℕ) (lexeme : Lexeme) → IsKeptUpTo d text old.left entries at
    → (next : IsNextLexeme old new lexeme) → IsSpanned at (length text) next.next.read new.left.chars
span_of d text old new entries at lexeme before next =
    spanned_step at (length text) old.left.chars new.left.chars next.next.read before.up next.next.step.whole (step_shorter old.dialect old.left new.left next.next.read next.next.step).0

pub next_behind : (d : Dialect) (text : List ℕ) (old new : Reading) (entries : List Entry) (at : ℕ) (lexeme : Lexeme)
    → old.text ≡ text → IsKeptUpTo d text old.left entries at → IsNextLexeme old new lexeme → IsBehind text at lexeme.item.start lexeme.item.raw.now
next_behind d text old new entries at lexeme text_is before next =
    let span : IsSpanned at (length text) next.next.read new.left.chars = span_of d text old new entries at lexeme before next in
    let start : lexeme.item.start ≡ start_of next.next.read = next.next.start_is in
    let len : length lexeme.item.raw.now ≡ end_of next.next.read - start_of next.next.read =
    ap length (next.next.raw_is ∙ ap (λ t. raw_of t next.next.read) text_is) ∙ length-raw text at next.next.read new.left.chars span in
    record {
      later = omega (arith, start, span.later);
      within = omega (arith, start, len, span.some, span.within);
    }

pub next_kept : (d : Dialect) (text : List ℕ) (old new : Reading) (entries : List Entry) (at : ℕ) (lexeme : Lexeme)
    → old.text ≡ text → old.dialect ≡ d → IsKeptUpTo d text old.left entries at → IsNextLexeme old new lexeme
    → (told : Told) → IsTold told lexeme.item.raw.now
    → (entry : Entry) → entry ≡ entry_of lexeme at told
    → IsKeptUpTo d text new.left (entries ++ entry ∷ []) (entry.start + entry.len)
next_kept d text old new entries at lexeme text_is dialect_is before next told holds entry entry_is =
    let made : Entry = entry_of lexeme at told in
    let span : IsSpanned at (length text) next.next.read new.left.chars = span_of d text old new entries at lexeme before next in
    let behind : IsBehind text at lexeme.item.start lexeme.item.raw.now = next_behind d text old new entries at lexeme text_is before next in
    let start_is : lexeme.item.start ≡ start_of next.next.read = next.next.start_is in
    let len : length lexeme.item.raw.now ≡ end_of next.next.read - start_of next.next.read =
    ap length (next.next.raw_is ∙ ap (λ t. raw_of t next.next.read) text_is) ∙ length-raw text at next.next.read new.left.chars span in
    let same : kept_by text (length entries == 0) made ≡ stored_of text (length entries == 0) at next.next.read =
    entry_told text at (length entries == 0) told old new lexeme new.left.chars text_is next span in
    let raws : take made.len (drop made.start text) ≡ lexeme.item.raw.now =
    ap (λ (t : Stored). t.raw) same ∙ sym (next.next.raw_is ∙ ap (λ t. raw_of t next.next.read) text_is) in
    let plain : IsPlain text made = subst (IsSpelled made.spelled) (sym raws) (spelled_told lexeme.back told lexeme.item.raw.now holds) in
    let stops : made.start + made.len ≡ end_of next.next.read = omega (arith, start_is, len, span.some) in
    let all : IsKeptUpTo d text new.left (entries ++ made ∷ []) (made.start + made.len) =
    kept_step d text old.left new.left entries made at (made.start + made.len) next.next.read before (step_of d old new lexeme dialect_is next) span same behind.within plain stops in
    subst (λ (e : Entry). IsKeptUpTo d text new.left (entries ++ e ∷ []) (e.start + e.len)) (sym entry_is) all

-- the same, where the lexer tells the offsets
pub next_kept_behind : (d : Dialect) (text : List ℕ) (old new : Reading) (entries : List Entry) (lexeme : Lexeme)
    → old.text ≡ text → old.dialect ≡ d → IsKeptUpTo d text old.left entries old.at → IsNextLexeme old new lexeme
    → new.at ≡ lexeme.item.start + length lexeme.item.raw.now
    → (told : Told) → IsTold told lexeme.item.raw.now
    → (gap : ℕ) → gap ≡ old.at
    → (entry : Entry) → entry ≡ entry_of lexeme gap told
    → IsKeptUpTo d text new.left (entries ++ entry ∷ []) new.at
next_kept_behind d text old new entries lexeme text_is dialect_is before next behind told holds gap gap_is entry entry_is =
    let same : entry ≡ entry_of lexeme old.at told = entry_is ∙ ap (λ k. entry_of lexeme k told) gap_is in
    let stop : entry.start + entry.len ≡ new.at = ap (λ (e : Entry). e.start + e.len) same ∙ sym behind in
    subst (λ k. IsKeptUpTo d text new.left (entries ++ entry ∷ []) k) stop
    (next_kept d text old new entries old.at lexeme text_is dialect_is before next told holds entry same)

-- its bytes are those of the text that its entry names
next_raw : (d : Dialect) (text : List ℕ) (old new : Reading) (entries : List Entry) (at : ℕ) (lexeme : Lexeme)
    → old.text ≡ text → IsKeptUpTo d text old.left entries at → IsNextLexeme old new lexeme → take (length lexeme.item.raw.now) (drop lexeme.item.start text) ≡ lexeme.item.raw.now
next_raw d text old new entries at lexeme text_is before next =
    let span : IsSpanned at (length text) next.next.read new.left.chars = span_of d text old new entries at lexeme before next in
    ap (λ (t : Stored). t.raw) (entry_told text at (length entries == 0) Told.Nothing old new lexeme new.left.chars text_is next span)
    ∙ sym (next.next.raw_is ∙ ap (λ t. raw_of t next.next.read) text_is)

-- its number is noted where it may be a `#`
pub hash_noted : (d : Dialect) (text : List ℕ) (old new : Reading) (entries : List Entry) (lexeme : Lexeme)
    → old.text ≡ text → IsKeptUpTo d text old.left entries old.at → IsNextLexeme old new lexeme
    → (told : Told) (gap : ℕ) (entry : Entry) → entry ≡ entry_of lexeme gap told
    → (hashes more : List ℕ) (id : ℕ) → hashes ≡ hashes_from 0 (kept_by_all text entries) → id ≡ length entries → more ≡ hashes ++ remark_of id (may_be_hash lexeme.item.kind lexeme.item.raw.now)
    → more ≡ hashes_from 0 (kept_by_all text (entries ++ entry ∷ []))
hash_noted d text old new entries lexeme text_is kept next told gap entry entry_is hashes more id before id_is more_is =
    let raw = next_raw d text old new entries old.at lexeme text_is kept next in
    let likely : may_be_hash lexeme.item.kind lexeme.item.raw.now ≡ is_likely_hash (kept_by text (length entries == 0) entry) =
    sym (ap (λ (e : Entry). may_be_hash e.kind (take e.len (drop e.start text))) entry_is ∙ ap (may_be_hash lexeme.item.kind) raw) in
    hash_pushed (kept_by_all text entries) (kept_by_all text (entries ++ entry ∷ [])) (kept_by text (length entries == 0) entry) hashes more id (may_be_hash lexeme.item.kind lexeme.item.raw.now)
    (kept_by_all-push text entries entry) before (id_is ∙ sym (length_kept text entries)) likely more_is

ascend_within : (at stop : ℕ) (s : List LogicalChar) → Ascend at stop s → at ≤ stop
ascend_within at stop [] up = up
ascend_within at stop (c ∷ s) up =
    let more = ascend_within c.to stop s up.2 in
    omega (arith, up.0, up.1, more)

-- the items that were read end within the text
pub kept_within : (d : Dialect) (text : List ℕ) (left : Left) (entries : List Entry) (at : ℕ) → IsKeptUpTo d text left entries at → at ≤ length text
kept_within d text left entries at kept = ascend_within at (length text) left.chars kept.up

-- each item has a byte
pub few_kept : (d : Dialect) (text : List ℕ) (left : Left) (entries : List Entry) (at : ℕ) → IsKeptUpTo d text left entries at → length entries ≤ length text
few_kept d text left entries at kept =
    let room = few text (mark_len text) (kept_by_all text entries) kept.stand in
    let count = length_kept text entries in
    omega (arith, room, count)

-- an open comment behind the items that were read
pub kept_open : (d : Dialect) (text : List ℕ) (old : Reading) (entries : List Entry) (at start : ℕ) → old.dialect ≡ d → IsKeptUpTo d text old.left entries at
    → IsFault old (UnterminatedComment start) → IsOpenAt d text start
kept_open d text old entries at start e all fault =
    record { items = all.items; left = old.left; read = all.read; unended = subst (λ z. IsLongest z Unended (bytes_of (past_blank old.left.chars)) []) e fault.1; start = fault.0 }

-- what is known of an option, where it is one or none
pub at_some : {A : Type 0} (o : Option A) (x : A) (P : Type 0) (Q : A → Type 0) → o ≡ Some x → MatchOption o P Q → Q x
at_some o x P Q e h = subst (λ z. MatchOption z P Q) e h

pub at_none : {A : Type 0} (o : Option A) (P : Type 0) (Q : A → Type 0) → o ≡ None → MatchOption o P Q → P
at_none o P Q e h = subst (λ z. MatchOption z P Q) e h
