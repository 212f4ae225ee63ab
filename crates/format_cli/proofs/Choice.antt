-- Words say one thing.
use Rattle.std.proofs.Common.{◌≡◌, ◌≢◌, ◌∙◌, ℕ, Bool, true, false, List, [], None, Some, Ok, IsTrue, IsFalse, IsSome, ap, inr, refl, sym}
use Rattle.std.specs.declared.option.Option.{Option}
use Rattle.std.proofs.lemmas.Bool.{false≢true}
use Rattle.command_words.specs.Command.{generate_word, rows_of_words}
use Rattle.command_words.specs.Generate.{generate_of}
use Rattle.command_words.specs.Said.{Generates, Reads}
use Rattle.command_words.specs.declared.pieces.Generate.{Generate}
use Rattle.command_words.specs.declared.read.Words.{Words}
use Rattle.command_refusals.proofs.OneChoice.{IsSameChoice, one_choice}
use Rattle.format_cli.specs.Account.{files_of}

pub one_style : (words : List (List ℕ)) (a b : Words) → Reads words (Ok a) → Reads words (Ok b) → IsSameChoice a.style b.style
one_style words a b p q = one_choice _ a.style b.style p.2.style q.2.style

pub one_list : (words : List (List ℕ)) (a b : Words) → Reads words (Ok a) → Reads words (Ok b) → files_of a ≡ files_of b
one_list words a b p q = p.2.files ∙ sym q.2.files

pub one_dump : (words : List (List ℕ)) (a b : Words) → Reads words (Ok a) → Reads words (Ok b) → IsTrue a.dump_config → IsFalse b.dump_config → ⊥
one_dump words a b p q dumps not = false≢true (sym not ∙ q.2.dump_config.1 (p.2.dump_config.0 dumps))

pub one_place : (words : List (List ℕ)) (a b : Words) → Reads words (Ok a) → Reads words (Ok b) → IsTrue a.in_place → IsTrue b.in_place
one_place words a b p q is = q.2.in_place.1 (p.2.in_place.0 is)

false_from : (b : Bool) → (IsTrue b → ⊥) → IsFalse b
false_from true never = absurd (never refl)
false_from false never = refl

pub one_dry : (words : List (List ℕ)) (a b : Words) → Reads words (Ok a) → Reads words (Ok b) → IsFalse a.dry_run → IsFalse b.dry_run
one_dry words a b p q not = false_from b.dry_run (λ is. false≢true (sym not ∙ p.2.dry_run.1 (q.2.dry_run.0 is)))

pub one_made : (words : List (List ℕ)) (a b : Words) → Reads words (Ok a) → Reads words (Ok b) → a.generate ≡ b.generate
one_made words a b p q = sym p.4.value ∙ q.4.value

-- where `--generate` is given an input is made
value_made : (words : List (List ℕ)) (said : Words) (value : Option (List ℕ)) → generate_word (rows_of_words words) ≡ value → Generates (rows_of_words words) said → IsSome value → said.generate ≡ None → ⊥
value_made words said None is k some none = false≢true some
value_made words said (Some word) is k some none = k.in_form word (record { given = is; bad = sym (ap generate_of is) ∙ k.value ∙ none })

pub is_made : (words : List (List ℕ)) (said : Words) → Reads words (Ok said) → IsSome (generate_word (rows_of_words words)) → said.generate ≡ None → ⊥
is_made words said reads some none = value_made words said (generate_word (rows_of_words words)) refl reads.4 some none

-- an input that is made has its word
word_of : (value : Option (List ℕ)) (generate : Generate) → generate_of value ≡ Some generate → IsSome value
word_of None generate is = let wrong : None ≡ Some generate = is in cc
word_of (Some word) generate is = refl

pub made_by : (words : List (List ℕ)) (said : Words) (generate : Generate) → Reads words (Ok said) → said.generate ≡ Some generate → IsSome (generate_word (rows_of_words words))
made_by words said generate reads is = word_of (generate_word (rows_of_words words)) generate (reads.4.value ∙ is)

-- and no FILE stands beside it
pub made_alone : (words : List (List ℕ)) (said : Words) → Reads words (Ok said) → IsSome (generate_word (rows_of_words words)) → files_of said ≢ [] → ⊥
made_alone words said reads some files = reads.4.alone (record { generate = some; other = inr (inr (λ none. files (reads.2.files ∙ none))) })
