-- The form at words that are written out: what a reader can hold against docs/PROFILE.md, "Words of the command".
use Rattle.std.proofs.Common.{◌≡◌, [], ◌∷◌, codes, refl, rules}
use Rattle.clap.proofs.OnLiterals.{clap_on_literals}
use Rattle.clap.specs.declared.error.kind.ErrorKind.TheVariants.{ArgumentConflict, InvalidValue, UnknownArgument}
use Rattle.command_words.specs.Command.{Gives, file_names, form_faults, rows_of_words, style_word}
use Rattle.command_words.specs.Said.{LacksFile}

-- no words
pub nothing_is_of_form : form_faults [] ≡ []
unfolding clap_on_literals form_faults
nothing_is_of_form = refl

pub nothing_means_file : style_word (rows_of_words []) ≡ codes "file"
unfolding clap_on_literals rows_of_words
nothing_means_file = refl

-- `--help`
pub help_is_unknown : form_faults (codes "--help" ∷ []) ≡ UnknownArgument ∷ []
unfolding clap_on_literals form_faults
help_is_unknown = refl

-- `-i -i`
pub twice_is_a_fault : form_faults (codes "-i" ∷ codes "-i" ∷ []) ≡ ArgumentConflict ∷ []
unfolding clap_on_literals form_faults
twice_is_a_fault = refl

-- `-i a.c b.c`
pub files_are_of_form : form_faults (codes "-i" ∷ codes "a.c" ∷ codes "b.c" ∷ []) ≡ []
unfolding clap_on_literals form_faults
files_are_of_form = refl

pub files_stand_in_order : file_names (rows_of_words (codes "-i" ∷ codes "a.c" ∷ codes "b.c" ∷ [])) ≡ codes "a.c" ∷ codes "b.c" ∷ []
unfolding clap_on_literals rows_of_words
files_stand_in_order = refl

pub letter_is_given : Gives (codes "in-place") (rows_of_words (codes "-i" ∷ codes "a.c" ∷ codes "b.c" ∷ []))
unfolding clap_on_literals rows_of_words
letter_is_given = refl

-- `--style=X` and `--style X`
pub value_after_equals : style_word (rows_of_words (codes "--style=X" ∷ [])) ≡ codes "X"
unfolding clap_on_literals rows_of_words
value_after_equals = refl

pub value_after_blank : style_word (rows_of_words (codes "--style" ∷ codes "X" ∷ [])) ≡ codes "X"
unfolding clap_on_literals rows_of_words
value_after_blank = refl

-- a value that begins with `-` only stands after `=`
pub hyphen_after_equals : form_faults (codes "--style=-X" ∷ []) ≡ []
unfolding clap_on_literals form_faults
hyphen_after_equals = refl

pub value_is_missing : form_faults (codes "--style" ∷ codes "--dump-config" ∷ []) ≡ InvalidValue ∷ []
unfolding clap_on_literals form_faults
value_is_missing = refl

-- `--` ends the words: what stands behind it are FILEs
pub end_alone_is_of_form : form_faults (codes "--" ∷ []) ≡ []
unfolding clap_on_literals form_faults
end_alone_is_of_form = refl

pub end_makes_files : file_names (rows_of_words (codes "--" ∷ codes "-i" ∷ [])) ≡ codes "-i" ∷ []
unfolding clap_on_literals rows_of_words
end_makes_files = refl

-- `-` is a FILE
pub hyphen_is_of_form : form_faults (codes "-" ∷ []) ≡ []
unfolding clap_on_literals form_faults
hyphen_is_of_form = refl

pub hyphen_is_a_file : file_names (rows_of_words (codes "-" ∷ [])) ≡ codes "-" ∷ []
unfolding clap_on_literals rows_of_words
hyphen_is_a_file = refl

-- `-i` alone lacks its FILE
pub letter_alone_is_of_form : form_faults (codes "-i" ∷ []) ≡ []
unfolding clap_on_literals form_faults
letter_alone_is_of_form = refl

pub letter_alone_lacks_file : LacksFile (rows_of_words (codes "-i" ∷ []))
unfolding clap_on_literals rows_of_words
letter_alone_lacks_file = record { in_place = refl; no_dump = search rules; no_file = refl }
