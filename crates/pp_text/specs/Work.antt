-- How many steps are left at most: an included text costs as much as its sections, and includes of it go less deep.
use Rattle.std.specs.Prelude.{ℕ, zero, suc, ◌+◌, ◌*◌, List, [], ◌∷◌, length}
use Rattle.c_chars.specs.declared.Dialect.{Dialect}
use Rattle.pp_model.specs.Preprocess.{Source, Lexed, NotLexed}
use Rattle.pp_model.specs.Setting.{IncludeText}
use Rattle.pp_model.specs.Stream.{source_of}
use Rattle.pp_text.specs.declared.reading.Unread.{Unread}
use Rattle.pp_text.specs.declared.reading.Waiting.{Waiting}
use Rattle.pp_text.specs.declared.reading.Reading.{Reading}

-- how many sections a text has
abbrev pub count_of : Source → ℕ
count_of (Lexed xs) = length xs
count_of NotLexed = 0

-- how many sections the texts of includes have together
abbrev pub count_in : Dialect → List IncludeText → ℕ
count_in d [] = 0
count_in d (i ∷ is) = count_of (source_of d i.bytes) + count_in d is

-- what a section costs at most at a depth, where an included text has at most so many sections
abbrev pub cost : (most : ℕ) → (depth : ℕ) → ℕ
cost most zero = 1
cost most (suc depth) = most * cost most depth + 2

-- what the rest of a text costs
abbrev pub text_work : ℕ → Unread → ℕ
text_work most t = length t.sections.items * cost most t.depth + 1

-- what the texts that wait cost
abbrev pub waiting_work : ℕ → List Waiting → ℕ
waiting_work most [] = 0
waiting_work most (s ∷ ss) = text_work most s.text + waiting_work most ss

-- what all that is left costs
abbrev pub work : ℕ → Reading → ℕ
work most r = text_work most r.text + waiting_work most r.waiting.items
