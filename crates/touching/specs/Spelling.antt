-- How an item is spelled.
use Rattle.std.specs.Prelude.{ℕ, List}
use Rattle.c_chars.specs.Characters.{bytes_of, logical}
use Rattle.c_chars.specs.declared.Dialect.{Dialect}

-- the characters of these bytes, splices taken out and trigraphs replaced (C11 5.1.1.2, phases 1 and 2)
abbrev pub spelling : Dialect → List ℕ → List ℕ
spelling d raw = bytes_of (logical d raw)
