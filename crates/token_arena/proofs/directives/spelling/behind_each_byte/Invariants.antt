use Rattle.std.proofs.Common.{◌≡◌, ◌++◌, take, drop}
use Rattle.c_grammar.specs.Touch.{is_front}
use Rattle.c_grammar.specs.Rewritten.{read_alone}
use Rattle.token_arena.proofs.directives.spelling.behind_each_byte.Given as goal

abbrev pub invariant-loop-byte : goal.invariant-loop-byte
invariant-loop-byte l = record {
  front : is_front l.word (read_alone l.dialect l.raw) ≡ is_front (drop l.byte-index l.word) (read_alone l.dialect l.rest);
  whole : read_alone l.dialect l.raw ≡ take l.byte-index l.word ++ read_alone l.dialect l.rest;
}
