-- Tokens of lines.
use Rattle.std.specs.Prelude.{false}
use Rattle.item_kinds.specs.declared.ItemKind.TheVariants.{Other}
use Rattle.line_tokens.specs.declared.LineTok.{LineTok}
use Rattle.line_tokens.specs.declared.role.Role.TheVariants.{Word}

-- what a list of tokens has past its end
abbrev pub no_token : LineTok
no_token = record {
  id = record { 0 = 0 };
  role = Word;
  power = 0;
  depth = 0;
  trailing_list = false;
  held = false;
  touch = false;
  directive = false;
  gap = record { lines = 0; empty = false; white = false; splice = false; began = false };
  kind = Other;
  rows = 0;
  first_width = 0;
  last_width = 0;
}
