-- How tightly operators bind.
use Rattle.std.specs.Prelude.{ℕ, if◌then◌else◌}
use Rattle.line_tokens.specs.Roles.{is_binary}
use Rattle.token_classes.specs.declared.class.TokenClass.{TokenClass}
use Rattle.token_classes.specs.declared.class.TokenClass.TheVariants.{Or, And, Bar, Caret, Ampersand, Equality}
use Rattle.token_classes.specs.declared.class.TokenClass.TheVariants.{Relation, Shift, Sign, Star, Divide}
use Rattle.token_roles.specs.declared.left.Seen.{Seen}

-- how tightly an operator between two operands binds
abbrev pub binding : TokenClass → ℕ
binding Or = 4
binding And = 5
binding Bar = 6
binding Caret = 7
binding Ampersand = 8
binding Equality = 9
binding Relation = 10
binding Shift = 12
binding Sign = 13
binding Star = 14
binding Divide = 14
binding _ = 0

abbrev pub power : Seen → ℕ
power seen = if is_binary seen.role then binding seen.class else 0
