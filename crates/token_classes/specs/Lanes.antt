-- The numbers of classes, and the tokens that are told by them.
use Rattle.std.specs.Prelude.{ℕ, Bool, not}
use Rattle.token_classes.specs.declared.class.TokenClass.{TokenClass}
use Rattle.token_classes.specs.declared.class.TokenClass.TheVariants.{If, Else, For, While, Do, Switch, Case, Default}
use Rattle.token_classes.specs.declared.class.TokenClass.TheVariants.{Return, Goto, Jump, Struct, Union, Enum, Extern}
use Rattle.token_classes.specs.declared.class.TokenClass.TheVariants.{SizeWord, AsmWord, CallWord, Volatile, Inline}
use Rattle.token_classes.specs.declared.class.TokenClass.TheVariants.{CapitalWord, PlainWord, TypeWord, OpenRound}
use Rattle.token_classes.specs.declared.class.TokenClass.TheVariants.{CloseRound, OpenSquare, CloseSquare, OpenBrace}
use Rattle.token_classes.specs.declared.class.TokenClass.TheVariants.{CloseBrace, Colon, Semicolon, Comma, Question}
use Rattle.token_classes.specs.declared.class.TokenClass.TheVariants.{Equals, OtherAssign, Arrow, Point, Ellipsis}
use Rattle.token_classes.specs.declared.class.TokenClass.TheVariants.{Step, Not, Star, Divide, Sign, Shift, Relation}
use Rattle.token_classes.specs.declared.class.TokenClass.TheVariants.{Equality, Ampersand, Caret, Bar, And, Or, Hash}
use Rattle.token_classes.specs.declared.class.TokenClass.TheVariants.{Literal, Text, LineComment, BlockComment, Other}
use Rattle.token_classes.specs.declared.class.TokenClass.TheVariants.{Nothing}
use Rattle.token_classes.specs.Classes.{is_bracket}

-- which class it is, as they are listed
abbrev pub number_of : TokenClass → ℕ
number_of If = 0
number_of Else = 1
number_of For = 2
number_of While = 3
number_of Do = 4
number_of Switch = 5
number_of Case = 6
number_of Default = 7
number_of Return = 8
number_of Goto = 9
number_of Jump = 10
number_of Struct = 11
number_of Union = 12
number_of Enum = 13
number_of Extern = 14
number_of SizeWord = 15
number_of AsmWord = 16
number_of CallWord = 17
number_of Volatile = 18
number_of Inline = 19
number_of CapitalWord = 20
number_of PlainWord = 21
number_of TypeWord = 22
number_of OpenRound = 23
number_of CloseRound = 24
number_of OpenSquare = 25
number_of CloseSquare = 26
number_of OpenBrace = 27
number_of CloseBrace = 28
number_of Colon = 29
number_of Semicolon = 30
number_of Comma = 31
number_of Question = 32
number_of Equals = 33
number_of OtherAssign = 34
number_of Arrow = 35
number_of Point = 36
number_of Ellipsis = 37
number_of Step = 38
number_of Not = 39
number_of Star = 40
number_of Divide = 41
number_of Sign = 42
number_of Shift = 43
number_of Relation = 44
number_of Equality = 45
number_of Ampersand = 46
number_of Caret = 47
number_of Bar = 48
number_of And = 49
number_of Or = 50
number_of Hash = 51
number_of Literal = 52
number_of Text = 53
number_of LineComment = 54
number_of BlockComment = 55
number_of Other = 56
number_of Nothing = 57

-- a token that is no bracket
abbrev pub is_quiet : TokenClass → Bool
is_quiet class = not (is_bracket class)
