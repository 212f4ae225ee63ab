-- Sets of classes of tokens.
use Rattle.std.specs.Prelude.{Bool, true, false}
use Rattle.token_classes.specs.declared.class.TokenClass.{TokenClass}
use Rattle.token_classes.specs.declared.class.TokenClass.TheVariants.{If, Else, For, While, Do, Switch, Case, Default}
use Rattle.token_classes.specs.declared.class.TokenClass.TheVariants.{Return, Goto, Jump, Struct, Union, Enum, Extern}
use Rattle.token_classes.specs.declared.class.TokenClass.TheVariants.{SizeWord, AsmWord, CallWord, Volatile, Inline}
use Rattle.token_classes.specs.declared.class.TokenClass.TheVariants.{CapitalWord, PlainWord, TypeWord, OpenRound}
use Rattle.token_classes.specs.declared.class.TokenClass.TheVariants.{CloseRound, OpenSquare, CloseSquare, OpenBrace}
use Rattle.token_classes.specs.declared.class.TokenClass.TheVariants.{CloseBrace, Colon, Semicolon, Comma, Question}
use Rattle.token_classes.specs.declared.class.TokenClass.TheVariants.{Equals, Text, LineComment, BlockComment}

-- a word
abbrev pub is_word : TokenClass → Bool
is_word If = true
is_word Else = true
is_word For = true
is_word While = true
is_word Do = true
is_word Switch = true
is_word Case = true
is_word Default = true
is_word Return = true
is_word Struct = true
is_word Union = true
is_word Enum = true
is_word Extern = true
is_word Goto = true
is_word Jump = true
is_word SizeWord = true
is_word AsmWord = true
is_word CallWord = true
is_word Volatile = true
is_word Inline = true
is_word CapitalWord = true
is_word PlainWord = true
is_word TypeWord = true
is_word _ = false

-- a plain word
abbrev pub is_plain : TokenClass → Bool
is_plain CapitalWord = true
is_plain PlainWord = true
is_plain _ = false

-- a word that begins a control statement (C11 6.8.4, 6.8.5)
abbrev pub is_control : TokenClass → Bool
is_control If = true
is_control Else = true
is_control For = true
is_control While = true
is_control Do = true
is_control Switch = true
is_control _ = false

-- an opening bracket
abbrev pub is_opener : TokenClass → Bool
is_opener OpenRound = true
is_opener OpenSquare = true
is_opener OpenBrace = true
is_opener _ = false

-- a bracket, opening or closing
abbrev pub is_bracket : TokenClass → Bool
is_bracket OpenRound = true
is_bracket CloseRound = true
is_bracket OpenSquare = true
is_bracket CloseSquare = true
is_bracket OpenBrace = true
is_bracket CloseBrace = true
is_bracket _ = false

-- after it a `{` opens a list of values
abbrev pub is_before_list : TokenClass → Bool
is_before_list Equals = true
is_before_list Return = true
is_before_list Comma = true
is_before_list OpenRound = true
is_before_list _ = false

-- after it `)` and `{` open a list of values
abbrev pub is_assigning : TokenClass → Bool
is_assigning Equals = true
is_assigning Return = true
is_assigning _ = false

-- a plain word in capitals
abbrev pub is_capital : TokenClass → Bool
is_capital CapitalWord = true
is_capital _ = false

-- one word each
abbrev pub is_if : TokenClass → Bool
is_if If = true
is_if _ = false

abbrev pub is_else : TokenClass → Bool
is_else Else = true
is_else _ = false

abbrev pub is_while : TokenClass → Bool
is_while While = true
is_while _ = false

abbrev pub is_do : TokenClass → Bool
is_do Do = true
is_do _ = false

abbrev pub is_switch : TokenClass → Bool
is_switch Switch = true
is_switch _ = false

abbrev pub is_case : TokenClass → Bool
is_case Case = true
is_case _ = false

abbrev pub is_default : TokenClass → Bool
is_default Default = true
is_default _ = false

abbrev pub is_struct : TokenClass → Bool
is_struct Struct = true
is_struct _ = false

abbrev pub is_union : TokenClass → Bool
is_union Union = true
is_union _ = false

abbrev pub is_enum : TokenClass → Bool
is_enum Enum = true
is_enum _ = false

abbrev pub is_extern : TokenClass → Bool
is_extern Extern = true
is_extern _ = false

abbrev pub is_call_word : TokenClass → Bool
is_call_word SizeWord = true
is_call_word AsmWord = true
is_call_word CallWord = true
is_call_word _ = false

abbrev pub is_open_round : TokenClass → Bool
is_open_round OpenRound = true
is_open_round _ = false

abbrev pub is_close_round : TokenClass → Bool
is_close_round CloseRound = true
is_close_round _ = false

abbrev pub is_open_brace : TokenClass → Bool
is_open_brace OpenBrace = true
is_open_brace _ = false

abbrev pub is_close_brace : TokenClass → Bool
is_close_brace CloseBrace = true
is_close_brace _ = false

abbrev pub is_colon : TokenClass → Bool
is_colon Colon = true
is_colon _ = false

abbrev pub is_semicolon : TokenClass → Bool
is_semicolon Semicolon = true
is_semicolon _ = false

abbrev pub is_comma : TokenClass → Bool
is_comma Comma = true
is_comma _ = false

abbrev pub is_question : TokenClass → Bool
is_question Question = true
is_question _ = false

abbrev pub is_text : TokenClass → Bool
is_text Text = true
is_text _ = false

abbrev pub is_comment : TokenClass → Bool
is_comment LineComment = true
is_comment BlockComment = true
is_comment _ = false

abbrev pub is_line_comment : TokenClass → Bool
is_line_comment LineComment = true
is_line_comment _ = false
