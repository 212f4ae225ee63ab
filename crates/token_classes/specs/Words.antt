-- The classes of words and of punctuators. docs/PROFILE.md has the words under "Statements and lines".
use Rattle.std.specs.Prelude.{◌==◌, ◌&&◌, not, ℕ, nat_le, nat_eq, Bool, List, [], ◌∷◌, ◌++◌, length, get_or, codes}
use Rattle.std.specs.Prelude.{bytes_eq, if◌then◌else◌}
use Rattle.std.specs.Char.{is_ascii_lowercase}
use Rattle.std.specs.List.{list_any, ends_with}
use Rattle.token_classes.specs.declared.class.TokenClass.{TokenClass}
use Rattle.token_classes.specs.declared.class.TokenClass.TheVariants.{If, Else, For, While, Do, Switch, Case, Default}
use Rattle.token_classes.specs.declared.class.TokenClass.TheVariants.{Return, Goto, Jump, Struct, Union, Enum, Extern}
use Rattle.token_classes.specs.declared.class.TokenClass.TheVariants.{SizeWord, AsmWord, CallWord, Volatile, Inline}
use Rattle.token_classes.specs.declared.class.TokenClass.TheVariants.{CapitalWord, PlainWord, TypeWord, OpenRound}
use Rattle.token_classes.specs.declared.class.TokenClass.TheVariants.{CloseRound, OpenSquare, CloseSquare, OpenBrace}
use Rattle.token_classes.specs.declared.class.TokenClass.TheVariants.{CloseBrace, Colon, Semicolon, Comma, Question}
use Rattle.token_classes.specs.declared.class.TokenClass.TheVariants.{Equals, OtherAssign, Arrow, Point, Ellipsis, Step}
use Rattle.token_classes.specs.declared.class.TokenClass.TheVariants.{Not, Star, Divide, Sign, Shift, Relation}
use Rattle.token_classes.specs.declared.class.TokenClass.TheVariants.{Equality, Ampersand, Caret, Bar, And, Or, Hash}

-- the class in the first row with this spelling, and the last argument where none has it
abbrev pub class_in : List (List ℕ × TokenClass) → List ℕ → TokenClass → TokenClass
class_in [] s other = other
class_in (row ∷ rows) s other = if bytes_eq s row.0 then row.1 else class_in rows s other

-- the words of statements (C11 6.8) and of blocks
abbrev pub statement_words : List (List ℕ × TokenClass)
statement_words =
    (codes "if", If) ∷ (codes "else", Else) ∷ (codes "for", For) ∷ (codes "while", While) ∷ (codes "do", Do)
    ∷ (codes "switch", Switch)
    ∷ (codes "case", Case) ∷ (codes "default", Default) ∷ (codes "return", Return) ∷ (codes "goto", Goto)
    ∷ (codes "break", Jump)
    ∷ (codes "continue", Jump) ∷ (codes "struct", Struct) ∷ (codes "union", Union) ∷ (codes "enum", Enum)
    ∷ (codes "extern", Extern) ∷ []

-- the words that a group in parentheses follows
abbrev pub call_words : List (List ℕ × TokenClass)
call_words =
    (codes "sizeof", SizeWord) ∷ (codes "_Alignof", SizeWord) ∷ (codes "_Alignas", CallWord)
    ∷ (codes "_Generic", CallWord)
    ∷ (codes "_Static_assert", CallWord) ∷ (codes "typeof", CallWord) ∷ (codes "__typeof__", CallWord)
    ∷ (codes "__attribute__", CallWord)
    ∷ (codes "asm", AsmWord) ∷ (codes "__asm__", AsmWord) ∷ (codes "__asm", AsmWord) ∷ []

-- the other words of types (C11 6.7.1 to 6.7.4)
abbrev pub type_words : List (List ℕ × TokenClass)
type_words =
    (codes "void", TypeWord) ∷ (codes "char", TypeWord) ∷ (codes "short", TypeWord) ∷ (codes "int", TypeWord)
    ∷ (codes "long", TypeWord)
    ∷ (codes "float", TypeWord) ∷ (codes "double", TypeWord) ∷ (codes "signed", TypeWord) ∷ (codes "unsigned", TypeWord)
    ∷ (codes "_Bool", TypeWord) ∷ (codes "_Complex", TypeWord) ∷ (codes "const", TypeWord)
    ∷ (codes "volatile", Volatile)
    ∷ (codes "restrict", TypeWord) ∷ (codes "static", TypeWord) ∷ (codes "typedef", TypeWord)
    ∷ (codes "register", TypeWord)
    ∷ (codes "inline", Inline) ∷ (codes "auto", TypeWord) ∷ (codes "_Atomic", TypeWord) ∷ (codes "_Noreturn", TypeWord)
    ∷ (codes "_Thread_local", TypeWord) ∷ []

-- all of these words
abbrev pub words : List (List ℕ × TokenClass)
words = statement_words ++ (call_words ++ type_words)

-- a row whose word begins with this character
abbrev pub begins : ℕ → List ℕ × TokenClass → Bool
begins b row = b == get_or row.0 0 0

-- at least two characters, and none of `a` to `z`
abbrev pub is_in_capitals : List ℕ → Bool
is_in_capitals s = nat_le 2 (length s) && not (list_any is_ascii_lowercase s)

-- a word of no table: one that ends in `_t` names a type, and every other one is plain
abbrev pub named_class : List ℕ → TokenClass
named_class s =
    if ends_with nat_eq s (codes "_t") then TypeWord else (if is_in_capitals s then CapitalWord else PlainWord)

-- the class of a word
abbrev pub word_class : List ℕ → TokenClass
word_class s = class_in statement_words s (class_in call_words s (class_in type_words s (named_class s)))

-- the punctuators that have a class of their own, with the digraphs that spell them (C11 6.4.6)
abbrev pub punctuators : List (List ℕ × TokenClass)
punctuators =
    (codes "(", OpenRound) ∷ (codes ")", CloseRound) ∷ (codes "[", OpenSquare) ∷ (codes "<:", OpenSquare)
    ∷ (codes "]", CloseSquare)
    ∷ (codes ":>", CloseSquare) ∷ (codes "{", OpenBrace) ∷ (codes "<%", OpenBrace) ∷ (codes "}", CloseBrace)
    ∷ (codes "%>", CloseBrace)
    ∷ (codes ":", Colon) ∷ (codes ";", Semicolon) ∷ (codes ",", Comma) ∷ (codes "?", Question) ∷ (codes "=", Equals)
    ∷ (codes "*=", OtherAssign)
    ∷ (codes "/=", OtherAssign) ∷ (codes "%=", OtherAssign) ∷ (codes "+=", OtherAssign) ∷ (codes "-=", OtherAssign)
    ∷ (codes "<<=", OtherAssign)
    ∷ (codes ">>=", OtherAssign) ∷ (codes "&=", OtherAssign) ∷ (codes "^=", OtherAssign) ∷ (codes "|=", OtherAssign)
    ∷ (codes "->", Arrow)
    ∷ (codes ".", Point) ∷ (codes "...", Ellipsis) ∷ (codes "++", Step) ∷ (codes "--", Step) ∷ (codes "!", Not)
    ∷ (codes "~", Not) ∷ (codes "*", Star)
    ∷ (codes "/", Divide) ∷ (codes "%", Divide) ∷ (codes "+", Sign) ∷ (codes "-", Sign) ∷ (codes "<<", Shift)
    ∷ (codes ">>", Shift)
    ∷ (codes "<", Relation) ∷ (codes ">", Relation) ∷ (codes "<=", Relation) ∷ (codes ">=", Relation)
    ∷ (codes "==", Equality)
    ∷ (codes "!=", Equality) ∷ (codes "&", Ampersand) ∷ (codes "^", Caret) ∷ (codes "|", Bar) ∷ (codes "&&", And)
    ∷ (codes "||", Or)
    ∷ (codes "#", Hash) ∷ (codes "%:", Hash) ∷ []
