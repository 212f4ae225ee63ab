-- Tokens that change little of what stands to the left.
use Rattle.std.proofs.Common.{◌≡◌, true, false, refl}
use Rattle.token_classes.specs.declared.class.TokenClass.{TokenClass}
use Rattle.token_classes.specs.declared.class.TokenClass.TheVariants.{If, Else, For, While, Do, Switch, Case, Default, Jump, Struct, Union, Enum, Extern, SizeWord, CallWord, CapitalWord, PlainWord, TypeWord, Divide, Shift, Relation, Caret, Or, OpenRound, CloseRound, OpenSquare, CloseSquare, OpenBrace, CloseBrace}
use Rattle.token_roles.specs.Classes.{is_equals, is_asm, is_asm_tail, is_still}

-- it is no `=`, and doesn't go with `asm`
pub record IsStill (class : TokenClass) : Type 0 where
  pub equals : is_equals class ≡ false
  pub asm : is_asm class ≡ false
  pub tail : is_asm_tail class ≡ false

pub still_token : (class : TokenClass) → is_still class ≡ true → IsStill class
still_token If e = record { equals = refl; asm = refl; tail = refl }
still_token Else e = record { equals = refl; asm = refl; tail = refl }
still_token For e = record { equals = refl; asm = refl; tail = refl }
still_token While e = record { equals = refl; asm = refl; tail = refl }
still_token Do e = record { equals = refl; asm = refl; tail = refl }
still_token Switch e = record { equals = refl; asm = refl; tail = refl }
still_token Case e = record { equals = refl; asm = refl; tail = refl }
still_token Default e = record { equals = refl; asm = refl; tail = refl }
still_token Jump e = record { equals = refl; asm = refl; tail = refl }
still_token Struct e = record { equals = refl; asm = refl; tail = refl }
still_token Union e = record { equals = refl; asm = refl; tail = refl }
still_token Enum e = record { equals = refl; asm = refl; tail = refl }
still_token Extern e = record { equals = refl; asm = refl; tail = refl }
still_token SizeWord e = record { equals = refl; asm = refl; tail = refl }
still_token CallWord e = record { equals = refl; asm = refl; tail = refl }
still_token CapitalWord e = record { equals = refl; asm = refl; tail = refl }
still_token PlainWord e = record { equals = refl; asm = refl; tail = refl }
still_token TypeWord e = record { equals = refl; asm = refl; tail = refl }
still_token Divide e = record { equals = refl; asm = refl; tail = refl }
still_token Shift e = record { equals = refl; asm = refl; tail = refl }
still_token Relation e = record { equals = refl; asm = refl; tail = refl }
still_token Caret e = record { equals = refl; asm = refl; tail = refl }
still_token Or e = record { equals = refl; asm = refl; tail = refl }
still_token OpenRound e = record { equals = refl; asm = refl; tail = refl }
still_token CloseRound e = record { equals = refl; asm = refl; tail = refl }
still_token OpenSquare e = record { equals = refl; asm = refl; tail = refl }
still_token CloseSquare e = record { equals = refl; asm = refl; tail = refl }
still_token OpenBrace e = record { equals = refl; asm = refl; tail = refl }
still_token CloseBrace e = record { equals = refl; asm = refl; tail = refl }
still_token _ e = cc
