use Rattle.std.proofs.Common.{◌≡◌, ◌∷◌, [], sym, subst, true, false}
use Rattle.c_grammar.specs.Grammar.{is_char_prefix}
use Rattle.c_lexer.proofs.Literals.{u8_in_c11, u8_in_c23}
use Rattle.c_lexer.proofs.word.has_u8_chars.Goals as goal

pub returns-in-C11 : goal.returns-in-C11
returns-in-C11 c = subst (λ d. false ≡ is_char_prefix d (117 ∷ 56 ∷ [])) (sym c.in-C11.is) u8_in_c11

pub returns-in-C23 : goal.returns-in-C23
returns-in-C23 c = subst (λ d. true ≡ is_char_prefix d (117 ∷ 56 ∷ [])) (sym c.in-C23.is) u8_in_c23
