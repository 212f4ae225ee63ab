-- The end of two lists that are compared.
use Rattle.std.proofs.Common.{◌≡◌, ◌≤◌, ℕ, suc, Bool, false, List, [], ◌∷◌, length, map, drop, refl, ap, sym, ◌∙◌, rules, tests}
use Rattle.std.proofs.lemmas.List.{drop_all}
use Rattle.std.specs.Prelude.{nat_eq}
use Rattle.pp_model.specs.Token.{PpToken, PpTokens, Spaceds, erase_tokens, erase_parts, tokens_eq, parts_eq, no_token, no_part}
use Rattle.pp_events.specs.View.{shown, shown_spaced, shown_tokens, shown_spaceds, tokens_of, spaceds_of, token_step, tokens_step, spaced_step, spaceds_step}
use Rattle.pp_events.specs.declared.token.PpToken.{PpToken as TokenValue}
use Rattle.pp_events.specs.declared.token.Spaced.{Spaced as SpacedValue}
use Rattle.pp_events.specs.declared.token.PpTokens.{PpTokens as TokensValue}
use Rattle.pp_events.specs.declared.token.SpacedList.{SpacedList as PartsValue}
use Rattle.pp_events.specs.declared.token.PpToken.TheViews.{out-PpTokens, out-SpacedList}
use Rattle.pp_events.specs.declared.token.PpToken.TheFolds.{fold_out-PpTokens, fold_out-SpacedList}

none_left : (n : ℕ) → nat_eq (suc n) 0 ≡ false
none_left n = search (rules, tests)

pub tokens_end : (xs : List TokenValue) → tokens_eq no_token (erase_tokens (tokens_of (map shown xs))) ≡ nat_eq (length xs) 0
tokens_end [] = refl
tokens_end (x ∷ xs) = sym (none_left (length xs))

pub parts_end : (xs : List SpacedValue) → parts_eq no_part (erase_parts (spaceds_of (map shown_spaced xs))) ≡ nat_eq (length xs) 0
parts_end [] = refl
parts_end (x ∷ xs) = sym (none_left (length xs))

pub tokens_all : (xs : List TokenValue) (i : ℕ) (ys : List TokenValue) → length xs ≤ i → tokens_eq (erase_tokens (tokens_of (map shown (drop i xs)))) (erase_tokens (tokens_of (map shown ys))) ≡ nat_eq (length ys) 0
tokens_all xs i ys h = ap (λ zs. tokens_eq (erase_tokens (tokens_of (map shown zs))) (erase_tokens (tokens_of (map shown ys)))) (drop_all i xs h) ∙ tokens_end ys

pub parts_all : (xs : List SpacedValue) (i : ℕ) (ys : List SpacedValue) → length xs ≤ i → parts_eq (erase_parts (spaceds_of (map shown_spaced (drop i xs)))) (erase_parts (spaceds_of (map shown_spaced ys))) ≡ nat_eq (length ys) 0
parts_all xs i ys h = ap (λ zs. parts_eq (erase_parts (spaceds_of (map shown_spaced zs))) (erase_parts (spaceds_of (map shown_spaced ys)))) (drop_all i xs h) ∙ parts_end ys

pub tokens_out : (ts : TokensValue) → shown_tokens ts ≡ tokens_of (map shown (out-PpTokens ts).items.items)
tokens_out = fold_out-PpTokens PpToken PpTokens (Bool × PpToken) Spaceds token_step tokens_step spaced_step spaceds_step

pub parts_out : (ps : PartsValue) → shown_spaceds ps ≡ spaceds_of (map shown_spaced (out-SpacedList ps).items.items)
parts_out = fold_out-SpacedList PpToken PpTokens (Bool × PpToken) Spaceds token_step tokens_step spaced_step spaceds_step
