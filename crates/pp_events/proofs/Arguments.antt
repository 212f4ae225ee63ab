-- Arguments by their number, and the parts of a string.
use Rattle.std.proofs.Common.{◌≡◌, ℕ, zero, suc, ◌+◌, ◌-◌, ◌<◌, false, List, [], ◌∷◌, ◌++◌, length, map, get_or, drop, refl, ap, sym, ◌∙◌, arith, drop-cons, append_assoc}
use Rattle.std.proofs.lemmas.List.{map-append}
use Rattle.pp_model.specs.Token.{part, one_more, Tok}
use Rattle.pp_model.specs.Replace.{argument, spaced, parts_of, joined_tokens}
use Rattle.pp_events.specs.View.{shown, shown_spaced, tok_shown, spaceds_of, spaced_pairs, trimmed, tokens_of as shown_list}
use Rattle.pp_events.specs.declared.token.Tok.{Tok as TokValue}
use Rattle.pp_events.specs.declared.token.Spaced.{Spaced as SpacedValue}
use Rattle.pp_events.specs.declared.token.PpToken.{PpToken as TokenValue}

pub argument_next : (a : List Tok) (rest : List (List Tok)) (k : ℕ) → 0 < k → argument (a ∷ rest) k ≡ argument rest (k - 1)
argument_next a rest zero h = absurd (omega arith)
argument_next a rest (suc k) h = ap (argument rest) (omega arith)

pub argument_first : (a : List Tok) (rest : List (List Tok)) (k : ℕ) → k ≡ 0 → argument (a ∷ rest) k ≡ a
argument_first a rest k e = ap (argument (a ∷ rest)) e

spaced_shown : (ts : List TokValue) → spaceds_of (spaced_pairs ts) ≡ spaced (map tok_shown ts)
spaced_shown [] = refl
spaced_shown (t ∷ ts) = ap (part t.white (shown t.token)) (spaced_shown ts)

pub parts_of_shown : (ts : List TokValue) → spaceds_of (trimmed (spaced_pairs ts)) ≡ parts_of (map tok_shown ts)
parts_of_shown [] = refl
parts_of_shown (t ∷ ts) = ap (part false (shown t.token)) (spaced_shown ts)

pub joined_shown : (xs ys : List TokenValue) → shown_list (map shown (xs ++ ys)) ≡ joined_tokens (shown_list (map shown xs)) (shown_list (map shown ys))
joined_shown [] ys = refl
joined_shown (x ∷ xs) ys = ap (one_more (shown x)) (joined_shown xs ys)

pub token_at : (ts : List TokValue) (i : ℕ) (t : TokValue) → i < length ts → t ≡ get_or ts i t → map tok_shown (drop i ts) ≡ tok_shown t ∷ map tok_shown (drop (i + 1) ts)
token_at ts i t h e =
    let next : suc i ≡ i + 1 = omega arith in
    ap (map tok_shown) (drop-cons ts i t h)
    ∙ ap (λ u. tok_shown u ∷ map tok_shown (drop (suc i) ts)) (sym e)
    ∙ ap (λ k. tok_shown t ∷ map tok_shown (drop k ts)) next

pub quoted_next : (ts : List TokValue) (i : ℕ) (t : TokValue) (done after : List SpacedValue) (s : SpacedValue) → i < length ts → t ≡ get_or ts i t → after ≡ done ++ s ∷ [] → shown_spaced s ≡ (t.white, shown t.token) → map shown_spaced after ++ spaced_pairs (drop (i + 1) ts) ≡ map shown_spaced done ++ spaced_pairs (drop i ts)
quoted_next ts i t done after s h e a f =
    let next : suc i ≡ i + 1 = omega arith in
    let split : drop i ts ≡ t ∷ drop (i + 1) ts = drop-cons ts i t h ∙ ap (λ u. u ∷ drop (suc i) ts) (sym e) ∙ ap (λ k. t ∷ drop k ts) next in
    ap (λ xs. map shown_spaced xs ++ spaced_pairs (drop (i + 1) ts)) a
    ∙ ap (λ xs. xs ++ spaced_pairs (drop (i + 1) ts)) (map-append shown_spaced done (s ∷ []))
    ∙ append_assoc (map shown_spaced done) (shown_spaced s ∷ []) (spaced_pairs (drop (i + 1) ts))
    ∙ ap (λ p. map shown_spaced done ++ p ∷ spaced_pairs (drop (i + 1) ts)) f
    ∙ ap (λ xs. map shown_spaced done ++ spaced_pairs xs) (sym split)
