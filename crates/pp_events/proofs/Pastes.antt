-- The paste of two tokens, by the item that they spell together.
use Rattle.std.proofs.Common.{◌≡◌, ℕ, List, Option, Some, None, refl, ap, sym, ◌∙◌}
use Rattle.item_kinds.specs.declared.ItemKind.{ItemKind}
use Rattle.item_kinds.specs.declared.ItemKind.TheVariants.{Other}
use Rattle.pp_model.specs.Token.{Tok, PpToken, Plain}
use Rattle.pp_model.specs.Replace.{Reader, paste, paste_joined, paste_read, joined, made, two}
use Rattle.pp_events.specs.Pasted.{item_read, with_kind}

same_pair : (p q : List ℕ × ItemKind) → Some p ≡ Some q → q ≡ p
same_pair p q h = cc

read_item : (a b : Tok) (s : List ℕ) (k : Option ItemKind) (text : List ℕ) (kind : ItemKind) → Some (text, kind) ≡ with_kind s k → paste_read a b s k ≡ made (Plain text) kind a b
read_item a b s None text kind h = absurd (cc)
read_item a b s (Some k) text kind h = ap (λ p. made (Plain p.0) p.1 a b) (same_pair (text, kind) (s, k) h)

read_none : (a b : Tok) (s : List ℕ) (k : Option ItemKind) → None ≡ with_kind s k → paste_read a b s k ≡ made (two a.token b.token) Other a b
read_none a b s None h = refl
read_none a b s (Some k) h = absurd (cc)

joined_item : (read : Reader) (a b : Tok) (j : Option (List ℕ)) (text : List ℕ) (kind : ItemKind) → Some (text, kind) ≡ item_read read j → paste_joined read a b j ≡ made (Plain text) kind a b
joined_item read a b None text kind h = absurd (cc)
joined_item read a b (Some s) text kind h = read_item a b s (read s) text kind h

joined_none : (read : Reader) (a b : Tok) (j : Option (List ℕ)) → None ≡ item_read read j → paste_joined read a b j ≡ made (two a.token b.token) Other a b
joined_none read a b None h = refl
joined_none read a b (Some s) h = read_none a b s (read s) h

pub pasted_as_item : (read : Reader) (a b : Tok) (s t : PpToken) (text : List ℕ) (kind : ItemKind) → a.token ≡ s → b.token ≡ t → Some (text, kind) ≡ item_read read (joined s t) → paste read a b ≡ made (Plain text) kind a b
pasted_as_item read a b s t text kind e f h = joined_item read a b (joined a.token b.token) text kind (h ∙ ap (item_read read) (ap (λ x. joined x t) (sym e) ∙ ap (joined a.token) (sym f)))

pub pasted_as_none : (read : Reader) (a b : Tok) (s t : PpToken) → a.token ≡ s → b.token ≡ t → None ≡ item_read read (joined s t) → paste read a b ≡ made (two s t) Other a b
pasted_as_none read a b s t e f h =
    joined_none read a b (joined a.token b.token) (h ∙ ap (item_read read) (ap (λ x. joined x t) (sym e) ∙ ap (joined a.token) (sym f)))
    ∙ ap (λ x. made (two x b.token) Other a b) e
    ∙ ap (λ x. made (two s x) Other a b) f
