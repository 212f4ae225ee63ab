-- What the tokens of a view tell of its items.
use Rattle.std.proofs.Common.{◌≡◌, ◌∙◌, sym, Bool, ℕ, zero, suc, ◌+◌, Some, List, [], ◌∷◌, length, arith, refl, subst}
use Rattle.std.proofs.Common.{ap}
use Rattle.std.specs.Prelude.{slice_get, get_or}
use Rattle.line_tokens.specs.declared.LineTok.{LineTok}
use Rattle.token_arena.specs.Gaps.{Contents}
use Rattle.token_roles.specs.declared.mark.Mark.{Mark}
use Rattle.token_roles.specs.Held.{is_held}
use Rattle.view_tokens.specs.Tokens.{tok_of, toks_from}
use Rattle.item_classes.specs.Items.{stands_apart, TellsItem, TellItems}

one_tells : (arena : Contents) (ids : List ℕ) (k : ℕ) (mark : Mark) (held : Bool) → TellsItem arena ids k (tok_of arena (get_or ids k 0) (stands_apart ids k) mark held)
one_tells arena ids k mark held = record { id = refl; kind = refl; gap = refl; touch = refl; directive = refl }

from_tell : (arena : Contents) (ids : List ℕ) (marks : List Mark) (at k : ℕ) (tok : LineTok) → slice_get (toks_from arena ids at marks) k ≡ Some tok → TellsItem arena ids (at + k) tok
from_tell arena ids [] at k tok is = cc
from_tell arena ids (mark ∷ marks) at zero tok is =
    let here : at ≡ at + zero = omega arith in
    let held = is_held (mark ∷ marks) in
    let same : tok_of arena (get_or ids at 0) (stands_apart ids at) mark held ≡ tok = cc in
    subst (λ (k : ℕ). TellsItem arena ids k tok) here (subst (TellsItem arena ids at) same (one_tells arena ids at mark held))
from_tell arena ids (mark ∷ marks) at (suc k) tok is =
    let there : at + 1 + k ≡ at + suc k = omega arith in
    subst (λ (k : ℕ). TellsItem arena ids k tok) there (from_tell arena ids marks (at + 1) k tok is)

pub toks_tell : (arena : Contents) (ids : List ℕ) (marks : List Mark) (toks : List LineTok) → toks ≡ toks_from arena ids 0 marks → TellItems arena ids toks
toks_tell arena ids marks toks are k tok is =
    let here : 0 + k ≡ k = omega arith in
    subst (λ (k : ℕ). TellsItem arena ids k tok) here (from_tell arena ids marks 0 k tok (ap (λ (ts : List LineTok). slice_get ts k) (sym are) ∙ is))

pub as_many_from : (arena : Contents) (ids : List ℕ) (marks : List Mark) (at : ℕ) → length (toks_from arena ids at marks) ≡ length marks
as_many_from arena ids [] at = refl
as_many_from arena ids (mark ∷ marks) at = ap suc (as_many_from arena ids marks (at + 1))

pub as_many_toks : (arena : Contents) (ids : List ℕ) (marks : List Mark) (toks : List LineTok) → toks ≡ toks_from arena ids 0 marks → length toks ≡ length marks
as_many_toks arena ids marks toks are = ap length are ∙ as_many_from arena ids marks 0
