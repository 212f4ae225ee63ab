-- The next group of a conditional.
use Rattle.std.proofs.Common.{◌≡◌, Bool, true, false, List, ◌∷◌, drop, ap, ◌∙◌}
use Rattle.std.specs.Prelude.{not}
use Rattle.pp_model.specs.Condition.{Cond, is_active, skipped_cond}
use Rattle.pp_model.specs.Preprocess.{World, branch, blame, left, malformed, otherwise, with_conds, if_active, push}

asks : (go : Cond → List Cond → World → World) (c : Cond) (cs : List Cond) (w : World) → c.had_else ≡ false → c.taken ≡ false → branch go (c ∷ cs) w ≡ go c cs w
asks go c cs w h t =
    ap (λ b. let r : World = elim b [ true ↦ blame c w | false ↦ elim c.taken [ true ↦ left c cs w | false ↦ go c cs w ] ] in r) h
    ∙ ap (λ b. let r : World = elim b [ true ↦ left c cs w | false ↦ go c cs w ] in r) t

-- a group whose condition is asked
pub asking_branch : (go : Cond → List Cond → World → World) (cs : List Cond) (c : Cond) (w : World) → cs ≡ c ∷ drop 1 cs → c.had_else ≡ false → c.taken ≡ false → branch go cs w ≡ go c (drop 1 cs) w
asking_branch go cs c w e h t = ap (λ xs. branch go xs w) e ∙ asks go c (drop 1 cs) w h t

-- a group behind an #else
pub had_else_branch : (go : Cond → List Cond → World → World) (cs : List Cond) (c : Cond) (w : World) → cs ≡ c ∷ drop 1 cs → c.had_else ≡ true → branch go cs w ≡ blame c w
had_else_branch go cs c w e h =
    ap (λ xs. branch go xs w) e
    ∙ ap (λ b. let r : World = elim b [ true ↦ blame c w | false ↦ elim c.taken [ true ↦ left c (drop 1 cs) w | false ↦ go c (drop 1 cs) w ] ] in r) h

-- an #else behind an #else
pub had_else_last : (cs : List Cond) (c : Cond) (w : World) → cs ≡ c ∷ drop 1 cs → c.had_else ≡ true → otherwise cs w ≡ blame c w
had_else_last cs c w e h =
    ap (λ xs. otherwise xs w) e
    ∙ ap (λ b. let r : World = elim b [ true ↦ blame c w | false ↦ with_conds (record { taken = true; active = not c.taken; had_else = true; skipped = c.skipped } ∷ drop 1 cs) w ] in r) h

-- a conditional in an active group
pub active_if : (go : World → World) (w : World) → is_active w.conds ≡ true → if_active go w ≡ go w
active_if go w e = ap (λ b. let r : World = elim b [ true ↦ go w | false ↦ push skipped_cond w ] in r) e

pub blame_skipped : (b : Bool) (w : World) → b ≡ true → blame (record { taken = true; active = false; had_else = true; skipped = b }) w ≡ w
blame_skipped b w e = ap (λ x. let r : World = elim x [ true ↦ w | false ↦ malformed w ] in r) e

pub blame_taken : (b : Bool) (w : World) → b ≡ false → blame (record { taken = true; active = false; had_else = true; skipped = b }) w ≡ malformed w
blame_taken b w e = ap (λ x. let r : World = elim x [ true ↦ w | false ↦ malformed w ] in r) e
