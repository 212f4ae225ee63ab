-- Directives that act in an active group alone.
use Rattle.std.proofs.Common.{◌≡◌, Bool, true, false, List, refl, ap, ◌∙◌}
use Rattle.pp_model.specs.Token.{Tok}
use Rattle.pp_model.specs.Condition.{is_active}
use Rattle.pp_model.specs.Replace.{Reader}
use Rattle.pp_model.specs.Preprocess.{World, SectionKind, Includer, act, acted, included, include_by, flush, unless_over}
use Rattle.pp_directives.specs.WorldView.{acted_on, goes_on}

by_group : (b : Bool) (go : World → World) (v w : World) → (let r : World = elim b [ true ↦ unless_over go v | false ↦ w ] in r) ≡ acted_on b go v w
by_group true go v w = refl
by_group false go v w = refl

-- a directive in the terms of what begins it
acted_by : (read : Reader) (kind : SectionKind) (fl : Bool) (ts : List Tok) (w : World) → acted read kind fl ts w ≡ acted_on (is_active w.conds) (act read kind fl ts) (flush read w) w
acted_by read kind fl ts w = by_group (is_active w.conds) (act read kind fl ts) (flush read w) w

-- an include directive in those terms
included_by : (read : Reader) (include : Includer) (ts : List Tok) (w : World) → included read include ts w ≡ acted_on (is_active w.conds) (include_by read include ts) (flush read w) w
included_by read include ts w = by_group (is_active w.conds) (include_by read include ts) (flush read w) w

-- a directive that acts
pub acted_when : (read : Reader) (kind : SectionKind) (fl : Bool) (ts : List Tok) (w v : World) (b : Bool) → ((go : World → World) → acted_on (is_active w.conds) go (flush read w) w ≡ goes_on b go v) → b ≡ true → acted read kind fl ts w ≡ act read kind fl ts v
acted_when read kind fl ts w v b h e =
    acted_by read kind fl ts w ∙ (h (act read kind fl ts) ∙ ap (λ x. goes_on x (act read kind fl ts) v) e)

-- one that doesn't
pub acted_unless : (read : Reader) (kind : SectionKind) (fl : Bool) (ts : List Tok) (w v : World) (b : Bool) → ((go : World → World) → acted_on (is_active w.conds) go (flush read w) w ≡ goes_on b go v) → b ≡ false → acted read kind fl ts w ≡ v
acted_unless read kind fl ts w v b h e =
    acted_by read kind fl ts w ∙ (h (act read kind fl ts) ∙ ap (λ x. goes_on x (act read kind fl ts) v) e)

-- an include directive that acts
pub included_when : (read : Reader) (include : Includer) (ts : List Tok) (w v : World) (b : Bool) → ((go : World → World) → acted_on (is_active w.conds) go (flush read w) w ≡ goes_on b go v) → b ≡ true → included read include ts w ≡ include_by read include ts v
included_when read include ts w v b h e =
    included_by read include ts w ∙ (h (include_by read include ts) ∙ ap (λ x. goes_on x (include_by read include ts) v) e)

-- one that doesn't
pub included_unless : (read : Reader) (include : Includer) (ts : List Tok) (w v : World) (b : Bool) → ((go : World → World) → acted_on (is_active w.conds) go (flush read w) w ≡ goes_on b go v) → b ≡ false → included read include ts w ≡ v
included_unless read include ts w v b h e =
    included_by read include ts w ∙ (h (include_by read include ts) ∙ ap (λ x. goes_on x (include_by read include ts) v) e)
