-- How open conditionals stand in one another.
use Rattle.std.proofs.Common.{◌≡◌, ◌<◌, Bool, true, false, List, [], ◌∷◌, length, get_or, map, drop, refl, ap, sym, ◌∙◌, arith}
use Rattle.std.specs.Prelude.{◌&&◌, ◌||◌, not}
use Rattle.pp_model.specs.Condition.{Cond, is_active}
use Rattle.pp_directives.specs.CondView.{cond_shown}
use Rattle.pp_directives.specs.Nesting.{is_done, is_nested}
use Rattle.pp_directives.specs.declared.cond.Cond.{Cond as CondValue}

and_left : (a b : Bool) → (a && b) ≡ true → a ≡ true
and_left true b e = refl
and_left false b e = e

and_right : (a b : Bool) → (a && b) ≡ true → b ≡ true
and_right true b e = e
and_right false b e = absurd (cc)

or_true : (a b : Bool) → a ≡ true → (a || b) ≡ true
or_true true b e = refl
or_true false b e = absurd (cc)

or_second : (a b : Bool) → b ≡ true → (a || b) ≡ true
or_second true b e = refl
or_second false b e = e

or_first : (a b : Bool) → (a || b) ≡ true → b ≡ false → a ≡ true
or_first true b e h = refl
or_first false b e h = absurd (cc)

and_both : (a b : Bool) → a ≡ true → b ≡ true → (a && b) ≡ true
and_both true b e h = h
and_both false b e h = absurd (cc)

pub tail_nests : (cs : List Cond) → is_nested cs ≡ true → is_nested (drop 1 cs) ≡ true
tail_nests [] h = refl
tail_nests (c ∷ cs) h = and_right _ _ h

pub rest_nests : (c : Cond) (cs : List Cond) → is_nested (c ∷ cs) ≡ true → is_nested cs ≡ true
rest_nests c cs h = and_right _ _ h

tells : (t a v : Bool) → (v || (t && not a)) ≡ true → (a && v) ≡ a
tells t true true e = refl
tells t false v e = refl
tells true true false e = absurd (cc)
tells false true false e = absurd (cc)

innermost_tells : (c : Cond) (cs : List Cond) → is_nested (c ∷ cs) ≡ true → is_active (c ∷ cs) ≡ c.active
innermost_tells c cs h = tells c.taken c.active (is_active cs) (and_left _ _ h)

pub none_is_active : (cs : List CondValue) → length cs ≡ 0 → is_active (map cond_shown cs) ≡ true
none_is_active [] n = refl
none_is_active (c ∷ cs) n = absurd (omega arith)

pub innermost_is_active : (cs : List CondValue) (c : CondValue) → 0 < length cs → c ≡ get_or cs 0 c → is_nested (map cond_shown cs) ≡ true → is_active (map cond_shown cs) ≡ c.active
innermost_is_active [] c n e h = absurd (omega arith)
innermost_is_active (d ∷ cs) c n e h = innermost_tells (cond_shown d) (map cond_shown cs) h ∙ ap (λ x. x.active) (sym e)

pub innermost_is : (cs : List CondValue) (c : CondValue) → 0 < length cs → c ≡ get_or cs 0 c → map cond_shown cs ≡ cond_shown c ∷ drop 1 (map cond_shown cs)
innermost_is [] c n e = absurd (omega arith)
innermost_is (d ∷ cs) c n e = ap (λ x. cond_shown x ∷ map cond_shown cs) (sym e)

pub none_is_open : (cs : List CondValue) → length cs ≡ 0 → map cond_shown cs ≡ []
none_is_open [] n = refl
none_is_open (c ∷ cs) n = absurd (omega arith)

pub active_nests : (c : Cond) (cs : List Cond) → is_active cs ≡ true → is_nested cs ≡ true → is_nested (c ∷ cs) ≡ true
active_nests c cs e h = and_both _ _ (or_true _ _ e) h

pub done_nests : (c : Cond) (cs : List Cond) → is_done c ≡ true → is_nested cs ≡ true → is_nested (c ∷ cs) ≡ true
done_nests c cs e h = and_both _ _ (or_second (is_active cs) (is_done c) e) h

not_done : (c : Cond) → c.taken ≡ false → is_done c ≡ false
not_done c e = ap (λ t. t && not c.active) e

pub entered_nests : (c d : Cond) (cs : List Cond) → is_nested (c ∷ cs) ≡ true → c.taken ≡ false → is_nested (d ∷ cs) ≡ true
entered_nests c d cs h e =
    active_nests d cs (or_first (is_active cs) (is_done c) (and_left _ _ h) (not_done c e)) (and_right _ _ h)
