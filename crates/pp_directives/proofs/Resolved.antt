-- What is held back of a condition.
use Rattle.std.proofs.Common.{◌≡◌, ◌≤◌, List, [], ◌∷◌, ◌++◌, length, map, refl, ap, sym, ◌∙◌, arith}
use Rattle.std.proofs.lemmas.List.{length-map, map-append}
use Rattle.pp_model.specs.Token.{Tok}
use Rattle.pp_model.specs.Macro.{Table}
use Rattle.pp_model.specs.Condition.{resolve}
use Rattle.pp_events.specs.View.{tok_shown}
use Rattle.pp_events.specs.declared.token.Tok.{Tok as TokValue}
use Rattle.pp_directives.specs.Resolving.{held_of}

held_alone : (table : Table) (held : List Tok) → length held ≤ 3 → resolve table (held_of held) [] ≡ held
held_alone table [] h = refl
held_alone table (d ∷ []) h = refl
held_alone table (d ∷ o ∷ []) h = refl
held_alone table (d ∷ o ∷ x ∷ []) h = refl
held_alone table (d ∷ o ∷ x ∷ y ∷ ts) h = absurd (omega arith)

-- at the end it comes as it is written
pub held_back_at_end : (table : Table) (out held rest : List TokValue) → length rest ≡ 0 → length held ≤ 3 → map tok_shown out ++ resolve table (held_of (map tok_shown held)) (map tok_shown rest) ≡ map tok_shown (out ++ held)
held_back_at_end table out held [] e h = ap (λ ts. map tok_shown out ++ ts) (held_alone table (map tok_shown held) (omega (arith, length-map held tok_shown))) ∙ sym (map-append tok_shown out held)
held_back_at_end table out held (r ∷ rest) e h = absurd (omega arith)
