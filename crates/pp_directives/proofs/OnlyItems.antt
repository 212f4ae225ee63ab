-- Operands that are one item.
use Rattle.std.proofs.Common.{◌≡◌, ◌≢◌, Bool, true, false, List, [], ◌∷◌, length, map, get_or, Some, None, refl, ap, sym, ◌∙◌, arith}
use Rattle.item_kinds.specs.declared.ItemKind.{ItemKind}
use Rattle.item_kinds.specs.declared.ItemKind.TheVariants.{HeaderName}
use Rattle.pp_model.specs.Token.{Tok}
use Rattle.pp_model.specs.Preprocess.{names_header, names_file, is_file_kind}
use Rattle.pp_events.specs.View.{tok_shown}
use Rattle.pp_events.specs.declared.token.Tok.{Tok as TokValue}
use Rattle.pp_directives.specs.Operand.{only_kind, is_header}

pub only_of_one : (ts : List TokValue) (t : TokValue) → length ts ≡ 1 → t ≡ get_or ts 0 t → only_kind (map tok_shown ts) ≡ Some t.kind
only_of_one [] t n e = absurd (omega arith)
only_of_one (u ∷ []) t n e = ap (λ v. Some v.kind) (sym e)
only_of_one (u ∷ v ∷ us) t n e = absurd (omega arith)

pub only_of_none : (ts : List TokValue) → length ts ≡ 0 → only_kind (map tok_shown ts) ≡ None
only_of_none [] n = refl
only_of_none (u ∷ us) n = absurd (omega arith)

pub only_of_more : (ts : List TokValue) → length ts ≢ 1 → only_kind (map tok_shown ts) ≡ None
only_of_more [] n = refl
only_of_more (u ∷ []) n = absurd (n refl)
only_of_more (u ∷ v ∷ us) n = refl

header_of : (k : ItemKind) → (let b : Bool = elim k [ HeaderName ↦ true | _ ↦ false ] in b) ≡ is_header k
header_of HeaderName = refl
header_of _ = refl

pub header_by_kind : (ts : List Tok) (k : ItemKind) → only_kind ts ≡ Some k → names_header ts ≡ is_header k
header_by_kind [] k e = absurd (cc)
header_by_kind (t ∷ []) k e = let f : t.kind ≡ k = cc in header_of t.kind ∙ ap is_header f
header_by_kind (t ∷ u ∷ us) k e = absurd (cc)

pub header_by_none : (ts : List Tok) → only_kind ts ≡ None → names_header ts ≡ false
header_by_none [] e = refl
header_by_none (t ∷ []) e = absurd (cc)
header_by_none (t ∷ u ∷ us) e = refl

pub file_by_kind : (ts : List Tok) (k : ItemKind) → only_kind ts ≡ Some k → names_file ts ≡ is_file_kind k
file_by_kind [] k e = absurd (cc)
file_by_kind (t ∷ []) k e = let f : t.kind ≡ k = cc in ap is_file_kind f
file_by_kind (t ∷ u ∷ us) k e = absurd (cc)

pub file_by_none : (ts : List Tok) → only_kind ts ≡ None → names_file ts ≡ false
file_by_none [] e = refl
file_by_none (t ∷ []) e = absurd (cc)
file_by_none (t ∷ u ∷ us) e = refl
