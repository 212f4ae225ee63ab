-- A first part ends behind a declaration of its tokens, and a word that began its line follows it.
use Rattle.std.proofs.Common.{◌≡◌, ◌∙◌, inl, inr, ℕ, ◌+◌, ◌-◌, Bool, true, false, ◌&&◌, nat_lt, List, [], ◌∷◌, ◌++◌}
use Rattle.std.proofs.Common.{length, map, get_or, append_assoc, refl, sym, ap, subst, arith, ◌⊎◌}
use Rattle.std.specs.Prelude.{if◌then◌else◌}
use Rattle.std.proofs.lemmas.List.{length-append}
use Rattle.std.proofs.lemmas.Bool.{lt-ltb}
use Rattle.std.proofs.Math.Seq.{get_or-append_seam}
use Rattle.token_arena.specs.Gaps.{Contents, item_began}
use Rattle.token_classes.specs.declared.class.TokenClass.{TokenClass}
use Rattle.token_classes.specs.declared.class.TokenClass.TheVariants.{Nothing, CloseBrace, Semicolon as SemicolonClass}
use Rattle.token_classes.specs.declared.class.TokenClass.TheVariants.{LineComment, BlockComment}
use Rattle.token_classes.specs.Classes.{is_comment, is_word, is_before_list, is_close_round}
use Rattle.item_classes.specs.Viewed.{item_class, classes_of}
use Rattle.statement_lines.specs.declared.token.CodeToken.{CodeToken}
use Rattle.statement_lines.specs.Forms.{class_at, class_before}
use Rattle.unwrapped_lines.specs.Viewed.{token_at, code_places_from}
use Rattle.part_laws.specs.LinesCut.{partners_in, IsFirstPart}
use Rattle.part_laws.proofs.CodeCut.{BeginsWord, IsCutBehind, code_of, ArePassed, ArePaired}
use Rattle.part_laws.proofs.Counted.{count_of, counts_on, counts_one, counts_all, code_class, class_there}
use Rattle.part_laws.proofs.Passing.{told_all}
use Rattle.part_laws.proofs.PairedPartners.{code_paired}
use Rattle.part_laws.proofs.FirstPart.{closes_part, last_of, Follows, first_part}

-- ## Behind the first part

last_class : (arena : Contents) (ids before : List ℕ) (last : ℕ) → ids ≡ before ++ last ∷ [] → is_comment (item_class arena last) ≡ false
    → class_before (code_of arena ids) (length (code_of arena ids)) ≡ item_class arena last
last_class arena ids before last split code =
    let count : ℕ = count_of arena before in
    let end : ℕ = length (code_of arena ids) in
    let all : end ≡ count_of arena (before ++ last ∷ []) = counts_all arena ids ∙ ap (count_of arena) split in
    let one : end ≡ count + 1 = omega (arith, all, counts_on arena before (last ∷ []), counts_one arena last [] code) in
    let some : nat_lt 0 end ≡ true = lt-ltb 0 end (omega (arith, one)) in
    let at : end - 1 ≡ count = omega (arith, one) in
    ap (λ (b : Bool). elim b as (λ _. TokenClass) [ true ↦ class_at (code_of arena ids) (end - 1) | false ↦ Nothing ]) some
    ∙ (ap (λ k. class_at (code_of arena ids) k) at ∙ code_class arena ids before last [] split code)

-- the last of some items, and those before it
abbrev HasLast : Contents → TokenClass → List ℕ → Type 0
HasLast arena class ids = (before : List ℕ) × ((last : ℕ) × ((ids ≡ before ++ last ∷ []) × (item_class arena last ≡ class)))

has_last : (arena : Contents) (id : ℕ) (ids : List ℕ) → HasLast arena (last_of (item_class arena id) (classes_of arena ids)) (id ∷ ids)
has_last arena id [] = ([], (id, (refl, refl)))
has_last arena id (next ∷ ids) =
    let rest = has_last arena next ids in
    (id ∷ rest.0, (rest.1.0, (ap (λ (xs : List ℕ). id ∷ xs) rest.1.1.0, rest.1.1.1)))

-- a `;` or a `}` is no comment, and no list of values and no body follows it
record IsLast (class : TokenClass) : Type 0 where
  pub code : is_comment class ≡ false
  pub list : is_before_list class ≡ false
  pub closes : is_close_round class ≡ false

closer_is_last : (class : TokenClass) → closes_part class ≡ true → IsLast class
closer_is_last SemicolonClass e = record { code = refl; list = refl; closes = refl }
closer_is_last CloseBrace e = record { code = refl; list = refl; closes = refl }
closer_is_last _ e = cc

cut_behind : (arena : Contents) (ids : List ℕ) → closes_part (last_of Nothing (classes_of arena ids)) ≡ true → IsCutBehind (code_of arena ids)
cut_behind arena [] closes = cc
cut_behind arena (id ∷ ids) closes =
    let end = has_last arena id ids in
    let is = closer_is_last (item_class arena end.1.0) (ap closes_part end.1.1.1 ∙ closes) in
    let class = last_class arena (id ∷ ids) end.0 end.1.0 end.1.1.0 is.code in
    record { list = ap is_before_list class ∙ is.list; closes = ap is_close_round class ∙ is.closes }

-- ## Before what follows

both : (a b : Bool) → a ≡ true → b ≡ true → a && b ≡ true
both true b one other = other
both false b one other = one

word_is_no_comment : (class : TokenClass) → is_word class ≡ true → is_comment class ≡ false
word_is_no_comment LineComment e = cc
word_is_no_comment BlockComment e = cc
word_is_no_comment _ e = refl

begins_word : (arena : Contents) (all past rest : List ℕ) → all ≡ past ++ rest → Follows arena rest
    → BeginsWord (map (token_at arena all (classes_of arena all) (partners_in arena all)) (code_places_from (length past) (classes_of arena rest)))
begins_word arena all past [] split so = absurd so
begins_word arena all past (id ∷ rest) split so =
    by so.1 (λ follows. begins_word arena all (past ++ id ∷ []) rest (split ∙ sym (append_assoc past (id ∷ []) rest)) follows)
  where
    token : ℕ → CodeToken
    token = token_at arena all (classes_of arena all) (partners_in arena all)

    at_comment : Bool → Type 0
    at_comment b = BeginsWord (map token
        (if b then code_places_from (length past + 1) (classes_of arena rest) else length past ∷ code_places_from (length past + 1) (classes_of arena rest)))

    by : (is_word (item_class arena id) ≡ true) ⊎ ((is_comment (item_class arena id) ≡ true) × Follows arena rest)
        → (Follows arena rest → BeginsWord (map token (code_places_from (length (past ++ id ∷ [])) (classes_of arena rest))))
        → at_comment (is_comment (item_class arena id))
    by (inr comment) on =
        let one : length (past ++ id ∷ []) ≡ length past + 1 = omega (arith, length-append past (id ∷ [])) in
        subst at_comment (sym comment.0) (subst (λ (k : ℕ). BeginsWord (map token (code_places_from k (classes_of arena rest)))) one (on comment.1))
    by (inl word) on =
        let item : get_or all (length past) 0 ≡ id = ap (λ (ids : List ℕ). get_or ids (length past) 0) split ∙ get_or-append_seam past id rest 0 in
        let is : is_word (get_or (classes_of arena all) (length past) Nothing) ≡ true =
        ap is_word (class_there arena all past id rest split) ∙ word in
        let began : item_began arena (get_or all (length past) 0) ≡ true = ap (λ k. item_began arena k) item ∙ so.0 in
        subst at_comment (sym (word_is_no_comment (item_class arena id) word))
        (both (is_word (get_or (classes_of arena all) (length past) Nothing)) (item_began arena (get_or all (length past) 0)) is began)

-- ## The law

-- the tokens of both sides of a cut
pub record IsCodeCut (arena : Contents) (earlier later : List ℕ) : Type 0 where
  pub passed : ArePassed (code_of arena earlier)
  pub paired : ArePaired (code_of arena earlier)
  pub behind : IsCutBehind (code_of arena earlier)
  pub before : BeginsWord (code_of arena later)

pub cuts_code : (arena : Contents) (earlier later : List ℕ) → IsFirstPart arena earlier later → IsCodeCut arena earlier later
cuts_code arena earlier later cut =
    let end = first_part arena earlier later cut in
    record {
      passed = told_all arena earlier later cut;
      behind = cut_behind arena earlier end.ends;
      before = begins_word arena later [] later refl end.follows;
      paired = code_paired arena earlier;
    }
