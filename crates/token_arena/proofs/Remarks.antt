-- The numbers of comments, told by the entries.
use Rattle.std.proofs.Common.{◌≡◌, ◌∙◌, ℕ, suc, ◌+◌, Bool, true, false, List, [], ◌∷◌, ◌++◌, length, refl, sym, ap, arith, inl, inr}
use Rattle.std.specs.Prelude.{if◌then◌else◌}
use Rattle.std.proofs.lemmas.Bool.{cases_Bool}
use Rattle.token_arena.specs.Comments.{comments_from}
use Rattle.token_arena.specs.Entries.{comments_kept, keeps_comment, kept_by_all, kept_from}
use Rattle.token_arena.specs.declared.arena.Entry.{Entry}

remarks_from : (text : List ℕ) (is_first : Bool) (at : ℕ) (entries : List Entry) → comments_from at (kept_from text is_first entries) ≡ comments_kept at entries
remarks_from text is_first at [] = refl
remarks_from text is_first at (entry ∷ entries) = ap (λ (s : List ℕ). if keeps_comment entry then at ∷ s else s) (remarks_from text false (at + 1) entries)

-- they are those of the items
pub remarks_kept : (text : List ℕ) (entries : List Entry) → comments_from 0 (kept_by_all text entries) ≡ comments_kept 0 entries
remarks_kept text entries = remarks_from text true 0 entries

-- what one more entry adds
abbrev pub remark_of : ℕ → Bool → List ℕ
remark_of id is = if is then id ∷ [] else []

remarks_push : (at : ℕ) (entries : List Entry) (entry : Entry) → comments_kept at (entries ++ entry ∷ []) ≡ comments_kept at entries ++ remark_of (at + length entries) (keeps_comment entry)
remarks_push at [] entry = let same : at + 0 ≡ at = omega arith in ap (λ k. remark_of k (keeps_comment entry)) (sym same)
remarks_push at (e ∷ entries) entry =
    let far : (at + 1) + length entries ≡ at + suc (length entries) = omega arith in
    let rest : comments_kept (at + 1) (entries ++ entry ∷ []) ≡ comments_kept (at + 1) entries ++ remark_of (at + suc (length entries)) (keeps_comment entry) =
    remarks_push (at + 1) entries entry ∙ ap (λ k. comments_kept (at + 1) entries ++ remark_of k (keeps_comment entry)) far in
    elim (cases_Bool (keeps_comment e)) [ inl y ↦ rw y (ap (λ (s : List ℕ). at ∷ s) rest) | inr n ↦ rw n rest ]

pub remark_pushed : (entries : List Entry) (entry : Entry) (comments more : List ℕ) (id : ℕ) (is : Bool) → comments ≡ comments_kept 0 entries → id ≡ length entries → is ≡ keeps_comment entry → more ≡ comments ++ remark_of id is
    → more ≡ comments_kept 0 (entries ++ entry ∷ [])
remark_pushed entries entry comments more id is before id_is kind_is more_is =
    let none : 0 + length entries ≡ length entries = omega arith in
    more_is
    ∙ (ap (λ (s : List ℕ). s ++ remark_of id is) before
    ∙ (ap (λ k. comments_kept 0 entries ++ remark_of k is) (id_is ∙ sym none)
    ∙ (ap (λ b. comments_kept 0 entries ++ remark_of (0 + length entries) b) kind_is ∙ sym (remarks_push 0 entries entry))))
