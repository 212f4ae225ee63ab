-- New-lines come and go in a text, where no `#` stands next.
use Rattle.std.proofs.Common.{◌≡◌, ◌||◌, ◌&&◌, not, ℕ, true, false, List, [], ◌∷◌, ◌++◌, refl, sym, ◌∙◌, ap, subst, inl, inr}
use Rattle.std.specs.List.{list_any}
use Rattle.std.proofs.lemmas.Bool.{cases_Bool, and_parts, both_ways, not-true}
use Rattle.c_chars.specs.declared.Dialect.{Dialect}
use Rattle.item_kinds.specs.declared.ItemKind.{ItemKind}
use Rattle.item_kinds.specs.declared.ItemKind.TheVariants.{Identifier, Punct, BlockComment, LineComment}
use Rattle.c_grammar.specs.Grammar.{is_new_line}
use Rattle.c_grammar.specs.Items.{Place, LineStart, AfterHash, AfterInclude, AfterDefine, AfterMacroName, InDirective, InText, past_gap, past_item, is_hash, IsNext, Piece, Reads, written}
use Rattle.c_grammar.specs.Touch.{is_punct, regapped}
use Rattle.c_grammar.specs.Fitting.{in_directive, place_behind, is_comment, no_hash_comes, KeepsItemsOverLines}
use Rattle.c_grammar.proofs.Items.{same_place}
use Rattle.c_grammar.proofs.Apart.{apart_rest, gap_starts}

-- the next item of a text, first in its line or not
next_text : (d : Dialect) (p q : Place) (kind : ItemKind) (s rest : List ℕ) → in_directive p ≡ false → in_directive q ≡ false → IsNext d p kind s rest → IsNext d q kind s rest
next_text d p q kind s rest a b (inl h) = absurd (both_ways (in_directive p) a (ap in_directive h.0))
next_text d p q kind s rest a b (inr h) = inr (λ e. absurd (both_ways (in_directive q) b (ap in_directive e)), h.1)

text_item : (d : Dialect) (p : Place) (kind : ItemKind) (s : List ℕ) → in_directive p ≡ false → (is_punct kind && is_hash s) ≡ false → is_comment kind ≡ false → past_item d p kind s ≡ InText
text_item d AfterHash kind s a h c = cc
text_item d AfterInclude kind s a h c = cc
text_item d AfterDefine kind s a h c = cc
text_item d AfterMacroName kind s a h c = cc
text_item d InDirective kind s a h c = cc
text_item d LineStart BlockComment s a h c = cc
text_item d LineStart LineComment s a h c = cc
text_item d LineStart Punct s a h c = rw h refl
text_item d LineStart Identifier s a h c = refl
text_item d LineStart kind s a h c = refl
text_item d InText BlockComment s a h c = cc
text_item d InText LineComment s a h c = cc
text_item d InText kind s a h c = refl

text_comment : (d : Dialect) (p : Place) (kind : ItemKind) (s : List ℕ) → in_directive p ≡ false → is_comment kind ≡ true → past_item d p kind s ≡ p
text_comment d AfterHash kind s a c = cc
text_comment d AfterInclude kind s a c = cc
text_comment d AfterDefine kind s a c = cc
text_comment d AfterMacroName kind s a c = cc
text_comment d InDirective kind s a c = cc
text_comment d LineStart BlockComment s a c = refl
text_comment d LineStart LineComment s a c = refl
text_comment d LineStart kind s a c = cc
text_comment d InText BlockComment s a c = refl
text_comment d InText LineComment s a c = refl
text_comment d InText kind s a c = cc

-- the items that come, first in their line or not
reads_text : (d : Dialect) (p q : Place) (ps : List Piece) (last : List ℕ) → in_directive p ≡ false → in_directive q ≡ false → no_hash_comes ps ≡ true → Reads d p ps last → Reads d q ps last
reads_text d p q [] last a b n h = h
reads_text d p q (x ∷ ps) last a b n h = elim (cases_Bool (list_any is_new_line x.gap)) [
  | inl y ↦
      let same : past_gap p x.gap ≡ past_gap q x.gap = rw y refl in (
        h.0,
        subst (λ z. IsNext d z x.kind x.spelling (written ps last)) same h.1,
        subst (λ z. Reads d (past_item d z x.kind x.spelling) ps last) same h.2,
      )
  | inr none ↦
      let at_p = same_place p x.gap none in
      let at_q = same_place q x.gap none in
      let next : IsNext d p x.kind x.spelling (written ps last) = subst (λ z. IsNext d z x.kind x.spelling (written ps last)) at_p h.1 in
      let rest : Reads d (past_item d p x.kind x.spelling) ps last = subst (λ z. Reads d (past_item d z x.kind x.spelling) ps last) at_p h.2 in
      let test : (not (is_punct x.kind && is_hash x.spelling) && (not (is_comment x.kind) || no_hash_comes ps)) ≡ true =
      subst (λ z. (z || (not (is_punct x.kind && is_hash x.spelling) && (not (is_comment x.kind) || no_hash_comes ps))) ≡ true) none n in
      let parts = and_parts (not (is_punct x.kind && is_hash x.spelling)) (not (is_comment x.kind) || no_hash_comes ps) test in (
        h.0,
        subst (λ z. IsNext d z x.kind x.spelling (written ps last)) (sym at_q) (next_text d p q x.kind x.spelling (written ps last) a b next),
        subst (λ z. Reads d (past_item d z x.kind x.spelling) ps last) (sym at_q)
            (elim (cases_Bool (is_comment x.kind)) [
              | inr c ↦ subst (λ z. Reads d z ps last) (text_item d p x.kind x.spelling a (not-true _ parts.0) c ∙ sym (text_item d q x.kind x.spelling b (not-true _ parts.0) c)) rest
              | inl c ↦
                  let more : (not true || no_hash_comes ps) ≡ true = subst (λ z. (not z || no_hash_comes ps) ≡ true) c parts.1 in
                  subst (λ z. Reads d z ps last) (sym (text_comment d q x.kind x.spelling b c)) (reads_text d p q ps last a b more (subst (λ z. Reads d z ps last) (text_comment d p x.kind x.spelling a c) rest))
            ]),
      )
]

gap_in_text : (p : Place) (g : List ℕ) → in_directive p ≡ false → in_directive (past_gap p g) ≡ false
gap_in_text p g a = elim (cases_Bool (list_any is_new_line g)) [ inl y ↦ rw y refl | inr n ↦ rw n a ]

pub keeps_items_over_lines : KeepsItemsOverLines
keeps_items_over_lines d text before after l r last g h w some t text_place none =
    let behind = place_behind d LineStart (before ++ l ∷ []) in
    let reads = apart_rest d LineStart before l (r ∷ after) (regapped g r ∷ after) last last h.reads (gap_starts g (r.spelling ++ written after last) w some) t text_place
    (λ k.
    let bare : Reads d (past_gap behind r.gap) (regapped [] r ∷ after) last = (refl, k.1, k.2) in
    let moved : Reads d (past_gap behind g) (regapped [] r ∷ after) last = reads_text d (past_gap behind r.gap) (past_gap behind g) (regapped [] r ∷ after) last (gap_in_text behind r.gap text_place) (gap_in_text behind g text_place) none bare in
    (w, moved.1, moved.2)) in
    record { whole = refl; reads = reads }
