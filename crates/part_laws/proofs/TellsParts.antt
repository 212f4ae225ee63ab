-- Roles that are told part by part are those of the view.
use Rattle.std.proofs.Common.{◌≡◌, ◌∙◌, ℕ, ◌+◌, ◌≤◌, false, Option, List, [], ◌++◌, length, map, refl, sym, ap, arith}
use Rattle.std.proofs.Common.{inr}
use Rattle.std.proofs.lemmas.List.{map-append, append-nil, length-map}
use Rattle.line_tokens.specs.declared.LineTok.{LineTok}
use Rattle.line_tokens.specs.declared.line.ULine.{ULine}
use Rattle.token_arena.specs.Gaps.{Contents}
use Rattle.token_classes.specs.declared.class.TokenClass.{TokenClass}
use Rattle.token_classes.specs.declared.class.TokenClass.TheVariants.{Nothing}
use Rattle.token_classes.specs.Classes.{is_before_list, is_close_round}
use Rattle.item_classes.specs.Viewed.{item_class, classes_of}
use Rattle.token_roles.specs.declared.mark.Mark.{Mark}
use Rattle.view_tokens.specs.Tokens.{toks_from}
use Rattle.annotator.specs.View.{Sights, marks_onto}
use Rattle.part_laws.specs.LinesCut.{partner_behind, line_behind}
use Rattle.part_laws.specs.RolesCut.{ItemRun, IsCut, TellsParts}
use Rattle.part_laws.proofs.Named.{are_named}
use Rattle.part_laws.proofs.Alike.{AreAlike}
use Rattle.part_laws.proofs.Before.{before_after, marks_before, last_before}
use Rattle.part_laws.proofs.Behind.{marks_alike}
use Rattle.part_laws.proofs.Toks.{ends_so, toks_before, toks_behind_cut}

abbrev pub sights_of : Contents → ItemRun → Sights
sights_of arena run = record { arena = arena; ids = run.ids; partners = run.partners; classes = classes_of arena run.ids }

-- the marks of both parts are those of each by itself
marks_of_both : (arena : Contents) (earlier later : ItemRun) → IsCut arena earlier later
    → (marks_onto (record { arena = arena; ids = earlier.ids ++ later.ids; partners = earlier.partners ++ map (partner_behind (length earlier.ids)) later.partners; classes = classes_of arena (earlier.ids ++ later.ids) }) [] Nothing
    (earlier.lines ++ map (line_behind (length earlier.ids)) later.lines)
    ≡ marks_onto (sights_of arena earlier) [] Nothing earlier.lines ++ marks_onto (sights_of arena later) [] Nothing later.lines)
    × (length (marks_onto (sights_of arena earlier) [] Nothing earlier.lines) ≡ length earlier.ids)
marks_of_both arena earlier later cut =
    let n : ℕ = length earlier.ids in
    let partners : List (Option ℕ) = map (partner_behind (length earlier.ids)) later.partners in
    let lines : List ULine = map (line_behind (length earlier.ids)) later.lines in
    let early : Sights = sights_of arena earlier in
    let marks : List Mark = marks_onto (sights_of arena earlier) [] Nothing earlier.lines in
    let before : TokenClass = before_after (sights_of arena earlier) [] Nothing earlier.lines in
    let classes = map-append (item_class arena) earlier.ids later.ids in
    let first = marks_before (sights_of arena earlier) later.ids partners (classes_of arena later.ids) [] Nothing earlier.lines lines cut.partners (length-map earlier.ids (item_class arena)) cut.earlier_lines in
    let last = last_before arena earlier.ids earlier.partners [] Nothing earlier.lines [] earlier.ids refl refl cut.earlier_lines (are_named arena earlier.ids cut.earlier_items) in
    let alike : AreAlike arena before Nothing later.ids = inr (record {
      none = refl;
      list = ap is_before_list last ∙ cut.opens_list;
      closes = ap is_close_round last ∙ cut.closes;
      comments = cut.comments;
    }) in
    let second = marks_alike arena earlier.ids later.ids earlier.partners later.partners marks [] before Nothing later.lines [] later.ids cut.partners first.1 refl refl cut.later_lines (are_named arena later.ids cut.later_items) alike in (
      ap (λ (cs : List TokenClass). marks_onto (record { arena = arena; ids = earlier.ids ++ later.ids; partners = earlier.partners ++ partners; classes = cs }) [] Nothing (earlier.lines ++ lines)) classes
          ∙ (first.0
          ∙ (ap (λ (cs : List TokenClass). marks_onto (record { arena = arena; ids = earlier.ids ++ later.ids; partners = earlier.partners ++ partners; classes = cs }) marks before lines) (sym classes)
          ∙ (ap (λ (ms : List Mark). marks_onto (record { arena = arena; ids = earlier.ids ++ later.ids; partners = earlier.partners ++ partners; classes = classes_of arena (earlier.ids ++ later.ids) }) ms before lines) (sym (append-nil marks))
          ∙ second))),
      first.1,
    )

-- the law
pub tells_parts : TellsParts
tells_parts arena earlier later cut =
    let both = marks_of_both arena earlier later cut in
    let marks : List Mark = marks_onto (sights_of arena earlier) [] Nothing earlier.lines in
    let more : List Mark = marks_onto (sights_of arena later) [] Nothing later.lines in
    let quiet = sym (ends_so arena earlier.ids 0 false marks) ∙ cut.inner in
    let within : 0 + length marks ≤ length earlier.ids = omega (arith, both.1) in
    let count : 0 + length marks ≡ length earlier.ids = omega (arith, both.1) in
    ap (λ (ms : List Mark). toks_from arena (earlier.ids ++ later.ids) 0 ms) both.0
    ∙ (toks_before arena earlier.ids later.ids 0 false marks more within quiet
    ∙ ap (λ (ts : List LineTok). toks_from arena earlier.ids 0 marks ++ ts)
    (ap (λ (k : ℕ). toks_from arena (earlier.ids ++ later.ids) k more) count ∙ toks_behind_cut arena earlier.ids later.ids more))
