use Rattle.std.proofs.Common.{◌≡◌, ◌∙◌, ap, false, refl, slice_index_or}
use Rattle.style_table.specs.declared.style.Style.{Style}
use Rattle.line_tokens.specs.declared.line.LineKind.{LineKind}
use Rattle.line_tokens.specs.declared.line.LineKind.TheVariants.{Simple, CaseLabel, GotoLabel, Control, FuncHead, StructHead, EnumHead}
use Rattle.line_tokens.specs.declared.line.LineKind.TheVariants.{ExternHead, Brace, Close, Enumerator, MacroLine, Comment}
use Rattle.line_joiner.specs.Heads.{heads_of, heads_row, number_of}
use Rattle.line_joiner.proofs.heads.is_head.Goals as goal

told_at : (style : Style) (kind : LineKind) → slice_index_or (heads_of style) (number_of kind) false ≡ heads_row style kind
told_at style Simple = refl
told_at style CaseLabel = refl
told_at style GotoLabel = refl
told_at style Control = refl
told_at style FuncHead = refl
told_at style StructHead = refl
told_at style EnumHead = refl
told_at style ExternHead = refl
told_at style Brace = refl
told_at style Close = refl
told_at style Enumerator = refl
told_at style MacroLine = refl
told_at style Comment = refl

pub returns : goal.returns
returns c style heads =
    ap (λ told. slice_index_or told c.number_of.result false) heads ∙ (ap (λ n. slice_index_or (heads_of style) n false) c.number_of.ensures.same ∙ told_at style c.args.kind)
