use Rattle.std.proofs.Common.{◌≡◌, ◌∙◌, ◌-◌, ◌+◌, length, get_or, false, arith, sym}
use Rattle.token_classes.specs.Classes.{is_comment}
use Rattle.token_classes.specs.declared.class.TokenClass.TheVariants.{If}
use Rattle.unwrapped_lines.specs.Comments.{no_marks}
use Rattle.statement_lines.specs.Tree.{end_level}
use Rattle.unwrapped_lines.specs.Viewed.{parts_of}
use Rattle.unwrapped_lines.proofs.EndsWithToken.{end_in_token, same_begins, tokens_count, tokens_in}
use Rattle.unwrapped_lines.proofs.cutting.level_behind.Goals as goal

pub returns-then-not-is_comment : goal.returns-then-not-is_comment
returns-then-not-is_comment c =
    let arena = c.args.arena.now in
    let view = c.args.view.now in
    let classes = c.args.classes.now in
    let tokens = c.args.tokens.now in
    let is : is_comment (get_or classes (length classes - 1) If) ≡ false = sym c.is_comment.ensures ∙ c.if-not-is_comment.true in
    let all : 0 + tokens_in (parts_of arena view classes) ≡ length tokens = let count = tokens_count arena view 0 false classes in omega (arith, count, c.requires.tokens) in
    λ lines. same_begins lines (length tokens) 0 (end_level c.args.braces.now tokens) (parts_of arena view classes) 0 no_marks (end_in_token arena view 0 false classes If is) all
