use Rattle.std.proofs.Common.{length}
use Rattle.line_tokens.specs.declared.role.Role.{Role}
use Rattle.token_roles.specs.Marks.{closed_role, mark_at, partner_at}
use Rattle.token_roles.specs.RoleTable.{role_of}
use Rattle.token_roles.proofs.CodeTokens.{code_class, is_code, code_marked, code_passed}
use Rattle.token_roles.proofs.marking.mark_token.Goals as goal

pub returns-in_default : goal.returns-in_default
returns-in_default c =
    let class = c.args.class in
    let code = code_class class c.in_default.not-OpenRound c.in_default.not-CloseRound c.in_default.not-OpenSquare c.in_default.not-CloseSquare c.in_default.not-OpenBrace c.in_default.not-CloseBrace c.in_default.not-LineComment c.in_default.not-BlockComment in
    let partners = c.args.partners.now in
    let marks = c.args.marks.now.items in
    let left = c.args.left.now in
    let after = c.args.after.now in
    let partner = partner_at partners (length marks) in
    let told : Role = role_of class c.args.kind c.args.before left (length marks) partner after in
    let closed : Role = closed_role class (mark_at marks partner) in
    let done = c.mark_code-in_default.ensures in
    record {
      code = is_code class code;
      room = done.room;
      marks = code_marked marks left class closed told code done.marks;
      left = code_passed partners c.args.first marks left class closed told after code done.left;
    }
