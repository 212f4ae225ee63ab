use Rattle.std.proofs.Common.{◌∙◌, ◌∷◌, [], ◌++◌, ap, arith}
use Rattle.statement_lines.specs.Lines.{lines_told, row_of}
use Rattle.statement_lines.specs.declared.lines.Lines.TheInside.{Inside}
use Rattle.statement_lines.proofs.KeptLines.{told_pushed, told_apart}
use Rattle.statement_lines.proofs.lines.Lines.push.Goals as goal
use Rattle.statement_lines.proofs.lines.Lines.push.Goals.{then-line+in_ok-keep_levels+in_ok-push, else-line}

pub returns : goal.returns
returns c =
    let line = c.args.line in
    let rows = c.push_reserved.new.self.items in
    elim c.if-line.branch [
      | then-line+in_ok-keep_levels+in_ok-push w ↦
          let pushed = c.push_reserved.ensures.items ∙ ap (λ (x : Inside). x.rows.items ++ row_of line ∷ []) w.self-inside-is in
          ap (λ (x : Inside). lines_told rows x.levels.items) w.self-inside-is
          ∙ told_apart c.self.inside.rows.items c.reserve_room.new.items.items w.deref.result.now rows c.self.inside.levels.items w.keep_levels.new.levels.items w.push.new.self.items c.args.self.now line
          c.in_ok-reserve_room.ensures.items w.deref.ensures.value pushed w.in_ok-keep_levels.ensures.lines w.in_ok-keep_levels.ensures.all w.in_ok-push.ensures.items c.self.view_is c.requires
      | else-line w ↦
          let pushed = c.push_reserved.ensures.items ∙ ap (λ (x : Inside). x.rows.items ++ row_of line ∷ []) w.self-inside-is in
          ap (λ (x : Inside). lines_told rows x.levels.items) w.self-inside-is
          ∙ told_pushed c.self.inside.rows.items c.reserve_room.new.items.items rows c.self.inside.levels.items c.args.self.now line
          c.self.invariant.count c.in_ok-reserve_room.ensures.items pushed (omega (arith, w.if-line.false)) c.self.view_is c.requires
    ]
