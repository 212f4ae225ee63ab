-- The lines of tokens: the statement tree, read line by line.
use Rattle.std.specs.Prelude.{ℕ, zero, suc, ◌+◌, nat_lt, Bool, true, false, ◌&&◌, List, [], ◌∷◌, ◌++◌, length}
use Rattle.statement_lines.specs.declared.token.CodeToken.{CodeToken}
use Rattle.statement_lines.specs.declared.line.Line.{Line}
use Rattle.line_tokens.specs.declared.line.LineKind.TheVariants.{Brace}
use Rattle.statement_lines.specs.declared.braces.Braces.{Braces}
use Rattle.statement_lines.specs.declared.open.Context.TheVariants.{File}
use Rattle.statement_lines.specs.declared.open.Head.{Head}
use Rattle.statement_lines.specs.declared.open.Head.TheVariants.{Plain}
use Rattle.statement_lines.specs.declared.open.Open.{Open}
use Rattle.statement_lines.specs.declared.open.Start.{Start}
use Rattle.statement_lines.specs.declared.open.Start.TheVariants.{Fresh, Tail, Closing}
use Rattle.statement_lines.specs.declared.form.Next.TheVariants.{Ends, Goes, Waits, Opens}
use Rattle.statement_lines.specs.declared.form.Form.{Form}
use Rattle.token_classes.specs.Classes.{is_else}
use Rattle.line_tokens.specs.Lines.{is_label}
use Rattle.statement_lines.specs.Forms.{seen, tail_end, is_if_head, is_do_head, form_of}

-- the headers that still wait in a list, the innermost first, above the list itself; and what begins next
pub record Reading : Type 0 where
  pub opens : List Open
  pub start : Start

-- an `else` follows the statement of an `if`
abbrev pub answers_else : List CodeToken → Open → ℕ → Bool
answers_else tokens o at = is_if_head o.head && is_else (seen tokens o.end at)

-- its tail follows the statement of a `do`
abbrev pub answers_tail : List CodeToken → Open → ℕ → Bool
answers_tail tokens o at = is_do_head o.head && nat_lt at (tail_end tokens o.end at)

-- Where a statement has ended, so have the headers that waited for it, from the innermost on: up to an `if`
-- that an `else` follows, or a `do` that its tail follows.
abbrev pub settled : List CodeToken → ℕ → List Open → Reading
settled tokens at [] = record { opens = []; start = Fresh }
settled tokens at (o ∷ os) =
    elim o.block [
      | true ↦ record { opens = o ∷ os; start = Fresh }
      | false ↦
          elim (answers_else tokens o at) [
            | true ↦ record { opens = os; start = Fresh }
            | false ↦
                elim (answers_tail tokens o at) [
                  | true ↦ record { opens = os; start = Tail }
                  | false ↦
                      settled tokens at os
                ]
          ]
    ]

-- the statement that a header waits for, one level deeper
abbrev pub body_of : Open → Head → ℕ → Open
body_of o head level =
    record {
      block = false;
      context = o.context;
      level = level + 1;
      case_level = level + 1;
      end = o.end;
      head = head;
      head_level = level;
      assigned = false;
    }

-- the level of an own comment before a line: that of the line's list, and before a label the label's
abbrev pub comment_level : Open → Start → Form → ℕ
comment_level o Fresh f = elim (is_label f.kind) [ true ↦ f.level | false ↦ o.level ]
comment_level o Tail f = o.level
comment_level o (Closing b) f = b.level

-- the lines of a head whose block's brace stands at its end
abbrev pub head_lines : Open → Start → ℕ → Form → Bool → List Line
head_lines o start at f true =
    record { first = at; end = f.end; level = f.level; kind = f.kind; list_level = comment_level o start f }
    ∷ record { first = f.end; end = f.end + 1; level = f.level; kind = Brace; list_level = o.level } ∷ []
head_lines o start at f false =
    record { first = at; end = f.end + 1; level = f.level; kind = f.kind; list_level = comment_level o start f } ∷ []

abbrev pub line_of : Open → Start → ℕ → Form → Line
line_of o start at f =
    record { first = at; end = f.end; level = f.level; kind = f.kind; list_level = comment_level o start f }

-- The lines from `at` to the end of a list. `opens` has the headers that wait there, the innermost first, and
-- last the list. Each line takes a token, so the number of tokens suffices for `n`.
abbrev pub lines_from : ℕ → Braces → List CodeToken → List Open → Start → ℕ → List Line
lines_from zero braces tokens os start at = []
lines_from (suc n) braces tokens [] start at = []
lines_from (suc n) braces tokens (o ∷ os) start at =
    elim (nat_lt at o.end) [
      | false ↦ []
      | true ↦
          let f = form_of braces tokens o start at in
          elim f.next [
            | Ends ↦ let r =
                settled tokens f.end (o ∷ os) in
                line_of o start at f ∷ lines_from n braces tokens r.opens r.start f.end
            | Goes s ↦ line_of o start at f ∷ lines_from n braces tokens (o ∷ os) s f.end
            | Waits h ↦ line_of o start at f ∷ lines_from n braces tokens (body_of o h f.level ∷ o ∷ os) Fresh f.end
            | Opens wrapped b ↦
                head_lines o start at f wrapped
                ++ lines_from n braces tokens (b ∷ []) Fresh (f.end + 1)
                ++ lines_from n braces tokens (o ∷ os) (Closing b) b.end
          ]
    ]

abbrev pub whole_file : List CodeToken → Open
whole_file tokens =
    record {
      block = true;
      context = File;
      level = 0;
      case_level = 0;
      end = length tokens;
      head = Plain;
      head_level = 0;
      assigned = false;
    }

-- the level of a list, above which these headers wait, the innermost first: there is no statement that they wait for
abbrev pub level_of_list : List Open → ℕ
level_of_list [] = 0
level_of_list (o ∷ os) = elim o.block [ true ↦ o.level | false ↦ level_of_list os ]

-- The level of the innermost list that is open behind the last token, read from a place of a list that is open there: a
-- block that ends before is passed over.
abbrev pub end_level_from : ℕ → Braces → List CodeToken → List Open → Start → ℕ → ℕ
end_level_from zero braces tokens os start at = 0
end_level_from (suc n) braces tokens [] start at = 0
end_level_from (suc n) braces tokens (o ∷ os) start at =
    elim (nat_lt at o.end) [
      | false ↦ level_of_list (o ∷ os)
      | true ↦
          let f = form_of braces tokens o start at in
          elim f.next [
            | Ends ↦ let r = settled tokens f.end (o ∷ os) in end_level_from n braces tokens r.opens r.start f.end
            | Goes s ↦ end_level_from n braces tokens (o ∷ os) s f.end
            | Waits h ↦ end_level_from n braces tokens (body_of o h f.level ∷ o ∷ os) Fresh f.end
            | Opens wrapped b ↦
                elim (nat_lt b.end o.end) [
                  | true ↦ end_level_from n braces tokens (o ∷ os) (Closing b) b.end
                  | false ↦ end_level_from n braces tokens (b ∷ []) Fresh (f.end + 1)
                ]
          ]
    ]

-- the lines of tokens
abbrev pub lines_of : Braces → List CodeToken → List Line
lines_of braces tokens = lines_from (length tokens) braces tokens (whole_file tokens ∷ []) Fresh 0

-- the level of the innermost list that is open at the end
abbrev pub end_level : Braces → List CodeToken → ℕ
end_level braces tokens = end_level_from (length tokens + 1) braces tokens (whole_file tokens ∷ []) Fresh 0
