-- The cases of a statement: what line begins at a place, where it ends, and what it leaves open.
use Rattle.std.specs.Prelude.{ℕ, zero, suc, ◌+◌, ◌-◌, nat_lt, nat_le, ◌*◌, ◌<◌, ◌≤◌, ◌≡◌, Bool, true, false, not, ◌&&◌}
use Rattle.std.specs.Prelude.{◌||◌, List, Option, Some, None, slice_get, length}
use Rattle.token_classes.specs.declared.class.TokenClass.{TokenClass}
use Rattle.token_classes.specs.declared.class.TokenClass.TheVariants.{Nothing}
use Rattle.statement_lines.specs.declared.token.CodeToken.{CodeToken}
use Rattle.line_tokens.specs.declared.line.LineKind.{LineKind}
use Rattle.line_tokens.specs.declared.line.LineKind.TheVariants.{Simple, CaseLabel, GotoLabel, Control, FuncHead}
use Rattle.line_tokens.specs.declared.line.LineKind.TheVariants.{StructHead, EnumHead, ExternHead, Brace, Close}
use Rattle.line_tokens.specs.declared.line.LineKind.TheVariants.{Enumerator, MacroLine}
use Rattle.statement_lines.specs.declared.braces.Braces.{Braces}
use Rattle.statement_lines.specs.declared.open.Context.{Context}
use Rattle.statement_lines.specs.declared.open.Context.TheVariants.{File, Code, Member, Enumerators}
use Rattle.statement_lines.specs.declared.open.Head.{Head}
use Rattle.statement_lines.specs.declared.open.Head.TheVariants.{If as IfHead, Do as DoHead, Switch as SwitchHead}
use Rattle.statement_lines.specs.declared.open.Head.TheVariants.{Tagged, Plain}
use Rattle.statement_lines.specs.declared.open.Open.{Open}
use Rattle.statement_lines.specs.declared.open.Start.{Start}
use Rattle.statement_lines.specs.declared.open.Start.TheVariants.{Fresh, Tail, Closing}
use Rattle.statement_lines.specs.declared.form.Next.{Next}
use Rattle.statement_lines.specs.declared.form.Next.TheVariants.{Ends, Goes, Waits, Opens}
use Rattle.statement_lines.specs.declared.form.Form.{Form}
use Rattle.statement_lines.specs.declared.form.Stop.{Stop}
use Rattle.token_classes.specs.Classes.{is_word, is_plain, is_control, is_opener, is_before_list, is_assigning}
use Rattle.token_classes.specs.Classes.{is_capital, is_if, is_else, is_while, is_do, is_switch, is_case, is_default}
use Rattle.token_classes.specs.Classes.{is_struct, is_union, is_enum, is_extern, is_call_word, is_open_round}
use Rattle.token_classes.specs.Classes.{is_close_round, is_open_brace, is_close_brace, is_colon, is_semicolon, is_comma}
use Rattle.token_classes.specs.Classes.{is_question, is_text}

-- ## What stands at a place

abbrev pub class_of : Option CodeToken → TokenClass
class_of None = Nothing
class_of (Some t) = t.class

abbrev pub class_at : List CodeToken → ℕ → TokenClass
class_at tokens i = class_of (slice_get tokens i)

-- of a list that ends at `end`
abbrev pub seen : List CodeToken → ℕ → ℕ → TokenClass
seen tokens end i = elim (nat_lt i end) [ true ↦ class_at tokens i | false ↦ Nothing ]

abbrev pub partner_of : Option CodeToken → Option ℕ
partner_of None = None
partner_of (Some t) = t.partner

abbrev pub within : ℕ → ℕ → Option ℕ → Option ℕ
within i end None = None
within i end (Some p) = elim (nat_lt i p && nat_lt p end) [ true ↦ Some p | false ↦ None ]

-- the partner of the opener at a place, in the list
abbrev pub partner_in : List CodeToken → ℕ → ℕ → Option ℕ
partner_in tokens end i = within i end (partner_of (slice_get tokens i))

abbrev pub behind_partner : ℕ → Option ℕ → ℕ
behind_partner otherwise None = otherwise
behind_partner otherwise (Some p) = p + 1

abbrev pub partner_or : ℕ → Option ℕ → ℕ
partner_or otherwise None = otherwise
partner_or otherwise (Some p) = p

-- the place after the group in parentheses at a place, or that place where there is none
abbrev pub after_group : List CodeToken → ℕ → ℕ → ℕ
after_group tokens end i =
    elim (is_open_round (seen tokens end i)) [ true ↦ behind_partner i (partner_in tokens end i) | false ↦ i ]

-- Outside brackets a group is passed over whole, and an opener without partner holds all to the list's end.
abbrev pub step_over : List CodeToken → ℕ → ℕ → ℕ
step_over tokens end i =
    elim (is_opener (class_at tokens i)) [ true ↦ behind_partner end (partner_in tokens end i) | false ↦ i + 1 ]

-- where the block of a brace ends: its `}`, or the list's end
abbrev pub block_end : List CodeToken → ℕ → ℕ → ℕ
block_end tokens end i = partner_or end (partner_in tokens end i)

abbrev pub began_of : Option CodeToken → Bool
began_of None = false
began_of (Some t) = t.began

abbrev pub began_at : List CodeToken → ℕ → Bool
began_at tokens i = began_of (slice_get tokens i)

abbrev pub touched_of : Option CodeToken → Bool
touched_of None = false
touched_of (Some t) = t.touched

abbrev pub touched_at : List CodeToken → ℕ → Bool
touched_at tokens i = touched_of (slice_get tokens i)

abbrev pub is_missing : Option ℕ → Bool
is_missing None = true
is_missing (Some p) = false

abbrev pub has_no_partner : List CodeToken → ℕ → Bool
has_no_partner tokens i = is_missing (partner_of (slice_get tokens i))

abbrev pub is_code : Context → Bool
is_code Code = true
is_code _ = false

abbrev pub is_enumerators : Context → Bool
is_enumerators Enumerators = true
is_enumerators _ = false

abbrev pub is_switch_head : Head → Bool
is_switch_head SwitchHead = true
is_switch_head _ = false

abbrev pub is_if_head : Head → Bool
is_if_head IfHead = true
is_if_head _ = false

abbrev pub is_do_head : Head → Bool
is_do_head DoHead = true
is_do_head _ = false

abbrev pub is_tagged : Head → Bool
is_tagged Tagged = true
is_tagged _ = false

-- ## Scans, outside brackets

-- the first `:` that answers no `?`, or the list's end
abbrev pub case_colon : ℕ → List CodeToken → ℕ → ℕ → ℕ → ℕ
case_colon zero tokens end i asked = end
case_colon (suc n) tokens end i asked =
    elim (nat_lt i end) [
      | false ↦ end
      | true ↦
          elim (is_question (class_at tokens i)) [
            | true ↦ case_colon n tokens end (i + 1) (asked + 1)
            | false ↦
                elim (is_colon (class_at tokens i)) [
                  | true ↦ elim (nat_lt 0 asked) [ true ↦ case_colon n tokens end (i + 1) (asked - 1) | false ↦ i ]
                  | false ↦
                      case_colon n tokens end (step_over tokens end i) asked
                ]
          ]
    ]

-- the end of an enumerator, its comma included
abbrev pub enumerator_end : ℕ → List CodeToken → ℕ → ℕ → ℕ
enumerator_end zero tokens end i = end
enumerator_end (suc n) tokens end i =
    elim (nat_lt i end) [
      | false ↦ end
      | true ↦
          elim (is_comma (class_at tokens i)) [
            | true ↦ i + 1
            | false ↦
                enumerator_end n tokens end (step_over tokens end i)
          ]
    ]

abbrev pub class_before : List CodeToken → ℕ → TokenClass
class_before tokens i = elim (nat_lt 0 i) [ true ↦ class_at tokens (i - 1) | false ↦ Nothing ]

-- A `{` opens a list of values by what stands before it, or after `)` where an `=` or `return` stands
-- earlier in its statement.
abbrev pub opens_list : List CodeToken → Bool → ℕ → Bool
opens_list tokens assigned i =
    is_before_list (class_before tokens i) || (is_close_round (class_before tokens i) && assigned)

abbrev pub opens_block : List CodeToken → Bool → ℕ → Bool
opens_block tokens assigned i = is_open_brace (class_at tokens i) && not (opens_list tokens assigned i)

abbrev pub assigns : List CodeToken → Bool → ℕ → Bool
assigns tokens assigned i = assigned || is_assigning (class_at tokens i)

-- where a statement that is no other case ends: after its first `;`, at the list's end, or at the brace of a block
abbrev pub statement_stop : ℕ → List CodeToken → ℕ → ℕ → Bool → Stop
statement_stop zero tokens end i assigned = record { at = end; opens = false; assigned = assigned }
statement_stop (suc n) tokens end i assigned =
    elim (nat_lt i end) [
      | false ↦ record { at = end; opens = false; assigned = assigned }
      | true ↦
          elim (is_semicolon (class_at tokens i)) [
            | true ↦ record { at = i + 1; opens = false; assigned = assigned }
            | false ↦
                elim (opens_block tokens assigned i) [
                  | true ↦ record { at = i; opens = true; assigned = assigned }
                  | false ↦
                      statement_stop n tokens end (step_over tokens end i) (assigns tokens assigned i)
                ]
          ]
    ]

abbrev pub behind : ℕ → ℕ → Option ℕ → ℕ
behind first i None = 0
behind first i (Some p) = elim (nat_lt first p && nat_lt p i) [ true ↦ p | false ↦ 0 ]

-- the opener of the group that ends before the place `i` and stands after a call word, otherwise 0
abbrev pub call_opener : List CodeToken → ℕ → ℕ → ℕ
call_opener tokens first i =
    elim (is_close_round (class_at tokens (i - 1))) [
      | false ↦ 0
      | true ↦
          let o = behind first (i - 1) (partner_of (slice_get tokens (i - 1))) in
          elim (nat_lt 0 o && is_call_word (class_at tokens (o - 1))) [ true ↦ o | false ↦ 0 ]
    ]

abbrev pub is_member_word : TokenClass → Bool
is_member_word c = is_struct c || is_union c

abbrev pub enum_or : TokenClass → TokenClass → TokenClass
enum_or c found = elim (is_enum c) [ true ↦ c | false ↦ found ]

-- `struct`, `union` or `enum` before the place `i`, with only words and groups after call words between
abbrev pub tag_before : ℕ → List CodeToken → ℕ → ℕ → TokenClass → TokenClass
tag_before zero tokens first i found = found
tag_before (suc n) tokens first i found =
    elim (nat_lt first i) [
      | false ↦ found
      | true ↦
          let c = class_at tokens (i - 1) in
          elim (is_member_word c) [
            | true ↦ c
            | false ↦
                elim (is_word c) [
                  | true ↦ tag_before n tokens first (i - 1) (enum_or c found)
                  | false ↦
                      let o = call_opener tokens first i in
                      elim (nat_lt 0 o) [ true ↦ tag_before n tokens first o found | false ↦ found ]
                ]
          ]
    ]

-- ## Forms

-- a block at the brace at `i`
abbrev pub block_at : List CodeToken → ℕ → ℕ → Context → Head → ℕ → ℕ → Open
block_at tokens end i context head head_level level =
    record {
      block = true;
      context = context;
      level = level;
      case_level = level;
      end = block_end tokens end i;
      head = head;
      head_level = head_level;
      assigned = false;
    }

abbrev pub label_form : List CodeToken → Open → LineKind → ℕ → Bool → ℕ → Form
label_form tokens o kind level wrapped colon =
    record {
      kind = kind;
      level = level;
      end = colon + 1;
      next = elim (is_open_brace (seen tokens o.end (colon + 1))) [
        | true ↦ Opens wrapped (block_at tokens o.end (colon + 1) Code Plain level (level + 1))
        | false ↦ Ends
      ];
    }

abbrev pub goto_level : Braces → Open → ℕ
goto_level braces o = elim braces.indent_goto_labels [ true ↦ o.level - 1 | false ↦ 0 ]

-- labels: `case` through its `:`, `default` and `:`, in code a plain word and `:` that touches no `:`
abbrev pub label : Braces → List CodeToken → Open → ℕ → Option Form
label braces tokens o at =
    let c = class_at tokens at in
    let colon = case_colon (o.end - (at + 1)) tokens o.end (at + 1) 0 in
    elim (is_case c && nat_lt colon o.end) [
      | true ↦ Some (label_form tokens o CaseLabel o.case_level braces.after_case_label colon)
      | false ↦
          elim (is_colon (seen tokens o.end (at + 1))) [
            | false ↦ None
            | true ↦
                elim (is_default c) [
                  | true ↦ Some (label_form tokens o CaseLabel o.case_level braces.after_case_label (at + 1))
                  | false ↦
                      elim (is_plain c && (is_code o.context && not (touched_at tokens (at + 1)))) [
                        | true ↦ Some (label_form tokens o GotoLabel (goto_level braces o) false (at + 1))
                        | false ↦ None
                      ]
                ]
          ]
    ]

-- the end of the header of a control word
abbrev pub header_end : List CodeToken → ℕ → ℕ → ℕ
header_end tokens end at =
    let c = class_at tokens at in
    elim (is_do c) [
      | true ↦ at + 1
      | false ↦
          elim (is_else c) [
            | false ↦ after_group tokens end (at + 1)
            | true ↦
                elim (is_if (seen tokens end (at + 1))) [ true ↦ after_group tokens end (at + 2) | false ↦ at + 1 ]
          ]
    ]

abbrev pub head_of : List CodeToken → ℕ → ℕ → Head
head_of tokens end at =
    let c = class_at tokens at in
    elim (is_if c || (is_else c && is_if (seen tokens end (at + 1)))) [
      | true ↦ IfHead
      | false ↦
          elim (is_do c) [
            | true ↦ DoHead
            | false ↦
                elim (is_switch c) [ true ↦ SwitchHead | false ↦ Plain ]
          ]
    ]

-- Labels of a switch have its level, one more where they are indented; other statements have one more than they.
abbrev pub label_level : Braces → ℕ → ℕ
label_level braces level = elim braces.indent_case_labels [ true ↦ level + 1 | false ↦ level ]

abbrev pub control_block : Braces → List CodeToken → ℕ → ℕ → Head → ℕ → Open
control_block braces tokens end i head level =
    elim (is_switch_head head) [
      | true ↦
          record {
            block = true;
            context = Code;
            level = label_level braces level + 1;
            case_level = label_level braces level;
            end = block_end tokens end i;
            head = head;
            head_level = level;
            assigned = false;
          }
      | false ↦ block_at tokens end i Code head level (level + 1)
    ]

-- where a statement's tokens begin on its line, which may begin with the `}` of a block
abbrev pub behind_close : Bool → ℕ → ℕ
behind_close closes at = elim closes [ true ↦ at + 1 | false ↦ at ]

abbrev pub kind_or_close : Bool → LineKind → LineKind
kind_or_close closes kind = elim closes [ true ↦ Close | false ↦ kind ]

-- a header, on a line of its own or behind a `}`
abbrev pub control_form : Braces → List CodeToken → Open → Bool → ℕ → ℕ → Form
control_form braces tokens o closes level at =
    let from = behind_close closes at in
    let h = header_end tokens o.end from in
    let head = head_of tokens o.end from in
    record {
      kind = kind_or_close closes Control;
      level = level;
      end = h;
      next = elim (is_open_brace (seen tokens o.end h)) [
        | true ↦ Opens braces.after_control (control_block braces tokens o.end h head level)
        | false ↦ Waits head
      ];
    }

-- the end of the `while` tail of a `do` at a place, or that place where there is none
abbrev pub tail_end : List CodeToken → ℕ → ℕ → ℕ
tail_end tokens end i =
    let g = after_group tokens end (i + 1) in
    elim (is_while (seen tokens end i) && (nat_lt (i + 1) g && is_semicolon (seen tokens end g)))
    [ true ↦ g + 1 | false ↦ i ]

-- a word with the lines' macro form ends where the next token began its line and is a word, a `}` or none
abbrev pub ends_macro : List CodeToken → ℕ → Bool
ends_macro tokens i =
    nat_le (length tokens) i
    || (began_at tokens i && (is_word (class_at tokens i) || is_close_brace (class_at tokens i)))

abbrev pub macro_end : List CodeToken → ℕ → ℕ → ℕ
macro_end tokens end at =
    let g = after_group tokens end (at + 1) in
    elim (is_plain (class_at tokens at)
    && ((nat_lt (at + 1) g || is_capital (class_at tokens at)) && ends_macro tokens g)) [ true ↦ g | false ↦ at ]

abbrev pub tagged_kind : TokenClass → LineKind
tagged_kind c =
    elim (is_member_word c) [ true ↦ StructHead | false ↦ elim (is_enum c) [ true ↦ EnumHead | false ↦ FuncHead ] ]

abbrev pub wraps_tagged : Braces → TokenClass → Bool
wraps_tagged braces c =
    elim (is_struct c) [
      | true ↦ braces.after_struct
      | false ↦
          elim (is_union c) [
            | true ↦ braces.after_union
            | false ↦
                elim (is_enum c) [ true ↦ braces.after_enum | false ↦ braces.after_function ]
          ]
    ]

abbrev pub tagged_context : TokenClass → Context
tagged_context c =
    elim (is_member_word c) [ true ↦ Member | false ↦ elim (is_enum c) [ true ↦ Enumerators | false ↦ Code ] ]

abbrev pub tagged_head : TokenClass → Head
tagged_head c = elim (is_struct c || (is_union c || is_enum c)) [ true ↦ Tagged | false ↦ Plain ]

-- any other statement, or what goes on after the `}` of a struct, union or enum
abbrev pub other_form : Braces → List CodeToken → Open → Bool → ℕ → ℕ → Bool → Form
other_form braces tokens o closes level at assigned =
    let from = behind_close closes at in
    let s = statement_stop (o.end - from) tokens o.end from assigned in
    let tag = tag_before (s.at - from) tokens from s.at Nothing in
    elim s.opens [
      | true ↦ record {
        kind = kind_or_close closes (tagged_kind tag);
        level = level;
        end = s.at;
        next =
            Opens (wraps_tagged braces tag) (record {
              block = true;
              context = tagged_context tag;
              level = level + 1;
              case_level = level + 1;
              end = block_end tokens o.end s.at;
              head = tagged_head tag;
              head_level = level;
              assigned = s.assigned;
            });
      }
      | false ↦ record { kind = kind_or_close closes Simple; level = level; end = s.at; next = Ends }
    ]

-- the cases behind labels and control statements: the call of a macro with a block, a block, an extern block, a macro's
-- line, any other statement
abbrev pub unlabelled : Braces → List CodeToken → Open → ℕ → Form
unlabelled braces tokens o at =
    let c = class_at tokens at in
    let g = after_group tokens o.end (at + 1) in
    elim (is_code o.context && (is_plain c && (nat_lt (at + 1) g && is_open_brace (seen tokens o.end g)))) [
      | true ↦
          record {
            kind = Control;
            level = o.level;
            end = g;
            next = Opens braces.after_control (block_at tokens o.end g Code Plain o.level (o.level + 1));
          }
      | false ↦
          elim (is_open_brace c) [
            | true ↦
                record {
                  kind = Brace;
                  level = o.level;
                  end = at;
                  next = Opens false (block_at tokens o.end at Code Plain o.level (o.level + 1));
                }
            | false ↦
                elim
                (is_extern c && (is_text (seen tokens o.end (at + 1)) && is_open_brace (seen tokens o.end (at + 2)))) [
                  | true ↦
                      record {
                        kind = ExternHead;
                        level = o.level;
                        end = at + 2;
                        next = Opens braces.after_extern
                            (block_at tokens o.end (at + 2) File Plain o.level o.level);
                      }
                  | false ↦
                      let m = macro_end tokens o.end at in
                      elim (nat_lt at m) [
                        | true ↦ record { kind = MacroLine; level = o.level; end = m; next = Ends }
                        | false ↦
                            other_form braces tokens o false o.level at false
                      ]
                ]
          ]
    ]

-- the cases, the first that fits
abbrev pub statement : Braces → List CodeToken → Open → ℕ → Form
statement braces tokens o at =
    let c = class_at tokens at in
    elim (is_enumerators o.context) [
      | true ↦
          record
          { kind = Enumerator; level = o.level; end = enumerator_end (o.end - at) tokens o.end at; next = Ends }
      | false ↦
          elim (is_close_brace c && has_no_partner tokens at) [
            | true ↦ record { kind = Close; level = o.level; end = at + 1; next = Ends }
            | false ↦
                elim (label braces tokens o at) [
                  | Some f ↦ f
                  | None ↦
                      elim (is_control c) [
                        | true ↦ control_form braces tokens o false o.level at
                        | false ↦ unlabelled braces tokens o at
                      ]
                ]
          ]
    ]

-- the line of a block's `}`
abbrev pub close_form : Braces → List CodeToken → Open → Open → ℕ → Form
close_form braces tokens o b at =
    let t = tail_end tokens o.end (at + 1) in
    elim (is_tagged b.head) [
      | true ↦ other_form braces tokens o true b.head_level at b.assigned
      | false ↦
          elim (is_do_head b.head && nat_lt (at + 1) t) [
            | true ↦ elim braces.before_while [
              | true ↦ record { kind = Close; level = b.head_level; end = at + 1; next = Goes Tail }
              | false ↦ record { kind = Close; level = b.head_level; end = t; next = Ends }
            ]
            | false ↦
                elim (is_semicolon (seen tokens o.end (at + 1))) [
                  | true ↦ record { kind = Close; level = b.head_level; end = at + 2; next = Ends }
                  | false ↦
                      elim (is_if_head b.head && is_else (seen tokens o.end (at + 1))) [
                        | true ↦ elim braces.before_else [
                          | true ↦ record { kind = Close; level = b.head_level; end = at + 1; next = Goes Fresh }
                          | false ↦ control_form braces tokens o true b.head_level at
                        ]
                        | false ↦
                            record { kind = Close; level = b.head_level; end = at + 1; next = Ends }
                      ]
                ]
          ]
    ]

-- the line that begins at a place of the innermost list
abbrev pub form_of : Braces → List CodeToken → Open → Start → ℕ → Form
form_of braces tokens o Fresh at = statement braces tokens o at
form_of braces tokens o Tail at =
    let t = tail_end tokens o.end at in
    elim (nat_lt at t) [
      | true ↦ record { kind = Control; level = o.level; end = t; next = Ends }
      | false ↦ statement braces tokens o at
    ]
form_of braces tokens o (Closing b) at = close_form braces tokens o b at

-- ## What holds of a form

-- no level is above twice the number of tokens before
abbrev pub IsLow : ℕ → Start → Type 0
IsLow at Fresh = Unit {0}
IsLow at Tail = Unit {0}
IsLow at (Closing b) = b.head_level ≤ 2 * at

-- a line takes a token and stays in its list, and so does a block, whose brace stands behind the line
abbrev pub StaysIn : ℕ → Open → Form → Next → Type 0
StaysIn at o f Ends = (at < f.end) × (f.end ≤ o.end)
StaysIn at o f (Goes s) = (at < f.end) × ((f.end ≤ o.end) × IsLow at s)
StaysIn at o f (Waits h) = (at < f.end) × (f.end ≤ o.end)
StaysIn at o f (Opens wrapped b) =
    record {
      begins : at ≤ f.end;
      takes : wrapped ≡ true → at < f.end;
      goes_on : f.end < b.end;
      ends : b.end ≤ o.end;
      is_block : b.block ≡ true;
      level : b.level ≤ f.level + 2;
      case_level : b.case_level ≤ f.level + 2;
      head_level : b.head_level ≤ f.level;
    }
