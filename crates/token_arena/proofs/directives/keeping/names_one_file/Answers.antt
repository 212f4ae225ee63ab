use Rattle.std.proofs.Common.{◌∙◌, ◌+◌}
use Rattle.std.specs.List.{slice_range}
use Rattle.token_arena.specs.Entries.{told_by}
use Rattle.token_arena.proofs.Codes.{no_name, no_file, two_files, one_file}
use Rattle.token_arena.proofs.directives.keeping.names_one_file.Goals as goal

pub returns-in-None : goal.returns-in-None
returns-in-None c = no_name (slice_range c.args.arena.now.tokens c.args.from c.args.end) c.in-None.ensures

pub returns-in-None-first_code : goal.returns-in-None-first_code
returns-in-None-first_code c =
    let tokens = c.args.arena.now.tokens in
    let end = c.args.end in
    no_file (slice_range tokens c.args.from end) (slice_range tokens (c.in-Some.name + 1) end) (told_by c.in-Some.field-0-1) c.in-Some.ensures.2 c.in-None-first_code.ensures

pub returns-in-None-first_code-2 : goal.returns-in-None-first_code-2
returns-in-None-first_code-2 c =
    let tokens = c.args.arena.now.tokens in
    let end = c.args.end in
    c.is_file_name.ensures
    ∙ one_file (slice_range tokens c.args.from end) (slice_range tokens (c.in-Some.name + 1) end) (slice_range tokens (c.in-Some-first_code.file + 1) end) (told_by c.in-Some.field-0-1) (told_by c.in-Some-first_code.token)
    c.in-Some.ensures.2 c.in-Some-first_code.ensures.2 c.in-None-first_code-2.ensures

pub returns-in-Some-first_code-2 : goal.returns-in-Some-first_code-2
returns-in-Some-first_code-2 c =
    let tokens = c.args.arena.now.tokens in
    let end = c.args.end in
    two_files (slice_range tokens c.args.from end) (slice_range tokens (c.in-Some.name + 1) end) (slice_range tokens (c.in-Some-first_code.file + 1) end) (slice_range tokens (c.in-Some-first_code-2.field-0.0 + 1) end)
    (told_by c.in-Some.field-0-1) (told_by c.in-Some-first_code.token) (told_by c.in-Some-first_code-2.field-0.1) c.in-Some.ensures.2 c.in-Some-first_code.ensures.2 c.in-Some-first_code-2.ensures.2
