-- Texts that aren't too large.
use Rattle.std.specs.Prelude.{◌≤◌, length}
use Rattle.std.specs.List.{All}
use Rattle.c_chars.specs.declared.TheConstants.{LIMIT}
use Rattle.pp_directives.specs.declared.settings.Setting.{Setting}

-- every text that an include may find has at most so many bytes
abbrev pub IncludesFit : Setting → Type 0
IncludesFit s = All (λ i. length i.bytes.items ≤ LIMIT) s.includes.items
