-- The text that is laid out.
use Rattle.std.specs.Prelude.{ℕ, List}
use Rattle.replacements.specs.Written.{written}
use Rattle.format_core.specs.declared.laid_text.LaidText.{LaidText}

-- the text of its plan
unfoldable pub text_of : LaidText → List ℕ
text_of laid = written laid.style laid.crlf laid.arena laid.sections.now laid.plan
