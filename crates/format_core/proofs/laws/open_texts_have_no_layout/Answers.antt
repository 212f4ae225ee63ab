use Rattle.format_core.proofs.Opens.{open_texts_have_no_layout}
use Rattle.format_core.proofs.laws.open_texts_have_no_layout.Goals as goal

pub returns : goal.returns
returns c = open_texts_have_no_layout
