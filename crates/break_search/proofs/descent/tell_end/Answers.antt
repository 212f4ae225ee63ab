use Rattle.std.proofs.Common.{◌∙◌, sym}
use Rattle.break_search.proofs.Descending.{end_count}
use Rattle.break_search.proofs.descent.tell_end.Goals as goal

pub breaks_of-requires : goal.breaks_of-requires
breaks_of-requires c = end_count _ _ _ c.requires.ends ∙ sym c.gaps.ensures
