use Rattle.std.proofs.Common.{◌≡◌, map}
use Rattle.pp_directives.specs.SettingView.{text_shown}
use Rattle.pp_text.specs.Unread.{whole}
use Rattle.pp_text.specs.ReadingView.{rules_shown, reading_shown}
use Rattle.pp_text.specs.Work.{count_in, work}
use Rattle.pp_text.proofs.reading.Reading.read_all.Given as goal

abbrev pub invariant-sections : goal.invariant-sections
invariant-sections l = whole (rules_shown l.rules) (reading_shown l.reading) ≡ whole (rules_shown l.rules) (reading_shown l.fn.self)

abbrev pub decreases-sections : goal.decreases-sections
decreases-sections l = work (count_in l.rules.spellings.dialect (map text_shown l.rules.setting.now.includes.items)) l.reading
