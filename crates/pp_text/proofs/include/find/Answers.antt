use Rattle.std.proofs.Common.{◌≡◌, ◌∙◌, Some, ap, map, sym}
use Rattle.std.specs.Prelude.{option_map}
use Rattle.c_chars.specs.declared.TheConstants.{LIMIT}
use Rattle.pp_model.specs.Preprocess.{key_of}
use Rattle.pp_model.specs.Setting.{find_text}
use Rattle.pp_events.specs.View.{tok_shown}
use Rattle.pp_directives.specs.SettingView.{text_shown}
use Rattle.pp_text.proofs.Works.{found_fits}
use Rattle.pp_text.proofs.include.find.Goals as goal

pub returns-in-Some-clause-small : goal.returns-in-Some-clause-small
returns-in-Some-clause-small c fit e =
    let includes = c.args.rules.now.setting.now.includes.items in
    let key = key_of (map tok_shown c.args.key.now) in
    let found : find_text (map text_shown includes) key ≡ Some c.in-Some.bytes.now =
    ap (λ is. find_text (map text_shown is) key) (sym c.as_slice.ensures.value)
    ∙ (sym c.find_text.ensures ∙ ap (λ o. option_map (λ b. b.now) o) c.in-Some.is) in
    c.open_text.ensures.small (found_fits LIMIT includes key c.in-Some.bytes.now fit found) e
