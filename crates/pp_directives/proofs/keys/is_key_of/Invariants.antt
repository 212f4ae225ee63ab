use Rattle.std.proofs.Common.{◌≡◌, map, drop}
use Rattle.pp_model.specs.Token.{erase, list_eq}
use Rattle.pp_model.specs.Preprocess.{key_of}
use Rattle.pp_events.specs.View.{shown, tok_shown}
use Rattle.pp_directives.proofs.keys.is_key_of.Given as goal

abbrev pub invariant-loop-expected : goal.invariant-loop-expected
invariant-loop-expected l =
    list_eq (map erase (map shown (drop l.expected-index l.key))) (key_of (map tok_shown l.rest)) ≡ list_eq (map erase (map shown l.key)) (key_of (map tok_shown l.fn.tokens))
