use Rattle.std.proofs.Common.{subst, sym, take}
use Rattle.std.specs.Str.{IsUtf8}
use Rattle.style_config.proofs.Keys.{key_is_text}
use Rattle.style_config.proofs.pair.pair_of.Goals as goal

pub unreachable-requires : goal.unreachable-requires
unreachable-requires c =
    c.in_default.ensures.cases.0 (subst (λ n. IsUtf8 (take n c.args.text.now)) (sym c.key_len-end.ensures.count) (key_is_text c.args.text.now))
