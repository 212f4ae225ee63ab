use Rattle.std.proofs.Common.{◌≡◌, ◌∙◌, ◌-◌, ◌+◌, sym, suc, arith}
use Rattle.c_chars.specs.Characters.{bytes_of}
use Rattle.c_lexer.proofs.UnitsOff.{hex_next, hex_stop}
use Rattle.c_lexer.proofs.unit.begins_hex.Goals as goal

pub loop-index-preserved : goal.loop-index-preserved
loop-index-preserved c =
    let left : c.args.count - c.loop-index.index ≡ suc (c.args.count - (c.loop-index.index + 1)) = omega arith in (
      omega arith,
      sym (hex_next (c.args.count - c.loop-index.index) (c.args.count - (c.loop-index.index + 1)) c.loop-index.index (bytes_of c.args.text.now.chars) c.byte_at.result left c.byte_at.ensures (sym c.is_hex.ensures ∙ c.if-not-is_hex.false))
          ∙ c.loop-index.invariant.1,
    )

pub returns-then-not-is_hex : goal.returns-then-not-is_hex
returns-then-not-is_hex c =
    let left : c.args.count - c.loop-index.index ≡ suc (c.args.count - (c.loop-index.index + 1)) = omega arith in
    sym (hex_stop (c.args.count - c.loop-index.index) (c.args.count - (c.loop-index.index + 1)) c.loop-index.index (bytes_of c.args.text.now.chars) c.byte_at.result left c.byte_at.ensures (sym c.is_hex.ensures ∙ c.if-not-is_hex.true))
    ∙ c.loop-index.invariant.1
