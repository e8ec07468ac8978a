use Rattle.std.proofs.Common.{arith, cond, ap, sym, ◌∙◌}
use Rattle.std.specs.Int.{w128}
use Rattle.std.proofs.lemmas.Nat.Bits.{bit_at_set_same, bit_at_set_other, bit_at_clear_same, bit_at_clear_other}
use Rattle.event_order.proofs.MarkBits.{write_one}
use Rattle.event_order.proofs.marks.mark.Goals as goal

pub returns-then-some : goal.returns-then-some
returns-then-some c = write_one c.args.marks.now c.args.place _ (cond c.args.some 1 0) c.told-marks c.requires
    (bit_at_set_same w128 _ _ (omega arith) ∙ ap (λ b. cond b 1 0) (sym c.if-some.true))
    (λ i low other. bit_at_set_other w128 _ _ (omega arith) i other)

pub returns-else-some : goal.returns-else-some
returns-else-some c = write_one c.args.marks.now c.args.place _ (cond c.args.some 1 0) c.told-marks c.requires
    (bit_at_clear_same w128 _ _ (omega arith) ∙ ap (λ b. cond b 1 0) (sym c.if-some.false))
    (λ i low other. bit_at_clear_other w128 _ _ (omega arith) i low other)
