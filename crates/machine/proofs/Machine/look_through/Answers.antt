-- Each look is one of the looks of the pass, and the list that it leaves is the list that the next look is made on. Assumes nothing.
use Rattle.std.proofs.Common.{rules, refl, arith}
use Rattle.machine.proofs.Rounds.{round_start, looks_left, round_next, round_end}
use Rattle.machine.proofs.Machine.look_through.Goals as goal

pub loop-self-init : goal.loop-self-init
loop-self-init c = round_start c.requires (search rules) (search rules)

pub overflow_add-looks : goal.overflow_add-looks
overflow_add-looks c =
    let h = c.loop-self.invariant in
    omega (arith, c.look-step.ensures.one, h.few, looks_left h (omega arith))

pub loop-self-smaller : goal.loop-self-smaller
loop-self-smaller c = omega (arith, c.look-step.ensures.one, looks_left c.loop-self.invariant (omega arith))

pub loop-self-preserved : goal.loop-self-preserved
loop-self-preserved c = rw c.carry_out.ensures (round_next c.loop-self.invariant (omega arith) c.look-step.ensures)

pub returns : goal.returns
returns c = round_end c.loop-self.invariant (omega arith) refl refl
