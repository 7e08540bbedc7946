-- The goals of `show::stored_before` that are left. Its invariant is in `Invariants`. Assumes nothing.
use Prim.Native.Nat.{◌+◌}
use native.Mathlib.Omega.{arith}
use mathlib.Core.Path.{◌≡◌, sym, ◌∙◌, ap}
use mathlib.Core.List.{[], ◌∷◌}
use lib.ListN.{get_or}
use Rattle.format.specs.declared.Record.{Record}
use Rattle.format.specs.declared.Record.TheVariants.{New}
use Rattle.format.specs.Record.{records_of}
use Rattle.format.specs.Meaning.{stored}
use Rattle.format.proofs.Rows.{length_records_of, get_d_records_of, stored_take_next, stored_take_most}
use Rattle.show.proofs.stored_before.Goals as goal

pub record_at-requires : goal.record_at-requires
record_at-requires c = omega (arith, length_records_of c.args.list.now)

pub stored_after-sum-requires : goal.stored_after-sum-requires
stored_after-sum-requires c =
    let l = records_of c.args.list.now in
    let i = c.loop-i.i in
    let r : c.record_at.result ≡ get_or l i (New 0) = c.record_at.ensures ∙ sym (get_d_records_of c.args.list.now i (omega arith)) in
    omega (arith, ap (λ (x : Record). stored (x ∷ [])) r, c.loop-i.invariant, stored_take_next l i (omega arith), stored_take_most l (i + 1))

pub loop-i-preserved : goal.loop-i-preserved
loop-i-preserved c =
    let l = records_of c.args.list.now in
    let i = c.loop-i.i in
    let r : c.record_at.result ≡ get_or l i (New 0) = c.record_at.ensures ∙ sym (get_d_records_of c.args.list.now i (omega arith)) in
    omega (arith, c.stored_after-sum.ensures, ap (λ (x : Record). stored (x ∷ [])) r, c.loop-i.invariant, stored_take_next l i (omega arith))
