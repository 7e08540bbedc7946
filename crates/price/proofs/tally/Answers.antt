-- The goals of `price::tally` that are left. Its invariant is in `Invariants`. Assumes nothing.
use Prim.Native.Nat.{◌+◌, ◌/◌}
use native.Mathlib.Omega.{arith}
use mathlib.Core.Path.{◌≡◌, ◌∙◌, ap}
use mathlib.Core.List.{[], ◌∷◌}
use lib.ListN.{length}
use Rattle.format.specs.declared.Record.{Record}
use Rattle.format.specs.Record.{row_at, record_of, records_from}
use Rattle.format.proofs.Rows.{length_records_of, records_from_next, records_from_none}
use Rattle.price.specs.Price.{news}
use Rattle.price.proofs.Bounds.{news_cons}
use Rattle.price.proofs.tally.Goals as goal

pub loop-i-preserved : goal.loop-i-preserved
loop-i-preserved c =
    let l = c.args.list.now in
    let i = c.loop-i.i in
    let is : c.record_at.result ≡ record_of (row_at l i) = c.record_at.ensures in
    let next : news (records_from l (length l / 12) i) ≡ news (record_of (row_at l i) ∷ []) + news (records_from l (length l / 12) (i + 1)) = ap news (records_from_next l (length l / 12) i (omega arith)) ∙ news_cons (record_of (row_at l i)) (records_from l (length l / 12) (i + 1)) in
    (omega (arith, c.loop-i.invariant.0, c.one_if_new-count.ensures.1), omega (arith, c.loop-i.invariant.1, c.one_if_new-count.ensures.0, ap (λ (x : Record). news (x ∷ [])) is, next))

pub returns : goal.returns
returns c =
    let l = c.args.list.now in
    let none = ap news (records_from_none l (length l / 12) c.loop-i.i (omega arith)) in
    record { is = omega (arith, c.loop-i.invariant.1, none); most = omega (arith, c.loop-i.invariant.0, length_records_of l) }
