-- `price::cost_of` meets its contract: the new entries are counted, and the others are matches. Assumes nothing.
use Prim.Native.Nat.{◌/◌, ◌-◌}
use native.Mathlib.Omega.{arith}
use mathlib.Core.Path.{◌≡◌, ◌∙◌}
use lib.ListN.{length}
use Rattle.format.specs.Record.{records_of}
use Rattle.format.proofs.Rows.{length_records_of}
use Rattle.price.specs.Price.{matches}
use Rattle.price.proofs.Bounds.{entries}
use Rattle.price.proofs.cost_of.Goals as goal

pub cost_by-requires : goal.cost_by-requires
cost_by-requires c =
    let p = c.requires in
    record {
      rates_fit = p.rates_fit;
      entries_most = omega (arith, p.list_at_most);
      fresh_most = omega (arith, c.tally-fresh.ensures.most, length_records_of c.args.list.now);
    }

pub returns : goal.returns
returns c =
    let l = c.args.list.now in
    let kept : length l / 12 - c.tally-fresh.result ≡ matches (records_of l) = omega (arith, c.tally-fresh.ensures.is, entries (records_of l), length_records_of l) in
    c.cost_by.ensures ∙ rw (kept, c.tally-fresh.ensures.is, c.requires.stored_is)
