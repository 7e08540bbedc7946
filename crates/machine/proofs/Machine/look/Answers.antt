-- `machine::Machine::look` meets its contract: the outcome is that of the items around p, and the list is what its move makes of it. Assumes nothing.
use mathlib.Core.Path.{◌≡◌}
use lib.ListN.{length}
use Rattle.machine.proofs.Carrying.{sizes_fit, outcome_reaches, looked}
use Rattle.std.proofs.Common.{rules}
use Rattle.machine.proofs.Machine.look.Goals as goal

pub outcome_at-outcome-requires : goal.outcome_at-outcome-requires
outcome_at-outcome-requires c =
    (c.requires.rates_fit, sizes_fit c.args.rates c.args.self c.requires c.sight-sight.result c.sight-sight.ensures)

pub move_of-next-requires : goal.move_of-next-requires
move_of-next-requires c =
    let seen = c.sight-sight in
    outcome_reaches c.args.rates c.args.self c.requires seen.result seen.ensures c.outcome_at-outcome.result c.outcome_at-outcome.ensures

pub returns : goal.returns
returns c =
    let seen = c.sight-sight in
    let o = c.outcome_at-outcome in
    let v = c.move_of-next in
    let hk : length c.args.self.kinds ≡ 4098 = search rules in
    let hs : length c.args.self.sizes ≡ 4098 = search rules in
    looked c.args.rates c.args.self c.requires seen.result seen.ensures o.result o.ensures v.result v.ensures hk hs
