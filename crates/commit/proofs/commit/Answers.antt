-- `commit::commit` meets its contract: refused as the checks say, or what is written of the choice. Assumes nothing.
use Rattle.std.specs.Prelude.{Ok}
use Prim.Native.Nat.{◌/◌}
use native.Mathlib.Omega.{arith}
use mathlib.Core.Path.{◌≡◌, refl, sym, ◌∙◌}
use lib.ListN.{length}
use Rattle.format.specs.Record.{records_of}
use Rattle.format.proofs.Rows.{length_records_of}
use Rattle.walk.proofs.Telling.{stop_of_stopped}
use Rattle.admit.specs.Admit.{admit_ruling}
use Rattle.admit.proofs.Admitting.{Admitted, admitted_of_through}
use Rattle.writer.proofs.Deciding.{finishable}
use Rattle.commit.specs.Commit.{choice_ruling}
use Rattle.commit.proofs.Choosing.{length_of_fine}
use Rattle.commit.proofs.Committing.{stopped_by_admit}
use Rattle.commit.proofs.commit.Goals as goal
use Rattle.commit.proofs.commit.Goals.{In-Ok, In_ok-check_choice}

-- partition's checks have passed; so has check 12
passed : (c : In-Ok) → let g = c.args in
    Admitted g.price g.list.now g.version.now g.store.now (length g.list.now / 12) (length g.list_area.now) (length g.block_area.now)
passed c = admitted_of_through _ _ _ _ _ _ _ c.in-Ok._totals (sym c.admit-w.ensures ∙ c.in-Ok.is)

allowed : (c : In_ok-check_choice) → let g = c.args in choice_ruling g.list.now g.choice.now ≡ Ok tt
allowed c = sym c.check_choice.ensures ∙ c.in_ok-check_choice.was

pub returns-in_default-clause-list_after : goal.returns-in_default-clause-list_after
returns-in_default-clause-list_after c =
    let g = c.args in
    let ruling = admit_ruling g.price g.list.now g.version.now g.store.now (length g.list.now / 12) (length g.list_area.now) (length g.block_area.now) in
    let stop = stop_of_stopped ruling (records_of g.list.now) c.unwrap_err.result (sym c.admit-w.ensures ∙ c.unwrap_err.ensures) in
    (stopped_by_admit g.price g.list.now g.version.now g.store.now g.choice.now g.list_area.now g.block_area.now stop refl).list_after

pub finish-requires : goal.finish-requires
finish-requires c =
    let g = c.args in
    let w = goal.at.finish-requires c in
    let n = length_of_fine g.list.now g.choice.now (allowed w.In_ok-check_choice) in
    finishable (passed w.In-Ok).sound c.rates_of-rates.ensures (omega (arith, n, length_records_of g.list.now))
