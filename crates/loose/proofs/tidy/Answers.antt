-- `loose::tidy` meets its contract: refused as the checks say, or the tidy form and the number of its records. Assumes nothing.
use Rattle.std.specs.Prelude.{Ok}
use Prim.Native.Nat.{◌/◌}
use native.Mathlib.Omega.{arith}
use mathlib.Core.Path.{◌≡◌, sym, ◌∙◌}
use lib.ListN.{length}
use Rattle.format.specs.Record.{records_of}
use Rattle.format.proofs.Encoding.{length_encode}
use Rattle.join.proofs.Joining.{length_tidy}
use Rattle.walk.proofs.Telling.{fine_of_through}
use Rattle.loose.specs.Loose.{tidy_ruling, tidy_form}
use Rattle.loose.proofs.Accepting.{Accepts, accepts_of_fine, ready_of_accepts}
use Rattle.loose.proofs.tidy.Goals as goal
use Rattle.loose.proofs.tidy.Goals.{After-write_tidy-bytes, In-Ok}

-- all checks have passed
fine : (c : In-Ok) → let g = c.args in tidy_ruling g.list.now g.store.now (length g.list_area.now) ≡ Ok tt
fine c =
    let g = c.args in
    (fine_of_through (tidy_ruling g.list.now g.store.now (length g.list_area.now)) (records_of g.list.now) c.in-Ok._totals (sym c.accept-w.ensures ∙ c.in-Ok.is)).0

passed : (c : In-Ok) → let g = c.args in Accepts g.list.now g.store.now (length g.list_area.now)
passed c = let g = c.args in accepts_of_fine g.list.now g.store.now (length g.list_area.now) (fine c)

-- the records written are those of the tidy form
counted : (c : After-write_tidy-bytes) → c.write_tidy-bytes.result / 12 ≡ length (tidy_form c.args.list.now)
counted c = omega (arith, c.write_tidy-bytes.ensures.length_is, length_encode (tidy_form c.args.list.now))

pub write_tidy-bytes-requires : goal.write_tidy-bytes-requires
write_tidy-bytes-requires c = ready_of_accepts (passed (goal.at.write_tidy-bytes-requires c).In-Ok)

pub overflow_cast-bytes : goal.overflow_cast-bytes
overflow_cast-bytes c =
    let p = goal.at.overflow_cast-bytes c in
    let fits = (passed p.In-Ok).counted in
    omega (arith, counted p.After-write_tidy-bytes, length_tidy (records_of c.args.list.now), fits.count_most, fits.list_at_most)

pub returns : goal.returns
returns c =
    let e = fine (goal.at.returns c).In-Ok in
    record {
      answered = rw (e, ← counted (goal.at.returns c).After-write_tidy-bytes) c.entries_only.ensures;
      list_after = rw e c.write_tidy-bytes.ensures.area_after;
    }
