-- `rebuild::rebuild` meets its contract. Assumes nothing.
use native.Mathlib.Omega.{arith}
use mathlib.Core.Path.{sym, ◌∙◌, ap}
use Rattle.format.specs.Record.{records_of}
use Rattle.walk.specs.declared.Totals.{Totals}
use borrow.Author.Tests.{leb-true}
use Rattle.format.proofs.Rulings.{true_of_need}
use Rattle.walk.proofs.Telling.{fine_of_through}
use Rattle.show.specs.Check.{inputs_ruling}
use Rattle.show.proofs.Accepting.{readable_of_inputs}
use Rattle.rebuild.proofs.rebuild.Goals as goal

-- what check looks at has passed, and the walk's totals are the list's
pub fill-requires : goal.fill-requires
fill-requires c =
    let g = c.args in
    let through = fine_of_through (inputs_ruling g.list.now g.block.now g.store.now) (records_of g.list.now) c.in-Ok.t (sym c.accept-w.ensures ∙ c.in-Ok.is) in
    let readable = readable_of_inputs g.list.now g.block.now g.store.now through.0 in
    let room = leb-true _ _ (true_of_need _ _ _ (sym c.need.ensures ∙ c.in_ok-need.was)) in
    record {
      inside = readable.1.inside;
      block_fits = readable.1.block_fits;
      room = omega (arith, room, ap (λ (t : Totals). t.whole) through.1);
    }
