-- `demonstrate::demonstrate` meets its contract: what partition says it wrote is there, and is handed on; each call's contract is the call's own, and
-- section 8.1 follows from them. Assumes nothing.
use Rattle.std.specs.Prelude.{Ok, Err}
use Prim.Native.Nat.{◌*◌, ◌≤◌}
use native.Mathlib.Omega.{arith}
use mathlib.Core.Path.{◌≡◌, sym, ap}
use lib.ListN.{length}
use lib.Seq.{length-take-le}
use Rattle.format.specs.declared.Figures.{Figures}
use Rattle.std.specs.Result.{ResultUnwrapsOrElse}
use Rattle.format.specs.Refusal.{Answer, figures_in}
use Rattle.area.specs.Area.{areas}
use Rattle.writer.proofs.Deciding.{list_within}
use Rattle.call_partition.specs.Partition.{Partitioned}
use Rattle.call_partition.proofs.Meeting.{partitioned}
use Rattle.call_pass.proofs.Meeting.{pass_made}
use Rattle.demand.proofs.Demanding.{block_there, demand_three}
use Rattle.demonstrate.proofs.demonstrate.Goals as goal
use Rattle.demonstrate.proofs.demonstrate.Goals.{After-unwrap_or_default-figures}

-- the first call
made : (c : After-unwrap_or_default-figures) → let g = c.args in
    let p = c.partition-first in
    Partitioned g.price g.list.now g.version.now g.store.now (areas g.choice1.now g.list1.now g.block1.now) p.result (areas p.new.choice p.new.list_area p.new.block_area)
made c =
    let g = c.args in
    let e = c.partition-first.ensures in
    partitioned g.price g.list.now g.version.now g.store.now (areas g.choice1.now g.list1.now g.block1.now) (e.answered, e.areas_after)

-- what is handed on is as long as partition says
lengths_in : (r : Answer) (P : Figures → Type 0) (y : Figures) → (P y → (y.entries ≡ 0) × (y.stored ≡ 0)) → ResultUnwrapsOrElse r P y → (y.entries ≡ (figures_in r).entries) × (y.stored ≡ (figures_in r).stored)
lengths_in (Ok x) P y none e = (ap (λ (z : Figures). z.entries) e, ap (λ (z : Figures). z.stored) e)
lengths_in (Err r) P y none e = none e

lengths_are : (c : After-unwrap_or_default-figures) → let y = c.unwrap_or_default-figures.result in let r = c.partition-first.result in
    (y.entries ≡ (figures_in r).entries) × (y.stored ≡ (figures_in r).stored)
lengths_are c = lengths_in c.partition-first.result _ c.unwrap_or_default-figures.result (λ p. (p.1.0, p.1.1.0)) c.unwrap_or_default-figures.ensures

list_there : (c : After-unwrap_or_default-figures) → 12 * c.unwrap_or_default-figures.result.entries ≤ length c.partition-first.new.list_area
list_there c = omega (arith, (lengths_are c).0, list_within (made c))

stored_there : (c : After-unwrap_or_default-figures) → c.unwrap_or_default-figures.result.stored ≤ length c.partition-first.new.block_area
stored_there c = let g = c.args in omega (arith, (lengths_are c).1, block_there g.price g.list.now g.version.now g.store.now (made c))

pub slice_bounds-hand_on-end : goal.slice_bounds-hand_on-end
slice_bounds-hand_on-end c = list_there (goal.at.slice_bounds-hand_on-end c).After-unwrap_or_default-figures

pub slice_bounds-hand_on-end-2 : goal.slice_bounds-hand_on-end-2
slice_bounds-hand_on-end-2 c = sym (length-take-le _ _ (list_there (goal.at.slice_bounds-hand_on-end-2 c).After-unwrap_or_default-figures))

pub slice_bounds-hand_on-end-3 : goal.slice_bounds-hand_on-end-3
slice_bounds-hand_on-end-3 c = stored_there (goal.at.slice_bounds-hand_on-end-3 c).After-unwrap_or_default-figures

pub slice_bounds-hand_on-end-4 : goal.slice_bounds-hand_on-end-4
slice_bounds-hand_on-end-4 c = sym (length-take-le _ _ (stored_there (goal.at.slice_bounds-hand_on-end-4 c).After-unwrap_or_default-figures))

pub returns : goal.returns
returns c =
    let p = (goal.at.returns c).After-unwrap_or_default-figures in
    let g = c.args in
    let r = c.partition-first.result in
    let n : 12 * c.unwrap_or_default-figures.result.entries ≡ 12 * (figures_in r).entries = omega (arith, (lengths_are p).0) in
    let m : c.unwrap_or_default-figures.result.stored ≡ (figures_in r).stored = (lengths_are p).1 in
    let rebuilt = rw (n, m) at c.hand_on-both.ensures.rebuilt in
    let again = rw n at c.hand_on-both.ensures.again in
    let e = c.pass-passed.ensures in
    let passed = pass_made g.price g.list.now g.version.now g.store.now (areas g.choice3.now g.list3.now g.block3.now) (e.answered, (e.areas_after, e.few_looks)) in
    record {
      first = made p;
      rebuilt = rebuilt;
      again = again;
      passed = passed;
      holds = demand_three g.price g.list.now g.version.now g.store.now _ (record { first = made p; rebuilt = rebuilt; again = again; passed = passed });
    }
