-- `pool::pool` meets its contract: the refusal of what is at fault, the first list's before the second's; 13 and 9 by the records counted; or the pooled
-- list and the number of its records. Assumes nothing.
use Prim.Native.Nat.{◌*◌, ◌≤◌, ◌<◌}
use native.Mathlib.Omega.{arith}
use mathlib.Core.Path.{◌≡◌, sym, ◌∙◌}
use lib.ListN.{length}
use Rattle.std.specs.Prelude.{Err}
use borrow.Author.Tests.{leb-true, leb-false}
use Rattle.std.proofs.lemmas.Result.{err_from_is_err_and}
use Rattle.format.specs.declared.Fault.TheVariants.{AreaTooShort}
use Rattle.format.specs.Refusal.{refuse}
use Rattle.format.specs.Record.{records_of, encode}
use Rattle.format.proofs.Encoding.{length_encode}
use Rattle.format.proofs.Rulings.{true_of_need, false_of_need}
use Rattle.walk.proofs.Telling.{fine_of_through}
use Rattle.pool.specs.Pool.{pooled_list, list_ruling, pool_ruling}
use Rattle.pool.proofs.Accepting.{BothFine, alongside, too_short}
use Rattle.pool.proofs.pool.Goals as goal
use Rattle.pool.proofs.pool.Goals.{In-Ok-w, After-count_pooled-entries}

-- check 2 has passed, and both lists are fine
fine : (c : In-Ok-w) → let g = c.args in BothFine g.first.now g.second.now g.version.now g.store.now
fine c =
    let g = c.args in
    record {
      lengths_in_limits = sym c.lengths_fit.ensures ∙ true_of_need _ _ _ (sym c.need.ensures ∙ c.in_ok-need.was);
      first_fine = (fine_of_through (list_ruling g.first.now g.version.now g.store.now) (records_of g.first.now) c.in-Ok._first (sym c.accept-v.ensures ∙ c.in-Ok.is)).0;
      second_fine = (fine_of_through (list_ruling g.second.now g.version.now g.store.now) (records_of g.second.now) c.in-Ok-w._second (sym c.accept-w.ensures ∙ c.in-Ok-w.is)).0;
    }

pub count_pooled-entries-requires : goal.count_pooled-entries-requires
count_pooled-entries-requires c = alongside (fine c)

-- the pooled list takes 12 bytes for each record counted
bytes : (c : After-count_pooled-entries) → let g = c.args in length (encode (pooled_list g.first.now g.second.now)) ≡ 12 * c.count_pooled-entries.result
bytes c = let g = c.args in omega (arith, length_encode (pooled_list g.first.now g.second.now), c.count_pooled-entries.ensures)

-- a shorter area is refused with 9
short : (c : After-count_pooled-entries) (h : BothFine c.args.first.now c.args.second.now c.args.version.now c.args.store.now) → let g = c.args in c.count_pooled-entries.result ≤ 4096 → length g.list_area.now < 12 * c.count_pooled-entries.result
    → pool_ruling g.first.now g.second.now g.version.now g.store.now (length g.list_area.now) ≡ Err (refuse AreaTooShort 0)
short c h few less = too_short h (length c.args.list_area.now) (omega (arith, few, c.count_pooled-entries.ensures)) (omega (arith, less, bytes c))

pub returns-in_err-need-3-clause-answered : goal.returns-in_err-need-3-clause-answered
returns-in_err-need-3-clause-answered c =
    let p = goal.at.returns-in_err-need-3-clause-answered c in
    let few = leb-true _ _ (true_of_need _ _ _ (sym c.need-2.ensures ∙ c.in_ok-need-2.was)) in
    let no = false_of_need _ _ _ (sym c.need-3.ensures ∙ c.in_err-need-3.was) in
    let r = err_from_is_err_and c.from_residual-in_err-need-3.result c.from_residual-in_err-need-3.ensures.1 in
    rw (r.1, r.2, no.1, short p.After-count_pooled-entries (fine p.In-Ok-w) few (leb-false _ _ no.0))

pub returns-in_err-need-3-clause-list_after : goal.returns-in_err-need-3-clause-list_after
returns-in_err-need-3-clause-list_after c =
    let p = goal.at.returns-in_err-need-3-clause-list_after c in
    let few = leb-true _ _ (true_of_need _ _ _ (sym c.need-2.ensures ∙ c.in_ok-need-2.was)) in
    let no = false_of_need _ _ _ (sym c.need-3.ensures ∙ c.in_err-need-3.was) in
    rw (short p.After-count_pooled-entries (fine p.In-Ok-w) few (leb-false _ _ no.0))

pub write_pooled-requires : goal.write_pooled-requires
write_pooled-requires c =
    let p = goal.at.write_pooled-requires c in
    let room = leb-true _ _ (true_of_need _ _ _ (sym c.need-3.ensures ∙ c.in_ok-need-3.was)) in
    record { alongside = alongside (fine p.In-Ok-w); room = omega (arith, room, bytes p.After-count_pooled-entries) }
