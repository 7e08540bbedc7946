-- `show::show` meets its contract: the part of record k where check accepts, else the block's first 0 bytes. Assumes nothing.
use Prim.Native.Nat.{ℕ}
use native.Mathlib.Omega.{arith}
use mathlib.Core.Path.{◌≡◌, sym, ◌∙◌, ap}
use lib.ListN.{take, get_or}
use Rattle.format.specs.declared.Record.TheVariants.{New}
use Rattle.format.specs.Record.{row_at, record_of, records_of}
use Rattle.format.specs.Meaning.{stored}
use Rattle.format.proofs.Rows.{get_d_records_of, length_records_of}
use Rattle.format.proofs.Rebuilding.{stored_most}
use Rattle.walk.proofs.Telling.{fine_of_through}
use Rattle.show.specs.Check.{check_ruling}
use Rattle.show.proofs.Accepting.{checked_parts}
use Rattle.show.proofs.Lending.{lies_at}
use Rattle.show.proofs.show.Goals as goal

pub record_at-record-requires : goal.record_at-record-requires
record_at-record-requires c =
    let g = c.args in
    let fine = (fine_of_through (check_ruling g.list.now g.block.now g.store.now g.k) (records_of g.list.now) _ (sym c.accept_place.ensures ∙ c.in-Ok.is)).0 in
    let both = checked_parts g.list.now g.block.now g.store.now g.k fine in
    omega (arith, both.1, length_records_of g.list.now)

pub stored_before-requires : goal.stored_before-requires
stored_before-requires c =
    let g = c.args in
    let fine = (fine_of_through (check_ruling g.list.now g.block.now g.store.now g.k) (records_of g.list.now) _ (sym c.accept_place.ensures ∙ c.in-Ok.is)).0 in
    let both = checked_parts g.list.now g.block.now g.store.now g.k fine in
    (omega (arith, both.1), omega (arith, both.0.whole_most, stored_most (records_of g.list.now)))

pub part_of-requires : goal.part_of-requires
part_of-requires c =
    let g = c.args in
    let fine = (fine_of_through (check_ruling g.list.now g.block.now g.store.now g.k) (records_of g.list.now) _ (sym c.accept_place.ensures ∙ c.in-Ok.is)).0 in
    let both = checked_parts g.list.now g.block.now g.store.now g.k fine in
    let is : c.record_at-record.result ≡ get_or (records_of g.list.now) g.k (New 0) = c.record_at-record.ensures ∙ sym (get_d_records_of g.list.now g.k both.1) in
    let from : c.stored_before.result ≡ stored (take g.k (records_of g.list.now)) = c.stored_before.ensures in
    rw (is, from) (lies_at (records_of g.list.now) g.block.now g.store.now g.k both.0.inside both.0.block_fits both.1)

pub returns : goal.returns
returns c =
    let g = c.args in
    let fine = (fine_of_through (check_ruling g.list.now g.block.now g.store.now g.k) (records_of g.list.now) _ (sym c.accept_place.ensures ∙ c.in-Ok.is)).0 in
    let both = checked_parts g.list.now g.block.now g.store.now g.k fine in
    let is : c.record_at-record.result ≡ get_or (records_of g.list.now) g.k (New 0) = c.record_at-record.ensures ∙ sym (get_d_records_of g.list.now g.k both.1) in
    let from : c.stored_before.result ≡ stored (take g.k (records_of g.list.now)) = c.stored_before.ensures in
    record { part_lent = c.part_of.ensures ∙ rw (fine, is, from) }
