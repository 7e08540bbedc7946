-- `writer::finish` meets its contract: room follows from lengths, and the numbers are those of the list that was written. Assumes nothing.
use Prim.Native.Nat.{◌-◌, ◌/◌}
use native.Mathlib.Omega.{arith}
use mathlib.Core.Path.{◌≡◌, ◌∙◌, ap}
use mathlib.Core.List.{List}
use lib.ListN.{length, take}
use Rattle.format.specs.declared.Record.{Record}
use Rattle.format.specs.Record.{encode, records_of}
use Rattle.format.specs.Meaning.{stored, block_of}
use Rattle.format.proofs.Encoding.{length_encode}
use Rattle.area.specs.Area.{over}
use Rattle.area.proofs.Filling.{front}
use Rattle.price.specs.Price.{news, matches, cost}
use Rattle.price.proofs.Bounds.{entries}
use Rattle.writer.specs.Write.{list_in}
use Rattle.writer.proofs.Writing.{list_ready, block_ready, written_records, entries_most, block_length, block_most}
use Rattle.writer.proofs.finish.Goals as goal
use Rattle.writer.proofs.finish.Goals.{After-write_list-n}

-- the list that was written: its length, its bytes and its records
length_is : (c : After-write_list-n) → c.write_list-n.result ≡ length (encode (list_in c.args.list.now c.args.choice.now))
length_is c = omega (arith, c.write_list-n.ensures.length_is)

bytes_are : (c : After-write_list-n) → take c.write_list-n.result c.write_list-n.new.list_area ≡ encode (list_in c.args.list.now c.args.choice.now)
bytes_are c =
    let n = c.write_list-n.result in
    ap (take n) c.write_list-n.ensures.area_after ∙ front n (encode (list_in c.args.list.now c.args.choice.now)) c.args.list_area.now (length_is c)

records_are : (c : After-write_list-n) → records_of (take c.write_list-n.result c.write_list-n.new.list_area) ≡ list_in c.args.list.now c.args.choice.now
records_are c = let g = c.args in written_records g.list.now g.choice.now g.version.now g.list_area.now g.block_area.now c.requires.writable _ (bytes_are c)

pub write_list-n-requires : goal.write_list-n-requires
write_list-n-requires c =
    let g = c.args in
    list_ready g.list.now g.choice.now g.version.now g.list_area.now g.block_area.now c.requires.writable

pub write_block-block-requires : goal.write_block-block-requires
write_block-block-requires c =
    let g = c.args in
    block_ready g.list.now g.choice.now g.version.now g.list_area.now g.block_area.now c.requires.writable _ (bytes_are (goal.at.write_block-block-requires c).After-write_list-n)

pub overflow_cast-stored : goal.overflow_cast-stored
overflow_cast-stored c =
    let g = c.args in
    let w = c.requires.writable in
    let bytes = c.write_block-block.ensures.length_is ∙ ap (λ (x : List Record). length (block_of x g.version.now)) (records_are (goal.at.overflow_cast-stored c).After-write_list-n) in
    omega (arith, bytes, block_most g.list.now g.choice.now g.version.now g.list_area.now g.block_area.now w, w.version_at_most)

pub cost_by-cost-requires : goal.cost_by-cost-requires
cost_by-cost-requires c =
    let g = c.args in
    let w = c.requires.writable in
    let p = (goal.at.cost_by-cost-requires c).After-write_list-n in
    let l = list_in g.list.now g.choice.now in
    let fresh = c.write_block-block.ensures.fresh_is ∙ ap news (records_are p) in
    record {
      rates_fit = c.requires.rates_fit;
      entries_most = omega (arith, length_is p, length_encode l, entries_most g.list.now g.choice.now g.version.now g.list_area.now g.block_area.now w, w.list_at_most);
      fresh_most = omega (arith, length_is p, length_encode l, fresh, entries l);
    }

pub overflow_cast-result : goal.overflow_cast-result
overflow_cast-result c =
    let g = c.args in
    let w = c.requires.writable in
    omega (arith, c.write_list-n.ensures.length_is, length_encode (list_in g.list.now g.choice.now), entries_most g.list.now g.choice.now g.version.now g.list_area.now g.block_area.now w, w.list_at_most)

pub returns : goal.returns
returns c =
    let g = c.args in
    let w = c.requires.writable in
    let p = (goal.at.returns c).After-write_list-n in
    let l = list_in g.list.now g.choice.now in
    let out = c.write_list-n in
    let entries_are : out.result / 12 ≡ length l = omega (arith, length_is p, length_encode l) in
    let stored_is : c.write_block-block.result.bytes ≡ stored l = c.write_block-block.ensures.length_is ∙ ap (λ (x : List Record). length (block_of x g.version.now)) (records_are p) ∙ block_length g.list.now g.choice.now g.version.now g.list_area.now g.block_area.now w in
    let fresh_is : c.write_block-block.result.fresh ≡ news l = c.write_block-block.ensures.fresh_is ∙ ap news (records_are p) in
    let kept_is : out.result / 12 - c.write_block-block.result.fresh ≡ matches l = omega (arith, entries_are, fresh_is, entries l) in
    let cost_is : c.cost_by-cost.result.0 ≡ cost g.rates l = c.cost_by-cost.ensures ∙ rw (kept_is, fresh_is, stored_is) in
    record {
      answered = rw (cost_is, entries_are, stored_is, c.default.ensures.1.1.1.1);
      area_after = out.ensures.area_after;
      block_after = c.write_block-block.ensures.area_after ∙ ap (λ (x : List Record). over (block_of x g.version.now) g.block_area.now) (records_are p);
    }
