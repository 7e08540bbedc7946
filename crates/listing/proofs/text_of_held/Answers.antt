-- `listing::text_of_held` meets its contract: the pass's refusal is partition's; else partition's list goes into the text, with both figures.
-- Assumes nothing.
use native.Mathlib.Omega.{arith}
use mathlib.Core.Path.{sym}
use lib.Seq.{length-take-le}
use Rattle.area.specs.Area.{areas}
use Rattle.call_partition.specs.Partition.{Partitioned}
use Rattle.call_partition.proofs.Meeting.{partitioned}
use Rattle.call_pass.proofs.Meeting.{pass_made}
use Rattle.call_pass.specs.Pass.{PassMade}
use Rattle.listing.proofs.Telling.{Roomy, stop_of_answer, figures_of_answer, list_in_area, few_lines, program_text_listed}
use Rattle.listing.proofs.text_of_held.Goals as goal
use Rattle.listing.proofs.text_of_held.Goals.{After-pass-passed, After-partition-answer}

-- the areas that the pass is lent, and then partition
roomy : (c : After-pass-passed) → Roomy c.args.items.now c.args.version.now c.large_buffer-choice.result c.large_buffer-list.result c.large_buffer-block.result
roomy c = record { in_choice = omega arith; in_area = omega arith; in_block = omega arith }

roomy_still : (c : After-partition-answer) → Roomy c.args.items.now c.args.version.now c.pass-passed.new.choice c.pass-passed.new.list_area c.pass-passed.new.block_area
roomy_still c = record { in_choice = omega arith; in_area = omega arith; in_block = omega arith }

-- what the pass answered and wrote, and then partition
passed : (c : After-pass-passed) → let g = c.args in let p = c.pass-passed in
    PassMade g.price g.items.now g.version.now g.store.now (areas c.large_buffer-choice.result c.large_buffer-list.result c.large_buffer-block.result) p.result (areas p.new.choice p.new.list_area p.new.block_area)
passed c = let g = c.args in let e = c.pass-passed.ensures in
    pass_made g.price g.items.now g.version.now g.store.now _ (e.answered, (e.areas_after, e.few_looks))

made : (c : After-partition-answer) → let g = c.args in let p = c.pass-passed in let r = c.partition-answer in
    Partitioned g.price g.items.now g.version.now g.store.now (areas p.new.choice p.new.list_area p.new.block_area) r.result (areas r.new.choice r.new.list_area r.new.block_area)
made c = let g = c.args in let e = c.partition-answer.ensures in
    partitioned g.price g.items.now g.version.now g.store.now _ (e.answered, e.areas_after)

pub returns-in-Err : goal.returns-in-Err
returns-in-Err c =
    let b = (goal.at.returns-in-Err c).After-pass-passed in
    rw (stop_of_answer c.args.price c.args.store.now (roomy b) (passed b).decided c.in-Err.is) c.refusal.ensures

pub returns-in-Err-answer : goal.returns-in-Err-answer
returns-in-Err-answer c =
    let d = (goal.at.returns-in-Err-answer c).After-partition-answer in
    rw (stop_of_answer c.args.price c.args.store.now (roomy_still d) (made d) c.in-Err-answer.is) c.refusal-in-Err-answer.ensures

pub slice_bounds-list-end : goal.slice_bounds-list-end
slice_bounds-list-end c =
    let d = (goal.at.slice_bounds-list-end c).After-partition-answer in
    list_in_area c.args.price c.args.store.now (roomy_still d) (made d) c.in-Ok-answer.is

pub slice_bounds-report-end : goal.slice_bounds-report-end
slice_bounds-report-end c =
    let d = (goal.at.slice_bounds-report-end c).After-partition-answer in
    sym (length-take-le _ c.partition-answer.new.list_area (list_in_area c.args.price c.args.store.now (roomy_still d) (made d) c.in-Ok-answer.is))

pub report-requires : goal.report-requires
report-requires c =
    let d = (goal.at.report-requires c).After-partition-answer in
    omega (arith, few_lines c.args.price c.args.store.now (roomy_still d) (made d) c.in-Ok-answer.is)

pub returns-in-Ok-answer : goal.returns-in-Ok-answer
returns-in-Ok-answer c =
    let g = c.args in
    let b = (goal.at.returns-in-Ok-answer c).After-pass-passed in
    let d = (goal.at.returns-in-Ok-answer c).After-partition-answer in
    let y_is = figures_of_answer g.price g.store.now (roomy b) (passed b).decided c.in-Ok.is in
    rw (program_text_listed g.price g.store.now (roomy_still d) (made d) y_is c.in-Ok-answer.is) c.report.ensures
