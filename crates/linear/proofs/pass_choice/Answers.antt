-- The list is loaded, the looks are those of the pass as it is defined, and the choice is that of the items at its end. Assumes nothing.
use mathlib.Core.Path.{◌≡◌, ap, ◌∙◌}
use mathlib.Core.List.{List}
use Rattle.format.specs.Record.{records_of}
use Rattle.choice.specs.Choice.{bit_bytes}
use Rattle.area.specs.Area.{over}
use Rattle.rules.specs.Rules.{Item}
use Rattle.machine.specs.declared.Passed.{Passed}
use Rattle.linear.specs.Pass.{choice_of, pass_items}
use Rattle.linear.specs.Carried.{end_of}
use Rattle.linear.proofs.Theorems.{pass_holds}
use Rattle.linear.proofs.Passing.{runnable_of_loaded, looks_of_ran, few_of_ran, end_of_ran}
use Rattle.linear.proofs.pass_choice.Goals as goal
use Rattle.linear.proofs.pass_choice.Goals.{After-look_through-looks}

-- the list after the looks, with their number
abbrev passed : After-look_through-looks → Passed
passed c = record { list = c.look_through-looks.new.self; looks = c.look_through-looks.result }

same : (c : After-look_through-looks) → let g = c.args in end_of (passed c).list ≡ pass_items g.rates (records_of g.list.now)
same c = end_of_ran c.args.rates (records_of c.args.list.now) c.load-machine.result (passed c) c.load-machine.ensures c.look_through-looks.ensures

pub look_through-looks-requires : goal.look_through-looks-requires
look_through-looks-requires c =
    runnable_of_loaded c.args.rates (records_of c.args.list.now) c.load-machine.result c.requires.rates_fit c.load-machine.ensures c.requires.whole_most

pub read_off-requires : goal.read_off-requires
read_off-requires c =
    let g = c.args in
    let choice = (pass_holds g.rates (records_of g.list.now) c.requires.sized).choice in
    record {
      within = c.look_through-looks.ensures.within;
      list_at_most = c.requires.list_at_most;
      room = c.requires.room;
      covered = rw (same (goal.at.read_off-requires c).After-look_through-looks) choice;
    }

pub returns : goal.returns
returns c =
    let g = c.args in
    let rs = records_of g.list.now in
    let l = c.load-machine in
    let p = (goal.at.returns c).After-look_through-looks in
    let u = c.look_through-looks.ensures in
    record {
      looks_are = looks_of_ran g.rates rs l.result (passed p) l.ensures u;
      few_looks = few_of_ran g.rates rs l.result (passed p) l.ensures u;
      area = c.read_off.ensures ∙ ap (λ (x : List Item). over (bit_bytes (choice_of rs x)) g.choice.now) (same p);
    }
