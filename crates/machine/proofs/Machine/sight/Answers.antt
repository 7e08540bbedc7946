-- `machine::Machine::sight` meets its contract: the items around p, and a mark where there is none. Assumes nothing.
use mathlib.Core.Path.{ap, ◌∙◌}
use native.Mathlib.Omega.{arith}
use Rattle.rules.specs.Rules.{cell_item}
use Rattle.machine.proofs.Carrying.{first_below, none_below, first_from, second_near, second_none}
use Rattle.machine.proofs.Machine.sight.Goals as goal
use Rattle.machine.proofs.Machine.sight.Goals.{then-self-gt0, else-self-gt0, then-self-lt-LAST, else-self-lt-LAST}

pub returns : goal.returns
returns c =
    let m = c.args.self.now in
    let ks = m.kinds in
    let ss = m.sizes in
    record {
      before_is = elim c.if-self-gt0.branch [
        | then-self-gt0 w ↦ ap cell_item (w.before-is ∙ w.cell-before.ensures) ∙ first_below ks ss m.left w.if-self-gt0.true
        | else-self-gt0 w ↦ ap cell_item w.before-is ∙ none_below ks ss m.left (omega arith)
      ];
      p_is = ap cell_item c.cell-p.ensures;
      after_is = ap cell_item c.cell-after.ensures ∙ first_from ks ss c.requires.2 _ (omega arith);
      second_is = elim c.if-self-lt-LAST.branch [
        | then-self-lt-LAST w ↦ ap cell_item (w.second-is ∙ w.cell-second.ensures) ∙ second_near ks ss c.requires.2 m.right w.if-self-lt-LAST.true
        | else-self-lt-LAST w ↦ ap cell_item w.second-is ∙ second_none ks ss m.right (omega arith)
      ];
    }
