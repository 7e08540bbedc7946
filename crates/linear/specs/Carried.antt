-- What loading a list onto the machine makes of a record, and what reading a choice off it asks for.
-- Assumes nothing.
use Rattle.std.specs.Prelude.{ℕ, ◌≤◌, cond, List, [], length}
use Rattle.format.specs.declared.Record.{Record}
use Rattle.format.specs.declared.Record.TheVariants.{New, Match}
use Rattle.format.specs.Record.{records_of}
use Rattle.choice.specs.Choice.{IsChoice}
use Rattle.rules.specs.declared.Kind.{Kind}
use Rattle.rules.specs.declared.Kind.TheVariants as kind
use Rattle.rules.specs.Rules.{Item}
use Rattle.machine.specs.declared.Machine.{Machine}
use Rattle.machine.specs.Looks.{rest, joined}
use Rattle.machine.specs.Machine.{rear_at, left_of}
use Rattle.linear.specs.Pass.{choice_of}

-- the kind of a record in a cell: a held match is of neither
abbrev pub kind_of : Record → Kind
kind_of (New s) = kind.New
kind_of (Match s a) = cond a.held kind.Neither kind.Match

-- the end list of a machine, without its front mark
abbrev pub end_of : Machine → List Item
end_of m = rest (joined (left_of m) [])

-- what reading off a choice asks for: a byte for each record, and items that cover the records
pub record Covering (m : Machine) (list choice : List ℕ) : Type 0 where
  pub within : m.left ≤ rear_at
  pub list_at_most : length list ≤ 49152
  pub room : length (records_of list) ≤ length choice
  pub covered : IsChoice (records_of list) (choice_of (records_of list) (end_of m))
