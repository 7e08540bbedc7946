-- How two arrays and a cursor hold the carried list of `Looks`: a gap buffer. Places 0 to left - 1 are what comes before p; p stands at `right`;
-- place 4097 is the rear mark. What each function of the crate asks of a machine, and what it gives.
-- Assumes nothing.
use Rattle.std.specs.Prelude.{ℕ, zero, suc, ◌+◌, ◌-◌, ◌*◌, ◌≤◌, ◌<◌, ◌≡◌, false, List, [], ◌∷◌, length, get_or, set}
use Rattle.format.specs.Limits.{version_most}
use Rattle.format.specs.Record.{from}
use Rattle.price.specs.declared.Rates.{Rates}
use Rattle.price.specs.Price.{RatesFit}
use Rattle.rules.specs.declared.Cell.{Cell}
use Rattle.rules.specs.declared.Kind.{Kind}
use Rattle.rules.specs.declared.Kind.TheVariants.{New}
use Rattle.rules.specs.declared.Merge.TheVariants.{Both, Before, After, Pair}
use Rattle.rules.specs.declared.Outcome.{Outcome}
use Rattle.rules.specs.declared.Outcome.TheVariants.{Advance, Merged}
use Rattle.rules.specs.Rules.{Item, mark, is_match, tests_of, cell_item}
use Rattle.machine.specs.declared.Machine.{Machine}
use Rattle.machine.specs.declared.Sight.{Sight}
use Rattle.machine.specs.declared.Move.{Move}
use Rattle.machine.specs.declared.Step.{Step}
use Rattle.machine.specs.declared.Passed.{Passed}
use Rattle.machine.specs.Looks.{bytes, State, first, rest, merge_in, Look, look_at, pass}

-- the place of the rear mark: before it there is room for 4,096 records
abbrev pub rear_at : ℕ
rear_at = 4097

-- the cell and the item at a place of two arrays
abbrev pub cell_at : List Kind → List ℕ → ℕ → Cell
cell_at ks ss i = record { kind = get_or ks i New; size = get_or ss i 0 }

abbrev pub item_at : List Kind → List ℕ → ℕ → Item
item_at ks ss i = cell_item (cell_at ks ss i)

-- the items at the places below i, from the nearest on
abbrev pub below : List Kind → List ℕ → ℕ → List Item
below ks ss zero = []
below ks ss (suc i) = item_at ks ss i ∷ below ks ss i

-- the items from place i on, without the rear mark
abbrev pub from_place : List Kind → List ℕ → ℕ → List Item
from_place ks ss i = from (item_at ks ss) i (rear_at - i)

-- what a machine holds: the cell and the item at a place, what comes before p, p and what comes after it, and the state
abbrev pub cell_in : Machine → ℕ → Cell
cell_in m i = cell_at m.kinds m.sizes i

abbrev pub item_in : Machine → ℕ → Item
item_in m i = item_at m.kinds m.sizes i

abbrev pub left_of : Machine → List Item
left_of m = below m.kinds m.sizes m.left

abbrev pub right_of : Machine → List Item
right_of m = from_place m.kinds m.sizes m.right

abbrev pub state_of : Machine → State
state_of m = record { left = left_of m; right = right_of m }

-- what comes after p
abbrev pub after_of : Machine → List Item
after_of m = from_place m.kinds m.sizes (m.right + 1)

-- what a look sees of a machine: the items around p, a mark where there is none
pub record Sighted (m : Machine) (s : Sight) : Type 0 where
  pub before_is : cell_item s.before ≡ first (left_of m)
  pub p_is : cell_item s.p ≡ item_in m m.right
  pub after_is : cell_item s.after ≡ first (after_of m)
  pub second_is : cell_item s.second ≡ first (rest (after_of m))

-- the three moves, from a cursor l and r with the cells b before p and p: p goes to the one after; the one before p becomes c, and p goes n on; p
-- and the one after it become c, and p goes to the one before
abbrev pub gone_on : ℕ → ℕ → Cell → Move
gone_on l r p = record { left = l + 1; right = r + 1; at = l; made = p; stays = p }

abbrev pub fused_back : ℕ → ℕ → Cell → Cell → ℕ → Move
fused_back l r p c n = record { left = l; right = r + n; at = l - 1; made = c; stays = p }

abbrev pub fused_ahead : ℕ → ℕ → Cell → Cell → Move
fused_ahead l r b c = record { left = l - 1; right = r; at = r + 1; made = c; stays = b }

-- a new record of s bytes
abbrev pub new_cell : ℕ → Cell
new_cell s = record { kind = New; size = s }

-- the move of an outcome
abbrev pub move_of : ℕ → ℕ → Cell → Cell → Outcome → Move
move_of l r b p Advance = gone_on l r p
move_of l r b p (Merged (Both s)) = fused_back l r p (new_cell s) 2
move_of l r b p (Merged (Before s)) = fused_back l r p (new_cell s) 1
move_of l r b p (Merged (After s)) = fused_ahead l r b (new_cell s)
move_of l r b p (Merged (Pair s)) = fused_ahead l r b (new_cell s)

-- a machine with another cell at a place
abbrev pub stored : Machine → ℕ → Cell → Machine
stored m i c = record m { kinds = set m.kinds i c.kind; sizes = set m.sizes i c.size }

-- a machine with a move carried out
abbrev pub moved : Machine → Move → Machine
moved m v = record (stored (stored m m.right v.stays) v.at v.made) { left = v.left; right = v.right }

-- the items from p on that an outcome takes up
abbrev pub reach : Outcome → ℕ
reach Advance = 1
reach (Merged (Both s)) = 2
reach (Merged (Before s)) = 1
reach (Merged (After s)) = 2
reach (Merged (Pair s)) = 2

-- an outcome finds the items that it takes up
pub record Reaches (left right : ℕ) (o : Outcome) : Type 0 where
  pub gap : left ≤ right
  pub behind : merge_in o ≤ left
  pub ahead : right + reach o ≤ rear_at

-- a machine on which a look can be made
pub record Ready (rates : Rates) (m : Machine) : Type 0 where
  pub rates_fit : RatesFit rates
  pub gap : m.left ≤ m.right
  pub not_rear : m.right < rear_at
  pub rear : item_in m rear_at ≡ mark
  pub front : m.left ≡ 0 → is_match (item_in m m.right) ≡ false
  pub fits : bytes (left_of m) + bytes (right_of m) ≤ version_most

-- the list that a step leaves, and the look that the step stands for
abbrev pub left_by : Step → Machine
left_by s = moved s.list s.next

abbrev pub look_of : Step → Look
look_of s = record { outcome = s.outcome; next = state_of (left_by s) }

-- what a look gives: it counts as one, hands on the list that it was made on, and is the look of the definition
pub record Looked (rates : Rates) (m : Machine) (s : Step) : Type 0 where
  pub one : s.looks ≡ 1
  pub same : s.list ≡ m
  pub is : look_of s ≡ look_at (tests_of rates) (left_of m) (item_in m m.right) (after_of m)
  pub placed : s.next.at < rear_at
  pub gap : s.next.left ≤ s.next.right
  pub within : s.next.right ≤ rear_at
  pub rear : item_in (left_by s) rear_at ≡ mark

-- a machine at the start of a pass: only the front mark comes before p
pub record Loaded (m : Machine) (xs : List Item) : Type 0 where
  pub gap : m.left ≤ m.right
  pub within : m.right ≤ rear_at
  pub rear : item_in m rear_at ≡ mark
  pub front : left_of m ≡ mark ∷ []
  pub holds : right_of m ≡ xs

-- a machine on which a pass can be made
pub record Runnable (rates : Rates) (m : Machine) : Type 0 where
  pub rates_fit : RatesFit rates
  pub loaded : Loaded m (right_of m)
  pub fits : bytes (right_of m) ≤ version_most

-- a machine at the end of a pass
pub record Ran (rates : Rates) (xs : List Item) (r : Passed) : Type 0 where
  pub looks_are : r.looks ≡ length (pass (tests_of rates) xs).outcomes
  pub few_looks : r.looks ≤ 2 * length xs - 1
  pub list_is : left_of r.list ≡ (pass (tests_of rates) xs).end.left
  pub within : r.list.left ≤ rear_at
