-- The pass over a list of records (section 4.10): its looks are made on the tidy form of the list handed in (clause
-- 4.10.3), and a caller gets the outcomes of the looks, their number, the list at the end, and the choice that this list stands
-- for. The looks themselves are those of the crate machine.
-- Assumes nothing.
use Rattle.std.specs.Prelude.{ℕ, ◌-◌, ◌*◌, ◌≤◌, ◌≡◌, Bool, cond, List, [], ◌∷◌, ltb, length}
use Rattle.format.specs.declared.Record.{Record}
use Rattle.format.specs.declared.Record.TheVariants.{New, Match}
use Rattle.format.specs.Limits.{version_most, list_most}
use Rattle.format.specs.Record.{records_of}
use Rattle.format.specs.Meaning.{size_of, whole}
use Rattle.format.specs.WellFormed.{Sized}
use Rattle.price.specs.declared.Rates.{Rates}
use Rattle.price.specs.Price.{RatesFit}
use Rattle.area.specs.Area.{over}
use Rattle.join.specs.Join.{tidy}
use Rattle.choice.specs.Choice.{Bit, keep, store, bit_bytes}
use Rattle.rules.specs.Rules.{Item, new, match, neither, size, is_new, tests_of}
use Rattle.rules.specs.declared.Outcome.{Outcome}
use Rattle.machine.specs.Looks.{pass, end_items}

-- ---- records as items

-- a match of s bytes; a held one is of neither kind, so that no merge touches it (clause 4.10.13)
abbrev pub drawn : Bool → ℕ → Item
drawn held s = cond held (neither s) (match s)

-- a record by its kind and size
abbrev pub item_for : Record → Item
item_for (New s) = new s
item_for (Match s a) = drawn a.held s

-- the records of a list, in their order
abbrev pub items : List Record → List Item
items [] = []
items (r ∷ rs) = item_for r ∷ items rs

-- ---- what a caller gets, at the rates r

-- how each look ended: the runs that go on in the store are joined first, by the list as handed in
unfoldable pub pass_outcomes : Rates → List Record → List Outcome
unfolding pass
pass_outcomes r rs = (pass (tests_of r) (items (tidy rs))).outcomes

-- the number of looks
abbrev pub pass_looks : Rates → List Record → ℕ
pass_looks r rs = length (pass_outcomes r rs)

-- the pass's list, by kinds and sizes
abbrev pub pass_items : Rates → List Record → List Item
pass_items r rs = end_items (tests_of r) (items (tidy rs))

-- an item without its first s bytes
abbrev pub shrunk : Item → ℕ → Item
shrunk (new t) s = new (t - s)
shrunk (match t) s = match (t - s)
shrunk (neither t) s = neither (t - s)

-- items without their first s bytes, which are no more than the item i has
abbrev pub cut : ℕ → Item → List Item → List Item
cut s i is = cond (ltb s (size i)) (shrunk i s ∷ is) is

-- 1 for a new item, 0 for a match, held or not
abbrev pub bit_for : Item → Bit
bit_for i = cond (is_new i) store keep

-- the choice that items stand for, one bit for each record as handed in: each record is as the item is that covers it
unfoldable pub choice_of : List Record → List Item → List Bit
choice_of [] is = []
choice_of (r ∷ rs) [] = []
choice_of (r ∷ rs) (i ∷ is) = bit_for i ∷ choice_of rs (cut (size_of r) i is)

-- the pass's choice: its list is `list_of` of it, and by kinds and sizes `pass_items` (`pass_holds`)
abbrev pub pass_choice : Rates → List Record → List Bit
pass_choice r rs = choice_of rs (pass_items r rs)

-- what the call asks for: rates that fit, a list that was accepted, and a byte for each record
pub record Passable (rates : Rates) (list choice : List ℕ) : Type 0 where
  pub rates_fit : RatesFit rates
  pub list_at_most : length list ≤ list_most
  pub room : length (records_of list) ≤ length choice
  pub sized : Sized (records_of list)
  pub whole_most : whole (records_of list) ≤ version_most

-- what the call gives: the number of looks, which is at most 2n - 1 for n records after joining, and the choice area, which begins with the pass's
-- choice
pub record PassIn (rates : Rates) (list before after : List ℕ) (r : ℕ) : Type 0 where
  pub looks_are : r ≡ pass_looks rates (records_of list)
  pub few_looks : r ≤ 2 * length (tidy (records_of list)) - 1
  pub area : after ≡ over (bit_bytes (pass_choice rates (records_of list))) before
