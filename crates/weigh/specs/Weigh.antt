-- The better way with one record, and what it comes to after the one before it is kept, and after that is stored.
-- Assumes nothing.
use Rattle.std.specs.Prelude.{ℕ, ◌+◌, ◌*◌, ◌≤◌, ◌≡◌, Some, None}
use Rattle.format.specs.declared.Record.{Record}
use Rattle.price.specs.declared.Rates.{Rates}
use Rattle.join.specs.Open.{Open}
use Rattle.choice.specs.Choice.{Bit, keep, store, bit_byte, freedom, chosen_record}
use Rattle.choice.specs.Path.{decide, at, step, step_most}
use Rattle.weigh.specs.declared.Turn.{Turn}
use Rattle.weigh.specs.declared.Way.{Way}

-- the better way with a record after the state o, where the rest costs at least `kept` after it is kept and `stored` after it is stored: what it comes
-- to, and its bit
abbrev pub way_of : Rates → Open → Record → ℕ → ℕ → Way
way_of rates o r kept stored =
    let k = step rates o r keep + kept in
    let n = step rates o r store + stored in
    let b = decide (freedom r) k n in
    record { cost = record { 0 = at b k n }; bit = bit_byte b }

pub record Better (rates : Rates) (o : Open) (r : Record) (kept stored : ℕ) (w : Way) : Type 0 where
  pub is : w ≡ way_of rates o r kept stored
  pub cost_most : (m : ℕ) → kept ≤ m → stored ≤ m → w.cost.0 ≤ m + step_most
  pub bit_most : w.bit ≤ 1

-- the record before, as its bit leaves it
abbrev pub left_by : Open → Bit → Open
left_by None b = None
left_by (Some r) b = Some (chosen_record b r)

-- one record of the sweep from the rear, after the record before it: what it comes to where that one is kept, and where it is stored
abbrev pub turned : Rates → Open → Record → ℕ → ℕ → Turn
turned rates o r kept stored =
    let k = way_of rates (left_by o keep) r kept stored in
    let n = way_of rates (left_by o store) r kept stored in
    record { kept = k.cost; stored = n.cost; hint = k.bit + 2 * n.bit }

pub record Turned (rates : Rates) (o : Open) (r : Record) (kept stored : ℕ) (t : Turn) : Type 0 where
  pub is : t ≡ turned rates o r kept stored
  pub kept_most : (m : ℕ) → kept ≤ m → stored ≤ m → t.kept.0 ≤ m + step_most
  pub stored_most : (m : ℕ) → kept ≤ m → stored ≤ m → t.stored.0 ≤ m + step_most
