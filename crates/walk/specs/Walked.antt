-- What the walk answers, and what it asks of lengths.
-- Assumes nothing.
use Rattle.std.specs.Prelude.{ℕ, ◌≤◌, List, length, Result, Ok, Err}
use Rattle.format.specs.declared.Refusal.{Refusal}
use Rattle.format.specs.declared.Record.{Record}
use Rattle.format.specs.Refusal.{Ruling}
use Rattle.format.specs.Limits.{list_most, version_most}
use Rattle.format.specs.Meaning.{whole, stored}
use Rattle.walk.specs.declared.Totals.{Totals}

-- entries, stored bytes and whole length of a list
abbrev pub totals : List Record → Totals
totals l = record { entries = length l; stored = stored l; whole = whole l }

-- what a walk comes to: the totals of a list that it went through, or the refusal at which it stopped
abbrev pub Walked : Type 0
Walked = Result Totals Refusal

-- a ruling on a list, as the walk tells it
abbrev pub walked : Ruling → List Record → Walked
walked (Ok _) l = Ok (totals l)
walked (Err r) l = Err r

-- list and version are no longer than they may be
pub record Lengths (list version : List ℕ) : Type 0 where
  pub list_at_most : length list ≤ list_most
  pub version_at_most : length version ≤ version_most
