-- That a choice keeps every held match (clause 3.3).
-- Assumes nothing.
use Rattle.std.specs.Prelude.{◌≡◌, true, List, [], ◌∷◌}
use Rattle.format.specs.declared.Record.{Record}
use Rattle.format.specs.declared.Record.TheVariants.{New, Match}
use Rattle.choice.specs.Choice.{Bit, keep}

-- the choice c has a bit for each of the records, and 0 for each held match
abbrev pub KeepsHeld : List Record → List Bit → Type 0
KeepsHeld [] c = Unit {0}
KeepsHeld (r ∷ rs) [] = ⊥
KeepsHeld (New s ∷ rs) (b ∷ c) = KeepsHeld rs c
KeepsHeld (Match s a ∷ rs) (b ∷ c) = (a.held ≡ true → b ≡ keep) × KeepsHeld rs c
