-- A lone match that a choice stores: one with no stored record beside it (clause 8.5.4).
-- Assumes nothing.
use Rattle.std.specs.Prelude.{Bool, true, false, ◌&&◌, ◌||◌, List, [], ◌∷◌}
use Rattle.format.specs.declared.Record.{Record}
use Rattle.format.specs.declared.Record.TheVariants.{New, Match}
use Rattle.choice.specs.Choice.{Bit, keep, store}

abbrev pub is_kept : Bit → Bool
is_kept keep = true
is_kept store = false

-- whether the first of some records is kept, or there is none
abbrev pub first_kept : List Bit → Bool
first_kept [] = true
first_kept (b ∷ c) = is_kept b

-- whether the choice c stores a match that has no stored record beside it; k says whether the record before these is kept, or there is none
abbrev pub stores_alone : Bool → List Record → List Bit → Bool
stores_alone k [] c = false
stores_alone k (r ∷ rs) [] = false
stores_alone k (New s ∷ rs) (b ∷ c) = stores_alone (is_kept b) rs c
stores_alone k (Match s a ∷ rs) (keep ∷ c) = stores_alone true rs c
stores_alone k (Match s a ∷ rs) (store ∷ c) = (k && first_kept c) || stores_alone false rs c
