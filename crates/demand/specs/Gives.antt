-- What a call of measure, partition or pass gives, by a cost of lists that is said apart from the calls: so a law can set their answers beside another
-- formula.
-- Assumes nothing.
use Rattle.std.specs.Prelude.{ℕ, ◌≡◌, List, length}
use Rattle.format.specs.declared.Record.{Record}
use Rattle.format.specs.Refusal.{Ruling, answer}
use Rattle.format.specs.declared.Figures.{Figures}
use Rattle.format.specs.Record.{records_of}
use Rattle.format.specs.Meaning.{stored, whole}
use Rattle.choice.specs.Choice.{Bit, list_of}
use Rattle.writer.specs.Decide.{decided_areas}
use Rattle.demand.specs.Demand.{Call}

-- the figures of a list that costs c: as measure gives them, and as a call does that found it in so many looks
abbrev pub measures_at : ℕ → List Record → Figures
measures_at c l = record { cost = c; entries = length l; stored = stored l; looks = 0; whole = whole l }

abbrev pub figures_at : ℕ → List Record → ℕ → Figures
figures_at c l looks = record { cost = c; entries = length l; stored = stored l; looks = looks; whole = 0 }

-- the call x, for the ruling q on its inputs, answers and writes what the choice c comes to, found in so many looks, where lists cost what `costs` says
pub record Gives (q : Ruling) (costs : List Record → ℕ) (list v : List ℕ) (c : List Bit) (looks : ℕ) (x : Call) : Type 0 where
  pub answered : x.answer ≡ answer q (figures_at (costs (list_of (records_of list) c)) (list_of (records_of list) c) looks)
  pub areas_after : x.after ≡ decided_areas q list v c x.before
