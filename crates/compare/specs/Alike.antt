-- Two records of one size side by side, as the comparison meets them.
-- Assumes nothing.
use Rattle.std.specs.Prelude.{Bool, true, false}
use Rattle.format.specs.declared.Record.{Record}
use Rattle.format.specs.declared.Record.TheVariants.{New, Match}
use Rattle.format.specs.Origins.{same_source}

-- they have the same origins: both are new, or both are drawn from the same source
abbrev pub alike : Record → Record → Bool
alike (New s) (New t) = true
alike (New s) (Match t b) = false
alike (Match s a) (New t) = false
alike (Match s a) (Match t b) = same_source a b
