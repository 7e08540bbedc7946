-- Which of two pieces stands in the pooled list; and what the counting and the writing of a pooled list ask and give.
-- Assumes nothing.
use Rattle.std.specs.Prelude.{ℕ, ◌≤◌, ◌≡◌, List, length}
use Rattle.format.specs.declared.Record.{Record}
use Rattle.format.specs.declared.Record.TheVariants.{New, Match}
use Rattle.format.specs.Record.{records_of, encode}
use Rattle.format.specs.Meaning.{whole}
use Rattle.cursors.specs.Cursor.{Checked}
use Rattle.pool.specs.Pool.{pooled_list}

-- of two pieces of one size: the first if it is a match, else the second
abbrev pub preferred : Record → Record → Record
preferred (New s) q = q
preferred (Match s a) q = Match s a

-- two lists that were checked and cover equally many bytes
pub record Alongside (first second : List ℕ) : Type 0 where
  pub first_checked : Checked first
  pub second_checked : Checked second
  pub same_whole : whole (records_of first) ≡ whole (records_of second)

-- and room for the result
pub record PoolReady (first second area : List ℕ) : Type 0 where
  pub alongside : Alongside first second
  pub room : length (encode (pooled_list first second)) ≤ length area
