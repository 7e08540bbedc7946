-- The bytes of a record's fields, and one record written or left open.
-- Assumes nothing.
use Rattle.std.specs.Prelude.{ℕ, ◌+◌, ◌≡◌, List, ◌∷◌, ◌++◌, length}
use Rattle.format.specs.declared.Record.{Record}
use Rattle.format.specs.Record.{word, encode}
use Rattle.format.specs.Meaning.{size_of, whole}
use Rattle.area.specs.Area.{pasted}
use Rattle.join.specs.Open.{flushed, opened}
use Rattle.join.specs.Join.{join, tidy}
use Rattle.emit.specs.declared.Emitter.{Emitter}

-- the fields of a record as 12 bytes
abbrev pub fields : ℕ → ℕ → ℕ → ℕ → List ℕ
fields kind mark s a = kind ∷ mark ∷ 0 ∷ 0 ∷ word s ++ word a

-- a record r taken in by the open one: the same area and its bytes, the place after what is written, what is open then
pub record Emits (before : Emitter) (r : Record) (after : Emitter) : Type 0 where
  pub same_area : after.area.ghost_name ≡ before.area.ghost_name
  pub area_after : after.area.now ≡ pasted before.out (encode (flushed before.last r)) before.area.now
  pub out_is : after.out ≡ before.out + length (encode (flushed before.last r))
  pub last_is : after.last ≡ opened before.last r

-- one entry stands for the records of l before those of k, and joins what follows as they do
pub record Entry (l : List Record) (r : Record) (k : List Record) : Type 0 where
  pub listed : tidy l ≡ join r (tidy k)
  pub sizes : whole l ≡ size_of r + whole k
