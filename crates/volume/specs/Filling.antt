-- What the rebuilding of a chunk and of a volume in one area asks, and what it leaves.
-- Assumes nothing.
use Rattle.std.specs.Prelude.{ℕ, ◌+◌, ◌≤◌, ◌≡◌, List, [], ◌∷◌, ◌++◌, length, take}
use Rattle.format.specs.Record.{records_of}
use Rattle.format.specs.Meaning.{whole, stored}
use Rattle.format.specs.WellFormed.{Inside}
use Rattle.area.specs.Area.{pasted, over}
use Rattle.volume.specs.Volume.{index_rows_of, lists_length, blocks_length, Chunk, chunk, chunks_of, chunk_bytes, volume_of}

-- a chunk behind the first `at` bytes: its matches lie in them, the block is as long as the new sizes, and there is room
pub record ChunkReady (list block area : List ℕ) (at : ℕ) : Type 0 where
  pub inside : Inside (take at area) (records_of list)
  pub block_fits : length block ≡ stored (records_of list)
  pub room : at + whole (records_of list) ≤ length area

-- where it ends, and the area after: its bytes stand from `at` on, and those before and beyond are unchanged
pub record ChunkFilled (list block area : List ℕ) (at end : ℕ) (after : List ℕ) : Type 0 where
  pub ends : end ≡ at + whole (records_of list)
  pub area_after : after ≡ pasted at (chunk_bytes (chunk list block) (take at area)) area

-- chunks behind d: of each, its matches lie in what is rebuilt before it, and the block is as long as the new sizes
abbrev pub Sound : List ℕ → List Chunk → Type 0
Sound d [] = Unit {0}
Sound d (c ∷ cs) = Inside d (records_of c.list) × (length c.block ≡ stored (records_of c.list)) × Sound (d ++ chunk_bytes c d) cs

-- a volume: areas as long as the index says, sound chunks, and room
pub record VolumeReady (index lists blocks area : List ℕ) : Type 0 where
  pub lists_fit : length lists ≡ lists_length (index_rows_of index)
  pub blocks_fit : length blocks ≡ blocks_length (index_rows_of index)
  pub sound : Sound [] (chunks_of index lists blocks)
  pub room : length (volume_of index lists blocks) ≤ length area

-- the area after begins with the volume, and bytes beyond are unchanged
abbrev pub volume_filled : List ℕ → List ℕ → List ℕ → List ℕ → List ℕ
volume_filled index lists blocks area = over (volume_of index lists blocks) area
