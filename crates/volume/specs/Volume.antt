-- A volume: the index, the chunks that it cuts from the lists and the stored blocks, and what they rebuild one behind the other.
--
--   OFFSET  SIZE  FIELD OF AN INDEX RECORD
--   0       4     list: bytes of the chunk's list, lowest byte first
--   4       4     block: bytes of its stored block, lowest byte first
-- Assumes nothing.
use Rattle.std.specs.Prelude.{ℕ, ◌+◌, ◌*◌, ◌/◌, List, [], ◌∷◌, ◌++◌, length, take, drop}
use Rattle.format.specs.Record.{word_at, word, from, records_of}
use Rattle.format.specs.Meaning.{rebuilt}
use Rattle.volume.specs.declared.IndexRow.{IndexRow}

-- index record i
abbrev pub index_row_at : List ℕ → ℕ → IndexRow
index_row_at index i = record { list = word_at index (8 * i); block = word_at index (8 * i + 4) }

abbrev pub index_rows_of : List ℕ → List IndexRow
index_rows_of index = from (index_row_at index) 0 (length index / 8)

-- the sums of the list lengths and of the stored lengths
abbrev pub lists_length : List IndexRow → ℕ
lists_length [] = 0
lists_length (r ∷ rs) = r.list + lists_length rs

abbrev pub blocks_length : List IndexRow → ℕ
blocks_length [] = 0
blocks_length (r ∷ rs) = r.block + blocks_length rs

-- a chunk: the bytes of its list, and its stored block
pub record Chunk : Type 0 where
  pub list : List ℕ
  pub block : List ℕ

abbrev pub chunk : List ℕ → List ℕ → Chunk
chunk l b = record { list = l; block = b }

-- the chunks that index records cut from the lists and the stored blocks, in their order
abbrev pub cut : List IndexRow → List ℕ → List ℕ → List Chunk
cut [] lists blocks = []
cut (r ∷ rs) lists blocks = chunk (take r.list lists) (take r.block blocks) ∷ cut rs (drop r.list lists) (drop r.block blocks)

abbrev pub chunks_of : List ℕ → List ℕ → List ℕ → List Chunk
chunks_of index lists blocks = cut (index_rows_of index) lists blocks

-- the bytes of a chunk, where d is rebuilt before it: d is its store
abbrev pub chunk_bytes : Chunk → List ℕ → List ℕ
chunk_bytes c d = rebuilt (records_of c.list) c.block d

-- d with chunks behind it, one after the other
abbrev pub volume : List ℕ → List Chunk → List ℕ
volume d [] = d
volume d (c ∷ cs) = volume (d ++ chunk_bytes c d) cs

-- the volume that an index, lists and stored blocks stand for
abbrev pub volume_of : List ℕ → List ℕ → List ℕ → List ℕ
volume_of index lists blocks = volume [] (chunks_of index lists blocks)

-- the 8 bytes of the index record of a list and its stored block
abbrev pub index_bytes : List ℕ → List ℕ → List ℕ
index_bytes list block = word (length list) ++ word (length block)
