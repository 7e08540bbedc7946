-- The call rebuild_volume: its checks in their order, its answer, and the area after it.
-- Assumes nothing.
use Rattle.std.specs.Prelude.{ℕ, ◌+◌, ◌%◌, ◌≤◌, ◌≡◌, Bool, ◌&&◌, List, [], ◌∷◌, eqb, leb, length, Ok, Err}
use Rattle.format.specs.declared.Fault.TheVariants.{AreaTooShort, Index}
use Rattle.format.specs.Refusal.{Ruling, Answer, refuse, need, ◌then◌, answer, unless_refused, length_only}
use Rattle.format.specs.Limits.{index_most}
use Rattle.format.specs.Record.{records_of}
use Rattle.format.specs.Meaning.{whole}
use Rattle.walk.specs.declared.Scope.TheVariants as scope
use Rattle.show.specs.Check.{read_ruling}
use Rattle.volume.specs.Volume.{index_rows_of, lists_length, blocks_length, Chunk, chunks_of, volume_of}
use Rattle.volume.specs.Filling.{volume_filled}

-- an index of at most 1,024 records of 8 bytes, and areas as long as its two sums
abbrev pub index_fits : List ℕ → List ℕ → List ℕ → Bool
index_fits index lists blocks =
    leb (length index) index_most && eqb (length index % 8) 0
    && eqb (length lists) (lists_length (index_rows_of index)) && eqb (length blocks) (blocks_length (index_rows_of index))

-- a chunk, where n bytes are rebuilt before it: 3; record by record 4, 5, 6, 16, 15; then 10
abbrev pub chunk_ruling : ℕ → Chunk → Ruling
chunk_ruling n c = read_ruling (scope.Chunk n) c.list c.block []

-- the same fault at another place
abbrev pub placed : ℕ → Ruling → Ruling
placed p (Ok _) = Ok tt
placed p (Err r) = Err (refuse r.fault p)

-- the bytes that a chunk covers, and chunks together
abbrev pub whole_of : Chunk → ℕ
whole_of c = whole (records_of c.list)

abbrev pub wholes : List Chunk → ℕ
wholes [] = 0
wholes (c ∷ cs) = whole_of c + wholes cs

-- the chunks in their order, from chunk p on, where n bytes are rebuilt before it: the place is the chunk at fault
abbrev pub chunks_ruling : ℕ → ℕ → List Chunk → Ruling
chunks_ruling p n [] = Ok tt
chunks_ruling p n (c ∷ cs) = placed p (chunk_ruling n c) then chunks_ruling (p + 1) (n + whole_of c) cs

-- the order: 14; chunk by chunk 3 to 10; at last 9, where the area is shorter than the volume
abbrev pub volume_ruling : List ℕ → List ℕ → List ℕ → List ℕ → Ruling
volume_ruling index lists blocks area =
    need (index_fits index lists blocks) Index 0
    then chunks_ruling 0 0 (chunks_of index lists blocks)
    then need (leb (length (volume_of index lists blocks)) (length area)) AreaTooShort 0

abbrev pub volume_answer : List ℕ → List ℕ → List ℕ → List ℕ → Answer
volume_answer index lists blocks area = answer (volume_ruling index lists blocks area) (length_only (length (volume_of index lists blocks)))

abbrev pub volume_area : List ℕ → List ℕ → List ℕ → List ℕ → List ℕ
volume_area index lists blocks area = unless_refused (volume_ruling index lists blocks area) (volume_filled index lists blocks area) area

-- the answer r, and the area after the call
pub record VolumeRebuilt (index lists blocks area : List ℕ) (r : Answer) (after : List ℕ) : Type 0 where
  pub answered : r ≡ volume_answer index lists blocks area
  pub area_after : after ≡ volume_area index lists blocks area

-- ---- what the functions below the call ask and answer

-- the index was checked
pub record IndexReady (index lists blocks : List ℕ) : Type 0 where
  pub index_at_most : length index ≤ index_most
  pub lists_fit : length lists ≡ lists_length (index_rows_of index)
  pub blocks_fit : length blocks ≡ blocks_length (index_rows_of index)

-- what chunks are answered with: the length that they come to, or the refusal of the first at fault
abbrev pub chunks_answer : List Chunk → Answer
chunks_answer cs = answer (chunks_ruling 0 0 cs) (length_only (wholes cs))

-- the two sums of an index
pub record SumsOf (index : List ℕ) (l b : ℕ) : Type 0 where
  pub lists_is : l ≡ lists_length (index_rows_of index)
  pub blocks_is : b ≡ blocks_length (index_rows_of index)
