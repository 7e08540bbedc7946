-- The laws of rebuild_volume, by the contracts of the calls.
--
-- In order: a volume as it is kept, and one chunk more; a call of rebuild_volume; when a version comes back; one chunk by itself; the laws, a field for
-- each; a deposit as one function makes it.
-- Assumes nothing.
use Rattle.std.specs.Prelude.{ℕ, ◌+◌, ◌≤◌, ◌<◌, ◌≡◌, cond, List, [], ◌++◌, eqb, length, take, drop, get_or, Ok, Err}
use Rattle.format.specs.declared.Fault.{Fault}
use Rattle.format.specs.declared.Fault.TheVariants.{OutsideEarlier}
use Rattle.format.specs.declared.Refusal.{Refusal}
use Rattle.format.specs.Refusal.{Answer, number, refuse, Accepts, figures_in, length_only}
use Rattle.format.specs.Limits.{volume_most, index_most}
use Rattle.price.specs.declared.Price.{Price}
use Rattle.area.specs.Area.{over, Areas}
use Rattle.rebuild.specs.Rebuild.{Rebuilt}
use Rattle.volume.specs.Volume.{Chunk, chunk, chunks_of, index_bytes}
use Rattle.rebuild_volume.specs.RebuildVolume.{whole_of, wholes, VolumeRebuilt}
use Rattle.call_partition.specs.Partition.{Partitioned}
use Rattle.call_pass.specs.Pass.{PassMade}
use Rattle.demand.specs.declared.Deposited.{Deposited}
use Rattle.demand.specs.Demand.{Call, Rebuilding, list_written, block_written, written_list, written_block}
use Rattle.demand.specs.Split.{Commits}

-- what a volume is kept as
pub record Kept : Type 0 where
  pub index : List ℕ
  pub lists : List ℕ
  pub blocks : List ℕ

abbrev pub kept : List ℕ → List ℕ → List ℕ → Kept
kept index lists blocks = record { index = index; lists = lists; blocks = blocks }

-- one without chunks
abbrev pub none : Kept
none = kept [] [] []

-- with one chunk more: its index record, its list and its stored block behind the others
abbrev pub added : Kept → List ℕ → List ℕ → Kept
added k list block = kept (k.index ++ index_bytes list block) (k.lists ++ list) (k.blocks ++ block)

-- the call x is one of rebuild_volume, by its contract
abbrev pub Rebuilds : Kept → Rebuilding → Type 0
Rebuilds k x = VolumeRebuilt k.index k.lists k.blocks x.before x.answer x.after

-- the bytes that a call of it wrote: as many of its area as its answer says
abbrev pub volume_written : Answer → List ℕ → List ℕ
volume_written r area = take (figures_in r).whole area

abbrev pub written_volume : Rebuilding → List ℕ
written_volume x = volume_written x.answer x.after

-- the version v, deposited against the volume d as a list with its stored block, comes back as the next chunk, and so does all before it: while there are at
-- most 1,024 chunks and 268,435,456 bytes, the call on the longer volume is accepted where it has room, and its area begins with d, then the version
abbrev pub ComesBack : Kept → List ℕ → List ℕ → List ℕ → List ℕ → Type 0
ComesBack k d list block v =
    (x : Rebuilding) → Rebuilds (added k list block) x → length (added k list block).index ≤ index_most → length d + length v ≤ volume_most → length d + length v ≤ length x.before
    → (x.answer ≡ Ok (length_only (length d + length v))) × (x.after ≡ over (d ++ v) x.before)

-- the chunks of a volume; chunk i; where it begins: behind the bytes that those before it cover
abbrev pub chunks_in : Kept → List Chunk
chunks_in k = chunks_of k.index k.lists k.blocks

abbrev pub chunk_at : Kept → ℕ → Chunk
chunk_at k i = get_or (chunks_in k) i (chunk [] [])

abbrev pub start_of : Kept → ℕ → ℕ
start_of k i = wholes (take i (chunks_in k))

-- what rebuild_volume answers of one chunk where rebuild, with an empty store, answers r: the place is the chunk, and 15 stands in the place of 7
abbrev pub of_chunk : Fault → Fault
of_chunk f = cond (eqb (number f) 7) OutsideEarlier f

abbrev pub as_chunk : Answer → Answer
as_chunk (Ok x) = Ok x
as_chunk (Err r) = Err (refuse (of_chunk r.fault) 0)

pub record VolumeLaws : Type 0 where
  -- a version that partition deposited against the rebuilt part, and that is added as the next chunk, comes back, as do all before it
  pub of_partition : (p : Price) (k : Kept) (list v : List ℕ) (x : Rebuilding) (y : Call) → Rebuilds k x → Accepts x.answer
      → Partitioned p list v (written_volume x) y.before y.answer y.after → Accepts y.answer → ComesBack k (written_volume x) (written_list y) (written_block y) v
  -- or pass, or commit
  pub of_pass : (p : Price) (k : Kept) (list v : List ℕ) (x : Rebuilding) (y : Call) → Rebuilds k x → Accepts x.answer
      → PassMade p list v (written_volume x) y.before y.answer y.after → Accepts y.answer → ComesBack k (written_volume x) (written_list y) (written_block y) v
  pub of_commit : (p : Price) (k : Kept) (list v : List ℕ) (x : Rebuilding) (y : Call) → Rebuilds k x → Accepts x.answer
      → Commits p list v (written_volume x) y → Accepts y.answer → ComesBack k (written_volume x) (written_list y) (written_block y) v
  -- a volume of one chunk is what rebuild makes of it with an empty store, refused or not
  pub one_chunk : (list block : List ℕ) (x y : Rebuilding) → Rebuilds (added none list block) x → Rebuilt list block [] y.before y.answer y.after → x.before ≡ y.before
      → (x.answer ≡ as_chunk y.answer) × (x.after ≡ y.after)
  -- each chunk by itself: rebuild of its list and stored block, with the part before it as store, gives its stretch of the area
  pub each_chunk : (k : Kept) (i : ℕ) (x y : Rebuilding) → Rebuilds k x → Accepts x.answer → i < length (chunks_in k)
      → Rebuilt (chunk_at k i).list (chunk_at k i).block (take (start_of k i) x.after) y.before y.answer y.after → whole_of (chunk_at k i) ≤ length y.before
      → (y.answer ≡ Ok (length_only (whole_of (chunk_at k i)))) × (y.after ≡ over (take (whole_of (chunk_at k i)) (drop (start_of k i) x.after)) y.before)
  -- the stretches of all chunks are the volume
  pub whole_told : (k : Kept) (x : Rebuilding) → Rebuilds k x → Accepts x.answer → (figures_in x.answer).whole ≡ wholes (chunks_in k)

-- ---- a deposit as one function makes it

-- rebuild_volume, and partition against what it wrote, each by its contract; and the version comes back. Where the first is refused, no second is made, and
-- its answer stands
pub record Deposits (price : Price) (k : Kept) (list v area : List ℕ) (before : Areas) (r : Deposited) (area' : List ℕ) (after : Areas) : Type 0 where
  pub rebuilt : VolumeRebuilt k.index k.lists k.blocks area r.rebuilt area'
  pub deposited : Accepts r.rebuilt → Partitioned price list v (volume_written r.rebuilt area') before r.deposited after
  pub comes_back : Accepts r.deposited → ComesBack k (volume_written r.rebuilt area') (list_written r.deposited after.list) (block_written r.deposited after.block) v
  pub or_none : (z : Refusal) → r.rebuilt ≡ Err z → (r.deposited ≡ Err z) × (after ≡ before)
