-- Rebuilding a volume chunk by chunk: before chunk i, what stands in the area, and what the chunks left put behind it.
-- Assumes nothing.
use Prim.Native.Nat.{ℕ, ◌+◌, ◌/◌, ◌≤◌, ◌<◌}
use native.Mathlib.Omega.{arith}
use mathlib.Core.Path.{◌≡◌, refl, sym, ◌∙◌, ap}
use mathlib.Core.List.{List, [], ◌∷◌, ◌++◌}
use lib.ListN.{length, take, drop, length-append}
use lib.Seq.{length-take-le, take_at}
use Rattle.format.specs.Record.{records_of}
use Rattle.format.specs.Meaning.{whole}
use Rattle.format.proofs.Rebuilding.{length_rebuilt}
use Rattle.area.proofs.Filling.{Filling, filling_put, filling_end, filling_room}
use Rattle.volume.specs.declared.IndexRow.{IndexRow}
use Rattle.volume.specs.Volume.{index_row_at, Chunk, chunk, chunks_of, chunk_bytes, volume_of}
use Rattle.volume.specs.Filling.{ChunkReady, ChunkFilled, Sound, VolumeReady, volume_filled}
use Rattle.volume.proofs.Volumes.{behind, volume_behind}
use Rattle.volume.proofs.Cutting.{chunks_from, Cut, chunks_all, chunks_none, chunks_next, cut_start, cut_next}

pub record Built (index lists blocks area₀ area : List ℕ) (n i l b at : ℕ) : Type 0 where
  pub cut : Cut index lists blocks n i l b
  pub sound : Sound (take at area) (chunks_from index lists blocks n i l b)
  pub filling : Filling (volume_of index lists blocks) area₀ area at (behind (take at area) (chunks_from index lists blocks n i l b))

module _ {index lists blocks area₀ : List ℕ} (ready : VolumeReady index lists blocks area₀) where
  pub built_start : Built index lists blocks area₀ area₀ (length index / 8) 0 0 0 0
  built_start =
      let e : chunks_of index lists blocks ≡ chunks_from index lists blocks (length index / 8) 0 0 0 = chunks_all index lists blocks in
      record {
        cut = cut_start index lists blocks ready.lists_fit ready.blocks_fit;
        sound = rw e at ready.sound;
        filling = record {
          so_far = volume_behind [] (chunks_of index lists blocks) ∙ ap (behind []) e;
          beyond = refl;
          same = refl;
          within = omega arith;
        };
      }

  module _ {area : List ℕ} {n i l b at : ℕ} (built : Built index lists blocks area₀ area n i l b at) where
    pub built_end : n ≤ i → area ≡ volume_filled index lists blocks area₀
    built_end h = filling_end (rw (chunks_none index lists blocks n i l b h) at built.filling)

    -- r is index record i, whose lengths are x and y
    module _ {r : IndexRow} (is : r ≡ index_row_at index i) (h : i < n) {x y : ℕ} (x_is : x ≡ r.list) (y_is : y ≡ r.block) where
      abbrev c : Chunk
      c = chunk (take x (drop l lists)) (take y (drop b blocks))

      abbrev left : List Chunk
      left = chunks_from index lists blocks n (i + 1) (l + x) (b + y)

      abbrev bytes : List ℕ
      bytes = chunk_bytes c (take at area)

      chunks : chunks_from index lists blocks n i l b ≡ c ∷ left
      chunks = chunks_next built.cut is h x_is y_is

      sound_here : Sound (take at area) (c ∷ left)
      sound_here = rw chunks at built.sound

      still_to_come : Filling (volume_of index lists blocks) area₀ area at (bytes ++ behind (take at area ++ bytes) left)
      still_to_come = rw chunks at built.filling

      length_bytes : length bytes ≡ whole (records_of c.list)
      length_bytes = length_rebuilt (records_of c.list) c.block (take at area) sound_here.0 (omega (arith, sound_here.1))

      pub built_ready : ChunkReady c.list c.block area at
      built_ready =
          record {
            inside = sound_here.0;
            block_fits = sound_here.1;
            room = omega (arith, filling_room still_to_come ready.room, length-append bytes (behind (take at area ++ bytes) left), length_bytes);
          }

      pub built_next : {area' : List ℕ} {l' b' at' : ℕ} → ChunkFilled c.list c.block area at at' area' → l' ≡ l + x → b' ≡ b + y
          → Built index lists blocks area₀ area' n (i + 1) l' b' at'
      built_next {area'} {l'} {b'} {at'} f l_is b_is =
          let long : at' ≡ at + length bytes = f.ends ∙ ap (λ (k : ℕ). at + k) (sym length_bytes) in
          let front : take at' area' ≡ take at area ++ bytes =
          ap (take at') f.area_after
          ∙ take_at (take at area ++ bytes) (drop (at + length bytes) area) at' (omega (arith, length-append (take at area) bytes, length-take-le at area built.filling.within, long)) in
          rw (l_is, b_is)
          (record {
            cut = cut_next built.cut is h x_is y_is;
            sound = rw front sound_here.2;
            filling = rw front (filling_put bytes (behind (take at area ++ bytes) left) still_to_come ready.room area' at' f.area_after long);
          })
