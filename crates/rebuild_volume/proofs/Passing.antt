-- The walk over the chunks: before chunk i, what is still to be ruled on, and the length so far. Then the checks of the call, one by one.
-- Assumes nothing.
use Rattle.std.specs.Prelude.{Ok, Err}
use Prim.Native.Nat.{ℕ, ◌+◌, ◌/◌, ◌%◌, ◌≤◌, ◌<◌}
use native.Mathlib.Omega.{arith}
use mathlib.Core.Path.{◌≡◌, refl, sym, ◌∙◌, ap}
use mathlib.Core.Bool.{true, false}
use mathlib.Core.List.{List, [], ◌∷◌}
use lib.Dec.{eqb}
use lib.ListN.{length, take, drop}
use borrow.Author.Tests.{le-leb, lt-leb, eq-eqb, ne_eqb}
use Rattle.format.specs.declared.Fault.TheVariants.{AreaTooShort, Index}
use Rattle.format.specs.declared.Refusal.{Refusal}
use Rattle.format.specs.Limits.{volume_most, index_most}
use Rattle.format.specs.Refusal.{refuse}
use Rattle.volume.specs.declared.IndexRow.{IndexRow}
use Rattle.volume.specs.Volume.{index_row_at, Chunk, chunk, chunks_of, volume_of}
use Rattle.volume.specs.Filling.{VolumeReady}
use Rattle.volume.proofs.Cutting.{chunks_from, Cut, chunks_all, chunks_none, chunks_next, cut_start, cut_next}
use Rattle.rebuild_volume.specs.RebuildVolume.{index_fits, chunk_ruling, whole_of, wholes, chunks_ruling, volume_ruling, IndexReady, SumsOf}
use Rattle.rebuild_volume.proofs.Accepting.{fit_of_chunk, fit_most, sound_of_fine, fitting_of_fits}

-- ---- the chunks

pub record Passed (index lists blocks : List ℕ) (n i l b at : ℕ) : Type 0 where
  pub cut : Cut index lists blocks n i l b
  pub ruling : chunks_ruling 0 0 (chunks_of index lists blocks) ≡ chunks_ruling i at (chunks_from index lists blocks n i l b)
  pub whole_is : wholes (chunks_of index lists blocks) ≡ at + wholes (chunks_from index lists blocks n i l b)
  pub most : at ≤ volume_most

pub passed_start : {index lists blocks : List ℕ} → IndexReady index lists blocks → Passed index lists blocks (length index / 8) 0 0 0 0
passed_start {index} {lists} {blocks} ready =
    let e : chunks_of index lists blocks ≡ chunks_from index lists blocks (length index / 8) 0 0 0 = chunks_all index lists blocks in
    record {
      cut = cut_start index lists blocks ready.lists_fit ready.blocks_fit;
      ruling = ap (chunks_ruling 0 0) e;
      whole_is = ap wholes e ∙ omega arith;
      most = omega arith;
    }

module _ {index lists blocks : List ℕ} {n i l b at : ℕ} (passed : Passed index lists blocks n i l b at) where
  pub passed_end : n ≤ i → (chunks_ruling 0 0 (chunks_of index lists blocks) ≡ Ok tt) × (at ≡ wholes (chunks_of index lists blocks))
  passed_end h =
      let e : chunks_from index lists blocks n i l b ≡ [] = chunks_none index lists blocks n i l b h in
      (passed.ruling ∙ ap (chunks_ruling i at) e, sym (passed.whole_is ∙ ap (λ (cs : List Chunk). at + wholes cs) e ∙ omega arith))

  -- r is index record i, whose lengths are x and y
  module _ {r : IndexRow} (is : r ≡ index_row_at index i) (h : i < n) {x y : ℕ} (x_is : x ≡ r.list) (y_is : y ≡ r.block) where
    abbrev c : Chunk
    c = chunk (take x (drop l lists)) (take y (drop b blocks))

    chunks : chunks_from index lists blocks n i l b ≡ c ∷ chunks_from index lists blocks n (i + 1) (l + x) (b + y)
    chunks = chunks_next passed.cut is h x_is y_is

    pub passed_stop : {z : Refusal} → chunk_ruling at c ≡ Err z → chunks_ruling 0 0 (chunks_of index lists blocks) ≡ Err (refuse z.fault i)
    passed_stop e = passed.ruling ∙ ap (chunks_ruling i at) chunks ∙ rw e

    module _ (e : chunk_ruling at c ≡ Ok tt) where
      pub passed_most : at + whole_of c ≤ volume_most
      passed_most = fit_most (fit_of_chunk {c = c} e) passed.most

      pub passed_next : {l' b' at' : ℕ} → l' ≡ l + x → b' ≡ b + y → at' ≡ at + whole_of c → Passed index lists blocks n (i + 1) l' b' at'
      passed_next l_is b_is at_is =
          rw (l_is, b_is, at_is)
          (record {
            cut = cut_next passed.cut is h x_is y_is;
            ruling = passed.ruling ∙ ap (chunks_ruling i at) chunks ∙ rw e;
            whole_is = passed.whole_is ∙ ap (λ (cs : List Chunk). at + wholes cs) chunks ∙ omega arith;
            most = passed_most;
          })

-- ---- the index

module _ (index lists blocks : List ℕ) where
  pub index_long : index_most < length index → index_fits index lists blocks ≡ false
  index_long h = rw (lt-leb (length index) index_most h)

  module _ (h : length index ≤ index_most) where
    pub index_uneven : (length index % 8 ≡ 0 → ⊥) → index_fits index lists blocks ≡ false
    index_uneven k = rw (le-leb (length index) index_most h, ne_eqb (length index % 8) 0 k)

    module _ (k : length index % 8 ≡ 0) {l b : ℕ} (sums : SumsOf index l b) where
      pub index_lists : (length lists ≡ l → ⊥) → index_fits index lists blocks ≡ false
      index_lists f = rw (le-leb (length index) index_most h, eq-eqb (length index % 8) 0 k, ← sums.lists_is, ne_eqb (length lists) l f)

      pub index_blocks : length lists ≡ l → index_fits index lists blocks ≡ eqb (length blocks) b
      index_blocks f = rw (le-leb (length index) index_most h, eq-eqb (length index % 8) 0 k, ← sums.lists_is, eq-eqb (length lists) l f, ← sums.blocks_is)

-- ---- the call

module _ (index lists blocks area : List ℕ) where
  pub volume_index : index_fits index lists blocks ≡ false → volume_ruling index lists blocks area ≡ Err (refuse Index 0)
  volume_index a = rw a

  module _ (a : index_fits index lists blocks ≡ true) where
    pub index_ready : IndexReady index lists blocks
    index_ready = let f = fitting_of_fits index lists blocks a in record { index_at_most = f.0; lists_fit = f.1.lists_fit; blocks_fit = f.1.blocks_fit }

    pub volume_chunks : {z : Refusal} → chunks_ruling 0 0 (chunks_of index lists blocks) ≡ Err z → volume_ruling index lists blocks area ≡ Err z
    volume_chunks e = rw (a, e)

    module _ (e : chunks_ruling 0 0 (chunks_of index lists blocks) ≡ Ok tt) where
      pub volume_length : length (volume_of index lists blocks) ≡ wholes (chunks_of index lists blocks)
      volume_length = omega (arith, (sound_of_fine 0 0 [] (chunks_of index lists blocks) refl (omega arith) e).1)

      pub volume_short : length area < wholes (chunks_of index lists blocks) → volume_ruling index lists blocks area ≡ Err (refuse AreaTooShort 0)
      volume_short h = rw (a, e, lt-leb (length (volume_of index lists blocks)) (length area) (omega (arith, volume_length)))

      module _ (h : wholes (chunks_of index lists blocks) ≤ length area) where
        pub volume_fine : volume_ruling index lists blocks area ≡ Ok tt
        volume_fine = rw (a, e, le-leb (length (volume_of index lists blocks)) (length area) (omega (arith, volume_length)))

        pub volume_ready : VolumeReady index lists blocks area
        volume_ready =
            record {
              lists_fit = index_ready.lists_fit;
              blocks_fit = index_ready.blocks_fit;
              sound = (sound_of_fine 0 0 [] (chunks_of index lists blocks) refl (omega arith) e).0;
              room = omega (arith, volume_length);
            }
