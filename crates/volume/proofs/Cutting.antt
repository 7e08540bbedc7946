-- The areas of lists and of stored blocks, cut by the index: before chunk i, what of them is left; one chunk further.
-- Assumes nothing.
use Prim.Native.Nat.{ℕ, ◌+◌, ◌-◌, ◌/◌, ◌≤◌, ◌<◌}
use native.Mathlib.Omega.{arith}
use mathlib.Core.Path.{◌≡◌, sym, ◌∙◌, ap}
use mathlib.Core.List.{List, [], ◌∷◌}
use lib.ListN.{length, take, drop}
use lib.Seq.{drop-drop}
use Rattle.format.specs.Record.{from}
use Rattle.format.proofs.Rows.{from_next, from_none}
use Rattle.volume.specs.declared.IndexRow.{IndexRow}
use Rattle.volume.specs.Volume.{index_row_at, index_rows_of, lists_length, blocks_length, Chunk, chunk, cut, chunks_of}

-- the index records from i on, of n
abbrev pub rows_from : List ℕ → ℕ → ℕ → List IndexRow
rows_from index n i = from (index_row_at index) i (n - i)

pub rows_all : (index : List ℕ) → index_rows_of index ≡ rows_from index (length index / 8) 0
rows_all index =
    let m : length index / 8 ≡ length index / 8 - 0 = omega arith in
    ap (from (index_row_at index) 0) m

pub rows_none : (index : List ℕ) (n i : ℕ) → n ≤ i → rows_from index n i ≡ []
rows_none index n i h = from_none (index_row_at index) i n h

pub rows_next : (index : List ℕ) (n i : ℕ) {r : IndexRow} → r ≡ index_row_at index i → i < n → rows_from index n i ≡ r ∷ rows_from index n (i + 1)
rows_next index n i is h = from_next (index_row_at index) i n h ∙ ap (λ (z : IndexRow). z ∷ rows_from index n (i + 1)) (sym is)

-- the chunks from i on, where l bytes of lists and b stored bytes come before them
abbrev pub chunks_from : List ℕ → List ℕ → List ℕ → ℕ → ℕ → ℕ → ℕ → List Chunk
chunks_from index lists blocks n i l b = cut (rows_from index n i) (drop l lists) (drop b blocks)

-- before chunk i, as much of the areas is left as the index records left say
pub record Cut (index lists blocks : List ℕ) (n i l b : ℕ) : Type 0 where
  pub lists_left : l + lists_length (rows_from index n i) ≡ length lists
  pub blocks_left : b + blocks_length (rows_from index n i) ≡ length blocks

module _ (index lists blocks : List ℕ) where
  pub chunks_all : chunks_of index lists blocks ≡ chunks_from index lists blocks (length index / 8) 0 0 0
  chunks_all = ap (λ (rs : List IndexRow). cut rs lists blocks) (rows_all index)

  pub chunks_none : (n i l b : ℕ) → n ≤ i → chunks_from index lists blocks n i l b ≡ []
  chunks_none n i l b h = ap (λ (rs : List IndexRow). cut rs (drop l lists) (drop b blocks)) (rows_none index n i h)

  pub cut_start : length lists ≡ lists_length (index_rows_of index) → length blocks ≡ blocks_length (index_rows_of index) → Cut index lists blocks (length index / 8) 0 0 0
  cut_start h k = record { lists_left = omega (arith, ap lists_length (rows_all index)); blocks_left = omega (arith, ap blocks_length (rows_all index)) }

-- r is index record i, whose lengths are x and y
module _ {index lists blocks : List ℕ} {n i l b : ℕ} (c : Cut index lists blocks n i l b) {r : IndexRow} (is : r ≡ index_row_at index i) (h : i < n) where
  pub cut_lists : l + r.list ≤ length lists
  cut_lists = omega (arith, c.lists_left, ap lists_length (rows_next index n i is h))

  pub cut_blocks : b + r.block ≤ length blocks
  cut_blocks = omega (arith, c.blocks_left, ap blocks_length (rows_next index n i is h))

  module _ {x y : ℕ} (x_is : x ≡ r.list) (y_is : y ≡ r.block) where
    pub chunks_next : chunks_from index lists blocks n i l b ≡ chunk (take x (drop l lists)) (take y (drop b blocks)) ∷ chunks_from index lists blocks n (i + 1) (l + x) (b + y)
    chunks_next =
        ap (λ (rs : List IndexRow). cut rs (drop l lists) (drop b blocks)) (rows_next index n i is h)
        ∙ rw (← x_is, ← y_is, drop-drop x l lists, drop-drop y b blocks)

    pub cut_next : Cut index lists blocks n (i + 1) (l + x) (b + y)
    cut_next =
        record {
          lists_left = omega (arith, c.lists_left, ap lists_length (rows_next index n i is h));
          blocks_left = omega (arith, c.blocks_left, ap blocks_length (rows_next index n i is h));
        }
