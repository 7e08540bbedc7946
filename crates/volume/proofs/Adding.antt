-- One chunk more: its index record, its list and its stored block behind the others. What it stands for is rebuilt behind the volume so far.
-- Assumes nothing.
use Prim.Native.Nat.{ℕ, zero, suc, ◌+◌, ◌*◌, ◌/◌, ◌≤◌, ◌<◌}
use native.Mathlib.Omega.{arith}
use mathlib.Core.Path.{◌≡◌, refl, sym, ◌∙◌, ap, ap₂}
use mathlib.Core.List.{List, [], ◌∷◌, ◌++◌}
use lib.ListN.{length, take, drop, get_or, length-append, length-drop, get_or-append}
use lib.Seq.{take-append-le, drop-append-le, take-length, get_or-append-add}
use Rattle.format.specs.Record.{word_at, from}
use Rattle.format.proofs.Rows.{from_add}
use Rattle.volume.specs.declared.IndexRow.{IndexRow}
use Rattle.volume.specs.Volume.{index_row_at, index_rows_of, lists_length, blocks_length, Chunk, chunk, cut, chunks_of, chunk_bytes, volume, volume_of, index_bytes}
use Rattle.volume.proofs.Volumes.{volume_append}

-- ---- the index

word_front : (x y : List ℕ) (at : ℕ) → at + 4 ≤ length x → word_at (x ++ y) at ≡ word_at x at
word_front x y at h =
    rw (get_or-append x y 0 at (omega arith), get_or-append x y 0 (at + 1) (omega arith), get_or-append x y 0 (at + 2) (omega arith), get_or-append x y 0 (at + 3) (omega arith))

row_front : (index e : List ℕ) (i : ℕ) → 8 * i + 8 ≤ length index → index_row_at (index ++ e) i ≡ index_row_at index i
row_front index e i h = cc (word_front index e (8 * i) (omega arith), word_front index e (8 * i + 4) (omega arith))

word_behind : (x y : List ℕ) (at k : ℕ) → at ≡ length x + k → word_at (x ++ y) at ≡ word_at y k
word_behind x y at k h =
    let e : (j : ℕ) → get_or (x ++ y) (at + j) 0 ≡ get_or y (k + j) 0 =
    λ j. (let f : at + j ≡ length x + (k + j) = omega arith in ap (λ (m : ℕ). get_or (x ++ y) m 0) f ∙ get_or-append-add x y (k + j) 0) in
    let z : get_or (x ++ y) at 0 ≡ get_or y k 0 = ap (λ (m : ℕ). get_or (x ++ y) m 0) h ∙ get_or-append-add x y k 0 in
    omega (arith, z, e 1, e 2, e 3)

-- the index record of a list and a stored block
abbrev row_for : List ℕ → List ℕ → IndexRow
row_for l b = record { list = length l; block = length b }

row_last : (index l b : List ℕ) (n : ℕ) → length index ≡ 8 * n → index_row_at (index ++ index_bytes l b) n ≡ row_for l b
row_last index l b n h =
    let x : word_at (index ++ index_bytes l b) (8 * n) ≡ length l = word_behind index (index_bytes l b) (8 * n) 0 (omega arith) ∙ omega arith in
    let y : word_at (index ++ index_bytes l b) (8 * n + 4) ≡ length b = word_behind index (index_bytes l b) (8 * n + 4) 4 (omega arith) ∙ omega arith in
    cc

from_same : {A : Type 0} (f g : ℕ → A) (i m : ℕ) → ((j : ℕ) → j < i + m → f j ≡ g j) → from f i m ≡ from g i m
from_same f g i zero h = refl
from_same {A} f g i (suc m) h = ap₂ (λ (x : A) (l : List A). x ∷ l) (h i (omega arith)) (from_same f g (i + 1) m (λ j k. h j (omega arith)))

rows_added : (index l b : List ℕ) (n : ℕ) → length index ≡ 8 * n → index_rows_of (index ++ index_bytes l b) ≡ index_rows_of index ++ row_for l b ∷ []
rows_added index l b n h =
    let e : length (index ++ index_bytes l b) / 8 ≡ n + 1 = omega (arith, length-append index (index_bytes l b)) in
    let m : length index / 8 ≡ n = omega arith in
    let z : 0 + n ≡ n = omega arith in
    ap (from (index_row_at (index ++ index_bytes l b)) 0) e
    ∙ from_add (index_row_at (index ++ index_bytes l b)) 0 n 1
    ∙ ap₂ (λ (x : List IndexRow) (r : IndexRow). x ++ r ∷ [])
    (from_same (index_row_at (index ++ index_bytes l b)) (index_row_at index) 0 n (λ j k. row_front index (index_bytes l b) j (omega arith)) ∙ ap (from (index_row_at index) 0) (sym m))
    (ap (index_row_at (index ++ index_bytes l b)) z ∙ row_last index l b n h)

lists_append : (rs : List IndexRow) (r : IndexRow) → lists_length (rs ++ r ∷ []) ≡ lists_length rs + r.list
lists_append [] r = omega arith
lists_append (x ∷ rs) r = omega (arith, lists_append rs r)

blocks_append : (rs : List IndexRow) (r : IndexRow) → blocks_length (rs ++ r ∷ []) ≡ blocks_length rs + r.block
blocks_append [] r = omega arith
blocks_append (x ∷ rs) r = omega (arith, blocks_append rs r)

-- ---- the chunks

cut_added : (rs : List IndexRow) (lists blocks l b : List ℕ) → length lists ≡ lists_length rs → length blocks ≡ blocks_length rs
    → cut (rs ++ row_for l b ∷ []) (lists ++ l) (blocks ++ b) ≡ cut rs lists blocks ++ chunk l b ∷ []
cut_added [] [] [] l b h k = rw (take-length l, take-length b)
cut_added [] [] (y ∷ blocks) l b h k = absurd (omega arith)
cut_added [] (x ∷ lists) blocks l b h k = absurd (omega arith)
cut_added (r ∷ rs) lists blocks l b h k =
    rw (
      take-append-le r.list lists l (omega arith),
      take-append-le r.block blocks b (omega arith),
      drop-append-le r.list lists l (omega arith),
      drop-append-le r.block blocks b (omega arith),
    )
    (ap (λ (cs : List Chunk). chunk (take r.list lists) (take r.block blocks) ∷ cs)
    (cut_added rs (drop r.list lists) (drop r.block blocks) l b (omega (arith, length-drop r.list lists)) (omega (arith, length-drop r.block blocks))))

-- areas that are as long as an index of n records says
pub record Fitting (index lists blocks : List ℕ) (n : ℕ) : Type 0 where
  pub eights : length index ≡ 8 * n
  pub lists_fit : length lists ≡ lists_length (index_rows_of index)
  pub blocks_fit : length blocks ≡ blocks_length (index_rows_of index)

module _ {index lists blocks : List ℕ} {n : ℕ} (f : Fitting index lists blocks n) (l b : List ℕ) where
  rows : index_rows_of (index ++ index_bytes l b) ≡ index_rows_of index ++ row_for l b ∷ []
  rows = rows_added index l b n f.eights

  pub fitting_added : Fitting (index ++ index_bytes l b) (lists ++ l) (blocks ++ b) (n + 1)
  fitting_added =
      record {
        eights = length-append index (index_bytes l b) ∙ omega (arith, f.eights);
        lists_fit = omega (arith, length-append lists l, f.lists_fit, ap lists_length rows, lists_append (index_rows_of index) (row_for l b));
        blocks_fit = omega (arith, length-append blocks b, f.blocks_fit, ap blocks_length rows, blocks_append (index_rows_of index) (row_for l b));
      }

  pub chunks_added : chunks_of (index ++ index_bytes l b) (lists ++ l) (blocks ++ b) ≡ chunks_of index lists blocks ++ chunk l b ∷ []
  chunks_added = ap (λ (rs : List IndexRow). cut rs (lists ++ l) (blocks ++ b)) rows ∙ cut_added (index_rows_of index) lists blocks l b f.lists_fit f.blocks_fit

  pub volume_added : volume_of (index ++ index_bytes l b) (lists ++ l) (blocks ++ b) ≡ volume_of index lists blocks ++ chunk_bytes (chunk l b) (volume_of index lists blocks)
  volume_added = ap (volume []) chunks_added ∙ volume_append [] (chunks_of index lists blocks) (chunk l b ∷ [])
