-- What chunks that are accepted have: each can be rebuilt behind those before it, and their lengths, which are all that the checks see, add up to the volume's.
-- One chunk more is accepted where it is accepted behind the volume so far.
-- Assumes nothing.
use Rattle.std.specs.Prelude.{Ok, Err}
use Prim.Native.Nat.{ℕ, ◌+◌, ◌/◌, ◌%◌, ◌≤◌}
use native.Mathlib.Omega.{arith}
use native.Mathlib.Nat.{div-add-mod}
use mathlib.Core.Path.{◌≡◌, refl, sym, ◌∙◌, ap}
use mathlib.Core.Bool.{Bool, true, ◌&&◌}
use mathlib.Core.List.{List, [], ◌∷◌, ◌++◌}
use lib.Dec.{leb, eqb}
use lib.ListN.{length, length-append}
use borrow.Author.Tests.{leb-true, le-leb, eqb-true, eq-eqb}
use Rattle.format.specs.declared.Fault.TheVariants.{ListLength, BlockLength, AreaTooShort}
use Rattle.format.specs.declared.Fault.TheVariants as fault
use Rattle.format.specs.declared.Record.{Record}
use Rattle.format.specs.Refusal.{Answer, Ruling, need, ◌then◌}
use Rattle.format.specs.Limits.{volume_most, index_most}
use Rattle.format.specs.Record.{records_of, rows_of, list_fits, encode}
use Rattle.format.specs.Meaning.{whole, stored}
use Rattle.format.specs.WellFormed.{Inside, Readable}
use Rattle.format.proofs.Rulings.{stop_fine, fine_of_then, true_of_need, both_of_and}
use Rattle.format.proofs.Encoding.{records_encode, fits_encode}
use Rattle.format.proofs.Rebuilding.{length_rebuilt}
use Rattle.walk.specs.declared.Scope.TheVariants as scope
use Rattle.walk.specs.Checks.{checks, front}
use Rattle.walk.proofs.Accepted.{Each, each_of_fine, inside_of_seven, seven_of_fifteen, whole_of_sixteen}
use Rattle.walk.proofs.Encoded.{walk_chunk}
use Rattle.show.proofs.Accepting.{read_fine, parts_of_read}
use Rattle.volume.specs.Volume.{index_rows_of, lists_length, blocks_length, Chunk, chunk, chunks_of, chunk_bytes, volume, volume_of}
use Rattle.volume.specs.Filling.{Sound}
use Rattle.volume.proofs.Adding.{Fitting}
use Rattle.rebuild_volume.specs.RebuildVolume.{index_fits, chunk_ruling, placed, whole_of, wholes, chunks_ruling, volume_ruling, volume_answer, volume_area, VolumeRebuilt}

-- ---- a chunk

-- what a chunk that is accepted behind n bytes has passed
pub record ChunkFit (n : ℕ) (c : Chunk) : Type 0 where
  pub list_in_limits : list_fits c.list ≡ true
  pub each : Each (checks (scope.Chunk n) [] []) front (rows_of c.list)
  pub block_fits : length c.block ≡ stored (records_of c.list)

pub fit_of_chunk : {n : ℕ} {c : Chunk} → chunk_ruling n c ≡ Ok tt → ChunkFit n c
fit_of_chunk {n} {c} e =
    let p = parts_of_read (scope.Chunk n) c.list c.block [] e in
    record { list_in_limits = p.0; each = each_of_fine (checks (scope.Chunk n) [] []) front (rows_of c.list) p.1; block_fits = p.2 }

module _ {n : ℕ} {c : Chunk} (a : ChunkFit n c) where
  pub fit_most : n ≤ volume_most → n + whole_of c ≤ volume_most
  fit_most h = omega (arith, whole_of_sixteen n front (rows_of c.list) (omega arith) a.each.1.1.1.0)

  pub fit_inside : (d : List ℕ) → n ≡ length d → Inside d (records_of c.list)
  fit_inside d is =
      let seven = seven_of_fifteen n front (rows_of c.list) a.each.1.1.1.1.0 in
      inside_of_seven d front (rows_of c.list) (rw is at seven)

  -- the volume is so much longer
  pub fit_length : (d : List ℕ) → n ≡ length d → length (d ++ chunk_bytes c d) ≡ n + whole_of c
  fit_length d is =
      omega (arith, length-append d (chunk_bytes c d), length_rebuilt (records_of c.list) c.block d (fit_inside d is) (omega (arith, a.block_fits)))

-- a list that was written, with its stored block
pub chunk_written : (d : List ℕ) (l : List Record) (b : List ℕ) → length l ≤ 4096 → Readable l b d → length d + whole l ≤ volume_most → chunk_ruling (length d) (chunk (encode l) b) ≡ Ok tt
chunk_written d l b few r most =
    read_fine (scope.Chunk (length d)) (encode l) b [] (fits_encode l few) (walk_chunk d l r.sized r.apart r.inside r.whole_most most) (r.block_fits ∙ ap stored (sym (records_encode l)))

-- ---- chunks

pub fine_of_placed : (p : ℕ) (q : Ruling) → placed p q ≡ Ok tt → q ≡ Ok tt
fine_of_placed p (Ok _) e = refl
fine_of_placed p (Err r) e = stop_fine e

module _ (p n : ℕ) (c : Chunk) (cs : List Chunk) where
  -- the first, and those behind it
  pub fine_of_chunks : chunks_ruling p n (c ∷ cs) ≡ Ok tt → (chunk_ruling n c ≡ Ok tt) × (chunks_ruling (p + 1) (n + whole_of c) cs ≡ Ok tt)
  fine_of_chunks e =
      let both = fine_of_then (placed p (chunk_ruling n c)) (chunks_ruling (p + 1) (n + whole_of c) cs) e in
      (fine_of_placed p (chunk_ruling n c) both.0, both.1)

  pub chunks_of_fine : chunk_ruling n c ≡ Ok tt → chunks_ruling (p + 1) (n + whole_of c) cs ≡ Ok tt → chunks_ruling p n (c ∷ cs) ≡ Ok tt
  chunks_of_fine h k = rw (h, k)

-- chunks that are accepted behind d
pub sound_of_fine : (p n : ℕ) (d : List ℕ) (cs : List Chunk) → n ≡ length d → n ≤ volume_most → chunks_ruling p n cs ≡ Ok tt
    → Sound d cs × (length (volume d cs) ≡ n + wholes cs) × (n + wholes cs ≤ volume_most)
sound_of_fine p n d [] is k e = (tt, omega arith, omega arith)
sound_of_fine p n d (c ∷ cs) is k e =
    let both = fine_of_chunks p n c cs e in
    let a : ChunkFit n c = fit_of_chunk both.0 in
    let longer : n + whole_of c ≡ length (d ++ chunk_bytes c d) = omega (arith, fit_length a d is) in
    let rest = sound_of_fine (p + 1) (n + whole_of c) (d ++ chunk_bytes c d) cs longer (fit_most a k) both.1 in
    ((fit_inside a d is, a.block_fits, rest.0), omega (arith, rest.1), omega (arith, rest.2))

-- some, and others behind them
pub fine_of_append : (p n : ℕ) (cs es : List Chunk) → chunks_ruling p n (cs ++ es) ≡ Ok tt → (chunks_ruling p n cs ≡ Ok tt) × (chunks_ruling (p + length cs) (n + wholes cs) es ≡ Ok tt)
fine_of_append p n [] es e =
    let a : p ≡ p + 0 = omega arith in
    let b : n ≡ n + 0 = omega arith in
    (refl, ap (λ (m : ℕ). chunks_ruling m (n + 0) es) (sym a) ∙ ap (λ (m : ℕ). chunks_ruling p m es) (sym b) ∙ e)
fine_of_append p n (c ∷ cs) es e =
    let both = fine_of_chunks p n c (cs ++ es) e in
    let rest = fine_of_append (p + 1) (n + whole_of c) cs es both.1 in
    let a : p + 1 + length cs ≡ p + length (c ∷ cs) = omega arith in
    let b : n + whole_of c + wholes cs ≡ n + wholes (c ∷ cs) = omega arith in
    (chunks_of_fine p n c cs both.0 rest.0, ap (λ (m : ℕ). chunks_ruling m (n + wholes (c ∷ cs)) es) (sym a) ∙ ap (λ (m : ℕ). chunks_ruling (p + 1 + length cs) m es) (sym b) ∙ rest.1)

pub append_of_fine : (p n : ℕ) (cs : List Chunk) (c : Chunk) → chunks_ruling p n cs ≡ Ok tt → chunk_ruling (n + wholes cs) c ≡ Ok tt → chunks_ruling p n (cs ++ c ∷ []) ≡ Ok tt
append_of_fine p n [] c h k =
    let z : n + 0 ≡ n = omega arith in
    chunks_of_fine p n c [] (rw z at k) refl
append_of_fine p n (x ∷ cs) c h k =
    let both = fine_of_chunks p n x cs h in
    let z : n + wholes (x ∷ cs) ≡ n + whole_of x + wholes cs = omega arith in
    chunks_of_fine p n x (cs ++ c ∷ []) both.0 (append_of_fine (p + 1) (n + whole_of x) cs c both.1 (rw z at k))

-- ---- the index

module _ (index lists blocks : List ℕ) where
  pub fitting_of_fits : index_fits index lists blocks ≡ true → (length index ≤ index_most) × Fitting index lists blocks (length index / 8)
  fitting_of_fits e =
      let p : Bool = leb (length index) index_most in
      let q : Bool = eqb (length index % 8) 0 in
      let s : Bool = eqb (length lists) (lists_length (index_rows_of index)) in
      let t : Bool = eqb (length blocks) (blocks_length (index_rows_of index)) in
      let d = both_of_and (p && q && s) t e in
      let f = both_of_and (p && q) s d.0 in
      let g = both_of_and p q f.0 in (
        leb-true (length index) index_most g.0,
        record {
          eights = omega (arith, eqb-true (length index % 8) 0 g.1, div-add-mod (length index) 8);
          lists_fit = eqb-true (length lists) (lists_length (index_rows_of index)) f.1;
          blocks_fit = eqb-true (length blocks) (blocks_length (index_rows_of index)) d.1;
        },
      )

  pub fits_of_fitting : {n : ℕ} → length index ≤ index_most → Fitting index lists blocks n → index_fits index lists blocks ≡ true
  fits_of_fitting {n} most f =
      rw (
        le-leb (length index) index_most most,
        eq-eqb (length index % 8) 0 (omega (arith, f.eights)),
        eq-eqb (length lists) (lists_length (index_rows_of index)) f.lists_fit,
        eq-eqb (length blocks) (blocks_length (index_rows_of index)) f.blocks_fit,
      )

-- ---- the call

-- what an accepted call has shown
pub record Fit (index lists blocks area : List ℕ) : Type 0 where
  pub index_at_most : length index ≤ index_most
  pub fitting : Fitting index lists blocks (length index / 8)
  pub chunks_fine : chunks_ruling 0 0 (chunks_of index lists blocks) ≡ Ok tt
  pub room : length (volume_of index lists blocks) ≤ length area

module _ (index lists blocks area : List ℕ) where
  pub fit_of_fine : volume_ruling index lists blocks area ≡ Ok tt → Fit index lists blocks area
  fit_of_fine e =
      let chunks : Ruling = chunks_ruling 0 0 (chunks_of index lists blocks) in
      let long : Bool = leb (length (volume_of index lists blocks)) (length area) in
      let a = fine_of_then (need (index_fits index lists blocks) fault.Index 0) (chunks then need long AreaTooShort 0) e in
      let b = fine_of_then chunks (need long AreaTooShort 0) a.1 in
      let fits = fitting_of_fits index lists blocks (true_of_need (index_fits index lists blocks) fault.Index 0 a.0) in
      record {
        index_at_most = fits.0;
        fitting = fits.1;
        chunks_fine = b.0;
        room = leb-true (length (volume_of index lists blocks)) (length area) (true_of_need long AreaTooShort 0 b.1);
      }

  pub fine_of_fit : {n : ℕ} → length index ≤ index_most → Fitting index lists blocks n → chunks_ruling 0 0 (chunks_of index lists blocks) ≡ Ok tt
      → length (volume_of index lists blocks) ≤ length area → volume_ruling index lists blocks area ≡ Ok tt
  fine_of_fit most f e room = rw (fits_of_fitting index lists blocks most f, e, le-leb (length (volume_of index lists blocks)) (length area) room)

-- a call that meets the clauses of the contract, as the laws speak of it
pub volume_made : {index lists blocks area : List ℕ} {r : Answer} {after : List ℕ} → (r ≡ volume_answer index lists blocks area) × (after ≡ volume_area index lists blocks area)
    → VolumeRebuilt index lists blocks area r after
volume_made h = record { answered = h.0; area_after = h.1 }
