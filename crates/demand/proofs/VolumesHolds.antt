-- The laws of rebuild_volume hold.
--
-- In order: an accepted call; one chunk more; a volume of one chunk; each chunk by itself; the laws; a deposit.
-- Assumes nothing.
use Rattle.std.specs.Prelude.{Ok, Err}
use Prim.Native.Nat.{ℕ, suc, ◌+◌, ◌≤◌, ◌<◌}
use native.Mathlib.Omega.{arith}
use mathlib.Core.Path.{◌≡◌, refl, sym, ◌∙◌, ap, ap₂, subst}
use mathlib.Core.Bool.{Bool, true, false, not, ◌&&◌, ◌||◌}
use mathlib.Core.List.{List, [], ◌∷◌, ◌++◌, append_assoc}
use lib.Dec.{leb, eqb}
use lib.ListN.{length, take, drop, length-append}
use lib.Seq.{split_at, take_at, drop_at}
use borrow.Author.Tests.{le-leb, leb-true}
use Rattle.format.specs.declared.Fault.TheVariants as fault
use Rattle.format.specs.declared.Row.{Row}
use Rattle.format.specs.declared.Record.{Record}
use Rattle.format.specs.declared.Refusal.{Refusal}
use Rattle.format.specs.Refusal.{Ruling, Answer, refuse, need, ◌then◌, answer, unless_refused, Accepts, figures_in, length_only}
use Rattle.format.specs.declared.Figures.{Figures}
use Rattle.format.specs.Limits.{version_most, store_most, volume_most}
use Rattle.format.specs.Record.{is_new, well_formed, rows_of, records_of, encode, list_fits}
use Rattle.format.specs.Meaning.{whole, stored, block_of, rebuilt}
use Rattle.format.specs.WellFormed.{WellFormed}
use Rattle.format.proofs.Rulings.{stop_fine, fine_of_accepts, fine_of_then, then_fine}
use Rattle.format.proofs.Encoding.{records_encode}
use Rattle.format.proofs.Rebuilding.{rebuilt_block, length_block, length_rebuilt, whole_agrees, inside_agrees}
use Rattle.walk.specs.declared.Seen.{Seen}
use Rattle.walk.specs.declared.Scope.TheVariants as scope
use Rattle.walk.specs.Checks.{within, checks, judged, next, walk_on, walk_ruling, front}
use Rattle.walk.proofs.Accepted.{fine_of_each, seven_of_fifteen}
use Rattle.price.specs.declared.Price.{Price}
use Rattle.price.specs.Price.{rates_of}
use Rattle.area.specs.Area.{over, Areas}
use Rattle.area.proofs.Filling.{front_room}
use Rattle.area.proofs.Filling as filling
use Rattle.show.specs.Check.{inputs_ruling}
use Rattle.show.proofs.Accepting.{read_fine, inputs_read}
use Rattle.rebuild.specs.Rebuild.{rebuild_ruling, Rebuilt}
use Rattle.rebuild.proofs.Accepting.{rebuild_fine}
use Rattle.volume.specs.Volume.{Chunk, chunk, chunk_bytes, volume, volume_of}
use Rattle.volume.proofs.Volumes.{behind, volume_behind, volume_append}
use Rattle.volume.proofs.Adding.{Fitting, fitting_added, chunks_added, volume_added}
use Rattle.rebuild_volume.specs.RebuildVolume.{index_fits, chunk_ruling, placed, whole_of, wholes, chunks_ruling, volume_ruling, VolumeRebuilt}
use Rattle.rebuild_volume.proofs.Accepting.{ChunkFit, fit_of_chunk, fit_inside, chunk_written, fine_of_chunks, sound_of_fine, fine_of_append, append_of_fine, fits_of_fitting, Fit, fit_of_fine, fine_of_fit}
use Rattle.choice.specs.Choice.{Bit, IsChoice}
use Rattle.choice.proofs.Least.{least_fits}
use Rattle.admit.proofs.Admitting.{Sound}
use Rattle.writer.specs.Decide.{Decided}
use Rattle.writer.proofs.Deciding.{decided_fine}
use Rattle.call_partition.specs.Partition.{Partitioned}
use Rattle.linear.proofs.Theorems.{pass_holds}
use Rattle.demand.specs.Demand.{Call, Rebuilding, written_list, written_block}
use Rattle.demand.specs.Volumes.{Kept, none, added, Rebuilds, written_volume, ComesBack, chunks_in, chunk_at, start_of, of_chunk, as_chunk, VolumeLaws, Deposits}
use Rattle.demand.proofs.WrittenList.{list_is_written, block_is_written, well_formed_written, whole_written, count_written}
use Rattle.demand.proofs.SplitHolds.{sound, given, decides}
use Rattle.demand.proofs.TidyingHolds.{sound_of_decided}

-- ---- an accepted call

abbrev volume_in : Kept → List ℕ
volume_in k = volume_of k.index k.lists k.blocks

abbrev ruling_of : Kept → List ℕ → Ruling
ruling_of k area = volume_ruling k.index k.lists k.blocks area

-- what a call that finds no fault answers and writes
module _ {k : Kept} {x : Rebuilding} (t : Rebuilds k x) (fine : ruling_of k x.before ≡ Ok tt) where
  answer_told : x.answer ≡ Ok (length_only (length (volume_in k)))
  answer_told = rw fine at t.answered

  area_told : x.after ≡ over (volume_in k) x.before
  area_told = rw fine at t.area_after

  volume_told : written_volume x ≡ volume_in k
  volume_told =
      ap₂ take (ap (λ (r : Answer). (figures_in r).whole) answer_told) area_told
      ∙ filling.front (length (volume_in k)) (volume_in k) x.before refl

module _ {k : Kept} {x : Rebuilding} (t : Rebuilds k x) (a : Accepts x.answer) where
  accepted_fine : ruling_of k x.before ≡ Ok tt
  accepted_fine = fine_of_accepts (ruling_of k x.before) (length_only (length (volume_in k))) (rw t.answered at a)

  shown : Fit k.index k.lists k.blocks x.before
  shown = fit_of_fine k.index k.lists k.blocks x.before accepted_fine

  -- all its chunks are sound, and cover what it wrote
  covered : (length (volume_in k) ≡ wholes (chunks_in k)) × (wholes (chunks_in k) ≤ volume_most)
  covered = let s = sound_of_fine 0 0 [] (chunks_in k) refl (omega arith) shown.chunks_fine in (omega (arith, s.1), omega (arith, s.2))

-- ---- one chunk more

module _ {k : Kept} {x : Rebuilding} (t : Rebuilds k x) (a : Accepts x.answer) {l : List Record} {v : List ℕ} (w : WellFormed (volume_in k) l v) (few : length l ≤ 4096) (short : length v ≤ version_most) where
  abbrev d : List ℕ
  d = volume_in k

  abbrev b : List ℕ
  b = block_of l v

  abbrev more : Kept
  more = added k (encode l) b

  whole_is : whole l ≡ length v
  whole_is = whole_agrees d l v w.agrees

  longer : volume_in more ≡ d ++ v
  longer =
      volume_added (shown t a).fitting (encode l) b
      ∙ ap (λ (rs : List Record). d ++ rebuilt rs b d) (records_encode l)
      ∙ ap (λ (y : List ℕ). d ++ y) (rebuilt_block d l v w.agrees)

  next_fine : length d + length v ≤ volume_most → chunk_ruling (length d) (chunk (encode l) b) ≡ Ok tt
  next_fine most =
      chunk_written d l b few (
      record {
        sized = w.sized;
        apart = w.apart;
        inside = inside_agrees d l v w.agrees;
        whole_most = omega (arith, whole_is);
        block_fits = length_block l v (omega (arith, whole_is));
      }
      ) (omega (arith, whole_is))

  all_fine : length d + length v ≤ volume_most → chunks_ruling 0 0 (chunks_in more) ≡ Ok tt
  all_fine most =
      let sum : 0 + wholes (chunks_in k) ≡ length d = omega (arith, (covered t a).0) in
      ap (chunks_ruling 0 0) (chunks_added (shown t a).fitting (encode l) b)
      ∙ append_of_fine 0 0 (chunks_in k) (chunk (encode l) b) (shown t a).chunks_fine (ap (λ (n : ℕ). chunk_ruling n (chunk (encode l) b)) sum ∙ next_fine most)

  comes_back : ComesBack k d (encode l) b v
  comes_back y u index_at_most most room =
      let long : length (volume_in more) ≡ length d + length v = ap length longer ∙ length-append d v in
      let fine = fine_of_fit more.index more.lists more.blocks y.before index_at_most (fitting_added (shown t a).fitting (encode l) b) (all_fine most) (omega (arith, long)) in
      (answer_told u fine ∙ ap (λ (n : ℕ). Ok (length_only n)) long, area_told u fine ∙ ap (λ (z : List ℕ). over z y.before) longer)

-- what a call wrote that decides for a choice
module _ {q : Ruling} {p : Price} {k : Kept} {list v : List ℕ} {c : List Bit} {looks i m n : ℕ} {x : Rebuilding} {y : Call} (t : Rebuilds k x) (a : Accepts x.answer)
    (made : Decided q (rates_of p) list v c looks y.before y.answer y.after) (fine : q ≡ Ok tt) (s : Sound p list v (written_volume x) i m n) (h : IsChoice (records_of list) c) where
  decided_back : ComesBack k (written_volume x) (written_list y) (written_block y) v
  decided_back =
      let told = volume_told t (accepted_fine t a) in
      let w = well_formed_written s c h in
      rw (told, list_is_written made fine, block_is_written made fine (omega (arith, whole_written s c h)))
      (comes_back t a (rw told at w) (count_written s c h) s.fits.version_at_most)

-- ---- a volume of one chunk

-- the ruling of a chunk, by that of rebuild
abbrev renamed : Ruling → Ruling
renamed (Ok _) = Ok tt
renamed (Err r) = Err (refuse (of_chunk r.fault) 0)

-- the ruling k is q as that of a chunk
abbrev Renames : Ruling → Ruling → Type 0
Renames k q = placed 0 k ≡ renamed q

renames_then : (a b c e : Ruling) → Renames a b → (a ≡ Ok tt → Renames c e) → Renames (a then c) (b then e)
renames_then (Ok _) (Ok _) c e h k = k refl
renames_then (Ok _) (Err y) c e h k = stop_fine (sym h)
renames_then (Err x) (Ok _) c e h k = stop_fine h
renames_then (Err x) (Err y) c e h k = h

module _ (s : Seen) (r : Row) where
  abbrev sizes_fit : Bool
  sizes_fit = leb (s.offset + r.size) version_most

  abbrev volume_fits : Bool
  volume_fits = leb (0 + (s.offset + r.size)) volume_most

  -- 16 cannot fail where 6 has not
  sixteen_passes : sizes_fit ≡ true → volume_fits ≡ true
  sixteen_passes e = le-leb (0 + (s.offset + r.size)) volume_most (omega (arith, leb-true (s.offset + r.size) version_most e))

  renames_record : Renames (judged (checks (scope.Chunk 0) [] []) s r) (judged (checks scope.Store [] []) s r)
  renames_record = go (well_formed r) (not (is_new r && s.fresh)) sizes_fit volume_fits (is_new r || within r 0) sixteen_passes
    where
      p : ℕ
      p = s.place

      go : (a b c d e : Bool) → (c ≡ true → d ≡ true)
          → Renames (need a fault.Malformed p then need b fault.Adjacent p then need c fault.Sizes p then need d fault.VolumeTooLong p then need e fault.OutsideEarlier p then Ok tt)
          (need a fault.Malformed p then need b fault.Adjacent p then need c fault.Sizes p then need e fault.OutsideStore p then Ok tt)
      go false b c d e h = refl
      go true false c d e h = refl
      go true true false d e h = refl
      go true true true d false h = rw (h refl)
      go true true true d true h = rw (h refl)

renames_walk : (s : Seen) (rs : List Row) → Renames (walk_on (checks (scope.Chunk 0) [] []) s rs) (walk_on (checks scope.Store [] []) s rs)
renames_walk s [] = refl
renames_walk s (r ∷ rs) =
    renames_then (judged (checks (scope.Chunk 0) [] []) s r) (judged (checks scope.Store [] []) s r) (walk_on (checks (scope.Chunk 0) [] []) (next s r) rs) (walk_on (checks scope.Store [] []) (next s r) rs)
    (renames_record s r) (λ e. renames_walk (next s r) rs)

renames_need : (t : Bool) → (Renames (need t fault.ListLength 0) (need t fault.ListLength 0)) × (Renames (need t fault.BlockLength 0) (need t fault.BlockLength 0))
renames_need true = (refl, refl)
renames_need false = (refl, refl)

renamed_nine : (t : Bool) → need t fault.AreaTooShort 0 ≡ renamed (need t fault.AreaTooShort 0)
renamed_nine true = refl
renamed_nine false = refl

renamed_answer : (q : Ruling) (x : Figures) → answer (renamed q) x ≡ as_chunk (answer q x)
renamed_answer (Ok _) x = refl
renamed_answer (Err r) x = refl

renamed_area : (q : Ruling) (x y : List ℕ) → unless_refused (renamed q) x y ≡ unless_refused q x y
renamed_area (Ok _) x y = refl
renamed_area (Err r) x y = refl

module _ (list block area : List ℕ) where
  abbrev one : Kept
  one = added none list block

  abbrev alone : Chunk
  alone = chunk list block

  nothing_fits : Fitting [] [] [] 0
  nothing_fits = record { eights = refl; lists_fit = refl; blocks_fit = refl }

  abbrev ruled_as_chunk : Ruling
  ruled_as_chunk = chunk_ruling 0 alone

  abbrev as_list : Ruling
  as_list = inputs_ruling list block []

  renames_read : Renames ruled_as_chunk as_list
  renames_read =
      let fits = list_fits list in
      let last = need (eqb (length block) (stored (records_of list))) fault.BlockLength 0 in
      renames_then (need fits fault.ListLength 0) (need fits fault.ListLength 0) (walk_ruling (checks (scope.Chunk 0) [] []) list then last) (walk_ruling (checks scope.Store [] []) list then last)
      (renames_need fits).0
      (λ e. renames_then (walk_ruling (checks (scope.Chunk 0) [] []) list) (walk_ruling (checks scope.Store [] []) list) last last (renames_walk front (rows_of list)) (λ f. (renames_need (eqb (length block) (stored (records_of list)))).1))

  volume_one : volume_in one ≡ rebuilt (records_of list) block []
  volume_one = volume_added nothing_fits list block

  length_one : ruled_as_chunk ≡ Ok tt → length (volume_in one) ≡ whole (records_of list)
  length_one e =
      let f : ChunkFit 0 alone = fit_of_chunk e in
      ap length volume_one ∙ length_rebuilt (records_of list) block [] (fit_inside f [] refl) (omega (arith, f.block_fits))

  ruling_one : ruling_of one area ≡ renamed (rebuild_ruling list block [] area)
  ruling_one =
      let long : Bool = leb (length (volume_in one)) (length area) in
      let enough : Bool = leb (whole (records_of list)) (length area) in
      let fits : index_fits one.index one.lists one.blocks ≡ true = fits_of_fitting one.index one.lists one.blocks (omega arith) (fitting_added nothing_fits list block) in
      let chunks : chunks_ruling 0 0 (chunks_in one) ≡ placed 0 ruled_as_chunk = ap (chunks_ruling 0 0) (chunks_added nothing_fits list block) ∙ then_fine (placed 0 ruled_as_chunk) in
      rw (fits, chunks) (go ruled_as_chunk as_list renames_read long enough (λ e. ap (λ (n : ℕ). leb n (length area)) (length_one e)))
    where
      go : (k q : Ruling) → Renames k q → (t u : Bool) → (k ≡ Ok tt → t ≡ u) → placed 0 k then need t fault.AreaTooShort 0 ≡ renamed (q then need u fault.AreaTooShort 0)
      go (Ok _) (Ok _) h t u e = rw (e refl) (renamed_nine u)
      go (Ok _) (Err y) h t u e = stop_fine (sym h)
      go (Err x) (Ok _) h t u e = stop_fine h
      go (Err x) (Err y) h t u e = h

-- where rebuild finds no fault in list, stored block and store, there is none in the chunk
fine_of_renamed : (k q : Ruling) → Renames k q → q ≡ Ok tt → k ≡ Ok tt
fine_of_renamed (Ok _) q h e = refl
fine_of_renamed (Err x) (Ok _) h e = stop_fine h
fine_of_renamed (Err x) (Err y) h e = stop_fine e

-- the figures matter only where no fault is found
same_figures : (q : Ruling) {m n : ℕ} → (q ≡ Ok tt → m ≡ n) → answer q (length_only m) ≡ answer q (length_only n)
same_figures (Ok _) h = ap (λ (j : ℕ). Ok (length_only j)) (h refl)
same_figures (Err r) h = refl

as_one_chunk : (list block : List ℕ) (x y : Rebuilding) → Rebuilds (added none list block) x → Rebuilt list block [] y.before y.answer y.after → x.before ≡ y.before
    → (x.answer ≡ as_chunk y.answer) × (x.after ≡ y.after)
as_one_chunk list block x y t u e =
    let q = rebuild_ruling list block [] y.before in
    let ruled : ruling_of (added none list block) x.before ≡ renamed q = ap (ruling_of (added none list block)) e ∙ ruling_one list block y.before in
    let k = added none list block in
    let told : answer q (length_only (length (volume_in k))) ≡ answer q (length_only (whole (records_of list))) =
    same_figures q (λ f. length_one list block y.before (fine_of_renamed (chunk_ruling 0 (chunk list block)) (inputs_ruling list block []) (renames_read list block y.before) (fine_of_then (inputs_ruling list block []) (need (leb (whole (records_of list)) (length y.before)) fault.AreaTooShort 0) f).0)) in (
      t.answered ∙ ap (λ (z : Ruling). answer z (length_only (length (volume_in k)))) ruled ∙ renamed_answer q (length_only (length (volume_in k))) ∙ ap as_chunk (told ∙ sym u.answered),
      t.area_after ∙ ap (λ (z : Ruling). unless_refused z (over (volume_in k) x.before) x.before) ruled
          ∙ renamed_area q (over (volume_in k) x.before) x.before
          ∙ ap₂ (λ (v b : List ℕ). unless_refused q (over v b) b) (volume_one list block y.before) e
          ∙ sym u.area_after,
    )

-- ---- each chunk by itself

-- a chunk that is accepted behind d has no fault for rebuild, with d as its store
inputs_of_chunk : (d : List ℕ) (c : Chunk) → length d ≤ store_most → chunk_ruling (length d) c ≡ Ok tt → inputs_ruling c.list c.block d ≡ Ok tt
inputs_of_chunk d c most e =
    let f : ChunkFit (length d) c = fit_of_chunk e in
    let rs = rows_of c.list in
    inputs_read c.list c.block d most
    ∙ read_fine scope.Store c.list c.block d f.list_in_limits
    (fine_of_each (checks scope.Store [] d) front rs (f.each.0, (f.each.1.0, (f.each.1.1.0, (seven_of_fifteen (length d) front rs f.each.1.1.1.1.0, tt)))))
    f.block_fits

module _ {k : Kept} {x : Rebuilding} (t : Rebuilds k x) (a : Accepts x.answer) {i : ℕ} (h : i < length (chunks_in k)) where
  abbrev first : List Chunk
  first = take i (chunks_in k)

  abbrev here : Chunk
  here = chunk_at k i

  abbrev last : List Chunk
  last = drop (suc i) (chunks_in k)

  -- what is rebuilt before it, and its bytes
  abbrev store : List ℕ
  store = volume [] first

  abbrev bytes : List ℕ
  bytes = chunk_bytes here store

  abbrev beyond : List ℕ
  beyond = behind (store ++ bytes) last ++ drop (length (volume_in k)) x.before

  split : chunks_in k ≡ first ++ here ∷ last
  split = split_at (chunks_in k) i (chunk [] []) h

  parts : (chunks_ruling 0 0 first ≡ Ok tt) × (chunks_ruling (0 + length first) (0 + wholes first) (here ∷ last) ≡ Ok tt)
  parts = fine_of_append 0 0 first (here ∷ last) (ap (chunks_ruling 0 0) (sym split) ∙ (shown t a).chunks_fine)

  length_store : (length store ≡ start_of k i) × (length store ≤ volume_most)
  length_store = let s = sound_of_fine 0 0 [] first refl (omega arith) parts.0 in (omega (arith, s.1), omega (arith, s.1, s.2))

  here_fine : chunk_ruling (length store) here ≡ Ok tt
  here_fine =
      let n : length store ≡ 0 + wholes first = omega (arith, length_store.0) in
      ap (λ (m : ℕ). chunk_ruling m here) n ∙ (fine_of_chunks (0 + length first) (0 + wholes first) here last parts.1).0

  length_here : length bytes ≡ whole_of here
  length_here = let f : ChunkFit (length store) here = fit_of_chunk here_fine in length_rebuilt (records_of here.list) here.block store (fit_inside f store refl) (omega (arith, f.block_fits))

  area_is : x.after ≡ store ++ (bytes ++ beyond)
  area_is =
      area_told t (accepted_fine t a)
      ∙ ap (λ (v : List ℕ). v ++ drop (length (volume_in k)) x.before) (ap (volume []) split ∙ volume_append [] first (here ∷ last) ∙ volume_behind (store ++ bytes) last)
      ∙ append_assoc (store ++ bytes) (behind (store ++ bytes) last) (drop (length (volume_in k)) x.before)
      ∙ append_assoc store bytes beyond

  store_told : take (start_of k i) x.after ≡ store
  store_told = ap (take (start_of k i)) area_is ∙ take_at store (bytes ++ beyond) (start_of k i) length_store.0

  bytes_told : take (whole_of here) (drop (start_of k i) x.after) ≡ bytes
  bytes_told =
      ap (λ (l : List ℕ). take (whole_of here) (drop (start_of k i) l)) area_is
      ∙ ap (take (whole_of here)) (drop_at store (bytes ++ beyond) (start_of k i) length_store.0)
      ∙ take_at bytes beyond (whole_of here) length_here

  by_itself : (y : Rebuilding) → Rebuilt here.list here.block (take (start_of k i) x.after) y.before y.answer y.after → whole_of here ≤ length y.before
      → (y.answer ≡ Ok (length_only (whole_of here))) × (y.after ≡ over (take (whole_of here) (drop (start_of k i) x.after)) y.before)
  by_itself y made room =
      let inputs = inputs_of_chunk store here length_store.1 here_fine in
      let fine = rebuild_fine here.list here.block store y.before inputs room in
      let u : Rebuilt here.list here.block store y.before y.answer y.after = rw store_told at made in
      (rw fine at u.answered, rw bytes_told (rw fine at u.area_after))

pub volume_laws : VolumeLaws
volume_laws =
    record {
      of_partition = λ p k list v x y t a made b. decided_back t a made (decided_fine made b) (sound_of_decided made b) (least_fits (rates_of p) (records_of list));
      of_pass = λ p k list v x y t a made b.
          let s = sound_of_decided made.decided b in
          decided_back t a made.decided (decided_fine made.decided b) s (pass_holds (rates_of p) (records_of list) s.covered.is_well_formed.sized).choice;
      of_commit = λ p k list v x y t a made b. decided_back t a (decides made b) refl (sound made b) (given made b).1.is_choice;
      one_chunk = as_one_chunk;
      each_chunk = λ k i x y t a h made room. by_itself t a h y made room;
      whole_told = λ k x t a. ap (λ (r : Answer). (figures_in r).whole) (answer_told t (accepted_fine t a)) ∙ (covered t a).0;
    }

-- ---- a deposit

module _ {k : Kept} {area area' : List ℕ} {r : Answer} (made : VolumeRebuilt k.index k.lists k.blocks area r area') where
  pub none_deposited : {price : Price} {list v : List ℕ} {before : Areas} {z : Refusal} → r ≡ Err z → Deposits price k list v area before (record { rebuilt = r; deposited = r }) area' before
  none_deposited q = record { rebuilt = made; deposited = λ a. absurd (rw q at a); comes_back = λ a. absurd (rw q at a); or_none = λ y e. (e, refl) }

  module _ {f : Figures} (q : r ≡ Ok f) where
    abbrev once : Rebuilding
    once = record { before = area; answer = r; after = area' }

    is_accepted : Accepts r
    is_accepted = rw q tt

    -- the volume is in the area
    pub volume_there : f.whole ≤ length area'
    volume_there =
        let fine = accepted_fine {k = k} {x = once} made is_accepted in
        let n : f.whole ≡ length (volume_in k) = ap (λ (z : Answer). (figures_in z).whole) (sym q ∙ answer_told {k = k} {x = once} made fine) in
        omega (arith, n, ap length (area_told {k = k} {x = once} made fine), front_room (volume_in k) area)

    -- its bytes are handed on
    pub deposited_next : {price : Price} {list v : List ℕ} {before after : Areas} {z : Answer} {m : ℕ} → m ≡ f.whole → Partitioned price list v (take m area') before z after
        → Deposits price k list v area before (record { rebuilt = Ok f; deposited = z }) area' after
    deposited_next {price} {list} {v} {before} {after} {z} {m} e u =
        let m_is : m ≡ (figures_in r).whole = e ∙ ap (λ (a : Answer). (figures_in a).whole) (sym q) in
        let next : Partitioned price list v (written_volume once) before z after = subst (λ (n : ℕ). Partitioned price list v (take n area') before z after) m_is u in
        let y : Call = record { before = before; answer = z; after = after } in
        let both : Deposits price k list v area before (record { rebuilt = r; deposited = z }) area' after =
        record {
          rebuilt = made;
          deposited = λ a. next;
          comes_back = λ b. volume_laws.of_partition price k list v once y made is_accepted next b;
          or_none = λ w g. absurd (rw g at is_accepted);
        } in
        subst (λ (a : Answer). Deposits price k list v area before (record { rebuilt = a; deposited = z }) area' after) q both
