-- A written list of a version rebuilds it, measures as it is, and is admitted. So is what partition writes of admitted inputs; and that comes back as it is.
-- Assumes nothing.
use Rattle.std.specs.Prelude.{Ok}
use Prim.Native.Nat.{ℕ, ◌*◌, ◌≤◌}
use native.Mathlib.Omega.{arith}
use mathlib.Core.Path.{◌≡◌, ◌∙◌, ap}
use mathlib.Core.Bool.{true}
use mathlib.Core.List.{List}
use lib.ListN.{length}
use Rattle.format.specs.declared.Record.{Record}
use Rattle.format.specs.Refusal.{Ruling, Answer, length_only, figures_in}
use Rattle.format.specs.Limits.{version_most}
use Rattle.format.specs.Record.{records_of, encode}
use Rattle.format.specs.Meaning.{whole, block_of, rebuilt}
use Rattle.format.specs.WellFormed.{WellFormed}
use Rattle.format.proofs.Encoding.{records_encode, fits_encode}
use Rattle.format.proofs.Rebuilding.{rebuilt_block, length_block, whole_agrees, inside_agrees}
use Rattle.walk.proofs.Encoded.{walk_sizes}
use Rattle.price.specs.declared.Price.{Price}
use Rattle.price.specs.declared.Rates.{Rates}
use Rattle.price.specs.Price.{price_fits, rates_of}
use Rattle.measure.specs.Measure.{measured, measures}
use Rattle.measure.proofs.Measuring.{measured_fine}
use Rattle.area.specs.Area.{over, Areas}
use Rattle.choice.specs.Choice.{Bit, IsChoice, list_of, keep_all, least_of}
use Rattle.choice.proofs.Least.{again_keeps, again_list}
use Rattle.choice.proofs.Lists.{length_list, well_formed_list}
use Rattle.admit.specs.Admit.{lengths_fit, partition_ruling, LongEnough}
use Rattle.admit.proofs.Admitting.{Sound, lengths_most, fine_of_written}
use Rattle.writer.specs.Decide.{Decided}
use Rattle.writer.proofs.Deciding.{answer_decided, list_handed_on, block_handed_on}
use Rattle.show.specs.Check.{inputs_ruling}
use Rattle.rebuild.specs.Rebuild.{Rebuilt}
use Rattle.show.proofs.Accepting.{inputs_written}
use Rattle.rebuild.proofs.Accepting.{rebuild_fine}
use Rattle.demand.specs.Demand.{Call, written_list, written_block}

-- a call that decides for a choice wrote the list of that choice, and its stored block
module _ {q : Ruling} {rates : Rates} {list v : List ℕ} {c : List Bit} {looks : ℕ} {x : Call} (made : Decided q rates list v c looks x.before x.answer x.after) (fine : q ≡ Ok tt) where
  pub list_is_written : written_list x ≡ encode (list_of (records_of list) c)
  list_is_written = list_handed_on made fine (ap (λ (a : Answer). 12 * (figures_in a).entries) (answer_decided made fine))

  pub block_is_written : whole (list_of (records_of list) c) ≤ length v → written_block x ≡ block_of (list_of (records_of list) c) v
  block_is_written within = block_handed_on made fine (ap (λ (a : Answer). (figures_in a).stored) (answer_decided made fine)) within

-- any list of the version, of no more than 4,096 records, that was written
module _ {v st : List ℕ} (lengths : lengths_fit v st ≡ true) {l : List Record} (w : WellFormed st l v) (few : length l ≤ 4096) where
  whole_is : whole l ≡ length v
  whole_is = whole_agrees st l v w.agrees

  whole_most : whole l ≤ version_most
  whole_most = omega (arith, whole_is, (lengths_most v st lengths).0)

  -- entries, stored bytes and cost are as measure gives them
  pub measured_list : (price : Price) → price_fits price ≡ true → measured price (encode l) ≡ Ok (measures (rates_of price) l)
  measured_list price fits =
      measured_fine price (encode l) fits (fits_encode l few) (walk_sizes l w.sized w.apart whole_most) ∙ ap (λ (k : List Record). Ok (measures (rates_of price) k)) (records_encode l)

  -- with its stored block it is accepted, and rebuilt it gives the version
  pub inputs_list : inputs_ruling (encode l) (block_of l v) st ≡ Ok tt
  inputs_list =
      inputs_written l (block_of l v) st few (lengths_most v st lengths).1 (record {
        sized = w.sized;
        apart = w.apart;
        inside = inside_agrees st l v w.agrees;
        whole_most = whole_most;
        block_fits = length_block l v (omega (arith, whole_is));
      })

  pub version_list : {out : List ℕ} {r : Answer} {after : List ℕ} → Rebuilt (encode l) (block_of l v) st out r after → length v ≤ length out
      → (r ≡ Ok (length_only (length v))) × (after ≡ over v out)
  version_list {out} {r} {after} made room =
      let fine = rebuild_fine (encode l) (block_of l v) st out inputs_list (rw (records_encode l, whole_is) room) in (
        rw fine at made.answered ∙ ap (λ (k : List Record). Ok (length_only (whole k))) (records_encode l) ∙ ap (λ (n : ℕ). Ok (length_only n)) whole_is,
        rw fine at made.area_after ∙ ap (λ (k : List Record). over (rebuilt k (block_of l v) st) out) (records_encode l) ∙ ap (λ (y : List ℕ). over y out) (rebuilt_block st l v w.agrees),
      )

  -- handed to partition, it is accepted
  pub partition_list : (price : Price) (x : Areas) → price_fits price ≡ true → LongEnough (encode l) v x → partition_ruling price (encode l) v st x ≡ Ok tt
  partition_list price x fits room = fine_of_written price l v st (length x.choice) (length x.list) (length x.block) fits lengths few room w

-- the list of any choice
module _ {price : Price} {list v st : List ℕ} {c a b : ℕ} (s : Sound price list v st c a b) (d : List Bit) (h : IsChoice (records_of list) d) where
  pub well_formed_written : WellFormed st (list_of (records_of list) d) v
  well_formed_written = well_formed_list st (records_of list) d v h s.covered.is_well_formed

  pub whole_written : whole (list_of (records_of list) d) ≡ length v
  whole_written = whole_agrees st (list_of (records_of list) d) v well_formed_written.agrees

  pub count_written : length (list_of (records_of list) d) ≤ 4096
  count_written = omega (arith, length_list (records_of list) d, s.fits.counted.count_most)

  pub measured_written : measured price (encode (list_of (records_of list) d)) ≡ Ok (measures (rates_of price) (list_of (records_of list) d))
  measured_written = measured_list s.fits.lengths_in_limits well_formed_written count_written price s.fits.price_in_limits

  pub rebuilt_written : rebuilt (list_of (records_of list) d) (block_of (list_of (records_of list) d) v) st ≡ v
  rebuilt_written = rebuilt_block st (list_of (records_of list) d) v well_formed_written.agrees

  pub inputs_accepted : inputs_ruling (encode (list_of (records_of list) d)) (block_of (list_of (records_of list) d) v) st ≡ Ok tt
  inputs_accepted = inputs_list s.fits.lengths_in_limits well_formed_written count_written

  pub version_back : {out : List ℕ} {r : Answer} {after : List ℕ} → Rebuilt (encode (list_of (records_of list) d)) (block_of (list_of (records_of list) d) v) st out r after → length v ≤ length out
      → (r ≡ Ok (length_only (length v))) × (after ≡ over v out)
  version_back made room = version_list s.fits.lengths_in_limits well_formed_written count_written made room

  pub partition_accepts : (x : Areas) → LongEnough (encode (list_of (records_of list) d)) v x → partition_ruling price (encode (list_of (records_of list) d)) v st x ≡ Ok tt
  partition_accepts x room = partition_list s.fits.lengths_in_limits well_formed_written count_written price x s.fits.price_in_limits room

-- partition's list, partitioned again
pub least_again : (price : Price) (list : List ℕ) → let l = list_of (records_of list) (least_of price list) in least_of price (encode l) ≡ keep_all l
least_again price list = rw (records_encode (list_of (records_of list) (least_of price list))) (again_keeps (rates_of price) (records_of list))

pub list_again : (price : Price) (list : List ℕ) → let l = list_of (records_of list) (least_of price list) in list_of (records_of (encode l)) (least_of price (encode l)) ≡ l
list_again price list = rw (records_encode (list_of (records_of list) (least_of price list))) (again_list (rates_of price) (records_of list))
