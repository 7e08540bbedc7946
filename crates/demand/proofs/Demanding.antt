-- Section 8.1 holds of any four calls that meet their contracts, in areas long enough for them.
-- Assumes nothing.
use Rattle.std.specs.Prelude.{Ok}
use Prim.Native.Nat.{ℕ, ◌/◌, ◌≤◌}
use native.Mathlib.Omega.{arith}
use mathlib.Core.Path.{◌≡◌, sym, ◌∙◌, ap}
use mathlib.Core.List.{List}
use lib.ListN.{length}
use Rattle.format.specs.declared.Record.{Record}
use Rattle.format.specs.declared.Figures.{Figures}
use Rattle.format.specs.Refusal.{Answer, Accepts, length_only, figures_in}
use Rattle.format.specs.Record.{records_of, encode}
use Rattle.format.specs.Meaning.{whole, block_of}
use Rattle.price.specs.declared.Price.{Price}
use Rattle.price.specs.Price.{rates_of}
use Rattle.area.specs.Area.{over, Areas}
use Rattle.choice.specs.Choice.{Bit, list_of, keep_all, least_of}
use Rattle.choice.proofs.Least.{least_is_least, least_fits}
use Rattle.admit.specs.Admit.{findings, partition_ruling, LongEnough}
use Rattle.admit.proofs.Admitting.{Sound, sound_of_fine, findings_of_long}
use Rattle.writer.specs.Decide.{figures, laid}
use Rattle.writer.proofs.Deciding.{answer_decided, areas_decided, block_within}
use Rattle.rebuild.specs.Rebuild.{Rebuilt}
use Rattle.call_partition.specs.Partition.{Partitioned}
use Rattle.linear.proofs.Theorems.{PassHolds, pass_holds}
use Rattle.call_pass.specs.Pass.{pass_choice_of, pass_looks_of}
use Rattle.demand.specs.Demand.{Calls, written_list, written_block, Made, Room, Demand, DemandThree}
use Rattle.demand.proofs.WrittenList.{list_is_written, block_is_written, whole_written, version_back, partition_accepts, least_again, list_again}

accepts_of : {a : Answer} {x : Figures} → a ≡ Ok x → Accepts a
accepts_of e = rw e tt

module _ (price : Price) (list v st : List ℕ) (x : Calls) (made : Made price list v st x) (fine : findings price list v st ≡ Ok tt) (room : Room list v x) where
  sound : Sound price list v st (length list / 12) (length list) (length v)
  sound = sound_of_fine price list v st (length list / 12) (length list) (length v) fine

  -- partition
  first_fine : partition_ruling price list v st x.first.before ≡ Ok tt
  first_fine = findings_of_long price list v st x.first.before room.first ∙ fine

  first_answer : x.first.answer ≡ Ok (figures (rates_of price) (list_of (records_of list) (least_of price list)) 0)
  first_answer = answer_decided made.first first_fine

  whole_least : whole (list_of (records_of list) (least_of price list)) ≡ length v
  whole_least = whole_written sound (least_of price list) (least_fits (rates_of price) (records_of list))

  list_is : written_list x.first ≡ encode (list_of (records_of list) (least_of price list))
  list_is = list_is_written made.first first_fine

  block_is : written_block x.first ≡ block_of (list_of (records_of list) (least_of price list)) v
  block_is = block_is_written made.first first_fine (omega (arith, whole_least))

  -- rebuild of what it wrote
  rebuilt_made : Rebuilt (encode (list_of (records_of list) (least_of price list))) (block_of (list_of (records_of list) (least_of price list)) v) st x.rebuilt.before x.rebuilt.answer x.rebuilt.after
  rebuilt_made = rw (list_is, block_is) at made.rebuilt

  back : (x.rebuilt.answer ≡ Ok (length_only (length v))) × (x.rebuilt.after ≡ over v x.rebuilt.before)
  back = version_back sound (least_of price list) (least_fits (rates_of price) (records_of list)) rebuilt_made room.rebuilt

  -- partition of what it wrote
  again_made : Partitioned price (encode (list_of (records_of list) (least_of price list))) v st x.again.before x.again.answer x.again.after
  again_made = rw list_is at made.again

  again_room : LongEnough (encode (list_of (records_of list) (least_of price list))) v x.again.before
  again_room = rw list_is at room.again

  again_fine : partition_ruling price (encode (list_of (records_of list) (least_of price list))) v st x.again.before ≡ Ok tt
  again_fine = partition_accepts sound (least_of price list) (least_fits (rates_of price) (records_of list)) x.again.before again_room

  again_answer : x.again.answer ≡ Ok (figures (rates_of price) (list_of (records_of list) (least_of price list)) 0)
  again_answer = answer_decided again_made again_fine ∙ ap (λ (l : List Record). Ok (figures (rates_of price) l 0)) (list_again price list)

  again_after : let l = list_of (records_of list) (least_of price list) in x.again.after ≡ laid (keep_all l) l v x.again.before
  again_after =
      let l = list_of (records_of list) (least_of price list) in
      areas_decided again_made again_fine
      ∙ ap (λ (c : List Bit). laid c (list_of (records_of (encode l)) (least_of price (encode l))) v x.again.before) (least_again price list)
      ∙ ap (λ (k : List Record). laid (keep_all l) k v x.again.before) (list_again price list)

  -- the pass
  pass_fine : partition_ruling price list v st x.passed.before ≡ Ok tt
  pass_fine = findings_of_long price list v st x.passed.before room.passed ∙ fine

  pass_answered : x.passed.answer ≡ Ok (figures (rates_of price) (list_of (records_of list) (pass_choice_of price list)) (pass_looks_of price list))
  pass_answered = answer_decided made.passed.decided pass_fine

  holds : PassHolds (rates_of price) (records_of list)
  holds = pass_holds (rates_of price) (records_of list) sound.covered.is_well_formed.sized

  demand_of_calls : Demand price list v x
  demand_of_calls =
      record {
        choice = least_of price list;
        first_accepted = accepts_of first_answer;
        first_written = areas_decided made.first first_fine;
        first_figures = ap figures_in first_answer;
        is_least = least_is_least (rates_of price) (records_of list);
        rebuilt_accepted = accepts_of back.0;
        rebuilt_figures = ap figures_in back.0;
        rebuilt_version = back.1;
        again_accepted = accepts_of again_answer;
        again_figures = ap figures_in (again_answer ∙ sym first_answer);
        again_written = again_after;
        passed_accepted = accepts_of pass_answered;
        passed_figures = ap figures_in pass_answered;
        passed_written = areas_decided made.passed.decided pass_fine;
        no_less = rw (first_answer, pass_answered) ((least_is_least (rates_of price) (records_of list)).cheapest (pass_choice_of price list) holds.choice);
        no_more = rw pass_answered (omega (arith, holds.lower, holds.joined_lower));
        no_more_joined = rw pass_answered holds.lower;
        few_looks = made.passed.few_looks;
      }

pub demand_three : DemandThree
demand_three = demand_of_calls

-- the bytes of the stored block that partition says it wrote are there to be handed on
pub block_there : (price : Price) (list v st : List ℕ) {before : Areas} {r : Answer} {after : Areas} → Partitioned price list v st before r after
    → (figures_in r).stored ≤ length after.block
block_there price list v st {before} d = block_within d in_version
  where
    in_version : partition_ruling price list v st before ≡ Ok tt → whole (list_of (records_of list) (least_of price list)) ≤ length v
    in_version fine =
        let s = sound_of_fine price list v st (length before.choice) (length before.list) (length before.block) fine in
        omega (arith, whole_written s (least_of price list) (least_fits (rates_of price) (records_of list)))
