-- The laws of two factors hold. Each of two lists costs no more than the other at its own factor; so the index bytes fall and the stored bytes grow.
-- Assumes nothing.
use Rattle.std.specs.Prelude.{Ok}
use Prim.Native.Nat.{ℕ, ◌+◌, ◌*◌, ◌/◌, ◌≤◌, ◌<◌}
use native.Mathlib.Omega.{arith}
use native.Mathlib.Nat.{mul-le-mul_left, mul-lt-mul_of_pos_left}
use mathlib.Core.Path.{◌≡◌, refl, sym, ◌∙◌, ap, ap₂, subst}
use mathlib.Core.Bool.{Bool, true, false}
use mathlib.Core.List.{List}
use lib.Dec.{leb}
use lib.ListN.{length, get_or, get_or-append}
use borrow.Author.Tests.{leb-true, leb-false}
use Rattle.format.specs.declared.Record.{Record}
use Rattle.format.specs.Refusal.{Answer, Ruling, figures_in}
use Rattle.format.specs.Record.{records_of}
use Rattle.format.specs.Meaning.{stored}
use Rattle.format.proofs.Encoding.{records_encode}
use Rattle.price.specs.declared.Price.{Price}
use Rattle.price.specs.declared.Rates.{Rates}
use Rattle.price.specs.Price.{price_at, rates_of, index_bytes, cost}
use Rattle.price.proofs.Bounds.{product_most, range_of_fits, cost_at}
use Rattle.choice.specs.Choice.{Bit, bit_bytes, list_of, least, least_of}
use Rattle.choice.proofs.Least.{least_is_least, least_fits}
use Rattle.choice.proofs.Nesting.{index_fewer, stored_stays}
use Rattle.area.specs.Area.{over, Areas}
use Rattle.admit.proofs.Admitting.{sound_of_fine}
use Rattle.writer.specs.Decide.{Decided}
use Rattle.writer.proofs.Deciding.{decided_fine, answer_decided, areas_decided, list_over}
use Rattle.call_partition.specs.Partition.{Partitioned}
use Rattle.estimate.proofs.Estimating.{estimated_fine, estimated_answer, estimated_area}
use Rattle.commit.proofs.Choosing.{stands}
use Rattle.demand.specs.Demand.{Call}
use Rattle.demand.specs.Factor.{PartitionAt, Estimate, EstimateAt, CommitAt, Taken, took, foresees, Outcome, outcome, outlook, Traded, Dearer, FactorLaws, DearerIndex}
use Rattle.demand.proofs.WrittenList.{list_is_written}
use Rattle.demand.proofs.SplitHolds.{decides, given, length_least, least_handed_on}

-- ---- on numbers: i index bytes and b stored bytes cost least at f, j and c at g

module _ (f g i j b c : ℕ) (above : 0 < f) (at_f : f * i + 256 * b ≤ f * j + 256 * c) (at_g : g * j + 256 * c ≤ g * i + 256 * b) where
  index_same : j ≤ i → c ≡ b → j ≡ i
  index_same fewer e = go (leb i j) refl
    where
      go : (t : Bool) → leb i j ≡ t → j ≡ i
      go true q = omega (arith, leb-true i j q)
      go false q = absurd (omega (arith, mul-lt-mul_of_pos_left (leb-false i j q) above))

  trade : f < g → Traded (record { index = i; stored = b }) (record { index = j; stored = c })
  trade more =
      let fewer = index_fewer f g i j j i b c c b more at_f at_g (omega arith) (omega arith) in
      record {
        index_falls = fewer;
        stored_grows = omega (arith, mul-le-mul_left f fewer);
        index_stays = index_same fewer;
        stored_stays = λ e. omega (arith, ap (λ (k : ℕ). f * k) e, ap (λ (k : ℕ). g * k) e);
      }

-- ---- the least lists of some records at two factors

traded_itself : {x : Taken} → Traded x x
traded_itself = record { index_falls = omega arith; stored_grows = omega arith; index_stays = λ e. refl; stored_stays = λ e. refl }

abbrev taken_by : Price → List Record → Taken
taken_by p l = record { index = index_bytes p l; stored = stored l }

abbrev least_list : Price → List Record → List Record
least_list p rs = list_of rs (least (rates_of p) rs)

-- at its own factor a least list costs no more than another's
no_dearer : (p q : Price) (rs : List Record)
    → p.f * index_bytes p (least_list p rs) + 256 * stored (least_list p rs) ≤ p.f * index_bytes p (least_list q rs) + 256 * stored (least_list q rs)
no_dearer p q rs =
    omega (arith, cost_at p (least_list p rs), cost_at p (least_list q rs), (least_is_least (rates_of p) rs).cheapest (least (rates_of q) rs) (least_fits (rates_of q) rs))

module _ (en em f g : ℕ) (rs : List Record) (above : 1 ≤ f) (no_less : f ≤ g) where
  least_traded : Traded (taken_by (price_at en em f) (least_list (price_at en em f) rs)) (taken_by (price_at en em g) (least_list (price_at en em g) rs))
  least_traded = go (leb g f) refl
    where
      go : (t : Bool) → leb g f ≡ t → Traded (taken_by (price_at en em f) (least_list (price_at en em f) rs)) (taken_by (price_at en em g) (least_list (price_at en em g) rs))
      go true e =
          let same : g ≡ f = omega (arith, leb-true g f e) in
          subst (λ (k : ℕ). Traded (taken_by (price_at en em f) (least_list (price_at en em f) rs)) (taken_by (price_at en em k) (least_list (price_at en em k) rs))) (sym same) traded_itself
      go false e =
          trade f g _ _ _ _ (omega arith) (no_dearer (price_at en em f) (price_at en em g) rs) (no_dearer (price_at en em g) (price_at en em f) rs) (leb-false g f e)

  least_cost_grows : cost (rates_of (price_at en em f)) (least_list (price_at en em f) rs) ≤ cost (rates_of (price_at en em g)) (least_list (price_at en em g) rs)
  least_cost_grows =
      let n = index_bytes (price_at en em g) (least_list (price_at en em g) rs) in
      omega (
        arith,
        cost_at (price_at en em f) (least_list (price_at en em f) rs),
        cost_at (price_at en em g) (least_list (price_at en em g) rs),
        no_dearer (price_at en em f) (price_at en em g) rs,
        product_most f n g n no_less (omega arith),
      )

-- ---- outcomes of the least choice

-- the outcome o is that of the least choice at the price p; its bytes stand over the front of an area
record LeastAt (p : Price) (list : List ℕ) (o : Outcome) : Type 0 where
  factor_above : 1 ≤ p.f
  taken_is : o.taken ≡ taken_by p (least_list p (records_of list))
  cost_is : o.cost ≡ cost (rates_of p) (least_list p (records_of list))
  area : List ℕ
  choice_is : o.choice ≡ over (bit_bytes (least_of p list)) area

byte_is : {p : Price} {list : List ℕ} {o : Outcome} → LeastAt p list o → (i : ℕ) → i < length list / 12 → get_or o.choice i 0 ≡ get_or (bit_bytes (least_of p list)) i 0
byte_is {p} {list} k i h = rw k.choice_is (get_or-append (bit_bytes (least_of p list)) _ 0 i (omega (arith, length_least p list)))

cost_of_taken : {p : Price} {list : List ℕ} {o : Outcome} → LeastAt p list o → o.cost ≡ p.f * o.taken.index + 256 * o.taken.stored
cost_of_taken {p} {list} k = k.cost_is ∙ cost_at p (least_list p (records_of list)) ∙ sym (ap (λ (t : Taken). p.f * t.index + 256 * t.stored) k.taken_is)

dearer : (en em f g : ℕ) {list : List ℕ} {x y : Outcome} → LeastAt (price_at en em f) list x → LeastAt (price_at en em g) list y → f ≤ g → Dearer (length list / 12) x y
dearer en em f g {list} j k more =
    record {
      traded = rw (j.taken_is, k.taken_is) (least_traded en em f g (records_of list) j.factor_above more);
      cost_grows = rw (j.cost_is, k.cost_is) (least_cost_grows en em f g (records_of list) j.factor_above more);
      given_up = λ i h one. byte_is k i h ∙ stored_stays en em f g (records_of list) more i (sym (byte_is j i h) ∙ one);
    }

-- ---- the calls

-- a call that decides for a choice took what the list of that choice takes
took_decided : {q : Ruling} {rates : Rates} {list v : List ℕ} {c : List Bit} {looks : ℕ} {x : Call} (p : Price) → Decided q rates list v c looks x.before x.answer x.after → q ≡ Ok tt
    → took p x ≡ taken_by p (list_of (records_of list) c)
took_decided {q} {rates} {list} {v} {c} {looks} {x} p made fine =
    ap₂ (λ (l : List Record) (n : ℕ). record { index = index_bytes p l; stored = n }) (ap records_of (list_is_written made fine) ∙ records_encode (list_of (records_of list) c))
    (ap (λ (a : Answer). (figures_in a).stored) (answer_decided made fine))

partition_least : {p : Price} {list v st : List ℕ} {x : Call} → PartitionAt p list v st x → LeastAt p list (outcome p x)
partition_least {p} {list} {v} {st} {x} k =
    let fine = decided_fine k.made k.accepted in
    record {
      factor_above = (range_of_fits p (sound_of_fine p list v st (length x.before.choice) (length x.before.list) (length x.before.block) fine).fits.price_in_limits).f_least;
      taken_is = took_decided p k.made fine;
      cost_is = ap (λ (a : Answer). (figures_in a).cost) (answer_decided k.made fine);
      area = x.before.choice;
      choice_is = ap (λ (a : Areas). a.choice) (areas_decided k.made fine);
    }

estimate_least : {p : Price} {list v st : List ℕ} {x : Estimate} → EstimateAt p list v st x → LeastAt p list (outlook p list x)
estimate_least {p} {list} {v} {st} {x} k =
    let told = estimated_answer k.made k.accepted in
    let chosen = estimated_area k.made k.accepted in
    record {
      factor_above = (range_of_fits p (sound_of_fine p list v st (length x.before) (length list) (length v) (estimated_fine k.made k.accepted)).fits.price_in_limits).f_least;
      taken_is =
          ap₂ (λ (l : List Record) (n : ℕ). record { index = index_bytes p l; stored = n }) (list_over list x.before x.after (least_of p list) (least_fits (rates_of p) (records_of list)) chosen)
          (ap (λ (a : Answer). (figures_in a).stored) told);
      cost_is = ap (λ (a : Answer). (figures_in a).cost) told;
      area = x.before;
      choice_is = chosen;
    }

-- a commitment of the choice that an estimate wrote takes what that foresaw
commit_took : {p q : Price} {list v st : List ℕ} {e : Estimate} {x : Call} → EstimateAt p list v st e → CommitAt q list v st e x → took p x ≡ foresees p list e
commit_took {p} {q} {list} {v} {st} {e} {x} k m =
    let own = estimate_least k in
    let bytes : x.before.choice ≡ bit_bytes (least_of p list) = m.handed_on ∙ least_handed_on p list own.area own.choice_is in
    let choice = given m.made m.accepted in
    let least_is : choice.0 ≡ least_of p list = sym choice.1.bits_are ∙ (stands list x.before.choice (least_of p list) (least_fits (rates_of p) (records_of list)) bytes).bits_are in
    took_decided p (decides m.made m.accepted) refl ∙ ap (λ (c : List Bit). taken_by p (list_of (records_of list) c)) least_is ∙ sym own.taken_is

pub factor_laws : FactorLaws
factor_laws =
    record {
      of_partitions = λ en em f g list v st x y j k. dearer en em f g (partition_least j) (partition_least k);
      partition_cost = λ p list v st x k. cost_of_taken (partition_least k);
      of_estimates = λ en em f g list v st x y j k. dearer en em f g (estimate_least j) (estimate_least k);
      estimate_cost = λ p list v st x k. cost_of_taken (estimate_least k);
      as_foreseen = λ p q list v st e x k m. commit_took k m;
      then_committed = λ en em f g q list v st x y z j k more m. rw (commit_took k m) (dearer en em f g (estimate_least j) (estimate_least k) more).traded;
      committed_then = λ en em f g q list v st x y z j k more m. rw (commit_took j m) (dearer en em f g (estimate_least j) (estimate_least k) more).traded;
    }

-- two calls of partition, as one function makes them
pub dearer_index : (en em f g : ℕ) (list v st : List ℕ) (x y : Call) → Partitioned (price_at en em f) list v st x.before x.answer x.after
    → Partitioned (price_at en em g) list v st y.before y.answer y.after → DearerIndex en em f g list x y
dearer_index en em f g list v st x y j k more a b = factor_laws.of_partitions en em f g list v st x y (record { made = j; accepted = a }) (record { made = k; accepted = b }) more
