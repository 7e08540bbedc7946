-- The ways out of an estimate: refused, and with the least choice in its area and the figures of its list. And what an accepted one shows.
-- Assumes nothing.
use Rattle.std.specs.Prelude.{Ok, Err}
use Prim.Native.Nat.{ℕ}
use mathlib.Core.Path.{◌≡◌}
use mathlib.Core.List.{List}
use Rattle.format.specs.declared.Refusal.{Refusal}
use Rattle.format.specs.Refusal.{Answer, Accepts}
use Rattle.format.specs.Record.{records_of}
use Rattle.format.proofs.Rulings.{fine_of_accepts}
use Rattle.price.specs.declared.Price.{Price}
use Rattle.price.specs.Price.{rates_of}
use Rattle.area.specs.Area.{over}
use Rattle.choice.specs.Choice.{bit_bytes, list_of, least_of}
use Rattle.choice.proofs.Least.{least_fits}
use Rattle.sweep.specs.Sweep.{LeastIn}
use Rattle.writer.specs.Write.{list_in}
use Rattle.writer.specs.Decide.{figures}
use Rattle.writer.proofs.Deciding.{list_over}
use Rattle.estimate.specs.declared.Counts.{Counts}
use Rattle.estimate.specs.Count.{CountsOf}
use Rattle.estimate.specs.Estimate.{estimate_ruling, estimate_answer, estimate_area, Estimated}

module _ (price : Price) (list v st choice : List ℕ) where
  pub stopped : {x : Refusal} {r : Answer} → estimate_ruling price list v st choice ≡ Err x → r ≡ Err x → Estimated price list v st choice r choice
  stopped e f = record { answered = rw e f; area_after = rw e }

  pub estimated : {after : List ℕ} {cost : ℕ} {n : Counts} → estimate_ruling price list v st choice ≡ Ok tt → LeastIn (rates_of price) list choice after cost → CountsOf list after n
      → Estimated price list v st choice (Ok (record { cost = cost; entries = n.entries; stored = n.stored; looks = 0; whole = 0 })) after
  estimated {after} {cost} {n} fine least counts =
      let listed : list_in list after ≡ list_of (records_of list) (least_of price list) = list_over list choice after (least_of price list) (least_fits (rates_of price) (records_of list)) least.area in
      record { answered = rw (fine, least.cost_is, counts.entries_are, counts.stored_are, listed); area_after = rw fine least.area }

  -- a call that meets the clauses of the contract, as the laws speak of it
  pub estimate_made : {r : Answer} {after : List ℕ} → (r ≡ estimate_answer price list v st choice) × (after ≡ estimate_area price list v st choice)
      → Estimated price list v st choice r after
  estimate_made h = record { answered = h.0; area_after = h.1 }

-- what an accepted call shows
module _ {price : Price} {list v st choice : List ℕ} {r : Answer} {after : List ℕ} (made : Estimated price list v st choice r after) (accepted : Accepts r) where
  pub estimated_fine : estimate_ruling price list v st choice ≡ Ok tt
  estimated_fine = fine_of_accepts (estimate_ruling price list v st choice) (figures (rates_of price) (list_of (records_of list) (least_of price list)) 0) (rw made.answered at accepted)

  pub estimated_answer : r ≡ Ok (figures (rates_of price) (list_of (records_of list) (least_of price list)) 0)
  estimated_answer = rw estimated_fine at made.answered

  pub estimated_area : after ≡ over (bit_bytes (least_of price list)) choice
  estimated_area = rw estimated_fine at made.area_after
