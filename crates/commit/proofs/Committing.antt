-- The ways out of a commitment: refused by partition's checks, by check 12, and written.
-- Assumes nothing.
use Rattle.std.specs.Prelude.{Ok, Err}
use Prim.Native.Nat.{ℕ, ◌/◌}
use mathlib.Core.Path.{◌≡◌}
use mathlib.Core.List.{List}
use lib.ListN.{length}
use Rattle.format.specs.declared.Refusal.{Refusal}
use Rattle.format.specs.Refusal.{Answer}
use Rattle.price.specs.declared.Price.{Price}
use Rattle.price.specs.Price.{rates_of}
use Rattle.admit.specs.Admit.{admit_ruling}
use Rattle.writer.specs.Decide.{Finished}
use Rattle.commit.specs.Commit.{choice_ruling, commit_ruling, commit_answer, commit_list, commit_block, Committed}

module _ (price : Price) (list v st choice area block : List ℕ) where
  stopped : {x : Refusal} {r : Answer} → commit_ruling price list v st choice (length area) (length block) ≡ Err x → r ≡ Err x → Committed price list v st choice area block r area block
  stopped e f = record { answered = rw e f; list_after = rw e; block_after = rw e }

  pub stopped_by_admit : {x : Refusal} {r : Answer} → admit_ruling price list v st (length list / 12) (length area) (length block) ≡ Err x → r ≡ Err x
      → Committed price list v st choice area block r area block
  stopped_by_admit h f = stopped (rw h) f

  module _ (h : admit_ruling price list v st (length list / 12) (length area) (length block) ≡ Ok tt) where
    pub stopped_by_choice : {x : Refusal} {r : Answer} → choice_ruling list choice ≡ Err x → r ≡ Err x → Committed price list v st choice area block r area block
    stopped_by_choice k f = stopped (rw (h, k)) f

    pub committed : {r : Answer} {area' block' : List ℕ} → choice_ruling list choice ≡ Ok tt → Finished (rates_of price) list choice v 0 area block r area' block'
        → Committed price list v st choice area block r area' block'
    committed k done = record { answered = rw (h, k) done.answered; list_after = rw (h, k) done.area_after; block_after = rw (h, k) done.block_after }

  -- a call that meets the clauses of the contract, as the laws speak of it
  pub commit_made : {r : Answer} {area' block' : List ℕ}
      → (r ≡ commit_answer price list v st choice area block) × ((area' ≡ commit_list price list v st choice area block) × (block' ≡ commit_block price list v st choice area block))
      → Committed price list v st choice area block r area' block'
  commit_made h = record { answered = h.0; list_after = h.1.0; block_after = h.1.1 }
