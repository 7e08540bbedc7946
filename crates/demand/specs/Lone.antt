-- Clause 8.5.4: to store a match with no stored record beside it may be worth it; partition then does it, pass never does.
-- Assumes nothing.
use Rattle.std.specs.Prelude.{ℕ, ◌≡◌, true, false, List, Ok}
use Rattle.format.specs.Record.{records_of}
use Rattle.price.specs.declared.Price.{Price}
use Rattle.price.specs.Price.{price_at, rates_of}
use Rattle.choice.specs.Choice.{Bit, list_of, least}
use Rattle.choice.specs.Alone.{stores_alone}
use Rattle.admit.specs.Admit.{partition_ruling}
use Rattle.writer.specs.Decide.{laid}
use Rattle.call_pass.specs.Pass.{PassMade}
use Rattle.demand.specs.Demand.{Call}
use Rattle.demand.specs.Worked.{lone}

-- the choice that the call x wrote, which stores no match alone
pub record NoneAlone (list v : List ℕ) (x : Call) : Type 0 where
  pub choice : List Bit
  pub written : x.after ≡ laid choice (list_of (records_of list) choice) v x.before
  pub none_alone : stores_alone true (records_of list) choice ≡ false

pub record LoneMatches : Type 0 where
  -- of three matches, at EN 1 and EM 10, the least choice stores one alone
  pub worth_it : stores_alone true lone (least (rates_of (price_at 1 10 256)) lone) ≡ true
  -- whatever meets pass's contract, on inputs without a fault, stores none
  pub only_partition : (p : Price) (list v st : List ℕ) (x : Call) → PassMade p list v st x.before x.answer x.after
      → partition_ruling p list v st x.before ≡ Ok tt → NoneAlone list v x
