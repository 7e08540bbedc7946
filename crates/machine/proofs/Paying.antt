-- Each merge pays, at any rates: it lowers the cost of the carried list.
-- Assumes nothing.
use Prim.Native.Nat.{ℕ, ◌+◌, ◌*◌, ◌≤◌}
use native.Mathlib.Omega.{arith}
use mathlib.Core.List.{List, ◌∷◌}
use borrow.Author.Tests.{ltb-true, lt-ltb}
use Rattle.price.specs.declared.Rates.{Rates}
use Rattle.rules.specs.Rules.{Item, new, match, neither, tests_of}
use Rattle.machine.specs.Looks.{Look, look_at, merge_in, joined}
use Rattle.machine.proofs.Fusing.{Starts, weigh}
use Rattle.machine.proofs.Looks.{Pays, seen, look_turns}

-- what an item adds to the cost; one of neither kind is a held match, or a mark, which weighs as much
abbrev pub price_of : Rates → Item → ℕ
price_of r (new s) = r.fresh.0 + r.byte.0 * s
price_of r (match s) = r.kept.0
price_of r (neither s) = r.kept.0

pub merges_pay : (r : Rates) → Pays (tests_of r) (price_of r)
merges_pay r =
    record {
      wider = λ s e. lt-ltb (r.byte.0 * s) (r.kept.0 + r.fresh.0) (omega (arith, ltb-true (r.byte.0 * s) r.kept.0 e));
      both_pays = λ a b c e. omega (arith, ltb-true (r.byte.0 * b) (r.kept.0 + r.fresh.0) e);
      before_pays = λ a b e. omega (arith, ltb-true (r.byte.0 * b) r.kept.0 e);
      after_pays = λ b c e. omega (arith, ltb-true (r.byte.0 * b) r.kept.0 e);
      pair_pays = λ b c e. omega (arith, ltb-true (r.byte.0 * (b + c) + r.fresh.0) (2 * r.kept.0) e);
    }

-- each merge lowers the cost of the carried list, marks priced like records, and an advance does not raise it
pub merge_lowers : (rates : Rates) (l : List Item) (x : Item) (r : List Item) → Starts (joined l (x ∷ r))
    → let s : Look = look_at (tests_of rates) l x r in
    weigh (price_of rates) (joined s.next.left s.next.right) + merge_in s.outcome ≤ weigh (price_of rates) (joined l (x ∷ r))
merge_lowers rates l x r h = (look_turns (tests_of rates) (price_of rates) (merges_pay rates) (seen (tests_of rates) (price_of rates) (merges_pay rates) l x r h)).lower
