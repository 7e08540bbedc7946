-- The better way, by the tests that the code makes, and both ways with a record.
-- Assumes nothing.
use Rattle.std.specs.Prelude.{Some, None}
use Prim.Native.Nat.{ℕ, ◌+◌, ◌*◌, ◌≤◌, ◌<◌}
use native.Mathlib.Omega.{arith}
use mathlib.Core.Path.{◌≡◌, refl}
use mathlib.Core.Bool.{Bool, true, false, cond}
use borrow.Author.Tests.{le-leb, lt-leb}
use Rattle.format.specs.declared.Record.{Record}
use Rattle.price.specs.declared.Rates.{Rates}
use Rattle.join.specs.Open.{Open}
use Rattle.choice.specs.Choice.{keep, store, only, either, freedom}
use Rattle.choice.specs.Path.{step, step_most}
use Rattle.weigh.specs.declared.Way.{Way}
use Rattle.weigh.specs.Weigh.{Better, left_by, Turned}

-- the better way, by the tests that the code makes: k is what keeping the record comes to, n is what storing it does
module _ (rates : Rates) (o : Open) (r : Record) (kept stored k n : ℕ) (ek : k ≡ step rates o r keep + kept) (en : n ≡ step rates o r store + stored) (kept_most : k ≤ kept + step_most) (stored_most : n ≤ stored + step_most) where
  abbrev way : ℕ → ℕ → Way
  way m b = record { cost = record { 0 = m }; bit = b }

  pub better_only : freedom r ≡ only store → Better rates o r kept stored (way n 1)
  better_only f = record { is = rw (en, f); cost_most = λ m a b. omega arith; bit_most = omega arith }

  pub better_held : freedom r ≡ only keep → Better rates o r kept stored (way k 0)
  better_held f = record { is = rw (ek, f); cost_most = λ m a b. omega arith; bit_most = omega arith }

  -- a match, held or not
  pub better_keep : (held : Bool) → freedom r ≡ cond held (only keep) either → k ≤ n → Better rates o r kept stored (way k 0)
  better_keep true f h = better_held f
  better_keep false f h = record { is = rw (← ek, ← en, f, le-leb k n h); cost_most = λ m a b. omega arith; bit_most = omega arith }

  pub better_store : freedom r ≡ either → n < k → Better rates o r kept stored (way n 1)
  better_store f h = record { is = rw (← ek, ← en, f, lt-leb k n h); cost_most = λ m a b. omega arith; bit_most = omega arith }

left_keep : (o : Open) → left_by o keep ≡ o
left_keep None = refl
left_keep (Some r) = refl

-- both ways with a record, after the one before it, kept or stored
pub turned_of : (rates : Rates) (o : Open) (r : Record) (kept stored : ℕ) (k s : Way) → Better rates o r kept stored k → Better rates (left_by o store) r kept stored s
    → Turned rates o r kept stored (record { kept = record { 0 = k.cost.0 }; stored = record { 0 = s.cost.0 }; hint = k.bit + 2 * s.bit })
turned_of rates o r kept stored k s hk hs = record { is = rw (hk.is, hs.is, left_keep o); kept_most = hk.cost_most; stored_most = hs.cost_most }
