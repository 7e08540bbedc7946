-- What a record adds to a cost, by whether it joins the one before.
-- Assumes nothing.
use Prim.Native.Nat.{◌+◌, ◌≤◌}
use native.Mathlib.Omega.{arith}
use mathlib.Core.Path.{◌≡◌}
use mathlib.Core.Bool.{true, false}
use Rattle.format.specs.declared.Record.{Record}
use Rattle.price.specs.declared.Cost.{Cost}
use Rattle.price.specs.declared.Rates.{Rates}
use Rattle.join.specs.Open.{Open, follows}
use Rattle.choice.specs.Path.{entry_of, bytes_in, step_most, Adds}

module _ (rates : Rates) (o : Open) (r : Record) (d : Cost) where
  pub adds_joined : follows o r ≡ true → d.0 ≡ bytes_in rates r → d.0 ≤ step_most → Adds rates o r d
  adds_joined f e h = record { is = rw f (omega (arith, e)); most = h }

  pub adds_apart : follows o r ≡ false → d.0 ≡ entry_of rates r + bytes_in rates r → d.0 ≤ step_most → Adds rates o r d
  adds_apart f e h = record { is = rw f e; most = h }
