-- What a walk's answer tells of the ruling behind it.
-- Assumes nothing.
use Rattle.std.specs.Prelude.{Ok, Err}
use Prim.Native.Nat.{ℕ}
use native.Mathlib.Omega.{arith}
use mathlib.Core.Path.{◌≡◌, refl}
use mathlib.Core.List.{List}
use Rattle.format.specs.declared.Record.{Record}
use Rattle.format.specs.declared.Refusal.{Refusal}
use Rattle.format.specs.Refusal.{Ruling}
use Rattle.walk.specs.declared.Totals.{Totals}
use Rattle.walk.specs.Walked.{totals, walked}

pub fine_of_through : (q : Ruling) (l : List Record) (t : Totals) → walked q l ≡ Ok t → (q ≡ Ok tt) × (t ≡ totals l)
fine_of_through (Ok _) l t e = (refl, cc)
fine_of_through (Err x) l t e = absurd (let z : ◌≡◌ {A = ℕ} 0 1 = cc in omega arith)

pub stop_of_stopped : (q : Ruling) (l : List Record) (x : Refusal) → walked q l ≡ Err x → q ≡ Err x
stop_of_stopped (Ok _) l x e = absurd (let z : ◌≡◌ {A = ℕ} 0 1 = cc in omega arith)
stop_of_stopped (Err y) l x e = cc
