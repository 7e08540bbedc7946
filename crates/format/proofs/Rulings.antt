-- Laws of rulings: a chain of checks is fine exactly when each of them is; and of the tests in them.
-- Assumes nothing.
use Rattle.std.specs.Prelude.{Ok, Err}
use Prim.Native.Nat.{ℕ}
use native.Mathlib.Omega.{arith}
use mathlib.Core.Path.{◌≡◌, refl, sym}
use mathlib.Core.Bool.{Bool, true, false, ◌&&◌, beq}
use Rattle.format.specs.declared.Fault.{Fault}
use Rattle.format.specs.declared.Refusal.{Refusal}
use Rattle.format.specs.Refusal.{Ruling, refuse, need, ◌then◌, answer, Accepts}
use Rattle.format.specs.declared.Figures.{Figures}

pub stop_fine : {A : Type 0} {x : Refusal} → ◌≡◌ {A = Ruling} (Err x) (Ok tt) → A
stop_fine e = absurd (let z : ◌≡◌ {A = ℕ} 0 1 = cc in omega arith)

pub then_fine : (r : Ruling) → r then Ok tt ≡ r
then_fine (Ok _) = refl
then_fine (Err x) = refl

pub fine_of_then : (a b : Ruling) → a then b ≡ Ok tt → (a ≡ Ok tt) × (b ≡ Ok tt)
fine_of_then (Ok _) b e = (refl, e)
fine_of_then (Err x) b e = stop_fine e

pub then_of_fine : (a b : Ruling) → a ≡ Ok tt → b ≡ Ok tt → a then b ≡ Ok tt
then_of_fine a b e f = rw (e, f)

pub true_of_need : (t : Bool) (f : Fault) (p : ℕ) → need t f p ≡ Ok tt → t ≡ true
true_of_need true f p e = refl
true_of_need false f p e = stop_fine e

pub false_of_need : (t : Bool) (f : Fault) (p : ℕ) {x : Refusal} → need t f p ≡ Err x → (t ≡ false) × (x ≡ refuse f p)
false_of_need true f p e = stop_fine (sym e)
false_of_need false f p e = (refl, cc)

pub both_of_and : (a b : Bool) → a && b ≡ true → (a ≡ true) × (b ≡ true)
both_of_and true b e = (refl, e)
both_of_and false b e = absurd (let z : ◌≡◌ {A = ℕ} 0 1 = cc in omega arith)

pub and_of_both : (a b : Bool) → a ≡ true → b ≡ true → a && b ≡ true
and_of_both a b e f = rw (e, f)

pub beq_self : (x : Bool) → beq x x ≡ true
beq_self true = refl
beq_self false = refl

pub beq_true : (x y : Bool) → beq x y ≡ true → x ≡ y
beq_true true true e = refl
beq_true true false e = sym e
beq_true false true e = e
beq_true false false e = refl

pub fine_of_accepted : (q : Ruling) (x y : Figures) → answer q x ≡ Ok y → q ≡ Ok tt
fine_of_accepted (Ok _) x y e = refl
fine_of_accepted (Err r) x y e = absurd (let z : ◌≡◌ {A = ℕ} 0 1 = cc in omega arith)

pub stop_of_refused : (q : Ruling) (x : Figures) (r : Refusal) → answer q x ≡ Err r → q ≡ Err r
stop_of_refused (Ok _) x r e = absurd (let z : ◌≡◌ {A = ℕ} 0 1 = cc in omega arith)
stop_of_refused (Err y) x r e = cc

-- an accepted call has found no fault
pub fine_of_accepts : (q : Ruling) (x : Figures) → Accepts (answer q x) → q ≡ Ok tt
fine_of_accepts (Ok _) x h = refl
fine_of_accepts (Err r) x h = absurd h
