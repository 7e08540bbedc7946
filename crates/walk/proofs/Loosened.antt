-- Check and check_loose beside each other, and partition and pool, record by record: both give one ruling, but where the first answers Adjacent, which the
-- second never does; and a list that pool's walk accepts passes check_loose's.
-- Assumes nothing.
use Rattle.std.specs.Prelude.{Ok, Err}
use Prim.Native.Nat.{ℕ, ◌+◌, ◌≤◌}
use native.Mathlib.Omega.{arith}
use mathlib.Core.Path.{◌≡◌, sym, ap}
use mathlib.Core.Bool.{Bool, true, false}
use mathlib.Core.List.{List, [], ◌∷◌}
use lib.ListN.{length}
use borrow.Author.Tests.{leb-true, le-leb}
use Rattle.format.specs.declared.Fault.{Fault}
use Rattle.format.specs.declared.Fault.TheVariants.{Malformed, Adjacent}
use Rattle.format.specs.declared.Row.{Row}
use Rattle.format.specs.declared.Refusal.{Refusal}
use Rattle.format.specs.Refusal.{Ruling, number, refuse, need, ◌then◌}
use Rattle.format.specs.Limits.{version_most}
use Rattle.format.specs.Record.{rows_of}
use Rattle.format.proofs.Rulings.{stop_fine}
use Rattle.walk.specs.declared.Seen.{Seen}
use Rattle.walk.specs.declared.Scope.TheVariants as scope
use Rattle.walk.specs.Checks.{Check, four, five, six, seven, eight, checks, judged, next, walk_on, walk_ruling, front}
use Rattle.walk.proofs.Accepted.{Holds, each_of_fine, fine_of_each}

-- ---- but for check 5

-- the second ruling is the first, or the first is the fault Adjacent
pub data Loosened : Ruling → Ruling → Type 0 where
  alike : (q : Ruling) → Loosened q q
  side_by_side : (p : ℕ) (q : Ruling) → Loosened (Err (refuse Adjacent p)) q

pub loosened_then : {a b c d : Ruling} → Loosened a b → Loosened c d → Loosened (a then c) (b then d)
loosened_then (alike (Ok _)) k = k
loosened_then (alike (Err x)) k = alike (Err x)
loosened_then {d = d} (side_by_side p q) k = side_by_side p (q then d)

loosened_five : (t : Bool) (p : ℕ) (q : Ruling) → Loosened (need t Adjacent p then q) q
loosened_five true p q = alike q
loosened_five false p q = side_by_side p q

-- 4 and 5, then others; and the same without 5
module _ (cs : List Check) where
  loosened_walk : (s : Seen) (rs : List Row) → Loosened (walk_on (four ∷ five ∷ cs) s rs) (walk_on (four ∷ cs) s rs)
  loosened_walk s [] = alike (Ok tt)
  loosened_walk s (r ∷ rs) =
      loosened_then (loosened_then (alike (need (four.holds s r) Malformed s.place)) (loosened_five (five.holds s r) s.place (judged cs s r))) (loosened_walk (next s r) rs)

-- of check and check_loose; of partition and pool
module _ (v st list : List ℕ) where
  pub loosened : Loosened (walk_ruling (checks scope.Store v st) list) (walk_ruling (checks scope.Loose v st) list)
  loosened = loosened_walk (six version_most ∷ seven (length st) ∷ []) front (rows_of list)

  pub loosened_version : Loosened (walk_ruling (checks scope.Version v st) list) (walk_ruling (checks scope.LooseVersion v st) list)
  loosened_version = loosened_walk (six (length v) ∷ seven (length st) ∷ eight v st ∷ []) front (rows_of list)

pub loosened_fine : {q k : Ruling} → Loosened q k → q ≡ Ok tt → k ≡ Ok tt
loosened_fine (alike q) e = e
loosened_fine (side_by_side p q) e = stop_fine e

pub loosened_stop : {q k : Ruling} {x : Refusal} → Loosened q k → q ≡ Err x → (x.fault ≡ Adjacent → ⊥) → k ≡ Err x
loosened_stop (alike q) e h = e
loosened_stop {x = x} (side_by_side p q) e h = absurd (h (let z : refuse Adjacent p ≡ x = cc in ap (λ (y : Refusal). y.fault) (sym z)))

-- ---- never the fault Adjacent

abbrev pub NotFive : Ruling → Type 0
NotFive (Ok _) = Unit {0}
NotFive (Err x) = x.fault ≡ Adjacent → ⊥

pub not_five_then : (a b : Ruling) → NotFive a → NotFive b → NotFive (a then b)
not_five_then (Ok _) b h k = k
not_five_then (Err x) b h k = h

pub not_five_need : (t : Bool) (f : Fault) (p : ℕ) → (number f ≡ 5 → ⊥) → NotFive (need t f p)
not_five_need true f p h = tt
not_five_need false f p h = λ e. h (ap number e)

-- checks of which none is 5
abbrev Others : List Check → Type 0
Others [] = Unit {0}
Others (c ∷ cs) = (number c.fault ≡ 5 → ⊥) × Others cs

not_five_judged : (cs : List Check) (s : Seen) (r : Row) → Others cs → NotFive (judged cs s r)
not_five_judged [] s r h = tt
not_five_judged (c ∷ cs) s r h =
    not_five_then (need (c.holds s r) c.fault s.place) (judged cs s r) (not_five_need (c.holds s r) c.fault s.place h.0) (not_five_judged cs s r h.1)

not_five_on : (cs : List Check) (s : Seen) (rs : List Row) → Others cs → NotFive (walk_on cs s rs)
not_five_on cs s [] h = tt
not_five_on cs s (r ∷ rs) h = not_five_then (judged cs s r) (walk_on cs (next s r) rs) (not_five_judged cs s r h) (not_five_on cs (next s r) rs h)

module _ (v st list : List ℕ) where
  pub not_five_walk : NotFive (walk_ruling (checks scope.Loose v st) list)
  not_five_walk = not_five_on (checks scope.Loose v st) front (rows_of list) (λ e. omega arith, (λ e. omega arith, (λ e. omega arith, tt)))

  pub not_five_walk_version : NotFive (walk_ruling (checks scope.LooseVersion v st) list)
  not_five_walk_version = not_five_on (checks scope.LooseVersion v st) front (rows_of list) (λ e. omega arith, (λ e. omega arith, (λ e. omega arith, (λ e. omega arith, tt))))

-- ---- with a version

six_more : (m n : ℕ) (s : Seen) (rs : List Row) → m ≤ n → Holds (six m) s rs → Holds (six n) s rs
six_more m n s [] h k = tt
six_more m n s (r ∷ rs) h k = (le-leb (s.offset + r.size) n (omega (arith, leb-true (s.offset + r.size) m k.0)), six_more m n (next s r) rs h k.1)

pub loose_of_version : (v st list : List ℕ) → length v ≤ version_most → walk_ruling (checks scope.LooseVersion v st) list ≡ Ok tt → walk_ruling (checks scope.Loose [] st) list ≡ Ok tt
loose_of_version v st list h e =
    let k = each_of_fine (checks scope.LooseVersion v st) front (rows_of list) e in
    fine_of_each (checks scope.Loose [] st) front (rows_of list) (k.0, (six_more (length v) version_most front (rows_of list) h k.1.0, (k.1.1.0, tt)))
