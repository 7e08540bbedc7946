-- Joining keeps where each byte comes from, and so what its mark binds. The tidy form of a list is told by the origins of its bytes, and tells them.
-- Assumes nothing.
use Prim.Native.Nat.{ℕ, zero, suc, ◌+◌, ◌≤◌}
use native.Mathlib.Omega.{arith}
use mathlib.Core.Path.{◌≡◌, refl, sym, ◌∙◌, ap, ap₂}
use mathlib.Core.Bool.{Bool, true, false, cond}
use mathlib.Core.List.{List, [], ◌∷◌, ◌++◌, append_assoc, map}
use lib.ListN.{replicate, replicate-append-replicate}
use borrow.Author.Tests.{eq-eqb}
use Rattle.format.specs.declared.Source.{Source}
use Rattle.format.specs.declared.Record.{Record}
use Rattle.format.specs.declared.Record.TheVariants.{New, Match}
use Rattle.format.specs.Record.{from}
use Rattle.format.specs.Meaning.{size_of}
use Rattle.format.specs.WellFormed.{Sized}
use Rattle.format.specs.Origins.{Origin, fresh, drawn, drawn_at, origins_of, origins, singles}
use Rattle.format.specs.Marks.{bond_of, bonds}
use Rattle.format.proofs.Rows.{from_add}
use Rattle.join.specs.Join.{joins, goes_on, grown, join, tidy, gather}
use Rattle.join.proofs.Joining.{goes_on_so, join_on, settled_tidy, tidy_settled}

-- ---- joining keeps the origin of each byte

-- two that join cover together what the joined record covers
origins_grown : (r q : Record) → joins r q ≡ true → origins_of (grown r (size_of q)) ≡ origins_of r ++ origins_of q
origins_grown (New s) (New t) e = sym (replicate-append-replicate s t fresh)
origins_grown (New s) (Match t b) e = cc
origins_grown (Match s a) (New t) e = cc
origins_grown (Match s a) (Match t b) e =
    from_add (drawn_at a.held) a.address s t
    ∙ ap₂ (λ (h : Bool) (n : ℕ). origins_of (Match s a) ++ from (drawn_at h) n t) (goes_on_so s a b e).marks (goes_on_so s a b e).ends

origins_join : (r : Record) (l : List Record) → origins (join r l) ≡ origins_of r ++ origins l
origins_join r [] = refl
origins_join r (q ∷ l) = go (joins r q) refl
  where
    go : (x : Bool) → joins r q ≡ x → origins (cond x (grown r (size_of q) ∷ l) (r ∷ q ∷ l)) ≡ origins_of r ++ (origins_of q ++ origins l)
    go true e = ap (λ (k : List Origin). k ++ origins l) (origins_grown r q e) ∙ append_assoc (origins_of r) (origins_of q) (origins l)
    go false e = refl

pub origins_tidy : (l : List Record) → origins (tidy l) ≡ origins l
origins_tidy [] = refl
origins_tidy (r ∷ l) = origins_join r (tidy l) ∙ ap (λ (x : List Origin). origins_of r ++ x) (origins_tidy l)

-- and so what is said of it
pub bonds_tidy : (l : List Record) → bonds (tidy l) ≡ bonds l
bonds_tidy l = ap (map bond_of) (origins_tidy l)

-- ---- the tidy list of given origins

origins_singles : (os : List Origin) → origins (singles os) ≡ os
origins_singles [] = refl
origins_singles (fresh ∷ os) = ap (λ (x : List Origin). fresh ∷ x) (origins_singles os)
origins_singles (drawn a ∷ os) = ap (λ (x : List Origin). drawn a ∷ x) (origins_singles os)

-- it has them
pub origins_gather : (os : List Origin) → origins (gather os) ≡ os
origins_gather os = origins_tidy (singles os) ∙ origins_singles os

-- the bytes of one record gather to that record
gather_new : (s : ℕ) (os : List Origin) → 1 ≤ s → gather (replicate s fresh ++ os) ≡ join (New s) (gather os)
gather_new zero os h = absurd (omega arith)
gather_new (suc zero) os h = refl
gather_new (suc (suc s)) os h =
    ap (join (New 1)) (gather_new (suc s) os (omega arith)) ∙ join_on (New 1) (New (suc s)) (gather os) refl
    ∙ ap (λ (n : ℕ). join (New n) (gather os)) (omega arith)

on : (h : Bool) (a : ℕ) → goes_on 1 (record { address = a; held = h }) (record { address = a + 1; held = h }) ≡ true
on true a = eq-eqb (a + 1) (a + 1) refl
on false a = eq-eqb (a + 1) (a + 1) refl

gather_run : (s a : ℕ) (h : Bool) (os : List Origin) → 1 ≤ s → gather (from (drawn_at h) a s ++ os) ≡ join (Match s (record { address = a; held = h })) (gather os)
gather_run zero a h os k = absurd (omega arith)
gather_run (suc zero) a h os k = refl
gather_run (suc (suc s)) a h os k =
    let x : Source = record { address = a; held = h } in
    let y : Source = record { address = a + 1; held = h } in
    ap (join (Match 1 x)) (gather_run (suc s) (a + 1) h os (omega arith)) ∙ join_on (Match 1 x) (Match (suc s) y) (gather os) (on h a)
    ∙ ap (λ (n : ℕ). join (Match n x) (gather os)) (omega arith)

pub gather_origin : (r : Record) (os : List Origin) → 1 ≤ size_of r → gather (origins_of r ++ os) ≡ join r (gather os)
gather_origin (New s) os h = gather_new s os h
gather_origin (Match s a) os h = gather_run s a.address a.held os h

-- the origins of a list gather to its tidy form
pub gather_origins : (l : List Record) → Sized l → gather (origins l) ≡ tidy l
gather_origins [] h = refl
gather_origins (r ∷ l) h = gather_origin r (origins l) h.0 ∙ ap (join r) (gather_origins l h.1)

-- two lists have one tidy form exactly when their origins agree
pub tidy_exactly : (l k : List Record) → Sized l → Sized k → (tidy l ≡ tidy k → origins l ≡ origins k) × (origins l ≡ origins k → tidy l ≡ tidy k)
tidy_exactly l k h i = (
  λ e. sym (origins_tidy l) ∙ ap origins e ∙ origins_tidy k,
  λ e. sym (gather_origins l h) ∙ ap gather e ∙ gather_origins k i,
)

-- tidying twice gives what tidying once gives, of any list
pub tidy_twice : (l : List Record) → tidy (tidy l) ≡ tidy l
tidy_twice l = tidy_settled (tidy l) (settled_tidy l)
