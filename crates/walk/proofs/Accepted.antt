-- What a walk that finds no fault has shown of the records, and that it finds none in records of which this holds.
-- Assumes nothing.
use Rattle.std.specs.Prelude.{Ok}
use Prim.Native.Nat.{ℕ, ◌+◌, ◌≤◌}
use native.Mathlib.Omega.{arith}
use mathlib.Core.Path.{◌≡◌, refl}
use mathlib.Core.Bool.{Bool, true, false, not, ◌&&◌, ◌||◌, cond}
use mathlib.Core.List.{List, [], ◌∷◌}
use lib.ListN.{length, take, drop, length-drop}
use lib.Seq.{drop-drop, drop-length}
use borrow.Author.Tests.{leb-true}
use Rattle.format.specs.declared.Row.{Row}
use Rattle.format.specs.declared.Record.{Record}
use Rattle.format.specs.declared.Record.TheVariants.{New, Match}
use Rattle.format.specs.Limits.{volume_most}
use Rattle.format.specs.Record.{is_new, source_of, records}
use Rattle.format.specs.Refusal.{need}
use Rattle.format.specs.Meaning.{whole}
use Rattle.format.specs.WellFormed.{Sized, NotNew, Apart, Inside, Agrees}
use Rattle.format.proofs.Rulings.{fine_of_then, then_of_fine}
use Rattle.format.proofs.Rows.{size_record, formed_of_test}
use Rattle.words.specs.Same.{same_bytes}
use Rattle.walk.specs.declared.Seen.{Seen}
use Rattle.walk.specs.Checks.{Check, four, five, six, seven, eight, fifteen, sixteen, within, judged, next, walk_on}
use Rattle.words.proofs.Equality.{eq_of_same}
use Rattle.walk.proofs.Judged.{holds_of_fine}

-- one check at every record
abbrev pub Holds : Check → Seen → List Row → Type 0
Holds c s [] = Unit {0}
Holds c s (r ∷ rs) = (c.holds s r ≡ true) × Holds c (next s r) rs

-- each of several checks at every record
abbrev pub Each : List Check → Seen → List Row → Type 0
Each [] s rs = Unit {0}
Each (c ∷ cs) s rs = Holds c s rs × Each cs s rs

-- each of several checks at one record
abbrev Passes : List Check → Seen → Row → Type 0
Passes [] s r = Unit {0}
Passes (c ∷ cs) s r = (c.holds s r ≡ true) × Passes cs s r

passes_of_fine : (cs : List Check) (s : Seen) (r : Row) → judged cs s r ≡ Ok tt → Passes cs s r
passes_of_fine [] s r e = tt
passes_of_fine (c ∷ cs) s r e = let k = holds_of_fine c cs s r e in (k.0, passes_of_fine cs s r k.1)

fine_of_passes : (cs : List Check) (s : Seen) (r : Row) → Passes cs s r → judged cs s r ≡ Ok tt
fine_of_passes [] s r h = refl
fine_of_passes (c ∷ cs) s r h = then_of_fine (need (c.holds s r) c.fault s.place) (judged cs s r) (rw h.0) (fine_of_passes cs s r h.1)

each_none : (cs : List Check) (s : Seen) → Each cs s []
each_none [] s = tt
each_none (c ∷ cs) s = (tt, each_none cs s)

each_cons : (cs : List Check) (s : Seen) (r : Row) (rs : List Row) → Passes cs s r → Each cs (next s r) rs → Each cs s (r ∷ rs)
each_cons [] s r rs h k = tt
each_cons (c ∷ cs) s r rs h k = ((h.0, k.0), each_cons cs s r rs h.1 k.1)

each_split : (cs : List Check) (s : Seen) (r : Row) (rs : List Row) → Each cs s (r ∷ rs) → Passes cs s r × Each cs (next s r) rs
each_split [] s r rs h = (tt, tt)
each_split (c ∷ cs) s r rs h = let k = each_split cs s r rs h.1 in ((h.0.0, k.0), (h.0.1, k.1))

pub each_of_fine : (cs : List Check) (s : Seen) (rs : List Row) → walk_on cs s rs ≡ Ok tt → Each cs s rs
each_of_fine cs s [] e = each_none cs s
each_of_fine cs s (r ∷ rs) e =
    let k = fine_of_then (judged cs s r) (walk_on cs (next s r) rs) e in
    each_cons cs s r rs (passes_of_fine cs s r k.0) (each_of_fine cs (next s r) rs k.1)

pub fine_of_each : (cs : List Check) (s : Seen) (rs : List Row) → Each cs s rs → walk_on cs s rs ≡ Ok tt
fine_of_each cs s [] h = refl
fine_of_each cs s (r ∷ rs) h =
    let k = each_split cs s r rs h in
    then_of_fine (judged cs s r) (walk_on cs (next s r) rs) (fine_of_passes cs s r k.0) (fine_of_each cs (next s r) rs k.1)

-- ---- check by check

pub sized_of_four : (s : Seen) (rs : List Row) → Holds four s rs → Sized (records rs)
sized_of_four s [] h = tt
sized_of_four s (r ∷ rs) h = (omega (arith, size_record r, (formed_of_test r h.0).size_least), sized_of_four (next s r) rs h.1)

pub apart_of_five : (s : Seen) (rs : List Row) → Holds five s rs → Apart (records rs) × (s.fresh ≡ true → NotNew (records rs))
apart_of_five s [] h = (tt, λ e. tt)
apart_of_five s (r ∷ rs) h = go (is_new r) s.fresh h.0 (apart_of_five (next s r) rs h.1)
  where
    l : List Record
    l = records rs

    go : (x y : Bool) → not (x && y) ≡ true → Apart l × (x ≡ true → NotNew l)
        → Apart (cond x (New r.size) (Match r.size (source_of r)) ∷ l) × (y ≡ true → NotNew (cond x (New r.size) (Match r.size (source_of r)) ∷ l))
    go true true e k = absurd (let z : ◌≡◌ {A = ℕ} 0 1 = cc in omega arith)
    go true false e k = ((k.1 refl, k.0), λ f. absurd (let z : ◌≡◌ {A = ℕ} 0 1 = cc in omega arith))
    go false y e k = (k.0, λ f. tt)

pub whole_of_six : (limit : ℕ) (s : Seen) (rs : List Row) → s.offset ≤ limit → Holds (six limit) s rs → s.offset + whole (records rs) ≤ limit
whole_of_six limit s [] k h = omega arith
whole_of_six limit s (r ∷ rs) k h = omega (arith, size_record r, whole_of_six limit (next s r) rs (leb-true (s.offset + r.size) limit h.0) h.1)

pub inside_of_seven : (st : List ℕ) (s : Seen) (rs : List Row) → Holds (seven (length st)) s rs → Inside st (records rs)
inside_of_seven st s [] h = tt
inside_of_seven st s (r ∷ rs) h = go (is_new r) h.0 (inside_of_seven st (next s r) rs h.1)
  where
    go : (x : Bool) → x || within r (length st) ≡ true → Inside st (records rs) → Inside st (cond x (New r.size) (Match r.size (source_of r)) ∷ records rs)
    go true e k = k
    go false e k = (leb-true (r.address + r.size) (length st) e, k)

-- 15 behind n bytes is 7 beside a store of n bytes
pub seven_of_fifteen : (n : ℕ) (s : Seen) (rs : List Row) → Holds (fifteen n) s rs → Holds (seven n) s rs
seven_of_fifteen n s [] h = tt
seven_of_fifteen n s (r ∷ rs) h = (h.0, seven_of_fifteen n (next s r) rs h.1)

pub fifteen_of_seven : (n : ℕ) (s : Seen) (rs : List Row) → Holds (seven n) s rs → Holds (fifteen n) s rs
fifteen_of_seven n s [] h = tt
fifteen_of_seven n s (r ∷ rs) h = (h.0, fifteen_of_seven n (next s r) rs h.1)

pub whole_of_sixteen : (n : ℕ) (s : Seen) (rs : List Row) → n + s.offset ≤ volume_most → Holds (sixteen n) s rs → n + (s.offset + whole (records rs)) ≤ volume_most
whole_of_sixteen n s [] k h = omega arith
whole_of_sixteen n s (r ∷ rs) k h =
    let m : n + (s.offset + r.size) ≤ volume_most = leb-true (n + (s.offset + r.size)) volume_most h.0 in
    omega (arith, size_record r, whole_of_sixteen n (next s r) rs m h.1)

pub agrees_of_eight : (v st : List ℕ) (s : Seen) (rs : List Row) → Holds (six (length v)) s rs → Holds (seven (length st)) s rs → Holds (eight v st) s rs
    → s.offset + whole (records rs) ≡ length v → Agrees st (records rs) (drop s.offset v)
agrees_of_eight v st s [] f g h e = let k : s.offset ≡ length v = omega arith in rw k (drop-length v)
agrees_of_eight v st s (r ∷ rs) f g h e =
    go (is_new r) g.0 h.0 (rw (← drop-drop r.size s.offset v) at (agrees_of_eight v st (next s r) rs f.1 g.1 h.1 (omega (arith, size_record r))))
  where
    w : List ℕ
    w = drop s.offset v

    long : r.size ≤ length w
    long = omega (arith, length-drop s.offset v, leb-true (s.offset + r.size) (length v) f.0)

    go : (x : Bool) → x || within r (length st) ≡ true → x || same_bytes (take r.size w) (take r.size (drop r.address st)) ≡ true → Agrees st (records rs) (drop r.size w)
        → Agrees st (cond x (New r.size) (Match r.size (source_of r)) ∷ records rs) w
    go true a b k = (long, k)
    go false a b k = (long, leb-true (r.address + r.size) (length st) a, eq_of_same (take r.size w) (take r.size (drop r.address st)) b, k)
