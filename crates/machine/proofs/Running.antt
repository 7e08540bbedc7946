-- What a run of looks does: p comes to the rear within 2n - 1 looks, and the list at the end is kept by every merge, at any tests and weights
-- that pay. In order: a run; the pass over a list; the run look by look, for a loop that makes the looks.
-- Assumes nothing.
use Prim.Native.Nat.{ℕ, zero, suc, ◌+◌, ◌-◌, ◌*◌, ◌≤◌, ◌<◌}
use native.Mathlib.Omega.{arith}
use mathlib.Core.Path.{◌≡◌, refl}
use mathlib.Core.List.{List, [], ◌∷◌}
use lib.ListN.{length}
use Rattle.rules.specs.Rules.{Item, mark, Tests}
use Rattle.machine.specs.Looks.{bytes, rest, Look, look_at, merge_in, merges_in, Run, stopped, preceded, run, pass, joined, end_items}
use Rattle.machine.proofs.Fusing.{Starts, Tidy, Fuses, none, keep_neither, fuses_refl, weigh, length_joined, two_of_starts, Turns, turns_refl, turns_trans}
use Rattle.machine.proofs.Looks.{Pays, Seen, seen, look_turns, look_nearer}

module _ (t : Tests) (w : Item → ℕ) (pays : Pays t w) where
  -- what a run from l and r comes to
  pub record Ends (l r : List Item) (o : Run) : Type 0 where
    pub rear : o.end.right ≡ []
    pub turns : Turns w (merges_in o.outcomes) (joined l r) (joined o.end.left [])
    pub bound : length o.outcomes + 2 ≤ 2 * length r + length l

  ends_at_rear : (l : List Item) → Starts (joined l []) → Ends l [] (stopped l [])
  ends_at_rear l h =
      record { rear = refl; turns = turns_refl w (joined l []); bound = omega (arith, two_of_starts (joined l []) h, length_joined l []) }

  pub ends : (fuel : ℕ) (l r : List Item) → Starts (joined l r) → 2 * length r + length l ≤ fuel + 2 → Ends l r (run t fuel l r)
  unfolding run
  ends zero l [] h f = ends_at_rear l h
  ends zero l (p ∷ r) h f = absurd (omega (arith, two_of_starts (joined l (p ∷ r)) h, length_joined l (p ∷ r)))
  ends (suc fuel) l [] h f = ends_at_rear l h
  ends (suc fuel) l (p ∷ r) h f =
      let s : Look = look_at t l p r in
      let v : Seen t l p r s = seen t w pays l p r h in
      let u : Turns w (merge_in s.outcome) (joined l (p ∷ r)) (joined s.next.left s.next.right) = look_turns t w pays v in
      let i : Ends s.next.left s.next.right (run t fuel s.next.left s.next.right) =
      ends fuel s.next.left s.next.right (u.starts h) (omega (arith, look_nearer t w pays v)) in
      record { rear = i.rear; turns = turns_trans u i.turns; bound = omega (arith, look_nearer t w pays v, i.bound) }

-- ---- the pass over any list of items

record Fronted (xs z : List Item) : Type 0 where
  front : z ≡ mark ∷ rest z
  behind : Fuses xs (rest z)

fronted : {xs z : List Item} → Fuses (mark ∷ xs) z → Fronted xs z
fronted (keep_neither d) = record { front = refl; behind = d }

-- what the pass over xs comes to
pub record Passes (t : Tests) (w : Item → ℕ) (xs : List Item) : Type 0 where
  pub rear : (pass t xs).end.right ≡ []
  pub few : length (pass t xs).outcomes ≤ 2 * length xs - 1
  pub tidy : Tidy (end_items t xs)
  pub fuses : Fuses xs (end_items t xs)
  pub kept : bytes (end_items t xs) ≡ bytes xs
  pub lower : weigh w (end_items t xs) + merges_in (pass t xs).outcomes ≤ weigh w xs

module _ (t : Tests) (w : Item → ℕ) (pays : Pays t w) where
  pub few_of_pass : (xs : List Item) → length (pass t xs).outcomes ≤ 2 * length xs - 1
  unfolding run pass
  few_of_pass [] = omega arith
  few_of_pass (x ∷ xs) = omega (arith, (ends t w pays (2 * length (x ∷ xs)) (mark ∷ []) (x ∷ xs) tt (omega arith)).bound)

  pub passes : (xs : List Item) → Tidy xs → Passes t w xs
  unfolding run pass end_items
  passes [] h = record { rear = refl; few = omega arith; tidy = tt; fuses = none; kept = refl; lower = omega arith }
  passes (x ∷ xs) h =
      let i : Ends t w pays (mark ∷ []) (x ∷ xs) (pass t (x ∷ xs)) =
      ends t w pays (2 * length (x ∷ xs)) (mark ∷ []) (x ∷ xs) tt (omega arith) in
      let z : List Item = joined (pass t (x ∷ xs)).end.left [] in
      let f : Fronted (x ∷ xs) z = fronted (i.turns.fuses (mark ∷ x ∷ xs) (fuses_refl (mark ∷ x ∷ xs))) in
      let k : bytes (mark ∷ rest z) ≡ bytes (mark ∷ x ∷ xs) = rw f.front at i.turns.kept in
      let m : weigh w (mark ∷ rest z) + merges_in (pass t (x ∷ xs)).outcomes ≤ weigh w (mark ∷ x ∷ xs) = rw f.front at i.turns.lower in
      let d : Tidy (mark ∷ rest z) = rw f.front at (i.turns.tidy h) in
      record {
        rear = i.rear;
        few = few_of_pass (x ∷ xs);
        tidy = d;
        fuses = f.behind;
        kept = omega (arith, k);
        lower = omega (arith, m);
      }

  -- ---- for a loop that makes the looks: where it stands, f looks are left and suffice

  pub record Onward (f : ℕ) (l r : List Item) : Type 0 where
    pub starts : Starts (joined l r)
    pub enough : 2 * length r + length l ≤ f + 2

  pub onward : (f : ℕ) (l : List Item) (p : Item) (r : List Item) → Onward f l (p ∷ r)
      → 0 < f × Onward (f - 1) (look_at t l p r).next.left (look_at t l p r).next.right
  onward f l p r h =
      let v : Seen t l p r (look_at t l p r) = seen t w pays l p r h.starts in
      let two : 2 ≤ length (joined l (p ∷ r)) = two_of_starts (joined l (p ∷ r)) h.starts in
      let some : 0 < f = omega (arith, h.enough, length_joined l (p ∷ r)) in
      (some, record { starts = (look_turns t w pays v).starts h.starts; enough = omega (arith, look_nearer t w pays v, h.enough) })

pub run_look : (t : Tests) (f : ℕ) (l : List Item) (p : Item) (r : List Item) → 0 < f
    → run t f l (p ∷ r) ≡ preceded (look_at t l p r).outcome (run t (f - 1) (look_at t l p r).next.left (look_at t l p r).next.right)
unfolding run
run_look t zero l p r h = absurd (omega arith)
run_look t (suc f) l p r h = let e : suc f - 1 ≡ f = omega arith in rw e

pub run_rear : (t : Tests) (f : ℕ) (l : List Item) → run t f l [] ≡ stopped l []
unfolding run
run_rear t zero l = refl
run_rear t (suc f) l = refl
