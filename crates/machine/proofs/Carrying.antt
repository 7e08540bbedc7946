-- A look on a machine. In order: the first items around a place; what a move makes of a machine, by two stores in each array, at p's place and at
-- the place of what is made; a look, from what it sees.
-- Assumes nothing.
use Prim.Native.Nat.{ℕ, ◌+◌, ◌-◌, ◌≤◌, ◌<◌}
use native.Mathlib.Omega.{arith}
use mathlib.Core.Path.{◌≡◌, refl, sym, ap, ◌∙◌}
use mathlib.Core.Bool.{Bool, true, false, cond}
use mathlib.Core.List.{List, [], ◌∷◌}
use lib.Dec.{ltb}
use lib.ListN.{length, set, length-set}
use Rattle.std.proofs.Math.Nat.{ne_of_lt}
use borrow.Author.Tests.{ltb-true, ltb-false}
use Rattle.price.specs.declared.Rates.{Rates}
use Rattle.rules.specs.declared.Cell.{Cell}
use Rattle.rules.specs.declared.Kind.{Kind}
use Rattle.rules.specs.declared.Merge.TheVariants.{Both, Before, After, Pair}
use Rattle.rules.specs.declared.Outcome.{Outcome}
use Rattle.rules.specs.declared.Outcome.TheVariants.{Advance, Merged}
use Rattle.rules.specs.Rules.{Item, new, match, neither, mark, size, is_match, Tests, tests_of, outcome_at, cell_item}
use Rattle.rules.proofs.ByKind.{size_item, outcome_no_match}
use Rattle.machine.specs.declared.Machine.{Machine}
use Rattle.machine.specs.declared.Sight.{Sight}
use Rattle.machine.specs.declared.Move.{Move}
use Rattle.machine.specs.Looks.{bytes, first, rest, after, step_back, merge_in, ended}
use Rattle.machine.specs.Machine.{item_at, item_in, below, from_place, left_of, after_of, state_of, Sighted, new_cell, gone_on, fused_back, fused_ahead, move_of, moved, reach, Reaches, Ready, Looked}
use Rattle.machine.proofs.Gap.{state_alike, cons_of, at_other, at_same, below_next, below_set, below_put, from_place_next, from_place_none, from_place_set, from_place_put, rear_set}

-- ---- the first items around a place

module _ (ks : List Kind) (ss : List ℕ) where
  pub first_below : (i : ℕ) → 0 < i → item_at ks ss (i - 1) ≡ first (below ks ss i)
  first_below i h = sym (ap first (below_next ks ss i h))

  pub none_below : (i : ℕ) → i ≡ 0 → mark ≡ first (below ks ss i)
  none_below i h = sym (ap (λ (j : ℕ). first (below ks ss j)) h)

  rest_from : (i : ℕ) → rest (from_place ks ss i) ≡ from_place ks ss (i + 1)
  rest_from i = go (ltb i 4097) refl
    where
      go : (t : Bool) → ltb i 4097 ≡ t → rest (from_place ks ss i) ≡ from_place ks ss (i + 1)
      go true e = ap rest (from_place_next ks ss i (ltb-true i 4097 e))
      go false e =
          let h : 4097 ≤ i = ltb-false i 4097 e in
          ap rest (from_place_none ks ss i h) ∙ sym (from_place_none ks ss (i + 1) (omega arith))

  rest_after : (i : ℕ) → rest (from_place ks ss (i + 1)) ≡ from_place ks ss (i + 2)
  rest_after i = let e : i + 1 + 1 ≡ i + 2 = omega arith in rest_from (i + 1) ∙ ap (from_place ks ss) e

  pub second_none : (i : ℕ) → 4096 ≤ i → mark ≡ first (rest (from_place ks ss (i + 1)))
  second_none i g = sym (ap first (rest_after i ∙ from_place_none ks ss (i + 2) (omega arith)))

  module _ (rear : item_at ks ss 4097 ≡ mark) where
    pub first_from : (i : ℕ) → i ≤ 4097 → item_at ks ss i ≡ first (from_place ks ss i)
    first_from i g = go (ltb i 4097) refl
      where
        go : (t : Bool) → ltb i 4097 ≡ t → item_at ks ss i ≡ first (from_place ks ss i)
        go true e = sym (ap first (from_place_next ks ss i (ltb-true i 4097 e)))
        go false e =
            let last : i ≡ 4097 = omega (arith, ltb-false i 4097 e) in
            ap (item_at ks ss) last ∙ rear ∙ sym (ap first (from_place_none ks ss i (ltb-false i 4097 e)))

    pub second_near : (i : ℕ) → i < 4096 → item_at ks ss (i + 2) ≡ first (rest (from_place ks ss (i + 1)))
    second_near i g = first_from (i + 2) (omega arith) ∙ sym (ap first (rest_after i))

-- ---- a move carried out

module _ (m : Machine) (hk : length m.kinds ≡ 4098) (hs : length m.sizes ≡ 4098) (v : Move) (reached : m.right < 4097) where
  -- the arrays after the store at p's place
  abbrev ks : List Kind
  ks = set m.kinds m.right v.stays.kind

  abbrev ss : List ℕ
  ss = set m.sizes m.right v.stays.size

  -- made at p's place or before it
  module _ (g : v.at ≤ m.right) where
    put_left : v.left ≡ v.at + 1 → left_of (moved m v) ≡ cell_item v.made ∷ below m.kinds m.sizes v.at
    put_left e =
        ap (below (set ks v.at v.made.kind) (set ss v.at v.made.size)) e
        ∙ below_put ks ss v.at v.made.kind v.made.size (simp length-set (omega arith)) (simp length-set (omega arith))
        ∙ cons_of refl (below_set m.kinds m.sizes m.right v.stays.kind v.stays.size v.at g)

    put_right : m.right < v.right → from_place (moved m v).kinds (moved m v).sizes v.right ≡ from_place m.kinds m.sizes v.right
    put_right h =
        from_place_set ks ss v.at v.made.kind v.made.size v.right (omega arith)
        ∙ from_place_set m.kinds m.sizes m.right v.stays.kind v.stays.size v.right h

  put_rear : v.at < 4097 → item_in (moved m v) 4097 ≡ item_in m 4097
  put_rear h = rear_set ks ss v.at v.made.kind v.made.size h ∙ rear_set m.kinds m.sizes m.right v.stays.kind v.stays.size reached

  -- made after p's place
  module _ (e : v.at ≡ m.right + 1) (h : m.right < 4096) where
    ahead_left : v.left ≤ m.right → left_of (moved m v) ≡ below m.kinds m.sizes v.left
    ahead_left g =
        below_set ks ss v.at v.made.kind v.made.size v.left (omega arith)
        ∙ below_set m.kinds m.sizes m.right v.stays.kind v.stays.size v.left g

    ahead_right : from_place (moved m v).kinds (moved m v).sizes m.right ≡ cell_item v.stays ∷ cell_item v.made ∷ rest (after_of m)
    ahead_right =
        let j = m.right in
        from_place_next (moved m v).kinds (moved m v).sizes j (omega arith)
        ∙ cons_of
        (at_other ks ss v.at v.made.kind v.made.size j (ne_of_lt (omega arith)) ∙ at_same m.kinds m.sizes j v.stays.kind v.stays.size (omega arith) (omega arith))
        (ap (from_place (moved m v).kinds (moved m v).sizes) (sym e)
        ∙ from_place_put ks ss v.at v.made.kind v.made.size (simp length-set (omega arith)) (simp length-set (omega arith)) (omega arith)
        ∙ cons_of refl
        (from_place_set m.kinds m.sizes j v.stays.kind v.stays.size (v.at + 1) (omega arith)
        ∙ sym (ap rest (ap (from_place m.kinds m.sizes) (sym e)) ∙ rest_from m.kinds m.sizes v.at)))

module _ (m : Machine) (hk : length m.kinds ≡ 4098) (hs : length m.sizes ≡ 4098) (s : Sight) (w : Sighted m s) where
  -- the one before p becomes a new record of n bytes, and p goes k on
  back : (n k : ℕ) → 0 < m.left → m.left ≤ m.right → 0 < k → m.right + k ≤ 4097
      → state_of (moved m (fused_back m.left m.right s.p (new_cell n) k)) ≡ record { left = new n ∷ rest (left_of m); right = from_place m.kinds m.sizes (m.right + k) }
  back n k some g pos h =
      let v = fused_back m.left m.right s.p (new_cell n) k in
      state_alike
      (put_left m hk hs v (omega arith) (omega arith) (omega arith) ∙ cons_of refl (sym (ap rest (below_next m.kinds m.sizes m.left some))))
      (put_right m hk hs v (omega arith) (omega arith) (omega arith))

  -- p and the one after it become a new record of n bytes, and p goes to the one before
  ahead : (n : ℕ) → 0 < m.left → m.left ≤ m.right → m.right < 4096
      → state_of (moved m (fused_ahead m.left m.right s.before (new_cell n))) ≡ step_back (left_of m) (new n ∷ rest (after_of m))
  ahead n some g h =
      let v = fused_ahead m.left m.right s.before (new_cell n) in
      let opened = below_next m.kinds m.sizes m.left some in
      state_alike
      (ahead_left m hk hs v (omega arith) refl h (omega arith))
      (ahead_right m hk hs v (omega arith) refl h ∙ cons_of (w.before_is ∙ ap first opened) refl)
      ∙ sym (ap (λ (l : List Item). step_back l (new n ∷ rest (after_of m))) opened)

  -- what an outcome makes of the list
  carried : (o : Outcome) → Reaches m.left m.right o
      → state_of (moved m (move_of m.left m.right s.before s.p o)) ≡ after o (left_of m) (item_in m m.right) (after_of m)
  carried Advance h =
      let v = gone_on m.left m.right s.p in
      let g : m.right < 4097 = omega (arith, h.ahead) in
      state_alike (put_left m hk hs v g h.gap refl ∙ cons_of w.p_is refl) (put_right m hk hs v g h.gap (omega arith))
  carried (Merged (Both n)) h = back n 2 (omega (arith, h.behind)) h.gap (omega arith) (omega (arith, h.ahead)) ∙ state_alike refl (sym (rest_after m.kinds m.sizes m.right))
  carried (Merged (Before n)) h = back n 1 (omega (arith, h.behind)) h.gap (omega arith) (omega (arith, h.ahead))
  carried (Merged (After n)) h = ahead n (omega (arith, h.behind)) h.gap (omega (arith, h.ahead))
  carried (Merged (Pair n)) h = ahead n (omega (arith, h.behind)) h.gap (omega (arith, h.ahead))

-- ---- a look, from what it sees

merge_most : (o : Outcome) → merge_in o ≤ 1
merge_most Advance = omega arith
merge_most (Merged x) = omega arith

reach_most : (o : Outcome) → reach o ≤ 2
reach_most Advance = omega arith
reach_most (Merged (Both s)) = omega arith
reach_most (Merged (Before s)) = omega arith
reach_most (Merged (After s)) = omega arith
reach_most (Merged (Pair s)) = omega arith

-- next to the rear mark no merge reaches beyond p
pub reach_mark : (t : Tests) (b p c : Item) → reach (outcome_at t b p mark c) ≤ 1
reach_mark t b (new s) c = omega arith
reach_mark t b (neither s) c = omega arith
reach_mark t (new a) (match s) c = go (t.side s)
  where
    go : (v : Bool) → reach (cond v (Merged (Before (a + s))) Advance) ≤ 1
    go true = omega arith
    go false = omega arith
reach_mark t (match a) (match s) c = omega arith
reach_mark t (neither a) (match s) c = omega arith

-- where the move of an outcome writes, and where the cursor comes
record Inside (v : Move) : Type 0 where
  gap : v.left ≤ v.right
  within : v.right ≤ 4097
  placed : v.at < 4097

inside_of_reaches : (l r : ℕ) (b p : Cell) (o : Outcome) → Reaches l r o → Inside (move_of l r b p o)
inside_of_reaches l r b p Advance h = record { gap = omega (arith, h.gap); within = omega (arith, h.ahead); placed = omega (arith, h.gap, h.ahead) }
inside_of_reaches l r b p (Merged (Both s)) h = record { gap = omega (arith, h.gap); within = omega (arith, h.ahead); placed = omega (arith, h.gap, h.ahead) }
inside_of_reaches l r b p (Merged (Before s)) h = record { gap = omega (arith, h.gap); within = omega (arith, h.ahead); placed = omega (arith, h.gap, h.ahead) }
inside_of_reaches l r b p (Merged (After s)) h = record { gap = omega (arith, h.gap); within = omega (arith, h.ahead); placed = omega (arith, h.ahead) }
inside_of_reaches l r b p (Merged (Pair s)) h = record { gap = omega (arith, h.gap); within = omega (arith, h.ahead); placed = omega (arith, h.ahead) }

first_most : (l : List Item) → size (first l) ≤ bytes l
first_most [] = omega arith
first_most (x ∷ l) = omega arith

module _ (rates : Rates) (m : Machine) (h : Ready rates m) (s : Sight) (w : Sighted m s) where
  pub sizes_fit : s.before.size + s.p.size + s.after.size ≤ 16777216
  sizes_fit =
      let a = ap size w.before_is in
      let b = ap size w.p_is in
      let c = ap size w.after_is in
      let x = size_item s.before.kind s.before.size in
      let y = size_item s.p.kind s.p.size in
      let z = size_item s.after.kind s.after.size in
      let o = ap bytes (from_place_next m.kinds m.sizes m.right h.not_rear) in
      omega (arith, h.fits, first_most (left_of m), first_most (after_of m))

  module _ (o : Outcome) (is : o ≡ outcome_at (tests_of rates) (cell_item s.before) (cell_item s.p) (cell_item s.after) (cell_item s.second)) where
    pub outcome_reaches : Reaches m.left m.right o
    outcome_reaches = record { gap = h.gap; behind = behind (ltb 0 m.left) refl; ahead = ahead_of (ltb m.right 4096) refl }
      where
        behind : (t : Bool) → ltb 0 m.left ≡ t → merge_in o ≤ m.left
        behind true e = omega (arith, ltb-true 0 m.left e, merge_most o)
        behind false e =
            let none : m.left ≡ 0 = omega (arith, ltb-false 0 m.left e) in
            let a = is ∙ outcome_no_match (tests_of rates) (cell_item s.before) (cell_item s.p) (cell_item s.after) (cell_item s.second) (ap is_match w.p_is ∙ h.front none) in
            omega (arith, ap merge_in a)

        ahead_of : (t : Bool) → ltb m.right 4096 ≡ t → m.right + reach o ≤ 4097
        ahead_of true e = omega (arith, ltb-true m.right 4096 e, reach_most o)
        ahead_of false e =
            let a = w.after_is ∙ ap first (from_place_none m.kinds m.sizes (m.right + 1) (omega (arith, ltb-false m.right 4096 e))) in
            let k = ap reach (is ∙ ap (λ (x : Item). outcome_at (tests_of rates) (cell_item s.before) (cell_item s.p) x (cell_item s.second)) a) in
            omega (arith, k, h.not_rear, reach_mark (tests_of rates) (cell_item s.before) (cell_item s.p) (cell_item s.second))

    module _ (v : Move) (e : v ≡ move_of m.left m.right s.before s.p o) where
      inside : Inside v
      inside = rw e (inside_of_reaches m.left m.right s.before s.p o outcome_reaches)

      -- the step that an outcome makes
      pub looked : length m.kinds ≡ 4098 → length m.sizes ≡ 4098 → Looked rates m (record { list = m; outcome = o; next = v; looks = 1 })
      looked hk hs =
          let holds = ap (λ (x : Move). state_of (moved m x)) e ∙ carried m hk hs s w o outcome_reaches in
          let seen : o ≡ outcome_at (tests_of rates) (first (left_of m)) (item_in m m.right) (first (after_of m)) (first (rest (after_of m))) =
          is ∙ (λ i. outcome_at (tests_of rates) (w.before_is i) (w.p_is i) (w.after_is i) (w.second_is i)) in
          record {
            one = refl;
            same = refl;
            is = (λ i. record { outcome = o; next = holds i }) ∙ ap (λ (x : Outcome). ended x (left_of m) (item_in m m.right) (after_of m)) seen;
            placed = inside.placed;
            gap = inside.gap;
            within = inside.within;
            rear = put_rear m hk hs v h.not_rear inside.placed ∙ h.rear;
          }
