-- The looks of a pass, made one after the other on a machine: what holds before each look, and what the last leaves.
-- Assumes nothing.
use Prim.Native.Nat.{ℕ, ◌+◌, ◌-◌, ◌*◌, ◌≤◌, ◌<◌}
use native.Mathlib.Omega.{arith}
use mathlib.Core.Path.{◌≡◌, sym, ap, subst, ◌∙◌}
use mathlib.Core.List.{List, [], ◌∷◌}
use lib.ListN.{length, length-set}
use Rattle.format.specs.Limits.{version_most}
use Rattle.format.proofs.Rows.{length_from}
use Rattle.price.specs.declared.Rates.{Rates}
use Rattle.rules.specs.Rules.{Item, mark, tests_of}
use Rattle.machine.specs.declared.Machine.{Machine}
use Rattle.machine.specs.declared.Step.{Step}
use Rattle.machine.specs.declared.Passed.{Passed}
use Rattle.machine.specs.Looks.{bytes, State, Look, look_at, Run, stopped, preceded, run, pass}
use Rattle.machine.specs.Machine.{item_at, item_in, left_of, right_of, after_of, left_by, Looked, Runnable, Ran}
use Rattle.machine.proofs.Fusing.{Some, Starts, bytes_joined}
use Rattle.machine.proofs.Looks.{seen, look_turns}
use Rattle.machine.proofs.Running.{few_of_pass, Onward, onward, run_look, run_rear}
use Rattle.machine.proofs.Paying.{price_of, merges_pay}
use Rattle.machine.proofs.Gap.{from_place_next, from_place_none}

-- before a look, with so many made: the list is sound, the looks that are left are enough, and the pass comes to what they come to
pub record Round (rates : Rates) (xs : List Item) (m : Machine) (looks : ℕ) : Type 0 where
  pub full_kinds : length m.kinds ≡ 4098
  pub full_sizes : length m.sizes ≡ 4098
  pub gap : m.left ≤ m.right
  pub within : m.right ≤ 4097
  pub rear : item_in m 4097 ≡ mark
  pub fits : bytes (left_of m) + bytes (right_of m) ≤ version_most
  pub few : length xs ≤ 4097
  pub going : m.right < 4097 → Onward (tests_of rates) (price_of rates) (merges_pay rates) (2 * length xs - looks) (left_of m) (right_of m)
  pub end_same : (pass (tests_of rates) xs).end ≡ (run (tests_of rates) (2 * length xs - looks) (left_of m) (right_of m)).end
  pub looks_same : length (pass (tests_of rates) xs).outcomes ≡ looks + length (run (tests_of rates) (2 * length xs - looks) (left_of m) (right_of m)).outcomes

module _ {rates : Rates} where
  pub round_start : {m : Machine} → Runnable rates m → length m.kinds ≡ 4098 → length m.sizes ≡ 4098 → Round rates (right_of m) m 0
  unfolding pass
  round_start {m} h hk hs =
      let n = 2 * length (right_of m) in
      let all : n - 0 ≡ n = omega arith in
      let f = h.loaded.front in
      record {
        full_kinds = hk;
        full_sizes = hs;
        gap = h.loaded.gap;
        within = h.loaded.within;
        rear = h.loaded.rear;
        fits = omega (arith, ap bytes f, h.fits);
        few = omega (arith, length_from (item_at m.kinds m.sizes) m.right (4097 - m.right));
        going = λ g.
            let one : length (left_of m) ≡ 1 = ap length f in
            let s : Starts (mark ∷ right_of m) = subst (λ (l : List Item). Some l) (sym (from_place_next m.kinds m.sizes m.right g)) tt in
            record { starts = rw f s; enough = omega (arith, one) };
        end_same = rw (f, all);
        looks_same = rw (f, all) (omega arith);
      }

  module _ {xs : List Item} {m : Machine} {looks : ℕ} (h : Round rates xs m looks) where
    module _ (g : m.right < 4097) where
      opened : right_of m ≡ item_in m m.right ∷ after_of m
      opened = from_place_next m.kinds m.sizes m.right g

      on : Onward (tests_of rates) (price_of rates) (merges_pay rates) (2 * length xs - looks) (left_of m) (item_in m m.right ∷ after_of m)
      on = rw opened at (h.going g)

      pub looks_left : looks < 2 * length xs
      looks_left = let some = (onward (tests_of rates) (price_of rates) (merges_pay rates) (2 * length xs - looks) (left_of m) (item_in m m.right) (after_of m) on).0 in omega (arith, some)

      pub round_next : {s : Step} → Looked rates m s → Round rates xs (left_by s) (looks + s.looks)
      round_next {s} v =
          let t = tests_of rates in
          let f = 2 * length xs - looks in
          let p = item_in m m.right in
          let o : Look = look_at t (left_of m) p (after_of m) in
          let l : left_of (left_by s) ≡ o.next.left = ap (λ (x : Look). x.next.left) v.is in
          let r : right_of (left_by s) ≡ o.next.right = ap (λ (x : Look). x.next.right) v.is in
          let k = onward t (price_of rates) (merges_pay rates) f (left_of m) p (after_of m) on in
          let less : 2 * length xs - (looks + s.looks) ≡ f - 1 = omega (arith, v.one) in
          let u : run t f (left_of m) (right_of m) ≡ preceded o.outcome (run t (f - 1) o.next.left o.next.right) =
          ap (run t f (left_of m)) opened ∙ run_look t f (left_of m) p (after_of m) k.0 in
          let kept = (look_turns t (price_of rates) (merges_pay rates) (seen t (price_of rates) (merges_pay rates) (left_of m) p (after_of m) on.starts)).kept in
          record {
            full_kinds = simp length-set (ap (λ (x : Machine). length x.kinds) v.same ∙ h.full_kinds);
            full_sizes = simp length-set (ap (λ (x : Machine). length x.sizes) v.same ∙ h.full_sizes);
            gap = v.gap;
            within = v.within;
            rear = v.rear;
            fits = omega (arith, h.fits, ap bytes l, ap bytes r, ap bytes opened, kept, bytes_joined o.next.left o.next.right, bytes_joined (left_of m) (p ∷ after_of m));
            few = h.few;
            going = λ g. rw (l, r, less) k.1;
            end_same = rw (l, r, less) (h.end_same ∙ ap (λ (x : Run). x.end) u);
            looks_same = rw (l, r, less) (h.looks_same ∙ ap (λ (x : Run). looks + length x.outcomes) u ∙ omega (arith, v.one));
          }

    pub round_end : 4097 ≤ m.right → {r : Passed} → r.looks ≡ looks → r.list ≡ m → Ran rates xs r
    round_end g {r} a b =
        let none : right_of m ≡ [] = from_place_none m.kinds m.sizes m.right g in
        let u : run (tests_of rates) (2 * length xs - looks) (left_of m) (right_of m) ≡ stopped (left_of m) [] =
        ap (run (tests_of rates) (2 * length xs - looks) (left_of m)) none ∙ run_rear (tests_of rates) (2 * length xs - looks) (left_of m) in
        let all : r.looks ≡ length (pass (tests_of rates) xs).outcomes = a ∙ omega (arith, h.looks_same, ap (λ (x : Run). length x.outcomes) u) in
        record {
          looks_are = all;
          few_looks = omega (arith, all, few_of_pass (tests_of rates) (price_of rates) (merges_pay rates) xs);
          list_is = ap left_of b ∙ sym (ap (λ (x : State). x.left) h.end_same ∙ ap (λ (x : Run). x.end.left) u);
          within = rw b (omega (arith, h.gap, h.within));
        }
