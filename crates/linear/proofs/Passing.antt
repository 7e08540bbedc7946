-- From the list loaded, its runs joined, to the pass's looks and items.
-- Assumes nothing.
use Prim.Native.Nat.{◌-◌, ◌*◌, ◌≤◌}
use native.Mathlib.Omega.{arith}
use mathlib.Core.Path.{◌≡◌, refl, ap, ◌∙◌}
use mathlib.Core.List.{List, []}
use lib.ListN.{length}
use Rattle.format.specs.declared.Record.{Record}
use Rattle.format.specs.Limits.{version_most}
use Rattle.format.specs.Meaning.{whole}
use Rattle.price.specs.declared.Rates.{Rates}
use Rattle.price.specs.Price.{RatesFit}
use Rattle.join.specs.Join.{tidy}
use Rattle.join.proofs.Joining.{whole_tidy}
use Rattle.rules.specs.Rules.{Item, tests_of}
use Rattle.machine.specs.declared.Machine.{Machine}
use Rattle.machine.specs.declared.Passed.{Passed}
use Rattle.machine.specs.Looks.{bytes, rest, joined, pass, end_items}
use Rattle.linear.specs.Pass.{items, pass_outcomes, pass_looks, pass_items}
use Rattle.machine.specs.Machine.{right_of, Loaded, Runnable, Ran}
use Rattle.linear.specs.Carried.{end_of}
use Rattle.linear.proofs.Theorems.{length_items, bytes_items}

module _ (rates : Rates) (rs : List Record) (m : Machine) where
  pub runnable_of_loaded : RatesFit rates → Loaded m (items (tidy rs)) → whole rs ≤ version_most → Runnable rates m
  runnable_of_loaded p h w =
      record {
        rates_fit = p;
        loaded = record { gap = h.gap; within = h.within; rear = h.rear; front = h.front; holds = refl };
        fits = omega (arith, ap bytes h.holds, bytes_items (tidy rs), whole_tidy rs);
      }

  module _ (r : Passed) (h : Loaded m (items (tidy rs))) (v : Ran rates (right_of m) r) where
    pub looks_of_ran : r.looks ≡ pass_looks rates rs
    unfolding pass_outcomes
    looks_of_ran = v.looks_are ∙ ap (λ (xs : List Item). length (pass (tests_of rates) xs).outcomes) h.holds

    pub few_of_ran : r.looks ≤ 2 * length (tidy rs) - 1
    few_of_ran = omega (arith, v.few_looks, ap length h.holds, length_items (tidy rs))

    pub end_of_ran : end_of r.list ≡ pass_items rates rs
    unfolding end_items
    end_of_ran = ap (λ (l : List Item). rest (joined l [])) (v.list_is ∙ ap (λ (xs : List Item). (pass (tests_of rates) xs).end.left) h.holds)
