-- The theorems of the pass, at the rates r: it ends, within 2n - 1 looks for n records after joining; each merge lowers the cost; the end list has no
-- two new items side by side and is the list of the pass's choice, which is a choice.
-- Assumes nothing.
use Prim.Native.Nat.{ℕ, suc, ◌+◌, ◌-◌, ◌*◌, ◌≤◌}
use native.Mathlib.Omega.{arith}
use mathlib.Core.Path.{◌≡◌, refl, ◌∙◌, ap, ap₂}
use mathlib.Core.Bool.{Bool, true, false}
use mathlib.Core.List.{List, [], ◌∷◌}
use lib.ListN.{length}
use Rattle.format.specs.declared.Record.{Record}
use Rattle.format.specs.declared.Record.TheVariants.{New, Match}
use Rattle.format.specs.Meaning.{whole}
use Rattle.format.specs.WellFormed.{Sized, NotNew, Apart}
use Rattle.price.specs.declared.Rates.{Rates}
use Rattle.price.specs.Price.{cost}
use Rattle.join.specs.Join.{tidy}
use Rattle.join.proofs.Joining.{whole_tidy, apart_tidy}
use Rattle.choice.specs.Choice.{IsChoice, list_of}
use Rattle.choice.specs.Alone.{stores_alone}
use Rattle.choice.proofs.Least.{cost_tidy}
use Rattle.rules.specs.Rules.{is_new, tests_of}
use Rattle.machine.specs.Looks.{first, bytes, merges_in, pass}
use Rattle.machine.proofs.Fusing.{Tidy, weigh}
use Rattle.machine.proofs.Paying.{price_of, merges_pay}
use Rattle.machine.proofs.Running.{Passes, passes}
use Rattle.linear.specs.Pass.{drawn, items, pass_outcomes, pass_looks, pass_items, pass_choice}
use Rattle.linear.proofs.Items.{new_drawn, size_for}
use Rattle.linear.proofs.Recovering.{Recovered, recovered}

price_drawn : (r : Rates) (h : Bool) (s : ℕ) → price_of r (drawn h s) ≡ r.kept.0
price_drawn r true s = refl
price_drawn r false s = refl

pub cost_weigh : (r : Rates) (rs : List Record) → cost r rs ≡ weigh (price_of r) (items rs)
cost_weigh r [] = omega arith
cost_weigh r (New s ∷ rs) = omega (arith, cost_weigh r rs)
cost_weigh r (Match s a ∷ rs) = omega (arith, cost_weigh r rs, price_drawn r a.held s)

pub length_items : (rs : List Record) → length (items rs) ≡ length rs
length_items [] = refl
length_items (r ∷ rs) = ap suc (length_items rs)

pub bytes_items : (rs : List Record) → bytes (items rs) ≡ whole rs
bytes_items [] = refl
bytes_items (r ∷ rs) = ap₂ (λ (m n : ℕ). m + n) (size_for r) (bytes_items rs)

not_new_items : (rs : List Record) → NotNew rs → is_new (first (items rs)) ≡ false
not_new_items [] h = refl
not_new_items (New s ∷ rs) h = absurd h
not_new_items (Match s a ∷ rs) h = new_drawn a.held s

pub tidy_of_apart : (rs : List Record) → Apart rs → Tidy (items rs)
tidy_of_apart [] h = tt
tidy_of_apart (New s ∷ rs) h = (not_new_items rs h.0, tidy_of_apart rs h.1)
tidy_of_apart (Match s a ∷ rs) h = go a.held (tidy_of_apart rs h)
  where
    go : (x : Bool) → Tidy (items rs) → Tidy (drawn x s ∷ items rs)
    go true k = k
    go false k = k

module _ (r : Rates) (rs : List Record) where
  pass_of : Passes (tests_of r) (price_of r) (items (tidy rs))
  pass_of = passes (tests_of r) (price_of r) (merges_pay r) (items (tidy rs)) (tidy_of_apart (tidy rs) (apart_tidy rs))

  -- p comes to the rear
  pub pass_ends : (pass (tests_of r) (items (tidy rs))).end.right ≡ []
  pass_ends = pass_of.rear

  -- the end list never has two new items side by side
  pub pass_tidy : Tidy (pass_items r rs)
  pass_tidy = pass_of.tidy

  -- and covers as many bytes
  pub pass_bytes : bytes (pass_items r rs) ≡ whole rs
  pass_bytes = pass_of.kept ∙ bytes_items (tidy rs) ∙ whole_tidy rs

-- the pass at the rates r over the records rs: few looks, a choice, whose list is the end list, at no higher cost than the list that it starts from,
-- where the runs are joined, which costs no more than the list handed in
pub record PassHolds (r : Rates) (rs : List Record) : Type 0 where
  pub few : pass_looks r rs ≤ 2 * length (tidy rs) - 1
  pub choice : IsChoice rs (pass_choice r rs)
  pub listed : items (list_of rs (pass_choice r rs)) ≡ pass_items r rs
  pub lower : cost r (list_of rs (pass_choice r rs)) ≤ cost r (tidy rs)
  pub joined_lower : cost r (tidy rs) ≤ cost r rs

module _ (r : Rates) (rs : List Record) (sized : Sized rs) where
  pub pass_recovered : Recovered rs (pass_items r rs)
  pass_recovered = recovered rs (pass_items r rs) sized (pass_of r rs).tidy (pass_of r rs).fuses

  -- the cost of the pass's list is lower than the joined list's by at least 1 for each merge
  pub merges_lower : cost r (list_of rs (pass_choice r rs)) + merges_in (pass_outcomes r rs) ≤ cost r (tidy rs)
  unfolding pass_outcomes
  merges_lower =
      let c = ap (weigh (price_of r)) pass_recovered.listed in
      omega (arith, (pass_of r rs).lower, cost_weigh r (tidy rs), cost_weigh r (list_of rs (pass_choice r rs)), c)

  pub pass_holds : PassHolds r rs
  unfolding pass_outcomes
  pass_holds =
      record {
        few = omega (arith, (pass_of r rs).few, length_items (tidy rs));
        choice = pass_recovered.choice;
        listed = pass_recovered.listed;
        lower = omega (arith, merges_lower);
        joined_lower = cost_tidy r rs;
      }

  -- it stores no match alone
  pub pass_none_alone : stores_alone true rs (pass_choice r rs) ≡ false
  pass_none_alone = pass_recovered.alone
