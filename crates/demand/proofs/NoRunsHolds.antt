-- Where no two neighbours of a list join, no two of what a choice leaves of it do, but for new records; so its lists, the least choice and the pass
-- are the former ones.
-- Assumes nothing.
use Prim.Native.Nat.{ℕ}
use mathlib.Core.Path.{◌≡◌, refl, ◌∙◌, ap}
use mathlib.Core.List.{List, [], ◌∷◌}
use lib.ListN.{length}
use Rattle.format.specs.declared.Record.{Record}
use Rattle.format.specs.declared.Record.TheVariants.{New, Match}
use Rattle.format.specs.Refusal.{Ruling}
use Rattle.format.specs.Record.{records_of}
use Rattle.format.specs.Meaning.{size_of}
use Rattle.price.specs.declared.Rates.{Rates}
use Rattle.price.specs.Price.{rates_of, cost}
use Rattle.join.specs.Join.{join, Settled}
use Rattle.join.proofs.Joining.{tidy_settled}
use Rattle.choice.specs.Choice.{Bit, keep, store, list_of, cost_of, least}
use Rattle.choice.proofs.Path.{choices_cong}
use Rattle.choice.proofs.Lists.{kept_apart}
use Rattle.writer.specs.Decide.{Decided}
use Rattle.rules.specs.Rules.{tests_of}
use Rattle.machine.specs.Looks.{pass, end_items}
use Rattle.linear.specs.Pass.{items, pass_outcomes, pass_choice, choice_of}
use Rattle.demand.specs.Demand.{Call}
use Rattle.demand.specs.NoRuns.{plain_join, plain_list, plain_least, plain_outcomes, plain_pass, GivesList, NoRuns}

join_new : (s : ℕ) (l : List Record) → join (New s) l ≡ plain_join (New s) l
join_new s [] = refl
join_new s (New t ∷ l) = refl
join_new s (Match t b ∷ l) = refl

list_plain : (rs : List Record) (c : List Bit) → Settled rs → list_of rs c ≡ plain_list rs c
list_plain [] c h = refl
list_plain (r ∷ rs) [] h = refl
list_plain (r ∷ rs) (store ∷ c) h = join_new (size_of r) (list_of rs c) ∙ ap (plain_join (New (size_of r))) (list_plain rs c h.1)
list_plain (New s ∷ rs) (keep ∷ c) h = join_new s (list_of rs c) ∙ ap (plain_join (New s)) (list_plain rs c h.1)
list_plain (Match s a ∷ rs) (keep ∷ c) h = kept_apart s a rs c h.0 ∙ ap (plain_join (Match s a)) (list_plain rs c h.1)

-- what a call gives by one choice and its list, it gives by another choice and list that are the same
gives_list : {q : Ruling} {r : Rates} {list v : List ℕ} {c d : List Bit} {l : List Record} {looks n : ℕ} (x : Call)
    → Decided q r list v c looks x.before x.answer x.after → c ≡ d → list_of (records_of list) d ≡ l → looks ≡ n → GivesList q r v d l n x
gives_list x made e f g = rw (← g, ← f, ← e) (record { answered = made.answered; areas_after = made.areas_after })

module _ (r : Rates) (rs : List Record) (h : Settled rs) where
  least_stays : least r rs ≡ plain_least r rs
  least_stays = choices_cong (cost_of r rs) (λ c. cost r (plain_list rs c)) rs (λ c k. ap (cost r) (list_plain rs c h))

  outcomes_stay : pass_outcomes r rs ≡ plain_outcomes r rs
  unfolding pass_outcomes
  outcomes_stay = ap (λ (l : List Record). (pass (tests_of r) (items l)).outcomes) (tidy_settled rs h)

  pass_stays : pass_choice r rs ≡ plain_pass r rs
  pass_stays = ap (λ (l : List Record). choice_of rs (end_items (tests_of r) (items l))) (tidy_settled rs h)

pub no_runs : NoRuns
no_runs price list v st x h =
    let r = rates_of price in
    let rs = records_of list in
    record {
      partition_stays = λ made. gives_list x made (least_stays r rs h) (list_plain rs (plain_least r rs) h) refl;
      pass_stays = λ made. gives_list x made.decided (pass_stays r rs h) (list_plain rs (plain_pass r rs) h) (ap length (outcomes_stay r rs h));
    }
