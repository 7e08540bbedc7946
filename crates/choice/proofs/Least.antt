-- The cost of a choice's list is a path's cost; so the least choice is the path that `pick` picks, and a list partitioned once stays as it is.
-- Assumes nothing.
use Rattle.std.specs.Prelude.{Some, None}
use Prim.Native.Nat.{ℕ, ◌+◌, ◌≤◌}
use native.Mathlib.Omega.{arith}
use mathlib.Core.Path.{◌≡◌, refl, sym, ◌∙◌, ap, ap₂, subst}
use mathlib.Core.Bool.{Bool, true, false, cond}
use mathlib.Core.Logic.{inl, inr}
use mathlib.Core.List.{List, [], ◌∷◌}
use Rattle.format.specs.declared.Source.{Source}
use Rattle.format.specs.declared.Record.{Record}
use Rattle.format.specs.declared.Record.TheVariants.{New, Match}
use Rattle.format.specs.Meaning.{size_of}
use Rattle.price.specs.declared.Rates.{Rates}
use Rattle.price.specs.Price.{cost}
use Rattle.join.specs.Join.{joins, grown, join, tidy}
use Rattle.join.proofs.Joining.{joins_on, join_on, join_off, settled_tidy, tidy_settled}
use Rattle.choice.specs.Choice.{Bit, keep, store, freedom, May, IsChoice, chosen_record, chosen, list_of, cost_of, least, Early, IsLeast, keep_all}
use Rattle.choice.specs.Path.{walk, best, pick, after, step, entry_of, bytes_in}
use Rattle.choice.proofs.Path.{Beats, foremost, first, first_fits, walk_pick, pick_is_first, pick_fits, pick_beats, pick_first, choices_cong, le_beats, early_antisym}
use Rattle.choice.proofs.Unjoining.{lifted}

module _ (rates : Rates) where
  cost_cons : (r : Record) (l : List Record) → cost rates (r ∷ l) ≡ entry_of rates r + bytes_in rates r + cost rates l
  cost_cons (New s) l = omega arith
  cost_cons (Match s a) l = omega arith

  -- two that join cost one entry
  cost_grown : (r q : Record) → joins r q ≡ true → entry_of rates (grown r (size_of q)) + bytes_in rates (grown r (size_of q)) ≡ entry_of rates r + bytes_in rates r + bytes_in rates q
  cost_grown (New s) (New t) e = omega arith
  cost_grown (New s) (Match t b) e = cc
  cost_grown (Match s a) (New t) e = cc
  cost_grown (Match s a) (Match t b) e = omega arith

  -- records that join the same ones are followed at the same cost
  walk_alike : (p q : Record) → ((r : Record) → joins p r ≡ joins q r) → (rs : List Record) (c : List Bit) → walk after (step rates) rs (Some p) c ≡ walk after (step rates) rs (Some q) c
  walk_alike p q h [] c = refl
  walk_alike p q h (r ∷ rs) [] = refl
  walk_alike p q h (r ∷ rs) (b ∷ c) =
      ap (λ (x : Bool). cond x 0 (entry_of rates (chosen_record b r)) + bytes_in rates (chosen_record b r) + walk after (step rates) rs (after r b) c) (h (chosen_record b r))

  record Spent (rs : List Record) (c : List Bit) : Type 0 where
    alone : cost rates (list_of rs c) ≡ walk after (step rates) rs None c
    behind : (q : Record) → cost rates (join q (list_of rs c)) ≡ entry_of rates q + bytes_in rates q + walk after (step rates) rs (Some q) c

  spent_none : (q : Record) → cost rates (q ∷ []) ≡ entry_of rates q + bytes_in rates q + 0
  spent_none q = omega (arith, cost_cons q [])

  spent_next : (r : Record) (rs : List Record) (b : Bit) (c : List Bit) → Spent rs c → Spent (r ∷ rs) (b ∷ c)
  spent_next r rs b c ih = record { alone = ih.behind x; behind = λ q. next q (joins q x) refl }
    where
      x : Record
      x = chosen_record b r

      next : (q : Record) (y : Bool) → joins q x ≡ y
          → cost rates (join q (join x (list_of rs c))) ≡ entry_of rates q + bytes_in rates q + (cond y 0 (entry_of rates x) + bytes_in rates x + walk after (step rates) rs (Some x) c)
      next q true e =
          let both : Record = grown q (size_of x) in
          rw (join_on q x (list_of rs c) e) (omega (arith, ih.behind both, cost_grown q x e, walk_alike both x (λ p. joins_on q x p e) rs c))
      next q false e = rw (join_off q x (list_of rs c) e) (omega (arith, cost_cons q (join x (list_of rs c)), ih.behind x))

  spent : (rs : List Record) (c : List Bit) → Spent rs c
  spent [] c = record { alone = omega arith; behind = spent_none }
  spent (r ∷ rs) [] = record { alone = omega arith; behind = spent_none }
  spent (r ∷ rs) (b ∷ c) = spent_next r rs b c (spent rs c)

  -- the cost of a choice's list is its path's
  pub cost_walk : (rs : List Record) (c : List Bit) → cost rates (list_of rs c) ≡ walk after (step rates) rs None c
  cost_walk rs c = (spent rs c).alone

  -- the tidy form costs no more than the list
  pub cost_tidy : (rs : List Record) → cost rates (tidy rs) ≤ cost rates rs
  cost_tidy [] = omega arith
  cost_tidy (r ∷ rs) = omega (arith, cost_join (tidy rs), cost_cons r rs, cost_tidy rs)
    where
      cost_join : (l : List Record) → cost rates (join r l) ≤ entry_of rates r + bytes_in rates r + cost rates l
      cost_join [] = omega (arith, cost_cons r [])
      cost_join (q ∷ l) = go (joins r q) refl
        where
          go : (x : Bool) → joins r q ≡ x → cost rates (cond x (grown r (size_of q) ∷ l) (r ∷ q ∷ l)) ≤ entry_of rates r + bytes_in rates r + cost rates (q ∷ l)
          go true e = omega (arith, cost_cons (grown r (size_of q)) l, cost_grown r q e, cost_cons q l)
          go false e = omega (arith, cost_cons r (q ∷ l))

  pub least_pick : (rs : List Record) → least rates rs ≡ pick after (step rates) rs None
  least_pick rs = choices_cong (cost_of rates rs) (walk after (step rates) rs None) rs (λ c h. cost_walk rs c) ∙ pick_is_first after (step rates) rs None

  pub least_fits : (rs : List Record) → IsChoice rs (least rates rs)
  least_fits rs = rw least_pick (pick_fits after (step rates) rs None)

  pub least_cost : (rs : List Record) → cost_of rates rs (least rates rs) ≡ best after (step rates) rs None
  least_cost rs = cost_walk rs (least rates rs) ∙ rw least_pick (walk_pick after (step rates) rs None)

  -- the least choice against any other: it costs less, or as much and has 0 at the first record where they differ
  pub least_beats : (rs : List Record) (c : List Bit) → IsChoice rs c → Beats (cost_of rates rs (least rates rs)) (least rates rs) (cost_of rates rs c) c
  least_beats rs c h = rw (least_cost rs, least_pick rs, cost_walk rs c) (pick_beats after (step rates) rs None c h)

-- the least choice is least, and no other is
pub least_is_least : (r : Rates) (rs : List Record) → IsLeast r rs (least r rs)
least_is_least r rs =
    record {
      choice = least_fits r rs;
      cheapest = λ d h. le_beats (least_beats r rs d h);
      foremost = λ d h e. tie d (least_beats r rs d h) e;
    }
  where
    tie : (d : List Bit) → Beats (cost_of r rs (least r rs)) (least r rs) (cost_of r rs d) d → cost_of r rs d ≡ cost_of r rs (least r rs) → Early (least r rs) d
    tie d (inl l) e = absurd (omega (arith, l, e))
    tie d (inr k) e = k.1

pub least_alone : (r : Rates) (rs : List Record) (c : List Bit) → IsLeast r rs c → c ≡ least r rs
least_alone r rs c h =
    let m : List Bit = least r rs in
    let l = least_is_least r rs in
    let a = h.cheapest (least r rs) l.choice in
    let b = l.cheapest c h.choice in
    let e : cost_of r rs c ≡ cost_of r rs (least r rs) = omega arith in
    early_antisym c (least r rs) (h.foremost (least r rs) l.choice (sym e)) (l.foremost c h.choice e)

-- ---- a list partitioned once

-- a match is kept where it may be, held or not
match_kept : (s : ℕ) (a : Source) → foremost (freedom (Match s a)) ≡ keep
match_kept s a = go a.held
  where
    go : (h : Bool) → foremost (freedom (Match s (record { address = a.address; held = h }))) ≡ keep
    go true = refl
    go false = refl

pub match_may_keep : (s : ℕ) (a : Source) → May (freedom (Match s a)) keep
match_may_keep s a = subst (May (freedom (Match s a))) (match_kept s a) (first_fits (Match s a ∷ [])).0

-- the foremost choice leaves each record as it is
chosen_first : (l : List Record) → chosen l (first l) ≡ l
chosen_first [] = refl
chosen_first (New s ∷ l) = ap (λ (k : List Record). New s ∷ k) (chosen_first l)
chosen_first (Match s a ∷ l) = ap₂ (λ (b : Bit) (k : List Record). chosen_record b (Match s a) ∷ k) (match_kept s a) (chosen_first l)

-- the list of a choice is the list of its own foremost choice
first_list : (rs : List Record) (c : List Bit) → list_of (list_of rs c) (first (list_of rs c)) ≡ list_of rs c
first_list rs c = ap tidy (chosen_first (list_of rs c)) ∙ tidy_settled (list_of rs c) (settled_tidy (chosen rs c))

pub again : (rates : Rates) (rs : List Record) → least rates (list_of rs (least rates rs)) ≡ first (list_of rs (least rates rs))
again rates rs = least_pick rates l ∙ pick_first after (step rates) l None (omega (arith, cheap, met, led, walk_pick after (step rates) l None))
  where
    l : List Record
    l = list_of rs (least rates rs)

    p : List Bit
    p = pick after (step rates) l None

    up : (e : List Bit) × IsChoice rs e × (list_of rs e ≡ list_of l p)
    up = lifted rs (least rates rs) (least_fits rates rs) p (pick_fits after (step rates) l None)

    cheap : cost rates l ≤ cost rates (list_of rs up.0)
    cheap = le_beats (least_beats rates rs up.0 up.1)

    met : cost rates (list_of rs up.0) ≡ walk after (step rates) l None p
    met = ap (cost rates) up.2 ∙ cost_walk rates l p

    led : cost rates l ≡ walk after (step rates) l None (first l)
    led = sym (ap (cost rates) (first_list rs (least rates rs))) ∙ cost_walk rates l (first l)

pub again_list : (rates : Rates) (rs : List Record) → list_of (list_of rs (least rates rs)) (least rates (list_of rs (least rates rs))) ≡ list_of rs (least rates rs)
again_list rates rs = rw again (first_list rs (least rates rs))

first_keeps : (l : List Record) → first l ≡ keep_all l
first_keeps [] = refl
first_keeps (New s ∷ l) = ap (λ (c : List Bit). store ∷ c) (first_keeps l)
first_keeps (Match s a ∷ l) = ap₂ (λ (b : Bit) (c : List Bit). b ∷ c) (match_kept s a) (first_keeps l)

-- the least choice of a partitioned list keeps all its matches
pub again_keeps : (rates : Rates) (rs : List Record) → least rates (list_of rs (least rates rs)) ≡ keep_all (list_of rs (least rates rs))
again_keeps rates rs = again rates rs ∙ first_keeps (list_of rs (least rates rs))

-- what keeping all leaves of a list is its tidy form
pub keep_all_list : (l : List Record) → list_of l (keep_all l) ≡ tidy l
keep_all_list l = ap tidy (ap (chosen l) (sym (first_keeps l)) ∙ chosen_first l)

-- it is a choice
pub keep_all_is_choice : (l : List Record) → IsChoice l (keep_all l)
keep_all_is_choice [] = tt
keep_all_is_choice (New s ∷ l) = (refl, keep_all_is_choice l)
keep_all_is_choice (Match s a ∷ l) = (match_may_keep s a, keep_all_is_choice l)
