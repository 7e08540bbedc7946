-- Choices of a tidy form, and of the list that it was made of: each choice of the first is one of the second, with the same list; so is each choice of
-- the list of a choice; and where the first stores no match alone, nor does the second.
-- Assumes nothing.
use Prim.Native.Nat.{ℕ}
use native.Mathlib.Omega.{arith}
use mathlib.Core.Path.{◌≡◌, refl, ◌∙◌, ap}
use mathlib.Core.Bool.{Bool, true, false, cond, ◌&&◌, ◌||◌}
use mathlib.Core.List.{List, [], ◌∷◌}
use Rattle.format.specs.declared.Record.{Record}
use Rattle.format.specs.declared.Record.TheVariants.{New, Match}
use Rattle.format.specs.Meaning.{size_of}
use Rattle.join.specs.Join.{joins, grown, joins_first, join, tidy}
use Rattle.join.proofs.Joining.{goes_on_so, join_on}
use Rattle.choice.specs.Choice.{Bit, keep, store, freedom, May, IsChoice, chosen_record, chosen, list_of}
use Rattle.choice.specs.Alone.{is_kept, first_kept, stores_alone}

pub keep_store : {A : Type 0} → keep ≡ store → A
keep_store e = absurd (let z : ◌≡◌ {A = ℕ} 0 1 = cc in omega arith)

-- a choice of the tidy form, for each record of the list: records that join have one bit
abbrev pub unjoined : List Record → List Bit → List Bit
unjoined [] d = []
unjoined (r ∷ rs) [] = []
unjoined (r ∷ rs) (b ∷ d) = b ∷ unjoined rs (cond (joins_first r (tidy rs)) (b ∷ d) d)

-- ---- two records that join

free_grown : (r : Record) (t : ℕ) → freedom (grown r t) ≡ freedom r
free_grown (New s) t = refl
free_grown (Match s a) t = refl

free_joins : (r q : Record) → joins r q ≡ true → freedom r ≡ freedom q
free_joins (New s) (New t) e = refl
free_joins (New s) (Match t b) e = cc
free_joins (Match s a) (New t) e = cc
free_joins (Match s a) (Match t b) e = ap (λ (h : Bool). freedom (Match s (record { address = a.address; held = h }))) (goes_on_so s a b e).marks

-- they join whether both are kept or both are stored
joins_chosen : (b : Bit) (r q : Record) → joins r q ≡ true → joins (chosen_record b r) (chosen_record b q) ≡ true
joins_chosen keep r q e = e
joins_chosen store r q e = refl

grown_chosen : (b : Bit) (r q : Record) → grown (chosen_record b r) (size_of (chosen_record b q)) ≡ chosen_record b (grown r (size_of q))
grown_chosen keep r q = refl
grown_chosen store (New s) q = refl
grown_chosen store (Match s a) q = refl

-- ---- a choice of the tidy form

-- each choice of t is one of rs by f, with the same list
abbrev Carried : List Record → List Record → (List Bit → List Bit) → Type 0
Carried rs t f = (d : List Bit) → IsChoice t d → IsChoice rs (f d) × (list_of rs (f d) ≡ list_of t d)

-- one record more before both: it joins the first of t, or it does not
module _ (r : Record) (rs : List Record) (f : List Bit → List Bit) where
  abbrev ahead : Bool → List Bit → List Bit
  ahead x [] = []
  ahead x (b ∷ d) = b ∷ f (cond x (b ∷ d) d)

  apart : (t : List Record) → Carried rs t f → Carried (r ∷ rs) (r ∷ t) (ahead false)
  apart t h [] k = absurd k
  apart t h (b ∷ d) k = let i = h d k.1 in ((k.0, i.0), ap (join (chosen_record b r)) i.1)

  together : (q : Record) (t : List Record) → joins r q ≡ true → Carried rs (q ∷ t) f → Carried (r ∷ rs) (grown r (size_of q) ∷ t) (ahead true)
  together q t e h [] k = absurd k
  together q t e h (b ∷ d) k =
      let may : May (freedom r) b = rw (free_grown r (size_of q)) at k.0 in
      let i = h (b ∷ d) (rw (free_joins r q e) at may, k.1) in
      ((may, i.0), ap (join (chosen_record b r)) i.1 ∙ join_on (chosen_record b r) (chosen_record b q) (list_of t d) (joins_chosen b r q e) ∙ ap (λ (x : Record). join x (list_of t d)) (grown_chosen b r q))

  carried_join : (t : List Record) → Carried rs t f → Carried (r ∷ rs) (join r t) (ahead (joins_first r t))
  carried_join [] h = apart [] h
  carried_join (q ∷ t) h = go (joins r q) refl
    where
      go : (x : Bool) → joins r q ≡ x → Carried (r ∷ rs) (cond x (grown r (size_of q) ∷ t) (r ∷ q ∷ t)) (ahead x)
      go true e = together q t e h
      go false e = apart (q ∷ t) h

pub carried : (rs : List Record) → Carried rs (tidy rs) (unjoined rs)
carried [] [] k = (tt, refl)
carried [] (b ∷ d) k = absurd k
carried (r ∷ rs) [] k = carried_join r rs (unjoined rs) (tidy rs) (carried rs) [] k
carried (r ∷ rs) (b ∷ d) k = carried_join r rs (unjoined rs) (tidy rs) (carried rs) (b ∷ d) k

-- ---- a choice of the list of a choice

-- a choice of what a choice leaves is one of the records, and leaves the same
chosen_again : (rs : List Record) (c e : List Bit) → IsChoice rs c → IsChoice (chosen rs c) e → IsChoice rs e × (chosen rs e ≡ chosen (chosen rs c) e)
chosen_again [] [] [] h k = (tt, refl)
chosen_again [] [] (d ∷ e) h k = absurd k
chosen_again [] (b ∷ c) e h k = absurd h
chosen_again (r ∷ rs) [] e h k = absurd h
chosen_again (r ∷ rs) (b ∷ c) [] h k = absurd k
chosen_again (New s ∷ rs) (keep ∷ c) (d ∷ e) h k = keep_store h.0
chosen_again (New s ∷ rs) (store ∷ c) (keep ∷ e) h k = keep_store k.0
chosen_again (New s ∷ rs) (store ∷ c) (store ∷ e) h k = let i = chosen_again rs c e h.1 k.1 in ((refl, i.0), ap (λ (l : List Record). New s ∷ l) i.1)
chosen_again (Match s a ∷ rs) (keep ∷ c) (d ∷ e) h k = let i = chosen_again rs c e h.1 k.1 in ((k.0, i.0), ap (λ (l : List Record). chosen_record d (Match s a) ∷ l) i.1)
chosen_again (Match s a ∷ rs) (store ∷ c) (keep ∷ e) h k = keep_store k.0
chosen_again (Match s a ∷ rs) (store ∷ c) (store ∷ e) h k = let i = chosen_again rs c e h.1 k.1 in ((h.0, i.0), ap (λ (l : List Record). New s ∷ l) i.1)

-- a choice of the list of a choice, as a choice of the records
pub lifted : (rs : List Record) (c : List Bit) → IsChoice rs c → (d : List Bit) → IsChoice (list_of rs c) d → (e : List Bit) × IsChoice rs e × (list_of rs e ≡ list_of (list_of rs c) d)
lifted rs c h d k =
    let i = carried (chosen rs c) d k in
    let j = chosen_again rs c (unjoined (chosen rs c) d) h i.0 in
    (unjoined (chosen rs c) d, j.0, ap tidy j.1 ∙ i.1)

-- ---- a choice that stores no match alone

or_false : (x y : Bool) → (x || y) ≡ false → (x ≡ false) × (y ≡ false)
or_false true y e = (e, cc)
or_false false y e = (refl, e)

-- what f makes of a choice of t stores no match of rs alone, where that choice stores none of t alone
abbrev Spared : List Record → List Record → (List Bit → List Bit) → Type 0
Spared rs t f = (d : List Bit) → IsChoice t d → (first_kept (f d) ≡ first_kept d) × ((k : Bool) → stores_alone k t d ≡ false → stores_alone k rs (f d) ≡ false)

-- a stored match before a stored record is not alone
beside_stored : (k x y : Bool) → x ≡ false → y ≡ false → ((k && x) || y) ≡ false
beside_stored true x y e h = rw e h
beside_stored false x y e h = h

module _ (r : Record) (rs : List Record) (f : List Bit → List Bit) where
  spared_apart : (t : List Record) → Spared rs t f → (b : Bit) (d : List Bit) → IsChoice t d → (k : Bool) → stores_alone k (r ∷ t) (b ∷ d) ≡ false → stores_alone k (r ∷ rs) (b ∷ f d) ≡ false
  spared_apart t h b d c k e = go r b e
    where
      i : (first_kept (f d) ≡ first_kept d) × ((j : Bool) → stores_alone j t d ≡ false → stores_alone j rs (f d) ≡ false)
      i = h d c

      go : (q : Record) (b : Bit) → stores_alone k (q ∷ t) (b ∷ d) ≡ false → stores_alone k (q ∷ rs) (b ∷ f d) ≡ false
      go (New s) b e = i.1 (is_kept b) e
      go (Match s a) keep e = i.1 true e
      go (Match s a) store e =
          let o = or_false (k && first_kept d) (stores_alone false t d) e in
          rw (i.0, o.0) (i.1 false o.1)

  spared_together : (q : Record) (t : List Record) → joins r q ≡ true → Spared rs (q ∷ t) f → (b : Bit) (d : List Bit) → IsChoice (q ∷ t) (b ∷ d) → (k : Bool)
      → stores_alone k (grown r (size_of q) ∷ t) (b ∷ d) ≡ false → stores_alone k (r ∷ rs) (b ∷ f (b ∷ d)) ≡ false
  spared_together q t j h b d c k e = go r q b j e (h (b ∷ d) c)
    where
      go : (r q : Record) (b : Bit) → joins r q ≡ true → stores_alone k (grown r (size_of q) ∷ t) (b ∷ d) ≡ false
          → (first_kept (f (b ∷ d)) ≡ is_kept b) × ((k : Bool) → stores_alone k (q ∷ t) (b ∷ d) ≡ false → stores_alone k rs (f (b ∷ d)) ≡ false)
          → stores_alone k (r ∷ rs) (b ∷ f (b ∷ d)) ≡ false
      go (New s) (New u) b j e i = i.1 (is_kept b) e
      go (New s) (Match u a) b j e i = cc
      go (Match s a) (New u) b j e i = cc
      go (Match s a) (Match u x) keep j e i = i.1 true e
      go (Match s a) (Match u x) store j e i =
          beside_stored k (first_kept (f (store ∷ d))) (stores_alone false rs (f (store ∷ d))) i.0 (i.1 false (or_false (k && first_kept d) (stores_alone false t d) e).1)

  spared_join : (t : List Record) → Spared rs t f → (b : Bit) (d : List Bit) → IsChoice (join r t) (b ∷ d) → (k : Bool)
      → stores_alone k (join r t) (b ∷ d) ≡ false → stores_alone k (r ∷ rs) (b ∷ f (cond (joins_first r t) (b ∷ d) d)) ≡ false
  spared_join [] h b d c k e = spared_apart [] h b d c.1 k e
  spared_join (q ∷ t) h b d c k e = go (joins r q) refl c e
    where
      go : (x : Bool) → joins r q ≡ x → IsChoice (cond x (grown r (size_of q) ∷ t) (r ∷ q ∷ t)) (b ∷ d)
          → stores_alone k (cond x (grown r (size_of q) ∷ t) (r ∷ q ∷ t)) (b ∷ d) ≡ false → stores_alone k (r ∷ rs) (b ∷ f (cond x (b ∷ d) d)) ≡ false
      go true j c e = spared_together q t j h b d (rw (free_grown r (size_of q), free_joins r q j) at c.0, c.1) k e
      go false j c e = spared_apart (q ∷ t) h b d c.1 k e

pub spared : (rs : List Record) → Spared rs (tidy rs) (unjoined rs)
spared [] [] c = (refl, λ k e. e)
spared [] (b ∷ d) c = absurd c
spared (r ∷ rs) [] c = (refl, λ k e. refl)
spared (r ∷ rs) (b ∷ d) c = (refl, spared_join r rs (unjoined rs) (tidy rs) (spared rs) b d c)
