-- A list that the items of a tidy form were fused into is the list of the choice that is read off by sizes, over the records as handed in; and that
-- choice stores no match alone.
-- In order: a choice is read off its own list; items that were fused are the list of a choice of the tidy form; and so of one of the records.
-- Assumes nothing.
use Prim.Native.Nat.{ℕ, ◌+◌, ◌≤◌}
use native.Mathlib.Omega.{arith}
use mathlib.Core.Path.{◌≡◌, refl, sym, ap, subst, ◌∙◌}
use mathlib.Core.Bool.{Bool, true, false, not, cond}
use mathlib.Core.List.{List, [], ◌∷◌}
use borrow.Author.Tests.{lt-ltb, le-ltb}
use Rattle.std.proofs.Math.Bool.{and-false}
use Rattle.format.specs.declared.Source.{Source}
use Rattle.format.specs.declared.Record.{Record}
use Rattle.format.specs.declared.Record.TheVariants.{New, Match}
use Rattle.format.specs.Meaning.{size_of}
use Rattle.format.specs.WellFormed.{Sized}
use Rattle.join.specs.Join.{joins, grown, joins_first, join, tidy, Settled}
use Rattle.join.proofs.Joining.{size_grown, settled_tidy}
use Rattle.choice.specs.Choice.{Bit, keep, store, freedom, May, IsChoice, chosen_record, list_of}
use Rattle.choice.specs.Alone.{first_kept, stores_alone}
use Rattle.choice.proofs.Least.{match_may_keep}
use Rattle.choice.proofs.Lists.{kept_apart, size_chosen, sized_list}
use Rattle.choice.proofs.Unjoining.{keep_store, unjoined, carried, spared}
use Rattle.rules.specs.Rules.{Item, new, size, is_new}
use Rattle.machine.specs.Looks.{first}
use Rattle.linear.specs.Pass.{drawn, item_for, items, cut, bit_for, choice_of}
use Rattle.linear.proofs.Items.{new_drawn, size_for, shrunk_grown}
use Rattle.machine.proofs.Fusing.{Tidy, Fused, Fuses, none, keep_neither, keep_match, take_new, take_match, more_new, more_match}

-- ---- a choice is read off its own list

cut_all : (s : ℕ) (r : Record) (is : List Item) → size_of r ≡ s → cut s (item_for r) is ≡ is
cut_all s r is e = rw (le-ltb s (size (item_for r)) (omega (arith, size_for r)))

-- of two that joined, the second is left
cut_grown : (s : ℕ) (r q : Record) (is : List Item) → size_of r ≡ s → 1 ≤ size_of q → joins r q ≡ true → cut s (item_for (grown r (size_of q))) is ≡ item_for q ∷ is
cut_grown s r q is e h j =
    let both : Record = grown r (size_of q) in
    rw (lt-ltb s (size (item_for both)) (omega (arith, size_for both, size_grown r (size_of q))), ← e, shrunk_grown r q j)

bit_drawn : (h : Bool) (s : ℕ) → bit_for (drawn h s) ≡ keep
bit_drawn h s = rw (new_drawn h s)

bit_grown : (r : Record) (t : ℕ) → bit_for (item_for (grown r t)) ≡ bit_for (item_for r)
bit_grown (New s) t = refl
bit_grown (Match s a) t = bit_drawn a.held (s + t) ∙ sym (bit_drawn a.held s)

bit_chosen : (r : Record) (b : Bit) → May (freedom r) b → bit_for (item_for (chosen_record b r)) ≡ b
bit_chosen (New s) keep h = keep_store h
bit_chosen (New s) store h = refl
bit_chosen (Match s a) keep h = bit_drawn a.held s
bit_chosen (Match s a) store h = refl

module _ (r : Record) (rs : List Record) (b : Bit) (c : List Bit) (may : May (freedom r) b) where
  read_item : (i : Item) (is : List Item) (l : List Record) → bit_for i ≡ b → cut (size_of r) i is ≡ items l → choice_of rs (items l) ≡ c → choice_of (r ∷ rs) (i ∷ is) ≡ b ∷ c
  unfolding choice_of
  read_item i is l e f h = rw (e, f, h)

  read_join : (l : List Record) → Sized l → choice_of rs (items l) ≡ c → choice_of (r ∷ rs) (items (join (chosen_record b r) l)) ≡ b ∷ c
  read_join [] k h = read_item (item_for (chosen_record b r)) [] [] (bit_chosen r b may) (cut_all (size_of r) (chosen_record b r) [] (size_chosen b r)) h
  read_join (q ∷ l) k h = go (joins (chosen_record b r) q) refl
    where
      go : (y : Bool) → joins (chosen_record b r) q ≡ y → choice_of (r ∷ rs) (items (cond y (grown (chosen_record b r) (size_of q) ∷ l) (chosen_record b r ∷ q ∷ l))) ≡ b ∷ c
      go true e =
          read_item (item_for (grown (chosen_record b r) (size_of q))) (items l) (q ∷ l) (bit_grown (chosen_record b r) (size_of q) ∙ bit_chosen r b may)
          (cut_grown (size_of r) (chosen_record b r) q (items l) (size_chosen b r) k.0 e) h
      go false e =
          read_item (item_for (chosen_record b r)) (items (q ∷ l)) (q ∷ l) (bit_chosen r b may) (cut_all (size_of r) (chosen_record b r) (items (q ∷ l)) (size_chosen b r)) h

read_back : (rs : List Record) (c : List Bit) → Sized rs → IsChoice rs c → choice_of rs (items (list_of rs c)) ≡ c
unfolding choice_of
read_back [] [] k h = refl
read_back [] (b ∷ c) k h = absurd h
read_back (r ∷ rs) [] k h = absurd h
read_back (r ∷ rs) (b ∷ c) k h = read_join r rs b c h.0 (list_of rs c) (sized_list rs c h.1 k.1) (read_back rs c k.1 h.1)

-- ---- items that were fused

items_join : (s : ℕ) (l : List Record) (is : List Item) → items l ≡ is → is_new (first is) ≡ false → items (join (New s) l) ≡ new s ∷ is
items_join s [] is e n = cc
items_join s (New t ∷ l) is e n = cc
items_join s (Match t a ∷ l) is e n = ap (λ (x : List Item). new s ∷ x) e

drawn_not_new : (h : Bool) (u t : ℕ) (l is : List Item) → drawn h u ∷ l ≡ new t ∷ is → ⊥
drawn_not_new true u t l is e = let z : ◌≡◌ {A = ℕ} 0 1 = cc in omega arith
drawn_not_new false u t l is e = let z : ◌≡◌ {A = ℕ} 0 1 = cc in omega arith

items_join_new : (s t : ℕ) (l : List Record) (is : List Item) → items l ≡ new t ∷ is → items (join (New s) l) ≡ new (s + t) ∷ is
items_join_new s t [] is e = cc
items_join_new s t (New u ∷ l) is e = cc
items_join_new s t (Match u a ∷ l) is e = absurd (drawn_not_new a.held u t (items l) is e)

-- where the first item may join one before it, that one is stored
abbrev Before : Bool → Bool → Type 0
Before true k = k ≡ false
Before false k = Unit {0}

-- a choice of js whose list has these items; it stores no match alone, k saying whether the record before is kept
record Found (j : Bool) (js : List Record) (is : List Item) : Type 0 where
  choice : List Bit
  fits : IsChoice js choice
  listed : items (list_of js choice) ≡ is
  begins : first_kept choice ≡ not (is_new (first is))
  alone : (k : Bool) → Before j k → stores_alone k js choice ≡ false

-- a record stored before a choice of js
found_stored : (r : Record) (js : List Record) {j j' : Bool} {t : ℕ} {is is' : List Item} → May (freedom r) store → (i : Found j' js is') → items (join (New (size_of r)) (list_of js i.choice)) ≡ new t ∷ is
    → ((k : Bool) → Before j k → stores_alone k (r ∷ js) (store ∷ i.choice) ≡ false) → Found j (r ∷ js) (new t ∷ is)
found_stored r js may i e f = record { choice = store ∷ i.choice; fits = (may, i.fits); listed = e; begins = refl; alone = f }

-- a match before js: kept, held or not, or stored where it is not held
module _ (s : ℕ) (a : Source) (js : List Record) (ih : (j : Bool) (is : List Item) → Tidy is → Fused j (items js) is → Found j js is) (apart : joins_first (Match s a) js ≡ false) where
  found_kept : (is : List Item) → Tidy is → Fused false (items js) is → Found false (Match s a ∷ js) (item_for (Match s a) ∷ is)
  found_kept is n d =
      let i = ih false is n d in
      record {
        choice = keep ∷ i.choice;
        fits = (match_may_keep s a, i.fits);
        listed = ap items (kept_apart s a js i.choice apart) ∙ ap (λ (l : List Item). item_for (Match s a) ∷ l) i.listed;
        begins = sym (ap not (new_drawn a.held s));
        alone = λ k b. i.alone true tt;
      }

  found_match : (held : Bool) → a.held ≡ held → (j : Bool) (is : List Item) → Tidy is → Fused j (drawn held s ∷ items js) is → Found j (Match s a ∷ js) is
  found_match true e j is n (keep_neither {ys} d) = subst (λ (x : Bool). Found false (Match s a ∷ js) (drawn x s ∷ ys)) e (found_kept ys n d)
  found_match false e j is n (keep_match {ys} d) = subst (λ (x : Bool). Found false (Match s a ∷ js) (drawn x s ∷ ys)) e (found_kept ys n d)
  found_match false e j is n (take_match {ys} d) =
      let i = ih false ys n.1 d in
      found_stored (Match s a) js (rw e tt) i (items_join s (list_of js i.choice) ys i.listed n.0) (λ k b. rw b (i.alone false tt))
  found_match false e j is n (more_match {b = t} {ys} d) =
      let i = ih true (new t ∷ ys) n d in
      found_stored (Match s a) js (rw e tt) i (items_join_new s t (list_of js i.choice) ys i.listed) (λ k b. rw (i.begins, and-false k) (i.alone false refl))

found : {j : Bool} (js : List Record) (is : List Item) → Settled js → Tidy is → Fused j (items js) is → Found j js is
found [] is h n none = record { choice = []; fits = tt; listed = refl; begins = refl; alone = λ k b. refl }
found (New s ∷ js) is h n (take_new {ys} d) =
    let i = found js ys h.1 n.1 d in
    found_stored (New s) js refl i (items_join s (list_of js i.choice) ys i.listed n.0) (λ k b. i.alone false tt)
found (New s ∷ js) is h n (more_new {b = t} {ys} d) =
    let i = found js (new t ∷ ys) h.1 n d in
    found_stored (New s) js refl i (items_join_new s t (list_of js i.choice) ys i.listed) (λ k b. i.alone false refl)
found {j} (Match s a ∷ js) is h n d = found_match s a js (λ x is. found {j = x} js is h.1) h.0 a.held refl j is n d

-- ---- over the records as handed in

pub record Recovered (rs : List Record) (is : List Item) : Type 0 where
  pub choice : IsChoice rs (choice_of rs is)
  pub listed : items (list_of rs (choice_of rs is)) ≡ is
  pub alone : stores_alone true rs (choice_of rs is) ≡ false

pub recovered : (rs : List Record) (is : List Item) → Sized rs → Tidy is → Fuses (items (tidy rs)) is → Recovered rs is
recovered rs is h n d =
    let i = found (tidy rs) is (settled_tidy rs) n d in
    let c = unjoined rs i.choice in
    let k = carried rs i.choice i.fits in
    let same : items (list_of rs c) ≡ is = ap items k.1 ∙ i.listed in
    let read : choice_of rs is ≡ c = ap (choice_of rs) (sym same) ∙ read_back rs c h k.0 in
    record { choice = rw read k.0; listed = rw read same; alone = rw read ((spared rs i.choice i.fits).1 true (i.alone true tt)) }
