-- A list laid into the places before the rear mark, from its last record on; a record that joins the one after it is laid into that one's place.
-- Assumes nothing.
use Prim.Native.Nat.{ℕ, zero, suc, ◌+◌, ◌-◌, ◌/◌, ◌≤◌, ◌<◌}
use native.Mathlib.Omega.{arith}
use native.Mathlib.Numerals.{add-one}
use Rattle.std.proofs.Math.Nat.{ne_of_lt}
use mathlib.Core.Path.{◌≡◌, refl, sym, ap, ap₂, ◌∙◌}
use mathlib.Core.Bool.{Bool, true, false, cond}
use mathlib.Core.List.{List, [], ◌∷◌}
use lib.Dec.{leb}
use lib.ListN.{length, get_or, length-set}
use borrow.Author.Tests.{leb-true, leb-false}
use Rattle.format.specs.declared.Record.{Record}
use Rattle.format.specs.declared.Record.TheVariants.{New, Match}
use Rattle.format.specs.Limits.{version_most}
use Rattle.format.specs.Record.{row_at, record_of, records_of, records_from}
use Rattle.format.specs.Meaning.{size_of, whole}
use Rattle.format.proofs.Rows.{records_from_next, records_from_back, records_from_none, records_from_all}
use Rattle.join.specs.Join.{grown, joins_first, join, tidy}
use Rattle.join.proofs.Joining.{join_true, join_settled, first_tidy, whole_tidy}
use Rattle.rules.specs.declared.Kind.{Kind}
use Rattle.rules.specs.declared.Kind.TheVariants as kind
use Rattle.rules.specs.Rules.{Item, mark, size, item_of}
use Rattle.rules.proofs.ByKind.{size_item}
use Rattle.machine.specs.declared.Machine.{Machine}
use Rattle.linear.specs.Pass.{drawn, items, item_for}
use Rattle.machine.specs.Machine.{item_at, item_in, cell_in, below, from_place, right_of, after_of, stored}
use Rattle.linear.specs.Carried.{kind_of}
use Rattle.linear.proofs.Items.{size_for}
use Rattle.machine.proofs.Gap.{at_other, rear_set, from_place_next, from_place_none, from_place_put}

-- the tidy form of the records from i on stands from p's place on, and the marks stand where they stay
pub record Laid (list : List ℕ) (m : Machine) (i : ℕ) : Type 0 where
  pub full_kinds : length m.kinds ≡ 4098
  pub full_sizes : length m.sizes ≡ 4098
  pub few : length list / 12 ≤ 4096
  pub in_n : i ≤ length list / 12
  pub placed : 4097 ≤ m.right + (length list / 12 - i)
  pub within : m.right ≤ 4097
  pub left_is : m.left ≡ 1
  pub front : item_in m 0 ≡ mark
  pub rear : item_in m 4097 ≡ mark
  pub holds : right_of m ≡ items (tidy (records_from list (length list / 12) i))

item_drawn : (h : Bool) (s : ℕ) → item_of (cond h kind.Neither kind.Match) s ≡ drawn h s
item_drawn true s = refl
item_drawn false s = refl

item_kind : (r : Record) → item_of (kind_of r) (size_of r) ≡ item_for r
item_kind (New s) = refl
item_kind (Match s a) = item_drawn a.held s

item_grown : (r : Record) (t : ℕ) → item_of (kind_of r) (size_of r + t) ≡ item_for (grown r t)
item_grown (New s) t = refl
item_grown (Match s a) t = item_drawn a.held (s + t)

-- the records from i on cover no more than all do
whole_from : (list : List ℕ) (n i : ℕ) → whole (records_from list n i) ≤ whole (records_from list n 0)
whole_from list n zero = omega arith
whole_from list n (suc i) = go (leb n i) refl (whole_from list n i)
  where
    go : (x : Bool) → leb n i ≡ x → whole (records_from list n i) ≤ whole (records_from list n 0) → whole (records_from list n (suc i)) ≤ whole (records_from list n 0)
    go true e h = rw (records_from_none list n (suc i) (omega (arith, leb-true n i e))) (omega arith)
    go false e h = rw (← add-one i) (omega (arith, h, ap whole (records_from_next list n i (leb-false n i e))))

-- what the place `right` holds where a list is not empty there
record Opened (kinds : List Kind) (sizes : List ℕ) (right : ℕ) (q : Record) (l : List Record) : Type 0 where
  inside : right < 4097
  size_is : get_or sizes right 0 ≡ size_of q
  others : from_place kinds sizes (right + 1) ≡ items l

opened_at : (kinds : List Kind) (sizes : List ℕ) (right : ℕ) (q : Record) (l : List Record) → from_place kinds sizes right ≡ items (q ∷ l) → Opened kinds sizes right q l
opened_at kinds sizes right q l h = go (leb 4097 right) refl
  where
    go : (x : Bool) → leb 4097 right ≡ x → Opened kinds sizes right q l
    go true e = absurd (let n : [] ≡ item_for q ∷ items l = sym (from_place_none kinds sizes right (leb-true 4097 right e)) ∙ h in let z : ◌≡◌ {A = ℕ} 0 1 = cc in omega arith)
    go false e =
        let i = leb-false 4097 right e in
        let both : item_at kinds sizes right ∷ from_place kinds sizes (right + 1) ≡ item_for q ∷ items l = sym (from_place_next kinds sizes right i) ∙ h in
        let item : item_at kinds sizes right ≡ item_for q = cc in
        record { inside = i; size_is = sym (size_item (get_or kinds right kind.New) (get_or sizes right 0)) ∙ ap size item ∙ size_for q; others = cc }

module _ {list : List ℕ} where
  -- the next record to be laid, r, and its cell; x says whether it joins the one after it
  module _ {m : Machine} {i : ℕ} (h : Laid list m i) (some : 0 < i)
      {r : Record} (is : r ≡ record_of (row_at list (i - 1))) {k : Kind} {s : ℕ} (kind_is : k ≡ kind_of r) (size_is : s ≡ size_of r)
      {x : Bool} (test : x ≡ joins_first (record_of (row_at list (i - 1))) (records_from list (length list / 12) (i - 1 + 1))) where
    back : records_from list (length list / 12) (i - 1) ≡ r ∷ records_from list (length list / 12) i
    back = records_from_back list (length list / 12) i some h.in_n ∙ ap (λ (y : Record). y ∷ records_from list (length list / 12) i) (sym is)

    first_is : joins_first r (tidy (records_from list (length list / 12) i)) ≡ x
    first_is =
        let up : i - 1 + 1 ≡ i = omega arith in
        first_tidy r (records_from list (length list / 12) i)
        ∙ ap₂ (λ (y : Record) (j : ℕ). joins_first y (records_from list (length list / 12) j)) is (sym up)
        ∙ sym test

    -- an item is put at the place j, before what stands after it
    laid_put : (j n : ℕ) → m.right ≤ j + 1 → j ≤ m.right → j < 4097 → 4097 ≤ j + (length list / 12 - (i - 1))
        → item_of k n ∷ from_place m.kinds m.sizes (j + 1) ≡ items (join r (tidy (records_from list (length list / 12) i)))
        → Laid list (stored (record m { right = j }) j (record { kind = k; size = n })) (i - 1)
    laid_put j n near below low placed e =
        record {
          full_kinds = length-set m.kinds j k ∙ h.full_kinds;
          full_sizes = length-set m.sizes j n ∙ h.full_sizes;
          few = h.few;
          in_n = omega (arith, h.in_n);
          placed = placed;
          within = omega arith;
          left_is = h.left_is;
          front = at_other m.kinds m.sizes j k n 0 (ne_of_lt (omega (arith, h.placed, h.few, h.in_n))) ∙ h.front;
          rear = rear_set m.kinds m.sizes j k n low ∙ h.rear;
          holds =
              from_place_put m.kinds m.sizes j k n (omega (arith, h.full_kinds)) (omega (arith, h.full_sizes)) low
              ∙ e
              ∙ sym (ap (λ (l : List Record). items (tidy l)) back);
        }

    -- it does not join the one after it, and is laid before that
    pub laid_apart : x ≡ false → Laid list (stored (record m { right = m.right - 1 }) (m.right - 1) (record { kind = k; size = s })) (i - 1)
    laid_apart e =
        let before : m.right - 1 + 1 ≡ m.right = omega (arith, h.placed, h.few) in
        laid_put (m.right - 1) s (omega arith) (omega arith) (omega (arith, h.placed, h.few, h.within)) (omega (arith, h.placed, h.in_n))
        (ap₂ (λ (y : Item) (l : List Item). y ∷ l) (ap₂ item_of kind_is size_is ∙ item_kind r) (ap (from_place m.kinds m.sizes) before ∙ h.holds)
        ∙ sym (ap items (join_settled r (tidy (records_from list (length list / 12) i)) (first_is ∙ e))))

    -- it joins the one after it
    record Joined (t : List Record) : Type 0 where
      inside : m.right < 4097
      holds : item_of k (s + (cell_in m m.right).size) ∷ after_of m ≡ items (join r t)
      most : s + (cell_in m m.right).size ≤ size_of r + whole t

    joined_at : (t : List Record) → right_of m ≡ items t → joins_first r t ≡ true → Joined t
    joined_at [] f j = absurd (let z : ◌≡◌ {A = ℕ} 0 1 = cc in omega arith)
    joined_at (q ∷ l) f j =
        let o = opened_at m.kinds m.sizes m.right q l f in
        let both : s + (cell_in m m.right).size ≡ size_of r + size_of q = ap₂ (λ (m n : ℕ). m + n) size_is o.size_is in
        record {
          inside = o.inside;
          holds = ap₂ (λ (y : Item) (k : List Item). y ∷ k) (ap₂ item_of kind_is both ∙ item_grown r (size_of q)) o.others ∙ sym (ap items (join_true r q l j));
          most = omega (arith, both);
        }

    module _ (e : x ≡ true) where
      joined : Joined (tidy (records_from list (length list / 12) i))
      joined = joined_at (tidy (records_from list (length list / 12) i)) h.holds (first_is ∙ e)

      pub laid_joined : Laid list (stored m m.right (record { kind = k; size = s + (cell_in m m.right).size })) (i - 1)
      laid_joined = laid_put m.right (s + (cell_in m m.right).size) (omega arith) (omega arith) joined.inside (omega (arith, h.placed, h.in_n)) joined.holds

      pub joined_most : whole (records_of list) ≤ version_most → s + (cell_in m m.right).size ≤ version_most
      joined_most w =
          omega (arith, joined.most, whole_tidy (records_from list (length list / 12) i), ap whole back, whole_from list (length list / 12) (i - 1), ap whole (records_from_all list), w)
