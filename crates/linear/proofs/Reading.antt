-- A choice read off the end items, record by record: the item at hand, less what the records before have covered of it, and the items after it.
-- Assumes nothing.
use Prim.Native.Nat.{ℕ, zero, suc, ◌+◌, ◌-◌, ◌/◌, ◌≤◌, ◌<◌}
use native.Mathlib.Omega.{arith}
use native.Mathlib.Numerals.{add-one}
use mathlib.Core.Path.{◌≡◌, refl, sym, ap, ap₂, ◌∙◌}
use mathlib.Core.Bool.{Bool, true, false}
use mathlib.Core.List.{List, [], ◌∷◌, ◌++◌}
use lib.Dec.{ltb}
use lib.ListN.{length, get_or, take, drop, set}
use lib.Seq.{append_snoc, set_split}
use borrow.Author.Tests.{ltb-true, ltb-false, lt-ltb, le-ltb}
use Rattle.format.specs.declared.Record.{Record}
use Rattle.format.specs.Record.{from, row_at, record_of, records_of, records_from}
use Rattle.format.specs.Meaning.{size_of}
use Rattle.format.proofs.Rows.{from_next, from_none, records_from_next, records_from_all, length_records_of}
use Rattle.choice.specs.Choice.{Bit, bit_byte, bit_bytes, IsChoice}
use Rattle.choice.proofs.Lists.{length_bits, length_choice}
use Rattle.area.specs.Area.{pasted}
use Rattle.area.proofs.Filling.{Filling, filling_start, filling_put}
use Rattle.rules.specs.declared.Cell.{Cell}
use Rattle.rules.specs.declared.Kind.{Kind}
use Rattle.rules.specs.declared.Kind.TheVariants as kind
use Rattle.rules.specs.Rules.{Item, new, match, neither, size, item_of}
use Rattle.rules.proofs.ByKind.{size_item}
use Rattle.machine.specs.declared.Machine.{Machine}
use Rattle.linear.specs.Pass.{shrunk, cut, bit_for, choice_of}
use Rattle.machine.specs.Machine.{item_in, cell_in}
use Rattle.linear.specs.Carried.{end_of, Covering}
use Rattle.machine.proofs.Gap.{rest_below}

-- ---- one byte stored

set_pasted : (l : List ℕ) (i b : ℕ) → i < length l → set l i b ≡ pasted i (b ∷ []) l
set_pasted l i b h = set_split l i b h ∙ sym (ap (λ (j : ℕ). (take i l ++ (b ∷ [])) ++ drop j l) (add-one i) ∙ append_snoc (take i l) b (drop (suc i) l))

-- ---- the items still to be covered

-- an item of another size
abbrev resized : ℕ → Item → Item
resized u (new s) = new u
resized u (match s) = match u
resized u (neither s) = neither u

abbrev headed : ℕ → List Item → List Item
headed u [] = []
headed u (x ∷ l) = resized u x ∷ l

resized_item : (u : ℕ) (k : Kind) (s : ℕ) → resized u (item_of k s) ≡ item_of k u
resized_item u kind.New s = refl
resized_item u kind.Match s = refl
resized_item u kind.Neither s = refl

shrunk_item : (k : Kind) (u s : ℕ) → shrunk (item_of k u) s ≡ item_of k (u - s)
shrunk_item kind.New u s = refl
shrunk_item kind.Match u s = refl
shrunk_item kind.Neither u s = refl

bit_item : (k : Kind) (u : ℕ) → bit_for (item_of k u) ≡ bit_for (item_of k 0)
bit_item kind.New u = refl
bit_item kind.Match u = refl
bit_item kind.Neither u = refl

-- the items of m from place `at` on, of which the first has so many bytes uncovered
abbrev pub to_cover : Machine → ℕ → ℕ → List Item
to_cover m at u = headed u (from (item_in m) at (m.left - at))

module _ (m : Machine) where
  cover_next : (at u : ℕ) → at < m.left → to_cover m at u ≡ item_of (get_or m.kinds at kind.New) u ∷ from (item_in m) (at + 1) (m.left - (at + 1))
  cover_next at u h =
      ap (headed u) (from_next (item_in m) at m.left h)
      ∙ ap (λ (x : Item). x ∷ from (item_in m) (at + 1) (m.left - (at + 1))) (resized_item u (get_or m.kinds at kind.New) (get_or m.sizes at 0))

  cover_none : (at u : ℕ) → m.left ≤ at → to_cover m at u ≡ []
  cover_none at u h = ap (headed u) (from_none (item_in m) at m.left h)

  cover_whole : (at : ℕ) → to_cover m at (get_or m.sizes at 0) ≡ from (item_in m) at (m.left - at)
  cover_whole at = go (m.left - at)
    where
      go : (n : ℕ) → headed (get_or m.sizes at 0) (from (item_in m) at n) ≡ from (item_in m) at n
      go zero = refl
      go (suc n) = ap (λ (x : Item). x ∷ from (item_in m) (at + 1) n) (resized_item (get_or m.sizes at 0) (get_or m.kinds at kind.New) (get_or m.sizes at 0))

  cover_start : to_cover m 1 (get_or m.sizes 1 0) ≡ end_of m
  cover_start = cover_whole 1 ∙ sym (rest_below m.kinds m.sizes m.left)

-- ---- what holds before record i

pub record Off (m : Machine) (list before : List ℕ) (area : List ℕ) (at : ℕ) (c : Cell) (i : ℕ) : Type 0 where
  pub kind_is : c.kind ≡ get_or m.kinds at kind.New
  pub at_most : at ≤ i + 1
  pub covered : IsChoice (records_from list (length list / 12) i) (choice_of (records_from list (length list / 12) i) (to_cover m at c.size))
  pub filling : Filling (bit_bytes (choice_of (records_of list) (end_of m))) before area i (bit_bytes (choice_of (records_from list (length list / 12) i) (to_cover m at c.size)))

module _ {m : Machine} {list before : List ℕ} (h : Covering m list before) where
  pub off_start : Off m list before before 1 (cell_in m 1) 0
  off_start =
      record {
        kind_is = refl;
        at_most = omega arith;
        covered = rw (cover_start m, ← records_from_all list) h.covered;
        filling = rw (cover_start m, ← records_from_all list) (filling_start (bit_bytes (choice_of (records_of list) (end_of m))) before);
      }

  fits : length (bit_bytes (choice_of (records_of list) (end_of m))) ≤ length before
  fits =
      let c = choice_of (records_of list) (end_of m) in
      omega (arith, length_bits c, length_choice (records_of list) c h.covered, h.room)

  module _ {area : List ℕ} {at : ℕ} {c : Cell} {i : ℕ} (o : Off m list before area at c i) (g : i < length list / 12) where
    pub off_room : i < length area
    off_room = omega (arith, o.filling.same, h.room, length_records_of list)

    abbrev rest_of : List Record
    rest_of = records_from list (length list / 12) (i + 1)

    abbrev here : Record
    here = record_of (row_at list i)

    -- an item is at hand
    at_hand : at < m.left
    unfolding choice_of
    at_hand = go (ltb at m.left) refl
      where
        no : IsChoice (here ∷ rest_of) (choice_of (here ∷ rest_of) []) → ⊥
        no c = c

        go : (t : Bool) → ltb at m.left ≡ t → at < m.left
        go true e = ltb-true at m.left e
        go false e = absurd (no (rw (records_from_next list (length list / 12) i g, cover_none m at c.size (ltb-false at m.left e)) at o.covered))

    opened : choice_of (records_from list (length list / 12) i) (to_cover m at c.size)
        ≡ bit_for (item_of (get_or m.kinds at kind.New) 0) ∷ choice_of rest_of (cut (size_of here) (item_of (get_or m.kinds at kind.New) c.size) (from (item_in m) (at + 1) (m.left - (at + 1))))
    unfolding choice_of
    opened =
        ap₂ choice_of (records_from_next list (length list / 12) i g) (cover_next m at c.size at_hand)
        ∙ ap (λ (b : Bit). b ∷ choice_of rest_of (cut (size_of here) (item_of (get_or m.kinds at kind.New) c.size) (from (item_in m) (at + 1) (m.left - (at + 1))))) (bit_item (get_or m.kinds at kind.New) c.size)

    module _ (at' : ℕ) (c' : Cell) (k : c'.kind ≡ get_or m.kinds at' kind.New) (a : at' ≤ i + 2) (e : cut (size_of here) (item_of (get_or m.kinds at kind.New) c.size) (from (item_in m) (at + 1) (m.left - (at + 1))) ≡ to_cover m at' c'.size) where
      off_next : {b : ℕ} → b ≡ bit_byte (bit_for (item_of c.kind 0)) → Off m list before (set area i b) at' c' (i + 1)
      off_next {b} d =
          let d' = choice_of rest_of (to_cover m at' c'.size) in
          let is : choice_of (records_from list (length list / 12) i) (to_cover m at c.size) ≡ bit_for (item_of (get_or m.kinds at kind.New) 0) ∷ d' = opened ∙ ap (λ (l : List Item). bit_for (item_of (get_or m.kinds at kind.New) 0) ∷ choice_of rest_of l) e in
          let v : IsChoice (records_from list (length list / 12) i) (bit_for (item_of (get_or m.kinds at kind.New) 0) ∷ d') = rw is at o.covered in
          let w : IsChoice (here ∷ rest_of) (bit_for (item_of (get_or m.kinds at kind.New) 0) ∷ d') = rw (records_from_next list (length list / 12) i g) at v in
          let f : Filling (bit_bytes (choice_of (records_of list) (end_of m))) before area i (b ∷ bit_bytes d') = rw d (rw o.kind_is (rw is at o.filling)) in
          record {
            kind_is = k;
            at_most = omega arith;
            covered = w.1;
            filling = filling_put (b ∷ []) (bit_bytes d') f fits (set area i b) (i + 1) (set_pasted area i b off_room) refl;
          }

    -- the record, of s bytes, leaves some of the item uncovered
    pub off_within : {s : ℕ} → s ≡ size_of here → s < c.size → {b : ℕ} → b ≡ bit_byte (bit_for (item_of c.kind 0)) → Off m list before (set area i b) at (record c { size = c.size - s }) (i + 1)
    off_within {s} z k =
        let w = size_item (get_or m.kinds at kind.New) c.size in
        let e : cut (size_of here) (item_of (get_or m.kinds at kind.New) c.size) (from (item_in m) (at + 1) (m.left - (at + 1))) ≡ to_cover m at (c.size - s) =
        rw (← z, lt-ltb s (size (item_of (get_or m.kinds at kind.New) c.size)) (omega arith))
        (ap (λ (x : Item). x ∷ from (item_in m) (at + 1) (m.left - (at + 1))) (shrunk_item (get_or m.kinds at kind.New) c.size s) ∙ sym (cover_next m at (c.size - s) at_hand)) in
        off_next at (record c { size = c.size - s }) o.kind_is (omega (arith, o.at_most)) e

    -- the record, of s bytes, ends the item
    pub off_beyond : {s : ℕ} → s ≡ size_of here → c.size ≤ s → {b : ℕ} → b ≡ bit_byte (bit_for (item_of c.kind 0)) → Off m list before (set area i b) (at + 1) (cell_in m (at + 1)) (i + 1)
    off_beyond {s} z k =
        let w = size_item (get_or m.kinds at kind.New) c.size in
        let e : cut (size_of here) (item_of (get_or m.kinds at kind.New) c.size) (from (item_in m) (at + 1) (m.left - (at + 1))) ≡ to_cover m (at + 1) (get_or m.sizes (at + 1) 0) =
        rw (← z, le-ltb s (size (item_of (get_or m.kinds at kind.New) c.size)) (omega arith)) (sym (cover_whole m (at + 1))) in
        off_next (at + 1) (cell_in m (at + 1)) refl (omega (arith, o.at_most)) e
