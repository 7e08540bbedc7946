-- Copying record by record: before record i, what was copied stands in the area, and the rest of the records rebuild what is to come.
-- Assumes nothing.
use Prim.Native.Nat.{ℕ, ◌+◌, ◌/◌, ◌≤◌, ◌<◌}
use native.Mathlib.Omega.{arith}
use mathlib.Core.Path.{◌≡◌, sym, ◌∙◌, ap}
use mathlib.Core.List.{List, [], ◌∷◌, ◌++◌}
use lib.ListN.{length, drop, length-append}
use Rattle.format.specs.declared.Record.{Record}
use Rattle.format.specs.Record.{row_at, record_of, records_of, records_from}
use Rattle.format.specs.Meaning.{whole, stored, rebuilt, part_of}
use Rattle.format.specs.WellFormed.{Inside}
use Rattle.format.proofs.Rows.{records_from_next, records_from_none, records_from_all, stored_cons}
use Rattle.format.proofs.Rebuilding.{bytes_in, rebuilt_cons, length_rebuilt, inside_rest}
use Rattle.area.specs.Area.{pasted}
use Rattle.area.proofs.Filling.{Filling, filling_start, filling_put, filling_out, filling_end, filling_room}
use Rattle.rebuild.specs.Rebuild.{Ready, filled}
use Rattle.show.specs.Show.{Lies}
use Rattle.show.proofs.Lending.{lies_first}

pub record Copied (list block st area₀ area : List ℕ) (n i used out : ℕ) : Type 0 where
  pub inside : Inside st (records_from list n i)
  pub used_is : used + stored (records_from list n i) ≡ length block
  pub filling : Filling (rebuilt (records_of list) block st) area₀ area out (rebuilt (records_from list n i) (drop used block) st)

module _ {list block st area₀ : List ℕ} (ready : Ready list block st area₀) where
  length_is : length (rebuilt (records_of list) block st) ≡ whole (records_of list)
  length_is = length_rebuilt (records_of list) block st ready.inside (omega (arith, ready.block_fits))

  room : length (rebuilt (records_of list) block st) ≤ length area₀
  room = omega (arith, ready.room, length_is)

  pub copied_start : Copied list block st area₀ area₀ (length list / 12) 0 0 0
  copied_start =
      let e : records_of list ≡ records_from list (length list / 12) 0 = records_from_all list in
      record {
        inside = rw e at ready.inside;
        used_is = omega (arith, ready.block_fits, ap stored e);
        filling = rw (← e) (filling_start (rebuilt (records_of list) block st) area₀);
      }

  module _ {area : List ℕ} {n i used out : ℕ} (c : Copied list block st area₀ area n i used out) where
    pub copied_end : n ≤ i → area ≡ filled list block st area₀
    copied_end h = filling_end (rw (records_from_none list n i h) at c.filling)

    pub copied_out : n ≤ i → out ≡ whole (records_of list)
    copied_out h = filling_out (rw (records_from_none list n i h) at c.filling) ∙ length_is

    -- r is record i
    module _ {r : Record} (is : r ≡ record_of (row_at list i)) (h : i < n) where
      split : records_from list n i ≡ r ∷ records_from list n (i + 1)
      split = records_from_next list n i h ∙ ap (λ (x : Record). x ∷ records_from list n (i + 1)) (sym is)

      still_to_come : Filling (rebuilt (records_of list) block st) area₀ area out (bytes_in block st (part_of used r) ++ rebuilt (records_from list n (i + 1)) (drop (used + stored (r ∷ [])) block) st)
      still_to_come = rw (split, rebuilt_cons r (records_from list n (i + 1)) block st used) at c.filling

      pub copied_part : Lies (part_of used r) block st
      copied_part = lies_first r (records_from list n (i + 1)) block st used (rw split at c.inside) (rw split at c.used_is)

      -- whose bytes are p
      module _ {p : List ℕ} (p_is : p ≡ bytes_in block st (part_of used r)) where
        pub copied_room : out + length p ≤ length area
        copied_room =
            omega (arith, ap length p_is, filling_room still_to_come room, length-append (bytes_in block st (part_of used r)) (rebuilt (records_from list n (i + 1)) (drop (used + stored (r ∷ [])) block) st))

        pub copied_next : {area' : List ℕ} {out' used' : ℕ} → area' ≡ pasted out p area → out' ≡ out + length p → used' ≡ used + stored (r ∷ []) → Copied list block st area₀ area' n (i + 1) used' out'
        copied_next {area'} {out'} {used'} e f g =
            record {
              inside = inside_rest r (records_from list n (i + 1)) st (rw split at c.inside);
              used_is = omega (arith, g, c.used_is, ap stored split, stored_cons r (records_from list n (i + 1)));
              filling = rw g (filling_put p (rebuilt (records_from list n (i + 1)) (drop (used + stored (r ∷ [])) block) st) (rw p_is still_to_come) room area' out' e f);
            }

      pub copied_used : used + stored (r ∷ []) ≤ length block
      copied_used = omega (arith, c.used_is, ap stored split, stored_cons r (records_from list n (i + 1)))
