-- Counting the entries and the stored bytes of a choice's list: before record i, what is counted, and what is to come.
-- Assumes nothing.
use Rattle.std.specs.Prelude.{Some, None}
use Prim.Native.Nat.{ℕ, ◌+◌, ◌/◌, ◌≤◌, ◌<◌}
use native.Mathlib.Omega.{arith}
use mathlib.Core.Path.{◌≡◌, sym, ◌∙◌, ap}
use mathlib.Core.Bool.{cond}
use mathlib.Core.List.{List, [], ◌∷◌}
use lib.ListN.{length}
use Rattle.format.specs.declared.Record.{Record}
use Rattle.format.specs.Limits.{version_most}
use Rattle.format.specs.Record.{row_at, record_of, records_of}
use Rattle.format.specs.Meaning.{stored}
use Rattle.format.proofs.Rows.{stored_cons, length_from, length_records_of}
use Rattle.format.proofs.Rebuilding.{stored_most}
use Rattle.join.specs.Open.{Open, follows}
use Rattle.join.proofs.Joining.{stored_tidy}
use Rattle.join.proofs.Opening.{entries_after, entries_tidy}
use Rattle.choice.specs.Choice.{bit_at, bits_of, chosen, chosen_record}
use Rattle.choice.proofs.Lists.{length_list, whole_list}
use Rattle.writer.specs.Write.{list_in, chosen_from}
use Rattle.writer.proofs.Writing.{chosen_from_all, chosen_from_none, chosen_from_next}
use Rattle.estimate.specs.Count.{CountReady, CountsOf}

-- before record i of n, after the record o: what is counted, and what is to come
pub record Counting (list choice : List ℕ) (n i : ℕ) (o : Open) (e s : ℕ) : Type 0 where
  pub entries_sum : length (list_in list choice) ≡ e + entries_after o (chosen_from list choice n i)
  pub stored_sum : stored (list_in list choice) ≡ s + stored (chosen_from list choice n i)

module _ (list choice : List ℕ) where
  pub counting_start : Counting list choice (length list / 12) 0 None 0 0
  counting_start =
      let l : List Record = chosen (records_of list) (bits_of (length list / 12) choice) in
      record {
        entries_sum = rw (chosen_from_all list choice) (omega (arith, entries_tidy l));
        stored_sum = rw (chosen_from_all list choice) (omega (arith, stored_tidy l));
      }

  module _ (n i : ℕ) (o : Open) (e s : ℕ) (g : Counting list choice n i o e s) where
    -- r is record i by its choice byte
    pub counting_next : (r : Record) → r ≡ chosen_record (bit_at choice i) (record_of (row_at list i)) → i < n → (d m : ℕ) → d ≡ cond (follows o r) 0 1 → m ≡ stored (r ∷ [])
        → Counting list choice n (i + 1) (Some r) (e + d) (s + m)
    counting_next r is h d m d_is m_is =
        let next = chosen_from_next list choice n i r is h in
        record {
          entries_sum = omega (arith, g.entries_sum, ap (entries_after o) next, d_is);
          stored_sum = omega (arith, g.stored_sum, ap stored next ∙ stored_cons r (chosen_from list choice n (i + 1)), m_is);
        }

    pub counting_end : n ≤ i → CountsOf list choice (record { entries = e; stored = s })
    counting_end h =
        let none = chosen_from_none list choice n i h in
        record { entries_are = omega (arith, g.entries_sum, ap (entries_after o) none); stored_are = omega (arith, g.stored_sum, ap stored none) }

  -- the counts stay within what the list may have
  module _ (ready : CountReady list choice) {n i : ℕ} {o : Open} {e s : ℕ} (g : Counting list choice n i o e s) where
    pub entries_most : e ≤ 4096
    entries_most = omega (arith, g.entries_sum, length_list (records_of list) (bits_of (length list / 12) choice), length_records_of list, ready.list_at_most)

    pub stored_within : s ≤ version_most
    stored_within =
        let bits : length (bits_of (length list / 12) choice) ≡ length (records_of list) = length_from (bit_at choice) 0 (length list / 12) ∙ sym (length_records_of list) in
        omega (arith, g.stored_sum, stored_most (list_in list choice), whole_list (records_of list) (bits_of (length list / 12) choice) bits, ready.whole_most)
