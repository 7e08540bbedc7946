-- What a choice leaves of the records, and the runs of stored ones; the stored block, record by record; and what both writings ask.
-- Assumes nothing.
use Prim.Native.Nat.{ℕ, ◌+◌, ◌-◌, ◌/◌, ◌≤◌, ◌<◌}
use native.Mathlib.Omega.{arith}
use mathlib.Core.Path.{◌≡◌, refl, sym, ◌∙◌, ap}
use mathlib.Core.List.{List, [], ◌∷◌, ◌++◌}
use lib.ListN.{length, take, drop, get_or, length-append, length-drop}
use lib.Seq.{drop-drop, length-take-le}
use borrow.Author.Tests.{ne_eqb}
use Rattle.format.specs.declared.Source.{Source}
use Rattle.format.specs.declared.Record.{Record}
use Rattle.format.specs.declared.Record.TheVariants.{New, Match}
use Rattle.format.specs.Record.{from, row_at, record_of, records, records_of, encode, records_from}
use Rattle.format.specs.Meaning.{size_of, whole, stored, block_of}
use Rattle.format.proofs.Rows.{records_from_next, records_from_none, records_from_all, from_next, length_from, length_records_of}
use Rattle.format.proofs.Rebuilding.{length_block, stored_most}
use Rattle.format.proofs.Encoding.{length_encode, records_encode}
use Rattle.price.specs.Price.{news}
use Rattle.area.specs.Area.{pasted}
use Rattle.area.proofs.Filling.{Filling, filling_start, filling_put, filling_end, filling_out, filling_room}
use Rattle.join.specs.Join.{join, tidy}
use Rattle.join.proofs.Joining.{join_on, whole_tidy}
use Rattle.emit.proofs.Listing.{entry_one}
use Rattle.choice.specs.Choice.{bit_at, bits_of, chosen, chosen_record}
use Rattle.choice.proofs.Lists.{whole_list, length_list}
use Rattle.writer.specs.Write.{list_in, block_in, chosen_from, RunOf, ListReady, BlockReady, BlockWritten, Writable}

-- ---- what a choice leaves of the records

pub chosen_from_all : (list choice : List ℕ) → chosen_from list choice (length list / 12) 0 ≡ chosen (records_of list) (bits_of (length list / 12) choice)
chosen_from_all list choice =
    let e : length list / 12 - 0 ≡ length list / 12 = omega arith in
    ap (λ (m : ℕ). chosen (records (from (row_at list) 0 m)) (from (bit_at choice) 0 m)) e

pub chosen_from_none : (list choice : List ℕ) (n i : ℕ) → n ≤ i → chosen_from list choice n i ≡ []
chosen_from_none list choice n i h = rw (records_from_none list n i h)

pub chosen_from_next : (list choice : List ℕ) (n i : ℕ) (r : Record) → r ≡ chosen_record (bit_at choice i) (record_of (row_at list i)) → i < n
    → chosen_from list choice n i ≡ r ∷ chosen_from list choice n (i + 1)
chosen_from_next list choice n i r is h = rw (records_from_next list n i h, from_next (bit_at choice) i n h, ← is)

-- ---- one entry

module _ (list choice : List ℕ) (n k : ℕ) (h : k < n) where
  run_one : (r : Record) → r ≡ chosen_record (bit_at choice k) (record_of (row_at list k)) → RunOf list choice n k (record { entry = r; next = k + 1 })
  run_one r is = record { later = omega arith; within = omega arith; stands = rw (chosen_from_next list choice n k r is h) (entry_one r (chosen_from list choice n (k + 1))) }

  module _ (r : Record) (is : r ≡ record_of (row_at list k)) where
    -- record k is kept
    pub run_kept : get_or choice k 0 ≡ 0 → RunOf list choice n k (record { entry = r; next = k + 1 })
    run_kept e = run_one r (rw e is)

    -- record k is stored
    pub run_stored : (s : ℕ) → s ≡ size_of r → (get_or choice k 0 ≡ 0 → ⊥) → RunOf list choice n k (record { entry = New s; next = k + 1 })
    run_stored s size e = run_one (New s) (rw (ne_eqb (get_or choice k 0) 0 e) (ap New (size ∙ ap size_of is)))

-- and one more
pub run_more : {list choice : List ℕ} {n i k m s : ℕ} → RunOf list choice n i (record { entry = New m; next = k }) → RunOf list choice n k (record { entry = New s; next = k + 1 })
    → RunOf list choice n i (record { entry = New (m + s); next = k + 1 })
run_more {list} {choice} {n} {i} {k} {m} {s} a b =
    record {
      later = omega (arith, a.later);
      within = b.within;
      stands = record {
        listed = a.stands.listed ∙ ap (join (New m)) b.stands.listed ∙ join_on (New m) (New s) (tidy (chosen_from list choice n (k + 1))) refl;
        sizes = omega (arith, a.stands.sizes, b.stands.sizes);
      };
    }

-- ---- the stored block

pub record Storing (list v block₀ block : List ℕ) (n i at out fresh : ℕ) : Type 0 where
  pub filling : Filling (block_of (records_of list) v) block₀ block out (block_of (records_from list n i) (drop at v))
  pub sizes : at + whole (records_from list n i) ≤ length v
  pub counted : news (records_of list) ≡ fresh + news (records_from list n i)
  pub few : fresh ≤ i

pub storing_start : {list v block₀ : List ℕ} → BlockReady list v block₀ → Storing list v block₀ block₀ (length list / 12) 0 0 0 0
storing_start {list} {v} {block₀} ready =
    record {
      filling = rw (← records_from_all list) (filling_start (block_of (records_of list) v) block₀);
      sizes = omega (arith, ready.in_version, ap whole (records_from_all list));
      counted = omega (arith, ap news (records_from_all list));
      few = omega arith;
    }

module _ {list v block₀ block : List ℕ} {n i at out fresh : ℕ} (g : Storing list v block₀ block n i at out fresh) where
  pub storing_end : n ≤ i → BlockWritten list v block₀ block (record { bytes = out; fresh = fresh })
  storing_end h =
      let ended : records_from list n i ≡ [] = records_from_none list n i h in
      let done : Filling (block_of (records_of list) v) block₀ block out [] = rw ended at g.filling in
      record { area_after = filling_end done; length_is = filling_out done; fresh_is = omega (arith, g.counted, ap news ended) }

  module _ {r : Record} (is : r ≡ record_of (row_at list i)) (h : i < n) where
    next : records_from list n i ≡ r ∷ records_from list n (i + 1)
    next = rw is (records_from_next list n i h)

    pub storing_size : at + size_of r ≤ length v
    storing_size = omega (arith, g.sizes, ap whole next)

    pub storing_match : {s : ℕ} {a : Source} {at' : ℕ} → r ≡ Match s a → at' ≡ at + size_of r → Storing list v block₀ block n (i + 1) at' out fresh
    storing_match {s} {a} {at'} m e =
        let f : at' ≡ at + s = e ∙ ap (λ (x : Record). at + size_of x) m in
        let k : records_from list n i ≡ Match s a ∷ records_from list n (i + 1) = next ∙ ap (λ (x : Record). x ∷ records_from list n (i + 1)) m in
        record {
          filling = rw (f, ← drop-drop s at v) (rw k at g.filling);
          sizes = omega (arith, g.sizes, ap whole k);
          counted = omega (arith, g.counted, ap news k);
          few = omega (arith, g.few);
        }

    -- a new record, whose bytes are p
    module _ {s : ℕ} (m : r ≡ New s) {p : List ℕ} (p_is : p ≡ take s (drop at v)) (room : length (block_of (records_of list) v) ≤ length block₀) where
      next_new : records_from list n i ≡ New s ∷ records_from list n (i + 1)
      next_new = next ∙ ap (λ (x : Record). x ∷ records_from list n (i + 1)) m

      part_length : length p ≡ s
      part_length = ap length p_is ∙ length-take-le s (drop at v) (omega (arith, length-drop at v, storing_size, ap size_of m))

      to_store : Filling (block_of (records_of list) v) block₀ block out (p ++ block_of (records_from list n (i + 1)) (drop (at + s) v))
      to_store = rw (p_is, ← drop-drop s at v) (rw next_new at g.filling)

      pub storing_room : out + length p ≤ length block
      storing_room = omega (arith, filling_room to_store room, length-append p (block_of (records_from list n (i + 1)) (drop (at + s) v)))

      pub storing_new : {block' : List ℕ} {at' out' : ℕ} → block' ≡ pasted out p block → at' ≡ at + size_of r → out' ≡ out + length p
          → Storing list v block₀ block' n (i + 1) at' out' (fresh + 1)
      storing_new {block'} {at'} {out'} e f k =
          let f' : at' ≡ at + s = f ∙ ap (λ (x : Record). at + size_of x) m in
          record {
            filling = rw f' (filling_put p (block_of (records_from list n (i + 1)) (drop (at + s) v)) to_store room block' out' e k);
            sizes = omega (arith, g.sizes, ap whole next_new);
            counted = omega (arith, g.counted, ap news next_new);
            few = omega (arith, g.few);
          }

-- ---- both

module _ (list choice v area block : List ℕ) (w : Writable list choice v area block) where
  length_bits_in : length (bits_of (length list / 12) choice) ≡ length (records_of list)
  length_bits_in = length_from (bit_at choice) 0 (length list / 12) ∙ sym (length_records_of list)

  whole_in : whole (list_in list choice) ≡ whole (records_of list)
  whole_in = whole_list (records_of list) (bits_of (length list / 12) choice) length_bits_in

  pub entries_most : length (list_in list choice) ≤ length list / 12
  entries_most = omega (arith, length_list (records_of list) (bits_of (length list / 12) choice), length_records_of list)

  pub block_length : length (block_in list choice v) ≡ stored (list_in list choice)
  block_length = length_block (list_in list choice) v (omega (arith, whole_in, w.in_version))

  pub block_most : length (block_in list choice v) ≤ length v
  block_most = omega (arith, block_length, stored_most (list_in list choice), whole_in, w.in_version)

  pub list_ready : ListReady list choice area
  list_ready =
      record {
        in_choice = w.in_choice;
        whole_most = omega (arith, whole_tidy (chosen (records_of list) (bits_of (length list / 12) choice)), whole_in, w.in_version, w.version_at_most);
        room = omega (arith, length_encode (list_in list choice), entries_most, w.in_area);
      }

  -- the bytes of the written list
  module _ (written : List ℕ) (is : written ≡ encode (list_in list choice)) where
    pub written_records : records_of written ≡ list_in list choice
    written_records = ap records_of is ∙ records_encode (list_in list choice)

    pub block_ready : BlockReady written v block
    block_ready =
        record {
          in_version = rw written_records (omega (arith, whole_in, w.in_version));
          room = rw written_records (omega (arith, block_most, w.in_block));
        }
