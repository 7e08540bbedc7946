-- Laws of the list of a choice: how long it is, what it covers, and that it is well formed again.
-- Assumes nothing.
use Prim.Native.Nat.{ℕ, suc, ◌+◌, ◌≤◌}
use native.Mathlib.Omega.{arith}
use native.Mathlib.Numerals.{add-one}
use mathlib.Core.Path.{◌≡◌, refl, ◌∙◌, ap}
use mathlib.Core.Bool.{false}
use mathlib.Core.List.{List, [], ◌∷◌, ◌++◌}
use lib.ListN.{length, drop}
use Rattle.format.specs.declared.Source.{Source}
use Rattle.format.specs.declared.Record.{Record}
use Rattle.format.specs.declared.Record.TheVariants.{New, Match}
use Rattle.format.specs.Meaning.{size_of, whole}
use Rattle.format.proofs.Encoding.{from_shift}
use Rattle.format.specs.WellFormed.{Sized, Apart, Agrees, WellFormed}
use Rattle.area.specs.Area.{over}
use Rattle.join.specs.Join.{joins_first, join}
use Rattle.join.proofs.Joining.{join_off, length_join, whole_join, sized_join, apart_join, agrees_join}
use Rattle.choice.specs.Choice.{Bit, keep, store, bit_byte, bit_bytes, bit_at, bits_of, IsChoice, chosen_record, list_of}
use Rattle.choice.proofs.Unjoining.{keep_store}

pub length_bits : (c : List Bit) → length (bit_bytes c) ≡ length c
length_bits [] = refl
length_bits (b ∷ c) = ap suc (length_bits c)

pub length_choice : (rs : List Record) (c : List Bit) → IsChoice rs c → length c ≡ length rs
length_choice [] [] h = refl
length_choice [] (b ∷ c) h = absurd h
length_choice (r ∷ rs) [] h = absurd h
length_choice (r ∷ rs) (b ∷ c) h = ap suc (length_choice rs c h.1)

-- ---- the bits of a choice area

bit_byte_read : (b : Bit) (l : List ℕ) → bit_at (bit_byte b ∷ l) 0 ≡ b
bit_byte_read keep l = refl
bit_byte_read store l = refl

bit_shift : (x : ℕ) (l : List ℕ) (i : ℕ) → bit_at (x ∷ l) (i + 1) ≡ bit_at l i
bit_shift x l i = rw add-one

pub bits_back : (c : List Bit) (t : List ℕ) → bits_of (length c) (bit_bytes c ++ t) ≡ c
bits_back [] t = refl
bits_back (b ∷ c) t =
    rw (bit_byte_read b (bit_bytes c ++ t))
    (ap (λ (l : List Bit). b ∷ l) (from_shift (bit_at (bit_byte b ∷ (bit_bytes c ++ t))) (bit_at (bit_bytes c ++ t)) 1 (bit_shift (bit_byte b) (bit_bytes c ++ t)) 0 (length c) ∙ bits_back c t))

-- the bits of an area that begins with a choice
pub bits_over : (n : ℕ) (c : List Bit) (area : List ℕ) → length c ≡ n → bits_of n (over (bit_bytes c) area) ≡ c
bits_over n c area e = rw (← e) (bits_back c (drop (length (bit_bytes c)) area))

-- ---- kept records

-- a kept match that does not join the next record does not join what a choice leaves of it
pub kept_apart : (s : ℕ) (a : Source) (rs : List Record) (c : List Bit) → joins_first (Match s a) rs ≡ false → join (Match s a) (list_of rs c) ≡ Match s a ∷ list_of rs c
kept_apart s a [] c e = refl
kept_apart s a (r ∷ rs) [] e = refl
kept_apart s a (r ∷ rs) (keep ∷ c) e = join_off (Match s a) r (list_of rs c) e
kept_apart s a (r ∷ rs) (store ∷ c) e = join_off (Match s a) (New (size_of r)) (list_of rs c) refl

-- ---- sizes

pub length_list : (rs : List Record) (c : List Bit) → length (list_of rs c) ≤ length rs
length_list [] c = omega arith
length_list (r ∷ rs) [] = omega arith
length_list (r ∷ rs) (b ∷ c) = omega (arith, length_list rs c, length_join (chosen_record b r) (list_of rs c))

pub size_chosen : (b : Bit) (r : Record) → size_of (chosen_record b r) ≡ size_of r
size_chosen keep r = refl
size_chosen store r = refl

pub whole_list : (rs : List Record) (c : List Bit) → length c ≡ length rs → whole (list_of rs c) ≡ whole rs
whole_list [] c h = refl
whole_list (r ∷ rs) [] h = absurd (omega arith)
whole_list (r ∷ rs) (b ∷ c) h = omega (arith, whole_join (chosen_record b r) (list_of rs c), size_chosen b r, whole_list rs c (omega arith))

-- ---- well formed again

pub sized_list : (rs : List Record) (c : List Bit) → IsChoice rs c → Sized rs → Sized (list_of rs c)
sized_list [] c h k = tt
sized_list (r ∷ rs) [] h k = absurd h
sized_list (r ∷ rs) (store ∷ c) h k = sized_join (New (size_of r)) (list_of rs c) k.0 (sized_list rs c h.1 k.1)
sized_list (New s ∷ rs) (keep ∷ c) h k = keep_store h.0
sized_list (Match s a ∷ rs) (keep ∷ c) h k = sized_join (Match s a) (list_of rs c) k.0 (sized_list rs c h.1 k.1)

pub apart_list : (rs : List Record) (c : List Bit) → IsChoice rs c → Apart (list_of rs c)
apart_list [] c h = tt
apart_list (r ∷ rs) [] h = absurd h
apart_list (r ∷ rs) (store ∷ c) h = apart_join (New (size_of r)) (list_of rs c) (apart_list rs c h.1)
apart_list (New s ∷ rs) (keep ∷ c) h = keep_store h.0
apart_list (Match s a ∷ rs) (keep ∷ c) h = apart_join (Match s a) (list_of rs c) (apart_list rs c h.1)

pub agrees_list : (st : List ℕ) (rs : List Record) (c : List Bit) (v : List ℕ) → IsChoice rs c → Agrees st rs v → Agrees st (list_of rs c) v
agrees_list st [] c v f h = h
agrees_list st (r ∷ rs) [] v f h = absurd f
agrees_list st (New s ∷ rs) (keep ∷ c) v f h = keep_store f.0
agrees_list st (New s ∷ rs) (store ∷ c) v f h = agrees_join st (New s) (list_of rs c) v (h.0, agrees_list st rs c (drop s v) f.1 h.1)
agrees_list st (Match s a ∷ rs) (keep ∷ c) v f h = agrees_join st (Match s a) (list_of rs c) v (h.0, h.1, h.2, agrees_list st rs c (drop s v) f.1 h.3)
agrees_list st (Match s a ∷ rs) (store ∷ c) v f h = agrees_join st (New s) (list_of rs c) v (h.0, agrees_list st rs c (drop s v) f.1 h.3)

-- the list of any choice is a list of the same version against the same store
pub well_formed_list : (st : List ℕ) (rs : List Record) (c : List Bit) (v : List ℕ) → IsChoice rs c → WellFormed st rs v → WellFormed st (list_of rs c) v
well_formed_list st rs c v f h = record { sized = sized_list rs c f h.sized; apart = apart_list rs c f; agrees = agrees_list st rs c v f h.agrees }
