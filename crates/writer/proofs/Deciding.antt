-- From a choice in its area and what was written of it to the answer and the areas of the call, and what these are where the call is accepted.
-- Assumes nothing.
use Rattle.std.specs.Prelude.{Ok, Err}
use Prim.Native.Nat.{ℕ, ◌*◌, ◌/◌, ◌≤◌}
use native.Mathlib.Omega.{arith}
use mathlib.Core.Path.{◌≡◌, refl, sym, ◌∙◌, ap}
use mathlib.Core.List.{List}
use lib.ListN.{length, take}
use Rattle.format.specs.declared.Record.{Record}
use Rattle.format.specs.Refusal.{Ruling, Answer, Accepts, figures_in}
use Rattle.format.specs.declared.Refusal.{Refusal}
use Rattle.format.specs.Record.{records_of, encode}
use Rattle.format.specs.Meaning.{whole, stored, block_of}
use Rattle.format.proofs.Rulings.{fine_of_accepts}
use Rattle.format.proofs.Rows.{length_records_of}
use Rattle.format.proofs.Encoding.{length_encode}
use Rattle.format.proofs.Rebuilding.{length_block}
use Rattle.price.specs.declared.Price.{Price}
use Rattle.price.specs.declared.Rates.{Rates}
use Rattle.price.specs.Price.{rates_of}
use Rattle.area.specs.Area.{over, Areas, areas}
use Rattle.area.proofs.Filling.{front, front_room}
use Rattle.choice.specs.Choice.{Bit, bit_bytes, bits_of, IsChoice, list_of}
use Rattle.choice.proofs.Lists.{length_choice, bits_over}
use Rattle.admit.proofs.Admitting.{Sound}
use Rattle.writer.specs.Write.{list_in}
use Rattle.writer.specs.Decide.{figures, laid, decided_answer, decided_areas, Decided, Finishable, Finished}

-- what the laws speak of, as the clauses of a contract
pub clauses : {q : Ruling} {rates : Rates} {list v : List ℕ} {c : List Bit} {looks : ℕ} {before : Areas} {r : Answer} {after : Areas}
    → Decided q rates list v c looks before r after → (r ≡ decided_answer q rates list c looks) × (after ≡ decided_areas q list v c before)
clauses d = (d.answered, d.areas_after)

pub decided_refused : {q : Ruling} {x : Refusal} {r : Answer} (rates : Rates) (list v : List ℕ) (c : List Bit) (looks : ℕ) (before : Areas) → q ≡ Err x → r ≡ Err x
    → Decided q rates list v c looks before r before
decided_refused rates list v c looks before e f = record { answered = rw e f; areas_after = rw e }

-- admitted inputs can be finished with a choice in an area that is no shorter than the one that was admitted
pub finishable : {price : Price} {list v st : List ℕ} {rates : Rates} {n : ℕ} {choice area block : List ℕ} → Sound price list v st n (length area) (length block) → rates ≡ rates_of price
    → n ≤ length choice → Finishable rates list choice v area block
finishable s e h =
    record {
      rates_fit = rw e s.fits.rates_fit;
      writable = record {
        list_at_most = s.fits.counted.list_at_most;
        version_at_most = s.fits.version_at_most;
        in_version = omega (arith, s.covered.whole_is);
        in_choice = omega (arith, s.in_choice, h);
        in_area = s.in_area;
        in_block = s.in_block;
      };
    }

-- the list of a choice area that begins with the choice c
pub list_over : (list choice choice' : List ℕ) (c : List Bit) → IsChoice (records_of list) c → choice' ≡ over (bit_bytes c) choice → list_in list choice' ≡ list_of (records_of list) c
list_over list choice choice' c is_choice chosen =
    ap (list_of (records_of list)) (ap (bits_of (length list / 12)) chosen ∙ bits_over (length list / 12) c choice (length_choice (records_of list) c is_choice ∙ length_records_of list))

-- the choice c stands in its area, and the end of the call is as it should be
pub decided : {q : Ruling} {rates : Rates} {list v choice area block : List ℕ} {c : List Bit} {looks : ℕ} {r : Answer} {choice' area' block' : List ℕ} → q ≡ Ok tt
    → IsChoice (records_of list) c → choice' ≡ over (bit_bytes c) choice → Finished rates list choice' v looks area block r area' block'
    → Decided q rates list v c looks (areas choice area block) r (areas choice' area' block')
decided {q} {rates} {list} {v} {choice} {area} {block} {c} {looks} {r} {choice'} fine is_choice chosen done =
    let listed : list_in list choice' ≡ list_of (records_of list) c = list_over list choice choice' c is_choice chosen in
    record {
      answered = rw fine (done.answered ∙ ap (λ (l : List Record). Ok (figures rates l looks)) listed);
      areas_after = rw (fine, chosen, done.area_after, done.block_after) (ap (λ (l : List Record). areas (over (bit_bytes c) choice) (over (encode l) area) (over (block_of l v) block)) listed);
    }

-- an accepted call's ruling is fine
pub decided_fine : {q : Ruling} {rates : Rates} {list v : List ℕ} {c : List Bit} {looks : ℕ} {before : Areas} {r : Answer} {after : Areas} → Decided q rates list v c looks before r after
    → Accepts r → q ≡ Ok tt
decided_fine {q} {rates} {list} {v} {c} {looks} d accepted = fine_of_accepts q (figures rates (list_of (records_of list) c) looks) (rw d.answered at accepted)

-- a call whose ruling is fine
module _ {q : Ruling} {rates : Rates} {list v : List ℕ} {c : List Bit} {looks : ℕ} {before : Areas} {r : Answer} {after : Areas} (d : Decided q rates list v c looks before r after) (fine : q ≡ Ok tt) where
  pub answer_decided : r ≡ Ok (figures rates (list_of (records_of list) c) looks)
  answer_decided = rw fine at d.answered

  pub areas_decided : after ≡ laid c (list_of (records_of list) c) v before
  areas_decided = rw fine at d.areas_after

  -- the written list, as it is handed on
  module _ {n : ℕ} (n_is : n ≡ 12 * length (list_of (records_of list) c)) where
    whole_list : n ≡ length (encode (list_of (records_of list) c))
    whole_list = n_is ∙ sym (length_encode (list_of (records_of list) c))

    pub list_handed_on : take n after.list ≡ encode (list_of (records_of list) c)
    list_handed_on = rw areas_decided (front n (encode (list_of (records_of list) c)) before.list whole_list)

    pub list_room : n ≤ length after.list
    list_room = rw areas_decided (omega (arith, whole_list, front_room (encode (list_of (records_of list) c)) before.list))

  -- and its stored block
  module _ {n : ℕ} (n_is : n ≡ stored (list_of (records_of list) c)) (in_version : whole (list_of (records_of list) c) ≤ length v) where
    whole_block : n ≡ length (block_of (list_of (records_of list) c) v)
    whole_block = n_is ∙ sym (length_block (list_of (records_of list) c) v in_version)

    pub block_handed_on : take n after.block ≡ block_of (list_of (records_of list) c) v
    block_handed_on = rw areas_decided (front n (block_of (list_of (records_of list) c) v) before.block whole_block)

    pub block_room : n ≤ length after.block
    block_room = rw areas_decided (omega (arith, whole_block, front_room (block_of (list_of (records_of list) c) v) before.block))

-- as many bytes as an answer says are there, refused or not
module _ {q : Ruling} {rates : Rates} {list v : List ℕ} {c : List Bit} {looks : ℕ} {before : Areas} {r : Answer} {after : Areas} (d : Decided q rates list v c looks before r after) where
  pub list_within : 12 * (figures_in r).entries ≤ length after.list
  list_within = go q refl
    where
      go : (k : Ruling) → q ≡ k → 12 * (figures_in r).entries ≤ length after.list
      go (Ok _) e = list_room d e (ap (λ (a : Answer). 12 * (figures_in a).entries) (answer_decided d e))
      go (Err x) e = rw (d.answered, e) (omega arith)

  pub block_within : (q ≡ Ok tt → whole (list_of (records_of list) c) ≤ length v) → (figures_in r).stored ≤ length after.block
  block_within in_version = go q refl
    where
      go : (k : Ruling) → q ≡ k → (figures_in r).stored ≤ length after.block
      go (Ok _) e = block_room d e (ap (λ (a : Answer). (figures_in a).stored) (answer_decided d e)) (in_version e)
      go (Err x) e = rw (d.answered, e) (omega arith)
