-- The laws of compare hold.
--
-- In order: an accepted call of rebuild; an answer by a test; two lists of which neither is refused; a list beside what was written of it; the store.
-- Assumes nothing.
use Rattle.std.specs.Prelude.{Ok, Err}
use Prim.Native.Nat.{ℕ, ◌/◌}
use native.Mathlib.Omega.{arith}
use mathlib.Core.Path.{◌≡◌, refl, sym, ◌∙◌, ap, ap₂}
use mathlib.Core.Bool.{Bool, true, false, ◌&&◌}
use mathlib.Core.List.{List, [], ◌∷◌, ◌++◌}
use lib.Dec.{eqb, leb, ltb}
use lib.ListN.{length, take}
use Rattle.format.specs.declared.Fault.TheVariants.{TooLong, ListLength, BlockLength, AreaTooShort}
use Rattle.format.specs.declared.Record.{Record}
use Rattle.format.specs.Refusal.{Ruling, Answer, need, ◌then◌, answer, Accepts, length_only, figures_in}
use Rattle.format.specs.declared.Figures.{Figures}
use Rattle.format.specs.Limits.{store_most, version_most}
use Rattle.format.specs.Record.{list_fits, records_of, encode}
use Rattle.format.specs.Meaning.{whole, stored, block_of, rebuilt}
use Rattle.format.specs.Origins.{origins}
use Rattle.format.proofs.Rulings.{fine_of_then, fine_of_accepts, both_of_and, and_of_both}
use Rattle.format.proofs.Rows.{length_records_of}
use Rattle.format.proofs.Encoding.{records_encode}
use Rattle.format.proofs.Rebuilding.{length_rebuilt}
use Rattle.format.proofs.Tracing.{origins_alike, origins_self, origins_true, origins_same}
use Rattle.words.specs.Same.{same_bytes}
use Rattle.words.proofs.Equality.{same_refl, eq_of_same, same_of_eq, same_sym}
use Rattle.walk.specs.Checks.{four, five, six, seven, walk_ruling}
use Rattle.price.specs.declared.Price.{Price}
use Rattle.price.specs.Price.{rates_of}
use Rattle.area.specs.Area.{Areas}
use Rattle.area.proofs.Filling.{front}
use Rattle.join.proofs.Tracing.{origins_tidy}
use Rattle.choice.specs.Choice.{Bit, bit_bytes, bits_of, IsChoice, chosen, list_of, keep_all}
use Rattle.choice.proofs.Lists.{length_bits, length_choice, bits_back}
use Rattle.choice.proofs.Least.{least_fits, keep_all_list}
use Rattle.choice.proofs.Holding.{keeps_of_origins}
use Rattle.admit.proofs.Admitting.{Sound}
use Rattle.writer.specs.Decide.{Decided}
use Rattle.writer.proofs.Deciding.{decided_fine, areas_decided}
use Rattle.show.specs.Check.{inputs_ruling}
use Rattle.show.proofs.Accepting.{readable_of_inputs, stop_of_check}
use Rattle.rebuild.specs.Rebuild.{rebuild_ruling}
use Rattle.compare.specs.Compare.{compare_ruling, version_of, same_version, same_origins_in, same_throughout, yes_or_no, compared}
use Rattle.compare.proofs.Answering.{BothFine, compared_fine, by_blocks}
use Rattle.linear.proofs.Theorems.{pass_holds}
use Rattle.demand.specs.Demand.{Call, Rebuilding, written_list, written_block}
use Rattle.demand.specs.Tidying.{ListCall, Tidies, list_out, SameOrigins}
use Rattle.demand.specs.Comparing.{Rebuilds, written_version, KeepsAll, Exactly, ComparingLaws}
use Rattle.demand.proofs.WrittenList.{list_is_written, block_is_written, whole_written, inputs_accepted, rebuilt_written}
use Rattle.demand.proofs.SplitHolds.{sound, given, decides}
use Rattle.demand.proofs.TidyingHolds.{list_told, inputs_form, same_of_origins, one_form, tidying_laws, sound_of_decided}

-- ---- an accepted call of rebuild

module _ {list block st : List ℕ} {x : Rebuilding} (h : Rebuilds list block st x) where
  rebuild_fine : rebuild_ruling list block st x.before ≡ Ok tt
  rebuild_fine = fine_of_accepts (rebuild_ruling list block st x.before) (length_only (whole (records_of list))) (rw h.made.answered at h.accepted)

  inputs_fine : inputs_ruling list block st ≡ Ok tt
  inputs_fine = (fine_of_then (inputs_ruling list block st) (need (leb (whole (records_of list)) (length x.before)) AreaTooShort 0) rebuild_fine).0

  length_told : (figures_in x.answer).whole ≡ length (version_of list block st)
  length_told =
      let r = (readable_of_inputs list block st inputs_fine).1 in
      ap (λ (a : Answer). (figures_in a).whole) (rw rebuild_fine at h.made.answered) ∙ sym (length_rebuilt (records_of list) block st r.inside (omega (arith, r.block_fits)))

  version_written : written_version x ≡ version_of list block st
  version_written = rw (rw rebuild_fine at h.made.area_after) (front (figures_in x.answer).whole (version_of list block st) x.before length_told)

-- ---- an answer by a test

exactly : {a : Answer} {P : Type 0} (t : Bool) → a ≡ Ok (yes_or_no t) → (P → t ≡ true) → (t ≡ true → P) → Exactly a P
exactly {a} {P} true e f g = record { yes_where = λ p. e; no_elsewhere = λ d. absurd (d (g refl)) }
exactly {a} {P} false e f g = record { yes_where = λ p. e ∙ ap (λ (t : Bool). Ok (yes_or_no t)) (f p); no_elsewhere = λ d. e }

twice : (q : Ruling) (x : Figures) → answer (q then q) x ≡ answer q x
twice (Ok _) x = refl
twice (Err r) x = refl

-- ---- two lists of which neither is refused

neither_refused : (first second block₁ block₂ st : List ℕ) → inputs_ruling first block₁ st ≡ Ok tt → inputs_ruling second block₂ st ≡ Ok tt → BothFine first second block₁ block₂ st
neither_refused first second block₁ block₂ st e f = record { first_fine = e; second_fine = f }

-- the test is whether each byte has the same origin in both
alike_of_same : (first second : List ℕ) → SameOrigins (records_of first) (records_of second) → same_origins_in first second ≡ true
alike_of_same first second s =
    let l = records_of first in
    let k = records_of second in
    origins_same (origins l) (origins k) (origins_alike l k s.equally_many s.each_byte)

same_of_alike : (first second : List ℕ) → same_origins_in first second ≡ true → SameOrigins (records_of first) (records_of second)
same_of_alike first second e = same_of_origins (records_of first) (records_of second) (origins_true (origins (records_of first)) (origins (records_of second)) e)

module _ (first second block₁ block₂ st : List ℕ) where
  rebuilt_exactly : (x y : Rebuilding) → Rebuilds first block₁ st x → Rebuilds second block₂ st y
      → Exactly (compared first second block₁ block₂ st) ((written_version x ≡ written_version y) × SameOrigins (records_of first) (records_of second))
  rebuilt_exactly x y h k =
      let v = version_written h in
      let w = version_written k in
      exactly (same_throughout first second block₁ block₂ st) (compared_fine (neither_refused first second block₁ block₂ st (inputs_fine h) (inputs_fine k)))
      (λ p. and_of_both (same_version first second block₁ block₂ st) (same_origins_in first second) (same_of_eq (version_of first block₁ st) (version_of second block₂ st) (sym v ∙ p.0 ∙ w)) (alike_of_same first second p.1))
      (λ e.
      let both = both_of_and (same_version first second block₁ block₂ st) (same_origins_in first second) e in
      (v ∙ eq_of_same (version_of first block₁ st) (version_of second block₂ st) both.0 ∙ sym w, same_of_alike first second both.1))

  tidied_exactly : (x y : ListCall) → Accepts (compared first second block₁ block₂ st) → Tidies first st x → Accepts x.answer → Tidies second st y → Accepts y.answer
      → Exactly (compared first second block₁ block₂ st) ((list_out x ≡ list_out y) × (block₁ ≡ block₂))
  tidied_exactly x y accepted t a u b =
      let fine = fine_of_then (inputs_ruling first block₁ st) (inputs_ruling second block₂ st) (fine_of_accepts (compare_ruling first second block₁ block₂ st) (yes_or_no (same_throughout first second block₁ block₂ st)) accepted) in
      let one = one_form first second st st x y t a u b in
      exactly (same_origins_in first second && same_bytes block₁ block₂) (by_blocks (neither_refused first second block₁ block₂ st fine.0 fine.1))
      (λ p. and_of_both (same_origins_in first second) (same_bytes block₁ block₂) (alike_of_same first second (one.0 p.0)) (same_of_eq block₁ block₂ p.1))
      (λ e.
      let both = both_of_and (same_origins_in first second) (same_bytes block₁ block₂) e in
      (one.1 (same_of_alike first second both.0), eq_of_same block₁ block₂ both.1))

-- the test does not go by the order
alike_sym : (first second : List ℕ) → same_origins_in first second ≡ same_origins_in second first
alike_sym first second = go (same_origins_in first second) (same_origins_in second first) refl refl
  where
    turned : (l k : List ℕ) → same_origins_in l k ≡ true → same_origins_in k l ≡ true
    turned l k e = origins_same (origins (records_of k)) (origins (records_of l)) (sym (origins_true (origins (records_of l)) (origins (records_of k)) e))

    go : (x y : Bool) → same_origins_in first second ≡ x → same_origins_in second first ≡ y → x ≡ y
    go true y e f = sym (turned first second e) ∙ f
    go false true e f = sym e ∙ turned second first f
    go false false e f = refl

-- ---- a list beside what tidy wrote of it

module _ {list st : List ℕ} {x : ListCall} (t : Tidies list st x) (a : Accepts x.answer) (block : List ℕ) where
  origins_stay : same_origins_in list (list_out x) ≡ true
  origins_stay = alike_of_same list (list_out x) (tidying_laws.origins_stay list st x t a)

  beside_tidied : compared list (list_out x) block block st ≡ answer (inputs_ruling list block st) (yes_or_no true)
  beside_tidied = go (inputs_ruling list block st) refl
    where
      go : (q : Ruling) → inputs_ruling list block st ≡ q → compared list (list_out x) block block st ≡ answer (inputs_ruling list block st) (yes_or_no true)
      go (Err r) e = rw e
      go (Ok _) e =
          let accepted = rw (sym (list_told t a)) at (inputs_form t a block (readable_of_inputs list block st e).1.block_fits) in
          by_blocks (neither_refused list (list_out x) block block st e accepted) ∙ ap (λ (s : Bool). Ok (yes_or_no s)) (and_of_both (same_origins_in list (list_out x)) (same_bytes block block) origins_stay (same_refl block)) ∙ rw e

-- ---- a list beside what was written of it for a choice

-- bytes of choices that are the same are those of one choice
bits_eq : (c d : List Bit) → bit_bytes c ≡ bit_bytes d → c ≡ d
bits_eq c d e =
    sym (bits_back c []) ∙ ap₂ (λ (n : ℕ) (t : List ℕ). bits_of n (t ++ [])) (sym (length_bits c) ∙ ap length e ∙ length_bits d) e ∙ bits_back d []

module _ {q : Ruling} {p : Price} {list block st : List ℕ} {x : Call} {y : Rebuilding} {c : List Bit} {looks i a b : ℕ} (h : Rebuilds list block st y)
    (made : Decided q (rates_of p) list (written_version y) c looks x.before x.answer x.after) (fine : q ≡ Ok tt) (s : Sound p list (written_version y) st i a b)
    (is_choice : IsChoice (records_of list) c) where
  abbrev v : List ℕ
  v = written_version y

  abbrev l : List Record
  l = list_of (records_of list) c

  choice_is : take (length list / 12) x.after.choice ≡ bit_bytes c
  choice_is =
      ap (λ (k : Areas). take (length list / 12) k.choice) (areas_decided made fine)
      ∙ front (length list / 12) (bit_bytes c) x.before.choice (sym (length_bits c ∙ length_choice (records_of list) c is_choice ∙ length_records_of list))

  version_is : version_of (encode l) (block_of l v) st ≡ v
  version_is = ap (λ (k : List Record). rebuilt k (block_of l v) st) (records_encode l) ∙ rebuilt_written s c is_choice

  -- the bytes are the same, so it goes by the origins
  by_origins : compared list (encode l) block (block_of l v) st ≡ Ok (yes_or_no (same_origins_in list (encode l)))
  by_origins =
      compared_fine (neither_refused list (encode l) block (block_of l v) st (inputs_fine h) (inputs_accepted s c is_choice))
      ∙ ap (λ (t : Bool). Ok (yes_or_no (t && same_origins_in list (encode l)))) (same_of_eq (version_of list block st) (version_of (encode l) (block_of l v) st) (sym (version_written h) ∙ sym version_is))

  origins_written : origins (records_of (encode l)) ≡ origins (chosen (records_of list) c)
  origins_written = ap origins (records_encode l) ∙ origins_tidy (chosen (records_of list) c)

  kept_alike : c ≡ keep_all (records_of list) → same_origins_in list (encode l) ≡ true
  kept_alike e =
      origins_same (origins (records_of list)) (origins (records_of (encode l)))
      (sym (ap origins (records_encode l ∙ ap (list_of (records_of list)) e ∙ keep_all_list (records_of list)) ∙ origins_tidy (records_of list)))

  alike_kept : same_origins_in list (encode l) ≡ true → c ≡ keep_all (records_of list)
  alike_kept e =
      keeps_of_origins (records_of list) c s.covered.is_well_formed.sized is_choice (origins_true (origins (records_of list)) (origins (records_of (encode l))) e ∙ origins_written)

  beside_written : Exactly (compared list (written_list x) block (written_block x) st) (KeepsAll list x)
  beside_written =
      rw (list_is_written made fine, block_is_written made fine (omega (arith, whole_written s c is_choice)))
      (exactly (same_origins_in list (encode l)) by_origins (λ k. kept_alike (bits_eq c (keep_all (records_of list)) (sym choice_is ∙ k))) (λ e. choice_is ∙ ap bit_bytes (alike_kept e)))

-- ---- the store

inputs_by_length : (list block st st' : List ℕ) → length st ≡ length st' → inputs_ruling list block st ≡ inputs_ruling list block st'
inputs_by_length list block st st' e =
    ap (λ (n : ℕ). need (leb n store_most) TooLong 0 then need (list_fits list) ListLength 0 then walk_ruling (four ∷ five ∷ six version_most ∷ seven n ∷ []) list then need (eqb (length block) (stored (records_of list))) BlockLength 0) e

by_length : (first second block₁ block₂ st st' : List ℕ) → length st ≡ length st' → compared first second block₁ block₂ st ≡ compared first second block₁ block₂ st'
by_length first second block₁ block₂ st st' e = go (inputs_ruling first block₁ st) (inputs_ruling second block₂ st) refl refl
  where
    go : (q k : Ruling) → inputs_ruling first block₁ st ≡ q → inputs_ruling second block₂ st ≡ k → compared first second block₁ block₂ st ≡ compared first second block₁ block₂ st'
    go (Err x) k f g = rw (f, sym (inputs_by_length first block₁ st st' e) ∙ f)
    go (Ok _) (Err x) f g = rw (f, g, sym (inputs_by_length first block₁ st st' e) ∙ f, sym (inputs_by_length second block₂ st st' e) ∙ g)
    go (Ok _) (Ok _) f g =
        by_blocks (neither_refused first second block₁ block₂ st f g)
        ∙ sym (by_blocks (neither_refused first second block₁ block₂ st' (sym (inputs_by_length first block₁ st st' e) ∙ f) (sym (inputs_by_length second block₂ st st' e) ∙ g)))

pub comparing_laws : ComparingLaws
comparing_laws =
    record {
      first_refused = λ first second block₁ block₂ st k r e h.
          rw (stop_of_check (inputs_ruling first block₁ st) (ltb k (length (records_of first))) r e h);
      second_refused = λ first second block₁ block₂ st x k r m e h.
          rw (inputs_fine m, stop_of_check (inputs_ruling second block₂ st) (ltb k (length (records_of second))) r e h);
      as_rebuilt = rebuilt_exactly;
      different_bytes = λ first second block₁ block₂ st x y h k d. (rebuilt_exactly first second block₁ block₂ st x y h k).no_elsewhere (λ p. d p.0);
      by_tidy_forms = tidied_exactly;
      itself = λ list block st.
          rw (same_refl (version_of list block st), origins_self (origins (records_of list))) (twice (inputs_ruling list block st) (yes_or_no true));
      either_order = λ first second block₁ block₂ st e f.
          by_blocks (neither_refused first second block₁ block₂ st e f)
          ∙ ap₂ (λ (s t : Bool). Ok (yes_or_no (s && t))) (alike_sym first second) (same_sym block₁ block₂)
          ∙ sym (by_blocks (neither_refused second first block₂ block₁ st f e));
      of_tidy = λ list block st x t a. beside_tidied t a block;
      of_partition = λ p list block st x y h made a. beside_written h made (decided_fine made a) (sound_of_decided made a) (least_fits (rates_of p) (records_of list));
      of_pass = λ p list block st x y h made a.
          let s = sound_of_decided made.decided a in
          beside_written h made.decided (decided_fine made.decided a) s (pass_holds (rates_of p) (records_of list) s.covered.is_well_formed.sized).choice;
      of_commit = λ p list block st x y h k a. beside_written h (decides k a) refl (sound k a) (given k a).1.is_choice;
      store_by_length = by_length;
    }
