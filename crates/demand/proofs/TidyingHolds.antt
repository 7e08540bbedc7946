-- The laws of check_loose and tidy hold.
--
-- In order: check_loose beside check; an accepted call of tidy, and what it wrote; a list that is tidy already; what another call wrote; the laws; tidying twice.
-- Assumes nothing.
use Rattle.std.specs.Prelude.{Ok, Err}
use Prim.Native.Nat.{ℕ, ◌*◌, ◌≤◌, ◌<◌}
use native.Mathlib.Omega.{arith}
use mathlib.Core.Path.{◌≡◌, refl, sym, ◌∙◌, ap, subst}
use mathlib.Core.Bool.{Bool, true, false}
use mathlib.Core.List.{List, []}
use lib.Dec.{eqb, leb, ltb}
use lib.ListN.{length, take, get_or}
use borrow.Author.Tests.{le-leb, lt-ltb}
use Rattle.format.specs.declared.Fault.TheVariants.{TooLong, ListLength, Adjacent, BlockLength}
use Rattle.format.specs.declared.Record.{Record}
use Rattle.format.specs.declared.Refusal.{Refusal}
use Rattle.format.specs.Refusal.{Ruling, Answer, refuse, need, ◌then◌, Accepts, figures_in, length_only, entries_only}
use Rattle.format.specs.declared.Figures.{Figures}
use Rattle.format.specs.Limits.{store_most}
use Rattle.format.specs.Record.{list_fits, records_of, encode}
use Rattle.format.specs.Meaning.{whole, stored, rebuilt}
use Rattle.format.specs.WellFormed.{Readable}
use Rattle.format.specs.Origins.{Origin, fresh, origins}
use Rattle.format.proofs.Rulings.{stop_fine, stop_of_refused, fine_of_accepts}
use Rattle.format.proofs.Encoding.{records_encode, length_encode}
use Rattle.format.proofs.Rebuilding.{inside_agrees}
use Rattle.format.proofs.Tracing.{length_origins, origins_alike}
use Rattle.walk.specs.declared.Scope.TheVariants as scope
use Rattle.walk.specs.Checks.{checks, walk_ruling}
use Rattle.walk.proofs.Loosened.{Loosened, loosened, loosened_version, loosened_fine, loosened_stop, NotFive, not_five_then, not_five_need, not_five_walk, loose_of_version}
use Rattle.price.specs.declared.Price.{Price}
use Rattle.price.specs.Price.{rates_of}
use Rattle.area.specs.Area.{over}
use Rattle.area.proofs.Filling.{front_room}
use Rattle.show.specs.Check.{inputs_ruling, checked}
use Rattle.show.proofs.Accepting.{inputs_written, stop_of_check}
use Rattle.rebuild.specs.Rebuild.{Rebuilt}
use Rattle.rebuild.proofs.Accepting.{rebuild_fine}
use Rattle.join.specs.Join.{tidy, Settled}
use Rattle.join.proofs.Joining.{length_tidy, whole_tidy, stored_tidy, apart_tidy, rebuilt_tidy, settled_tidy, tidy_settled}
use Rattle.join.proofs.Tracing.{origins_tidy, tidy_exactly}
use Rattle.choice.specs.Choice.{Bit, bit_bytes, IsChoice, chosen, list_of, keep_all}
use Rattle.choice.proofs.Least.{least_fits, keep_all_list, keep_all_is_choice}
use Rattle.admit.specs.Admit.{partition_ruling}
use Rattle.admit.proofs.Admitting.{Sound, sound_of_fine}
use Rattle.writer.specs.Decide.{Decided}
use Rattle.writer.proofs.Deciding.{decided_fine, answer_decided}
use Rattle.linear.proofs.Theorems.{pass_holds}
use Rattle.commit.proofs.Choosing.{stands}
use Rattle.loose.specs.Loose.{loose_ruling, tidy_ruling, tidy_form, Tidied}
use Rattle.loose.proofs.Accepting as loose
use Rattle.demand.specs.Demand.{Call, Rebuilding, written_list}
use Rattle.demand.specs.Split.{Commits}
use Rattle.demand.specs.Tidying.{ListCall, Tidies, list_out, Writes, SameOrigins, TidyingLaws, TwoCalls}
use Rattle.demand.proofs.ListCalls.{entries_of, list_out_is}
use Rattle.demand.proofs.WrittenList.{list_is_written, well_formed_written, whole_written, count_written}
use Rattle.demand.proofs.SplitHolds.{sound, given, decides}

-- ---- check_loose beside check

-- two checks, a walk and the length of the stored block; and the same checks with a walk that is looser, and no stored block
stop_of_inputs : (a b q k : Ruling) (t : Bool) (r : Refusal) → Loosened q k → a then b then q then need t BlockLength 0 ≡ Err r → (r.fault ≡ Adjacent → ⊥) → (r.fault ≡ BlockLength → ⊥)
    → a then b then k ≡ Err r
stop_of_inputs (Err x) b q k t r h e f g = e
stop_of_inputs (Ok _) (Err x) q k t r h e f g = e
stop_of_inputs (Ok _) (Ok _) (Err x) k t r h e f g = loosened_stop h e f
stop_of_inputs (Ok _) (Ok _) (Ok _) k true r h e f g = absurd (let z : ◌≡◌ {A = ℕ} 0 1 = cc in omega arith)
stop_of_inputs (Ok _) (Ok _) (Ok _) k false r h e f g = absurd (g (let z : refuse BlockLength 0 ≡ r = cc in ap (λ (x : Refusal). x.fault) (sym z)))

fine_of_inputs : (a b q k c : Ruling) → Loosened q k → a then b then q then c ≡ Ok tt → a then b then k ≡ Ok tt
fine_of_inputs (Err x) b q k c h e = e
fine_of_inputs (Ok _) (Err x) q k c h e = e
fine_of_inputs (Ok _) (Ok _) (Err x) k c h e = stop_fine e
fine_of_inputs (Ok _) (Ok _) (Ok _) k c h e = loosened_fine h refl

-- a ruling of which this holds is not a stop with that fault
pub not_five : (q : Ruling) (r : Refusal) → NotFive q → q ≡ Err r → r.fault ≡ Adjacent → ⊥
not_five (Ok _) r h e f = stop_fine (sym e)
not_five (Err x) r h e f = h (let z : x ≡ r = cc in ap (λ (y : Refusal). y.fault) z ∙ f)

module _ (list st : List ℕ) where
  abbrev two : Ruling
  two = need (leb (length st) store_most) TooLong 0

  abbrev three : Ruling
  three = need (list_fits list) ListLength 0

  abbrev walked : Ruling
  walked = walk_ruling (checks scope.Loose [] st) list

  not_five_loose : NotFive (loose_ruling list st)
  not_five_loose =
      not_five_then two (three then walked) (not_five_need (leb (length st) store_most) TooLong 0 (λ e. omega arith))
      (not_five_then three walked (not_five_need (list_fits list) ListLength 0 (λ e. omega arith)) (not_five_walk [] st list))

  loose_of_check : (block : List ℕ) (r : Refusal) → inputs_ruling list block st ≡ Err r → (r.fault ≡ Adjacent → ⊥) → (r.fault ≡ BlockLength → ⊥) → loose_ruling list st ≡ Err r
  loose_of_check block r e f g =
      stop_of_inputs two three (walk_ruling (checks scope.Store [] st) list) walked (eqb (length block) (stored (records_of list))) r (loosened [] st list) e f g

  loose_of_inputs : (block : List ℕ) → inputs_ruling list block st ≡ Ok tt → loose_ruling list st ≡ Ok tt
  loose_of_inputs block e =
      fine_of_inputs two three (walk_ruling (checks scope.Store [] st) list) walked (need (eqb (length block) (stored (records_of list))) BlockLength 0) (loosened [] st list) e

-- ---- a call of tidy that finds no fault

pub writes_form : {list st out : List ℕ} {n : ℕ} {y : ListCall} (l : List Record) → Tidies list st y → tidy_ruling list st (length y.before) ≡ Ok tt → tidy_form list ≡ l → out ≡ encode l → n ≡ length l
    → Writes out n y
writes_form {y = y} l t fine form out_is n_is =
    record {
      answered = rw fine at t.answered ∙ ap (λ (k : List Record). Ok (entries_only (length k))) form ∙ ap (λ (m : ℕ). Ok (entries_only m)) (sym n_is);
      area_after = rw fine at t.area_after ∙ ap (λ (k : List Record). over (encode k) y.before) form ∙ ap (λ (s : List ℕ). over s y.before) (sym out_is);
    }

-- a written list that is tidy already
pub writes_back : {st out : List ℕ} {n : ℕ} {y : ListCall} (l : List Record) → out ≡ encode l → n ≡ length l → Settled l → length l ≤ 4096 → loose.Sound l st → Tidies out st y
    → length out ≤ length y.before → Writes out n y
writes_back {st} {out} {n} {y} l out_is n_is settled few s t room =
    writes_form l t (rw out_is (loose.fine_of_sound l st (length y.before) few (rw out_is at room) s)) (ap tidy_form out_is ∙ ap tidy (records_encode l) ∙ tidy_settled l settled) out_is n_is

module _ {list st : List ℕ} {x : ListCall} (t : Tidies list st x) (accepted : Accepts x.answer) where
  fine : tidy_ruling list st (length x.before) ≡ Ok tt
  fine = fine_of_accepts (tidy_ruling list st (length x.before)) (entries_only (length (tidy_form list))) (rw t.answered at accepted)

  passed : loose.Accepts list st (length x.before)
  passed = loose.accepts_of_fine list st (length x.before) fine

  wrote : Writes (encode (tidy_form list)) (length (tidy_form list)) x
  wrote = writes_form (tidy_form list) t fine refl refl refl

  entries_told : (figures_in x.answer).entries ≡ length (tidy_form list)
  entries_told = entries_of (tidy_form list) wrote

  pub list_told : list_out x ≡ encode (tidy_form list)
  list_told = list_out_is (tidy_form list) wrote

  form_few : length (tidy_form list) ≤ 4096
  form_few = omega (arith, length_tidy (records_of list), passed.counted.count_most)

  form_sound : loose.Sound (tidy_form list) st
  form_sound = loose.sound_tidy passed.sound

  written_again : {y : ListCall} → Tidies (list_out x) st y → length (list_out x) ≤ length y.before → Writes (list_out x) (figures_in x.answer).entries y
  written_again u room = writes_back (tidy_form list) list_told entries_told (settled_tidy (records_of list)) form_few form_sound u room

  -- with the stored block of the loose list
  module _ (block : List ℕ) (h : length block ≡ stored (records_of list)) where
    form_readable : Readable (tidy_form list) block st
    form_readable =
        let s = form_sound in
        record { sized = s.sized; apart = apart_tidy (records_of list); inside = s.inside; whole_most = s.whole_most; block_fits = h ∙ sym (stored_tidy (records_of list)) }

    pub inputs_form : inputs_ruling (encode (tidy_form list)) block st ≡ Ok tt
    inputs_form = inputs_written (tidy_form list) block st form_few form_sound.store_at_most form_readable

    checked_form : (k : ℕ) → k < (figures_in x.answer).entries → checked (list_out x) block st k ≡ Ok (length_only 0)
    checked_form k lt = rw (list_told, inputs_form, records_encode (tidy_form list), lt-ltb k (length (tidy_form list)) (omega (arith, entries_told)))

    rebuilt_form : {y : Rebuilding} → Rebuilt (list_out x) block st y.before y.answer y.after → whole (records_of list) ≤ length y.before
        → (y.answer ≡ Ok (length_only (whole (records_of list)))) × (y.after ≡ over (rebuilt (records_of list) block st) y.before)
    rebuilt_form {y} u room =
        let l = tidy_form list in
        let made = rw list_told at u in
        let whole_is : whole (records_of (encode l)) ≡ whole (records_of list) = ap whole (records_encode l) ∙ whole_tidy (records_of list) in
        let rebuilt_is : rebuilt (records_of (encode l)) block st ≡ rebuilt (records_of list) block st = ap (λ (k : List Record). rebuilt k block st) (records_encode l) ∙ rebuilt_tidy (records_of list) block st in
        let accepts = rebuild_fine (encode l) block st y.before inputs_form (omega (arith, whole_is)) in
        (rw accepts at made.answered ∙ ap (λ (n : ℕ). Ok (length_only n)) whole_is, rw accepts at made.area_after ∙ ap (λ (v : List ℕ). over v y.before) rebuilt_is)

-- ---- two calls of tidy

-- lists that are written alike are one
eq_of_encode : (l k : List Record) → encode l ≡ encode k → l ≡ k
eq_of_encode l k e = sym (records_encode l) ∙ ap records_of e ∙ records_encode k

pub same_of_origins : (l k : List Record) → origins l ≡ origins k → SameOrigins l k
same_of_origins l k e =
    record { equally_many = sym (length_origins l) ∙ ap length e ∙ length_origins k; each_byte = λ i lt. ap (λ (o : List Origin). get_or o i fresh) e }

pub one_form : (list₁ list₂ st₁ st₂ : List ℕ) (x y : ListCall) → Tidies list₁ st₁ x → Accepts x.answer → Tidies list₂ st₂ y → Accepts y.answer
    → (list_out x ≡ list_out y → SameOrigins (records_of list₁) (records_of list₂)) × (SameOrigins (records_of list₁) (records_of list₂) → list_out x ≡ list_out y)
one_form list₁ list₂ st₁ st₂ x y t a u b =
    let exactly = tidy_exactly (records_of list₁) (records_of list₂) (passed t a).sound.sized (passed u b).sound.sized in (
      λ e. same_of_origins (records_of list₁) (records_of list₂) (exactly.0 (eq_of_encode (tidy_form list₁) (tidy_form list₂) (sym (list_told t a) ∙ e ∙ list_told u b))),
      λ s. list_told t a ∙ ap encode (exactly.1 (origins_alike (records_of list₁) (records_of list₂) s.equally_many s.each_byte)) ∙ sym (list_told u b),
    )

-- ---- what a call wrote that decides for a choice

module _ {q : Ruling} {p : Price} {list v st : List ℕ} {c : List Bit} {looks i a b : ℕ} {x : Call} (made : Decided q (rates_of p) list v c looks x.before x.answer x.after)
    (fine : q ≡ Ok tt) (s : Sound p list v st i a b) where
  abbrev l : List Record
  l = list_of (records_of list) c

  entries_are : (figures_in x.answer).entries ≡ length l
  entries_are = ap (λ (r : Answer). (figures_in r).entries) (answer_decided made fine)

  -- tidy writes it back
  handed_back : {y : ListCall} → IsChoice (records_of list) c → Tidies (written_list x) st y → length (written_list x) ≤ length y.before
      → Writes (written_list x) (figures_in x.answer).entries y
  handed_back h t room =
      let w = well_formed_written s c h in
      let sound_list : loose.Sound l st = record { store_at_most = s.fits.store_at_most; sized = w.sized; inside = inside_agrees st l v w.agrees; whole_most = omega (arith, whole_written s c h, s.fits.version_at_most) } in
      writes_back l (list_is_written made fine) entries_are (settled_tidy (chosen (records_of list) c)) (count_written s c h) sound_list t room

  -- and of the list handed in it writes the same, where the choice keeps all
  all_kept : {y : ListCall} → l ≡ tidy_form list → Tidies list st y → length list ≤ length y.before → Writes (written_list x) (figures_in x.answer).entries y
  all_kept {y} e t room =
      let admitted : tidy_ruling list st (length y.before) ≡ Ok tt =
      rw (le-leb (length st) store_most s.fits.store_at_most, s.fits.list_in_limits, le-leb (length list) (length y.before) room, loose_of_version v st list s.fits.version_at_most (loosened_fine (loosened_version v st list) s.covered.walk_fine)) in
      writes_form l t admitted (sym e) (list_is_written made fine) entries_are

-- admitted inputs of partition and pass
pub sound_of_decided : {p : Price} {list v st : List ℕ} {c : List Bit} {looks : ℕ} {x : Call} → Decided (partition_ruling p list v st x.before) (rates_of p) list v c looks x.before x.answer x.after
    → Accepts x.answer → Sound p list v st (length x.before.choice) (length x.before.list) (length x.before.block)
sound_of_decided {p} {list} {v} {st} {x = x} made a = sound_of_fine p list v st (length x.before.choice) (length x.before.list) (length x.before.block) (decided_fine made a)

-- the list of a commitment with 0 for each match is the tidy form
kept : {p : Price} {list v st : List ℕ} {x : Call} (k : Commits p list v st x) (a : Accepts x.answer) → x.before.choice ≡ bit_bytes (keep_all (records_of list))
    → list_of (records_of list) (given k a).0 ≡ tidy_form list
kept {list = list} {x = x} k a e =
    ap (list_of (records_of list)) (sym (given k a).1.bits_are ∙ (stands list x.before.choice (keep_all (records_of list)) (keep_all_is_choice (records_of list)) e).bits_are) ∙ keep_all_list (records_of list)

pub tidying_laws : TidyingLaws
tidying_laws =
    record {
      refused_as_check = λ list block st k r e f g h. rw (loose_of_check list st block r (stop_of_check (inputs_ruling list block st) (ltb k (length (records_of list))) r e h) f g);
      accepted_as_check = λ list block st e. rw (loose_of_inputs list st block e);
      never_five = λ list st r e. not_five (loose_ruling list st) r (not_five_loose list st) (stop_of_refused (loose_ruling list st) (length_only 0) r e);
      refused_alike = λ list st area r room.
          let q = tidy_ruling list st (length area) in
          let alike : loose_ruling list st ≡ q = loose.loose_in_room list st (length area) room in (
            λ e. rw (alike ∙ stop_of_refused q (entries_only (length (tidy_form list))) r e),
            λ e. rw (sym alike ∙ stop_of_refused (loose_ruling list st) (length_only 0) r e),
          );
      none_joins = λ list st x t a. rw (list_told t a, records_encode (tidy_form list)) (settled_tidy (records_of list));
      origins_stay = λ list st x t a. rw (list_told t a, records_encode (tidy_form list)) (same_of_origins (records_of list) (tidy_form list) (sym (origins_tidy (records_of list))));
      twice = λ list st x y t a u room. written_again t a u room;
      checked_with_block = λ list block st x k t a h lt. checked_form t a block h k lt;
      rebuilt_with_block = λ list block st x y t a h u room. rebuilt_form t a block h u room;
      exactly_when = one_form;
      of_partition = λ p list v st x y made a t room. handed_back made (decided_fine made a) (sound_of_decided made a) (least_fits (rates_of p) (records_of list)) t room;
      of_pass = λ p list v st x y made a t room.
          let s = sound_of_decided made.decided a in
          handed_back made.decided (decided_fine made.decided a) s (pass_holds (rates_of p) (records_of list) s.covered.is_well_formed.sized).choice t room;
      of_commit = λ p list v st x y k a t room. handed_back (decides k a) refl (sound k a) (given k a).1.is_choice t room;
      keeping_all = λ p list v st x y e k a t room. all_kept (decides k a) refl (sound k a) (kept k a e) t room;
    }

-- ---- tidying twice, as one function makes it

module _ {list st first first' : List ℕ} {r : Answer} (made : Tidied list st first r first') where
  pub once_refused : {second : List ℕ} {x : Refusal} → r ≡ Err x → TwoCalls list st first second (record { once = r; again = r }) first' second
  once_refused q = record { once = made; again = λ a. absurd (rw q at a); same = λ a. absurd (rw q at a); or_none = λ y e. (e, refl) }

  module _ {f : Figures} (q : r ≡ Ok f) where
    abbrev once : ListCall
    once = record { before = first; answer = r; after = first' }

    is_accepted : Accepts r
    is_accepted = rw q tt

    -- the list is in the area
    pub list_there : 12 * f.entries ≤ length first'
    list_there =
        let n : f.entries ≡ length (tidy_form list) = ap (λ (a : Answer). (figures_in a).entries) (sym q) ∙ entries_told {x = once} made is_accepted in
        let after = rw (fine {x = once} made is_accepted) at made.area_after in
        omega (arith, n, length_encode (tidy_form list), ap length after, front_room (encode (tidy_form list)) first)

    -- its bytes are handed on
    pub tidied_again : {m : ℕ} {second second' : List ℕ} {s : Answer} → m ≡ 12 * f.entries → Tidied (take m first') st second s second'
        → TwoCalls list st first second (record { once = Ok f; again = s }) first' second'
    tidied_again {m} {second} {second'} {s} e u =
        let m_is : m ≡ 12 * (figures_in r).entries = e ∙ ap (λ (a : Answer). 12 * (figures_in a).entries) (sym q) in
        let v : Tidied (list_out once) st second s second' = subst (λ (k : ℕ). Tidied (take k first') st second s second') m_is u in
        let told : r ≡ Ok (entries_only (figures_in r).entries) =
        rw (fine {x = once} made is_accepted) at made.answered ∙ ap (λ (k : ℕ). Ok (entries_only k)) (sym (entries_told {x = once} made is_accepted)) in
        let both : TwoCalls list st first second (record { once = r; again = s }) first' second' =
        record {
          once = made;
          again = λ a. v;
          same = λ a room. let w = written_again {x = once} made a {y = record { before = second; answer = s; after = second' }} v room in (w.answered ∙ sym told, w.area_after);
          or_none = λ y x. (cc, cc);
        } in
        subst (λ (a : Answer). TwoCalls list st first second (record { once = a; again = s }) first' second') q both
