-- The laws of the estimate and the commitment hold.
-- Assumes nothing.
use Rattle.std.specs.Prelude.{Ok, Err}
use Prim.Native.Nat.{ℕ, ◌/◌, ◌≤◌}
use native.Mathlib.Omega.{arith}
use mathlib.Core.Path.{◌≡◌, refl, sym, ◌∙◌, ap, ap₂, subst}
use mathlib.Core.Bool.{Bool, true, false}
use mathlib.Core.List.{List, ◌++◌, append-nil}
use lib.ListN.{length, take}
use lib.Seq.{drop-length}
use borrow.Author.Tests.{le-leb}
use Rattle.format.specs.declared.Record.{Record}
use Rattle.format.specs.declared.Refusal.{Refusal}
use Rattle.format.specs.Refusal.{Ruling, Answer, Accepts, answer, unless_refused, figures_in, ◌then◌}
use Rattle.format.specs.declared.Figures.{Figures}
use Rattle.format.specs.Record.{records_of, encode}
use Rattle.format.specs.Meaning.{block_of}
use Rattle.format.proofs.Rulings.{then_fine, fine_of_then, then_of_fine, fine_of_accepts}
use Rattle.format.proofs.Rows.{length_records_of}
use Rattle.price.specs.declared.Price.{Price}
use Rattle.price.specs.Price.{rates_of}
use Rattle.area.specs.Area.{over, Areas, areas}
use Rattle.join.specs.Join.{tidy}
use Rattle.area.proofs.Filling.{front}
use Rattle.choice.specs.Choice.{Bit, bit_bytes, IsChoice, list_of, keep_all, least_of}
use Rattle.choice.proofs.Lists.{length_bits, length_choice}
use Rattle.choice.proofs.Least.{least_fits, least_is_least, keep_all_list, keep_all_is_choice}
use Rattle.admit.specs.Admit.{areas_fit, admit_ruling, partition_ruling}
use Rattle.admit.proofs.Admitting.{Sound, sound_of_fine, areas_most, areas_of_most, admit_alike, areas_of_fine, stop_of_short}
use Rattle.writer.specs.Write.{list_in}
use Rattle.writer.specs.Decide.{figures, decided_answer, decided_areas, Decided}
use Rattle.writer.proofs.Deciding.{answer_decided}
use Rattle.call_partition.specs.Partition.{Partitioned}
use Rattle.estimate.specs.Estimate.{estimate_ruling, Estimated}
use Rattle.estimate.proofs.Estimating.{estimated_fine, estimated_answer}
use Rattle.commit.specs.Commit.{choice_ruling, commit_ruling, Committed}
use Rattle.commit.proofs.Choosing.{Stands, stands, choice_of_fine, fine_of_choice}
use Rattle.demand.specs.declared.TwoAnswers.{TwoAnswers}
use Rattle.demand.specs.Demand.{Call}
use Rattle.demand.specs.Split.{room, InTurn, Commits, GivesJoined, SplitLaws, TwoCalls}
use Rattle.demand.proofs.WrittenList.{list_is_written, block_is_written, whole_written, version_back}
use Rattle.demand.proofs.MarksHolds.{held_stay}

areas_eq : {x y : Areas} → x.choice ≡ y.choice → x.list ≡ y.list → x.block ≡ y.block → x ≡ y
areas_eq {x} {y} e f g =
    ap (λ (c : List ℕ). areas c x.list x.block) e ∙ ap (λ (l : List ℕ). areas y.choice l x.block) f ∙ ap (λ (b : List ℕ). areas y.choice y.list b) g

-- ---- the rulings of the two calls beside partition's

module _ (p : Price) (list v st : List ℕ) (before : Areas) where
  -- with room for list and block, the estimate's ruling is partition's
  estimate_alike : room list v before ≡ true → estimate_ruling p list v st before.choice ≡ partition_ruling p list v st before
  estimate_alike h =
      let c = length before.choice in
      let m = areas_most list v (length list / 12) (length before.list) (length before.block) h in
      admit_alike p list v st c (length list) (length v) c (length before.list) (length before.block)
      (rw (
        le-leb (length list) (length list) (omega arith),
        le-leb (length v) (length v) (omega arith),
        le-leb (length list) (length before.list) m.1,
        le-leb (length v) (length before.block) m.2,
      ))

  -- what partition admits the commitment does
  commit_admits : room list v before ≡ true → partition_ruling p list v st before ≡ Ok tt → admit_ruling p list v st (length list / 12) (length before.list) (length before.block) ≡ Ok tt
  commit_admits h fine =
      let c = length before.choice in
      let a = length before.list in
      let b = length before.block in
      admit_alike p list v st (length list / 12) a b c a b (h ∙ sym (areas_of_fine p list v st c a b fine)) ∙ fine

-- ---- a commitment of the bytes of a choice

-- what is answered and written
record Writes (p : Price) (list v : List ℕ) (c : List Bit) (area block : List ℕ) (r : Answer) (area' block' : List ℕ) : Type 0 where
  answer_is : r ≡ Ok (figures (rates_of p) (list_of (records_of list) c) 0)
  list_is : area' ≡ over (encode (list_of (records_of list) c)) area
  block_is : block' ≡ over (block_of (list_of (records_of list) c) v) block

writes : {p : Price} {list v st choice area block : List ℕ} {r : Answer} {area' block' : List ℕ} {c : List Bit} → Committed p list v st choice area block r area' block'
    → commit_ruling p list v st choice (length area) (length block) ≡ Ok tt → Stands list choice c → Writes p list v c area block r area' block'
writes {p} {list} {v} {st} {choice} {area} {block} {r} {area'} {block'} {c} made fine s =
    let listed : list_in list choice ≡ list_of (records_of list) c = ap (list_of (records_of list)) s.bits_are in
    record {
      answer_is = rw fine at made.answered ∙ ap (λ (l : List Record). Ok (figures (rates_of p) l 0)) listed;
      list_is = rw fine at made.list_after ∙ ap (λ (l : List Record). over (encode l) area) listed;
      block_is = rw fine at made.block_after ∙ ap (λ (l : List Record). over (block_of l v) block) listed;
    }

-- an accepted call of commit
module _ {p : Price} {list v st : List ℕ} {x : Call} (k : Commits p list v st x) (accepted : Accepts x.answer) where
  abbrev choice : List ℕ
  choice = x.before.choice

  fine : commit_ruling p list v st choice (length x.before.list) (length x.before.block) ≡ Ok tt
  fine = fine_of_accepts (commit_ruling p list v st choice (length x.before.list) (length x.before.block)) (figures (rates_of p) (list_in list choice) 0) (rw k.made.answered at accepted)

  both : (admit_ruling p list v st (length list / 12) (length x.before.list) (length x.before.block) ≡ Ok tt) × (choice_ruling list choice ≡ Ok tt)
  both = fine_of_then (admit_ruling p list v st (length list / 12) (length x.before.list) (length x.before.block)) (choice_ruling list choice) fine

  pub sound : Sound p list v st (length list / 12) (length x.before.list) (length x.before.block)
  sound = sound_of_fine p list v st (length list / 12) (length x.before.list) (length x.before.block) both.0

  pub given : (c : List Bit) × Stands list choice c
  given = choice_of_fine list choice both.1

  abbrev c : List Bit
  c = given.0

  -- it decides for the choice that it was given, as partition does for the least
  pub decides : Decided (Ok tt) (rates_of p) list v c 0 x.before x.answer x.after
  decides =
      let w = writes k.made fine given.1 in
      let there : over (bit_bytes c) choice ≡ choice = ap (over (bit_bytes c)) given.1.bytes_are ∙ ap (λ (l : List ℕ). bit_bytes c ++ l) (drop-length (bit_bytes c)) ∙ append-nil (bit_bytes c) ∙ sym given.1.bytes_are in
      record { answered = w.answer_is; areas_after = areas_eq (k.choice_stays ∙ sym there) w.list_is w.block_is }

  answer_told : x.answer ≡ Ok (figures (rates_of p) (list_of (records_of list) c) 0)
  answer_told = answer_decided decides refl

-- ---- the two calls in turn

-- the least choice has as many bytes as there are records; so many bytes of an area that begins with it are that choice
pub length_least : (p : Price) (list : List ℕ) → length (bit_bytes (least_of p list)) ≡ length list / 12
length_least p list = length_bits (least_of p list) ∙ length_choice (records_of list) (least_of p list) (least_fits (rates_of p) (records_of list)) ∙ length_records_of list

pub least_handed_on : (p : Price) (list choice : List ℕ) {after : List ℕ} → after ≡ over (bit_bytes (least_of p list)) choice → take (length list / 12) after ≡ bit_bytes (least_of p list)
least_handed_on p list choice chosen = ap (take (length list / 12)) chosen ∙ front (length list / 12) (bit_bytes (least_of p list)) choice (sym (length_least p list))

module _ (p : Price) (list v st : List ℕ) (before : Areas) (r : TwoAnswers) (after : Areas) (h : room list v before ≡ true) (t : InTurn p list v st before r after) where
  alike : estimate_ruling p list v st before.choice ≡ partition_ruling p list v st before
  alike = estimate_alike p list v st before h

  is_choice : IsChoice (records_of list) (least_of p list)
  is_choice = least_fits (rates_of p) (records_of list)

  turn_refused : (x : Refusal) → partition_ruling p list v st before ≡ Err x → Partitioned p list v st before r.committed after
  turn_refused x e =
      let none = t.or_none x (rw (alike ∙ e) at t.first.answered) in
      record { answered = rw e none.0; areas_after = rw e (areas_eq (rw (alike ∙ e) at t.first.area_after) none.1 none.2) }

  turn_accepted : partition_ruling p list v st before ≡ Ok tt → Partitioned p list v st before r.committed after
  turn_accepted e =
      let chosen : after.choice ≡ over (bit_bytes (least_of p list)) before.choice = rw (alike ∙ e) at t.first.area_after in
      let handed_on = least_handed_on p list before.choice chosen in
      let made = subst (λ (c : List ℕ). Committed p list v st c before.list before.block r.committed after.list after.block) handed_on (t.second (rw (t.first.answered, alike ∙ e) tt)) in
      let fine = then_of_fine (admit_ruling p list v st (length list / 12) (length before.list) (length before.block)) (choice_ruling list (bit_bytes (least_of p list))) (commit_admits p list v st before h e) (fine_of_choice list (least_of p list) is_choice) in
      let w = writes made fine (stands list (bit_bytes (least_of p list)) (least_of p list) is_choice refl) in
      record { answered = rw e w.answer_is; areas_after = rw e (areas_eq chosen w.list_is w.block_is) }

  partitioned : Partitioned p list v st before r.committed after
  partitioned = go (partition_ruling p list v st before) refl
    where
      go : (q : Ruling) → partition_ruling p list v st before ≡ q → Partitioned p list v st before r.committed after
      go (Ok _) e = turn_accepted e
      go (Err x) e = turn_refused x e

-- ---- without room

short_too : (list v : List ℕ) (c a b : ℕ) → areas_fit list v (length list / 12) a b ≡ false → areas_fit list v c a b ≡ false
short_too list v c a b h = go (areas_fit list v c a b) refl
  where
    go : (x : Bool) → areas_fit list v c a b ≡ x → x ≡ false
    go false e = refl
    go true e = let m = areas_most list v c a b e in sym (areas_of_most list v (length list / 12) a b (omega arith) m.1 m.2) ∙ h

no_room : (p : Price) (list v st choice : List ℕ) (before : Areas) (r : Answer) (area block : List ℕ) → room list v before ≡ false
    → Committed p list v st choice before.list before.block r area block → Partitioned p list v st before r (areas before.choice area block)
no_room p list v st choice before r area block h made =
    let a = length before.list in
    let b = length before.block in
    let stop = stop_of_short p list v st (length list / 12) a b h in
    let e : partition_ruling p list v st before ≡ Err stop.0 = admit_alike p list v st (length before.choice) a b (length list / 12) a b (short_too list v (length before.choice) a b h ∙ sym h) ∙ stop.1 in
    record {
      answered = rw e (rw stop.1 at made.answered);
      areas_after = rw e (areas_eq refl (rw stop.1 at made.list_after) (rw stop.1 at made.block_after));
    }

-- ---- an estimate beside partition

choice_after : (q : Ruling) (list v : List ℕ) (c : List Bit) (before : Areas) → (decided_areas q list v c before).choice ≡ unless_refused q (over (bit_bytes c) before.choice) before.choice
choice_after (Ok _) list v c before = refl
choice_after (Err x) list v c before = refl

alike_answers : (p : Price) (list v st : List ℕ) (x : Call) (r : Answer) (after : List ℕ) → room list v x.before ≡ true
    → Partitioned p list v st x.before x.answer x.after → Estimated p list v st x.before.choice r after → (r ≡ x.answer) × (after ≡ x.after.choice)
alike_answers p list v st x r after h made e =
    let same = estimate_alike p list v st x.before h in (
      e.answered ∙ ap (λ (q : Ruling). decided_answer q (rates_of p) list (least_of p list) 0) same ∙ sym made.answered,
      e.area_after ∙ ap (λ (q : Ruling). unless_refused q (over (bit_bytes (least_of p list)) x.before.choice) x.before.choice) same
          ∙ sym (ap (λ (y : Areas). y.choice) made.areas_after ∙ choice_after (partition_ruling p list v st x.before) list v (least_of p list) x.before),
    )

-- ---- a commitment beside an estimate, and one that keeps all

costs_no_less : (p : Price) (list v st choice : List ℕ) (r : Answer) (after : List ℕ) (x : Call) → Estimated p list v st choice r after → Accepts r
    → Commits p list v st x → Accepts x.answer → (figures_in r).cost ≤ (figures_in x.answer).cost
costs_no_less p list v st choice r after x e a k b =
    rw (estimated_answer e a, answer_told k b) ((least_is_least (rates_of p) (records_of list)).cheapest (given k b).0 (given k b).1.is_choice)

joined : (p : Price) (list v st : List ℕ) (x : Call) → x.before.choice ≡ bit_bytes (keep_all (records_of list)) → Commits p list v st x
    → GivesJoined (admit_ruling p list v st (length list / 12) (length x.before.list) (length x.before.block)) p list v x
joined p list v st x e k =
    let q = admit_ruling p list v st (length list / 12) (length x.before.list) (length x.before.block) in
    let keeps = keep_all_is_choice (records_of list) in
    let ruling : commit_ruling p list v st x.before.choice (length x.before.list) (length x.before.block) ≡ q = ap (λ (y : Ruling). q then y) (ap (choice_ruling list) e ∙ fine_of_choice list (keep_all (records_of list)) keeps) ∙ then_fine q in
    let listed : list_in list x.before.choice ≡ tidy (records_of list) = ap (list_of (records_of list)) (stands list x.before.choice (keep_all (records_of list)) keeps e).bits_are ∙ keep_all_list (records_of list) in
    record {
      answered = k.made.answered ∙ ap₂ (λ (y : Ruling) (l : List Record). answer y (figures (rates_of p) l 0)) ruling listed;
      list_after = k.made.list_after ∙ ap₂ (λ (y : Ruling) (l : List Record). unless_refused y (over (encode l) x.before.list) x.before.list) ruling listed;
      block_after = k.made.block_after ∙ ap₂ (λ (y : Ruling) (l : List Record). unless_refused y (over (block_of l v) x.before.block) x.before.block) ruling listed;
    }

pub split_laws : SplitLaws
split_laws =
    record {
      estimated_alike = alike_answers;
      as_partition = partitioned;
      without_room = no_room;
      any_choice = fine_of_choice;
      choices_alone = λ list choice h. let c = choice_of_fine list choice h in (c.0, c.1.is_choice, c.1.bytes_are);
      comes_back = λ p list v st x y k a made long. version_back (sound k a) (given k a).0 (given k a).1.is_choice (rw (list_is_written (decides k a) refl, block_is_written (decides k a) refl (omega (arith, whole_written (sound k a) (given k a).0 (given k a).1.is_choice))) at made) long;
      no_cheaper = costs_no_less;
      keeping_all = joined;
      held_stay = λ p list v st x k a. held_stay (decides k a) refl (given k a).1.is_choice;
    }

-- ---- the calls as one function makes them

contrary : {A : Type 0} {x : Bool} → x ≡ true → x ≡ false → A
contrary e f = absurd (let z : ◌≡◌ {A = ℕ} 0 1 = cc in omega arith)

module _ (p : Price) (list v st : List ℕ) (before : Areas) where
  pub one_call : {r : Answer} {area block : List ℕ} → room list v before ≡ false → Committed p list v st before.choice before.list before.block r area block
      → TwoCalls p list v st before (record { estimated = r; committed = r }) (areas before.choice area block)
  one_call {r} {area} {block} h made = record { partitioned = no_room p list v st before.choice before r area block h made; in_turn = λ e. contrary e h; alone = λ e. (made, refl) }

  module _ {r : Answer} {choice : List ℕ} (h : room list v before ≡ true) (first : Estimated p list v st before.choice r choice) where
    two_calls : {s : Answer} {area block : List ℕ} → InTurn p list v st before (record { estimated = r; committed = s }) (areas choice area block)
        → TwoCalls p list v st before (record { estimated = r; committed = s }) (areas choice area block)
    two_calls {s} {area} {block} t =
        record { partitioned = partitioned p list v st before (record { estimated = r; committed = s }) (areas choice area block) h t; in_turn = λ e. t; alone = λ e. contrary h e }

    pub estimate_refused : {x : Refusal} → r ≡ Err x → TwoCalls p list v st before (record { estimated = r; committed = r }) (areas choice before.list before.block)
    estimate_refused q = two_calls (record { first = first; second = λ a. absurd (rw q at a); or_none = λ y e. (e, refl, refl) })

    -- there is a byte of choice for each record
    pub choice_there : {f : Figures} → r ≡ Ok f → length list / 12 ≤ length before.choice
    choice_there {f} q =
        (sound_of_fine p list v st (length before.choice) (length list) (length v) (estimated_fine first (rw q tt))).in_choice

    -- as many bytes as there are records are handed on
    pub estimate_committed : {m : ℕ} {f : Figures} {s : Answer} {area block : List ℕ} → r ≡ Ok f → m ≡ length list / 12
        → Committed p list v st (take m choice) before.list before.block s area block
        → TwoCalls p list v st before (record { estimated = Ok f; committed = s }) (areas choice area block)
    estimate_committed {m} {f} {s} {area} {block} q e made =
        subst (λ (a : Answer). TwoCalls p list v st before (record { estimated = a; committed = s }) (areas choice area block)) q
        (two_calls (record { first = first; second = λ a. subst (λ (k : ℕ). Committed p list v st (take k choice) before.list before.block s area block) e made; or_none = λ y x. (cc, cc, cc) }))
