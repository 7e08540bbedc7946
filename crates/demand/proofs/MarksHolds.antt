-- A held match is kept and stays bound to its address; and the calls that give the mark no meaning answer as if it were not there.
-- In order: what a record comes to without its mark; the checks; the calls; held matches in partition and pass.
-- Assumes nothing.
use Rattle.std.specs.Prelude.{Ok}
use Prim.Native.Nat.{ℕ, zero, suc, ◌+◌}
use mathlib.Core.Path.{◌≡◌, refl, ◌∙◌, ap, ap₂}
use mathlib.Core.List.{List, [], ◌∷◌, ◌++◌}
use lib.ListN.{length, take, drop, get_or}
use Rattle.format.specs.declared.Record.{Record}
use Rattle.format.specs.declared.Record.TheVariants.{New, Match}
use Rattle.format.specs.Refusal.{Ruling, answer}
use Rattle.format.specs.Record.{records_of}
use Rattle.format.specs.Meaning.{whole, stored, rebuilt, part_of, part_at}
use Rattle.format.specs.Marks.{bare, bares, unmarked, bonds}
use Rattle.format.proofs.Encoding.{records_encode}
use Rattle.format.proofs.Unmarking.{fits_unmarked, unread, unmarked_encode}
use Rattle.walk.specs.declared.Scope.TheVariants as scope
use Rattle.walk.proofs.Unmarked.{walk_unmarked}
use Rattle.price.specs.declared.Price.{Price}
use Rattle.price.specs.declared.Rates.{Rates}
use Rattle.price.specs.Price.{news, matches, rates_of}
use Rattle.measure.specs.Measure.{measure_ruling, measures}
use Rattle.show.specs.Check.{inputs_ruling, check_ruling}
use Rattle.rebuild.specs.Rebuild.{rebuild_ruling}
use Rattle.choice.specs.Choice.{Bit, IsChoice, list_of}
use Rattle.choice.proofs.Least.{least_fits}
use Rattle.choice.proofs.Holding.{keeps_held, bonds_list}
use Rattle.admit.proofs.Admitting.{sound_of_fine}
use Rattle.writer.specs.Decide.{Decided}
use Rattle.writer.proofs.Deciding.{decided_fine, areas_decided}
use Rattle.rules.specs.Rules.{tests_of}
use Rattle.rules.proofs.ByKind.{untouched}
use Rattle.linear.proofs.Theorems.{pass_holds}
use Rattle.demand.specs.Demand.{Call}
use Rattle.demand.specs.Marks.{HeldStay, HeldMatches, MarksUnread}
use Rattle.demand.proofs.WrittenList.{list_is_written}

-- ---- what a record comes to without its mark

length_bare : (l : List Record) → length (bares l) ≡ length l
length_bare [] = refl
length_bare (r ∷ l) = ap suc (length_bare l)

whole_bare : (l : List Record) → whole (bares l) ≡ whole l
whole_bare [] = refl
whole_bare (New s ∷ l) = ap (λ (n : ℕ). s + n) (whole_bare l)
whole_bare (Match s a ∷ l) = ap (λ (n : ℕ). s + n) (whole_bare l)

stored_bare : (l : List Record) → stored (bares l) ≡ stored l
stored_bare [] = refl
stored_bare (New s ∷ l) = ap (λ (n : ℕ). s + n) (stored_bare l)
stored_bare (Match s a ∷ l) = stored_bare l

news_bare : (l : List Record) → news (bares l) ≡ news l
news_bare [] = refl
news_bare (New s ∷ l) = ap suc (news_bare l)
news_bare (Match s a ∷ l) = news_bare l

matches_bare : (l : List Record) → matches (bares l) ≡ matches l
matches_bare [] = refl
matches_bare (New s ∷ l) = matches_bare l
matches_bare (Match s a ∷ l) = ap suc (matches_bare l)

measures_bare : (r : Rates) (l : List Record) → measures r (bares l) ≡ measures r l
measures_bare r l = rw (length_bare l, whole_bare l, stored_bare l, news_bare l, matches_bare l)

rebuilt_bare : (b st : List ℕ) (l : List Record) → rebuilt (bares l) b st ≡ rebuilt l b st
rebuilt_bare b st [] = refl
rebuilt_bare b st (New s ∷ l) = ap (λ (x : List ℕ). take s b ++ x) (rebuilt_bare (drop s b) st l)
rebuilt_bare b st (Match s a ∷ l) = ap (λ (x : List ℕ). take s (drop a.address st) ++ x) (rebuilt_bare b st l)

take_bare : (k : ℕ) (l : List Record) → take k (bares l) ≡ bares (take k l)
take_bare zero l = refl
take_bare (suc k) [] = refl
take_bare (suc k) (r ∷ l) = ap (λ (m : List Record). bare r ∷ m) (take_bare k l)

at_bare : (k : ℕ) (l : List Record) → get_or (bares l) k (New 0) ≡ bare (get_or l k (New 0))
at_bare k [] = refl
at_bare zero (r ∷ l) = refl
at_bare (suc k) (r ∷ l) = at_bare k l

part_bare : (k : ℕ) (l : List Record) → part_at (bares l) k ≡ part_at l k
part_bare k l = ap₂ part_of (ap stored (take_bare k l) ∙ stored_bare (take k l)) (at_bare k l) ∙ go (get_or l k (New 0))
  where
    go : (r : Record) → part_of (stored (take k l)) (bare r) ≡ part_of (stored (take k l)) r
    go (New s) = refl
    go (Match s a) = refl

-- ---- the checks

inputs_unread : (list block st : List ℕ) → inputs_ruling (unmarked list) block st ≡ inputs_ruling list block st
inputs_unread list block st = rw (fits_unmarked list, walk_unmarked scope.Store [] st list, unread stored stored_bare list)

check_unread : (list block st : List ℕ) (k : ℕ) → check_ruling (unmarked list) block st k ≡ check_ruling list block st k
check_unread list block st k = rw (inputs_unread list block st, unread length length_bare list)

rebuild_unread : (list block st area : List ℕ) → rebuild_ruling (unmarked list) block st area ≡ rebuild_ruling list block st area
rebuild_unread list block st area = rw (inputs_unread list block st, unread whole whole_bare list)

measure_unread : (p : Price) (list : List ℕ) → measure_ruling p (unmarked list) ≡ measure_ruling p list
measure_unread p list = rw (fits_unmarked list, walk_unmarked scope.Sizes [] [] list)

-- ---- the calls

pub marks_unread : MarksUnread
marks_unread =
    record {
      without = unmarked_encode;
      in_measure = λ p list. ap₂ answer (measure_unread p list) (unread (measures (rates_of p)) (measures_bare (rates_of p)) list);
      in_rebuild = λ list block st area. rw (rebuild_unread list block st area, unread whole whole_bare list);
      in_rebuilt = λ list block st area. rw (rebuild_unread list block st area, unread (λ l. rebuilt l block st) (rebuilt_bare block st) list);
      in_check = λ list block st k. rw (check_unread list block st k);
      in_show = λ list block st k. rw (check_unread list block.now st.now k, unread (λ l. part_at l k) (part_bare k) list);
      in_check_loose = λ list st. rw (fits_unmarked list, walk_unmarked scope.Loose [] st list);
    }

-- ---- held matches in partition and pass

-- an accepted call that decides for a choice
pub held_stay : {q : Ruling} {rates : Rates} {list v : List ℕ} {x : Call} {c : List Bit} {looks : ℕ} → Decided q rates list v c looks x.before x.answer x.after → q ≡ Ok tt
    → IsChoice (records_of list) c → HeldStay list v x
held_stay {q} {rates} {list} {v} {x} {c} {looks} made fine h =
    let l = list_of (records_of list) c in
    record {
      choice = c;
      written = areas_decided made fine;
      kept = keeps_held (records_of list) c h;
      bonds_alike = ap (λ (m : List ℕ). bonds (records_of m)) (list_is_written made fine) ∙ ap bonds (records_encode l) ∙ bonds_list (records_of list) c h;
    }

pub held_matches : HeldMatches
held_matches =
    record {
      in_partition = λ p list v st x made accepted. held_stay made (decided_fine made accepted) (least_fits (rates_of p) (records_of list));
      in_pass = λ p list v st x made accepted.
          let fine = decided_fine made.decided accepted in
          let sound = sound_of_fine p list v st (length x.before.choice) (length x.before.list) (length x.before.block) fine in
          held_stay made.decided fine (pass_holds (rates_of p) (records_of list) sound.covered.is_well_formed.sized).choice;
      in_look = λ r s a e. (rw e, untouched (tests_of r) s);
    }
