-- The laws of pool hold.
--
-- In order: pool beside partition; lists pooled with themselves and with lists of no match; an accepted call of pool, and what it wrote; a list with itself,
-- refused or not; two lists that each are accepted; the laws.
-- Assumes nothing.
use Rattle.std.specs.Prelude.{Ok, Err}
use Prim.Native.Nat.{ℕ, ◌+◌, ◌≤◌, ◌<◌}
use native.Mathlib.Omega.{arith}
use mathlib.Core.Path.{◌≡◌, refl, sym, ◌∙◌, ap}
use mathlib.Core.Bool.{Bool, true, false}
use mathlib.Core.List.{List, [], ◌∷◌}
use lib.Dec.{eqb, leb}
use lib.ListN.{length, get_or, replicate, replicate-append-replicate}
use borrow.Author.Tests.{le-leb, lt-ltb}
use Rattle.format.specs.declared.Fault.TheVariants as fault
use Rattle.format.specs.declared.Record.{Record}
use Rattle.format.specs.declared.Record.TheVariants.{New, Match}
use Rattle.format.specs.declared.Refusal.{Refusal}
use Rattle.format.specs.Refusal.{Ruling, refuse, need, ◌then◌, answer, unless_refused, Accepts, figures_in, length_only, entries_only}
use Rattle.format.specs.declared.Figures.{Figures}
use Rattle.format.specs.Limits.{store_most, list_most, records_most}
use Rattle.format.specs.Record.{list_fits, records_of, encode}
use Rattle.format.specs.Meaning.{whole, stored, block_of}
use Rattle.format.specs.WellFormed.{WellFormed}
use Rattle.format.specs.Origins.{Origin, fresh, drawn, origins, origin_at, singles}
use Rattle.format.proofs.Rulings.{stop_of_refused, fine_of_accepts}
use Rattle.format.proofs.Encoding.{records_encode, length_encode}
use Rattle.format.proofs.Rebuilding.{whole_agrees, inside_agrees}
use Rattle.format.proofs.Tracing.{length_origins, freshes, freshes_stored}
use Rattle.walk.specs.declared.Scope.TheVariants as scope
use Rattle.walk.specs.Checks.{checks, walk_ruling}
use Rattle.walk.proofs.Loosened.{Loosened, alike, loosened_then, loosened_stop, loosened_version, NotFive, not_five_then, not_five_need, not_five_walk_version, loose_of_version}
use Rattle.price.specs.declared.Price.{Price}
use Rattle.price.specs.Price.{price_fits}
use Rattle.area.specs.Area.{over}
use Rattle.join.specs.Join.{gather}
use Rattle.join.proofs.Joining.{length_tidy, settled_tidy}
use Rattle.join.proofs.Tracing.{origins_gather, gather_origins}
use Rattle.admit.specs.Admit.{lengths_fit, areas_fit, cover_ruling, partition_ruling, LongEnough}
use Rattle.admit.proofs.Admitting.{lengths_most}
use Rattle.show.specs.Check.{checked}
use Rattle.rebuild.specs.Rebuild.{Rebuilt}
use Rattle.call_partition.specs.Partition.{Partitioned}
use Rattle.loose.specs.Loose.{tidy_form, tidy_ruling}
use Rattle.loose.proofs.Accepting as loose
use Rattle.pool.specs.Pool.{pooled_byte, pooled, pooled_list, list_ruling, pool_ruling, pool_answer}
use Rattle.pool.proofs.Bytes.{pooled_at, pooled_self, pooled_new, pooled_before_new}
use Rattle.pool.proofs.Agreeing.{pooled_well_formed, freshes_pooled}
use Rattle.pool.proofs.Pieces.{few_pooled}
use Rattle.pool.proofs.Accepting as pool
use Rattle.demand.specs.Demand.{Call, Rebuilding}
use Rattle.demand.specs.Tidying.{ListCall, list_out, Tidies, Writes}
use Rattle.demand.specs.Pooling.{Pools, new_bytes, sole_ruling, NoMatch, PoolingLaws}
use Rattle.demand.proofs.ListCalls.{entries_of, list_out_is}
use Rattle.demand.proofs.WrittenList.{inputs_list, version_list, partition_list}
use Rattle.demand.proofs.TidyingHolds.{not_five, writes_form, writes_back}

-- ---- beside partition

-- partition's checks, 1 and 9 among them; and those that pool makes of a list, without them
stop_beside : (t : Bool) (two three : Ruling) (u : Bool) (q k : Ruling) (r : Refusal) → Loosened q k
    → (need t fault.Price 0 then two then three) then need u fault.AreaTooShort 0 then q ≡ Err r
    → (r.fault ≡ fault.Price → ⊥) → (r.fault ≡ fault.AreaTooShort → ⊥) → (r.fault ≡ fault.Adjacent → ⊥) → two then three then k ≡ Err r
stop_beside false two three u q k r h e a b c = absurd (a (let z : refuse fault.Price 0 ≡ r = cc in ap (λ (x : Refusal). x.fault) (sym z)))
stop_beside true (Err x) three u q k r h e a b c = e
stop_beside true (Ok _) (Err x) u q k r h e a b c = e
stop_beside true (Ok _) (Ok _) false q k r h e a b c = absurd (b (let z : refuse fault.AreaTooShort 0 ≡ r = cc in ap (λ (x : Refusal). x.fault) (sym z)))
stop_beside true (Ok _) (Ok _) true q k r h e a b c = loosened_stop h e c

-- a refusal before what follows
stop_first : (a b c : Ruling) {r : Refusal} → a then b ≡ Err r → a then b then c ≡ Err r
stop_first (Err x) b c e = e
stop_first (Ok _) b c e = rw e

module _ (v st list : List ℕ) where
  abbrev two : Ruling
  two = need (lengths_fit v st) fault.TooLong 0

  abbrev three : Ruling
  three = need (list_fits list) fault.ListLength 0

  abbrev short : Ruling
  short = need (eqb (whole (records_of list)) (length v)) fault.Sizes (length (records_of list))

  loosened_cover : Loosened (cover_ruling scope.Version list v st) (cover_ruling scope.LooseVersion list v st)
  loosened_cover = loosened_then (loosened_version v st list) (alike short)

  stop_of_partition : (p : Price) (x : Call) (r : Refusal) → Partitioned p list v st x.before x.answer x.after → x.answer ≡ Err r
      → (r.fault ≡ fault.Price → ⊥) → (r.fault ≡ fault.AreaTooShort → ⊥) → (r.fault ≡ fault.Adjacent → ⊥) → two then list_ruling list v st ≡ Err r
  stop_of_partition p x r made e a b c =
      let q = stop_of_refused (partition_ruling p list v st x.before) _ r (sym made.answered ∙ e) in
      stop_beside (price_fits p) two three (areas_fit list v (length x.before.choice) (length x.before.list) (length x.before.block)) (cover_ruling scope.Version list v st) (cover_ruling scope.LooseVersion list v st) r loosened_cover q a b c

  -- never 5
  not_five_list : NotFive (list_ruling list v st)
  not_five_list =
      not_five_then three (cover_ruling scope.LooseVersion list v st) (not_five_need (list_fits list) fault.ListLength 0 (λ e. omega arith))
      (not_five_then (walk_ruling (checks scope.LooseVersion v st) list) short (not_five_walk_version v st list) (not_five_need (eqb (whole (records_of list)) (length v)) fault.Sizes (length (records_of list)) (λ e. omega arith)))

not_five_pool : (first second v st : List ℕ) (room : ℕ) → NotFive (pool_ruling first second v st room)
not_five_pool first second v st room =
    let l = pooled_list first second in
    let nine : Ruling = need (leb (length (encode l)) room) fault.AreaTooShort 0 in
    let thirteen : Ruling = need (leb (length l) records_most) fault.TooManyRecords 0 in
    not_five_then (need (lengths_fit v st) fault.TooLong 0) (list_ruling first v st then list_ruling second v st then thirteen then nine) (not_five_need (lengths_fit v st) fault.TooLong 0 (λ e. omega arith))
    (not_five_then (list_ruling first v st) (list_ruling second v st then thirteen then nine) (not_five_list v st first)
    (not_five_then (list_ruling second v st) (thirteen then nine) (not_five_list v st second)
    (not_five_then thirteen nine (not_five_need (leb (length l) records_most) fault.TooManyRecords 0 (λ e. omega arith)) (not_five_need (leb (length (encode l)) room) fault.AreaTooShort 0 (λ e. omega arith)))))

-- ---- with itself, and with a list of no match

form_of_self : {list v st : List ℕ} → pool.Listed list v st → pooled_list list list ≡ tidy_form list
form_of_self {list} h = ap gather (pooled_self (origins (records_of list))) ∙ gather_origins (records_of list) h.sized

origins_new : (l : List Record) → NoMatch l → origins l ≡ replicate (whole l) fresh
origins_new [] h = refl
origins_new (New s ∷ l) h = rw (origins_new l h) (replicate-append-replicate s (whole l) fresh)
origins_new (Match s a ∷ l) h = absurd h

module _ {first second v st : List ℕ} (f : pool.Listed first v st) (s : pool.Listed second v st) where
  same_length : length (origins (records_of first)) ≡ length (origins (records_of second))
  same_length = omega (arith, length_origins (records_of first), length_origins (records_of second), f.whole_is, s.whole_is)

  form_of_first : NoMatch (records_of second) → pooled_list first second ≡ tidy_form first
  form_of_first h =
      let os = origins (records_of first) in
      let n = whole (records_of second) in
      ap (λ (us : List Origin). gather (pooled os us)) (origins_new (records_of second) h)
      ∙ ap gather (pooled_before_new os n (omega (arith, length_origins (records_of first), f.whole_is, s.whole_is)))
      ∙ gather_origins (records_of first) f.sized

  form_of_second : NoMatch (records_of first) → pooled_list first second ≡ tidy_form second
  form_of_second h =
      let us = origins (records_of second) in
      let n = whole (records_of first) in
      ap (λ (os : List Origin). gather (pooled os us)) (origins_new (records_of first) h)
      ∙ ap gather (pooled_new n us (omega (arith, length_origins (records_of second), f.whole_is, s.whole_is)))
      ∙ gather_origins (records_of second) s.sized

-- a list that pool accepts has no fault for tidy
tidy_fine : {list v st : List ℕ} (room : ℕ) → lengths_fit v st ≡ true → pool.Listed list v st → length list ≤ room → tidy_ruling list st room ≡ Ok tt
tidy_fine {list} {v} {st} room lengths l h =
    let most = lengths_most v st lengths in
    rw (le-leb (length st) store_most most.1, l.list_in_limits, le-leb (length list) room h, loose_of_version v st list most.0 l.walk_fine)

-- ---- an accepted call of pool, and what it wrote

new_of_pooled : (o u : Origin) → pooled_byte o u ≡ fresh → (o ≡ fresh) × (u ≡ fresh)
new_of_pooled fresh fresh e = (refl, refl)
new_of_pooled fresh (drawn b) e = absurd (let z : ◌≡◌ {A = ℕ} 0 1 = cc in omega arith)
new_of_pooled (drawn a) u e = absurd (let z : ◌≡◌ {A = ℕ} 0 1 = cc in omega arith)

module _ {first second v st : List ℕ} {x : ListCall} (t : Pools first second v st x) (accepted : Accepts x.answer) where
  abbrev l : List Record
  l = pooled_list first second

  fine : pool_ruling first second v st (length x.before) ≡ Ok tt
  fine = fine_of_accepts (pool_ruling first second v st (length x.before)) (entries_only (length l)) (rw t.answered at accepted)

  passed : pool.Accepts first second v st (length x.before)
  passed = pool.accepts_of_fine first second v st (length x.before) fine

  abbrev lengths : lengths_fit v st ≡ true
  lengths = passed.both.lengths_in_limits

  abbrev first_listed : pool.Listed first v st
  first_listed = pool.first_listed passed.both

  abbrev second_listed : pool.Listed second v st
  second_listed = pool.second_listed passed.both

  wrote : Writes (encode l) (length l) x
  wrote = record { answered = rw fine at t.answered; area_after = rw fine at t.area_after }

  entries_told : (figures_in x.answer).entries ≡ length l
  entries_told = entries_of l wrote

  list_told : list_out x ≡ encode l
  list_told = list_out_is l wrote

  records_told : records_of (list_out x) ≡ l
  records_told = ap records_of list_told ∙ records_encode l

  is_well_formed : WellFormed st l v
  is_well_formed = pooled_well_formed st (records_of first) (records_of second) v first_listed.agrees second_listed.agrees

  whole_told : whole (records_of (list_out x)) ≡ length v
  whole_told = ap whole records_told ∙ whole_agrees st l v is_well_formed.agrees

  block_told : new_bytes v x ≡ block_of l v
  block_told = ap (λ (k : List Record). block_of k v) records_told

  origins_told : origins (records_of (list_out x)) ≡ pooled (origins (records_of first)) (origins (records_of second))
  origins_told = ap origins records_told ∙ origins_gather (pooled (origins (records_of first)) (origins (records_of second)))

  byte_told : (i : ℕ) → i < length v → origin_at (records_of (list_out x)) i ≡ pooled_byte (origin_at (records_of first) i) (origin_at (records_of second) i)
  byte_told i h =
      ap (λ (os : List Origin). get_or os i fresh) origins_told
      ∙ pooled_at (origins (records_of first)) (origins (records_of second)) i (same_length first_listed second_listed) (omega (arith, length_origins (records_of first), first_listed.whole_is))

  stored_told : (stored (records_of (list_out x)) ≤ stored (records_of first)) × (stored (records_of (list_out x)) ≤ stored (records_of second))
  stored_told =
      let few = freshes_pooled (origins (records_of first)) (origins (records_of second)) (same_length first_listed second_listed) in
      let is = sym (freshes_stored (records_of (list_out x))) ∙ ap freshes origins_told in
      (omega (arith, few.0, is, freshes_stored (records_of first)), omega (arith, few.1, is, freshes_stored (records_of second)))

  -- partition, check and rebuild of it
  admitted : (p : Price) (y : Call) → Partitioned p (list_out x) v st y.before y.answer y.after → price_fits p ≡ true → LongEnough (list_out x) v y.before → Accepts y.answer
  admitted p y made fits room = rw (made.answered, list_told, partition_list lengths is_well_formed passed.few p y.before fits (rw list_told at room)) tt

  checked_told : (k : ℕ) → k < (figures_in x.answer).entries → checked (list_out x) (new_bytes v x) st k ≡ Ok (length_only 0)
  checked_told k lt = rw (block_told, list_told, inputs_list lengths is_well_formed passed.few, records_encode l, lt-ltb k (length l) (omega (arith, entries_told)))

  rebuilt_told : {y : Rebuilding} → Rebuilt (list_out x) (new_bytes v x) st y.before y.answer y.after → length v ≤ length y.before
      → (y.answer ≡ Ok (length_only (length v))) × (y.after ≡ over v y.before)
  rebuilt_told made room = version_list lengths is_well_formed passed.few (rw (block_told, list_told) at made) room

  -- tidy of it; and of a list whose tidy form it is
  tidied : {y : ListCall} → Tidies (list_out x) st y → length (list_out x) ≤ length y.before → Writes (list_out x) (figures_in x.answer).entries y
  tidied u room =
      let most = lengths_most v st lengths in
      let sound : loose.Sound l st = record { store_at_most = most.1; sized = is_well_formed.sized; inside = inside_agrees st l v is_well_formed.agrees; whole_most = omega (arith, whole_agrees st l v is_well_formed.agrees, most.0) } in
      writes_back l list_told entries_told (settled_tidy (singles (pooled (origins (records_of first)) (origins (records_of second))))) passed.few sound u room

  as_tidy : {list : List ℕ} {y : ListCall} → pool.Listed list v st → l ≡ tidy_form list → Tidies list st y → length list ≤ length y.before → Writes (list_out x) (figures_in x.answer).entries y
  as_tidy {y = y} listed form u room = writes_form l u (tidy_fine (length y.before) lengths listed room) (sym form) list_told entries_told

-- ---- a list with itself, refused or not

sole_then : (a q t s : Ruling) → (a ≡ Ok tt → q ≡ Ok tt → t ≡ s) → a then q then q then t ≡ a then q then s
sole_then (Err x) q t s h = refl
sole_then (Ok _) (Err x) t s h = refl
sole_then (Ok _) (Ok _) t s h = h refl refl

module _ (list v st : List ℕ) (room : ℕ) where
  abbrev pooled_is : List Record
  pooled_is = pooled_list list list

  -- 13 is not said, and 9 by the tidy form
  sole_end : list_ruling list v st ≡ Ok tt
      → need (leb (length pooled_is) records_most) fault.TooManyRecords 0 then need (leb (length (encode pooled_is)) room) fault.AreaTooShort 0 ≡ need (leb (length (encode (tidy_form list))) room) fault.AreaTooShort 0
  sole_end h =
      let k = pool.listed_of_fine list v st h in
      rw (form_of_self k, le-leb (length (tidy_form list)) records_most (omega (arith, length_tidy (records_of list), k.counted.count_most)))

  sole : pool_ruling list list v st room ≡ sole_ruling list v st room
  sole = sole_then (need (lengths_fit v st) fault.TooLong 0) (list_ruling list v st) _ _ (λ e h. sole_end h)

  -- accepted, it is the tidy form
  form_of_fine : pool_ruling list list v st room ≡ Ok tt → pooled_is ≡ tidy_form list
  form_of_fine e = form_of_self (pool.first_listed (pool.accepts_of_fine list list v st room e).both)

answer_alike : (q : Ruling) (a b : Figures) → (q ≡ Ok tt → a ≡ b) → answer q a ≡ answer q b
answer_alike (Ok _) a b h = ap Ok (h refl)
answer_alike (Err x) a b h = refl

area_alike : (q : Ruling) (a b before : List ℕ) → (q ≡ Ok tt → a ≡ b) → unless_refused q a before ≡ unless_refused q b before
area_alike (Ok _) a b before h = h refl
area_alike (Err x) a b before h = refl

self_told : (list v st : List ℕ) {x : ListCall} → Pools list list v st x
    → (x.answer ≡ answer (sole_ruling list v st (length x.before)) (entries_only (length (tidy_form list))))
    × (x.after ≡ unless_refused (sole_ruling list v st (length x.before)) (over (encode (tidy_form list)) x.before) x.before)
self_told list v st {x} t =
    let room = length x.before in
    let q = pool_ruling list list v st room in
    let form : q ≡ Ok tt → pooled_list list list ≡ tidy_form list = form_of_fine list v st room in (
      t.answered ∙ answer_alike q _ _ (λ e. ap (λ (k : List Record). entries_only (length k)) (form e)) ∙ ap (λ (r : Ruling). answer r (entries_only (length (tidy_form list)))) (sole list v st room),
      t.area_after ∙ area_alike q _ _ x.before (λ e. ap (λ (k : List Record). over (encode k) x.before) (form e))
          ∙ ap (λ (r : Ruling). unless_refused r (over (encode (tidy_form list)) x.before) x.before) (sole list v st room),
    )

-- ---- two lists that each are accepted

together : {first second v st : List ℕ} (area : List ℕ) {x y : ListCall} → Pools first first v st x → Accepts x.answer → Pools second second v st y → Accepts y.answer
    → length first + length second ≤ list_most → length first + length second ≤ length area → Accepts (pool_answer first second v st area)
together {first} {second} {v} {st} area t a u b few room =
    let both : pool.BothFine first second v st = record { lengths_in_limits = lengths t a; first_fine = (passed t a).both.first_fine; second_fine = (passed u b).both.first_fine } in
    let f = pool.first_listed both in
    let s = pool.second_listed both in
    let l = pooled_list first second in
    let count = few_pooled (length (records_of first) + length (records_of second)) (records_of first) (records_of second) (omega arith) f.sized s.sized (f.whole_is ∙ sym s.whole_is) in
    rw (pool.fine_in_room both (length area) (omega (arith, count, f.counted.whole_records, s.counted.whole_records)) (omega (arith, count, length_encode l, f.counted.whole_records, s.counted.whole_records))) tt

-- ---- the laws

pub pooling_laws : PoolingLaws
pooling_laws =
    record {
      first_refused = λ p first second v st area x r made e a b c.
          let stop = stop_of_partition v st first p x r made e a b c in
          rw (stop_first (need (lengths_fit v st) fault.TooLong 0) (list_ruling first v st) _ stop);
      second_refused = λ p first second v st area x y r t accepted made e a b c.
          let stop = stop_of_partition v st second p x r made e a b c in
          rw (lengths t accepted, (passed t accepted).both.first_fine, rw (lengths t accepted) at stop);
      never_five = λ first second v st area r e. not_five (pool_ruling first second v st (length area)) r (not_five_pool first second v st (length area)) (stop_of_refused (pool_ruling first second v st (length area)) (entries_only (length (pooled_list first second))) r e);
      itself = λ list v st x t. self_told list v st t;
      itself_as_tidy = λ list v st x y t a u room. as_tidy t a (first_listed t a) (form_of_self (first_listed t a)) u room;
      partition_accepts = λ p first second v st x y t a made fits room. admitted t a p y made fits room;
      checked_with_block = λ first second v st x k t a lt. checked_told t a k lt;
      rebuilt_with_block = λ first second v st x y t a made room. rebuilt_told t a {y = y} made room;
      new_in_both = λ first second v st x i t a lt.
          let byte = byte_told t a i lt in (
            λ e. new_of_pooled (origin_at (records_of first) i) (origin_at (records_of second) i) (sym byte ∙ e),
            λ h. byte ∙ rw (h.0, h.1),
          );
      stores_no_more = λ first second v st x t a. stored_told t a;
      second_without = λ first second v st x y t a h u room. as_tidy t a (first_listed t a) (form_of_first (first_listed t a) (second_listed t a) h) u room;
      first_without = λ first second v st x y t a h u room. as_tidy t a (second_listed t a) (form_of_second (first_listed t a) (second_listed t a) h) u room;
      covers_version = λ first second v st x t a. whole_told t a;
      each_byte = λ first second v st x i t a lt. byte_told t a i lt;
      of_tidy = λ first second v st x y t a u room. tidied t a u room;
      few_together = λ first second v st area x y t a u b few room. together area t a u b few room;
    }
