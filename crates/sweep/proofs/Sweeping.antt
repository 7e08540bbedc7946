-- Laws of the two sweeps: each record's turn is the path's, and what the sweep from the front makes of the hints is the least choice.
-- Assumes nothing.
use Rattle.std.specs.Prelude.{Some, None}
use Prim.Native.Nat.{ℕ, suc, ◌+◌, ◌-◌, ◌*◌, ◌/◌, ◌≤◌, ◌<◌}
use native.Mathlib.Omega.{arith}
use native.Mathlib.Numerals.{add-one}
use mathlib.Core.Path.{◌≡◌, refl, sym, ◌∙◌, ap}
use mathlib.Core.List.{List, [], ◌∷◌, ◌++◌, append_assoc}
use borrow.Author.Tests.{ne_eqb}
use lib.ListN.{length, get_or, take, drop, set}
use lib.Seq.{take-suc, set_at, length-take-le, drop-cons, take-suc-set, drop-set-lt, append_snoc}
use Rattle.format.specs.declared.Record.{Record}
use Rattle.format.specs.Record.{row_at, record_of, records_of, records_from}
use Rattle.format.proofs.Rows.{records_from_back, records_from_none, records_from_all, length_records_of}
use Rattle.price.specs.declared.Rates.{Rates}
use Rattle.join.specs.Open.{Open}
use Rattle.choice.specs.Choice.{Bit, keep, store, bit_byte, bit_bytes, least}
use Rattle.choice.specs.Path.{pick_bit, follow, after, step}
use Rattle.choice.proofs.Path.{follow_pick}
use Rattle.choice.proofs.Least.{least_pick, least_cost, least_fits}
use Rattle.choice.proofs.Lists.{length_bits, length_choice}
use Rattle.weigh.specs.declared.Turn.{Turn}
use Rattle.weigh.specs.Weigh.{left_by, turned}
use Rattle.sweep.specs.Sweep.{hint_byte, hint_bytes, before_at, best_of, hints_of, next_bit, forwards, Back, LeastIn}

-- ---- the sweep from the rear

pub records_end : (list : List ℕ) (n : ℕ) → records_from list n n ≡ []
records_end list n = records_from_none list n n (omega arith)

before_next : (list : List ℕ) (i : ℕ) → 0 < i → before_at list i ≡ Some (record_of (row_at list (i - 1)))
before_next list i h = let some : i ≡ 0 → ⊥ = λ e. omega arith in rw (ne_eqb i 0 some)

-- what the sweep has left before record i
pub record Swept (rates : Rates) (list : List ℕ) (n i kept stored : ℕ) (h : List ℕ) : Type 0 where
  pub kept_is : kept ≡ best_of rates (records_from list n i) (left_by (before_at list i) keep)
  pub stored_is : stored ≡ best_of rates (records_from list n i) (left_by (before_at list i) store)
  pub hints_are : h ≡ hint_bytes (hints_of rates (left_by (before_at list i)) (records_from list n i))

pub swept_end : (rates : Rates) (list : List ℕ) (n : ℕ) → Swept rates list n n 0 0 []
swept_end rates list n = record { kept_is = rw (records_end list n); stored_is = rw (records_end list n); hints_are = rw (records_end list n) }

pub swept_next : {rates : Rates} {list : List ℕ} {n i kept stored : ℕ} {h : List ℕ} → Swept rates list n i kept stored h → 0 < i → i ≤ n
    → (t : Turn) → t ≡ turned rates (before_at list (i - 1)) (record_of (row_at list (i - 1))) kept stored
    → Swept rates list n (i - 1) t.kept.0 t.stored.0 (t.hint ∷ h)
swept_next {rates} {list} {n} {i} {kept} {stored} {h} s some most t e = rw (e, s.kept_is, s.stored_is, s.hints_are, before_next list i some) (record { kept_is = rw back; stored_is = rw back; hints_are = rw back })
  where
    back : records_from list n (i - 1) ≡ record_of (row_at list (i - 1)) ∷ records_from list n i
    back = records_from_back list n i some most

pub set_back : (c e : List ℕ) (i x : ℕ) → 0 < i → i ≤ length c → set (take i c ++ e) (i - 1) x ≡ take (i - 1) c ++ (x ∷ e)
set_back c e i x h k =
    let s : i ≡ suc (i - 1) = omega arith in
    let l : i - 1 < length c = omega arith in
    ap (λ (j : ℕ). set (take j c ++ e) (i - 1) x) s
    ∙ ap (λ (p : List ℕ). set (p ++ e) (i - 1) x) (take-suc c (i - 1) 0 l)
    ∙ ap (λ (p : List ℕ). set p (i - 1) x) (append_assoc (take (i - 1) c) (get_or c (i - 1) 0 ∷ []) e)
    ∙ set_at (take (i - 1) c) (get_or c (i - 1) 0) e x (i - 1) (length-take-le (i - 1) c (omega arith))

pub forth_turn : (c : List ℕ) (n i b x : ℕ) → i < n → n ≤ length c → x ≡ next_bit b (get_or c i 0)
    → take i c ++ forwards (n - i) b (drop i c) ≡ take (i + 1) (set c i x) ++ forwards (n - (i + 1)) x (drop (i + 1) (set c i x))
forth_turn c n i b x h k e =
    let s : n - i ≡ suc (n - (i + 1)) = omega arith in
    let l : i < length c = omega arith in
    let d : drop i c ≡ get_or c i 0 ∷ drop (suc i) c = drop-cons c i 0 l in
    rw (s, d, ← e, add-one i, take-suc-set c i x l, drop-set-lt (suc i) c i x (omega arith), append_snoc)

next_pick : (b : Bit) (h : Bit × Bit) → next_bit (bit_byte b) (hint_byte h) ≡ bit_byte (pick_bit b h)
next_pick b h = go b h.0 h.1
  where
    go : (b x y : Bit) → next_bit (bit_byte b) (bit_byte x + 2 * bit_byte y) ≡ bit_byte (pick_bit b (x, y))
    go keep keep keep = refl
    go keep keep store = refl
    go keep store keep = refl
    go keep store store = refl
    go store keep keep = refl
    go store keep store = refl
    go store store keep = refl
    go store store store = refl

pub forwards_follow : (b : Bit) (hs : List (Bit × Bit)) (t : List ℕ) → forwards (length hs) (bit_byte b) (hint_bytes hs ++ t) ≡ bit_bytes (follow b hs) ++ t
forwards_follow b [] t = refl
forwards_follow b (h ∷ hs) t = rw (next_pick b h) (ap (λ (l : List ℕ). bit_byte (pick_bit b h) ∷ l) (forwards_follow (pick_bit b h) hs t))

length_hints : (rates : Rates) (g : Bit → Open) (rs : List Record) → length (hints_of rates g rs) ≡ length rs
length_hints rates g [] = refl
length_hints rates g (r ∷ rs) = ap suc (length_hints rates (after r) rs)

-- the sweep from the front over what the sweep from the rear left is the least choice
pub forwards_least : (rates : Rates) (list t : List ℕ) → let n = length list / 12 in
    forwards n 0 (hint_bytes (hints_of rates (left_by None) (records_from list n 0)) ++ t) ≡ bit_bytes (least rates (records_of list)) ++ t
forwards_least rates list t =
    let rs = records_of list in
    let hs = hints_of rates (left_by None) rs in
    let e : length list / 12 ≡ length hs = sym (length_hints rates (left_by None) rs ∙ length_records_of list) in
    rw (← records_from_all list)
    (ap (λ (m : ℕ). forwards m 0 (hint_bytes hs ++ t)) e
    ∙ forwards_follow keep hs t
    ∙ ap (λ (c : List Bit). bit_bytes c ++ t) (follow_pick after (step rates) (left_by None) rs keep ∙ sym (least_pick rates rs)))

-- what both sweeps leave
pub least_in : (rates : Rates) (list before middle after : List ℕ) (r : ℕ) → Back rates list (length list / 12) before middle r → after ≡ forwards (length list / 12) 0 middle → LeastIn rates list before after r
least_in rates list before middle after r b e =
    let n : length (bit_bytes (least rates (records_of list))) ≡ length list / 12 =
    length_bits (least rates (records_of list)) ∙ length_choice (records_of list) (least rates (records_of list)) (least_fits rates (records_of list)) ∙ length_records_of list in
    record {
      area =
          e ∙ ap (forwards (length list / 12) 0) b.area ∙ forwards_least rates list (drop (length list / 12) before)
          ∙ ap (λ (k : ℕ). bit_bytes (least rates (records_of list)) ++ drop k before) (sym n);
      cost_is = b.least_cost ∙ ap (λ (x : List Record). best_of rates x None) (sym (records_from_all list)) ∙ sym (least_cost rates (records_of list));
    }
