-- What one look does: it advances, or it is one of the four merges, whose test passed; it keeps the list's laws, and brings the end nearer.
-- Assumes nothing.
use Prim.Native.Nat.{ℕ, ◌+◌, ◌*◌, ◌<◌}
use native.Mathlib.Omega.{arith}
use mathlib.Core.Path.{◌≡◌, refl}
use mathlib.Core.Bool.{Bool, true, false, cond}
use mathlib.Core.List.{List, [], ◌∷◌}
use lib.ListN.{length}
use Rattle.rules.specs.declared.Merge.TheVariants.{Both, Before, After, Pair}
use Rattle.rules.specs.declared.Outcome.TheVariants.{Advance, Merged}
use Rattle.rules.specs.Rules.{Item, new, match, neither, is_new, Tests}
use Rattle.machine.specs.Looks.{bytes, first, Look, ended, look_at, merge_in, joined}
use Rattle.machine.proofs.Fusing.{Starts, Tidy, Fuses, weigh, starts_cons, Turns, turns_refl, turns_joined, fuses_cons, fuse_both, fuse_before, fuse_after, fuse_pair}

-- the tests are such that a merge lowers the weight, and merge 1 takes what merge 2 takes
pub record Pays (t : Tests) (w : Item → ℕ) : Type 0 where
  pub wider : (s : ℕ) → t.side s ≡ true → t.both s ≡ true
  pub both_pays : (a b c : ℕ) → t.both b ≡ true → w (new (a + b + c)) < w (new a) + (w (match b) + w (new c))
  pub before_pays : (a b : ℕ) → t.side b ≡ true → w (new (a + b)) < w (new a) + w (match b)
  pub after_pays : (b c : ℕ) → t.side b ≡ true → w (new (b + c)) < w (match b) + w (new c)
  pub pair_pays : (b c : ℕ) → t.pair (b + c) ≡ true → w (new (b + c)) < w (match b) + w (match c)

-- `Seen t l p r s`: what a look at p, with l before it and r after it, is, and which tests passed
pub data Seen (t : Tests) : List Item → Item → List Item → Look → Type 0 where
  advances : {l : List Item} {p : Item} {r : List Item} → Seen t l p r (ended Advance l p r)
  joins_both : {a b c : ℕ} {l r : List Item} → t.both b ≡ true
      → Seen t (new a ∷ l) (match b) (new c ∷ r) (ended (Merged (Both (a + b + c))) (new a ∷ l) (match b) (new c ∷ r))
  joins_before : {a b : ℕ} {l r : List Item} → t.side b ≡ true → is_new (first r) ≡ false
      → Seen t (new a ∷ l) (match b) r (ended (Merged (Before (a + b))) (new a ∷ l) (match b) r)
  joins_after : {x : Item} {b c : ℕ} {l r : List Item} → is_new x ≡ false → t.side b ≡ true
      → Seen t (x ∷ l) (match b) (new c ∷ r) (ended (Merged (After (b + c))) (x ∷ l) (match b) (new c ∷ r))
  joins_pair : {x : Item} {b c : ℕ} {l r : List Item} → is_new x ≡ false → is_new (first r) ≡ false → t.pair (b + c) ≡ true
      → Seen t (x ∷ l) (match b) (match c ∷ r) (ended (Merged (Pair (b + c))) (x ∷ l) (match b) (match c ∷ r))

tidy_made : (x : Item) (s : ℕ) (y r : List Item) → is_new x ≡ false → (Tidy y → Tidy (new s ∷ r)) → Tidy (x ∷ y) → Tidy (x ∷ new s ∷ r)
tidy_made (new a) s y r e f h = let z : ◌≡◌ {A = ℕ} 0 1 = cc in absurd (omega arith)
tidy_made (match a) s y r e f h = f h
tidy_made (neither a) s y r e f h = f h

-- a merge that makes a new item of the first items of x, what they weigh falling
module _ {w : Item → ℕ} {s : ℕ} {r : List Item} where
  -- the first of which is new
  turns_new : {a : ℕ} {x : List Item} → (Tidy (new a ∷ x) → Tidy (new s ∷ r)) → ((xs : List Item) → Fuses xs (new a ∷ x) → Fuses xs (new s ∷ r))
      → bytes (new s ∷ r) ≡ bytes (new a ∷ x) → weigh w (new s ∷ r) < weigh w (new a ∷ x) → Turns w 1 (new a ∷ x) (new s ∷ r)
  turns_new f g k h = record { some = λ u. u; starts = λ u. u; ahead = refl; tidy = f; fuses = g; kept = k; lower = omega (arith, h) }

  -- behind an item that is not
  turns_behind : {b : ℕ} {x : List Item} (y : Item) → is_new y ≡ false → (Tidy (match b ∷ x) → Tidy (new s ∷ r)) → ((xs : List Item) → Fuses xs (match b ∷ x) → Fuses xs (new s ∷ r))
      → bytes (new s ∷ r) ≡ bytes (match b ∷ x) → weigh w (new s ∷ r) < weigh w (match b ∷ x) → Turns w 1 (y ∷ match b ∷ x) (y ∷ new s ∷ r)
  turns_behind {b} {x} y n f g k h =
      record {
        some = λ u. u;
        starts = starts_cons y (match b ∷ x) (new s ∷ r) (λ u. u);
        ahead = refl;
        tidy = tidy_made y s (match b ∷ x) r n f;
        fuses = λ xs. fuses_cons g;
        kept = omega (arith, k);
        lower = omega (arith, h);
      }

module _ (t : Tests) (w : Item → ℕ) (pays : Pays t w) where
  turns_both : (a b c : ℕ) (r : List Item) → t.both b ≡ true → Turns w 1 (new a ∷ match b ∷ new c ∷ r) (new (a + b + c) ∷ r)
  turns_both a b c r e = turns_new (λ u. u.1) (λ xs. fuse_both) (omega arith) (omega (arith, pays.both_pays a b c e))

  turns_before : (a b : ℕ) (r : List Item) → t.side b ≡ true → is_new (first r) ≡ false → Turns w 1 (new a ∷ match b ∷ r) (new (a + b) ∷ r)
  turns_before a b r e n = turns_new (λ u. (n, u.1)) (λ xs. fuse_before) (omega arith) (omega (arith, pays.before_pays a b e))

  turns_after : (x : Item) (b c : ℕ) (r : List Item) → is_new x ≡ false → t.side b ≡ true → Turns w 1 (x ∷ match b ∷ new c ∷ r) (x ∷ new (b + c) ∷ r)
  turns_after x b c r n e = turns_behind x n (λ u. u) (λ xs. fuse_after) (omega arith) (omega (arith, pays.after_pays b c e))

  turns_pair : (x : Item) (b c : ℕ) (r : List Item) → is_new x ≡ false → is_new (first r) ≡ false → t.pair (b + c) ≡ true
      → Turns w 1 (x ∷ match b ∷ match c ∷ r) (x ∷ new (b + c) ∷ r)
  turns_pair x b c r n m e = turns_behind x n (λ u. (m, u)) (λ xs. fuse_pair) (omega arith) (omega (arith, pays.pair_pays b c e))

  -- ---- a look is one of the five

  seen_before : (a s : ℕ) (l r : List Item) → is_new (first r) ≡ false → (v : Bool) → t.side s ≡ v
      → Seen t (new a ∷ l) (match s) r (ended (cond v (Merged (Before (a + s))) Advance) (new a ∷ l) (match s) r)
  seen_before a s l r n true e = joins_before e n
  seen_before a s l r n false e = advances

  seen_both : (a s c : ℕ) (l r : List Item) (v u : Bool) → t.both s ≡ v → t.side s ≡ u
      → Seen t (new a ∷ l) (match s) (new c ∷ r)
      (ended (cond v (Merged (Both (a + s + c))) (cond u (Merged (Before (a + s))) (cond u (Merged (After (s + c))) Advance))) (new a ∷ l) (match s) (new c ∷ r))
  seen_both a s c l r true u e d = joins_both e
  seen_both a s c l r false true e d = let k : t.both s ≡ true = pays.wider s d in let z : ◌≡◌ {A = ℕ} 0 1 = cc in absurd (omega arith)
  seen_both a s c l r false false e d = advances

  seen_after : (x : Item) (s c : ℕ) (l r : List Item) → is_new x ≡ false → (v : Bool) → t.side s ≡ v
      → Seen t (x ∷ l) (match s) (new c ∷ r) (ended (cond v (Merged (After (s + c))) Advance) (x ∷ l) (match s) (new c ∷ r))
  seen_after x s c l r n true e = joins_after n e
  seen_after x s c l r n false e = advances

  seen_pair : (x : Item) (s c : ℕ) (l r : List Item) → is_new x ≡ false → is_new (first r) ≡ false → (v : Bool) → t.pair (s + c) ≡ v
      → Seen t (x ∷ l) (match s) (match c ∷ r) (ended (cond v (Merged (Pair (s + c))) Advance) (x ∷ l) (match s) (match c ∷ r))
  seen_pair x s c l r n m true e = joins_pair n m e
  seen_pair x s c l r n m false e = advances

  pub seen : (l : List Item) (p : Item) (r : List Item) → Starts (joined l (p ∷ r)) → Seen t l p r (look_at t l p r)
  seen l (new s) r h = advances
  seen l (neither s) r h = advances
  seen [] (match s) r h = absurd h
  seen (new a ∷ l) (match s) [] h = seen_before a s l [] refl (t.side s) refl
  seen (new a ∷ l) (match s) (new c ∷ r) h = seen_both a s c l r (t.both s) (t.side s) refl refl
  seen (new a ∷ l) (match s) (match c ∷ r) h = seen_before a s l (match c ∷ r) refl (t.side s) refl
  seen (new a ∷ l) (match s) (neither c ∷ r) h = seen_before a s l (neither c ∷ r) refl (t.side s) refl
  seen (match a ∷ l) (match s) [] h = advances
  seen (match a ∷ l) (match s) (new c ∷ r) h = seen_after (match a) s c l r refl (t.side s) refl
  seen (match a ∷ l) (match s) (neither c ∷ r) h = advances
  seen (match a ∷ l) (match s) (match c ∷ []) h = seen_pair (match a) s c l [] refl refl (t.pair (s + c)) refl
  seen (match a ∷ l) (match s) (match c ∷ new d ∷ r) h = advances
  seen (match a ∷ l) (match s) (match c ∷ match d ∷ r) h = seen_pair (match a) s c l (match d ∷ r) refl refl (t.pair (s + c)) refl
  seen (match a ∷ l) (match s) (match c ∷ neither d ∷ r) h = seen_pair (match a) s c l (neither d ∷ r) refl refl (t.pair (s + c)) refl
  seen (neither a ∷ l) (match s) [] h = advances
  seen (neither a ∷ l) (match s) (new c ∷ r) h = seen_after (neither a) s c l r refl (t.side s) refl
  seen (neither a ∷ l) (match s) (neither c ∷ r) h = advances
  seen (neither a ∷ l) (match s) (match c ∷ []) h = seen_pair (neither a) s c l [] refl refl (t.pair (s + c)) refl
  seen (neither a ∷ l) (match s) (match c ∷ new d ∷ r) h = advances
  seen (neither a ∷ l) (match s) (match c ∷ match d ∷ r) h = seen_pair (neither a) s c l (match d ∷ r) refl refl (t.pair (s + c)) refl
  seen (neither a ∷ l) (match s) (match c ∷ neither d ∷ r) h = seen_pair (neither a) s c l (neither d ∷ r) refl refl (t.pair (s + c)) refl

  -- ---- what a look keeps, and that it brings the end nearer

  pub look_turns : {l r : List Item} {p : Item} {s : Look} → Seen t l p r s
      → Turns w (merge_in s.outcome) (joined l (p ∷ r)) (joined s.next.left s.next.right)
  look_turns (advances {l} {p} {r}) = turns_refl w _
  look_turns (joins_both {a} {b} {c} {l} {r} e) = turns_joined l (turns_both a b c r e)
  look_turns (joins_before {a} {b} {l} {r} e n) = turns_joined l (turns_before a b r e n)
  look_turns (joins_after {x} {b} {c} {l} {r} n e) = turns_joined l (turns_after x b c r n e)
  look_turns (joins_pair {x} {b} {c} {l} {r} n m e) = turns_joined l (turns_pair x b c r n m e)

  pub look_nearer : {l r : List Item} {p : Item} {s : Look} → Seen t l p r s
      → 2 * length s.next.right + length s.next.left < 2 * length (p ∷ r) + length l
  look_nearer (advances {l} {p} {r}) = omega arith
  look_nearer (joins_both e) = omega arith
  look_nearer (joins_before e n) = omega arith
  look_nearer (joins_after n e) = omega arith
  look_nearer (joins_pair n m e) = omega arith
