-- The least path: for any cost that is a sum over the records, where each record's part depends on the state before it and on its bit,
-- and the state after it on the record and its bit alone, the first least choice is picked from the front by the least costs of what follows.
-- It never looks into a record. Assumes nothing.
use Prim.Native.Nat.{ℕ, ◌+◌, ◌≤◌, ◌<◌}
use native.Mathlib.Omega.{arith}
use mathlib.Core.Path.{◌≡◌, refl, sym, ◌∙◌, ap}
use mathlib.Core.Bool.{Bool, true, false}
use mathlib.Core.Logic.{◌⊎◌, inl, inr}
use mathlib.Core.List.{List, [], ◌∷◌, ◌++◌}
use lib.Dec.{leb}
use borrow.Author.Tests.{leb-true, leb-false, le-leb, lt-leb}
use Rattle.format.specs.declared.Record.{Record}
use Rattle.choice.specs.Choice.{Bit, keep, store, Free, only, either, freedom, May, IsChoice, Early, put, spread, choices, lower, low, first_min, first_of}
use Rattle.choice.specs.Path.{bit_for, decide, at, follow, walk, best, turn, pick, hints}

abbrev pub Beats : ℕ → List Bit → ℕ → List Bit → Type 0
Beats m c n d = (m < n) ⊎ ((m ≡ n) × Early c d)

-- ---- the first of least value

leb_shift : (k m n : ℕ) → leb (k + m) (k + n) ≡ leb m n
leb_shift k m n = go (leb m n) refl
  where
    go : (t : Bool) → leb m n ≡ t → leb (k + m) (k + n) ≡ t
    go true e = le-leb (k + m) (k + n) (omega (arith, leb-true m n e))
    go false e = lt-leb (k + m) (k + n) (omega (arith, leb-false m n e))

module _ (f : List Bit → ℕ) where
  low_left : (c d : List Bit) → f c ≤ f d → low f c d ≡ c
  low_left c d h = ap (λ (t : Bool). lower t c d) (le-leb (f c) (f d) h)

  low_right : (c d : List Bit) → f d < f c → low f c d ≡ d
  low_right c d h = ap (λ (t : Bool). lower t c d) (lt-leb (f c) (f d) h)

  low_assoc : (a b c : List Bit) → low f a (low f b c) ≡ low f (low f a b) c
  low_assoc a b c = go (leb (f a) (f b)) refl (leb (f b) (f c)) refl
    where
      go : (p : Bool) → leb (f a) (f b) ≡ p → (q : Bool) → leb (f b) (f c) ≡ q → lower (leb (f a) (f (lower q b c))) a (lower q b c) ≡ lower (leb (f (lower p a b)) (f c)) (lower p a b) c
      go true p true q = low_left a b (leb-true _ _ p) ∙ sym (low_left a c (omega (arith, leb-true (f a) (f b) p, leb-true (f b) (f c) q)))
      go true p false q = refl
      go false p true q = low_right a b (leb-false _ _ p) ∙ sym (low_left b c (leb-true _ _ q))
      go false p false q = low_right a c (omega (arith, leb-false (f a) (f b) p, leb-false (f b) (f c) q)) ∙ sym (low_right b c (leb-false _ _ q))

abbrev Any : List (List Bit) → Type 0
Any [] = ⊥
Any (c ∷ cs) = Unit {0}

module _ (f : List Bit → ℕ) where
  min_append : (c : List Bit) (cs : List (List Bit)) (d : List Bit) (ds : List (List Bit)) → first_min f c (cs ++ (d ∷ ds)) ≡ low f (first_min f c cs) (first_min f d ds)
  min_append c [] d ds = refl
  min_append c (e ∷ cs) d ds = ap (low f c) (min_append e cs d ds) ∙ low_assoc f c (first_min f e cs) (first_min f d ds)

  first_append : (xs ys : List (List Bit)) → Any xs → Any ys → first_of f (xs ++ ys) ≡ low f (first_of f xs) (first_of f ys)
  first_append [] ys h k = absurd h
  first_append (x ∷ xs) [] h k = absurd k
  first_append (x ∷ xs) (y ∷ ys) h k = min_append x xs y ys

module _ (f g : List Bit → ℕ) (b : Bit) (k : ℕ) (e : (c : List Bit) → f (b ∷ c) ≡ k + g c) where
  low_put : (c d : List Bit) → low f (b ∷ c) (b ∷ d) ≡ b ∷ low g c d
  low_put c d = rw (e c, e d, leb_shift) (go (leb (g c) (g d)))
    where
      go : (t : Bool) → lower t (b ∷ c) (b ∷ d) ≡ b ∷ lower t c d
      go true = refl
      go false = refl

  min_put : (c : List Bit) (cs : List (List Bit)) → first_min f (b ∷ c) (put b cs) ≡ b ∷ first_min g c cs
  min_put c [] = refl
  min_put c (d ∷ cs) = ap (low f (b ∷ c)) (min_put d cs) ∙ low_put c (first_min g d cs)

  first_put : (cs : List (List Bit)) → Any cs → first_of f (put b cs) ≡ b ∷ first_of g cs
  first_put [] h = absurd h
  first_put (c ∷ cs) h = min_put c cs

any_put : (b : Bit) (cs : List (List Bit)) → Any cs → Any (put b cs)
any_put b [] h = h
any_put b (c ∷ cs) h = tt

any_spread : (x : Free) (cs : List (List Bit)) → Any cs → Any (spread x cs)
any_spread (only b) cs h = any_put b cs h
any_spread either [] h = h
any_spread either (c ∷ cs) h = tt

any_choices : (rs : List Record) → Any (choices rs)
any_choices [] = tt
any_choices (r ∷ rs) = any_spread (freedom r) (choices rs) (any_choices rs)

-- what holds of each choice of a list
abbrev pub All : (List Bit → Type 0) → List (List Bit) → Type 0
All P [] = Unit {0}
All P (c ∷ cs) = P c × All P cs

all_append : (P : List Bit → Type 0) (xs ys : List (List Bit)) → All P xs → All P ys → All P (xs ++ ys)
all_append P [] ys h k = k
all_append P (x ∷ xs) ys h k = (h.0, all_append P xs ys h.1 k)

all_put : (P Q : List Bit → Type 0) (b : Bit) → ((c : List Bit) → P c → Q (b ∷ c)) → (cs : List (List Bit)) → All P cs → All Q (put b cs)
all_put P Q b f [] h = tt
all_put P Q b f (c ∷ cs) h = (f c h.0, all_put P Q b f cs h.1)

all_spread : (P Q : List Bit → Type 0) (x : Free) → ((b : Bit) (c : List Bit) → May x b → P c → Q (b ∷ c)) → (cs : List (List Bit)) → All P cs → All Q (spread x cs)
all_spread P Q (only b) f cs h = all_put P Q b (λ c. f b c refl) cs h
all_spread P Q either f cs h =
    all_append Q (put keep cs) (put store cs) (all_put P Q keep (λ c. f keep c tt) cs h) (all_put P Q store (λ c. f store c tt) cs h)

pub all_fit : (rs : List Record) → All (IsChoice rs) (choices rs)
all_fit [] = (tt, tt)
all_fit (r ∷ rs) = all_spread (IsChoice rs) (IsChoice (r ∷ rs)) (freedom r) (λ b c m k. (m, k)) (choices rs) (all_fit rs)

module _ (f g : List Bit → ℕ) where
  min_cong : (c : List Bit) (cs : List (List Bit)) → f c ≡ g c → All (λ (d : List Bit). f d ≡ g d) cs → (first_min f c cs ≡ first_min g c cs) × (f (first_min g c cs) ≡ g (first_min g c cs))
  min_cong c [] e h = (refl, e)
  min_cong c (d ∷ cs) e h = go (min_cong d cs h.0 h.1)
    where
      m : List Bit
      m = first_min g d cs

      value : (t : Bool) → f m ≡ g m → f (lower t c m) ≡ g (lower t c m)
      value true k = e
      value false k = k

      go : (first_min f d cs ≡ m) × (f m ≡ g m) → (low f c (first_min f d cs) ≡ low g c m) × (f (low g c m) ≡ g (low g c m))
      go k = (rw (k.0, e, k.1), value (leb (g c) (g m)) k.1)

  first_cong : (cs : List (List Bit)) → All (λ (d : List Bit). f d ≡ g d) cs → first_of f cs ≡ first_of g cs
  first_cong [] h = refl
  first_cong (c ∷ cs) h = (min_cong c cs h.0 h.1).0

all_map : (P Q : List Bit → Type 0) → ((c : List Bit) → P c → Q c) → (cs : List (List Bit)) → All P cs → All Q cs
all_map P Q f [] h = tt
all_map P Q f (c ∷ cs) h = (f c h.0, all_map P Q f cs h.1)

-- two costs that agree on all choices have the same first least choice
pub choices_cong : (f g : List Bit → ℕ) (rs : List Record) → ((c : List Bit) → IsChoice rs c → f c ≡ g c) → first_of f (choices rs) ≡ first_of g (choices rs)
choices_cong f g rs h = first_cong f g (choices rs) (all_map (IsChoice rs) (λ (d : List Bit). f d ≡ g d) h (choices rs) (all_fit rs))

-- ---- the least path

pub le_beats : {m n : ℕ} {A : Type 0} → (m < n) ⊎ ((m ≡ n) × A) → m ≤ n
le_beats (inl h) = omega arith
le_beats (inr h) = omega (arith, h.0)

beats_le : {m n : ℕ} {A : Type 0} → m ≤ n → A → (m < n) ⊎ ((m ≡ n) × A)
beats_le {m} {n} {A} h k = go (leb n m) refl
  where
    go : (t : Bool) → leb n m ≡ t → (m < n) ⊎ ((m ≡ n) × A)
    go true e = inr (omega (arith, leb-true n m e), k)
    go false e = inl (leb-false n m e)

pub early_antisym : (c d : List Bit) → Early c d → Early d c → c ≡ d
early_antisym [] [] h k = refl
early_antisym [] (b ∷ d) h k = absurd h
early_antisym (b ∷ c) [] h k = absurd h
early_antisym (keep ∷ c) (keep ∷ d) h k = ap (λ (l : List Bit). keep ∷ l) (early_antisym c d h k)
early_antisym (keep ∷ c) (store ∷ d) h k = absurd k
early_antisym (store ∷ c) (keep ∷ d) h k = absurd h
early_antisym (store ∷ c) (store ∷ d) h k = ap (λ (l : List Bit). store ∷ l) (early_antisym c d h k)

-- the choice that keeps all that it may
abbrev pub foremost : Free → Bit
foremost (only b) = b
foremost either = keep

abbrev pub first : List Record → List Bit
first [] = []
first (r ∷ rs) = foremost (freedom r) ∷ first rs

pub first_fits : (rs : List Record) → IsChoice rs (first rs)
first_fits [] = tt
first_fits (r ∷ rs) = (may (freedom r), first_fits rs)
  where
    may : (x : Free) → May x (foremost x)
    may (only b) = refl
    may either = tt

pub first_early : (rs : List Record) (c : List Bit) → IsChoice rs c → Early (first rs) c
first_early [] [] h = tt
first_early [] (b ∷ c) h = absurd h
first_early (r ∷ rs) [] h = absurd h
first_early (r ∷ rs) (b ∷ c) h = go (freedom r) b h.0 (first_early rs c h.1)
  where
    same : (b : Bit) → Early (first rs) c → Early (b ∷ first rs) (b ∷ c)
    same keep k = k
    same store k = k

    go : (x : Free) (b : Bit) → May x b → Early (first rs) c → Early (foremost x ∷ first rs) (b ∷ c)
    go (only d) b e k = rw (← e) (same b k)
    go either keep e k = k
    go either store e k = tt

abbrev pub total : (Record → ℕ) → List Record → ℕ
total k [] = 0
total k (r ∷ rs) = k r + total k rs

module _ {S : Type 0} (after : Record → Bit → S) (step : S → Record → Bit → ℕ) where
  pub walk_pick : (rs : List Record) (s : S) → walk after step rs s (pick after step rs s) ≡ best after step rs s
  walk_pick [] s = refl
  walk_pick (r ∷ rs) s = go (walk_pick rs) (turn after step rs s r)
    where
      go : ((t : S) → walk after step rs t (pick after step rs t) ≡ best after step rs t) → (b : Bit) → step s r b + walk after step rs (after r b) (pick after step rs (after r b)) ≡ at b (step s r keep + best after step rs (after r keep)) (step s r store + best after step rs (after r store))
      go ih keep = rw (ih (after r keep))
      go ih store = rw (ih (after r store))

  pub pick_is_first : (rs : List Record) (s : S) → first_of (walk after step rs s) (choices rs) ≡ pick after step rs s
  pick_is_first [] s = refl
  pick_is_first (r ∷ rs) s = go (pick_is_first rs) (freedom r)
    where
      f : List Bit → ℕ
      f = walk after step (r ∷ rs) s

      m : ℕ
      m = step s r keep + best after step rs (after r keep)

      n : ℕ
      n = step s r store + best after step rs (after r store)

      forced : ((t : S) → first_of (walk after step rs t) (choices rs) ≡ pick after step rs t) → (b : Bit) → first_of f (put b (choices rs)) ≡ b ∷ pick after step rs (after r b)
      forced ih b = first_put f (walk after step rs (after r b)) b (step s r b) (λ c. refl) (choices rs) (any_choices rs) ∙ ap (λ (c : List Bit). b ∷ c) (ih (after r b))

      turned : (t : Bool) → lower t (keep ∷ pick after step rs (after r keep)) (store ∷ pick after step rs (after r store)) ≡ bit_for t ∷ pick after step rs (after r (bit_for t))
      turned true = refl
      turned false = refl

      go : ((t : S) → first_of (walk after step rs t) (choices rs) ≡ pick after step rs t) → (x : Free) → first_of f (spread x (choices rs)) ≡ decide x m n ∷ pick after step rs (after r (decide x m n))
      go ih (only b) = forced ih b
      go ih either =
          first_append f (put keep (choices rs)) (put store (choices rs)) (any_put keep (choices rs) (any_choices rs)) (any_put store (choices rs) (any_choices rs))
          ∙ rw (forced ih keep, forced ih store, walk_pick rs (after r keep), walk_pick rs (after r store)) (turned (leb m n))

  pub pick_fits : (rs : List Record) (s : S) → IsChoice rs (pick after step rs s)
  pick_fits [] s = tt
  pick_fits (r ∷ rs) s = (may (freedom r) _ _, pick_fits rs (after r (turn after step rs s r)))
    where
      may : (x : Free) (m n : ℕ) → May x (decide x m n)
      may (only b) m n = refl
      may either m n = tt

  -- the least path against any other: it costs less, or as much and has 0 at the first difference
  pub pick_beats : (rs : List Record) (s : S) (c : List Bit) → IsChoice rs c → Beats (best after step rs s) (pick after step rs s) (walk after step rs s c) c
  pick_beats [] s [] h = inr (refl, tt)
  pick_beats [] s (b ∷ c) h = absurd h
  pick_beats (r ∷ rs) s [] h = absurd h
  pick_beats (r ∷ rs) s (b ∷ c) h = go (freedom r) b h.0 (pick_beats rs (after r b) c h.1)
    where
      m : ℕ
      m = step s r keep + best after step rs (after r keep)

      n : ℕ
      n = step s r store + best after step rs (after r store)

      same : (b : Bit) → Beats (best after step rs (after r b)) (pick after step rs (after r b)) (walk after step rs (after r b) c) c → Beats (at b m n) (b ∷ pick after step rs (after r b)) (step s r b + walk after step rs (after r b) c) (b ∷ c)
      same keep (inl h) = inl (omega arith)
      same keep (inr h) = inr (omega (arith, h.0), h.1)
      same store (inl h) = inl (omega arith)
      same store (inr h) = inr (omega (arith, h.0), h.1)

      go : (x : Free) (b : Bit) → May x b → Beats (best after step rs (after r b)) (pick after step rs (after r b)) (walk after step rs (after r b) c) c → Beats (at (decide x m n) m n) (decide x m n ∷ pick after step rs (after r (decide x m n))) (step s r b + walk after step rs (after r b) c) (b ∷ c)
      go (only d) b e h = rw (← e) (same b h)
      go either b e h = test (leb m n) refl b h
        where
          test : (t : Bool) → leb m n ≡ t → (b : Bit) → Beats (best after step rs (after r b)) (pick after step rs (after r b)) (walk after step rs (after r b) c) c → Beats (at (bit_for t) m n) (bit_for t ∷ pick after step rs (after r (bit_for t))) (step s r b + walk after step rs (after r b) c) (b ∷ c)
          test true e keep h = same keep h
          test true e store h = beats_le (omega (arith, leb-true m n e, le_beats h)) tt
          test false e keep h = inl (omega (arith, leb-false m n e, le_beats h))
          test false e store h = same store h

  pub best_least : (rs : List Record) (s : S) (c : List Bit) → IsChoice rs c → best after step rs s ≤ walk after step rs s c
  best_least rs s c h = le_beats (pick_beats rs s c h)

  -- where the choice that keeps all it may is among the least, it is the one picked
  pub pick_first : (rs : List Record) (s : S) → walk after step rs s (first rs) ≤ best after step rs s → pick after step rs s ≡ first rs
  pick_first rs s h = go (pick_beats rs s (first rs) (first_fits rs))
    where
      go : Beats (best after step rs s) (pick after step rs s) (walk after step rs s (first rs)) (first rs) → pick after step rs s ≡ first rs
      go (inl l) = absurd (omega arith)
      go (inr e) = early_antisym (pick after step rs s) (first rs) e.1 (first_early rs (pick after step rs s) (pick_fits rs s))

  -- ---- the two passes of the code: from the rear, a bit for each of the two states before a record; then from the front, the bits taken

  pub follow_pick : (g : Bit → S) (rs : List Record) (b : Bit) → follow b (hints after step g rs) ≡ pick after step rs (g b)
  follow_pick g [] b = refl
  follow_pick g (r ∷ rs) keep = ap (λ (c : List Bit). turn after step rs (g keep) r ∷ c) (follow_pick (after r) rs (turn after step rs (g keep) r))
  follow_pick g (r ∷ rs) store = ap (λ (c : List Bit). turn after step rs (g store) r ∷ c) (follow_pick (after r) rs (turn after step rs (g store) r))

  -- a bound for each step bounds the whole, so the numbers fit
  pub walk_bound : (k : Record → ℕ) → ((s : S) (r : Record) (b : Bit) → step s r b ≤ k r) → (rs : List Record) (s : S) (c : List Bit) → walk after step rs s c ≤ total k rs
  walk_bound k h [] s c = omega arith
  walk_bound k h (r ∷ rs) s [] = omega arith
  walk_bound k h (r ∷ rs) s (b ∷ c) = omega (arith, h s r b, walk_bound k h rs (after r b) c)

  pub best_bound : (k : Record → ℕ) → ((s : S) (r : Record) (b : Bit) → step s r b ≤ k r) → (rs : List Record) (s : S) → best after step rs s ≤ total k rs
  best_bound k h rs s = omega (arith, walk_pick rs s, walk_bound k h rs s (pick after step rs s))
