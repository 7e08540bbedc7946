-- What a pass keeps of a list: a relation between the list before and after some merges, for any weights of items.
-- In order: what a list has to be; what becomes of the records; what is kept when one list turns into another; the fusing of neighbours.
-- Assumes nothing.
use Prim.Native.Nat.{ℕ, ◌+◌, ◌≤◌}
use native.Mathlib.Omega.{arith}
use native.Mathlib.Nat.{add_assoc}
use mathlib.Core.Path.{◌≡◌, refl, ◌∙◌, ap}
use mathlib.Core.Bool.{Bool, true, false}
use mathlib.Core.List.{List, [], ◌∷◌}
use lib.ListN.{length}
use Rattle.rules.specs.Rules.{Item, new, match, neither, size, is_new}
use Rattle.machine.specs.Looks.{bytes, first, joined}

-- ---- what a list has to be

-- it has an item
abbrev pub Some : List Item → Type 0
Some [] = ⊥
Some (x ∷ l) = Unit {0}

-- it begins with a mark, and more follows
abbrev pub Starts : List Item → Type 0
Starts [] = ⊥
Starts (new s ∷ l) = ⊥
Starts (match s ∷ l) = ⊥
Starts (neither s ∷ l) = Some l

-- no two new items stand side by side
abbrev pub Tidy : List Item → Type 0
Tidy [] = Unit {0}
Tidy (new s ∷ l) = (is_new (first l) ≡ false) × Tidy l
Tidy (match s ∷ l) = Tidy l
Tidy (neither s ∷ l) = Tidy l

-- each new item of ys is one of xs, or the fusion of two or more new items and matches of xs that follow each other; each other item of ys is one
-- of xs. Where j is true the first item of ys may be a match made new by itself, as it is to join one before it
pub data Fused : Bool → List Item → List Item → Type 0 where
  none : Fused false [] []
  keep_neither : {s : ℕ} {xs ys : List Item} → Fused false xs ys → Fused false (neither s ∷ xs) (neither s ∷ ys)
  keep_match : {s : ℕ} {xs ys : List Item} → Fused false xs ys → Fused false (match s ∷ xs) (match s ∷ ys)
  take_new : {j : Bool} {s : ℕ} {xs ys : List Item} → Fused false xs ys → Fused j (new s ∷ xs) (new s ∷ ys)
  take_match : {s : ℕ} {xs ys : List Item} → Fused false xs ys → Fused true (match s ∷ xs) (new s ∷ ys)
  more_new : {j : Bool} {a b : ℕ} {xs ys : List Item} → Fused true xs (new b ∷ ys) → Fused j (new a ∷ xs) (new (a + b) ∷ ys)
  more_match : {j : Bool} {a b : ℕ} {xs ys : List Item} → Fused true xs (new b ∷ ys) → Fused j (match a ∷ xs) (new (a + b) ∷ ys)

abbrev pub Fuses : List Item → List Item → Type 0
Fuses xs ys = Fused false xs ys

abbrev pub weigh : (Item → ℕ) → List Item → ℕ
weigh w [] = 0
weigh w (x ∷ l) = w x + weigh w l

pub length_joined : (l r : List Item) → length (joined l r) ≡ length l + length r
length_joined [] r = omega arith
length_joined (x ∷ l) r = omega (arith, length_joined l (x ∷ r))

pub bytes_joined : (l r : List Item) → bytes (joined l r) ≡ bytes l + bytes r
bytes_joined [] r = omega arith
bytes_joined (x ∷ l) r = omega (arith, bytes_joined l (x ∷ r))

pub two_of_starts : (x : List Item) → Starts x → 2 ≤ length x
two_of_starts [] h = absurd h
two_of_starts (new s ∷ l) h = absurd h
two_of_starts (match s ∷ l) h = absurd h
two_of_starts (neither s ∷ []) h = absurd h
two_of_starts (neither s ∷ y ∷ l) h = omega arith

pub fuses_refl : (xs : List Item) → Fuses xs xs
fuses_refl [] = none
fuses_refl (new s ∷ xs) = take_new (fuses_refl xs)
fuses_refl (match s ∷ xs) = keep_match (fuses_refl xs)
fuses_refl (neither s ∷ xs) = keep_neither (fuses_refl xs)

-- ---- what is kept when the list x turns into y by k merges

pub record Turns (w : Item → ℕ) (k : ℕ) (x y : List Item) : Type 0 where
  pub some : Some x → Some y
  pub starts : Starts x → Starts y
  pub ahead : is_new (first y) ≡ is_new (first x)
  pub tidy : Tidy x → Tidy y
  pub fuses : (xs : List Item) → Fuses xs x → Fuses xs y
  pub kept : bytes y ≡ bytes x
  pub lower : weigh w y + k ≤ weigh w x

pub fuses_cons : {j : Bool} {i : Item} {xs x y : List Item} → ((zs : List Item) → Fuses zs x → Fuses zs y) → Fused j xs (i ∷ x) → Fused j xs (i ∷ y)
fuses_cons f (keep_neither d) = keep_neither (f _ d)
fuses_cons f (keep_match d) = keep_match (f _ d)
fuses_cons f (take_new d) = take_new (f _ d)
fuses_cons f (take_match d) = take_match (f _ d)
fuses_cons f (more_new d) = more_new (fuses_cons f d)
fuses_cons f (more_match d) = more_match (fuses_cons f d)

pub starts_cons : (i : Item) (x y : List Item) → (Some x → Some y) → Starts (i ∷ x) → Starts (i ∷ y)
starts_cons (new s) x y f h = h
starts_cons (match s) x y f h = h
starts_cons (neither s) x y f h = f h

tidy_cons : (i : Item) (x y : List Item) → is_new (first y) ≡ is_new (first x) → (Tidy x → Tidy y) → Tidy (i ∷ x) → Tidy (i ∷ y)
tidy_cons (new s) x y e f h = (e ∙ h.0, f h.1)
tidy_cons (match s) x y e f h = f h
tidy_cons (neither s) x y e f h = f h

turns_cons : {w : Item → ℕ} {k : ℕ} {x y : List Item} (i : Item) → Turns w k x y → Turns w k (i ∷ x) (i ∷ y)
turns_cons {x} {y} i h =
    record {
      some = λ u. u;
      starts = starts_cons i x y h.some;
      ahead = refl;
      tidy = tidy_cons i x y h.ahead h.tidy;
      fuses = λ xs. fuses_cons h.fuses;
      kept = ap (λ (n : ℕ). size i + n) h.kept;
      lower = omega (arith, h.lower);
    }

pub turns_joined : {w : Item → ℕ} {k : ℕ} {x y : List Item} (l : List Item) → Turns w k x y → Turns w k (joined l x) (joined l y)
turns_joined [] h = h
turns_joined (i ∷ l) h = turns_joined l (turns_cons i h)

pub turns_refl : (w : Item → ℕ) (x : List Item) → Turns w 0 x x
turns_refl w x =
    record { some = λ u. u; starts = λ u. u; ahead = refl; tidy = λ u. u; fuses = λ xs u. u; kept = refl; lower = omega arith }

pub turns_trans : {w : Item → ℕ} {k m : ℕ} {x y z : List Item} → Turns w k x y → Turns w m y z → Turns w (k + m) x z
turns_trans f g =
    record {
      some = λ u. g.some (f.some u);
      starts = λ u. g.starts (f.starts u);
      ahead = g.ahead ∙ f.ahead;
      tidy = λ u. g.tidy (f.tidy u);
      fuses = λ xs u. g.fuses xs (f.fuses xs u);
      kept = g.kept ∙ f.kept;
      lower = omega (arith, f.lower, g.lower);
    }

-- ---- neighbours fused

-- a new item may join one before it
joinable : {b : ℕ} {xs ys : List Item} → Fuses xs (new b ∷ ys) → Fused true xs (new b ∷ ys)
joinable (take_new d) = take_new d
joinable (more_new d) = more_new d
joinable (more_match d) = more_match d

fuse_new : {j : Bool} {a b : ℕ} {xs ys : List Item} → Fused j xs (new a ∷ new b ∷ ys) → Fused j xs (new (a + b) ∷ ys)
fuse_new (take_new d) = more_new (joinable d)
fuse_new (take_match d) = more_match (joinable d)
fuse_new (more_new d) = rw add_assoc (more_new (fuse_new d))
fuse_new (more_match d) = rw add_assoc (more_match (fuse_new d))

pub fuse_after : {b c : ℕ} {xs ys : List Item} → Fuses xs (match b ∷ new c ∷ ys) → Fuses xs (new (b + c) ∷ ys)
fuse_after (keep_match d) = more_match (joinable d)

pub fuse_before : {j : Bool} {a b : ℕ} {xs ys : List Item} → Fused j xs (new a ∷ match b ∷ ys) → Fused j xs (new (a + b) ∷ ys)
fuse_before (take_new (keep_match d)) = more_new (take_match d)
fuse_before (take_match (keep_match d)) = more_match (take_match d)
fuse_before (more_new d) = rw add_assoc (more_new (fuse_before d))
fuse_before (more_match d) = rw add_assoc (more_match (fuse_before d))

pub fuse_pair : {b c : ℕ} {xs ys : List Item} → Fuses xs (match b ∷ match c ∷ ys) → Fuses xs (new (b + c) ∷ ys)
fuse_pair (keep_match (keep_match d)) = more_match (take_match d)

pub fuse_both : {a b c : ℕ} {xs ys : List Item} → Fuses xs (new a ∷ match b ∷ new c ∷ ys) → Fuses xs (new (a + b + c) ∷ ys)
fuse_both d = fuse_new (fuse_before d)
