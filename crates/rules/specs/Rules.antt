-- What a look of the pass comes to (section 4.10). The items of the list, the sizes that the merges take, the first of the five rules that applies; and
-- an item as a kind and a size hold it.
-- Assumes nothing.
use Rattle.std.specs.Prelude.{ℕ, ◌+◌, ◌*◌, ◌≡◌, Bool, true, false, not, ◌&&◌, cond, ltb}
use Rattle.price.specs.declared.Rates.{Rates}
use Rattle.rules.specs.declared.Cell.{Cell}
use Rattle.rules.specs.declared.Kind.{Kind}
use Rattle.rules.specs.declared.Kind.TheVariants.{New, Match, Neither}
use Rattle.rules.specs.declared.Merge.TheVariants.{Both, Before, After, Pair}
use Rattle.rules.specs.declared.Outcome.{Outcome}
use Rattle.rules.specs.declared.Outcome.TheVariants.{Advance, Merged}

-- ---- the items of the list

-- a new record, a match, or one of neither kind, each with its size
pub data Item : Type 0 where
  new : ℕ → Item
  match : ℕ → Item
  neither : ℕ → Item

-- the front mark and the rear mark
abbrev pub mark : Item
mark = neither 0

-- bytes covered
abbrev pub size : Item → ℕ
size (new s) = s
size (match s) = s
size (neither s) = s

-- whether an item is new, and whether it is a match
abbrev pub is_new : Item → Bool
is_new (new s) = true
is_new (match s) = false
is_new (neither s) = false

abbrev pub is_match : Item → Bool
is_match (new s) = false
is_match (match s) = true
is_match (neither s) = false

-- ---- a look: the first rule that applies is carried out (clause 4.10.6)

-- the sizes that the merges take: `both` in merge 1, `side` in merges 2 and 3, `pair` in merge 4, of both sizes together
pub record Tests : Type 0 where
  pub both : ℕ → Bool
  pub side : ℕ → Bool
  pub pair : ℕ → Bool

-- what the merge stores costs less than what it spares: a match and a new entry in merge 1, a match in merges 2 and 3, two matches for a new
-- entry in merge 4. At a price's rates (clauses 4.10.7 to 4.10.10; `tests_at`): 256 × size < F × (EM + EN); 256 × size < F × EM; and
-- 256 × both sizes + F × EN < 2 × F × EM
abbrev pub tests_of : Rates → Tests
tests_of r =
    record {
      both = λ s. ltb (r.byte.0 * s) (r.kept.0 + r.fresh.0);
      side = λ s. ltb (r.byte.0 * s) r.kept.0;
      pair = λ s. ltb (r.byte.0 * s + r.fresh.0) (2 * r.kept.0);
    }

-- how a look at p ends, with b before it, a after it and c second after it; a merge with the bytes that it fuses. As in clauses 4.10.7 to 4.10.11, but for what a
-- merge needs of the sizes, which is in the tests:
-- 1. p is a match, and both neighbours are new
-- 2. p is a match, and the one before is new
-- 3. p is a match, and the one after is new
-- 4. p and the one after are matches, and neither the one before p nor the second after p is new
-- 5. otherwise p goes to the one after
abbrev pub outcome_at : Tests → Item → Item → Item → Item → Outcome
outcome_at t b p a c =
    cond (is_match p && is_new b && is_new a && t.both (size p)) (Merged (Both (size b + size p + size a)))
    (cond (is_match p && is_new b && t.side (size p)) (Merged (Before (size b + size p)))
    (cond (is_match p && is_new a && t.side (size p)) (Merged (After (size p + size a)))
    (cond (is_match p && is_match a && not (is_new b) && not (is_new c) && t.pair (size p + size a)) (Merged (Pair (size p + size a)))
    Advance)))

-- whether a look fuses the one before p, and whether it fuses the one after
abbrev pub fuses_before : Outcome → Bool
fuses_before Advance = false
fuses_before (Merged (Both s)) = true
fuses_before (Merged (Before s)) = true
fuses_before (Merged (After s)) = false
fuses_before (Merged (Pair s)) = false

abbrev pub fuses_after : Outcome → Bool
fuses_after Advance = false
fuses_after (Merged (Both s)) = true
fuses_after (Merged (Before s)) = false
fuses_after (Merged (After s)) = true
fuses_after (Merged (Pair s)) = true

-- an item of neither kind, of s bytes, is fused by no look: neither where it is p nor where it stands before p or after p
pub record Untouched (t : Tests) (s : ℕ) : Type 0 where
  pub as_p : (b a c : Item) → outcome_at t b (neither s) a c ≡ Advance
  pub as_before : (p a c : Item) → fuses_before (outcome_at t (neither s) p a c) ≡ false
  pub as_after : (b p c : Item) → fuses_after (outcome_at t b p (neither s) c) ≡ false

-- ---- an item as a cell

-- by its kind
abbrev pub item_of : Kind → ℕ → Item
item_of New s = new s
item_of Match s = match s
item_of Neither s = neither s

-- the item of a cell
abbrev pub cell_item : Cell → Item
cell_item c = item_of c.kind c.size
