-- The linear method as a machine on kinds and sizes: the carried list with its marks, one look, and the run of looks. What a look comes to is
-- `outcome_at`, of the crate rules.
-- Assumes nothing.
use Rattle.std.specs.Prelude.{ℕ, zero, suc, ◌+◌, ◌*◌, List, [], ◌∷◌, length}
use Rattle.rules.specs.Rules.{Item, new, mark, size, Tests, outcome_at}
use Rattle.rules.specs.declared.Merge.TheVariants.{Both, Before, After, Pair}
use Rattle.rules.specs.declared.Outcome.{Outcome}
use Rattle.rules.specs.declared.Outcome.TheVariants.{Advance, Merged}

-- ---- the list: items of a kind and a size, with a front and a rear mark, both of neither kind (clause 4.10.2)

-- the sum of all sizes
abbrev pub bytes : List Item → ℕ
bytes [] = 0
bytes (x ∷ l) = size x + bytes l

-- where p stands: `left` is what comes before p, the nearest first; `right` is p and what comes after it, without the rear mark, so it is
-- empty where p is the rear
pub record State : Type 0 where
  pub left : List Item
  pub right : List Item

-- the first of some items, a mark where there is none
abbrev pub first : List Item → Item
first [] = mark
first (x ∷ l) = x

-- the others
abbrev pub rest : List Item → List Item
rest [] = []
rest (x ∷ l) = l

-- ---- a look: the first rule that applies is carried out (clause 4.10.6)

-- p goes to the one before: the nearest of l, with r after it
abbrev pub step_back : List Item → List Item → State
step_back [] r = record { left = []; right = r }
step_back (x ∷ l) r = record { left = l; right = x ∷ r }

-- what an outcome makes of the list, with l before p and r after it; the record made is new and has the bytes fused:
-- 1. the three become one new item, and p goes to the one after it (clause 4.10.7)
-- 2. p joins the one before, and p goes to the one after (clause 4.10.8)
-- 3. p joins the one after, and p goes to the one before (clause 4.10.9)
-- 4. the two become one new item, and p goes to the one before it (clause 4.10.10)
abbrev pub after : Outcome → List Item → Item → List Item → State
after (Merged (Both s)) l p r = record { left = new s ∷ rest l; right = rest r }
after (Merged (Before s)) l p r = record { left = new s ∷ rest l; right = r }
after (Merged (After s)) l p r = step_back l (new s ∷ rest r)
after (Merged (Pair s)) l p r = step_back l (new s ∷ rest r)
after Advance l p r = record { left = p ∷ l; right = r }

-- a look ends as an advance or as one of the four merges with the bytes that it fuses (clause 4.10.12); and the list after it
pub record Look : Type 0 where
  pub outcome : Outcome
  pub next : State

-- a look that ends with this outcome
abbrev pub ended : Outcome → List Item → Item → List Item → Look
ended o l p r = record { outcome = o; next = after o l p r }

-- one look at p, with l before it and r after it
abbrev pub look_at : Tests → List Item → Item → List Item → Look
look_at t l p r = ended (outcome_at t (first l) p (first r) (first (rest r))) l p r

-- 1 for a merge
abbrev pub merge_in : Outcome → ℕ
merge_in Advance = 0
merge_in (Merged m) = 1

-- the merges among some outcomes
abbrev pub merges_in : List Outcome → ℕ
merges_in [] = 0
merges_in (o ∷ os) = merge_in o + merges_in os

-- ---- the run: while p is not the rear mark, one look is counted, also at the front mark (clause 4.10.6)

-- where the looks end, and how each of them ended, in their order
pub record Run : Type 0 where
  pub end : State
  pub outcomes : List Outcome

-- no look more
abbrev pub stopped : List Item → List Item → Run
stopped l r = record { end = record { left = l; right = r }; outcomes = [] }

-- one look before a run
abbrev pub preceded : Outcome → Run → Run
preceded o r = record { end = r.end; outcomes = o ∷ r.outcomes }

-- looks until p is the rear, at most `fuel` of them
unfoldable pub run : Tests → ℕ → List Item → List Item → Run
run t zero l r = stopped l r
run t (suc fuel) l [] = stopped l []
run t (suc fuel) l (p ∷ r) =
    let s : Look = look_at t l p r in
    preceded s.outcome (run t fuel s.next.left s.next.right)

-- p starts at the first item, or at the rear mark if there is none (clause 4.10.5); 2n looks are enough (`pass_ends`)
unfoldable pub pass : Tests → List Item → Run
unfolding run
pass t xs = run t (2 * length xs) (mark ∷ []) xs

-- the whole list of a state
abbrev pub joined : List Item → List Item → List Item
joined [] r = r
joined (x ∷ l) r = joined l (x ∷ r)

-- the list at the end, without its front mark
unfoldable pub end_items : Tests → List Item → List Item
unfolding pass
end_items t xs = rest (joined (pass t xs).end.left [])
