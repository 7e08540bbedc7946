-- Every choice keeps the held matches; the list of a choice says of each byte of the version what the records said; and only the choice that keeps every
-- match leaves each byte's origin as it was.
-- Assumes nothing.
use Prim.Native.Nat.{ℕ, zero, suc, ◌+◌}
use native.Mathlib.Omega.{arith}
use mathlib.Core.Path.{◌≡◌, refl, sym, ◌∙◌, ap}
use mathlib.Core.Bool.{Bool, true, false, cond}
use mathlib.Core.List.{List, [], ◌∷◌, map, map-append, append_cancel_left}
use lib.ListN.{replicate}
use Rattle.format.specs.declared.Record.{Record}
use Rattle.format.specs.declared.Record.TheVariants.{New, Match}
use Rattle.format.specs.Record.{from}
use Rattle.format.specs.WellFormed.{Sized}
use Rattle.format.specs.Origins.{fresh, drawn_at, origins_of, origins}
use Rattle.format.specs.Marks.{Bond, free, bond_of, bonds}
use Rattle.join.proofs.Tracing.{bonds_tidy}
use Rattle.choice.specs.Choice.{Bit, keep, store, only, either, freedom, May, IsChoice, chosen_record, chosen, list_of, keep_all}
use Rattle.choice.specs.Held.{KeepsHeld}
use Rattle.choice.proofs.Unjoining.{keep_store}

pub keeps_held : (rs : List Record) (c : List Bit) → IsChoice rs c → KeepsHeld rs c
keeps_held [] c h = tt
keeps_held (r ∷ rs) [] h = absurd h
keeps_held (New s ∷ rs) (b ∷ c) h = keeps_held rs c h.1
keeps_held (Match s a ∷ rs) (b ∷ c) h = (λ e. rw e at h.0, keeps_held rs c h.1)

-- ---- what is said of each byte

-- a record that may be stored says nothing
bonds_chosen : (b : Bit) (r : Record) → May (freedom r) b → map bond_of (origins_of (chosen_record b r)) ≡ map bond_of (origins_of r)
bonds_chosen keep r h = refl
bonds_chosen store (New s) h = refl
bonds_chosen store (Match s a) h = go a.held h s a.address
  where
    go : (x : Bool) → May (cond x (only keep) either) store → (n i : ℕ) → map bond_of (replicate n fresh) ≡ map bond_of (from (drawn_at x) i n)
    go true k n i = keep_store (sym k)
    go false k zero i = refl
    go false k (suc n) i = ap (λ (l : List Bond). free ∷ l) (go false k n (i + 1))

pub bonds_list : (rs : List Record) (c : List Bit) → IsChoice rs c → bonds (list_of rs c) ≡ bonds rs
bonds_list rs c h = bonds_tidy (chosen rs c) ∙ go rs c h
  where
    go : (rs : List Record) (c : List Bit) → IsChoice rs c → bonds (chosen rs c) ≡ bonds rs
    go [] c h = refl
    go (r ∷ rs) [] h = absurd h
    go (r ∷ rs) (b ∷ c) h = simp (map-append, bonds_chosen b r h.0, go rs c h.1)

-- ---- where each byte comes from

-- a choice that leaves the origin of each byte as it was keeps every match
pub keeps_of_origins : (rs : List Record) (c : List Bit) → Sized rs → IsChoice rs c → origins rs ≡ origins (chosen rs c) → c ≡ keep_all rs
keeps_of_origins [] [] h i e = refl
keeps_of_origins [] (b ∷ c) h i e = absurd i
keeps_of_origins (r ∷ rs) [] h i e = absurd i
keeps_of_origins (New s ∷ rs) (keep ∷ c) h i e = keep_store i.0
keeps_of_origins (New s ∷ rs) (store ∷ c) h i e =
    ap (λ (d : List Bit). store ∷ d) (keeps_of_origins rs c h.1 i.1 (append_cancel_left (replicate s fresh) (origins rs) (origins (chosen rs c)) e))
keeps_of_origins (Match s a ∷ rs) (keep ∷ c) h i e =
    ap (λ (d : List Bit). keep ∷ d) (keeps_of_origins rs c h.1 i.1 (append_cancel_left (origins_of (Match s a)) (origins rs) (origins (chosen rs c)) e))
keeps_of_origins (Match zero a ∷ rs) (store ∷ c) h i e = absurd (omega (arith, h.0))
keeps_of_origins (Match (suc s) a ∷ rs) (store ∷ c) h i e = cc
