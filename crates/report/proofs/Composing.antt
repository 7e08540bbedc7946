-- Texts written one after the other are one text; the lines of a list, record by record; how long the parts are.
-- Assumes nothing.
use Prim.Native.Nat.{ℕ, ◌+◌, ◌*◌, ◌/◌, ◌≤◌, ◌<◌}
use native.Mathlib.Omega.{arith}
use mathlib.Core.Path.{◌≡◌, sym, ◌∙◌, ap}
use mathlib.Core.List.{List, [], ◌∷◌, ◌++◌, append_assoc, append-nil}
use lib.ListN.{length, length-append}
use Rattle.format.specs.declared.Record.{Record}
use Rattle.format.specs.declared.Record.TheVariants.{New, Match}
use Rattle.format.specs.declared.Figures.{Figures}
use Rattle.format.specs.Record.{row_at, record_of, records_of, records_from}
use Rattle.format.proofs.Rows.{length_records_of, records_from_next, records_from_none}
use Rattle.area.proofs.Pasting.{pasted_append, length_pasted}
use Rattle.report.specs.declared.Text.{Text}
use Rattle.report.specs.Text.{decimal, field, last_field, record_text, records_text, least_text, pass_text, HasRoom, Wrote}
use Rattle.report.proofs.Numerals.{length_decimal}

-- an area keeps its length
pub area_kept : {t u : Text} {a : List ℕ} → HasRoom t a → Wrote t a u → length u.area.now ≡ length t.area.now
area_kept {t} {u} {a} room w = ap length w.written.area_after ∙ length_pasted t.len a t.area.now room.behind

module _ {t u v : Text} {a b : List ℕ} where
  pub wrote_append : t.len ≤ length t.area.now → Wrote t a u → Wrote u b v → Wrote t (a ++ b) v
  wrote_append h first next =
      record {
        same_area = next.same_area ∙ first.same_area;
        written =
            record {
              place = next.written.place ∙ ap (λ (n : ℕ). n + length b) first.written.place ∙ omega (arith, length-append a b);
              area_after = next.written.area_after ∙ rw (first.written.place, first.written.area_after) (pasted_append t.len a b t.area.now h);
            };
      }

length_field : (w : List ℕ) (n : ℕ) → length (field w n) ≤ length w + 20
length_field w n = omega (arith, length-append w (decimal n), length_decimal n)

length_last : (w : List ℕ) (n : ℕ) → length (last_field w n) ≤ length w + 21
length_last w n = omega (arith, length-append (field w n) (10 ∷ []), length_field w n)

length_record : (r : Record) → length (record_text r) ≤ 44
length_record (New s) = omega (arith, length_last (78 ∷ 32 ∷ []) s)
length_record (Match s a) =
    omega (arith, length-append (field (77 ∷ 32 ∷ []) s) (last_field (32 ∷ []) a.address), length_field (77 ∷ 32 ∷ []) s, length_last (32 ∷ []) a.address)

length_records : (l : List Record) → length (records_text l) ≤ 44 * length l
length_records [] = omega arith
length_records (r ∷ l) = omega (arith, length-append (record_text r) (records_text l), length_record r, length_records l)

pub length_lines : (list : List ℕ) → length (records_text (records_of list)) ≤ 44 * (length list / 12)
length_lines list = omega (arith, length_records (records_of list), length_records_of list)

pub length_least : (x : Figures) → length (least_text x) ≤ 81
length_least x = grind (arith, length_decimal, length-append)

pub length_pass : (y : Figures) → length (pass_text y) ≤ 54
length_pass y = grind (arith, length_decimal, length-append)

-- the lines of the first records, written; the lines of the rest are to come
pub record Listed (list : List ℕ) (start text : Text) (n i : ℕ) : Type 0 where
  pub done : List ℕ
  pub so_far : Wrote start done text
  pub still_to_come : records_text (records_of list) ≡ done ++ records_text (records_from list n i)

module _ {list : List ℕ} {start text : Text} {n i : ℕ} (l : Listed list start text n i) where
  -- the line of the next record
  to_come_next : i < n → records_text (records_from list n i) ≡ record_text (record_of (row_at list i)) ++ records_text (records_from list n (i + 1))
  to_come_next h = ap records_text (records_from_next list n i h)

  pub room_next : HasRoom start (records_text (records_of list)) → i < n → HasRoom text (record_text (record_of (row_at list i)))
  room_next room h =
      let line : List ℕ = record_text (record_of (row_at list i)) in
      let rest : List ℕ = records_text (records_from list n (i + 1)) in
      let all : records_text (records_of list) ≡ l.done ++ (line ++ rest) = l.still_to_come ∙ ap (λ (s : List ℕ). l.done ++ s) (to_come_next h) in
      let long : length (records_text (records_of list)) ≡ length l.done + (length line + length rest) = ap length all ∙ omega (arith, length-append l.done (line ++ rest), length-append line rest) in
      let same : length text.area.now ≡ length start.area.now = area_kept (record { behind = omega (arith, room.behind) }) l.so_far in
      record { behind = omega (arith, room.behind, l.so_far.written.place) }

  pub listed_next : start.len ≤ length start.area.now → {after : Text} → i < n → Wrote text (record_text (record_of (row_at list i))) after → Listed list start after n (i + 1)
  listed_next within h w =
      record {
        done = l.done ++ record_text (record_of (row_at list i));
        so_far = wrote_append within l.so_far w;
        still_to_come =
            l.still_to_come ∙ ap (λ (s : List ℕ). l.done ++ s) (to_come_next h)
            ∙ sym (append_assoc l.done (record_text (record_of (row_at list i))) (records_text (records_from list n (i + 1))));
      }

  pub listed_end : n ≤ i → Wrote start (records_text (records_of list)) text
  listed_end h =
      let e : records_text (records_of list) ≡ l.done = l.still_to_come ∙ ap (λ (k : List Record). l.done ++ records_text k) (records_from_none list n i h) ∙ append-nil l.done in
      rw e l.so_far
