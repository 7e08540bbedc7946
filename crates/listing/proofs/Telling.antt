-- The text of the program, by what partition and pass answer and write in areas that are long enough.
-- Assumes nothing.
use Rattle.std.specs.Prelude.{Ok, Err}
use Prim.Native.Nat.{ℕ, ◌*◌, ◌/◌, ◌≤◌}
use native.Mathlib.Omega.{arith}
use mathlib.Core.Path.{◌≡◌, sym, ◌∙◌, ap}
use mathlib.Core.List.{List}
use lib.ListN.{length, take}
use Rattle.format.specs.declared.Record.{Record}
use Rattle.format.specs.declared.Figures.{Figures}
use Rattle.format.specs.declared.Refusal.{Refusal}
use Rattle.format.specs.Refusal.{Ruling, Answer}
use Rattle.format.specs.Record.{records_of, encode}
use Rattle.format.proofs.Rulings.{fine_of_accepted, stop_of_refused}
use Rattle.format.proofs.Rows.{length_records_of}
use Rattle.format.proofs.Encoding.{length_encode, records_encode}
use Rattle.price.specs.declared.Price.{Price}
use Rattle.price.specs.Price.{rates_of}
use Rattle.choice.specs.Choice.{Bit, list_of, least_of}
use Rattle.choice.proofs.Lists.{length_list}
use Rattle.area.specs.Area.{Areas, areas}
use Rattle.admit.specs.Admit.{partition_ruling, findings}
use Rattle.admit.proofs.Admitting.{areas_of_most, findings_of_long}
use Rattle.writer.specs.Decide.{figures, Decided}
use Rattle.writer.proofs.Deciding.{answer_decided, list_handed_on, list_room}
use Rattle.call_partition.specs.Partition.{Partitioned}
use Rattle.report.specs.Text.{report_text}
use Rattle.listing.specs.Program.{text_for, pass_figures, program_text}

-- areas that are long enough for choice, list and stored block
pub record Roomy (list v choice area block : List ℕ) : Type 0 where
  pub in_choice : length list / 12 ≤ length choice
  pub in_area : length list ≤ length area
  pub in_block : length v ≤ length block

module _ (price : Price) (st : List ℕ) {list v choice area block : List ℕ} (roomy : Roomy list v choice area block) where
  ruling_is : partition_ruling price list v st (areas choice area block) ≡ findings price list v st
  ruling_is =
      findings_of_long price list v st (areas choice area block)
      (areas_of_most list v (length choice) (length area) (length block) roomy.in_choice roomy.in_area roomy.in_block)

  -- a call that took the choice c in so many looks
  module _ {c : List Bit} {looks : ℕ} {r : Answer} {after : Areas}
      (d : Decided (partition_ruling price list v st (areas choice area block)) (rates_of price) list v c looks (areas choice area block) r after) where
    pub stop_of_answer : {x : Refusal} → r ≡ Err x → findings price list v st ≡ Err x
    stop_of_answer {x} h = sym ruling_is ∙ stop_of_refused (partition_ruling price list v st (areas choice area block)) _ x (sym d.answered ∙ h)

    module _ {x : Figures} (h : r ≡ Ok x) where
      fine : partition_ruling price list v st (areas choice area block) ≡ Ok tt
      fine = fine_of_accepted (partition_ruling price list v st (areas choice area block)) _ x (sym d.answered ∙ h)

      fine_of_answer : findings price list v st ≡ Ok tt
      fine_of_answer = sym ruling_is ∙ fine

      pub figures_of_answer : x ≡ figures (rates_of price) (list_of (records_of list) c) looks
      figures_of_answer = let k : Ok x ≡ Ok (figures (rates_of price) (list_of (records_of list) c) looks) = sym h ∙ answer_decided d fine in cc

      -- the written list, as it is handed on
      all_records : 12 * x.entries ≡ 12 * length (list_of (records_of list) c)
      all_records = ap (λ (y : Figures). 12 * y.entries) figures_of_answer

      front_is : take (12 * x.entries) after.list ≡ encode (list_of (records_of list) c)
      front_is = list_handed_on d fine all_records

      pub list_in_area : 12 * x.entries ≤ length after.list
      list_in_area = list_room d fine all_records

      pub few_lines : length (take (12 * x.entries) after.list) / 12 ≤ length list / 12
      few_lines = omega (arith, ap length front_is, length_encode (list_of (records_of list) c), length_list (records_of list) c, length_records_of list)

      records_handed_on : records_of (take (12 * x.entries) after.list) ≡ list_of (records_of list) c
      records_handed_on = ap records_of front_is ∙ records_encode (list_of (records_of list) c)

  module _ {r : Answer} {after : Areas} (d : Partitioned price list v st (areas choice area block) r after) {x : Figures} where
    -- the text is made of the list that partition wrote, whatever figures y stand for the pass
    pub text_listed : (y : Figures) → r ≡ Ok x
        → text_for (findings price list v st) (rates_of price) (records_of list) y ≡ report_text (records_of (take (12 * x.entries) after.list)) x y
    text_listed y h =
        ap (λ (q : Ruling). text_for q (rates_of price) (records_of list) y) (fine_of_answer d h)
        ∙ sym (ap (λ (l : List Record). report_text l x y) (records_handed_on d h)
        ∙ ap (λ (z : Figures). report_text (list_of (records_of list) (least_of price list)) z y) (figures_of_answer d h))

    -- and the program's with the pass's figures
    pub program_text_listed : {y : Figures} → y ≡ pass_figures (rates_of price) (records_of list) → r ≡ Ok x
        → program_text price list v st ≡ report_text (records_of (take (12 * x.entries) after.list)) x y
    program_text_listed {y} y_is h =
        ap (λ (z : Figures). text_for (findings price list v st) (rates_of price) (records_of list) z) (sym y_is) ∙ text_listed y h
