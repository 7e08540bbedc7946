-- A lone match may be worth storing, and the pass stores none.
-- Assumes nothing.
use mathlib.Core.Path.{refl}
use lib.ListN.{length}
use Rattle.format.specs.Record.{records_of}
use Rattle.price.specs.Price.{rates_of}
use Rattle.admit.proofs.Admitting.{sound_of_fine}
use Rattle.writer.proofs.Deciding.{areas_decided}
use Rattle.linear.proofs.Theorems.{pass_none_alone}
use Rattle.call_pass.specs.Pass.{pass_choice_of}
use Rattle.demand.specs.Lone.{LoneMatches}

pub lone_matches : LoneMatches
lone_matches =
    record {
      worth_it = refl;
      only_partition = λ p list v st x made fine.
          let sound = sound_of_fine p list v st (length x.before.choice) (length x.before.list) (length x.before.block) fine in
          record {
            choice = pass_choice_of p list;
            written = areas_decided made.decided fine;
            none_alone = pass_none_alone (rates_of p) (records_of list) sound.covered.is_well_formed.sized;
          };
    }
