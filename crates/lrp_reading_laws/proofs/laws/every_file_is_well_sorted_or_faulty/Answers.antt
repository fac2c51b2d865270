use Rattle.lrp_wide.specs.WideSorting.{file_faults}
use Rattle.lrp_reading_laws.proofs.EverySorting.{none_or_first}
use Rattle.lrp_reading_laws.proofs.laws.every_file_is_well_sorted_or_faulty.Goals as goal

pub returns : goal.returns
returns c = λ relations f. none_or_first (file_faults relations f)
