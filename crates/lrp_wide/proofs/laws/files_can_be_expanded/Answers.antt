use Rattle.lrp_wide.proofs.LawfulFiles.{expandable_file}
use Rattle.lrp_wide.proofs.laws.files_can_be_expanded.Goals as goal

pub returns : goal.returns
returns c = λ bytes f t. expandable_file bytes f t
