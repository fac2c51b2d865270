use Rattle.lrp_wide.proofs.LawfulFiles.{lawful_file}
use Rattle.lrp_wide.proofs.laws.expanded_files_are_lawful.Goals as goal

pub returns : goal.returns
returns c = λ bytes db f t kept small sorted. lawful_file bytes db f t kept small sorted
