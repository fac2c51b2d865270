-- What reads a text gives its fault.
use Rattle.std.proofs.Common.{Err}
use Rattle.lrp_rel.specs.declared.trees.ReadFault.TheVariants.{Fault}
use Rattle.lrp_edits.proofs.EditLaws.{every_fault}
use Rattle.lrp_edits.proofs.laws.edits_have_one_fault.Goals as goal

pub returns : goal.returns
returns c = λ bytes relations fault other one two. every_fault bytes relations (Err (Fault fault)) tt one other two
