-- What expansion keeps: the answers by the own meaning of definitions, operators and `*`, and what a query needs to be planned.
use Rattle.std.specs.Prelude.{◌↔◌, List}
use Rattle.lrp_model.specs.Rows.{Tuple}
use Rattle.lrp_model.specs.Satisfaction.{IsAnswer}
use Rattle.lrp_model.specs.Checked.{plain_question}
use Rattle.lrp_model.specs.RawQueries.{RawFileView}
use Rattle.lrp_model.specs.declared.relations.Relation.{Relation}
use Rattle.lrp_wide.specs.Meaning.{IsWideAnswer}
use Rattle.lrp_wide.specs.Inlining.{expanded_file}
use Rattle.lrp_wide.specs.WideSorting.{IsWellSortedFile}

-- on a database for which the file is well-sorted, a tuple is an answer of the expanded query exactly where it is one of the file; so the texts of each sort are the same too
abbrev pub KeepsAnswers : List Relation → RawFileView → Type 0
KeepsAnswers db f = (tuple : Tuple) → IsWideAnswer db f tuple ↔ IsAnswer db (plain_question (expanded_file db f)) tuple
