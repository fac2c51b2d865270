-- The query whose sorts are resolved, from its columns and its body.
use Rattle.std.proofs.Common.{◌≡◌, List, map, reverse, ap, ap₂, sym, subst, ◌∙◌}
use Rattle.lrp_model.specs.Checked.{resolved, plain_question}
use Rattle.lrp_model.specs.DatabaseMeaning.{column_of}
use Rattle.lrp_model.specs.Formulas.{Form, Question, said, form_of}
use Rattle.lrp_model.specs.RawQueries.{HasNoOperator, raw_form_of, raw_question_of}
use Rattle.lrp_model.specs.declared.raw.RawFormula.{RawFormula}
use Rattle.lrp_model.specs.declared.raw.RawQuery.{RawQuery}
use Rattle.lrp_model.specs.declared.relations.Column.{Column}
use Rattle.lrp_model.proofs.Resolved.{plain_said}
use Rattle.lrp_sorts.proofs.NoneLeft.{none_stays}

abbrev pub question : List Column → Form → Question
question cs f = record { head = cs; body = f }

pub sorted_question : (raw : RawQuery) (cs : List Column) (f : RawFormula) → cs ≡ map column_of raw.head → raw_form_of f ≡ resolved (raw_form_of raw.body) (reverse raw.head) → question cs (form_of f) ≡ plain_question (raw_question_of raw)
sorted_question raw cs f h k = ap₂ question h (ap said k ∙ plain_said (raw_form_of raw.body) (reverse raw.head))

pub none_left : (raw : RawQuery) (f : RawFormula) → HasNoOperator (raw_form_of raw.body) → raw_form_of f ≡ resolved (raw_form_of raw.body) (reverse raw.head) → HasNoOperator (raw_form_of f)
none_left raw f h k = subst HasNoOperator (sym k) (none_stays (raw_form_of raw.body) (reverse raw.head) h)
