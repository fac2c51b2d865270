-- The operators of the program, and what they stand for.
use Rattle.std.specs.Prelude.{ℤ, Option, Some, None}
use Rattle.lrp_model.specs.Texts.{Identifier}
use Rattle.lrp_model.specs.RawQueries.{RawForm, RawForms, raw_form_of, raw_compare, raw_and, raw_or, raw_exists, raw_forall, Operator, operator_at, raw_ranged, raw_paired}
use Rattle.lrp_model.specs.declared.tokens.Place.{Place}
use Rattle.lrp_model.specs.declared.raw.RawColumn.{RawColumn}
use Rattle.lrp_model.specs.declared.raw.RawTerm.{RawTerm}
use Rattle.lrp_model.specs.declared.raw.RawTermKind.{RawTermKind}
use Rattle.lrp_model.specs.declared.raw.RawTermKind.TheVariants.{Var, Shifted}
use Rattle.lrp_tense.specs.Expanding.{time_binder, name_term, form_of_range, form_of_pair}
use Rattle.lrp_model.specs.declared.raw.Ranged.{Ranged}
use Rattle.lrp_model.specs.declared.raw.Paired.{Paired}
use Rattle.lrp_tense.specs.declared.written_operators.Operator.{Operator as WrittenOperator}
use Rattle.lrp_tense.specs.declared.written_operators.RangeOperator.{RangeOperator}
use Rattle.lrp_tense.specs.declared.written_operators.PairOperator.{PairOperator}
use Rattle.lrp_tense.specs.declared.written_out.OperatorPlaces.{OperatorPlaces}
use Rattle.lrp_tense.specs.declared.written_out.Inside.{Inside}
use Rattle.lrp_tense.specs.declared.written_out.Comparand.{Comparand}
use Rattle.lrp_tense.specs.declared.written_out.Connective.{Connective}
use Rattle.lrp_tense.specs.declared.written_out.Connective.TheVariants.{And, Or}
use Rattle.lrp_tense.specs.declared.written_out.QuantifierKind.{QuantifierKind}
use Rattle.lrp_tense.specs.declared.written_out.QuantifierKind.TheVariants.{Exists, Forall}

-- ---- connectives and quantifiers

abbrev pub joined_form : Connective → Place → RawForms → RawForm
joined_form And = raw_and
joined_form Or = raw_or

abbrev pub quantified_form : QuantifierKind → Place → RawColumn → RawForm → RawForm
quantified_form Exists = raw_exists
quantified_form Forall = raw_forall

-- ---- operators of the program

-- an operator at these places, where its variable has this name
abbrev pub operator_there : OperatorPlaces → Identifier → Operator
operator_there p v = operator_at p.place v p.name_place

abbrev pub operator_of : WrittenOperator → Operator
operator_of o = operator_there o.places o.name.now

-- the formula that one with an interval makes of a formula, and one over two formulas of these
abbrev pub range_of : RangeOperator → RawForm → RawForm
range_of r f = raw_ranged r.word (operator_of r.at) r.from r.to f

abbrev pub pair_of : PairOperator → RawForm → RawForm → RawForm
pair_of p f g = raw_paired p.word (operator_of p.at) f g

-- ---- what they stand for

-- a variable, or one plus a number
abbrev pub variable_plus : Identifier → Option ℤ → RawTermKind
variable_plus n None = Var n
variable_plus n (Some plus) = Shifted n plus

-- the term that is compared with
abbrev pub term_of_bound : Comparand → RawTerm
term_of_bound b = record { kind = variable_plus b.name.now b.plus; place = b.place }

-- x is within the bound
abbrev pub bounded : OperatorPlaces → Identifier → Comparand → RawForm
bounded p x b = raw_compare p.place (name_term p.place x) b.op (term_of_bound b)

-- the formula that stands inside a variable
abbrev pub form_inside : Inside → RawForm
form_inside i = raw_form_of i.of.value

-- each value of that variable satisfies it, written at an operator's place
abbrev pub each_there : OperatorPlaces → Inside → RawForm
each_there p i = raw_forall p.place (time_binder p.place i.name) (form_inside i)

-- what operators at these places stand for, where their variable is v: of the formula inside their moment, and of the one inside each moment between
abbrev pub range_at : Ranged → OperatorPlaces → Identifier → ℤ → ℤ → Inside → RawForm
range_at word p v from to i = form_of_range word (operator_there p v) i.name v from to (form_inside i)

abbrev pub pair_at : Paired → OperatorPlaces → Identifier → Inside → Inside → RawForm
pair_at word p v b i = form_of_pair word (operator_there p v) i.name b.name v (form_inside b) (form_inside i)
