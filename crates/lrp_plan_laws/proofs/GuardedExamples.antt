-- Plans under guards with their lines, computed by the definitions.
use Rattle.std.proofs.Common.{◌≡◌, refl, List, [], ◌∷◌, ℕ, map}
use Rattle.std.specs.Prelude.{pos, codes}
use Rattle.std.specs.Fmt.{digits}
use Rattle.lrp_model.specs.Texts.{Text}
use Rattle.lrp_model.specs.Formulas.{Form, Question, atom, test, negation, conjunction, exists, no_forms, form}
use Rattle.lrp_model.specs.Steps.{PlanStep}
use Rattle.lrp_model.specs.PrintedPlans.{step_lines}
use Rattle.lrp_model.specs.declared.plans.Step.{Step}
use Rattle.lrp_model.specs.declared.relations.Sort.{Sort}
use Rattle.lrp_model.specs.declared.relations.Sort.TheVariants.{Time, Data, Named}
use Rattle.lrp_model.specs.declared.relations.Column.{Column}
use Rattle.lrp_model.specs.declared.relations.RowPoint.{RowPoint}
use Rattle.lrp_model.specs.declared.relations.Value.TheVariants.{Point, Const}
use Rattle.lrp_model.specs.declared.relations.Row.{Row}
use Rattle.lrp_model.specs.declared.relations.Relation.{Relation}
use Rattle.lrp_model.specs.declared.formulas.TimeTerm.{TimeTerm}
use Rattle.lrp_model.specs.declared.formulas.TimeTerm.TheVariants.{Var as time_var}
use Rattle.lrp_model.specs.declared.formulas.DataTerm.TheVariants.{Var as data_var}
use Rattle.lrp_model.specs.declared.formulas.Term.{Term}
use Rattle.lrp_model.specs.declared.formulas.Term.TheVariants.{Time as time_term, Data as data_term}
use Rattle.lrp_model.specs.declared.formulas.Op.TheVariants.{Le, Ge}
use Rattle.lrp_model.specs.declared.formulas.Test.TheVariants.{Compare}
use Rattle.lrp_plan_laws.specs.GuardedPlans.{guarded_plan}

-- a step as the program has it, and the lines of a plan
abbrev as_step : PlanStep → Step
as_step s = record { kind = s.kind; period = pos s.period; reach = pos s.reach }

abbrev printed : List PlanStep → List ℕ
printed steps = step_lines 1 (map as_step steps)

abbrev of_name : Text → TimeTerm
of_name v = time_var v (pos 0)

abbrev column : Text → Sort → Column
column v s = record { name = v; sort = s }

abbrev point : ℕ → ℕ → RowPoint
point c k = record { offset = pos c; period = pos k }

-- relation a(t: time) { (0+6n); } relation b(u: time) { (1+9n); }
abbrev two_relations : List Relation
two_relations =
    record { name = codes "a"; columns = column (codes "t") Time ∷ []; rows = record { values = Point (point 0 6) ∷ []; bounds = [] } ∷ [] }
    ∷ record { name = codes "b"; columns = column (codes "u") Time ∷ []; rows = record { values = Point (point 1 9) ∷ []; bounds = [] } ∷ [] } ∷ []

-- { t: time | (a(t) and not exists u: time (b(u) and u >= t and u <= t + 2)) }
abbrev alone_query : Question
alone_query = record {
  head = column (codes "t") Time ∷ [];
  body = conjunction (form (atom (codes "a") (time_term (of_name (codes "t")) ∷ []))
      (form (negation (exists (codes "u") Time (conjunction (form (atom (codes "b") (time_term (of_name (codes "u")) ∷ []))
      (form (test (Compare (of_name (codes "u")) Ge (of_name (codes "t")))) (form (test (Compare (of_name (codes "u")) Le (time_var (codes "t") (pos 2)))) no_forms)))))) no_forms));
}

-- the second relation is looked at beside the first alone
pub alone_lines : printed (guarded_plan two_relations alone_query) ≡ codes "1 scan a(t) [period 6, reach 6]\n2 scan b(u) [period 9, reach 9]\n3 join 1 2 where t <= u, u <= t + 2 [period 18, reach 27]\n4 drop 3 u [period 18, reach 54]\n5 minus 1 4 [period 18, reach 90]\n6 head 5 [period 18, reach 90]\n"
unfolding digits
alone_lines = refl
