-- Where each period in the rows of a database and in the points of a body is at least 1, so is each that the query names.
use Rattle.std.proofs.Common.{ℕ, true, false, Bool, cond, List, [], ◌∷◌, Some, flat_map, nat_abs, bytes_eq}
use Rattle.std.specs.List.{AllByRecursion}
use Rattle.lrp_model.specs.Texts.{Identifier}
use Rattle.lrp_model.specs.Rows.{rows_in, relation_named}
use Rattle.lrp_model.specs.Formulas.{Form, Forms, atom, test, sorted, negation, conjunction, disjunction, implication, exists, forall, no_forms, form}
use Rattle.lrp_model.specs.Periods.{value_periods, test_periods, periods, periods_each}
use Rattle.lrp_model.specs.declared.relations.Relation.{Relation}
use Rattle.lrp_model.proofs.Logic.{all_append}
use Rattle.lrp_model.specs.declared.formulas.Test.{Test}
use Rattle.lrp_model.specs.declared.formulas.Test.TheVariants.{Compare, Member, Equal}
use Rattle.lrp_model.specs.TestPoints.{test_points, points, points_each}
use Rattle.lrp_plan_laws.specs.Rising.{database_periods}

module _ (p : ℕ → Type 0) where
  -- of all rows, those of the relation that is found, or none
  found_rows : (db : List Relation) (name : Identifier) → AllByRecursion p (database_periods db) → AllByRecursion p (flat_map (λ row. flat_map value_periods row.values) (rows_in (relation_named db name)))
  found_rows [] name h = tt
  found_rows (r ∷ rs) name h =
      let two = (all_append p (flat_map (λ row. flat_map value_periods row.values) r.rows) (database_periods rs)).0 h in
      by_name (bytes_eq r.name name) two.0 (found_rows rs name two.1)
    where
      by_name : (b : Bool) → AllByRecursion p (flat_map (λ row. flat_map value_periods row.values) r.rows) → AllByRecursion p (flat_map (λ row. flat_map value_periods row.values) (rows_in (relation_named rs name)))
          → AllByRecursion p (flat_map (λ row. flat_map value_periods row.values) (rows_in (cond b (Some r) (relation_named rs name))))
      by_name true here rest = here
      by_name false here rest = rest

  -- of the period of a test's point
  of_test : (t : Test) → AllByRecursion (λ at. p (nat_abs at.period)) (test_points t) → AllByRecursion p (test_periods t)
  of_test (Compare left op right) h = tt
  of_test (Member term point) h = h
  of_test (Equal left right) h = tt

  mutual
    -- what holds of the periods of rows and of points holds of those that a formula names
    pub named_from : (f : Form) (db : List Relation) → AllByRecursion p (database_periods db) → AllByRecursion (λ at. p (nat_abs at.period)) (points f) → AllByRecursion p (periods f db)
    named_from (atom name terms) db rows ps = found_rows db name rows
    named_from (test t) db rows ps = of_test t ps
    named_from (sorted s v) db rows ps = tt
    named_from (negation f) db rows ps = named_from f db rows ps
    named_from (conjunction fs) db rows ps = each_from fs db rows ps
    named_from (disjunction fs) db rows ps = each_from fs db rows ps
    named_from (implication f g) db rows ps =
        let two = (all_append (λ at. p (nat_abs at.period)) (points f) (points g)).0 ps in (all_append p (periods f db) (periods g db)).1 (named_from f db rows two.0, named_from g db rows two.1)
    named_from (exists v s f) db rows ps = named_from f db rows ps
    named_from (forall v s f) db rows ps = named_from f db rows ps

    -- and of those that each of a list names
    each_from : (fs : Forms) (db : List Relation) → AllByRecursion p (database_periods db) → AllByRecursion (λ at. p (nat_abs at.period)) (points_each fs) → AllByRecursion p (periods_each fs db)
    each_from no_forms db rows ps = tt
    each_from (form f fs) db rows ps =
        let two = (all_append (λ at. p (nat_abs at.period)) (points f) (points_each fs)).0 ps in (all_append p (periods f db) (periods_each fs db)).1 (named_from f db rows two.0, each_from fs db rows two.1)
