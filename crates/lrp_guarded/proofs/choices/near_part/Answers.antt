use Rattle.lrp_plan_laws.specs.GuardedConjunctions.{an_atom, a_sort, a_part, a_test, a_negation, chosen}
use Rattle.std.proofs.Common.{refl, sym, ap, ◌∙◌}
use Rattle.lrp_guarded.proofs.Nears.{atoms_near, atoms_linked, sorts_near, parts_near, tests_near, negations_covered, first_untaken, none_taken, atoms_length, sorts_length, others_length, negations_length, first_place_of, place_first, else_some, else_next, chosen_some, chosen_none, sorts_wait, sorts_come}
use Rattle.std.proofs.Common.{rules, ◌≡◌, ℕ, Bool, ◌||◌, ◌&&◌, not, true}
use Rattle.std.proofs.Common.{List as ListOf}
use Rattle.std.proofs.Common.{map, position, option_map, Some, None, ◌==◌, if◌then◌else◌, ◌+◌, ◌-◌, ◌*◌, ◌<◌, ◌≤◌, length, ◌/◌, ◌%◌, false, nat_eq, nat_lt, List, [], ◌∷◌, ◌++◌, slice_index_or, slice_set, bit_and, bit_or, Fits, w8, w32, w64, Bor, MutBor}
use Rattle.std.specs.List.{list_any}
use Rattle.lrp_core.specs.FreeVariables.{variable_of}
use Rattle.lrp_core.specs.declared.core_forms.Core.{Core as CoreForm}
use Rattle.lrp_model.specs.Variables.{is_among}
use Rattle.lrp_model.specs.Variables.{are_among as are_members}
use Rattle.lrp_model.specs.Variables.{meet as share}
use Rattle.lrp_model.specs.Variables.{same_variable, time_variable, data_variable, variables_of_time, variables_of_data, variables_of_test}
use Rattle.lrp_plan_laws.specs.Projections.{PlanGround as Ground}
use Rattle.lrp_plan_laws.specs.GuardedConjunctions.{Standing as StandingOf}
use Rattle.lrp_plan_laws.specs.GuardedConjunctions.{compares as compared}
use Rattle.lrp_plan_laws.specs.GuardedConjunctions.{next_choice as chosen_next}
use Rattle.lrp_plan_laws.specs.GuardedConjunctions.{near_atom as chosen_atom}
use Rattle.lrp_plan_laws.specs.GuardedConjunctions.{near_sort as chosen_sort}
use Rattle.lrp_plan_laws.specs.GuardedConjunctions.{near_part as chosen_part}
use Rattle.lrp_plan_laws.specs.GuardedConjunctions.{near_test as chosen_test}
use Rattle.lrp_plan_laws.specs.GuardedConjunctions.{any_positive as chosen_positive}
use Rattle.lrp_plan_laws.specs.GuardedConjunctions.{next_denied as chosen_negation}
use Rattle.lrp_guarded.specs.Choices.{choice_of, part_variables}
use Rattle.lrp_guarded.specs.Standing.{IsStandingOf as IsStanding}
use Rattle.lrp_guarded.proofs.choices.near_part.Goals as goal

-- src/choices.rt:97:9
pub returns-in-Some : goal.returns-in-Some
returns-in-Some c = λ over K fs at is. else_some _ _ _ (chosen_some a_part c.near_part_place.result _ c.in-Some.index (c.near_part_place.ensures ∙ parts_near over K fs c.args.standing.now at is c.as_slice-others.result.now c.as_slice.result.now c.as_slice-others.ensures.value c.as_slice.ensures) c.in-Some.is)

-- src/choices.rt:100:9
pub returns-then-standing : goal.returns-then-standing
returns-then-standing c = λ over K fs at is. else_next _ _ None (chosen_none a_part c.near_part_place.result _ (c.near_part_place.ensures ∙ parts_near over K fs c.args.standing.now at is c.as_slice-others.result.now c.as_slice.result.now c.as_slice-others.ensures.value c.as_slice.ensures) c.in_default.is) (sym (ap (chosen a_part) (none_taken over K fs c.args.standing.now at is at.others c.if-standing.true)))

-- src/choices.rt:91:1
pub returns-in-Some-first_place : goal.returns-in-Some-first_place
returns-in-Some-first_place c = λ over K fs at is. else_next _ _ _ (chosen_none a_part c.near_part_place.result _ (c.near_part_place.ensures ∙ parts_near over K fs c.args.standing.now at is c.as_slice-others.result.now c.as_slice.result.now c.as_slice-others.ensures.value c.as_slice.ensures) c.in_default.is) (sym (chosen_some a_part c.first_place.result _ c.in-Some-first_place.index (first_place_of at.others (length c.as_slice-others.result.now) c.first_place.result (ap length c.as_slice-others.ensures.value ∙ others_length over K fs c.args.standing.now at is) c.first_place.ensures ∙ place_first at.others ∙ sym (first_untaken over K fs c.args.standing.now at is at.others c.if-standing.false)) c.in-Some-first_place.is))
