use Rattle.std.proofs.Common.{sym, ◌∙◌}
use Rattle.lrp_guarded.proofs.Nears.{any_map}
use Rattle.std.proofs.Common.{rules, ◌≡◌, ℕ, Bool, ◌||◌, ◌&&◌, not, true}
use Rattle.std.proofs.Common.{List as ListOf}
use Rattle.std.proofs.Common.{map, position, option_map, Some, None, ◌==◌, if◌then◌else◌, ◌+◌, ◌-◌, ◌*◌, ◌<◌, ◌≤◌, length, ◌/◌, ◌%◌, false, nat_eq, nat_lt, List, [], ◌∷◌, ◌++◌, slice_index_or, slice_set, bit_and, bit_or, Fits, w8, w32, w64, Bor, MutBor}
use Rattle.std.specs.List.{list_any}
use Rattle.lrp_core.specs.FreeVariables.{variable_of}
use Rattle.lrp_core.specs.declared.core_forms.Core.{Core as CoreForm}
use Rattle.lrp_model.specs.Variables.{is_among}
use Rattle.lrp_model.specs.Variables.{are_among as are_members}
use Rattle.lrp_model.specs.Variables.{meet as share}
use Rattle.lrp_model.specs.Variables.{same_variable, time_variable, data_variable, variables_of_time, variables_of_data, variables_of_test}
use Rattle.lrp_plan_laws.specs.Projections.{PlanGround as Ground}
use Rattle.lrp_plan_laws.specs.GuardedConjunctions.{Standing as StandingOf}
use Rattle.lrp_plan_laws.specs.GuardedConjunctions.{compares as compared}
use Rattle.lrp_plan_laws.specs.GuardedConjunctions.{next_choice as chosen_next}
use Rattle.lrp_plan_laws.specs.GuardedConjunctions.{near_atom as chosen_atom}
use Rattle.lrp_plan_laws.specs.GuardedConjunctions.{near_sort as chosen_sort}
use Rattle.lrp_plan_laws.specs.GuardedConjunctions.{near_part as chosen_part}
use Rattle.lrp_plan_laws.specs.GuardedConjunctions.{near_test as chosen_test}
use Rattle.lrp_plan_laws.specs.GuardedConjunctions.{any_positive as chosen_positive}
use Rattle.lrp_plan_laws.specs.GuardedConjunctions.{next_denied as chosen_negation}
use Rattle.lrp_guarded.specs.Choices.{choice_of, part_variables}
use Rattle.lrp_guarded.specs.Standing.{IsStandingOf as IsStanding}
use Rattle.lrp_guarded.proofs.choices.has_time_name.Goals as goal

-- src/choices.rt:271:1
pub returns : goal.returns
returns c = c.any_time.ensures ∙ sym (any_map variable_of (same_variable (time_variable c.args.name.now)) c.args.all.now)
