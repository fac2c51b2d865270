use Rattle.std.proofs.Common.{[], map, flat_map, ap, ◌∙◌}
use Rattle.lrp_core.specs.FreeVariables.{variable_of, with_variables}
use Rattle.lrp_model.specs.Variables.{variables_of_test}
use Rattle.lrp_guarded.specs.Choices.{part_variables}
use Rattle.lrp_guarded.specs.declared.elements.RankedAtom.{RankedAtom}
use Rattle.lrp_guarded.specs.declared.elements.RankedSort.{RankedSort}
use Rattle.lrp_guarded.proofs.Left.{left_same}
use Rattle.lrp_guarded.proofs.elements.Elements.variables.Goals as goal

pub returns : goal.returns
returns c = λ over K fs at h.
    left_same over K fs c.args.self.now at c.add_atoms.new.all c.add_sorts.new.all c.add_parts.new.all c.add_tests.new.all c.add_parts-2.new.all h
    (c.in_ok-add_atoms.ensures ∙ ap (λ us. with_variables (map variable_of us) (flat_map (λ (x : RankedAtom). map variable_of x.variables.now) c.as_slice.result.now)) c.new-all.ensures ∙ ap (λ xs. with_variables [] (flat_map (λ (x : RankedAtom). map variable_of x.variables.now) xs)) c.as_slice.ensures.value)
    (c.in_ok-add_sorts.ensures ∙ ap (λ xs. with_variables (map variable_of c.add_atoms.new.all) (flat_map (λ (x : RankedSort). map variable_of x.variables.now) xs)) c.as_slice-2.ensures.value)
    (c.in_ok-add_parts.ensures ∙ ap (λ xs. with_variables (map variable_of c.add_sorts.new.all) (flat_map part_variables xs)) c.as_slice-3.ensures.value)
    (c.in_ok-add_tests.ensures ∙ ap (λ xs. with_variables (map variable_of c.add_parts.new.all) (flat_map variables_of_test xs)) c.as_slice-4.ensures)
    (c.in_ok-add_parts-2.ensures ∙ ap (λ xs. with_variables (map variable_of c.add_tests.new.all) (flat_map part_variables xs)) c.as_slice-5.ensures.value)
