use Rattle.std.proofs.Common.{map, sym, ap, ◌∙◌, ◌==◌, length}
use Rattle.std.proofs.lemmas.List.{length-map}
use Rattle.lrp_core.specs.FreeVariables.{variable_of, with_variables}
use Rattle.lrp_plan.proofs.Grown.{none_further}
use Rattle.lrp_plan.proofs.taking.add_further.Goals as goal

pub returns-clause-known : goal.returns-clause-known
returns-clause-known c =
    ap (λ n. n == c.len-before.result) (c.len.ensures ∙ sym (length-map c.add_variables.new.all variable_of) ∙ ap length c.in_ok-add_variables.ensures)
    ∙ ap (λ n. length (with_variables (map variable_of c.args.all.now) (map variable_of c.args.more.now)) == n) (c.len-before.ensures ∙ sym (length-map c.args.all.now variable_of))
    ∙ none_further (map variable_of c.args.all.now) (map variable_of c.args.more.now)
