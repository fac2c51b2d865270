use Rattle.std.proofs.Common.{cond, Option, Some, None, option_map, bytes_eq, ap, sym, ◌∙◌, Bor}
use Rattle.lrp_model.specs.declared.relations.Sort.{Sort}
use Rattle.lrp_sorts.specs.Scopes.{kept_at}
use Rattle.lrp_sorts.proofs.Heads.{updated}
use Rattle.lrp_sorts.proofs.scope.restore.Goals as goal

pub returns-in-Ok : goal.returns-in-Ok
returns-in-Ok c = λ n.
    updated c.args.name c.args.sorts.now c.insert.new.self (Some c.in-Some.sort) c.in-Ok.ensures.updates n
    ∙ ap (λ (o : Option (Bor Sort)). cond (bytes_eq c.args.name.now n) (option_map (λ s. s.now) o) (kept_at c.args.sorts.now n)) (sym c.in-Some.is)

pub returns-in-None : goal.returns-in-None
returns-in-None c = λ n.
    updated c.args.name c.args.sorts.now c.remove.new.self None c.remove.ensures.updates n
    ∙ ap (λ (o : Option (Bor Sort)). cond (bytes_eq c.args.name.now n) (option_map (λ s. s.now) o) (kept_at c.args.sorts.now n)) (sym c.in-None.is)
