use Rattle.std.proofs.Common.{◌≡◌, Some, None, sym, subst, rules}
use Rattle.std.specs.Str.{bytes_eq}
use Rattle.std.specs.HashMap.{get}
use Rattle.lrp_model.specs.Rows.{rows_of}
use Rattle.lrp_limits.specs.Facts.{AreFacts}
use Rattle.lrp_plan.specs.Sources.{AreFactsOf}
use Rattle.lrp_plan.proofs.sources.Sources.facts.Goals as goal

pub returns-in-Some : goal.returns-in-Some
returns-in-Some c = λ M s.
    let e : get bytes_eq c.args.self.now.facts c.args.name.now ≡ Some c.in-Some.facts.now = search rules in
    subst (AreFactsOf (rows_of M.relations c.args.name.now)) e (s.facts_are c.args.name.now)

pub returns-in-None : goal.returns-in-None
returns-in-None c = λ M s.
    let e : get bytes_eq c.args.self.now.facts c.args.name.now ≡ None = search rules in
    subst (λ rows. AreFacts rows c.facts_of.result) (sym (subst (AreFactsOf (rows_of M.relations c.args.name.now)) e (s.facts_are c.args.name.now))) c.facts_of.ensures
