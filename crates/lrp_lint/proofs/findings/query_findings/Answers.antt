-- There is a query, or none.
use Rattle.std.proofs.Common.{IfOk, subst, sym}
use Rattle.std.specs.Prelude.{option_map}
use Rattle.std.specs.Borrow.{Bor}
use Rattle.lrp_model.specs.RawQueries.{raw_question_of}
use Rattle.lrp_model.specs.declared.raw.RawQuery.{RawQuery}
use Rattle.lrp_lint.specs.Listed.{AreQueryFindings}
use Rattle.lrp_lint.proofs.findings.query_findings.Goals as goal

pub returns-in-Some : goal.returns-in-Some
returns-in-Some c = subst (λ o. IfOk c.listed_findings.result (AreQueryFindings c.args.database.now (option_map (λ (q : Bor RawQuery). raw_question_of q.now) o))) (sym c.in-Some.is) c.listed_findings.ensures

pub returns-in-None : goal.returns-in-None
returns-in-None c = subst (λ o. AreQueryFindings c.args.database.now (option_map (λ (q : Bor RawQuery). raw_question_of q.now) o) c.new.result) (sym c.in-None.is) c.new.ensures
