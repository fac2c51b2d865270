-- What is asked of a database is what its relations can be opened with.
use Rattle.std.proofs.Common.{sym, subst}
use Rattle.lrp_model.specs.Formulas.{question_of}
use Rattle.lrp_model.specs.Texts.{AreDistinct, Ascends}
use Rattle.lrp_model.specs.declared.formulas.Query.{Query}
use Rattle.lrp_kept.specs.Disjuncts.{AreDisjunctsOf}
use Rattle.lrp_kept.specs.Held.{names_of}
use Rattle.lrp_keep.specs.Keeps.{CanBeKept}
use Rattle.lrp_keep.proofs.Naming.{can_join}
use Rattle.lrp_keep.proofs.keep.Keep.open.Goals as goal

pub of-requires-2 : goal.of-requires-2
of-requires-2 c = can_join c.args.database.now (question_of c.args.query.now) c.args.domain.now (names_of c.in_ok-rows.rows) c.requires c.in_ok-rows.ensures.empty.names

pub of-requires-3 : goal.of-requires-3
of-requires-3 c = record {
  can = subst (λ (q : Query). CanBeKept (question_of q) c.args.database.now c.in_ok-of.of.domain) (sym c.in_ok-of.ensures.query) (subst (λ d. CanBeKept (question_of c.args.query.now) c.args.database.now d) (sym c.in_ok-of.ensures.domain) c.requires);
  empty = c.in_ok-rows.ensures.empty;
  disjuncts = subst (λ (q : Query). AreDisjunctsOf (names_of c.in_ok-rows.rows) (question_of q) c.in_ok-of.of.disjuncts.items) (sym c.in_ok-of.ensures.query) c.in_ok-of.ensures.disjuncts;
  distinct = subst AreDistinct (sym c.in_ok-rows.ensures.empty.names) c.in_ok-rows.ensures.kept.differ;
  ascends = subst Ascends (sym c.in_ok-of.ensures.domain) c.len.ensures.ascending;
}
