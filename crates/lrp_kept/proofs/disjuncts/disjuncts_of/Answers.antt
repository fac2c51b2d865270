use Rattle.std.proofs.Common.{sym, ap, subst, ◌∙◌}
use Rattle.std.specs.List.{AllByRecursion}
use Rattle.lrp_model.specs.Formulas.{disjunction, question_of}
use Rattle.lrp_core.specs.Cores.{core_of, cores_of}
use Rattle.lrp_core.proofs.CoreViews.{core_of-Or}
use Rattle.lrp_kept.specs.Drafts.{CanBeJoinedUp}
use Rattle.lrp_kept.specs.Held.{names_of}
use Rattle.lrp_kept.proofs.JoinedUp.{alone_of, each_of, one_listed, some_listed}
use Rattle.lrp_kept.proofs.disjuncts.disjuncts_of.Goals as goal

pub each_disjunct-requires : goal.each_disjunct-requires
each_disjunct-requires c =
    subst (AllByRecursion (CanBeJoinedUp (names_of c.args.rows.now))) (some_listed (question_of c.args.query.now) (core_of c.in_ok-core.core) (cores_of c.deref.result.now) c.in_ok-core.ensures (ap core_of c.in-Or.is ∙ core_of-Or c.in-Or.of ∙ ap (λ xs. disjunction (cores_of xs)) (sym c.deref.ensures.value))) c.requires

pub returns-in-Or : goal.returns-in-Or
returns-in-Or c =
    each_of c.each_disjunct.result (names_of c.args.rows.now) (question_of c.args.query.now) (cores_of c.deref.result.now) (some_listed (question_of c.args.query.now) (core_of c.in_ok-core.core) (cores_of c.deref.result.now) c.in_ok-core.ensures (ap core_of c.in-Or.is ∙ core_of-Or c.in-Or.of ∙ ap (λ xs. disjunction (cores_of xs)) (sym c.deref.ensures.value))) c.each_disjunct.ensures

pub one_disjunct-requires : goal.one_disjunct-requires
one_disjunct-requires c = (subst (AllByRecursion (CanBeJoinedUp (names_of c.args.rows.now))) (one_listed (question_of c.args.query.now) c.in_ok-core.core c.in_ok-core.ensures c.in_default.not-Or) c.requires).0

pub returns : goal.returns
returns c = alone_of c.one_disjunct.result (names_of c.args.rows.now) (question_of c.args.query.now) (core_of c.in_ok-core.core) (one_listed (question_of c.args.query.now) c.in_ok-core.core c.in_ok-core.ensures c.in_default.not-Or) c.one_disjunct.ensures
