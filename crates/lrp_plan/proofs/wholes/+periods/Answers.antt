use Rattle.std.proofs.Common.{sym, ap, ◌∙◌, arith, map}
use Rattle.lrp_model.specs.RawTerms.{said_term}
use Rattle.lrp_core.specs.Cores.{core_of, cores_of}
use Rattle.lrp_core.proofs.CoreViews.{core_of-And, core_of-Or}
use Rattle.lrp_model.specs.Formulas.{conjunction}
use Rattle.lrp_model.specs.Periods.{periods}
use Rattle.lrp_plan.proofs.WholePeriods.{atom_whole, same_whole, each_more, each_all}
use Rattle.lrp_plan.proofs.wholes.+periods.Goals as goal

pub with_core-returns-in-Atom : goal.with_core-returns-in-Atom
with_core-returns-in-Atom t c = atom_whole c.args.sources.now (core_of c.args.core.now) c.in-Atom.relation.now (map said_term c.in-Atom.terms.now) c.facts.result _ _ (ap core_of c.in-Atom.is) c.facts.ensures c.with_facts.ensures

pub with_core-returns-in-And : goal.with_core-returns-in-And
with_core-returns-in-And t c =
    same_whole c.args.sources.now (core_of c.args.core.now) (conjunction (cores_of c.deref-in-And.result.now)) _ _ (λ M. ap (λ f. periods f M.relations) (ap core_of c.in-And.is ∙ core_of-And c.in-And.of ∙ ap (λ xs. conjunction (cores_of xs)) (sym c.deref-in-And.ensures.value))) c.with_each.ensures

pub with_core-returns-in-Or : goal.with_core-returns-in-Or
with_core-returns-in-Or t c =
    same_whole c.args.sources.now (core_of c.args.core.now) (conjunction (cores_of c.deref-in-Or.result.now)) _ _ (λ M. ap (λ f. periods f M.relations) (ap core_of c.in-Or.is ∙ core_of-Or c.in-Or.of) ∙ ap (λ xs. periods (conjunction (cores_of xs)) M.relations) (sym c.deref-in-Or.ensures.value)) c.with_each-in-Or.ensures

pub with_each-loop-core-preserved : goal.with_each-loop-core-preserved
with_each-loop-core-preserved t c = λ M s. each_more M c.args.of.now c.loop-core.core-index c.core-item.result _ _ _ c.loop-core-test.true c.core-item.is (c.loop-core.invariant M s) (c.with_core-all.ensures M s)

pub with_each-returns : goal.with_each-returns
with_each-returns t c = λ M s. each_all M c.args.of.now c.loop-core.core-index _ _ (omega (arith, c.loop-core-test.false)) (c.loop-core.invariant M s)
