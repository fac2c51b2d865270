use Rattle.std.proofs.Common.{◌≡◌, ◌<◌, ◌∙◌, Vec, Global, rules, ap, arith, subst, length}
use Rattle.lrp_model.specs.RawQueries.{raw_kind, raw_form_of, raw_forms_of}
use Rattle.lrp_model.specs.Checked.{resolved, resolved_each}
use Rattle.lrp_model.specs.declared.raw.RawFormula.{RawFormula}
use Rattle.lrp_model.specs.declared.raw.RawKind.{And, Or, the_lemmas}
use Rattle.lrp_sorts.specs.Binding.{binders_of}
use Rattle.lrp_sorts.proofs.ResolvedNodes.{ResolvedTo, and_resolved, or_resolved, resolved_more, resolved_all}
use Rattle.lrp_sorts.proofs.resolving.+resolving.Goals as goal

pub resolve-returns-in-And : goal.resolve-returns-in-And
resolve-returns-in-And t c =
    let bs = binders_of c.args.around.now in
    let w : Vec RawFormula Global = c.resolve_each.new.fs in
    let whole : raw_kind (And w) c.args.f.now.place ≡ resolved (raw_form_of c.args.f.now) bs = and_resolved bs c.args.f.now c.in-And.of w c.in-And.is (c.resolve_each.ensures ∙ ap (λ v. resolved_each (raw_forms_of v.items) bs) c.in-And.of-is) in
    search (rules, the_lemmas, whole)

pub resolve-returns-in-Or : goal.resolve-returns-in-Or
resolve-returns-in-Or t c =
    let bs = binders_of c.args.around.now in
    let w : Vec RawFormula Global = c.resolve_each-in-Or.new.fs in
    let whole : raw_kind (Or w) c.args.f.now.place ≡ resolved (raw_form_of c.args.f.now) bs = or_resolved bs c.args.f.now c.in-Or.of w c.in-Or.is (c.resolve_each-in-Or.ensures ∙ ap (λ v. resolved_each (raw_forms_of v.items) bs) c.in-Or.of-is) in
    search (rules, the_lemmas, whole)

pub resolve_each-loop-i-preserved : goal.resolve_each-loop-i-preserved
resolve_each-loop-i-preserved t c =
    let bs = binders_of c.args.around.now in
    let there : c.loop-i.i < length c.args.fs.now.items = omega (arith, c.loop-i-test.true, c.len-i-end.ensures) in
    record {
      others = search rules;
      so_far = resolved_more bs c.args.fs.now.items c.loop-i.fs.items c.loop-i.i c.index_mut.result.now c.resolve.new.f there c.loop-i.invariant.others.0 c.loop-i.invariant.so_far c.index_mut.ensures.value c.resolve.ensures;
    }

pub resolve_each-returns : goal.resolve_each-returns
resolve_each-returns t c =
    let bs = binders_of c.args.around.now in
    let all : c.loop-i.i ≡ length c.args.fs.now.items = omega (arith, c.loop-i-test.false, c.loop-i.auto.i-end, c.len-i-end.ensures) in
    resolved_all bs c.args.fs.now.items c.loop-i.fs.items (subst (λ n. ResolvedTo bs c.args.fs.now.items n c.loop-i.fs.items) all c.loop-i.invariant.so_far)
