use Rattle.std.proofs.Common.{◌++◌, [], ◌∷◌, ◌≡◌, map, ap, sym, ◌∙◌}
use Rattle.std.proofs.lemmas.List.{take_all}
use Rattle.lrp_wide.specs.Chains.{as_themselves}
use Rattle.lrp_wide.specs.Inlining.{passed_name}
use Rattle.lrp_wide.specs.declared.chains.Chain.{Chain}
use Rattle.lrp_wide.proofs.ChainBodies.{name-more}
use Rattle.lrp_wide.proofs.chains.continued.Goals as goal

pub loop-name-init : goal.loop-name-init
loop-name-init c = λ name k. ap (map name) (sym c.in_ok-names.ensures.items)

pub loop-name-preserved : goal.loop-name-preserved
loop-name-preserved c = λ name k.
    let old = passed_name (as_themselves name c.args.columns.now c.args.variables.now) k in
    name-more old name c.as_slice-name-items.result.now c.loop-name.name-index c.name-item.result c.loop-name.names.items c.in-Some.variable.now c.loop-name-test.true c.name-item.is (c.loop-name.invariant name k) (c.in-Some.ensures name k)
    ∙ ap (λ v. map name (c.loop-name.names.items ++ v ∷ [])) (sym c.in_ok-copy.ensures) ∙ ap (map name) (sym c.in_ok-push.ensures.items)

pub returns : goal.returns
returns c =
    let made : c.in_ok-made.made.value ≡ record { end = c.args.further.now.end; steps = c.in_ok-plus.field-0; names = c.loop-name.names } = c.in_ok-made.ensures.ok in
    record {
      end = ap (λ (x : Chain). x.end) made;
      steps = ap (λ (x : Chain). x.steps) made ∙ c.in_ok-plus.ensures.sum;
      names = λ name k. ap (map (passed_name (as_themselves name c.args.columns.now c.args.variables.now) k)) (sym (take_all c.loop-name.name-index c.as_slice-name-items.result.now c.loop-name-test.false ∙ c.as_slice-name-items.ensures.value)) ∙ c.loop-name.invariant name k
          ∙ ap (λ (x : Chain). map name x.names.items) (sym made);
    }
