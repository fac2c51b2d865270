use Rattle.std.proofs.Common.{◌≡◌, ◌<◌, ◌+◌, suc, length, ap, refl, sym, subst, ◌∙◌, arith}
use Rattle.lrp_wide.specs.Chains.{as_themselves}
use Rattle.lrp_wide.specs.Settings.{passed_of, setting_of}
use Rattle.lrp_wide.proofs.ChainEnds.{end-is}
use Rattle.lrp_wide.proofs.inlining.body_at_end.Goals as goal

pub relation-requires-clause-there : goal.relation-requires-clause-there
relation-requires-clause-there c = omega (arith, c.requires.chain.earlier, c.requires.named.there)

pub returns : goal.returns
returns c =
    let made = c.in_ok-passed.passed in
    end-is c.args._scene.now c.args.body.now c.args.chain.now c.relation.result.now made.items c.in_ok-first.first _ c.requires.named c.requires.chain c.relation.ensures
    (setting_of c.in_ok-setting.setting).name c.in_ok-setting.ensures.name
    (subst (λ cs. passed_of (as_themselves (setting_of c.in_ok-setting.setting).name cs c.args.chain.now.names.items) made.items) c.as_slice-columns.ensures (subst (λ vs. passed_of (as_themselves (setting_of c.in_ok-setting.setting).name c.as_slice-columns.result.now vs) made.items) c.as_slice.ensures.value c.in_ok-passed.ensures))
    c.in_ok-first.ensures.sum refl refl refl refl refl
