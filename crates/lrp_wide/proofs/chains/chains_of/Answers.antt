use Rattle.std.proofs.Common.{◌≡◌, ◌<◌, ◌+◌, ◌++◌, [], ◌∷◌, Some, length, slice_get, ap, refl, sym, subst, ◌∙◌, arith}
use Rattle.std.proofs.lemmas.List.{length-append}
use Rattle.std.proofs.lemmas.Option.{slice_get_read}
use Rattle.lrp_wide.specs.Chains.{AreChains, IsChainIfAny}
use Rattle.lrp_wide.proofs.ChainBodies.{chains-more, no-chains}
use Rattle.lrp_wide.proofs.chains.chains_of.Goals as goal

pub loop-text-init : goal.loop-text-init
loop-text-init c = (ap length c.in_ok-chains.ensures.items, subst (AreChains c.args.definitions.now c.args.texts.now) (sym c.in_ok-chains.ensures.items) (no-chains c.args.definitions.now c.args.texts.now))

pub loop-text-preserved : goal.loop-text-preserved
loop-text-preserved c =
    let d = c.args.definitions.now in
    let xs = c.args.texts.now in
    let i = c.loop-text.text-index in
    let x = c.text-item.result in
    let old = c.loop-text.chains.items in
    let long = c.loop-text.invariant.0 in
    let before : c.as_slice.result.now ≡ old = c.as_slice.ensures.value in
    let at : slice_get xs (length c.as_slice.result.now) ≡ Some x = ap (λ l. slice_get xs (length l)) before ∙ ap (slice_get xs) long ∙ slice_get_read xs (length xs) i x refl c.loop-text-test.true c.text-item.is in
    let own : IsChainIfAny d xs (length old) c.in_ok-chain.chain =
    subst (λ l. IsChainIfAny d xs (length l) c.in_ok-chain.chain) before (c.in_ok-chain.ensures xs x (subst (AreChains d xs) (sym before) c.loop-text.invariant.1) at refl) in
    (ap length c.in_ok-push.ensures.items ∙ length-append old (c.in_ok-chain.chain ∷ []) ∙ ap (λ n. n + 1) long, subst (AreChains d xs) (sym c.in_ok-push.ensures.items) (chains-more d xs old c.in_ok-chain.chain c.loop-text.invariant.1 own))
