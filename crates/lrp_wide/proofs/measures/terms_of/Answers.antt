use Rattle.std.proofs.Common.{◌≡◌, ◌<◌, ◌≤◌, ◌+◌, min, cond, length, take, ap, sym, ◌∙◌, arith}
use Rattle.std.proofs.lemmas.List.{length-take, take_all}
use Rattle.lrp_wide.specs.Meaning.{is_star}
use Rattle.lrp_wide.specs.Inlining.{star_total}
use Rattle.lrp_wide.specs.Sizes.{compared_total, is_compared}
use Rattle.lrp_wide.proofs.MeasureTerms.{compared_begin, compared_end, compared_more, one_at_most, stars_begin, stars_end, stars_more}
use Rattle.lrp_wide.proofs.measures.terms_of.Goals as goal

pub loop-term-init : goal.loop-term-init
loop-term-init c = record { stars = sym (stars_begin c.args.columns.now); compared = sym (compared_begin c.args.columns.now); few = omega arith }

pub loop-term-preserved : goal.loop-term-preserved
loop-term-preserved c =
    let cs = c.args.columns.now in
    let ts = take c.min.result c.args.terms.now in
    let i = c.loop-term.term-index in
    let t = c.term-item.result in
    let long : length ts ≡ min c.min.result (length c.args.terms.now) = length-take c.min.result c.args.terms.now in
    let within : i < length ts = omega (arith, c.loop-term-test.true) in
    let below : i < length cs = omega (arith, within, long, c.min.ensures) in
    record {
      stars = c.with-found.ensures.stars ∙ ap (λ n. n + cond (is_star t) 1 0) c.loop-term.invariant.stars ∙ sym (stars_more cs ts i t below within c.term-item.is);
      compared = c.with-found.ensures.compared ∙ ap (λ n. n + cond (is_compared t) 1 0) c.loop-term.invariant.compared ∙ sym (compared_more cs ts i t below within c.term-item.is);
      few = omega (arith, one_at_most t, c.loop-term.invariant.few, c.with-found.ensures.stars, c.with-found.ensures.compared);
    }

pub returns : goal.returns
returns c =
    let cs = c.args.columns.now in
    let ts = take c.min.result c.args.terms.now in
    let all : take c.loop-term.term-index ts ≡ ts = take_all c.loop-term.term-index ts (omega (arith, c.loop-term-test.false)) in
    let least : c.min.result ≡ min (length c.args.terms.now) (length cs) = c.min.ensures in
    record {
      stars = c.loop-term.invariant.stars ∙ ap (star_total cs) all ∙ stars_end cs c.args.terms.now c.min.result least;
      compared = c.loop-term.invariant.compared ∙ ap (compared_total cs) all ∙ compared_end cs c.args.terms.now c.min.result least;
    }
