-- One part more, and then all of them.
use Rattle.std.proofs.Common.{◌≡◌, ◌+◌, suc, length, Some, arith, refl, subst}
use Rattle.std.specs.Prelude.{slice_get}
use Rattle.std.proofs.lemmas.Option.{slice_get_read}
use Rattle.lrp_model.specs.DataTexts.{IsDomain}
use Rattle.lrp_model.proofs.Ascending.{all_at}
use Rattle.lrp_store.proofs.Held.{Contains-from_get}
use Rattle.lrp_answers.specs.declared.answer.Answer.{Answer}
use Rattle.lrp_outputs.specs.PartLeasts.{IsLeastUpTo}
use Rattle.lrp_outputs.specs.declared.least.PartLeast.{PartLeast}
use Rattle.lrp_outputs.proofs.PartLeasts.{next, none_yet, place_low}
use Rattle.lrp_outputs.proofs.least.least_part.Goals as goal

pub loop-part-init : goal.loop-part-init
loop-part-init c = record { place = c.requires.some; least = none_yet c.args.parts.now 0 }

pub loop-part-preserved : goal.loop-part-preserved
loop-part-preserved c =
    let parts = c.args.parts.now in
    let n = c.loop-part.part in
    let part = c.index-parts-part.result in
    let here : slice_get parts n ≡ Some part = slice_get_read parts (length parts) n part refl c.loop-part-test.true c.index-parts-part.is in
    let known : IsDomain part.domain = all_at (λ (a : Answer). IsDomain a.domain) parts part c.requires.domains (Contains-from_get parts n part here) in
    let own : PartLeast = record { part = n; least = c.least.result } in
    let more : suc n ≡ n + 1 = omega arith in
    record {
      place = place_low parts n c.loop-part.found own c.nearer-found.result c.loop-part-test.true refl c.loop-part.invariant.place c.nearer-found.ensures.one;
      least = subst (λ k. IsLeastUpTo parts k c.nearer-found.result) more
          (next parts c.requires.alike n part here known.ascends c.loop-part.found own c.nearer-found.result refl c.loop-part.invariant.least c.least.ensures.none c.least.ensures.some c.nearer-found.ensures.one c.nearer-found.ensures.first c.nearer-found.ensures.second);
    }

pub returns-clause-least : goal.returns-clause-least
returns-clause-least c =
    let all : c.loop-part.part ≡ length c.args.parts.now = omega (arith, c.loop-part-test.false, c.loop-part.auto.part-end) in
    subst (λ n. IsLeastUpTo c.args.parts.now n c.loop-part.found) all c.loop-part.invariant.least
