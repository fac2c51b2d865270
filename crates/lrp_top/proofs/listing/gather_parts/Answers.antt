-- The first part, and then one part more.
use Rattle.std.proofs.Common.{◌≡◌, ◌+◌, ◌<◌, ◌≤◌, suc, length, take, take_all, Some, arith, refl, subst}
use Rattle.std.specs.Prelude.{slice_get}
use Rattle.std.proofs.lemmas.Option.{slice_get_read}
use Rattle.lrp_model.specs.DataTexts.{IsDomain}
use Rattle.lrp_model.proofs.Ascending.{all_at}
use Rattle.lrp_store.proofs.Held.{Contains-from_get}
use Rattle.lrp_answers.specs.declared.answer.Answer.{Answer}
use Rattle.lrp_top.specs.Parts.{IsPageOfParts}
use Rattle.lrp_top.proofs.PartLemmas.{first_part, more_parts, own_rises}
use Rattle.lrp_top.proofs.listing.gather_parts.Goals as goal

pub loop-i-init : goal.loop-i-init
loop-i-init c =
    let parts = c.args.parts.now in
    let part = c.index-parts-0.result in
    let some : 0 < length parts = c.requires.parts.some in
    let here : slice_get parts 0 ≡ Some part = slice_get_read parts (length parts) 0 part refl some c.index-parts-0.is in
    record {
      low = omega arith;
      page = λ a listed. first_part parts c.requires.parts.alike c.args.paging.now c.args.after 0 part here (Contains-from_get parts 0 part here) c.in_ok-page.page c.in_ok-page.ensures.page c.in_ok-page.ensures.standing refl a listed;
    }

pub merged-requires-clause-left : goal.merged-requires-clause-left
merged-requires-clause-left c =
    let parts = c.args.parts.now in
    let p = c.args.paging.now in
    let part = c.index-parts-i.result in
    let here : slice_get parts c.loop-i.i ≡ Some part = slice_get_read parts (length parts) c.loop-i.i part refl c.loop-i-test.true c.index-parts-i.is in
    let listed = Contains-from_get parts c.loop-i.i part here in
    let known : IsDomain part.domain = all_at (λ (a : Answer). IsDomain a.domain) parts part c.requires.parts.domains listed in
    let so_far = c.loop-i.invariant.page part listed in
    own_rises part p.from p.to c.loop-i.page.spots known so_far.standing so_far.is.rises

pub merged-requires-clause-right : goal.merged-requires-clause-right
merged-requires-clause-right c =
    let parts = c.args.parts.now in
    let p = c.args.paging.now in
    let part = c.index-parts-i.result in
    let here : slice_get parts c.loop-i.i ≡ Some part = slice_get_read parts (length parts) c.loop-i.i part refl c.loop-i-test.true c.index-parts-i.is in
    let known : IsDomain part.domain = all_at (λ (a : Answer). IsDomain a.domain) parts part c.requires.parts.domains (Contains-from_get parts c.loop-i.i part here) in
    own_rises part p.from p.to c.in_ok-own.own.spots known c.in_ok-own.ensures.standing c.in_ok-own.ensures.page.rises

pub loop-i-preserved : goal.loop-i-preserved
loop-i-preserved c =
    let parts = c.args.parts.now in
    let p = c.args.paging.now in
    let i = c.loop-i.i in
    let part = c.index-parts-i.result in
    let low : i < length parts = c.loop-i-test.true in
    let here : slice_get parts i ≡ Some part = slice_get_read parts (length parts) i part refl low c.index-parts-i.is in
    let more : suc i ≡ i + 1 = omega arith in
    record {
      low = omega arith;
      page = λ a listed.
          let known : IsDomain a.domain = all_at (λ (b : Answer). IsDomain b.domain) parts a c.requires.parts.domains listed in
          subst (λ n. IsPageOfParts (take n parts) p c.args.after a c.in_ok-both.both) more
          (more_parts parts c.requires.parts.alike p c.args.after i part here (Contains-from_get parts i part here) c.in_ok-own.own c.in_ok-own.ensures.page c.in_ok-own.ensures.standing a listed known c.loop-i.page c.in_ok-both.both
          (c.loop-i.invariant.page a listed) c.in_ok-both.ensures);
    }

pub returns : goal.returns
returns c = record {
  page = λ a listed.
      let parts = c.args.parts.now in
      let all : length parts ≤ c.loop-i.i = omega (arith, c.loop-i-test.false) in
      subst (λ ps. IsPageOfParts ps c.args.paging.now c.args.after a c.loop-i.page) (take_all c.loop-i.i parts all) (c.loop-i.invariant.page a listed);
}
