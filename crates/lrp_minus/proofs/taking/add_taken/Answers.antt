-- With no residue chosen, the branch is the whole zone.
use Rattle.std.proofs.Common.{ℕ, [], ◌∷◌, ◌-◌, ◌+◌, ◌*◌, ◌^◌, ◌<◌, ◌≤◌, take, refl, ap, subst, sym, ◌∙◌, arith}
use Rattle.std.specs.Prelude.{All, length, pos, replicate, slice_index_or}
use Rattle.lrp_zone.specs.Zones.{reach_of}
use Rattle.lrp_store.specs.Growing.{IsTupleOf}
use Rattle.lrp_store.specs.Stores.{IsInhabitedCell}
use Rattle.lrp_systems.specs.Frames.{IsFrame}
use Rattle.lrp_systems.specs.Parts.{Fits, system_reach}
use Rattle.lrp_systems.proofs.LoneZones.{lone_fits, lone_within}
use Rattle.lrp_cutting.proofs.Lists.{on_ok}
use Rattle.lrp_minus.specs.Counts.{most_by}
use Rattle.lrp_minus.proofs.Growth.{grows_not}
use Rattle.lrp_minus.proofs.PartCounts.{whole_few}
use Rattle.lrp_minus.proofs.TakingLaws.{none_left, whole_added, whole_refused, whole_within}
use Rattle.lrp_minus.proofs.taking.add_taken.Goals as goal

pub of-requires-clause-fits : goal.of-requires-clause-fits
of-requires-clause-fits c =
    let two : 2 * c.args.out.now.period ≤ 2 ^ 62 = c.requires.cut.period in
    let far : reach_of c.args.zone.now ≤ 2 ^ 62 - 2 * c.args.out.now.period = c.requires.split.reach in
    subst (λ n. All (Fits n c.period_of.result) (c.in_order.result ∷ [])) (sym (c.from-times.ensures ∙ ap (λ h. h.times) c.shape.ensures.value)) (subst (λ k. All (Fits c.args.out.now.shape.times k) (c.in_order.result ∷ [])) (sym c.period_of.ensures.value) (lone_fits c.args.zone.now c.in_order.result c.in_order.ensures.zone c.args.out.now c.shape.ensures.valid c.in_order.ensures.whole c.requires.split.columns c.requires.split.multiple (omega arith)))

pub returns-in_default-clause-ok : goal.returns-in_default-clause-ok
returns-in_default-clause-ok c = λ high l r. none_left c.args.zone.now c.in_order.result c.in_order.ensures.zone c.args.out.now c.shape.ensures.valid c.in_order.ensures.whole c.requires.split.columns c.args.difference.now.places.now c.args.difference.now.right.now (take c.args.out.now.shape.texts c.args.texts.now) c.args.difference.now.cap (high + 2 * c.args.out.now.period) c.in_default.ensures.none

pub add_part-requires-clause-taking : goal.add_part-requires-clause-taking
add_part-requires-clause-taking c =
    let two : 2 * c.args.out.now.period ≤ 2 ^ 62 = c.requires.cut.period in
    let far : reach_of c.args.zone.now ≤ 2 ^ 62 - 2 * c.args.out.now.period = c.requires.split.reach in
    let low : 0 < c.args.out.now.period = c.shape.ensures.valid.period_low in
    let within : system_reach c.args.out.now.period (c.in_order.result ∷ []) ≤ reach_of c.args.zone.now + (c.args.out.now.period - 1) = lone_within c.args.zone.now c.in_order.result c.in_order.ensures.zone c.args.out.now c.shape.ensures.valid c.in_order.ensures.whole c.requires.split.columns in
    record {
      store = c.requires.store;
      fits = lone_fits c.args.zone.now c.in_order.result c.in_order.ensures.zone c.args.out.now c.shape.ensures.valid c.in_order.ensures.whole c.requires.split.columns c.requires.split.multiple (omega arith);
      frame = subst (λ n. IsFrame (c.in_order.result ∷ []) n c.args.out.now.period c.in-Some.frame) (c.from-times.ensures ∙ ap (λ h. h.times) c.shape.ensures.value) (subst (λ k. IsFrame (c.in_order.result ∷ []) c.from-times.result k c.in-Some.frame) c.period_of.ensures.value c.in-Some.ensures.some);
      order = c.in-Some.ensures.numbered refl;
      last = subst (λ ps. (i : ℕ) → i < length ps → slice_index_or ps i 0 ≤ c.last_of.result) c.as_slice.ensures c.last_of.ensures;
      reach = omega arith;
      cut = c.requires.cut;
    }

pub returns-clause-ok : goal.returns-clause-ok
returns-clause-ok c =
    on_ok _ _ c.add_part.result (λ a high l r. whole_added c.args.zone.now c.in_order.result c.in_order.ensures.zone c.args.out.now c.shape.ensures.valid c.in_order.ensures.whole c.requires.split.columns _ refl _ c.args.texts.now refl c.args.difference.now.cap (high + 2 * c.args.out.now.period) c.add_part.new.out (a high (whole_within c.args.zone.now c.in_order.result c.in_order.ensures.zone c.args.out.now c.shape.ensures.valid c.in_order.ensures.whole c.requires.split.columns _ refl high c.shape.ensures.valid.period_low l r))) c.add_part.ensures.ok

pub returns-clause-refused : goal.returns-clause-refused
returns-clause-refused c = λ e high l r. whole_refused c.args.zone.now c.in_order.result c.in_order.ensures.zone c.args.out.now c.shape.ensures.valid c.in_order.ensures.whole c.requires.split.columns _ refl _ c.args.texts.now refl c.args.difference.now.cap (high + 2 * c.args.out.now.period) c.add_part.new.out (c.add_part.ensures.refused e high (whole_within c.args.zone.now c.in_order.result c.in_order.ensures.zone c.args.out.now c.shape.ensures.valid c.in_order.ensures.whole c.requires.split.columns _ refl high c.shape.ensures.valid.period_low l r))

pub returns-in_default-clause-few : goal.returns-in_default-clause-few
returns-in_default-clause-few c = λ n at. grows_not (IsInhabitedCell c.args.out.now.shape c.args.out.now.period (IsTupleOf c.args.zone.now (take c.args.out.now.shape.texts c.args.texts.now))) (λ inhabited. most_by c.args.out.now.shape.times n) c.args.out.now

pub returns-clause-few : goal.returns-clause-few
returns-clause-few c =
    on_ok _ _ c.add_part.result (whole_few c.args.zone.now c.in_order.result c.in_order.ensures.zone c.args.out.now c.shape.ensures.valid c.in_order.ensures.whole c.requires.split.columns c.in-Some.frame.order c.args.difference.now.right.now (record { texts = c.args.texts.now; residues = replicate 8 (pos 0) }) c.add_part.new.out) c.add_part.ensures.few
