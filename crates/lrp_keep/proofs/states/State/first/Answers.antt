-- The first answers of the disjuncts are compared one after another.
use Rattle.std.proofs.Common.{◌≡◌, ◌<◌, Some, length, get_or, refl, subst, ap, arith}
use Rattle.std.specs.Prelude.{slice_get}
use Rattle.std.proofs.lemmas.Option.{slice_get_read}
use Rattle.lrp_model.proofs.Everywhere.{map_count}
use Rattle.lrp_steps.proofs.Steps.{mapped_get}
use Rattle.lrp_parts.specs.declared.derivation.Derived.{Derived}
use Rattle.lrp_parts.specs.Firsts.{IsFirstOfHeld}
use Rattle.lrp_keep.specs.States.{levels_of}
use Rattle.lrp_keep.specs.Unions.{HoldsAmong}
use Rattle.lrp_keep.proofs.FirstAmong.{first_more, first_start}
use Rattle.lrp_keep.proofs.states.State.first.Goals as goal

pub loop-derived-init : goal.loop-derived-init
loop-derived-init c = first_start (levels_of c.args.self.now)

pub loop-derived-preserved : goal.loop-derived-preserved
loop-derived-preserved c =
    let low : c.loop-derived.derived-index < length c.args.self.now.derived.items = subst (λ xs. c.loop-derived.derived-index < length xs) c.deref-derived-items.ensures.value c.loop-derived-test.true in
    let is : c.derived-item.result ≡ get_or c.args.self.now.derived.items c.loop-derived.derived-index c.derived-item.result = subst (λ xs. c.derived-item.result ≡ get_or xs c.loop-derived.derived-index c.derived-item.result) c.deref-derived-items.ensures.value c.derived-item.is in
    let there : slice_get (levels_of c.args.self.now) c.loop-derived.derived-index ≡ Some c.derived-item.result.levels.items = mapped_get (λ (d : Derived). d.levels.items) c.args.self.now.derived.items c.loop-derived.derived-index c.derived-item.result (slice_get_read c.args.self.now.derived.items (length c.args.self.now.derived.items) c.loop-derived.derived-index c.derived-item.result refl low is) in
    first_more (levels_of c.args.self.now) c.loop-derived.derived-index c.derived-item.result.levels.items c.loop-derived.first c.first.result c.nearer-first.result there c.loop-derived.invariant c.first.ensures c.nearer-first.ensures.is c.nearer-first.ensures.one c.nearer-first.ensures.other

pub returns : goal.returns
returns c =
    let own : length c.deref-derived-items.result.now ≡ length c.args.self.now.derived.items = ap length c.deref-derived-items.ensures.value in
    let all : length (levels_of c.args.self.now) ≡ length c.args.self.now.derived.items = map_count (λ (d : Derived). d.levels.items) c.args.self.now.derived.items in
    let end : c.loop-derived.derived-index ≡ length (levels_of c.args.self.now) = omega (arith, own, all, c.loop-derived-test.false, c.loop-derived.auto.derived-index-end) in
    subst (λ n. IsFirstOfHeld (HoldsAmong (levels_of c.args.self.now) n) c.loop-derived.first) end c.loop-derived.invariant
