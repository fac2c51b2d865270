-- The row's key is let go in each disjunct.
use Rattle.std.proofs.Common.{◌≡◌, ◌<◌, length, refl, sym, subst, arith}
use Rattle.std.proofs.lemmas.List.{length-set}
use Rattle.std.proofs.lemmas.Option.{slice_get_read}
use Rattle.lrp_kept.specs.Keyed.{IsLetGoAt}
use Rattle.lrp_parts.proofs.Parted.{set_here, set_there}
use Rattle.lrp_keep.proofs.EachDerived.{AreLetGoBelow, all_let_go, none_let_go, one_let_go}
use Rattle.lrp_keep.proofs.states.State.let_go.Goals as goal

pub loop-number-init : goal.loop-number-init
loop-number-init c = record { released = none_let_go c.let_go-key.result c.args.self.now.derived.items; rows = refl; period = refl }

pub index_mut-requires : goal.index_mut-requires
index_mut-requires c = omega (arith, c.loop-number-test.true, c.loop-number.invariant.released.size, c.args.self.now.derived.ok.0, c.loop-number.self.derived.ok.0)

pub loop-number-preserved : goal.loop-number-preserved
loop-number-preserved c =
    let low : c.loop-number.number < length c.loop-number.self.derived.items = omega (arith, c.loop-number-test.true, c.loop-number.invariant.released.size, c.args.self.now.derived.ok.0) in
    record {
      released = one_let_go c.let_go-key.result c.loop-number.number c.args.self.now.derived.items c.loop-number.self.derived.items _ c.index_mut.result.now c.release.new.self
          (slice_get_read c.loop-number.self.derived.items (length c.loop-number.self.derived.items) c.loop-number.number c.index_mut.result.now refl low c.index_mut.ensures.value)
          (set_here c.loop-number.self.derived.items c.loop-number.number c.release.new.self low)
          c.release.ensures
          (λ i n. set_there c.loop-number.self.derived.items c.loop-number.number i c.release.new.self n)
          (length-set c.loop-number.self.derived.items c.loop-number.number c.release.new.self)
          c.loop-number.invariant.released;
      rows = c.loop-number.invariant.rows;
      period = c.loop-number.invariant.period;
    }

pub returns : goal.returns
returns c =
    let all : c.loop-number.number ≡ length c.args.self.now.derived.items = omega (arith, c.loop-number-test.false, c.args.self.now.derived.ok.0) in
    record {
      key = c.let_go-key.result;
      rows = subst (λ r. IsLetGoAt c.args.relation c.args.place c.let_go-key.result c.args.self.now.rows r) (sym c.loop-number.invariant.rows) c.let_go-key.ensures;
      period = c.loop-number.invariant.period;
      count = c.loop-number.invariant.released.size;
      released = all_let_go c.let_go-key.result c.args.self.now.derived.items c.loop-number.self.derived.items (subst (λ n. AreLetGoBelow c.let_go-key.result n c.args.self.now.derived.items c.loop-number.self.derived.items) all c.loop-number.invariant.released);
    }
