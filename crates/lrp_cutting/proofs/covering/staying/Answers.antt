-- One more zone stays or is left out.
use Rattle.std.proofs.Common.{◌≡◌, ◌+◌, arith, length, sym, subst, ◌∙◌}
use Rattle.lrp_cutting.proofs.CoverLaws.{AreKeptOf, kept_all, kept_more, kept_none, kept_same}
use Rattle.lrp_cutting.proofs.NearLaws.{read_at}
use Rattle.lrp_cutting.proofs.covering.staying.Goals as goal
use Rattle.lrp_cutting.proofs.covering.staying.Goals.{then-not-is_out+in_ok-push, else-not-is_out}

pub loop-place-preserved : goal.loop-place-preserved
loop-place-preserved c = elim c.if-not-is_out.branch [
  | then-not-is_out+in_ok-push w ↦ subst (AreKeptOf c.args.zones.now c.args.out.now (c.loop-place.place + 1)) (sym (w.kept-is ∙ w.in_ok-push.ensures.ok))
      (kept_more c.args.zones.now c.args.out.now c.requires.out c.loop-place.place c.loop-place.kept c.loop-place.invariant w.index-zones-place.result
      (record { is = read_at c.args.zones.now c.loop-place.place w.index-zones-place.result c.loop-place-test.true w.index-zones-place.is; stays = λ e. cc (c.is_out.ensures.1 e, w.if-not-is_out.true) }))
  | else-not-is_out w ↦ subst (AreKeptOf c.args.zones.now c.args.out.now (c.loop-place.place + 1)) (sym w.kept-is)
      (kept_same c.args.zones.now c.args.out.now c.requires.out c.loop-place.place c.loop-place.kept c.loop-place.invariant (c.is_out.ensures.0 w.if-not-is_out.false))
]

pub returns : goal.returns
returns c =
    let all : c.loop-place.place ≡ length c.args.zones.now = omega (arith, c.loop-place-test.false, c.loop-place.auto) in
    kept_all c.args.zones.now c.args.out.now c.loop-place.kept c.requires.zones c.requires.out (subst (λ n. AreKeptOf c.args.zones.now c.args.out.now n c.loop-place.kept) all c.loop-place.invariant)
