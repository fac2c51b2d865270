use Rattle.std.proofs.Common.{ap, sym, subst}
use Rattle.lrp_model.specs.RawQueries.{HasNoOperator, raw_form_of}
use Rattle.lrp_wide.specs.Inside.{IsWrittenIn}
use Rattle.lrp_wide.proofs.inlining.written_in_place.Goals as goal

pub write_out-requires-clause-plain : goal.write_out-requires-clause-plain
write_out-requires-clause-plain c = subst (λ q. HasNoOperator (raw_form_of q.1)) (sym c.into_parts-head.ensures) c.requires.plain

pub returns-clause-body : goal.returns-clause-body
returns-clause-body c = subst (λ q. IsWrittenIn c.args.scene.now (raw_form_of q.1) (raw_form_of c.write_out.new.f)) c.into_parts-head.ensures c.in_ok-write_out.ensures
