-- Each edit is made, and the least answer told after it.
use Rattle.std.proofs.Common.{◌+◌, Option, slice_get, sym, subst}
use Rattle.lrp_edits.specs.declared.edits.Edit.{Edit}
use Rattle.lrp_watch.specs.Keeping.{IsKeptOver}
use Rattle.lrp_watch.proofs.ChangedRows.{kept_next}
use Rattle.lrp_watch.proofs.KeptParts.{edit_read, got}
use Rattle.std.proofs.lemmas.Result.{err_from_is_err_and}
use Rattle.lrp_model.specs.Domains.{constants}
use Rattle.lrp_model.specs.Formulas.{question_of}
use Rattle.lrp_edits.specs.EditMeaning.{IsEditOf}
use Rattle.lrp_watch.specs.Anew.{IsPassedAnew, IsPastPlan}
use Rattle.lrp_watch.specs.Decided.{CanBeDecided, HasAllTexts, HasRowTexts, HasEachText}
use Rattle.lrp_watch.specs.Faults.{IsFaultAt}
use Rattle.lrp_watch.proofs.Decisions.{none_decided, one_decided, past_at, past_first}
use Rattle.lrp_watch.proofs.Headings.{decided_still}
use Rattle.lrp_watch.proofs.KnownTexts.{constants_in, texts_still}
use Rattle.lrp_watch.proofs.Passings.{edit_at, fault_as}
use Rattle.lrp_watch.proofs.anew.Renewed.spots.Goals as goal

pub tell-requires-clause-can : goal.tell-requires-clause-can
tell-requires-clause-can c = subst (λ db. CanBeDecided db (question_of c.args.self.now.query.now)) (sym c.in_ok-held.ensures) (record { query = c.requires.can.query; points = c.requires.can.points })

pub tell-requires-clause-texts : goal.tell-requires-clause-texts
tell-requires-clause-texts c =
    let q = question_of c.args.self.now.query.now in
    let domain = c.args.self.now.domain.now in
    subst (λ db. HasEachText domain (constants db q)) (sym c.in_ok-held.ensures) (constants_in domain q c.args.edits.now c.args.database.now c.requires.texts)

pub returns-in_err-kept-clause-fault : goal.returns-in_err-kept-clause-fault
returns-in_err-kept-clause-fault c =
    let way = c.args.self.now.anew.planning in
    let q = question_of c.args.self.now.query.now in
    let cap = c.args.self.now.anew.cap in
    let p = err_from_is_err_and c.from_residual-in_err-kept.result c.from_residual-in_err-kept.ensures.1 in
    rw (p.1, p.2) (fault_as (IsFaultAt 0 (IsPastPlan way q cap c.in_ok-held.held)) (IsPassedAnew way c.args.database.now q c.args.edits.now cap)
    (λ number fault h. past_first way q cap c.args.self.now.domain.now c.args.edits.now c.args.database.now c.in_ok-held.held number fault c.in_ok-held.ensures h.0 h.1) c.in_err-kept.field-0.0 c.in_err-kept.ensures.fault)

pub loop-i-init : goal.loop-i-init
loop-i-init c = record {
  decided = none_decided c.args.self.now.anew.planning (question_of c.args.self.now.query.now) c.args.self.now.anew.cap c.args.self.now.domain.now c.args.edits.now c.args.database.now c.in_ok-held.held c.new-spots.result c.tell.new.spots c.in_ok-held.ensures (record { query = c.requires.can.query; points = c.requires.can.points }) c.requires.can.lawful
      c.new-spots.ensures c.in_ok-kept.ensures.told c.in_ok-kept.ensures.within;
  kept = subst (λ (next : Option Edit). IsKeptOver c.args.self.now.anew.cap c.in_ok-held.held next c.in_ok-kept.kept) c.first.ensures.value c.in_ok-kept.ensures.kept;
  texts = subst (λ db. HasAllTexts c.args.self.now.domain.now (question_of c.args.self.now.query.now) c.args.edits.now db) (sym c.in_ok-held.ensures) c.requires.texts;
}

pub edited-requires : goal.edited-requires
edited-requires c = edit_at (IsEditOf c.loop-i.held) c.args.edits.now c.loop-i.i c.index-edits-i.result c.loop-i.invariant.decided.lawful c.loop-i-test.true c.index-edits-i.is

pub tell-requires-in-loop-i-clause-can : goal.tell-requires-in-loop-i-clause-can
tell-requires-in-loop-i-clause-can c = decided_still c.index-edits-i.result c.loop-i.held c.in_ok-next.next (question_of c.args.self.now.query.now) c.in_ok-next.ensures c.loop-i.invariant.decided.can

pub tell-requires-in-loop-i-clause-texts : goal.tell-requires-in-loop-i-clause-texts
tell-requires-in-loop-i-clause-texts c =
    let q = question_of c.args.self.now.query.now in
    let domain = c.args.self.now.domain.now in
    let own = edit_at (λ (e : Edit). HasRowTexts domain e.row) c.args.edits.now c.loop-i.i c.index-edits-i.result c.loop-i.invariant.texts.edits c.loop-i-test.true c.index-edits-i.is in
    constants_in domain q c.args.edits.now c.in_ok-next.next (texts_still domain c.index-edits-i.result q c.args.edits.now c.loop-i.held c.in_ok-next.next own c.in_ok-next.ensures c.loop-i.invariant.texts)

pub returns-in_err-kept-2-clause-fault : goal.returns-in_err-kept-2-clause-fault
returns-in_err-kept-2-clause-fault c =
    let way = c.args.self.now.anew.planning in
    let q = question_of c.args.self.now.query.now in
    let cap = c.args.self.now.anew.cap in
    let p = err_from_is_err_and c.from_residual-in_err-kept-2.result c.from_residual-in_err-kept-2.ensures.1 in
    rw (p.1, p.2) (fault_as (IsFaultAt (c.loop-i.i + 1) (IsPastPlan way q cap c.in_ok-next.next)) (IsPassedAnew way c.args.database.now q c.args.edits.now cap)
    (λ number fault h. past_at way q cap c.args.self.now.domain.now c.loop-i.i c.args.edits.now c.args.database.now c.loop-i.held c.in_ok-next.next c.index-edits-i.result c.loop-i.spots number fault c.loop-i-test.true c.index-edits-i.is c.loop-i.invariant.decided c.in_ok-next.ensures h.0 h.1)
    c.in_err-kept-2.field-0.0 c.in_err-kept-2.ensures.fault)

pub tell-requires-in-loop-i-clause-kept : goal.tell-requires-in-loop-i-clause-kept
tell-requires-in-loop-i-clause-kept c = kept_next c.args.self.now.anew.cap c.index-edits-i.result c.loop-i.held c.in_ok-next.next (slice_get c.args.edits.now c.loop-i.i) c.loop-i.kept c.loop-i.invariant.kept (got c.args.edits.now c.loop-i.i c.index-edits-i.result c.loop-i-test.true c.index-edits-i.is) c.in_ok-next.ensures

pub loop-i-preserved : goal.loop-i-preserved
loop-i-preserved c = record {
  decided = one_decided c.args.self.now.anew.planning (question_of c.args.self.now.query.now) c.args.self.now.anew.cap c.args.self.now.domain.now c.loop-i.i c.args.edits.now c.args.database.now c.loop-i.held c.in_ok-next.next c.index-edits-i.result c.loop-i.spots c.tell-in-loop-i.new.spots c.loop-i-test.true c.index-edits-i.is c.loop-i.invariant.decided
      c.in_ok-next.ensures c.in_ok-kept-2.ensures.told c.in_ok-kept-2.ensures.within;
  kept = subst (λ (next : Option Edit). IsKeptOver c.args.self.now.anew.cap c.in_ok-next.next next c.in_ok-kept-2.kept) (edit_read c.args.edits.now (c.loop-i.i + 1) c.get.result c.get.ensures.lookup.1 c.get.ensures.lookup.3) c.in_ok-kept-2.ensures.kept;
  texts = texts_still c.args.self.now.domain.now c.index-edits-i.result (question_of c.args.self.now.query.now) c.args.edits.now c.loop-i.held c.in_ok-next.next
      (edit_at (λ (e : Edit). HasRowTexts c.args.self.now.domain.now e.row) c.args.edits.now c.loop-i.i c.index-edits-i.result c.loop-i.invariant.texts.edits c.loop-i-test.true c.index-edits-i.is) c.in_ok-next.ensures c.loop-i.invariant.texts;
}
