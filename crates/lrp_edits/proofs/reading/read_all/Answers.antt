use Rattle.std.proofs.Common.{◌≡◌, ◌∙◌, ap, arith, length, List, Ok, true, false, ◌<◌}
use Rattle.std.proofs.lemmas.Result.{err_from_is_err_and}
use Rattle.lrp_text.specs.Parsers.{look}
use Rattle.lrp_text.specs.Taking.{is_end}
use Rattle.lrp_edits.specs.declared.edits.RawEdit.{RawEdit}
use Rattle.lrp_edits.specs.EditRules.{edit}
use Rattle.lrp_edits.specs.EditGathered.{AreEditsOf}
use Rattle.lrp_rel.proofs.KeptTurns.{turn_starts, turn_ends, turn_goes, turn_fails}
use Rattle.lrp_edits.proofs.EditLemmas.{one_more}
use Rattle.lrp_edits.proofs.reading.read_all.Goals as goal

pub returns-then-sees_end : goal.returns-then-sees_end
returns-then-sees_end c = λ turns lt.
    let ends : look false is_end c.edits.tokens ≡ Ok (true, c.edits.tokens) = c.sees_end.ensures ∙ ap (λ b. Ok (b, c.edits.tokens)) c.if-sees_end.true in
    turn_ends (edit turns) is_end (AreEditsOf c.args.database.now) turns c.args.tokens.now c.edits.tokens c.edits.kept (c.edits.invariant.same turns lt) ends

pub returns-in_err-edit : goal.returns-in_err-edit
returns-in_err-edit c = λ turns lt.
    let p = err_from_is_err_and c.from_residual.result c.from_residual.ensures.1 in
    let goes : look false is_end c.edits.tokens ≡ Ok (false, c.edits.tokens) = c.sees_end.ensures ∙ ap (λ b. Ok (b, c.edits.tokens)) c.if-sees_end.false in
    let less : length c.edits.tokens < turns = omega (arith, c.edits.invariant.shorter, lt) in
    rw (p.1, p.2) (turn_fails (edit turns) is_end (AreEditsOf c.args.database.now) turns c.args.tokens.now c.edits.tokens c.read_edit.new.tokens c.edits.kept c.in_err-edit.field-0.0 (c.edits.invariant.same turns lt) goes (c.in_err-edit.ensures.value turns less))

pub edits-preserved : goal.edits-preserved
edits-preserved c = record {
  same = λ turns lt.
      let goes : look false is_end c.edits.tokens ≡ Ok (false, c.edits.tokens) = c.sees_end.ensures ∙ ap (λ b. Ok (b, c.edits.tokens)) c.if-sees_end.false in
      let less : length c.edits.tokens < turns = omega (arith, c.edits.invariant.shorter, lt) in
      turn_goes (edit turns) is_end (AreEditsOf c.args.database.now) turns c.args.tokens.now c.edits.tokens c.read_edit.new.tokens c.edits.kept c.keep.new.self c.in_ok-edit.edit
      (c.edits.invariant.same turns lt) goes (c.in_ok-edit.ensures.value turns less) c.in_ok-edit.ensures.fewer (λ (found : List RawEdit). one_more c.args.database.now found c.in_ok-edit.edit c.edits.kept c.keep.new.self c.in_ok-keep.ensures);
  shorter = omega (arith, c.edits.invariant.shorter, c.in_ok-edit.ensures.fewer);
}

pub edits-init : goal.edits-init
edits-init c = record {
  same = λ turns lt. turn_starts (edit turns) is_end (AreEditsOf c.args.database.now) turns c.args.tokens.now c.new-kept.result lt (c.new-kept.ensures c.args.database.now);
  shorter = omega arith;
}
