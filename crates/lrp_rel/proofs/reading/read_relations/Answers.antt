use Rattle.std.proofs.Common.{◌≡◌, ◌∙◌, ap, arith, length, List, Ok, true, false, ◌<◌}
use Rattle.std.proofs.lemmas.Result.{err_from_is_err_and}
use Rattle.lrp_model.specs.declared.written.RawRelation.{RawRelation}
use Rattle.lrp_text.specs.Parsers.{look}
use Rattle.lrp_text.specs.Taking.{is_end}
use Rattle.lrp_rel.specs.Rules.{relation}
use Rattle.lrp_rel.specs.Gathered.{AreRelationsGathered}
use Rattle.lrp_rel.proofs.KeptTurns.{turn_starts, turn_ends, turn_goes, turn_fails}
use Rattle.lrp_rel.proofs.reading.read_relations.Goals as goal

pub returns-then-sees_end : goal.returns-then-sees_end
returns-then-sees_end c = λ turns lt.
    let ends : look false is_end c.relations.tokens ≡ Ok (true, c.relations.tokens) = c.sees_end.ensures ∙ ap (λ b. Ok (b, c.relations.tokens)) c.if-sees_end.true in
    turn_ends (relation turns) is_end AreRelationsGathered turns c.args.tokens.now c.relations.tokens c.relations.gathered (c.relations.invariant.same turns lt) ends

pub returns-in_err-meaning : goal.returns-in_err-meaning
returns-in_err-meaning c = λ turns lt.
    let p = err_from_is_err_and c.from_residual.result c.from_residual.ensures.1 in
    let goes : look false is_end c.relations.tokens ≡ Ok (false, c.relations.tokens) = c.sees_end.ensures ∙ ap (λ b. Ok (b, c.relations.tokens)) c.if-sees_end.false in
    let less : length c.relations.tokens < turns = omega (arith, c.relations.invariant.shorter, lt) in
    rw (p.1, p.2) (turn_fails (relation turns) is_end AreRelationsGathered turns c.args.tokens.now c.relations.tokens c.read_relation.new.tokens c.relations.gathered c.in_err-meaning.field-0.0 (c.relations.invariant.same turns lt) goes (c.in_err-meaning.ensures.value turns less))

pub relations-preserved : goal.relations-preserved
relations-preserved c = record {
  same = λ turns lt.
      let goes : look false is_end c.relations.tokens ≡ Ok (false, c.relations.tokens) = c.sees_end.ensures ∙ ap (λ b. Ok (b, c.relations.tokens)) c.if-sees_end.false in
      let less : length c.relations.tokens < turns = omega (arith, c.relations.invariant.shorter, lt) in
      let one = c.in_ok-meaning.ensures.value turns less in
      turn_goes (relation turns) is_end AreRelationsGathered turns c.args.tokens.now c.relations.tokens c.read_relation.new.tokens c.relations.gathered c.keep.new.self one.value
      (c.relations.invariant.same turns lt) goes one.read c.in_ok-meaning.ensures.fewer (λ (found : List RawRelation). c.in_ok-keep.ensures found one.value one.stands);
  shorter = omega (arith, c.relations.invariant.shorter, c.in_ok-meaning.ensures.fewer);
}

pub relations-init : goal.relations-init
relations-init c = record {
  same = λ turns lt. turn_starts (relation turns) is_end AreRelationsGathered turns c.args.tokens.now c.new-gathered.result lt c.new-gathered.ensures;
  shorter = omega arith;
}
