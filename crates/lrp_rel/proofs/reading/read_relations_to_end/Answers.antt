use Rattle.std.proofs.Common.{[], refl}
use Rattle.std.proofs.lemmas.Result.{err_from_is_err_and}
use Rattle.lrp_text.specs.Parsers.{until_from}
use Rattle.lrp_text.specs.Taking.{is_end, expect_end}
use Rattle.lrp_rel.specs.Rules.{relation, database}
use Rattle.lrp_text.proofs.Turns.{lifts}
use Rattle.lrp_rel.proofs.reading.read_relations_to_end.Goals as goal

pub returns-in_err-gathered : goal.returns-in_err-gathered
unfolding database
returns-in_err-gathered c = λ n lt.
    let p = err_from_is_err_and c.from_residual.result c.from_residual.ensures.1 in
    rw (p.1, p.2) (lifts (until_from (relation n) is_end n [] c.args.tokens.now) (database n c.args.tokens.now) c.read_relations.new.tokens c.in_err-gathered.field-0.0 (λ j e. rw e refl) (c.in_err-gathered.ensures n lt))

pub returns-in_err-expect_end : goal.returns-in_err-expect_end
unfolding database
returns-in_err-expect_end c = λ n lt.
    let p = err_from_is_err_and c.from_residual-in_err-expect_end.result c.from_residual-in_err-expect_end.ensures.1 in
    let read = (c.in_ok-gathered.ensures n lt).read in
    rw (p.1, p.2) (lifts (expect_end c.read_relations.new.tokens) (database n c.args.tokens.now) c.read_relations.new.tokens c.in_err-expect_end.field-0.0 (λ j e. rw (read, e) refl) c.in_err-expect_end.ensures.value)

pub returns : goal.returns
unfolding database
returns c = λ n lt.
    let relations = c.in_ok-gathered.ensures n lt in
    record { value = relations.value; read = rw (relations.read, c.in_ok-expect_end.ensures.value) refl; stands = relations.stands }
