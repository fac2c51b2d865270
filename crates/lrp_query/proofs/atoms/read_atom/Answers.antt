use Rattle.std.proofs.Common.{refl}
use Rattle.std.proofs.lemmas.Result.{err_from_is_err_and}
use Rattle.lrp_model.specs.declared.tokens.Symbol.TheVariants.{Close, Comma}
use Rattle.lrp_text.specs.Parsers.{listed}
use Rattle.lrp_text.specs.Taking.{is_symbol}
use Rattle.lrp_text.proofs.Turns.{lifts}
use Rattle.lrp_query.specs.Rules.{raw_terms, argument, atom_terms}
use Rattle.lrp_query.specs.Grammars.{meant}
use Rattle.lrp_query.proofs.atoms.read_atom.Goals as goal

pub returns-in_err-terms-clause-value : goal.returns-in_err-terms-clause-value
unfolding atom_terms
returns-in_err-terms-clause-value c = λ n lt.
    let p = err_from_is_err_and c.from_residual.result c.from_residual.ensures.1 in
    rw (p.1, p.2) (lifts (listed (argument c.args.wide raw_terms) (is_symbol Comma) (is_symbol Close) n c.args.tokens.now) (atom_terms c.args.wide meant n c.args.relation c.args.place c.args.tokens.now) c.read_terms.new.tokens c.in_err-terms.field-0.0 (λ j e. rw e refl) (c.in_err-terms.ensures.value n lt))
