use Rattle.std.proofs.Common.{[], sym}
use Rattle.lrp_keep.proofs.Taking.{nothing_of, taken_of}
use Rattle.lrp_keep.proofs.unions.add_answers.Goals as goal

pub add_all-requires-clause-valid : goal.add_all-requires-clause-valid
add_all-requires-clause-valid c = c.requires.valid

pub add_all-requires-clause-like : goal.add_all-requires-clause-like
add_all-requires-clause-like c = c.requires.each [] c.in-Some.store (record { is = sym c.in-Some.is })

pub returns-in-Some : goal.returns-in-Some
returns-in-Some c = taken_of c.add_all.result c.args.answers.now c.in-Some.store c.args.out.now c.add_all.new.out c.in-Some.is c.add_all.ensures

pub returns-in-None : goal.returns-in-None
returns-in-None c = nothing_of c.args.answers.now c.args.out.now c.in-None.is c.requires.valid
