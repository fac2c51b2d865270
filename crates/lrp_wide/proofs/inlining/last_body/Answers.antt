use Rattle.lrp_wide.proofs.inlining.last_body.Goals as goal

pub returns : goal.returns
returns c = record { named = c.requires.named; same = λ file around form h. h }
