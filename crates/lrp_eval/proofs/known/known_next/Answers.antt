-- What is known of all is known of the one that is found.
use Rattle.lrp_eval.specs.Known.{IsKnownPart}
use Rattle.lrp_eval.proofs.Named.{all_of}
use Rattle.lrp_eval.proofs.known.known_next.Goals as goal

pub known_part-requires-clause-known : goal.known_part-requires-clause-known
known_part-requires-clause-known c = λ planned q h. all_of (IsKnownPart planned c.args.resumed.now.database.now q c.args.setting.now.cap) c.args.resumed.now.known.now c.in-Some.known.now (c.requires planned q h) c.in-Some.ensures.held
