-- The bytes of a number are read back.
use Rattle.std.proofs.Common.{SFits, rules, ap, of_z, ◌∙◌}
use Rattle.std.proofs.lemmas.Int.{to_z-of_z}
use Rattle.std.specs.Int.{w64, to_le_bytes}
use Rattle.lrp_store.specs.Stored.{placed}
use Rattle.lrp_store.proofs.Listed.{bytes_back}
use Rattle.lrp_store.proofs.stored.Entry.at.Goals as goal

pub returns : goal.returns
returns c =
    let fits : SFits w64 c.args.most = search rules in
    ap (placed c.args.place) (bytes_back c.args.most fits _ (c.to_le_bytes.ensures ∙ ap (λ m. to_le_bytes w64 (of_z w64 m)) (to_z-of_z w64 c.args.most fits)))
