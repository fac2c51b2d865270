use Rattle.std.proofs.Common.{◌≡◌, ◌≤◌, List, ℕ, length, subst, sym, rules}
use Rattle.lrp_sample.specs.Texts.{sample_database}
use Rattle.lrp_sample.proofs.Lengths.{database_short}
use Rattle.lrp_sample.proofs.texts.sample_texts.Goals as goal

pub returns-clause-database_short : goal.returns-clause-database_short
returns-clause-database_short c =
    let e : c.from_vec.result ≡ sample_database c.args.seed c.args.size = search rules in
    let P : List ℕ → Type 0 = λ l. length l ≤ 16777216 in
    subst P (sym e) (database_short c.args.seed c.args.size c.requires.size)
