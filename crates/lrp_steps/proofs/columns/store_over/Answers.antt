-- A store that was just begun is one.
use Rattle.std.proofs.Common.{◌≤◌, subst, sym}
use Rattle.lrp_store.proofs.Listed.{word_abs}
use Rattle.lrp_tables.proofs.Passing.{begun_by}
use Rattle.lrp_steps.proofs.columns.store_over.Goals as goal

pub returns-clause-valid : goal.returns-clause-valid
returns-clause-valid c =
    begun_by c.new.result (record { times = c.len.result; texts = c.len-2.result }) _ c.args.period c.new.ensures (word_abs c.args.period c.requires.low c.requires.high) (subst (λ n. n ≤ 8) (sym c.len.ensures) c.requires.times) (subst (λ n. n ≤ 8) (sym c.len-2.ensures) c.requires.texts) c.requires.low c.requires.high
