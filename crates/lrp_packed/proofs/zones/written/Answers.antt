-- From the last entry to the first, each is put.
use Rattle.std.proofs.Common.{◌≡◌, ℕ, ◌+◌, ◌-◌, ap, arith, get_or, length, refl}
use Rattle.std.specs.Prelude.{pos}
use Rattle.lrp_packed.specs.Entries.{IsProper}
use Rattle.lrp_packed.specs.declared.zones.PackedEntry.{PackedEntry}
use Rattle.lrp_packed.proofs.Listed.{all_at, written_all, written_more, written_none}
use Rattle.lrp_packed.proofs.zones.written.Goals as goal

abbrev nothing : PackedEntry
nothing = record { place = 0; text = 0; time = pos 0 }

before : (n k : ℕ) → n - 1 - k ≡ n - (k + 1)
before n k = omega arith

pub loop-turn-init : goal.loop-turn-init
loop-turn-init c = written_none c.args.entries.now (length c.args.entries.now - 0) _ _ (omega arith) refl c.free-bounds.ensures

pub loop-turn-preserved : goal.loop-turn-preserved
loop-turn-preserved c =
    written_more c.args.entries.now (length c.args.entries.now - c.loop-turn.turn) (length c.args.entries.now - (c.loop-turn.turn + 1)) (get_or c.args.entries.now (length c.args.entries.now - 1 - c.loop-turn.turn) nothing) nothing c.loop-turn.cell c.put.new.cell c.loop-turn.bounds c.put.new.bounds
    (omega (arith, c.loop-turn-test.true)) (omega (arith, c.loop-turn-test.true)) (ap (λ k. get_or c.args.entries.now k nothing) (before (length c.args.entries.now) c.loop-turn.turn)) c.put.ensures c.loop-turn.invariant

pub put-requires : goal.put-requires
put-requires c = all_at IsProper c.args.entries.now (length c.args.entries.now - 1 - c.loop-turn.turn) nothing (omega (arith, c.loop-turn-test.true)) c.requires

pub returns-clause-cell : goal.returns-clause-cell
returns-clause-cell c = (written_all c.args.entries.now (length c.args.entries.now - c.loop-turn.turn) c.loop-turn.cell c.loop-turn.bounds (omega (arith, c.loop-turn-test.false)) c.loop-turn.invariant).0

pub returns-clause-table : goal.returns-clause-table
returns-clause-table c = (written_all c.args.entries.now (length c.args.entries.now - c.loop-turn.turn) c.loop-turn.cell c.loop-turn.bounds (omega (arith, c.loop-turn-test.false)) c.loop-turn.invariant).1
