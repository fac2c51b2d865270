-- From the last entry to the first, each is put.
use Rattle.std.proofs.Common.{◌≡◌, ◌∙◌, ℕ, ◌+◌, ◌-◌, None, ap, arith, drop, get_or, length, refl, replicate}
use Rattle.std.specs.Prelude.{pos}
use Rattle.lrp_packed.specs.Entries.{IsProper, cell_of_entries}
use Rattle.lrp_packed.specs.declared.zones.PackedEntry.{PackedEntry}
use Rattle.lrp_packed.proofs.Listed.{all_at, cell_more, written_none}
use Rattle.lrp_packed.proofs.zones.cell_of.Goals as goal

abbrev nothing : PackedEntry
nothing = record { place = 0; text = 0; time = pos 0 }

before : (n k : ℕ) → n - 1 - k ≡ n - (k + 1)
before n k = omega arith

pub loop-turn-init : goal.loop-turn-init
loop-turn-init c = (written_none c.args.entries.now (length c.args.entries.now - 0) _ (replicate 81 None) (omega arith) refl refl).cell_is

pub loop-turn-preserved : goal.loop-turn-preserved
loop-turn-preserved c =
    cell_more c.args.entries.now (length c.args.entries.now - c.loop-turn.turn) (length c.args.entries.now - (c.loop-turn.turn + 1)) (get_or c.args.entries.now (length c.args.entries.now - 1 - c.loop-turn.turn) nothing) nothing c.loop-turn.cell c.put_in_cell.new.cell
    (omega (arith, c.loop-turn-test.true)) (omega (arith, c.loop-turn-test.true)) (ap (λ k. get_or c.args.entries.now k nothing) (before (length c.args.entries.now) c.loop-turn.turn)) c.put_in_cell.ensures c.loop-turn.invariant

pub put_in_cell-requires : goal.put_in_cell-requires
put_in_cell-requires c = all_at IsProper c.args.entries.now (length c.args.entries.now - 1 - c.loop-turn.turn) nothing (omega (arith, c.loop-turn-test.true)) c.requires

pub returns : goal.returns
returns c =
    let none : length c.args.entries.now - c.loop-turn.turn ≡ 0 = omega (arith, c.loop-turn-test.false) in
    c.loop-turn.invariant ∙ ap (λ k. cell_of_entries (drop k c.args.entries.now)) none
