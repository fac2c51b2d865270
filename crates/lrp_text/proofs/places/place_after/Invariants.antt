use Rattle.std.proofs.Common.{◌≡◌, ◌≤◌, ◌+◌, take}
use Rattle.lrp_model.specs.Lexing.{after, start}
use Rattle.lrp_text.proofs.places.place_after.Given as goal

-- the place after the bytes so far
abbrev pub invariant-loop-byte : goal.invariant-loop-byte
invariant-loop-byte l = record {
  so_far : l.place ≡ after start (take l.byte-index l.bytes);
  line : l.place.line ≤ l.byte-index + 1;
  column : l.place.column ≤ l.byte-index + 1;
}
