-- What the loop over the words keeps.
use Rattle.std.proofs.Common.{◌≡◌, ◌++◌, ℕ, List, length, map, string_bytes}
use Rattle.lrp_c.specs.Packed.{packed_words, AreWords}
use Rattle.lrp_c.proofs.PackedLemmas.{LeftWords}
use Rattle.lrp_c.proofs.packed.words_in.Given as goal

-- the words so far and what is left are the whole, and what is left is as the whole is
abbrev pub invariant-loop-rest : goal.invariant-loop-rest
invariant-loop-rest l = record {
  so_far : l.bytes ≡ packed_words (map string_bytes l.words.items) ++ l.rest;
  left : (said : List (List ℕ)) → AreWords said → l.bytes ≡ packed_words said → LeftWords l.rest;
}

abbrev pub decreases-loop-rest : goal.decreases-loop-rest
decreases-loop-rest l = length l.rest
