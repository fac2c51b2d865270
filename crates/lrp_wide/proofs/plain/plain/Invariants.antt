use Rattle.std.proofs.Common.{◌≡◌, map}
use Rattle.std.specs.List.{AllByRecursion}
use Rattle.lrp_model.specs.RawQueries.{raw_definition_of}
use Rattle.lrp_wide.specs.Inlining.{plain_definition}
use Rattle.lrp_wide.specs.Inside.{HasPlainBody}
use Rattle.lrp_wide.proofs.plain.plain.Given as goal

-- the definitions so far are without operators
abbrev pub invariant-loop-definition : goal.invariant-loop-definition
invariant-loop-definition l = record { trees : map raw_definition_of l.definitions.items ≡ map (λ d. plain_definition (raw_definition_of d)) l.yielded; operators : AllByRecursion HasPlainBody l.definitions.items }
