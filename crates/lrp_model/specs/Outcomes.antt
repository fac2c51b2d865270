-- What a reader of queries answers, where memory may run out.
use Rattle.std.specs.Prelude.{◌≡◌, Result, Ok, Err}
use Rattle.lrp_model.specs.declared.faults.QueryFault.{QueryFault}
use Rattle.lrp_model.specs.declared.faults.QueryRead.{QueryRead}
use Rattle.lrp_model.specs.declared.faults.QueryRead.TheVariants.{Fault, Memory}

-- what is made is seen as this query, unless memory ran out
abbrev pub IsQueryOrMemory : {A Q : Type 0} → (A → Q) → Q → Result A QueryRead → Type 0
IsQueryOrMemory seen q (Ok made) = seen made ≡ q
IsQueryOrMemory seen q (Err Memory) = Unit {0}
IsQueryOrMemory seen q (Err (Fault f)) = ⊥

-- this fault, unless memory ran out
abbrev pub IsFaultOrMemory : {A : Type 0} → QueryFault → Result A QueryRead → Type 0
IsFaultOrMemory f (Ok made) = ⊥
IsFaultOrMemory f (Err Memory) = Unit {0}
IsFaultOrMemory f (Err (Fault g)) = g ≡ f
