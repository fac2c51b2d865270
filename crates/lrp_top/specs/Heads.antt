-- The heads for which something is told: which columns they have.
use Rattle.std.specs.Prelude.{◌≡◌, ◌≤◌, Bool, true, false, List, length, Option, Some, None, Result, Ok, Err}
use Rattle.lrp_model.specs.Formulas.{Question}
use Rattle.lrp_model.specs.Sorts.{time_count}
use Rattle.lrp_model.specs.declared.relations.Column.{Column}
use Rattle.lrp_outputs.specs.declared.head.HeadNeed.{HeadNeed}
use Rattle.lrp_outputs.specs.declared.head.HeadNeed.TheVariants.{Canon, Count, Ranges}
use Rattle.lrp_outputs.specs.declared.refusal.Refusal.{Refusal}
use Rattle.lrp_outputs.specs.declared.refusal.Refusal.TheVariants.{Head}

-- the head has the columns that are needed: one time column, at most one, or one and no other column
abbrev pub IsMetBy : HeadNeed → List Column → Type 0
IsMetBy Canon head = time_count head ≡ 1
IsMetBy Count head = time_count head ≤ 1
IsMetBy Ranges head = (time_count head ≡ 1) × (length head ≡ 1)

-- the same where something is needed
abbrev pub IsHeadFor : Option HeadNeed → List Column → Type 0
IsHeadFor None head = Unit {0}
IsHeadFor (Some need) head = IsMetBy need head

-- the head is looked at. Ok: it has the columns that are needed. Refused: it has not
abbrev pub IsHeadFit : Option HeadNeed → Question → Result (Unit {0}) Refusal → Type 0
IsHeadFit need q (Ok fit) = IsHeadFor need q.head
IsHeadFit need q (Err (Head unmet)) = (need ≡ Some unmet) × (IsMetBy unmet q.head → ⊥)
IsHeadFit need q (Err _) = ⊥

-- what is needed where the flag says that the canonical answer is asked for
abbrev pub canon_need : Bool → Option HeadNeed
canon_need false = None
canon_need true = Some Canon
