-- Edits of what is kept of a query's answers, one after another, and the first at which a limit is passed.
use Rattle.std.specs.Prelude.{◌≡◌, ◌⊎◌, ◌+◌, ℕ, zero, suc, Bool, true, false, List, [], ◌∷◌, ◌++◌, length}
use Rattle.lrp_model.specs.Rows.{rows_of}
use Rattle.lrp_model.specs.Texts.{Identifier}
use Rattle.lrp_model.specs.declared.relations.Row.{Row}
use Rattle.lrp_edits.specs.declared.edits.Edit.{Edit}
use Rattle.lrp_keep.specs.Keeps.{HasNoEqual, IsWithout, KeepView, with_added, IsPastLimit, StaysWithinLimits}
use Rattle.lrp_keep.specs.declared.faults.KeepFault.{KeepFault}

-- ---- edits that are made

-- a row is added, and no limit is passed; or the first row that is equal is taken out, and where none is, nothing changes
abbrev pub IsMadeBy : Bool → Identifier → Row → KeepView → KeepView → Type 0
IsMadeBy true name row old new = (new ≡ with_added old name row) × StaysWithinLimits new
IsMadeBy false name row old new = IsWithout name row old new ⊎ (HasNoEqual row (rows_of old.relations name) × (new ≡ old))

-- an edit is made
abbrev pub IsEditMade : Edit → KeepView → KeepView → Type 0
IsEditMade e = IsMadeBy e.add e.relation e.row

-- edits are made one after another: what is kept after each
abbrev pub AreMade : List Edit → KeepView → List KeepView → Type 0
AreMade [] k later = later ≡ []
AreMade (e ∷ es) k [] = ⊥
AreMade (e ∷ es) k (next ∷ later) = IsEditMade e k next × AreMade es next later

-- what is kept after the last of them
abbrev pub last_kept : KeepView → List KeepView → KeepView
last_kept k [] = k
last_kept k (next ∷ later) = last_kept next later

-- ---- edits at which a limit is passed

-- an edit adds a row, and with it this limit is the first that is passed
pub record IsRefusedEdit (e : Edit) (k : KeepView) (fault : KeepFault) : Type 0 where
  pub adds : e.add ≡ true
  pub cause : IsPastLimit (with_added k e.relation e.row) fault

-- the edits before the one of this number, from 1, are made, and at that one the limit is passed
pub record IsPassedAfter (edits : List Edit) (k : KeepView) (number : ℕ) (fault : KeepFault) : Type 0 where
  pub before : List Edit
  pub edit : Edit
  pub after : List Edit
  pub are : edits ≡ before ++ edit ∷ after
  pub number_is : number ≡ length before + 1
  pub later : List KeepView
  pub made : AreMade before k later
  pub refused : IsRefusedEdit edit (last_kept k later) fault

-- the limit is passed at the edit of this number and none before; the opening is edit 0
abbrev pub IsPassedAt : List Edit → KeepView → ℕ → KeepFault → Type 0
IsPassedAt edits k zero fault = IsPastLimit k fault
IsPassedAt edits k (suc n) fault = StaysWithinLimits k × IsPassedAfter edits k (suc n) fault
