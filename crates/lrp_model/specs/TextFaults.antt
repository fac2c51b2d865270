-- The fault of bytes that are no text of a grammar: which kind is reported, and where.
use Rattle.std.specs.Prelude.{◌≡◌, ℕ, Bool, true, false, List, ◌∷◌, ◌++◌}
use Rattle.lrp_model.specs.declared.tokens.Place.{Place}
use Rattle.lrp_model.specs.declared.tokens.Fault.{Fault}
use Rattle.lrp_model.specs.declared.tokens.Fault.TheVariants.{Syntax as syntax, Number as number, TextTooLong as text_too_long, Period as period, Deep as deep, Memory as memory}
use Rattle.lrp_model.specs.declared.faults.QueryFault.{QueryFault}
use Rattle.lrp_model.specs.declared.faults.QueryKind.{QueryKind}
use Rattle.lrp_model.specs.declared.faults.QueryKind.TheVariants.{Utf8, Syntax, Number, Period, Deep, TextTooLong}
use Rattle.lrp_model.specs.Tokens.{Token, Placed, Tokens}
use Rattle.lrp_model.specs.Tokens.Token.{hole_token}
use Rattle.lrp_model.specs.Refused.{IsCause, IsRefusedTextIn}
use Rattle.lrp_model.specs.DatabaseReading.{IsNoUtf8}

-- the texts of a grammar, with the flag its lawful ones
abbrev pub Grammatical : Type 1
Grammatical = Bool → Tokens → Type 0

-- a formula that begins after these tokens is of depth 65
abbrev pub IsTooDeepIn : Grammatical → Tokens → Type 0
IsTooDeepIn Texts front = (hole : Placed) × (other : Tokens) × (hole.token ≡ hole_token) × Texts true (front ++ hole ∷ other)

-- which kind is reported where a formula of depth 65 begins: a number above the limit, and else its depth; elsewhere none is for its depth
abbrev pub IsRankedIn : Grammatical → Fault → Tokens → Token → Type 0
IsRankedIn Texts deep front t = IsTooDeepIn Texts front × (IsCause number t → ⊥)
IsRankedIn Texts text_too_long front t = IsTooDeepIn Texts front → ⊥
IsRankedIn Texts period front t = IsTooDeepIn Texts front → ⊥
IsRankedIn Texts syntax front t = Unit {0}
IsRankedIn Texts number front t = Unit {0}
IsRankedIn Texts memory front t = ⊥

-- refused by the grammar at this place, for the kind that is reported there
pub record IsNoTextIn (wide : Bool) (Texts : Grammatical) (bytes : List ℕ) (k : Fault) (place : Place) : Type 0 where
  pub refusal : IsRefusedTextIn wide Texts bytes k place
  pub ranked : IsRankedIn Texts k refusal.refused.front refusal.bad.token

abbrev pub IsNoTextOf : Grammatical → List ℕ → Fault → Place → Type 0
IsNoTextOf = IsNoTextIn false

-- the fault that reading reports; the other kinds are those of sorts
abbrev pub IsTextFaultIn : Bool → Grammatical → List ℕ → QueryKind → QueryFault → Type 0
IsTextFaultIn wide Texts bytes Utf8 f = IsNoUtf8 bytes f.place
IsTextFaultIn wide Texts bytes Syntax f = IsNoTextIn wide Texts bytes syntax f.place
IsTextFaultIn wide Texts bytes Number f = IsNoTextIn wide Texts bytes number f.place
IsTextFaultIn wide Texts bytes Period f = IsNoTextIn wide Texts bytes period f.place
IsTextFaultIn wide Texts bytes Deep f = IsNoTextIn wide Texts bytes deep f.place
IsTextFaultIn wide Texts bytes TextTooLong f = IsNoTextIn wide Texts bytes text_too_long f.place
IsTextFaultIn wide Texts bytes _ f = ⊥

abbrev pub IsTextFaultOf : Grammatical → List ℕ → QueryKind → QueryFault → Type 0
IsTextFaultOf = IsTextFaultIn false

-- the same, by the kind that the fault has
abbrev pub IsTextFault : Grammatical → List ℕ → QueryFault → Type 0
IsTextFault Texts bytes f = IsTextFaultOf Texts bytes f.kind f
