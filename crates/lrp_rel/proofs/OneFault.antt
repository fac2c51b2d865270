-- A text has at most one fault of its bytes or of the grammar.
use Rattle.std.proofs.Common.{◌≡◌, inl, inr, ℕ, List, refl, ap, ◌∙◌}
use Rattle.lrp_model.specs.declared.tokens.Place.{Place}
use Rattle.lrp_model.specs.declared.tokens.Fault.{Fault as TokenFault}
use Rattle.lrp_model.specs.declared.tokens.Fault.TheVariants.{Syntax as syntax, Number as number, TextTooLong as text_too_long, Period as period}
use Rattle.lrp_model.specs.declared.faults.DbFault.{DbFault}
use Rattle.lrp_model.specs.declared.faults.DbKind.{DbKind}
use Rattle.lrp_model.specs.declared.faults.DbKind.TheVariants.{Utf8, Syntax, Number, Period, TextTooLong, Name, Arity, Sort, Column, Wide, UnknownRelation}
use Rattle.lrp_model.specs.Databases.{database_text, FitsDatabase}
use Rattle.lrp_model.specs.Refused.{TextOf}
use Rattle.lrp_model.specs.DatabaseReading.{IsNoDatabaseText}
use Rattle.lrp_text.proofs.OneCause.{IsShown}
use Rattle.lrp_text.proofs.OneFault.{IsCutOrMet, both_once, shown_once}
use Rattle.lrp_rel.specs.Reading.{IsDatabaseTextFault, IsDatabaseTextFaultOf}

-- the kind of a fault, from the one that was met
abbrev pub kind_met : TokenFault → DbKind
kind_met syntax = Syntax
kind_met number = Number
kind_met text_too_long = TextTooLong
kind_met period = Period
kind_met _ = Utf8

-- a fault that was met, whose token shows its kind
abbrev IsMetAt : List ℕ → TokenFault → Place → Type 0
IsMetAt bytes j p = IsShown j × IsNoDatabaseText bytes j p

group_of : (bytes : List ℕ) (k : DbKind) (f : DbFault) → IsDatabaseTextFaultOf bytes k f → IsCutOrMet Utf8 kind_met (IsMetAt bytes) bytes k f.place
group_of bytes Utf8 f r = inl (refl, r)
group_of bytes Syntax f r = inr (syntax, refl, (tt, r))
group_of bytes Number f r = inr (number, refl, (tt, r))
group_of bytes TextTooLong f r = inr (text_too_long, refl, (tt, r))
group_of bytes Period f r = inr (period, refl, (tt, r))
group_of bytes Name f r = absurd r
group_of bytes Arity f r = absurd r
group_of bytes Sort f r = absurd r
group_of bytes Column f r = absurd r
group_of bytes Wide f r = absurd r
group_of bytes UnknownRelation f r = absurd r

-- those that were met are one
met_once : (bytes : List ℕ) (j i : TokenFault) (p q : Place) → IsMetAt bytes j p → IsMetAt bytes i q → (j ≡ i) × (p ≡ q)
met_once bytes j i p q r s = shown_once (TextOf database_text FitsDatabase) bytes j i p q r.1 s.1 r.0 s.0

-- a fault by its kind and place
abbrev pub fault_of : DbKind → Place → DbFault
fault_of k p = record { kind = k; place = p }

-- a text has at most one fault
pub fault_once : (bytes : List ℕ) (f g : DbFault) → IsDatabaseTextFault bytes f → IsDatabaseTextFault bytes g → f ≡ g
fault_once bytes f g a b =
    let h = both_once Utf8 kind_met (IsMetAt bytes) bytes (λ j p m. m.1.utf8) (met_once bytes) f.kind g.kind f.place g.place (group_of bytes f.kind f a) (group_of bytes g.kind g b) in
    ap (λ k. fault_of k f.place) h.0 ∙ ap (fault_of g.kind) h.1
