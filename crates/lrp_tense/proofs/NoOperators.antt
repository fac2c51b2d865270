-- No operator is left in an expanded formula.
use Rattle.std.proofs.Common.{◌≡◌, ℕ, subst, sym}
use Rattle.lrp_model.specs.declared.tokens.Place.{Place}
use Rattle.lrp_model.specs.declared.raw.RawFormula.{RawFormula}
use Rattle.lrp_model.specs.declared.raw.Ranged.TheVariants.{Once, Always}
use Rattle.lrp_model.specs.declared.raw.Paired.TheVariants.{Since, Until}
use Rattle.lrp_model.specs.RawQueries.{RawForm, RawForms, HasNoOperator, HaveNoOperator, raw_form_of, raw_atom, raw_compare, raw_member, raw_not, raw_and, raw_or, raw_implies, raw_group, raw_exists, raw_forall, raw_ranged, raw_paired, no_raws, raw}
use Rattle.lrp_tense.specs.Expanding.{Naming, renamed_to, expanded, expanded_each, moment_of, between_of}
use Rattle.std.specs.Prelude.{◌∷◌}

mutual
  pub none_left : (f : RawForm) (number : Place → ℕ) (names : Naming) → HasNoOperator (expanded f number names)
  none_left (raw_atom p n ts) number names = tt
  none_left (raw_compare p l op r) number names = tt
  none_left (raw_member p t point) number names = tt
  none_left (raw_not p f) number names = none_left f number names
  none_left (raw_and p fs) number names = none_left_each fs number names
  none_left (raw_or p fs) number names = none_left_each fs number names
  none_left (raw_implies p f g) number names = (none_left f number names, none_left g number names)
  none_left (raw_group p f) number names = none_left f number names
  none_left (raw_exists p c f) number names = none_left f number (renamed_to c.name c.name ∷ names)
  none_left (raw_forall p c f) number names = none_left f number (renamed_to c.name c.name ∷ names)
  none_left (raw_ranged Once o from to f) number names = (tt, (tt, (none_left f number (renamed_to o.name (moment_of number o) ∷ names), tt)))
  none_left (raw_ranged Always o from to f) number names = ((tt, (tt, tt)), none_left f number (renamed_to o.name (moment_of number o) ∷ names))
  none_left (raw_paired Since o f g) number names = (tt, (none_left g number (renamed_to o.name (moment_of number o) ∷ names), (((tt, (tt, tt)), none_left f number (renamed_to o.name (between_of number o) ∷ names)), tt)))
  none_left (raw_paired Until o f g) number names = (tt, (none_left g number (renamed_to o.name (moment_of number o) ∷ names), (((tt, (tt, tt)), none_left f number (renamed_to o.name (between_of number o) ∷ names)), tt)))

  none_left_each : (fs : RawForms) (number : Place → ℕ) (names : Naming) → HaveNoOperator (expanded_each fs number names)
  none_left_each no_raws number names = tt
  none_left_each (raw f fs) number names = (none_left f number names, none_left_each fs number names)

-- the same of a formula of the program
pub none_in : (r : RawFormula) (f : RawForm) (number : Place → ℕ) (names : Naming) → raw_form_of r ≡ expanded f number names → HasNoOperator (raw_form_of r)
none_in r f number names e = subst HasNoOperator (sym e) (none_left f number names)
