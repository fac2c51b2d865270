-- A formula in which no operator stands has none once its sorts are resolved.
use Rattle.lrp_model.specs.Checked.{resolved, resolved_each}
use Rattle.lrp_model.specs.Sorting.{Binders}
use Rattle.lrp_model.specs.RawQueries.{RawForm, RawForms, HasNoOperator, HaveNoOperator, raw_atom, raw_compare, raw_member, raw_not, raw_and, raw_or, raw_implies, raw_group, raw_exists, raw_forall, raw_ranged, raw_paired, no_raws, raw}
use Rattle.std.specs.Prelude.{◌∷◌}

mutual
  pub none_stays : (f : RawForm) (bs : Binders) → HasNoOperator f → HasNoOperator (resolved f bs)
  none_stays (raw_atom p n ts) bs h = tt
  none_stays (raw_compare p l op r) bs h = tt
  none_stays (raw_member p t point) bs h = tt
  none_stays (raw_not p f) bs h = none_stays f bs h
  none_stays (raw_and p fs) bs h = none_stays_each fs bs h
  none_stays (raw_or p fs) bs h = none_stays_each fs bs h
  none_stays (raw_implies p f g) bs h = (none_stays f bs h.0, none_stays g bs h.1)
  none_stays (raw_group p f) bs h = none_stays f bs h
  none_stays (raw_exists p c f) bs h = none_stays f (c ∷ bs) h
  none_stays (raw_forall p c f) bs h = none_stays f (c ∷ bs) h
  none_stays (raw_ranged word o from to f) bs h = absurd h
  none_stays (raw_paired word o f g) bs h = absurd h

  none_stays_each : (fs : RawForms) (bs : Binders) → HaveNoOperator fs → HaveNoOperator (resolved_each fs bs)
  none_stays_each no_raws bs h = tt
  none_stays_each (raw f fs) bs h = (none_stays f bs h.0, none_stays_each fs bs h.1)
