-- How operators are numbered while a formula is expanded, and the formula that this gives.
use Rattle.std.specs.Prelude.{ℕ, suc, List, [], ◌∷◌, ◌++◌, length, map}
use Rattle.lrp_model.specs.RawQueries.{RawForm, RawForms, raw_atom, raw_compare, raw_member, raw_not, raw_and, raw_or, raw_implies, raw_group, raw_exists, raw_forall, no_raws, raw, raw_ranged, raw_paired}
use Rattle.lrp_model.specs.declared.tokens.Place.{Place}
use Rattle.lrp_tense.specs.Expanding.{operators, Naming, renamed, renamed_to, present_name, moment_name, between_name, form_of_range, form_of_pair}
use Rattle.lrp_tense.specs.Counting.{operator_number_in}

-- as they are met, after those at these places, or by the positions of all of them
pub data Numbers : Type 0 where
  met : List Place → Numbers
  ranked : List ℕ → Numbers

-- the number of the next operator, which stands at a place
abbrev pub next_number : Numbers → Place → ℕ
next_number (met ps) p = suc (length ps)
next_number (ranked positions) p = operator_number_in positions p

-- after that operator
abbrev pub after_one : Numbers → Place → Numbers
after_one (met ps) p = met (ps ++ p ∷ [])
after_one (ranked positions) p = ranked positions

-- after the operators at these places
abbrev pub after_all : Numbers → List Place → Numbers
after_all n [] = n
after_all n (p ∷ ps) = after_all (after_one n p) ps

-- the expanded formula whose first operator has the next number
abbrev mutual
  pub expanded_from : RawForm → Numbers → Naming → RawForm
  expanded_from (raw_atom p r ts) n names = raw_atom p r (map (renamed names) ts)
  expanded_from (raw_compare p l op r) n names = raw_compare p (renamed names l) op (renamed names r)
  expanded_from (raw_member p t point) n names = raw_member p (renamed names t) point
  expanded_from (raw_not p f) n names = raw_not p (expanded_from f n names)
  expanded_from (raw_and p fs) n names = raw_and p (each_from fs n names)
  expanded_from (raw_or p fs) n names = raw_or p (each_from fs n names)
  expanded_from (raw_implies p f g) n names = raw_implies p (expanded_from f n names) (expanded_from g (after_all n (operators f)) names)
  expanded_from (raw_group p f) n names = raw_group p (expanded_from f n names)
  expanded_from (raw_exists p c f) n names = raw_exists p c (expanded_from f n (renamed_to c.name c.name ∷ names))
  expanded_from (raw_forall p c f) n names = raw_forall p c (expanded_from f n (renamed_to c.name c.name ∷ names))
  expanded_from (raw_ranged word o from to f) n names =
      form_of_range word o (moment_name o.name (next_number n o.place)) (present_name names o.name) from to
      (expanded_from f (after_one n o.place) (renamed_to o.name (moment_name o.name (next_number n o.place)) ∷ names))
  expanded_from (raw_paired word o f g) n names =
      form_of_pair word o (moment_name o.name (next_number n o.place)) (between_name o.name (next_number n o.place)) (present_name names o.name)
      (expanded_from f (after_one n o.place) (renamed_to o.name (between_name o.name (next_number n o.place)) ∷ names))
      (expanded_from g (after_all (after_one n o.place) (operators f)) (renamed_to o.name (moment_name o.name (next_number n o.place)) ∷ names))

  pub each_from : RawForms → Numbers → Naming → RawForms
  each_from no_raws n names = no_raws
  each_from (raw f fs) n names = raw (expanded_from f n names) (each_from fs (after_all n (operators f)) names)
