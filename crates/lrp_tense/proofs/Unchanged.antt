-- A formula without operators is its own expansion.
use Rattle.std.proofs.Common.{◌≡◌, ℕ, List, [], ◌∷◌, map, refl, ap, ap₂}
use Rattle.lrp_model.specs.Texts.{Identifier}
use Rattle.lrp_model.specs.RawQueries.{RawForm, RawForms, RawQuestion, HasNoOperator, HaveNoOperator, raw_atom, raw_compare, raw_member, raw_not, raw_and, raw_or, raw_implies, raw_group, raw_exists, raw_forall, raw_ranged, raw_paired, no_raws, raw}
use Rattle.lrp_model.specs.declared.tokens.Place.{Place}
use Rattle.lrp_model.specs.declared.raw.RawTerm.{RawTerm}
use Rattle.lrp_model.specs.declared.raw.RawTermKind.{RawTermKind}
use Rattle.lrp_model.specs.declared.raw.RawTermKind.TheVariants.{Int, Text, Var, Shifted}
use Rattle.lrp_tense.specs.Expanding.{Naming, present_name, renamed_to, renamed_kind, renamed, operators, operator_number, expanded, expanded_each, expanded_question}
use Rattle.lrp_model.proofs.Logic.{choose}

-- each variable has its own name
abbrev IsOwn : Naming → Type 0
IsOwn names = (w : Identifier) → present_name names w ≡ w

own_further : (names : Naming) (v : Identifier) → IsOwn names → IsOwn (renamed_to v v ∷ names)
own_further names v h w = choose (λ n. n ≡ w) v w v (present_name names w) (λ e. e) (λ ne. h w)

same_kind : (names : Naming) → IsOwn names → (k : RawTermKind) → renamed_kind names k ≡ k
same_kind names h (Int x) = refl
same_kind names h (Text t) = refl
same_kind names h (Var v) = ap Var (h v)
same_kind names h (Shifted v plus) = ap (λ n. Shifted n plus) (h v)

same_term : (names : Naming) → IsOwn names → (t : RawTerm) → renamed names t ≡ t
same_term names h t = ap (λ k. record { kind = k; place = t.place }) (same_kind names h t.kind)

same_terms : (names : Naming) → IsOwn names → (ts : List RawTerm) → map (renamed names) ts ≡ ts
same_terms names h [] = refl
same_terms names h (t ∷ ts) = ap₂ (λ x xs. x ∷ xs) (same_term names h t) (same_terms names h ts)

mutual
  unchanged : (f : RawForm) (number : Place → ℕ) (names : Naming) → HasNoOperator f → IsOwn names → expanded f number names ≡ f
  unchanged (raw_atom p n ts) number names none h = ap (raw_atom p n) (same_terms names h ts)
  unchanged (raw_compare p l op r) number names none h = ap₂ (λ a b. raw_compare p a op b) (same_term names h l) (same_term names h r)
  unchanged (raw_member p t point) number names none h = ap (λ a. raw_member p a point) (same_term names h t)
  unchanged (raw_not p f) number names none h = ap (raw_not p) (unchanged f number names none h)
  unchanged (raw_and p fs) number names none h = ap (raw_and p) (unchanged_each fs number names none h)
  unchanged (raw_or p fs) number names none h = ap (raw_or p) (unchanged_each fs number names none h)
  unchanged (raw_implies p f g) number names none h = ap₂ (raw_implies p) (unchanged f number names none.0 h) (unchanged g number names none.1 h)
  unchanged (raw_group p f) number names none h = ap (raw_group p) (unchanged f number names none h)
  unchanged (raw_exists p c f) number names none h = ap (raw_exists p c) (unchanged f number (renamed_to c.name c.name ∷ names) none (own_further names c.name h))
  unchanged (raw_forall p c f) number names none h = ap (raw_forall p c) (unchanged f number (renamed_to c.name c.name ∷ names) none (own_further names c.name h))
  unchanged (raw_ranged word o from to f) number names none h = absurd none
  unchanged (raw_paired word o f g) number names none h = absurd none

  unchanged_each : (fs : RawForms) (number : Place → ℕ) (names : Naming) → HaveNoOperator fs → IsOwn names → expanded_each fs number names ≡ fs
  unchanged_each no_raws number names none h = refl
  unchanged_each (raw f fs) number names none h = ap₂ raw (unchanged f number names none.0 h) (unchanged_each fs number names none.1 h)

pub unchanged_query : (q : RawQuestion) → HasNoOperator q.body → expanded_question q ≡ q
unchanged_query q none = ap (λ f. record { head = q.head; body = f }) (unchanged q.body (operator_number (operators q.body)) [] none (λ w. refl))
