-- Where operators are written out the texts of a formula are the same.
use Rattle.std.proofs.Common.{◌≡◌, ◌↔◌, inl, inr, ⊎_elim, ℕ, List, [], ◌∷◌, map, refl, ap}
use Rattle.std.specs.Prelude.{reverse}
use Rattle.lrp_model.specs.Texts.{Text, Identifier}
use Rattle.lrp_model.specs.Sorting.{Binders}
use Rattle.lrp_model.specs.RawQueries.{RawForm, RawForms, RawQuestion, raw_atom, raw_compare, raw_member, raw_not, raw_and, raw_or, raw_implies, raw_group, raw_exists, raw_forall, raw_ranged, raw_paired, no_raws, raw}
use Rattle.lrp_model.specs.declared.relations.Sort.{Sort}
use Rattle.lrp_model.specs.declared.relations.Column.{Column}
use Rattle.lrp_model.specs.declared.tokens.Place.{Place}
use Rattle.lrp_model.specs.declared.raw.Ranged.TheVariants.{Once, Always}
use Rattle.lrp_model.specs.declared.raw.Paired.TheVariants.{Since, Until}
use Rattle.lrp_model.specs.declared.raw.RawColumn.{RawColumn}
use Rattle.lrp_model.specs.declared.raw.RawTerm.{RawTerm}
use Rattle.lrp_model.specs.declared.raw.RawTermKind.{RawTermKind}
use Rattle.lrp_model.specs.declared.raw.RawTermKind.TheVariants.{Int, Text as text_kind, Var, Shifted}
use Rattle.lrp_tense.specs.Meaning.{operator_variable}
use Rattle.lrp_tense.specs.Expanding.{Naming, present_name, renamed, renamed_kind, renamed_to, time_binder, moment_of, between_of, operators, operator_number, expanded, expanded_each, expanded_question, IsPlain, IsPlainKind, HasPlainNames, HavePlainNames}
use Rattle.lrp_tense.proofs.FreshNames.{moment_not_plain, between_not_plain}
use Rattle.lrp_wide.specs.Meaning.{Signature}
use Rattle.lrp_wide.proofs.SatisfyNotions.{BindsFresh, BindFresh}
use Rattle.lrp_wide.proofs.SatisfyNamings.{IsNamedAs, no_names, one_more, one_aside}
use Rattle.lrp_wide.proofs.TextSays.{Says, SaysOne, argument_texts, text_in, put_name, SameSort, same_compare, either, swapped, no_first, no_second, same_iff, by_list, iff_then}

-- ---- terms

renamed_puts : (names : Naming) (k : RawTermKind) → renamed_kind names k ≡ put_name (present_name names) k
renamed_puts names (Int x) = refl
renamed_puts names (text_kind t) = refl
renamed_puts names (Var v) = refl
renamed_puts names (Shifted v plus) = refl

named_sort : (names : Naming) (bs cs : Binders) → IsNamedAs names bs cs → (k : RawTermKind) → IsPlainKind k → SameSort (present_name names) bs cs k
named_sort names bs cs h (Int x) p = tt
named_sort names bs cs h (text_kind t) p = tt
named_sort names bs cs h (Var v) p = h.sorts v p
named_sort names bs cs h (Shifted v plus) p = h.sorts v p

renamed_text : (names : Naming) (s : Sort) (k : RawTermKind) (xs ys : List (Sort × Text)) → xs ≡ ys → text_in s (renamed_kind names k) xs ≡ text_in s k ys
renamed_text names s (Int x) xs ys e = e
renamed_text names s (text_kind t) xs ys e = ap (λ l. (s, t) ∷ l) e
renamed_text names s (Var v) xs ys e = e
renamed_text names s (Shifted v plus) xs ys e = e

renamed_arguments : (names : Naming) (cs : List Column) (ts : List RawTerm) → argument_texts cs (map (renamed names) ts) ≡ argument_texts cs ts
renamed_arguments names [] ts = refl
renamed_arguments names (c ∷ cs) [] = refl
renamed_arguments names (c ∷ cs) (t ∷ ts) = renamed_text names c.sort t.kind _ _ (renamed_arguments names cs ts)

-- ---- formulas

module _ (x : Sort × Text) (S : Signature) (B : Identifier → Type 0) (number : Place → ℕ) where
  mutual
    pub expanded_says : (f : RawForm) (names : Naming) (bs cs : Binders) → HasPlainNames f → BindsFresh (expanded f number names) cs → IsNamedAs names bs cs → Says x S B (expanded f number names) cs ↔ Says x S B f bs
    expanded_says (raw_atom p n ts) names bs cs k f h = either (by_list x _ _ (renamed_arguments names (S n) ts)) same_iff
    expanded_says (raw_compare p l op r) names bs cs k f h =
        by_list x _ _ (same_compare (present_name names) bs cs l op r (renamed names l) (renamed names r) (renamed_puts names l.kind) (renamed_puts names r.kind) (named_sort names bs cs h l.kind k.0) (named_sort names bs cs h r.kind k.1))
    expanded_says (raw_member p t point) names bs cs k f h = same_iff
    expanded_says (raw_not p g) names bs cs k f h = expanded_says g names bs cs k f h
    expanded_says (raw_and p fs) names bs cs k f h = expanded_says_each fs names bs cs k f h
    expanded_says (raw_or p fs) names bs cs k f h = expanded_says_each fs names bs cs k f h
    expanded_says (raw_implies p g i) names bs cs k f h = either (expanded_says g names bs cs k.0 f.0 h) (expanded_says i names bs cs k.1 f.1 h)
    expanded_says (raw_group p g) names bs cs k f h = expanded_says g names bs cs k f h
    expanded_says (raw_exists p c g) names bs cs k f h = expanded_says g (renamed_to c.name c.name ∷ names) (c ∷ bs) (c ∷ cs) k.1 f.1 (one_more names bs cs h c f.0 c refl (inl refl))
    expanded_says (raw_forall p c g) names bs cs k f h = expanded_says g (renamed_to c.name c.name ∷ names) (c ∷ bs) (c ∷ cs) k.1 f.1 (one_more names bs cs h c f.0 c refl (inl refl))
    expanded_says (raw_ranged Once o from to g) names bs cs k f h =
        let d : RawColumn = time_binder o.place (moment_of number o) in
        let r = expanded_says g (renamed_to o.name d.name ∷ names) (operator_variable o ∷ bs) (d ∷ cs) k.1 f.1.1.1.0 (one_more names bs cs h d f.0 (operator_variable o) refl (inr (λ p. moment_not_plain o.name d.name (number o.place) p refl))) in
        iff_then (no_first (λ e. e)) (iff_then (no_first (λ e. e)) (iff_then (no_second (λ e. e)) r))
    expanded_says (raw_ranged Always o from to g) names bs cs k f h =
        let d : RawColumn = time_binder o.place (moment_of number o) in
        let r = expanded_says g (renamed_to o.name d.name ∷ names) (operator_variable o ∷ bs) (d ∷ cs) k.1 f.1.1 (one_more names bs cs h d f.0 (operator_variable o) refl (inr (λ p. moment_not_plain o.name d.name (number o.place) p refl))) in
        iff_then (no_first (λ e. ⊎_elim (λ a. a) (λ b. ⊎_elim (λ c. c) (λ c. c) b) e)) r
    expanded_says (raw_paired Since o g i) names bs cs k f h =
        let d : RawColumn = time_binder o.place (moment_of number o) in
        let e : RawColumn = time_binder o.place (between_of number o) in
        let m : IsPlain d.name → ⊥ = λ p. moment_not_plain o.name d.name (number o.place) p refl in
        let b : IsPlain e.name → ⊥ = λ p. between_not_plain o.name e.name (number o.place) p refl in
        let r = expanded_says i (renamed_to o.name d.name ∷ names) (operator_variable o ∷ bs) (d ∷ cs) k.2 f.1.1.0 (one_more names bs cs h d f.0 (operator_variable o) refl (inr m)) in
        let q = expanded_says g (renamed_to o.name e.name ∷ names) (operator_variable o ∷ bs) (e ∷ d ∷ cs) k.1 f.1.1.1.0.1.1 (one_more names bs (d ∷ cs) (one_aside names bs cs h d f.0 m) e f.1.1.1.0.0 (operator_variable o) refl (inr b)) in
        iff_then (no_first (λ n. n)) (iff_then (either r (iff_then (no_second (λ n. n)) (iff_then (no_first (λ n. ⊎_elim (λ a. a) (λ y. ⊎_elim (λ c. c) (λ c. c) y) n)) q))) swapped)
    expanded_says (raw_paired Until o g i) names bs cs k f h =
        let d : RawColumn = time_binder o.place (moment_of number o) in
        let e : RawColumn = time_binder o.place (between_of number o) in
        let m : IsPlain d.name → ⊥ = λ p. moment_not_plain o.name d.name (number o.place) p refl in
        let b : IsPlain e.name → ⊥ = λ p. between_not_plain o.name e.name (number o.place) p refl in
        let r = expanded_says i (renamed_to o.name d.name ∷ names) (operator_variable o ∷ bs) (d ∷ cs) k.2 f.1.1.0 (one_more names bs cs h d f.0 (operator_variable o) refl (inr m)) in
        let q = expanded_says g (renamed_to o.name e.name ∷ names) (operator_variable o ∷ bs) (e ∷ d ∷ cs) k.1 f.1.1.1.0.1.1 (one_more names bs (d ∷ cs) (one_aside names bs cs h d f.0 m) e f.1.1.1.0.0 (operator_variable o) refl (inr b)) in
        iff_then (no_first (λ n. n)) (iff_then (either r (iff_then (no_second (λ n. n)) (iff_then (no_first (λ n. ⊎_elim (λ a. a) (λ y. ⊎_elim (λ c. c) (λ c. c) y) n)) q))) swapped)

    expanded_says_each : (fs : RawForms) (names : Naming) (bs cs : Binders) → HavePlainNames fs → BindFresh (expanded_each fs number names) cs → IsNamedAs names bs cs → SaysOne x S B (expanded_each fs number names) cs ↔ SaysOne x S B fs bs
    expanded_says_each no_raws names bs cs k f h = same_iff
    expanded_says_each (raw g fs) names bs cs k f h = either (expanded_says g names bs cs k.0 f.0 h) (expanded_says_each fs names bs cs k.1 f.1 h)

-- a text of a file
pub text_says : (x : Sort × Text) (S : Signature) (B : Identifier → Type 0) (q : RawQuestion) → HasPlainNames q.body → BindsFresh (expanded_question q).body (reverse q.head)
    → Says x S B (expanded_question q).body (reverse q.head) ↔ Says x S B q.body (reverse q.head)
text_says x S B q k f = expanded_says x S B (operator_number (operators q.body)) q.body [] (reverse q.head) (reverse q.head) k f (no_names (reverse q.head))
