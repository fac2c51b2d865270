-- A set whose members a value for one variable more completes to members of another set inhabits no more cells than that one.
use Rattle.std.proofs.Common.{◌≡◌, ◌⊎◌, ◌<◌, ℕ, Bool, true, false, cond, not, List, [], ◌∷◌, refl, sym, ap, subst, ◌∙◌, arith, Contains, bytes_eq, ⊎_elim}
use Rattle.std.specs.Prelude.{ℤ, pos, ◌≤ℤ◌, ◌<ℤ◌}
use Rattle.std.specs.List.{AllByRecursion}
use Rattle.std.specs.Int.{int_rem_euclid}
use Rattle.std.proofs.lemmas.Int.{ints}
use Rattle.lrp_theory.proofs.Modulo.{rem_divides, rem_low, rem_high}
use Rattle.lrp_model.specs.Texts.{Text, Identifier, without}
use Rattle.lrp_model.specs.Rows.{time, text}
use Rattle.lrp_model.specs.Variables.{Variable, time_variable, data_variable}
use Rattle.lrp_model.specs.Satisfaction.{Assignment, with_value}
use Rattle.lrp_model.specs.Cells.{FormCell, LiesIn, Agree, Differ}
use Rattle.lrp_model.proofs.Decided.{cons_cases, contains_first, contains_later, contains_none}
use Rattle.lrp_tables.specs.Tables.{named_variables}
use Rattle.lrp_tables.specs.Caps.{Inhabits, InhabitsMoreThan}
use Rattle.lrp_tables.proofs.Mapped.{Known, many_known, many_map}
use Rattle.lrp_tables.proofs.Numbers.{all_variables}
use Rattle.lrp_theory.specs.Divides.{IsPointMember}

-- ---- the names but one

-- another name is one of the others
pub in_others : (name : Identifier) (names : List Identifier) (w : Identifier) → Contains names w → bytes_eq name w ≡ false → Contains (without name names) w
in_others name [] w c n = absurd (contains_none w c)
in_others name (v ∷ names) w c n = by_first (bytes_eq name v) refl (cons_cases v w names c) (λ later. in_others name names w later n)
  where
    differ : false ≡ true → ⊥
    differ h = cc

    by_first : (b : Bool) → bytes_eq name v ≡ b → (v ≡ w) ⊎ Contains names w → (Contains names w → Contains (without name names) w) → Contains (cond (not b) (v ∷ without name names) (without name names)) w
    by_first true e h rest = ⊎_elim (λ same. absurd (differ (sym n ∙ ap (bytes_eq name) (sym same) ∙ e))) rest h
    by_first false e h rest = ⊎_elim (λ same. subst (λ u. Contains (v ∷ without name names) u) same (contains_first v (without name names))) (λ later. contains_later v w (without name names) (rest later)) h

pub of_others : (name : Identifier) (names : List Identifier) (w : Identifier) → Contains (without name names) w → Contains names w × (bytes_eq name w ≡ false)
of_others name [] w c = absurd (contains_none w c)
of_others name (v ∷ names) w c = by_first (bytes_eq name v) refl c (of_others name names w)
  where
    by_first : (b : Bool) → bytes_eq name v ≡ b → Contains (cond (not b) (v ∷ without name names) (without name names)) w → (Contains (without name names) w → Contains names w × (bytes_eq name w ≡ false)) → Contains (v ∷ names) w × (bytes_eq name w ≡ false)
    by_first true e h rest = let r = rest h in (contains_later v w names r.0, r.1)
    by_first false e h rest = ⊎_elim (λ same. (subst (λ u. Contains (v ∷ names) u) same (contains_first v names), ap (bytes_eq name) (sym same) ∙ e)) (λ later. let r = rest later in (contains_later v w names r.0, r.1)) (cons_cases v w (without name names) h)

-- ---- both choices

both_ways : {A B : Type 0} (p : A → B → Type 0) (b : Bool) (x y : A) (u w : B) → (b ≡ true → p x u) → (b ≡ false → p y w) → p (cond b x y) (cond b u w)
both_ways p true x y u w h k = h refl
both_ways p false x y u w h k = k refl

second_ones : {A : Type 0} (b : Bool) (x u y w : A) → b ≡ false → cond b x y ≡ cond b u w → y ≡ w
second_ones true x u y w n e = cc
second_ones false x u y w n e = e

module _ (domain : List Text) (period : ℕ) (low : 0 < period) (times texts : List Identifier) (name : Identifier) (set of : Assignment → Type 0) where
  module _ (completes : (env : Assignment) → set env → (x : ℤ) × of (with_value name (time x) env)) where
    abbrev fewer_times : List Variable
    fewer_times = named_variables (without name times) texts

    abbrev with_time : Known (Inhabits domain period fewer_times set) → FormCell
    with_time k = record { residues = λ w. cond (bytes_eq name w) (int_rem_euclid (completes k.1.witness k.1.member).0 (pos period)) (k.0.residues w); texts = k.0.texts }

    moved_time : (k : Known (Inhabits domain period fewer_times set)) → Inhabits domain period (named_variables times texts) of (with_time k)
    moved_time k = record {
      witness = with_value name (time (completes k.1.witness k.1.member).0) k.1.witness;
      inside = (all_variables (LiesIn period domain (with_value name (time (completes k.1.witness k.1.member).0) k.1.witness) (with_time k)) times texts).1 (in_time, lies.1);
      member = (completes k.1.witness k.1.member).1;
    }
      where
        lies : ((w : Identifier) → Contains (without name times) w → LiesIn period domain k.1.witness k.0 (time_variable w)) × ((w : Identifier) → Contains texts w → LiesIn period domain k.1.witness k.0 (data_variable w))
        lies = (all_variables (LiesIn period domain k.1.witness k.0) (without name times) texts).0 k.1.inside

        in_time : (w : Identifier) → Contains times w → LiesIn period domain (with_value name (time (completes k.1.witness k.1.member).0) k.1.witness) (with_time k) (time_variable w)
        in_time w c =
            let x : ℤ = (completes k.1.witness k.1.member).0 in
            both_ways (λ r y. (pos 0 ≤ℤ r) × (r <ℤ pos period) × IsPointMember r (pos period) y) (bytes_eq name w) (int_rem_euclid x (pos period)) (k.0.residues w) x (k.1.witness.times w)
            (λ e. (rem_low period x low, rem_high period x low, rem_divides (pos period) x (int_rem_euclid x (pos period)) (omega (arith, ints, low)) refl))
            (λ e. lies.0 w (in_others name times w c e))

    apart_time : (a b : Known (Inhabits domain period fewer_times set)) → AllByRecursion (Agree (with_time a) (with_time b)) (named_variables times texts) → AllByRecursion (Agree a.0 b.0) fewer_times
    apart_time a b h =
        let agree = (all_variables (Agree (with_time a) (with_time b)) times texts).0 h in
        (all_variables (Agree a.0 b.0) (without name times) texts).1 (
          (λ w c. let o = of_others name times w c in second_ones (bytes_eq name w) _ _ (a.0.residues w) (b.0.residues w) o.1 (agree.0 w o.0)),
          agree.1,
        )

    -- an integer for one time variable more
    pub drop_time_counts : (cap : ℕ) → InhabitsMoreThan cap domain period (without name times) texts set → InhabitsMoreThan cap domain period times texts of
    drop_time_counts cap m =
        many_map with_time (λ a b. Differ fewer_times a.0 b.0) (Differ (named_variables times texts)) (λ k. Unit {0}) (Inhabits domain period (named_variables times texts) of) (λ k u. moved_time k)
        (λ a b x y d h. d (apart_time a b h)) cap (many_known (Inhabits domain period fewer_times set) (Differ fewer_times) cap m)

  module _ (completes : (env : Assignment) → set env → (t : Text) × Contains domain t × of (with_value name (text t) env)) where
    abbrev fewer_texts : List Variable
    fewer_texts = named_variables times (without name texts)

    abbrev with_text : Known (Inhabits domain period fewer_texts set) → FormCell
    with_text k = record { residues = k.0.residues; texts = λ w. cond (bytes_eq name w) (completes k.1.witness k.1.member).0 (k.0.texts w) }

    moved_text : (k : Known (Inhabits domain period fewer_texts set)) → Inhabits domain period (named_variables times texts) of (with_text k)
    moved_text k = record {
      witness = with_value name (text (completes k.1.witness k.1.member).0) k.1.witness;
      inside = (all_variables (LiesIn period domain (with_value name (text (completes k.1.witness k.1.member).0) k.1.witness) (with_text k)) times texts).1 (lies.0, in_text);
      member = (completes k.1.witness k.1.member).2;
    }
      where
        lies : ((w : Identifier) → Contains times w → LiesIn period domain k.1.witness k.0 (time_variable w)) × ((w : Identifier) → Contains (without name texts) w → LiesIn period domain k.1.witness k.0 (data_variable w))
        lies = (all_variables (LiesIn period domain k.1.witness k.0) times (without name texts)).0 k.1.inside

        in_text : (w : Identifier) → Contains texts w → LiesIn period domain (with_value name (text (completes k.1.witness k.1.member).0) k.1.witness) (with_text k) (data_variable w)
        in_text w c =
            let t : Text = (completes k.1.witness k.1.member).0 in
            both_ways (λ r y. Contains domain r × (y ≡ r)) (bytes_eq name w) t (k.0.texts w) t (k.1.witness.texts w) (λ e. ((completes k.1.witness k.1.member).1, refl))
            (λ e. lies.1 w (in_others name texts w c e))

    apart_text : (a b : Known (Inhabits domain period fewer_texts set)) → AllByRecursion (Agree (with_text a) (with_text b)) (named_variables times texts) → AllByRecursion (Agree a.0 b.0) fewer_texts
    apart_text a b h =
        let agree = (all_variables (Agree (with_text a) (with_text b)) times texts).0 h in
        (all_variables (Agree a.0 b.0) times (without name texts)).1 (
          agree.0,
          λ w c. let o = of_others name texts w c in second_ones (bytes_eq name w) _ _ (a.0.texts w) (b.0.texts w) o.1 (agree.1 w o.0),
        )

    -- a text of the domain for one data variable more
    pub drop_data_counts : (cap : ℕ) → InhabitsMoreThan cap domain period times (without name texts) set → InhabitsMoreThan cap domain period times texts of
    drop_data_counts cap m =
        many_map with_text (λ a b. Differ fewer_texts a.0 b.0) (Differ (named_variables times texts)) (λ k. Unit {0}) (Inhabits domain period (named_variables times texts) of) (λ k u. moved_text k)
        (λ a b x y d h. d (apart_text a b h)) cap (many_known (Inhabits domain period fewer_texts set) (Differ fewer_texts) cap m)
