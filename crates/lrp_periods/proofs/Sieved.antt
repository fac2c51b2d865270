-- What a sieve leaves is what no part has.
use Rattle.std.proofs.Common.{◌≡◌, ◌≢◌, ℕ, ◌<◌, ◌≤◌, ◌^◌, List, [], ◌∷◌, length, map, Contains, refl, sym, ap, subst, ◌∙◌, arith}
use Rattle.std.specs.Prelude.{ℤ, pos, nat_abs, ◌≤ℤ◌, AllPairs}
use Rattle.std.proofs.lemmas.Int.{ints}
use Rattle.lrp_theory.specs.Divides.{Divides}
use Rattle.lrp_theory.proofs.Members.{pairs_none, pairs_one}
use Rattle.lrp_theory.proofs.Modulo.{Divides-self}
use Rattle.lrp_model.specs.Texts.{Ascends, Identifier, Text}
use Rattle.lrp_model.specs.Satisfaction.{Assignment}
use Rattle.lrp_store.specs.Growing.{IsAdded}
use Rattle.lrp_store.specs.Stores.{HasReach, InStore, IsStore, StoreView}
use Rattle.lrp_store.specs.Tables.{AreTexts}
use Rattle.lrp_tables.specs.declared.table.Table.{Table}
use Rattle.lrp_tables.specs.Tables.{HasAssignment, HasTexts, IsTableOf}
use Rattle.lrp_tables.proofs.CellsNamed.{AreTuplesOf}
use Rattle.lrp_steps.proofs.Steps.{empty_store, farther, positive, step_reach, step_table}
use Rattle.lrp_periods.specs.Operations.{AreOperand}
use Rattle.lrp_periods.specs.Parts.{HasSome, IsPartOfSet, part_texts, part_times}
use Rattle.lrp_periods.specs.Sets.{IsComplementOf}
use Rattle.lrp_periods.specs.Sieves.{AreCoversOf, CanSift, IsLeftOpen, IsLineStore, IsSifted}
use Rattle.lrp_periods.specs.declared.sieves.Cover.{Cover}
use Rattle.lrp_periods.proofs.PartLaws.{part_of_table}
use Rattle.lrp_periods.proofs.PeriodLaws.{natural}

pub single : {X : Type 0} (xs : List X) → length xs ≡ 1 → (x : X) × (xs ≡ x ∷ [])
single [] e = absurd (omega (arith, e))
single (x ∷ []) e = (x, refl)
single (x ∷ y ∷ xs) e = absurd (omega (arith, e))

no_texts : (domain : List Text) (env : Assignment) (ns : List ℕ) (texts : List Identifier) → texts ≡ [] → AreTexts domain ns (map env.texts texts) → ns ≡ []
no_texts domain env ns texts e a = by ns (subst (λ ts. AreTexts domain ns (map env.texts ts)) e a)
  where
    by : (ms : List ℕ) → AreTexts domain ms [] → ms ≡ []
    by [] h = refl
    by (m ∷ ms) h = absurd h

module _ {domain : List Text} {period : ℤ} {parts : List Table} (can : AreOperand domain period parts) (one : length (part_times parts) ≡ 1) (none : part_texts parts ≡ []) where
  abbrev v : Identifier
  v = (single (part_times parts) one).0

  times_is : part_times parts ≡ v ∷ []
  times_is = (single (part_times parts) one).1

  -- the one variable
  abbrev pub variable : (w : Identifier) × (part_times parts ≡ w ∷ [])
  variable = single (part_times parts) one

  pub line_store : (part : Table) → Contains parts part → IsLineStore part.store
  line_store part k = let is = can.parts_are.each part k in record {
    valid = is.valid;
    times = sym part.times_named ∙ ap length is.times_are ∙ one;
    texts = sym part.texts_named ∙ ap length (is.texts_are ∙ none);
  }

  has_number : (part : Table) → Contains parts part → (env : Assignment) → HasAssignment part domain env → InStore part.store (env.times v ∷ []) []
  has_number part k env h =
      let is = can.parts_are.each part k in
      let e : h.0 ≡ [] = no_texts domain env h.0 part.vars.texts (is.texts_are ∙ none) h.1 in
      subst (λ ns. InStore part.store (env.times v ∷ []) ns) e (subst (λ ts. InStore part.store (map env.times ts) h.0) (is.times_are ∙ times_is) h.2)

  number_has : (part : Table) → Contains parts part → (env : Assignment) → InStore part.store (env.times v ∷ []) [] → HasAssignment part domain env
  number_has part k env h =
      let is = can.parts_are.each part k in
      ([], subst (λ ts. AreTexts domain [] (map env.texts ts)) (sym (is.texts_are ∙ none)) tt, subst (λ ts. InStore part.store (map env.times ts) []) (sym (is.times_are ∙ times_is)) h)

  times_differ : AllPairs ◌≢◌ (part_times parts)
  times_differ = subst (λ ts. AllPairs ◌≢◌ ts) (sym times_is) (pairs_one ◌≢◌ v)

  texts_differ : AllPairs ◌≢◌ (part_texts parts)
  texts_differ = subst (λ ts. AllPairs ◌≢◌ ts) (sym none) (pairs_none ◌≢◌)

  few_texts : length (part_texts parts) ≤ 8
  few_texts = let e : length (part_texts parts) ≡ 0 = ap length none in omega (arith, e)

  few_times : length (part_times parts) ≤ 8
  few_times = omega (arith, one)

  -- ---- a set of numbers

  module _ (tuples : List ℤ → List ℕ → Type 0) (line : (xs : List ℤ) (ns : List ℕ) → tuples xs ns → (x : ℤ) × (xs ≡ x ∷ []) × (ns ≡ [])) where
    abbrev numbers : Assignment → Type 0
    numbers env = tuples (env.times v ∷ []) []

    number_tuples : AreTuplesOf domain (part_times parts) (part_texts parts) tuples numbers
    number_tuples = record {
      to = λ env ns a h. subst (λ xs. tuples xs []) (ap (λ ts. map env.times ts) times_is) (subst (λ ms. tuples (map env.times (part_times parts)) ms) (line (map env.times (part_times parts)) ns h).2 h);
      from = λ env m. ([], subst (λ ts. AreTexts domain [] (map env.texts ts)) (sym none) tt, subst (λ ts. tuples (map env.times ts) []) (sym times_is) m);
      times_count = λ xs ns h. ap length (line xs ns h).1 ∙ sym one;
      texts_count = λ xs ns h. ap length (line xs ns h).2 ∙ sym (ap length none);
      known = λ xs ns h i d low. absurd (let e : length ns ≡ 0 = ap length (line xs ns h).2 in omega (arith, e, low));
    }

    -- a part without bounds that has just its numbers
    pub lone_part : Ascends domain → (k cap : ℕ) → k ≡ nat_abs period → (start out : StoreView) → start ≡ empty_store (part_times parts) (part_texts parts) k → IsAdded tuples cap 0 start out → (made : Table) → made.vars.times ≡ part_times parts → made.vars.texts ≡ part_texts parts → made.store ≡ out
        → IsPartOfSet domain (part_times parts) (part_texts parts) period numbers made × HasReach made.store 0
    lone_part ascends k cap word start out fresh added made et ex es =
        let low : 0 < k = subst (λ n. 0 < n) (sym word) (positive period can.period_is.low) in
        let free : HasReach made.store 0 = subst (λ s. HasReach s 0) (sym es) (step_reach domain ascends (part_times parts) (part_texts parts) times_differ texts_differ few_times few_texts k low tuples numbers number_tuples cap start out fresh 0 added) in
        let is : IsTableOf domain (part_times parts) (part_texts parts) k numbers made = step_table domain ascends (part_times parts) (part_texts parts) times_differ texts_differ few_times few_texts k low tuples numbers number_tuples cap start out fresh 0 added made et ex es in (
          part_of_table (subst (λ n. IsTableOf domain (part_times parts) (part_texts parts) n numbers made) word is) (subst IsStore (sym es) added.grown.valid) (farther made.store 0 (2 ^ 59) (omega arith) free) can.period_is.low (Divides-self period),
          free,
        )

  module _ (covers : List Cover) (are : AreCoversOf parts covers) where
    abbrev set : Assignment → Type 0
    set = IsComplementOf domain (part_texts parts) (HasSome domain parts)

    pub to_open : (env : Assignment) (xs : List ℤ) (ns : List ℕ) → xs ≡ env.times v ∷ [] → IsLeftOpen covers xs ns → set env
    to_open env xs ns e h = record {
      known = subst (λ ts. HasTexts domain ts env) (sym none) tt;
      none = λ s.
          let c = are.of_part s.part s.listed in
          let held = has_number s.part s.listed env s.has in
          let same : env.times v ≡ h.number = (let f : env.times v ∷ [] ≡ h.number ∷ [] = sym e ∙ h.times_are in cc) in
          h.uncovered c.0 c.1 (c.2.whole h.number (subst (λ x. InStore s.part.store (x ∷ []) []) same held));
    }

    pub from_open : (env : Assignment) → set env → IsLeftOpen covers (env.times v ∷ []) []
    from_open env m = record {
      number = env.times v;
      times_are = refl;
      none = refl;
      uncovered = λ cover k c. let p = are.of_cover cover k in m.none (record { part = p.0; listed = p.1; has = number_has p.0 p.1 env (p.2.sound (env.times v) c) });
    }

    are_tuples : AreTuplesOf domain (part_times parts) (part_texts parts) (IsLeftOpen covers) set
    are_tuples = record {
      to = λ env ns a h. to_open env (map env.times (part_times parts)) ns (ap (λ ts. map env.times ts) times_is) h;
      from = λ env m. ([], subst (λ ts. AreTexts domain [] (map env.texts ts)) (sym none) tt, subst (λ ts. IsLeftOpen covers (map env.times ts) []) (sym times_is) (from_open env m));
      times_count = λ xs ns h. ap length h.times_are ∙ sym one;
      texts_count = λ xs ns h. ap length h.none ∙ sym (ap length none);
      known = λ xs ns h i d low. absurd (let e : length ns ≡ 0 = ap length h.none in omega (arith, e, low));
    }

    module _ (ascends : Ascends domain) (k cap : ℕ) (low : 0 < k) (start out : StoreView) (fresh : start ≡ empty_store (part_times parts) (part_texts parts) k) (added : IsAdded (IsLeftOpen covers) cap 0 start out) where
      pub sifted_table : (made : Table) → made.vars.times ≡ part_times parts → made.vars.texts ≡ part_texts parts → made.store ≡ out → IsTableOf domain (part_times parts) (part_texts parts) k (IsComplementOf domain (part_texts parts) (HasSome domain parts)) made
      sifted_table = step_table domain ascends (part_times parts) (part_texts parts) times_differ texts_differ few_times few_texts k low (IsLeftOpen covers) set are_tuples cap start out fresh 0 added

      sifted_free : HasReach out 0
      sifted_free = step_reach domain ascends (part_times parts) (part_texts parts) times_differ texts_differ few_times few_texts k low (IsLeftOpen covers) set are_tuples cap start out fresh 0 added

    -- and its part
    module _ (ascends : Ascends domain) (cap : ℕ) (start out : StoreView) (fresh : start ≡ empty_store (part_times parts) (part_texts parts) (nat_abs period)) (added : IsAdded (IsLeftOpen covers) cap 0 start out) where
      pub sifted_is : (made : Table) → made.vars.times ≡ part_times parts → made.vars.texts ≡ part_texts parts → made.store ≡ out → IsSifted domain period parts made
      sifted_is made et ex es =
          let low : 0 < nat_abs period = positive period can.period_is.low in
          let free : HasReach made.store 0 = subst (λ s. HasReach s 0) (sym es) (sifted_free ascends (nat_abs period) cap low start out fresh added) in
          let is : IsTableOf domain (part_times parts) (part_texts parts) (nat_abs period) (IsComplementOf domain (part_texts parts) (HasSome domain parts)) made = sifted_table ascends (nat_abs period) cap low start out fresh added made et ex es in
          record {
            part = part_of_table is (subst IsStore (sym es) added.grown.valid) (farther made.store 0 (2 ^ 59) (omega arith) free) can.period_is.low (Divides-self period);
            period_is = ap (λ n. pos n) is.period_is ∙ natural period can.period_is.low;
            free = free;
          }

  -- ---- the sieve of a period

  pub some_residues : {covers : List Cover} → AreCoversOf parts covers → (cover : Cover) → Contains covers cover → 0 < length cover.residues
  some_residues are cover k = let p = are.of_cover cover k in let low : 0 < p.0.store.period = (can.parts_are.each p.0 p.1).valid.period_low in let e : length cover.residues ≡ p.0.store.period = p.2.count in omega (arith, low, e)

  pub can_sift : {covers : List Cover} {start : StoreView} {times texts : List Identifier} {k : ℕ} → AreCoversOf parts covers → times ≡ part_times parts → texts ≡ part_texts parts → pos k ≡ period → IsStore start → start ≡ empty_store times texts k → CanSift covers k start
  can_sift {covers} {start} {times} {texts} {k} are t x e valid fresh = record {
    line = record {
      valid = valid;
      times = ap (λ (s : StoreView). s.shape.times) fresh ∙ ap length t ∙ one;
      texts = ap (λ (s : StoreView). s.shape.texts) fresh ∙ ap length (x ∙ none);
    };
    period_is = ap (λ (s : StoreView). s.period) fresh;
    low = (let l : pos 1 ≤ℤ period = can.period_is.low in omega (arith, ints, l, e));
    divide = λ cover c. let p = are.of_cover cover c in subst (λ n. Divides (pos n) (pos k)) (sym p.2.count) (subst (Divides (pos p.0.store.period)) (sym e) (can.parts_are.each p.0 p.1).divides);
    some = some_residues are;
  }
