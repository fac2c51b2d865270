-- As many different names as are counted: a list of different names among others is no longer than these.
use Rattle.std.proofs.Common.{◌≡◌, ◌≢◌, ◌⊎◌, ⊎_elim, inl, inr, ◌≤◌, ◌+◌, ℕ, suc, Bool, true, false, cond, not, ◌||◌, List, [], ◌∷◌, length, Option, Some, None, Contains, refl, sym, ap, subst, ◌∙◌, bytes_eq, arith}
use Rattle.std.specs.Prelude.{if◌then◌else◌, nat_lt}
use Rattle.std.specs.List.{AllByRecursion}
use Rattle.std.specs.Cmp.Lexicographic.{bytes_decides}
use Rattle.std.proofs.lemmas.Bool.{ltb-false}
use Rattle.lrp_model.specs.Texts.{Identifier, without, AreDistinct}
use Rattle.lrp_model.specs.Sorts.{is_time, is_data}
use Rattle.lrp_model.specs.Faults.{is_named_in}
use Rattle.lrp_model.specs.Variables.{Variable, time_variable, data_variable}
use Rattle.lrp_model.specs.Sorting.{Binders, binder_sort, counted, count, too_many}
use Rattle.lrp_model.specs.declared.relations.Sort.{Sort}
use Rattle.lrp_model.specs.declared.relations.Sort.TheVariants.{Time, Data, Named}
use Rattle.lrp_model.proofs.Decided.{cons_cases, contains_first, contains_later, contains_none}
use Rattle.lrp_plan_laws.specs.Made.{IsDataSort}
use Rattle.lrp_plan_laws.specs.Scopes.{IsNarrow}
use Rattle.lrp_plan_laws.proofs.Members.{all_of, all_map}
use Rattle.lrp_plan_laws.proofs.SortedNames.{Occurs, same_name}

-- ---- without one name

-- names that pass as different are different
other_is : (m n : Identifier) → bytes_eq m n ≡ false → m ≢ n
other_is m n e same = let t : bytes_eq m n ≡ true = (bytes_decides m n).1 same in cc

-- names that all differ from m stay
keep_all : (m : Identifier) (ns : List Identifier) → AllByRecursion (λ n. m ≢ n) ns → length ns ≤ length (without m ns)
keep_all m [] h = omega arith
keep_all m (n ∷ ns) h = at_name (bytes_eq m n) refl (keep_all m ns h.1)
  where
    at_name : (b : Bool) → bytes_eq m n ≡ b → length ns ≤ length (without m ns) → suc (length ns) ≤ length (cond (not b) (n ∷ without m ns) (without m ns))
    at_name true e le = absurd (h.0 (same_name m n e))
    at_name false e le = omega arith

-- of different names one at most is m
one_less : (m : Identifier) (ns : List Identifier) → AreDistinct ns → length ns ≤ suc (length (without m ns))
one_less m [] h = omega arith
one_less m (n ∷ ns) h = at_name (bytes_eq m n) refl (one_less m ns h.1)
  where
    at_name : (b : Bool) → bytes_eq m n ≡ b → length ns ≤ suc (length (without m ns)) → suc (length ns) ≤ suc (length (cond (not b) (n ∷ without m ns) (without m ns)))
    at_name true e le = let k : length ns ≤ length (without m ns) = keep_all m ns (all_map (λ k. n ≢ k) (λ k. m ≢ k) ns (λ k ne same. ne (sym (same_name m n e) ∙ same)) h.0) in omega arith
    at_name false e le = omega arith

-- what holds of names holds of those other than m, and these differ from m
left_over : (p : Identifier → Type 0) (m : Identifier) (ns : List Identifier) → AllByRecursion p ns → AllByRecursion (λ n. p n × (m ≢ n)) (without m ns)
left_over p m [] h = tt
left_over p m (n ∷ ns) h = at_name (bytes_eq m n) refl (left_over p m ns h.1)
  where
    at_name : (b : Bool) → bytes_eq m n ≡ b → AllByRecursion (λ k. p k × (m ≢ k)) (without m ns) → AllByRecursion (λ k. p k × (m ≢ k)) (cond (not b) (n ∷ without m ns) (without m ns))
    at_name true e rest = rest
    at_name false e rest = ((h.0, other_is m n e), rest)

-- what holds of names holds of those other than m
without_all : (p : Identifier → Type 0) (m : Identifier) (ns : List Identifier) → AllByRecursion p ns → AllByRecursion p (without m ns)
without_all p m ns h = all_map (λ n. p n × (m ≢ n)) p (without m ns) (λ n x. x.0) (left_over p m ns h)

-- different names stay different without m
different_left : (m : Identifier) (ns : List Identifier) → AreDistinct ns → AreDistinct (without m ns)
different_left m [] h = tt
different_left m (n ∷ ns) h = at_name (bytes_eq m n) (different_left m ns h.1)
  where
    at_name : (b : Bool) → AreDistinct (without m ns) → AreDistinct (cond (not b) (n ∷ without m ns) (without m ns))
    at_name true rest = rest
    at_name false rest = (without_all (λ k. n ≢ k) m ns h.0, rest)

-- ---- no more than there are

-- a member other than the first is one of the others
other_member : (m n : Identifier) (ms : List Identifier) → Contains (m ∷ ms) n → (m ≢ n) → Contains ms n
other_member m n ms c ne = ⊎_elim (λ e. absurd (ne e)) (λ d. d) (cons_cases m n ms c)

-- different names among others are no more than these
pub no_more : (all names : List Identifier) → AreDistinct names → AllByRecursion (Contains all) names → length names ≤ length all
no_more [] [] d h = omega arith
no_more [] (n ∷ ns) d h = absurd (contains_none n h.0)
no_more (m ∷ ms) names d h =
    let rest : length (without m names) ≤ length ms = no_more ms (without m names) (different_left m names d) (all_map (λ n. Contains (m ∷ ms) n × (m ≢ n)) (Contains ms) (without m names) (λ n x. other_member m n ms x.0 x.1) (left_over (Contains (m ∷ ms)) m names h)) in
    let one : length names ≤ suc (length (without m names)) = one_less m names d in omega arith

-- ---- the names that are counted

-- a name that passes as one of a list is one of it
named_is : (ns : List Identifier) (n : Identifier) → is_named_in ns n ≡ true → Contains ns n
named_is [] n e = cc
named_is (m ∷ ms) n e = at_name (bytes_eq n m) refl e (named_is ms n)
  where
    at_name : (b : Bool) → bytes_eq n m ≡ b → (b || is_named_in ms n) ≡ true → (is_named_in ms n ≡ true → Contains ms n) → Contains (m ∷ ms) n
    at_name true s h rest = subst (Contains (m ∷ ms)) (sym (same_name n m s)) (contains_first m ms)
    at_name false s h rest = contains_later m n ms (rest h)

-- the name before these, where its sort passes
abbrev chosen : (Sort → Bool) → Option Sort → Identifier → List Identifier → List Identifier
chosen passes None n ms = ms
chosen passes (Some s) n ms = cond (passes s) (n ∷ ms) ms

-- each name once, where its binder's sort passes
abbrev tally : (Sort → Bool) → Binders → List Identifier → List Identifier
tally passes bs [] = []
tally passes bs (n ∷ ns) = cond (is_named_in ns n) (tally passes bs ns) (chosen passes (binder_sort bs n) n (tally passes bs ns))

module _ (passes : Sort → Bool) (bs : Binders) where
  -- they are as many as are counted
  counted_as : (o : Option Sort) (n : Identifier) (ms : List Identifier) (k : ℕ) → length ms ≡ k → length (chosen passes o n ms) ≡ counted passes o + k
  counted_as None n ms k e = omega arith
  counted_as (Some s) n ms k e = by_pass (passes s)
    where
      by_pass : (b : Bool) → length (cond b (n ∷ ms) ms) ≡ (if b then 1 else 0) + k
      by_pass true = omega arith
      by_pass false = omega arith

  -- the tally is as long as the count
  tally_counts : (ns : List Identifier) → length (tally passes bs ns) ≡ count passes bs ns
  tally_counts [] = refl
  tally_counts (n ∷ ns) = by_named (is_named_in ns n) (tally_counts ns)
    where
      by_named : (b : Bool) → length (tally passes bs ns) ≡ count passes bs ns → length (cond b (tally passes bs ns) (chosen passes (binder_sort bs n) n (tally passes bs ns))) ≡ (if b then count passes bs ns else counted passes (binder_sort bs n) + count passes bs ns)
      by_named true e = e
      by_named false e = counted_as (binder_sort bs n) n (tally passes bs ns) (count passes bs ns) e

  -- each name whose sort passes is among them
  in_chosen : (o : Option Sort) (n : Identifier) (ms : List Identifier) (s : Sort) → o ≡ Some s → passes s ≡ true → Contains (chosen passes o n ms) n
  in_chosen None n ms s e p = cc
  in_chosen (Some t) n ms s e p = let same : passes t ≡ true = ap (λ o. passes_of o) e ∙ p in subst (λ b. Contains (cond b (n ∷ ms) ms) n) (sym same) (contains_first n ms)
    where
      passes_of : Option Sort → Bool
      passes_of None = true
      passes_of (Some u) = passes u

  -- a name after a chosen one
  past_chosen : (o : Option Sort) (m n : Identifier) (ms : List Identifier) → Contains ms n → Contains (chosen passes o m ms) n
  past_chosen None m n ms c = c
  past_chosen (Some t) m n ms c = by_pass (passes t)
    where
      by_pass : (b : Bool) → Contains (cond b (m ∷ ms) ms) n
      by_pass true = contains_later m n ms c
      by_pass false = c

  -- each name whose sort passes is in the tally
  in_tally : (ns : List Identifier) (n : Identifier) (s : Sort) → Contains ns n → binder_sort bs n ≡ Some s → passes s ≡ true → Contains (tally passes bs ns) n
  in_tally [] n s c e p = absurd (contains_none n c)
  in_tally (m ∷ ms) n s c e p = by_named (is_named_in ms m) refl (cons_cases m n ms c) (λ d. in_tally ms n s d e p)
    where
      by_named : (b : Bool) → is_named_in ms m ≡ b → ((m ≡ n) ⊎ Contains ms n) → (Contains ms n → Contains (tally passes bs ms) n) → Contains (cond b (tally passes bs ms) (chosen passes (binder_sort bs m) m (tally passes bs ms))) n
      by_named true h (inl same) rest = rest (subst (Contains ms) same (named_is ms m h))
      by_named true h (inr d) rest = rest d
      by_named false h (inl same) rest = subst (Contains (chosen passes (binder_sort bs m) m (tally passes bs ms))) same (in_chosen (binder_sort bs m) m (tally passes bs ms) s (ap (binder_sort bs) same ∙ e) p)
      by_named false h (inr d) rest = past_chosen (binder_sort bs m) m n (tally passes bs ms) (rest d)

  -- different names of such a sort are no more than are counted
  few : (ns names : List Identifier) → AreDistinct names → AllByRecursion (λ n. Contains ns n × ((s : Sort) × (binder_sort bs n ≡ Some s) × (passes s ≡ true))) names → length names ≤ count passes bs ns
  few ns names d h =
      let k : length (tally passes bs ns) ≡ count passes bs ns = tally_counts ns in
      let l : length names ≤ length (tally passes bs ns) = no_more (tally passes bs ns) names d (all_map (λ n. Contains ns n × ((s : Sort) × (binder_sort bs n ≡ Some s) × (passes s ≡ true))) (Contains (tally passes bs ns)) names (λ n x. in_tally ns n x.1.0 x.0 x.1.1 x.1.2) h) in
      omega arith

-- ---- variables that are counted

-- where not the one or the other holds, neither does
neither : (a b : Bool) → (a || b) ≡ false → (a ≡ false) × (b ≡ false)
neither true b e = cc
neither false b e = (refl, e)

-- a data sort passes as one
data_passes : (s : Sort) → IsDataSort s → is_data s ≡ true
data_passes Time d = absurd d
data_passes Data d = refl
data_passes (Named n) d = refl

-- no sort is both that of times and a data sort
pub one_kind : (o : Option Sort) (s : Sort) → o ≡ Some Time → IsDataSort s → o ≡ Some s → ⊥
one_kind o Time e d f = d
one_kind o Data e d f = cc
one_kind o (Named n) e d f = cc

-- variables that occur among names that are not too many are narrow
pub narrow_by : (bs : Binders) (ns : List Identifier) (vs : List Variable) → AllByRecursion (Occurs ns bs) vs → too_many bs ns ≡ false → IsNarrow vs
narrow_by bs ns vs h wide =
    let x = neither (nat_lt 8 (count is_time bs ns)) (nat_lt 8 (count is_data bs ns)) wide in
    let times : count is_time bs ns ≤ 8 = ltb-false 8 (count is_time bs ns) x.0 in
    let texts : count is_data bs ns ≤ 8 = ltb-false 8 (count is_data bs ns) x.1 in
    record {
      times = λ names d all.
          let l : length names ≤ count is_time bs ns = few is_time bs ns names d (all_map (λ n. Contains vs (time_variable n)) (λ n. Contains ns n × ((s : Sort) × (binder_sort bs n ≡ Some s) × (is_time s ≡ true))) names
          (λ n c. let o : Occurs ns bs (time_variable n) = all_of (Occurs ns bs) vs (time_variable n) h c in (o.0, (Time, o.1, refl))) all) in
          omega arith;
      texts = λ names d all.
          let l : length names ≤ count is_data bs ns = few is_data bs ns names d (all_map (λ n. Contains vs (data_variable n)) (λ n. Contains ns n × ((s : Sort) × (binder_sort bs n ≡ Some s) × (is_data s ≡ true))) names
          (λ n c. let o : Occurs ns bs (data_variable n) = all_of (Occurs ns bs) vs (data_variable n) h c in (o.0, (o.1.0, o.1.2, data_passes o.1.0 o.1.1))) all) in
          omega arith;
      kinds = λ n c e.
          let a : Occurs ns bs (time_variable n) = all_of (Occurs ns bs) vs (time_variable n) h c in
          let b : Occurs ns bs (data_variable n) = all_of (Occurs ns bs) vs (data_variable n) h e in
          one_kind (binder_sort bs n) b.1.0 a.1 b.1.1 b.1.2;
    }
