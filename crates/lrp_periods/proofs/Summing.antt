-- Parts inhabit no more cells together than each of them by itself.
use Rattle.std.proofs.Common.{◌≡◌, ◌⊎◌, inl, inr, ⊎_elim, ℕ, zero, suc, ◌+◌, ◌<◌, ◌≤◌, List, [], ◌∷◌, length, take, drop, Contains, get_or, refl, sym, subst, arith}
use Rattle.std.specs.Prelude.{pos, AllPairs}
use Rattle.std.specs.List.{AllByRecursion}
use Rattle.std.proofs.lemmas.List.{length-take-le, take-append-drop, take_all}
use Rattle.lrp_theory.proofs.Members.{below_or, front_more, head_in, in_cons, in_one, later, pairs_append, pairs_none, pairs_one}
use Rattle.lrp_model.specs.Cells.{Differ, Many}
use Rattle.lrp_model.specs.Texts.{Ascends, Identifier, Text}
use Rattle.lrp_model.specs.Satisfaction.{Assignment}
use Rattle.lrp_tables.specs.declared.table.Table.{Table}
use Rattle.lrp_tables.specs.Caps.{Inhabits, InhabitsMoreThan}
use Rattle.lrp_tables.specs.Tables.{HasAssignment, named_variables}
use Rattle.lrp_tables.proofs.Mapped.{many_map}
use Rattle.lrp_tables.proofs.Named.{pairs_left}
use Rattle.lrp_periods.specs.Bounding.{HaveFewCells, TableHasFewCells}
use Rattle.lrp_periods.specs.Parts.{AreParts, HasSome, part_times, part_texts}
use Rattle.lrp_periods.proofs.Gathering.{Set, some_none, some_split}

-- ---- lists of which each element is of one kind or another

module _ {C : Type 0} (differ : C → C → Type 0) where
  pairs_tail : (x : C) (xs : List C) → AllPairs differ (x ∷ xs) → AllPairs differ xs
  pairs_tail x xs h i j d lt below = h (suc i) (suc j) d (omega arith) (omega arith)

  pairs_head : (x : C) (xs : List C) → AllPairs differ (x ∷ xs) → (y : C) → Contains xs y → differ x y
  pairs_head x xs h y k = let low : k.0 < length xs = k.1 in subst (differ x) k.2 (h 0 (suc k.0) y (omega arith) (omega arith))

  record Split (P Q : C → Type 0) (xs : List C) : Type 0 where
    firsts : List C
    seconds : List C
    first_pairs : AllPairs differ firsts
    second_pairs : AllPairs differ seconds
    first_each : AllByRecursion P firsts
    second_each : AllByRecursion Q seconds
    first_in : (c : C) → Contains firsts c → Contains xs c
    second_in : (c : C) → Contains seconds c → Contains xs c
    count : length firsts + length seconds ≡ length xs

  module _ (P Q : C → Type 0) where
    first_more : (x : C) (xs : List C) → AllPairs differ (x ∷ xs) → P x → Split P Q xs → Split P Q (x ∷ xs)
    first_more x xs h p s = record {
      firsts = x ∷ s.firsts;
      seconds = s.seconds;
      first_pairs = pairs_append differ (x ∷ []) s.firsts (pairs_one differ x) s.first_pairs (λ y z k l. subst (λ w. differ w z) (in_one x y k) (pairs_head x xs h z (s.first_in z l)));
      second_pairs = s.second_pairs;
      first_each = (p, s.first_each);
      second_each = s.second_each;
      first_in = λ c k. ⊎_elim (λ e. subst (Contains (x ∷ xs)) e (head_in x xs)) (λ l. later x xs c (s.first_in c l)) (in_cons x s.firsts c k);
      second_in = λ c k. later x xs c (s.second_in c k);
      count = (let e = s.count in omega arith);
    }

    second_more : (x : C) (xs : List C) → AllPairs differ (x ∷ xs) → Q x → Split P Q xs → Split P Q (x ∷ xs)
    second_more x xs h q s = record {
      firsts = s.firsts;
      seconds = x ∷ s.seconds;
      first_pairs = s.first_pairs;
      second_pairs = pairs_append differ (x ∷ []) s.seconds (pairs_one differ x) s.second_pairs (λ y z k l. subst (λ w. differ w z) (in_one x y k) (pairs_head x xs h z (s.second_in z l)));
      first_each = s.first_each;
      second_each = (q, s.second_each);
      first_in = λ c k. later x xs c (s.first_in c k);
      second_in = λ c k. ⊎_elim (λ e. subst (Contains (x ∷ xs)) e (head_in x xs)) (λ l. later x xs c (s.second_in c l)) (in_cons x s.seconds c k);
      count = (let e = s.count in omega arith);
    }

    split : (xs : List C) → AllPairs differ xs → AllByRecursion (λ c. P c ⊎ Q c) xs → Split P Q xs
    split [] h each = record { firsts = []; seconds = []; first_pairs = pairs_none differ; second_pairs = pairs_none differ; first_each = tt; second_each = tt; first_in = λ c k. k; second_in = λ c k. k; count = refl }
    split (x ∷ xs) h each = ⊎_elim (λ p. first_more x xs h p (split xs (pairs_tail x xs h) each.1)) (λ q. second_more x xs h q (split xs (pairs_tail x xs h) each.1)) each.0

  all_take : (P : C → Type 0) (n : ℕ) (xs : List C) → AllByRecursion P xs → AllByRecursion P (take n xs)
  all_take P zero xs each = tt
  all_take P (suc n) [] each = tt
  all_take P (suc n) (x ∷ xs) each = (each.0, all_take P n xs each.1)

  -- a long list has many
  many_of : (P : C → Type 0) (n : ℕ) (xs : List C) → AllPairs differ xs → AllByRecursion P xs → n < length xs → Many differ P n
  many_of P n xs h each long = record {
    cells = take (n + 1) xs;
    count = length-take-le (n + 1) xs (omega arith);
    apart = pairs_left differ (take (n + 1) xs) (drop (n + 1) xs) (subst (AllPairs differ) (sym (take-append-drop (n + 1) xs)) h);
    each = all_take P (n + 1) xs each;
  }

  pub many_either : (P Q : C → Type 0) (a b : ℕ) → (Many differ P a → ⊥) → (Many differ Q b → ⊥) → Many differ (λ c. P c ⊎ Q c) (a + b) → ⊥
  many_either P Q a b few_p few_q m =
      let s = split P Q m.cells m.apart m.each in
      elim (below_or a (length s.firsts)) [
        | inl more ↦ few_p (many_of P a s.firsts s.first_pairs s.first_each more)
        | inr le ↦ elim (below_or b (length s.seconds)) [
          | inl more ↦ few_q (many_of Q b s.seconds s.second_pairs s.second_each more)
          | inr lf ↦ (let e = s.count in let c = m.count in absurd (omega arith))
        ]
      ]

  no_more : (P : C → Type 0) (n : ℕ) (xs : List C) → length xs ≡ n + 1 → AllByRecursion P xs → ((c : C) → P c → ⊥) → ⊥
  no_more P n [] e each none = absurd (omega arith)
  no_more P n (x ∷ xs) e each none = none x each.0

  pub many_none : (P : C → Type 0) (n : ℕ) → ((c : C) → P c → ⊥) → Many differ P n → ⊥
  many_none P n none m = no_more P n m.cells m.count m.each none

-- ---- sets of assignments

module _ (domain : List Text) (period : ℕ) (times texts : List Identifier) where
  pub nothing_inhabits : (set : Set) (cap : ℕ) → ((env : Assignment) → set env → ⊥) → InhabitsMoreThan cap domain period times texts set → ⊥
  nothing_inhabits set cap none m = many_none (Differ (named_variables times texts)) (Inhabits domain period (named_variables times texts) set) cap (λ c h. none h.witness h.member) m

  pub either_inhabits : (first second both : Set) (a b : ℕ) → ((env : Assignment) → both env → first env ⊎ second env) → (InhabitsMoreThan a domain period times texts first → ⊥) → (InhabitsMoreThan b domain period times texts second → ⊥) → InhabitsMoreThan (a + b) domain period times texts both → ⊥
  either_inhabits first second both a b is few_first few_second m =
      many_either (Differ (named_variables times texts)) (Inhabits domain period (named_variables times texts) first) (Inhabits domain period (named_variables times texts) second) a b few_first few_second
      (many_map (λ c. c) (Differ (named_variables times texts)) (Differ (named_variables times texts)) (Inhabits domain period (named_variables times texts) both) _
      (λ c h. ⊎_elim (λ p. inl (record { witness = h.witness; inside = h.inside; member = p })) (λ q. inr (record { witness = h.witness; inside = h.inside; member = q })) (is h.witness h.member)) (λ x y p q d. d) (a + b) m)

-- a set inhabits as many cells as a part of it
pub more_of : (cap : ℕ) (domain : List Text) (K : ℕ) (times texts : List Identifier) (part whole : Set) → ((env : Assignment) → part env → whole env) → InhabitsMoreThan cap domain K times texts part → InhabitsMoreThan cap domain K times texts whole
more_of cap domain K times texts part whole is =
    many_map (λ c. c) (Differ (named_variables times texts)) (Differ (named_variables times texts)) (Inhabits domain K (named_variables times texts) part) (Inhabits domain K (named_variables times texts) whole)
    (λ c h. record { witness = h.witness; inside = h.inside; member = is h.witness h.member }) (λ a b x y d. d) cap

-- ---- the first parts

-- the first n parts inhabit no more cells than so many
abbrev pub FirstHaveFew : ℕ → ℕ → List Table → ℕ → Type 0
FirstHaveFew count period parts n = (domain : List Text) → Ascends domain → AreParts domain (pos period) parts → InhabitsMoreThan count domain period (part_times parts) (part_texts parts) (HasSome domain (take n parts)) → ⊥

pub first_none : (count period : ℕ) (parts : List Table) (n : ℕ) → n ≡ 0 → FirstHaveFew count period parts n
first_none count period parts n e domain ascends are m = nothing_inhabits domain period (part_times parts) (part_texts parts) (HasSome domain (take n parts)) count (λ env h. some_none domain env (subst (λ k. HasSome domain (take k parts) env) e h)) m

pub first_more_parts : (count more new period : ℕ) (parts : List Table) (n : ℕ) (part : Table) → n < length parts → part ≡ get_or parts n part → Contains parts part → FirstHaveFew count period parts n → TableHasFewCells more period part → new ≡ count + more → FirstHaveFew new period parts (n + 1)
first_more_parts count more new period parts n part low at listed first own e domain ascends are m =
    let is = are.each part listed in
    either_inhabits domain period (part_times parts) (part_texts parts) (HasSome domain (take n parts)) (HasAssignment part domain) (HasSome domain (take (n + 1) parts)) count more
    (λ env h. some_split domain (take n parts) part env (subst (λ ps. HasSome domain ps env) (front_more parts n part low at) h))
    (first domain ascends are)
    (λ k. own domain ascends is.numbered (subst (λ ns. InhabitsMoreThan more domain period part.vars.times ns (HasAssignment part domain)) (sym is.texts_are) (subst (λ ns. InhabitsMoreThan more domain period ns (part_texts parts) (HasAssignment part domain)) (sym is.times_are) k)))
    (subst (λ c. InhabitsMoreThan c domain period (part_times parts) (part_texts parts) (HasSome domain (take (n + 1) parts))) e m)

pub first_all : (count period : ℕ) (parts : List Table) (n : ℕ) → length parts ≤ n → FirstHaveFew count period parts n → HaveFewCells count period parts
first_all count period parts n high first domain ascends are m = first domain ascends are (subst (λ ps. InhabitsMoreThan count domain period (part_times parts) (part_texts parts) (HasSome domain ps)) (sym (take_all n parts high)) m)

-- where no more than so many are inhabited, no more than a greater number are
pub many_fewer : {C : Type 0} (differ : C → C → Type 0) (P : C → Type 0) (count cap : ℕ) → count ≤ cap → Many differ P cap → Many differ P count
many_fewer differ P count cap low m = many_of differ P count m.cells m.apart m.each (let c = m.count in omega arith)

pub have_fewer : (count cap period : ℕ) (parts : List Table) → count ≤ cap → HaveFewCells count period parts → HaveFewCells cap period parts
have_fewer count cap period parts low few domain ascends are m =
    few domain ascends are (many_fewer (Differ (named_variables (part_times parts) (part_texts parts))) (Inhabits domain period (named_variables (part_times parts) (part_texts parts)) (HasSome domain parts)) count cap low m)

pub table_fewer : (count cap period : ℕ) (table : Table) → count ≤ cap → TableHasFewCells count period table → TableHasFewCells cap period table
table_fewer count cap period table low few domain ascends numbered m =
    few domain ascends numbered (many_fewer (Differ (named_variables table.vars.times table.vars.texts)) (Inhabits domain period (named_variables table.vars.times table.vars.texts) (HasAssignment table domain)) count cap low m)
