-- A difference inhabits no more cells than what its right table lacks, times the choices of residues for the columns that only the left one has.
use Rattle.std.proofs.Common.{◌≡◌, ◌≢◌, inl, inr, ⊎_elim, ℕ, suc, Bool, true, false, cond, ◌+◌, ◌*◌, ◌<◌, ◌≤◌, List, [], ◌∷◌, ◌++◌, length, map, take, refl, sym, ap, subst, ◌∙◌, arith, Contains, get_or, slice_get, bytes_eq, not, Option, Some, None}
use Rattle.std.specs.Prelude.{ℤ, IfNone, IfSome, is_some, pos, nat_abs, ◌-ℤ◌, ◌≤ℤ◌, ◌<ℤ◌}
use Rattle.std.specs.FinMap as finite
use Rattle.std.specs.FinMap.{len-entries}
use Rattle.std.specs.List.{list_any}
use Rattle.std.proofs.lemmas.Int.{ints}
use Rattle.std.proofs.lemmas.List.{length-map, get_or_default}
use Rattle.std.proofs.lemmas.Option.{get_or_from_slice_get}
use Rattle.lrp_theory.specs.Divides.{Divides}
use Rattle.lrp_theory.specs.Entries.{node}
use Rattle.lrp_theory.proofs.Modulo.{Divides--, Divides-is, small_multiple}
use Rattle.lrp_model.specs.Cells.{FormCell, LiesIn, Agree, Differ, Many}
use Rattle.lrp_model.specs.Texts.{Text, Identifier}
use Rattle.lrp_model.specs.Satisfaction.{Assignment}
use Rattle.lrp_model.specs.Variables.{time_variable}
use Rattle.lrp_model.specs.declared.tuples.Cell.{Cell}
use Rattle.lrp_model.proofs.Decided.{cons_cases, contains_first, contains_later, contains_none}
use Rattle.lrp_store.specs.Stores.{HasReach, IsStore, LiesInCell}
use Rattle.lrp_tables.specs.declared.table.Table.{Table}
use Rattle.lrp_store.proofs.Counted.{lies_in}
use Rattle.lrp_tables.specs.Calls.{AreVariablesOf}
use Rattle.lrp_tables.specs.Caps.{Inhabits, InhabitsMoreThan}
use Rattle.lrp_tables.specs.Tables.{HasAssignment, HasTexts, IsMinus, IsComplement, IsTableOf, named_variables}
use Rattle.lrp_tables.proofs.CellsNamed.{mapped_at}
use Rattle.lrp_tables.proofs.Joining.{found_in, name_in, not_found_in}
use Rattle.lrp_tables.proofs.Numbers.{all_variables, number_of, number_is, number_low}
use Rattle.lrp_cutting.proofs.Lists.{got_in}
use Rattle.lrp_tables.proofs.Mapped.{Known, many_known, many_map}
use Rattle.lrp_eval.specs.Together.{HasComplement, IsSmallComplement, ways_at, ways_for}
use Rattle.lrp_eval.specs.declared.together.Sides.{Sides}
use Rattle.lrp_store.proofs.ZoneCounts.{key_is}
use Rattle.lrp_periods.proofs.WayLaws.{below, few_numbers, first_same, second_same}

-- ---- the number of choices

-- one column more
pub ways_more : (others : List Identifier) (period : ℕ) (names : List Identifier) (name : Identifier) → ways_for others period (names ++ name ∷ []) ≡ ways_for others period names * ways_at others period name
ways_more others period [] name = omega arith
ways_more others period (v ∷ vs) name = again (ways_at others period v) (ways_for others period vs) (ways_at others period name) _ (ways_more others period vs name)
  where
    again : (a b c d : ℕ) → d ≡ b * c → a * d ≡ (a * b) * c
    again a b c d e = rw e (omega arith)

-- a column that has a place among the others leaves no choice
pub ways_some : (others : List Identifier) (period : ℕ) (name : Identifier) (o : Option ℕ) (b : Bool) → is_some o ≡ not b → b ≡ false → IfSome o (λ place. slice_get others place ≡ Some name) → ways_at others period name ≡ 1
ways_some others period name (Some place) b e f s = ap (λ x. cond x 1 period) (found_in name others (got_in others place name s))
ways_some others period name None b e f s = absurd (cc)

pub ways_none : (others : List Identifier) (period : ℕ) (name : Identifier) (o : Option ℕ) (b : Bool) → is_some o ≡ not b → b ≡ true → IfNone o (Contains others name → ⊥) → ways_at others period name ≡ period
ways_none others period name (Some place) b e t n = absurd (cc)
ways_none others period name None b e t n = ap (λ x. cond x 1 period) (not_found_in name others n)

pub ways_step : (others : List Identifier) (period : ℕ) (names : List Identifier) (i : ℕ) (name : Identifier) (count new : ℕ) → take (i + 1) names ≡ take i names ++ name ∷ [] → count ≡ ways_for others period (take i names) → new ≡ count * ways_at others period name → new ≡ ways_for others period (take (i + 1) names)
ways_step others period names i name count new more e f = f ∙ ap (λ x. x * ways_at others period name) e ∙ sym (ways_more others period (take i names) name) ∙ ap (ways_for others period) (sym more)

pub same_count : (count way new : ℕ) → new ≡ count → way ≡ 1 → new ≡ count * way
same_count count way new e f = rw f (omega (arith, e))

-- ---- the choices of a cell

abbrev digit : List Identifier → FormCell → Identifier → ℕ
digit others c v = cond (list_any (bytes_eq v) others) 0 (nat_abs (c.residues v))

abbrev way : List Identifier → ℕ → List Identifier → FormCell → ℕ
way others period [] c = 0
way others period (v ∷ vs) c = way others period vs c * ways_at others period v + digit others c v

-- a residue of the period
abbrev InRange : ℕ → FormCell → Identifier → Type 0
InRange period c v = (pos 0 ≤ℤ c.residues v) × (c.residues v <ℤ pos period)

digit_low : (others : List Identifier) (period : ℕ) (c : FormCell) (v : Identifier) → InRange period c v → digit others c v < ways_at others period v
digit_low others period c v r = by (list_any (bytes_eq v) others)
  where
    by : (b : Bool) → cond b 0 (nat_abs (c.residues v)) < cond b 1 period
    by true = omega arith
    by false = omega (arith, ints, r.0, r.1)

way_low : (others : List Identifier) (period : ℕ) (vs : List Identifier) (c : FormCell) → ((v : Identifier) → Contains vs v → InRange period c v) → way others period vs c < ways_for others period vs
way_low others period [] c range = omega arith
way_low others period (v ∷ vs) c range =
    let l : way others period vs c * ways_at others period v + digit others c v < ways_for others period vs * ways_at others period v =
    below (ways_at others period v) (way others period vs c) (digit others c v) (ways_for others period vs) (way_low others period vs c (λ w k. range w (contains_later v w vs k))) (digit_low others period c v (range v (contains_first v vs))) in
    let e : ways_for others period vs * ways_at others period v ≡ ways_at others period v * ways_for others period vs = turned (ways_for others period vs) (ways_at others period v) in
    omega (arith, l, e)
  where
    turned : (a b : ℕ) → a * b ≡ b * a
    turned a b = omega arith

way_same : (others : List Identifier) (period : ℕ) (vs : List Identifier) (c d : FormCell) → ((v : Identifier) → Contains vs v → InRange period c v) → ((v : Identifier) → Contains vs v → InRange period d v)
    → way others period vs c ≡ way others period vs d → (v : Identifier) → Contains vs v → digit others c v ≡ digit others d v
way_same others period [] c d rc rd same v k = absurd (contains_none v k)
way_same others period (w ∷ vs) c d rc rd same v k =
    let lc : digit others c w < ways_at others period w = digit_low others period c w (rc w (contains_first w vs)) in
    let ld : digit others d w < ways_at others period w = digit_low others period d w (rd w (contains_first w vs)) in
    let front : way others period vs c ≡ way others period vs d = first_same (ways_at others period w) (way others period vs c) (way others period vs d) (digit others c w) (digit others d w) lc ld same in
    let here : digit others c w ≡ digit others d w = second_same (ways_at others period w) (way others period vs c) (way others period vs d) (digit others c w) (digit others d w) front same in
    ⊎_elim (λ e. subst (λ u. digit others c u ≡ digit others d u) e here)
    (λ l. way_same others period vs c d (λ u q. rc u (contains_later w u vs q)) (λ u q. rd u (contains_later w u vs q)) front v l)
    (cons_cases w v vs k)

-- ---- no texts

pub no_names : (names : List Identifier) → ((v : Identifier) → Contains names v → ⊥) → names ≡ []
no_names [] none = refl
no_names (v ∷ vs) none = absurd (none v (contains_first v vs))

pub no_texts : (domain : List Text) (names : List Identifier) (env : Assignment) → names ≡ [] → HasTexts domain names env
no_texts domain names env none = rw none tt

-- ---- cells of the difference

module _ {domain : List Text} {left right outside : Table} {period : ℕ} (valid : IsStore outside.store) (is : IsTableOf domain right.vars.times right.vars.texts period (IsComplement domain right) outside) (plain : left.vars.texts ≡ []) (columns : AreVariablesOf left right) where
  pub right_plain : right.vars.texts ≡ []
  right_plain = no_names right.vars.texts (λ v c. contains_none v (subst (λ vs. Contains vs v) plain (columns.texts v c)))

  abbrev OfCells : Type 0
  OfCells = Known (Inhabits domain period (named_variables left.vars.times left.vars.texts) (IsMinus domain left right))

  -- what the right table lacks has the cell's assignment
  in_complement : (k : OfCells) → HasAssignment outside domain k.1.witness
  in_complement k = is.whole k.1.witness (record { known = no_texts domain right.vars.texts k.1.witness right_plain; none = k.1.member.none })

  abbrev held : OfCells → Cell
  held k = (in_complement k).2.cell

  key : (k : OfCells) → Contains (finite.keys outside.store.tables) (held k)
  key k = key_is outside.store (held k) (in_complement k).2.table (in_complement k).2.held

  lies : (k : OfCells) (v : Identifier) → Contains left.vars.times v → LiesIn period domain k.1.witness k.0 (time_variable v)
  lies k = ((all_variables (LiesIn period domain k.1.witness k.0) left.vars.times left.vars.texts).0 k.1.inside).0

  range : (k : OfCells) (v : Identifier) → Contains left.vars.times v → InRange period k.0 v
  range k v c = let l = lies k v c in (l.0, l.1)

  -- in the held cell's column of this name
  agrees : (k : OfCells) (v : Identifier) → Contains left.vars.times v → Contains outside.vars.times v → Divides (pos period) (k.0.residues v -ℤ node (held k).residues (suc (number_of outside.vars.times v)))
  agrees k v l c =
      let i : number_of outside.vars.times v < length outside.vars.times = number_low outside.vars.times v c in
      let n : length outside.vars.times ≡ outside.store.shape.times = outside.times_named in
      let name : get_or outside.vars.times (number_of outside.vars.times v) [] ≡ v = get_or_from_slice_get outside.vars.times (number_of outside.vars.times v) v [] (number_is outside.vars.times v c) in
      let value : get_or (map k.1.witness.times outside.vars.times) (number_of outside.vars.times v) (pos 0) ≡ k.1.witness.times v = mapped_at k.1.witness.times (pos 0) outside.vars.times (number_of outside.vars.times v) i ∙ ap k.1.witness.times name in
      let inner : LiesInCell outside.store.shape outside.store.period (held k) (map k.1.witness.times outside.vars.times) (in_complement k).0 = lies_in outside.store valid (map k.1.witness.times outside.vars.times) (in_complement k).0 (in_complement k).2 in
      let a : Divides (pos period) (get_or (map k.1.witness.times outside.vars.times) (number_of outside.vars.times v) (pos 0) -ℤ node (held k).residues (suc (number_of outside.vars.times v))) =
      subst (λ p. Divides (pos p) (get_or (map k.1.witness.times outside.vars.times) (number_of outside.vars.times v) (pos 0) -ℤ node (held k).residues (suc (number_of outside.vars.times v)))) is.period_is (inner.residues (suc (number_of outside.vars.times v)) (omega arith)) in
      let b : Divides (pos period) (k.1.witness.times v -ℤ node (held k).residues (suc (number_of outside.vars.times v))) = subst (λ x. Divides (pos period) (x -ℤ node (held k).residues (suc (number_of outside.vars.times v)))) value a in
      Divides-is (pos period) ((k.1.witness.times v -ℤ node (held k).residues (suc (number_of outside.vars.times v))) -ℤ (k.1.witness.times v -ℤ k.0.residues v)) (k.0.residues v -ℤ node (held k).residues (suc (number_of outside.vars.times v))) (omega (arith, ints))
      (Divides-- (pos period) _ _ b (lies k v l).2)

  -- two cells in one held cell have the same residue there
  shared_same : (a b : OfCells) → held a ≡ held b → (v : Identifier) → Contains left.vars.times v → Contains outside.vars.times v → a.0.residues v ≡ b.0.residues v
  shared_same a b same v l c =
      let ra = range a v l in
      let rb = range b v l in
      let d : Divides (pos period) (a.0.residues v -ℤ b.0.residues v) = Divides-is (pos period) ((a.0.residues v -ℤ node (held b).residues (suc (number_of outside.vars.times v))) -ℤ (b.0.residues v -ℤ node (held b).residues (suc (number_of outside.vars.times v)))) (a.0.residues v -ℤ b.0.residues v) (omega (arith, ints))
      (Divides-- (pos period) _ _ (subst (λ (h : Cell). Divides (pos period) (a.0.residues v -ℤ node h.residues (suc (number_of outside.vars.times v)))) same (agrees a v l c)) (agrees b v l c)) in
      near (a.0.residues v) (b.0.residues v) ra.0 ra.1 rb.0 rb.1 d
    where
      near : (r t : ℤ) → pos 0 ≤ℤ r → r <ℤ pos period → pos 0 ≤ℤ t → t <ℤ pos period → Divides (pos period) (r -ℤ t) → r ≡ t
      near r t ra rb ta tb d = let z : r -ℤ t ≡ pos 0 = small_multiple period (r -ℤ t) d (omega (arith, ints)) (omega (arith, ints)) in omega (arith, ints)

  -- and in the other columns, where they are chosen in one way
  other_same : (a b : OfCells) (v : Identifier) → Contains left.vars.times v → (Contains right.vars.times v → ⊥) → digit right.vars.times a.0 v ≡ digit right.vars.times b.0 v → a.0.residues v ≡ b.0.residues v
  other_same a b v l none same =
      let e : list_any (bytes_eq v) right.vars.times ≡ false = not_found_in v right.vars.times none in
      let s : nat_abs (a.0.residues v) ≡ nat_abs (b.0.residues v) = subst (λ x. cond x 0 (nat_abs (a.0.residues v)) ≡ cond x 0 (nat_abs (b.0.residues v))) e same in
      let ra : pos 0 ≤ℤ a.0.residues v = (range a v l).0 in
      let rb : pos 0 ≤ℤ b.0.residues v = (range b v l).0 in
      omega (arith, ints)

  abbrev ways : ℕ
  ways = ways_for right.vars.times period left.vars.times

  abbrev chosen : OfCells → ℕ
  chosen k = way right.vars.times period left.vars.times k.0

  chosen_low : (k : OfCells) → chosen k < ways
  chosen_low k = way_low right.vars.times period left.vars.times k.0 (range k)

  abbrev code : OfCells → ℕ
  code k = (key k).0 * ways + chosen k

  code_low : (k : OfCells) → code k < finite.len outside.store.tables * ways
  code_low k =
      let a : (key k).0 < length (finite.keys outside.store.tables) = (key k).1 in
      let b : length (finite.keys outside.store.tables) ≡ finite.len outside.store.tables = length-map (finite.entries outside.store.tables) _ ∙ sym (len-entries outside.store.tables) in
      below ways (key k).0 (chosen k) (finite.len outside.store.tables) (omega arith) (chosen_low k)

  code_same : (a b : OfCells) → code a ≡ code b → (v : Identifier) → Contains left.vars.times v → a.0.residues v ≡ b.0.residues v
  code_same a b same v l =
      let numbers : (key a).0 ≡ (key b).0 = first_same ways (key a).0 (key b).0 (chosen a) (chosen b) (chosen_low a) (chosen_low b) same in
      let choices : chosen a ≡ chosen b = second_same ways (key a).0 (key b).0 (chosen a) (chosen b) numbers same in
      let cell : held a ≡ held b = sym (key a).2 ∙ get_or_default (finite.keys outside.store.tables) (key a).0 (held a) (held b) (key a).1 ∙ ap (λ i. get_or (finite.keys outside.store.tables) i (held b)) numbers ∙ (key b).2 in
      elim (name_in v right.vars.times) [
        | inl c ↦ shared_same a b cell v l (subst (λ vs. Contains vs v) (sym is.times_are) c)
        | inr none ↦ other_same a b v l none (way_same right.vars.times period left.vars.times a.0 b.0 (range a) (range b) choices v l)
      ]

  agree_all : (a b : OfCells) → code a ≡ code b → (v : Identifier) → Contains left.vars.texts v → a.0.texts v ≡ b.0.texts v
  agree_all a b same v c = absurd (contains_none v (subst (λ vs. Contains vs v) plain c))

  pub few_less : (cap : ℕ) → finite.len outside.store.tables * ways ≤ cap → InhabitsMoreThan cap domain period left.vars.times left.vars.texts (IsMinus domain left right) → ⊥
  few_less cap enough m =
      let codes : Many ◌≢◌ (λ n. n < finite.len outside.store.tables * ways) cap =
      many_map code (λ a b. Differ (named_variables left.vars.times left.vars.texts) a.0 b.0) ◌≢◌ (λ k. Unit {0}) (λ n. n < finite.len outside.store.tables * ways) (λ k u. code_low k)
      (λ a b x y d e. d ((all_variables (Agree a.0 b.0) left.vars.times left.vars.texts).1 (code_same a b e, agree_all a b e))) cap
      (many_known (Inhabits domain period (named_variables left.vars.times left.vars.texts) (IsMinus domain left right)) (Differ (named_variables left.vars.times left.vars.texts)) cap m) in
      let n : length codes.cells ≤ finite.len outside.store.tables * ways = few_numbers _ codes.cells codes.apart codes.each in
      let c : length codes.cells ≡ cap + 1 = codes.count in
      omega arith

-- what a complement with so few cells tells
pub complement_is : (domain : List Text) (of : Sides) (period cap : ℕ) (outside : Table) → HasComplement of period → IsStore outside.store → of.right.now.store.period ≡ period → of.left.now.vars.texts ≡ []
    → IsTableOf domain of.right.now.vars.times of.right.now.vars.texts of.right.now.store.period (IsComplement domain of.right.now) outside
    → ((high : ℕ) → HasReach of.right.now.store high → HasReach outside.store (high + 2 * of.right.now.store.period))
    → finite.len outside.store.tables * ways_for of.right.now.vars.times period of.left.now.vars.times ≤ cap → IsSmallComplement domain of period cap outside
complement_is domain of period cap outside can valid same plain is reach enough = record {
  is = here;
  reach = subst (λ k. (high : ℕ) → HasReach of.right.now.store high → HasReach outside.store (high + 2 * k)) same reach;
  plain = plain;
  few = λ ascends numbered m. few_less valid here plain can.columns cap enough m;
}
  where
    here : IsTableOf domain of.right.now.vars.times of.right.now.vars.texts period (IsComplement domain of.right.now) outside
    here = subst (λ k. IsTableOf domain of.right.now.vars.times of.right.now.vars.texts k (IsComplement domain of.right.now) outside) same is
