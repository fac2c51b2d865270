-- What a step says that was made after others: of selections, joins, differences and projections.
use Rattle.std.proofs.Common.{◌≡◌, ◌≢◌, ◌↔◌, ◌⊎◌, ⊎_elim, inl, inr, ◌≤◌, ℕ, suc, Bool, true, false, cond, not, List, [], ◌∷◌, ◌++◌, length, append_assoc, append-nil, filter, Contains, refl, sym, ap, subst, ◌∙◌, arith}
use Rattle.std.specs.List.{AllByRecursion}
use Rattle.lrp_model.specs.Texts.{Text}
use Rattle.lrp_model.specs.Formulas.{Form}
use Rattle.lrp_model.specs.Variables.{Variable, time_variable, data_variable, variables_of_test, same_variable, is_among, free, free_each}
use Rattle.lrp_model.specs.Satisfaction.{Structure, Assignment, Satisfies, Passes, Either}
use Rattle.lrp_model.specs.Steps.{Steps, formula_at, step_after, made, tests_as_forms, join, select, union, minus, complement}
use Rattle.lrp_model.specs.Conjunctions.{select_each}
use Rattle.lrp_model.specs.declared.formulas.Test.{Test}
use Rattle.lrp_model.specs.declared.plans.StepKind.{StepKind}
use Rattle.lrp_model.proofs.Logic.{then_iff, not_iff}
use Rattle.lrp_model.proofs.Decided.{contains_none, contains_first, contains_later, cons_cases}
use Rattle.lrp_plan_laws.specs.Made.{AreAmong}
use Rattle.lrp_plan_laws.specs.Projections.{PlanGround as Ground, drop_variable, drop_each, distinct_variables as each_once, unwanted, project, last_drop, projected}
use Rattle.lrp_plan_laws.specs.GuardedConjunctions.{select_from}
use Rattle.lrp_plan_laws.proofs.Dropped.{IsGround, IsKnownAt, dropped, drop_keeps, drop_free}
use Rattle.lrp_plan_laws.proofs.Dropping.{without_member}
use Rattle.lrp_plan_laws.proofs.Elements.{length_made, formula_made, formula_front}
use Rattle.lrp_plan_laws.proofs.Members.{in_one}
use Rattle.lrp_plan_laws.proofs.Names.{is_among_is}
use Rattle.lrp_plan_laws.proofs.PlanLaws.{tests_are}
use Rattle.lrp_plan_laws.proofs.Ranging.{one_or_two}

-- what is said of assignments
abbrev pub Saying : Type 1
Saying = Assignment → Type 0

-- the texts of these variables are known
abbrev pub AreKnown : List Text → List Variable → Assignment → Type 0
AreKnown texts vs env = (w : Variable) → Contains vs w → IsKnownAt texts env w

-- the steps after are those before and more; the last one has no other variables than these, and says p where their texts are known
pub record Tells (M : Structure) (texts : List Text) (vs : List Variable) (before after : Steps) (p : Saying) : Type 0 where
  pub more : Steps
  pub is : after ≡ before ++ more
  pub scope : AreAmong (free (formula_at after (length after))) vs
  pub says : (env : Assignment) → AreKnown texts vs env → Satisfies (formula_at after (length after)) M env ↔ p env

module _ (M : Structure) (texts : List Text) (vs : List Variable) where
  -- one step more, with a formula that says p
  pub tells_made : (before steps more : Steps) (kind : StepKind) (f : Form) (p : Saying) → steps ≡ before ++ more → AreAmong (free f) vs → ((env : Assignment) → AreKnown texts vs env → Satisfies f M env ↔ p env) → Tells M texts vs before (made M kind f steps) p
  tells_made before steps more kind f p is scope says = record {
    more = more ++ step_after M kind f steps ∷ [];
    is = ap (λ s. s ++ step_after M kind f steps ∷ []) is ∙ append_assoc before more (step_after M kind f steps ∷ []);
    scope = subst (λ g. AreAmong (free g) vs) (sym (formula_made M kind f steps)) scope;
    says = λ env k. subst (λ g. Satisfies g M env ↔ p env) (sym (formula_made M kind f steps)) (says env k);
  }

  pub tells_same : (before after : Steps) (p q : Saying) → ((env : Assignment) → AreKnown texts vs env → p env ↔ q env) → Tells M texts vs before after p → Tells M texts vs before after q
  tells_same before after p q e t = record { more = t.more; is = t.is; scope = t.scope; says = λ env k. then_iff (t.says env k) (e env k) }

  -- an earlier step's formula stands
  pub tells_kept : (before after : Steps) (p : Saying) (i : ℕ) → Tells M texts vs before after p → i ≤ length before → formula_at after i ≡ formula_at before i
  tells_kept before after p i t le = ap (λ s. formula_at s i) t.is ∙ formula_front before t.more i le

  -- more steps before
  pub tells_from : (start before after more : Steps) (p : Saying) → before ≡ start ++ more → Tells M texts vs before after p → Tells M texts vs start after p
  tells_from start before after more p is t = record {
    more = more ++ t.more;
    is = t.is ∙ ap (λ s. s ++ t.more) is ∙ append_assoc start more t.more;
    scope = t.scope;
    says = t.says;
  }

  -- ---- the variables of tests

  -- the variables of tests are among these
  abbrev pub TestsAmong : List Test → Type 0
  TestsAmong ts = AllByRecursion (λ t. AreAmong (variables_of_test t) vs) ts

  pub tests_scope : (ts : List Test) → TestsAmong ts → AreAmong (free_each (tests_as_forms ts)) vs
  tests_scope [] h w c = absurd (contains_none w c)
  tests_scope (t ∷ ts) h w c = ⊎_elim (λ a. h.0 w a) (λ b. tests_scope ts h.1 w b) (in_one (variables_of_test t) (free_each (tests_as_forms ts)) w c)

  -- ---- selections

  pub select_tells : (start steps more : Steps) (p : Saying) (ts : List Test) → TestsAmong ts → Tells M texts vs start steps p → Tells M texts vs start (select_each ts M steps) (λ env. p env × AllByRecursion (Passes env) ts)
  select_tells start steps more p [] h t = tells_same start steps p _ (λ env k. ((λ x. (x, tt)), λ x. x.0)) t
  select_tells start steps more p (u ∷ ts) h t =
      let n : Tells M texts vs start (select u M steps) (λ env. p env × Passes env u) =
      tells_made start steps t.more _ _ _ t.is
      (λ w c. ⊎_elim (λ a. t.scope w a) (λ b. ⊎_elim (λ a. h.0 w a) (λ d. absurd (contains_none w d)) (in_one (variables_of_test u) [] w b)) (in_one (free (formula_at steps (length steps))) (variables_of_test u ++ []) w c))
      (λ env k. ((λ x. ((t.says env k).0 x.0, x.1.0)), λ x. ((t.says env k).1 x.0, (x.1, tt)))) in
      tells_same start (select_each ts M (select u M steps)) _ _ (λ env k. ((λ x. (x.0.0, (x.0.1, x.1))), λ x. ((x.0, x.1.0), x.1.1))) (select_tells start (select u M steps) more _ ts h.1 n)

  -- a selection of an earlier step
  pub select_from_tells : (start steps more : Steps) (of : ℕ) (u : Test) → steps ≡ start ++ more → AreAmong (free (formula_at steps of)) vs → AreAmong (variables_of_test u) vs → Tells M texts vs start (select_from of u M steps) (λ env. Satisfies (formula_at steps of) M env × Passes env u)
  select_from_tells start steps more of u is scope h =
      tells_made start steps more _ _ _ is
      (λ w c. ⊎_elim (λ a. scope w a) (λ b. ⊎_elim (λ a. h w a) (λ d. absurd (contains_none w d)) (in_one (variables_of_test u) [] w b)) (in_one (free (formula_at steps of)) (variables_of_test u ++ []) w c))
      (λ env k. ((λ x. (x.0, x.1.0)), λ x. (x.0, (x.1, tt))))

  -- ---- two steps

  -- a join of an earlier step with the last one
  pub join_tells : (start before steps more : Steps) (left : ℕ) (p : Saying) (ts : List Test) → before ≡ start ++ more → left ≤ length before → AreAmong (free (formula_at before left)) vs → TestsAmong ts → Tells M texts vs before steps p
      → Tells M texts vs start (join left ts M steps) (λ env. (Satisfies (formula_at before left) M env × p env) × AllByRecursion (Passes env) ts)
  join_tells start before steps more left p ts is le scope h t =
      let e : formula_at steps left ≡ formula_at before left = tells_kept before steps p left t le in
      tells_made start steps (more ++ t.more) _ _ _ (t.is ∙ ap (λ s. s ++ t.more) is ∙ append_assoc start more t.more)
      (λ w c. ⊎_elim (λ a. scope w (subst (λ g. Contains (free g) w) e a)) (λ b. ⊎_elim (λ a. t.scope w a) (λ d. tests_scope ts h w d) (in_one (free (formula_at steps (length steps))) (free_each (tests_as_forms ts)) w b))
      (in_one (free (formula_at steps left)) (free (formula_at steps (length steps)) ++ free_each (tests_as_forms ts)) w c))
      (λ env k.
      let r = tests_are M env ts in
      ((λ x. ((subst (λ g. Satisfies g M env) e x.0, (t.says env k).0 x.1.0), r.0 x.1.1)), λ x. (subst (λ g. Satisfies g M env) (sym e) x.0.0, ((t.says env k).1 x.0.1, r.1 x.1))))

  -- an earlier step without the last one
  pub minus_tells : (start before steps more : Steps) (left : ℕ) (p : Saying) → before ≡ start ++ more → left ≤ length before → AreAmong (free (formula_at before left)) vs → Tells M texts vs before steps p
      → Tells M texts vs start (minus left M steps) (λ env. Satisfies (formula_at before left) M env × (p env → ⊥))
  minus_tells start before steps more left p is le scope t =
      let e : formula_at steps left ≡ formula_at before left = tells_kept before steps p left t le in
      tells_made start steps (more ++ t.more) _ _ _ (t.is ∙ ap (λ s. s ++ t.more) is ∙ append_assoc start more t.more)
      (λ w c. ⊎_elim (λ a. scope w (subst (λ g. Contains (free g) w) e a)) (λ b. ⊎_elim (λ a. t.scope w a) (λ d. absurd (contains_none w d)) (in_one (free (formula_at steps (length steps))) [] w b)) (in_one (free (formula_at steps left)) (free (formula_at steps (length steps)) ++ []) w c))
      (λ env k. ((λ x. (subst (λ g. Satisfies g M env) e x.0, λ y. x.1.0 ((t.says env k).1 y))), λ x. (subst (λ g. Satisfies g M env) (sym e) x.0, ((λ y. x.1 ((t.says env k).0 y)), tt))))

  -- the last step's complement
  pub complement_tells : (start steps : Steps) (p : Saying) → Tells M texts vs start steps p → Tells M texts vs start (complement M steps) (λ env. p env → ⊥)
  complement_tells start steps p t = tells_made start steps t.more _ _ _ t.is t.scope (λ env k. not_iff (t.says env k))

  -- an earlier step or the last one
  pub union_tells : (start before steps : Steps) (p q : Saying) → Tells M texts vs start before p → Tells M texts vs before steps q → Tells M texts vs start (union (length before) M steps) (λ env. Either (p env) (q env))
  union_tells start before steps p q s t =
      let e : formula_at steps (length before) ≡ formula_at before (length before) = tells_kept before steps q (length before) t (omega arith) in
      tells_made start steps (s.more ++ t.more) _ _ _ (t.is ∙ ap (λ x. x ++ t.more) s.is ∙ append_assoc start s.more t.more)
      (λ w c. ⊎_elim (λ a. s.scope w (subst (λ g. Contains (free g) w) e a)) (λ b. ⊎_elim (λ a. t.scope w a) (λ d. absurd (contains_none w d)) (in_one (free (formula_at steps (length steps))) [] w b)) (in_one (free (formula_at steps (length before))) (free (formula_at steps (length steps)) ++ []) w c))
      (λ env k. (
        (λ x m n. x (λ y. m ((s.says env k).0 (subst (λ g. Satisfies g M env) e y))) (λ y. y (λ z. n ((t.says env k).0 z)) (λ z. z))),
        λ x m n. x (λ y. m (subst (λ g. Satisfies g M env) (sym e) ((s.says env k).1 y))) (λ y. n (λ a b. a ((t.says env k).1 y))),
      ))

-- ---- projections

-- one that is the first, or a later one
once_by : (v w : Variable) (vs : List Variable) → (w ≡ v) ⊎ (w ≢ v) → Contains (each_once vs) w → Contains (each_once (v ∷ vs)) w
once_by v w vs (inl e) k = subst (Contains (each_once (v ∷ vs))) (sym e) (contains_first v (filter (λ x. not (same_variable v x)) (each_once vs)))
once_by v w vs (inr n) k = contains_later v w (filter (λ x. not (same_variable v x)) (each_once vs)) ((without_member v (each_once vs) w).1 (k, n))

-- each variable once: the same variables
pub once_member : (vs : List Variable) (w : Variable) → Contains (each_once vs) w ↔ Contains vs w
once_member [] w = ((λ c. c), λ c. c)
once_member (v ∷ vs) w =
    let r : Contains (each_once vs) w ↔ Contains vs w = once_member vs w in
    let rest : List Variable = filter (λ x. not (same_variable v x)) (each_once vs) in
    let m = without_member v (each_once vs) w in (
      (λ c. ⊎_elim (λ e. subst (Contains (v ∷ vs)) e (contains_first v vs)) (λ k. contains_later v w vs (r.0 (m.0 k).0)) (cons_cases v w rest c)),
      λ c. ⊎_elim (λ e. subst (Contains (v ∷ rest)) e (contains_first v rest)) (λ k. once_by v w vs (one_or_two w v) (r.1 k)) (cons_cases v w vs c),
    )

kept_member : {X : Type 0} (p : X → Bool) (x w : X) (rest : List X) (b : Bool) → p x ≡ b → Contains (cond b (x ∷ rest) rest) w → (Contains rest w → p w ≡ true) → p w ≡ true
kept_member p x w rest true e c h = ⊎_elim (λ q. subst (λ y. p y ≡ true) q e) h (cons_cases x w rest c)
kept_member p x w rest false e c h = h c

-- what passes
pub passes : {X : Type 0} (p : X → Bool) (xs : List X) (w : X) → Contains (filter p xs) w → p w ≡ true
passes p [] w c = absurd (contains_none w c)
passes p (x ∷ xs) w c = kept_member p x w (filter p xs) (p x) refl c (passes p xs w)

from_member : {X : Type 0} (x w : X) (xs rest : List X) (b : Bool) → Contains (cond b (x ∷ rest) rest) w → (Contains rest w → Contains xs w) → Contains (x ∷ xs) w
from_member x w xs rest true c h = ⊎_elim (λ q. subst (Contains (x ∷ xs)) q (contains_first x xs)) (λ k. contains_later x w xs (h k)) (cons_cases x w rest c)
from_member x w xs rest false c h = contains_later x w xs (h c)

-- and it was there
pub was_there : {X : Type 0} (p : X → Bool) (xs : List X) (w : X) → Contains (filter p xs) w → Contains xs w
was_there p [] w c = c
was_there p (x ∷ xs) w c = from_member x w xs (filter p xs) (p x) c (was_there p xs w)

to_member : {X : Type 0} (p : X → Bool) (x w : X) (rest : List X) (b : Bool) → p x ≡ b → p w ≡ true → (x ≡ w) ⊎ Contains rest w → Contains (cond b (x ∷ rest) rest) w
to_member p x w rest true e h (inl q) = subst (Contains (x ∷ rest)) q (contains_first x rest)
to_member p x w rest true e h (inr c) = contains_later x w rest c
to_member p x w rest false e h (inl q) = let t : p x ≡ true = subst (λ y. p y ≡ true) (sym q) h in cc
to_member p x w rest false e h (inr c) = c

-- what was there and passes
pub stays_there : {X : Type 0} (p : X → Bool) (xs : List X) (w : X) → p w ≡ true → Contains xs w → Contains (filter p xs) w
stays_there p [] w h c = c
stays_there p (x ∷ xs) w h c = to_member p x w (filter p xs) (p x) refl h (⊎_elim (λ q. inl q) (λ k. inr (stays_there p xs w h k)) (cons_cases x w xs c))

-- the number of the last drop where the drops begin at the last step
pub last_drop_last : (over : Ground) (vs : List Variable) (steps : Steps) → last_drop vs (length steps) (drop_each over vs (length steps) steps) ≡ length (drop_each over vs (length steps) steps)
last_drop_last over [] steps = refl
last_drop_last over (v ∷ vs) steps = refl

-- the drops of a step: what it had is still there but for the variables that are dropped, and what it says is still said
pub record Drops (M : Structure) (texts : List Text) (vs : List Variable) (f : Form) (before after : Steps) (n : ℕ) : Type 0 where
  pub more : Steps
  pub is : after ≡ before ++ more
  pub step : n ≤ length after
  pub scope : (w : Variable) → Contains (free (formula_at after n)) w → Contains (free f) w × (Contains vs w → ⊥)
  pub says : (env : Assignment) → AreKnown texts vs env → Satisfies f M env → Satisfies (formula_at after n) M env

module _ (over : Ground) (texts : List Text) (valid : IsGround over texts) where
  pub dropped_step : (v : Variable) (of : ℕ) (steps : Steps) → (formula_at (drop_variable over v of steps) (length (drop_variable over v of steps)) ≡ dropped over v (formula_at steps of)) × ((more : Steps) × (drop_variable over v of steps ≡ steps ++ more)) × (length (drop_variable over v of steps) ≡ suc (length steps))
  dropped_step (time_variable v) of steps = (formula_made over.structure _ _ steps, (_, refl), length_made over.structure _ _ steps)
  dropped_step (data_variable v) of steps = (formula_made over.structure _ _ steps, (_, refl), length_made over.structure _ _ steps)

  pub drops : (vs : List Variable) (of : ℕ) (steps : Steps) → of ≤ length steps → Drops over.structure texts vs (formula_at steps of) steps (drop_each over vs of steps) (last_drop vs of (drop_each over vs of steps))
  drops [] of steps le = record { more = []; is = sym (append-nil steps); step = le; scope = λ w c. (c, λ d. contains_none w d); says = λ env k s. s }
  drops (v ∷ vs) of steps le =
      let mid : Steps = drop_variable over v of steps in
      let d = dropped_step v of steps in
      let l : length mid ≡ suc (length steps) = d.2 in
      let r : Drops over.structure texts vs (formula_at mid (length mid)) mid (drop_each over vs (length mid) mid) (last_drop vs (length mid) (drop_each over vs (length mid) mid)) = drops vs (length mid) mid (omega arith) in
      let e : drop_each over vs (length mid) mid ≡ drop_each over vs (suc (length steps)) mid = ap (λ n. drop_each over vs n mid) l in
      let z : last_drop vs (length mid) (drop_each over vs (length mid) mid) ≡ length (drop_each over vs (length mid) mid) = last_drop_last over vs mid in
      subst (λ after. Drops over.structure texts (v ∷ vs) (formula_at steps of) steps after (length after)) e
      (record {
        more = d.1.0 ++ r.more;
        is = r.is ∙ ap (λ s. s ++ r.more) d.1.1 ∙ append_assoc steps d.1.0 r.more;
        step = omega arith;
        scope = λ w c.
            let x = r.scope w (subst (λ n. Contains (free (formula_at (drop_each over vs (length mid) mid) n)) w) (sym z) c) in
            let y = drop_free over texts valid v (formula_at steps of) w (subst (λ g. Contains (free g) w) d.0 x.0) in
            (y.0, λ k. ⊎_elim (λ q. y.1 (sym q)) (λ m. x.1 m) (cons_cases v w vs k));
        says = λ env k s.
            subst (λ n. Satisfies (formula_at (drop_each over vs (length mid) mid) n) over.structure env) z
            (r.says env (λ w c. k w (contains_later v w vs c)) (subst (λ g. Satisfies g over.structure env) (sym d.0) (drop_keeps over texts valid v (formula_at steps of) env (k v (contains_first v vs)) s)));
      })

  -- the projection to these variables
  pub record Projects (wanted : List Variable) (f : Form) (before after : Steps) (n : ℕ) : Type 0 where
    pub more : Steps
    pub is : after ≡ before ++ more
    pub step : n ≤ length after
    pub scope : AreAmong (free (formula_at after n)) wanted
    pub part : AreAmong (free (formula_at after n)) (free f)
    pub says : (env : Assignment) → AreKnown texts (free f) env → Satisfies f over.structure env → Satisfies (formula_at after n) over.structure env

  wanted_or_not : (wanted : List Variable) (w : Variable) (b : Bool) → is_among wanted w ≡ b → (not (is_among wanted w) ≡ true → ⊥) → Contains wanted w
  wanted_or_not wanted w true e h = is_among_is wanted w e
  wanted_or_not wanted w false e h = absurd (h (ap not e))

  pub projects : (wanted : List Variable) (of : ℕ) (steps : Steps) → of ≤ length steps → Projects wanted (formula_at steps of) steps (project over wanted of steps) (projected over wanted of steps)
  projects wanted of steps le =
      let f : Form = formula_at steps of in
      let left : Variable → Bool = λ v. not (is_among wanted v) in
      let d = drops (unwanted wanted steps of) of steps le in
      record {
        more = d.more;
        is = d.is;
        step = d.step;
        scope = λ w c. let x = d.scope w c in wanted_or_not wanted w (is_among wanted w) refl (λ q. x.1 (stays_there left (each_once (free f)) w q ((once_member (free f) w).1 x.0)));
        part = λ w c. (d.scope w c).0;
        says = λ env k s. d.says env (λ w c. k w ((once_member (free f) w).0 (was_there left (each_once (free f)) w c))) s;
      }
