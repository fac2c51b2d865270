-- Two runs of one task over the same bytes come to one outcome: step by step.
use Rattle.std.proofs.Common.{◌≡◌, ◌∷◌, ◌++◌, ◌+◌, ◌<◌, ◌≤◌, ◌^◌, ◌∙◌, ℕ, List, [], length, refl, sym, ap, ap₂, subst, Option, Some, None, Result, Ok, Err, arith}
use Rattle.std.specs.List.{AllZip}
use Rattle.lrp_model.specs.Caps.{IsFirstMany, ManyAt}
use Rattle.lrp_model.specs.DatabaseReading.{IsDatabase, IsDatabaseFault}
use Rattle.lrp_model.specs.Formulas.{Question}
use Rattle.lrp_model.specs.Rows.{Tuple}
use Rattle.lrp_model.specs.Periods.{period}
use Rattle.lrp_model.specs.Plans.{IsStep, scaled_reach, IsWithinLimits}
use Rattle.lrp_model.specs.PrintedPlans.{plan_bytes, step_line, step_lines}
use Rattle.lrp_model.specs.Steps.{PlanStep}
use Rattle.lrp_model.specs.Texts.{Identifier, Text}
use Rattle.lrp_model.specs.Tuples.{in_head_order}
use Rattle.lrp_model.specs.declared.faults.DbFault.{DbFault}
use Rattle.lrp_model.specs.declared.faults.QueryFault.{QueryFault}
use Rattle.lrp_model.specs.declared.plans.Plan.{Plan}
use Rattle.lrp_model.specs.declared.plans.Planning.{Planning}
use Rattle.lrp_plan_laws.specs.GuardedPlans.{plan_by}
use Rattle.lrp_model.specs.declared.plans.Step.{Step}
use Rattle.lrp_model.specs.declared.relations.Column.{Column}
use Rattle.lrp_model.specs.declared.relations.Relation.{Relation}
use Rattle.lrp_token.specs.Reading.{IsNoToken, HasOtherCounts}
use Rattle.lrp_top.specs.Canonical.{HasCanonicalRows}
use Rattle.lrp_top.specs.Due.{IsDatabaseRead, IsDatabaseReadOf, IsQueryRead, IsQueryReadOf, IsPlanned, IsPlannedAs, IsCounted, AreRowsCounted, IsOutput}
use Rattle.lrp_top.specs.Heads.{IsHeadFit, IsHeadFor, IsMetBy}
use Rattle.lrp_outputs.specs.Outcomes.{Outcome}
use Rattle.lrp_top.specs.Resuming.{IsResumed, IsStale, shape_of}
use Rattle.lrp_top.specs.Seen.{ShelfSeen, AreBytesOf}
use Rattle.lrp_top.specs.Sources.{Source}
use Rattle.lrp_top.specs.Steps.{Then, After}
use Rattle.lrp_top.specs.Written.{IsFaultyAs, IsOverIn, IsSortedAs, plain_by}
use Rattle.lrp_top.specs.declared.language.QueryLanguage.{QueryLanguage}
use Rattle.lrp_wide.specs.Limits.{HasTooMany, IsTooDeep}
use Rattle.lrp_civil.specs.declared.values.CivilText.{CivilText}
use Rattle.lrp_outputs.specs.declared.head.HeadNeed.{HeadNeed}
use Rattle.lrp_outputs.specs.declared.refusal.Refusal.{Refusal}
use Rattle.lrp_outputs.specs.declared.refusal.Refusal.TheVariants.{ReadDatabase, LongDatabase, Database, ReadQuery, LongQuery, Query, Formulas, Depth, PeriodLimit, BoundLimit, TokenForm, TokenShape, TokenStale, Cells, Head, CanonRows, Watch, Memory}
use Rattle.lrp_outputs.specs.declared.watch_refusal.WatchRefusal.TheVariants as watch
use Rattle.lrp_run_laws.proofs.Canonical.{OneRowCount}
use Rattle.lrp_run_laws.proofs.Complete.{DatabaseTexts, QueryTexts, OneToken, no_longer, not_formless, not_other, not_stale}

-- ---- agreeing results

-- a refusal that the words and the contents of the files decide
abbrev pub Lasts : Refusal → Type 0
Lasts ReadDatabase = ⊥
Lasts ReadQuery = ⊥
Lasts (Watch watch.Read) = ⊥
Lasts Memory = ⊥
Lasts _ = Unit {0}

-- a result that they decide
abbrev pub Lasting : {A : Type 0} → Result A Refusal → Type 0
Lasting (Ok a) = Unit {0}
Lasting (Err refusal) = Lasts refusal

-- two results agree: their values are related, or they are refused alike
abbrev pub Agree : {A : Type 0} → (A → A → Type 0) → Result A Refusal → Result A Refusal → Type 0
Agree R (Ok a) (Ok b) = R a b
Agree R (Err e) (Err f) = e ≡ f
Agree R (Ok a) (Err f) = ⊥
Agree R (Err e) (Ok b) = ⊥

-- a step after steps that agree
module _ {A B : Type 0} (First Other : Result A Refusal → Type 0) (Next Later : A → Result B Refusal → Type 0) (R : A → A → Type 0) (S : B → B → Type 0)
    (steps : (r s : Result A Refusal) → First r → Other s → Lasting r → Lasting s → Agree R r s)
    (next : (a b : A) → First (Ok a) → Other (Ok b) → R a b → (o p : Result B Refusal) → Next a o → Later b p → Lasting o → Lasting p → Agree S o p) where
  refused : (e f : Refusal) → e ≡ f → (o p : Result B Refusal) → o ≡ Err e → p ≡ Err f → Agree S o p
  refused e f same o p n m = subst (λ x. Agree S x p) (sym n) (subst (λ y. Agree S (Err e) y) (sym m) same)

  afterwards : (o p : Result B Refusal) → Lasting o → Lasting p → (r s : Result A Refusal) → First r → Other s → After r Next o → After s Later p → Agree S o p
  afterwards o p lo lp (Ok a) (Ok b) i j n m = next a b i j (steps (Ok a) (Ok b) i j tt tt) o p n m lo lp
  afterwards o p lo lp (Ok a) (Err f) i j n m = absurd (steps (Ok a) (Err f) i j tt (subst Lasting m lp))
  afterwards o p lo lp (Err e) (Ok b) i j n m = absurd (steps (Err e) (Ok b) i j (subst Lasting n lo) tt)
  afterwards o p lo lp (Err e) (Err f) i j n m = refused e f (steps (Err e) (Err f) i j (subst Lasting n lo) (subst Lasting m lp)) o p n m

  pub then_agree : (o p : Result B Refusal) → Then First Next o → Then Other Later p → Lasting o → Lasting p → Agree S o p
  then_agree o p t u lo lp = afterwards o p lo lp t.first u.first t.is u.is t.next u.next

-- a step that tells refusals apart from values
pub by_parts : {A : Type 0} (First Other : Result A Refusal → Type 0) (R : A → A → Type 0)
    → ((a b : A) → First (Ok a) → Other (Ok b) → R a b)
    → ((a : A) (f : Refusal) → First (Ok a) → Other (Err f) → Lasts f → ⊥)
    → ((e : Refusal) (b : A) → First (Err e) → Other (Ok b) → Lasts e → ⊥)
    → ((e f : Refusal) → First (Err e) → Other (Err f) → Lasts e → Lasts f → e ≡ f)
    → (r s : Result A Refusal) → First r → Other s → Lasting r → Lasting s → Agree R r s
by_parts First Other R values left right refusals (Ok a) (Ok b) i j l m = values a b i j
by_parts First Other R values left right refusals (Ok a) (Err f) i j l m = left a f i j m
by_parts First Other R values left right refusals (Err e) (Ok b) i j l m = right e b i j l
by_parts First Other R values left right refusals (Err e) (Err f) i j l m = refusals e f i j l m

-- ---- the database

-- a text has one fault at most
abbrev pub OneDatabaseFault : Type 0
OneDatabaseFault = (bytes : List ℕ) (f g : DbFault) → IsDatabaseFault bytes f → IsDatabaseFault bytes g → f ≡ g

data DatabaseRefused (civil : Option CivilText) (bytes : List ℕ) : Refusal → Type 0 where
  long : 16777216 < length bytes → DatabaseRefused civil bytes LongDatabase
  faulty : (fault : DbFault) → length bytes ≤ 16777216 → IsDatabaseFault (plain_by civil bytes) fault → DatabaseRefused civil bytes (Database fault)

database_refused : (civil : Option CivilText) (seen : ShelfSeen) (name : Identifier) (bytes : List ℕ) (e : Refusal) → IsDatabaseReadOf civil seen name bytes (Err e) → Lasts e → DatabaseRefused civil bytes e
database_refused civil seen name bytes LongDatabase is l = long is.0
database_refused civil seen name bytes (Database fault) is l = faulty fault is.0 is.1
database_refused civil seen name bytes ReadDatabase is l = absurd l
database_refused civil seen name bytes Memory is l = absurd l
database_refused civil seen name bytes _ is l = absurd is

module _ (texts : DatabaseTexts) (one_fault : OneDatabaseFault) (civil : Option CivilText) (bytes : List ℕ) where
  not_refused : (db : List Relation) → length bytes ≤ 16777216 → IsDatabase (plain_by civil bytes) db → (e : Refusal) → DatabaseRefused civil bytes e → ⊥
  not_refused db short is _ (long above) = no_longer (length bytes) short above
  not_refused db short is _ (faulty fault below f) = texts.faultless (plain_by civil bytes) db fault is f

  refused_alike : (e f : Refusal) → DatabaseRefused civil bytes e → DatabaseRefused civil bytes f → e ≡ f
  refused_alike _ _ (long above) (long more) = refl
  refused_alike _ _ (long above) (faulty g short is) = absurd (no_longer (length bytes) short above)
  refused_alike _ _ (faulty f short is) (long above) = absurd (no_longer (length bytes) short above)
  refused_alike _ _ (faulty f short is) (faulty g below again) = ap Database (one_fault (plain_by civil bytes) f g is again)

  module _ (seen further : ShelfSeen) (name : Identifier) where
    one_source : (d e : Source (List Relation)) → IsDatabaseReadOf civil seen name bytes (Ok d) → IsDatabaseReadOf civil further name bytes (Ok e) → d ≡ e
    one_source d e i j = ap₂ (λ (b : List ℕ) (r : List Relation). source b r) (i.0 ∙ sym j.0) (texts.one (plain_by civil bytes) d.says e.says i.2 j.2)
      where
        source : List ℕ → List Relation → Source (List Relation)
        source b r = record { bytes = b; says = r }

    database_of_bytes : (r s : Result (Source (List Relation)) Refusal) → IsDatabaseReadOf civil seen name bytes r → IsDatabaseReadOf civil further name bytes s → Lasting r → Lasting s → Agree (λ d e. d ≡ e) r s
    database_of_bytes = by_parts (IsDatabaseReadOf civil seen name bytes) (IsDatabaseReadOf civil further name bytes) (λ d e. d ≡ e) one_source
        (λ d f i j l. not_refused d.says i.1 i.2 f (database_refused civil further name bytes f j l))
        (λ e d i j l. not_refused d.says j.1 j.2 e (database_refused civil seen name bytes e i l))
        (λ e f i j l m. refused_alike e f (database_refused civil seen name bytes e i l) (database_refused civil further name bytes f j m))

    pub database_agree : ((read : List ℕ) → AreBytesOf seen name read → read ≡ bytes) → ((read : List ℕ) → AreBytesOf further name read → read ≡ bytes)
        → (r s : Result (Source (List Relation)) Refusal) → IsDatabaseRead civil seen name r → IsDatabaseRead civil further name s → Lasting r → Lasting s → Agree (λ d e. d ≡ e) r s
    database_agree told again r s i j =
        database_of_bytes r s (subst (λ b. IsDatabaseReadOf civil seen name b r) (told i.bytes i.told) i.is) (subst (λ b. IsDatabaseReadOf civil further name b s) (again j.bytes j.told) j.is)

-- ---- the query

-- a text is refused for one reason at most over a database: for a fault, for its formulas or for their depth
pub record OneQueryFault (language : QueryLanguage) : Type 0 where
  pub fault : (db : List Relation) (bytes : List ℕ) (f g : QueryFault) → IsFaultyAs language db bytes f → IsFaultyAs language db bytes g → f ≡ g
  pub few : (db : List Relation) (bytes : List ℕ) (f : QueryFault) → IsFaultyAs language db bytes f → IsOverIn HasTooMany language db bytes → ⊥
  pub shallow : (db : List Relation) (bytes : List ℕ) (f : QueryFault) → IsFaultyAs language db bytes f → IsOverIn IsTooDeep language db bytes → ⊥
  pub limit : (db : List Relation) (bytes : List ℕ) → IsOverIn HasTooMany language db bytes → IsOverIn IsTooDeep language db bytes → ⊥

pub data QueryRefused (language : QueryLanguage) (db : List Relation) (bytes : List ℕ) : Refusal → Type 0 where
  longer : 16777216 < length bytes → QueryRefused language db bytes LongQuery
  wrong : (fault : QueryFault) → length bytes ≤ 16777216 → IsFaultyAs language db bytes fault → QueryRefused language db bytes (Query fault)
  large : length bytes ≤ 16777216 → IsOverIn HasTooMany language db bytes → QueryRefused language db bytes Formulas
  deep : length bytes ≤ 16777216 → IsOverIn IsTooDeep language db bytes → QueryRefused language db bytes Depth

pub query_refused : (language : QueryLanguage) (db : List Relation) (seen : ShelfSeen) (name : Identifier) (bytes : List ℕ) (e : Refusal) → IsQueryReadOf language db seen name bytes (Err e) → Lasts e → QueryRefused language db bytes e
query_refused language db seen name bytes LongQuery is l = longer is.0
query_refused language db seen name bytes (Query fault) is l = wrong fault is.0 is.1
query_refused language db seen name bytes Formulas is l = large is.0 is.1
query_refused language db seen name bytes Depth is l = deep is.0 is.1
query_refused language db seen name bytes ReadQuery is l = absurd l
query_refused language db seen name bytes Memory is l = absurd l
query_refused language db seen name bytes _ is l = absurd is

module _ (language : QueryLanguage) (one_fault : OneQueryFault language) (db : List Relation) (bytes : List ℕ) where
  pub query_refused_alike : (e f : Refusal) → QueryRefused language db bytes e → QueryRefused language db bytes f → e ≡ f
  query_refused_alike _ _ (longer above) (longer more) = refl
  query_refused_alike _ _ (longer above) (wrong g short is) = absurd (no_longer (length bytes) short above)
  query_refused_alike _ _ (wrong f short is) (longer above) = absurd (no_longer (length bytes) short above)
  query_refused_alike _ _ (wrong f short is) (wrong g below again) = ap Query (one_fault.fault db bytes f g is again)
  query_refused_alike _ _ (longer above) (large short is) = absurd (no_longer (length bytes) short above)
  query_refused_alike _ _ (longer above) (deep short is) = absurd (no_longer (length bytes) short above)
  query_refused_alike _ _ (large short is) (longer above) = absurd (no_longer (length bytes) short above)
  query_refused_alike _ _ (deep short is) (longer above) = absurd (no_longer (length bytes) short above)
  query_refused_alike _ _ (wrong f short is) (large below over) = absurd (one_fault.few db bytes f is over)
  query_refused_alike _ _ (wrong f short is) (deep below over) = absurd (one_fault.shallow db bytes f is over)
  query_refused_alike _ _ (large below over) (wrong f short is) = absurd (one_fault.few db bytes f is over)
  query_refused_alike _ _ (deep below over) (wrong f short is) = absurd (one_fault.shallow db bytes f is over)
  query_refused_alike _ _ (large short over) (large below again) = refl
  query_refused_alike _ _ (large short over) (deep below again) = absurd (one_fault.limit db bytes over again)
  query_refused_alike _ _ (deep below again) (large short over) = absurd (one_fault.limit db bytes over again)
  query_refused_alike _ _ (deep short over) (deep below again) = refl

module _ (language : QueryLanguage) (texts : QueryTexts language) (one_fault : OneQueryFault language) (db : List Relation) (bytes : List ℕ) where
  query_stands : (q : Question) → length bytes ≤ 16777216 → IsSortedAs language db bytes q → (e : Refusal) → QueryRefused language db bytes e → ⊥
  query_stands q short is _ (longer above) = no_longer (length bytes) short above
  query_stands q short is _ (wrong fault below f) = texts.faultless db bytes q fault is f
  query_stands q short is _ (large below over) = texts.few db bytes q is over
  query_stands q short is _ (deep below over) = texts.shallow db bytes q is over

  module _ (seen further : ShelfSeen) (name : Identifier) where
    one_question : (d e : Source Question) → IsQueryReadOf language db seen name bytes (Ok d) → IsQueryReadOf language db further name bytes (Ok e) → d ≡ e
    one_question d e i j = ap₂ (λ (b : List ℕ) (q : Question). source b q) (i.0 ∙ sym j.0) (texts.one db bytes d.says e.says i.2 j.2)
      where
        source : List ℕ → Question → Source Question
        source b q = record { bytes = b; says = q }

    query_of_bytes : (r s : Result (Source Question) Refusal) → IsQueryReadOf language db seen name bytes r → IsQueryReadOf language db further name bytes s → Lasting r → Lasting s → Agree (λ d e. d ≡ e) r s
    query_of_bytes = by_parts (IsQueryReadOf language db seen name bytes) (IsQueryReadOf language db further name bytes) (λ d e. d ≡ e) one_question
        (λ d f i j l. query_stands d.says i.1 i.2 f (query_refused language db further name bytes f j l))
        (λ e d i j l. query_stands d.says j.1 j.2 e (query_refused language db seen name bytes e i l))
        (λ e f i j l m. query_refused_alike language one_fault db bytes e f (query_refused language db seen name bytes e i l) (query_refused language db further name bytes f j m))

    pub query_agree : ((read : List ℕ) → AreBytesOf seen name read → read ≡ bytes) → ((read : List ℕ) → AreBytesOf further name read → read ≡ bytes)
        → (r s : Result (Source Question) Refusal) → IsQueryRead language db seen name r → IsQueryRead language db further name s → Lasting r → Lasting s → Agree (λ d e. d ≡ e) r s
    query_agree told again r s i j =
        query_of_bytes r s (subst (λ b. IsQueryReadOf language db seen name b r) (told i.bytes i.told) i.is) (subst (λ b. IsQueryReadOf language db further name b s) (again j.bytes j.told) j.is)

-- ---- the plan

-- two plans of a query have one text
abbrev pub SameText : Plan → Plan → Type 0
SameText p r = plan_bytes p ≡ plan_bytes r

same_line : (n : ℕ) (s t : Step) (planned : PlanStep) → IsStep s planned → IsStep t planned → step_line n s ≡ step_line n t
same_line n s t planned i j = ap₃ (i.kind ∙ sym j.kind) (i.period ∙ sym j.period) (i.reach ∙ sym j.reach)
  where
    ap₃ : s.kind ≡ t.kind → s.period ≡ t.period → s.reach ≡ t.reach → step_line n s ≡ step_line n t
    ap₃ a b c = rw (a, b, c)

same_lines : (n : ℕ) (ss ts : List Step) (planned : List PlanStep) → AllZip IsStep ss planned → AllZip IsStep ts planned → step_lines n ss ≡ step_lines n ts
same_lines n [] [] [] i j = refl
same_lines n [] [] (x ∷ xs) i j = refl
same_lines n [] (t ∷ ts) [] i j = absurd j
same_lines n [] (t ∷ ts) (x ∷ xs) i j = absurd i
same_lines n (s ∷ ss) [] [] i j = absurd i
same_lines n (s ∷ ss) [] (x ∷ xs) i j = absurd j
same_lines n (s ∷ ss) (t ∷ ts) [] i j = absurd i
same_lines n (s ∷ ss) (t ∷ ts) (x ∷ xs) i j = ap₂ (λ a b. a ++ b) (same_line n s t x i.0 j.0) (same_lines (n + 1) ss ts xs i.1 j.1)

data PlanRefused (way : Planning) (db : List Relation) (q : Question) : Refusal → Type 0 where
  period_above : 2 ^ 62 < period db q.body → PlanRefused way db q PeriodLimit
  reach_above : period db q.body ≤ 2 ^ 62 → 2 ^ 62 < scaled_reach (plan_by way db q) q → PlanRefused way db q BoundLimit

plan_refused : (way : Planning) (db : List Relation) (q : Question) (e : Refusal) → IsPlanned way db q (Err e) → Lasts e → PlanRefused way db q e
plan_refused way db q PeriodLimit is l = period_above is
plan_refused way db q BoundLimit is l = reach_above is.0 is.1
plan_refused way db q Memory is l = absurd l
plan_refused way db q _ is l = absurd is

not_both : (n : ℕ) → n ≤ 2 ^ 62 → 2 ^ 62 < n → ⊥
not_both n low high = omega arith

plan_stands : (way : Planning) (db : List Relation) (q : Question) → IsWithinLimits (plan_by way db q) db q → (e : Refusal) → PlanRefused way db q e → ⊥
plan_stands way db q limits _ (period_above above) = not_both (period db q.body) limits.period above
plan_stands way db q limits _ (reach_above low above) = not_both (scaled_reach (plan_by way db q) q) limits.reach above

plan_refused_alike : (way : Planning) (db : List Relation) (q : Question) (e f : Refusal) → PlanRefused way db q e → PlanRefused way db q f → e ≡ f
plan_refused_alike way db q _ _ (period_above a) (period_above b) = refl
plan_refused_alike way db q _ _ (period_above a) (reach_above low b) = absurd (not_both (period db q.body) low a)
plan_refused_alike way db q _ _ (reach_above low a) (period_above b) = absurd (not_both (period db q.body) low b)
plan_refused_alike way db q _ _ (reach_above low a) (reach_above more b) = refl

plan_agree : (way : Planning) (db : List Relation) (q : Question) (r s : Result Plan Refusal) → IsPlanned way db q r → IsPlanned way db q s → Lasting r → Lasting s → Agree SameText r s
plan_agree way db q = by_parts (IsPlanned way db q) (IsPlanned way db q) SameText
    (λ p r i j. same_lines 1 p.steps r.steps (plan_by way db q) i.0.steps j.0.steps)
    (λ p f i j l. plan_stands way db q i.1 f (plan_refused way db q f j l))
    (λ e p i j l. plan_stands way db q j.1 e (plan_refused way db q e i l))
    (λ e f i j l m. plan_refused_alike way db q e f (plan_refused way db q e i l) (plan_refused way db q f j m))

-- ---- the cells

data CellsRefused (way : Planning) (db : List Relation) (q : Question) (cap : ℕ) : Refusal → Type 0 where
  many : (step : ℕ) → IsFirstMany (plan_by way db q) db q cap step → CellsRefused way db q cap (Cells cap step)

cells_refused : (way : Planning) (db : List Relation) (q : Question) (cap : ℕ) (e : Refusal) → IsCounted way db q cap (Err e) → Lasts e → CellsRefused way db q cap e
cells_refused way db q cap (Cells most step) is l = subst (λ c. CellsRefused way db q cap (Cells c step)) (sym is.0) (many step is.1)
cells_refused way db q cap Memory is l = absurd l
cells_refused way db q cap _ is l = absurd is

cells_stand : (way : Planning) (db : List Relation) (q : Question) (cap : ℕ) → ((s : ℕ) → ManyAt (plan_by way db q) db q cap s → ⊥) → (e : Refusal) → CellsRefused way db q cap e → ⊥
cells_stand way db q cap few _ (many step first) = few step first.is

one_first : (way : Planning) (db : List Relation) (q : Question) (cap s t : ℕ) → IsFirstMany (plan_by way db q) db q cap s → IsFirstMany (plan_by way db q) db q cap t → s ≡ t
one_first way db q cap s t i j =
    let not_below : s < t → ⊥ = λ h. j.first s h i.is in
    let not_above : t < s → ⊥ = λ h. i.first t h j.is in
    omega arith

cells_refused_alike : (way : Planning) (db : List Relation) (q : Question) (cap : ℕ) (e f : Refusal) → CellsRefused way db q cap e → CellsRefused way db q cap f → e ≡ f
cells_refused_alike way db q cap _ _ (many s i) (many t j) = ap (Cells cap) (one_first way db q cap s t i j)

abbrev pub Counted : Unit {0} → Unit {0} → Type 0
Counted a b = Unit {0}

pub cells_agree : (way : Planning) (db : List Relation) (q : Question) (cap : ℕ) (r s : Result (Unit {0}) Refusal) → IsCounted way db q cap r → IsCounted way db q cap s → Lasting r → Lasting s → Agree Counted r s
cells_agree way db q cap = by_parts (IsCounted way db q cap) (IsCounted way db q cap) Counted
    (λ a b i j. tt)
    (λ a f i j l. cells_stand way db q cap i f (cells_refused way db q cap f j l))
    (λ e a i j l. cells_stand way db q cap j e (cells_refused way db q cap e i l))
    (λ e f i j l m. cells_refused_alike way db q cap e f (cells_refused way db q cap e i l) (cells_refused way db q cap f j m))

-- ---- the head, and the rows of a canonical answer

data HeadRefused (need : Option HeadNeed) (q : Question) : Refusal → Type 0 where
  unfit : (unmet : HeadNeed) → need ≡ Some unmet → (IsMetBy unmet q.head → ⊥) → HeadRefused need q (Head unmet)

head_refused : (need : Option HeadNeed) (q : Question) (e : Refusal) → IsHeadFit need q (Err e) → HeadRefused need q e
head_refused need q (Head unmet) is = unfit unmet is.0 is.1
head_refused need q _ is = absurd is

head_stands : (need : Option HeadNeed) (q : Question) → IsHeadFor need q.head → (e : Refusal) → HeadRefused need q e → ⊥
head_stands need q fit _ (unfit unmet e other) = other (subst (λ n. IsHeadFor n q.head) e fit)

head_refused_alike : (need : Option HeadNeed) (q : Question) (e f : Refusal) → HeadRefused need q e → HeadRefused need q f → e ≡ f
head_refused_alike need q _ _ (unfit one e a) (unfit other f b) = ap Head (same_need one other (sym e ∙ f))
  where
    same_need : (one other : HeadNeed) → Some one ≡ Some other → one ≡ other
    same_need one other h = cc

fit_agree : (need : Option HeadNeed) (q : Question) (r s : Result (Unit {0}) Refusal) → IsHeadFit need q r → IsHeadFit need q s → Lasting r → Lasting s → Agree Counted r s
fit_agree need q =
    by_parts (IsHeadFit need q) (IsHeadFit need q) Counted
    (λ a b i j. tt)
    (λ a f i j l. head_stands need q i f (head_refused need q f j))
    (λ e a i j l. head_stands need q j e (head_refused need q e i))
    (λ e f i j l m. head_refused_alike need q e f (head_refused need q e i) (head_refused need q f j))

-- the plan stands after the head
pub planned_agree : (way : Planning) (need : Option HeadNeed) (db : List Relation) (q : Question) (r s : Result Plan Refusal) → IsPlannedAs way need db q r → IsPlannedAs way need db q s → Lasting r → Lasting s → Agree SameText r s
planned_agree way need db q = then_agree (IsHeadFit need q) (IsHeadFit need q) (λ fit. IsPlanned way db q) (λ fit. IsPlanned way db q) Counted SameText (fit_agree need q) (λ a b i j done. plan_agree way db q)

data RowsRefused (db : List Relation) (q : Question) (cap : ℕ) : Refusal → Type 0 where
  many_rows : (n : ℕ) → HasCanonicalRows db q n → cap < n → RowsRefused db q cap (CanonRows cap)

rows_refused : (db : List Relation) (q : Question) (cap : ℕ) (e : Refusal) → AreRowsCounted db q cap (Err e) → Lasts e → RowsRefused db q cap e
rows_refused db q cap (CanonRows most) is l = subst (λ c. RowsRefused db q cap (CanonRows c)) (sym is.0) (many_rows is.1.0 is.1.1 is.1.2)
rows_refused db q cap Memory is l = absurd l
rows_refused db q cap _ is l = absurd is

rows_stand : OneRowCount → (db : List Relation) (q : Question) (cap n : ℕ) → HasCanonicalRows db q n → n ≤ cap → (e : Refusal) → RowsRefused db q cap e → ⊥
rows_stand one db q cap n is few _ (many_rows m again above) = let same : n ≡ m = one db q n m is again in omega arith

rows_refused_alike : (db : List Relation) (q : Question) (cap : ℕ) (e f : Refusal) → RowsRefused db q cap e → RowsRefused db q cap f → e ≡ f
rows_refused_alike db q cap _ _ (many_rows n i a) (many_rows m j b) = refl

pub rows_agree : OneRowCount → (db : List Relation) (q : Question) (cap : ℕ) (r s : Result (Unit {0}) Refusal) → AreRowsCounted db q cap r → AreRowsCounted db q cap s → Lasting r → Lasting s → Agree Counted r s
rows_agree one db q cap = by_parts (AreRowsCounted db q cap) (AreRowsCounted db q cap) Counted
    (λ a b i j. tt)
    (λ a f i j l. rows_stand one db q cap i.0 i.1 i.2 f (rows_refused db q cap f j l))
    (λ e a i j l. rows_stand one db q cap j.0 j.1 j.2 e (rows_refused db q cap e i l))
    (λ e f i j l m. rows_refused_alike db q cap e f (rows_refused db q cap e i l) (rows_refused db q cap f j m))

-- ---- where a page begins

data TokenRefused (digest : List ℕ) (head : List Column) (text : Text) : Refusal → Type 0 where
  form : IsNoToken text → TokenRefused digest head text TokenForm
  other : HasOtherCounts text (shape_of head) → TokenRefused digest head text TokenShape
  stale : IsStale digest head text → TokenRefused digest head text TokenStale

token_refused : (digest : List ℕ) (head : List Column) (text : Text) (e : Refusal) → IsResumed digest head (Some text) (Err e) → Lasts e → TokenRefused digest head text e
token_refused digest head text TokenForm is l = form is
token_refused digest head text TokenShape is l = other is
token_refused digest head text TokenStale is l = stale is
token_refused digest head text Memory is l = absurd l
token_refused digest head text _ is l = absurd is

module _ (one : OneToken) (digest : List ℕ) (head : List Column) (text : Text) where
  token_stands : (tuple : Option Tuple) → IsResumed digest head (Some text) (Ok tuple) → (e : Refusal) → TokenRefused digest head text e → ⊥
  token_stands None is e refusal = is
  token_stands (Some tuple) is _ (form none) = not_formless one digest head text tuple is none
  token_stands (Some tuple) is _ (other counts) = not_other one digest head text tuple is counts
  token_stands (Some tuple) is _ (stale old) = not_stale one digest head text tuple is old

  -- a token with the head's counts has no others
  counts_apart : HasOtherCounts text (shape_of head) → IsStale digest head text → ⊥
  counts_apart h s =
      let same = one text h.digest (Some s.digest) h.times s.times h.texts s.texts h.token s.token in
      h.other (record { of_times = ap length same.1 ∙ s.counts.of_times; of_texts = ap length same.2 ∙ s.counts.of_texts })

  token_refused_alike : (e f : Refusal) → TokenRefused digest head text e → TokenRefused digest head text f → e ≡ f
  token_refused_alike _ _ (form none) (form more) = refl
  token_refused_alike _ _ (form none) (other h) = absurd (none h.digest h.times h.texts h.token)
  token_refused_alike _ _ (form none) (stale s) = absurd (none (Some s.digest) s.times s.texts s.token)
  token_refused_alike _ _ (other h) (form none) = absurd (none h.digest h.times h.texts h.token)
  token_refused_alike _ _ (other h) (other k) = refl
  token_refused_alike _ _ (other h) (stale s) = absurd (counts_apart h s)
  token_refused_alike _ _ (stale s) (form none) = absurd (none (Some s.digest) s.times s.texts s.token)
  token_refused_alike _ _ (stale s) (other h) = absurd (counts_apart h s)
  token_refused_alike _ _ (stale s) (stale t) = refl

  one_tuple : (t u : Option Tuple) → IsResumed digest head (Some text) (Ok t) → IsResumed digest head (Some text) (Ok u) → t ≡ u
  one_tuple None u i j = absurd i
  one_tuple (Some t) None i j = absurd j
  one_tuple (Some t) (Some u) i j =
      let same = one text i.digest j.digest i.times j.times i.texts j.texts i.token j.token in
      ap Some (i.tuple_is ∙ ap₂ (in_head_order head) same.1 same.2 ∙ sym j.tuple_is)

  token_agree : (r s : Result (Option Tuple) Refusal) → IsResumed digest head (Some text) r → IsResumed digest head (Some text) s → Lasting r → Lasting s → Agree (λ t u. t ≡ u) r s
  token_agree = by_parts (IsResumed digest head (Some text)) (IsResumed digest head (Some text)) (λ t u. t ≡ u) one_tuple
      (λ t f i j l. token_stands t i f (token_refused digest head text f j l))
      (λ e t i j l. token_stands t j e (token_refused digest head text e i l))
      (λ e f i j l m. token_refused_alike e f (token_refused digest head text e i l) (token_refused digest head text f j m))

pub resumed_agree : OneToken → (digest : List ℕ) (head : List Column) (after : Option Text) (r s : Result (Option Tuple) Refusal) → IsResumed digest head after r → IsResumed digest head after s → Lasting r → Lasting s → Agree (λ t u. t ≡ u) r s
resumed_agree one digest head None r s i j l m = subst (λ x. Agree (λ t u. t ≡ u) x s) (sym i) (subst (λ y. Agree {A = Option Tuple} (λ t u. t ≡ u) (Ok None) y) (sym j) refl)
resumed_agree one digest head (Some text) r s i j l m = token_agree one digest head text r s i j l m

-- ---- the output

pub output_agree : (Tells Says : List ℕ → Type 0) (S : List ℕ → List ℕ → Type 0) → ((a b : List ℕ) → Tells a → Says b → S a b) → (o p : Outcome) → IsOutput Tells o → IsOutput Says p → Lasting o → Lasting p → Agree S o p
output_agree Tells Says S same = by_parts (IsOutput Tells) (IsOutput Says) S same
    (λ a f i j l. no_refusal Says f j l)
    (λ e b i j l. no_refusal Tells e i l)
    (λ e f i j l m. absurd (no_refusal Tells e i l))
  where
    no_refusal : (T : List ℕ → Type 0) (e : Refusal) → IsOutput T (Err e) → Lasts e → ⊥
    no_refusal T Memory is l = l
    no_refusal T _ is l = is
