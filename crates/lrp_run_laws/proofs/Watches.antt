-- Two watches over the same bytes come to one outcome.
use Rattle.std.proofs.Common.{◌≡◌, ◌≢◌, ◌⊎◌, ◌||◌, inl, inr, ◌∷◌, ◌++◌, ◌+◌, ◌<◌, ◌≤◌, ◌^◌, ◌∙◌, ℕ, zero, suc, Bool, true, false, List, [], length, flat_map, refl, sym, ap, ap₂, subst, Option, Result, Err, arith}
use Rattle.std.specs.Prelude.{if◌then◌else◌}
use Rattle.std.specs.List.{All, AllByRecursion, AllZip}
use Rattle.std.proofs.lemmas.List.Elements.{All-head, All-tail}
use Rattle.lrp_model.specs.Formulas.{Question, form_of, question_of}
use Rattle.lrp_model.specs.Rows.{rows_of, Tuple}
use Rattle.lrp_model.specs.Texts.{Identifier}
use Rattle.lrp_model.specs.declared.faults.DbFault.{DbFault}
use Rattle.lrp_model.specs.declared.formulas.Query.{Query}
use Rattle.lrp_model.specs.declared.relations.Relation.{Relation}
use Rattle.lrp_model.specs.declared.relations.Row.{Row}
use Rattle.lrp_edits.specs.EditReading.{IsEditsFault, SaysEdits}
use Rattle.lrp_edits.specs.declared.edits.Edit.{Edit}
use Rattle.lrp_kept.specs.Choices.{HasLargeChoicePart}
use Rattle.lrp_kept.specs.EqualRows.{AreEqualRows}
use Rattle.lrp_kept.specs.KeptForm.{is_kept}
use Rattle.lrp_kept.specs.Limits.{scaled_kept_reach, names_relation, raised_period, row_bound}
use Rattle.lrp_keep.specs.Keeps.{HasNoEqual, IsTakenOut, IsWithout, KeepView, opened, raised_at, with_added, with_row, IsPastLimit, StaysWithinLimits}
use Rattle.lrp_keep.specs.Replaced.{replaced}
use Rattle.lrp_keep.specs.declared.faults.KeepFault.{KeepFault}
use Rattle.lrp_keep.specs.declared.faults.KeepFault.TheVariants as limit
use Rattle.lrp_watch.specs.Edits.{AreMade, IsEditMade, IsMadeBy, IsRefusedEdit, last_kept}
use Rattle.lrp_outputs.specs.First.{IsFirst, first_line}
use Rattle.lrp_model.specs.declared.plans.Planning.{Planning}
use Rattle.lrp_watch.specs.Anew.{IsPastAfter, IsPastPlan, IsWithinPlan, TellsLeastsAnew}
use Rattle.lrp_watch.specs.Edited.{AreEdited, IsEditedBy}
use Rattle.lrp_watch.specs.Watching.{IsOpened, IsPassed, TellsLeasts, watched_constants}
use Rattle.lrp_outputs.specs.Outcomes.{Outcome}
use Rattle.lrp_top.specs.Seen.{ShelfSeen, AreBytesOf}
use Rattle.lrp_top.specs.Watched.{AreEditsRead, AreEditsReadOf, IsFormFit, IsPassedBy, IsWatched, TellsLeastsBy}
use Rattle.lrp_outputs.specs.declared.refusal.Refusal.{Refusal}
use Rattle.lrp_outputs.specs.declared.refusal.Refusal.TheVariants.{Watch, Memory}
use Rattle.lrp_outputs.specs.declared.watch_refusal.WatchRefusal.TheVariants as watch
use Rattle.lrp_run_laws.proofs.Agree.{Agree, Counted, Lasting, Lasts, by_parts}
use Rattle.lrp_run_laws.proofs.Alike.{OneRank, WholeTuples, one_start}
use Rattle.lrp_run_laws.proofs.Complete.{EditTexts, no_longer}

-- ---- the row that is taken out is one

taken_tail : (row : Row) (x : Row) (old new : List Row) → IsTakenOut row (x ∷ old) new → (AreEqualRows x row → ⊥) → (rest : List Row) × IsTakenOut row old rest × (new ≡ x ∷ rest)
taken_tail row x old new t other = by t.front t.held t.back t.were t.are t.equal t.first
  where
    by : (front : List Row) (held : Row) (back : List Row) → x ∷ old ≡ front ++ held ∷ back → new ≡ front ++ back → AreEqualRows held row → All (λ r. AreEqualRows r row → ⊥) front → (rest : List Row) × IsTakenOut row old rest × (new ≡ x ∷ rest)
    by [] held back were are equal first = let same : x ≡ held = cc in absurd (other (subst (λ r. AreEqualRows r row) (sym same) equal))
    by (f ∷ front) held back were are equal first =
        let same : x ≡ f = cc in
        let rest : old ≡ front ++ held ∷ back = cc in
        (front ++ back, record { front = front; held = held; back = back; were = rest; are = refl; equal = equal; first = All-tail (λ r. AreEqualRows r row → ⊥) f front first }, are ∙ ap (λ y. y ∷ front ++ back) (sym same))

taken_head : (row : Row) (x : Row) (old new : List Row) → IsTakenOut row (x ∷ old) new → AreEqualRows x row → new ≡ old
taken_head row x old new t own = by t.front t.held t.back t.were t.are t.first
  where
    by : (front : List Row) (held : Row) (back : List Row) → x ∷ old ≡ front ++ held ∷ back → new ≡ front ++ back → All (λ r. AreEqualRows r row → ⊥) front → new ≡ old
    by [] held back were are first = let same : old ≡ back = cc in are ∙ sym same
    by (f ∷ front) held back were are first = let same : x ≡ f = cc in absurd (All-head (λ r. AreEqualRows r row → ⊥) f front first (subst (λ r. AreEqualRows r row) same own))

none_taken : (row : Row) (new : List Row) {P : Type 0} → IsTakenOut row [] new → P
none_taken row new t = by t.front t.held t.back t.were
  where
    by : {P : Type 0} (front : List Row) (held : Row) (back : List Row) → ◌≡◌ {A = List Row} [] (front ++ held ∷ back) → P
    by [] held back e = cc
    by (f ∷ front) held back e = cc

-- where the first one is taken out of a list, none is equal before it
first_or_later : (row x : Row) (old new : List Row) → IsTakenOut row (x ∷ old) new → AreEqualRows x row ⊎ (AreEqualRows x row → ⊥)
first_or_later row x old new t = by t.front t.held t.back t.were t.equal t.first
  where
    by : (front : List Row) (held : Row) (back : List Row) → x ∷ old ≡ front ++ held ∷ back → AreEqualRows held row → All (λ r. AreEqualRows r row → ⊥) front → AreEqualRows x row ⊎ (AreEqualRows x row → ⊥)
    by [] held back were equal first = let same : x ≡ held = cc in inl (subst (λ r. AreEqualRows r row) (sym same) equal)
    by (f ∷ front) held back were equal first = let same : x ≡ f = cc in inr (subst (λ r. AreEqualRows r row → ⊥) (sym same) (All-head (λ r. AreEqualRows r row → ⊥) f front first))

one_taken : (row : Row) (old new other : List Row) → IsTakenOut row old new → IsTakenOut row old other → new ≡ other
one_taken row [] new other a b = none_taken row new a
one_taken row (x ∷ old) new other a b = elim (first_or_later row x old new a) [
  | inl own ↦ taken_head row x old new a own ∙ sym (taken_head row x old other b own)
  | inr apart ↦
      let r = taken_tail row x old new a apart in
      let s = taken_tail row x old other b apart in
      r.2 ∙ ap (λ rows. x ∷ rows) (one_taken row old r.0 s.0 r.1 s.1) ∙ sym s.2
]

taken_or_none : (row : Row) (old new : List Row) {P : Type 0} → IsTakenOut row old new → HasNoEqual row old → P
taken_or_none row [] new a none = none_taken row new a
taken_or_none row (x ∷ old) new a none = elim (first_or_later row x old new a) [
  | inl own ↦ absurd (All-head (λ r. AreEqualRows r row → ⊥) x old none own)
  | inr apart ↦ let r = taken_tail row x old new a apart in taken_or_none row old r.0 r.1 (All-tail (λ r. AreEqualRows r row → ⊥) x old none)
]

-- ---- what is kept of one query in two forms

-- the same, but for the form of the query
record AreTwins (k l : KeepView) : Type 0 where
  query : question_of k.query ≡ question_of l.query
  is : l ≡ record { query = l.query; domain = k.domain; cap = k.cap; relations = k.relations; period = k.period; bounds = k.bounds }

-- k with the query in another form
abbrev held_as : Query → KeepView → KeepView
held_as r k = record { query = r; domain = k.domain; cap = k.cap; relations = k.relations; period = k.period; bounds = k.bounds }

-- limits by the query alone
abbrev Cause : Question → KeepView → KeepFault → Type 0
Cause q k limit.PeriodLimit = 2 ^ 62 < k.period
Cause q k limit.BoundLimit = (k.period ≤ 2 ^ 62) × (2 ^ 62 < scaled_kept_reach k.relations k.bounds k.period q)
Cause q k limit.TooManyCells = (k.period ≤ 2 ^ 62) × (scaled_kept_reach k.relations k.bounds k.period q ≤ 2 ^ 62) × HasLargeChoicePart k.relations q k.domain k.period k.cap
Cause q k limit.Memory = Unit {0}

cause_to : (k : KeepView) (fault : KeepFault) → IsPastLimit k fault → Cause (question_of k.query) k fault
cause_to k limit.PeriodLimit h = h
cause_to k limit.BoundLimit h = h
cause_to k limit.TooManyCells h = h
cause_to k limit.Memory h = h

cause_from : (r : Query) (k : KeepView) (fault : KeepFault) → Cause (question_of r) k fault → IsPastLimit (held_as r k) fault
cause_from r k limit.PeriodLimit h = h
cause_from r k limit.BoundLimit h = h
cause_from r k limit.TooManyCells h = h
cause_from r k limit.Memory h = h

cause_twin : (k l : KeepView) (fault : KeepFault) → AreTwins k l → IsPastLimit k fault → IsPastLimit l fault
cause_twin k l fault twin h = subst (λ (m : KeepView). IsPastLimit m fault) (sym twin.is) (cause_from l.query k fault (subst (λ q. Cause q k fault) twin.query (cause_to k fault h)))

twin_back : (k l : KeepView) → AreTwins k l → AreTwins l k
twin_back k l twin = record {
  query = sym twin.query;
  is = ap (λ (m : KeepView). record { query = k.query; domain = m.domain; cap = m.cap; relations = m.relations; period = m.period; bounds = m.bounds }) (sym twin.is);
}

-- no limit is passed and passed
not_both : (n : ℕ) → n ≤ 2 ^ 62 → 2 ^ 62 < n → ⊥
not_both n low high = omega arith

not_within : (k : KeepView) (fault : KeepFault) → fault ≢ limit.Memory → StaysWithinLimits k → IsPastLimit k fault → ⊥
not_within k limit.PeriodLimit some within h = not_both k.period within.period h
not_within k limit.BoundLimit some within h = not_both _ within.reach h.1
not_within k limit.TooManyCells some within h = within.cells h.2
not_within k limit.Memory some within h = some refl

-- one limit is the first that is passed
one_cause : (k : KeepView) (fault other : KeepFault) → fault ≢ limit.Memory → other ≢ limit.Memory → IsPastLimit k fault → IsPastLimit k other → fault ≡ other
one_cause k limit.PeriodLimit limit.PeriodLimit some more h g = refl
one_cause k limit.PeriodLimit limit.BoundLimit some more h g = absurd (not_both k.period g.0 h)
one_cause k limit.PeriodLimit limit.TooManyCells some more h g = absurd (not_both k.period g.0 h)
one_cause k limit.BoundLimit limit.PeriodLimit some more h g = absurd (not_both k.period h.0 g)
one_cause k limit.BoundLimit limit.BoundLimit some more h g = refl
one_cause k limit.BoundLimit limit.TooManyCells some more h g = absurd (not_both _ g.1 h.1)
one_cause k limit.TooManyCells limit.PeriodLimit some more h g = absurd (not_both k.period h.0 g)
one_cause k limit.TooManyCells limit.BoundLimit some more h g = absurd (not_both _ h.1 g.1)
one_cause k limit.TooManyCells limit.TooManyCells some more h g = refl
one_cause k limit.Memory other some more h g = absurd (some refl)
one_cause k fault limit.Memory some more h g = absurd (more refl)

-- ---- edits of twins

-- with a row more, where the flag says whether its relation is named
abbrev added_where : Bool → Query → KeepView → Identifier → Row → KeepView
added_where named r k name row =
    record {
      query = r;
      domain = k.domain;
      cap = k.cap;
      relations = with_row k.relations name row;
      period = if named then raised_period k.period row else k.period;
      bounds = raised_at name (row_bound row) k.relations k.bounds;
    }

added_as : (r : Query) (k : KeepView) (name : Identifier) (row : Row) → question_of k.query ≡ question_of r → AreTwins (with_added k name row) (with_added (held_as r k) name row)
added_as r k name row same =
    let named : names_relation (form_of r.body) name ≡ names_relation (form_of k.query.body) name = ap (λ (q : Question). names_relation q.body name) (sym same) in
    record { query = same; is = ap (λ b. added_where b r k name row) named }

twin_added : (k l : KeepView) (name : Identifier) (row : Row) → AreTwins k l → AreTwins (with_added k name row) (with_added l name row)
twin_added k l name row twin = subst (λ (m : KeepView). AreTwins (with_added k name row) (with_added m name row)) (sym twin.is) (added_as l.query k name row twin.query)

relations_same : (k l : KeepView) → AreTwins k l → l.relations ≡ k.relations
relations_same k l twin = ap (λ (m : KeepView). m.relations) twin.is

without_twin : (name : Identifier) (row : Row) (k l next other : KeepView) → AreTwins k l → IsWithout name row k next → IsWithout name row l other → AreTwins next other
without_twin name row k l next other twin a b =
    let same : a.rows ≡ b.rows = one_taken row (rows_of k.relations name) a.rows b.rows a.taken (subst (λ db. IsTakenOut row (rows_of db name) b.rows) (relations_same k l twin) b.taken) in
    subst (λ (m : KeepView). AreTwins m other) (sym a.is) (subst (λ (m : KeepView). AreTwins (record k { relations = replaced k.relations name a.rows }) m) (sym b.is)
    (subst (λ rows. AreTwins (record k { relations = replaced k.relations name a.rows }) (record l { relations = replaced l.relations name rows })) same
    (record {
      query = twin.query;
      is = ap (λ (m : KeepView). record { query = l.query; domain = m.domain; cap = m.cap; relations = replaced m.relations name a.rows; period = m.period; bounds = m.bounds }) twin.is;
    })))

made_twin : (add : Bool) (name : Identifier) (row : Row) (k l next other : KeepView) → AreTwins k l → IsMadeBy add name row k next → IsMadeBy add name row l other → AreTwins next other
made_twin true name row k l next other twin a b =
    subst (λ (m : KeepView). AreTwins m other) (sym a.0) (subst (λ (m : KeepView). AreTwins (with_added k name row) m) (sym b.0) (twin_added k l name row twin))
made_twin false name row k l next other twin (inl a) (inl b) = without_twin name row k l next other twin a b
made_twin false name row k l next other twin (inl a) (inr b) = taken_or_none row (rows_of k.relations name) a.rows a.taken (subst (λ db. HasNoEqual row (rows_of db name)) (relations_same k l twin) b.0)
made_twin false name row k l next other twin (inr a) (inl b) = taken_or_none row (rows_of k.relations name) b.rows (subst (λ db. IsTakenOut row (rows_of db name) b.rows) (relations_same k l twin) b.taken) a.0
made_twin false name row k l next other twin (inr a) (inr b) = subst (λ (m : KeepView). AreTwins m other) (sym a.1) (subst (λ (m : KeepView). AreTwins k m) (sym b.1) twin)

-- an edit is not made and refused
made_or_refused : (e : Edit) (k l next : KeepView) (fault : KeepFault) → fault ≢ limit.Memory → AreTwins k l → IsEditMade e k next → IsRefusedEdit e l fault → ⊥
made_or_refused e k l next fault some twin made refused = by e.add refused.adds made
  where
    by : (add : Bool) → add ≡ true → IsMadeBy add e.relation e.row k next → ⊥
    by false adds made = cc
    by true adds made =
        not_within next fault some made.1
        (subst (λ (m : KeepView). IsPastLimit m fault) (sym made.0) (cause_twin (with_added l e.relation e.row) (with_added k e.relation e.row) fault (twin_back _ _ (twin_added k l e.relation e.row twin)) refused.cause))

-- ---- the numbers and the limits that are passed

-- all edits are made, or one is refused
all_or_passed : (es before after : List Edit) (e : Edit) (k l : KeepView) (later others : List KeepView) (fault : KeepFault) → fault ≢ limit.Memory → AreTwins k l → es ≡ before ++ e ∷ after
    → AreMade es k later → AreMade before l others → IsRefusedEdit e (last_kept l others) fault → ⊥
all_or_passed [] [] after e k l later others fault some twin are made before refused = cc
all_or_passed [] (b ∷ bs) after e k l later others fault some twin are made before refused = cc
all_or_passed (x ∷ es) [] after e k l [] others fault some twin are made before refused = made
all_or_passed (x ∷ es) [] after e k l (next ∷ later) others fault some twin are made before refused =
    let same : x ≡ e = cc in
    made_or_refused e k l next fault some twin (subst (λ y. IsEditMade y k next) same made.0) (subst (λ (ks : List KeepView). IsRefusedEdit e (last_kept l ks) fault) before refused)
all_or_passed (x ∷ es) (b ∷ bs) after e k l [] others fault some twin are made before refused = made
all_or_passed (x ∷ es) (b ∷ bs) after e k l (next ∷ later) [] fault some twin are made before refused = before
all_or_passed (x ∷ es) (b ∷ bs) after e k l (next ∷ later) (other ∷ others) fault some twin are made before refused =
    let same : x ≡ b = cc in
    let rest : es ≡ bs ++ e ∷ after = cc in
    all_or_passed es bs after e next other later others fault some (made_twin b.add b.relation b.row k l next other twin (subst (λ y. IsEditMade y k next) same made.0) before.0) rest made.1 before.1 refused

-- two refused edits are one
one_passed : (front before : List Edit) (d e : Edit) (rest after : List Edit) (k l : KeepView) (later others : List KeepView) (fault other : KeepFault) → fault ≢ limit.Memory → other ≢ limit.Memory → AreTwins k l
    → front ++ d ∷ rest ≡ before ++ e ∷ after → AreMade front k later → AreMade before l others → IsRefusedEdit d (last_kept k later) fault → IsRefusedEdit e (last_kept l others) other → (length front ≡ length before) × (fault ≡ other)
one_passed [] [] d e rest after k l later others fault other some more twin are a b r s =
    let same : d ≡ e = cc in
    let own : IsRefusedEdit d k fault = subst (λ (ks : List KeepView). IsRefusedEdit d (last_kept k ks) fault) a r in
    let its : IsRefusedEdit e l other = subst (λ (ks : List KeepView). IsRefusedEdit e (last_kept l ks) other) b s in
    let cause : IsPastLimit (with_added k e.relation e.row) fault = subst (λ (x : Edit). IsPastLimit (with_added k x.relation x.row) fault) same own.cause in
    (refl, one_cause (with_added l e.relation e.row) fault other some more (cause_twin (with_added k e.relation e.row) (with_added l e.relation e.row) fault (twin_added k l e.relation e.row twin) cause) its.cause)
one_passed [] (x ∷ before) d e rest after k l later [] fault other some more twin are a b r s = absurd b
one_passed [] (x ∷ before) d e rest after k l later (next ∷ others) fault other some more twin are a b r s =
    let same : d ≡ x = cc in
    absurd (made_or_refused x l k next fault some (twin_back k l twin) b.0 (subst (λ y. IsRefusedEdit y k fault) same (subst (λ (ks : List KeepView). IsRefusedEdit d (last_kept k ks) fault) a r)))
one_passed (y ∷ front) [] d e rest after k l [] others fault other some more twin are a b r s = absurd a
one_passed (y ∷ front) [] d e rest after k l (next ∷ later) others fault other some more twin are a b r s =
    let same : e ≡ y = cc in
    absurd (made_or_refused y k l next other more twin a.0 (subst (λ z. IsRefusedEdit z l other) same (subst (λ (ks : List KeepView). IsRefusedEdit e (last_kept l ks) other) b s)))
one_passed (y ∷ front) (x ∷ before) d e rest after k l [] others fault other some more twin are a b r s = absurd a
one_passed (y ∷ front) (x ∷ before) d e rest after k l (next ∷ later) [] fault other some more twin are a b r s = absurd b
one_passed (y ∷ front) (x ∷ before) d e rest after k l (next ∷ later) (last ∷ others) fault other some more twin are a b r s =
    let same : y ≡ x = cc in
    let tail : front ++ d ∷ rest ≡ before ++ e ∷ after = cc in
    let both = one_passed front before d e rest after next last later others fault other some more (made_twin x.add x.relation x.row k l next last twin (subst (λ z. IsEditMade z k next) same a.0) b.0) tail a.1 b.1 r s in
    (ap suc both.0, both.1)

-- the states of two watches
later_twins : (es : List Edit) (k l : KeepView) (later others : List KeepView) → AreTwins k l → AreMade es k later → AreMade es l others → AllZip AreTwins later others
later_twins [] k l later others twin a b = subst (λ ks. AllZip AreTwins ks others) (sym a) (subst (λ ks. AllZip AreTwins [] ks) (sym b) tt)
later_twins (e ∷ es) k l [] others twin a b = absurd a
later_twins (e ∷ es) k l (next ∷ later) [] twin a b = absurd b
later_twins (e ∷ es) k l (next ∷ later) (other ∷ others) twin a b =
    let both = made_twin e.add e.relation e.row k l next other twin a.0 b.0 in
    (both, later_twins es next other later others both a.1 b.1)

-- ---- over one database, one query and the same edits

module _ (rank : OneRank) (tuples : WholeTuples) (db : List Relation) (q : Question) (edits : List Edit) (cap : ℕ) where
  opened_twins : (k l : KeepView) → IsOpened db q edits cap k → IsOpened db q edits cap l → AreTwins k l
  opened_twins k l a b = record {
    query = a.query ∙ sym b.query;
    is = b.is ∙ sym (ap (held_as l.query) a.is ∙ ap with_period (ap (λ (r : Question). Rattle.lrp_model.specs.Periods.period db r.body) (a.query ∙ sym b.query)));
  }
    where
      with_period : ℕ → KeepView
      with_period period = record (opened l.query db (watched_constants db q edits) cap) { period = period }

  one_firsts : (ks ls : List KeepView) (firsts others : List (Option Tuple)) → AllZip AreTwins ks ls → AllZip (λ k first. IsFirst k.relations q first) ks firsts → AllZip (λ k first. IsFirst k.relations q first) ls others → firsts ≡ others
  one_firsts [] [] [] [] t a b = refl
  one_firsts [] [] [] (o ∷ os) t a b = absurd b
  one_firsts [] [] (f ∷ fs) os t a b = absurd a
  one_firsts [] (l ∷ ls) fs os t a b = absurd t
  one_firsts (k ∷ ks) [] fs os t a b = absurd t
  one_firsts (k ∷ ks) (l ∷ ls) [] os t a b = absurd a
  one_firsts (k ∷ ks) (l ∷ ls) (f ∷ fs) [] t a b = absurd b
  one_firsts (k ∷ ks) (l ∷ ls) (f ∷ fs) (o ∷ os) t a b =
      ap₂ (λ x xs. x ∷ xs) (one_start rank tuples k.relations q f o a.0 (subst (λ r. IsFirst r q o) (relations_same k l t.0) b.0)) (one_firsts ks ls fs os t.1 a.1 b.1)

  one_lines : (bytes other : List ℕ) → TellsLeasts db q edits cap bytes → TellsLeasts db q edits cap other → bytes ≡ other
  one_lines bytes other a b =
      let twin = opened_twins a.kept b.kept a.opened b.opened in
      a.spelled ∙ ap (flat_map first_line) (one_firsts (a.kept ∷ a.later) (b.kept ∷ b.later) a.firsts b.firsts (twin, later_twins edits a.kept b.kept a.later b.later twin a.made b.made) a.are b.are) ∙ sym b.spelled

  -- lines are told where no limit is passed
  told_or_passed : (bytes : List ℕ) (number : ℕ) (fault : KeepFault) → fault ≢ limit.Memory → TellsLeasts db q edits cap bytes → IsPassed db q edits cap number fault → ⊥
  told_or_passed bytes zero fault some a p = not_within a.kept fault some a.within (cause_twin p.kept a.kept fault (opened_twins p.kept a.kept p.opened a.opened) p.at)
  told_or_passed bytes (suc n) fault some a p =
      let at = p.at.1 in
      all_or_passed edits at.before at.after at.edit a.kept p.kept a.later at.later fault some (opened_twins a.kept p.kept a.opened p.opened) at.are a.made at.made at.refused

  one_number : (number other : ℕ) (fault more : KeepFault) → fault ≢ limit.Memory → more ≢ limit.Memory → IsPassed db q edits cap number fault → IsPassed db q edits cap other more → (number ≡ other) × (fault ≡ more)
  one_number zero zero fault more some also a b = (refl, one_cause b.kept fault more some also (cause_twin a.kept b.kept fault (opened_twins a.kept b.kept a.opened b.opened) a.at) b.at)
  one_number zero (suc m) fault more some also a b = absurd (not_within b.kept fault some b.at.0 (cause_twin a.kept b.kept fault (opened_twins a.kept b.kept a.opened b.opened) a.at))
  one_number (suc n) zero fault more some also a b = absurd (not_within a.kept more also a.at.0 (cause_twin b.kept a.kept more (opened_twins b.kept a.kept b.opened a.opened) b.at))
  one_number (suc n) (suc m) fault more some also a b =
      let x = a.at.1 in
      let y = b.at.1 in
      let both = one_passed x.before y.before x.edit y.edit x.after y.after a.kept b.kept x.later y.later fault more some also (opened_twins a.kept b.kept a.opened b.opened) (sym x.are ∙ y.are) x.made y.made x.refused y.refused in
      (x.number_is ∙ ap (λ n. n + 1) both.0 ∙ sym y.number_is, both.1)

-- ---- decided anew

one_edited : (add : Bool) (name : Identifier) (row : Row) (old new other : List Relation) → IsEditedBy add name row old new → IsEditedBy add name row old other → new ≡ other
one_edited true name row old new other a b = a ∙ sym b
one_edited false name row old new other (inl a) (inl b) = a.is ∙ ap (replaced old name) (one_taken row (rows_of old name) a.rows b.rows a.taken b.taken) ∙ sym b.is
one_edited false name row old new other (inl a) (inr b) = taken_or_none row (rows_of old name) a.rows a.taken b.0
one_edited false name row old new other (inr a) (inl b) = taken_or_none row (rows_of old name) b.rows b.taken a.0
one_edited false name row old new other (inr a) (inr b) = a.1 ∙ sym b.1

later_one : (es : List Edit) (db : List Relation) (later others : List (List Relation)) → AreEdited es db later → AreEdited es db others → later ≡ others
later_one [] db later others a b = a ∙ sym b
later_one (e ∷ es) db [] others a b = absurd a
later_one (e ∷ es) db (next ∷ later) [] a b = absurd b
later_one (e ∷ es) db (next ∷ later) (other ∷ others) a b =
    let same : next ≡ other = one_edited e.add e.relation e.row db next other a.0 b.0 in
    ap₂ (λ x xs. x ∷ xs) same (later_one es other later others (subst (λ d. AreEdited es d later) same a.1) b.1)

module _ (rank : OneRank) (tuples : WholeTuples) (way : Planning) (q : Question) (cap : ℕ) where
  firsts_one : (dbs : List (List Relation)) (firsts others : List (Option Tuple)) → AllZip (λ held first. IsFirst held q first) dbs firsts → AllZip (λ held first. IsFirst held q first) dbs others → firsts ≡ others
  firsts_one [] [] [] a b = refl
  firsts_one [] [] (o ∷ os) a b = absurd b
  firsts_one [] (f ∷ fs) os a b = absurd a
  firsts_one (d ∷ ds) [] os a b = absurd a
  firsts_one (d ∷ ds) (f ∷ fs) [] a b = absurd b
  firsts_one (d ∷ ds) (f ∷ fs) (o ∷ os) a b = ap₂ (λ x xs. x ∷ xs) (one_start rank tuples d q f o a.0 b.0) (firsts_one ds fs os a.1 b.1)

  lines_one : (db : List Relation) (edits : List Edit) (bytes other : List ℕ) → TellsLeastsAnew way db q edits cap bytes → TellsLeastsAnew way db q edits cap other → bytes ≡ other
  lines_one db edits bytes other a b =
      let same : a.later ≡ b.later = later_one edits db a.later b.later a.edited b.edited in
      a.spelled ∙ ap (flat_map first_line) (firsts_one (db ∷ b.later) a.firsts b.firsts (subst (λ (l : List (List Relation)). AllZip (λ held first. IsFirst held q first) (db ∷ l) a.firsts) same a.are) b.are) ∙ sym b.spelled

  -- no limit of a plan is passed and passed
  plan_within : (db : List Relation) (fault : KeepFault) → fault ≢ limit.Memory → IsWithinPlan way q cap db → IsPastPlan way q cap db fault → ⊥
  plan_within db limit.PeriodLimit some within h = not_both _ within.limits.period h
  plan_within db limit.BoundLimit some within h = not_both _ within.limits.reach h.1
  plan_within db limit.TooManyCells some within h = within.few h.1.0 h.1.1.is
  plan_within db limit.Memory some within h = some refl

  one_past : (db : List Relation) (fault other : KeepFault) → fault ≢ limit.Memory → other ≢ limit.Memory → IsPastPlan way q cap db fault → IsPastPlan way q cap db other → fault ≡ other
  one_past db limit.PeriodLimit limit.PeriodLimit some more h g = refl
  one_past db limit.PeriodLimit limit.BoundLimit some more h g = absurd (not_both _ g.0 h)
  one_past db limit.PeriodLimit limit.TooManyCells some more h g = absurd (not_both _ g.0.period h)
  one_past db limit.BoundLimit limit.PeriodLimit some more h g = absurd (not_both _ h.0 g)
  one_past db limit.BoundLimit limit.BoundLimit some more h g = refl
  one_past db limit.BoundLimit limit.TooManyCells some more h g = absurd (not_both _ g.0.reach h.1)
  one_past db limit.TooManyCells limit.PeriodLimit some more h g = absurd (not_both _ h.0.period g)
  one_past db limit.TooManyCells limit.BoundLimit some more h g = absurd (not_both _ h.0.reach g.1)
  one_past db limit.TooManyCells limit.TooManyCells some more h g = refl
  one_past db limit.Memory other some more h g = absurd (some refl)
  one_past db fault limit.Memory some more h g = absurd (more refl)

  lines_or_passed : (edits : List Edit) (db : List Relation) (later : List (List Relation)) (number : ℕ) (fault : KeepFault) → fault ≢ limit.Memory → AreEdited edits db later → AllByRecursion (IsWithinPlan way q cap) (db ∷ later) → IsPastAfter way q cap edits db number fault → ⊥
  lines_or_passed edits db later zero fault some made within p = plan_within db fault some within.0 p
  lines_or_passed [] db later (suc n) fault some made within p = p
  lines_or_passed (e ∷ es) db [] (suc n) fault some made within p = made
  lines_or_passed (e ∷ es) db (next ∷ later) (suc n) fault some made within p =
      let same : p.1.0 ≡ next = one_edited e.add e.relation e.row db p.1.0 next p.1.1 made.0 in
      lines_or_passed es next later n fault some made.1 within.1 (subst (λ d. IsPastAfter way q cap es d n fault) same p.1.2)

  number_one : (edits : List Edit) (db : List Relation) (number other : ℕ) (fault more : KeepFault) → fault ≢ limit.Memory → more ≢ limit.Memory → IsPastAfter way q cap edits db number fault → IsPastAfter way q cap edits db other more → (number ≡ other) × (fault ≡ more)
  number_one edits db zero zero fault more some also a b = (refl, one_past db fault more some also a b)
  number_one [] db zero (suc m) fault more some also a b = absurd b
  number_one (e ∷ es) db zero (suc m) fault more some also a b = absurd (plan_within db fault some b.0 a)
  number_one [] db (suc n) other fault more some also a b = absurd a
  number_one (e ∷ es) db (suc n) zero fault more some also a b = absurd (plan_within db more also a.0 b)
  number_one (e ∷ es) db (suc n) (suc m) fault more some also a b =
      let same : b.1.0 ≡ a.1.0 = one_edited e.add e.relation e.row db b.1.0 a.1.0 b.1.1 a.1.1 in
      let both = number_one es a.1.0 n m fault more some also a.1.2 (subst (λ d. IsPastAfter way q cap es d m more) same b.1.2) in
      (ap suc both.0, both.1)

-- ---- by whichever way

module _ (rank : OneRank) (tuples : WholeTuples) (kept : Bool) (way : Planning) (db : List Relation) (q : Question) (edits : List Edit) (cap : ℕ) where
  lines_alike : (kept : Bool) (bytes other : List ℕ) → TellsLeastsBy kept way db q edits cap bytes → TellsLeastsBy kept way db q edits cap other → bytes ≡ other
  lines_alike true = one_lines rank tuples db q edits cap
  lines_alike false = lines_one rank tuples way q cap db edits

  told_not_passed : (kept : Bool) (bytes : List ℕ) (number : ℕ) (fault : KeepFault) → fault ≢ limit.Memory → TellsLeastsBy kept way db q edits cap bytes → IsPassedBy kept way db q edits cap number fault → ⊥
  told_not_passed true bytes number fault some a p = told_or_passed rank tuples db q edits cap bytes number fault some a p
  told_not_passed false bytes number fault some a p = lines_or_passed rank tuples way q cap edits db a.later number fault some a.edited a.within p

  one_number_by : (kept : Bool) (number other : ℕ) (fault more : KeepFault) → fault ≢ limit.Memory → more ≢ limit.Memory → IsPassedBy kept way db q edits cap number fault → IsPassedBy kept way db q edits cap other more → (number ≡ other) × (fault ≡ more)
  one_number_by true = one_number rank tuples db q edits cap
  one_number_by false = number_one rank tuples way q cap edits db

  -- why a watch is refused
  data Passed : Refusal → Type 0 where
    at_period : (number : ℕ) → IsPassedBy kept way db q edits cap number limit.PeriodLimit → Passed (Watch (watch.PeriodLimit number))
    at_bound : (number : ℕ) → IsPassedBy kept way db q edits cap number limit.BoundLimit → Passed (Watch (watch.BoundLimit number))
    at_cells : (number : ℕ) → IsPassedBy kept way db q edits cap number limit.TooManyCells → Passed (Watch (watch.Cells cap number))

  passed : (e : Refusal) → IsWatched kept way db q cap edits (Err e) → Lasts e → Passed e
  passed (Watch (watch.PeriodLimit n)) is l = at_period n is
  passed (Watch (watch.BoundLimit n)) is l = at_bound n is
  passed (Watch (watch.Cells most n)) is l = subst (λ c. Passed (Watch (watch.Cells c n))) (sym is.0) (at_cells n is.1)
  passed Memory is l = absurd l
  passed _ is l = absurd is

  not_memory : limit.PeriodLimit ≢ limit.Memory
  not_memory e = cc

  bound_some : limit.BoundLimit ≢ limit.Memory
  bound_some e = cc

  cells_some : limit.TooManyCells ≢ limit.Memory
  cells_some e = cc

  told_stands : (bytes : List ℕ) → TellsLeastsBy kept way db q edits cap bytes → (e : Refusal) → Passed e → ⊥
  told_stands bytes a _ (at_period n p) = told_not_passed kept bytes n limit.PeriodLimit not_memory a p
  told_stands bytes a _ (at_bound n p) = told_not_passed kept bytes n limit.BoundLimit bound_some a p
  told_stands bytes a _ (at_cells n p) = told_not_passed kept bytes n limit.TooManyCells cells_some a p

  passed_alike : (e f : Refusal) → Passed e → Passed f → e ≡ f
  passed_alike _ _ (at_period n a) (at_period m b) = ap (λ x. Watch (watch.PeriodLimit x)) (one_number_by kept n m limit.PeriodLimit limit.PeriodLimit not_memory not_memory a b).0
  passed_alike _ _ (at_period n a) (at_bound m b) = let e : limit.PeriodLimit ≡ limit.BoundLimit = (one_number_by kept n m limit.PeriodLimit limit.BoundLimit not_memory bound_some a b).1 in cc
  passed_alike _ _ (at_period n a) (at_cells m b) = let e : limit.PeriodLimit ≡ limit.TooManyCells = (one_number_by kept n m limit.PeriodLimit limit.TooManyCells not_memory cells_some a b).1 in cc
  passed_alike _ _ (at_bound n a) (at_period m b) = let e : limit.BoundLimit ≡ limit.PeriodLimit = (one_number_by kept n m limit.BoundLimit limit.PeriodLimit bound_some not_memory a b).1 in cc
  passed_alike _ _ (at_bound n a) (at_bound m b) = ap (λ x. Watch (watch.BoundLimit x)) (one_number_by kept n m limit.BoundLimit limit.BoundLimit bound_some bound_some a b).0
  passed_alike _ _ (at_bound n a) (at_cells m b) = let e : limit.BoundLimit ≡ limit.TooManyCells = (one_number_by kept n m limit.BoundLimit limit.TooManyCells bound_some cells_some a b).1 in cc
  passed_alike _ _ (at_cells n a) (at_period m b) = let e : limit.TooManyCells ≡ limit.PeriodLimit = (one_number_by kept n m limit.TooManyCells limit.PeriodLimit cells_some not_memory a b).1 in cc
  passed_alike _ _ (at_cells n a) (at_bound m b) = let e : limit.TooManyCells ≡ limit.BoundLimit = (one_number_by kept n m limit.TooManyCells limit.BoundLimit cells_some bound_some a b).1 in cc
  passed_alike _ _ (at_cells n a) (at_cells m b) = ap (λ x. Watch (watch.Cells cap x)) (one_number_by kept n m limit.TooManyCells limit.TooManyCells cells_some cells_some a b).0

  pub watched_agree : (o p : Outcome) → IsWatched kept way db q cap edits o → IsWatched kept way db q cap edits p → Lasting o → Lasting p → Agree (λ a b. a ≡ b) o p
  watched_agree = by_parts (IsWatched kept way db q cap edits) (IsWatched kept way db q cap edits) (λ a b. a ≡ b) (lines_alike kept)
      (λ a f i j l. told_stands a i f (passed f j l))
      (λ e b i j l. told_stands b j e (passed e i l))
      (λ e f i j l m. passed_alike e f (passed e i l) (passed f j m))

-- ---- the form of the query

data FormRefused (auto : Bool) (q : Question) : Refusal → Type 0 where
  other_form : (is_kept q || auto) ≡ false → FormRefused auto q (Watch watch.NotKept)

form_refused : (auto : Bool) (q : Question) (e : Refusal) → IsFormFit auto q (Err e) → FormRefused auto q e
form_refused auto q (Watch watch.NotKept) is = other_form is
form_refused auto q _ is = absurd is

fit_stands : (auto : Bool) (q : Question) → (is_kept q || auto) ≡ true → (e : Refusal) → FormRefused auto q e → ⊥
fit_stands auto q fit _ (other_form other) = cc

form_alike : (auto : Bool) (q : Question) (e f : Refusal) → FormRefused auto q e → FormRefused auto q f → e ≡ f
form_alike auto q _ _ (other_form a) (other_form b) = refl

pub form_fit_agree : (auto : Bool) (q : Question) (r s : Result (Unit {0}) Refusal) → IsFormFit auto q r → IsFormFit auto q s → Lasting r → Lasting s → Agree Counted r s
form_fit_agree auto q = by_parts (IsFormFit auto q) (IsFormFit auto q) Counted
    (λ a b i j. tt)
    (λ a f i j l. fit_stands auto q i f (form_refused auto q f j))
    (λ e a i j l. fit_stands auto q j e (form_refused auto q e i))
    (λ e f i j l m. form_alike auto q e f (form_refused auto q e i) (form_refused auto q f j))

-- ---- the edits

abbrev pub OneEditsFault : Type 0
OneEditsFault = (bytes : List ℕ) (db : List Relation) (fault other : DbFault) → IsEditsFault bytes db fault → IsEditsFault bytes db other → fault ≡ other

data EditsRefused (db : List Relation) (bytes : List ℕ) : Refusal → Type 0 where
  long : 16777216 < length bytes → EditsRefused db bytes (Watch watch.Long)
  faulty : (fault : DbFault) → length bytes ≤ 16777216 → IsEditsFault bytes db fault → EditsRefused db bytes (Watch (watch.Edits fault))

edits_refused : (db : List Relation) (seen : ShelfSeen) (name : Identifier) (bytes : List ℕ) (e : Refusal) → AreEditsReadOf db seen name bytes (Err e) → Lasts e → EditsRefused db bytes e
edits_refused db seen name bytes (Watch watch.Long) is l = long is.0
edits_refused db seen name bytes (Watch (watch.Edits fault)) is l = faulty fault is.0 is.1
edits_refused db seen name bytes (Watch watch.Read) is l = absurd l
edits_refused db seen name bytes Memory is l = absurd l
edits_refused db seen name bytes _ is l = absurd is

module _ (texts : EditTexts) (one_fault : OneEditsFault) (db : List Relation) (bytes : List ℕ) where
  edits_stand : (es : List Edit) → length bytes ≤ 16777216 → SaysEdits bytes db es → (e : Refusal) → EditsRefused db bytes e → ⊥
  edits_stand es short is _ (long above) = no_longer (length bytes) short above
  edits_stand es short is _ (faulty fault below f) = texts.faultless bytes db es fault is f

  edits_alike : (e f : Refusal) → EditsRefused db bytes e → EditsRefused db bytes f → e ≡ f
  edits_alike _ _ (long above) (long more) = refl
  edits_alike _ _ (long above) (faulty g short is) = absurd (no_longer (length bytes) short above)
  edits_alike _ _ (faulty f short is) (long above) = absurd (no_longer (length bytes) short above)
  edits_alike _ _ (faulty f short is) (faulty g below again) = ap (λ x. Watch (watch.Edits x)) (one_fault bytes db f g is again)

  module _ (seen further : ShelfSeen) (name : Identifier) where
    edits_of_bytes : (r s : Result (List Edit) Refusal) → AreEditsReadOf db seen name bytes r → AreEditsReadOf db further name bytes s → Lasting r → Lasting s → Agree (λ d e. d ≡ e) r s
    edits_of_bytes = by_parts (AreEditsReadOf db seen name bytes) (AreEditsReadOf db further name bytes) (λ d e. d ≡ e)
        (λ d e i j. texts.one bytes db d e i.1 j.1)
        (λ d f i j l. edits_stand d i.0 i.1 f (edits_refused db further name bytes f j l))
        (λ e d i j l. edits_stand d j.0 j.1 e (edits_refused db seen name bytes e i l))
        (λ e f i j l m. edits_alike e f (edits_refused db seen name bytes e i l) (edits_refused db further name bytes f j m))

    pub edits_agree : ((read : List ℕ) → AreBytesOf seen name read → read ≡ bytes) → ((read : List ℕ) → AreBytesOf further name read → read ≡ bytes)
        → (r s : Result (List Edit) Refusal) → AreEditsRead db seen name r → AreEditsRead db further name s → Lasting r → Lasting s → Agree (λ d e. d ≡ e) r s
    edits_agree told again r s i j =
        edits_of_bytes r s (subst (λ b. AreEditsReadOf db seen name b r) (told i.bytes i.told) i.is) (subst (λ b. AreEditsReadOf db further name b s) (again j.bytes j.told) j.is)
