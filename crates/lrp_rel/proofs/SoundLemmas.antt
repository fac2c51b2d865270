-- A written database without faults: names differ, columns are few, and each row suits them.
use Rattle.std.proofs.Common.{◌≡◌, ◌≢◌, ◌≤◌, ◌+◌, ℕ, zero, suc, Bool, true, false, ◌||◌, not, ◌==◌, if◌then◌else◌, List, [], ◌∷◌, ◌++◌, length, map, filter, fold, refl, sym, ap, subst, ◌∙◌, arith, append_assoc, append-nil}
use Rattle.std.specs.List.{list_any, flat_map, AllByRecursion}
use Rattle.std.specs.Str.{bytes_eq}
use Rattle.std.specs.Cmp.Lexicographic.{bytes_decides}
use Rattle.std.proofs.lemmas.Cmp.{nat_list_eq_equiv}
use Rattle.std.proofs.lemmas.Bool.Decides.{nat_tests}
use Rattle.std.proofs.lemmas.List.Sums.{sum_by-cons}
use Rattle.lrp_model.specs.Texts.{Identifier, AreDistinct}
use Rattle.lrp_model.specs.Sorts.{is_time, is_data, time_count, text_count}
use Rattle.lrp_model.specs.Faults.{fault_if, repeated, ninth, is_named_in}
use Rattle.lrp_model.specs.DatabaseMeaning.{time_number, column_of}
use Rattle.lrp_model.specs.DatabaseFaults.{database_fault, suits, wrong_sorts, named_at, row_faults, relation_faults}
use Rattle.lrp_model.specs.declared.tokens.Place.{Place}
use Rattle.lrp_model.specs.declared.raw.RawColumn.{RawColumn}
use Rattle.lrp_model.specs.declared.written.Located.{Located}
use Rattle.lrp_model.specs.declared.written.WrittenValue.{WrittenValue}
use Rattle.lrp_model.specs.declared.written.WrittenValue.TheVariants.{Constant, Instant, Point}
use Rattle.lrp_model.specs.declared.written.RawRow.{RawRow}
use Rattle.lrp_model.specs.declared.written.RawRelation.{RawRelation}
use Rattle.lrp_model.specs.declared.faults.DbFault.{DbFault}
use Rattle.lrp_model.specs.declared.faults.DbKind.TheVariants.{Name, Arity, Sort, Wide}
use Rattle.lrp_database.specs.Once.{once, put_once}
use Rattle.lrp_rel.specs.Times.{time_names, AreTimesOf, AreTimePlaces, place_from, points_in, point_count}
use Rattle.lrp_database.proofs.SeenLemmas.{IsFirst, neither}
use Rattle.lrp_database.proofs.OnceLaws.{any_more}
use Rattle.lrp_rel.proofs.FaultWalks.{bound_faults}

-- of two lists that are empty together, each is
pub first_empty : {A : Type 0} (xs ys : List A) → xs ++ ys ≡ [] → xs ≡ []
first_empty [] ys e = refl
first_empty (x ∷ xs) ys e = absurd cc

pub second_empty : {A : Type 0} (xs ys : List A) → xs ++ ys ≡ [] → ys ≡ []
second_empty [] ys e = e
second_empty (x ∷ xs) ys e = absurd cc

-- a test that gives no fault is false
pub no_fault_if : {A : Type 0} (b : Bool) (f : A) → fault_if b f ≡ [] → b ≡ false
no_fault_if false f e = refl
no_fault_if true f e = absurd cc

-- where the parts have nothing, no part has
pub each_empty : {A B : Type 0} (f : A → List B) (xs : List A) → flat_map f xs ≡ [] → AllByRecursion (λ x. f x ≡ []) xs
each_empty f [] e = tt
each_empty f (x ∷ xs) e = (first_empty (f x) (flat_map f xs) e, each_empty f xs (second_empty (f x) (flat_map f xs) e))

-- ---- names

-- the name is none of these
none_is : (names : List Identifier) (n : Identifier) → list_any (bytes_eq n) names ≡ false → AllByRecursion (λ m. n ≢ m) names
none_is [] n h = tt
none_is (m ∷ names) n h =
    (λ same. let yes_so : bytes_eq n m ≡ true = (bytes_decides n m).1 same in cc, none_is names n (rest (bytes_eq n m) (list_any (bytes_eq n) names) h))
  where
    rest : (a b : Bool) → a || b ≡ false → b ≡ false
    rest false b e = e
    rest true b e = absurd cc

-- a name that is none of these, from each side
none_back : (n m : Identifier) → m ≢ n → n ≢ m
none_back n m apart e = apart (sym e)

-- names after others differ from these, and from one another
differ_after : (f : Place → DbFault) (before : List Identifier) (ns : List (Located Identifier)) → repeated f before ns ≡ [] → AllByRecursion (λ n. AllByRecursion (λ m. n.item ≢ m) before) ns × AreDistinct (map (λ n. n.item) ns)
differ_after f before [] e = (tt, tt)
differ_after f before (n ∷ ns) e =
    let new : is_named_in before n.item ≡ false = no_fault_if (is_named_in before n.item) (f n.place) (first_empty (fault_if (is_named_in before n.item) (f n.place)) (repeated f (n.item ∷ before) ns) e) in
    let rest = differ_after f (n.item ∷ before) ns (second_empty (fault_if (is_named_in before n.item) (f n.place)) (repeated f (n.item ∷ before) ns) e) in
    ((none_is before n.item new, tails ns rest.0), (heads ns rest.0, rest.1))
  where
    tails : (ms : List (Located Identifier)) → AllByRecursion (λ k. AllByRecursion (λ m. k.item ≢ m) (n.item ∷ before)) ms → AllByRecursion (λ k. AllByRecursion (λ m. k.item ≢ m) before) ms
    tails [] h = tt
    tails (m ∷ ms) h = (h.0.1, tails ms h.1)

    heads : (ms : List (Located Identifier)) → AllByRecursion (λ k. AllByRecursion (λ m. k.item ≢ m) (n.item ∷ before)) ms → AllByRecursion (λ m. n.item ≢ m) (map (λ k. k.item) ms)
    heads [] h = tt
    heads (m ∷ ms) h = (none_back n.item m.item h.0.0, heads ms h.1)

-- names without a second one differ
pub differ : (f : Place → DbFault) (ns : List (Located Identifier)) → repeated f [] ns ≡ [] → AreDistinct (map (λ n. n.item) ns)
differ f ns e = (differ_after f [] ns e).1

-- ---- few columns

-- a column more is counted where it is a time column, and else among those of data sorts
pub times_more : (c : RawColumn) (cs : List RawColumn) → time_count (map column_of (c ∷ cs)) ≡ (if is_time c.sort then 1 else 0) + time_count (map column_of cs)
times_more c cs = sum_by-cons (λ x. if is_time x.sort then 1 else 0) (column_of c) (map column_of cs)

pub texts_more : (c : RawColumn) (cs : List RawColumn) → text_count (map column_of (c ∷ cs)) ≡ (if not (is_time c.sort) then 1 else 0) + text_count (map column_of cs)
texts_more c cs = sum_by-cons (λ x. if is_data x.sort then 1 else 0) (column_of c) (map column_of cs)

-- not more than 8, where there is no ninth
pub few_columns : (f : Place → DbFault) (times texts : ℕ) (cs : List RawColumn) → times ≤ 8 → texts ≤ 8 → ninth f times texts cs ≡ [] → (times + time_count (map column_of cs) ≤ 8) × (texts + text_count (map column_of cs) ≤ 8)
few_columns f times texts [] le less e = (omega (arith, le), omega (arith, less))
few_columns f times texts (c ∷ cs) le less e =
    let r = by (is_time c.sort) e (few_columns f (times + 1) texts cs) (few_columns f times (texts + 1) cs) in
    let t = times_more c cs in
    let x = texts_more c cs in
    (omega (arith, r.0, t), omega (arith, r.1, x))
  where
    eight : (n : ℕ) → n ≤ 8 → (n == 8) ≡ false → n + 1 ≤ 8
    eight n h t = grind (arith, nat_tests)

    by : (b : Bool) → (if b then fault_if (times == 8) (f c.place) ++ ninth f (times + 1) texts cs else fault_if (texts == 8) (f c.place) ++ ninth f times (texts + 1) cs) ≡ []
        → (times + 1 ≤ 8 → texts ≤ 8 → ninth f (times + 1) texts cs ≡ [] → (times + 1 + time_count (map column_of cs) ≤ 8) × (texts + text_count (map column_of cs) ≤ 8))
        → (times ≤ 8 → texts + 1 ≤ 8 → ninth f times (texts + 1) cs ≡ [] → (times + time_count (map column_of cs) ≤ 8) × (texts + 1 + text_count (map column_of cs) ≤ 8))
        → (times + ((if b then 1 else 0) + time_count (map column_of cs)) ≤ 8) × (texts + ((if not b then 1 else 0) + text_count (map column_of cs)) ≤ 8)
    by true h one two =
        let r = one (eight times le (no_fault_if (times == 8) (f c.place) (first_empty (fault_if (times == 8) (f c.place)) (ninth f (times + 1) texts cs) h))) less (second_empty (fault_if (times == 8) (f c.place)) (ninth f (times + 1) texts cs) h) in
        (omega (arith, r.0), omega (arith, r.1))
    by false h one two =
        let r = two le (eight texts less (no_fault_if (texts == 8) (f c.place) (first_empty (fault_if (texts == 8) (f c.place)) (ninth f times (texts + 1) cs) h))) (second_empty (fault_if (texts == 8) (f c.place)) (ninth f times (texts + 1) cs) h) in
        (omega (arith, r.0), omega (arith, r.1))

-- ---- numbers of time columns

-- the first that passes has the next number but its index
pub place_found : (before : ℕ) (names : List Identifier) (i : ℕ) (n : Identifier) → IsFirst (bytes_eq n) names i → place_from before names n ≡ before + (i + 1)
place_found before [] i n first = absurd first
place_found before (m ∷ names) zero n first = ap (λ b. if b then before + 1 else place_from (before + 1) names n) first
place_found before (m ∷ names) (suc i) n first =
    let next : place_from (before + 1) names n ≡ (before + 1) + (i + 1) = place_found (before + 1) names i n first.1 in
    let same : (before + 1) + (i + 1) ≡ before + (suc i + 1) = omega arith in
    ap (λ b. if b then before + 1 else place_from (before + 1) names n) first.0 ∙ next ∙ same

-- a name that is not there has the number 0
pub place_none : (before : ℕ) (names : List Identifier) (n : Identifier) → list_any (bytes_eq n) names ≡ false → place_from before names n ≡ 0
place_none before [] n none = refl
place_none before (m ∷ names) n none =
    let both = neither (bytes_eq n m) (list_any (bytes_eq n) names) none in
    ap (λ b. if b then before + 1 else place_from (before + 1) names n) both.0 ∙ place_none (before + 1) names n both.1

-- the places among the names of time columns are the numbers of these
numbers_of : (before : ℕ) (cs : List RawColumn) (n : Identifier) → place_from before (time_names cs) n ≡ time_number before cs n
numbers_of before [] n = refl
numbers_of before (c ∷ cs) n = by (is_time c.sort) (numbers_of (before + 1) cs n) (numbers_of before cs n)
  where
    by : (b : Bool) → place_from (before + 1) (time_names cs) n ≡ time_number (before + 1) cs n → place_from before (time_names cs) n ≡ time_number before cs n
        → place_from before (map (λ x. x.name) (if b then c ∷ filter (λ x. is_time x.sort) cs else filter (λ x. is_time x.sort) cs)) n ≡ (if b then (if bytes_eq c.name n then before + 1 else time_number (before + 1) cs n) else time_number before cs n)
    by true more same = ap (λ t. if t then before + 1 else place_from (before + 1) (time_names cs) n) (nat_list_eq_equiv.symm n c.name) ∙ ap (λ k. if bytes_eq c.name n then before + 1 else k) more
    by false more same = same

-- names that differ, and are none of those before, go after these one by one
once_after : (before ns : List Identifier) → AllByRecursion (λ n. list_any (bytes_eq n) before ≡ false) ns → AreDistinct ns → fold put_once before ns ≡ before ++ ns
once_after before [] new d = sym (append-nil before)
once_after before (n ∷ ns) new d =
    ap (λ b. fold put_once (if b then before else before ++ n ∷ []) ns) new.0 ∙ once_after (before ++ n ∷ []) ns (still ns new.1 d.0) d.1 ∙ append_assoc before (n ∷ []) ns
  where
    other : (m : Identifier) (b : Bool) → bytes_eq m n ≡ b → n ≢ m → b ≡ false
    other m true e apart = absurd (apart (sym ((bytes_decides m n).0 e)))
    other m false e apart = refl

    still : (ms : List Identifier) → AllByRecursion (λ m. list_any (bytes_eq m) before ≡ false) ms → AllByRecursion (λ m. n ≢ m) ms → AllByRecursion (λ m. list_any (bytes_eq m) (before ++ n ∷ []) ≡ false) ms
    still [] h k = tt
    still (m ∷ ms) h k = (any_more (bytes_eq m) before n ∙ ap (λ b. b || list_any (bytes_eq m) before) (other m (bytes_eq m n) refl k.0) ∙ h.0, still ms h.1 k.1)

-- names that differ are each once among themselves
once_differ : (ns : List Identifier) → AreDistinct ns → once ns ≡ ns
once_differ ns d = once_after [] ns (all_false ns) d
  where
    all_false : (ms : List Identifier) → AllByRecursion (λ n. list_any (bytes_eq n) [] ≡ false) ms
    all_false [] = tt
    all_false (m ∷ ms) = (refl, all_false ms)

-- what holds of all names holds of those of time columns
all_times : (P : Identifier → Type 0) (cs : List RawColumn) → AllByRecursion P (map (λ c. c.name) cs) → AllByRecursion P (time_names cs)
all_times P [] h = tt
all_times P (c ∷ cs) h = by (is_time c.sort) (all_times P cs h.1)
  where
    by : (b : Bool) → AllByRecursion P (time_names cs) → AllByRecursion P (map (λ x. x.name) (if b then c ∷ filter (λ x. is_time x.sort) cs else filter (λ x. is_time x.sort) cs))
    by true r = (h.0, r)
    by false r = r

-- names of time columns differ where names of columns do
differ_times : (cs : List RawColumn) → AreDistinct (map (λ c. c.name) cs) → AreDistinct (time_names cs)
differ_times [] d = tt
differ_times (c ∷ cs) d = by (is_time c.sort) (all_times (λ m. c.name ≢ m) cs d.0) (differ_times cs d.1)
  where
    by : (b : Bool) → AllByRecursion (λ m. c.name ≢ m) (time_names cs) → AreDistinct (time_names cs) → AreDistinct (map (λ x. x.name) (if b then c ∷ filter (λ x. is_time x.sort) cs else filter (λ x. is_time x.sort) cs))
    by true a r = (a, r)
    by false a r = r

-- there are as many names of time columns as time columns
times_many : (cs : List RawColumn) → length (time_names cs) ≡ time_count (map column_of cs)
times_many [] = refl
times_many (c ∷ cs) = by (is_time c.sort) (times_many cs) ∙ sym (times_more c cs)
  where
    by : (b : Bool) → length (time_names cs) ≡ time_count (map column_of cs) → length (map (λ x. x.name) (if b then c ∷ filter (λ x. is_time x.sort) cs else filter (λ x. is_time x.sort) cs)) ≡ (if b then 1 else 0) + time_count (map column_of cs)
    by true h = omega (arith, h)
    by false h = omega (arith, h)

-- the names of columns, with their places and without
named_columns : (cs : List RawColumn) → map (λ n. n.item) (map named_at cs) ≡ map (λ c. c.name) cs
named_columns [] = refl
named_columns (c ∷ cs) = ap (λ l. c.name ∷ l) (named_columns cs)

-- the names of the columns of a relation without faults differ
pub columns_differ : (r : RawRelation) → relation_faults r ≡ [] → AreDistinct (map (λ c. c.name) r.columns)
columns_differ r e =
    let names = repeated (database_fault Name) [] (map named_at r.columns) in
    let wide = ninth (database_fault Wide) 0 0 r.columns in
    let rows = flat_map (row_faults r.columns) r.rows in
    subst AreDistinct (named_columns r.columns) (differ (database_fault Name) (map named_at r.columns) (first_empty names wide (first_empty (names ++ wide) rows e)))

-- it has at most 8 time columns, and at most 8 of data sorts
pub columns_few : (r : RawRelation) → relation_faults r ≡ [] → (time_count (map column_of r.columns) ≤ 8) × (text_count (map column_of r.columns) ≤ 8)
columns_few r e =
    let names = repeated (database_fault Name) [] (map named_at r.columns) in
    let wide = ninth (database_fault Wide) 0 0 r.columns in
    let rows = flat_map (row_faults r.columns) r.rows in
    let few = few_columns (database_fault Wide) 0 0 r.columns (omega arith) (omega arith) (second_empty names wide (first_empty (names ++ wide) rows e)) in
    (omega (arith, few.0), omega (arith, few.1))

-- its rows have no faults
pub rows_sound : (r : RawRelation) → relation_faults r ≡ [] → AllByRecursion (λ row. row_faults r.columns row ≡ []) r.rows
rows_sound r e =
    let names = repeated (database_fault Name) [] (map named_at r.columns) in
    let wide = ninth (database_fault Wide) 0 0 r.columns in
    each_empty (row_faults r.columns) r.rows (second_empty (names ++ wide) (flat_map (row_faults r.columns) r.rows) e)

-- the names of its time columns, each once, are all of them
pub times_once : (r : RawRelation) (names : List Identifier) → relation_faults r ≡ [] → AreTimesOf r.columns names → names ≡ time_names r.columns
times_once r names e are = are ∙ once_differ (time_names r.columns) (differ_times r.columns (columns_differ r e))

-- so there are at most 8, and their places are the numbers
pub times_few : (r : RawRelation) (names : List Identifier) → relation_faults r ≡ [] → AreTimesOf r.columns names → length names ≤ 8
times_few r names e are =
    let many : length names ≡ time_count (map column_of r.columns) = ap length (times_once r names e are) ∙ times_many r.columns in
    let few = columns_few r e in
    omega (arith, many, few.0)

pub times_numbered : (r : RawRelation) (names : List Identifier) → relation_faults r ≡ [] → AreTimesOf r.columns names → AreTimePlaces r.columns names
times_numbered r names e are n = ap (λ l. place_from 0 l n) (times_once r names e are) ∙ numbers_of 0 r.columns n

-- ---- rows

-- two numbers that are told to be equal
same_number : (a b : ℕ) → not (a == b) ≡ false → a ≡ b
same_number a b e = grind (arith, nat_tests)

-- a test that fails when it is turned
pub turned_false : (b : Bool) → not b ≡ false → b ≡ true
turned_false true e = refl
turned_false false e = absurd cc

-- a value that suits its column takes as many time columns as the column is
one_suits : (v : WrittenValue) (c : RawColumn) → suits v c ≡ true → point_count v ≡ (if is_time c.sort then 1 else 0)
one_suits (Constant t) c e = sym (ap (λ b. if b then 1 else 0) (turned_true (is_time c.sort) e))
  where
    turned_true : (b : Bool) → not b ≡ true → b ≡ false
    turned_true false h = refl
    turned_true true h = absurd cc
one_suits (Instant i) c e = sym (ap (λ b. if b then 1 else 0) e)
one_suits (Point i k) c e = sym (ap (λ b. if b then 1 else 0) e)

-- values that suit their columns take as many time columns as there are
pub points_many : (cs : List RawColumn) (vs : List (Located WrittenValue)) → length vs ≡ length cs → wrong_sorts cs vs ≡ [] → points_in vs ≡ time_count (map column_of cs)
points_many [] [] same e = refl
points_many [] (v ∷ vs) same e = absurd (omega (arith, same))
points_many (c ∷ cs) [] same e = absurd (omega (arith, same))
points_many (c ∷ cs) (v ∷ vs) same e =
    let here = fault_if (not (suits v.item c)) (database_fault Sort v.place) in
    let one = one_suits v.item c (turned_false (suits v.item c) (no_fault_if (not (suits v.item c)) (database_fault Sort v.place) (first_empty here (wrong_sorts cs vs) e))) in
    let rest = points_many cs vs (omega (arith, same)) (second_empty here (wrong_sorts cs vs) e) in
    ap (λ k. k + points_in vs) one ∙ ap (λ k. (if is_time c.sort then 1 else 0) + k) rest ∙ sym (times_more c cs)

-- a row without faults has a value for each column
pub row_many : (cs : List RawColumn) (row : Located RawRow) → row_faults cs row ≡ [] → length row.item.values ≡ length cs
row_many cs row e =
    let arity = fault_if (not (length row.item.values == length cs)) (database_fault Arity row.place) in
    let sorts = wrong_sorts cs row.item.values in
    let names = flat_map (bound_faults cs) row.item.bounds in
    same_number (length row.item.values) (length cs) (no_fault_if (not (length row.item.values == length cs)) (database_fault Arity row.place) (first_empty arity sorts (first_empty (arity ++ sorts) names e)))

-- and each suits its column
pub row_suits : (cs : List RawColumn) (row : Located RawRow) → row_faults cs row ≡ [] → wrong_sorts cs row.item.values ≡ []
row_suits cs row e =
    let arity = fault_if (not (length row.item.values == length cs)) (database_fault Arity row.place) in
    let sorts = wrong_sorts cs row.item.values in
    let names = flat_map (bound_faults cs) row.item.bounds in
    second_empty arity sorts (first_empty (arity ++ sorts) names e)
