-- The databases that edits make can be databases, and rows are taken out by their places.
use Rattle.std.proofs.Common.{◌≡◌, ◌≢◌, ◌∙◌, ℕ, zero, suc, ◌+◌, ◌<◌, Bool, true, false, cond, List, [], ◌∷◌, ◌++◌, length, map, take, drop, get_or, Option, Some, Result, Ok, Err, refl, sym, ap, subst, arith, inl}
use Rattle.std.specs.Prelude.{Contains, IfOk, slice_get}
use Rattle.std.specs.List.{AllByRecursion}
use Rattle.std.specs.Str.{bytes_eq}
use Rattle.std.specs.Cmp.Lexicographic.{bytes_decides}
use Rattle.std.proofs.lemmas.List.{take-append-drop}
use Rattle.std.proofs.lemmas.Option.{same_Some, slice_get-get_or, slice_get_within}
use Rattle.std.proofs.Math.Seq.{drop-cons}
use Rattle.lrp_model.specs.Kept.{AreKept, IsKept, IsRowOf}
use Rattle.lrp_model.specs.Rows.{relation_named, rows_in, rows_of}
use Rattle.lrp_model.specs.Texts.{AreDistinct, Identifier}
use Rattle.lrp_model.specs.declared.relations.Relation.{Relation}
use Rattle.lrp_model.specs.declared.relations.Row.{Row}
use Rattle.lrp_keep.specs.Keeps.{IsTakenOut}
use Rattle.lrp_keep.specs.Replaced.{replaced, with_rows}
use Rattle.lrp_watch.specs.Changes.{IsFirstEqualAt}
use Rattle.lrp_watch.specs.Edited.{IsEditedBy}
use Rattle.lrp_watch.proofs.Goings.{name_still}

-- ---- lists

all_append : {X : Type 0} (P : X → Type 0) (xs ys : List X) → AllByRecursion P xs → AllByRecursion P ys → AllByRecursion P (xs ++ ys)
all_append P [] ys h k = k
all_append P (x ∷ xs) ys h k = (h.0, all_append P xs ys h.1 k)

pub all_one : {X : Type 0} (P : X → Type 0) (xs : List X) (x : X) → AllByRecursion P xs → P x → AllByRecursion P (xs ++ x ∷ [])
all_one P xs x h p = all_append P xs (x ∷ []) h (p, tt)

all_take : {X : Type 0} (P : X → Type 0) (n : ℕ) (xs : List X) → AllByRecursion P xs → AllByRecursion P (take n xs)
all_take P zero xs h = tt
all_take P (suc n) [] h = tt
all_take P (suc n) (x ∷ xs) h = (h.0, all_take P n xs h.1)

all_drop : {X : Type 0} (P : X → Type 0) (n : ℕ) (xs : List X) → AllByRecursion P xs → AllByRecursion P (drop n xs)
all_drop P zero xs h = h
all_drop P (suc n) [] h = tt
all_drop P (suc n) (x ∷ xs) h = all_drop P n xs h.1

pub all_without : {X : Type 0} (P : X → Type 0) (n : ℕ) (xs : List X) → AllByRecursion P xs → AllByRecursion P (take n xs ++ drop (n + 1) xs)
all_without P n xs h = all_append P (take n xs) (drop (n + 1) xs) (all_take P n xs h) (all_drop P (n + 1) xs h)

-- ---- names

names_same : (rows : List Row) (name : Identifier) (db : List Relation) → map (λ (r : Relation). r.name) (replaced db name rows) ≡ map (λ (r : Relation). r.name) db
names_same rows name [] = refl
names_same rows name (r ∷ rs) = ap (λ n. n ∷ map (λ (s : Relation). s.name) (replaced rs name rows)) (name_still rows name r) ∙ ap (λ ns. r.name ∷ ns) (names_same rows name rs)

-- what differs from each name differs from that of each relation
apart : (n : Identifier) (rs : List Relation) (r : Relation) → AllByRecursion (λ m. n ≢ m) (map (λ (s : Relation). s.name) rs) → Contains rs r → n ≡ r.name → ⊥
apart n [] r h c e = absurd (omega (arith, c.1))
apart n (s ∷ rs) r h (zero, l, i) e = h.0 (e ∙ ap (λ (x : Relation). x.name) (sym i))
apart n (s ∷ rs) r h (suc k, l, i) e = apart n rs r h.1 (k, omega (arith, l), i) e

-- of a name there is one relation
one_named : (db : List Relation) (name : Identifier) (own r : Relation) → AreDistinct (map (λ (s : Relation). s.name) db) → relation_named db name ≡ Some own → Contains db r → r.name ≡ name → own ≡ r
one_named [] name own r d e c n = absurd (omega (arith, c.1))
one_named (x ∷ xs) name own r d e c n = by (bytes_eq x.name name) refl e c (λ f i. one_named xs name own r d.1 f i n)
  where
    by : (b : Bool) → bytes_eq x.name name ≡ b → cond b (Some x) (relation_named xs name) ≡ Some own → Contains (x ∷ xs) r → (relation_named xs name ≡ Some own → Contains xs r → own ≡ r) → own ≡ r
    by true is f (zero, l, i) rest = let same : x ≡ own = cc in sym same ∙ i
    by true is f (suc k, l, i) rest = absurd (apart x.name xs r d.0 (k, omega (arith, l), i) ((bytes_decides x.name name).0 is ∙ sym n))
    by false is f (zero, l, i) rest = let here : bytes_eq x.name name ≡ true = (bytes_decides x.name name).1 (ap (λ (s : Relation). s.name) i ∙ n) in cc
    by false is f (suc k, l, i) rest = rest f (k, omega (arith, l), i)

-- ---- what is kept of relations

kept_by : (rows : List Row) (name : Identifier) (r : Relation) → IsKept r → (r.name ≡ name → AllByRecursion (IsRowOf r.columns) rows) → IsKept (with_rows rows name r)
kept_by rows name r kept fits = by (bytes_eq r.name name) refl
  where
    by : (b : Bool) → bytes_eq r.name name ≡ b → IsKept (cond b (record { name = r.name; columns = r.columns; rows = rows }) r)
    by true is = record { name = kept.name; columns = kept.columns; differ = kept.differ; times = kept.times; texts = kept.texts; rows = fits ((bytes_decides r.name name).0 is) }
    by false is = kept

all_kept : (rows : List Row) (name : Identifier) (db : List Relation) → AllByRecursion IsKept db → ((r : Relation) → Contains db r → r.name ≡ name → AllByRecursion (IsRowOf r.columns) rows) → AllByRecursion IsKept (replaced db name rows)
all_kept rows name [] h fits = tt
all_kept rows name (r ∷ rs) h fits = (kept_by rows name r h.0 (fits r (0, omega arith, refl)), all_kept rows name rs h.1 (λ s c. fits s (suc c.0, omega (arith, c.1), c.2)))

pub kept_replaced : (db : List Relation) (name : Identifier) (rows : List Row) (own : Relation) → AreKept db → relation_named db name ≡ Some own → AllByRecursion (IsRowOf own.columns) rows → AreKept (replaced db name rows)
kept_replaced db name rows own kept named fits = record {
  each = all_kept rows name db kept.each (λ r c n. subst (λ (s : Relation). AllByRecursion (IsRowOf s.columns) rows) (one_named db name own r kept.differ named c n) fits);
  differ = subst AreDistinct (sym (names_same rows name db)) kept.differ;
}

-- the rows of a relation that is there
pub rows_named : (db : List Relation) (name : Identifier) (own : Relation) → relation_named db name ≡ Some own → rows_of db name ≡ own.rows
rows_named db name own e = ap (λ o. rows_in o) e

-- ---- an edit is made

-- a row is added
pub kept_with : (db : List Relation) (name : Identifier) (rows : List Row) (own : Relation) (more : Row) (all : List Row) → AreKept db → relation_named db name ≡ Some own → IsKept own → IsRowOf own.columns more → rows ≡ own.rows → all ≡ rows ++ more ∷ [] → AreKept (replaced db name all)
kept_with db name rows own more all kept named own_kept fits is made =
    subst (λ rs. AreKept (replaced db name rs)) (sym (made ∙ ap (λ rs. rs ++ more ∷ []) is)) (kept_replaced db name (own.rows ++ more ∷ []) own kept named (all_one (IsRowOf own.columns) own.rows more own_kept.rows fits))

-- one is taken out
pub kept_without : (db : List Relation) (name : Identifier) (rows : List Row) (own : Relation) (place : ℕ) (all : List Row) → AreKept db → relation_named db name ≡ Some own → IsKept own → rows ≡ own.rows → all ≡ take place rows ++ drop (place + 1) rows → AreKept (replaced db name all)
kept_without db name rows own place all kept named own_kept is made =
    subst (λ rs. AreKept (replaced db name rs)) (sym (made ∙ ap (λ rs. take place rs ++ drop (place + 1) rs) is)) (kept_replaced db name (take place own.rows ++ drop (place + 1) own.rows) own kept named (all_without (IsRowOf own.columns) place own.rows own_kept.rows))

-- the columns of one relation are those of the other
pub same_fits : (own other : Relation) (o : Option Relation) (row : Row) → o ≡ Some own → o ≡ Some other → IsRowOf other.columns row → IsRowOf own.columns row
same_fits own other o row e f fits = subst (λ (r : Relation). IsRowOf r.columns row) (some_same other own (sym f ∙ e)) fits
  where
    some_same : (a b : Relation) → Some a ≡ Some b → a ≡ b
    some_same a b h = cc

pub place_within : (rows : List Row) (place : ℕ) (held : Row) → slice_get rows place ≡ Some held → place < length rows
place_within rows place held at = slice_get_within rows place held at

-- the first equal row is taken out
pub taken_out : (row : Row) (rows new : List Row) (place : ℕ) → IsFirstEqualAt row rows place → new ≡ take place rows ++ drop (place + 1) rows → IsTakenOut row rows new
taken_out row rows new place is made =
    let low : place < length rows = place_within rows place is.held is.at in
    let next : place + 1 ≡ suc place = omega arith in
    let there : get_or rows place is.held ≡ is.held = same_Some (get_or rows place is.held) is.held (sym (slice_get-get_or rows place is.held low) ∙ is.at) in
    record {
      front = take place rows;
      held = is.held;
      back = drop (suc place) rows;
      were = sym (take-append-drop place rows) ∙ ap (λ xs. take place rows ++ xs) (drop-cons rows place is.held low ∙ ap (λ x. x ∷ drop (suc place) rows) there);
      are = made ∙ ap (λ n. take place rows ++ drop n rows) next;
      equal = is.equal;
      first = is.first;
    }

pub edited_without : (db new : List Relation) (name : Identifier) (row : Row) (rows all : List Row) (own : Relation) (place : ℕ) → relation_named db name ≡ Some own → rows ≡ own.rows → IsFirstEqualAt row rows place → all ≡ take place rows ++ drop (place + 1) rows → new ≡ replaced db name all → IsEditedBy false name row db new
edited_without db new name row rows all own place named is first made changed =
    let same : rows ≡ rows_of db name = is ∙ sym (rows_named db name own named) in
    inl (record { rows = all; taken = subst (λ rs. IsTakenOut row rs all) same (taken_out row rows all place first made); is = changed })

-- what is so of each that may have been made
pub if_made : {X E : Type 0} (r : Result X E) (P Q : X → Type 0) → ((made : X) → P made → Q made) → IfOk r P → IfOk r Q
if_made (Ok made) P Q f h = f made h
if_made (Err e) P Q f h = tt
