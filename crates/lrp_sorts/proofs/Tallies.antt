-- Tallies: one name more, two tallies joined, and whether they are too wide.
use Rattle.std.proofs.Common.{◌≡◌, ℕ, suc, ◌<◌, Bool, true, false, not, cond, ◌||◌, List, [], ◌∷◌, ◌++◌, length, Option, Some, None, option_map, refl, ap, sym, ◌∙◌, Bor, bytes_eq, nat_lt, filter, subst, zero, get_or, arith}
use Rattle.std.specs.List.{list_any, find}
use Rattle.std.proofs.lemmas.List.{length-map}
use Rattle.std.proofs.lemmas.List.Folds.{list_any-append}
use Rattle.lrp_model.specs.Texts.{Identifier, without}
use Rattle.lrp_model.specs.Sorts.{is_time, is_data}
use Rattle.lrp_model.specs.Faults.{is_named_in}
use Rattle.lrp_model.specs.Sorting.{Binders, binder_sort, count, too_many}
use Rattle.lrp_model.specs.declared.relations.Sort.{Sort}
use Rattle.lrp_model.specs.declared.raw.RawColumn.{RawColumn}
use Rattle.lrp_sorts.specs.Widths.{passing, AreKeptNames, IsTally, names_after}
use Rattle.lrp_sorts.specs.declared.width.Tally.{Tally}
use Rattle.lrp_sorts.proofs.Counting.{own_name, or_true}
use Rattle.lrp_sorts.proofs.Kept.{none_kept, same_kept, not_kept, wide_kept, kept_outside}

-- ---- names after references

-- a test of names after references is that of the names
pub among_after : (ns : List (Bor Identifier)) (m : Identifier) → list_any (λ (n : Bor Identifier). bytes_eq m n.now) ns ≡ is_named_in (names_after ns) m
among_after [] m = refl
among_after (n ∷ ns) m = ap (λ b. bytes_eq m n.now || b) (among_after ns m)

-- whether one passes, and the others
passed : (b : Bool) (n : Bor Identifier) (l : List (Bor Identifier)) (m : List Identifier) → names_after l ≡ m → names_after (cond b (n ∷ l) l) ≡ cond b (n.now ∷ m) m
passed true n l m e = ap (λ m. n.now ∷ m) e
passed false n l m e = e

-- the names that pass, after references or not
pub filter_after : (p : Identifier → Bool) (ns : List (Bor Identifier)) → names_after (filter (λ (n : Bor Identifier). p n.now) ns) ≡ filter p (names_after ns)
filter_after p [] = refl
filter_after p (n ∷ ns) = passed (p n.now) n (filter (λ (n : Bor Identifier). p n.now) ns) (filter p (names_after ns)) (filter_after p ns)

-- each name of a list is one of it
pub item_after : (ns : List (Bor Identifier)) (i : ℕ) (n : Bor Identifier) → i < length ns → n ≡ get_or ns i n → is_named_in (names_after ns) n.now ≡ true
item_after [] i n lt is = absurd (omega arith)
item_after (m ∷ ns) zero n lt is =
    ap (λ t. t || is_named_in (names_after ns) n.now) (ap (λ (x : Bor Identifier). bytes_eq n.now x.now) (sym is) ∙ own_name n.now)
item_after (m ∷ ns) (suc i) n lt is =
    ap (λ t. bytes_eq n.now m.now || t) (item_after ns i n (omega (arith, lt)) is) ∙ or_true (bytes_eq n.now m.now)

-- ---- the kinds

-- no sort passes as both
time_not_data : (s : Option Sort) → passing is_time s ≡ true → passing is_data s ≡ false
time_not_data None e = refl
time_not_data (Some s) e = ap not e

data_not_time : (s : Option Sort) → passing is_data s ≡ true → passing is_time s ≡ false
data_not_time None e = refl
data_not_time (Some s) e = flipped (is_time s) e
  where
    flipped : (b : Bool) → not b ≡ true → b ≡ false
    flipped true h = sym h
    flipped false h = refl

-- ---- tallies

-- the tally of no names
pub none_counted : (bs : Binders) (q : ℕ) (t : Tally) → t.times.items ≡ [] → t.texts.items ≡ [] → IsTally bs q [] t
none_counted bs q t e f = record {
  times = subst (λ ns. AreKeptNames is_time bs q [] (names_after ns)) (sym e) (none_kept is_time bs q);
  texts = subst (λ ns. AreKeptNames is_data bs q [] (names_after ns)) (sym f) (none_kept is_data bs q);
}

module _ (bs : Binders) (q : ℕ) (names : List Identifier) (old : Tally) (n : Identifier) (t : IsTally bs q names old) where
  -- a name without a binder is not counted
  pub counts_nowhere : binder_sort bs n ≡ None → IsTally bs q (names ++ n ∷ []) old
  counts_nowhere h = record {
    times = not_kept is_time bs q names (names_after old.times.items) n t.times (ap (passing is_time) h);
    texts = not_kept is_data bs q names (names_after old.texts.items) n t.texts (ap (passing is_data) h);
  }

  -- a variable of sort time
  pub time_counted : (new : Tally) (s : Sort) → binder_sort bs n ≡ Some s → is_time s ≡ true
      → (passing is_time (binder_sort bs n) ≡ true → AreKeptNames is_time bs q names (names_after old.times.items) → AreKeptNames is_time bs q (names ++ n ∷ []) (names_after new.times.items))
      → new.texts ≡ old.texts → IsTally bs q (names ++ n ∷ []) new
  time_counted new s h p f e =
      let b : passing is_time (binder_sort bs n) ≡ true = ap (passing is_time) h ∙ p in
      record {
        times = f b t.times;
        texts = subst (λ v. AreKeptNames is_data bs q (names ++ n ∷ []) (names_after v.items)) (sym e) (not_kept is_data bs q names (names_after old.texts.items) n t.texts (time_not_data (binder_sort bs n) b));
      }

  -- a variable of a data sort
  pub text_counted : (new : Tally) (s : Sort) → binder_sort bs n ≡ Some s → is_time s ≡ false
      → (passing is_data (binder_sort bs n) ≡ true → AreKeptNames is_data bs q names (names_after old.texts.items) → AreKeptNames is_data bs q (names ++ n ∷ []) (names_after new.texts.items))
      → new.times ≡ old.times → IsTally bs q (names ++ n ∷ []) new
  text_counted new s h p f e =
      let b : passing is_data (binder_sort bs n) ≡ true = ap (passing is_data) h ∙ ap not p in
      record {
        times = subst (λ v. AreKeptNames is_time bs q (names ++ n ∷ []) (names_after v.items)) (sym e) (not_kept is_time bs q names (names_after old.times.items) n t.times (data_not_time (binder_sort bs n) b));
        texts = f b t.texts;
      }

-- a name in front, or after
turned_or : (a b : Bool) → (a || (b || false)) ≡ (b || a)
turned_or true true = refl
turned_or true false = refl
turned_or false true = refl
turned_or false false = refl

-- the order of names plays no part
pub first_counted : (bs : Binders) (q : ℕ) (names : List Identifier) (n : Identifier) (t : Tally) → IsTally bs q (names ++ n ∷ []) t → IsTally bs q (n ∷ names) t
first_counted bs q names n t k = record {
  times = same_kept is_time bs q (names ++ n ∷ []) (n ∷ names) (names_after t.times.items) (λ m. list_any-append (bytes_eq m) names (n ∷ []) ∙ turned_or (is_named_in names m) (bytes_eq m n)) k.times;
  texts = same_kept is_data bs q (names ++ n ∷ []) (n ∷ names) (names_after t.texts.items) (λ m. list_any-append (bytes_eq m) names (n ∷ []) ∙ turned_or (is_named_in names m) (bytes_eq m n)) k.texts;
}

-- the first names after the others, or before them
or_turned : (a b : Bool) → (a || b) ≡ (b || a)
or_turned true true = refl
or_turned true false = refl
or_turned false true = refl
or_turned false false = refl

-- what is kept of two lists does not depend on which comes first
pub turned_kept : (passes : Sort → Bool) (bs : Binders) (q : ℕ) (names more kept : List Identifier) → AreKeptNames passes bs q (more ++ names) kept → AreKeptNames passes bs q (names ++ more) kept
turned_kept passes bs q names more kept k =
    same_kept passes bs q (more ++ names) (names ++ more) kept
    (λ m. list_any-append (bytes_eq m) more names ∙ or_turned (is_named_in more m) (is_named_in names m) ∙ sym (list_any-append (bytes_eq m) names more)) k

-- whether a tally is too wide
pub wide_counted : (bs : Binders) (q : ℕ) (names : List Identifier) (t : Tally) → IsTally bs q names t → (nat_lt 8 (length t.times.items) || nat_lt 8 (length t.texts.items)) ≡ too_many bs names
wide_counted bs q names t k =
    ap (λ l. nat_lt 8 l || nat_lt 8 (length t.texts.items)) (sym (length-map t.times.items (λ n. n.now)))
    ∙ ap (λ l. nat_lt 8 (length (names_after t.times.items)) || nat_lt 8 l) (sym (length-map t.texts.items (λ n. n.now)))
    ∙ ap (λ b. b || nat_lt 8 (length (names_after t.texts.items))) (wide_kept is_time bs q names (names_after t.times.items) k.times)
    ∙ ap (λ b. nat_lt 8 (count is_time bs names) || b) (wide_kept is_data bs q names (names_after t.texts.items) k.texts)

-- one of two tests decides
pub first_decides : (a b w : Bool) → (a || b) ≡ w → a ≡ true → a ≡ w
first_decides true b w e h = e
first_decides false b w e h = absurd cc

pub second_decides : (a b w : Bool) → (a || b) ≡ w → a ≡ false → b ≡ w
second_decides true b w e h = absurd cc
second_decides false b w e h = e

-- outside a quantifier
pub outside_counted : (c : RawColumn) (bs : Binders) (q : ℕ) (names : List Identifier) (n : Identifier) (old new : Tally) → c.name ≡ n → IsTally (c ∷ bs) (suc q) names old
    → names_after new.times.items ≡ without n (names_after old.times.items) → names_after new.texts.items ≡ without n (names_after old.texts.items) → IsTally bs q (without n names) new
outside_counted c bs q names n old new e k t d =
    record {
      times = subst (λ m. AreKeptNames is_time bs q (without m names) (names_after new.times.items)) e
          (subst (λ l. AreKeptNames is_time bs q (without c.name names) l) (sym (t ∙ ap (λ m. without m (names_after old.times.items)) (sym e))) (kept_outside is_time c bs q names (names_after old.times.items) k.times));
      texts = subst (λ m. AreKeptNames is_data bs q (without m names) (names_after new.texts.items)) e
          (subst (λ l. AreKeptNames is_data bs q (without c.name names) l) (sym (d ∙ ap (λ m. without m (names_after old.texts.items)) (sym e))) (kept_outside is_data c bs q names (names_after old.texts.items) k.texts));
    }

-- ---- binders

-- a quantifier's name is bound by it
pub own_binder : (c : RawColumn) (bs : Binders) → binder_sort (c ∷ bs) c.name ≡ Some c.sort
own_binder c bs = ap (λ t. option_map (λ (x : RawColumn). x.sort) (cond t (Some c) (find (λ x. bytes_eq x.name c.name) bs))) (own_name c.name)

-- a name in front is taken out
pub own_gone : (n : Identifier) (names : List Identifier) → without n (n ∷ names) ≡ without n names
own_gone n names = ap (λ b. cond (not b) (n ∷ without n names) (without n names)) (own_name n)
