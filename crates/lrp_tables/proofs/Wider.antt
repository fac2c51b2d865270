-- A store whose columns are put among those of longer tuples, and sets of tuples that are made of others.
use Rattle.std.proofs.Common.{◌≡◌, ◌↔◌, ℕ, ◌-◌, ◌<◌, List, [], ◌∷◌, length, map, refl, sym, ap, subst, ◌∙◌, Contains}
use Rattle.std.specs.Prelude.{ℤ, All, get_or}
use Rattle.std.specs.List.{AllByRecursion}
use Rattle.std.proofs.lemmas.List.{length-map}
use Rattle.lrp_theory.specs.Entries.{node}
use Rattle.lrp_model.specs.Texts.{Text, Identifier, Ascends}
use Rattle.lrp_model.specs.Satisfaction.{Assignment}
use Rattle.lrp_model.proofs.Ascending.{all_at}
use Rattle.lrp_store.specs.Stores.{StoreView, InStore}
use Rattle.lrp_store.specs.Tables.{AreTexts}
use Rattle.lrp_tables.specs.declared.table.Table.{Table}
use Rattle.lrp_tables.specs.Columns.{ArePlacesOf}
use Rattle.lrp_tables.specs.Tables.{HasAssignment, HasTexts}
use Rattle.lrp_tables.proofs.CellsNamed.{Tuples, AreTuplesOf}
use Rattle.lrp_tables.proofs.Joining.{values_at, any_values_at, places_named}
use Rattle.lrp_tables.proofs.Numbers.{all_by, all_mapped, number_of, domain_differs, numbers_are, are_numbers, texts_known, texts_count, numbers_known}

-- ---- tuples that are made of others

-- whether an assignment is of the set is told by its tuple
pub tuple_is : (domain : List Text) → Ascends domain → (times texts : List Identifier) (tuples : Tuples) (set : Assignment → Type 0) → AreTuplesOf domain times texts tuples set → (env : Assignment) (ns : List ℕ) → AreTexts domain ns (map env.texts texts) → tuples (map env.times times) ns ↔ set env
tuple_is domain ascends times texts tuples set are env ns h = (
  (λ m. are.to env ns h m),
  λ m.
      let f = are.from env m in
      subst (tuples (map env.times times)) (numbers_are domain (domain_differs domain ascends) f.0 (map env.texts texts) f.1 ∙ sym (numbers_are domain (domain_differs domain ascends) ns (map env.texts texts) h)) f.2,
)

module _ (domain : List Text) (times texts : List Identifier) where
  -- another set of assignments, and another set of tuples, with the same members
  pub same_tuples : (tuples more : Tuples) (set other : Assignment → Type 0) → ((xs : List ℤ) (ns : List ℕ) → tuples xs ns ↔ more xs ns) → ((env : Assignment) → set env ↔ other env) → AreTuplesOf domain times texts tuples set → AreTuplesOf domain times texts more other
  same_tuples tuples more set other t s are = record {
    to = λ env ns h m. (s env).0 (are.to env ns h ((t (map env.times times) ns).1 m));
    from = λ env m. let f = are.from env ((s env).1 m) in (f.0, f.1, (t (map env.times times) f.0).0 f.2);
    times_count = λ xs ns m. are.times_count xs ns ((t xs ns).1 m);
    texts_count = λ xs ns m. are.texts_count xs ns ((t xs ns).1 m);
    known = λ xs ns m. are.known xs ns ((t xs ns).1 m);
  }

  -- those that meet a test of the tuple, which says the same as one of the assignment
  pub tested_tuples : (tuples : Tuples) (set : Assignment → Type 0) (Passes : Tuples) (passes : Assignment → Type 0) → ((env : Assignment) (ns : List ℕ) → AreTexts domain ns (map env.texts texts) → Passes (map env.times times) ns ↔ passes env) → AreTuplesOf domain times texts tuples set
      → AreTuplesOf domain times texts (λ xs ns. tuples xs ns × Passes xs ns) (λ env. set env × passes env)
  tested_tuples tuples set Passes passes test are = record {
    to = λ env ns h m. (are.to env ns h m.0, (test env ns h).0 m.1);
    from = λ env m. let f = are.from env m.0 in (f.0, f.1, (f.2, (test env f.0 f.1).1 m.1));
    times_count = λ xs ns m. are.times_count xs ns m.0;
    texts_count = λ xs ns m. are.texts_count xs ns m.0;
    known = λ xs ns m. are.known xs ns m.0;
  }

-- those of one set that are not of another
pub less_tuples : (domain : List Text) → Ascends domain → (times texts : List Identifier) (left right : Tuples) (one other : Assignment → Type 0) → AreTuplesOf domain times texts left one → AreTuplesOf domain times texts right other
    → AreTuplesOf domain times texts (λ xs ns. left xs ns × (right xs ns → ⊥)) (λ env. one env × (other env → ⊥))
less_tuples domain ascends times texts left right one other l r =
    tested_tuples domain times texts left one (λ xs ns. right xs ns → ⊥) (λ env. other env → ⊥)
    (λ env ns h. let t = tuple_is domain ascends times texts right other r env ns h in ((λ n m. n (t.1 m)), λ n m. n (t.0 m))) l

-- ---- longer tuples

-- a tuple of a number of times and a number of texts of the domain, whose values at the places the store has
pub record IsWider (size times texts : ℕ) (time_places text_places : List ℕ) (s : StoreView) (xs : List ℤ) (ns : List ℕ) : Type 0 where
  pub times_count : length xs ≡ times
  pub texts_count : length ns ≡ texts
  pub known : All (λ n. n < size) ns
  pub held : InStore s (map (node xs) time_places) (map (λ p. get_or ns (p - 1) 0) text_places)

-- all tuples of times and numbers of the domain
pub record IsAny (size times texts : ℕ) (xs : List ℤ) (ns : List ℕ) : Type 0 where
  pub times_count : length xs ≡ times
  pub texts_count : length ns ≡ texts
  pub known : All (λ n. n < size) ns

module _ (domain : List Text) (ascends : Ascends domain) (times texts : List Identifier) where
  composed : (f : Identifier → Text) (vs : List Identifier) → map (λ v. number_of domain (f v)) vs ≡ map (number_of domain) (map f vs)
  composed f [] = refl
  composed f (v ∷ vs) = ap (λ l. number_of domain (f v) ∷ l) (composed f vs)

  has_texts : (env : Assignment) (ns : List ℕ) → AreTexts domain ns (map env.texts texts) → HasTexts domain texts env
  has_texts env ns h = (all_mapped env.texts (Contains domain) texts).0 (texts_known domain ns (map env.texts texts) h)

  numbered : (env : Assignment) → HasTexts domain texts env → AreTexts domain (map (number_of domain) (map env.texts texts)) (map env.texts texts)
  numbered env known = are_numbers domain (map env.texts texts) ((all_mapped env.texts (Contains domain) texts).1 known)

  -- they are those of all assignments of texts of the domain
  pub any_tuples : AreTuplesOf domain times texts (IsAny (length domain) (length times) (length texts)) (HasTexts domain texts)
  any_tuples = record {
    to = λ env ns h m. has_texts env ns h;
    from = λ env known. (
      map (number_of domain) (map env.texts texts),
      numbered env known,
      record {
        times_count = length-map times env.times;
        texts_count = texts_count domain (map (number_of domain) (map env.texts texts)) (map env.texts texts) (numbered env known) ∙ length-map texts env.texts;
        known = numbers_known domain (map (number_of domain) (map env.texts texts)) (map env.texts texts) (numbered env known);
      },
    );
    times_count = λ xs ns m. m.times_count;
    texts_count = λ xs ns m. m.texts_count;
    known = λ xs ns m. m.known;
  }

  module _ (table : Table) (time_places text_places : List ℕ) (time_are : ArePlacesOf table.vars.times times time_places) (text_are : ArePlacesOf table.vars.texts texts text_places) where
    -- the numbers at the places are those of the table's texts
    text_numbers : (env : Assignment) (ns : List ℕ) → AreTexts domain ns (map env.texts texts) → map (λ p. get_or ns (p - 1) 0) text_places ≡ map (number_of domain) (map env.texts table.vars.texts)
    text_numbers env ns h =
        ap (λ l. map (λ p. get_or l (p - 1) 0) text_places) (numbers_are domain (domain_differs domain ascends) ns (map env.texts texts) h ∙ sym (composed env.texts texts))
        ∙ any_values_at (λ v. number_of domain (env.texts v)) 0 table.vars.texts texts text_places text_are ∙ composed env.texts table.vars.texts

    -- the longer tuples are those of the assignments that the table has, with texts of the domain for the further variables
    pub wider_tuples : AreTuplesOf domain times texts (IsWider (length domain) (length times) (length texts) time_places text_places table.store) (λ env. HasTexts domain texts env × HasAssignment table domain env)
    wider_tuples = record {
      to = λ env ns h m. (
        has_texts env ns h,
        (
          map (number_of domain) (map env.texts table.vars.texts),
          are_numbers domain (map env.texts table.vars.texts) (among env ns h),
          subst (λ xs. InStore table.store xs (map (number_of domain) (map env.texts table.vars.texts))) (values_at table.vars.times times time_places time_are env.times)
              (subst (InStore table.store (map (node (map env.times times)) time_places)) (text_numbers env ns h) m.held),
        ),
      );
      from = λ env m.
          let h = numbered env m.0 in (
            map (number_of domain) (map env.texts texts),
            h,
            record {
              times_count = length-map times env.times;
              texts_count = texts_count domain (map (number_of domain) (map env.texts texts)) (map env.texts texts) h ∙ length-map texts env.texts;
              known = numbers_known domain (map (number_of domain) (map env.texts texts)) (map env.texts texts) h;
              held = subst (λ xs. InStore table.store xs (map (λ p. get_or (map (number_of domain) (map env.texts texts)) (p - 1) 0) text_places)) (sym (values_at table.vars.times times time_places time_are env.times))
                  (subst (InStore table.store (map env.times table.vars.times)) (numbers_are domain (domain_differs domain ascends) m.1.0 (map env.texts table.vars.texts) m.1.1 ∙ sym (text_numbers env (map (number_of domain) (map env.texts texts)) h)) m.1.2);
            },
          );
      times_count = λ xs ns m. m.times_count;
      texts_count = λ xs ns m. m.texts_count;
      known = λ xs ns m. m.known;
    }
      where
        among : (env : Assignment) (ns : List ℕ) → AreTexts domain ns (map env.texts texts) → AllByRecursion (Contains domain) (map env.texts table.vars.texts)
        among env ns h = (all_mapped env.texts (Contains domain) table.vars.texts).1 (all_by (λ v. Contains domain (env.texts v)) table.vars.texts (λ v c. all_at (λ w. Contains domain (env.texts w)) texts v (has_texts env ns h) (places_named table.vars.texts texts text_places text_are v c)))
