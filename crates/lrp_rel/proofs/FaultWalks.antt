-- What a walk over the parts of a written database keeps of its first fault.
use Rattle.std.proofs.Common.{◌≡◌, ◌<◌, ◌≤◌, ◌+◌, ℕ, zero, suc, Bool, true, false, ◌||◌, not, ◌==◌, if◌then◌else◌, List, [], ◌∷◌, ◌++◌, length, map, filter, fold, get_or, drop, min, Option, refl, sym, ap, ◌∙◌, arith, add-one, drop-cons}
use Rattle.std.proofs.lemmas.Bool.Decides.{nat_tests}
use Rattle.std.specs.List.{list_any, flat_map}
use Rattle.std.specs.Str.{bytes_eq}
use Rattle.std.specs.Cmp.Lexicographic.{bytes_decides}
use Rattle.std.proofs.lemmas.Cmp.{nat_list_eq_equiv}
use Rattle.indexmap.specs.IndexSet.{insert_key}
use Rattle.lrp_model.specs.Texts.{Identifier}
use Rattle.lrp_model.specs.Sorts.{is_time}
use Rattle.lrp_model.specs.Faults.{earliest, fault_if, repeated, is_named_in}
use Rattle.lrp_model.specs.DatabaseMeaning.{time_number}
use Rattle.lrp_model.specs.DatabaseFaults.{database_standing, database_fault, suits, wrong_sorts, unknown, side_faults}
use Rattle.lrp_model.specs.declared.tokens.Place.{Place}
use Rattle.lrp_model.specs.declared.raw.RawColumn.{RawColumn}
use Rattle.lrp_model.specs.declared.written.Located.{Located}
use Rattle.lrp_model.specs.declared.written.WrittenValue.{WrittenValue}
use Rattle.lrp_model.specs.declared.written.RawBound.{RawBound}
use Rattle.lrp_model.specs.declared.faults.DbFault.{DbFault}
use Rattle.lrp_model.specs.declared.faults.DbKind.TheVariants.{Name, Sort}
use Rattle.lrp_model.specs.Sooner.{sooner}
use Rattle.lrp_database.proofs.OnceLaws.{any_put, any_once}
use Rattle.lrp_rel.specs.Times.{time_names, AreTimesOf}
use Rattle.lrp_model.proofs.FirstFault.{first_of_both, sooner_again}

-- the faults of a bound
abbrev pub bound_faults : List RawColumn → RawBound → List DbFault
bound_faults cs b = unknown cs b.left ++ side_faults cs b.side

-- the elements from an index on are the one there and those after it
pub after : {A : Type 0} (xs : List A) (i : ℕ) (x : A) → i < length xs → x ≡ get_or xs i x → drop i xs ≡ x ∷ drop (i + 1) xs
after xs i x lt e = drop-cons xs i x lt ∙ ap (λ y. y ∷ drop (suc i) xs) (sym e) ∙ ap (λ k. x ∷ drop k xs) (sym (add-one i))

-- a fault found on the way is taken over
pub walk_said : (best more found a b all : Option DbFault) → sooner database_standing best a ≡ all → a ≡ sooner database_standing found b → more ≡ sooner database_standing best found → sooner database_standing more b ≡ all
walk_said best more found a b all h e is = ap (λ x. sooner database_standing x b) is ∙ sym (sooner_again database_standing best found b) ∙ ap (sooner database_standing best) (sym e) ∙ h

-- the same, where the faults are those of two lists
pub walk : (best more found all : Option DbFault) (xs rest : List DbFault) → sooner database_standing best (earliest database_standing (xs ++ rest)) ≡ all → found ≡ earliest database_standing xs → more ≡ sooner database_standing best found → sooner database_standing more (earliest database_standing rest) ≡ all
walk best more found all xs rest h e is =
    walk_said best more found (earliest database_standing (xs ++ rest)) (earliest database_standing rest) all h (first_of_both database_standing xs rest ∙ ap (λ x. sooner database_standing x (earliest database_standing rest)) (sym e)) is

-- one element more of those that have faults
pub flat_walk : {A : Type 0} (f : A → List DbFault) (xs : List A) (i : ℕ) (x : A) (best more found all : Option DbFault)
    → sooner database_standing best (earliest database_standing (flat_map f (drop i xs))) ≡ all → i < length xs → x ≡ get_or xs i x → found ≡ earliest database_standing (f x) → more ≡ sooner database_standing best found
    → sooner database_standing more (earliest database_standing (flat_map f (drop (i + 1) xs))) ≡ all
flat_walk f xs i x best more found all h lt here e is =
    walk best more found all (f x) (flat_map f (drop (i + 1) xs)) (ap (λ l. sooner database_standing best (earliest database_standing (flat_map f l))) (sym (after xs i x lt here)) ∙ h) e is

-- ---- names that stand twice

-- the names that stand twice depend only on which names stand before
repeated_as : (f : Place → DbFault) (b c : List Identifier) → ((m : Identifier) → is_named_in b m ≡ is_named_in c m) → (ns : List (Located Identifier)) → repeated f b ns ≡ repeated f c ns
repeated_as f b c same [] = refl
repeated_as f b c same (n ∷ ns) =
    ap (λ t. fault_if t (f n.place) ++ repeated f (n.item ∷ b) ns) (same n.item)
    ∙ ap (λ l. fault_if (is_named_in c n.item) (f n.place) ++ l) (repeated_as f (n.item ∷ b) (n.item ∷ c) (λ m. ap (λ t. bytes_eq m n.item || t) (same m)) ns)

-- one name more of those that may stand twice
pub names_walk : (n : Located Identifier) (ns : List (Located Identifier)) (names more_names : List Identifier) (best more found all : Option DbFault)
    → sooner database_standing best (earliest database_standing (repeated (database_fault Name) names (n ∷ ns))) ≡ all → found ≡ earliest database_standing (fault_if (is_named_in names n.item) (database_fault Name n.place))
    → more_names ≡ insert_key bytes_eq names n.item → more ≡ sooner database_standing best found → sooner database_standing more (earliest database_standing (repeated (database_fault Name) more_names ns)) ≡ all
names_walk n ns names more_names best more found all h e put is =
    ap (λ l. sooner database_standing more (earliest database_standing l)) (repeated_as (database_fault Name) more_names (n.item ∷ names) (λ m. ap (list_any (bytes_eq m)) put ∙ any_put names n.item m) ns)
    ∙ walk best more found all (fault_if (is_named_in names n.item) (database_fault Name n.place)) (repeated (database_fault Name) (n.item ∷ names) ns) h e is

-- ---- values in their columns

-- no values have no faults
no_sorts : (cs : List RawColumn) → wrong_sorts cs [] ≡ []
no_sorts [] = refl
no_sorts (c ∷ cs) = refl

-- past the last column or the last value there are no faults
pub sorts_end : (cs : List RawColumn) (vs : List (Located WrittenValue)) (i : ℕ) → min (length cs) (length vs) ≤ i → wrong_sorts (drop i cs) (drop i vs) ≡ []
sorts_end [] vs zero le = refl
sorts_end [] vs (suc i) le = refl
sorts_end (c ∷ cs) [] zero le = refl
sorts_end (c ∷ cs) [] (suc i) le = no_sorts (drop i cs)
sorts_end (c ∷ cs) (v ∷ vs) zero le = absurd (omega (arith, le))
sorts_end (c ∷ cs) (v ∷ vs) (suc i) le = sorts_end cs vs i (omega (arith, le))

-- one value more, with its column
pub sorts_walk : (cs : List RawColumn) (vs : List (Located WrittenValue)) (i : ℕ) (c : RawColumn) (v : Located WrittenValue) (best more found all : Option DbFault)
    → sooner database_standing best (earliest database_standing (wrong_sorts (drop i cs) (drop i vs))) ≡ all → i < length cs → i < length vs → c ≡ get_or cs i c → v ≡ get_or vs i v
    → found ≡ earliest database_standing (fault_if (not (suits v.item c)) (database_fault Sort v.place)) → more ≡ sooner database_standing best found
    → sooner database_standing more (earliest database_standing (wrong_sorts (drop (i + 1) cs) (drop (i + 1) vs))) ≡ all
sorts_walk cs vs i c v best more found all h lt less here there e is =
    walk best more found all (fault_if (not (suits v.item c)) (database_fault Sort v.place)) (wrong_sorts (drop (i + 1) cs) (drop (i + 1) vs))
    (ap (λ l. sooner database_standing best (earliest database_standing (wrong_sorts l (v ∷ drop (i + 1) vs)))) (sym (after cs i c lt here)) ∙ ap (λ l. sooner database_standing best (earliest database_standing (wrong_sorts (drop i cs) l))) (sym (after vs i v less there)) ∙ h) e is

-- ---- names of time columns

-- a number after others is not 0
not_zero : (k : ℕ) → (k + 1 == 0) ≡ false
not_zero k = grind (arith, nat_tests)

-- a column with the name, or one of those after it
named_here : (before k : ℕ) (t : Bool) (cs : List RawColumn) (n : Identifier) → not (list_any (bytes_eq n) (time_names cs)) ≡ (time_number k cs n == 0) → not (t || list_any (bytes_eq n) (time_names cs)) ≡ ((if t then before + 1 else time_number k cs n) == 0)
named_here before k true cs n h = sym (not_zero before)
named_here before k false cs n h = h

-- a name has the number 0 where no time column has it
numbered : (before : ℕ) (cs : List RawColumn) (n : Identifier) → not (list_any (bytes_eq n) (time_names cs)) ≡ (time_number before cs n == 0)
numbered before [] n = refl
numbered before (c ∷ cs) n = by (is_time c.sort) (numbered (before + 1) cs n) (numbered before cs n)
  where
    by : (b : Bool) → not (list_any (bytes_eq n) (time_names cs)) ≡ (time_number (before + 1) cs n == 0) → not (list_any (bytes_eq n) (time_names cs)) ≡ (time_number before cs n == 0)
        → not (list_any (bytes_eq n) (map (λ x. x.name) (if b then c ∷ filter (λ x. is_time x.sort) cs else filter (λ x. is_time x.sort) cs))) ≡ ((if b then (if bytes_eq c.name n then before + 1 else time_number (before + 1) cs n) else time_number before cs n) == 0)
    by true more same = ap (λ t. not (t || list_any (bytes_eq n) (time_names cs))) (nat_list_eq_equiv.symm n c.name) ∙ named_here before (before + 1) (bytes_eq c.name n) cs n more
    by false more same = same

-- a name is unknown where it is not among the names of the time columns
pub known : (cs : List RawColumn) (n : Identifier) (names : List Identifier) → AreTimesOf cs names → not (list_any (bytes_eq n) names) ≡ (time_number 0 cs n == 0)
known cs n names are = ap (λ l. not (list_any (bytes_eq n) l)) are ∙ ap not (any_once n [] (time_names cs)) ∙ numbered 0 cs n

-- ---- faults of three parts

-- the first fault of three lists
pub first_of_three : (a b c : Option DbFault) (xs ys zs : List DbFault) → a ≡ earliest database_standing xs → b ≡ earliest database_standing ys → c ≡ earliest database_standing zs → sooner database_standing (sooner database_standing a b) c ≡ earliest database_standing (xs ++ ys ++ zs)
first_of_three a b c xs ys zs e d f =
    ap (λ x. sooner database_standing (sooner database_standing x b) c) e ∙ ap (λ x. sooner database_standing (sooner database_standing (earliest database_standing xs) x) c) d ∙ ap (sooner database_standing (sooner database_standing (earliest database_standing xs) (earliest database_standing ys))) f
    ∙ ap (λ x. sooner database_standing x (earliest database_standing zs)) (sym (first_of_both database_standing xs ys)) ∙ sym (first_of_both database_standing (xs ++ ys) zs)
