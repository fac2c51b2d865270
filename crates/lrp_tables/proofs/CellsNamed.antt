-- Cells of tuples, whose residues and numbers of texts stand at places, and cells of assignments, which give them to names: a set inhabits as many of the one as of the other.
use Rattle.std.proofs.Common.{◌≡◌, ◌≢◌, ℕ, zero, suc, ◌+◌, ◌-◌, ◌<◌, ◌≤◌, inl, inr, List, [], ◌∷◌, ◌++◌, length, map, take, replicate, Some, refl, sym, ap, ap₂, subst, ◌∙◌, arith, Contains}
use Rattle.std.specs.Prelude.{ℤ, pos, All, AllPairs, slice_get, get_or, ◌-ℤ◌}
use Rattle.std.specs.List.{AllByRecursion}
use Rattle.std.proofs.lemmas.Bool.{cases_lt}
use Rattle.std.proofs.lemmas.List.{length-map, length-append, length-replicate, ext_get_or, get_or-take, get_or_append_left, get_or-append-add}
use Rattle.std.proofs.lemmas.Option.{get_or_from_slice_get, slice_get-get_or}
use Rattle.std.proofs.lemmas.Int.{ints}
use Rattle.lrp_theory.specs.Divides.{Divides}
use Rattle.lrp_theory.specs.Entries.{node}
use Rattle.lrp_theory.proofs.Modulo.{Divides-zero, Divides-is}
use Rattle.lrp_model.specs.Texts.{Text, Identifier, Ascends}
use Rattle.lrp_model.specs.Variables.{Variable, time_variable, data_variable}
use Rattle.lrp_model.specs.Satisfaction.{Assignment}
use Rattle.lrp_model.specs.Cells.{FormCell, LiesIn, Agree, Differ}
use Rattle.lrp_model.proofs.Decided.{contains_first, contains_later}
use Rattle.lrp_model.specs.declared.tuples.Cell.{Cell}
use Rattle.lrp_model.specs.declared.tuples.Shape.{Shape}
use Rattle.lrp_zone.specs.Zones.{IsResidue}
use Rattle.lrp_store.specs.Stores.{IsPadded, IsInhabitedCell}
use Rattle.lrp_store.specs.Growing.{InhabitsMany}
use Rattle.lrp_store.specs.Tables.{AreTexts}
use Rattle.lrp_tables.specs.Tables.{named_variables}
use Rattle.lrp_tables.specs.Caps.{Inhabits, InhabitsMoreThan}
use Rattle.lrp_tables.proofs.Joining.{at_place, same_place}
use Rattle.lrp_tables.proofs.Mapped.{many_map}
use Rattle.lrp_tables.proofs.Numbers.{all_variables, number_of, number_is, number_at, number_low, same_number, text_at, domain_differs, numbers_are, known_are_texts}

-- ---- lists beside names

-- the value at a name
abbrev pub value_at : {A : Type 0} → A → List Identifier → List A → Identifier → A
value_at z names values v = get_or values (number_of names v) z

-- the values at all of the names are the list
pub values_are : {A : Type 0} (z : A) (names : List Identifier) (values : List A) → AllPairs ◌≢◌ names → length values ≡ length names → map (value_at z names values) names ≡ values
values_are {A} z names values pairs e = ext_get_or z (map (value_at z names values) names) values (length-map names (value_at z names values) ∙ sym e) (λ i low. at i (let l : length (map (value_at z names values) names) ≡ length names = length-map names (value_at z names values) in omega arith))
  where
    at : (i : ℕ) → i < length names → get_or (map (value_at z names values) names) i z ≡ get_or values i z
    at i low = mapped names i low ∙ ap (λ k. get_or values k z) (number_at names pairs i (get_or names i []) (slice_get-get_or names i [] low))
      where
        mapped : (vs : List Identifier) (i : ℕ) → i < length vs → get_or (map (value_at z names values) vs) i z ≡ value_at z names values (get_or vs i [])
        mapped [] i low = absurd (omega arith)
        mapped (v ∷ vs) zero low = refl
        mapped (v ∷ vs) (suc i) low = mapped vs i (omega arith)

-- a value of a mapped list
pub mapped_at : {A : Type 0} (f : Identifier → A) (z : A) (names : List Identifier) (i : ℕ) → i < length names → get_or (map f names) i z ≡ f (get_or names i [])
mapped_at f z [] i low = absurd (omega arith)
mapped_at f z (v ∷ vs) zero low = refl
mapped_at f z (v ∷ vs) (suc i) low = mapped_at f z vs i (omega arith)

-- ---- padded values

-- a list with noughts after it up to eight
abbrev pub padded : {A : Type 0} → A → List A → List A
padded z values = values ++ replicate (8 - length values) z

nought_at : {A : Type 0} (z : A) (n i : ℕ) → get_or (replicate n z) i z ≡ z
nought_at z zero i = refl
nought_at z (suc n) zero = refl
nought_at z (suc n) (suc i) = nought_at z n i

pub padded_is : {A : Type 0} (z : A) (values : List A) → length values ≤ 8 → IsPadded z (length values) (padded z values)
padded_is z values low = record {
  size = let a : length (padded z values) ≡ length values + length (replicate (8 - length values) z) = length-append values (replicate (8 - length values) z) in let b : length (replicate (8 - length values) z) ≡ 8 - length values = length-replicate (8 - length values) z in omega arith;
  zeros = λ i h. let e : length values + (i - length values) ≡ i = omega arith in
      sym (ap (λ k. get_or (padded z values) k z) e) ∙ get_or-append-add values (replicate (8 - length values) z) (i - length values) z ∙ nought_at z (8 - length values) (i - length values);
}

-- its front
pub padded_front : {A : Type 0} (z : A) (values : List A) → take (length values) (padded z values) ≡ values
padded_front z values = front values (replicate (8 - length values) z)
  where
    front : {A : Type 0} (xs ys : List A) → take (length xs) (xs ++ ys) ≡ xs
    front [] ys = refl
    front (x ∷ xs) ys = ap (λ l. x ∷ l) (front xs ys)

-- padded values that agree up to their number are the same
pub same_padded : {X : Type 0} (nought : X) (n : ℕ) (xs ys : List X) → IsPadded nought n xs → IsPadded nought n ys → ((i : ℕ) → i < n → get_or xs i nought ≡ get_or ys i nought) → xs ≡ ys
same_padded nought n xs ys p q same = ext_get_or nought xs ys (p.size ∙ sym q.size) (λ i h. elim (cases_lt i n) [
  | inl less ↦ same i less
  | inr more ↦ p.zeros i more ∙ sym (q.zeros i more)
])

-- ---- a set of tuples and a set of assignments

-- a set of tuples of times and numbers of texts
abbrev pub Tuples : Type 1
Tuples = List ℤ → List ℕ → Type 0

-- the set of tuples has those of the assignments of the other set, over these names, and no others
pub record AreTuplesOf (domain : List Text) (times texts : List Identifier) (tuples : Tuples) (set : Assignment → Type 0) : Type 0 where
  pub to : (env : Assignment) (ns : List ℕ) → AreTexts domain ns (map env.texts texts) → tuples (map env.times times) ns → set env
  pub from : (env : Assignment) → set env → (ns : List ℕ) × AreTexts domain ns (map env.texts texts) × tuples (map env.times times) ns
  pub times_count : (xs : List ℤ) (ns : List ℕ) → tuples xs ns → length xs ≡ length times
  pub texts_count : (xs : List ℤ) (ns : List ℕ) → tuples xs ns → length ns ≡ length texts
  pub known : (xs : List ℤ) (ns : List ℕ) → tuples xs ns → All (λ n. n < length domain) ns

module _ (domain : List Text) (ascends : Ascends domain) (times texts : List Identifier) (times_differ : AllPairs ◌≢◌ times) (texts_differ : AllPairs ◌≢◌ texts) where
  -- the assignment of a tuple
  abbrev pub env_of : List ℤ → List ℕ → Assignment
  env_of xs ns = record { times = value_at (pos 0) times xs; texts = λ v. text_at domain (value_at 0 texts ns v) }

  pub env_times : (xs : List ℤ) (ns : List ℕ) → length xs ≡ length times → map (env_of xs ns).times times ≡ xs
  env_times xs ns e = values_are (pos 0) times xs times_differ e

  pub env_texts : (xs : List ℤ) (ns : List ℕ) → length ns ≡ length texts → All (λ n. n < length domain) ns → AreTexts domain ns (map (env_of xs ns).texts texts)
  env_texts xs ns e known = subst (AreTexts domain ns) (sym (composed texts ∙ ap (map (text_at domain)) (values_are 0 texts ns texts_differ e))) (known_are_texts domain ns known)
    where
      composed : (vs : List Identifier) → map (λ v. text_at domain (value_at 0 texts ns v)) vs ≡ map (text_at domain) (map (value_at 0 texts ns) vs)
      composed [] = refl
      composed (v ∷ vs) = ap (λ l. text_at domain (value_at 0 texts ns v) ∷ l) (composed vs)

  same_text : (m n : ℕ) → m < length domain → n < length domain → text_at domain m ≡ text_at domain n → m ≡ n
  same_text m n lm ln e = same_place domain (domain_differs domain ascends) m n (text_at domain n) (slice_get-get_or domain m [] lm ∙ ap Some e) (slice_get-get_or domain n [] ln)

  module _ (period : ℕ) (period_low : 0 < period) (shape : Shape) (times_are : shape.times ≡ length times) (texts_are : shape.texts ≡ length texts) (few_times : shape.times ≤ 8) (few_texts : shape.texts ≤ 8) (tuples : Tuples) (set : Assignment → Type 0)
      (are : AreTuplesOf domain times texts tuples set) where
    abbrev variables : List Variable
    variables = named_variables times texts

    -- ---- from places to names

    abbrev pub named : Cell → FormCell
    named c = record { residues = value_at (pos 0) times c.residues; texts = λ v. text_at domain (value_at 0 texts c.texts v) }

    cell_number : (c : Cell) → (h : IsInhabitedCell shape period tuples c) → (i : ℕ) → i < length texts → get_or c.texts i 0 ≡ get_or h.texts i 0
    cell_number c h i low = sym (get_or-take shape.texts c.texts i 0 (omega arith)) ∙ ap (λ l. get_or l i 0) h.inside.named

    number_known : (c : Cell) → IsInhabitedCell shape period tuples c → (i : ℕ) → i < length texts → get_or c.texts i 0 < length domain
    number_known c h i low =
        let e : length h.texts ≡ length texts = are.texts_count h.times h.texts h.is in
        subst (λ n. n < length domain) (sym (cell_number c h i low)) (are.known h.times h.texts h.is i 0 (omega arith))

    named_inhabits : (c : Cell) → IsInhabitedCell shape period tuples c → Inhabits domain period variables set (named c)
    named_inhabits c h = record {
      witness = env_of h.times h.texts;
      inside = (all_variables (LiesIn period domain (env_of h.times h.texts) (named c)) times texts).1 (in_time, in_text);
      member = are.to (env_of h.times h.texts) h.texts (env_texts h.times h.texts (are.texts_count h.times h.texts h.is) (are.known h.times h.texts h.is))
          (subst (λ xs. tuples xs h.texts) (sym (env_times h.times h.texts (are.times_count h.times h.texts h.is))) h.is);
    }
      where
        in_time : (v : Identifier) → Contains times v → LiesIn period domain (env_of h.times h.texts) (named c) (time_variable v)
        in_time v m =
            let low : number_of times v < length times = number_low times v m in
            let r : IsResidue period (node c.residues (suc (number_of times v))) = h.proper.range (suc (number_of times v)) (omega arith) in
            (r.low, r.high, h.inside.residues (suc (number_of times v)) (omega arith))

        in_text : (v : Identifier) → Contains texts v → LiesIn period domain (env_of h.times h.texts) (named c) (data_variable v)
        in_text v m =
            let low : number_of texts v < length texts = number_low texts v m in
            let n : get_or c.texts (number_of texts v) 0 < length domain = number_known c h (number_of texts v) low in
            (at_place domain (get_or c.texts (number_of texts v) 0) _ (slice_get-get_or domain (get_or c.texts (number_of texts v) 0) [] n), ap (text_at domain) (sym (cell_number c h (number_of texts v) low)))

    same_named : (a b : Cell) → IsInhabitedCell shape period tuples a → IsInhabitedCell shape period tuples b → AllByRecursion (Agree (named a) (named b)) variables → a ≡ b
    same_named a b h k agree =
        ap (λ ns. record { texts = ns; residues = a.residues }) (same_padded 0 shape.texts a.texts b.texts h.proper.texts k.proper.texts number)
        ∙ ap (λ rs. record { texts = b.texts; residues = rs }) (same_padded (pos 0) shape.times a.residues b.residues h.proper.residues k.proper.residues residue)
      where
        residue : (i : ℕ) → i < shape.times → get_or a.residues i (pos 0) ≡ get_or b.residues i (pos 0)
        residue i low =
            let there : slice_get times i ≡ Some (get_or times i []) = slice_get-get_or times i [] (omega arith) in
            subst (λ n. get_or a.residues n (pos 0) ≡ get_or b.residues n (pos 0)) (number_at times times_differ i (get_or times i []) there)
            (((all_variables (Agree (named a) (named b)) times texts).0 agree).0 (get_or times i []) (at_place times i (get_or times i []) there))

        number : (i : ℕ) → i < shape.texts → get_or a.texts i 0 ≡ get_or b.texts i 0
        number i low =
            let there : slice_get texts i ≡ Some (get_or texts i []) = slice_get-get_or texts i [] (omega arith) in
            same_text (get_or a.texts i 0) (get_or b.texts i 0) (number_known a h i (omega arith)) (number_known b k i (omega arith))
            (subst (λ n. text_at domain (get_or a.texts n 0) ≡ text_at domain (get_or b.texts n 0)) (number_at texts texts_differ i (get_or texts i []) there)
            (((all_variables (Agree (named a) (named b)) times texts).0 agree).1 (get_or texts i []) (at_place texts i (get_or texts i []) there)))

    -- as many cells by names as by places
    pub many_named : (cap : ℕ) → InhabitsMany shape period tuples cap → InhabitsMoreThan cap domain period times texts set
    many_named cap =
        many_map named ◌≢◌ (Differ variables) (IsInhabitedCell shape period tuples) (Inhabits domain period variables set) named_inhabits (λ a b h k n agree. n (same_named a b h k agree)) cap

    -- ---- from names to places

    abbrev pub placed : FormCell → Cell
    placed c = record { texts = padded 0 (map (λ v. number_of domain (c.texts v)) texts); residues = padded (pos 0) (map c.residues times) }

    placed_residue : (c : FormCell) (i : ℕ) → i < length times → node (placed c).residues (suc i) ≡ c.residues (get_or times i [])
    placed_residue c i low =
        let e : length (map c.residues times) ≡ length times = length-map times c.residues in
        get_or_append_left (map c.residues times) (replicate (8 - length (map c.residues times)) (pos 0)) (pos 0) i (omega arith) ∙ mapped_at c.residues (pos 0) times i low

    placed_number : (c : FormCell) (i : ℕ) → i < length texts → get_or (placed c).texts i 0 ≡ number_of domain (c.texts (get_or texts i []))
    placed_number c i low =
        let e : length (map (λ v. number_of domain (c.texts v)) texts) ≡ length texts = length-map texts (λ v. number_of domain (c.texts v)) in
        get_or_append_left (map (λ v. number_of domain (c.texts v)) texts) (replicate (8 - length (map (λ v. number_of domain (c.texts v)) texts)) 0) 0 i (omega arith) ∙ mapped_at (λ v. number_of domain (c.texts v)) 0 texts i low

    numbers_of : (c : FormCell) (env : Assignment) (vs : List Identifier) → ((v : Identifier) → Contains vs v → env.texts v ≡ c.texts v) → map (λ v. number_of domain (c.texts v)) vs ≡ map (number_of domain) (map env.texts vs)
    numbers_of c env [] same = refl
    numbers_of c env (v ∷ vs) same = ap₂ (λ n ns. n ∷ ns) (ap (number_of domain) (sym (same v (contains_first v vs)))) (numbers_of c env vs (λ w m. same w (contains_later v w vs m)))

    placed_inhabits : (c : FormCell) → Inhabits domain period variables set c → IsInhabitedCell shape period tuples (placed c)
    placed_inhabits c h = record {
      proper = record {
        texts = subst (λ n. IsPadded 0 n (placed c).texts) (length-map texts _ ∙ sym texts_are) (padded_is 0 (map (λ v. number_of domain (c.texts v)) texts) (let e : length (map (λ v. number_of domain (c.texts v)) texts) ≡ length texts = length-map texts (λ v. number_of domain (c.texts v)) in omega arith));
        residues = subst (λ n. IsPadded (pos 0) n (placed c).residues) (length-map times c.residues ∙ sym times_are) (padded_is (pos 0) (map c.residues times) (let e : length (map c.residues times) ≡ length times = length-map times c.residues in omega arith));
        range = range;
      };
      times = map h.witness.times times;
      texts = (are.from h.witness h.member).0;
      is = (are.from h.witness h.member).2;
      inside = record {
        count = length-map times h.witness.times ∙ sym times_are;
        residues = residue;
        named = ap (λ n. take n (placed c).texts) (texts_are ∙ sym (length-map texts (λ v. number_of domain (c.texts v)))) ∙ padded_front 0 (map (λ v. number_of domain (c.texts v)) texts) ∙ numbers_of c h.witness texts (λ v m. (lies.1 v m).1)
            ∙ sym (numbers_are domain (domain_differs domain ascends) (are.from h.witness h.member).0 (map h.witness.texts texts) (are.from h.witness h.member).1);
      };
    }
      where
        lies : ((v : Identifier) → Contains times v → LiesIn period domain h.witness c (time_variable v)) × ((v : Identifier) → Contains texts v → LiesIn period domain h.witness c (data_variable v))
        lies = (all_variables (LiesIn period domain h.witness c) times texts).0 h.inside

        member : (i : ℕ) → i < length times → Contains times (get_or times i [])
        member i low = at_place times i (get_or times i []) (slice_get-get_or times i [] low)

        range : (i : ℕ) → i ≤ shape.times → IsResidue period (node (placed c).residues i)
        range zero low = record { low = omega (arith, ints); high = omega (arith, ints) }
        range (suc i) low =
            let l = lies.0 (get_or times i []) (member i (omega arith)) in
            subst (IsResidue period) (sym (placed_residue c i (omega arith))) (record { low = l.0; high = l.1 })

        residue : (i : ℕ) → i ≤ shape.times → Divides (pos period) (node (map h.witness.times times) i -ℤ node (placed c).residues i)
        residue zero low = Divides-is (pos period) (pos 0) (pos 0 -ℤ pos 0) (omega (arith, ints)) (Divides-zero (pos period))
        residue (suc i) low =
            let l = lies.0 (get_or times i []) (member i (omega arith)) in
            subst (λ r. Divides (pos period) (node (map h.witness.times times) (suc i) -ℤ r)) (sym (placed_residue c i (omega arith)))
            (subst (λ x. Divides (pos period) (x -ℤ c.residues (get_or times i []))) (sym (mapped_at h.witness.times (pos 0) times i (omega arith))) l.2)

    placed_agree : (a b : FormCell) → Inhabits domain period variables set a → Inhabits domain period variables set b → placed a ≡ placed b → AllByRecursion (Agree a b) variables
    placed_agree a b h k e = (all_variables (Agree a b) times texts).1 (in_time, in_text)
      where
        in_time : (v : Identifier) → Contains times v → a.residues v ≡ b.residues v
        in_time v m =
            let low : number_of times v < length times = number_low times v m in
            let is : get_or times (number_of times v) [] ≡ v = get_or_from_slice_get times (number_of times v) v [] (number_is times v m) in
            sym (placed_residue a (number_of times v) low ∙ ap a.residues is) ∙ ap (λ c. node c.residues (suc (number_of times v))) e ∙ placed_residue b (number_of times v) low ∙ ap b.residues is

        in_text : (v : Identifier) → Contains texts v → a.texts v ≡ b.texts v
        in_text v m =
            let low : number_of texts v < length texts = number_low texts v m in
            let is : get_or texts (number_of texts v) [] ≡ v = get_or_from_slice_get texts (number_of texts v) v [] (number_is texts v m) in
            let n : number_of domain (a.texts v) ≡ number_of domain (b.texts v) = sym (placed_number a (number_of texts v) low ∙ ap (λ w. number_of domain (a.texts w)) is) ∙ ap (λ c. get_or c.texts (number_of texts v) 0) e ∙ placed_number b (number_of texts v) low ∙ ap (λ w. number_of domain (b.texts w)) is in
            same_number domain (a.texts v) (b.texts v) (((all_variables (LiesIn period domain h.witness a) times texts).0 h.inside).1 v m).0 (((all_variables (LiesIn period domain k.witness b) times texts).0 k.inside).1 v m).0 n

    -- as many cells by places as by names
    pub many_placed : (cap : ℕ) → InhabitsMoreThan cap domain period times texts set → InhabitsMany shape period tuples cap
    many_placed cap =
        many_map placed (Differ variables) ◌≢◌ (Inhabits domain period variables set) (IsInhabitedCell shape period tuples) placed_inhabits (λ a b h k n e. n (placed_agree a b h k e)) cap

    -- so where the set of tuples does not inhabit more, the set of assignments does not
    pub few_named : (cap : ℕ) → (InhabitsMany shape period tuples cap → ⊥) → InhabitsMoreThan cap domain period times texts set → ⊥
    few_named cap few more = few (many_placed cap more)
