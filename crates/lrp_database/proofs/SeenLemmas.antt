-- Sets of texts beside names, and what one text more does to them.
use Rattle.std.proofs.Common.{◌≡◌, ◌<◌, ◌+◌, ℕ, zero, suc, Bool, true, false, ◌||◌, if◌then◌else◌, List, [], ◌∷◌, ◌++◌, length, filter, get_or, take, position, slice_get, slice_set, Some, Result, Ok, Err, OnOk, refl, sym, ap, subst, ◌∙◌, arith, add-one, append-nil, append_assoc, take_all, ◌≤◌}
use Rattle.std.specs.List.{list_any, flat_map}
use Rattle.std.specs.Str.{bytes_eq}
use Rattle.std.specs.Cmp.Lexicographic.{bytes_decides}
use Rattle.std.proofs.lemmas.List.Sums.{fold-append}
use Rattle.std.proofs.lemmas.List.Quantifiers.{position-Some}
use Rattle.lrp_model.specs.Texts.{Text, Identifier}
use Rattle.lrp_model.specs.Sorts.{same_sort}
use Rattle.lrp_model.specs.declared.relations.Sort.{Sort}
use Rattle.std.proofs.lemmas.List.{map-append}
use Rattle.std.proofs.lemmas.List.Elements.{filter-append}
use Rattle.std.proofs.lemmas.Grind.{flat_map-append}
use Rattle.std.proofs.lemmas.Cmp.{nat_list_eq_equiv}
use Rattle.std.proofs.lemmas.Option.{get_or_from_slice_get}
use Rattle.std.proofs.Math.Seq.{take-suc}
use Rattle.indexmap.specs.IndexSet.{keys}
use Rattle.lrp_model.specs.Domains.{row_texts}
use Rattle.lrp_model.specs.declared.relations.Sort.TheVariants.{Data, Named}
use Rattle.lrp_model.specs.declared.relations.Column.{Column}
use Rattle.lrp_model.specs.declared.relations.Value.{Value}
use Rattle.lrp_model.specs.declared.relations.Value.TheVariants.{Point, Const}
use Rattle.lrp_model.specs.Kept.{AreValuesOf}
use Rattle.lrp_database.specs.Seen.{HasSeen, SeesMore, named_texts}
use Rattle.lrp_database.specs.declared.seen.Seen.{Seen}
use Rattle.lrp_database.specs.Once.{once, put_once, texts_among, texts_with, texts_beside}

-- a fact of an Ok gives another
pub on_ok : {T E : Type 0} {P Q : Type 0} (r : Result T E) → (P → Q) → OnOk r P → OnOk r Q
on_ok (Ok t) f h = f h
on_ok (Err e) f h = tt

-- the first element that passes a test stands at this index
abbrev pub IsFirst : {A : Type 0} → (A → Bool) → List A → ℕ → Type 0
IsFirst p [] i = ⊥
IsFirst p (x ∷ xs) zero = p x ≡ true
IsFirst p (x ∷ xs) (suc i) = (p x ≡ false) × IsFirst p xs i

-- the first that passes, from what holds at each index up to it
first_from : {A : Type 0} (p : A → Bool) (xs : List A) (i : ℕ) (d : A) → i < length xs → p (get_or xs i d) ≡ true → ((k : ℕ) → k < i → p (get_or xs k d) ≡ false) → IsFirst p xs i
first_from p [] i d lt here before = absurd (omega (arith, lt))
first_from p (x ∷ xs) zero d lt here before = here
first_from p (x ∷ xs) (suc i) d lt here before = (before 0 (omega arith), first_from p xs i d (omega (arith, lt)) here (λ k less. before (suc k) (omega (arith, less))))

-- what a search finds is the first that passes
pub found_first : {A : Type 0} (p : A → Bool) (xs : List A) (i : ℕ) (d : A) → position p xs ≡ Some i → IsFirst p xs i
found_first p xs i d e = let h = position-Some p xs i d e in first_from p xs i d h.0 h.1 h.2

-- a choice that was made already
same_choice : {A : Type 0} (b : Bool) (u t r : A) → (if b then u else r) ≡ (if b then u else (if b then t else r))
same_choice true u t r = refl
same_choice false u t r = refl

-- two choices that are never both made, in the other order
swap_choice : {A : Type 0} (a b : Bool) (t u r : A) → (a ≡ true → b ≡ true → ⊥) → (if a then t else (if b then u else r)) ≡ (if b then u else (if a then t else r))
swap_choice true true t u r never = absurd (never refl refl)
swap_choice true false t u r never = refl
swap_choice false true t u r never = refl
swap_choice false false t u r never = refl

-- two names that differ are not both one
not_both : (name m n : Identifier) → bytes_eq name m ≡ false → bytes_eq n m ≡ true → bytes_eq n name ≡ true → ⊥
not_both name m n apart a b =
    let same : name ≡ m = sym ((bytes_decides n name).0 b) ∙ (bytes_decides n m).0 a in
    let yes : bytes_eq name m ≡ true = (bytes_decides name m).1 same in
    cc

-- other texts at the place of a name
beside_set : (ns : List Identifier) (tss : List (List Text)) (i : ℕ) (name : Identifier) (u : List Text) → IsFirst (bytes_eq name) ns i → length ns ≡ length tss → (n : Identifier) → texts_beside ns (slice_set tss i u) n ≡ (if bytes_eq n name then u else texts_beside ns tss n)
beside_set [] tss i name u first same n = absurd first
beside_set (m ∷ ns) [] i name u first same n = absurd (omega (arith, same))
beside_set (m ∷ ns) (ts ∷ tss) zero name u first same n =
    let P : Identifier → Type 0 = λ x. (if bytes_eq n x then u else texts_beside ns tss n) ≡ (if bytes_eq n name then u else (if bytes_eq n x then ts else texts_beside ns tss n)) in
    subst P ((bytes_decides name m).0 first) (same_choice (bytes_eq n name) u ts (texts_beside ns tss n))
beside_set (m ∷ ns) (ts ∷ tss) (suc i) name u first same n =
    ap (λ r. if bytes_eq n m then ts else r) (beside_set ns tss i name u first.1 (omega (arith, same)) n)
    ∙ swap_choice (bytes_eq n m) (bytes_eq n name) ts u (texts_beside ns tss n) (not_both name m n first.0)

-- the texts at the place of a name are those beside it
beside_here : (ns : List Identifier) (tss : List (List Text)) (i : ℕ) (name : Identifier) (d : List Text) → IsFirst (bytes_eq name) ns i → length ns ≡ length tss → get_or tss i d ≡ texts_beside ns tss name
beside_here [] tss i name d first same = absurd first
beside_here (m ∷ ns) [] i name d first same = absurd (omega (arith, same))
beside_here (m ∷ ns) (ts ∷ tss) zero name d first same = sym (ap (λ b. if b then ts else texts_beside ns tss name) first)
beside_here (m ∷ ns) (ts ∷ tss) (suc i) name d first same =
    beside_here ns tss i name d first.1 (omega (arith, same)) ∙ sym (ap (λ b. if b then ts else texts_beside ns tss name) first.0)

-- a text more beside a name, said of any name
put_at : (f : Identifier → List Text) (name : Identifier) (text : Text) (n : Identifier) (b : Bool) → bytes_eq n name ≡ b → (if b then put_once (f name) text else f n) ≡ (if b then put_once (f n) text else f n)
put_at f name text n true e = ap (λ m. put_once (f m) text) (sym ((bytes_decides n name).0 e))
put_at f name text n false e = refl

-- a text more in the set beside a name that is there
pub put_found : (ns : List Identifier) (tss : List (List Text)) (i : ℕ) (name : Identifier) (text : Text) (u d : List Text) → IsFirst (bytes_eq name) ns i → length ns ≡ length tss → u ≡ put_once (get_or tss i d) text
    → (n : Identifier) → texts_beside ns (slice_set tss i u) n ≡ (if bytes_eq n name then put_once (texts_beside ns tss n) text else texts_beside ns tss n)
put_found ns tss i name text u d first same is n =
    beside_set ns tss i name u first same n
    ∙ ap (λ x. if bytes_eq n name then x else texts_beside ns tss n) (is ∙ ap (λ x. put_once x text) (beside_here ns tss i name d first same))
    ∙ put_at (texts_beside ns tss) name text n (bytes_eq n name) refl

-- of two tests that fail together, each fails
pub neither : (a b : Bool) → a || b ≡ false → (a ≡ false) × (b ≡ false)
neither true b e = absurd cc
neither false b e = (refl, e)

-- nothing is beside a name that is not there
pub beside_none : (ns : List Identifier) (tss : List (List Text)) (name : Identifier) → list_any (bytes_eq name) ns ≡ false → texts_beside ns tss name ≡ []
beside_none [] tss name none = refl
beside_none (m ∷ ns) [] name none = refl
beside_none (m ∷ ns) (ts ∷ tss) name none =
    let both = neither (bytes_eq name m) (list_any (bytes_eq name) ns) none in
    ap (λ b. if b then ts else texts_beside ns tss name) both.0 ∙ beside_none ns tss name both.1

-- a new name with its texts, after the others
beside_new : (ns : List Identifier) (tss : List (List Text)) (name : Identifier) (u : List Text) → list_any (bytes_eq name) ns ≡ false → length ns ≡ length tss → (n : Identifier) → texts_beside (ns ++ name ∷ []) (tss ++ u ∷ []) n ≡ (if bytes_eq n name then u else texts_beside ns tss n)
beside_new [] [] name u none same n = refl
beside_new [] (ts ∷ tss) name u none same n = absurd (omega (arith, same))
beside_new (m ∷ ns) [] name u none same n = absurd (omega (arith, same))
beside_new (m ∷ ns) (ts ∷ tss) name u none same n =
    let both = neither (bytes_eq name m) (list_any (bytes_eq name) ns) none in
    ap (λ r. if bytes_eq n m then ts else r) (beside_new ns tss name u both.1 (omega (arith, same)) n)
    ∙ swap_choice (bytes_eq n m) (bytes_eq n name) ts u (texts_beside ns tss n) (not_both name m n both.0)

-- a name with one text, which was not there
pub put_new : (ns : List Identifier) (tss : List (List Text)) (name : Identifier) (text : Text) → list_any (bytes_eq name) ns ≡ false → length ns ≡ length tss
    → (n : Identifier) → texts_beside (ns ++ name ∷ []) (tss ++ (text ∷ []) ∷ []) n ≡ (if bytes_eq n name then put_once (texts_beside ns tss n) text else texts_beside ns tss n)
put_new ns tss name text none same n =
    beside_new ns tss name (text ∷ []) none same n
    ∙ ap (λ x. if bytes_eq n name then put_once x text else texts_beside ns tss n) (sym (beside_none ns tss name none))
    ∙ put_at (texts_beside ns tss) name text n (bytes_eq n name) refl

-- one more among the texts
once_more : (es : List (Sort × Text)) (e : Sort × Text) → once (texts_among (es ++ e ∷ [])) ≡ put_once (once (texts_among es)) e.1
once_more es e = ap once (map-append (λ x. x.1) es (e ∷ [])) ∙ fold-append put_once [] (texts_among es) (e.1 ∷ [])

-- a choice inside a list of texts with sorts
chosen : (b : Bool) (s : Sort) (es : List (Sort × Text)) (e : Sort × Text) → same_sort e.0 s ≡ b → once (texts_with s (es ++ e ∷ [])) ≡ (if b then put_once (once (texts_with s es)) e.1 else once (texts_with s es))
chosen b s es e is =
    ap (λ l. once (texts_among l)) (filter-append (λ x. same_sort x.0 s) es (e ∷ []) ∙ ap (λ c. filter (λ x. same_sort x.0 s) es ++ (if c then e ∷ [] else [])) is) ∙ by b
  where
    by : (c : Bool) → once (texts_among (filter (λ x. same_sort x.0 s) es ++ (if c then e ∷ [] else []))) ≡ (if c then put_once (once (texts_with s es)) e.1 else once (texts_with s es))
    by true = once_more (filter (λ x. same_sort x.0 s) es) e
    by false = ap (λ l. once (texts_among l)) (append-nil (filter (λ x. same_sort x.0 s) es))

-- a text of a sort with a name is seen
pub seen_named : (name : Identifier) (text : Text) (old new : Seen) → keys new.all ≡ put_once (keys old.all) text → keys new.unnamed ≡ keys old.unnamed
    → ((n : Identifier) → named_texts new n ≡ (if bytes_eq n name then put_once (named_texts old n) text else named_texts old n))
    → SeesMore ((Named name, text) ∷ []) old new
seen_named name text old new all unnamed named es seen = record {
  all = all ∙ ap (λ l. put_once l text) seen.all ∙ sym (once_more es (Named name, text));
  unnamed = unnamed ∙ seen.unnamed ∙ sym (chosen false Data es (Named name, text) refl);
  named = λ n. named n ∙ ap (λ l. if bytes_eq n name then put_once l text else l) (seen.named n)
      ∙ sym (chosen (bytes_eq n name) (Named n) es (Named name, text) (nat_list_eq_equiv.symm name n));
}

-- no text more
pub seen_none : (old : Seen) → SeesMore [] old old
seen_none old es seen = let P : List (Sort × Text) → Type 0 = λ l. HasSeen l old in subst P (sym (append-nil es)) seen

-- texts more, and then further ones
pub seen_both : (xs ys : List (Sort × Text)) (old mid new : Seen) → SeesMore xs old mid → SeesMore ys mid new → SeesMore (xs ++ ys) old new
seen_both xs ys old mid new one two es seen = let P : List (Sort × Text) → Type 0 = λ l. HasSeen l new in subst P (append_assoc es xs ys) (two (es ++ xs) (one es seen))

-- the same texts, spelled in another way
pub seen_as : (xs ys : List (Sort × Text)) (old new : Seen) → xs ≡ ys → SeesMore xs old new → SeesMore ys old new
seen_as xs ys old new e h = let P : List (Sort × Text) → Type 0 = λ l. SeesMore l old new in subst P e h

-- the texts of a row so far, and that of one value more
row_step : (cs : List Column) (vs : List Value) (i : ℕ) (c : Column) (v : Value) → i < length cs → i < length vs → c ≡ get_or cs i c → v ≡ get_or vs i v
    → row_texts (take i cs) (take i vs) ++ row_texts (c ∷ []) (v ∷ []) ≡ row_texts (take (suc i) cs) (take (suc i) vs)
row_step [] vs i c v lt less e d = absurd (omega (arith, lt))
row_step (b ∷ cs) [] i c v lt less e d = absurd (omega (arith, less))
row_step (b ∷ cs) (w ∷ vs) zero c v lt less e d = ap (λ x. row_texts (x ∷ []) (v ∷ [])) e ∙ ap (λ x. row_texts (b ∷ []) (x ∷ [])) d
row_step (b ∷ cs) (Const t ∷ vs) (suc i) c v lt less e d = ap (λ l. (b.sort, t) ∷ l) (row_step cs vs i c v (omega (arith, lt)) (omega (arith, less)) e d)
row_step (b ∷ cs) (Point p ∷ vs) (suc i) c v lt less e d = row_step cs vs i c v (omega (arith, lt)) (omega (arith, less)) e d

-- the same, with the next index as a sum
pub row_next : (cs : List Column) (vs : List Value) (i : ℕ) (c : Column) (v : Value) → i < length cs → i < length vs → c ≡ get_or cs i c → v ≡ get_or vs i v
    → row_texts (take i cs) (take i vs) ++ row_texts (c ∷ []) (v ∷ []) ≡ row_texts (take (i + 1) cs) (take (i + 1) vs)
row_next cs vs i c v lt less e d =
    let P : ℕ → Type 0 = λ k. row_texts (take i cs) (take i vs) ++ row_texts (c ∷ []) (v ∷ []) ≡ row_texts (take k cs) (take k vs) in
    subst P (sym (add-one i)) (row_step cs vs i c v lt less e d)

-- values of columns are as many as the columns
pub as_many : (cs : List Column) (vs : List Value) → AreValuesOf cs vs → length vs ≡ length cs
as_many [] [] h = refl
as_many [] (v ∷ vs) h = absurd h
as_many (c ∷ cs) [] h = absurd h
as_many (c ∷ cs) (v ∷ vs) h = ap suc (as_many cs vs h.1)

-- the texts of some elements, and then those of the next
pub flat_next : {A B : Type 0} (f : A → List B) (xs : List A) (i : ℕ) (a : A) → i < length xs → a ≡ get_or xs i a → flat_map f (take i xs) ++ f a ≡ flat_map f (take (i + 1) xs)
flat_next f xs i a lt e =
    rw (add-one, take-suc xs i a lt, flat_map-append f (take i xs) (get_or xs i a ∷ [])) (ap (λ y. flat_map f (take i xs) ++ y) (ap f e ∙ sym (append-nil (f (get_or xs i a)))))

-- past the last value, the texts of a row are all there
pub row_all : (cs : List Column) (vs : List Value) (i : ℕ) → AreValuesOf cs vs → length vs ≤ i → row_texts (take i cs) (take i vs) ≡ row_texts cs vs
row_all cs vs i h le =
    let same : length vs ≡ length cs = as_many cs vs h in
    ap (λ l. row_texts l (take i vs)) (take_all i cs (omega (arith, le, same))) ∙ ap (row_texts cs) (take_all i vs le)

-- the texts at the place that a search finds are those beside the name
pub beside_found : (ns : List Identifier) (tss : List (List Text)) (i : ℕ) (name : Identifier) (ts : List Text) → position (bytes_eq name) ns ≡ Some i → length ns ≡ length tss → slice_get tss i ≡ Some ts → ts ≡ texts_beside ns tss name
beside_found ns tss i name ts found same at = sym (get_or_from_slice_get tss i ts [] at) ∙ beside_here ns tss i name [] (found_first (bytes_eq name) ns i name found) same
