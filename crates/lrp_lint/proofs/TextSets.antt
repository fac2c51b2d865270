-- Sets of texts with their sorts, text by text.
use Rattle.std.proofs.Common.{◌≡◌, ℕ, zero, suc, ◌+◌, ◌<◌, ◌≤◌, Bool, true, false, cond, ◌&&◌, ◌||◌, List, [], ◌∷◌, ◌++◌, Option, Some, None, refl, ap, sym, ◌∙◌, arith, append-nil, length, take, get_or, Bor, slice_get}
use Rattle.std.specs.List.{list_any, flat_map}
use Rattle.std.specs.Str.{bytes_eq}
use Rattle.std.specs.HashSet.{HashSet, UpdatesBy}
use Rattle.std.specs.Cmp.{IsEquivalence}
use Rattle.std.specs.Cmp.Lexicographic.{bytes_decides}
use Rattle.std.proofs.lemmas.List.{take_more}
use Rattle.std.proofs.lemmas.List.Folds.{list_any-append}
use Rattle.std.proofs.lemmas.Option.{slice_get-get_or}
use Rattle.lrp_model.specs.Domains.{row_texts}
use Rattle.lrp_model.specs.Sorts.{same_sort}
use Rattle.lrp_model.specs.Texts.{Text}
use Rattle.lrp_model.specs.declared.relations.Column.{Column}
use Rattle.lrp_model.specs.declared.relations.Sort.{Sort}
use Rattle.lrp_model.specs.declared.relations.Sort.TheVariants.{Time, Data, Named}
use Rattle.lrp_model.specs.declared.relations.Value.{Value}
use Rattle.lrp_model.specs.declared.relations.Value.TheVariants.{Point, Const}
use Rattle.lrp_model.specs.declared.relations.RowPoint.{RowPoint}
use Rattle.lrp_lint.specs.Known.{option_list, column_if_any, has, names, says}
use Rattle.lrp_lint.specs.Mentions.{is_entry}
use Rattle.lrp_lint.specs.contracts.known.SortNamePartialEq.TheImpl as by_name
use Rattle.lrp_lint.specs.contracts.known.SortedTextPartialEq.TheImpl as by_text
use Rattle.lrp_lint.specs.contracts.known.SortedTextEq.TheImpl.Laws as laws
use Rattle.lrp_lint.specs.declared.known.SortName.{SortName}
use Rattle.lrp_lint.specs.declared.known.SortName.TheVariants as name
use Rattle.lrp_lint.specs.declared.known.SortedText.{SortedText}
use Rattle.lrp_lint.proofs.Walked.{flat_append}

-- ---- truth values

chosen_or : (b x : Bool) → cond b true x ≡ (x || b)
chosen_or true true = refl
chosen_or true false = refl
chosen_or false true = refl
chosen_or false false = refl

-- what is false adds nothing
pub nothing_added : (x : Bool) → x ≡ (x || false)
nothing_added true = refl
nothing_added false = refl

or_again : (a b c : Bool) → ((a || b) || c) ≡ (a || (b || c))
or_again true b c = refl
or_again false b c = refl

-- tests that agree pass in the same lists
any_alike : {A : Type 0} (p q : A → Bool) → ((x : A) → p x ≡ q x) → (xs : List A) → list_any p xs ≡ list_any q xs
any_alike p q e [] = refl
any_alike p q e (x ∷ xs) = ap (λ b. b || list_any p xs) (e x) ∙ ap (λ b. q x || b) (any_alike p q e xs)

-- ---- what a text is equal to

abbrev same_name : SortName → SortName → Bool
same_name = (by_name.ghosts).eq

abbrev same_text : SortedText → SortedText → Bool
same_text = (by_text.ghosts).eq

equal_texts : IsEquivalence same_text
equal_texts = laws.laws-law

abbrev told_name : Sort → SortName
told_name Time = name.Time
told_name Data = name.Data
told_name (Named n) = name.Named (record { ref_ptr = (0, 0); now = n })

-- the text as it is kept
abbrev sought : Sort → Text → SortedText
sought s t = record { sort = told_name s; text = record { ref_ptr = (0, 0); now = t } }

name_agrees : (s : Sort) (n : SortName) → same_name (told_name s) n ≡ names s n
name_agrees Time name.Time = refl
name_agrees Time name.Data = refl
name_agrees Time (name.Named n) = refl
name_agrees Data name.Time = refl
name_agrees Data name.Data = refl
name_agrees Data (name.Named n) = refl
name_agrees (Named m) name.Time = refl
name_agrees (Named m) name.Data = refl
name_agrees (Named m) (name.Named n) = refl

agrees : (s : Sort) (t : Text) (k : SortedText) → same_text (sought s t) k ≡ says s t k
agrees s t k = ap (λ b. b && bytes_eq t k.text.now) (name_agrees s k.sort)

bytes_themselves : (t : List ℕ) → bytes_eq t t ≡ true
bytes_themselves t = (bytes_decides t t).1 refl

same_itself : (s : Sort) → same_sort s s ≡ true
same_itself Time = refl
same_itself Data = refl
same_itself (Named n) = bytes_themselves n

pub entry_itself : (s : Sort) (t : Text) → is_entry s t (s, t) ≡ true
entry_itself s t = ap (λ b. b && bytes_eq t t) (same_itself s) ∙ bytes_themselves t

module _ {S : Type 0} where
  -- the set with one text more
  pub one_text : (k : SortedText) (old new : HashSet SortedText S) → UpdatesBy same_text (same_text k) old new true → (s : Sort) (t : Text) → has new s t ≡ (has old s t || says s t k)
  one_text k old new u s t =
      sym (any_alike (same_text (sought s t)) (says s t) (agrees s t) new.keys)
      ∙ u.0 (sought s t)
      ∙ ap (λ b. cond (same_text k (sought s t)) true b) (any_alike (same_text (sought s t)) (says s t) (agrees s t) old.keys)
      ∙ chosen_or (same_text k (sought s t)) (has old s t)
      ∙ ap (λ b. has old s t || b) (equal_texts.symm k (sought s t) ∙ agrees s t k)

  -- a text is looked up by what it says
  pub looked_up : (k : SortedText) (s : Sort) (t : Text) → says s t k ≡ true → (set : HashSet SortedText S) → list_any (same_text k) set.keys ≡ has set s t
  looked_up k s t h set = any_alike (same_text k) (says s t) (λ x. sym (equal_texts.congr (sought s t) k x (agrees s t k ∙ h)) ∙ agrees s t x) set.keys

-- ---- the texts of values, rows and relations

pub const_text : (s : Sort) (t : Text) (c : Column) (v : Value) (x : Text) → v ≡ Const x → is_entry s t (c.sort, x) ≡ list_any (is_entry s t) (row_texts (c ∷ []) (v ∷ []))
const_text s t c v x e = nothing_added (is_entry s t (c.sort, x)) ∙ ap (λ w. list_any (is_entry s t) (row_texts (c ∷ []) (w ∷ []))) (sym e)

pub point_text : (s : Sort) (t : Text) (c : Column) (v : Value) (at : RowPoint) (before : Bool) → v ≡ Point at → before ≡ (before || list_any (is_entry s t) (row_texts (c ∷ []) (v ∷ [])))
point_text s t c v at before e = nothing_added before ∙ ap (λ w. before || list_any (is_entry s t) (row_texts (c ∷ []) (w ∷ []))) (sym e)

-- the column at an index
pub column_there : (cs : List Column) (i : ℕ) (c : Column) → i < length cs → c ≡ get_or cs i c → column_if_any cs i ≡ c ∷ []
column_there cs i c low is = ap option_list (slice_get-get_or cs i c low ∙ ap (λ x. Some x) (sym is))

pub column_past : (cs : List Column) (i : ℕ) → length cs ≤ i → column_if_any cs i ≡ []
column_past [] i high = refl
column_past (c ∷ cs) zero high = absurd (omega arith)
column_past (c ∷ cs) (suc i) high = column_past cs i (omega arith)

-- what is taken from the front has the length that was asked for
pub front_length : {A : Type 0} (xs : List A) (i : ℕ) → i ≤ length xs → length (take i xs) ≡ i
front_length xs zero h = refl
front_length [] (suc i) h = absurd (omega arith)
front_length (x ∷ xs) (suc i) h = ap suc (front_length xs i (omega arith))

no_values : (cs : List Column) → row_texts cs [] ≡ []
no_values [] = refl
no_values (c ∷ cs) = refl

values_push : (cs : List Column) (vs : List Value) (v : Value) → row_texts cs (vs ++ v ∷ []) ≡ row_texts cs vs ++ row_texts (column_if_any cs (length vs)) (v ∷ [])
values_push [] vs v = refl
values_push (c ∷ cs) [] (Point at) = no_values cs
values_push (c ∷ cs) [] (Const t) = ap (λ ys. (c.sort, t) ∷ ys) (no_values cs)
values_push (c ∷ cs) (Point at ∷ vs) v = values_push cs vs v
values_push (c ∷ cs) (Const t ∷ vs) v = ap (λ ys. (c.sort, t) ∷ ys) (values_push cs vs v)

-- what one test more says of a longer list
any_longer : {B : Type 0} (p : B → Bool) (front more all : List B) (before old new : Bool) → all ≡ front ++ more → old ≡ (before || list_any p front) → new ≡ (old || list_any p more) → new ≡ (before || list_any p all)
any_longer p front more all before old new is o n =
    n ∙ ap (λ b. b || list_any p more) o ∙ or_again before (list_any p front) (list_any p more) ∙ ap (λ b. before || b) (sym (ap (list_any p) is ∙ list_any-append p front more))

-- one value more
pub value_more : (s : Sort) (t : Text) (cs : List Column) (vs : List Value) (i : ℕ) (v : Value) (before old new : Bool) → i < length vs → v ≡ get_or vs i v → old ≡ (before || list_any (is_entry s t) (row_texts cs (take i vs)))
    → new ≡ (old || list_any (is_entry s t) (row_texts (column_if_any cs i) (v ∷ []))) → new ≡ (before || list_any (is_entry s t) (row_texts cs (take (i + 1) vs)))
value_more s t cs vs i v before old new low is o n =
    let count : length (take i vs) ≡ i = front_length vs i (omega (arith, low)) in
    any_longer (is_entry s t) (row_texts cs (take i vs)) (row_texts (column_if_any cs i) (v ∷ [])) (row_texts cs (take (i + 1) vs)) before old new
    (ap (row_texts cs) (take_more vs i v low ∙ ap (λ x. take i vs ++ x ∷ []) (sym is)) ∙ values_push cs (take i vs) v ∙ ap (λ m. row_texts cs (take i vs) ++ row_texts (column_if_any cs m) (v ∷ [])) count) o n

-- one element more, of which each has texts
pub one_more_of : {A : Type 0} (s : Sort) (t : Text) (f : A → List (Sort × Text)) (xs : List A) (i : ℕ) (x : A) (before old new : Bool) → i < length xs → x ≡ get_or xs i x → old ≡ (before || list_any (is_entry s t) (flat_map f (take i xs)))
    → new ≡ (old || list_any (is_entry s t) (f x)) → new ≡ (before || list_any (is_entry s t) (flat_map f (take (i + 1) xs)))
one_more_of s t f xs i x before old new low is o n =
    any_longer (is_entry s t) (flat_map f (take i xs)) (f x) (flat_map f (take (i + 1) xs)) before old new
    (ap (flat_map f) (take_more xs i x low ∙ ap (λ y. take i xs ++ y ∷ []) (sym is)) ∙ flat_append f (take i xs) (x ∷ []) ∙ ap (λ l. flat_map f (take i xs) ++ l) (append-nil (f x))) o n

-- none so far
pub no_values_added : (s : Sort) (t : Text) (cs : List Column) (before : Bool) → before ≡ (before || list_any (is_entry s t) (row_texts cs []))
no_values_added s t cs before = nothing_added before ∙ ap (λ ys. before || list_any (is_entry s t) ys) (sym (no_values cs))
