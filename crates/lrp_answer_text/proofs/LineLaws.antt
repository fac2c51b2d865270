-- Lines: the value of the first column and those of the others.
use Rattle.std.proofs.Common.{◌≡◌, ◌<◌, ◌≤◌, ◌-◌, ℕ, zero, suc, length, take, drop, get_or, take_all, arith, List, [], ◌∷◌, ◌++◌, Bool, true, false, Some, map, refl, sym, ap, ap₂, ◌∙◌, append_assoc, append-nil, add-one, ◌+◌, codes}
use Rattle.std.specs.Prelude.{ℤ, slice_get, ◌==◌}
use Rattle.std.proofs.lemmas.Bool.Decides.{nat_tests}
use Rattle.lrp_model.specs.Texts.{Text}
use Rattle.lrp_model.specs.Rows.{Datum, time, text, Tuple}
use Rattle.lrp_model.specs.Sorts.{is_time, time_count}
use Rattle.lrp_model.specs.Printed.{joined_by, quoted, value_bytes}
use Rattle.lrp_model.specs.Tuples.{put_first, in_head_order, text_at, texts_at}
use Rattle.lrp_model.specs.declared.relations.Sort.{Sort}
use Rattle.lrp_model.specs.declared.relations.Sort.TheVariants.{Time, Data, Named}
use Rattle.lrp_model.specs.declared.relations.Column.{Column}
use Rattle.lrp_model.specs.Satisfaction.{HasShape}
use Rattle.lrp_answer_text.specs.AnswerText.{residue_point, answer_value}
use Rattle.lrp_answer_text.specs.Lines.{tuple_line, spelled_datum, values_after}
use Rattle.lrp_answers.proofs.HeadOrder.{head_is}

-- what is left of a list after its first element
rest_is : {A : Type 0} (x : A) (xs : List A) → take (length (x ∷ xs) - 1) xs ≡ xs
rest_is x xs = take_all (length (x ∷ xs) - 1) xs (omega arith)

clash : true ≡ false → ⊥
clash e = cc

time_put : (s : Sort) (x : ℤ) (xs : List ℤ) (ts : List Text) (rest : List ℤ → List Text → List Datum) → is_time s ≡ true → put_first s (x ∷ xs) ts rest ≡ time x ∷ rest xs ts
time_put Time x xs ts rest e = refl
time_put Data x xs ts rest e = absurd (clash (sym e))
time_put (Named name) x xs ts rest e = absurd (clash (sym e))

text_put : (s : Sort) (xs : List ℤ) (t : Text) (ts : List Text) (rest : List ℤ → List Text → List Datum) → is_time s ≡ false → put_first s xs (t ∷ ts) rest ≡ text t ∷ rest xs ts
text_put Time xs t ts rest e = absurd (clash e)
text_put Data xs t ts rest e = refl
text_put (Named name) xs t ts rest e = refl

-- the first column's time, and the others after it
pub time_first : (times : ℤ → List ℕ) (before between : List ℕ) (cs : List Column) (c : Column) (xs : List ℤ) (d : ℤ) (ts : List Text) → 1 ≤ length cs → c ≡ get_or cs 0 c → is_time c.sort ≡ true → 1 ≤ length xs
    → (before ++ times (get_or xs 0 d)) ++ values_after times between between (in_head_order (take (length cs - 1) (drop 1 cs)) (take (length xs - 1) (drop 1 xs)) ts) ≡ values_after times before between (in_head_order cs xs ts)
time_first times before between [] c xs d ts l e k m = absurd (omega arith)
time_first times before between (b ∷ cs) c [] d ts l e k m = absurd (omega arith)
time_first times before between (b ∷ cs) c (x ∷ xs) d ts l e k m =
    ap₂ (λ bs ys. (before ++ times x) ++ values_after times between between (in_head_order bs ys ts)) (rest_is b cs) (rest_is x xs)
    ∙ append_assoc before (times x) (values_after times between between (in_head_order cs xs ts))
    ∙ ap (values_after times before between) (sym (time_put b.sort x xs ts (in_head_order cs) (ap (λ a. is_time a.sort) (sym e) ∙ k)))

-- the first column's text, and the others after it
pub text_first : (times : ℤ → List ℕ) (domain : List Text) (before between : List ℕ) (cs : List Column) (c : Column) (xs : List ℤ) (ns : List ℕ) → 1 ≤ length cs → c ≡ get_or cs 0 c → is_time c.sort ≡ false → 1 ≤ length ns
    → (before ++ quoted (text_at domain (get_or ns 0 0))) ++ values_after times between between (in_head_order (take (length cs - 1) (drop 1 cs)) xs (texts_at domain (take (length ns - 1) (drop 1 ns)))) ≡ values_after times before between (in_head_order cs xs (texts_at domain ns))
text_first times domain before between [] c xs ns l e k m = absurd (omega arith)
text_first times domain before between (b ∷ cs) c xs [] l e k m = absurd (omega arith)
text_first times domain before between (b ∷ cs) c xs (n ∷ ns) l e k m =
    ap₂ (λ bs ms. (before ++ quoted (text_at domain n)) ++ values_after times between between (in_head_order bs xs (texts_at domain ms))) (rest_is b cs) (rest_is n ns)
    ∙ append_assoc before (quoted (text_at domain n)) (values_after times between between (in_head_order cs xs (texts_at domain ns)))
    ∙ ap (values_after times before between) (sym (text_put b.sort xs (text_at domain n) (texts_at domain ns) (in_head_order cs) (ap (λ a. is_time a.sort) (sym e) ∙ k)))

-- a value and those after it
joined_more : (times : ℤ → List ℕ) (between : List ℕ) (d : Datum) (ds : Tuple) → spelled_datum times d ++ values_after times between between ds ≡ joined_by between (spelled_datum times) (d ∷ ds)
joined_more times between d [] = append-nil (spelled_datum times d)
joined_more times between d (e ∷ es) = ap (λ r. spelled_datum times d ++ (between ++ r)) (joined_more times between e es)

-- the first value after no bytes
pub joined_after : (times : ℤ → List ℕ) (between : List ℕ) (tuple : Tuple) → values_after times [] between tuple ≡ joined_by between (spelled_datum times) tuple
joined_after times between [] = refl
joined_after times between (d ∷ ds) = joined_more times between d ds

-- one value of an option
same : {A : Type 0} (d t : A) → Some d ≡ Some t → t ≡ d
same d t e = cc

-- what is read of a domain by a number
pub read_is : (domain : List Text) (n : ℕ) (t : Text) → slice_get domain n ≡ Some t → quoted t ≡ quoted (text_at domain n)
read_is [] n t e = cc
read_is (d ∷ ds) zero t e = ap quoted (same d t e)
read_is (d ∷ ds) (suc n) t e = read_is ds n t e

-- what is read of the JSON texts
pub json_is : (domain : List Text) (n : ℕ) (made : List (List ℕ)) (t : List ℕ) → made ≡ map quoted domain → n < length domain → t ≡ get_or made n t → t ≡ quoted (text_at domain n)
json_is domain n made t e l f = f ∙ ap (λ us. get_or us n t) e ∙ by domain n l
  where
    by : (ds : List Text) (m : ℕ) → m < length ds → get_or (map quoted ds) m t ≡ quoted (text_at ds m)
    by [] m l = absurd (omega arith)
    by (d ∷ ds) zero l = refl
    by (d ∷ ds) (suc m) l = by ds m (omega arith)

-- the JSON text of one more text
pub json_more : (domain : List Text) (n : ℕ) (t : Text) → slice_get domain n ≡ Some t → map quoted (take n domain) ++ quoted t ∷ [] ≡ map quoted (take (n + 1) domain)
json_more domain n t e = rw (add-one) (by domain n t e)
  where
    by : (ds : List Text) (m : ℕ) (u : Text) → slice_get ds m ≡ Some u → map quoted (take m ds) ++ quoted u ∷ [] ≡ map quoted (take (suc m) ds)
    by [] m u e = cc
    by (d ∷ ds) zero u e = ap (λ v. quoted v ∷ []) (same d u e)
    by (d ∷ ds) (suc m) u e = ap (λ us. quoted d ∷ us) (by ds m u e)

-- ---- whole lines

pub json_line_is : (times : ℤ → List ℕ) (tuple : Tuple) → codes "[" ++ (values_after times (codes "") (codes ",") tuple ++ codes "]\n") ≡ tuple_line times true tuple
json_line_is times tuple = ap (λ bs. codes "[" ++ (bs ++ codes "]\n")) (joined_after times (codes ",") tuple)

some_line : (times : ℤ → List ℕ) (cs : List Column) (tuple : Tuple) → HasShape cs tuple → 0 < length cs → values_after times (codes "") (codes ", ") tuple ++ codes "\n" ≡ tuple_line times false tuple
some_line times [] tuple h l = absurd (omega arith)
some_line times (c ∷ cs) [] h l = absurd h
some_line times (c ∷ cs) (d ∷ ds) h l = ap (λ bs. bs ++ codes "\n") (joined_after times (codes ", ") (d ∷ ds))

some_columns : (n : ℕ) (b : Bool) → b ≡ (n == 0) → b ≡ false → 0 < n
some_columns n b e f = grind (arith, nat_tests)

length_at : (domain : List Text) (ns : List ℕ) → length (texts_at domain ns) ≡ length ns
length_at domain [] = refl
length_at domain (n ∷ ns) = ap suc (length_at domain ns)

pub plain_line_is : (times : ℤ → List ℕ) (domain : List Text) (cs : List Column) (xs : List ℤ) (ns : List ℕ) (b : Bool) → b ≡ (length cs == 0) → b ≡ false → time_count cs ≡ length xs → length cs ≡ length xs + length ns
    → values_after times (codes "") (codes ", ") (in_head_order cs xs (texts_at domain ns)) ++ codes "\n" ≡ tuple_line times false (in_head_order cs xs (texts_at domain ns))
plain_line_is times domain cs xs ns b e f g h =
    some_line times cs (in_head_order cs xs (texts_at domain ns)) (head_is cs xs (texts_at domain ns) g (h ∙ ap (λ n. length xs + n) (sym (length_at domain ns)))).shape (some_columns (length cs) b e f)

-- ---- residues as points

value_spelled : (period : ℤ) (d : Datum) → spelled_datum (residue_point period) d ≡ value_bytes (answer_value period d)
value_spelled period (time x) = refl
value_spelled period (text t) = refl

-- the values of a cell
pub values_spelled : (period : ℤ) (tuple : Tuple) → joined_by (codes ", ") (spelled_datum (residue_point period)) tuple ≡ joined_by (codes ", ") value_bytes (map (answer_value period) tuple)
values_spelled period [] = refl
values_spelled period (d ∷ []) = value_spelled period d
values_spelled period (d ∷ e ∷ ds) = ap₂ (λ a r. a ++ (codes ", " ++ r)) (value_spelled period d) (values_spelled period (e ∷ ds))
