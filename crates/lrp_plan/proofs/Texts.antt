-- The texts of a sort: those of the database, each once, and then those of the query.
use Rattle.std.proofs.Common.{◌≡◌, ◌⊎◌, inl, inr, ⊎_elim, zero, suc, Bool, true, false, ◌||◌, List, [], ◌∷◌, ◌++◌, Contains, filter, fold, cond, refl, sym, ap, subst, ◌∙◌, arith}
use Rattle.std.specs.List.{list_any}
use Rattle.std.specs.Str.{bytes_eq}
use Rattle.std.specs.Cmp.Lexicographic.{bytes_decides}
use Rattle.std.proofs.lemmas.List.Elements.{Contains-append_left, Contains-append_right, Contains-append_cases, Contains-push, Contains-push_cases, filter-append}
use Rattle.lrp_model.specs.Texts.{Text, in_order}
use Rattle.lrp_model.specs.Sorts.{same_sort}
use Rattle.lrp_model.specs.declared.relations.Sort.{Sort}
use Rattle.lrp_model.proofs.Ascending.{same_ascending}
use Rattle.lrp_model.proofs.DomainLaws.{contains_in_order, in_order_ascends}
use Rattle.lrp_database.specs.Once.{put_once, once, texts_among, texts_with}

first_is : (t w : Text) → Contains (t ∷ []) w → t ≡ w
first_is t w (zero, lt, e) = e
first_is t w (suc k, lt, e) = absurd (omega arith)

has_first : (t : Text) (ts : List Text) → Contains (t ∷ ts) t
has_first t ts = (0, omega arith, refl)

any_by : (b : Bool) (t u : Text) (ts : List Text) → bytes_eq t u ≡ b → (b || list_any (bytes_eq t) ts) ≡ true → (list_any (bytes_eq t) ts ≡ true → Contains ts t) → Contains (u ∷ ts) t
any_by true t u ts e h ih = subst (λ x. Contains (x ∷ ts) t) ((bytes_decides t u).0 e) (has_first t ts)
any_by false t u ts e h ih = Contains-append_right (u ∷ []) ts t (ih h)

any_contains : (ts : List Text) (t : Text) → list_any (bytes_eq t) ts ≡ true → Contains ts t
any_contains [] t h = cc
any_contains (u ∷ ts) t h = any_by (bytes_eq t u) t u ts refl h (any_contains ts t)

put_to : (b : Bool) (acc : List Text) (t w : Text) → Contains (cond b acc (acc ++ t ∷ [])) w → Contains acc w ⊎ (t ≡ w)
put_to true acc t w h = inl h
put_to false acc t w h = Contains-push_cases acc t w h

put_left : (b : Bool) (acc : List Text) (t w : Text) → Contains acc w → Contains (cond b acc (acc ++ t ∷ [])) w
put_left true acc t w h = h
put_left false acc t w h = Contains-append_left acc (t ∷ []) w h

put_own : (b : Bool) (acc : List Text) (t : Text) → list_any (bytes_eq t) acc ≡ b → Contains (cond b acc (acc ++ t ∷ [])) t
put_own true acc t e = any_contains acc t e
put_own false acc t e = Contains-push acc t

fold_to : (ts acc : List Text) (w : Text) → Contains (fold put_once acc ts) w → Contains acc w ⊎ Contains ts w
fold_to [] acc w h = inl h
fold_to (t ∷ ts) acc w h =
    ⊎_elim (λ p. ⊎_elim (λ a. inl a) (λ e. inr (subst (λ x. Contains (x ∷ ts) w) (sym e) (has_first w ts))) (put_to (list_any (bytes_eq t) acc) acc t w p)) (λ r. inr (Contains-append_right (t ∷ []) ts w r)) (fold_to ts (put_once acc t) w h)

fold_left : (ts acc : List Text) (w : Text) → Contains acc w → Contains (fold put_once acc ts) w
fold_left [] acc w h = h
fold_left (t ∷ ts) acc w h = fold_left ts (put_once acc t) w (put_left (list_any (bytes_eq t) acc) acc t w h)

fold_right : (ts acc : List Text) (w : Text) → Contains ts w → Contains (fold put_once acc ts) w
fold_right [] acc w (k, lt, e) = absurd (omega arith)
fold_right (t ∷ ts) acc w h =
    ⊎_elim (λ p. fold_left ts (put_once acc t) w (subst (Contains (put_once acc t)) (first_is t w p) (put_own (list_any (bytes_eq t) acc) acc t refl))) (λ r. fold_right ts (put_once acc t) w r) (Contains-append_cases (t ∷ []) ts w h)

none_there : (w : Text) → Contains [] w → ⊥
none_there w (k, lt, e) = absurd (omega arith)

-- the same members, and so the same texts in order
pub same_texts : (s : Sort) (A B : List (Sort × Text)) → in_order (once (texts_with s A) ++ texts_with s B) ≡ in_order (texts_with s (A ++ B))
same_texts s A B =
    let xs : List Text = once (texts_with s A) ++ texts_with s B in
    let ys : List Text = texts_with s A ++ texts_with s B in
    let e : texts_with s (A ++ B) ≡ ys = ap texts_among (filter-append (λ entry. same_sort entry.0 s) A B) ∙ map_both (filter (λ entry. same_sort entry.0 s) A) (filter (λ entry. same_sort entry.0 s) B) in
    same_ascending (in_order xs) (in_order ys) (in_order_ascends xs) (in_order_ascends ys)
    (λ w h. (contains_in_order ys w).1 (to w ((contains_in_order xs w).0 h)))
    (λ w h. (contains_in_order xs w).1 (from w ((contains_in_order ys w).0 h)))
    ∙ ap in_order (sym e)
  where
    map_both : (xs ys : List (Sort × Text)) → texts_among (xs ++ ys) ≡ texts_among xs ++ texts_among ys
    map_both [] ys = refl
    map_both (x ∷ xs) ys = ap (λ zs. x.1 ∷ zs) (map_both xs ys)

    to : (w : Text) → Contains (once (texts_with s A) ++ texts_with s B) w → Contains (texts_with s A ++ texts_with s B) w
    to w h = ⊎_elim (λ a. ⊎_elim (λ n. absurd (none_there w n)) (λ r. Contains-append_left (texts_with s A) (texts_with s B) w r) (fold_to (texts_with s A) [] w a)) (λ b. Contains-append_right (texts_with s A) (texts_with s B) w b) (Contains-append_cases (once (texts_with s A)) (texts_with s B) w h)

    from : (w : Text) → Contains (texts_with s A ++ texts_with s B) w → Contains (once (texts_with s A) ++ texts_with s B) w
    from w h = ⊎_elim (λ a. Contains-append_left (once (texts_with s A)) (texts_with s B) w (fold_right (texts_with s A) [] w a)) (λ b. Contains-append_right (once (texts_with s A)) (texts_with s B) w b) (Contains-append_cases (texts_with s A) (texts_with s B) w h)
