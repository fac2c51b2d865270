-- The sort of a name among binders, one binder after another.
use Rattle.std.proofs.Common.{◌≡◌, ℕ, ◌+◌, ◌<◌, Bool, true, false, cond, List, [], ◌∷◌, ◌++◌, length, take, get_or, reverse, Option, Some, None, option_map, refl, ap, sym, ◌∙◌}
use Rattle.std.specs.List.{find}
use Rattle.std.specs.Str.{bytes_eq}
use Rattle.std.proofs.lemmas.List.{take_more, reverse-append}
use Rattle.lrp_model.specs.Texts.{Identifier}
use Rattle.lrp_model.specs.Sorts.{is_data}
use Rattle.lrp_model.specs.Sorting.{Binders, alone_sort, kind_sort, is_data_term}
use Rattle.lrp_model.specs.declared.raw.RawColumn.{RawColumn}
use Rattle.lrp_model.specs.declared.raw.RawTermKind.TheVariants.{Var}

beside : (b : Bool) (c : RawColumn) (found : Option RawColumn) → is_data_term (alone_sort (option_map (λ (c : RawColumn). c.sort) (cond b (Some c) found))) ≡ cond b (is_data c.sort) (is_data_term (alone_sort (option_map (λ (c : RawColumn). c.sort) found)))
beside true c found = refl
beside false c found = refl

-- whether a name is of a data sort, the innermost binder being this one
pub told_inside : (c : RawColumn) (bs : Binders) (n : Identifier) → is_data_term (kind_sort (c ∷ bs) (Var n)) ≡ cond (bytes_eq c.name n) (is_data c.sort) (is_data_term (kind_sort bs (Var n)))
told_inside c bs n = beside (bytes_eq c.name n) c (find (λ b. bytes_eq b.name n) bs)

-- the same of the columns of a head, one column more
pub told_more : (cs : List RawColumn) (i : ℕ) (c : RawColumn) (n : Identifier) (before after : Bool) → i < length cs → c ≡ get_or cs i c
    → before ≡ is_data_term (kind_sort (reverse (take i cs)) (Var n)) → after ≡ cond (bytes_eq c.name n) (is_data c.sort) before → after ≡ is_data_term (kind_sort (reverse (take (i + 1) cs)) (Var n))
told_more cs i c n before after lt is b a =
    let backwards : reverse (take (i + 1) cs) ≡ c ∷ reverse (take i cs) = ap reverse (take_more cs i c lt ∙ ap (λ x. take i cs ++ x ∷ []) (sym is)) ∙ reverse-append (take i cs) (c ∷ []) in
    a ∙ ap (λ x. cond (bytes_eq c.name n) (is_data c.sort) x) b ∙ sym (ap (λ bs. is_data_term (kind_sort bs (Var n))) backwards ∙ told_inside c (reverse (take i cs)) n)
