-- Names that have a binder.
use Rattle.std.proofs.Common.{◌≡◌, Bool, true, false, List, [], ◌∷◌, map, reverse, Option, Some, None, option_map, refl, ap, sym, ◌∙◌, Bor, cond, ◌++◌, ◌||◌}
use Rattle.std.specs.List.{find}
use Rattle.std.proofs.lemmas.List.{reverse-append}
use Rattle.std.proofs.lemmas.List.{map-append}
use Rattle.std.specs.Str.{bytes_eq}
use Rattle.lrp_model.specs.Texts.{Identifier}
use Rattle.std.specs.Option.{is_some}
use Rattle.std.specs.Cmp.Lexicographic.{nat_list_eq_equiv}
use Rattle.lrp_model.specs.Faults.{is_named_in}
use Rattle.lrp_model.specs.Sorting.{Binders, binder_sort}
use Rattle.lrp_model.specs.declared.relations.Sort.{Sort}
use Rattle.lrp_model.specs.declared.raw.RawColumn.{RawColumn}

-- the image of a list backwards is that of the list, backwards
pub map_reverse : {A B : Type 0} (f : A → B) (xs : List A) → map f (reverse xs) ≡ reverse (map f xs)
map_reverse f [] = refl
map_reverse f (x ∷ xs) =
    ap (map f) (reverse-append (x ∷ []) xs) ∙ map-append f (reverse xs) (x ∷ [])
    ∙ ap (λ l. l ++ f x ∷ []) (map_reverse f xs) ∙ sym (reverse-append (f x ∷ []) (map f xs))

-- whichever way the test goes, one name further
one_name : (b : Bool) (c : RawColumn) (found : Option RawColumn) (rest : Bool) → is_some (option_map (λ (c : RawColumn). c.sort) found) ≡ rest
    → is_some (option_map (λ (c : RawColumn). c.sort) (cond b (Some c) found)) ≡ (b || rest)
one_name true c found rest e = refl
one_name false c found rest e = e

-- a name has a binder where it is one of their names
pub bound_names : (bs : Binders) (n : Identifier) → is_some (binder_sort bs n) ≡ is_named_in (map (λ b. b.name) bs) n
bound_names [] n = refl
bound_names (b ∷ bs) n =
    one_name (bytes_eq b.name n) b (find (λ c. bytes_eq c.name n) bs) _ (bound_names bs n)
    ∙ ap (λ t. t || is_named_in (map (λ b. b.name) bs) n) (nat_list_eq_equiv.symm b.name n)

-- a sort after a reference is there where the sort is
pub there_after : (s : Option (Bor Sort)) → is_some s ≡ is_some (option_map (λ (s : Bor Sort). s.now) s)
there_after None = refl
there_after (Some s) = refl
