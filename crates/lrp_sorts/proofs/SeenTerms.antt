-- What is kept of a term: the sort of its variable, and the faults of the term.
use Rattle.std.proofs.Common.{◌≡◌, ◌∷◌, [], ap, sym, length, get_or, arith}
use Rattle.lrp_model.specs.Texts.{Identifier}
use Rattle.lrp_model.specs.Sorting.{Binders, binder_sort, term_names}
use Rattle.lrp_model.specs.declared.tokens.Place.{Place}
use Rattle.lrp_model.specs.declared.raw.RawTerm.{RawTerm}
use Rattle.lrp_model.specs.declared.raw.RawTermKind.{RawTermKind}
use Rattle.lrp_model.specs.declared.raw.RawTermKind.TheVariants.{Int, Text, Var, Shifted}
use Rattle.lrp_sorts.specs.Terms.{bound_sort}

-- the variable's sort among binders, by what the term is
kind_bound : (bs : Binders) (k : RawTermKind) (p : Place) (n : Identifier) → n ∷ [] ≡ term_names (record { kind = k; place = p }) → bound_sort bs k ≡ binder_sort bs n
kind_bound bs (Int x) p n e = let long : length (n ∷ []) ≡ 0 = ap length e in absurd (omega (arith, long))
kind_bound bs (Text t) p n e = let long : length (n ∷ []) ≡ 0 = ap length e in absurd (omega (arith, long))
kind_bound bs (Var m) p n e = ap (λ l. binder_sort bs (get_or l 0 n)) (sym e)
kind_bound bs (Shifted m plus) p n e = ap (λ l. binder_sort bs (get_or l 0 n)) (sym e)

-- the same of a term
pub name_bound : (bs : Binders) (t : RawTerm) (n : Identifier) → n ∷ [] ≡ term_names t → bound_sort bs t.kind ≡ binder_sort bs n
name_bound bs t n e = kind_bound bs t.kind t.place n e
