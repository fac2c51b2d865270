-- The binders around a formula, as the program has them while it resolves the sorts of names.
use Rattle.std.specs.Prelude.{◌∷◌, reverse}
use Rattle.lrp_model.specs.Sorting.{Binders}
use Rattle.lrp_sorts.specs.declared.resolving.Binders.{Binders as Around, Head, Inside'}

-- the innermost first
abbrev pub binders_of : Around → Binders
binders_of (Head columns) = reverse columns.now
binders_of (Inside' binder p outer) = binder.now ∷ binders_of outer
