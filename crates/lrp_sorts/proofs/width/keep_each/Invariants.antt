use Rattle.std.proofs.Common.{◌≡◌, ◌++◌, List, Bool, true, take}
use Rattle.lrp_model.specs.Texts.{Identifier}
use Rattle.lrp_model.specs.Faults.{is_named_in}
use Rattle.lrp_model.specs.Sorting.{Binders, binder_sort}
use Rattle.lrp_model.specs.declared.relations.Sort.{Sort}
use Rattle.lrp_sorts.specs.Widths.{AreKeptNames, names_after, passing}
use Rattle.lrp_sorts.proofs.width.keep_each.Given as goal

-- the names so far are kept too
abbrev pub invariant-loop-name : goal.invariant-loop-name
invariant-loop-name l =
    (passes : Sort → Bool) (bs : Binders) (names : List Identifier) → AreKeptNames passes bs l.quantifiers names (names_after l.initial.kept.items)
    → ((n : Identifier) → is_named_in (names_after l.others) n ≡ true → passing passes (binder_sort bs n) ≡ true)
    → AreKeptNames passes bs l.quantifiers (names ++ names_after (take l.name-index l.others)) (names_after l.kept.items)
