use Rattle.std.proofs.Common.{◌∷◌, ap, sym, ◌∙◌, [], ◌++◌, length, subst, take, refl}
use Rattle.lrp_model.specs.Faults.{earliest}
use Rattle.lrp_model.specs.RawQueries.{raw_form_of, raw_forms_of}
use Rattle.lrp_model.specs.Sorting.{query_standing, widened, form_faults, forms_faults, free_names, free_names_each, binder_faults}
use Rattle.lrp_model.specs.Sooner.{sooner}
use Rattle.lrp_sorts.specs.Scopes.{binders}
use Rattle.lrp_sorts.specs.Widths.{IsTallied}
use Rattle.lrp_sorts.proofs.RawNodes.{fault_then, free_then, counted_then, tally_at, at_tally, then_ok, if_ok_then, shown, shown_bound, not_faults, group_faults, ranged_faults, paired_faults, and_faults, or_faults, implies_faults, exists_faults, forall_faults, not_names, group_names, ranged_names, paired_names, and_names, or_names, implies_names, exists_names, forall_names, one_member_faults, one_member_names}
use Rattle.lrp_sorts.proofs.Leaves.{narrow_faults}
use Rattle.lrp_sorts.proofs.walk.+walking.Goals as goal
use Rattle.lrp_model.specs.Texts.{without}

pub inspect-returns-in-Atom-clause-free : goal.inspect-returns-in-Atom-clause-free
inspect-returns-in-Atom-clause-free t c =
    if_ok_then c.leaf.result _ _ c.leaf.ensures (λ made h. h.free [] (c.none.ensures.free (binders c.args.scope.now) (length c.args.scope.now.quantifiers)))

pub inspect-returns-in-Not-clause-fault : goal.inspect-returns-in-Not-clause-fault
inspect-returns-in-Not-clause-fault t c =
    let db = c.args.catalog.now in
    let bs = binders c.args.scope.now in
    fault_then c.inspect_whole.result _ _
    (ap (λ g. earliest query_standing (widened bs [] (raw_form_of g) (form_faults (raw_form_of g) db bs))) c.deref.ensures ∙ not_faults db bs c.args.f.now c.in-Not.of c.in-Not.is)
    c.inspect_whole.ensures.fault

pub inspect-returns-in-Not-clause-free : goal.inspect-returns-in-Not-clause-free
inspect-returns-in-Not-clause-free t c =
    free_then c.args.scope.now c.inspect_whole.result _ _ (ap (λ g. free_names (raw_form_of g)) c.deref.ensures ∙ not_names c.args.f.now c.in-Not.of c.in-Not.is) c.inspect_whole.ensures.free

pub inspect-returns-in-Group-clause-fault : goal.inspect-returns-in-Group-clause-fault
inspect-returns-in-Group-clause-fault t c =
    let db = c.args.catalog.now in
    let bs = binders c.args.scope.now in
    fault_then c.inspect_whole-in-Group.result _ _
    (ap (λ g. earliest query_standing (widened bs [] (raw_form_of g) (form_faults (raw_form_of g) db bs))) c.deref-in-Group.ensures ∙ group_faults db bs c.args.f.now c.in-Group.of c.in-Group.is)
    c.inspect_whole-in-Group.ensures.fault

pub inspect-returns-in-Group-clause-free : goal.inspect-returns-in-Group-clause-free
inspect-returns-in-Group-clause-free t c =
    free_then c.args.scope.now c.inspect_whole-in-Group.result _ _ (ap (λ g. free_names (raw_form_of g)) c.deref-in-Group.ensures ∙ group_names c.args.f.now c.in-Group.of c.in-Group.is) c.inspect_whole-in-Group.ensures.free

pub inspect-returns-in-Ranged-clause-fault : goal.inspect-returns-in-Ranged-clause-fault
inspect-returns-in-Ranged-clause-fault t c =
    let db = c.args.catalog.now in
    let bs = binders c.args.scope.now in
    fault_then c.inspect_whole-in-Ranged.result _ _
    (ap (λ g. earliest query_standing (widened bs [] (raw_form_of g) (form_faults (raw_form_of g) db bs))) c.deref-in-Ranged.ensures ∙ ranged_faults db bs c.args.f.now _ _ _ _ _ c.in-Ranged.of c.in-Ranged.is)
    c.inspect_whole-in-Ranged.ensures.fault

pub inspect-returns-in-Ranged-clause-free : goal.inspect-returns-in-Ranged-clause-free
inspect-returns-in-Ranged-clause-free t c =
    free_then c.args.scope.now c.inspect_whole-in-Ranged.result _ _ (ap (λ g. free_names (raw_form_of g)) c.deref-in-Ranged.ensures ∙ ranged_names c.args.f.now _ _ _ _ _ c.in-Ranged.of c.in-Ranged.is) c.inspect_whole-in-Ranged.ensures.free

pub inspect-returns-in-Paired-clause-fault : goal.inspect-returns-in-Paired-clause-fault
inspect-returns-in-Paired-clause-fault t c =
    let db = c.args.catalog.now in
    let bs = binders c.args.scope.now in
    fault_then c.inspect_whole-in-Paired.result _ _
    (ap (λ g. earliest query_standing (widened bs [] (raw_form_of g) (form_faults (raw_form_of g) db bs))) c.deref-in-Paired.ensures ∙ paired_faults db bs c.args.f.now _ _ _ _ c.in-Paired.right c.in-Paired.is)
    c.inspect_whole-in-Paired.ensures.fault

pub inspect-returns-in-Paired-clause-free : goal.inspect-returns-in-Paired-clause-free
inspect-returns-in-Paired-clause-free t c =
    free_then c.args.scope.now c.inspect_whole-in-Paired.result _ _ (ap (λ g. free_names (raw_form_of g)) c.deref-in-Paired.ensures ∙ paired_names c.args.f.now _ _ _ _ c.in-Paired.right c.in-Paired.is) c.inspect_whole-in-Paired.ensures.free

pub inspect-returns-in-And-clause-fault : goal.inspect-returns-in-And-clause-fault
inspect-returns-in-And-clause-fault t c =
    fault_then c.inspect_each.result _ _
    (ap (λ fs. earliest query_standing (forms_faults (raw_forms_of fs) c.args.catalog.now (binders c.args.scope.now))) c.deref-in-And.ensures.value
    ∙ and_faults c.args.catalog.now (binders c.args.scope.now) c.args.f.now c.in-And.of c.in-And.is)
    c.inspect_each.ensures.fault

pub inspect-returns-in-And-clause-free : goal.inspect-returns-in-And-clause-free
inspect-returns-in-And-clause-free t c =
    free_then c.args.scope.now c.inspect_each.result _ _ (ap (λ fs. free_names_each (raw_forms_of fs)) c.deref-in-And.ensures.value ∙ and_names c.args.f.now c.in-And.of c.in-And.is) c.inspect_each.ensures.free

pub inspect-returns-in-Or-clause-fault : goal.inspect-returns-in-Or-clause-fault
inspect-returns-in-Or-clause-fault t c =
    fault_then c.inspect_each-in-Or.result _ _
    (ap (λ fs. earliest query_standing (forms_faults (raw_forms_of fs) c.args.catalog.now (binders c.args.scope.now))) c.deref-in-Or.ensures.value
    ∙ or_faults c.args.catalog.now (binders c.args.scope.now) c.args.f.now c.in-Or.of c.in-Or.is)
    c.inspect_each-in-Or.ensures.fault

pub inspect-returns-in-Or-clause-free : goal.inspect-returns-in-Or-clause-free
inspect-returns-in-Or-clause-free t c =
    free_then c.args.scope.now c.inspect_each-in-Or.result _ _ (ap (λ fs. free_names_each (raw_forms_of fs)) c.deref-in-Or.ensures.value ∙ or_names c.args.f.now c.in-Or.of c.in-Or.is) c.inspect_each-in-Or.ensures.free

pub inspect-returns-in_ok-before-in-Implies-clause-fault : goal.inspect-returns-in_ok-before-in-Implies-clause-fault
inspect-returns-in_ok-before-in-Implies-clause-fault t c =
    let db = c.args.catalog.now in
    let around = c.args.scope.now in
    let left = raw_form_of c.in-Implies.left.value in
    let right = raw_form_of c.in-Implies.right.value in
    let after = binders c.inspect_whole-in-Implies.new.scope in
    let k = c.in_ok-before-in-Implies in
    fault_then c.inspect_after.result _ _
    (ap (λ x. sooner query_standing x (earliest query_standing (widened after [] (raw_form_of c.deref-in-Implies-2.result.now) (form_faults (raw_form_of c.deref-in-Implies-2.result.now) db after))))
    (k.ensures.fault ∙ ap (λ g. earliest query_standing (widened (binders around) [] (raw_form_of g) (form_faults (raw_form_of g) db (binders around)))) c.deref-in-Implies.ensures)
    ∙ ap (λ g. sooner query_standing (earliest query_standing (widened (binders around) [] left (form_faults left db (binders around)))) (earliest query_standing (widened after [] (raw_form_of g) (form_faults (raw_form_of g) db after)))) c.deref-in-Implies-2.ensures
    ∙ ap (λ a. sooner query_standing (earliest query_standing (widened (binders around) [] left (form_faults left db (binders around)))) (earliest query_standing (widened (binders a) [] right (form_faults right db (binders a))))) k.ensures.scope
    ∙ implies_faults db (binders around) c.args.f.now c.in-Implies.left c.in-Implies.right c.in-Implies.is)
    c.inspect_after.ensures.fault

pub inspect-returns-in_ok-before-in-Implies-clause-free : goal.inspect-returns-in_ok-before-in-Implies-clause-free
inspect-returns-in_ok-before-in-Implies-clause-free t c =
    let around = c.args.scope.now in
    let after = c.inspect_whole-in-Implies.new.scope in
    let k = c.in_ok-before-in-Implies in
    let names = free_names (raw_form_of c.deref-in-Implies.result.now) in
    if_ok_then c.inspect_after.result _ _ c.inspect_after.ensures.free (λ made h.
    subst (λ a. IsTallied a (free_names (raw_form_of c.args.f.now)) made.free) k.ensures.scope
    (subst (λ ns. IsTallied after ns made.free)
    (ap (λ g. free_names (raw_form_of g) ++ free_names (raw_form_of c.deref-in-Implies-2.result.now)) c.deref-in-Implies.ensures
    ∙ ap (λ g. free_names (raw_form_of c.in-Implies.left.value) ++ free_names (raw_form_of g)) c.deref-in-Implies-2.ensures
    ∙ implies_names c.args.f.now c.in-Implies.left c.in-Implies.right c.in-Implies.is)
    (h names (subst (λ a. IsTallied a names k.before.free) (sym k.ensures.scope) k.ensures.free))))

pub inspect-returns-in-Exists-clause-fault : goal.inspect-returns-in-Exists-clause-fault
inspect-returns-in-Exists-clause-fault t c =
    let db = c.args.catalog.now in
    let bs = binders c.args.scope.now in
    let b = c.in-Exists.binder in
    fault_then c.inspect_bound.result _ _
    (ap (λ g. sooner query_standing (earliest query_standing (binder_faults db bs b)) (earliest query_standing (widened (b ∷ bs) (b.name ∷ []) (raw_form_of g) (form_faults (raw_form_of g) db (b ∷ bs))))) c.deref-in-Exists.ensures
    ∙ exists_faults db bs c.args.f.now b c.in-Exists.of c.in-Exists.is)
    c.inspect_bound.ensures.fault

pub inspect-returns-in-Exists-clause-free : goal.inspect-returns-in-Exists-clause-free
inspect-returns-in-Exists-clause-free t c =
    free_then c.args.scope.now c.inspect_bound.result _ _ (ap (λ g. without c.in-Exists.binder.name (free_names (raw_form_of g))) c.deref-in-Exists.ensures ∙ exists_names c.args.f.now c.in-Exists.binder c.in-Exists.of c.in-Exists.is) c.inspect_bound.ensures.free

pub inspect-returns-in-Forall-clause-fault : goal.inspect-returns-in-Forall-clause-fault
inspect-returns-in-Forall-clause-fault t c =
    let db = c.args.catalog.now in
    let bs = binders c.args.scope.now in
    let b = c.in-Forall.binder in
    fault_then c.inspect_bound-in-Forall.result _ _
    (ap (λ g. sooner query_standing (earliest query_standing (binder_faults db bs b)) (earliest query_standing (widened (b ∷ bs) (b.name ∷ []) (raw_form_of g) (form_faults (raw_form_of g) db (b ∷ bs))))) c.deref-in-Forall.ensures
    ∙ forall_faults db bs c.args.f.now b c.in-Forall.of c.in-Forall.is)
    c.inspect_bound-in-Forall.ensures.fault

pub inspect-returns-in-Forall-clause-free : goal.inspect-returns-in-Forall-clause-free
inspect-returns-in-Forall-clause-free t c =
    free_then c.args.scope.now c.inspect_bound-in-Forall.result _ _ (ap (λ g. without c.in-Forall.binder.name (free_names (raw_form_of g))) c.deref-in-Forall.ensures ∙ forall_names c.args.f.now c.in-Forall.binder c.in-Forall.of c.in-Forall.is) c.inspect_bound-in-Forall.ensures.free

pub inspect_whole-returns-clause-fault : goal.inspect_whole-returns-clause-fault
inspect_whole-returns-clause-fault t c =
    let around = c.args.scope.now in
    let f = c.args.f.now in
    let k = c.in_ok-inside in
    c.with_width.ensures.fault (binders around) (length around.quantifiers) (free_names (raw_form_of f)) k.ensures.free
    ∙ shown c.args.catalog.now around around [] f f f k.inside.fault refl refl refl k.ensures.fault

pub inspect_whole-returns-clause-free : goal.inspect_whole-returns-clause-free
inspect_whole-returns-clause-free t c =
    let k = c.in_ok-inside in
    counted_then c.args.scope.now _ _ k.inside.free c.with_width.result.free refl c.with_width.ensures.free k.ensures.free

pub inspect_after-returns-then-is_narrow_leaf-clause-fault : goal.inspect_after-returns-then-is_narrow_leaf-clause-fault
inspect_after-returns-then-is_narrow_leaf-clause-fault t c =
    let narrow = c.is_narrow_leaf.ensures c.if-is_narrow_leaf.true in
    if_ok_then c.leaf.result _ _ c.leaf.ensures (λ made h.
    h.fault ∙ ap (sooner query_standing c.args.before.fault) (narrow_faults (binders c.args.scope.now) c.args.catalog.now c.args.f.now narrow.few))

pub inspect_after-returns-clause-fault : goal.inspect_after-returns-clause-fault
inspect_after-returns-clause-fault t c =
    fault_then c.both.result _ _ (ap (sooner query_standing c.args.before.fault) c.in_ok-after.ensures.fault) c.both.ensures.fault

pub inspect_after-returns-clause-free : goal.inspect_after-returns-clause-free
inspect_after-returns-clause-free t c =
    let around = c.args.scope.now in
    let l = c.in_ok-after in
    let names = free_names (raw_form_of c.args.f.now) in
    if_ok_then c.both.result _ _ c.both.ensures.free (λ made h before k.
    tally_at around c.quantifiers.result (before ++ names) made.free (c.quantifiers.ensures ∙ ap (λ a. length a.quantifiers) l.ensures.scope)
    (h (binders around) before names
    (at_tally around c.quantifiers.result before c.args.before.free (c.quantifiers.ensures ∙ ap (λ a. length a.quantifiers) l.ensures.scope) k)
    (at_tally around c.quantifiers.result names l.after.free (c.quantifiers.ensures ∙ ap (λ a. length a.quantifiers) l.ensures.scope) l.ensures.free)))

pub inspect_bound-returns-clause-fault : goal.inspect_bound-returns-clause-fault
inspect_bound-returns-clause-fault t c =
    let db = c.args.catalog.now in
    let around = c.args.scope.now in
    let f = c.args.f.now in
    let k = c.in_ok-inside in
    let own = c.in_ok-own in
    fault_then c.unbind.result _ _
    (shown_bound db around c.bind.new.scope c.inspect.new.scope c.args.binder.now own.own f f f k.inside.fault own.ensures.scope k.ensures.scope own.ensures.fault refl refl k.ensures.fault)
    (c.unbind.ensures.fault around (free_names (raw_form_of f)) (k.ensures.scope ∙ own.ensures.scope) (subst (λ a. IsTallied a (free_names (raw_form_of f)) k.inside.free) (sym k.ensures.scope) k.ensures.free))

pub inspect_bound-returns-clause-free : goal.inspect_bound-returns-clause-free
inspect_bound-returns-clause-free t c =
    let around = c.args.scope.now in
    let f = c.args.f.now in
    let k = c.in_ok-inside in
    let own = c.in_ok-own in
    c.unbind.ensures.free around (free_names (raw_form_of f)) (k.ensures.scope ∙ own.ensures.scope) (subst (λ a. IsTallied a (free_names (raw_form_of f)) k.inside.free) (sym k.ensures.scope) k.ensures.free)

pub inspect_bound-returns-clause-scope : goal.inspect_bound-returns-clause-scope
inspect_bound-returns-clause-scope t c =
    then_ok c.unbind.result _ _ c.unbind.ensures.scope (λ left. left c.args.scope.now (c.in_ok-inside.ensures.scope ∙ c.in_ok-own.ensures.scope))

pub inspect_each-loop-f-init : goal.inspect_each-loop-f-init
inspect_each-loop-f-init t c = record { fault = c.none-found.ensures.fault; free = c.none-found.ensures.free (binders c.args.scope.now) (length c.args.scope.now.quantifiers); scope = refl }

pub inspect_each-loop-f-preserved : goal.inspect_each-loop-f-preserved
inspect_each-loop-f-preserved t c =
    let db = c.args.catalog.now in
    let around = c.args.scope.now in
    let kept = c.loop-f.invariant in
    let k = c.in_ok-found.ensures in
    let f = c.f-item.result in
    let before = free_names_each (raw_forms_of (take c.loop-f.f-index c.args.fs.now)) in
    record {
      fault =
          k.fault
          ∙ ap (λ x. sooner query_standing x (earliest query_standing (widened (binders c.loop-f.scope) [] (raw_form_of f) (form_faults (raw_form_of f) db (binders c.loop-f.scope))))) kept.fault
          ∙ ap (λ a. sooner query_standing (earliest query_standing (forms_faults (raw_forms_of (take c.loop-f.f-index c.args.fs.now)) db (binders around))) (earliest query_standing (widened (binders a) [] (raw_form_of f) (form_faults (raw_form_of f) db (binders a))))) kept.scope
          ∙ one_member_faults db (binders around) c.args.fs.now c.loop-f.f-index f c.loop-f-test.true c.f-item.is;
      free =
          subst (λ ns. IsTallied around ns c.in_ok-found.found.free) (one_member_names c.args.fs.now c.loop-f.f-index f c.loop-f-test.true c.f-item.is)
          (subst (λ a. IsTallied a (before ++ free_names (raw_form_of f)) c.in_ok-found.found.free) kept.scope
          (k.free before (subst (λ a. IsTallied a before c.loop-f.found.free) (sym kept.scope) kept.free)));
      scope = k.scope ∙ kept.scope;
    }
