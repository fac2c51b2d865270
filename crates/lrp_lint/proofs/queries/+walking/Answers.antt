-- What each kind of formula names.
use Rattle.std.proofs.Common.{◌++◌, ◌∙◌, ap, append-nil, refl, sym, take}
use Rattle.std.specs.Prelude.{flat_map}
use Rattle.lrp_model.specs.RawQueries.{raw_form_of, raw_forms_of}
use Rattle.lrp_lint.specs.Known.{binders_in}
use Rattle.lrp_lint.specs.Mentions.{mention_findings, mentions, mentions_each}
use Rattle.lrp_lint.proofs.Walked.{and_names, atom_names, compare_names, exists_names, forall_names, found_twice, group_names, implies_found, innermost, member_names, not_names, one_more, or_names, paired_found, popped, ranged_names, then_ok}
use Rattle.lrp_lint.proofs.queries.+walking.Goals as goal

pub walk-returns-in-Atom-clause-found : goal.walk-returns-in-Atom-clause-found
walk-returns-in-Atom-clause-found t c =
    then_ok c.add_atom.result _ _ c.add_atom.ensures (λ h.
    h ∙ ap (λ ms. c.args.found.now.items ++ flat_map (mention_findings c.args.catalog.now) ms) (atom_names c.args.catalog.now c.args.f.now c.in-Atom.relation c.in-Atom.terms c.as_slice.result.now (binders_in c.args.binders.now.items) c.in-Atom.is c.as_slice.ensures))

pub walk-returns-in-Compare-clause-found : goal.walk-returns-in-Compare-clause-found
walk-returns-in-Compare-clause-found t c =
    then_ok c.add_comparison.result _ _ c.add_comparison.ensures (λ h.
    h ∙ ap (λ ms. c.args.found.now.items ++ flat_map (mention_findings c.args.catalog.now) ms) (compare_names c.args.catalog.now c.args.f.now c.in-Compare.op c.in-Compare.left c.in-Compare.right (binders_in c.args.binders.now.items) (binders_in c.as_slice-in-Compare.result.now) c.in-Compare.is (ap binders_in c.as_slice-in-Compare.ensures.value)))

pub walk-returns-in-Member-clause-found : goal.walk-returns-in-Member-clause-found
walk-returns-in-Member-clause-found t c =
    sym (append-nil c.args.found.now.items) ∙ ap (λ ms. c.args.found.now.items ++ flat_map (mention_findings c.args.catalog.now) ms) (member_names c.args.catalog.now c.args.f.now c.in-Member.term c.in-Member.point (binders_in c.args.binders.now.items) c.in-Member.is)

pub walk-returns-in-Not-clause-found : goal.walk-returns-in-Not-clause-found
walk-returns-in-Not-clause-found t c =
    then_ok c.walk.result _ _ c.walk.ensures.found (λ h.
    h ∙ ap (λ ms. c.args.found.now.items ++ flat_map (mention_findings c.args.catalog.now) ms) (not_names c.args.catalog.now c.args.f.now c.in-Not.of c.deref.result.now (binders_in c.args.binders.now.items) c.in-Not.is c.deref.ensures))

pub walk-returns-in-Group-clause-found : goal.walk-returns-in-Group-clause-found
walk-returns-in-Group-clause-found t c =
    then_ok c.walk-in-Group.result _ _ c.walk-in-Group.ensures.found (λ h.
    h ∙ ap (λ ms. c.args.found.now.items ++ flat_map (mention_findings c.args.catalog.now) ms) (group_names c.args.catalog.now c.args.f.now c.in-Group.of c.deref-in-Group.result.now (binders_in c.args.binders.now.items) c.in-Group.is c.deref-in-Group.ensures))

pub walk-returns-in-And-clause-found : goal.walk-returns-in-And-clause-found
walk-returns-in-And-clause-found t c =
    then_ok c.walk_each.result _ _ c.walk_each.ensures.found (λ h.
    h ∙ ap (λ ms. c.args.found.now.items ++ flat_map (mention_findings c.args.catalog.now) ms) (and_names c.args.catalog.now c.args.f.now c.in-And.of c.deref-in-And.result.now (binders_in c.args.binders.now.items) c.in-And.is c.deref-in-And.ensures.value))

pub walk-returns-in-Or-clause-found : goal.walk-returns-in-Or-clause-found
walk-returns-in-Or-clause-found t c =
    then_ok c.walk_each-in-Or.result _ _ c.walk_each-in-Or.ensures.found (λ h.
    h ∙ ap (λ ms. c.args.found.now.items ++ flat_map (mention_findings c.args.catalog.now) ms) (or_names c.args.catalog.now c.args.f.now c.in-Or.of c.deref-in-Or.result.now (binders_in c.args.binders.now.items) c.in-Or.is c.deref-in-Or.ensures.value))

pub walk-returns-in_ok-walk-in-Implies-clause-found : goal.walk-returns-in_ok-walk-in-Implies-clause-found
walk-returns-in_ok-walk-in-Implies-clause-found t c =
    let k = c.in_ok-walk-in-Implies.ensures in
    then_ok c.walk-in-Implies-2.result _ _ c.walk-in-Implies-2.ensures.found (λ h.
    implies_found c.args.catalog.now c.args.f.now c.in-Implies.left c.in-Implies.right c.deref-in-Implies.result.now c.deref-in-Implies-2.result.now (binders_in c.args.binders.now.items) (binders_in c.walk-in-Implies.new.binders.items) c.args.found.now.items c.walk-in-Implies.new.found.items c.walk-in-Implies-2.new.found.items c.deref-in-Implies.ensures c.deref-in-Implies-2.ensures (ap binders_in k.binders) k.found h c.in-Implies.is)

pub walk-returns-in-Ranged-clause-found : goal.walk-returns-in-Ranged-clause-found
walk-returns-in-Ranged-clause-found t c =
    then_ok c.walk-in-Ranged.result _ _ c.walk-in-Ranged.ensures.found (λ h.
    h ∙ ap (λ ms. c.args.found.now.items ++ flat_map (mention_findings c.args.catalog.now) ms) (ranged_names c.args.catalog.now c.args.f.now c.in-Ranged.word c.in-Ranged.name c.in-Ranged.name_place c.in-Ranged.from c.in-Ranged.to c.in-Ranged.of c.deref-in-Ranged.result.now (binders_in c.args.binders.now.items) c.in-Ranged.is c.deref-in-Ranged.ensures))

pub walk-returns-in_ok-walk-in-Paired-clause-found : goal.walk-returns-in_ok-walk-in-Paired-clause-found
walk-returns-in_ok-walk-in-Paired-clause-found t c =
    let k = c.in_ok-walk-in-Paired.ensures in
    then_ok c.walk-in-Paired-2.result _ _ c.walk-in-Paired-2.ensures.found (λ h.
    paired_found c.args.catalog.now c.args.f.now c.in-Paired.left c.in-Paired.right c.deref-in-Paired.result.now c.deref-in-Paired-2.result.now (binders_in c.args.binders.now.items) (binders_in c.walk-in-Paired.new.binders.items) c.args.found.now.items c.walk-in-Paired.new.found.items c.walk-in-Paired-2.new.found.items c.deref-in-Paired.ensures c.deref-in-Paired-2.ensures (ap binders_in k.binders) k.found h c.in-Paired.word c.in-Paired.name c.in-Paired.name_place c.in-Paired.is)

pub walk-returns-in_ok-walk-in-Paired-clause-binders : goal.walk-returns-in_ok-walk-in-Paired-clause-binders
walk-returns-in_ok-walk-in-Paired-clause-binders t c = then_ok c.walk-in-Paired-2.result _ _ c.walk-in-Paired-2.ensures.binders (λ h. h ∙ c.in_ok-walk-in-Paired.ensures.binders)

pub walk-returns-in_ok-walk-in-Implies-clause-binders : goal.walk-returns-in_ok-walk-in-Implies-clause-binders
walk-returns-in_ok-walk-in-Implies-clause-binders t c = then_ok c.walk-in-Implies-2.result _ _ c.walk-in-Implies-2.ensures.binders (λ h. h ∙ c.in_ok-walk-in-Implies.ensures.binders)

pub walk-returns-in-Exists-clause-found : goal.walk-returns-in-Exists-clause-found
walk-returns-in-Exists-clause-found t c =
    then_ok c.walk_within.result _ _ c.walk_within.ensures.found (λ h.
    h ∙ ap (λ ms. c.args.found.now.items ++ flat_map (mention_findings c.args.catalog.now) ms) (exists_names c.args.catalog.now c.args.f.now c.in-Exists.binder c.in-Exists.of c.deref-in-Exists.result.now (binders_in c.args.binders.now.items) c.in-Exists.is c.deref-in-Exists.ensures))

pub walk-returns-in-Forall-clause-found : goal.walk-returns-in-Forall-clause-found
walk-returns-in-Forall-clause-found t c =
    then_ok c.walk_within-in-Forall.result _ _ c.walk_within-in-Forall.ensures.found (λ h.
    h ∙ ap (λ ms. c.args.found.now.items ++ flat_map (mention_findings c.args.catalog.now) ms) (forall_names c.args.catalog.now c.args.f.now c.in-Forall.binder c.in-Forall.of c.deref-in-Forall.result.now (binders_in c.args.binders.now.items) c.in-Forall.is c.deref-in-Forall.ensures))

pub walk_within-returns-clause-found : goal.walk_within-returns-clause-found
walk_within-returns-clause-found t c =
    c.in_ok-walk.ensures.found
    ∙ ap (λ bs. c.args.found.now.items ++ flat_map (mention_findings c.args.catalog.now) (mentions (raw_form_of c.args.f.now) c.args.catalog.now bs)) (innermost c.push.new.self.items c.args.binders.now.items c.args.binder c.in_ok-push.ensures.items)

pub walk_within-returns-clause-binders : goal.walk_within-returns-clause-binders
walk_within-returns-clause-binders t c =
    popped c.args.binders.now.items c.walk.new.binders.items c.pop.new.self.items c.args.binder _ (c.in_ok-walk.ensures.binders ∙ c.in_ok-push.ensures.items) c.walk.new.binders.ok.0 c.pop.ensures.rest

pub walk_each-loop-f-init : goal.walk_each-loop-f-init
walk_each-loop-f-init t c = record { found = sym (append-nil c.args.found.now.items); binders = refl }

pub walk_each-loop-f-preserved : goal.walk_each-loop-f-preserved
walk_each-loop-f-preserved t c =
    let db = c.args.catalog.now in
    let fs = c.args.fs.now in
    let bs = binders_in c.args.binders.now.items in
    let i = c.loop-f.f-index in
    let f = c.f-item.result in
    let kept = c.loop-f.invariant in
    let k = c.in_ok-walk.ensures in
    let old = c.args.found.now.items in
    record {
      found =
          found_twice db old c.loop-f.found.items c.walk.new.found.items (mentions_each (raw_forms_of (take i fs)) db bs) (mentions (raw_form_of f) db bs) kept.found
          (k.found ∙ ap (λ xs. c.loop-f.found.items ++ flat_map (mention_findings db) (mentions (raw_form_of f) db (binders_in xs))) kept.binders)
          ∙ ap (λ ms. old ++ flat_map (mention_findings db) ms) (one_more db bs fs i f c.loop-f-test.true c.f-item.is);
      binders = k.binders ∙ kept.binders;
    }
