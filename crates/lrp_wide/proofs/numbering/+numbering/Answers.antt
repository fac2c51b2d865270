use Rattle.std.proofs.Common.{◌++◌, refl, ap, sym, ◌∙◌, append-nil}
use Rattle.std.proofs.lemmas.List.{take_all}
use Rattle.lrp_model.specs.RawQueries.{raw_forms_of}
use Rattle.lrp_model.specs.Rows.{columns_in, relation_named}
use Rattle.lrp_wide.specs.Counts.{kept_each, stopped}
use Rattle.lrp_wide.specs.Inlining.{atom_numbers, meant_by}
use Rattle.lrp_wide.proofs.InlineForms.{counted-more}
use Rattle.lrp_wide.proofs.NumberSteps.{and_counted, atom_counted, both_counted, compare_counted, exists_counted, forall_counted, group_counted, implies_counted, member_counted, not_counted, or_counted, paired_counted, ranged_counted}
use Rattle.lrp_wide.proofs.Results.{then_ok}
use Rattle.lrp_wide.proofs.numbering.+numbering.Goals as goal

pub count_in-returns-in-Atom : goal.count_in-returns-in-Atom
count_in-returns-in-Atom t c =
    let db = c.args.definitions.now.relations in
    then_ok c.count.result _ _ c.count.ensures (λ h ks k.
    atom_counted db ks c.args.f.now c.args.numbers.now c.count.new.self c.in-Atom.relation c.in-Atom.terms c.atom_numbers-taken.result c.in-Atom.is h
    (c.atom_numbers-taken.ensures ks k ∙ ap (λ ts. stopped (atom_numbers (columns_in (relation_named db c.in-Atom.relation)) ts (meant_by db ks c.in-Atom.relation))) c.as_slice.ensures))

pub count_in-returns-in-Compare : goal.count_in-returns-in-Compare
count_in-returns-in-Compare t c = λ ks k. compare_counted c.args.definitions.now.relations ks c.args.f.now c.args.numbers.now c.args.numbers.now _ _ _ c.in-Compare.is refl

pub count_in-returns-in-Member : goal.count_in-returns-in-Member
count_in-returns-in-Member t c = λ ks k. member_counted c.args.definitions.now.relations ks c.args.f.now c.args.numbers.now c.args.numbers.now _ _ c.in-Member.is refl

pub count_in-returns-in-Not : goal.count_in-returns-in-Not
count_in-returns-in-Not t c =
    then_ok c.count_in.result _ _ c.count_in.ensures (λ h ks k.
    not_counted c.args.definitions.now.relations ks c.args.f.now c.args.numbers.now c.count_in.new.numbers c.deref.result.now c.in-Not.of c.in-Not.is c.deref.ensures (h ks k))

pub count_in-returns-in-Group : goal.count_in-returns-in-Group
count_in-returns-in-Group t c =
    then_ok c.count_in-in-Group.result _ _ c.count_in-in-Group.ensures (λ h ks k.
    group_counted c.args.definitions.now.relations ks c.args.f.now c.args.numbers.now c.count_in-in-Group.new.numbers c.deref-in-Group.result.now c.in-Group.of c.in-Group.is c.deref-in-Group.ensures (h ks k))

pub count_in-returns-in-Exists : goal.count_in-returns-in-Exists
count_in-returns-in-Exists t c =
    then_ok c.count_in-in-Exists.result _ _ c.count_in-in-Exists.ensures (λ h ks k.
    exists_counted c.args.definitions.now.relations ks c.args.f.now c.args.numbers.now c.count_in-in-Exists.new.numbers _ c.deref-in-Exists.result.now c.in-Exists.of c.in-Exists.is c.deref-in-Exists.ensures (h ks k))

pub count_in-returns-in-Forall : goal.count_in-returns-in-Forall
count_in-returns-in-Forall t c =
    then_ok c.count_in-in-Forall.result _ _ c.count_in-in-Forall.ensures (λ h ks k.
    forall_counted c.args.definitions.now.relations ks c.args.f.now c.args.numbers.now c.count_in-in-Forall.new.numbers _ c.deref-in-Forall.result.now c.in-Forall.of c.in-Forall.is c.deref-in-Forall.ensures (h ks k))

pub count_in-returns-in-Ranged : goal.count_in-returns-in-Ranged
count_in-returns-in-Ranged t c =
    then_ok c.count_in-in-Ranged.result _ _ c.count_in-in-Ranged.ensures (λ h ks k.
    ranged_counted c.args.definitions.now.relations ks c.args.f.now c.args.numbers.now c.count_in-in-Ranged.new.numbers _ _ _ _ _ c.deref-in-Ranged.result.now c.in-Ranged.of c.in-Ranged.is c.deref-in-Ranged.ensures (h ks k))

pub count_in-returns-in-And : goal.count_in-returns-in-And
count_in-returns-in-And t c =
    then_ok c.count_each.result _ _ c.count_each.ensures (λ h ks k.
    and_counted c.args.definitions.now.relations ks c.args.f.now c.args.numbers.now c.count_each.new.numbers c.deref-in-And.result.now c.in-And.of c.in-And.is c.deref-in-And.ensures.value (h ks k))

pub count_in-returns-in-Or : goal.count_in-returns-in-Or
count_in-returns-in-Or t c =
    then_ok c.count_each-in-Or.result _ _ c.count_each-in-Or.ensures (λ h ks k.
    or_counted c.args.definitions.now.relations ks c.args.f.now c.args.numbers.now c.count_each-in-Or.new.numbers c.deref-in-Or.result.now c.in-Or.of c.in-Or.is c.deref-in-Or.ensures.value (h ks k))

pub count_in-returns-in_ok-count_in-in-Implies : goal.count_in-returns-in_ok-count_in-in-Implies
count_in-returns-in_ok-count_in-in-Implies t c =
    then_ok c.count_in-in-Implies-2.result _ _ c.count_in-in-Implies-2.ensures (λ h ks k.
    implies_counted c.args.definitions.now.relations ks c.args.f.now c.args.numbers.now c.count_in-in-Implies-2.new.numbers c.deref-in-Implies.result.now c.deref-in-Implies-2.result.now c.in-Implies.left c.in-Implies.right c.in-Implies.is c.deref-in-Implies.ensures c.deref-in-Implies-2.ensures (both_counted c.args.definitions.now.relations ks c.args.f.now c.args.numbers.now c.count_in-in-Implies-2.new.numbers c.count_in-in-Implies.new.numbers c.deref-in-Implies.result.now c.deref-in-Implies-2.result.now (c.in_ok-count_in-in-Implies.ensures ks k) (h ks k)))

pub count_in-returns-in_ok-count_in-in-Paired : goal.count_in-returns-in_ok-count_in-in-Paired
count_in-returns-in_ok-count_in-in-Paired t c =
    then_ok c.count_in-in-Paired-2.result _ _ c.count_in-in-Paired-2.ensures (λ h ks k.
    paired_counted c.args.definitions.now.relations ks c.args.f.now c.args.numbers.now c.count_in-in-Paired-2.new.numbers _ _ _ c.deref-in-Paired.result.now c.deref-in-Paired-2.result.now c.in-Paired.left c.in-Paired.right c.in-Paired.is c.deref-in-Paired.ensures c.deref-in-Paired-2.ensures (both_counted c.args.definitions.now.relations ks c.args.f.now c.args.numbers.now c.count_in-in-Paired-2.new.numbers c.count_in-in-Paired.new.numbers c.deref-in-Paired.result.now c.deref-in-Paired-2.result.now (c.in_ok-count_in-in-Paired.ensures ks k) (h ks k)))

pub count_each-loop-f-init : goal.count_each-loop-f-init
count_each-loop-f-init t c = λ ks k. sym (append-nil c.args.numbers.now)

pub count_each-loop-f-preserved : goal.count_each-loop-f-preserved
count_each-loop-f-preserved t c = λ ks k.
    counted-more c.args.definitions.now.relations ks c.args.fs.now c.loop-f.f-index c.f-item.result c.args.numbers.now c.loop-f.numbers c.count_in.new.numbers c.loop-f-test.true c.f-item.is (c.loop-f.invariant ks k) (c.in_ok-count_in.ensures ks k)

pub count_each-returns : goal.count_each-returns
count_each-returns t c = λ ks k.
    c.loop-f.invariant ks k ∙ ap (λ l. c.args.numbers.now ++ kept_each c.args.definitions.now.relations ks (raw_forms_of l)) (take_all c.loop-f.f-index c.args.fs.now c.loop-f-test.false)
