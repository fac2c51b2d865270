use Rattle.std.proofs.Common.{subst, sym, rules, tests}
use Rattle.std.specs.List.{AllByRecursion}
use Rattle.std.proofs.lemmas.List.{take_all}
use Rattle.lrp_model.specs.RawQueries.{raw_forms_of}
use Rattle.lrp_wide.specs.Narrow.{AreUnstarred, HasNoStar, IsUnstarred}
use Rattle.lrp_wide.proofs.InlineNodes.{and_node, atom_node, compare_node, exists_node, forall_node, group_node, implies_node, member_node, not_node, or_node}
use Rattle.lrp_wide.proofs.NarrowTexts.{narrow_more}
use Rattle.lrp_wide.proofs.narrow.+narrow.Goals as goal

pub is_narrow-returns-in-Atom : goal.is_narrow-returns-in-Atom
is_narrow-returns-in-Atom t c = λ h. subst IsUnstarred (sym (atom_node c.args.f.now _ c.in-Atom.terms c.in-Atom.is)) (subst (AllByRecursion HasNoStar) c.as_slice.ensures (c.has_no_star.ensures h))

pub is_narrow-returns-in-Compare : goal.is_narrow-returns-in-Compare
is_narrow-returns-in-Compare t c = λ h. subst IsUnstarred (sym (compare_node c.args.f.now _ _ _ c.in-Compare.is)) tt

pub is_narrow-returns-in-Member : goal.is_narrow-returns-in-Member
is_narrow-returns-in-Member t c = λ h. subst IsUnstarred (sym (member_node c.args.f.now _ _ c.in-Member.is)) tt

pub is_narrow-returns-in-Not : goal.is_narrow-returns-in-Not
is_narrow-returns-in-Not t c = λ h. subst IsUnstarred (sym (not_node c.args.f.now c.deref.result.now c.in-Not.of c.in-Not.is c.deref.ensures)) (c.is_narrow.ensures h)

pub is_narrow-returns-in-Group : goal.is_narrow-returns-in-Group
is_narrow-returns-in-Group t c = λ h. subst IsUnstarred (sym (group_node c.args.f.now c.deref-in-Group.result.now c.in-Group.of c.in-Group.is c.deref-in-Group.ensures)) (c.is_narrow-in-Group.ensures h)

pub is_narrow-returns-in-Exists : goal.is_narrow-returns-in-Exists
is_narrow-returns-in-Exists t c = λ h. subst IsUnstarred (sym (exists_node c.args.f.now _ c.deref-in-Exists.result.now c.in-Exists.of c.in-Exists.is c.deref-in-Exists.ensures)) (c.is_narrow-in-Exists.ensures h)

pub is_narrow-returns-in-Forall : goal.is_narrow-returns-in-Forall
is_narrow-returns-in-Forall t c = λ h. subst IsUnstarred (sym (forall_node c.args.f.now _ c.deref-in-Forall.result.now c.in-Forall.of c.in-Forall.is c.deref-in-Forall.ensures)) (c.is_narrow-in-Forall.ensures h)

pub is_narrow-returns-in-And : goal.is_narrow-returns-in-And
is_narrow-returns-in-And t c = λ h. subst IsUnstarred (sym (and_node c.args.f.now c.deref-in-And.result.now c.in-And.of c.in-And.is c.deref-in-And.ensures.value)) (c.are_narrow.ensures h)

pub is_narrow-returns-in-Or : goal.is_narrow-returns-in-Or
is_narrow-returns-in-Or t c = λ h. subst IsUnstarred (sym (or_node c.args.f.now c.deref-in-Or.result.now c.in-Or.of c.in-Or.is c.deref-in-Or.ensures.value)) (c.are_narrow-in-Or.ensures h)

pub are_narrow-loop-f-preserved : goal.are_narrow-loop-f-preserved
are_narrow-loop-f-preserved t c = narrow_more c.args.fs.now c.loop-f.f-index c.f-item.result c.loop-f-test.true c.f-item.is c.loop-f.invariant (c.is_narrow.ensures (search (rules, tests)))

pub are_narrow-returns : goal.are_narrow-returns
are_narrow-returns t c = λ h. subst (λ l. AreUnstarred (raw_forms_of l)) (take_all c.loop-f.f-index c.args.fs.now c.loop-f-test.false) c.loop-f.invariant
