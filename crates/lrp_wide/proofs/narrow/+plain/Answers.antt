use Rattle.std.proofs.Common.{subst, sym, rules, tests}
use Rattle.std.proofs.lemmas.List.{take_all}
use Rattle.lrp_model.specs.RawQueries.{HasNoOperator, HaveNoOperator, raw_forms_of}
use Rattle.lrp_wide.proofs.InlineNodes.{and_node, atom_node, compare_node, exists_node, forall_node, group_node, implies_node, member_node, not_node, or_node}
use Rattle.lrp_wide.proofs.NarrowTexts.{plain_more}
use Rattle.lrp_wide.proofs.narrow.+plain.Goals as goal

pub is_plain-returns-in-Atom : goal.is_plain-returns-in-Atom
is_plain-returns-in-Atom t c = λ h. subst HasNoOperator (sym (atom_node c.args.f.now _ _ c.in-Atom.is)) tt

pub is_plain-returns-in-Compare : goal.is_plain-returns-in-Compare
is_plain-returns-in-Compare t c = λ h. subst HasNoOperator (sym (compare_node c.args.f.now _ _ _ c.in-Compare.is)) tt

pub is_plain-returns-in-Member : goal.is_plain-returns-in-Member
is_plain-returns-in-Member t c = λ h. subst HasNoOperator (sym (member_node c.args.f.now _ _ c.in-Member.is)) tt

pub is_plain-returns-in-Not : goal.is_plain-returns-in-Not
is_plain-returns-in-Not t c = λ h. subst HasNoOperator (sym (not_node c.args.f.now c.deref.result.now c.in-Not.of c.in-Not.is c.deref.ensures)) (c.is_plain.ensures h)

pub is_plain-returns-in-Group : goal.is_plain-returns-in-Group
is_plain-returns-in-Group t c = λ h. subst HasNoOperator (sym (group_node c.args.f.now c.deref-in-Group.result.now c.in-Group.of c.in-Group.is c.deref-in-Group.ensures)) (c.is_plain-in-Group.ensures h)

pub is_plain-returns-in-Exists : goal.is_plain-returns-in-Exists
is_plain-returns-in-Exists t c = λ h. subst HasNoOperator (sym (exists_node c.args.f.now _ c.deref-in-Exists.result.now c.in-Exists.of c.in-Exists.is c.deref-in-Exists.ensures)) (c.is_plain-in-Exists.ensures h)

pub is_plain-returns-in-Forall : goal.is_plain-returns-in-Forall
is_plain-returns-in-Forall t c = λ h. subst HasNoOperator (sym (forall_node c.args.f.now _ c.deref-in-Forall.result.now c.in-Forall.of c.in-Forall.is c.deref-in-Forall.ensures)) (c.is_plain-in-Forall.ensures h)

pub is_plain-returns-in-And : goal.is_plain-returns-in-And
is_plain-returns-in-And t c = λ h. subst HasNoOperator (sym (and_node c.args.f.now c.deref-in-And.result.now c.in-And.of c.in-And.is c.deref-in-And.ensures.value)) (c.are_plain.ensures h)

pub is_plain-returns-in-Or : goal.is_plain-returns-in-Or
is_plain-returns-in-Or t c = λ h. subst HasNoOperator (sym (or_node c.args.f.now c.deref-in-Or.result.now c.in-Or.of c.in-Or.is c.deref-in-Or.ensures.value)) (c.are_plain-in-Or.ensures h)

pub are_plain-loop-f-preserved : goal.are_plain-loop-f-preserved
are_plain-loop-f-preserved t c = plain_more c.args.fs.now c.loop-f.f-index c.f-item.result c.loop-f-test.true c.f-item.is c.loop-f.invariant (c.is_plain.ensures (search (rules, tests)))

pub are_plain-returns : goal.are_plain-returns
are_plain-returns t c = λ h. subst (λ l. HaveNoOperator (raw_forms_of l)) (take_all c.loop-f.f-index c.args.fs.now c.loop-f-test.false) c.loop-f.invariant
