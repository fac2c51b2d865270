use Rattle.std.proofs.Common.{refl}
use Rattle.lrp_wide.proofs.MeasureNodes.{in_none}
use Rattle.lrp_wide.proofs.MeasureTree.{and_size, atom_at, compare_size, each_more, exists_size, forall_size, group_size, implies_size, member_size, not_size, or_size, pair_at, range_at}
use Rattle.lrp_wide.proofs.measures.+measuring.Goals as goal

pub size_of-returns-in-Atom : goal.size_of-returns-in-Atom
size_of-returns-in-Atom t c = λ ks m.
    atom_at c.args.definitions.now.relations ks c.atom_size.result c.args.f.now c.in-Atom.relation c.in-Atom.terms c.as_slice.result.now c.in-Atom.is c.as_slice.ensures (c.atom_size.ensures ks m c.args.f.now.place)

pub size_of-returns-in-Compare : goal.size_of-returns-in-Compare
size_of-returns-in-Compare t c = λ ks m. compare_size c.args.definitions.now.relations ks c.leaf.result c.args.f.now _ _ _ c.in-Compare.is c.leaf.ensures

pub size_of-returns-in-Member : goal.size_of-returns-in-Member
size_of-returns-in-Member t c = λ ks m. member_size c.args.definitions.now.relations ks c.leaf-in-Member.result c.args.f.now _ _ c.in-Member.is c.leaf-in-Member.ensures

pub size_of-returns-in-Not : goal.size_of-returns-in-Not
size_of-returns-in-Not t c = λ ks m. not_size c.args.definitions.now.relations ks c.under.result c.args.f.now c.deref.result.now c.in-Not.of c.size_of.result c.in-Not.is c.deref.ensures (c.size_of.ensures ks m) c.under.ensures

pub size_of-returns-in-Group : goal.size_of-returns-in-Group
size_of-returns-in-Group t c = λ ks m.
    group_size c.args.definitions.now.relations ks c.under-in-Group.result c.args.f.now c.deref-in-Group.result.now c.in-Group.of c.size_of-in-Group.result c.in-Group.is c.deref-in-Group.ensures (c.size_of-in-Group.ensures ks m) c.under-in-Group.ensures

pub size_of-returns-in-Exists : goal.size_of-returns-in-Exists
size_of-returns-in-Exists t c = λ ks m.
    exists_size c.args.definitions.now.relations ks c.under-in-Exists.result c.args.f.now c.deref-in-Exists.result.now _ c.in-Exists.of c.size_of-in-Exists.result c.in-Exists.is c.deref-in-Exists.ensures (c.size_of-in-Exists.ensures ks m) c.under-in-Exists.ensures

pub size_of-returns-in-Forall : goal.size_of-returns-in-Forall
size_of-returns-in-Forall t c = λ ks m.
    forall_size c.args.definitions.now.relations ks c.under-in-Forall.result c.args.f.now c.deref-in-Forall.result.now _ c.in-Forall.of c.size_of-in-Forall.result c.in-Forall.is c.deref-in-Forall.ensures (c.size_of-in-Forall.ensures ks m) c.under-in-Forall.ensures

pub size_of-returns-in-And : goal.size_of-returns-in-And
size_of-returns-in-And t c = λ ks m.
    and_size c.args.definitions.now.relations ks c.under-in-And.result c.args.f.now c.deref-in-And.result.now c.in-And.of c.sizes_of.result c.in-And.is c.deref-in-And.ensures.value (c.sizes_of.ensures ks m) c.under-in-And.ensures

pub size_of-returns-in-Or : goal.size_of-returns-in-Or
size_of-returns-in-Or t c = λ ks m.
    or_size c.args.definitions.now.relations ks c.under-in-Or.result c.args.f.now c.deref-in-Or.result.now c.in-Or.of c.sizes_of-in-Or.result c.in-Or.is c.deref-in-Or.ensures.value (c.sizes_of-in-Or.ensures ks m) c.under-in-Or.ensures

pub size_of-returns-in-Implies : goal.size_of-returns-in-Implies
size_of-returns-in-Implies t c = λ ks m.
    implies_size c.args.definitions.now.relations ks c.under-in-Implies.result c.args.f.now c.deref-in-Implies.result.now c.deref-in-Implies-2.result.now c.in-Implies.left c.in-Implies.right
    c.size_of-left.result c.size_of-in-Implies.result c.beside.result c.in-Implies.is c.deref-in-Implies.ensures c.deref-in-Implies-2.ensures (c.size_of-left.ensures ks m) (c.size_of-in-Implies.ensures ks m) c.beside.ensures c.under-in-Implies.ensures

pub size_of-returns-in-Ranged : goal.size_of-returns-in-Ranged
size_of-returns-in-Ranged t c = λ ks m.
    range_at c.args.definitions.now.relations ks c.range_size.result c.args.f.now c.deref-in-Ranged.result.now c.in-Ranged.word _ _ _ _ c.in-Ranged.of c.size_of-in-Ranged.result c.in-Ranged.is c.deref-in-Ranged.ensures
    (c.size_of-in-Ranged.ensures ks m) c.range_size.ensures

pub size_of-returns-in-Paired : goal.size_of-returns-in-Paired
size_of-returns-in-Paired t c = λ ks m.
    pair_at c.args.definitions.now.relations ks c.pair_size.result c.args.f.now c.deref-in-Paired.result.now c.deref-in-Paired-2.result.now c.in-Paired.word _ _ c.in-Paired.left c.in-Paired.right
    c.size_of-left-in-Paired.result c.size_of-in-Paired.result c.in-Paired.is c.deref-in-Paired.ensures c.deref-in-Paired-2.ensures (c.size_of-left-in-Paired.ensures ks m) (c.size_of-in-Paired.ensures ks m) c.pair_size.ensures

pub sizes_of-loop-f-init : goal.sizes_of-loop-f-init
sizes_of-loop-f-init t c = λ ks m. in_none c.args.definitions.now.relations ks c.none-all.result c.none-all.ensures

pub sizes_of-loop-f-preserved : goal.sizes_of-loop-f-preserved
sizes_of-loop-f-preserved t c = λ ks m.
    each_more c.args.definitions.now.relations ks c.beside-all.result c.args.fs.now c.loop-f.f-index c.f-item.result c.loop-f.all c.size_of.result c.loop-f-test.true c.f-item.is (c.loop-f.invariant ks m) (c.size_of.ensures ks m) c.beside-all.ensures
