use Rattle.std.proofs.Common.{◌≡◌, ◌<◌, ◌+◌, get_or, Box, Vec, Global, OnOk, Option, Some, None, length, subst, sym, ap, refl, ◌∙◌, arith, rules}
use Rattle.lrp_model.specs.RawQueries.{HasNoOperator, HaveNoOperator, raw_exists, raw_forall, raw_form_of, raw_forms_of, raw_group, raw_kind, raw_not}
use Rattle.lrp_model.specs.declared.raw.RawFormula.{RawFormula}
use Rattle.lrp_model.specs.declared.raw.RawKind.{And, Or, the_lemmas}
use Rattle.lrp_model.proofs.RawViews.{raw_kind-And, raw_kind-Or}
use Rattle.lrp_wide.specs.Inside.{AreWrittenIn, IsAtomWritten, IsWrittenIn, inlined_here}
use Rattle.lrp_wide.specs.Limits.{depth_of, depth_of_each}
use Rattle.lrp_wide.proofs.InPlace.{AreWrittenTo, and_written, compare_stays, exists_written, forall_written, group_written, implies_written, member_stays, not_written, or_written, written_all, written_more}
use Rattle.lrp_wide.proofs.InlineMeasures.{each-below, each-plain}
use Rattle.lrp_wide.proofs.InlineNodes.{and_node, or_node}
use Rattle.lrp_wide.proofs.Results.{then_ok}
use Rattle.lrp_wide.proofs.inlining.+writing.Goals as goal

pub write_out-returns-in-Some : goal.write_out-returns-in-Some
write_out-returns-in-Some t c =
    let s = c.args.scene.now in
    let some : IsAtomWritten s c.args.f.now (Some c.in-Some.made) = subst (IsAtomWritten s c.args.f.now) c.in-Some.is c.in_ok-made.ensures in
    subst (λ g. IsWrittenIn s (raw_form_of c.args.f.now) (raw_form_of g)) (sym c.into_inner.ensures) some

pub write_out-returns-in-Atom : goal.write_out-returns-in-Atom
write_out-returns-in-Atom t c =
    let none : IsAtomWritten c.args.scene.now c.args.f.now None = subst (IsAtomWritten c.args.scene.now c.args.f.now) c.in_default.is c.in_ok-made.ensures in
    none _ _ c.in-Atom.is

pub write_out-returns-in-Compare : goal.write_out-returns-in-Compare
write_out-returns-in-Compare t c = compare_stays c.args.scene.now c.requires.own c.args.f.now _ _ _ c.in-Compare.is

pub write_out-returns-in-Member : goal.write_out-returns-in-Member
write_out-returns-in-Member t c = member_stays c.args.scene.now c.requires.own c.args.f.now _ _ c.in-Member.is

pub write_out-returns-in_ok-write_out-in-Not : goal.write_out-returns-in_ok-write_out-in-Not
write_out-returns-in_ok-write_out-in-Not t c =
    let s = c.args.scene.now in
    let f = c.args.f.now in
    let x = raw_form_of c.write_out.new.f in
    let old : c.deref_mut.result.now ≡ c.in-Not.of.value = c.deref_mut.ensures.value ∙ ap (λ b. b.value) c.in-Not.of-is in
    let all = not_written s c.requires.own f c.in-Not.of x c.in-Not.is (subst (λ y. IsWrittenIn s (raw_form_of y) x) old c.in_ok-write_out-in-Not.ensures) in
    record {
      is = λ file around.
          let whole : raw_not f.place x ≡ inlined_here s file (raw_form_of f) = all.is file around in
          search (rules, the_lemmas, whole);
    }

pub write_out-returns-in_ok-write_out-in-Group : goal.write_out-returns-in_ok-write_out-in-Group
write_out-returns-in_ok-write_out-in-Group t c =
    let s = c.args.scene.now in
    let f = c.args.f.now in
    let x = raw_form_of c.write_out-in-Group.new.f in
    let old : c.deref_mut-in-Group.result.now ≡ c.in-Group.of.value = c.deref_mut-in-Group.ensures.value ∙ ap (λ b. b.value) c.in-Group.of-is in
    let all = group_written s c.requires.own f c.in-Group.of x c.in-Group.is (subst (λ y. IsWrittenIn s (raw_form_of y) x) old c.in_ok-write_out-in-Group.ensures) in
    record {
      is = λ file around.
          let whole : raw_group f.place x ≡ inlined_here s file (raw_form_of f) = all.is file around in
          search (rules, the_lemmas, whole);
    }

pub write_out-returns-in_ok-write_out-in-Exists : goal.write_out-returns-in_ok-write_out-in-Exists
write_out-returns-in_ok-write_out-in-Exists t c =
    let s = c.args.scene.now in
    let f = c.args.f.now in
    let x = raw_form_of c.write_out-in-Exists.new.f in
    let old : c.deref_mut-in-Exists.result.now ≡ c.in-Exists.of.value = c.deref_mut-in-Exists.ensures.value ∙ ap (λ b. b.value) c.in-Exists.of-is in
    let all = exists_written s c.requires.own f c.in-Exists.binder c.in-Exists.of x c.in-Exists.is (subst (λ y. IsWrittenIn s (raw_form_of y) x) old c.in_ok-write_out-in-Exists.ensures) in
    record {
      is = λ file around.
          let whole : raw_exists f.place c.in-Exists.binder x ≡ inlined_here s file (raw_form_of f) = all.is file around in
          search (rules, the_lemmas, whole);
    }

pub write_out-returns-in_ok-write_out-in-Forall : goal.write_out-returns-in_ok-write_out-in-Forall
write_out-returns-in_ok-write_out-in-Forall t c =
    let s = c.args.scene.now in
    let f = c.args.f.now in
    let x = raw_form_of c.write_out-in-Forall.new.f in
    let old : c.deref_mut-in-Forall.result.now ≡ c.in-Forall.of.value = c.deref_mut-in-Forall.ensures.value ∙ ap (λ b. b.value) c.in-Forall.of-is in
    let all = forall_written s c.requires.own f c.in-Forall.binder c.in-Forall.of x c.in-Forall.is (subst (λ y. IsWrittenIn s (raw_form_of y) x) old c.in_ok-write_out-in-Forall.ensures) in
    record {
      is = λ file around.
          let whole : raw_forall f.place c.in-Forall.binder x ≡ inlined_here s file (raw_form_of f) = all.is file around in
          search (rules, the_lemmas, whole);
    }

pub write_out-returns-in_ok-write_out-in-Implies : goal.write_out-returns-in_ok-write_out-in-Implies
write_out-returns-in_ok-write_out-in-Implies t c =
    let s = c.args.scene.now in
    let f = c.args.f.now in
    let x = raw_form_of c.write_out-in-Implies.new.f in
    let y = raw_form_of c.write_out-in-Implies-2.new.f in
    let left : c.deref_mut-in-Implies.result.now ≡ c.in-Implies.left.value = c.deref_mut-in-Implies.ensures.value ∙ ap (λ b. b.value) c.in-Implies.left-is in
    let right : c.deref_mut-in-Implies-2.result.now ≡ c.in-Implies.right.value = c.deref_mut-in-Implies-2.ensures.value ∙ ap (λ b. b.value) c.in-Implies.right-is in
    let first : IsWrittenIn s (raw_form_of c.in-Implies.left.value) x = subst (λ z. IsWrittenIn s (raw_form_of z) x) left c.in_ok-write_out-in-Implies.ensures in
    then_ok c.write_out-in-Implies-2.result _ _ c.write_out-in-Implies-2.ensures (λ h. implies_written s c.requires.own f c.in-Implies.left c.in-Implies.right x y c.in-Implies.is first (subst (λ z. IsWrittenIn s (raw_form_of z) y) right h))

pub write_out-returns-in_ok-write_each_out-in-And : goal.write_out-returns-in_ok-write_each_out-in-And
write_out-returns-in_ok-write_each_out-in-And t c =
    let s = c.args.scene.now in
    let f = c.args.f.now in
    let w : Vec RawFormula Global = c.write_each_out.new.fs in
    let xs = raw_forms_of w.items in
    let all = and_written s c.requires.own f c.in-And.of xs c.in-And.is (subst (λ v. AreWrittenIn s (raw_forms_of v.items) xs) c.in-And.of-is c.in_ok-write_each_out-in-And.ensures) in
    record {
      is = λ file around.
          let whole : raw_kind (And w) f.place ≡ inlined_here s file (raw_form_of f) = raw_kind-And w f.place ∙ all.is file around in
          search (rules, the_lemmas, whole);
    }

pub write_out-returns-in_ok-write_each_out-in-Or : goal.write_out-returns-in_ok-write_each_out-in-Or
write_out-returns-in_ok-write_each_out-in-Or t c =
    let s = c.args.scene.now in
    let f = c.args.f.now in
    let w : Vec RawFormula Global = c.write_each_out-in-Or.new.fs in
    let xs = raw_forms_of w.items in
    let all = or_written s c.requires.own f c.in-Or.of xs c.in-Or.is (subst (λ v. AreWrittenIn s (raw_forms_of v.items) xs) c.in-Or.of-is c.in_ok-write_each_out-in-Or.ensures) in
    record {
      is = λ file around.
          let whole : raw_kind (Or w) f.place ≡ inlined_here s file (raw_form_of f) = raw_kind-Or w f.place ∙ all.is file around in
          search (rules, the_lemmas, whole);
    }

pub write_out-write_each_out-requires : goal.write_out-write_each_out-requires
write_out-write_each_out-requires t c =
    let node = and_node c.args.f.now c.in-And.of.items c.in-And.of c.in-And.is refl in
    let deep : depth_of (raw_form_of c.args.f.now) ≡ depth_of_each (raw_forms_of c.in-And.of.items) + 1 = ap depth_of node in
    let same : depth_of_each (raw_forms_of _) ≡ depth_of_each (raw_forms_of c.in-And.of.items) = ap (λ v. depth_of_each (raw_forms_of v.items)) c.in-And.of-is in
    (omega (arith, c.decreases, deep, same), (c.requires.own, (subst (λ v. HaveNoOperator (raw_forms_of v.items)) (sym c.in-And.of-is) (subst HasNoOperator node c.requires.plain), c.requires.definitions)))

pub write_out-write_each_out-requires-in-Or : goal.write_out-write_each_out-requires-in-Or
write_out-write_each_out-requires-in-Or t c =
    let node = or_node c.args.f.now c.in-Or.of.items c.in-Or.of c.in-Or.is refl in
    let deep : depth_of (raw_form_of c.args.f.now) ≡ depth_of_each (raw_forms_of c.in-Or.of.items) + 1 = ap depth_of node in
    let same : depth_of_each (raw_forms_of _) ≡ depth_of_each (raw_forms_of c.in-Or.of.items) = ap (λ v. depth_of_each (raw_forms_of v.items)) c.in-Or.of-is in
    (omega (arith, c.decreases, deep, same), (c.requires.own, (subst (λ v. HaveNoOperator (raw_forms_of v.items)) (sym c.in-Or.of-is) (subst HasNoOperator node c.requires.plain), c.requires.definitions)))

pub write_each_out-write_out-requires : goal.write_each_out-write_out-requires
write_each_out-write_out-requires t c =
    let there : c.loop-i.i < length c.args.fs.now.items = omega (arith, c.loop-i-test.true, c.len-i-end.ensures) in
    let old : c.index_mut.result.now ≡ get_or c.args.fs.now.items c.loop-i.i c.index_mut.result.now = search (rules, arith, c.loop-i.invariant.others, c.index_mut.ensures.value) in
    let less = each-below c.args.fs.now.items c.loop-i.i c.index_mut.result.now there old in
    (omega (arith, c.decreases, less), (c.requires.own, (each-plain c.args.fs.now.items c.loop-i.i c.index_mut.result.now c.requires.plain there old, c.requires.definitions)))

pub write_each_out-loop-i-preserved : goal.write_each_out-loop-i-preserved
write_each_out-loop-i-preserved t c =
    let there : c.loop-i.i < length c.args.fs.now.items = omega (arith, c.loop-i-test.true, c.len-i-end.ensures) in
    record {
      others = search rules;
      so_far = written_more c.args.scene.now c.args.fs.now.items c.loop-i.fs.items c.loop-i.i c.index_mut.result.now c.write_out.new.f there c.loop-i.invariant.others.0 c.loop-i.invariant.so_far c.index_mut.ensures.value c.in_ok-write_out.ensures;
    }

pub write_each_out-returns : goal.write_each_out-returns
write_each_out-returns t c =
    let s = c.args.scene.now in
    let fs = c.args.fs.now.items in
    let all : c.loop-i.i ≡ length fs = omega (arith, c.loop-i-test.false, c.loop-i.auto.i-end, c.len-i-end.ensures) in
    written_all s fs c.loop-i.fs.items (subst (λ n. AreWrittenTo s fs n c.loop-i.fs.items) all c.loop-i.invariant.so_far)
