use Rattle.std.proofs.Common.{◌≡◌, ◌+◌, Some, None, get_or, refl, ap, ap₂, sym, subst, ◌∙◌, arith}
use Rattle.std.proofs.lemmas.List.{take_all}
use Rattle.lrp_model.specs.RawQueries.{HasNoOperator, raw_form_of, raw_forms_of, raw_group, raw_implies, raw_not}
use Rattle.lrp_model.specs.Rows.{columns_in, relation_named}
use Rattle.lrp_tense.specs.Written.{joined_form, quantified_form}
use Rattle.lrp_wide.specs.Inlining.{inlined_atom, some_each}
use Rattle.lrp_wide.specs.Inside.{IsInsideBody, IsMeant, each_inlined_here, known_by}
use Rattle.lrp_wide.specs.Limits.{depth_of, depth_of_each}
use Rattle.lrp_wide.specs.Settings.{setting_of}
use Rattle.lrp_wide.proofs.InlineAtoms.{atom-used}
use Rattle.lrp_wide.proofs.InlineForms.{inlined-more}
use Rattle.lrp_wide.proofs.InlineMeasures.{each-below, each-plain, work_before}
use Rattle.lrp_wide.proofs.InlineNodes.{and_node, or_node}
use Rattle.lrp_wide.proofs.InlineScenes.{body-is, use-less, use-plain, used-is}
use Rattle.lrp_wide.proofs.InlineSteps.{and_step, atom_step, compare_step, exists_step, forall_step, group_step, implies_step, member_step, not_step, or_step}
use Rattle.lrp_wide.proofs.Results.{if_ok_then}
use Rattle.lrp_wide.proofs.inlining.+inlining.Goals as goal

pub inline-returns-in-Not : goal.inline-returns-in-Not
inline-returns-in-Not t c =
    if_ok_then c.inline_negation.result _ _ c.inline_negation.ensures (λ made h file around.
    not_step c.args.scene.now c.args.f.now file c.place-place.result c.place-place.ensures _ c.deref.result.now c.in-Not.of c.in-Not.is c.deref.ensures (h file around))

pub inline-returns-in-Group : goal.inline-returns-in-Group
inline-returns-in-Group t c =
    if_ok_then c.inline_group.result _ _ c.inline_group.ensures (λ made h file around.
    group_step c.args.scene.now c.args.f.now file c.place-place.result c.place-place.ensures _ c.deref-in-Group.result.now c.in-Group.of c.in-Group.is c.deref-in-Group.ensures (h file around))

pub inline-returns-in-And : goal.inline-returns-in-And
inline-returns-in-And t c =
    if_ok_then c.inline_joined.result _ _ c.inline_joined.ensures (λ made h file around.
    and_step c.args.scene.now c.args.f.now file c.place-place.result c.place-place.ensures _ c.deref-in-And.result.now c.in-And.of c.in-And.is c.deref-in-And.ensures.value (h file around))

pub inline-returns-in-Or : goal.inline-returns-in-Or
inline-returns-in-Or t c =
    if_ok_then c.inline_joined-in-Or.result _ _ c.inline_joined-in-Or.ensures (λ made h file around.
    or_step c.args.scene.now c.args.f.now file c.place-place.result c.place-place.ensures _ c.deref-in-Or.result.now c.in-Or.of c.in-Or.is c.deref-in-Or.ensures.value (h file around))

pub inline-returns-in-Implies : goal.inline-returns-in-Implies
inline-returns-in-Implies t c =
    if_ok_then c.inline_implication.result _ _ c.inline_implication.ensures (λ made h file around.
    implies_step c.args.scene.now c.args.f.now file c.place-place.result c.place-place.ensures _ c.deref-in-Implies.result.now c.deref-in-Implies-2.result.now c.in-Implies.left c.in-Implies.right c.in-Implies.is c.deref-in-Implies.ensures c.deref-in-Implies-2.ensures (h file around))

pub inline-returns-in-Exists : goal.inline-returns-in-Exists
inline-returns-in-Exists t c =
    if_ok_then c.inline_quantified.result _ _ c.inline_quantified.ensures (λ made h file around.
    exists_step c.args.scene.now c.args.f.now file c.place-place.result c.place-place.ensures _ c.in-Exists.binder c.deref-in-Exists.result.now c.in-Exists.of c.in-Exists.is c.deref-in-Exists.ensures (h file around))

pub inline-returns-in-Forall : goal.inline-returns-in-Forall
inline-returns-in-Forall t c =
    if_ok_then c.inline_quantified-in-Forall.result _ _ c.inline_quantified-in-Forall.ensures (λ made h file around.
    forall_step c.args.scene.now c.args.f.now file c.place-place.result c.place-place.ensures _ c.in-Forall.binder c.deref-in-Forall.result.now c.in-Forall.of c.in-Forall.is c.deref-in-Forall.ensures (h file around))

pub inline_negation-returns : goal.inline_negation-returns
inline_negation-returns t c =
    if_ok_then c.denied.result _ _ c.denied.ensures (λ made h file around. h ∙ ap (raw_not c.args.place) (c.in_ok-of.ensures file around))

pub inline_group-returns : goal.inline_group-returns
inline_group-returns t c =
    if_ok_then c.grouped.result _ _ c.grouped.ensures (λ made h file around. h ∙ ap (raw_group c.args.place) (c.in_ok-of.ensures file around))

pub inline_implication-returns : goal.inline_implication-returns
inline_implication-returns t c =
    if_ok_then c.implied.result _ _ c.implied.ensures (λ made h file around. h ∙ ap₂ (raw_implies c.args.place) (c.in_ok-left.ensures file around) (c.in_ok-right.ensures file around))

pub inline_joined-returns : goal.inline_joined-returns
inline_joined-returns t c =
    if_ok_then c.joined.result _ _ c.joined.ensures (λ made h file around. h ∙ ap (joined_form c.args.at.1 c.args.at.0) (c.in_ok-of.ensures file around))

pub inline_quantified-returns : goal.inline_quantified-returns
inline_quantified-returns t c =
    if_ok_then c.quantified.result _ _ c.quantified.ensures (λ made h file around. h ∙ ap₂ (quantified_form c.args.at.quantifier c.args.at.place) c.in_ok-binder.ensures (c.in_ok-of.ensures file around))

pub inline_atom-returns-in-Some : goal.inline_atom-returns-in-Some
inline_atom-returns-in-Some t c =
    let m : IsMeant c.args.scene.now c.args.met.name.now (Some c.in-Some.named) = c.in-Some.ensures in
    if_ok_then c.inline_use.result _ _ c.inline_use.ensures (λ made h file around.
    atom-used c.args.scene.now c.in-Some.named file c.args.met (raw_form_of made.value) m.named around (m.meaning file around) (h file around))

pub inline_atom-returns-in-None : goal.inline_atom-returns-in-None
inline_atom-returns-in-None t c =
    let m : IsMeant c.args.scene.now c.args.met.name.now None = c.in-None.ensures in
    if_ok_then c.starred_atom.result _ _ c.starred_atom.ensures (λ made h file around.
    h ∙ ap (inlined_atom (setting_of c.args.scene.now.setting) c.args.met.place c.args.met.number c.args.met.name.now (columns_in (relation_named c.args.scene.now.catalog.now c.args.met.name.now)) c.args.met.terms.now) (sym (m.meaning file around)))

pub inline_each-loop-f-init : goal.inline_each-loop-f-init
inline_each-loop-f-init t c = λ file around. ap raw_forms_of c.in_ok-all.ensures.items

pub inline_each-loop-f-preserved : goal.inline_each-loop-f-preserved
inline_each-loop-f-preserved t c = λ file around.
    inlined-more c.args.scene.now.catalog.now (known_by c.args.scene.now file) c.args.fs.now c.loop-f.all.items _ c.loop-f.f-index c.f-item.result c.into_inner-g.result (setting_of c.args.scene.now.setting) c.loop-f-test.true c.f-item.is c.in_ok-push.ensures.items
    (c.loop-f.invariant file around) (ap raw_form_of c.into_inner-g.ensures ∙ c.in_ok-made.ensures file around)

pub inline_each-returns : goal.inline_each-returns
inline_each-returns t c = λ file around.
    c.loop-f.invariant file around ∙ ap (λ l. each_inlined_here c.args.scene.now file (raw_forms_of l)) (take_all c.loop-f.f-index c.args.fs.now c.loop-f-test.false)

pub inline_use-returns : goal.inline_use-returns
inline_use-returns t c =
    let p = c.args.met.place in
    let given = c.in_ok-given.given in
    if_ok_then c.some_each-2.result _ _ c.some_each-2.ensures (λ made h file around.
    used-is c.args.scene.now file c.args.named.written c.requires.named.written around c.args.named c.args.met given c.as_slice-columns.result.now c.relation.result.now (raw_form_of c.in_ok-of.of.value) (raw_form_of made.value) c.relation.ensures c.as_slice-columns.ensures c.in_ok-given.ensures
    (c.in_ok-of.ensures file around) (h ∙ ap (some_each p given.stars.items) (c.in_ok-compared.ensures ∙ ap (some_each p given.columns.items) c.in_ok-all.ensures)))

pub inline_body-returns : goal.inline_body-returns
inline_body-returns t c =
    let s = c.args.scene.now in
    let b = c.in_ok-last.last in
    let passed = c.in_ok-last.ensures in
    let h : IsInsideBody s b (record { catalog = s.catalog; written = s.written; setting = c.in_ok-setting.field-0 }) = record { catalog = refl; written = refl; setting = c.in_ok-setting.ensures } in
    if_ok_then c.inline.result _ _ c.inline.ensures (λ made e file around.
    passed.same file around (raw_form_of made.value) (record { body = λ k at. e file around ∙ body-is s file b.named.written passed.named.written around b _ refl passed.named h c.text.result.now c.text.ensures k at }))

pub inline-returns-in_ok-number-in-Atom : goal.inline-returns-in_ok-number-in-Atom
inline-returns-in_ok-number-in-Atom t c =
    if_ok_then c.inline_atom.result _ _ c.inline_atom.ensures (λ made h file around.
    atom_step c.args.scene.now c.args.f.now file c.place-place.result c.place-place.ensures _ c.in-Atom.relation c.in-Atom.terms c.as_slice.result.now c.place-place.result c.in_ok-number-in-Atom.number c.in-Atom.is refl c.in_ok-number-in-Atom.ensures c.as_slice.ensures (h file around))

pub inline-returns-in_ok-kind-in-Compare : goal.inline-returns-in_ok-kind-in-Compare
inline-returns-in_ok-kind-in-Compare t c =
    if_ok_then c.boxed.result _ _ c.boxed.ensures (λ made h file around.
    compare_step c.args.scene.now c.args.f.now file c.place-place.result c.place-place.ensures _ c.in-Compare.op c.in-Compare.left c.in-Compare.right c.in-Compare.is (h ∙ c.in_ok-kind-in-Compare.ensures c.place-place.result))

pub inline-returns-in_ok-kind-in-Member : goal.inline-returns-in_ok-kind-in-Member
inline-returns-in_ok-kind-in-Member t c =
    if_ok_then c.boxed-in-Member.result _ _ c.boxed-in-Member.ensures (λ made h file around.
    member_step c.args.scene.now c.args.f.now file c.place-place.result c.place-place.ensures _ c.in-Member.term c.in-Member.point c.in-Member.is (h ∙ c.in_ok-kind-in-Member.ensures c.place-place.result))

-- ---- it ends, and no operator is met

pub inline-inline_joined-requires : goal.inline-inline_joined-requires
inline-inline_joined-requires t c =
    let node = and_node c.args.f.now c.deref-in-And.result.now c.in-And.of c.in-And.is c.deref-in-And.ensures.value in
    let deep : depth_of (raw_form_of c.args.f.now) ≡ depth_of_each (raw_forms_of c.deref-in-And.result.now) + 1 = ap depth_of node in
    (omega (arith, c.decreases, deep), (subst HasNoOperator node c.requires.plain, c.requires.definitions))

pub inline-inline_joined-requires-in-Or : goal.inline-inline_joined-requires-in-Or
inline-inline_joined-requires-in-Or t c =
    let node = or_node c.args.f.now c.deref-in-Or.result.now c.in-Or.of c.in-Or.is c.deref-in-Or.ensures.value in
    let deep : depth_of (raw_form_of c.args.f.now) ≡ depth_of_each (raw_forms_of c.deref-in-Or.result.now) + 1 = ap depth_of node in
    (omega (arith, c.decreases, deep), (subst HasNoOperator node c.requires.plain, c.requires.definitions))

pub inline_each-inline-requires : goal.inline_each-inline-requires
inline_each-inline-requires t c =
    let less = each-below c.args.fs.now c.loop-f.f-index c.f-item.result c.loop-f-test.true c.f-item.is in
    (omega (arith, c.decreases, less), (each-plain c.args.fs.now c.loop-f.f-index c.f-item.result c.requires.plain c.loop-f-test.true c.f-item.is, c.requires.definitions))

pub inline_body-inline-requires : goal.inline_body-inline-requires
inline_body-inline-requires t c =
    let s = c.args.scene.now in
    let b = c.in_ok-last.last in
    let x = c.text.result.now in
    let named = c.in_ok-last.ensures.named in
    let less = use-less s b.named x named c.text.ensures in
    let own : work_before s.written c.in_ok-setting.field-0.before ≡ work_before s.written b.named.number = ap (work_before s.written) c.in_ok-setting.ensures.before in
    (omega (arith, c.decreases, less, own), (use-plain s b.named x named c.text.ensures, c.requires.definitions))
