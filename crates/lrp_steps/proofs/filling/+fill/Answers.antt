-- The numbers of a column make up all of its tuples.
use Rattle.std.proofs.Common.{◌≡◌, ◌<◌, arith, ap, ◌∙◌, take, IsTrue, Bool, false}
use Rattle.lrp_systems.specs.Parts.{system_reach}
use Rattle.lrp_systems.specs.Systems.{IsSolution}
use Rattle.lrp_steps.specs.Fillings.{IsFilled}
use Rattle.lrp_steps.proofs.Filled.{last_known, last_equal, last_to, last_from, turn_more, turn_refused}
use Rattle.lrp_steps.proofs.Parts.{added_nothing}
use Rattle.lrp_tables.proofs.Gathering.{added_as, refused_as}
use Rattle.lrp_steps.proofs.filling.+fill.Goals as goal
use Rattle.lrp_systems.proofs.Taken.{add_ok}

differ : (b : Bool) → IsTrue b → b ≡ false → ⊥
differ b h e = cc

pub returns-then-column-columns-clause-ok : goal.returns-then-column-columns-clause-ok
returns-then-column-columns-clause-ok t c =
    let all : c.args.column ≡ c.args.out.now.shape.texts = c.if-column-columns.true ∙ c.from-columns.ensures ∙ ap (λ s. s.texts) c.shape.ensures.value in
    let few = c.shape.ensures.valid.texts in
    added_nothing c.args.wanted.cap (system_reach c.args.out.now.period c.args.parts.now) (IsFilled c.args.out.now.shape c.args.wanted.size c.args.wanted.pattern.now c.args.column c.args.texts.now) c.args.out.now c.shape.ensures.valid (λ xs ns h.
    let yes_so : IsTrue c.is_asked.result = c.is_asked.ensures.1 (
      last_known c.args.out.now.shape c.args.wanted.size c.args.wanted.pattern.now few c.args.column c.args.texts.now c.requires.chosen all xs ns h,
      last_equal c.args.out.now.shape c.args.wanted.size c.args.wanted.pattern.now few c.args.column c.args.texts.now c.requires.chosen all xs ns h,
    ) in
    differ c.is_asked.result yes_so c.if-is_asked.false)

pub returns-then-is_asked-clause-ok : goal.returns-then-is_asked-clause-ok
returns-then-is_asked-clause-ok t c =
    let all : c.args.column ≡ c.args.out.now.shape.texts = c.if-column-columns.true ∙ c.from-columns.ensures ∙ ap (λ s. s.texts) c.shape.ensures.value in
    let few = c.shape.ensures.valid.texts in
    let asked = c.is_asked.ensures.0 c.if-is_asked.true in
    add_ok c.add_system.result _ _ (added_as c.args.wanted.cap (IsSolution c.args.parts.now c.args.out.now.shape.times (take c.args.out.now.shape.texts c.args.texts.now)) (IsFilled c.args.out.now.shape c.args.wanted.size c.args.wanted.pattern.now c.args.column c.args.texts.now)
    (system_reach c.args.out.now.period c.args.parts.now) (system_reach c.args.out.now.period c.args.parts.now) (omega arith) c.args.out.now c.add_system.new.out c.shape.ensures.valid
    (last_to c.args.out.now.shape c.args.wanted.size c.args.wanted.pattern.now few c.args.column c.args.texts.now c.requires.chosen all c.args.parts.now c.requires.parts asked.0 asked.1)
    (last_from c.args.out.now.shape c.args.wanted.size c.args.wanted.pattern.now few c.args.column c.args.texts.now c.requires.chosen all c.args.parts.now c.requires.parts)) c.add_system.ensures.ok

pub returns-then-is_asked-clause-too_many : goal.returns-then-is_asked-clause-too_many
returns-then-is_asked-clause-too_many t c = λ e.
    let all : c.args.column ≡ c.args.out.now.shape.texts = c.if-column-columns.true ∙ c.from-columns.ensures ∙ ap (λ s. s.texts) c.shape.ensures.value in
    let few = c.shape.ensures.valid.texts in
    let asked = c.is_asked.ensures.0 c.if-is_asked.true in
    refused_as c.args.wanted.cap (IsSolution c.args.parts.now c.args.out.now.shape.times (take c.args.out.now.shape.texts c.args.texts.now)) (IsFilled c.args.out.now.shape c.args.wanted.size c.args.wanted.pattern.now c.args.column c.args.texts.now)
    (system_reach c.args.out.now.period c.args.parts.now) (system_reach c.args.out.now.period c.args.parts.now) (omega arith) c.args.out.now c.add_system.new.out c.shape.ensures.valid
    (last_to c.args.out.now.shape c.args.wanted.size c.args.wanted.pattern.now few c.args.column c.args.texts.now c.requires.chosen all c.args.parts.now c.requires.parts asked.0 asked.1) (c.add_system.ensures.too_many e)

pub returns-in-Err-clause-too_many : goal.returns-in-Err-clause-too_many
returns-in-Err-clause-too_many t c = λ e.
    let few = c.shape.ensures.valid.texts in
    let columns : c.from-columns.result ≡ c.args.out.now.shape.texts = c.from-columns.ensures ∙ ap (λ s. s.texts) c.shape.ensures.value in
    let low : c.args.column < c.args.out.now.shape.texts = omega (arith, c.requires.column, columns, c.if-column-columns.false) in
    turn_refused c.args.wanted.size c.args.wanted.pattern.now c.args.out.now c.loop-number.out c.fill.new.out few c.args.column c.args.texts.now c.requires.chosen low c.loop-number.number c.args.wanted.cap c.args.parts.now c.with_text-next.result c.with_text-next.ensures c.loop-number.invariant (c.in-Err.ensures.too_many e)

pub loop-number-preserved : goal.loop-number-preserved
loop-number-preserved t c =
    let few = c.shape.ensures.valid.texts in
    let columns : c.from-columns.result ≡ c.args.out.now.shape.texts = c.from-columns.ensures ∙ ap (λ s. s.texts) c.shape.ensures.value in
    let low : c.args.column < c.args.out.now.shape.texts = omega (arith, c.requires.column, columns, c.if-column-columns.false) in
    turn_more c.args.wanted.size c.args.wanted.pattern.now c.args.out.now c.loop-number.out c.fill.new.out few c.args.column c.args.texts.now c.requires.chosen low c.loop-number.number c.args.wanted.cap c.args.parts.now c.with_text-next.result c.with_text-next.ensures c.loop-number.invariant c.in-Ok.ensures.ok
