-- What is left of the cell where the store's zones are taken away.
use Rattle.std.proofs.Common.{◌≡◌, sym, ap, subst, ◌∙◌, arith, take, ◌≤◌, ◌<◌, ◌^◌}
use Rattle.std.specs.Prelude.{nat_abs}
use Rattle.std.proofs.lemmas.Int.{ints}
use Rattle.lrp_cutting.specs.Differences.{AreOfCell, greatest_reach}
use Rattle.std.specs.Prelude.{◌∷◌, ◌+◌}
use Rattle.lrp_minus.proofs.AbsenceLaws.{word_is, cell_residues, cell_some, free_cutters, free_place, free_small, cell_added, cell_refused}
use Rattle.lrp_cutting.proofs.Alike.{alike_cells}
use Rattle.lrp_cutting.proofs.Lists.{on_ok}
use Rattle.lrp_cutting.specs.Thresholds.{most_pieces}
use Rattle.lrp_store.specs.Growing.{GrowsByAtMost}
use Rattle.lrp_store.specs.Stores.{whole_zone}
use Rattle.lrp_minus.proofs.Growth.{same_most}
use Rattle.lrp_minus.proofs.absences.fill_held_cell.Goals as goal

pub of-requires-clause-residues : goal.of-requires-clause-residues
of-requires-clause-residues c =
    let low : 0 < c.args.absences.now.store.now.period = c.requires.fill.store.period_low in
    let high : c.args.absences.now.store.now.period ≤ 2 ^ 62 = c.requires.fill.store.period_high in
    let k = word_is c.period.result (let e = c.period.ensures in omega (arith, ints)) (let e = c.period.ensures in omega (arith, ints)) in
    cell_residues c.args.absences.now.store.now c.requires.fill.store c.args.cell.now c.requires.chosen c.from-times.result _ (c.from-times.ensures ∙ ap (λ s. s.times) c.shape.ensures.value) (ap nat_abs (k ∙ c.period.ensures))

pub unreachable-requires : goal.unreachable-requires
unreachable-requires c =
    let low : 0 < c.args.absences.now.store.now.period = c.requires.fill.store.period_low in
    let high : c.args.absences.now.store.now.period ≤ 2 ^ 62 = c.requires.fill.store.period_high in
    let k = word_is c.period.result (let e = c.period.ensures in omega (arith, ints)) (let e = c.period.ensures in omega (arith, ints)) in
    cell_some c.args.absences.now.store.now c.requires.fill.store c.args.cell.now c.requires.chosen c.from-times.result (c.from-times.ensures ∙ ap (λ s. s.times) c.shape.ensures.value) _ (k ∙ c.period.ensures) c.in_default.ensures.none

pub of-requires-2 : goal.of-requires-2
of-requires-2 c = λ z l.
    let low : 0 < c.args.absences.now.store.now.period = c.requires.fill.store.period_low in
    let high : c.args.absences.now.store.now.period ≤ 2 ^ 62 = c.requires.fill.store.period_high in
    let k = word_is c.period.result (let e = c.period.ensures in omega (arith, ints)) (let e = c.period.ensures in omega (arith, ints)) in
    alike_cells c.in-Some.zone c.in_ok-zones.zones (subst (AreOfCell c.in-Some.zone) (sym c.in_ok-zones.ensures) (free_cutters c.args.absences.now.store.now c.requires.fill.store c.args.cell.now c.requires.chosen c.from-times.result (c.from-times.ensures ∙ ap (λ s. s.times) c.shape.ensures.value) _ (k ∙ c.period.ensures) c.in-Some.zone c.in-Some.ensures.some)) z l

pub add_left-requires-clause-place : goal.add_left-requires-clause-place
add_left-requires-clause-place c =
    let low : 0 < c.args.absences.now.store.now.period = c.requires.fill.store.period_low in
    let high : c.args.absences.now.store.now.period ≤ 2 ^ 62 = c.requires.fill.store.period_high in
    let k = word_is c.period.result (let e = c.period.ensures in omega (arith, ints)) (let e = c.period.ensures in omega (arith, ints)) in
    free_place c.args.absences.now.store.now c.requires.fill.store c.args.cell.now c.requires.chosen c.from-times.result (c.from-times.ensures ∙ ap (λ s. s.times) c.shape.ensures.value) _ (k ∙ c.period.ensures) c.in-Some.zone c.in-Some.ensures.some c.args.out.now c.requires.fill.like c.columns.ensures.valid

pub add_left-requires-clause-cutters : goal.add_left-requires-clause-cutters
add_left-requires-clause-cutters c =
    let low : 0 < c.args.absences.now.store.now.period = c.requires.fill.store.period_low in
    let high : c.args.absences.now.store.now.period ≤ 2 ^ 62 = c.requires.fill.store.period_high in
    let k = word_is c.period.result (let e = c.period.ensures in omega (arith, ints)) (let e = c.period.ensures in omega (arith, ints)) in
    subst (AreOfCell c.in-Some.zone) (sym (c.in_ok-cutters.ensures ∙ c.in_ok-zones.ensures)) (free_cutters c.args.absences.now.store.now c.requires.fill.store c.args.cell.now c.requires.chosen c.from-times.result (c.from-times.ensures ∙ ap (λ s. s.times) c.shape.ensures.value) _ (k ∙ c.period.ensures) c.in-Some.zone c.in-Some.ensures.some)

pub add_left-requires-clause-reach : goal.add_left-requires-clause-reach
add_left-requires-clause-reach c =
    let low : 0 < c.args.absences.now.store.now.period = c.requires.fill.store.period_low in
    let high : c.args.absences.now.store.now.period ≤ 2 ^ 62 = c.requires.fill.store.period_high in
    let k = word_is c.period.result (let e = c.period.ensures in omega (arith, ints)) (let e = c.period.ensures in omega (arith, ints)) in
    subst (λ ws. greatest_reach (c.in-Some.zone ∷ ws) + c.in-Some.zone.period ≤ 2 ^ 62) (sym (c.in_ok-cutters.ensures ∙ c.in_ok-zones.ensures)) (free_small c.args.absences.now.store.now c.requires.fill.store c.args.cell.now c.requires.chosen c.from-times.result (c.from-times.ensures ∙ ap (λ s. s.times) c.shape.ensures.value) _ (k ∙ c.period.ensures) c.in-Some.zone c.in-Some.ensures.some c.requires.fill.turned)

pub returns-clause-ok : goal.returns-clause-ok
returns-clause-ok c =
    let low : 0 < c.args.absences.now.store.now.period = c.requires.fill.store.period_low in
    let high : c.args.absences.now.store.now.period ≤ 2 ^ 62 = c.requires.fill.store.period_high in
    let k = word_is c.period.result (let e = c.period.ensures in omega (arith, ints)) (let e = c.period.ensures in omega (arith, ints)) in
    on_ok _ _ c.add_left.result (λ a h r. cell_added c.args.absences.now.store.now c.requires.fill.store c.args.cell.now c.requires.chosen c.from-times.result (c.from-times.ensures ∙ ap (λ s. s.times) c.shape.ensures.value) _ (k ∙ c.period.ensures) c.in-Some.zone c.in-Some.ensures.some
    c.args.absences.now.cap c.in_ok-cutters.cutters (c.in_ok-cutters.ensures ∙ c.in_ok-zones.ensures) c.args.out.now c.add_left.new.store c.requires.fill.valid c.requires.fill.like.shape h r a) c.add_left.ensures.ok

pub returns-clause-refused : goal.returns-clause-refused
returns-clause-refused c = λ e h r.
    let low : 0 < c.args.absences.now.store.now.period = c.requires.fill.store.period_low in
    let high : c.args.absences.now.store.now.period ≤ 2 ^ 62 = c.requires.fill.store.period_high in
    let k = word_is c.period.result (let e = c.period.ensures in omega (arith, ints)) (let e = c.period.ensures in omega (arith, ints)) in
    cell_refused c.args.absences.now.store.now c.requires.fill.store c.args.cell.now c.requires.chosen c.from-times.result (c.from-times.ensures ∙ ap (λ s. s.times) c.shape.ensures.value) _ (k ∙ c.period.ensures) c.in-Some.zone c.in-Some.ensures.some
    c.args.absences.now.cap c.in_ok-cutters.cutters (c.in_ok-cutters.ensures ∙ c.in_ok-zones.ensures) c.args.out.now c.add_left.new.store c.requires.fill.valid c.requires.fill.like.shape h r (c.add_left.ensures.refused e)

pub returns-clause-few : goal.returns-clause-few
returns-clause-few c =
    let low : 0 < c.args.absences.now.store.now.period = c.requires.fill.store.period_low in
    let high : c.args.absences.now.store.now.period ≤ 2 ^ 62 = c.requires.fill.store.period_high in
    let k = word_is c.period.result (let e = c.period.ensures in omega (arith, ints)) (let e = c.period.ensures in omega (arith, ints)) in
    let place = free_place c.args.absences.now.store.now c.requires.fill.store c.args.cell.now c.requires.chosen c.from-times.result (c.from-times.ensures ∙ ap (λ s. s.times) c.shape.ensures.value) _ (k ∙ c.period.ensures) c.in-Some.zone c.in-Some.ensures.some c.args.out.now c.requires.fill.like c.columns.ensures.valid in
    let period : c.in-Some.zone.period ≡ c.args.absences.now.store.now.period = place.period ∙ c.requires.fill.like.period in
    let residues : c.in-Some.zone.residues ≡ take c.args.absences.now.store.now.shape.times c.args.cell.now.residues = place.residues ∙ ap (λ s. take s.times c.args.cell.now.residues) c.requires.fill.like.shape in
    let most = same_most c.in-Some.zone (whole_zone c.args.absences.now.store.now c.args.cell.now) c.in_ok-cutters.cutters period residues
    ∙ ap (most_pieces (whole_zone c.args.absences.now.store.now c.args.cell.now)) (c.in_ok-cutters.ensures ∙ c.in_ok-zones.ensures) in
    on_ok _ _ c.add_left.result (λ g. subst (λ n. GrowsByAtMost n c.args.cell.now c.args.out.now c.add_left.new.store) most g) c.add_left.ensures.few
