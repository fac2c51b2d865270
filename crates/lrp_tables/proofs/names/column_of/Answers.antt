-- The place is that of the first equal name.
use Rattle.std.proofs.Common.{◌≡◌, ◌<◌, ◌≤◌, ◌+◌, ◌-◌, Some, slice_get, length, true, refl, subst, sym, ap, ◌∙◌, arith, below_more}
use Rattle.std.specs.Prelude.{bytes_eq}
use Rattle.std.proofs.lemmas.Option.{slice_get_read, slice_get_within}
use Rattle.std.specs.Cmp.Lexicographic.{bytes_decides}
use Rattle.lrp_tables.proofs.Joining.{place_in, true_is_not_false}
use Rattle.lrp_tables.proofs.Named.{some_is}
use Rattle.lrp_tables.proofs.names.column_of.Goals as goal

pub returns-then-eq : goal.returns-then-eq
returns-then-eq c =
    λ known.
    let there : slice_get c.args.all.now c.loop-place.place ≡ Some c.other-item.result = subst (λ l. slice_get l c.loop-place.place ≡ Some c.other-item.result) c.as_slice-other-items.ensures (slice_get_read c.as_slice-other-items.result.now (length c.as_slice-other-items.result.now) c.loop-place.place c.other-item.result refl c.loop-place-test.true c.other-item.is) in
    let same : c.args.name.now ≡ c.other-item.result = (bytes_decides c.args.name.now c.other-item.result).0 (sym c.eq.ensures ∙ c.if-eq.true) in
    let e : c.loop-place.place + 1 - 1 ≡ c.loop-place.place = omega arith in
    (omega arith, ap (slice_get c.args.all.now) e ∙ there ∙ ap Some (sym same))

pub loop-place-preserved : goal.loop-place-preserved
loop-place-preserved c =
    below_more _ _ c.loop-place.invariant
    (λ e.
    let there : slice_get c.args.all.now c.loop-place.place ≡ Some c.other-item.result = subst (λ l. slice_get l c.loop-place.place ≡ Some c.other-item.result) c.as_slice-other-items.ensures (slice_get_read c.as_slice-other-items.result.now (length c.as_slice-other-items.result.now) c.loop-place.place c.other-item.result refl c.loop-place-test.true c.other-item.is) in
    let same : c.args.name.now ≡ c.other-item.result = some_is (sym e ∙ there) in
    let yes_so : bytes_eq c.args.name.now c.other-item.result ≡ true = (bytes_decides c.args.name.now c.other-item.result).1 same in
    true_is_not_false (sym yes_so ∙ sym c.eq.ensures ∙ c.if-eq.false))

pub returns : goal.returns
returns c =
    λ known.
    let at = place_in c.args.all.now c.args.name.now known in
    let low : at.0 < length c.args.all.now = slice_get_within c.args.all.now at.0 c.args.name.now at.1 in
    let past : length c.args.all.now ≤ c.loop-place.place = subst (λ l. length l ≤ c.loop-place.place) c.as_slice-other-items.ensures c.loop-place-test.false in
    absurd (c.loop-place.invariant at.0 (omega arith) at.1)
