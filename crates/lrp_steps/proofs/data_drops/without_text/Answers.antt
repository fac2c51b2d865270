-- Zone after zone, what is left of all tuples is held.
use Rattle.std.proofs.Common.{◌≡◌, ◌+◌, ◌-◌, ◌<◌, ◌≤◌, ◌^◌, sym, ap, subst, ◌∙◌, arith}
use Rattle.std.proofs.lemmas.Int.{ints}
use Rattle.lrp_tables.specs.Pieces.{ArePieces}
use Rattle.lrp_steps.specs.Tuples.{IsWithoutText}
use Rattle.lrp_tables.proofs.Pieced.{piece_fits, any_reach}
use Rattle.lrp_tables.proofs.Passing.{IsPassing, passing_none, passing_more, next_is, passed}
use Rattle.lrp_steps.proofs.NewZones.{begun_like, piece_zone}
use Rattle.lrp_steps.proofs.TextDropped.{fits_wider}
use Rattle.lrp_steps.proofs.data_drops.without_text.Goals as goal

pub loop-piece-init : goal.loop-piece-init
loop-piece-init c = passing_none (IsWithoutText c.args.place c.args.size) (λ high. high) 4294967295 c.args.store.now c.new-out.result (begun_like c.args.store.now c.new-out.result _ c.period.result c.shape-shape.ensures.valid c.new-out.ensures c.period.ensures (let e = ap (λ h. h.times) c.shape-shape.ensures.value in omega (arith, e)) (let e = ap (λ h. h.texts) c.shape-shape.ensures.value in omega (arith, e))) _ (subst (λ l. ArePieces c.args.store.now l) (sym c.into_iter-piece-iterator.ensures.into_iter_gives) c.of-piece-items.ensures)

pub add_without_text-requires-clause-valid : goal.add_without_text-requires-clause-valid
add_without_text-requires-clause-valid c =
    let grown = c.loop-piece.invariant.grown (2 ^ 62) (any_reach c.args.store.now c.shape-shape.ensures.valid) in
    grown.valid

pub add_without_text-requires-clause-zone : goal.add_without_text-requires-clause-zone
add_without_text-requires-clause-zone c =
    let is = next_is (IsWithoutText c.args.place c.args.size) (λ high. high) 4294967295 c.args.store.now c.new-out.result c.loop-piece.out c.loop-piece.out c.loop-piece.piece-iterator c.next.new.self c.in-Some.piece c.in-Some.ensures.steps c.loop-piece.invariant in
    piece_zone c.args.store.now c.shape-shape.ensures.valid c.in-Some.piece is

pub add_without_text-requires-clause-fits : goal.add_without_text-requires-clause-fits
add_without_text-requires-clause-fits c =
    let is = next_is (IsWithoutText c.args.place c.args.size) (λ high. high) 4294967295 c.args.store.now c.new-out.result c.loop-piece.out c.loop-piece.out c.loop-piece.piece-iterator c.next.new.self c.in-Some.piece c.in-Some.ensures.steps c.loop-piece.invariant in
    let grown = c.loop-piece.invariant.grown (2 ^ 62) (any_reach c.args.store.now c.shape-shape.ensures.valid) in
    let a = ap (λ v. v.period) c.new-out.ensures in
    let h : c.args.store.now.period ≤ 2 ^ 62 = c.shape-shape.ensures.valid.period_high in
    let e : c.new-out.result.period ≡ c.args.store.now.period = omega (arith, ints, a, c.period.ensures) in
    fits_wider c.args.store.now c.loop-piece.out c.args.place c.requires.place (grown.shape ∙ ap (λ v. v.shape) c.new-out.ensures ∙ ap (λ s. record { times = s.times; texts = s.texts - 1 }) c.shape-shape.ensures.value) (grown.period ∙ e) c.in-Some.piece (piece_fits c.args.store.now c.shape-shape.ensures.valid c.in-Some.piece is)

pub add_without_text-requires-clause-place : goal.add_without_text-requires-clause-place
add_without_text-requires-clause-place c =
    let grown = c.loop-piece.invariant.grown (2 ^ 62) (any_reach c.args.store.now c.shape-shape.ensures.valid) in
    let t : c.loop-piece.out.shape.texts ≡ c.args.store.now.shape.texts - 1 = ap (λ h. h.texts) grown.shape ∙ ap (λ v. v.shape.texts) c.new-out.ensures ∙ ap (λ h. h.texts - 1) c.shape-shape.ensures.value in
    let low : c.args.place < c.args.store.now.shape.texts = c.requires.place in
    omega (arith, t, low)

pub add_without_text-requires-clause-wide : goal.add_without_text-requires-clause-wide
add_without_text-requires-clause-wide c =
    let grown = c.loop-piece.invariant.grown (2 ^ 62) (any_reach c.args.store.now c.shape-shape.ensures.valid) in
    let t : c.loop-piece.out.shape.texts ≡ c.args.store.now.shape.texts - 1 = ap (λ h. h.texts) grown.shape ∙ ap (λ v. v.shape.texts) c.new-out.ensures ∙ ap (λ h. h.texts - 1) c.shape-shape.ensures.value in
    let low : c.args.place < c.args.store.now.shape.texts = c.requires.place in
    let high : c.args.store.now.shape.texts ≤ 8 = c.shape-shape.ensures.valid.texts in
    omega (arith, t, low, high)

pub loop-piece-preserved : goal.loop-piece-preserved
loop-piece-preserved c =
    let grown = c.loop-piece.invariant.grown (2 ^ 62) (any_reach c.args.store.now c.shape-shape.ensures.valid) in
    let t : c.loop-piece.out.shape.texts ≡ c.args.store.now.shape.texts - 1 = ap (λ h. h.texts) grown.shape ∙ ap (λ v. v.shape.texts) c.new-out.ensures ∙ ap (λ h. h.texts - 1) c.shape-shape.ensures.value in
    let low : c.args.place < c.args.store.now.shape.texts = c.requires.place in
    passing_more (IsWithoutText c.args.place c.args.size) (λ high. high) 4294967295 c.args.store.now c.new-out.result c.loop-piece.out c.add_without_text.new.out c.loop-piece.piece-iterator c.next.new.self c.in-Some.piece c.in-Some.ensures.steps c.loop-piece.invariant
    (c.loop-piece.out.shape.texts + 1) (omega (arith, t, low)) (λ low high le. le) c.in_ok-add_without_text.ensures.ok

pub returns : goal.returns
returns c =
    let grown = c.loop-piece.invariant.grown (2 ^ 62) (any_reach c.args.store.now c.shape-shape.ensures.valid) in
    let a = ap (λ v. v.period) c.new-out.ensures in
    let h : c.args.store.now.period ≤ 2 ^ 62 = c.shape-shape.ensures.valid.period_high in
    let e : c.new-out.result.period ≡ c.args.store.now.period = omega (arith, ints, a, c.period.ensures) in
    let t : c.loop-piece.out.shape.texts ≡ c.args.store.now.shape.texts - 1 = ap (λ h. h.texts) grown.shape ∙ ap (λ v. v.shape.texts) c.new-out.ensures ∙ ap (λ h. h.texts - 1) c.shape-shape.ensures.value in
    let low : c.args.place < c.args.store.now.shape.texts = c.requires.place in
    record {
      valid = grown.valid;
      times = ap (λ h. h.times) grown.shape ∙ ap (λ v. v.shape.times) c.new-out.ensures ∙ ap (λ h. h.times) c.shape-shape.ensures.value;
      texts = omega (arith, t, low);
      made = passed (IsWithoutText c.args.place c.args.size) (λ high. high) 4294967295 c.args.store.now c.new-out.result c.loop-piece.out (subst (λ l. IsPassing (IsWithoutText c.args.place c.args.size) (λ high. high) 4294967295 c.args.store.now c.new-out.result c.loop-piece.out l) c.in-None.ensures.steps.0 c.loop-piece.invariant)
          (ap (λ v. v.tables) c.new-out.ensures) (2 ^ 62) (any_reach c.args.store.now c.shape-shape.ensures.valid) e;
    }
