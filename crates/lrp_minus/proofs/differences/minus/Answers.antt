-- What is left is the table of the difference.
use Rattle.std.proofs.Common.{◌≡◌, ◌+◌, ◌*◌, ℕ, Err, refl, ap, sym, subst, ◌∙◌, length}
use Rattle.std.specs.Prelude.{ℤ, pos, nat_abs}
use Rattle.lrp_theory.specs.Divides.{Divides}
use Rattle.lrp_store.specs.Growing.{IsAdded}
use Rattle.lrp_store.specs.Stores.{HasReach}
use Rattle.lrp_tables.specs.Steps.{BothReach}
use Rattle.lrp_minus.specs.Cutters.{CanSubtract, IsSpared}
use Rattle.lrp_minus.proofs.DifferenceLaws.{all_placed, can_subtract, fresh_valid, minus_few, minus_many, minus_reach, minus_table, passed_abs, passed_pos, started, without_cells}
use Rattle.std.specs.FinMap as finite
use Rattle.std.specs.Prelude.{Contains}
use Rattle.lrp_minus.specs.Counts.{cell_modulo, most_spared}
use Rattle.lrp_minus.proofs.Growth.{grows_from_none, none_held}
use Rattle.lrp_minus.proofs.differences.minus.Goals as goal

pub prove_eq-unreachable-requires : goal.prove_eq-unreachable-requires
prove_eq-unreachable-requires c =
    let placed : length c.in_ok-places.places.times ≡ c.args.right.now.store.shape.times = all_placed c.args.left.now c.args.right.now c.shape.ensures.valid c.in_ok-places.places c.in_ok-places.ensures.times c.in_ok-places.ensures.texts 1 in
    c.if-prove_eq.true (c.len.ensures ∙ placed ∙ sym (ap (λ s. s.times) c.shape.ensures.value) ∙ sym c.from.ensures)

pub add_difference-requires : goal.add_difference-requires
add_difference-requires c =
    let fresh : c.new-out.result ≡ without_cells c.args.left.now.store.shape (nat_abs c.args.period) = started c.new-out.result _ _ _ _ c.new-out.ensures c.shape-2.ensures.value (passed_abs c.args.period c.requires.low c.requires.high) in
    record {
      valid = (fresh_valid c.args.left.now.store c.shape-2.ensures.valid c.args.period c.requires.low c.requires.high c.new-out.result fresh);
      shape = ap (λ s. s.shape) fresh;
      subtract = subst (CanSubtract c.in_ok-places.places c.args.left.now.store c.args.right.now.store) (sym (ap (λ s. s.period) fresh))
          (can_subtract c.args.left.now c.args.right.now c.shape.ensures.valid c.in_ok-places.places c.in_ok-places.ensures.times c.in_ok-places.ensures.texts (nat_abs c.args.period) c.shape-2.ensures.valid
          (subst (λ (k : ℤ). Divides (pos c.args.left.now.store.period) k) (passed_pos c.args.period c.requires.low) c.requires.left_period)
          (subst (λ (k : ℤ). Divides (pos c.args.right.now.store.period) k) (passed_pos c.args.period c.requires.low) c.requires.right_period) c.requires.high c.requires.left_reach c.requires.right_reach);
    }

pub returns-in-Ok-clause-difference : goal.returns-in-Ok-clause-difference
returns-in-Ok-clause-difference c =
    let fresh : c.new-out.result ≡ without_cells c.args.left.now.store.shape (nat_abs c.args.period) = started c.new-out.result _ _ _ _ c.new-out.ensures c.shape-2.ensures.value (passed_abs c.args.period c.requires.low c.requires.high) in
    let within : (high : ℕ) → BothReach c.args.left.now c.args.right.now high → HasReach c.add_difference.new.out (high + 2 * nat_abs c.args.period) =
    λ high h. minus_reach c.args.left.now c.args.right.now c.shape.ensures.valid c.in_ok-places.places c.in_ok-places.ensures.times c.in_ok-places.ensures.texts (nat_abs c.args.period) c.args.setting.now.cap c.new-out.result c.add_difference.new.out fresh high
    (subst (λ (n : ℕ). IsAdded (IsSpared c.in_ok-places.places c.args.left.now.store c.args.right.now.store) c.args.setting.now.cap (high + 2 * n) c.new-out.result c.add_difference.new.out) (ap (λ s. s.period) fresh) (c.in-Ok.ensures.ok high h.left_reach h.right_reach)) in
    record {
      reach = within;
      step = λ domain ascends numbered. record {
        table = minus_table c.args.left.now c.args.right.now c.shape.ensures.valid c.in_ok-places.places c.in_ok-places.ensures.times c.in_ok-places.ensures.texts (nat_abs c.args.period) c.shape-2.ensures.valid domain ascends numbered c.args.setting.now.cap c.new-out.result c.add_difference.new.out fresh (fresh_valid c.args.left.now.store c.shape-2.ensures.valid c.args.period c.requires.low c.requires.high c.new-out.result fresh) _ (c.in-Ok.ensures.ok _ c.requires.left_reach c.requires.right_reach) _ c.in_ok-copy.ensures c.in_ok-copy-2.ensures refl;
        reach = within;
        few = minus_few c.args.left.now c.args.right.now c.shape.ensures.valid c.in_ok-places.places c.in_ok-places.ensures.times c.in_ok-places.ensures.texts (nat_abs c.args.period) c.shape-2.ensures.valid domain ascends numbered c.args.setting.now.cap c.new-out.result c.add_difference.new.out fresh (fresh_valid c.args.left.now.store c.shape-2.ensures.valid c.args.period c.requires.low c.requires.high c.new-out.result fresh) _ (c.in-Ok.ensures.ok _ c.requires.left_reach c.requires.right_reach);
        many = λ e. cc;
      };
    }

pub returns-in-Ok-clause-valid : goal.returns-in-Ok-clause-valid
returns-in-Ok-clause-valid c = (c.in-Ok.ensures.ok _ c.requires.left_reach c.requires.right_reach).grown.valid

pub returns-in-Err-TooManyCells-clause-difference : goal.returns-in-Err-TooManyCells-clause-difference
returns-in-Err-TooManyCells-clause-difference c =
    let fresh : c.new-out.result ≡ without_cells c.args.left.now.store.shape (nat_abs c.args.period) = started c.new-out.result _ _ _ _ c.new-out.ensures c.shape-2.ensures.value (passed_abs c.args.period c.requires.low c.requires.high) in
    record {
      reach = tt;
      step = λ domain ascends numbered. record {
        table = tt;
        reach = tt;
        few = tt;
        many = λ e. minus_many c.args.left.now c.args.right.now c.shape.ensures.valid c.in_ok-places.places c.in_ok-places.ensures.times c.in_ok-places.ensures.texts (nat_abs c.args.period) c.shape-2.ensures.valid domain ascends numbered c.args.setting.now.cap c.new-out.result c.add_difference.new.out fresh (fresh_valid c.args.left.now.store c.shape-2.ensures.valid c.args.period c.requires.low c.requires.high c.new-out.result fresh) _
            (c.add_difference.ensures.refused (c.in-Err-TooManyCells.is ∙ ap Err c.in-Err-TooManyCells.field-0-is) _ c.requires.left_reach c.requires.right_reach);
      };
    }

pub returns-in-Ok-clause-few : goal.returns-in-Ok-clause-few
returns-in-Ok-clause-few c =
    let fresh : c.new-out.result ≡ without_cells c.args.left.now.store.shape (nat_abs c.args.period) = started c.new-out.result _ _ _ _ c.new-out.ensures c.shape-2.ensures.value (passed_abs c.args.period c.requires.low c.requires.high) in
    record { each = λ n at. grows_from_none (λ cell. Contains (finite.keys c.args.left.now.store.tables) (cell_modulo c.args.left.now.store.period cell)) (λ cell. most_spared c.args.left.now.store n (cell_modulo c.args.left.now.store.period cell)) c.new-out.result c.add_difference.new.out (none_held c.new-out.result (ap (λ s. s.tables) fresh)) (c.in-Ok.ensures.few n at) }
