-- Whether the kept reach is above its limit, by how far it is counted.
use Rattle.std.proofs.Common.{◌≡◌, ◌<◌, ◌≤◌, ℕ, true, false, List, ltb, subst, arith}
use Rattle.std.proofs.lemmas.Bool.{ltb-false, ltb-true}
use Rattle.lrp_model.specs.declared.relations.Column.{Column}
use Rattle.lrp_limits.specs.Capped.{capped}
use Rattle.lrp_kept.specs.Held.{greatest_bounds}
use Rattle.lrp_kept.specs.Sizes.{scaled_over}
use Rattle.lrp_kept.specs.declared.disjuncts.Disjunct.{Disjunct}
use Rattle.lrp_kept.specs.declared.rows.HeldRelation.{HeldRelation}

pub above_limit : (r n : ℕ) → r ≡ capped n → ltb 4611686018427387904 r ≡ true → 4611686018427387904 < n
above_limit r n e t = let l : 4611686018427387904 < r = ltb-true 4611686018427387904 r t in omega (arith, e, l)

pub within_limit : (r n : ℕ) → r ≡ capped n → ltb 4611686018427387904 r ≡ false → n ≤ 4611686018427387904
within_limit r n e t = let l : r ≤ 4611686018427387904 = ltb-false 4611686018427387904 r t in omega (arith, e, l)

pub same_reach : (period : ℕ) (rs relations : List HeldRelation) (cs columns : List Column) (ds disjuncts : List Disjunct) (r : ℕ) → rs ≡ relations → cs ≡ columns → ds ≡ disjuncts → r ≡ capped (scaled_over (greatest_bounds rs) period cs ds) → r ≡ capped (scaled_over (greatest_bounds relations) period columns disjuncts)
same_reach period rs relations cs columns ds disjuncts r e f g h =
    subst (λ x. r ≡ capped (scaled_over (greatest_bounds x) period columns disjuncts)) e
    (subst (λ x. r ≡ capped (scaled_over (greatest_bounds rs) period x disjuncts)) f (subst (λ x. r ≡ capped (scaled_over (greatest_bounds rs) period cs x)) g h))
