-- Zones without bounds.
use Rattle.std.proofs.Common.{◌≡◌, ℕ, ◌+◌, ◌*◌, ◌<◌, ◌≤◌, List, None, get_or, sym, subst, arith}
use Rattle.std.specs.Prelude.{ℤ, ◌-ℤ◌}
use Rattle.lrp_theory.specs.Bounds.{Within}
use Rattle.lrp_theory.specs.Entries.{entry, node}
use Rattle.lrp_zone.specs.Zones.{ZoneView, IsInCell, IsMember, columns_of}

-- a zone without a bound between its columns has all tuples of its cell
pub unbounded_zone : (z : ZoneView) → ((i j : ℕ) → i ≤ columns_of z → j ≤ columns_of z → entry z.bounds i j ≡ None) → (xs : List ℤ) → IsInCell z xs → IsMember z xs
unbounded_zone z none xs cell = record {
  cell = cell;
  meets = λ i j il jl. subst (λ e. Within (node xs i -ℤ node xs j) e) (sym (none i j il jl)) tt;
}

-- and so has one whose table has no bound
pub free_zone : (z : ZoneView) → columns_of z ≤ 8 → ((i : ℕ) → i < 81 → get_or z.bounds i None ≡ None) → (xs : List ℤ) → IsInCell z xs → IsMember z xs
free_zone z few none xs cell = unbounded_zone z (λ i j il jl. none (9 * i + j) (omega arith)) xs cell
