-- Whether a tuple is in some of a list of zones, without the law of excluded middle.
use Rattle.std.proofs.Common.{List}
use Rattle.std.specs.Prelude.{ℤ}
use Rattle.lrp_model.proofs.Decided.{Decided, decided_iff, decided_some as decided_any}
use Rattle.lrp_zone.specs.Zones.{ZoneView, IsMember}
use Rattle.lrp_store.specs.Settled.{InSome}
use Rattle.lrp_zone.proofs.Membership.{decided_member}

pub decided_some : (zs : List ZoneView) (xs : List ℤ) → Decided (InSome zs xs)
decided_some zs xs = decided_iff (λ h. record { zone = h.0; listed = h.1; inside = h.2 }) (λ s. (s.zone, s.listed, s.inside)) (decided_any (λ z. IsMember z xs) (λ z. decided_member z xs) zs)
