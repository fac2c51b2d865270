-- The order of values that may be none: what is no value comes after each value.
use Rattle.std.specs.Prelude.{Option, Some, None}

module _ {V : Type 0} (leads : V → V → Type 0) where
  abbrev pub leads_by : Option V → Option V → Type 0
  leads_by (Some a) (Some b) = leads a b
  leads_by (Some a) None = Unit {0}
  leads_by None (Some b) = ⊥
  leads_by None None = Unit {0}

  pub itself_by : ((a : V) → leads a a) → (a : Option V) → leads_by a a
  itself_by itself (Some a) = itself a
  itself_by itself None = tt

  pub onward_by : ((a b c : V) → leads a b → leads b c → leads a c) → (a b c : Option V) → leads_by a b → leads_by b c → leads_by a c
  onward_by onward (Some a) (Some b) (Some c) p q = onward a b c p q
  onward_by onward (Some a) (Some b) None p q = tt
  onward_by onward (Some a) None (Some c) p q = absurd q
  onward_by onward (Some a) None None p q = tt
  onward_by onward None (Some b) c p q = absurd p
  onward_by onward None None (Some c) p q = absurd q
  onward_by onward None None None p q = tt
