-- A store without cells has no numbers of texts.
use Rattle.std.proofs.Common.{◌≡◌, List, Option, Some, None, ap, ◌∙◌}
use Rattle.std.specs.Prelude.{IsSome}
use Rattle.std.specs.FinMap as finite
use Rattle.std.specs.FinMap.{get-empty}
use Rattle.lrp_slots.specs.Lists.{cell_cmp}
use Rattle.lrp_model.specs.Texts.{Text}
use Rattle.lrp_store.specs.Stores.{StoreView}
use Rattle.lrp_store.specs.Tables.{AreNumbered}

nothing_there : {X : Type 0} (o : Option X) → o ≡ None → IsSome o → ⊥
nothing_there None e k = absurd (cc)
nothing_there (Some x) e k = cc

pub none_numbered : (domain : List Text) (s : StoreView) → s.tables ≡ finite.empty → AreNumbered domain s
none_numbered domain s empty cell i some low = absurd (nothing_there (finite.get s.tables cell) (ap (λ m. finite.get m cell) empty ∙ get-empty cell_cmp cell) some)
