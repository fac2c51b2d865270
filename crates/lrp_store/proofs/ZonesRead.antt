-- The zones of a cell are read one after another.
use Rattle.std.proofs.Common.{◌≡◌, List, [], ◌∷◌, ◌++◌, Option, ap, sym, ◌∙◌, append_assoc}
use Rattle.std.specs.Prelude.{ℤ, map}
use Rattle.std.proofs.lemmas.List.{append-nil}
use Rattle.lrp_model.specs.declared.tuples.Cell.{Cell}
use Rattle.lrp_zone.specs.Zones.{ZoneView}
use Rattle.lrp_store.specs.Stores.{StoreView, zone_of}

-- one more
pub one_read : (s : StoreView) (c : Cell) (t : List (Option ℤ)) (rest left : List (List (Option ℤ))) (made new all : List ZoneView) (z : ZoneView) → left ≡ t ∷ rest → z ≡ zone_of s c t → new ≡ made ++ z ∷ [] → made ++ map (zone_of s c) left ≡ all → new ++ map (zone_of s c) rest ≡ all
one_read s c t rest left made new all z e ez en h =
    ap (λ l. l ++ map (zone_of s c) rest) en ∙ append_assoc made (z ∷ []) (map (zone_of s c) rest) ∙ ap (λ x. made ++ x ∷ map (zone_of s c) rest) ez ∙ ap (λ l. made ++ map (zone_of s c) l) (sym e) ∙ h

-- none is left
pub all_read : (s : StoreView) (c : Cell) (left : List (List (Option ℤ))) (made all : List ZoneView) → left ≡ [] → made ++ map (zone_of s c) left ≡ all → made ≡ all
all_read s c left made all e h = sym (append-nil made) ∙ ap (λ l. made ++ map (zone_of s c) l) (sym e) ∙ h
