-- Labels stay those of their rows where one is put in or taken out.
use Rattle.std.proofs.Common.{◌≡◌, ◌≢◌, ◌<◌, inl, inr, ℕ, zero, suc, List, [], ◌∷◌, ◌++◌, length, get_or, Option, Some, None, Bor, false, refl, sym, ap, subst, ◌∙◌}
use Rattle.std.specs.Prelude.{◌↔◌, ◌≤◌, HoldsAt, IfSome, IsSomeAnd, IsTrue, MatchOption, slice_get, slice_index, slice_set}
use Rattle.std.proofs.lemmas.List.{get_or-set_same, get_or-set_other, length-set}
use Rattle.std.proofs.lemmas.Option.{slice_get-get_or, slice_get_read, slice_get_within}
use Rattle.std.proofs.lemmas.Bool.{true≢false}
use Rattle.slab.specs.Slab.{Slab, Updates, get}
use Rattle.lrp_model.specs.declared.relations.Row.{Row}
use Rattle.lrp_steps.specs.Patterns.{AreKnown, IsKnown}
use Rattle.lrp_kept.specs.EqualRows.{AreEqualRows}
use Rattle.lrp_kept.specs.Labels.{AreLabelled, ExtendsLabels, HasOtherText, IsLabelOf, IsOtherText, IsTextLabelOf, IsOtherTextFor}
use Rattle.lrp_kept.specs.declared.outlines.Outline.{Outline}
use Rattle.lrp_kept.specs.declared.rows.HeldRow.{HeldRow}
use Rattle.lrp_kept.specs.declared.sources.RowLabel.{RowLabel}
use Rattle.lrp_kept.specs.declared.sources.TextLabel.{TextLabel}
use Rattle.lrp_zone.proofs.Cases.{eq_or}
use Rattle.lrp_kept.proofs.JoinedUp.{same_some}

none_some : {X : Type 0} (a : X) → None ≡ Some a → ⊥
none_some a e = cc

-- ---- lists of labels

-- what has a place keeps it
stays : (xs ys : List RowLabel) (k : ℕ) (v : RowLabel) → slice_get xs k ≡ Some v → slice_get (xs ++ ys) k ≡ Some v
stays [] ys k v e = absurd (none_some v e)
stays (x ∷ xs) ys zero v e = e
stays (x ∷ xs) ys (suc k) v e = stays xs ys k v e

pub none_longer : (labels : List RowLabel) → ExtendsLabels labels labels
none_longer labels = record { each = λ key label at. at }

pub one_longer : (old mid : List RowLabel) (label : RowLabel) → ExtendsLabels old mid → ExtendsLabels old (mid ++ label ∷ [])
one_longer old mid label x = record { each = λ key l at. stays mid (label ∷ []) key l (x.each key l at) }

set_at : (xs : List RowLabel) (k : ℕ) (v : RowLabel) → k < length xs → slice_get (slice_set xs k v) k ≡ Some v
set_at xs k v low = slice_get-get_or (slice_set xs k v) k v (subst (λ n. k < n) (sym (length-set xs k v)) low) ∙ ap Some (get_or-set_same xs k v v low)

set_beside : (xs : List RowLabel) (i k : ℕ) (v w : RowLabel) → k ≢ i → slice_get xs k ≡ Some w → slice_get (slice_set xs i v) k ≡ Some w
set_beside xs i k v w other at =
    let low : k < length xs = slice_get_within xs k w at in
    slice_get-get_or (slice_set xs i v) k w (subst (λ n. k < n) (sym (length-set xs i v)) low)
    ∙ ap Some (get_or-set_other xs i k v w other ∙ same_some (get_or xs k w) w (sym (slice_get-get_or xs k w low) ∙ at))

-- ---- rows and their labels

no_row : (rows : Slab HeldRow) (key : ℕ) (source : HeldRow) → rows.slots ≡ [] → get rows key ≡ Some source → ⊥
no_row rows key source none held = none_some source (sym (ap (λ slots. get_or slots key None) none) ∙ held)

pub none_labelled : (rows : Slab HeldRow) (labels : List RowLabel) → rows.slots ≡ [] → AreLabelled rows labels
none_labelled rows labels none = record { each = λ key source held. absurd (no_row rows key source none held) }

pub longer_labelled : (rows : Slab HeldRow) (old new : List RowLabel) → ExtendsLabels old new → AreLabelled rows old → AreLabelled rows new
longer_labelled rows old new x l = record { each = λ key source held. let y = l.each key source held in (y.0, x.each key y.0 y.1, y.2) }

pub larger_labelled : (old new : Slab HeldRow) (labels : List RowLabel) → new ≡ record old { capacity = new.capacity } → AreLabelled old labels → AreLabelled new labels
larger_labelled old new labels same l = record { each = λ key source held. l.each key source (sym (ap (λ rows. get rows key) same) ∙ held) }

pub one_labelled : (old new : Slab HeldRow) (labels : List RowLabel) (key : ℕ) (source : HeldRow) (label : RowLabel) → Updates old new key (Some source) → key < length labels → IsLabelOf source label → AreLabelled old labels → AreLabelled new (slice_set labels key label)
one_labelled old new labels key source label put low is l = record {
  each = λ k s held. elim (eq_or k key) [
    | inl e ↦
        let same : source ≡ s = same_some source s (sym put.changed ∙ sym (ap (get new) e) ∙ held) in
        (label, subst (λ n. slice_get (slice_set labels key label) n ≡ Some label) (sym e) (set_at labels key label low), subst (λ it. IsLabelOf it label) same is)
    | inr d ↦
        let y = l.each k s (sym (put.others k d) ∙ held) in
        (y.0, set_beside labels key k label y.0 d y.1, y.2)
  ];
}

pub one_less : (old new : Slab HeldRow) (labels : List RowLabel) (key : ℕ) → Updates old new key None → AreLabelled old labels → AreLabelled new labels
one_less old new labels key gone l = record {
  each = λ k s held. elim (eq_or k key) [
    | inl e ↦ absurd (none_some s (sym gone.changed ∙ sym (ap (get new) e) ∙ held))
    | inr d ↦ l.each k s (sym (gone.others k d) ∙ held)
  ];
}

-- ---- what labels tell

-- a text that is known is the number at its place
known_is : (texts : List (Option ℕ)) (place text : ℕ) (ns : List ℕ) → slice_get texts place ≡ Some (Some text) → AreKnown texts ns → slice_index ns place ≡ text
known_is texts place text ns at known =
    let low : place < length texts = slice_get_within texts place (Some text) at in
    let is : get_or texts place None ≡ Some text = same_some (get_or texts place None) (Some text) (sym (slice_get-get_or texts place None low) ∙ at) in
    subst (λ o. IsKnown o (slice_index ns place)) is (known.each place)

other_text : (source : HeldRow) (disjunct atom : ℕ) (label : TextLabel) (other : Outline) → IsTextLabelOf source.sketches.items label → label.disjunct ≡ disjunct → label.atom ≡ atom → IsOtherText label other → HasOtherText source disjunct atom other
other_text source disjunct atom label other of d a o = record {
  sketch = of.sketch;
  listed = of.listed;
  disjunct_is = of.is.disjunct_is ∙ d;
  atom_is = of.is.atom_is ∙ a;
  apart = λ ns own theirs. o.differs (sym (known_is other.texts label.place o.text ns o.there theirs) ∙ known_is of.sketch.outline.texts label.place label.text ns of.is.text_is own);
}

pub told_other : (source : HeldRow) (disjunct atom : ℕ) (label : Option TextLabel) (other : Outline) → IfSome label (IsTextLabelOf source.sketches.items) → IsSomeAnd label (λ text. IsOtherTextFor text disjunct atom other) → HasOtherText source disjunct atom other
told_other source disjunct atom None other of told = absurd told
told_other source disjunct atom (Some label) other of told = other_text source disjunct atom label other of told.disjunct_is told.atom_is told.text

-- what is read of the labels stands there
pub label_at : (labels : List RowLabel) (key : ℕ) (found : Option (Bor RowLabel)) (label : Bor RowLabel) → found ≡ Some label → IfSome found (λ x. x.now ≡ get_or labels key x.now) → MatchOption found (length labels ≤ key) (λ x. (key < length labels) × HoldsAt (λ y. x.now ≡ y) labels key) → slice_get labels key ≡ Some label.now
label_at labels key None label is same there = absurd (none_some label is)
label_at labels key (Some x) label is same there = slice_get_read labels (length labels) key x.now refl there.0 same ∙ ap (λ (y : Bor RowLabel). Some y.now) (same_some x label is)

-- no row under the key is equal
pub other_row : (o : Option HeldRow) (row : Row) → ((source : HeldRow) → o ≡ Some source → AreEqualRows source.row row → ⊥) → MatchOption o (false ≡ false) (λ source. IsTrue false ↔ AreEqualRows source.row row)
other_row None row differs = refl
other_row (Some source) row differs = ((λ t. absurd (true≢false (sym t))), (λ equal. absurd (differs source refl equal)))

-- the label under a key is that of the row there
pub label_is : (rows : Slab HeldRow) (labels : List RowLabel) (key : ℕ) (label : RowLabel) (source : HeldRow) → AreLabelled rows labels → slice_get labels key ≡ Some label → get rows key ≡ Some source → IsLabelOf source label
label_is rows labels key label source l at held = let y = l.each key source held in subst (IsLabelOf source) (same_some y.0 label (sym y.1 ∙ at)) y.2
