-- What a store has in the cell beneath a longer one.
use Rattle.std.proofs.Common.{◌≡◌, ℕ, zero, suc, ◌≤◌, List, [], length, map, take, get_or, sym, ap, subst, ◌∙◌, arith}
use Rattle.std.specs.Prelude.{ℤ, pos, Contains, ◌-ℤ◌, ◌+ℤ◌}
use Rattle.std.proofs.lemmas.Int.{ints}
use Rattle.std.proofs.lemmas.List.{length-map, length-take-le}
use Rattle.lrp_theory.specs.Divides.{Divides}
use Rattle.lrp_theory.specs.Entries.{node}
use Rattle.lrp_theory.proofs.Modulo.{Divides-+, Divides-is}
use Rattle.lrp_theory.proofs.Multiples.{Divides-trans}
use Rattle.lrp_model.specs.declared.tuples.Cell.{Cell}
use Rattle.lrp_zone.specs.Spread.{target}
use Rattle.lrp_zone.specs.Zones.{ZoneView, IsInCell, IsMember}
use Rattle.lrp_zone.proofs.Placed.{node_map}
use Rattle.lrp_store.specs.Stores.{StoreView, IsStore, LiesInCell, zone_of, tables_at, zones_at}
use Rattle.lrp_store.proofs.Counted.{lies_in, one_cell}
use Rattle.lrp_store.proofs.Held.{Table, cell_held, node_take}
use Rattle.lrp_systems.specs.Choices.{AgreesAlong}
use Rattle.lrp_minus.specs.Beneath.{IsCellBeneath}
use Rattle.lrp_tables.specs.Calls.{number_at}
use Rattle.lrp_minus.specs.Taking.{AgreesBeneath, IsContentBeneath, IsContentOf, IsSubtraction}
use Rattle.lrp_tables.specs.declared.names.Places.{Places}
use Rattle.lrp_minus.specs.declared.taking.Content.{Content}
use Rattle.lrp_minus.specs.declared.taking.Content.TheVariants.{Nothing, Everything}
use Rattle.lrp_minus.specs.declared.taking.Taking.{Taking}
use Rattle.lrp_minus.proofs.BeneathLaws.{numbers_front}
use Rattle.lrp_cutting.proofs.Lists.{from_map, in_map, in_none}

module _ (places : Places) (right : StoreView) (right_is : IsStore right) (cell below : Cell) (beneath : IsCellBeneath places right cell below) (count : length places.times ≡ right.shape.times) where
  lies : (xs : List ℤ) (ns : List ℕ) → AgreesBeneath places right.period cell xs ns → LiesInCell right.shape right.period below (map (node xs) places.times) (map (number_at ns) places.texts)
  lies xs ns a = record {
    count = length-map places.times (node xs) ∙ count;
    residues = λ i l.
        let pl : i ≤ length places.times = omega arith in
        subst (λ v. Divides (pos right.period) (v -ℤ node below.residues i)) (sym (node_map places.times xs i pl))
        (Divides-is (pos right.period) ((node xs (target places.times i) -ℤ node cell.residues (target places.times i)) +ℤ (node cell.residues (target places.times i) -ℤ node below.residues i))
        (node xs (target places.times i) -ℤ node below.residues i) (omega (arith, ints)) (Divides-+ (pos right.period) _ _ (a.residues i pl) (beneath.residues.each i l)));
    named = beneath.texts ∙ sym a.named;
  }

  -- where no zone is held there, no tuple is
  pub nothing_beneath : zones_at right below ≡ [] → IsContentBeneath places right cell Nothing
  nothing_beneath none = record {
    nothing = λ e xs ns a h.
        let same : h.cell ≡ below = one_cell right.shape right.period h.cell below _ _ (cell_held right right_is h.cell h.table h.held) beneath.proper (lies_in right right_is _ _ h) (lies xs ns a) in
        in_none (zone_of right below h.table) (subst (λ l. Contains l (zone_of right below h.table)) none (in_map (zone_of right below) (tables_at right below) h.table (subst (λ d. Contains (tables_at right d) h.table) same h.held)));
    everything = λ e. cc;
  }

  columns : length (take right.shape.times below.residues) ≡ right.shape.times
  columns = length-take-le right.shape.times below.residues (let e : length below.residues ≡ 8 = beneath.proper.residues.size in let l : right.shape.times ≤ 8 = right_is.times in omega arith)

  in_cell : (table : Table) (xs : List ℤ) (ns : List ℕ) → AgreesBeneath places right.period cell xs ns → IsInCell (zone_of right below table) (map (node xs) places.times)
  in_cell table xs ns a =
      let l = lies xs ns a in
      record {
        count = l.count ∙ sym columns;
        each = λ i h.
            let low : i ≤ right.shape.times = (let e = columns in omega arith) in
            subst (λ r. Divides (pos right.period) (node (map (node xs) places.times) i -ℤ r)) (sym (node_take right.shape.times below.residues i low)) (l.residues i low);
      }

  -- where a zone with all tuples of its cell is, each is
  pub zone_beneath : (z : ZoneView) → Contains (zones_at right below) z → (content : Content) → (content ≡ Everything → (xs : List ℤ) → IsInCell z xs → IsMember z xs) → (content ≡ Nothing → ⊥) → IsContentBeneath places right cell content
  zone_beneath z listed content all some = record {
    nothing = λ e. absurd (some e);
    everything = λ e xs ns a.
        let t = from_map (zone_of right below) (tables_at right below) z listed in
        record {
          cell = below;
          table = t.0;
          held = t.1;
          named = beneath.texts ∙ sym a.named;
          inside = subst (λ w. IsMember w (map (node xs) places.times)) (sym t.2) (all e _ (subst (λ w. IsInCell w (map (node xs) places.times)) t.2 (in_cell t.0 xs ns a)));
        };
  }

-- what is beneath a cell whose residues stand up to the last of the places is beneath the tuples that have them
module _ (t : Taking) (s : StoreView) (taking : IsSubtraction t s) (cell : Cell) (p : ℕ) (few : p ≤ 8) (last : t.last ≤ p) where
  before : (q : ℕ) → q ≤ length t.places.now.times → target t.places.now.times q ≤ p
  before zero h = omega arith
  before (suc q) h = let l : get_or t.places.now.times q 0 ≤ t.last = taking.last q (omega arith) in omega arith

  agrees_at : (xs : List ℤ) → AgreesAlong s.period t.frame.now.order cell.residues p xs → (r : ℕ) → r ≤ p → Divides (pos s.period) (node xs r -ℤ node cell.residues r)
  agrees_at xs a r h = subst (λ (q : ℕ). Divides (pos s.period) (node xs q -ℤ node cell.residues q)) (taking.order.own r (omega arith)) (a.each r h)

  agrees : (xs : List ℤ) (ns : List ℕ) → AgreesAlong s.period t.frame.now.order cell.residues p xs → take s.shape.texts cell.texts ≡ ns → AgreesBeneath t.places.now t.right.now.period cell xs ns
  agrees xs ns a named = record {
    residues = λ q h. Divides-trans (pos t.right.now.period) (pos s.period) _ taking.cut.multiple (agrees_at xs a (target t.places.now.times q) (before q h));
    named = ap (λ (l : List ℕ). map (number_at l) t.places.now.texts) (sym named) ∙ numbers_front s.shape.texts cell.texts t.places.now.texts taking.cut.among.in_texts;
  }

  pub content_is : (content : Content) → IsContentBeneath t.places.now t.right.now cell content → IsContentOf t s.period s.shape.texts cell p content
  content_is content b = record {
    nothing = λ e xs ns a named. b.nothing e xs ns (agrees xs ns a named);
    everything = λ e xs ns a named. b.everything e xs ns (agrees xs ns a named);
  }
