-- Sets of numbers with texts that are the same but for how texts are named: they have the same periods and as many rows.
use Rattle.std.proofs.Common.{◌≡◌, ◌∙◌, ℕ, ◌+◌, ◌<◌, List, map, Contains, refl, sym, ap, ap₂, subst, arith}
use Rattle.std.specs.Prelude.{ℤ, pos, ◌-ℤ◌, ◌≤ℤ◌}
use Rattle.std.proofs.lemmas.List.{length-map}
use Rattle.std.proofs.lemmas.Int.{ints}
use Rattle.lrp_theory.specs.Residues.{IsFloor}
use Rattle.lrp_top.proofs.Lists.{apart_map, in_map, of_map}
use Rattle.lrp_canon.specs.Rows.{AreJust, HasRowCount, IsLeastPeriod, IsOpenBelow, IsSetOfRows, IsStart, PeriodicRow, Moment, IsInPeriodicRow}

-- ---- sets with other names

-- the texts of the one set have names in the other, there and back, and they have the same numbers
pub record IsRenamed {S T : Type 0} (A : ℤ → List S → Type 0) (B : ℤ → List T → Type 0) : Type 0 where
  pub named : List S → List T
  pub back : List T → List S
  pub to : (x : ℤ) (ns : List S) → A x ns → B x (named ns)
  pub from : (x : ℤ) (ts : List T) → B x ts → A x (back ts)
  pub again : (x : ℤ) (ns : List S) → A x ns → back (named ns) ≡ ns
  pub there : (x : ℤ) (ts : List T) → B x ts → named (back ts) ≡ ts

abbrev turned : {S T : Type 0} (A : ℤ → List S → Type 0) (B : ℤ → List T → Type 0) → IsRenamed A B → IsRenamed B A
turned A B r = record { named = r.back; back = r.named; to = r.from; from = r.to; again = r.there; there = r.again }

-- a row and a moment with other names
abbrev named_row : {S T : Type 0} → (List S → List T) → PeriodicRow S → PeriodicRow T
named_row f row = record { texts = f row.texts; residue = row.residue; least = row.least; most = row.most }

abbrev named_moment : {S T : Type 0} → (List S → List T) → Moment S → Moment T
named_moment f p = record { number = p.number; texts = f p.texts }

-- ---- periods

set_named : {S T : Type 0} (A : ℤ → List S → Type 0) (B : ℤ → List T → Type 0) → IsRenamed A B → (period : ℕ) → IsSetOfRows A period → IsSetOfRows B period
set_named A B r period h = record {
  positive = h.positive;
  rows = map (named_row r.named) h.rows;
  sound = λ x ts s.
      let at = of_map (named_row r.named) h.rows s.row s.listed in
      let inside : IsInPeriodicRow period (named_row r.named at.0) x ts = subst (λ row. IsInPeriodicRow period row x ts) (sym at.2) s.inside in
      let held : A x at.0.texts = h.sound x at.0.texts (record { row = at.0; listed = at.1; inside = record { named = refl; residue = inside.residue; low = inside.low; high = inside.high } }) in
      subst (B x) inside.named (r.to x at.0.texts held);
  whole = λ x ts b.
      let s = h.whole x (r.back ts) (r.from x ts b) in
      record {
        row = named_row r.named s.row;
        listed = in_map (named_row r.named) h.rows s.row s.listed;
        inside = record { named = ap r.named s.inside.named ∙ r.there x ts b; residue = s.inside.residue; low = s.inside.low; high = s.inside.high };
      };
}

pub period_named : {S T : Type 0} (A : ℤ → List S → Type 0) (B : ℤ → List T → Type 0) → IsRenamed A B → (period : ℕ) → IsLeastPeriod A period → IsLeastPeriod B period
period_named A B r period h = record {
  is = set_named A B r period h.is;
  least = λ other o. h.least other (set_named B A (turned A B r) other o);
}

-- two sets with the same members
pub same_sets : {T : Type 0} (A B : ℤ → List T → Type 0) → ((x : ℤ) (ts : List T) → A x ts → B x ts) → ((x : ℤ) (ts : List T) → B x ts → A x ts) → IsRenamed A B
same_sets A B to from = record { named = λ ts. ts; back = λ ts. ts; to = to; from = from; again = λ x ts a. refl; there = λ x ts b. refl }

-- ---- counts

-- each integer has a floor among the numbers of a residue
abbrev pub HaveFloors : Type 0
HaveFloors = (k r x : ℤ) → pos 1 ≤ℤ k → (f : ℤ) × IsFloor k r x f

-- moments of a kind
just_named : {S T : Type 0} (F : Moment S → Type 0) (G : Moment T → Type 0) (f : List S → List T) (g : List T → List S) → ((p : Moment S) → F p → G (named_moment f p)) → ((q : Moment T) → G q → F (named_moment g q))
    → ((p : Moment S) → F p → g (f p.texts) ≡ p.texts) → ((q : Moment T) → G q → f (g q.texts) ≡ q.texts) → (moments : List (Moment S)) → AreJust F moments → AreJust G (map (named_moment f) moments)
just_named {S} {T} F G f g to from again there moments h = record {
  apart = apart_map (named_moment f) moments (λ p z pc zc e. sym (back p (h.to p pc)) ∙ ap (named_moment g) e ∙ back z (h.to z zc)) h.apart;
  to = λ q c. let at = of_map (named_moment f) moments q c in subst G at.2 (to at.0 (h.to at.0 at.1));
  from = λ q k. subst (Contains (map (named_moment f) moments)) (ap (λ ts. moment q.number ts) (there q k)) (in_map (named_moment f) moments (named_moment g q) (h.from (named_moment g q) (from q k)));
}
  where
    moment : ℤ → List T → Moment T
    moment x ts = record { number = x; texts = ts }

    back : (p : Moment S) → F p → named_moment g (named_moment f p) ≡ p
    back p k = ap (λ ns. own p.number ns) (again p k)
      where
        own : ℤ → List S → Moment S
        own x ns = record { number = x; texts = ns }

module _ {S T : Type 0} (A : ℤ → List S → Type 0) (B : ℤ → List T → Type 0) (r : IsRenamed A B) (floors : HaveFloors) (period : ℕ) (positive : 0 < period) where
  start_named : (p : Moment S) → IsStart A period p → IsStart B period (named_moment r.named p)
  start_named p h = record {
    inside = r.to p.number p.texts h.inside;
    first = λ b. h.first (subst (A (p.number -ℤ pos period)) (r.again p.number p.texts h.inside) (r.from (p.number -ℤ pos period) (r.named p.texts) b));
  }

  open_named : (p : Moment S) → IsOpenBelow A period p → IsOpenBelow B period (named_moment r.named p)
  open_named p h = record { residue = h.residue; bound = h.bound; all = λ x low same. r.to x p.texts (h.all x low same) }

  -- such a moment has the texts of a number
  open_again : (p : Moment S) → IsOpenBelow A period p → r.back (r.named p.texts) ≡ p.texts
  open_again p h = let floor = floors (pos period) p.number h.bound (omega (arith, ints)) in r.again floor.0 p.texts (h.all floor.0 floor.1.below floor.1.tight)

-- as many maximal rows
pub count_named : {S T : Type 0} (A : ℤ → List S → Type 0) (B : ℤ → List T → Type 0) → IsRenamed A B → HaveFloors → (count : ℕ) → HasRowCount A count → HasRowCount B count
count_named A B r floors count h =
    let other = turned A B r in
    let P = h.period in
    let p : 0 < P = h.least.is.positive in
    record {
      period = P;
      least = period_named A B r P h.least;
      starts = map (named_moment r.named) h.starts;
      begun = just_named (IsStart A P) (IsStart B P) r.named r.back (start_named A B r floors P p) (start_named B A other floors P p) (λ s k. r.again s.number s.texts k.inside) (λ s k. r.there s.number s.texts k.inside) h.starts h.begun;
      endless = map (named_moment r.named) h.endless;
      unbegun = just_named (IsOpenBelow A P) (IsOpenBelow B P) r.named r.back (open_named A B r floors P p) (open_named B A other floors P p) (open_again A B r floors P p) (open_again B A other floors P p) h.endless h.unbegun;
      total = ap₂ (λ a b. a + b) (length-map h.starts (named_moment r.named)) (length-map h.endless (named_moment r.named)) ∙ h.total;
    }
