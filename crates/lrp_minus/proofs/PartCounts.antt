-- How many zones the parts of a zone add to each cell: a residue is tried once.
use Rattle.std.proofs.Common.{◌≡◌, ℕ, zero, suc, ◌+◌, ◌-◌, ◌*◌, ◌%◌, ◌<◌, ◌≤◌, List, [], ◌∷◌, take, refl, subst, arith}
use Rattle.std.specs.Prelude.{ℤ, pos, ◌-ℤ◌}
use Rattle.std.proofs.lemmas.Int.{ints}
use Rattle.lrp_theory.specs.Divides.{Divides}
use Rattle.lrp_theory.specs.Entries.{node}
use Rattle.lrp_theory.proofs.Modulo.{Divides--, Divides-is, rem_divides, small_multiple}
use Rattle.lrp_model.specs.declared.tuples.Cell.{Cell}
use Rattle.lrp_model.specs.declared.tuples.Shape.{Shape}
use Rattle.lrp_zone.specs.Spread.{target}
use Rattle.lrp_zone.specs.Zones.{ZoneView, IsZone, columns_of}
use Rattle.lrp_store.specs.Growing.{GrowsByAtMost, IsTupleOf}
use Rattle.lrp_store.specs.Stores.{StoreView, IsStore, IsInhabitedCell, LiesInCell}
use Rattle.lrp_systems.specs.Choices.{IsCovering}
use Rattle.lrp_systems.specs.Frames.{IsOrder}
use Rattle.lrp_systems.specs.Parts.{PartView}
use Rattle.lrp_systems.specs.Pieces.{IsCommonPiece}
use Rattle.lrp_systems.specs.Sole.{IsWholePart}
use Rattle.lrp_systems.specs.Systems.{IsBegunCell, IsBranch, IsPut}
use Rattle.lrp_systems.specs.declared.choice.Choice.{Choice}
use Rattle.lrp_systems.proofs.Branches.{branch_less, of_tuple}
use Rattle.lrp_systems.proofs.LoneZones.{to_lone}
use Rattle.lrp_cutting.specs.Thresholds.{most_pieces}
use Rattle.lrp_minus.specs.Counts.{GrowsIn, HasAtMost, most_by}
use Rattle.lrp_minus.specs.Cutters.{AreCutters}
use Rattle.lrp_minus.specs.Taking.{IsPartFew, IsSubtraction}
use Rattle.lrp_minus.specs.declared.taking.Taking.{Taking}
use Rattle.lrp_minus.proofs.Fewness.{few_by}
use Rattle.lrp_minus.proofs.Growth.{grows_as, grows_at, grows_not, grows_then, grows_within}
use Rattle.lrp_minus.proofs.TakingLaws.{cell_is, own, piece_columns}

-- the cells that a set inhabits are among those that a greater one does
pub inhabits_more : (shape : Shape) (k : ℕ) (P Q : List ℤ → List ℕ → Type 0) → ((xs : List ℤ) (ns : List ℕ) → P xs ns → Q xs ns) → (c : Cell) → IsInhabitedCell shape k P c → IsInhabitedCell shape k Q c
inhabits_more shape k P Q to c h = record { proper = h.proper; times = h.times; texts = h.texts; is = to h.times h.texts h.is; inside = h.inside }

-- numbers of a choice that are equal modulo the period are the same
same_turn : (k first step count m n : ℕ) → 0 < step → count * step ≤ k → n < count → m < n → Divides (pos k) (pos (first + n * step) -ℤ pos (first + m * step)) → ⊥
same_turn k first step count m n low few below less d =
    let more : (n - m) * step < k = within (n - m) step count k low few (omega arith) in
    let some : 0 < (n - m) * step = positive (n - m) step (omega arith) low in
    let apart : n * step ≡ m * step + (n - m) * step = split m n step less in
    let z : pos (first + n * step) -ℤ pos (first + m * step) ≡ pos 0 = small_multiple k (pos (first + n * step) -ℤ pos (first + m * step)) d (omega (arith, ints, more, some, apart)) (omega (arith, ints, more, some, apart)) in
    omega (arith, ints, more, some, apart, z)
  where
    positive : (a b : ℕ) → 0 < a → 0 < b → 0 < a * b
    positive zero b la lb = absurd (omega arith)
    positive (suc a) b la lb = omega arith

    within : (a b c k : ℕ) → 0 < b → c * b ≤ k → a < c → a * b < k
    within a b c k lb few less = let l : suc a * b ≤ c * b = le_times (suc a) c b (omega arith) in omega arith
      where
        le_times : (a c b : ℕ) → a ≤ c → a * b ≤ c * b
        le_times zero c b h = omega arith
        le_times (suc a) zero b h = absurd (omega arith)
        le_times (suc a) (suc c) b h = let r : a * b ≤ c * b = le_times a c b (omega arith) in omega arith

    times_sum : (a b s : ℕ) → (a + b) * s ≡ a * s + b * s
    times_sum a b s = omega arith

    split : (m n s : ℕ) → m < n → n * s ≡ m * s + (n - m) * s
    split m n s h = let e : m + (n - m) ≡ n = omega arith in subst (λ (x : ℕ). x * s ≡ m * s + (n - m) * s) e (times_sum m (n - m) s)

-- ---- one piece

module _ (t : Taking) (s : StoreView) (is : IsStore s) (taking : IsSubtraction t s) (c : Cell) (begun : IsBegunCell s c) where
  -- a solution with all residues of the cell lies in it
  branch_lies : (xs : List ℤ) (ns : List ℕ) → IsBranch t.parts.now s.shape s.period t.frame.now.order c s.shape.times xs ns → LiesInCell s.shape s.period c xs ns
  branch_lies xs ns b = record {
    count = b.solution.count;
    residues = λ q l. subst (λ (j : ℕ). Divides (pos s.period) (node xs j -ℤ node c.residues j)) (own t s is taking c begun q l) (b.agrees.each q l);
    named = b.solution.same;
  }

  module _ (k : ℕ) (ek : k ≡ s.period) (rs : List ℤ) (er : rs ≡ take s.shape.times c.residues) (piece : ZoneView) (r : IsCommonPiece t.parts.now k rs piece) (valid : IsZone piece) where
    piece_inhabits : IsInhabitedCell s.shape s.period (IsBranch t.parts.now s.shape s.period t.frame.now.order c s.shape.times) c
    piece_inhabits =
        let branch = of_tuple t.parts.now s t.frame.now.order c is begun taking.frame.order k ek rs er piece r valid.some.member (take s.shape.texts c.texts) (record { member = valid.some.is; same = refl }) in
        record { proper = cell_is t s is taking c begun; times = valid.some.member; texts = take s.shape.texts c.texts; is = branch; inside = branch_lies valid.some.member (take s.shape.texts c.texts) branch }

    pub piece_few : (cutters : List ZoneView) → AreCutters t.places.now s c t.right.now cutters → (new : StoreView) → GrowsByAtMost (most_pieces piece cutters) c s new → IsPartFew t c s.shape.times s new
    piece_few cutters are new g = λ n at.
        let by : most_pieces piece cutters ≤ most_by s.shape.times n = few_by piece cutters s.shape.times n (piece_columns t s is taking c begun k ek rs er piece r) (are.few n at) in
        grows_at (IsInhabitedCell s.shape s.period (IsBranch t.parts.now s.shape s.period t.frame.now.order c s.shape.times)) (λ inhabited. most_by s.shape.times n) c s new piece_inhabits
        (grows_within (most_pieces piece cutters) (most_by s.shape.times n) c s new by g)

-- nothing is added
pub part_none : (t : Taking) (c : Cell) (p : ℕ) (s : StoreView) → IsPartFew t c p s s
part_none t c p s = λ n at. grows_not (IsInhabitedCell s.shape s.period (IsBranch t.parts.now s.shape s.period t.frame.now.order c p)) (λ inhabited. most_by s.shape.times n) s

-- ---- residue after residue

-- a cell of the branch whose residue at the next column is one of the first turns
pub record IsTriedCell (t : Taking) (s : StoreView) (c : Cell) (p : ℕ) (choice : Choice) (turn : ℕ) (cell : Cell) : Type 0 where
  pub inhabited : IsInhabitedCell s.shape s.period (IsBranch t.parts.now s.shape s.period t.frame.now.order c p) cell
  pub number : ℕ
  pub before : number < turn
  pub is : Divides (pos s.period) (node cell.residues (target t.frame.now.order (p + 1)) -ℤ pos (choice.first + number * choice.step))

-- the first turns add to their cells alone
abbrev pub AreTurnsFew : Taking → StoreView → Cell → ℕ → Choice → ℕ → StoreView → Type 0
AreTurnsFew t s c p choice turn out = (n : ℕ) → HasAtMost n t.right.now → GrowsIn (IsTriedCell t s c p choice turn) (λ tried. most_by s.shape.times n) s out

module _ (t : Taking) (s : StoreView) (low : 0 < s.period) (is_order : IsOrder s.shape.times t.frame.now.order) (c : Cell) (p : ℕ) (pl : p < s.shape.times) (choice : Choice) (is : IsCovering t.parts.now s.period t.frame.now.order c.residues p choice) where
  abbrev Tried : ℕ → Cell → Type 0
  Tried = IsTriedCell t s c p choice

  pub turns_none : AreTurnsFew t s c p choice 0 s
  turns_none = λ n at. grows_not (Tried 0) (λ tried. most_by s.shape.times n) s

  pub turns_all : (turn : ℕ) (out : StoreView) → AreTurnsFew t s c p choice turn out → IsPartFew t c p s out
  turns_all turn out few = λ n at. grows_as (Tried turn) (IsInhabitedCell s.shape s.period (IsBranch t.parts.now s.shape s.period t.frame.now.order c p)) (λ tried. most_by s.shape.times n) s out (λ cell h. h.inhabited) (few n at)

  module _ (turn : ℕ) (below : turn < choice.count) (next : Cell) (put : IsPut c (target t.frame.now.order (p + 1)) ((choice.first + turn * choice.step) % s.period) next) where
    abbrev Next : Cell → Type 0
    Next = IsInhabitedCell s.shape s.period (IsBranch t.parts.now s.shape s.period t.frame.now.order next (p + 1))

    -- the residue of the turn
    next_residue : (cell : Cell) → IsInhabitedCell s.shape s.period (IsBranch t.parts.now s.shape s.period t.frame.now.order next (p + 1)) cell → Divides (pos s.period) (node cell.residues (target t.frame.now.order (p + 1)) -ℤ pos (choice.first + turn * choice.step))
    next_residue cell h =
        let column = target t.frame.now.order (p + 1) in
        let high : target t.frame.now.order (p + 1) ≤ s.shape.times = is_order.high (p + 1) (omega arith) in
        let mine : Divides (pos s.period) (node h.times (target t.frame.now.order (p + 1)) -ℤ node cell.residues (target t.frame.now.order (p + 1))) = h.inside.residues (target t.frame.now.order (p + 1)) high in
        let its : Divides (pos s.period) (node h.times (target t.frame.now.order (p + 1)) -ℤ pos ((choice.first + turn * choice.step) % s.period)) = subst (λ (y : ℤ). Divides (pos s.period) (node h.times (target t.frame.now.order (p + 1)) -ℤ y)) put.here (h.is.agrees.each (p + 1) (omega arith)) in
        let whole : Divides (pos s.period) (pos (choice.first + turn * choice.step) -ℤ pos ((choice.first + turn * choice.step) % s.period)) = rem_divides (pos s.period) (pos (choice.first + turn * choice.step)) (pos ((choice.first + turn * choice.step) % s.period)) (omega (arith, ints)) refl in
        by (node h.times (target t.frame.now.order (p + 1))) (node cell.residues (target t.frame.now.order (p + 1))) (pos ((choice.first + turn * choice.step) % s.period)) (pos (choice.first + turn * choice.step)) mine its whole
      where
        by : (x r q w : ℤ) → Divides (pos s.period) (x -ℤ r) → Divides (pos s.period) (x -ℤ q) → Divides (pos s.period) (w -ℤ q) → Divides (pos s.period) (r -ℤ w)
        by x r q w a b d = Divides-is (pos s.period) (((x -ℤ q) -ℤ (x -ℤ r)) -ℤ (w -ℤ q)) (r -ℤ w) (omega (arith, ints)) (Divides-- (pos s.period) _ _ (Divides-- (pos s.period) _ _ b a) d)

    two : (cell : Cell) → Next cell → Tried (turn + 1) cell
    two cell h = record {
      inhabited = inhabits_more s.shape s.period (IsBranch t.parts.now s.shape s.period t.frame.now.order next (p + 1)) (IsBranch t.parts.now s.shape s.period t.frame.now.order c p) (branch_less t.parts.now s t.frame.now.order c low is_order p pl choice is turn next put) cell h;
      number = turn;
      before = omega arith;
      is = next_residue cell h;
    }

    never : (cell : Cell) → Tried turn cell → Next cell → ⊥
    never cell tried h = same_turn s.period choice.first choice.step choice.count tried.number turn is.proper.low is.proper.few below tried.before
        (by (node cell.residues (target t.frame.now.order (p + 1))) (pos (choice.first + turn * choice.step)) (pos (choice.first + tried.number * choice.step)) (next_residue cell h) tried.is)
      where
        by : (r w v : ℤ) → Divides (pos s.period) (r -ℤ w) → Divides (pos s.period) (r -ℤ v) → Divides (pos s.period) (w -ℤ v)
        by r w v a b = Divides-is (pos s.period) ((r -ℤ v) -ℤ (r -ℤ w)) (w -ℤ v) (omega (arith, ints)) (Divides-- (pos s.period) _ _ b a)

    pub turns_more : (out new : StoreView) → out.shape ≡ s.shape → out.period ≡ s.period → AreTurnsFew t s c p choice turn out → IsPartFew t next (p + 1) out new → AreTurnsFew t s c p choice (turn + 1) new
    turns_more out new shape period few more = λ n at.
        grows_then (Tried turn) Next (Tried (turn + 1)) (λ tried. most_by s.shape.times n) s out new (few n at)
        (subst (λ (q : Shape). GrowsIn (IsInhabitedCell q s.period (IsBranch t.parts.now q s.period t.frame.now.order next (p + 1))) (λ tried. most_by q.times n) out new) shape
        (subst (λ (k : ℕ). GrowsIn (IsInhabitedCell out.shape k (IsBranch t.parts.now out.shape k t.frame.now.order next (p + 1))) (λ tried. most_by out.shape.times n) out new) period (more n at)))
        (λ cell h. record { inhabited = h.inhabited; number = h.number; before = (let l : h.number < turn = h.before in omega arith); is = h.is })
        two never

-- ---- no residue is chosen

pub whole_few : (z : ZoneView) (part : PartView) (same : part.zone ≡ z) (s : StoreView) (is : IsStore s) (whole : IsWholePart z.period (columns_of z) part) (columns : columns_of z ≡ s.shape.times) (order : List ℕ) (right : StoreView) (c : Cell) (new : StoreView)
    → ((n : ℕ) → HasAtMost n right → GrowsIn (IsInhabitedCell s.shape s.period (IsBranch (part ∷ []) s.shape s.period order c 0)) (λ inhabited. most_by s.shape.times n) s new) → (n : ℕ) → HasAtMost n right → GrowsIn (IsInhabitedCell s.shape s.period (IsTupleOf z (take s.shape.texts c.texts))) (λ inhabited. most_by s.shape.times n) s new
whole_few z part same s is whole columns order right c new few = λ n at.
    grows_as (IsInhabitedCell s.shape s.period (IsBranch (part ∷ []) s.shape s.period order c 0)) (IsInhabitedCell s.shape s.period (IsTupleOf z (take s.shape.texts c.texts))) (λ inhabited. most_by s.shape.times n) s new
    (inhabits_more s.shape s.period (IsBranch (part ∷ []) s.shape s.period order c 0) (IsTupleOf z (take s.shape.texts c.texts)) to) (few n at)
  where
    to : (xs : List ℤ) (ns : List ℕ) → IsBranch (part ∷ []) s.shape s.period order c 0 xs ns → IsTupleOf z (take s.shape.texts c.texts) xs ns
    to xs ns b = to_lone z part same s is whole columns (take s.shape.texts c.texts) xs ns b.solution
