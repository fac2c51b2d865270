-- Two lists in order, put together in order with each entry once, and two pages as one.
use Rattle.std.specs.Prelude.{◌≡◌, ◌↔◌, ◌≤◌, ◌<◌, ◌+◌, ◌⊎◌, ℕ, IsTrue, List, Contains, Some, length, slice_get, take}
use Rattle.std.specs.declared.cmp.Ordering.TheVariants.{Less}
use Rattle.lrp_model.specs.Pairs.{AllPairsByRecursion}
use Rattle.lrp_model.specs.declared.tuples.Spot.{Spot}
use Rattle.lrp_answers.specs.Cursors.{spot_cmp}
use Rattle.lrp_answers.specs.declared.merging.SpotPage.{SpotPage}

-- the spot comes before the other
abbrev pub IsEarlierSpot : Spot → Spot → Type 0
IsEarlierSpot a b = spot_cmp a b ≡ Less

-- of one list the first i entries are among those that were put together, and its others come after all of these; where no more were put together, they are its own
pub record IsTakenFrom {K : Type 0} (Earlier : K → K → Type 0) (own : List K) (i : ℕ) (made : List K) : Type 0 where
  pub low : i ≤ length own
  pub few : i ≤ length made
  pub taken : (k : ℕ) (x : K) → k < i → slice_get own k ≡ Some x → Contains made x
  pub later : (k : ℕ) (x y : K) → i ≤ k → slice_get own k ≡ Some x → Contains made y → Earlier y x
  pub alone : length made ≤ i → made ≡ take i own

-- entries of two lists, so many of each, in order
pub record AreMergedLists {K : Type 0} (Earlier : K → K → Type 0) (left right : List K) (i j : ℕ) (made : List K) : Type 0 where
  pub rises : AllPairsByRecursion Earlier made
  pub from : (x : K) → Contains made x → Contains left x ⊎ Contains right x
  pub lefts : IsTakenFrom Earlier left i made
  pub rights : IsTakenFrom Earlier right j made

-- after i entries of a list the next one of two lists is its next one, which is taken, or comes before that one
abbrev pub IsNextOf : {K : Type 0} → (K → K → Type 0) → List K → ℕ → K → ℕ → Type 0
IsNextOf {K} Earlier own i x after = ((after ≡ i + 1) × (slice_get own i ≡ Some x)) ⊎ ((after ≡ i) × ((y : K) → slice_get own i ≡ Some y → Earlier x y))

-- after so many of its spots a page has more
abbrev pub HasMore : SpotPage → ℕ → Type 0
HasMore page taken = IsTrue page.more ⊎ (taken < length page.spots)

-- the spots of both pages in order up to the limit, and whether the one or the other has more
pub record IsMergedPage (left right : SpotPage) (limit : ℕ) (made : SpotPage) : Type 0 where
  pub i : ℕ
  pub j : ℕ
  pub merged : AreMergedLists IsEarlierSpot left.spots right.spots i j made.spots
  pub short : length made.spots ≤ limit
  pub whole : (length made.spots ≡ limit) ⊎ ((i ≡ length left.spots) × (j ≡ length right.spots))
  pub more_is : IsTrue made.more ↔ (HasMore left i ⊎ HasMore right j)
