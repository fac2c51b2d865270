-- How many cells a step has, and how many answers a window has.
use Rattle.std.specs.Prelude.{◌≡◌, ◌↔◌, ◌<◌, ℕ, ℤ, List, length, Contains}
use Rattle.lrp_model.specs.Formulas.{Question}
use Rattle.lrp_model.specs.Satisfaction.{IsAnswer}
use Rattle.lrp_model.specs.Caps.{ManyAt}
use Rattle.lrp_model.specs.Order.{InWindow}
use Rattle.lrp_model.specs.Steps.{Steps}
use Rattle.lrp_model.specs.Pages.{Rises}
use Rattle.lrp_model.specs.Rows.{Tuple}
use Rattle.lrp_model.specs.declared.relations.Relation.{Relation}

-- step s of these steps has this many inhabited cells: more than cap exactly where cap is below the count
abbrev pub HasCells : Steps → List Relation → Question → ℕ → ℕ → Type 0
HasCells planned db q s count = (cap : ℕ) → ManyAt planned db q cap s ↔ (cap < count)

-- the answers in the window are those of a list of this length, in which each comes before every later one
pub record HasAnswerCount (db : List Relation) (q : Question) (from to : ℤ) (count : ℕ) : Type 0 where
  pub listed : List Tuple
  pub rises : Rises listed
  pub just : (t : Tuple) → Contains listed t ↔ (IsAnswer db q t × InWindow from to t)
  pub size : length listed ≡ count
