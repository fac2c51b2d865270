-- Cells over one set of variables, in whatever order and however often each is named.
use Rattle.std.proofs.Common.{ℕ, List, [], ◌∷◌, Contains}
use Rattle.std.specs.List.{AllByRecursion}
use Rattle.lrp_model.specs.Cells.{Agree, Differ, FormCell, LiesIn, Many}
use Rattle.lrp_model.specs.Satisfaction.{Assignment}
use Rattle.lrp_model.specs.Texts.{Text}
use Rattle.lrp_model.specs.Variables.{Variable}
use Rattle.lrp_plan_laws.proofs.Members.{all_by, all_of}
use Rattle.lrp_tables.specs.Caps.{Inhabits}

module _ (domain : List Text) (k : ℕ) (vs ws : List Variable) (to : (v : Variable) → Contains vs v → Contains ws v) (from : (v : Variable) → Contains ws v → Contains vs v) where
  -- cells that differ over the one list differ over the other
  differ_there : (c d : FormCell) → Differ vs c d → Differ ws c d
  differ_there c d h all = h (all_by (Agree c d) vs (λ v i. all_of (Agree c d) ws v all (to v i)))

  inside_there : (env : Assignment) (c : FormCell) → AllByRecursion (LiesIn k domain env c) vs → AllByRecursion (LiesIn k domain env c) ws
  inside_there env c h = all_by (LiesIn k domain env c) ws (λ v i. all_of (LiesIn k domain env c) vs v h (from v i))

  module _ (p q : Assignment → Type 0) (goes : (env : Assignment) (c : FormCell) → AllByRecursion (LiesIn k domain env c) vs → p env → q env) where
    each_there : (cells : List FormCell) → AllByRecursion (Inhabits domain k vs p) cells → AllByRecursion (Inhabits domain k ws q) cells
    each_there [] h = tt
    each_there (c ∷ cells) h = (record { witness = h.0.witness; inside = inside_there h.0.witness c h.0.inside; member = goes h.0.witness c h.0.inside h.0.member }, each_there cells h.1)

    -- so many cells over the one list are as many over the other
    pub many_there : (cap : ℕ) → Many (Differ vs) (Inhabits domain k vs p) cap → Many (Differ ws) (Inhabits domain k ws q) cap
    many_there cap m = record {
      cells = m.cells;
      count = m.count;
      apart = λ i j d low high. differ_there _ _ (m.apart i j d low high);
      each = each_there m.cells m.each;
    }
