-- What the operations on tables do, said of the assignments that the tables stand for.
use Rattle.std.specs.Prelude.{◌≡◌, ℕ, ℤ, ◌*◌, List, Contains}
use Rattle.lrp_model.specs.Texts.{Text, Identifier, without}
use Rattle.lrp_model.specs.Rows.{time, text}
use Rattle.lrp_model.specs.Satisfaction.{Assignment, with_value}
use Rattle.lrp_store.specs.Stores.{HasReach}
use Rattle.lrp_store.specs.Tables.{AreNumbered}
use Rattle.lrp_tables.specs.declared.table.Table.{Table}
use Rattle.lrp_tables.specs.Tables.{HasAssignment}

-- the assignments of old that some integer for the time variable completes; numbers of texts stay numbers of a domain
pub record IsTimeDropped (name : Identifier) (old new : Table) : Type 0 where
  pub times : new.vars.times ≡ without name old.vars.times
  pub texts : new.vars.texts ≡ old.vars.texts
  pub period : new.store.period ≡ old.store.period
  pub to : (domain : List Text) (env : Assignment) → HasAssignment new domain env → (x : ℤ) × HasAssignment old domain (with_value name (time x) env)
  pub from : (domain : List Text) (env : Assignment) (x : ℤ) → HasAssignment old domain (with_value name (time x) env) → HasAssignment new domain env
  pub reach : (high : ℕ) → HasReach old.store high → HasReach new.store (2 * high)
  pub numbered : (domain : List Text) → AreNumbered domain old.store → AreNumbered domain new.store

-- the assignments of old that some text of the domain for the data variable completes; numbers of texts stay numbers of the domain
pub record IsTextDropped (domain : List Text) (name : Identifier) (old new : Table) : Type 0 where
  pub times : new.vars.times ≡ old.vars.times
  pub texts : new.vars.texts ≡ without name old.vars.texts
  pub period : new.store.period ≡ old.store.period
  pub to : (env : Assignment) → HasAssignment new domain env → (t : Text) × Contains domain t × HasAssignment old domain (with_value name (text t) env)
  pub from : (env : Assignment) (t : Text) → Contains domain t → HasAssignment old domain (with_value name (text t) env) → HasAssignment new domain env
  pub reach : (high : ℕ) → HasReach old.store high → HasReach new.store high
  pub numbered : AreNumbered domain old.store → AreNumbered domain new.store
