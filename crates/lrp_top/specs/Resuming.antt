-- Where a page begins: after the tuple of a token, where there is one; or why the token is refused.
use Rattle.std.specs.Prelude.{◌≡◌, ◌≢◌, ℕ, ℤ, List, Option, Some, None, Result, Ok, Err}
use Rattle.lrp_model.specs.Texts.{Text}
use Rattle.lrp_model.specs.Rows.{Tuple}
use Rattle.lrp_model.specs.PrintedPages.{IsToken}
use Rattle.lrp_model.specs.Sorts.{time_count, text_count}
use Rattle.lrp_model.specs.Tuples.{in_head_order}
use Rattle.lrp_model.specs.declared.relations.Column.{Column}
use Rattle.lrp_model.specs.declared.tuples.Shape.{Shape}
use Rattle.lrp_token.specs.Reading.{HasCounts, HasOtherCounts, IsNoToken}
use Rattle.lrp_outputs.specs.declared.refusal.Refusal.{Refusal}
use Rattle.lrp_outputs.specs.declared.refusal.Refusal.TheVariants.{TokenForm, TokenShape, TokenStale, Memory}

-- how many time columns a head has, and how many data columns
abbrev pub shape_of : List Column → Shape
shape_of columns = record { times = time_count columns; texts = text_count columns }

-- a token without a digest is never stale, and one with a digest is not where that is the current one, which is the files'
abbrev pub IsFresh : List ℕ → Option (List ℕ) → Type 0
IsFresh current None = Unit {0}
IsFresh current (Some digest) = digest ≡ current

-- the text is a token with the head's counts, whose tuple is this one; it is not stale for the files' digest
pub record IsTokenOf (current : List ℕ) (head : List Column) (text : Text) (tuple : Tuple) : Type 0 where
  pub digest : Option (List ℕ)
  pub times : List ℤ
  pub texts : List Text
  pub token : IsToken text digest times texts
  pub counts : HasCounts (shape_of head) times texts
  pub fresh : IsFresh current digest
  pub tuple_is : tuple ≡ in_head_order head times texts

-- the text is a token with the head's counts and with another digest than the files'
pub record IsStale (current : List ℕ) (head : List Column) (text : Text) : Type 0 where
  pub digest : List ℕ
  pub times : List ℤ
  pub texts : List Text
  pub token : IsToken text (Some digest) times texts
  pub counts : HasCounts (shape_of head) times texts
  pub other : digest ≢ current

-- where a page begins. Without a token: nowhere. Ok: after the tuple of the token. Refused: why the text is no such token
abbrev pub IsResumed : List ℕ → List Column → Option Text → Result (Option Tuple) Refusal → Type 0
IsResumed current head None result = result ≡ Ok None
IsResumed current head (Some text) (Ok None) = ⊥
IsResumed current head (Some text) (Ok (Some tuple)) = IsTokenOf current head text tuple
IsResumed current head (Some text) (Err TokenForm) = IsNoToken text
IsResumed current head (Some text) (Err TokenShape) = HasOtherCounts text (shape_of head)
IsResumed current head (Some text) (Err TokenStale) = IsStale current head text
IsResumed current head (Some text) (Err Memory) = Unit {0}
IsResumed current head (Some text) (Err _) = ⊥
