-- Starts one after another.
use Rattle.std.proofs.Common.{◌≡◌, ◌∙◌, ◌+◌, ◌≤◌, ◌++◌, ◌∷◌, [], List, length, ap, append-nil, append_assoc, refl, suc, sym, ℕ}
use Rattle.lrp_model.specs.Limits.{most_bytes}
use Rattle.lrp_model.specs.Texts.{Identifier}
use Rattle.lrp_io.specs.Starts.{Start, StartsOne, StartsOnly, with_given, with_start}

-- of this file so much was given
abbrev pub start_of : Identifier → ℕ → Start
start_of name given = record { name = name; given = given }

-- more of the file that was started last is more of that start
pub more_of_last : (n : ℕ) (before : List Start) (name : Identifier) (given : ℕ) → with_given n (before ++ start_of name given ∷ []) ≡ before ++ start_of name (given + n) ∷ []
more_of_last n [] name given = refl
more_of_last n (start ∷ []) name given = refl
more_of_last n (start ∷ next ∷ before) name given = ap (λ starts. start ∷ starts) (more_of_last n (next ∷ before) name given)

-- a file whose bytes are read from its first one on
pub begun : (before after : List Start) (name : Identifier) (bytes : List ℕ) → after ≡ with_start name before → bytes ≡ [] → after ≡ before ++ start_of name (length bytes) ∷ []
begun before after name bytes started none = started ∙ ap (λ bs. before ++ start_of name (length bs) ∷ []) (sym none)

-- a piece more of it
pub gone_on : (before middle after : List Start) (name : Identifier) (n given more : ℕ) → middle ≡ before ++ start_of name given ∷ [] → after ≡ with_given n middle → more ≡ given + n → after ≡ before ++ start_of name more ∷ []
gone_on before middle after name n given more made noted sum =
    noted ∙ ap (with_given n) made ∙ more_of_last n before name given ∙ ap (λ k. before ++ start_of name k ∷ []) (sym sum)

-- a file was started once, and so much given of it
pub started_one : (before after : List Start) (name : Identifier) (given : ℕ) → after ≡ before ++ start_of name given ∷ [] → given ≤ suc most_bytes → StartsOne before after name
started_one before after name given made few = record { start = start_of name given; named = refl; short = few; made = made }

-- the same with a piece more
pub read_one : (before middle after : List Start) (name : Identifier) (n given : ℕ) → middle ≡ before ++ start_of name given ∷ [] → after ≡ with_given n middle → given + n ≤ suc most_bytes → StartsOne before after name
read_one before middle after name n given made noted few = started_one before after name (given + n) (gone_on before middle after name n given (given + n) made noted refl) few

-- nothing was started
pub none_started : (before : List Start) (names : List Identifier) → StartsOnly before before names
none_started before names = record { starts = []; are = tt; made = sym (append-nil before) }

-- only the first file was started
pub only_first : (before after : List Start) (name : Identifier) (names : List Identifier) → StartsOne before after name → StartsOnly before after (name ∷ names)
only_first before after name names one = record { starts = one.start ∷ []; are = (one.named, one.short, tt); made = one.made }

-- the first file was started, and then only the others
pub first_and_only : (before middle after : List Start) (name : Identifier) (names : List Identifier) → StartsOne before middle name → StartsOnly middle after names → StartsOnly before after (name ∷ names)
first_and_only before middle after name names one only = record {
  starts = one.start ∷ only.starts;
  are = (one.named, one.short, only.are);
  made = only.made ∙ ap (λ starts. starts ++ only.starts) one.made ∙ append_assoc before (one.start ∷ []) only.starts;
}
