-- Words of the form `key=value`, and the values that they give a key.
use Rattle.std.specs.Prelude.{ℕ, List, [], ◌∷◌, Bool, ◌&&◌, ◌==◌, nat_le, is_some, Option, Some, None, if◌then◌else◌, count_by, codes}
use Rattle.std.specs.List.{list_all, list_any, before_first, after_first}
use Rattle.std.specs.Str.{bytes_eq}
use Rattle.lrp_model.specs.Texts.{Text}
use Rattle.lrp_words.specs.declared.keys.Key.{Key}
use Rattle.lrp_words.specs.declared.keys.Key.TheVariants.{Db, Query, Edits, Cap, Plan, From, To, Limit, After, Form, Tense, Wide, Canon, As, Civil, Show, Kept, Seed, Size}

-- how a key is spelled
abbrev pub key_name : Key → Text
key_name Db = codes "db"
key_name Query = codes "query"
key_name Edits = codes "edits"
key_name Cap = codes "cap"
key_name Plan = codes "plan"
key_name From = codes "from"
key_name To = codes "to"
key_name Limit = codes "limit"
key_name After = codes "after"
key_name Form = codes "form"
key_name Tense = codes "tense"
key_name Wide = codes "wide"
key_name Canon = codes "canon"
key_name As = codes "as"
key_name Civil = codes "civil"
key_name Show = codes "show"
key_name Kept = codes "kept"
key_name Seed = codes "seed"
key_name Size = codes "size"

-- the byte `=`
abbrev pub is_equals : ℕ → Bool
is_equals b = b == 61

-- the two parts of a word, cut at its first `=`
abbrev pub parts : Text → Option (Text × Text)
parts word = if list_any is_equals word then Some (before_first is_equals word, after_first is_equals word) else None

-- the value that parts give a key: the second part, where the first is the key
abbrev pub value_of_key : Key → Option (Text × Text) → Option Text
value_of_key key None = None
value_of_key key (Some p) = if bytes_eq p.0 (key_name key) then Some p.1 else None

-- the value that a word gives a key
abbrev pub given : Key → Text → Option Text
given key word = value_of_key key (parts word)

-- whether it gives it one
abbrev pub gives : Key → Text → Bool
gives key word = is_some (given key word)

-- an option, or another where it is none
abbrev pub unless : Option Text → Option Text → Option Text
unless None other = other
unless (Some text) other = Some text

-- the value of a key: that of the first word that gives it one
abbrev pub value_for : Key → List Text → Option Text
value_for key [] = None
value_for key (word ∷ words) = unless (given key word) (value_for key words)

-- each word gives one of the keys a value, and no two words give one key values
abbrev pub are_given : List Key → List Text → Bool
are_given keys words = list_all (λ word. list_any (λ key. gives key word) keys) words && list_all (λ key. nat_le (count_by (gives key) words) 1) keys
