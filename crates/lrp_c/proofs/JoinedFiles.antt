-- Files of two lists, one after the other: the first of a name is of the first list that has one.
use Rattle.std.proofs.Common.{◌≡◌, ◌++◌, ℕ, List, [], ◌∷◌, Bool, true, false, nat_eq, refl, if◌then◌else◌}
use lib.Pointwise.{pointwise}
use Rattle.lrp_io.specs.Files.{content_of, holds_file}
use Rattle.lrp_io.specs.declared.shelf.File.{File}

-- the file at the front, or one of the rest
front_or : (b : Bool) (held : Bool) (bytes rest others : List ℕ) → (held ≡ true → rest ≡ others) → (if b then true else held) ≡ true → (if b then bytes else rest) ≡ (if b then bytes else others)
front_or true held bytes rest others f h = refl
front_or false held bytes rest others f h = f h

none_or : (b : Bool) (held : Bool) (bytes rest others : List ℕ) → (held ≡ false → rest ≡ others) → (if b then true else held) ≡ false → (if b then bytes else rest) ≡ others
none_or true held bytes rest others f h = cc
none_or false held bytes rest others f h = f h

-- the bytes of a file that the first list has
pub first_has : (files others : List File) (name : List ℕ) → holds_file files name ≡ true → content_of (files ++ others) name ≡ content_of files name
first_has [] others name e = cc
first_has (f ∷ fs) others name e = front_or (pointwise nat_eq f.name name) (holds_file fs name) f.bytes (content_of (fs ++ others) name) (content_of fs name) (first_has fs others name) e

-- and of one that it doesn't have
pub second_has : (files others : List File) (name : List ℕ) → holds_file files name ≡ false → content_of (files ++ others) name ≡ content_of others name
second_has [] others name e = refl
second_has (f ∷ fs) others name e = none_or (pointwise nat_eq f.name name) (holds_file fs name) f.bytes (content_of (fs ++ others) name) (content_of others name) (second_has fs others name) e
