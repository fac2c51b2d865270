-- What the code keeps of settings and uses, as definitions see it.
use Rattle.std.specs.Prelude.{◌≡◌, ℕ, Option, Some, None, List, [], ◌∷◌, ◌++◌, cond}
use Rattle.std.specs.Borrow.{Bor}
use Rattle.std.specs.Str.{bytes_eq}
use Rattle.lrp_model.specs.Texts.{Identifier}
use Rattle.lrp_model.specs.RawQueries.{RawForm, RawForms, no_raws, raw, raw_and, raw_form_of}
use Rattle.lrp_model.specs.declared.raw.RawFormula.{RawFormula}
use Rattle.lrp_model.specs.declared.tokens.Place.{Place}
use Rattle.lrp_wide.specs.Inlining.{Counted, Passed, UseSetting, counted_from, inner_name, itself, equal}
use Rattle.lrp_wide.specs.declared.uses.Passed.{Passed as PassedOf}
use Rattle.lrp_wide.specs.declared.uses.UseSetting.{UseSetting as SettingOf}
use Rattle.lrp_wide.specs.declared.uses.Use.{Use}
pub use Rattle.lrp_wide.specs.Counts.{AreRowless}

-- ---- names and places

-- the name in a use of a variable of the definition, where these of its columns are variables of the atom
abbrev pub name_passed : List PassedOf → ℕ → Identifier → Identifier
name_passed [] k v = inner_name k v
name_passed (p ∷ ps) k v = cond (bytes_eq p.column.now v) p.name (name_passed ps k v)

abbrev pub name_under : Option Use → Identifier → Identifier
name_under None v = v
name_under (Some used) v = name_passed used.passed.now used.number v

abbrev pub place_in : Option Use → Place → Place
place_in None p = p
place_in (Some used) p = used.place

-- an atom's first number, by those of its text or by itself
abbrev pub number_under : ℕ → Option (Bor (List Counted)) → Place → ℕ
number_under first None p = first
number_under first (Some counted) p = counted_from first counted.now p

-- what a setting makes of names, places and numbers
abbrev pub setting_of : SettingOf → UseSetting
setting_of s = record { name = name_under s.used; place = place_in s.used; number = number_under s.first s.numbers }

-- a column that is this variable
pub record IsNamePassed (p : PassedOf) (c n : Identifier) : Type 0 where
  pub column : p.column.now ≡ c
  pub name : p.name ≡ n

-- the columns of a use that are variables, of all
abbrev pub passed_of : List Passed → List PassedOf → Type 0
passed_of [] made = made ≡ []
passed_of (equal b c t ∷ rest) made = passed_of rest made
passed_of (itself c n ∷ rest) [] = ⊥
passed_of (itself c n ∷ rest) (p ∷ made) = IsNamePassed p c n × passed_of rest made

-- one such column more
pub record IsPassedToo (old : List PassedOf) (c n : Identifier) (new : List PassedOf) : Type 0 where
  pub entry : PassedOf
  pub items : new ≡ old ++ entry ∷ []
  pub is : IsNamePassed entry c n

-- ---- formulas as they are put together

-- the formula after comparisons, in one `and`, where there are some
abbrev pub forms_then : List RawFormula → RawForm → RawForms
forms_then [] f = raw f no_raws
forms_then (g ∷ gs) f = raw (raw_form_of g) (forms_then gs f)

abbrev pub and_after : Place → List RawFormula → RawForm → RawForm
and_after p [] f = f
and_after p (g ∷ gs) f = raw_and p (forms_then (g ∷ gs) f)
