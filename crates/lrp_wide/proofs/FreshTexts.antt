-- The variables of a text begin with a letter, also where its operators are written out.
use Rattle.std.proofs.Common.{◌≡◌, ℕ, Bool, true, false, cond, List, [], ◌∷◌, map, refl, sym, ap, subst, ◌∙◌}
use Rattle.std.specs.List.{AllByRecursion}
use Rattle.std.specs.Str.{bytes_eq}
use Rattle.std.specs.Cmp.Lexicographic.{bytes_decides}
use Rattle.lrp_model.specs.Texts.{Identifier}
use Rattle.lrp_model.specs.QueryMeaning.{star_name}
use Rattle.lrp_model.specs.RawQueries.{RawForm, RawForms, raw_atom, raw_compare, raw_member, raw_not, raw_and, raw_or, raw_implies, raw_group, raw_exists, raw_forall, raw_ranged, raw_paired, no_raws, raw}
use Rattle.lrp_model.specs.declared.tokens.Place.{Place}
use Rattle.lrp_model.specs.declared.raw.Ranged.TheVariants.{Once, Always}
use Rattle.lrp_model.specs.declared.raw.Paired.TheVariants.{Since, Until}
use Rattle.lrp_model.specs.declared.raw.RawTerm.{RawTerm}
use Rattle.lrp_model.specs.declared.raw.RawTermKind.{RawTermKind}
use Rattle.lrp_model.specs.declared.raw.RawTermKind.TheVariants.{Int, Text, Var, Shifted}
use Rattle.lrp_tense.specs.Expanding.{Naming, Renaming, present_name, renamed, renamed_kind, renamed_to, moment_of, between_of, expanded, expanded_each}
use Rattle.lrp_tense.proofs.Scoping.{other_name}
use Rattle.lrp_wide.specs.Meaning.{is_star, is_star_kind}
use Rattle.lrp_wide.proofs.SatisfyNotions.{Unless}
use Rattle.lrp_wide.proofs.FreshLetters.{HasLetter, letter_stays, no_star}

-- the name in a term
abbrev pub HasLetterKind : RawTermKind → Type 0
HasLetterKind (Int x) = Unit {0}
HasLetterKind (Text t) = Unit {0}
HasLetterKind (Var v) = HasLetter v
HasLetterKind (Shifted v plus) = HasLetter v

-- what an atom has for a column is a `*`, or such a term
abbrev pub HasLetterOrStar : RawTerm → Type 0
HasLetterOrStar t = Unless (is_star t) (HasLetterKind t.kind)

-- each variable of the formula
abbrev mutual
  pub HasLetters : RawForm → Type 0
  HasLetters (raw_atom p n ts) = AllByRecursion HasLetterOrStar ts
  HasLetters (raw_compare p l op r) = HasLetterKind l.kind × HasLetterKind r.kind
  HasLetters (raw_member p t point) = HasLetterKind t.kind
  HasLetters (raw_not p f) = HasLetters f
  HasLetters (raw_and p fs) = HaveLetters fs
  HasLetters (raw_or p fs) = HaveLetters fs
  HasLetters (raw_implies p f g) = HasLetters f × HasLetters g
  HasLetters (raw_group p f) = HasLetters f
  HasLetters (raw_exists p c f) = HasLetter c.name × HasLetters f
  HasLetters (raw_forall p c f) = HasLetter c.name × HasLetters f
  HasLetters (raw_ranged word o from to f) = HasLetter o.name × HasLetters f
  HasLetters (raw_paired word o f g) = HasLetter o.name × (HasLetters f × HasLetters g)

  pub HaveLetters : RawForms → Type 0
  HaveLetters no_raws = Unit {0}
  HaveLetters (raw f fs) = HasLetters f × HaveLetters fs

pub unless : {P : Type 0} (b : Bool) → P → Unless b P
unless true h = tt
unless false h = h

-- ---- operators that are written out

-- the names around
abbrev pub NamesLetters : Naming → Type 0
NamesLetters = AllByRecursion (λ (r : Renaming). HasLetter r.written × HasLetter r.present)

pub present_letter : (names : Naming) → NamesLetters names → (v : Identifier) → HasLetter v → HasLetter (present_name names v)
present_letter [] k v h = h
present_letter (r ∷ names) k v h = by (bytes_eq r.written v) (present_letter names k.1 v h)
  where
    by : (b : Bool) → HasLetter (present_name names v) → HasLetter (cond b r.present (present_name names v))
    by true h = k.0.1
    by false h = h

-- a `*` keeps its name
pub star_kept : (names : Naming) → NamesLetters names → (v : Identifier) → v ≡ star_name → present_name names v ≡ v
star_kept [] k v e = refl
star_kept (r ∷ names) k v e = ap (λ b. cond b r.present (present_name names v)) (other_name r.written v (λ s. no_star r.written k.0.0 (s ∙ e))) ∙ star_kept names k.1 v e

kind_letter : (names : Naming) → NamesLetters names → (k : RawTermKind) → HasLetterKind k → HasLetterKind (renamed_kind names k)
kind_letter names n (Int x) h = tt
kind_letter names n (Text t) h = tt
kind_letter names n (Var v) h = present_letter names n v h
kind_letter names n (Shifted v plus) h = present_letter names n v h

argument_letter : (names : Naming) → NamesLetters names → (k : RawTermKind) → Unless (is_star_kind k) (HasLetterKind k) → Unless (is_star_kind (renamed_kind names k)) (HasLetterKind (renamed_kind names k))
argument_letter names n (Int x) h = tt
argument_letter names n (Text t) h = tt
argument_letter names n (Var v) h = by (bytes_eq v star_name) refl h
  where
    by : (b : Bool) → bytes_eq v star_name ≡ b → Unless b (HasLetter v) → Unless (bytes_eq (present_name names v) star_name) (HasLetter (present_name names v))
    by true e h =
        let same : present_name names v ≡ v = star_kept names n v ((bytes_decides v star_name).0 e) in
        subst (λ m. Unless (bytes_eq m star_name) (HasLetter m)) (sym same) (subst (λ c. Unless c (HasLetter v)) (sym e) tt)
    by false e h = unless (bytes_eq (present_name names v) star_name) (present_letter names n v h)
argument_letter names n (Shifted v plus) h = present_letter names n v h

arguments_letter : (names : Naming) → NamesLetters names → (ts : List RawTerm) → AllByRecursion HasLetterOrStar ts → AllByRecursion HasLetterOrStar (map (renamed names) ts)
arguments_letter names n [] h = tt
arguments_letter names n (t ∷ ts) h = (argument_letter names n t.kind h.0, arguments_letter names n ts h.1)

mutual
  pub expanded_letters : (f : RawForm) → HasLetters f → (number : Place → ℕ) (names : Naming) → NamesLetters names → HasLetters (expanded f number names)
  expanded_letters (raw_atom p n ts) h number names k = arguments_letter names k ts h
  expanded_letters (raw_compare p l op r) h number names k = (kind_letter names k l.kind h.0, kind_letter names k r.kind h.1)
  expanded_letters (raw_member p t point) h number names k = kind_letter names k t.kind h
  expanded_letters (raw_not p f) h number names k = expanded_letters f h number names k
  expanded_letters (raw_and p fs) h number names k = expanded_letters_each fs h number names k
  expanded_letters (raw_or p fs) h number names k = expanded_letters_each fs h number names k
  expanded_letters (raw_implies p f g) h number names k = (expanded_letters f h.0 number names k, expanded_letters g h.1 number names k)
  expanded_letters (raw_group p f) h number names k = expanded_letters f h number names k
  expanded_letters (raw_exists p c f) h number names k = (h.0, expanded_letters f h.1 number (renamed_to c.name c.name ∷ names) ((h.0, h.0), k))
  expanded_letters (raw_forall p c f) h number names k = (h.0, expanded_letters f h.1 number (renamed_to c.name c.name ∷ names) ((h.0, h.0), k))
  expanded_letters (raw_ranged Once o from to f) h number names k =
      let m : HasLetter (moment_of number o) = letter_stays o.name _ h.0 in
      let v : HasLetter (present_name names o.name) = present_letter names k o.name h.0 in
      (m, ((m, v), ((m, v), (expanded_letters f h.1 number (renamed_to o.name (moment_of number o) ∷ names) ((h.0, m), k), tt))))
  expanded_letters (raw_ranged Always o from to f) h number names k =
      let m : HasLetter (moment_of number o) = letter_stays o.name _ h.0 in
      let v : HasLetter (present_name names o.name) = present_letter names k o.name h.0 in
      (m, (((m, v), ((m, v), tt)), expanded_letters f h.1 number (renamed_to o.name (moment_of number o) ∷ names) ((h.0, m), k)))
  expanded_letters (raw_paired Since o f g) h number names k =
      let m : HasLetter (moment_of number o) = letter_stays o.name _ h.0 in
      let b : HasLetter (between_of number o) = letter_stays o.name _ h.0 in
      let v : HasLetter (present_name names o.name) = present_letter names k o.name h.0 in
      (m, ((m, v), (expanded_letters g h.1.1 number (renamed_to o.name (moment_of number o) ∷ names) ((h.0, m), k), ((b, (((b, m), ((b, v), tt)), expanded_letters f h.1.0 number (renamed_to o.name (between_of number o) ∷ names) ((h.0, b), k))), tt))))
  expanded_letters (raw_paired Until o f g) h number names k =
      let m : HasLetter (moment_of number o) = letter_stays o.name _ h.0 in
      let b : HasLetter (between_of number o) = letter_stays o.name _ h.0 in
      let v : HasLetter (present_name names o.name) = present_letter names k o.name h.0 in
      (m, ((m, v), (expanded_letters g h.1.1 number (renamed_to o.name (moment_of number o) ∷ names) ((h.0, m), k), ((b, (((b, v), ((b, m), tt)), expanded_letters f h.1.0 number (renamed_to o.name (between_of number o) ∷ names) ((h.0, b), k))), tt))))

  expanded_letters_each : (fs : RawForms) → HaveLetters fs → (number : Place → ℕ) (names : Naming) → NamesLetters names → HaveLetters (expanded_each fs number names)
  expanded_letters_each no_raws h number names k = tt
  expanded_letters_each (raw f fs) h number names k = (expanded_letters f h.0 number names k, expanded_letters_each fs h.1 number names k)
