-- Formulas of the wide language as their grammar has them, by how loosely they bind, and what is read of them.
use Rattle.std.proofs.Common.{◌≡◌, ◌≤◌, ℕ, Bool, true, false, List, [], ◌∷◌, ◌++◌, refl, ap, ◌∙◌, arith}
use Rattle.lrp_model.specs.declared.tokens.Word.{Word}
use Rattle.lrp_model.specs.declared.tokens.Word.TheVariants.{Implies}
use Rattle.lrp_model.specs.Tokens.{Token, Tokens, Part, Takes}
use Rattle.lrp_model.specs.Tokens.Token.{word_token}
use Rattle.lrp_model.specs.Tokens.Part.{any}
use Rattle.lrp_model.specs.Refused.{Fitting}
use Rattle.lrp_model.specs.Queries.{WrittenFormula, FurtherMembers, formula_text, members_text, looseness, IsOrdered, AreOrdered, FitsSizes, FitSizes, FitsDepth, FitDepth, FitsChain}
use Rattle.lrp_model.specs.Queries.Language.{wide}
use Rattle.lrp_model.specs.Queries.WrittenFormula.{bare_all, bare_any, bare_chain}
use Rattle.lrp_model.specs.Queries.FurtherMembers.{last, more}
use Rattle.lrp_model.specs.QueryMeaning.{raw_form, raw_forms, raw_chain}
use Rattle.lrp_model.specs.RawQueries.{RawForm, raw, no_raws, place_of}
use Rattle.lrp_text.proofs.Sound.{takes_join, takes_split, takes_front, takes_onto}
use Rattle.lrp_query.specs.Rules.{Joined, raws}
use Rattle.lrp_query.proofs.Languages.{FitsAt}
use Rattle.lrp_query.proofs.WideRule.{Language, Front, AfterToken, Separated}

abbrev pub Formula : Type 0
Formula = WrittenFormula wide

abbrev pub Further : Type 0
Further = FurtherMembers wide

-- whether it has no parentheses of its own
abbrev pub is_bare : Formula → Bool
is_bare (bare_all t f fs) = true
is_bare (bare_any t f fs) = true
is_bare (bare_chain t f fs) = true
is_bare _ = false

pub tight_alone : (f : Formula) → looseness f ≤ 0 → is_bare f ≡ false
tight_alone (bare_all t f fs) low = absurd (omega (arith, low))
tight_alone (bare_any t f fs) low = absurd (omega (arith, low))
tight_alone (bare_chain t f fs) low = absurd (omega (arith, low))
tight_alone _ low = refl

abbrev pub joined_form : Formula → Joined RawForm
joined_form f = record { formula = raw_form f; bare = is_bare f }

-- a formula that binds as tightly as a place asks, and is lawful with so much depth left
pub record Wrote {V : Type 0} (val : Formula → V) (most d : ℕ) (c : Bool) (v : V) (ts us : Tokens) : Type 0 where
  pub tree : Formula
  pub tight : looseness tree ≤ most
  pub ordered : IsOrdered tree
  pub means : v ≡ val tree
  pub fits : Fitting c (FitsAt d tree)
  pub spelled : Takes (formula_text tree) ts us

-- one that stands alone
abbrev pub FormulaText : ℕ → Language RawForm
FormulaText = Wrote raw_form 0

-- one with lists that are so loose
abbrev pub JoinedText : ℕ → ℕ → Language (Joined RawForm)
JoinedText = Wrote joined_form

pub wrote_front : {V : Type 0} (val : Formula → V) (most d : ℕ) (c : Bool) (v : V) (ts us : Tokens) → Wrote val most d c v ts us → Front (Wrote val most d) c v ts us
wrote_front val most d c v ts us w =
    let f = takes_front (formula_text w.tree) ts us w.spelled in
    record { head = f.head; whole = f.whole; again = λ x. record { tree = w.tree; tight = w.tight; ordered = w.ordered; means = w.means; fits = w.fits; spelled = takes_onto (formula_text w.tree) f.head x f.spelled } }

-- ---- lawful pairs

pub fit_two : (c : Bool) (d : ℕ) (f : Formula) (fs : Further) (Q : Type 0) → Fitting c (FitsAt d f) → Fitting c (FitSizes fs × Q) → Fitting c ((FitsSizes f × FitSizes fs) × (FitsDepth f d × Q))
fit_two true d f fs Q a b = ((a.0, b.0), (a.1, b.1))
fit_two false d f fs Q a b = tt

pub fit_first : (c : Bool) (d : ℕ) (f : Formula) (fs : Further) (Q : Type 0) → Fitting c ((FitsSizes f × FitSizes fs) × (FitsDepth f d × Q)) → Fitting c (FitsAt d f)
fit_first true d f fs Q a = (a.0.0, a.1.0)
fit_first false d f fs Q a = tt

pub fit_second : (c : Bool) (d : ℕ) (f : Formula) (fs : Further) (Q : Type 0) → Fitting c ((FitsSizes f × FitSizes fs) × (FitsDepth f d × Q)) → Fitting c (FitSizes fs × Q)
fit_second true d f fs Q a = (a.0.1, a.1.1)
fit_second false d f fs Q a = tt

pub unlawful : (P : Type 0) (c : Bool) → c ≡ false → Fitting c P
unlawful P true e = absurd cc
unlawful P false e = tt

-- ---- further members

-- a token of parts, and what stands after it
pub after_part : (k : Token) (ps : List Part) (R : Tokens → Type 0) (ms us : Tokens) → Takes (any k ∷ ps) ms us → ((ns : Tokens) → Takes ps ns us → R ns) → AfterToken k R ms
after_part k ps R [] us h onward = absurd h
after_part k ps R (t ∷ ms) us h onward = (h.0, onward ms h.1)

-- the same of a reserved word
pub after_word : (w : Word) (ps : List Part) (R : Tokens → Type 0) (ms us : Tokens) → Takes (any (word_token w) ∷ ps) ms us → ((ns : Tokens) → Takes ps ns us → R ns) → AfterToken (word_token w) R ms
after_word w = after_part (word_token w)

-- with the word between alone
abbrev pub listed_text : Word → Further → List Part
listed_text w (last f) = formula_text f
listed_text w (more f fs) = formula_text f ++ any (word_token w) ∷ listed_text w fs

pub members_listed : (w : Word) (fs : Further) → members_text w fs ≡ any (word_token w) ∷ listed_text w fs
members_listed w (last f) = refl
members_listed w (more f fs) = ap (λ ps. any (word_token w) ∷ (formula_text f ++ ps)) (members_listed w fs)

pub record Members (w : Word) (most d : ℕ) (c : Bool) (vs : List RawForm) (ts us : Tokens) : Type 0 where
  pub members : Further
  pub ordered : AreOrdered members most
  pub means : raws vs ≡ raw_forms members
  pub fits : Fitting c (FitSizes members × FitDepth members d)
  pub spelled : Takes (listed_text w members) ts us

pub members_there : (w : Word) (most d : ℕ) (c : Bool) (vs : List RawForm) (ts us : Tokens) → Separated (Wrote raw_form most d c) (word_token w) vs ts us → Members w most d c vs ts us
members_there w most d c [] ts us s = absurd s
members_there w most d c (v ∷ []) ts us s = record { members = last s.tree; ordered = (s.tight, s.ordered); means = ap (λ x. raw x no_raws) s.means; fits = s.fits; spelled = s.spelled }
members_there w most d c (v ∷ x ∷ vs) ts us ([], s, m) = absurd m
members_there w most d c (v ∷ x ∷ vs) ts us (t ∷ ms, s, (is, rest)) =
    let r = members_there w most d c (x ∷ vs) ms us rest in
    record {
      members = more s.tree r.members;
      ordered = (s.tight, s.ordered, r.ordered);
      means = ap (λ y. raw y (raws (x ∷ vs))) s.means ∙ ap (λ y. raw (raw_form s.tree) y) r.means;
      fits = fit_two c d s.tree r.members (FitDepth r.members d) s.fits r.fits;
      spelled = takes_join (formula_text s.tree) (any (word_token w) ∷ listed_text w r.members) ts (t ∷ ms) us s.spelled (is, r.spelled);
    }

-- what they mean, as a list
abbrev pub forms_of : Further → List RawForm
forms_of (last f) = raw_form f ∷ []
forms_of (more f fs) = raw_form f ∷ forms_of fs

pub forms_are : (fs : Further) → raws (forms_of fs) ≡ raw_forms fs
forms_are (last f) = refl
forms_are (more f fs) = ap (raw (raw_form f)) (forms_are fs)

pub members_back : (w : Word) (most d : ℕ) (c : Bool) (fs : Further) (ts us : Tokens) → AreOrdered fs most → Fitting c (FitSizes fs × FitDepth fs d) → Takes (listed_text w fs) ts us → Separated (Wrote raw_form most d c) (word_token w) (forms_of fs) ts us
members_back w most d c (last f) ts us o fit s = record { tree = f; tight = o.0; ordered = o.1; means = refl; fits = fit; spelled = s }
members_back w most d c (more f (last g)) ts us o fit s =
    let k = takes_split (formula_text f) (any (word_token w) ∷ formula_text g) ts us s in
    (k.0, record { tree = f; tight = o.0; ordered = o.1; means = refl; fits = fit_first c d f (last g) (FitDepth (last g) d) fit; spelled = k.1 }, after_word w (formula_text g) (λ ns. Wrote raw_form most d c (raw_form g) ns us) k.0 us k.2 (λ ns h. members_back w most d c (last g) ns us o.2 (fit_second c d f (last g) (FitDepth (last g) d) fit) h))
members_back w most d c (more f (more g gs)) ts us o fit s =
    let rest : List Part = listed_text w (more g gs) in
    let k = takes_split (formula_text f) (any (word_token w) ∷ rest) ts us s in
    (k.0, record { tree = f; tight = o.0; ordered = o.1; means = refl; fits = fit_first c d f (more g gs) (FitDepth (more g gs) d) fit; spelled = k.1 }, after_word w rest (λ ns. Separated (Wrote raw_form most d c) (word_token w) (forms_of (more g gs)) ns us) k.0 us k.2 (λ ns h. members_back w most d c (more g gs) ns us o.2 (fit_second c d f (more g gs) (FitDepth (more g gs) d) fit) h))

-- ---- chains

-- what a formula implies in turn
pub record ChainText (d : ℕ) (f : RawForm) (c : Bool) (v : RawForm) (ts us : Tokens) : Type 0 where
  pub members : Further
  pub ordered : AreOrdered members 2
  pub means : v ≡ raw_chain (place_of f) f members
  pub fits : Fitting c (FitSizes members × FitsChain members d)
  pub spelled : Takes (listed_text Implies members) ts us
