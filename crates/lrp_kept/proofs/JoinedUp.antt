-- The atoms of a disjunct as they are joined one after the other, and the disjuncts of a query.
use Rattle.std.proofs.Common.{◌≡◌, ◌<◌, ◌+◌, ℕ, zero, suc, false, Vec, Global, Result, Ok, Err, List, [], ◌∷◌, ◌++◌, length, take, get_or, map, Some, refl, sym, ap, subst, ◌∙◌, arith}
use Rattle.std.specs.Prelude.{Contains, IfOk, filter, slice_get}
use Rattle.std.specs.List.{AllByRecursion, AllZip}
use Rattle.std.proofs.lemmas.List.{map-append, take_more}
use Rattle.std.proofs.lemmas.Option.{slice_get_within}
use Rattle.lrp_model.specs.Texts.{Identifier}
use Rattle.lrp_model.specs.Formulas.{Form, Forms, Question, disjunction, no_forms, form, joined}
use Rattle.lrp_model.specs.Core.{disjuncts, positive}
use Rattle.lrp_model.specs.declared.formulas.Test.{Test}
use Rattle.lrp_core.specs.Cores.{core_of, cores_of}
use Rattle.lrp_core.specs.declared.core_forms.Core.{Core, Or}
use Rattle.lrp_core.proofs.CoreViews.{cores_of-append, disjunct_added}
use Rattle.lrp_plan_laws.specs.Atoms.{Atom}
use Rattle.lrp_tables.specs.declared.table.Vars.{Vars}
use Rattle.lrp_tables.specs.Columns.{joint, scan_texts, scan_times}
use Rattle.lrp_kept.specs.Choices.{as_list, listed_disjuncts}
use Rattle.lrp_kept.specs.Disjuncts.{AreDisjunctsOf, AreJoined, IsAtomOf, IsDisjunctOf, is_test_covered}
use Rattle.lrp_kept.specs.Drafts.{AreAllJoined, AreDisjuncts, AreOfRelations, CanBeJoinedUp, DraftsDisjunct, IsJoinedAtom, MakesDisjunct, IsOneMore, atom_in, texts_after, times_after}
use Rattle.lrp_kept.specs.declared.disjuncts.Disjunct.{Disjunct}
use Rattle.lrp_kept.specs.declared.disjuncts.DisjunctDraft.{DisjunctDraft}
use Rattle.lrp_kept.specs.declared.disjuncts.JoinedAtom.{JoinedAtom}
use Rattle.lrp_kept.specs.declared.disjuncts.NamedTerms.{NamedTerms}
use Rattle.lrp_kept.proofs.Drafted.{kept_atoms}
use Rattle.lrp_kept.proofs.Zipped.{zip_push}

-- ---- the atoms

-- one atom more, after the variables so far
push_joined : (tests : List Test) (ts xs : List Identifier) (js : List JoinedAtom) (j : JoinedAtom) → AreJoined tests ts xs js
    → j.vars.times ≡ joint (times_after ts js) (scan_times j.terms) → j.vars.texts ≡ joint (texts_after xs js) (scan_texts j.terms) → j.tests ≡ filter (is_test_covered j.vars.times j.vars.texts) tests
    → AreJoined tests ts xs (js ++ j ∷ [])
push_joined tests ts xs [] j h t x f = (t, x, f, tt)
push_joined tests ts xs (k ∷ js) j h t x f = (h.0, h.1, h.2, push_joined tests k.vars.times k.vars.texts js j h.3 t x f)

times_pushed : (ts : List Identifier) (js : List JoinedAtom) (j : JoinedAtom) → times_after ts (js ++ j ∷ []) ≡ j.vars.times
times_pushed ts [] j = refl
times_pushed ts (k ∷ js) j = times_pushed k.vars.times js j

texts_pushed : (xs : List Identifier) (js : List JoinedAtom) (j : JoinedAtom) → texts_after xs (js ++ j ∷ []) ≡ j.vars.texts
texts_pushed xs [] j = refl
texts_pushed xs (k ∷ js) j = texts_pushed k.vars.texts js j

-- the first atoms are joined, and these are the variables after them
pub record AreJoinedUp (names : List Identifier) (all : List Atom) (tests : List Test) (vars : Vars) (js : List JoinedAtom) : Type 0 where
  pub joined : AreAllJoined names all tests js
  pub times : vars.times ≡ times_after [] js
  pub texts : vars.texts ≡ texts_after [] js

pub none_joined : (names : List Identifier) (tests : List Test) (vars : Vars) (js : List JoinedAtom) → js ≡ [] → vars.times ≡ [] → vars.texts ≡ [] → AreJoinedUp names [] tests vars js
none_joined names tests vars js e t x = subst (λ k. AreJoinedUp names [] tests vars k) (sym e) (record { joined = record { each = tt; joined = tt }; times = t; texts = x })

push_up : (names : List Identifier) (all : List Atom) (tests : List Test) (old vars : Vars) (js : List JoinedAtom) (a : Atom) (j : JoinedAtom) → AreJoinedUp names all tests old js
    → vars.times ≡ joint old.times (scan_times a.terms) → vars.texts ≡ joint old.texts (scan_texts a.terms) → IsJoinedAtom names a tests vars j
    → AreJoinedUp names (all ++ a ∷ []) tests vars (js ++ j ∷ [])
push_up names all tests old vars js a j h t x w = record {
  joined = record {
    each = zip_push (IsAtomOf names) all js a j h.joined.each w.is;
    joined = push_joined tests [] [] js j h.joined.joined
        (w.times ∙ t ∙ ap (λ ns. joint ns (scan_times a.terms)) h.times ∙ ap (λ ts. joint (times_after [] js) (scan_times ts)) (sym w.is.terms))
        (w.texts ∙ x ∙ ap (λ ns. joint ns (scan_texts a.terms)) h.texts ∙ ap (λ ts. joint (texts_after [] js) (scan_texts ts)) (sym w.is.terms))
        (w.covered ∙ ap (λ ns. filter (is_test_covered ns vars.texts) tests) (sym w.times) ∙ ap (λ ns. filter (is_test_covered j.vars.times ns) tests) (sym w.texts));
  };
  times = sym w.times ∙ sym (times_pushed [] js j);
  texts = sym w.texts ∙ sym (texts_pushed [] js j);
}

pub one_joined : (names : List Identifier) (named : List NamedTerms) (i : ℕ) (n : NamedTerms) (tests : List Test) (old vars : Vars) (js ks : List JoinedAtom) (j : JoinedAtom) → i < length named → n ≡ get_or named i n
    → AreJoinedUp names (map atom_in (take i named)) tests old js → vars.times ≡ joint old.times (scan_times n.terms) → vars.texts ≡ joint old.texts (scan_texts n.terms) → IsJoinedAtom names (atom_in n) tests vars j → ks ≡ js ++ j ∷ []
    → AreJoinedUp names (map atom_in (take (i + 1) named)) tests vars ks
one_joined names named i n tests old vars js ks j lt is h t x w e =
    subst (λ atoms_so. AreJoinedUp names atoms_so tests vars ks) (sym (ap (map atom_in) (take_more named i n lt ∙ ap (λ m. take i named ++ m ∷ []) (sym is)) ∙ map-append atom_in (take i named) (n ∷ [])))
    (subst (λ k. AreJoinedUp names (map atom_in (take i named) ++ atom_in n ∷ []) tests vars k) (sym e) (push_up names (map atom_in (take i named)) tests old vars js (atom_in n) j h t x w))

-- each name is one of the relations'
pub name_at : (names : List Identifier) (named : List NamedTerms) (i : ℕ) (n : NamedTerms) → i < length named → n ≡ get_or named i n → AreOfRelations names (map atom_in named) → Contains names n.name
name_at names [] i n lt is h = absurd (omega (arith, lt))
name_at names (m ∷ named) zero n lt is h = subst (λ k. Contains names k) (sym (ap (λ (k : NamedTerms). k.name) is)) h.0
name_at names (m ∷ named) (suc i) n lt is h = name_at names named i n (omega (arith, lt)) is h.1

-- ---- a disjunct

pub made_is : (names : List Identifier) (f : Form) (draft : DisjunctDraft) (d : Disjunct) → CanBeJoinedUp names f → DraftsDisjunct f draft → MakesDisjunct names draft d → IsDisjunctOf names f d
made_is names f draft d can h m = record {
  atoms_are = subst (λ atoms_so. AllZip (IsAtomOf names) atoms_so d.atoms.items) (h.atoms ∙ sym (kept_atoms f can.conjunctive)) m.atoms;
  tests_are = m.tests ∙ h.tests;
  bound_are = m.bound ∙ h.bound;
  joined = m.joined;
}

pub draft_named : (names : List Identifier) (f : Form) (draft : DisjunctDraft) → CanBeJoinedUp names f → DraftsDisjunct f draft → AreOfRelations names (map atom_in draft.atoms.items)
draft_named names f draft can h = subst (λ atoms_so. AreOfRelations names atoms_so) (kept_atoms f can.conjunctive ∙ sym h.atoms) can.named

-- ---- the disjuncts of a query

pub same_some : {X : Type 0} (a b : X) → Some a ≡ Some b → a ≡ b
same_some a b e = cc

-- numbered from k on
abbrev NumberedFrom : ℕ → List Disjunct → Type 0
NumberedFrom k ds = (i : ℕ) (d : Disjunct) → slice_get ds i ≡ Some d → d.number ≡ k + i

numbered_push : (k : ℕ) (ds : List Disjunct) (d : Disjunct) → NumberedFrom k ds → d.number ≡ k + length ds → NumberedFrom k (ds ++ d ∷ [])
numbered_push k [] d h n zero e is = sym (ap (λ (x : Disjunct). x.number) (same_some d e is)) ∙ n
numbered_push k [] d h n (suc i) e is = absurd (let l : i < 0 = slice_get_within [] i e is in omega (arith, l))
numbered_push k (c ∷ ds) d h n zero e is = h zero e is
numbered_push k (c ∷ ds) d h n (suc i) e is =
    let r : e.number ≡ suc k + i = numbered_push (suc k) ds d (λ j f q. let s : f.number ≡ k + suc j = h (suc j) f q in omega (arith, s)) (omega (arith, n)) i e is in
    omega (arith, r)

as_list_joined : (fs gs : Forms) → as_list (joined fs gs) ≡ as_list fs ++ as_list gs
as_list_joined no_forms gs = refl
as_list_joined (form f fs) gs = ap (λ hs. f ∷ hs) (as_list_joined fs gs)

pub no_disjuncts : (names : List Identifier) (ds : List Disjunct) → ds ≡ [] → AreDisjuncts names [] ds
no_disjuncts names ds e = subst (λ k. AreDisjuncts names [] k) (sym e) (record { each = tt; numbered = λ i d h. absurd (let l : i < 0 = slice_get_within [] i d h in omega (arith, l)) })

push_one : (names : List Identifier) (fs : List Form) (f : Form) (old new : List Disjunct) → AreDisjuncts names fs old → IsOneMore names f old new → AreDisjuncts names (fs ++ f ∷ []) new
push_one names fs f old new h w = subst (λ ds. AreDisjuncts names (fs ++ f ∷ []) ds) (sym w.new_is) (record {
  each = zip_push (IsDisjunctOf names) fs old f w.disjunct h.each w.is;
  numbered = λ i d e. let s : d.number ≡ 0 + i = numbered_push 0 old w.disjunct (λ j c q. let t : c.number ≡ j = h.numbered j c q in omega (arith, t)) (let n = w.number in omega (arith, n)) i d e in omega (arith, s);
})

pub one_disjunct_more : (names : List Identifier) (cores : List Core) (i : ℕ) (core : Core) (old new : List Disjunct) → i < length cores → core ≡ get_or cores i core → AreDisjuncts names (as_list (cores_of (take i cores))) old → IsOneMore names (core_of core) old new → AreDisjuncts names (as_list (cores_of (take (i + 1) cores))) new
one_disjunct_more names cores i core old new lt is h w =
    subst (λ fs. AreDisjuncts names fs new) (sym (ap (λ cs. as_list (cores_of cs)) (take_more cores i core lt ∙ ap (λ x. take i cores ++ x ∷ []) (sym is)) ∙ ap as_list (cores_of-append (take i cores) (core ∷ [])) ∙ as_list_joined (cores_of (take i cores)) (form (core_of core) no_forms)))
    (push_one names (as_list (cores_of (take i cores))) (core_of core) old new h w)

pub only_disjunct : (names : List Identifier) (f : Form) (old new : List Disjunct) → old ≡ [] → IsOneMore names f old new → AreDisjuncts names (f ∷ []) new
only_disjunct names f old new e w = push_one names [] f old new (no_disjuncts names old e) w

-- each core form is one of them
pub can_at : (P : Form → Type 0) (cores : List Core) (i : ℕ) (core : Core) → i < length cores → core ≡ get_or cores i core → AllByRecursion P (as_list (cores_of cores)) → P (core_of core)
can_at P [] i core lt is h = absurd (omega (arith, lt))
can_at P (c ∷ cores) zero core lt is h = subst (λ x. P (core_of x)) (sym is) h.0
can_at P (c ∷ cores) (suc i) core lt is h = can_at P cores i core (omega (arith, lt)) is h.1

-- a core form is an `or` of these, or it is one alone
pub some_listed : (q : Question) (f : Form) (fs : Forms) → f ≡ positive q.body false → f ≡ disjunction fs → listed_disjuncts q ≡ as_list fs
some_listed q f fs e g = ap (λ k. as_list (disjuncts k)) (sym e ∙ g)

pub one_listed : (q : Question) (core : Core) → core_of core ≡ positive q.body false → ((v : Vec Core Global) → core ≡ Or v → ⊥) → listed_disjuncts q ≡ core_of core ∷ []
one_listed q core e other = ap (λ k. as_list (disjuncts k)) (sym e) ∙ ap as_list (sym (disjunct_added [] (core ∷ []) core other refl))

-- those of the formulas that a query's core form is an `or` of
pub disjuncts_are : (names : List Identifier) (q : Question) (fs : Forms) (ds : List Disjunct) → listed_disjuncts q ≡ as_list fs → AreDisjuncts names (as_list fs) ds → AreDisjunctsOf names q ds
disjuncts_are names q fs ds e h = record { each = subst (λ xs. AllZip (IsDisjunctOf names) xs ds) (sym e) h.each; numbered = h.numbered }

pub each_of : {X : Type 0} (o : Result (Vec Disjunct Global) X) (names : List Identifier) (q : Question) (fs : Forms) → listed_disjuncts q ≡ as_list fs → IfOk o (λ made. AreDisjuncts names (as_list fs) made.items) → IfOk o (λ made. AreDisjunctsOf names q made.items)
each_of (Ok made) names q fs e h = disjuncts_are names q fs made.items e h
each_of (Err x) names q fs e h = tt

pub alone_of : {X : Type 0} (o : Result (Vec Disjunct Global) X) (names : List Identifier) (q : Question) (f : Form) → listed_disjuncts q ≡ f ∷ [] → IfOk o (λ made. AreDisjuncts names (f ∷ []) made.items) → IfOk o (λ made. AreDisjunctsOf names q made.items)
alone_of (Ok made) names q f e h = disjuncts_are names q (form f no_forms) made.items e h
alone_of (Err x) names q f e h = tt
