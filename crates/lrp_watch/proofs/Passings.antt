-- Edits that were made, with the least answers before them and after each; and the one at which a limit is passed.
use Rattle.std.proofs.Common.{◌≡◌, ℕ, zero, suc, ◌+◌, ◌<◌, List, [], ◌∷◌, ◌++◌, length, take, drop, get_or, Option, refl, sym, ap, subst, arith, ◌∙◌}
use Rattle.std.specs.List.{AllByRecursion, AllZip}
use Rattle.std.proofs.lemmas.List.{length-take-le, take-append-drop}
use Rattle.std.proofs.Math.Seq.{drop-cons, take-suc}
use Rattle.lrp_model.specs.Formulas.{Question, question_of}
use Rattle.lrp_model.specs.Texts.{Text}
use Rattle.lrp_model.specs.declared.tuples.Spot.{Spot}
use Rattle.lrp_edits.specs.declared.edits.Edit.{Edit}
use Rattle.lrp_keep.specs.Keeps.{KeepView}
use Rattle.lrp_keep.specs.declared.faults.KeepFault.{KeepFault}
use Rattle.lrp_watch.specs.declared.faults.WatchFault.{WatchFault}
use Rattle.lrp_watch.specs.declared.faults.WatchFault.TheVariants.{PeriodLimit, BoundLimit, TooManyCells, Memory}
use Rattle.lrp_watch.specs.Edits.{AreMade, IsEditMade, IsPassedAfter, IsRefusedEdit, last_kept}
use Rattle.lrp_watch.specs.Faults.{IsFaultBy}
use Rattle.lrp_watch.specs.LeastAnswers.{AreDone, CanGoOn, IsLeastOver, IsTold}
use Rattle.lrp_watch.proofs.Goings.{IsKin, goes_on, kin_of, kin_then}

-- ---- one edit more

last_more : (k : KeepView) (later : List KeepView) (next : KeepView) → last_kept k (later ++ next ∷ []) ≡ next
last_more k [] next = refl
last_more k (l ∷ later) next = last_more l later next

made_more : (es : List Edit) (k : KeepView) (later : List KeepView) (e : Edit) (next : KeepView) → AreMade es k later → IsEditMade e (last_kept k later) next → AreMade (es ++ e ∷ []) k (later ++ next ∷ [])
made_more [] k [] e next h is = (is, refl)
made_more [] k (l ∷ later) e next h is = cc
made_more (x ∷ es) k [] e next h is = absurd h
made_more (x ∷ es) k (l ∷ later) e next h is = (h.0, made_more es l later e next h.1 is)

module _ (q : Question) (domain : List Text) where
  abbrev AreLeasts : List KeepView → List (Option Spot) → Type 0
  AreLeasts ks spots = AllZip (λ k least. IsLeastOver q domain k.relations least) ks spots

  leasts_more : (ks : List KeepView) (spots : List (Option Spot)) (k : KeepView) (least : Option Spot) → AreLeasts ks spots → IsLeastOver q domain k.relations least → AreLeasts (ks ++ k ∷ []) (spots ++ least ∷ [])
  leasts_more [] [] k least h is = (is, tt)
  leasts_more [] (s ∷ spots) k least h is = absurd h
  leasts_more (l ∷ ks) [] k least h is = absurd h
  leasts_more (l ∷ ks) (s ∷ spots) k least h is = (h.0, leasts_more ks spots k least h.1 is)

-- ---- what a loop over the edits keeps

-- the first edits are done, what is kept is kin to what was, and can go on
pub record AreDoneUpTo (count : ℕ) (edits : List Edit) (old now : KeepView) (spots : List (Option Spot)) : Type 0 where
  pub done : AreDone (take count edits) old now spots
  pub kin : IsKin old now
  pub on : CanGoOn now edits

kin_self : (k : KeepView) → IsKin k k
kin_self k = record { query = refl; domain = refl; held = λ name r is. (r, is, refl) }

pub none_done : (edits : List Edit) (k : KeepView) (spots new : List (Option Spot)) → CanGoOn k edits → spots ≡ [] → IsTold k spots new → AreDoneUpTo 0 edits k k new
none_done edits k spots new on empty told = record {
  done = record { later = []; made = refl; now_is = refl; leasts = subst (AreLeasts (question_of k.query) k.domain (k ∷ [])) (sym (told.more ∙ ap (λ ss. ss ++ told.least ∷ []) empty)) (told.is, tt) };
  kin = kin_self k;
  on = on;
}

pub one_done : (count : ℕ) (edits : List Edit) (old now next : KeepView) (e : Edit) (spots new : List (Option Spot)) → count < length edits → e ≡ get_or edits count e → AreDoneUpTo count edits old now spots → IsEditMade e now next → IsTold next spots new
    → AreDoneUpTo (count + 1) edits old next new
one_done count edits old now next e spots new l at h made told =
    let d = h.done in
    let kin : IsKin old next = kin_then old now next h.kin (kin_of e now next made) in
    let next_count : count + 1 ≡ suc count = omega arith in
    let taken : take (count + 1) edits ≡ take count edits ++ e ∷ [] = ap (λ n. take n edits) next_count ∙ take-suc edits count e l ∙ ap (λ x. take count edits ++ x ∷ []) (sym at) in
    let own : IsLeastOver (question_of old.query) old.domain next.relations told.least =
    subst (λ domain. IsLeastOver (question_of old.query) domain next.relations told.least) kin.domain (subst (λ query. IsLeastOver (question_of query) next.domain next.relations told.least) kin.query told.is) in
    record {
      done = record {
        later = d.later ++ next ∷ [];
        made = subst (λ es. AreMade es old (d.later ++ next ∷ [])) (sym taken) (made_more (take count edits) old d.later e next d.made (subst (λ k. IsEditMade e k next) d.now_is made));
        now_is = sym (last_more old d.later next);
        leasts = subst (AreLeasts (question_of old.query) old.domain (old ∷ d.later ++ next ∷ [])) (sym told.more) (leasts_more (question_of old.query) old.domain (old ∷ d.later) spots next told.least d.leasts own);
      };
      kin = kin;
      on = goes_on e now next edits made h.on;
    }

-- where all edits are done
pub all_done : (count : ℕ) (edits : List Edit) (old now : KeepView) (spots : List (Option Spot)) → take count edits ≡ edits → AreDoneUpTo count edits old now spots → AreDone edits old now spots
all_done count edits old now spots e h = subst (λ es. AreDone es old now spots) e h.done

-- ---- faults

pub fault_as : (P Q : ℕ → KeepFault → Type 0) → ((n : ℕ) (fault : KeepFault) → P n fault → Q n fault) → (fault : WatchFault) → IsFaultBy P fault → IsFaultBy Q fault
fault_as P Q f (PeriodLimit edit) h = f edit _ h
fault_as P Q f (BoundLimit edit) h = f edit _ h
fault_as P Q f (TooManyCells edit) h = f edit _ h
fault_as P Q f Memory h = tt

-- the edit after those that were made is refused
pub passed_at : (count : ℕ) (edits : List Edit) (old now : KeepView) (e : Edit) (spots : List (Option Spot)) (number : ℕ) (fault : KeepFault) → count < length edits → e ≡ get_or edits count e → AreDoneUpTo count edits old now spots
    → number ≡ count + 1 → IsRefusedEdit e now fault → IsPassedAfter edits old number fault
passed_at count edits old now e spots number fault l at h n refused =
    let d = h.done in
    let size : length (take count edits) ≡ count = length-take-le count edits (omega (arith, l)) in
    let split : edits ≡ take count edits ++ e ∷ drop (suc count) edits = sym (take-append-drop count edits) ∙ ap (λ xs. take count edits ++ xs) (drop-cons edits count e l ∙ ap (λ x. x ∷ drop (suc count) edits) (sym at)) in
    record {
      before = take count edits;
      edit = e;
      after = drop (suc count) edits;
      are = split;
      number_is = n ∙ ap (λ m. m + 1) (sym size);
      later = d.later;
      made = d.made;
      refused = subst (λ k. IsRefusedEdit e k fault) d.now_is refused;
    }

-- what holds of each edit holds of the one at an index
pub edit_at : (P : Edit → Type 0) (es : List Edit) (i : ℕ) (e : Edit) → AllByRecursion P es → i < length es → e ≡ get_or es i e → P e
edit_at P [] i e h l at = absurd (omega arith)
edit_at P (x ∷ es) zero e h l at = subst P (sym at) h.0
edit_at P (x ∷ es) (suc i) e h l at = edit_at P es i e h.1 (omega arith) at
