-- Edits that were made, with the least answers over the relations before them and after each; and the one at which a limit is passed.
use Rattle.std.proofs.Common.{◌≡◌, ℕ, suc, ◌+◌, ◌<◌, List, [], ◌∷◌, ◌++◌, length, take, drop, get_or, Option, refl, sym, ap, subst, arith, ◌∙◌}
use Rattle.std.specs.List.{AllByRecursion, AllZip}
use Rattle.std.proofs.lemmas.List.{length-take-le, take-append-drop}
use Rattle.std.proofs.Math.Seq.{drop-cons, take-suc}
use Rattle.lrp_model.specs.Formulas.{Question}
use Rattle.lrp_model.specs.Texts.{Text}
use Rattle.lrp_model.specs.declared.plans.Planning.{Planning}
use Rattle.lrp_model.specs.declared.relations.Relation.{Relation}
use Rattle.lrp_model.specs.declared.tuples.Spot.{Spot}
use Rattle.lrp_edits.specs.EditMeaning.{IsEditOf}
use Rattle.lrp_edits.specs.declared.edits.Edit.{Edit}
use Rattle.lrp_keep.specs.declared.faults.KeepFault.{KeepFault}
use Rattle.lrp_watch.specs.Anew.{IsPastAfter, IsPastPlan, IsWithinPlan}
use Rattle.lrp_watch.specs.Changes.{IsToldOver}
use Rattle.lrp_watch.specs.Decided.{AreDecided, CanBeDecided}
use Rattle.lrp_watch.specs.Edited.{AreEdited, IsEdited}
use Rattle.lrp_watch.specs.LeastAnswers.{IsLeastOver}
use Rattle.lrp_watch.proofs.Headings.{decided_still, edits_still}
use Rattle.lrp_watch.proofs.Replacing.{all_one}

-- the relations after the last edit
abbrev pub last_held : List Relation → List (List Relation) → List Relation
last_held db [] = db
last_held db (next ∷ later) = last_held next later

last_more : (db : List Relation) (later : List (List Relation)) (next : List Relation) → last_held db (later ++ next ∷ []) ≡ next
last_more db [] next = refl
last_more db (l ∷ later) next = last_more l later next

edited_more : (es : List Edit) (db : List Relation) (later : List (List Relation)) (e : Edit) (next : List Relation) → AreEdited es db later → IsEdited e (last_held db later) next → AreEdited (es ++ e ∷ []) db (later ++ next ∷ [])
edited_more [] db [] e next h is = (is, refl)
edited_more [] db (l ∷ later) e next h is = cc
edited_more (x ∷ es) db [] e next h is = absurd h
edited_more (x ∷ es) db (l ∷ later) e next h is = (h.0, edited_more es l later e next h.1 is)

module _ (way : Planning) (q : Question) (cap : ℕ) (domain : List Text) where
  abbrev AreLeasts : List (List Relation) → List (Option Spot) → Type 0
  AreLeasts dbs spots = AllZip (λ held least. IsLeastOver q domain held least) dbs spots

  leasts_more : (dbs : List (List Relation)) (spots : List (Option Spot)) (db : List Relation) (least : Option Spot) → AreLeasts dbs spots → IsLeastOver q domain db least → AreLeasts (dbs ++ db ∷ []) (spots ++ least ∷ [])
  leasts_more [] [] db least h is = (is, tt)
  leasts_more [] (s ∷ spots) db least h is = absurd h
  leasts_more (l ∷ dbs) [] db least h is = absurd h
  leasts_more (l ∷ dbs) (s ∷ spots) db least h is = (h.0, leasts_more dbs spots db least h.1 is)

  -- the first edits are made, and the least answers told; the relations are now those after them
  pub record AreDecidedUpTo (count : ℕ) (edits : List Edit) (db now : List Relation) (spots : List (Option Spot)) : Type 0 where
    pub done : AreDecided way q cap domain (take count edits) db spots
    pub now_is : now ≡ last_held db done.later
    pub can : CanBeDecided now q
    pub lawful : AllByRecursion (IsEditOf now) edits

  pub none_decided : (edits : List Edit) (db now : List Relation) (spots new : List (Option Spot)) → now ≡ db → CanBeDecided db q → AllByRecursion (IsEditOf db) edits → spots ≡ [] → IsToldOver q domain now spots new → IsWithinPlan way q cap now → AreDecidedUpTo 0 edits db now new
  none_decided edits db now spots new same can lawful empty told within = record {
    done = record {
      later = [];
      edited = refl;
      within = (subst (λ d. IsWithinPlan way q cap d) same within, tt);
      leasts = subst (AreLeasts (db ∷ [])) (sym (told.more ∙ ap (λ ss. ss ++ told.least ∷ []) empty)) (subst (λ d. IsLeastOver q domain d told.least) same told.is, tt);
    };
    now_is = same;
    can = subst (λ d. CanBeDecided d q) (sym same) can;
    lawful = subst (λ d. AllByRecursion (IsEditOf d) edits) (sym same) lawful;
  }

  pub one_decided : (count : ℕ) (edits : List Edit) (db now next : List Relation) (e : Edit) (spots new : List (Option Spot)) → count < length edits → e ≡ get_or edits count e → AreDecidedUpTo count edits db now spots → IsEdited e now next → IsToldOver q domain next spots new → IsWithinPlan way q cap next
      → AreDecidedUpTo (count + 1) edits db next new
  one_decided count edits db now next e spots new low at h is told within =
      let d = h.done in
      let next_count : count + 1 ≡ suc count = omega arith in
      let taken : take (count + 1) edits ≡ take count edits ++ e ∷ [] = ap (λ n. take n edits) next_count ∙ take-suc edits count e low ∙ ap (λ x. take count edits ++ x ∷ []) (sym at) in
      record {
        done = record {
          later = d.later ++ next ∷ [];
          edited = subst (λ es. AreEdited es db (d.later ++ next ∷ [])) (sym taken) (edited_more (take count edits) db d.later e next d.edited (subst (λ k. IsEdited e k next) h.now_is is));
          within = (d.within.0, all_one (IsWithinPlan way q cap) d.later next d.within.1 within);
          leasts = subst (AreLeasts (db ∷ d.later ++ next ∷ [])) (sym told.more) (leasts_more (db ∷ d.later) spots next told.least d.leasts told.is);
        };
        now_is = sym (last_more db d.later next);
        can = decided_still e now next q is h.can;
        lawful = edits_still e now next edits is h.lawful;
      }

  pub all_decided : (count : ℕ) (edits : List Edit) (db now : List Relation) (spots : List (Option Spot)) → take count edits ≡ edits → AreDecidedUpTo count edits db now spots → AreDecided way q cap domain edits db spots
  all_decided count edits db now spots e h = subst (λ es. AreDecided way q cap domain es db spots) e h.done

  -- ---- faults

  past_after : (es : List Edit) (db : List Relation) (later : List (List Relation)) (e : Edit) (rest : List Edit) (next : List Relation) (fault : KeepFault) (number : ℕ) → AreEdited es db later → AllByRecursion (IsWithinPlan way q cap) (db ∷ later) → IsEdited e (last_held db later) next → IsPastPlan way q cap next fault
      → number ≡ suc (length es) → IsPastAfter way q cap (es ++ e ∷ rest) db number fault
  past_after [] db [] e rest next fault number h w is past n = subst (λ k. IsPastAfter way q cap (e ∷ rest) db k fault) (sym n) (w.0, (next, is, past))
  past_after [] db (l ∷ later) e rest next fault number h w is past n = cc
  past_after (x ∷ es) db [] e rest next fault number h w is past n = absurd h
  past_after (x ∷ es) db (l ∷ later) e rest next fault number h w is past n =
      subst (λ k. IsPastAfter way q cap (x ∷ es ++ e ∷ rest) db k fault) (sym n) (w.0, (l, h.0, past_after es l later e rest next fault (suc (length es)) h.1 w.1 is past refl))

  pub past_at : (count : ℕ) (edits : List Edit) (db now next : List Relation) (e : Edit) (spots : List (Option Spot)) (number : ℕ) (fault : KeepFault) → count < length edits → e ≡ get_or edits count e → AreDecidedUpTo count edits db now spots → IsEdited e now next
      → number ≡ count + 1 → IsPastPlan way q cap next fault → IsPastAfter way q cap edits db number fault
  past_at count edits db now next e spots number fault low at h is n past =
      let d = h.done in
      let size : length (take count edits) ≡ count = length-take-le count edits (omega (arith, low)) in
      let split : edits ≡ take count edits ++ e ∷ drop (suc count) edits = sym (take-append-drop count edits) ∙ ap (λ xs. take count edits ++ xs) (drop-cons edits count e low ∙ ap (λ x. x ∷ drop (suc count) edits) (sym at)) in
      subst (λ es. IsPastAfter way q cap es db number fault) (sym split)
      (past_after (take count edits) db d.later e (drop (suc count) edits) next fault number d.edited d.within (subst (λ k. IsEdited e k next) h.now_is is) past (let one : number ≡ count + 1 = n in omega (arith, one, size)))

  pub past_first : (edits : List Edit) (db now : List Relation) (number : ℕ) (fault : KeepFault) → now ≡ db → number ≡ 0 → IsPastPlan way q cap now fault → IsPastAfter way q cap edits db number fault
  past_first edits db now number fault same n past = subst (λ k. IsPastAfter way q cap edits db k fault) (sym n) (subst (λ d. IsPastPlan way q cap d fault) same past)
