use Rattle.std.proofs.Common.{◌≡◌, false, ◌++◌, List, [], ◌∷◌, length, map, not, ap, subst, sym, ◌∙◌, arith}
use Rattle.std.proofs.lemmas.List.{length-map, map-append}
use Rattle.lrp_model.specs.Faults.{is_named_in}
use Rattle.lrp_model.specs.Texts.{Identifier}
use Rattle.lrp_model.specs.declared.relations.Relation.{Relation}
use Rattle.lrp_sorts.specs.Definitions.{AreMarked, AreNamesNumbered, AreNew, Defined, is_taken}
use Rattle.lrp_sorts.proofs.Near.{both_true, still_new, undenied}
use Rattle.lrp_sorts.proofs.definitions.Definitions.with.Goals as goal

pub returns-clause-new : goal.returns-clause-new
returns-clause-new c =
    let n = c.args.name.now in
    let d : Defined = record { relations = c.self.inside.db.now; definitions = c.self.inside.all.items } in
    c.in_ok-is_new.ensures.new (map (λ r. r.name) d.definitions) c.self.invariant.numbered ∙ ap (λ l. not (is_named_in l n)) (sym (map-append (λ r. r.name) d.relations d.definitions)) ∙ ap (λ e. not (is_taken e n)) c.self.view_is

pub invariant_of-made : goal.invariant_of-made
invariant_of-made c =
    let n = c.args.name.now in
    let all : List Relation = c.self.inside.all.items in
    let names : List Identifier = map (λ r. r.name) all in
    let added : List Relation → List Identifier = map (λ r. r.name) in
    let more : map (λ r. r.name) c.push.new.self.items ≡ names ++ n ∷ [] =
    ap added c.in_ok-push.ensures.items ∙ map-append (λ r. r.name) all (c.in_ok-rowless.field-0 ∷ []) ∙ ap (λ (r : Relation). names ++ r.name ∷ []) c.in_ok-rowless.ensures in
    let size : c.len.result ≡ length names = omega (arith, c.len.ensures, length-map all (λ r. r.name)) in
    record {
      numbered = subst (AreNamesNumbered c.add_number.new.numbers (map (λ r. r.name) c.self.inside.db.now)) (sym more) (c.in_ok-is_new.ensures.numbers names size c.self.invariant.numbered);
      marked = subst (AreMarked c.mark.new.initials) (sym more) (c.mark.ensures names (subst (λ m. AreMarked m names) (sym c.deref_mut.ensures.value) c.self.invariant.marked));
      relations = c.self.invariant.relations;
      new = λ holds.
          let both = both_true c.self.inside.are_new c.in_ok-is_new.is_new (sym c.all_new.ensures ∙ holds) in
          let taken : List Identifier = map (λ r. r.name) c.self.inside.db.now in
          let new : is_named_in (taken ++ names) n ≡ false = undenied _ (sym (c.in_ok-is_new.ensures.new names c.self.invariant.numbered) ∙ both.1) in
          subst (AreNew taken) (sym more) (still_new taken names n (c.self.invariant.new both.0) new);
    }
