-- The body at the end of a chain.
use mathlib.Core.Path.{fun_ext}
use Rattle.std.proofs.Common.{◌≡◌, ℕ, suc, ◌+◌, ◌-◌, ◌<◌, Some, List, [], slice_get, ap, ap₂, sym, subst, ◌∙◌, arith}
use Rattle.lrp_model.specs.RawQueries.{RawFileView, RawForm}
use Rattle.lrp_model.specs.Texts.{Identifier}
use Rattle.lrp_model.specs.declared.relations.Relation.{Relation}
use Rattle.lrp_wide.specs.Chains.{ArePlainTextsOf, IsBodyBy, IsChain, as_themselves, read_by}
use Rattle.lrp_wide.specs.Inlining.{Counted, Known, UseSetting, known_of, passed_name}
use Rattle.lrp_wide.specs.Inside.{AreBeside, AreWritten, IsAround, IsNamedIn, IsPassedOn, IsUsedBody, body_setting}
use Rattle.lrp_wide.specs.Settings.{name_passed, passed_of}
use Rattle.lrp_wide.specs.declared.chains.Chain.{Chain}
use Rattle.lrp_wide.specs.declared.inlining.Named.{Named}
use Rattle.lrp_wide.specs.declared.inlining.Scene.{Scene}
use Rattle.lrp_wide.specs.declared.inlining.UsedBody.{UsedBody}
use Rattle.lrp_wide.specs.declared.uses.Passed.{Passed as PassedOf}
use Rattle.lrp_wide.proofs.InlineNames.{names_are}

-- definitions around a scene and their texts are those of the file
texts-around : (s : Scene) (b : UsedBody) (file : RawFileView) → IsNamedIn s b.named → IsAround s file → ArePlainTextsOf b.named.written.definitions.now b.named.written.plain.now s.catalog.now file
texts-around s b file named around =
    let beside : AreBeside s.catalog.now b.named.written file = subst (λ o. AreWritten s.catalog.now o file) named.written around in
    record { database = beside.database; names = beside.written.names; plain = beside.written.plain }

-- whatever it becomes, the body at the beginning becomes too
pub end-is : (s : Scene) (b : UsedBody) (c : Chain) (r : Relation) (given : List PassedOf) (first : ℕ) (last : UsedBody) → IsNamedIn s b.named → IsChain b.named.written.definitions.now b.named.written.plain.now b.named.number c
    → slice_get b.named.written.definitions.now.definitions c.end ≡ Some r → (f : Identifier → Identifier) → ((v : Identifier) → f v ≡ name_passed b.passed.items b.number v)
    → passed_of (as_themselves f r.columns c.names.items) given → first ≡ b.first + c.steps
    → last.named ≡ record { written = b.named.written; number = c.end } → last.place ≡ b.place → last.first ≡ first → last.number ≡ first - 1 → last.passed.items ≡ given → IsPassedOn s b last
end-is s b c r given first last named chain er f same passed sum en ep ef ek eg =
    let d : Named = record { written = b.named.written; number = c.end } in
    let name : Identifier → Identifier = name_passed b.passed.items b.number in
    let k : ℕ = last.number in
    let counted : suc k ≡ b.first + c.steps = omega (arith, ek, sum, chain.long) in
    let own : passed_of (as_themselves name r.columns c.names.items) last.passed.items = subst (passed_of (as_themselves name r.columns c.names.items)) (sym eg) (subst (λ g. passed_of (as_themselves g r.columns c.names.items) given) (fun_ext same) passed) in
    let names : name_passed last.passed.items k ≡ passed_name (as_themselves name r.columns c.names.items) k = fun_ext (λ v. names_are (as_themselves name r.columns c.names.items) last.passed.items k v own) in
    let start : last.first ≡ suc k = omega (arith, ef, sum, counted) in
    let inside : (own : List Counted) → body_setting last own ≡ read_by (passed_name (as_themselves name r.columns c.names.items) k) b.place (suc k) own =
    λ own. ap₂ (λ (g : Identifier → Identifier) p. read_by g p last.first own) names ep ∙ ap (λ n. read_by (passed_name (as_themselves name r.columns c.names.items) k) b.place n own) start in
    record {
      named = subst (IsNamedIn s) (sym en) (record { whole = named.whole; written = named.written; before = omega (arith, chain.earlier, named.before); there = omega (arith, chain.earlier, named.there) });
      same = λ file around form of. record {
        body = chain.same s.catalog.now file (texts-around s b file named around) r er name b.place b.first k counted form
            (λ y e. of.body y (ap (λ (z : Named). slice_get (known_of s.catalog.now [] file.definitions) z.number) en ∙ e) ∙ ap y.form (inside y.counted));
      };
    }
