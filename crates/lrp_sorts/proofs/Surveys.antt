-- The first fault of a query, from those of its head and its body.
use Rattle.std.proofs.Common.{◌≡◌, List, [], ◌++◌, reverse, Option, refl, ap, sym, ◌∙◌}
use Rattle.lrp_model.specs.Faults.{earliest, fault_if, ninth}
use Rattle.lrp_model.specs.RawQueries.{raw_form_of}
use Rattle.lrp_model.specs.Sorting.{query_standing, query_fault, too_many, free_names, form_faults, widened, head_faults, query_faults}
use Rattle.lrp_model.specs.declared.faults.QueryFault.{QueryFault}
use Rattle.lrp_model.specs.declared.faults.QueryKind.TheVariants.{Wide}
use Rattle.lrp_model.specs.declared.raw.RawColumn.{RawColumn}
use Rattle.lrp_model.specs.declared.raw.RawFormula.{RawFormula}
use Rattle.lrp_model.specs.declared.relations.Relation.{Relation}
use Rattle.lrp_model.specs.Sooner.{sooner}
use Rattle.lrp_model.proofs.FirstFault.{first_of_both}
use Rattle.lrp_sorts.specs.Scopes.{Around, binders}
use Rattle.lrp_sorts.proofs.RawNodes.{shown}

-- the faults of the head's binders, of its width, and of the body with its width, one after the other
pub survey_faults : (db catalog : List Relation) (own : List RawColumn) (g : RawFormula) (columns : List RawColumn) (scope : Around) (opened head width total body inside : Option QueryFault)
    → catalog ≡ db → columns ≡ own → scope ≡ record { quantifiers = []; head = columns } → opened ≡ earliest query_standing (head_faults catalog [] columns)
    → width ≡ earliest query_standing (ninth (query_fault Wide) 0 0 columns) → head ≡ sooner query_standing opened width
    → inside ≡ earliest query_standing (form_faults (raw_form_of g) catalog (binders scope))
    → body ≡ sooner query_standing (earliest query_standing (fault_if (too_many (binders scope) (free_names (raw_form_of g))) (query_fault Wide g.place))) inside
    → total ≡ sooner query_standing head body → total ≡ earliest query_standing (query_faults db (record { head = own; body = raw_form_of g }))
survey_faults db catalog own g columns scope opened head width total body inside d e s o w h f b t =
    let form = raw_form_of g in
    let body_is : body ≡ earliest query_standing (widened (reverse own) [] form (form_faults form db (reverse own))) =
    b ∙ shown catalog scope scope [] g g g inside refl refl refl f
    ∙ ap (λ x. earliest query_standing (widened (binders x) [] form (form_faults form catalog (binders x)))) (s ∙ ap (λ cs. record { quantifiers = []; head = cs }) e)
    ∙ ap (λ x. earliest query_standing (widened (reverse own) [] form (form_faults form x (reverse own)))) d in
    let head_is : head ≡ earliest query_standing (head_faults db [] own ++ ninth (query_fault Wide) 0 0 own) =
    h ∙ ap (λ x. sooner query_standing x width) (o ∙ ap (λ cs. earliest query_standing (head_faults catalog [] cs)) e ∙ ap (λ x. earliest query_standing (head_faults x [] own)) d)
    ∙ ap (sooner query_standing (earliest query_standing (head_faults db [] own))) (w ∙ ap (λ cs. earliest query_standing (ninth (query_fault Wide) 0 0 cs)) e)
    ∙ sym (first_of_both query_standing (head_faults db [] own) (ninth (query_fault Wide) 0 0 own)) in
    t ∙ ap (λ x. sooner query_standing x body) head_is ∙ ap (sooner query_standing (earliest query_standing (head_faults db [] own ++ ninth (query_fault Wide) 0 0 own))) body_is
    ∙ sym (first_of_both query_standing (head_faults db [] own ++ ninth (query_fault Wide) 0 0 own) (widened (reverse own) [] form (form_faults form db (reverse own))))
