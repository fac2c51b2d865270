-- What is answered, for each file.
use Rattle.std.proofs.Common.{◌≡◌, ◌<◌, ◌≤◌, ℕ, min, List, [], Result, Ok, Err, Option, Some, None, IfOk, IfErr, OnOk, refl, ap, sym, ◌∙◌, arith, subst}
use Rattle.std.proofs.lemmas.Option.{none-some, same_Some}
use Rattle.lrp_query.specs.Lawful.{formulas_in}
use Rattle.lrp_model.specs.Faults.{earliest}
use Rattle.lrp_model.specs.Sorting.{query_standing}
use Rattle.lrp_model.specs.RawQueries.{HasNoOperator, RawFileView, raw_form_of, raw_question_of}
use Rattle.lrp_model.specs.declared.raw.RawQuery.{RawQuery}
use Rattle.lrp_model.specs.declared.faults.QueryFault.{QueryFault}
use Rattle.lrp_model.specs.declared.relations.Relation.{Relation}
use Rattle.lrp_wide.specs.Inlining.{expanded_file}
use Rattle.lrp_wide.specs.Limits.{HasTooMany, IsSmallFile, IsTooDeep, depth_of, most_depth, most_formulas}
use Rattle.lrp_wide.specs.Outcomes.{IsAboveLimit, IsFileRefused, IsRefusedOrMemory, IsWrittenOrMemory}
use Rattle.lrp_wide.specs.Sizes.{IsSizeOf}
use Rattle.lrp_wide.specs.WideSorting.{IsOwnFault, own_faults}
use Rattle.lrp_wide.specs.declared.checking.WideRead.{WideRead}
use Rattle.lrp_wide.specs.declared.checking.WideRead.TheVariants.{Fault, Formulas, Depth, Memory}
use Rattle.lrp_wide.specs.declared.measures.Size.{Size}

module _ (db : List Relation) (f : RawFileView) where
  -- ---- limits

  pub small_by_size : (size : Size) → IsSizeOf size (expanded_file db f).body → size.formulas ≤ most_formulas → size.depth ≤ most_depth → IsSmallFile db f
  small_by_size size h few shallow = record {
    few = λ many. omega (arith, h.formulas, few, many);
    shallow = λ deep. omega (arith, h.depth, shallow, deep);
  }

  pub refused_by_size : (size : Size) (why : WideRead) → IsSizeOf size (expanded_file db f).body → IsAboveLimit size why → IsFileRefused db f why
  refused_by_size size (Fault told) h above = absurd above
  refused_by_size size Formulas h above = omega (arith, h.formulas, above)
  refused_by_size size Depth h above = record { few = λ many. omega (arith, h.formulas, above.0, many); deep = omega (arith, h.depth, above.1) }
  refused_by_size size Memory h above = absurd above

  -- ---- faults

  no_fault : (told : QueryFault) → own_faults db f ≡ [] → IsOwnFault db f told → ⊥
  no_fault told none fault = none-some told (sym (ap (earliest query_standing) none) ∙ fault)

  one_fault : (told other : QueryFault) → IsOwnFault db f told → IsOwnFault db f other → told ≡ other
  one_fault told other h k = same_Some told other (sym h ∙ k)

  -- ---- each file is answered

  pub every_file : (r : Result RawQuery WideRead) → IfOk r (λ made. raw_question_of made ≡ expanded_file db f) → IfErr r (IsFileRefused db f) → IsSmallFile db f → own_faults db f ≡ []
      → IsWrittenOrMemory (expanded_file db f) r
  every_file (Ok made) written refused small none = written
  every_file (Err (Fault told)) written refused small none = absurd (no_fault told none refused.1)
  every_file (Err Formulas) written refused small none = absurd (small.few refused)
  every_file (Err Depth) written refused small none = absurd (small.shallow refused.deep)
  every_file (Err Memory) written refused small none = refl

  pub every_refusal : (r : Result RawQuery WideRead) → OnOk r (IsSmallFile db f) → OnOk r (own_faults db f ≡ []) → IfErr r (IsFileRefused db f) → (why : WideRead) → IsFileRefused db f why → IsRefusedOrMemory why r
  every_refusal r small none refused Memory h = tt
  every_refusal (Ok made) small none refused (Fault told) h = no_fault told none h.1
  every_refusal (Ok made) small none refused Formulas h = small.few h
  every_refusal (Ok made) small none refused Depth h = small.shallow h.deep
  every_refusal (Err (Fault other)) small none refused (Fault told) h = λ differs out. differs (ap (λ x. Fault x) (one_fault other told refused.1 h.1))
  every_refusal (Err (Fault other)) small none refused Formulas h = absurd (refused.0.few h)
  every_refusal (Err (Fault other)) small none refused Depth h = absurd (refused.0.shallow h.deep)
  every_refusal (Err Formulas) small none refused (Fault told) h = absurd (h.0.few refused)
  every_refusal (Err Formulas) small none refused Formulas h = λ differs out. differs refl
  every_refusal (Err Formulas) small none refused Depth h = absurd (h.few refused)
  every_refusal (Err Depth) small none refused (Fault told) h = absurd (h.0.shallow refused.deep)
  every_refusal (Err Depth) small none refused Formulas h = absurd (refused.few h)
  every_refusal (Err Depth) small none refused Depth h = λ differs out. differs refl
  every_refusal (Err Memory) small none refused (Fault told) h = λ differs out. out refl
  every_refusal (Err Memory) small none refused Formulas h = λ differs out. out refl
  every_refusal (Err Memory) small none refused Depth h = λ differs out. out refl
