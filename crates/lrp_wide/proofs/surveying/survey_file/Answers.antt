use Rattle.std.proofs.Common.{◌≡◌, ◌<◌, ◌+◌, ◌-◌, ◌++◌, [], ◌∷◌, IsTrue, length, map, take, ap, subst, sym, ◌∙◌, arith}
use Rattle.std.specs.List.{AllByRecursion}
use Rattle.std.proofs.lemmas.List.{take_all}
use Rattle.lrp_model.specs.Faults.{earliest}
use Rattle.lrp_model.specs.RawQueries.{RawDefinitionView, raw_definition_of, raw_file_of, raw_form_of, raw_question_of}
use Rattle.lrp_model.specs.Sorting.{query_faults, query_standing}
use Rattle.lrp_sorts.specs.Definitions.{rowless}
use Rattle.lrp_tense.specs.Expanding.{expanded, operator_number, operators}
use Rattle.lrp_wide.specs.Counts.{AreRelationsNumbered, file_numbers}
use Rattle.lrp_wide.specs.Inlining.{counted_from, counted_in, inlined, known_of, known_with, own_setting}
use Rattle.lrp_wide.specs.Inside.{HasPlainBody}
use Rattle.lrp_wide.specs.Sizes.{AreMeasured, IsKnownSize, IsSizeOf}
use Rattle.lrp_wide.specs.Stars.{DefinesNoStar}
use Rattle.lrp_wide.specs.WideSorting.{defined_relation}
use Rattle.lrp_wide.proofs.MeasureKnown.{file_more, starless_at}
use Rattle.lrp_wide.proofs.MeasureStars.{keeps_none}
use Rattle.lrp_wide.proofs.NumberFile.{numbered-all, numbered-definition, numbered-file}
use Rattle.lrp_wide.proofs.NarrowTexts.{all_more}
use Rattle.lrp_wide.proofs.PlainTexts.{both_true}
use Rattle.lrp_wide.proofs.SortFiles.{as_many, first_relations, plain_faults, text_end, text_more}
use Rattle.lrp_wide.proofs.surveying.survey_file.Goals as goal

pub plain_fault-requires : goal.plain_fault-requires
plain_fault-requires c = c.is_plain-is_plain_text.ensures

pub with-requires-clause-there : goal.with-requires-clause-there
with-requires-clause-there c =
    let xs = c.as_slice-texts.result.now in
    let ds = c.args.definitions.now.definitions in
    let same : ds ≡ map defined_relation (map raw_definition_of xs) = c.requires.rowless ∙ ap (λ ys. map defined_relation (map raw_definition_of ys)) (sym c.as_slice-texts.ensures.value) in
    let many = as_many ds xs same in
    omega (arith, many, c.loop-i-test.true, c.as_slice-texts.ensures.len)

pub with-requires-clause-before : goal.with-requires-clause-before
with-requires-clause-before c =
    let d = c.args.definitions.now in
    let xs = c.as_slice-texts.result.now in
    let i = c.loop-i.i in
    let same : d.definitions ≡ map defined_relation (map raw_definition_of xs) = c.requires.rowless ∙ ap (λ ys. map defined_relation (map raw_definition_of ys)) (sym c.as_slice-texts.ensures.value) in
    let before : i ≡ i + 1 - 1 = omega arith in
    c.loop-i.invariant.catalog ∙ ap (λ l. d.relations ++ l) (first_relations d.definitions xs i same) ∙ ap (λ n. d.relations ++ take n d.definitions) before

pub loop-i-preserved : goal.loop-i-preserved
loop-i-preserved c =
    let d = c.args.definitions.now in
    let db = d.relations in
    let xs = c.as_slice-texts.result.now in
    let i = c.loop-i.i in
    let x = c.index-texts-i.result in
    let ks = known_of db [] (map raw_definition_of (take i xs)) in
    let within : i < length xs = omega (arith, c.loop-i-test.true, c.as_slice-texts.ensures.len) in
    let same : d.definitions ≡ map defined_relation (map raw_definition_of xs) = c.requires.rowless ∙ ap (λ ys. map defined_relation (map raw_definition_of ys)) (sym c.as_slice-texts.ensures.value) in
    let stars : AllByRecursion DefinesNoStar (map raw_definition_of xs) = subst (λ ys. AllByRecursion DefinesNoStar (map raw_definition_of ys)) (sym c.as_slice-texts.ensures.value) c.requires.stars.definitions in
    let measured : AreMeasured ks d.definitions c.as_slice.result.now = subst (λ l. AreMeasured ks d.definitions l) (sym c.as_slice.ensures.value) c.loop-i.invariant.sizes in
    let size : IsKnownSize (known_with db ks (raw_definition_of x)) c.size_of-size.result =
    λ s. c.size_of-size.ensures ks measured (operator_number (operators (raw_form_of x.body))) [] s keeps_none (starless_at xs i x stars within c.index-texts-i.is) in
    record {
      sizes =
          subst (λ l. AreMeasured (known_of db [] (map raw_definition_of (take (i + 1) xs))) d.definitions l) (sym c.in_ok-push.ensures.items)
          (file_more db d.definitions xs i x c.loop-i.sizes.items c.size_of-size.result within c.index-texts-i.is same c.loop-i.invariant.sizes size);
      numbers =
          numbered-definition db d.definitions xs same i x c.loop-i.numbers.items c.push-in-loop-i.new.self.items c.in_ok-counted.counted within c.index-texts-i.is c.loop-i.invariant.numbers
          (c.in_ok-counted.ensures ks (subst (AreRelationsNumbered ks d.definitions) (sym c.as_slice-in-loop-i.ensures.value) c.loop-i.invariant.numbers)) c.in_ok-push-2.ensures.items;
      catalog = c.in_ok-catalog-2.ensures ∙ ap (λ l. db ++ l) (sym (first_relations d.definitions xs (i + 1) same));
      plain = λ holds. let both = both_true c.loop-i.are_plain c.is_plain-is_plain_text.result (sym c.all_plain-are_plain.ensures ∙ holds) in all_more HasPlainBody xs i x within c.index-texts-i.is (c.loop-i.invariant.plain both.0) (c.is_plain-is_plain_text.ensures both.1);
      fault = λ holds.
          let both = both_true c.loop-i.are_plain c.is_plain-is_plain_text.result (sym c.all_plain-are_plain.ensures ∙ holds) in
          text_more db c.loop-i.catalog xs i x c.loop-i.fault c.in_ok-own.own c.sooner_of-fault.result within c.index-texts-i.is c.loop-i.invariant.catalog (c.loop-i.invariant.fault both.0) (c.in_ok-own.ensures both.1) c.sooner_of-fault.ensures;
    }

pub returns-clause-size : goal.returns-clause-size
returns-clause-size c =
    let d = c.args.definitions.now in
    let xs = c.as_slice-texts.result.now in
    let i = c.loop-i.i in
    let all : take i xs ≡ xs = take_all i xs (omega (arith, c.loop-i-test.false, c.as_slice-texts.ensures.len)) in
    let ks = known_of d.relations [] (map raw_definition_of xs) in
    let body = raw_form_of c.args.file.now.query.body in
    let measured : AreMeasured ks d.definitions c.as_slice-2.result.now =
    subst (λ l. AreMeasured ks d.definitions l) (sym c.as_slice-2.ensures.value) (subst (λ l. AreMeasured (known_of d.relations [] (map raw_definition_of l)) d.definitions c.loop-i.sizes.items) all c.loop-i.invariant.sizes) in
    subst (λ l. IsSizeOf c.size_of-size-2.result (inlined d.relations (known_of d.relations [] (map raw_definition_of l)) (expanded body (operator_number (operators body)) []) (own_setting (counted_from 1 (counted_in d.relations (known_of d.relations [] (map raw_definition_of l)) body))))) c.as_slice-texts.ensures.value
    (c.size_of-size-2.ensures ks measured (operator_number (operators body)) [] (own_setting (counted_from 1 (counted_in d.relations ks body))) keeps_none c.requires.stars.query)

pub returns-clause-numbers : goal.returns-clause-numbers
returns-clause-numbers c =
    let d = c.args.definitions.now in
    let xs = c.as_slice-texts.result.now in
    let i = c.loop-i.i in
    let same : d.definitions ≡ map (λ (w : RawDefinitionView). rowless w.name w.columns) (map raw_definition_of xs) = c.requires.rowless ∙ ap (λ l. map (λ (w : RawDefinitionView). rowless w.name w.columns) (map raw_definition_of l)) (sym c.as_slice-texts.ensures.value) in
    let ks = known_of d.relations [] (map raw_definition_of xs) in
    let h : AreRelationsNumbered ks d.definitions c.loop-i.numbers.items = numbered-all d.relations d.definitions xs same i c.loop-i.numbers.items (omega (arith, c.loop-i-test.false, c.as_slice-texts.ensures.len)) c.loop-i.invariant.numbers in
    numbered-file d.relations d.definitions xs same (raw_question_of c.args.file.now.query) c.loop-i.numbers.items c.push-2.new.self.items c.in_ok-counted-2.counted h
    (c.in_ok-counted-2.ensures ks (subst (AreRelationsNumbered ks d.definitions) (sym c.as_slice-3.ensures.value) h)) c.in_ok-push-3.ensures.items
    ∙ ap (λ l. file_numbers d.relations (record { definitions = map raw_definition_of l; query = raw_question_of c.args.file.now.query })) c.as_slice-texts.ensures.value

pub returns-clause-query : goal.returns-clause-query
returns-clause-query c = λ holds. c.is_plain-is_plain_query.ensures (both_true c.loop-i.are_plain c.is_plain-is_plain_query.result (sym c.all_plain.ensures ∙ holds)).1

pub returns-clause-operators : goal.returns-clause-operators
returns-clause-operators c = λ holds.
    let xs = c.as_slice-texts.result.now in
    let all : take c.loop-i.i xs ≡ c.args.file.now.definitions.items = take_all c.loop-i.i xs (omega (arith, c.loop-i-test.false, c.as_slice-texts.ensures.len)) ∙ c.as_slice-texts.ensures.value in
    subst (AllByRecursion HasPlainBody) all (c.loop-i.invariant.plain (both_true c.loop-i.are_plain c.is_plain-is_plain_query.result (sym c.all_plain.ensures ∙ holds)).0)

pub returns-clause-fault : goal.returns-clause-fault
returns-clause-fault c = λ holds written e.
    let both = both_true c.loop-i.are_plain c.is_plain-is_plain_query.result (sym c.all_plain.ensures ∙ holds) in
    let db = c.args.definitions.now.relations in
    let g = raw_file_of c.args.file.now in
    let xs = c.as_slice-texts.result.now in
    let all : take c.loop-i.i xs ≡ xs = take_all c.loop-i.i xs (omega (arith, c.loop-i-test.false, c.as_slice-texts.ensures.len)) in
    let texts : map raw_definition_of (take c.loop-i.i xs) ≡ g.definitions = ap (map raw_definition_of) (all ∙ c.as_slice-texts.ensures.value) in
    text_end db c.loop-i.catalog g written c.loop-i.fault c.in_ok-own-2.own c.sooner_of-fault-2.result e (c.loop-i.invariant.catalog ∙ ap (λ ds. db ++ map defined_relation ds) texts)
    (c.loop-i.invariant.fault both.0 ∙ ap (λ ds. earliest query_standing (plain_faults db ds)) texts) (c.in_ok-own-2.ensures both.1) c.sooner_of-fault-2.ensures
