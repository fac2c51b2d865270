use Rattle.std.proofs.Common.{◌≡◌, ◌<◌, ◌+◌, ◌-◌, ◌++◌, length, map, take, ap, sym, ◌∙◌, arith}
use Rattle.std.proofs.lemmas.List.{take_all}
use Rattle.lrp_model.specs.Faults.{earliest}
use Rattle.lrp_model.specs.RawQueries.{raw_definition_of, raw_file_of}
use Rattle.lrp_model.specs.Sorting.{query_faults, query_standing}
use Rattle.lrp_wide.specs.WideSorting.{query_of, defined_relation, starred_plain}
use Rattle.lrp_wide.proofs.SortFiles.{as_many, first_relations, plain_faults, text_end, text_more}
use Rattle.lrp_wide.proofs.checking.own_fault.Goals as goal

pub with-requires-clause-there : goal.with-requires-clause-there
with-requires-clause-there c =
    let xs = c.as_slice-texts.result.now in
    let ds = c.args.definitions.now.definitions in
    let same : ds ≡ map defined_relation (map raw_definition_of xs) = c.requires.rowless ∙ ap (λ ys. map defined_relation (map raw_definition_of ys)) (sym c.as_slice-texts.ensures.value) in
    let many = as_many ds xs same in
    omega (arith, many, c.loop-i-test.true, c.as_slice-texts.ensures.len)

pub with-requires-clause-before : goal.with-requires-clause-before
with-requires-clause-before c =
    let d = c.args.definitions.now in
    let xs = c.as_slice-texts.result.now in
    let i = c.loop-i.i in
    let same : d.definitions ≡ map defined_relation (map raw_definition_of xs) = c.requires.rowless ∙ ap (λ ys. map defined_relation (map raw_definition_of ys)) (sym c.as_slice-texts.ensures.value) in
    let before : i ≡ i + 1 - 1 = omega arith in
    c.loop-i.invariant.catalog ∙ ap (λ l. d.relations ++ l) (first_relations d.definitions xs i same) ∙ ap (λ n. d.relations ++ take n d.definitions) before

pub loop-i-preserved : goal.loop-i-preserved
loop-i-preserved c =
    let d = c.args.definitions.now in
    let db = d.relations in
    let xs = c.as_slice-texts.result.now in
    let i = c.loop-i.i in
    let x = c.index-texts-i.result in
    let within : i < length xs = omega (arith, c.loop-i-test.true, c.as_slice-texts.ensures.len) in
    let same : d.definitions ≡ map defined_relation (map raw_definition_of xs) = c.requires.rowless ∙ ap (λ ys. map defined_relation (map raw_definition_of ys)) (sym c.as_slice-texts.ensures.value) in
    record {
      catalog = c.in_ok-catalog-2.ensures ∙ ap (λ l. db ++ l) (sym (first_relations d.definitions xs (i + 1) same));
      fault = text_more db c.loop-i.catalog xs i x c.loop-i.fault c.in_ok-own.own c.sooner_of-fault.result within c.index-texts-i.is c.loop-i.invariant.catalog c.loop-i.invariant.fault c.in_ok-own.ensures c.sooner_of-fault.ensures;
    }

pub returns : goal.returns
returns c = λ written e.
    let db = c.args.definitions.now.relations in
    let g = raw_file_of c.args.file.now in
    let xs = c.as_slice-texts.result.now in
    let all : take c.loop-i.i xs ≡ xs = take_all c.loop-i.i xs (omega (arith, c.loop-i-test.false, c.as_slice-texts.ensures.len)) in
    let texts : map raw_definition_of (take c.loop-i.i xs) ≡ g.definitions = ap (map raw_definition_of) (all ∙ c.as_slice-texts.ensures.value) in
    text_end db c.loop-i.catalog g written c.loop-i.fault c.in_ok-own-2.own c.sooner_of.result e (c.loop-i.invariant.catalog ∙ ap (λ ds. db ++ map defined_relation ds) texts)
    (c.loop-i.invariant.fault ∙ ap (λ ds. earliest query_standing (plain_faults db ds)) texts) c.in_ok-own-2.ensures c.sooner_of.ensures
