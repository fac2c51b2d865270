-- Tables with the columns of a head, and its tuples.
use Rattle.std.proofs.Common.{◌≡◌, ◌↔◌, List, Contains, map, sym, ap, subst, ◌∙◌}
use Rattle.std.specs.List.{AllByRecursion}
use Rattle.lrp_model.specs.Texts.{Identifier, Text}
use Rattle.lrp_model.specs.Rows.{Datum, times_of, texts_of}
use Rattle.lrp_model.specs.Satisfaction.{HasShape, HaveDistinctNames, assignment}
use Rattle.lrp_model.specs.declared.relations.Column.{Column}
use Rattle.lrp_store.specs.Tables.{StoreHolds}
use Rattle.lrp_tables.specs.declared.table.Table.{Table}
use Rattle.lrp_tables.specs.Columns.{head_times, head_texts}
use Rattle.lrp_tables.specs.Tables.{HasAssignment, named_variables}
use Rattle.lrp_tables.proofs.Numbers.{all_mapped}
use Rattle.lrp_tables.proofs.TupleLaws.{tuple_times, tuple_texts}
use Rattle.lrp_eval.specs.Running.{HasConstants}
use Rattle.lrp_eval.proofs.Named.{texts_are}

module _ (columns : List Column) (names : HaveDistinctNames columns) (domain : List Text) (tuple : List Datum) (shape : HasShape columns tuple) where
  times_in : (times : List Identifier) → times ≡ head_times columns → map (assignment columns tuple).times times ≡ times_of tuple
  times_in times e = ap (map (assignment columns tuple).times) e ∙ tuple_times columns tuple _ names shape

  texts_in : (texts : List Identifier) → texts ≡ head_texts columns → map (assignment columns tuple).texts texts ≡ texts_of tuple
  texts_in texts e = ap (map (assignment columns tuple).texts) e ∙ tuple_texts columns tuple _ names shape

  -- the table has the tuple's assignment exactly where its store holds the tuple's values
  pub tuple_held : (table : Table) → table.vars.times ≡ head_times columns → table.vars.texts ≡ head_texts columns → HasAssignment table domain (assignment columns tuple) ↔ StoreHolds domain table.store (times_of tuple) (texts_of tuple)
  tuple_held table times texts =
      let a : map (assignment columns tuple).times table.vars.times ≡ times_of tuple = times_in table.vars.times times in
      let b : map (assignment columns tuple).texts table.vars.texts ≡ texts_of tuple = texts_in table.vars.texts texts in (
        (λ x. subst (λ l. StoreHolds domain table.store (times_of tuple) l) b (subst (λ l. StoreHolds domain table.store l (map (assignment columns tuple).texts table.vars.texts)) a x)),
        λ x. subst (λ l. StoreHolds domain table.store l (map (assignment columns tuple).texts table.vars.texts)) (sym a) (subst (λ l. StoreHolds domain table.store (times_of tuple) l) (sym b) x),
      )

  -- its texts are constants
  pub tuple_known : AllByRecursion (Contains domain) (texts_of tuple) → (times texts : List Identifier) → texts ≡ head_texts columns → HasConstants domain (named_variables times texts) (assignment columns tuple)
  tuple_known known times texts e =
      texts_are domain times texts (assignment columns tuple)
      ((all_mapped (assignment columns tuple).texts (Contains domain) texts).0 (subst (λ l. AllByRecursion (Contains domain) l) (sym (texts_in texts e)) known))
