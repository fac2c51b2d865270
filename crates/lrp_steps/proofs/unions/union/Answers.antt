-- The store holds what is found at the places of either table's columns.
use Rattle.std.proofs.Common.{Err, refl, sym, ap, subst, ◌∙◌, length, ◌++◌}
use Rattle.std.specs.Prelude.{AllPairs, ◌≢◌}
use Rattle.lrp_tables.specs.Columns.{joint}
use Rattle.lrp_tables.specs.Tables.{AreNamesAmong}
use Rattle.lrp_tables.proofs.Joining.{in_joint_left, in_joint_right}
use Rattle.lrp_steps.proofs.United.{joint_names_differ, left_stands, right_stands, mid_valid, left_many, right_many, union_table, union_few, union_reach, union_times, union_texts}
use Rattle.lrp_steps.proofs.Likeness.{numbers_below}
use Rattle.lrp_steps.proofs.unions.union.Goals as goal

pub places_in-requires-clause-times : goal.places_in-requires-clause-times
places_in-requires-clause-times c = subst (λ l. AreNamesAmong c.args.left.now.vars.times l) (sym c.in_ok-vars.ensures.times) (in_joint_left c.args.left.now.vars.times c.args.right.now.vars.times)

pub places_in-requires-clause-texts : goal.places_in-requires-clause-texts
places_in-requires-clause-texts c = subst (λ l. AreNamesAmong c.args.left.now.vars.texts l) (sym c.in_ok-vars.ensures.texts) (in_joint_left c.args.left.now.vars.texts c.args.right.now.vars.texts)

pub places_in-requires-2-clause-times : goal.places_in-requires-2-clause-times
places_in-requires-2-clause-times c = subst (λ l. AreNamesAmong c.args.right.now.vars.times l) (sym c.in_ok-vars.ensures.times) (in_joint_right c.args.left.now.vars.times c.args.right.now.vars.times)

pub places_in-requires-2-clause-texts : goal.places_in-requires-2-clause-texts
places_in-requires-2-clause-texts c = subst (λ l. AreNamesAmong c.args.right.now.vars.texts l) (sym c.in_ok-vars.ensures.texts) (in_joint_right c.args.left.now.vars.texts c.args.right.now.vars.texts)

pub add_table-requires-clause-valid : goal.add_table-requires-clause-valid
add_table-requires-clause-valid c = c.store_over-out.ensures.valid

pub add_table-requires-2-clause-valid : goal.add_table-requires-2-clause-valid
add_table-requires-2-clause-valid c =
    mid_valid _ c.len.ensures.ascending c.args.period c.args.left.now c.args.right.now c.requires.tables c.in_ok-vars.vars c.in_ok-vars.ensures.times c.in_ok-vars.ensures.texts c.in_ok-left_places.left_places c.in_ok-right_places.right_places c.in_ok-left_places.ensures.times c.in_ok-left_places.ensures.texts c.in_ok-right_places.ensures.times c.in_ok-right_places.ensures.texts _ c.new-all.ensures _ c.len.ensures.count c.args.setting.now.cap _ c.store_over-out.ensures.made c.store_over-out.ensures.valid c.add_table.new.out c.in-Ok.ensures.ok

pub add_table-requires-clause-stands : goal.add_table-requires-clause-stands
add_table-requires-clause-stands c =
    left_stands _ c.len.ensures.ascending c.args.period c.args.left.now c.args.right.now c.requires.tables c.in_ok-vars.vars c.in_ok-vars.ensures.times c.in_ok-vars.ensures.texts c.in_ok-left_places.left_places c.in_ok-right_places.right_places c.in_ok-left_places.ensures.times c.in_ok-left_places.ensures.texts c.in_ok-right_places.ensures.times c.in_ok-right_places.ensures.texts _ c.new-all.ensures _ c.len.ensures.count c.args.setting.now.cap _ c.store_over-out.ensures.made c.in_ok-left_places.ensures.valid

pub returns-in-Err-TooManyCells : goal.returns-in-Err-TooManyCells
returns-in-Err-TooManyCells c =
    record {
      table = tt;
      reach = tt;
      few = tt;
      many = λ e. left_many _ c.len.ensures.ascending c.args.period c.args.left.now c.args.right.now c.requires.tables c.in_ok-vars.vars c.in_ok-vars.ensures.times c.in_ok-vars.ensures.texts c.in_ok-left_places.left_places c.in_ok-right_places.right_places c.in_ok-left_places.ensures.times c.in_ok-left_places.ensures.texts c.in_ok-right_places.ensures.times c.in_ok-right_places.ensures.texts _ c.new-all.ensures _ c.len.ensures.count c.args.setting.now.cap _ c.store_over-out.ensures.made c.store_over-out.ensures.valid c.add_table.new.out (c.add_table.ensures.too_many (c.in-Err-TooManyCells.is ∙ ap Err c.in-Err-TooManyCells.field-0-is));
    }

pub add_table-requires-2-clause-stands : goal.add_table-requires-2-clause-stands
add_table-requires-2-clause-stands c =
    right_stands _ c.len.ensures.ascending c.args.period c.args.left.now c.args.right.now c.requires.tables c.in_ok-vars.vars c.in_ok-vars.ensures.times c.in_ok-vars.ensures.texts c.in_ok-left_places.left_places c.in_ok-right_places.right_places c.in_ok-left_places.ensures.times c.in_ok-left_places.ensures.texts c.in_ok-right_places.ensures.times c.in_ok-right_places.ensures.texts _ c.new-all.ensures _ c.len.ensures.count c.args.setting.now.cap _ c.store_over-out.ensures.made c.store_over-out.ensures.valid c.add_table.new.out c.in-Ok.ensures.ok c.in_ok-right_places.ensures.valid

pub add_table-requires-clause-numbered : goal.add_table-requires-clause-numbered
add_table-requires-clause-numbered c = numbers_below c.args.setting.now.domain.now c.args.left.now.store c.len.result c.len.ensures.count c.requires.left_numbered

pub add_table-requires-2-clause-numbered : goal.add_table-requires-2-clause-numbered
add_table-requires-2-clause-numbered c = numbers_below c.args.setting.now.domain.now c.args.right.now.store c.len.result c.len.ensures.count c.requires.right_numbered

pub invariant_of-result : goal.invariant_of-result
invariant_of-result c =
    record {
      times_named = ap length c.in_ok-vars.ensures.times ∙ union_times _ c.len.ensures.ascending c.args.period c.args.left.now c.args.right.now c.requires.tables c.in_ok-vars.vars c.in_ok-vars.ensures.times c.in_ok-vars.ensures.texts c.in_ok-left_places.left_places c.in_ok-right_places.right_places c.in_ok-left_places.ensures.times c.in_ok-left_places.ensures.texts c.in_ok-right_places.ensures.times c.in_ok-right_places.ensures.texts _ c.new-all.ensures _ c.len.ensures.count c.args.setting.now.cap _ c.store_over-out.ensures.made c.store_over-out.ensures.valid c.add_table.new.out c.in-Ok.ensures.ok c.add_table-2.new.out c.in-Ok-add_table.ensures.ok;
      texts_named = ap length c.in_ok-vars.ensures.texts ∙ union_texts _ c.len.ensures.ascending c.args.period c.args.left.now c.args.right.now c.requires.tables c.in_ok-vars.vars c.in_ok-vars.ensures.times c.in_ok-vars.ensures.texts c.in_ok-left_places.left_places c.in_ok-right_places.right_places c.in_ok-left_places.ensures.times c.in_ok-left_places.ensures.texts c.in_ok-right_places.ensures.times c.in_ok-right_places.ensures.texts _ c.new-all.ensures _ c.len.ensures.count c.args.setting.now.cap _ c.store_over-out.ensures.made c.store_over-out.ensures.valid c.add_table.new.out c.in-Ok.ensures.ok c.add_table-2.new.out c.in-Ok-add_table.ensures.ok;
      names_differ = subst (λ l. AllPairs ◌≢◌ (l ++ c.in_ok-vars.vars.texts)) (sym c.in_ok-vars.ensures.times) (subst (λ l. AllPairs ◌≢◌ (joint c.args.left.now.vars.times c.args.right.now.vars.times ++ l)) (sym c.in_ok-vars.ensures.texts) (joint_names_differ c.args.left.now c.args.right.now c.requires.tables.columns));
    }

pub returns-in-Ok-add_table : goal.returns-in-Ok-add_table
returns-in-Ok-add_table c =
    record {
      table = union_table _ c.len.ensures.ascending c.args.period c.args.left.now c.args.right.now c.requires.tables c.in_ok-vars.vars c.in_ok-vars.ensures.times c.in_ok-vars.ensures.texts c.in_ok-left_places.left_places c.in_ok-right_places.right_places c.in_ok-left_places.ensures.times c.in_ok-left_places.ensures.texts c.in_ok-right_places.ensures.times c.in_ok-right_places.ensures.texts _ c.new-all.ensures _ c.len.ensures.count c.args.setting.now.cap _ c.store_over-out.ensures.made c.store_over-out.ensures.valid c.add_table.new.out c.in-Ok.ensures.ok c.add_table-2.new.out c.in-Ok-add_table.ensures.ok _ c.in_ok-vars.ensures.times c.in_ok-vars.ensures.texts refl;
      reach = λ high h. union_reach _ c.len.ensures.ascending c.args.period c.args.left.now c.args.right.now c.requires.tables c.in_ok-vars.vars c.in_ok-vars.ensures.times c.in_ok-vars.ensures.texts c.in_ok-left_places.left_places c.in_ok-right_places.right_places c.in_ok-left_places.ensures.times c.in_ok-left_places.ensures.texts c.in_ok-right_places.ensures.times c.in_ok-right_places.ensures.texts _ c.new-all.ensures _ c.len.ensures.count c.args.setting.now.cap _ c.store_over-out.ensures.made c.store_over-out.ensures.valid c.add_table.new.out c.in-Ok.ensures.ok c.add_table-2.new.out c.in-Ok-add_table.ensures.ok high h.left_reach h.right_reach;
      few = union_few _ c.len.ensures.ascending c.args.period c.args.left.now c.args.right.now c.requires.tables c.in_ok-vars.vars c.in_ok-vars.ensures.times c.in_ok-vars.ensures.texts c.in_ok-left_places.left_places c.in_ok-right_places.right_places c.in_ok-left_places.ensures.times c.in_ok-left_places.ensures.texts c.in_ok-right_places.ensures.times c.in_ok-right_places.ensures.texts _ c.new-all.ensures _ c.len.ensures.count c.args.setting.now.cap _ c.store_over-out.ensures.made c.store_over-out.ensures.valid c.add_table.new.out c.in-Ok.ensures.ok c.add_table-2.new.out c.in-Ok-add_table.ensures.ok;
      many = λ e. cc;
    }

pub returns-in-Err-TooManyCells-add_table : goal.returns-in-Err-TooManyCells-add_table
returns-in-Err-TooManyCells-add_table c =
    record {
      table = tt;
      reach = tt;
      few = tt;
      many = λ e. right_many _ c.len.ensures.ascending c.args.period c.args.left.now c.args.right.now c.requires.tables c.in_ok-vars.vars c.in_ok-vars.ensures.times c.in_ok-vars.ensures.texts c.in_ok-left_places.left_places c.in_ok-right_places.right_places c.in_ok-left_places.ensures.times c.in_ok-left_places.ensures.texts c.in_ok-right_places.ensures.times c.in_ok-right_places.ensures.texts _ c.new-all.ensures _ c.len.ensures.count c.args.setting.now.cap _ c.store_over-out.ensures.made c.store_over-out.ensures.valid c.add_table.new.out c.in-Ok.ensures.ok c.add_table-2.new.out (c.add_table-2.ensures.too_many (c.in-Err-TooManyCells-add_table.is ∙ ap Err c.in-Err-TooManyCells-add_table.field-0-is));
    }
