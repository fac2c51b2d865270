-- What the table has not was added.
use Rattle.std.proofs.Common.{◌≡◌, Err, refl, ap, replicate, ◌∙◌}
use Rattle.std.specs.Prelude.{nat_abs}
use Rattle.lrp_minus.proofs.AbsenceLaws.{period_word}
use Rattle.lrp_minus.proofs.ComplementLaws.{fresh_store, fresh_by, fresh_valid, complement_table, complement_few, complement_reach, complement_many}
use Rattle.lrp_minus.specs.Counts.{BeginsWithTexts, most_left}
use Rattle.lrp_minus.proofs.Growth.{grows_from_none, none_held}
use Rattle.lrp_minus.proofs.complements.complement.Goals as goal

pub fill_texts-requires-clause-fill : goal.fill_texts-requires-clause-fill
fill_texts-requires-clause-fill c =
    let fresh : c.new-out.result ≡ fresh_store c.args.table.now.store = fresh_by c.args.table.now.store c.new-out.result _ _ c.new-out.ensures c.shape.ensures.value (ap nat_abs (period_word c.args.table.now.store c.shape.ensures.valid c.period.result c.period.ensures)) in
    record {
      store = c.shape.ensures.valid;
      valid = fresh_valid c.args.table.now.store c.shape.ensures.valid c.new-out.result fresh;
      like = record { shape = ap (λ s. s.shape) fresh; period = ap (λ s. s.period) fresh };
      turned = record { period = c.requires.period; reach = c.requires.reach };
    }

pub returns-in-Ok-clause-complement : goal.returns-in-Ok-clause-complement
returns-in-Ok-clause-complement c =
    let fresh : c.new-out.result ≡ fresh_store c.args.table.now.store = fresh_by c.args.table.now.store c.new-out.result _ _ c.new-out.ensures c.shape.ensures.value (ap nat_abs (period_word c.args.table.now.store c.shape.ensures.valid c.period.result c.period.ensures)) in
    record {
      table = complement_table c.args.setting.now.domain.now c.len.ensures.ascending c.args.table.now c.len.result c.len.ensures.count (replicate 8 0) c.args.setting.now.cap c.new-out.result c.fill_texts.new.out fresh (fresh_valid c.args.table.now.store c.shape.ensures.valid c.new-out.result fresh) _ (c.in-Ok.ensures.ok _ c.requires.reach) _ c.in_ok-copy.ensures c.in_ok-copy-2.ensures refl;
      reach = λ high r. complement_reach c.args.setting.now.domain.now c.len.ensures.ascending c.args.table.now c.len.result c.len.ensures.count (replicate 8 0) c.args.setting.now.cap c.new-out.result c.fill_texts.new.out fresh (fresh_valid c.args.table.now.store c.shape.ensures.valid c.new-out.result fresh) _ (c.in-Ok.ensures.ok high r);
      few = complement_few c.args.setting.now.domain.now c.len.ensures.ascending c.args.table.now c.len.result c.len.ensures.count (replicate 8 0) c.args.setting.now.cap c.new-out.result c.fill_texts.new.out fresh (fresh_valid c.args.table.now.store c.shape.ensures.valid c.new-out.result fresh) _ (c.in-Ok.ensures.ok _ c.requires.reach);
      many = λ e. cc;
    }

pub returns-in-Ok-clause-valid : goal.returns-in-Ok-clause-valid
returns-in-Ok-clause-valid c = (c.in-Ok.ensures.ok _ c.requires.reach).grown.valid

pub returns-in-Err-TooManyCells-clause-complement : goal.returns-in-Err-TooManyCells-clause-complement
returns-in-Err-TooManyCells-clause-complement c =
    let fresh : c.new-out.result ≡ fresh_store c.args.table.now.store = fresh_by c.args.table.now.store c.new-out.result _ _ c.new-out.ensures c.shape.ensures.value (ap nat_abs (period_word c.args.table.now.store c.shape.ensures.valid c.period.result c.period.ensures)) in
    record {
      table = tt;
      reach = tt;
      few = tt;
      many = λ e. complement_many c.args.setting.now.domain.now c.len.ensures.ascending c.args.table.now c.len.result c.len.ensures.count (replicate 8 0) c.args.setting.now.cap c.new-out.result c.fill_texts.new.out fresh (fresh_valid c.args.table.now.store c.shape.ensures.valid c.new-out.result fresh) _ (c.fill_texts.ensures.refused (c.in-Err-TooManyCells.is ∙ ap Err c.in-Err-TooManyCells.field-0-is) _ c.requires.reach);
    }

pub returns-in-Ok-clause-few : goal.returns-in-Ok-clause-few
returns-in-Ok-clause-few c =
    let fresh : c.new-out.result ≡ fresh_store c.args.table.now.store = fresh_by c.args.table.now.store c.new-out.result _ _ c.new-out.ensures c.shape.ensures.value (ap nat_abs (period_word c.args.table.now.store c.shape.ensures.valid c.period.result c.period.ensures)) in
    record { each = grows_from_none (BeginsWithTexts 0 (replicate 8 0)) (most_left c.args.table.now.store) c.new-out.result c.fill_texts.new.out (none_held c.new-out.result (ap (λ s. s.tables) fresh)) c.in-Ok.ensures.few }
