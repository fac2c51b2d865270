-- A query that is refused, or its page.
use Rattle.std.proofs.Common.{◌≡◌, ℕ, List, Option, Err, ap, refl, sym, subst}
use Rattle.lrp_civil.specs.declared.values.CivilText.{CivilText}
use Rattle.lrp_top.specs.Keeping.{IsAnswerKept, IsEndedBy, IsFileRead, IsKeptOf, IsPageDue, civil_asked}
use Rattle.lrp_top.specs.declared.files.DatabaseFile.{DatabaseFile}
use Rattle.lrp_top.proofs.PagingLemmas.{page_told, same_own}
use Rattle.lrp_top.proofs.paging.first_page.Goals as goal

pub next_page-requires-clause-read : goal.next_page-requires-clause-read
next_page-requires-clause-read g c = subst (λ (d : DatabaseFile). IsFileRead (civil_asked c.args.page.now.files) d) (sym c.in-Ok.ensures.begun.database) c.requires.read

pub next_page-requires-clause-begun : goal.next_page-requires-clause-begun
next_page-requires-clause-begun g c =
    let b = c.in-Ok.ensures.begun in
    record {
      database = refl;
      kept = subst (λ (d : DatabaseFile). IsAnswerKept d c.in-Ok.begun.kept) (sym b.database) b.kept;
      same = same_own c.args.page.now c.args.query c.in-Ok.begun.kept.query b.same;
    }

pub returns-in-Ok-clause-told : goal.returns-in-Ok-clause-told
returns-in-Ok-clause-told g c =
    let b = c.in-Ok.ensures.begun in
    let page = c.args.page.now in
    let file : c.in-Ok.begun.file.bytes ≡ c.args.file.bytes = ap (λ (d : DatabaseFile). d.bytes) b.database in
    page_told page file b.same.bytes_are c.next_page.ensures.told

pub returns-in-Ok-clause-kept : goal.returns-in-Ok-clause-kept
returns-in-Ok-clause-kept g c = subst (λ (bytes : List ℕ). IsKeptOf (civil_asked c.args.page.now.files) bytes c.next_page.result.kept) (ap (λ (d : DatabaseFile). d.bytes) c.in-Ok.ensures.begun.database) c.next_page.ensures.kept

pub refuse-requires : goal.refuse-requires
refuse-requires g c = record { read = subst (λ (civil : Option CivilText). IsFileRead civil c.in-Err.unasked.file) (sym c.civil_of.ensures) (subst (λ (d : DatabaseFile). IsFileRead (civil_asked c.args.page.now.files) d) (sym c.in-Err.ensures.file) c.requires.read) }

pub returns-in-Err-clause-told : goal.returns-in-Err-clause-told
returns-in-Err-clause-told g c = record { outcome = Err c.in-Err.unasked.refusal; is = c.in-Err.ensures.refused; ends = c.refuse.ensures.ends }

pub returns-in-Err-clause-kept : goal.returns-in-Err-clause-kept
returns-in-Err-clause-kept g c = subst (λ (civil : Option CivilText). IsKeptOf civil c.args.file.bytes c.refuse.result.kept) c.civil_of.ensures (subst (λ (bytes : List ℕ). IsKeptOf c.civil_of.result bytes c.refuse.result.kept) (ap (λ (d : DatabaseFile). d.bytes) c.in-Err.ensures.file) c.refuse.ensures.kept)
