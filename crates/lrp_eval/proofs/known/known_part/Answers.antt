-- The part comes next.
use Rattle.std.proofs.Common.{sym, arith, ◌≡◌, ◌+◌, length, ◌∙◌, subst}
use Rattle.lrp_eval.specs.Together.{ArePassed}
use Rattle.lrp_eval.proofs.KnownLaws.{copied, known_together}
use Rattle.lrp_eval.proofs.known.known_part.Goals as goal

pub returns-clause-table : goal.returns-clause-table
returns-clause-table c = λ planned q h tables size.
    let db = c.args.resumed.now.database.now in
    let cap = c.args.setting.now.cap in
    let between = c.in-Some.between in
    let known = c.args.known.now in
    let is = c.requires.known planned q h in
    let last : c.args.count + between + 1 ≡ known.part.until = c.in-Some.ensures.last in
    let count : length tables ≡ c.args.count = size in
    known_together planned db q cap between c.args.resumed.now.readers.now tables known c.in_ok-table.table (c.requires.before ∙ sym size) (omega (arith, last, count))
    (subst (λ n. ArePassed c.args.resumed.now.readers.now n between) (sym size) (c.are_passed.ensures c.if-not-are_passed.false))
    (copied _ known.table c.in_ok-table.table c.in_ok-table.ensures.vars c.in_ok-table.ensures.store planned db q cap known.part.until is.run) is
