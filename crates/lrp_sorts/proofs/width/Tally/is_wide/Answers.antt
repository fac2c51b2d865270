use Rattle.std.proofs.Common.{◌≡◌, ◌||◌, true, false, nat_lt, length, ap, ◌∙◌, arith}
use Rattle.std.proofs.lemmas.Bool.Decides.{nat_tests}
use Rattle.lrp_sorts.proofs.Tallies.{wide_counted, first_decides, second_decides}
use Rattle.lrp_sorts.proofs.width.Tally.is_wide.Goals as goal

pub returns-then-len-gt-MOST : goal.returns-then-len-gt-MOST
returns-then-len-gt-MOST c = λ bs q names k.
    let more : nat_lt 8 c.len.result ≡ true = grind (arith, nat_tests) in
    let long : c.len.result ≡ length c.args.self.now.times.items = omega arith in
    first_decides (nat_lt 8 c.len.result) (nat_lt 8 (length c.args.self.now.texts.items)) _
    (ap (λ l. nat_lt 8 l || nat_lt 8 (length c.args.self.now.texts.items)) long ∙ wide_counted bs q names c.args.self.now k) more

pub returns-else-len-gt-MOST : goal.returns-else-len-gt-MOST
returns-else-len-gt-MOST c = λ bs q names k.
    let less : nat_lt 8 c.len.result ≡ false = grind (arith, nat_tests) in
    let long : c.len.result ≡ length c.args.self.now.times.items = omega arith in
    let other : c.len-else-len-gt-MOST.result ≡ length c.args.self.now.texts.items = omega arith in
    ap (λ l. nat_lt 8 l) other
    ∙ second_decides (nat_lt 8 c.len.result) (nat_lt 8 (length c.args.self.now.texts.items)) _
    (ap (λ l. nat_lt 8 l || nat_lt 8 (length c.args.self.now.texts.items)) long ∙ wide_counted bs q names c.args.self.now k) less
