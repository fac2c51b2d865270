use Rattle.std.proofs.Common.{◌≡◌, Bool, true, false, not, cond, map, position, None, Some, ap, ◌∙◌, sym, arith}
use Rattle.std.specs.HashMap.{get_by}
use Rattle.std.specs.Option.{is_some}
use Rattle.std.specs.Str.{bytes_eq}
use Rattle.lrp_model.specs.Faults.{is_named_in}
use Rattle.lrp_sorts.proofs.Firsts.{is_placed}
use Rattle.lrp_sorts.proofs.Numbered.{allowed, denied, new_name, new_number, numbered_stays, put_back, taken_name, taken_stays}
use Rattle.lrp_sorts.proofs.definitions.add_number.Goals as goal

pub returns-then-not-is_apart-clause-new : goal.returns-then-not-is_apart-clause-new
returns-then-not-is_apart-clause-new c = λ names h.
    let apart : c.is_apart.result ≡ false = grind (arith, c.if-not-is_apart.true) in
    taken_name (map (λ r. r.name) c.args.relations.db.now) names c.args.name.now (denied _ (sym c.is_apart.ensures ∙ apart))

pub returns-then-not-is_apart-clause-numbers : goal.returns-then-not-is_apart-clause-numbers
returns-then-not-is_apart-clause-numbers c = λ names e h n.
    let apart : c.is_apart.result ≡ false = grind (arith, c.if-not-is_apart.true) in
    h n ∙ taken_stays (map (λ r. r.name) c.args.relations.db.now) names c.args.name.now (denied _ (sym c.is_apart.ensures ∙ apart)) n

pub returns-in_default-clause-new : goal.returns-in_default-clause-new
returns-in_default-clause-new c = λ names h.
    let name = c.args.name.now in
    let taken = map (λ r. r.name) c.args.relations.db.now in
    let apart : c.is_apart.result ≡ true = grind (arith, c.if-not-is_apart.false) in
    let free : is_named_in taken name ≡ false = allowed (is_named_in taken name) (sym c.is_apart.ensures ∙ apart) in
    let none : None ≡ cond (is_named_in taken name) None (position (bytes_eq name) names) = sym c.in_default.is ∙ c.in_ok-earlier.ensures.old ∙ ap (λ n. get_by (bytes_eq n) c.args.numbers.now) c.in_ok-copy.ensures ∙ h name in
    let absent : is_some (position (bytes_eq name) names) ≡ false = sym (ap is_some (none ∙ ap (λ b. cond b None (position (bytes_eq name) names)) free)) in
    new_name taken names name true free (sym (ap not (sym (is_placed (bytes_eq name) names) ∙ absent)))

pub returns-in_default-clause-numbers : goal.returns-in_default-clause-numbers
returns-in_default-clause-numbers c = λ names e h n.
    let name = c.args.name.now in
    let taken = map (λ r. r.name) c.args.relations.db.now in
    let apart : c.is_apart.result ≡ true = grind (arith, c.if-not-is_apart.false) in
    let free : is_named_in taken name ≡ false = allowed (is_named_in taken name) (sym c.is_apart.ensures ∙ apart) in
    let none : None ≡ cond (is_named_in taken name) None (position (bytes_eq name) names) = sym c.in_default.is ∙ c.in_ok-earlier.ensures.old ∙ ap (λ n. get_by (bytes_eq n) c.args.numbers.now) c.in_ok-copy.ensures ∙ h name in
    let absent : is_some (position (bytes_eq name) names) ≡ false = sym (ap is_some (none ∙ ap (λ b. cond b None (position (bytes_eq name) names)) free)) in
    c.in_ok-earlier.ensures.updates.0 n
    ∙ ap (λ k. cond (bytes_eq k n) (Some c.args.number) (get_by (bytes_eq n) c.args.numbers.now)) c.in_ok-copy.ensures
    ∙ ap (λ o. cond (bytes_eq name n) (Some c.args.number) o) (h n)
    ∙ ap (λ m. cond (bytes_eq name n) (Some m) (cond (is_named_in taken n) None (position (bytes_eq n) names))) e ∙ new_number taken names name free absent n

pub returns-clause-new : goal.returns-clause-new
returns-clause-new c = λ names h.
    let name = c.args.name.now in
    let taken = map (λ r. r.name) c.args.relations.db.now in
    let apart : c.is_apart.result ≡ true = grind (arith, c.if-not-is_apart.false) in
    let free : is_named_in taken name ≡ false = allowed (is_named_in taken name) (sym c.is_apart.ensures ∙ apart) in
    let some : Some c.in-Some.earlier ≡ cond (is_named_in taken name) None (position (bytes_eq name) names) = sym c.in-Some.is ∙ c.in_ok-earlier.ensures.old ∙ ap (λ n. get_by (bytes_eq n) c.args.numbers.now) c.in_ok-copy.ensures ∙ h name in
    let present : is_some (position (bytes_eq name) names) ≡ true = sym (ap is_some (some ∙ ap (λ b. cond b None (position (bytes_eq name) names)) free)) in
    new_name taken names name false free (sym (ap not (sym (is_placed (bytes_eq name) names) ∙ present)))

pub returns-clause-numbers : goal.returns-clause-numbers
returns-clause-numbers c = λ names e h n.
    let name = c.args.name.now in
    let taken = map (λ r. r.name) c.args.relations.db.now in
    let apart : c.is_apart.result ≡ true = grind (arith, c.if-not-is_apart.false) in
    let free : is_named_in taken name ≡ false = allowed (is_named_in taken name) (sym c.is_apart.ensures ∙ apart) in
    let was : Some c.in-Some.earlier ≡ get_by (bytes_eq name) c.args.numbers.now = sym c.in-Some.is ∙ c.in_ok-earlier.ensures.old ∙ ap (λ n. get_by (bytes_eq n) c.args.numbers.now) c.in_ok-copy.ensures in
    let present : is_some (position (bytes_eq name) names) ≡ true = sym (ap is_some (was ∙ h name ∙ ap (λ b. cond b None (position (bytes_eq name) names)) free)) in
    c.in_ok-insert.ensures.updates.0 n
    ∙ ap (λ k. cond (bytes_eq k n) (Some c.in-Some.earlier) (get_by (bytes_eq n) c.insert.new.self)) c.in_ok-copy-2.ensures
    ∙ ap (λ o. cond (bytes_eq name n) (Some c.in-Some.earlier) o) (c.in_ok-earlier.ensures.updates.0 n ∙ ap (λ k. cond (bytes_eq k n) (Some c.args.number) (get_by (bytes_eq n) c.args.numbers.now)) c.in_ok-copy.ensures)
    ∙ put_back name n c.args.number (Some c.in-Some.earlier) (λ k. get_by (bytes_eq k) c.args.numbers.now) was
    ∙ h n ∙ numbered_stays taken names name present n
