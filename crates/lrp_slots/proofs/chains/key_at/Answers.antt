-- Slots in line are counted back from the last one.
use Rattle.std.proofs.Common.{◌≡◌, ◌<◌, ◌+◌, ◌-◌, ◌∙◌, sym, arith, IsSome}
use Rattle.slab.specs.Slab.{get}
use Rattle.lrp_slots.specs.Links.{key_after}
use Rattle.lrp_slots.proofs.Keys.{all_on_the_way}
use Rattle.lrp_slots.proofs.chains.key_at.Goals as goal

pub overflow_sub-result-then-chain-2 : goal.overflow_sub-result-then-chain-2
overflow_sub-result-then-chain-2 g c =
    let l : c.args.place < c.args.chain.count = c.requires.within in
    let last : c.args.chain.last ≡ c.args.chain.first + (c.args.chain.count - 1) = sym c.requires.whole.last ∙ c.requires.whole.line c.if-chain.true (c.args.chain.count - 1) (omega arith) in
    omega arith

pub returns-then-chain : goal.returns-then-chain
returns-then-chain g c =
    let l : c.args.place < c.args.chain.count = c.requires.within in
    let last : c.args.chain.last ≡ c.args.chain.first + (c.args.chain.count - 1) = sym c.requires.whole.last ∙ c.requires.whole.line c.if-chain.true (c.args.chain.count - 1) (omega arith) in
    let here : key_after (get c.args.links.now) c.args.place c.args.chain.first ≡ c.args.chain.first + c.args.place = c.requires.whole.line c.if-chain.true c.args.place l in
    sym (here ∙ omega arith)

pub key_after-requires : goal.key_after-requires
key_after-requires g c = all_on_the_way (get c.args.links.now) (λ k. IsSome (get c.args.links.now k)) c.args.place c.args.chain.count c.args.chain.first (let l : c.args.place < c.args.chain.count = c.requires.within in omega arith) c.requires.whole.held
