-- That one store leads another is an order.
use Rattle.lrp_store.specs.Stores.{StoreView}
use Rattle.lrp_store.proofs.StoreFirst.{held_itself, held_upto}
use Rattle.lrp_packed.specs.Leading.{leads_store}

pub store_itself : (s : StoreView) → leads_store s s
store_itself s spot is = record { spot = spot; is = is; near = held_itself spot.times spot.texts }

pub store_onward : (a b c : StoreView) → leads_store a b → leads_store b c → leads_store a c
store_onward a b c p q spot is =
    let y = q spot is in
    let x = p y.spot y.is in
    record { spot = x.spot; is = x.is; near = held_upto x.spot.times y.spot.times spot.times x.spot.texts y.spot.texts spot.texts x.near y.near }
