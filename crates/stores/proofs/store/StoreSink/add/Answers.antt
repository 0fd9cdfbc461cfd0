use Rattle.std.proofs.Common.{rules}
use Rattle.stores.proofs.Memories.{adds_in}
use Rattle.stores.proofs.store.StoreSink.add.Goals as goal

pub invariant_of-self-2 : goal.invariant_of-self-2
invariant_of-self-2 g c =
    let sink = c.args.self.now in
    record { sound = (adds_in g.S.Spelling.script g.met.S.Spelling.legible sink.memory c.deref_mut.result.now c.write.new.memory c.deref_mut.ensures.value sink.ledger c.charge.new.self sink.sound c.len-size.result c.room.result c.len-size.ensures c.room.ensures c.args.clause.now c.price.result c.room-2.result c.price.ensures c.room-2.ensures c.in_ok-charge.ensures (search (rules, c.write.ensures))).sound }

pub returns : goal.returns
returns g c =
    let sink = c.args.self.now in
    let left = adds_in g.S.Spelling.script g.met.S.Spelling.legible sink.memory c.deref_mut.result.now c.write.new.memory c.deref_mut.ensures.value sink.ledger c.charge.new.self sink.sound c.len-size.result c.room.result c.len-size.ensures c.room.ensures c.args.clause.now c.price.result c.room-2.result c.price.ensures c.room-2.ensures c.in_ok-charge.ensures (search (rules, c.write.ensures)) in
    record { meaning = left.meaning; order = left.order }
