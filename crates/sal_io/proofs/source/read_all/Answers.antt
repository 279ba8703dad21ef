use Rattle.std.proofs.Common.{take, ap, ◌∙◌, arith, rules}
use Rattle.std.proofs.lemmas.List.{places, with_items_is}
use Rattle.sal_io.proofs.Transfers.{Consumes-filled}
use Rattle.sal_io.proofs.source.read_all.Goals as goal

pub loop-filled-preserved : goal.loop-filled-preserved
loop-filled-preserved g c =
    let read = c.in_ok-count.ensures in
    let same = read.front ∙ ap (take c.loop-filled.filled) c.as_mut_slice.ensures.value ∙ c.in_ok-make_room.ensures.front in
    record {
      within = search (rules, places);
      room = search (rules, places);
      taken = rw (with_items_is c.make_room.new.bytes c.read_at.new.bytes (search (rules, places)))
          (Consumes-filled _ _ _ c.loop-filled.bytes.items c.read_at.new.bytes c.loop-filled.filled c.in_ok-count.count same c.loop-filled.invariant.taken read.ok);
      later = omega (arith, c.loop-filled.invariant.later, read.cause.later);
    }
