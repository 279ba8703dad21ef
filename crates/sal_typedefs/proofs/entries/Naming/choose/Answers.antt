use Rattle.std.proofs.Common.{◌≡◌, ◌∙◌, true, sym}
use Rattle.std.specs.Prelude.{Some}
use Rattle.sal_module.specs.Statements.{is_named, subs_of}
use Rattle.sal_typedefs.specs.Entries.{item_of}
use Rattle.sal_typedefs.proofs.EntryLists.{entries-more, faults-more}
use Rattle.sal_typedefs.proofs.entries.Naming.choose.Goals as goal

pub loop-sub-preserved : goal.loop-sub-preserved
loop-sub-preserved c =
    let a = c.args in
    let n = a.self.numbering in
    let from = Some a.from.now in
    let p = is_named (item_of n) in
    let subs = subs_of a.stmt.now in
    let old = c.loop-sub.chosen.entries.items in
    let is = rw c.items-sub-items.ensures at c.sub-item.is in
    let lt = rw c.items-sub-items.ensures at c.loop-sub-test.true in
    let here : p c.sub-item.result ≡ true = sym (rw c.item.ensures at c.is_named.ensures) ∙ c.if-not-is_named.false in
    record {
      entries = entries-more n from a.self.number p subs c.loop-sub.sub-index c.sub-item.result lt is old c.with_choice.new.chosen.entries.items here c.loop-sub.invariant.entries c.in_ok-best.ensures.entries;
      fault = faults-more n from a.self.number p subs c.loop-sub.sub-index c.sub-item.result lt is old a.best c.loop-sub.best c.in_ok-best.best here c.loop-sub.invariant.entries c.loop-sub.invariant.fault
          c.in_ok-best.ensures.fault;
      names = c.in_ok-best.ensures.names;
    }
