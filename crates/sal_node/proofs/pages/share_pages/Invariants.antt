use Rattle.std.proofs.Common.{◌≡◌, ◌++◌, ◌+◌, length, take}
use Rattle.sal_node.specs.Shape.{listed, ArePages}
use Rattle.sal_node.proofs.pages.share_pages.Given as goal

abbrev pub invariant-loop-page : goal.invariant-loop-page
invariant-loop-page l = record {
  list : listed l.into.items ≡ listed l.initial.into.items ++ listed (take l.page-index l.pages);
  pages : ArePages l.into.items;
  count : length l.into.items ≡ length l.initial.into.items + l.page-index;
}
