-- The identities so far.
use Rattle.std.proofs.Common.{◌≡◌, ◌+◌, take, length}
use Rattle.sal_typedefs.specs.Ready.{identities_among, AreNumbered}
use Rattle.sal_typedefs.proofs.identities.identities_among.Given as goal

abbrev pub invariant-loop-sub : goal.invariant-loop-sub
invariant-loop-sub l =
    record {
      names : AreNumbered l.initial.tally (take l.sub-index l.subs) l.map;
      next : l.tally ≡ l.initial.tally + length (identities_among (take l.sub-index l.subs));
    }
