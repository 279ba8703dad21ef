-- Each client is the same as before; the replies of those before the index are all written, and the others have at most one to write.
use Rattle.std.proofs.Common.{◌≡◌, ℕ, ◌<◌, ◌≤◌, [], Some, length, map}
use Rattle.std.specs.Prelude.{slice_get}
use Rattle.sal_embed.specs.declared.caller.Caller.{Caller}
use Rattle.sal_embed.specs.Broker.{AllFollow, AreNear, untold}
use Rattle.sal_prepare.specs.Scripted.{tables_in}
use Rattle.sal_embed.proofs.clients.tell_all.Given as goal

abbrev pub invariant-loop-i : goal.invariant-loop-i
invariant-loop-i l = record {
  follow : AllFollow (tables_in l.schemas) l.initial.callers.items l.callers.items;
  near : AreNear l.callers.items;
  told : (c : ℕ) (caller : Caller) → c < l.i → slice_get l.callers.items c ≡ Some caller → untold caller ≡ [];
}
