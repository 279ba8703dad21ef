-- What C holds may go to another thread, as a session may.
use mir.Raw.{raw}
use base.Shift.{Keyless}
use denote.Memory.{lone}
use denote.RattleType.{RattleType}
use denote.RawPtr.{Ptr}
use denote.Builtin.{RawPtr}
use denote.Struct.Struct.{exits_of}
use denote.Struct.Owning.{shape, fields, to}
use denote.Param.Send.{IsSend, AllSend, owning_send, struct_send, sendable}
use Rattle.std_alloc.proofs.SendSync.{lies, quiet}
use Rattle.std.proofs.Crossing.{frees}
use Rattle.std.proofs.alloc.Global.TheSendSync as heap
use Rattle.std.specs.declared.alloc.Global.{Global}
use Rattle.std.specs.contracts.impls.GlobalAllocator.TheImpl.{ghosts}
use Rattle.std.specs.declared.option.Option.{Option}
use Rattle.std.specs.declared.option.Option.TheVariants.{None, Some}
use Rattle.sal_session.specs.contracts.session.Session as session
use Rattle.sal_session.proofs.Sendable.{Session-send}
use Rattle.mdsal_c.specs.Owned.{held_owns}
use Rattle.mdsal_c.specs.contracts.held.Held as held

module _ (R : RattleType) (s : IsSend R) where
  pub held_keyless : (a : Global) (p : Ptr) (o : Option R.Denot) → Keyless (held_owns (ghosts.dealloc_token a) R p o)
  held_keyless a p None = tt
  held_keyless a p (Some x) = (lies R s p x, frees.frees a (raw (lone R.mir)) p)

pointer_send : IsSend RawPtr
pointer_send = search sendable

pub Held-send : IsSend held.the_row
Held-send =
    let O = held.the_type in let all : AllSend (fields O) = (pointer_send, (heap.the_field_send, tt)) in
    owning_send O all (λ d. held_keyless session.the_row Session-send d.alloc d.at d.value) (λ k. quiet (to O) (exits_of k (fields O)) ((struct_send (shape O) all).leaving k))
