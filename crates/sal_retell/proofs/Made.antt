-- Calls on mounts that are refused.
use Rattle.std.proofs.Common.{refl}
use Rattle.sal_mount.specs.declared.call.MountCall.{MountCall}
use Rattle.sal_mount.specs.declared.call.MountFault.{MountFault}
use Rattle.sal_mount.specs.declared.call.MountFault.TheVariants.{DeviceUsed, MountTaken, NoDomain, NoMemory}
use Rattle.sal_mount.specs.declared.call.MountReply.TheVariants as given
use Rattle.sal_mount.specs.Answers.{Fails, Refuses as Refused_by}
use Rattle.sal_mount.specs.Register.{Register}
use Rattle.sal_history.specs.declared.reply.Reply.TheVariants.{Refused}
use Rattle.sal_history.specs.Services.{mount_fault}
use Rattle.sal_retell.specs.Light.{IsAnswer, IsMade}

pub refused_made : (old new : Register) (call : MountCall) (fault : MountFault) → Fails old new call fault → IsAnswer fault → IsMade old new call (Refused (mount_fault fault))
refused_made old new call NoMemory fails is = absurd is
refused_made old new call (NoDomain id) fails is = record { reply = given.Refused (NoDomain id); made = fails.made; same = refl }
refused_made old new call (DeviceUsed id) fails is = record { reply = given.Refused (DeviceUsed id); made = fails.made; same = refl }
refused_made old new call (MountTaken id) fails is = record { reply = given.Refused (MountTaken id); made = fails.made; same = refl }

pub refused_always : (old new : Register) (call : MountCall) (fault : MountFault) → Refused_by old new call fault → IsAnswer fault → IsMade old new call (Refused (mount_fault fault))
refused_always old new call NoMemory fails is = absurd is
refused_always old new call (NoDomain id) fails is = record { reply = given.Refused (NoDomain id); made = fails.made; same = refl }
refused_always old new call (DeviceUsed id) fails is = record { reply = given.Refused (DeviceUsed id); made = fails.made; same = refl }
refused_always old new call (MountTaken id) fails is = record { reply = given.Refused (MountTaken id); made = fails.made; same = refl }
