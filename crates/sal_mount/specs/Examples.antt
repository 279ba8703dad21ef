-- Worked examples of mounts, with two devices other than the controller's own domain.
use Rattle.std.specs.Prelude.{ℕ, List, [], ◌∷◌, map}
use Rattle.sal_types.specs.declared.value.Step.{Step}
use Rattle.sal_types.specs.declared.value.Step.TheVariants.{Node}
use Rattle.sal_mount.specs.declared.call.MountCall.{MountCall}
use Rattle.sal_mount.specs.declared.call.MountReply.{MountReply}
use Rattle.sal_mount.specs.Mounts.{made_of}

-- the path of a node
abbrev pub there : ℕ → List Step
there n = Node n ∷ []

abbrev pub replies : List MountCall → List MountReply
replies calls = map (λ m. m.reply) (made_of 3 calls)
