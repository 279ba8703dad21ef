-- The text of a call.
use Rattle.std.specs.Prelude.{◌≡◌, ◌⊎◌, ℕ, List, [], ◌∷◌, ◌++◌, codes, decimal}
use Rattle.sal_follow.specs.declared.fault.FollowFault.{FollowFault}
use Rattle.sal_follow.specs.declared.fault.FollowFault.TheVariants.{BadFrame, Gap, NoMemory}
use Rattle.sal_session.specs.declared.text.Text.{Text}
use Rattle.sal_session.specs.declared.text.Text.TheVariants.{Words, Frames}

-- its bytes
abbrev pub told : Text → List ℕ
told (Words text) = text
told (Frames bytes) = bytes

-- this line, or nothing, if memory ran out for it
abbrev pub IsLine : List ℕ → List ℕ → Type 0
IsLine line text = (text ≡ line) ⊎ (text ≡ [])

-- the line of a stream's fault, as the command writes it
abbrev pub feed_line : FollowFault → List ℕ
feed_line (BadFrame at) = codes "bad stream bad-frame " ++ (decimal at ++ (10 ∷ []))
feed_line (Gap want got) = codes "bad stream gap " ++ (decimal want ++ (32 ∷ (decimal got ++ (10 ∷ []))))
feed_line NoMemory = []
