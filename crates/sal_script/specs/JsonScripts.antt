-- Scripts and writes whose values are JSON as texts have it.
use Rattle.std.specs.Prelude.{Bool, true, List, [], ◌∷◌, ⊤}
use Rattle.sal_json_laws.specs.Json.{IsJson, is_json}
use Rattle.sal_script.specs.JsonMoves.{HaveJsonMoves}
use Rattle.sal_script.specs.Script.{DeviceParts, Parts}
use Rattle.sal_script.specs.Play.{DataAct, putting, merging, deleting}

-- the openings of a domain
pub record IsJsonDevice (device : DeviceParts) : Type 0 where
  pub config : IsJson device.config
  pub operational : IsJson device.operational

abbrev pub AreJsonDevices : List DeviceParts → Type 0
AreJsonDevices [] = ⊤
AreJsonDevices (device ∷ devices) = IsJsonDevice device × AreJsonDevices devices

pub record IsJsonScript (parts : Parts) : Type 0 where
  pub config : IsJson parts.config
  pub operational : IsJson parts.operational
  pub devices : AreJsonDevices parts.devices
  pub clients : HaveJsonMoves parts.clients

-- the value of a write
abbrev pub is_json_act : DataAct → Bool
is_json_act (putting value) = is_json value
is_json_act (merging value) = is_json value
is_json_act deleting = true
