-- The preparation of a load: its own script is always a script, with the world of its own module.
use Rattle.std.specs.Prelude.{◌≡◌, ℕ, Ok}
use Rattle.sal_script.specs.Load.{parts_of}
pub use Rattle.sal_script_laws.specs.Rounds.{load_world}
use Rattle.sal_prepare.specs.Scripted.{Prepared, prepared_of}

abbrev pub load_prepared : ℕ → ℕ → Prepared
load_prepared rounds start = record { parts = parts_of rounds start; world = load_world }

-- for any numbers
abbrev pub LoadsArePrepared : Type 0
LoadsArePrepared = (rounds start : ℕ) → prepared_of (parts_of rounds start) ≡ Ok (load_prepared rounds start)
