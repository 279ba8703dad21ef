-- The module of a load has one version.
use Rattle.std.specs.Prelude.{◌≡◌, [], ◌∷◌, Ok}
use Rattle.sal_script.specs.LoadExamples.{table}
use Rattle.sal_script.specs.declared.load.TheConstants.{LOAD_MODULE}
use Rattle.sal_versions.specs.Versions.{Versions, tables_of, versions_of}

abbrev pub LoadsHaveOneVersion : Type 0
LoadsHaveOneVersion = (versions : Versions) × (versions_of (LOAD_MODULE.now ∷ []) [] ≡ Ok versions) × (tables_of versions ≡ table ∷ [])
