-- Why a snapshot is refused.
use Rattle.std.specs.Prelude.{◌<◌, ⊤}
use Rattle.fault_io.specs.declared.traits.FilesRefusal.{FilesRefusal}
use Rattle.fault_io.specs.declared.traits.FilesRefusal.TheVariants as files_refusal
use Rattle.load_files.specs.declared.loading.TheConstants.{MAX_PATHS, MAX_BYTES}
use Rattle.load_files.specs.declared.refusal.LoadRefusal.{LoadRefusal}
use Rattle.load_files.specs.declared.refusal.LoadRefusal.TheVariants.{FilesFault, TooManyFiles, TooDeep, TooMuch, Memory}
use Rattle.load_files.specs.declared.walk.TheConstants.{MAX_DEPTH}

-- what a refusal of the store comes to
abbrev pub refused_by : FilesRefusal → LoadRefusal
refused_by files_refusal.Failed = FilesFault
refused_by files_refusal.Memory = Memory

-- the number that a refusal tells is past its limit
abbrev pub PassesItsLimit : LoadRefusal → Type 0
PassesItsLimit FilesFault = ⊤
PassesItsLimit (TooManyFiles count) = MAX_PATHS < count
PassesItsLimit (TooDeep depth) = MAX_DEPTH < depth
PassesItsLimit (TooMuch bytes) = MAX_BYTES < bytes
PassesItsLimit Memory = ⊤
