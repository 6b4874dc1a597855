use Rattle.std.proofs.lemmas.List.Folds.{list_all-map}
use Rattle.fault_io.specs.Paths.{is_path}
use Rattle.proto_json.proofs.parameters.has_paths.Goals as goal

pub returns-in-Update : goal.returns-in-Update
returns-in-Update c = rw (c.in-Update.is, list_all-map is_path) cc
