use Rattle.std.proofs.Common.{string_bytes}
use Rattle.std.proofs.lemmas.Map.Text.{btree_map_updates_text}
use Rattle.element_terms.proofs.name_tables.put.Goals as goal

pub returns : goal.returns
returns c = record { places = btree_map_updates_text (string_bytes c.args.name) c.args.table.now c.insert.new.self _ c.in_ok-insert.ensures.updates }
