use Rattle.std.proofs.Common.{rules, ◌≡◌, ℕ, List, arith, string_bytes, sym, ap, ◌∙◌}
use Rattle.std.proofs.lemmas.Map.Text.{btree_map_updates_text}
use Rattle.element_terms.specs.PassTables.{stage_of}
use Rattle.element_terms.proofs.Stages.{put_moves}
use Rattle.element_terms.proofs.pass_tables.move_name.Goals as goal

pub returns : goal.returns
returns c =
    let name = string_bytes c.args.name in
    let old = c.args.stages.now in
    let new = c.insert.new.self in
    let stands : stage_of old name ≡ c.args.from = ap (λ (n : List ℕ). stage_of old n) (sym c.as_str.ensures.value) ∙ (sym c.stage_of.ensures ∙ omega arith) in
    record { stages = λ q. put_moves name c.args.from c.args.to old new stands q (btree_map_updates_text name old new _ c.in_ok-insert.ensures.updates q) }
