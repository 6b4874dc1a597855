use Rattle.std.proofs.Common.{◌≡◌, map, drop}
use Rattle.built_forms.specs.Meanings.{meaning_beside}
use Rattle.built_forms.proofs.meaning.meaning_beside.Given as goal

abbrev pub invariant-loop-name : goal.invariant-loop-name
invariant-loop-name l = meaning_beside l.word (map (λ row. (row.0.now, row.1)) l.rows) ≡ meaning_beside l.word (map (λ row. (row.0.now, row.1)) (drop l.name-index l.rows))
