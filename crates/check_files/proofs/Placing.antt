-- Findings put at their places, one after another.
use Rattle.std.proofs.Common.{◌≡◌, List, [], ◌∷◌, ◌++◌, refl, ap}
use Rattle.std.specs.BTreeSet.{insert_key}
use Rattle.check_files.specs.declared.findings.Finding.{Finding}
use Rattle.check_files.specs.Findings.{finding_cmp, sorted_findings}

-- findings put at their places among others, the last one first
abbrev pub put_all : List Finding → List Finding → List Finding
put_all [] sorted = sorted
put_all (finding ∷ findings) sorted = insert_key finding_cmp (put_all findings sorted) finding

-- the last one is put first
pub put_all-push : (findings : List Finding) (last : Finding) (sorted : List Finding) → put_all (findings ++ last ∷ []) sorted ≡ put_all findings (insert_key finding_cmp sorted last)
put_all-push [] last sorted = refl
put_all-push (finding ∷ findings) last sorted = ap (λ all. insert_key finding_cmp all finding) (put_all-push findings last sorted)

-- into an empty report it gives the report
pub put_all-none : (findings : List Finding) → put_all findings [] ≡ sorted_findings findings
put_all-none [] = refl
put_all-none (finding ∷ findings) = ap (λ all. insert_key finding_cmp all finding) (put_all-none findings)
