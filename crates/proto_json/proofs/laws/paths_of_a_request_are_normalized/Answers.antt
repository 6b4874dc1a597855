use Rattle.std.proofs.Common.{◌≡◌, true, ◌++◌, map, IfOk, subst, ◌∙◌, sym}
use Rattle.std.specs.List.{list_all}
use Rattle.std.proofs.lemmas.Bool.{and_parts}
use Rattle.std.proofs.lemmas.List.Folds.{list_all-append, list_all-map}
use Rattle.std.proofs.lemmas.List.Sums.{AllPass-from_list_all}
use Rattle.fault_io.specs.Paths.{is_path}
use Rattle.proto_json.proofs.RequestLaws.{HasPaths, answer-paths}
use Rattle.proto_json.proofs.laws.paths_of_a_request_are_normalized.Goals as goal

pub returns-clause-roots : goal.returns-clause-roots
returns-clause-roots c = λ id included excluded is.
    let all : list_all is_path (included ++ excluded) ≡ true = subst (λ found. IfOk found HasPaths) is (answer-paths c.args._line.now) in
    let parts = and_parts (list_all is_path included) (list_all is_path excluded) (sym (list_all-append is_path included excluded) ∙ all) in
    (AllPass-from_list_all is_path included parts.0, AllPass-from_list_all is_path excluded parts.1)

pub returns-clause-files : goal.returns-clause-files
returns-clause-files c = λ id files is.
    let all : list_all is_path (map (λ f. f.path) files) ≡ true = subst (λ found. IfOk found HasPaths) is (answer-paths c.args._line.now) in
    AllPass-from_list_all (λ f. is_path f.path) files (sym (list_all-map is_path (λ f. f.path) files) ∙ all)

pub returns-clause-file : goal.returns-clause-file
returns-clause-file c = λ id file is. (and_parts (is_path file) true (subst (λ found. IfOk found HasPaths) is (answer-paths c.args._line.now))).0
