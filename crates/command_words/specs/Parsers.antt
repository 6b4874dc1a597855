-- The parsers of the commands' arguments.
use Rattle.std.specs.Prelude.{◌≡◌, true, List, map, Some, codes}
use Rattle.std.specs.Borrow.{Bor}
use Rattle.clap.specs.Words.{App, Rule, Text, first_value, new_app, new_rule, with_rule}
use Rattle.clap.specs.declared.parser.matches.Found.{Found}
use Rattle.command_words.specs.declared.arguments.Argument.{Argument}
use Rattle.command_words.specs.declared.arguments.Argument.TheVariants.{File, Root, Packages, Steps}
use Rattle.command_words.specs.Words.{Given, value_of}

-- what an argument is called
abbrev pub name_of : Argument → Text
name_of File = codes "file"
name_of Root = codes "root"
name_of Packages = codes "packages"
name_of Steps = codes "steps"

-- an option with a value
abbrev pub option_rule : Argument → Rule
option_rule argument = record (new_rule (name_of argument)) { long = Some (name_of argument) }

-- a parser of words in front of which no program's name stands, and which gives no help
abbrev pub plain_app : Text → App
plain_app name =
    let app = new_app name in
    record app { top = record app.top { no_binary_name = true; disable_help_flag = true } }

-- `serve [--packages FILE]`
abbrev pub serve_app : App
serve_app = with_rule (plain_app (codes "serve")) (option_rule Packages)

-- `check FILE [--root DIR] [--packages FILE]`
abbrev pub check_app : App
check_app = with_rule (with_rule (with_rule (plain_app (codes "check")) (new_rule (name_of File))) (option_rule Root)) (option_rule Packages)

-- `run FILE [--root DIR] [--packages FILE] [--steps N]`
abbrev pub run_app : App
run_app = with_rule (with_rule (with_rule (with_rule (plain_app (codes "run")) (new_rule (name_of File))) (option_rule Root)) (option_rule Packages)) (option_rule Steps)

-- what a parse found has the value of each argument that is given, and none of another
abbrev pub Finds : Found → Given → Type 0
Finds found given = (argument : Argument) → first_value found (name_of argument) ≡ value_of argument given

-- the texts that are lent
abbrev pub texts_in : List (Bor Text) → List Text
texts_in = map (λ text. text.now)
