-- The commands, and the words that are one.
use Rattle.std.specs.Prelude.{ℕ, Bool, true, false, not, ◌&&◌, ◌==◌, List, [], ◌∷◌, length, find, Option, Some, None, option_map, option_and_then, if◌then◌else◌, codes, bytes_eq, nat_le}
use Rattle.std.specs.Char.{is_ascii_digit}
use Rattle.std.specs.List.{list_all}
use Rattle.std.specs.Str.Parse.{digits_value}
use Rattle.fault_io.specs.Paths.{after_front, is_path}
use Rattle.command_words.specs.declared.arguments.Allowed.{Allowed}
use Rattle.command_words.specs.declared.arguments.Argument.{Argument}
use Rattle.command_words.specs.declared.arguments.Argument.TheVariants.{File, Root, Packages, Steps}
use Rattle.command_words.specs.declared.arguments.Place.{Place}
use Rattle.command_words.specs.declared.arguments.Place.TheVariants.{AmongOptions, AsValue, BehindOptions}
use Rattle.command_words.specs.declared.words.Command.{Command}
use Rattle.command_words.specs.declared.words.Command.TheVariants.{Serve, Check, Run, Refused}

abbrev pub Text : Type 0
Text = List ℕ

-- ---- the arguments that words give

-- what a word is, where it stands
pub data Part : Type 0 where
  -- an option, whose value is the next word
  Names : Argument → Part
  -- the value of an argument
  Gives : Argument → Text → Part
  -- the end of the options
  Ends : Part
  -- nothing that may stand there
  Wrong : Part

-- a word begins like an option
abbrev pub is_dashed : Text → Bool
is_dashed [] = false
is_dashed (first ∷ rest) = first == 45

-- the value of an option, which doesn't begin like an option itself
abbrev pub value_part : Argument → Text → Part
value_part argument value = if is_dashed value then Wrong else Gives argument value

-- an option and its value in one word, or else another part
abbrev pub joined_part : Argument → Option Text → Part → Part
joined_part argument (Some value) other = value_part argument value
joined_part argument None other = other

-- a word that begins like an option, where options may stand
abbrev pub dashed_part : Text → Part
dashed_part word =
    if bytes_eq word (codes "--") then Ends
    else (if bytes_eq word (codes "--root") then Names Root
    else (if bytes_eq word (codes "--packages") then Names Packages
    else (if bytes_eq word (codes "--steps") then Names Steps
    else joined_part Root (after_front (codes "--root=") word)
    (joined_part Packages (after_front (codes "--packages=") word)
    (joined_part Steps (after_front (codes "--steps=") word) Wrong)))))

-- a word by where it stands: among the options, as the value of one, or behind the options
abbrev pub part_of : Place → Text → Part
part_of AmongOptions word = if is_dashed word then dashed_part word else Gives File word
part_of (AsValue argument) word = value_part argument word
part_of BehindOptions word = Gives File word

-- where the word behind a value stands
abbrev pub behind_value : Place → Place
behind_value BehindOptions = BehindOptions
behind_value _ = AmongOptions

-- arguments with their values, in the order of the words
abbrev pub Given : Type 0
Given = List (Argument × Text)

abbrev pub given_by : Place → Part → (behind : Place → Option Given) → Option Given
given_by place (Names argument) behind = behind (AsValue argument)
given_by place (Gives argument value) behind = option_map (λ given. (argument, value) ∷ given) (behind (behind_value place))
given_by place Ends behind = behind BehindOptions
given_by place Wrong behind = None

-- no option is left without its value
abbrev pub given_at_end : Place → Option Given
given_at_end (AsValue argument) = None
given_at_end _ = Some []

-- what words give, by where the first of them stands; nothing, where one of them may not stand where it does
abbrev pub given_from : List Text → Place → Option Given
given_from [] place = given_at_end place
given_from (word ∷ words) place = given_by place (part_of place word) (given_from words)

-- ---- each argument at most once

abbrev pub allows : Allowed → Argument → Bool
allows allowed File = allowed.file
allows allowed Root = allowed.root
allows allowed Packages = allowed.packages
allows allowed Steps = allowed.steps

abbrev pub without : Allowed → Argument → Allowed
without allowed File = record allowed { file = false }
without allowed Root = record allowed { root = false }
without allowed Packages = record allowed { packages = false }
without allowed Steps = record allowed { steps = false }

-- only these arguments are given, and each at most once
abbrev pub are_allowed : Allowed → Given → Bool
are_allowed allowed [] = true
are_allowed allowed (one ∷ more) = allows allowed one.0 && are_allowed (without allowed one.0) more

abbrev pub if_allowed : Allowed → Given → Option Given
if_allowed allowed given = if are_allowed allowed given then Some given else None

-- what words give, where it is allowed
abbrev pub allowed_in : Allowed → List Text → Option Given
allowed_in allowed words = option_and_then (if_allowed allowed) (given_from words AmongOptions)

abbrev pub is_same : Argument → Argument → Bool
is_same File File = true
is_same Root Root = true
is_same Packages Packages = true
is_same Steps Steps = true
is_same _ _ = false

-- the value that an argument is given, if it is
abbrev pub value_of : Argument → Given → Option Text
value_of argument given = option_map (λ one. one.1) (find (λ one. is_same one.0 argument) given)

-- ---- commands

-- a number of steps is written in 1 to 15 decimal digits
abbrev pub is_number : Text → Bool
is_number word = not (length word == 0) && nat_le (length word) 15 && list_all is_ascii_digit word

-- the number that a word is, if it is one
abbrev pub number_of : Text → Option ℕ
number_of word = if is_number word then Some (digits_value 10 word) else None

-- the steps of a run whose words name none
abbrev pub default_steps : ℕ
default_steps = 10000000

-- the steps of a run
abbrev pub steps_of : Option Text → Option ℕ
steps_of None = Some default_steps
steps_of (Some word) = number_of word

-- a path that may be left out is absolute and normalized
abbrev pub is_path_or_none : Option Text → Bool
is_path_or_none None = true
is_path_or_none (Some path) = is_path path

-- serving, over the packages of a file if one is named
abbrev pub serving : (packages : Option Text) → Command
serving packages = if is_path_or_none packages then Serve packages else Refused

-- a check of a file
abbrev pub checking : (file root packages : Option Text) → Command
checking None root packages = Refused
checking (Some file) root packages = if is_path file && (is_path_or_none root && is_path_or_none packages) then Check file root packages else Refused

-- a run of a file for so many steps
abbrev pub running : (file root packages : Option Text) → (steps : Option ℕ) → Command
running (Some file) root packages (Some steps) = if is_path file && (is_path_or_none root && is_path_or_none packages) then Run file root packages steps else Refused
running _ _ _ _ = Refused

-- `serve [--packages FILE]`
abbrev pub serve_arguments : Allowed
serve_arguments = record { file = false; root = false; packages = true; steps = false }

abbrev pub serve_command : Option Given → Command
serve_command None = Refused
serve_command (Some given) = serving (value_of Packages given)

-- `check FILE [--root DIR] [--packages FILE]`
abbrev pub check_arguments : Allowed
check_arguments = record { file = true; root = true; packages = true; steps = false }

abbrev pub check_command : Option Given → Command
check_command None = Refused
check_command (Some given) = checking (value_of File given) (value_of Root given) (value_of Packages given)

-- `run FILE [--root DIR] [--packages FILE] [--steps N]`
abbrev pub run_arguments : Allowed
run_arguments = record { file = true; root = true; packages = true; steps = true }

abbrev pub run_command : Option Given → Command
run_command None = Refused
run_command (Some given) = running (value_of File given) (value_of Root given) (value_of Packages given) (steps_of (value_of Steps given))

-- the command that words are, by the first of them
abbrev pub command_of : List Text → Command
command_of [] = Refused
command_of (word ∷ words) =
    if bytes_eq word (codes "serve") then serve_command (allowed_in serve_arguments words)
    else (if bytes_eq word (codes "check") then check_command (allowed_in check_arguments words)
    else (if bytes_eq word (codes "run") then run_command (allowed_in run_arguments words) else Refused))

-- whether the lines of the input are served
abbrev pub serves : Command → Bool
serves (Serve packages) = true
serves _ = false

-- whether folders may be listed
abbrev pub lists : Command → Bool
lists Refused = false
lists _ = true
