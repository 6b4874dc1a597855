-- What each word of a command does to what a parser holds.
use Rattle.std.proofs.Common.{◌≡◌, ◌∙◌, ℕ, Bool, true, false, ◌&&◌, List, [], ◌∷◌, ◌++◌, None, Some, codes, bytes_eq, inl, inr, refl, ap, append-nil}
use Rattle.std.proofs.lemmas.Bool.{cases_Bool}
use Rattle.clap.specs.Lexer.{strip_byte}
use Rattle.clap.specs.Values.{reading_of}
use Rattle.clap.specs.Words.{App, Row, Rule, Shape, Text}
use Rattle.clap.specs.Simple.{built}
use Rattle.clap.specs.Takes.{settle_passes, turn_passes}
use Rattle.clap.specs.Walk.{Held, Walk, at_row, has_row, idle, more_values, option, settled_rows, walked, with_values, without}
use Rattle.clap.specs.declared.builder.value_parser.ValueParser.TheVariants as vp
use Rattle.clap.specs.declared.parser.matches.ValueSource.TheVariants.{CommandLine}
use Rattle.clap.proofs.OnLiterals.{clap_on_literals}
use Rattle.command_words.specs.declared.arguments.Allowed.{Allowed}
use Rattle.command_words.specs.declared.arguments.Argument.{Argument}
use Rattle.command_words.specs.declared.arguments.Argument.TheVariants.{File, Root, Packages, Steps}
use Rattle.command_words.specs.Words.{allows, check_arguments, is_dashed, run_arguments, serve_arguments}
use Rattle.command_words.specs.Parsers.{check_app, name_of, run_app, serve_app}

-- the commands that have a parser
pub data Verb : Type 0 where
  ToServe : Verb
  ToCheck : Verb
  ToRun : Verb

abbrev pub app_by : Verb → App
app_by ToServe = serve_app
app_by ToCheck = check_app
app_by ToRun = run_app

abbrev pub allowed_by : Verb → Allowed
allowed_by ToServe = serve_arguments
allowed_by ToCheck = check_arguments
allowed_by ToRun = run_arguments

abbrev pub shape : Verb → Shape
shape verb = (built (app_by verb)).top

abbrev pub rules : Verb → List Rule
rules verb = (shape verb).rules

-- what is found of an argument
abbrev pub row_of : Argument × List ℕ → Row
row_of one = record {
  id = name_of one.0;
  values = one.1 ∷ [];
  count = None;
  source = Some CommandLine;
  reading = reading_of vp.String;
}

-- how an option is written
abbrev pub option_word : Argument → List ℕ
option_word argument = codes "--" ++ name_of argument

abbrev pub joined_word : Argument → List ℕ → List ℕ
joined_word argument value = option_word argument ++ (codes "=" ++ value)

abbrev pub is_option : Argument → Bool
is_option File = false
is_option _ = true

-- ---- where a walk stands

abbrev pub among : Held → ℕ → Walk
among h position = record { held = h; waiting = idle; position = position; is_trailing = false; stopped = None }

abbrev pub behind : Held → ℕ → Walk
behind h position = record { held = h; waiting = idle; position = position; is_trailing = true; stopped = None }

abbrev pub awaiting : Argument → List Row → ℕ → Held
awaiting argument rows skip = record { rows = rows; pending = Some (name_of argument, []); skip = skip }

abbrev pub as_value : Argument → List Row → ℕ → ℕ → Walk
as_value argument rows skip position = record { held = awaiting argument rows skip; waiting = option (name_of argument); position = position; is_trailing = false; stopped = None }

-- what is held after a value that is used up at the next word
abbrev pub with_pending : Argument → List ℕ → List Row → ℕ → Held
with_pending argument value rows skip = record { rows = rows; pending = Some (name_of argument, value ∷ []); skip = skip }

-- after an option with its value in one word
abbrev pub with_rows : List Row → ℕ → Held
with_rows rows skip = record { rows = rows; pending = None; skip = skip }

-- ---- rows

-- where no row has the id, a row of it comes last
pub at_row-absent : (id : Text) (change : Row → List Row) (missing rows : List Row) → has_row id rows ≡ false → at_row id change missing rows ≡ rows ++ missing
at_row-absent id change missing [] absent = refl
at_row-absent id change missing (row ∷ rows) absent =
    elim (cases_Bool (bytes_eq row.id id)) [
      | inl t ↦ (let bad = rw t at absent in cc)
      | inr f ↦ (let more = rw f at absent in rw f (ap (λ (rs : List Row). row ∷ rs) (at_row-absent id change missing rows more)))
    ]

-- so does a first use of an argument
used_once : (argument : Argument) (value : List ℕ) (before found : List Row) → before ≡ found → has_row (name_of argument) found ≡ false
    → with_values (name_of argument) (reading_of vp.String) CommandLine (value ∷ []) (without (name_of argument) before) ≡ found ++ row_of (argument, value) ∷ []
used_once argument value before found e absent =
    let id = name_of argument in
    rw e (ap (λ (rs : List Row). with_values id (reading_of vp.String) CommandLine (value ∷ []) rs) (at_row-absent id (λ _. []) [] found absent ∙ append-nil found)
    ∙ at_row-absent id (more_values CommandLine (value ∷ [])) (row_of (argument, value) ∷ []) found absent)

-- what a parser holds comes to these rows, and no value is wanting
pub record Holds (verb : Verb) (h : Held) (found : List Row) : Type 0 where
  pub passes : settle_passes (rules verb) false h ≡ true
  pub rows_are : settled_rows (rules verb) h.pending h.rows ≡ found

-- ---- steps

pub names_step : (verb : Verb) (argument : Argument) (h : Held) (position : ℕ) → allows (allowed_by verb) argument ≡ true → is_option argument ≡ true
    → (walked (rules verb) [] (among h position) (option_word argument) ≡ as_value argument (settled_rows (rules verb) h.pending h.rows) h.skip position)
    × (turn_passes (shape verb) [] (among h position) (option_word argument) ≡ (settle_passes (rules verb) false h && true))
unfolding clap_on_literals
names_step ToServe File h position may is = cc
names_step ToServe Root h position may is = cc
names_step ToServe Packages h position may is = (refl, refl)
names_step ToServe Steps h position may is = cc
names_step ToCheck File h position may is = cc
names_step ToCheck Root h position may is = (refl, refl)
names_step ToCheck Packages h position may is = (refl, refl)
names_step ToCheck Steps h position may is = cc
names_step ToRun File h position may is = cc
names_step ToRun Root h position may is = (refl, refl)
names_step ToRun Packages h position may is = (refl, refl)
names_step ToRun Steps h position may is = (refl, refl)

pub ends_step : (verb : Verb) (h : Held) (position : ℕ)
    → (walked (rules verb) [] (among h position) (codes "--") ≡ behind h position)
    × (turn_passes (shape verb) [] (among h position) (codes "--") ≡ true)
unfolding clap_on_literals
ends_step ToServe h position = (refl, refl)
ends_step ToCheck h position = (refl, refl)
ends_step ToRun h position = (refl, refl)

-- a value that is used up later counts as used
pub pending_holds : (verb : Verb) (argument : Argument) (value : List ℕ) (found : List Row) (skip : ℕ) → allows (allowed_by verb) argument ≡ true → has_row (name_of argument) found ≡ false → Holds verb (with_pending argument value found skip) (found ++ row_of (argument, value) ∷ [])
pending_holds ToServe File value found skip may absent = cc
pending_holds ToServe Root value found skip may absent = cc
pending_holds ToServe Packages value found skip may absent = record { passes = rw absent refl; rows_are = used_once Packages value found found refl absent }
pending_holds ToServe Steps value found skip may absent = cc
pending_holds ToCheck File value found skip may absent = record { passes = rw absent refl; rows_are = used_once File value found found refl absent }
pending_holds ToCheck Root value found skip may absent = record { passes = rw absent refl; rows_are = used_once Root value found found refl absent }
pending_holds ToCheck Packages value found skip may absent = record { passes = rw absent refl; rows_are = used_once Packages value found found refl absent }
pending_holds ToCheck Steps value found skip may absent = cc
pending_holds ToRun File value found skip may absent = record { passes = rw absent refl; rows_are = used_once File value found found refl absent }
pending_holds ToRun Root value found skip may absent = record { passes = rw absent refl; rows_are = used_once Root value found found refl absent }
pending_holds ToRun Packages value found skip may absent = record { passes = rw absent refl; rows_are = used_once Packages value found found refl absent }
pending_holds ToRun Steps value found skip may absent = record { passes = rw absent refl; rows_are = used_once Steps value found found refl absent }

pub joined_step : (verb : Verb) (argument : Argument) (value : List ℕ) (h : Held) (found : List Row) (position : ℕ) → allows (allowed_by verb) argument ≡ true → is_option argument ≡ true → Holds verb h found → has_row (name_of argument) found ≡ false
    → (walked (rules verb) [] (among h position) (joined_word argument value) ≡ among (with_rows (found ++ row_of (argument, value) ∷ []) h.skip) position)
    × (turn_passes (shape verb) [] (among h position) (joined_word argument value) ≡ true)
unfolding clap_on_literals
joined_step ToServe File value h found position may is holds absent = cc
joined_step ToServe Root value h found position may is holds absent = cc
joined_step ToServe Packages value h found position may is holds absent = (ap (λ (rs : List Row). among (with_rows rs h.skip) position) (used_once Packages value _ found holds.rows_are absent), rw (holds.passes, holds.rows_are, absent) refl)
joined_step ToServe Steps value h found position may is holds absent = cc
joined_step ToCheck File value h found position may is holds absent = cc
joined_step ToCheck Root value h found position may is holds absent = (ap (λ (rs : List Row). among (with_rows rs h.skip) position) (used_once Root value _ found holds.rows_are absent), rw (holds.passes, holds.rows_are, absent) refl)
joined_step ToCheck Packages value h found position may is holds absent = (ap (λ (rs : List Row). among (with_rows rs h.skip) position) (used_once Packages value _ found holds.rows_are absent), rw (holds.passes, holds.rows_are, absent) refl)
joined_step ToCheck Steps value h found position may is holds absent = cc
joined_step ToRun File value h found position may is holds absent = cc
joined_step ToRun Root value h found position may is holds absent = (ap (λ (rs : List Row). among (with_rows rs h.skip) position) (used_once Root value _ found holds.rows_are absent), rw (holds.passes, holds.rows_are, absent) refl)
joined_step ToRun Packages value h found position may is holds absent = (ap (λ (rs : List Row). among (with_rows rs h.skip) position) (used_once Packages value _ found holds.rows_are absent), rw (holds.passes, holds.rows_are, absent) refl)
joined_step ToRun Steps value h found position may is holds absent = (ap (λ (rs : List Row). among (with_rows rs h.skip) position) (used_once Steps value _ found holds.rows_are absent), rw (holds.passes, holds.rows_are, absent) refl)

-- a word that doesn't begin like an option
undashed : (word : List ℕ) → is_dashed word ≡ false → (bytes_eq word (45 ∷ 45 ∷ []) ≡ false) × (strip_byte 45 word ≡ None)
undashed [] is = (refl, refl)
undashed (x ∷ xs) is = (rw is refl, rw is refl)

pub value_step : (verb : Verb) (argument : Argument) (value : List ℕ) (found : List Row) (skip position : ℕ) → allows (allowed_by verb) argument ≡ true → is_dashed value ≡ false
    → (walked (rules verb) [] (as_value argument found skip position) value ≡ among (with_pending argument value found skip) position)
    × (turn_passes (shape verb) [] (as_value argument found skip position) value ≡ true)
unfolding clap_on_literals
value_step ToServe File value found skip position may is = cc
value_step ToServe Root value found skip position may is = cc
value_step ToServe Packages value found skip position may is = (let plain = undashed value is in (rw (plain.0, plain.1, plain.1) refl, rw (plain.0, plain.1, plain.1) refl))
value_step ToServe Steps value found skip position may is = cc
value_step ToCheck File value found skip position may is = (let plain = undashed value is in (rw (plain.0, plain.1, plain.1) refl, rw (plain.0, plain.1, plain.1) refl))
value_step ToCheck Root value found skip position may is = (let plain = undashed value is in (rw (plain.0, plain.1, plain.1) refl, rw (plain.0, plain.1, plain.1) refl))
value_step ToCheck Packages value found skip position may is = (let plain = undashed value is in (rw (plain.0, plain.1, plain.1) refl, rw (plain.0, plain.1, plain.1) refl))
value_step ToCheck Steps value found skip position may is = cc
value_step ToRun File value found skip position may is = (let plain = undashed value is in (rw (plain.0, plain.1, plain.1) refl, rw (plain.0, plain.1, plain.1) refl))
value_step ToRun Root value found skip position may is = (let plain = undashed value is in (rw (plain.0, plain.1, plain.1) refl, rw (plain.0, plain.1, plain.1) refl))
value_step ToRun Packages value found skip position may is = (let plain = undashed value is in (rw (plain.0, plain.1, plain.1) refl, rw (plain.0, plain.1, plain.1) refl))
value_step ToRun Steps value found skip position may is = (let plain = undashed value is in (rw (plain.0, plain.1, plain.1) refl, rw (plain.0, plain.1, plain.1) refl))

and_false : (test : Bool) → (test && false) ≡ false
and_false true = refl
and_false false = refl

pub file_step : (verb : Verb) (word : List ℕ) (h : Held) (found : List Row) → allows (allowed_by verb) File ≡ true → Holds verb h found → is_dashed word ≡ false
    → (walked (rules verb) [] (among h 1) word ≡ among (with_pending File word found h.skip) 2)
    × (turn_passes (shape verb) [] (among h 1) word ≡ true)
unfolding clap_on_literals
file_step ToServe word h found may holds is = cc
file_step ToCheck word h found may holds is = (let plain = undashed word is in (rw (plain.0, plain.1, plain.1, and_false, holds.rows_are) refl, rw (plain.0, plain.1, plain.1, and_false, holds.passes) refl))
file_step ToRun word h found may holds is = (let plain = undashed word is in (rw (plain.0, plain.1, plain.1, and_false, holds.rows_are) refl, rw (plain.0, plain.1, plain.1, and_false, holds.passes) refl))

pub file_behind_step : (verb : Verb) (word : List ℕ) (h : Held) (found : List Row) → allows (allowed_by verb) File ≡ true → Holds verb h found
    → (walked (rules verb) [] (behind h 1) word ≡ behind (with_pending File word found h.skip) 2)
    × (turn_passes (shape verb) [] (behind h 1) word ≡ true)
unfolding clap_on_literals
file_behind_step ToServe word h found may holds = cc
file_behind_step ToCheck word h found may holds = (rw (and_false, holds.rows_are) refl, rw (and_false, holds.passes) refl)
file_behind_step ToRun word h found may holds = (rw (and_false, holds.rows_are) refl, rw (and_false, holds.passes) refl)
