-- A parser finds what words give.
use Rattle.std.proofs.Common.{◌≡◌, ◌∙◌, ℕ, Bool, true, false, ◌&&◌, List, [], ◌∷◌, ◌++◌, map, Option, None, Some, option_map, codes, bytes_eq, fold, is_some, inl, inr, refl, sym, ap, subst}
use Rattle.std.specs.Prelude.{IfSome, option_and_then, if◌then◌else◌}
use Rattle.std.proofs.lemmas.Bool.{and_parts, cases_Bool}
use Rattle.std.proofs.lemmas.List.{append-nil, append_assoc}
use Rattle.std.proofs.lemmas.List.Folds.{list_any-append}
use Rattle.std.proofs.lemmas.Slice.Eq.{bytes_eq-Decides}
use Rattle.fault_io.specs.PathLaws.{after_front-is}
use Rattle.clap.specs.Words.{Row, Rule, first_of, matches_of, takes}
use Rattle.clap.specs.Takes.{turn_passes, walk_passes}
use Rattle.clap.specs.Walk.{Held, Walk, finished, has_row, nothing_held, rows_of, settled_rows, walk, walk_from, walked, with_default}
use Rattle.clap.specs.declared.parser.matches.Found.{Found}
use Rattle.clap.proofs.WalkLemmas.{first_value-rows}
use Rattle.command_words.specs.declared.arguments.Allowed.{Allowed}
use Rattle.command_words.specs.declared.arguments.Argument.{Argument}
use Rattle.command_words.specs.declared.arguments.Argument.TheVariants.{File, Root, Packages, Steps}
use Rattle.command_words.specs.declared.arguments.Place.{Place}
use Rattle.command_words.specs.declared.arguments.Place.TheVariants.{AmongOptions, AsValue, BehindOptions}
use Rattle.command_words.specs.Words.{Ends, Given, Gives, Names, Part, Text, Wrong, allowed_in, allows, are_allowed, dashed_part, given_by, given_from, if_allowed, is_dashed, is_same, joined_part, value_of, without}
use Rattle.command_words.specs.Parsers.{Finds, name_of}
use Rattle.command_words.proofs.StepLemmas.{Holds, Verb, ToServe, ToCheck, ToRun, allowed_by, among, app_by, as_value, behind, ends_step, file_behind_step, file_step, is_option, joined_step, joined_word, names_step, option_word, pending_holds, row_of, rules, shape, value_step, with_pending, with_rows}

-- ---- what is written

-- how a word that begins like an option is written, by what it is
pub data Spelled (word : Text) : Part → Type 0 where
  ends : word ≡ codes "--" → Spelled word Ends
  names : (argument : Argument) → is_option argument ≡ true → word ≡ option_word argument → Spelled word (Names argument)
  joined : (argument : Argument) (value : Text) → is_option argument ≡ true → word ≡ joined_word argument value → Spelled word (Gives argument value)
  wrong : Spelled word Wrong

-- a word that is written like an option and its value
spelled_joined : (word : Text) (argument : Argument) (value : Option Text) (other : Part) → is_option argument ≡ true → ((v : Text) → value ≡ Some v → word ≡ joined_word argument v) → Spelled word other → Spelled word (joined_part argument value other)
spelled_joined word argument None other is fronted more = more
spelled_joined word argument (Some value) other is fronted more =
    elim (cases_Bool (is_dashed value)) [
      | inl t ↦ rw t wrong
      | inr f ↦ rw f (joined argument value is (fronted value refl))
    ]

spelled : (word : Text) → Spelled word (dashed_part word)
spelled word =
    elim (cases_Bool (bytes_eq word (codes "--"))) [
      | inl t ↦ rw t (ends ((bytes_eq-Decides word (codes "--")).0 t))
      | inr f ↦ rw f (elim (cases_Bool (bytes_eq word (codes "--root"))) [
        | inl t ↦ rw t (names Root refl ((bytes_eq-Decides word (codes "--root")).0 t))
        | inr f ↦ rw f (elim (cases_Bool (bytes_eq word (codes "--packages"))) [
          | inl t ↦ rw t (names Packages refl ((bytes_eq-Decides word (codes "--packages")).0 t))
          | inr f ↦ rw f (elim (cases_Bool (bytes_eq word (codes "--steps"))) [
            | inl t ↦ rw t (names Steps refl ((bytes_eq-Decides word (codes "--steps")).0 t))
            | inr f ↦ rw f (spelled_joined word Root _ _ refl (λ v e. after_front-is (codes "--root=") word v e)
                (spelled_joined word Packages _ _ refl (λ v e. after_front-is (codes "--packages=") word v e)
                (spelled_joined word Steps _ _ refl (λ v e. after_front-is (codes "--steps=") word v e) wrong)))
          ])
        ])
      ])
    ]

-- ---- what may be given

-- an argument that may still be given isn't the one that was
stays : (allowed : Allowed) (given other : Argument) → allows (without allowed given) other ≡ true → (allows allowed other ≡ true) × (bytes_eq (name_of given) (name_of other) ≡ false)
stays allowed File File may = cc
stays allowed File Root may = (may, refl)
stays allowed File Packages may = (may, refl)
stays allowed File Steps may = (may, refl)
stays allowed Root File may = (may, refl)
stays allowed Root Root may = cc
stays allowed Root Packages may = (may, refl)
stays allowed Root Steps may = (may, refl)
stays allowed Packages File may = (may, refl)
stays allowed Packages Root may = (may, refl)
stays allowed Packages Packages may = cc
stays allowed Packages Steps may = (may, refl)
stays allowed Steps File may = (may, refl)
stays allowed Steps Root may = (may, refl)
stays allowed Steps Packages may = (may, refl)
stays allowed Steps Steps may = cc

-- what may be given is an argument of the command that wasn't found yet
pub record Fits (verb : Verb) (allowed : Allowed) (found : List Row) (position : ℕ) : Type 0 where
  pub takes : (argument : Argument) → allows allowed argument ≡ true → allows (allowed_by verb) argument ≡ true
  pub absent : (argument : Argument) → allows allowed argument ≡ true → has_row (name_of argument) found ≡ false
  pub first : allows allowed File ≡ true → position ≡ 1

-- the place of the next file
abbrev pub behind_file : Argument → ℕ → ℕ
behind_file File position = 2
behind_file _ position = position

first_stays : (allowed : Allowed) (argument : Argument) (position : ℕ) → (allows allowed File ≡ true → position ≡ 1) → allows (without allowed argument) File ≡ true → behind_file argument position ≡ 1
first_stays allowed File position first may = cc
first_stays allowed Root position first may = first may
first_stays allowed Packages position first may = first may
first_stays allowed Steps position first may = first may

fits_more : (verb : Verb) (allowed : Allowed) (found : List Row) (position : ℕ) (argument : Argument) (value : Text) → Fits verb allowed found position → Fits verb (without allowed argument) (found ++ row_of (argument, value) ∷ []) (behind_file argument position)
fits_more verb allowed found position argument value fits = record {
  takes = λ other may. fits.takes other (stays allowed argument other may).0;
  absent = λ other may. list_any-append _ found (row_of (argument, value) ∷ []) ∙ rw (fits.absent other (stays allowed argument other may).0, (stays allowed argument other may).1) refl;
  first = first_stays allowed argument position fits.first;
}

-- ---- where a walk stands

abbrev IsAt : Verb → Place → List Row → ℕ → Walk → Type 0
IsAt verb AmongOptions found position w = (h : Held) × Holds verb h found × (w ≡ among h position)
IsAt verb BehindOptions found position w = (h : Held) × Holds verb h found × (w ≡ behind h position)
IsAt verb (AsValue argument) found position w = (skip : ℕ) × (is_option argument ≡ true) × (w ≡ as_value argument found skip position)

-- a walk over words passes, and finds these rows
record Read (verb : Verb) (w : Walk) (words : List Text) (found : List Row) : Type 0 where
  passes : walk_passes (shape verb) [] w words ≡ true
  stopped : (fold (walked (rules verb) []) w words).stopped ≡ None
  holds : Holds verb (fold (walked (rules verb) []) w words).held found

read_end : (verb : Verb) (w : Walk) (found : List Row) → w.stopped ≡ None → Holds verb w.held found → Read verb w [] found
unfolding walk_passes
read_end verb w found stopped holds = record { passes = refl; stopped = stopped; holds = holds }

read_cons : (verb : Verb) (w next : Walk) (word : Text) (words : List Text) (found : List Row) → walked (rules verb) [] w word ≡ next → turn_passes (shape verb) [] w word ≡ true → Read verb next words found → Read verb w (word ∷ words) found
unfolding walk_passes
read_cons verb w next word words found step turns read = record {
  passes = ap (λ (turn : Bool). turn && walk_passes (shape verb) [] (walked (rules verb) [] w word) words) turns ∙ ap (λ (turned : Walk). walk_passes (shape verb) [] turned words) step ∙ read.passes;
  stopped = ap (λ (turned : Walk). (fold (walked (rules verb) []) turned words).stopped) step ∙ read.stopped;
  holds = subst (λ (turned : Walk). Holds verb (fold (walked (rules verb) []) turned words).held found) (sym step) read.holds;
}

-- what the words behind are read as
abbrev Next : Verb → List Text → Type 0
Next verb words = (place : Place) (allowed : Allowed) (found : List Row) (position : ℕ) (w : Walk) (given : Given) → IsAt verb place found position w → Fits verb allowed found position → given_from words place ≡ Some given → are_allowed allowed given ≡ true → Read verb w words (found ++ map row_of given)

-- a value and what is given behind it
gives : (argument : Argument) (value : Text) (more : Option Given) (given : Given) → option_map (λ rest. (argument, value) ∷ rest) more ≡ Some given → (rest : Given) × (more ≡ Some rest) × (given ≡ (argument, value) ∷ rest)
gives argument value None given e = cc
gives argument value (Some rest) given e = (rest, refl, cc)

on_value : (verb : Verb) (words : List Text) → Next verb words → (place : Place) (allowed : Allowed) (found : List Row) (position : ℕ) (w : Walk) (word : Text) (argument : Argument) (value : Text) (given : Given) → Fits verb allowed found position
    → (allows allowed argument ≡ true → (next : Walk) × (walked (rules verb) [] w word ≡ next) × (turn_passes (shape verb) [] w word ≡ true) × IsAt verb place (found ++ row_of (argument, value) ∷ []) (behind_file argument position) next)
    → option_map (λ rest. (argument, value) ∷ rest) (given_from words place) ≡ Some given → are_allowed allowed given ≡ true → Read verb w (word ∷ words) (found ++ map row_of given)
on_value verb words next place allowed found position w word argument value given fits step e may =
    let g = gives argument value (given_from words place) given e in
    let all : are_allowed allowed ((argument, value) ∷ g.0) ≡ true = ap (are_allowed allowed) (sym g.2) ∙ may in
    let parts = and_parts (allows allowed argument) (are_allowed (without allowed argument) g.0) all in
    let s = step parts.0 in
    let read = next place (without allowed argument) (found ++ row_of (argument, value) ∷ []) (behind_file argument position) s.0 g.0 s.3 (fits_more verb allowed found position argument value fits) g.1 parts.1 in
    let rows_are : (found ++ row_of (argument, value) ∷ []) ++ map row_of g.0 ≡ found ++ map row_of given = append_assoc found (row_of (argument, value) ∷ []) (map row_of g.0) ∙ ap (λ (all : Given). found ++ map row_of all) (sym g.2) in
    read_cons verb w s.0 word words (found ++ map row_of given) s.1 s.2 (subst (λ (rows : List Row). Read verb s.0 words rows) rows_are read)

-- an option whose value is given may be given
first_given : (words : List Text) (argument : Argument) (allowed : Allowed) (given : Given) → given_from words (AsValue argument) ≡ Some given → are_allowed allowed given ≡ true → allows allowed argument ≡ true
first_given [] argument allowed given e may = cc
first_given (word ∷ words) argument allowed given e may =
    elim (cases_Bool (is_dashed word)) [
      | inl t ↦ (let none = rw t at e in cc)
      | inr f ↦ (let some = rw f at e in
          let g = gives argument word (given_from words AmongOptions) given some in
          let all : are_allowed allowed ((argument, word) ∷ g.0) ≡ true = ap (are_allowed allowed) (sym g.2) ∙ may in
          (and_parts (allows allowed argument) (are_allowed (without allowed argument) g.0) all).0)
    ]

position_stays : (argument : Argument) (position : ℕ) → is_option argument ≡ true → behind_file argument position ≡ position
position_stays File position is = cc
position_stays Root position is = refl
position_stays Packages position is = refl
position_stays Steps position is = refl

among_part : (verb : Verb) (words : List Text) → Next verb words → (allowed : Allowed) (found : List Row) (position : ℕ) (h : Held) (word : Text) (given : Given) (part : Part) → Holds verb h found → Fits verb allowed found position → Spelled word part
    → given_by AmongOptions part (given_from words) ≡ Some given → are_allowed allowed given ≡ true → Read verb (among h position) (word ∷ words) (found ++ map row_of given)
among_part verb words next allowed found position h word given Ends holds fits (ends is) e may =
    read_cons verb (among h position) (behind h position) word words _ (rw is (ends_step verb h position).0) (rw is (ends_step verb h position).1)
    (next BehindOptions allowed found position (behind h position) given (h, holds, refl) fits e may)
among_part verb words next allowed found position h word given (Names _) holds fits (names argument option is) e may =
    let step = names_step verb argument h position (fits.takes argument (first_given words argument allowed given e may)) option in
    read_cons verb (among h position) (as_value argument found h.skip position) word words _
    (rw is (step.0 ∙ ap (λ (rs : List Row). as_value argument rs h.skip position) holds.rows_are)) (rw is (step.1 ∙ ap (λ (passes : Bool). passes && true) holds.passes))
    (next (AsValue argument) allowed found position (as_value argument found h.skip position) given (h.skip, option, refl) fits e may)
among_part verb words next allowed found position h word given (Gives _ _) holds fits (joined argument value option is) e may =
    on_value verb words next AmongOptions allowed found position (among h position) word argument value given fits
    (λ free.
    let step = joined_step verb argument value h found position (fits.takes argument free) option holds (fits.absent argument free) in (
      among (with_rows (found ++ row_of (argument, value) ∷ []) h.skip) position,
      rw is step.0,
      rw is step.1,
      (with_rows (found ++ row_of (argument, value) ∷ []) h.skip, record { passes = refl; rows_are = refl }, ap (among (with_rows (found ++ row_of (argument, value) ∷ []) h.skip)) (sym (position_stays argument position option))),
    ))
    e may
among_part verb words next allowed found position h word given Wrong holds fits wrong e may = cc

read : (verb : Verb) (words : List Text) → Next verb words
read verb [] AmongOptions allowed found position w given here fits e may =
    let none : given ≡ [] = cc in
    rw (none, append-nil, here.2) (read_end verb (among here.0 position) found refl here.1)
read verb [] BehindOptions allowed found position w given here fits e may =
    let none : given ≡ [] = cc in
    rw (none, append-nil, here.2) (read_end verb (behind here.0 position) found refl here.1)
read verb [] (AsValue argument) allowed found position w given here fits e may = cc
read verb (word ∷ words) AmongOptions allowed found position w given here fits e may =
    let h = here.0 in
    rw here.2 (elim (cases_Bool (is_dashed word)) [
      | inl t ↦ among_part verb words (read verb words) allowed found position h word given (dashed_part word) here.1 fits (spelled word) (rw t at e) may
      | inr f ↦ on_value verb words (read verb words) AmongOptions allowed found position (among h position) word File word given fits
          (λ free.
          let step = file_step verb word h found (fits.takes File free) here.1 f in (
            among (with_pending File word found h.skip) 2,
            ap (λ (p : ℕ). walked (rules verb) [] (among h p) word) (fits.first free) ∙ step.0,
            ap (λ (p : ℕ). turn_passes (shape verb) [] (among h p) word) (fits.first free) ∙ step.1,
            (with_pending File word found h.skip, pending_holds verb File word found h.skip (fits.takes File free) (fits.absent File free), refl),
          ))
          (rw f at e) may
    ])
read verb (word ∷ words) BehindOptions allowed found position w given here fits e may =
    let h = here.0 in
    rw here.2 (on_value verb words (read verb words) BehindOptions allowed found position (behind h position) word File word given fits
    (λ free.
    let step = file_behind_step verb word h found (fits.takes File free) here.1 in (
      behind (with_pending File word found h.skip) 2,
      ap (λ (p : ℕ). walked (rules verb) [] (behind h p) word) (fits.first free) ∙ step.0,
      ap (λ (p : ℕ). turn_passes (shape verb) [] (behind h p) word) (fits.first free) ∙ step.1,
      (with_pending File word found h.skip, pending_holds verb File word found h.skip (fits.takes File free) (fits.absent File free), refl),
    ))
    e may)
read verb (word ∷ words) (AsValue argument) allowed found position w given here fits e may =
    rw here.2 (elim (cases_Bool (is_dashed word)) [
      | inl t ↦ (let none = rw t at e in cc)
      | inr f ↦ on_value verb words (read verb words) AmongOptions allowed found position (as_value argument found here.0 position) word argument word given fits
          (λ free.
          let step = value_step verb argument word found here.0 position (fits.takes argument free) f in (
            among (with_pending argument word found here.0) position,
            step.0,
            step.1,
            (with_pending argument word found here.0, pending_holds verb argument word found here.0 (fits.takes argument free) (fits.absent argument free), ap (among (with_pending argument word found here.0)) (sym (position_stays argument position here.1))),
          ))
          (rw f at e) may
    ])

-- ---- whole words

-- no argument has a default
same_rows : (test : Bool) (rows : List Row) → (if test then rows else rows) ≡ rows
same_rows true rows = refl
same_rows false rows = refl

plain_default : (rows : List Row) (rule : Rule) → rule.defaults ≡ [] → with_default rows rule ≡ rows
plain_default rows rule none = rw none (same_rows (has_row rule.id rows) rows)

abbrev HaveNone : List Rule → Type 0
HaveNone [] = Unit {0}
HaveNone (rule ∷ c) = (rule.defaults ≡ []) × HaveNone c

plain_defaults : (c : List Rule) (rows : List Row) → HaveNone c → fold with_default rows c ≡ rows
plain_defaults [] rows none = refl
plain_defaults (rule ∷ c) rows none = ap (λ (rs : List Row). fold with_default rs c) (plain_default rows rule none.0) ∙ plain_defaults c rows none.1

finished_is : (verb : Verb) (h : Held) → finished (rules verb) h ≡ settled_rows (rules verb) h.pending h.rows
finished_is ToServe h = plain_defaults (rules ToServe) _ (refl, tt)
finished_is ToCheck h = plain_defaults (rules ToCheck) _ (refl, (refl, (refl, tt)))
finished_is ToRun h = plain_defaults (rules ToRun) _ (refl, (refl, (refl, (refl, tt))))

-- what is given and allowed
allowed_parts : (allowed : Allowed) (all : Option Given) (given : Given) → option_and_then (if_allowed allowed) all ≡ Some given → (all ≡ Some given) × (are_allowed allowed given ≡ true)
allowed_parts allowed None given e = cc
allowed_parts allowed (Some all) given e =
    elim (cases_Bool (are_allowed allowed all)) [
      | inl t ↦ (let same : Some all ≡ Some given = rw t at e in let is : all ≡ given = cc in (same, rw (← is) t))
      | inr f ↦ (let none = rw f at e in cc)
    ]

-- the walk over all words
read_all : (verb : Verb) (words : List Text) (given : Given) → allowed_in (allowed_by verb) words ≡ Some given → Read verb (walk_from nothing_held) words (map row_of given)
read_all verb words given e =
    let parts = allowed_parts (allowed_by verb) (given_from words AmongOptions) given e in
    read verb words AmongOptions (allowed_by verb) [] 1 (walk_from nothing_held) given (nothing_held, record { passes = refl; rows_are = refl }, refl)
    (record { takes = λ argument may. may; absent = λ argument may. refl; first = λ may. refl }) parts.0 parts.1

taken_of : (verb : Verb) (words : List Text) (given : Given) → Read verb (walk_from nothing_held) words (map row_of given) → takes (app_by verb) words ≡ true
taken_of ToServe words given read = rw (read.stopped, read.passes, read.holds.passes) refl
taken_of ToCheck words given read = rw (read.stopped, read.passes, read.holds.passes) refl
taken_of ToRun words given read = rw (read.stopped, read.passes, read.holds.passes) refl

matches_are : (verb : Verb) (words : List Text) (given : Given) → Read verb (walk_from nothing_held) words (map row_of given) → matches_of (app_by verb) words ≡ map row_of given
matches_are ToServe words given read = finished_is ToServe (walk (rules ToServe) [] nothing_held words).held ∙ read.holds.rows_are
matches_are ToCheck words given read = finished_is ToCheck (walk (rules ToCheck) [] nothing_held words).held ∙ read.holds.rows_are
matches_are ToRun words given read = finished_is ToRun (walk (rules ToRun) [] nothing_held words).held ∙ read.holds.rows_are

-- allowed words are taken
pub taken : (verb : Verb) (words : List Text) → is_some (allowed_in (allowed_by verb) words) ≡ true → takes (app_by verb) words ≡ true
taken verb words some = at (allowed_in (allowed_by verb) words) refl some
  where
    at : (all : Option Given) → allowed_in (allowed_by verb) words ≡ all → is_some all ≡ true → takes (app_by verb) words ≡ true
    at None e some = cc
    at (Some given) e some = taken_of verb words given (read_all verb words given e)

-- ---- values

same_names : (one other : Argument) → bytes_eq (name_of one) (name_of other) ≡ is_same one other
same_names File File = refl
same_names File Root = refl
same_names File Packages = refl
same_names File Steps = refl
same_names Root File = refl
same_names Root Root = refl
same_names Root Packages = refl
same_names Root Steps = refl
same_names Packages File = refl
same_names Packages Root = refl
same_names Packages Packages = refl
same_names Packages Steps = refl
same_names Steps File = refl
same_names Steps Root = refl
same_names Steps Packages = refl
same_names Steps Steps = refl

found_value : (argument : Argument) (given : Given) → first_of (name_of argument) (map row_of given) ≡ value_of argument given
found_value argument [] = refl
found_value argument (one ∷ given) =
    elim (cases_Bool (is_same one.0 argument)) [
      | inl t ↦ rw (same_names one.0 argument, t) refl
      | inr f ↦ rw (same_names one.0 argument, f) (found_value argument given)
    ]

-- what is found in allowed words is what they give
pub all_found : (verb : Verb) (words : List Text) (found : Found) → rows_of found ≡ matches_of (app_by verb) words → IfSome (allowed_in (allowed_by verb) words) (Finds found)
all_found verb words found rows_are = at (allowed_in (allowed_by verb) words) refl
  where
    at : (all : Option Given) → allowed_in (allowed_by verb) words ≡ all → IfSome all (Finds found)
    at None e = tt
    at (Some given) e = λ argument. first_value-rows found (name_of argument) ∙ ap (first_of (name_of argument)) (rows_are ∙ matches_are verb words given (read_all verb words given e)) ∙ found_value argument given
