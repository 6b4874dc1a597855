-- What a name may mean, as one element after another is found for it.
use Rattle.std.specs.Prelude.{Bool, ◌==◌, ◌&&◌, if◌then◌else◌}
use Rattle.namespaces.specs.declared.elements.ElementId.{ElementId}
use Rattle.namespaces.specs.declared.found.Found.{Found}
use Rattle.namespaces.specs.declared.found.Found.TheVariants.{One, Ambiguous, Nothing}
use Rattle.namespaces.specs.declared.found.Meanings.{Meanings}

-- whether two are one element
abbrev pub same_element : ElementId → ElementId → Bool
same_element e f = (e.library.0 == f.library.0) && (e.place == f.place)

-- whether `dart:core` declares the element
abbrev pub is_of_core : ElementId → Bool
is_of_core e = e.library.0 == 0

-- a name means one element where all that are found for it are that one; two are ambiguous, none is nothing
abbrev pub or_also : Found → ElementId → Found
or_also Nothing e = One e
or_also (One f) e = if same_element f e then One f else Ambiguous
or_also Ambiguous e = Ambiguous

-- nothing is found yet
abbrev pub no_meanings : Meanings
no_meanings = record { of_core = Nothing; of_others = Nothing }

-- one more element is found
abbrev pub with_element : Meanings → ElementId → Meanings
with_element m e = if is_of_core e then record { of_core = or_also m.of_core e; of_others = m.of_others } else record { of_core = m.of_core; of_others = or_also m.of_others e }

-- the elements of all other libraries come before those of `dart:core`
abbrev pub before_core : Found → Found → Found
before_core Nothing core = core
before_core (One e) core = One e
before_core Ambiguous core = Ambiguous

abbrev pub chosen : Meanings → Found
chosen m = before_core m.of_others m.of_core
