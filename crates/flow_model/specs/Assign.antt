-- What a write of a local does to what is known of it.
use Rattle.std.specs.Prelude.{true, false, ◌&&◌, List, [], ◌∷◌, ◌++◌, if◌then◌else◌, filter, map, Option, Some, None, find}
use Rattle.std.specs.List.{list_all}
use Rattle.dart_types.specs.Ty.{Ty}
use Rattle.dart_types.specs.Tables.{Table}
use Rattle.dart_types.specs.SubTest.{sub}
use Rattle.type_bounds.specs.NonNull.{non_null_of}
use Rattle.flow_model.specs.TypeTests.{proper_sub, is_formed, is_in}
use Rattle.flow_model.specs.Flow.{last_or}
use Rattle.flow_model.specs.declared.locals.Facts.{Facts}

-- the types of interest of a local: the declared one, the tested ones, and these without null
abbrev pub interest_of : Table → Facts → List Ty
interest_of table l = (l.ty ∷ l.tested) ++ filter is_formed (map (non_null_of table) (l.ty ∷ l.tested))

-- the types that the written one is a subtype of and that are proper subtypes of the current one
abbrev pub between_of : Table → Ty → Ty → List Ty → List Ty
between_of table written current types = filter (λ t. sub table written t && proper_sub table t current) types

-- an option as a list of at most one
abbrev pub at_most_one : Option Ty → List Ty
at_most_one None = []
at_most_one (Some t) = t ∷ []

-- the first of the types that is a subtype of each of them, if there is one
abbrev pub least_of : Table → List Ty → List Ty
least_of table types = at_most_one (find (λ t. list_all (sub table t) types) types)

-- what a write promotes to: the written type where it is of interest and a proper subtype of the current one,
-- else the least type of interest between the two
abbrev pub appended_of : Table → Ty → Ty → List Ty → List Ty
appended_of table written current interest =
    if is_in interest written && proper_sub table written current
    then written ∷ []
    else least_of table (between_of table written current interest)

-- the types that a local is promoted to and a written value has
abbrev pub kept_chain : Table → Ty → Facts → List Ty
kept_chain table written l = filter (sub table written) l.chain

-- the chain keeps the types that the written one is a subtype of, and gets what the write promotes to,
-- but nothing where the local is captured
abbrev pub chain_after : Table → Ty → Facts → List Ty
chain_after table written l =
    let kept = kept_chain table written l in
    kept ++ (if l.captured then [] else appended_of table written (last_or l.ty kept) (interest_of table l))

-- what is known of a local after a write of a value of the type written
abbrev pub assign_facts : Table → Ty → Facts → Facts
assign_facts table written l = record l { chain = chain_after table written l; assigned = true; unassigned = false }
