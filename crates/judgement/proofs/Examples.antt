-- A few rows, computed: of a block that declares two names of one word.
use Rattle.std.proofs.Common.{◌≡◌, ℕ, Bool, true, false, not, ◌||◌, nat_eq, List, [], ◌∷◌, Option, Some, is_some, if◌then◌else◌, ap}
use Rattle.std.specs.Prelude.{slice_index_or}
use Rattle.std.specs.Option.{option_map_or}
use Rattle.std.specs.Ordering.{nat_cmp}
use Rattle.std.specs.Cmp.{nat_cmp_total}
use Rattle.std.specs.FinMap.{empty, get, get-empty, get-insert}
use Rattle.dart_tree.specs.declared.names.Name.{Name}
use Rattle.dart_types.specs.Ty.{Ty}
use Rattle.dart_types.specs.Tables.{Table}
use Rattle.flow_model.specs.Flow.{FlowModel, declare_of, facts_of, start_of}
use Rattle.flow_model.specs.declared.locals.LocalDecl.{LocalDecl}
use Rattle.flow_model.specs.declared.locals.LocalId.{LocalId}
use Rattle.judgement.specs.declared.code.DiagnosticCode.TheVariants.{DuplicateDefinition}
use Rattle.judgement.specs.declared.meaning.Meaning.{Meaning}
use Rattle.judgement.specs.declared.meaning.Meaning.TheVariants.{Nothing, Local}
use Rattle.judgement.specs.Surroundings.{Surroundings, of_body, meaning_of}
use Rattle.judgement.specs.DeclaredNames.{local_of, names_within, within}
use Rattle.judgement.specs.Given.{complains, just}
use Rattle.judgement.specs.StatementRows.{declared_local, declare_row, is_declared_before}

-- the word 2, at the nodes 9 and 12
abbrev first : Name
first = record { at = record { node = record { 0 = 9 }; span = record { start = 4; end = 5 } }; word = 2 }

abbrev second : Name
second = record { at = record { node = record { 0 = 12 }; span = record { start = 11; end = 12 } }; word = 2 }

module _ (table : Table) (words : List (List ℕ)) (outside : List Meaning) where
  -- before the first statement of a body, a word means what it means outside
  pub means_what_it_means_outside : (word : ℕ) → meaning_of (of_body table words outside) word ≡ slice_index_or outside word Nothing
  means_what_it_means_outside word = ap (λ (local : Option LocalId). option_map_or Local local (slice_index_or outside word Nothing)) (get-empty nat_cmp word)

  -- in the block
  abbrev inside : Surroundings
  inside = within (of_body table words outside) (first ∷ second ∷ [])

  -- the word is that of the first
  word_is_first : get inside.names 2 ≡ Some (local_of first)
  word_is_first = get-insert nat_cmp_total (names_within empty (second ∷ [])) 2 (local_of first) 2

  pub means_first : meaning_of inside 2 ≡ Local (local_of first)
  means_first = ap (λ (local : Option LocalId). option_map_or Local local (slice_index_or outside 2 Nothing)) word_is_first

  -- the first comes into scope
  abbrev declared : Ty → LocalDecl
  declared ty = declared_local table ty (local_of first) false

  first_is_new : is_declared_before inside first (start_of []) ≡ false
  first_is_new = ap (λ (local : Option LocalId). not (option_map_or (λ var. nat_eq var.0 9) local false) || false) word_is_first

  pub first_is_declared : (ty : Ty) → declare_row inside first ty (start_of []) ≡ just (declare_of (start_of []) (declared ty))
  first_is_declared ty = ap (λ (before : Bool). if before then complains first.at.span DuplicateDefinition (start_of []) else just (declare_of (start_of []) (declared ty))) first_is_new

  -- once it is in scope, it was declared before
  pub first_is_declared_once : (ty : Ty) → is_declared_before inside first (declare_of (start_of []) (declared ty)) ≡ true
  first_is_declared_once ty = ap (λ (local : Option LocalId). not (option_map_or (λ var. nat_eq var.0 9) local false) || true) word_is_first

  -- the second never comes into scope
  second_is_not_new : (m : FlowModel) → is_declared_before inside second m ≡ true
  second_is_not_new m = ap (λ (local : Option LocalId). not (option_map_or (λ var. nat_eq var.0 12) local false) || is_some (facts_of m (local_of second))) word_is_first

  pub second_is_duplicate : (ty : Ty) (m : FlowModel) → declare_row inside second ty m ≡ complains second.at.span DuplicateDefinition m
  second_is_duplicate ty m =
      ap (λ (before : Bool). if before then complains second.at.span DuplicateDefinition m else just (declare_of m (declared_local table ty (local_of second) false))) (second_is_not_new m)
