-- What words mean in a library where no local has that name.
use Rattle.std.specs.Prelude.{ℕ, Bool, List, [], ◌∷◌, map, codes, bytes_eq, slice_set, slice_index_or, if◌then◌else◌}
use Rattle.dart_types.specs.declared.ids.TheConstants.{BOOL, INT}
use Rattle.judgement.specs.declared.meaning.Meaning.{Meaning}
use Rattle.judgement.specs.declared.meaning.Meaning.TheVariants.{Nothing, Local, Print, Class, Other}

-- the names that dart:core declares, and those that it leaves out
abbrev pub core_names : List (List ℕ × Meaning)
core_names =
    (codes "print", Print) ∷ (codes "int", Class INT) ∷ (codes "bool", Class BOOL) ∷ (codes "identical", Other) ∷ (codes "Object", Other) ∷ (codes "Null", Other) ∷
    (codes "Function", Other) ∷ (codes "StackTrace", Other) ∷ (codes "String", Other) ∷ (codes "Iterator", Other) ∷ (codes "Iterable", Other) ∷
    (codes "List", Other) ∷ (codes "Map", Other) ∷ (codes "Error", Other) ∷ (codes "TypeError", Other) ∷ (codes "StackOverflowError", Other) ∷
    (codes "ArgumentError", Other) ∷ (codes "RangeError", Other) ∷ (codes "StateError", Other) ∷ (codes "Exception", Other) ∷
    (codes "IntegerDivisionByZeroException", Other) ∷ (codes "double", Other) ∷ (codes "num", Other) ∷ (codes "Set", Other) ∷ (codes "Future", Other) ∷
    (codes "Stream", Other) ∷ (codes "dynamic", Other) ∷ []

-- what stands beside a word in a table; nothing where it isn't there
abbrev pub meaning_beside : List ℕ → List (List ℕ × Meaning) → Meaning
meaning_beside word [] = Nothing
meaning_beside word (row ∷ rows) = if bytes_eq word row.0 then row.1 else meaning_beside word rows

-- what a name of dart:core means where an import of that may leave it out; another word means nothing there, either
abbrev pub in_doubt : Meaning → Meaning
in_doubt Nothing = Nothing
in_doubt (Local var) = Other
in_doubt Print = Other
in_doubt (Class class) = Other
in_doubt Other = Other

-- what a word means by dart:core, of which an import may leave names out
abbrev pub core_meaning : (narrow : Bool) → List ℕ → Meaning
core_meaning narrow word = if narrow then in_doubt (meaning_beside word core_names) else meaning_beside word core_names

-- a declared name hides what the word means in dart:core
abbrev pub hidden_by : (declared : List ℕ) → List Meaning → List Meaning
hidden_by [] meanings = meanings
hidden_by (word ∷ declared) meanings = hidden_by declared (slice_set meanings word Other)

-- what each of these words means in a library that declares some of them, and whose imports may leave names of dart:core out
abbrev pub meanings_of : (narrow : Bool) → (words : List (List ℕ)) → (declared : List ℕ) → List Meaning
meanings_of narrow words declared = hidden_by declared (map (core_meaning narrow) words)

-- what the word at a place means
abbrev pub meaning_at : List Meaning → ℕ → Meaning
meaning_at meanings word = slice_index_or meanings word Nothing
