-- The words of the language, and what tokens they are.
use Rattle.std.specs.Prelude.{ℕ, Bool, List, [], ◌∷◌, ◌++◌, codes, bytes_eq, if◌then◌else◌}
use Rattle.std.specs.List.{list_any}
use Rattle.dart_tokens.specs.declared.token.Kind.{Kind}
use Rattle.dart_tokens.specs.declared.token.Kind.TheVariants as kind

-- the reserved words, which are no identifiers
abbrev pub reserved_words : List (List ℕ × Kind)
reserved_words =
    (codes "assert", kind.Assert) ∷ (codes "break", kind.Break) ∷ (codes "case", kind.Case) ∷ (codes "catch", kind.Catch) ∷
    (codes "class", kind.Class) ∷ (codes "const", kind.Const) ∷ (codes "continue", kind.Continue) ∷ (codes "default", kind.Default) ∷
    (codes "do", kind.Do) ∷ (codes "else", kind.Else) ∷ (codes "enum", kind.Enum) ∷ (codes "extends", kind.Extends) ∷ (codes "false", kind.False) ∷
    (codes "final", kind.Final) ∷ (codes "finally", kind.Finally) ∷ (codes "for", kind.For) ∷ (codes "if", kind.If) ∷ (codes "in", kind.In) ∷
    (codes "is", kind.Is) ∷ (codes "new", kind.New) ∷ (codes "null", kind.Null) ∷ (codes "rethrow", kind.Rethrow) ∷ (codes "return", kind.Return) ∷
    (codes "super", kind.Super) ∷ (codes "switch", kind.Switch) ∷ (codes "this", kind.This) ∷ (codes "throw", kind.Throw) ∷
    (codes "true", kind.True) ∷ (codes "try", kind.Try) ∷ (codes "var", kind.Var) ∷ (codes "void", kind.Void) ∷ (codes "while", kind.While) ∷
    (codes "with", kind.With) ∷ []

-- the built-in identifiers that name no types
abbrev pub built_in_names : List (List ℕ × Kind)
built_in_names =
    (codes "abstract", kind.Abstract) ∷ (codes "as", kind.As) ∷ (codes "covariant", kind.Covariant) ∷ (codes "deferred", kind.Deferred) ∷
    (codes "export", kind.Export) ∷ (codes "extension", kind.Extension) ∷ (codes "external", kind.External) ∷ (codes "factory", kind.Factory) ∷
    (codes "get", kind.Get) ∷ (codes "implements", kind.Implements) ∷ (codes "import", kind.Import) ∷ (codes "interface", kind.Interface) ∷
    (codes "late", kind.Late) ∷ (codes "library", kind.Library) ∷ (codes "mixin", kind.Mixin) ∷ (codes "operator", kind.Operator) ∷
    (codes "part", kind.Part) ∷ (codes "required", kind.Required) ∷ (codes "set", kind.Set) ∷ (codes "static", kind.Static) ∷
    (codes "typedef", kind.Typedef) ∷ []

-- the built-in identifiers
abbrev pub built_in_identifiers : List (List ℕ × Kind)
built_in_identifiers = built_in_names ++ (codes "dynamic", kind.Dynamic) ∷ (codes "Function", kind.Function) ∷ []

-- the words of asynchronous code, which are identifiers, and name no types
abbrev pub asynchronous_words : List (List ℕ × Kind)
asynchronous_words = (codes "async", kind.Async) ∷ (codes "await", kind.Await) ∷ (codes "sync", kind.Sync) ∷ (codes "yield", kind.Yield) ∷ []

-- the other identifiers that the grammar names
abbrev pub grammar_words : List (List ℕ × Kind)
grammar_words =
    (codes "hide", kind.Hide) ∷ (codes "native", kind.Native) ∷ (codes "of", kind.Of) ∷ (codes "on", kind.On) ∷ (codes "show", kind.Show) ∷
    asynchronous_words

-- the identifiers that name no types
abbrev pub names_of_no_type : List (List ℕ × Kind)
names_of_no_type = built_in_names ++ asynchronous_words

-- the kind beside a word in a table, or else this one
abbrev pub kind_beside : List ℕ → Kind → List (List ℕ × Kind) → Kind
kind_beside word otherwise [] = otherwise
kind_beside word otherwise (row ∷ rows) = if bytes_eq word row.0 then row.1 else kind_beside word otherwise rows

-- the kind of a word: one that stands in no table is an identifier
unfoldable pub kind_of_word : List ℕ → Kind
kind_of_word word = kind_beside word (kind_beside word (kind_beside word kind.Identifier grammar_words) built_in_identifiers) reserved_words

-- the word is reserved
abbrev pub is_reserved : List ℕ → Bool
is_reserved word = list_any (λ row. bytes_eq word row.0) reserved_words
