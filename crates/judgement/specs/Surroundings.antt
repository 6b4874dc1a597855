-- What a form is judged with, beside what is known before it.
use Rattle.std.specs.Prelude.{ℕ, List, [], slice_index_or}
use Rattle.std.specs.Option.{option_map_or}
use Rattle.std.specs.Ordering.{nat_cmp}
use Rattle.std.specs.FinMap.{FinMap, empty, get}
use Rattle.dart_types.specs.Tables.{Table}
use Rattle.flow_model.specs.declared.locals.LocalId.{LocalId}
use Rattle.judgement.specs.declared.meaning.Meaning.{Meaning}
use Rattle.judgement.specs.declared.meaning.Meaning.TheVariants.{Nothing, Local}

-- from words to the locals that they mean
abbrev pub Names : Type 0
Names = FinMap nat_cmp LocalId

-- The classes and type variables; the lexemes of words; what each word means outside of the body; and the locals in scope.
pub record Surroundings : Type 0 where
  pub table : Table
  pub words : List (List ℕ)
  pub outside : List Meaning
  pub names : Names

-- those of a body, before its first statement: no local is in scope
abbrev pub of_body : Table → (words : List (List ℕ)) → (outside : List Meaning) → Surroundings
of_body table words outside = record { table = table; words = words; outside = outside; names = empty }

-- what a word means: the local of that name that is in scope, and else what it means outside of the body
abbrev pub meaning_of : Surroundings → ℕ → Meaning
meaning_of s word = option_map_or Local (get s.names word) (slice_index_or s.outside word Nothing)

-- the lexeme of a word
abbrev pub lexeme_of : Surroundings → ℕ → List ℕ
lexeme_of s word = slice_index_or s.words word []
