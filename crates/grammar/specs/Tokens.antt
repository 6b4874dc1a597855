-- The tokens that the grammar reads, and tests of those that come next.
use Rattle.std.specs.Prelude.{ℕ, ◌-◌, ◌==◌, Bool, true, false, ◌&&◌, ◌||◌, List, [], ◌∷◌, length, drop, slice_get}
use Rattle.std.specs.Option.{option_map_or}
use denote.Enum.Bare.{sameb}
use Rattle.readings.specs.Readings.{Test, next}
use Rattle.dart_tokens.specs.declared.token.Kind.{Kind}
use Rattle.dart_tokens.specs.contracts.token.Kind as kinds
use Rattle.dart_tokens.specs.Kinds.{is_identifier, may_name_a_type}
pub use Rattle.dart_tokens.specs.Read.{past, is_unopened, kept, kept_before, is_closed_by, grouped, ungrouped, token_of, tokens_from, grammar_tokens}
use Rattle.dart_tree.specs.declared.places.Span.{Span}
use Rattle.dart_tree.specs.declared.places.Place.{Place}
use Rattle.dart_tree.specs.declared.names.Name.{Name}
use Rattle.dart_tree.specs.declared.names.Identifier.{Identifier}
use Rattle.dart_tokens.specs.declared.grouped_token.GroupedToken.{GroupedToken as Token}

-- Kinds.

-- the token is of the kind
abbrev pub is : Kind → Token → Bool
is k t = sameb kinds.the_type t.kind k

-- the token is of one kind or another
abbrev pub is_either : Kind → Kind → Token → Bool
is_either j k t = is j t || is k t

-- the token is an identifier
abbrev pub is_name : Token → Bool
is_name t = is_identifier t.kind

-- the token is an identifier that may name a type
abbrev pub is_type_name : Token → Bool
is_type_name t = may_name_a_type t.kind

-- a token of the kind comes next
abbrev pub heads : Kind → Test Token
heads k = next (is k)

-- an identifier comes next
abbrev pub heads_name : Test Token
heads_name = next is_name

-- the next token passes a test, and those behind it another
abbrev pub first_then : (Token → Bool) → Test Token → Test Token
first_then f c [] = false
first_then f c (t ∷ ts) = f t && c ts

-- the next token opens a group of the kind, and what comes behind the group passes
abbrev pub group_then : (Token → Bool) → Test Token → Test Token
group_then f c [] = false
group_then f c (t ∷ ts) = f t && c (drop (past t) ts)

-- whatever comes next
abbrev pub anything : Test Token
anything ts = true

-- how many tokens stand in the group that a token opens
abbrev pub width : Token → ℕ
width t = t.width

-- the first token begins where the other ends
abbrev pub adjoins : Token → Token → Bool
adjoins t u = t.end == u.start

-- Where things stand. Nodes are numbered once the whole is read.

-- where the first of these tokens begins
abbrev pub first_start : List Token → ℕ
first_start read = option_map_or (λ t. t.start) (slice_get read 0) 0

-- where the last of these tokens ends
abbrev pub last_end : List Token → ℕ
last_end read = option_map_or (λ t. t.end) (slice_get read (length read - 1)) 0

-- from the first to the last of the tokens that were read
abbrev pub span_over : List Token → Span
span_over read = record { start = first_start read; end = last_end read }

abbrev pub span_of : Token → Span
span_of t = record { start = t.start; end = t.end }

abbrev pub place_at : Span → Place
place_at span = record { node = record { 0 = 0 }; span = span }

abbrev pub place_over : List Token → Place
place_over read = place_at (span_over read)

abbrev pub place_of : Token → Place
place_of t = place_at (span_of t)

-- the name that an identifier declares
abbrev pub name_at : Token → Name
name_at t = record { at = place_of t; word = t.word }

-- an identifier that is a mere part of a node
abbrev pub identifier_at : Token → Identifier
identifier_at t = record { span = span_of t; word = t.word }
