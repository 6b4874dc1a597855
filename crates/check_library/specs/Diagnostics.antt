-- The diagnostics of a text: those of its lexemes, its groups and its tree, from nothing but the text.
use Rattle.std.specs.Prelude.{ℕ, Bool, ◌&&◌, List, [], ◌∷◌, ◌++◌, map, slice_get, if◌then◌else◌}
use Rattle.std.specs.List.{list_any}
use Rattle.std.specs.Option.{option_map_or}
use Rattle.dart_tree.specs.declared.places.Span.{Span}
use Rattle.dart_tree.specs.Tree.{Tree}
use Rattle.dart_tokens.specs.declared.token.Token.{Token as TextToken}
use Rattle.dart_tokens.specs.declared.scanned.LexFault.{LexFault}
use Rattle.dart_tokens.specs.declared.scanned.LexFaultKind.{LexFaultKind}
use Rattle.dart_tokens.specs.declared.scanned.LexFaultKind.TheVariants as lexical
use Rattle.dart_tokens.specs.declared.groups.GroupFault.{GroupFault}
use Rattle.dart_tokens.specs.declared.groups.GroupFaultKind.{GroupFaultKind}
use Rattle.dart_tokens.specs.declared.groups.GroupFaultKind.TheVariants as group
use Rattle.dart_tokens.specs.Groups.{faults_of as faults_of_groups}
use Rattle.dart_scan.specs.Scanned.{tokens_of, words_of, faults_of as faults_of_pieces}
use Rattle.judgement.specs.declared.fault.Fault.{Fault}
use Rattle.judgement.specs.declared.code.DiagnosticCode.{DiagnosticCode}
use Rattle.judgement.specs.declared.code.DiagnosticCode.TheVariants as code
use Rattle.judgement.specs.contracts.code.DiagnosticCode as codes
use denote.Enum.Bare.{sameb}
use Rattle.grammar.specs.Tokens.{grammar_tokens}
use Rattle.segment_faults.specs.declared.fault.SegmentFault.{SegmentFault}
use Rattle.segment_faults.specs.declared.fault.SegmentFault.TheVariants as segment
use Rattle.dart_parse.specs.declared.faults.TreeFault.{TreeFault}
use Rattle.dart_parse.specs.Faults.{tree_faults}
use Rattle.built_forms.specs.Units.{unbuilt, has_other_names}
use Rattle.check_library.specs.Units.{unit_of_text, main_of, judged_body}
use Rattle.check_library.specs.Order.{sorted_faults}

-- what is said of a lexeme, or of what stands between lexemes
abbrev pub code_of_piece : LexFaultKind → DiagnosticCode
code_of_piece lexical.UnterminatedComment = code.UnterminatedComment
code_of_piece lexical.UnterminatedString = code.UnterminatedString
code_of_piece lexical.BadEscape = code.BadEscape
code_of_piece lexical.IllegalCharacter = code.IllegalCharacter
code_of_piece lexical.ProfileIdentifier = code.ProfileIdentifier

-- it stands where the scanner found it
abbrev pub fault_of_piece : LexFault → Fault
fault_of_piece fault = record { span = record { start = fault.start; end = fault.end }; code = code_of_piece fault.kind }

-- what is said of a bracket
abbrev pub code_of_group : GroupFaultKind → DiagnosticCode
code_of_group group.UnclosedGroup = code.UnclosedGroup
code_of_group group.UnopenedGroup = code.UnopenedGroup

-- where the token at a place stands
abbrev pub span_at : List TextToken → (place : ℕ) → Span
span_at tokens place = option_map_or (λ token. record { start = token.start; end = token.end }) (slice_get tokens place) (record { start = 0; end = 0 })

-- it stands over the bracket
abbrev pub fault_of_group : List TextToken → GroupFault → Fault
fault_of_group tokens fault = record { span = span_at tokens fault.token; code = code_of_group fault.kind }

-- what is wrong with the lexemes of a text, what stands between them, and the groups that they form
abbrev pub lexical_faults : List ℕ → List Fault
lexical_faults text =
    map fault_of_piece (faults_of_pieces text) ++ map (fault_of_group (tokens_of text)) (faults_of_groups (tokens_of text))

-- what is said of a segment that derives nothing
abbrev pub code_of_segment : SegmentFault → DiagnosticCode
code_of_segment segment.Late = code.ProfileLate
code_of_segment segment.External = code.ProfileExternal
code_of_segment segment.Covariant = code.ProfileCovariant
code_of_segment segment.Const = code.ProfileConst
code_of_segment segment.Enum = code.ProfileEnum
code_of_segment segment.Extension = code.ProfileExtension
code_of_segment segment.Assert = code.ProfileAssert
code_of_segment segment.Deferred = code.ProfileDeferred
code_of_segment segment.Async = code.ProfileAsync
code_of_segment segment.Double = code.ProfileDouble
code_of_segment segment.CollectionElement = code.ProfileCollectionElement
code_of_segment segment.Symbol = code.ProfileSymbol
code_of_segment segment.Annotation = code.ProfileAnnotation
code_of_segment segment.TripleShift = code.ProfileTripleShift
code_of_segment segment.ConditionalUri = code.ProfileConditionalUri
code_of_segment segment.MixinApplication = code.ProfileMixinApplication
code_of_segment segment.RedirectingFactory = code.ProfileRedirectingFactory
code_of_segment segment.ContinueCase = code.ProfileContinueCase
code_of_segment segment.Typedef = code.ProfileTypedef
code_of_segment segment.Nesting = code.ProfileNesting
code_of_segment segment.Syntax = code.SyntaxError

-- it stands over the segment
abbrev pub fault_of_segment : TreeFault → Fault
fault_of_segment found = record { span = found.span; code = code_of_segment found.fault }

-- what is wrong with the segments of a text that derive nothing
abbrev pub segment_faults : List ℕ → List Fault
segment_faults text = map fault_of_segment (tree_faults (grammar_tokens (tokens_of text)) (unit_of_text text))

-- a directive or a declaration of another form isn't checked yet, and has one diagnostic for that
abbrev pub not_built : Span → Fault
not_built span = record { span = span; code = code.NotBuilt }

-- the diagnostic of a name that means nothing
abbrev pub is_undefined_code : DiagnosticCode → Bool
is_undefined_code c = sameb codes.the_type c code.UndefinedName

-- what is wrong with a function that stands there, in which these are the faults: where directives may bring names, one that means nothing else may be one of these, so that the function isn't judged
abbrev pub settled : (other_names : Bool) → Span → List Fault → List Fault
settled other_names span faults = if other_names && list_any (λ fault. is_undefined_code fault.code) faults then not_built span ∷ [] else faults

-- what is wrong with the function `main` of a text, of which this is where it stands and its body
abbrev pub judged_faults : (text : List ℕ) → (main : Span × Tree) → List Fault
judged_faults text main = settled (has_other_names (unit_of_text text)) main.0 (judged_body text main.1).faults

-- what is wrong with the directives and declarations of a text: those that aren't built, and what the judgement says of the others
abbrev pub declared_faults : List ℕ → List Fault
declared_faults text =
    map not_built (unbuilt (words_of text) (unit_of_text text)) ++ option_map_or (judged_faults text) (main_of text) []

-- what is wrong with a text, in any order
abbrev pub faults_in : List ℕ → List Fault
faults_in text = lexical_faults text ++ (segment_faults text ++ declared_faults text)

-- what is wrong with a text: by offset, then length, then code, without repeats
unfoldable pub diagnostics : List ℕ → List Fault
diagnostics text = sorted_faults (faults_in text)

-- what is wrong with the lexemes, the groups and the segments of a text alone, in that order: so much is said of a part that belongs to no library
unfoldable pub text_diagnostics : List ℕ → List Fault
text_diagnostics text = sorted_faults (lexical_faults text ++ segment_faults text)
