-- What a row says of a code.
use Rattle.std.specs.Prelude.{ℕ, List, [], ◌∷◌, ◌++◌, map, codes, if◌then◌else◌, ◌==◌}
use Rattle.std.specs.Ordering.{nat_cmp}
use Rattle.std.specs.Cmp.Lexicographic.{slice_cmp}
use Rattle.std.specs.declared.cmp.Ordering.{Ordering}
use Rattle.std.specs.Str.{byte}
use Rattle.std.specs.Char.{to_ascii_uppercase}
use Rattle.judgement.specs.declared.code.DiagnosticCode.{DiagnosticCode}
use Rattle.judgement.specs.declared.code.DiagnosticCode.TheVariants.{AmbiguousExport, ArgumentType, BadEscape, ConditionNotBool, DirectiveOrder, DuplicateDefinition, FileNotUtf8, IllegalCharacter, ImportOfPart, IntegerLiteralOutOfRange, InvalidAssignment, NotBuilt, PartMismatch, ProfileAnnotation, ProfileAssert, ProfileAsync, ProfileCollectionElement, ProfileConditionalUri, ProfileConst, ProfileContinueCase, ProfileCovariant, ProfileDeferred, ProfileDouble, ProfileEnum, ProfileExtension, ProfileExternal, ProfileFileLength, ProfileIdentifier, ProfileLate, ProfileMixinApplication, ProfileNesting, ProfilePartOfName, ProfileRedirectingFactory, ProfileSymbol, ProfileTripleShift, ProfileTypedef, ReferencedBeforeDeclaration, SyntaxError, UnassignedRead, UncheckedNullableUse, UnclosedGroup, UndefinedName, UndefinedOperator, UnopenedGroup, UnterminatedComment, UnterminatedString, UriDoesNotExist}
use Rattle.proto_json.specs.declared.reply.ErrorKind.{ErrorKind}
use Rattle.proto_json.specs.declared.reply.ErrorKind.TheVariants.{SyntacticError, CompileTimeError}

-- the name of a code
abbrev pub name_of : DiagnosticCode → List ℕ
name_of AmbiguousExport = codes "ambiguous_export"
name_of ArgumentType = codes "argument_type"
name_of BadEscape = codes "bad_escape"
name_of ConditionNotBool = codes "condition_not_bool"
name_of DirectiveOrder = codes "directive_order"
name_of DuplicateDefinition = codes "duplicate_definition"
name_of FileNotUtf8 = codes "file_not_utf8"
name_of IllegalCharacter = codes "illegal_character"
name_of ImportOfPart = codes "import_of_part"
name_of IntegerLiteralOutOfRange = codes "integer_literal_out_of_range"
name_of InvalidAssignment = codes "invalid_assignment"
name_of NotBuilt = codes "not_built"
name_of PartMismatch = codes "part_mismatch"
name_of ProfileAnnotation = codes "profile_annotation"
name_of ProfileAssert = codes "profile_assert"
name_of ProfileAsync = codes "profile_async"
name_of ProfileCollectionElement = codes "profile_collection_element"
name_of ProfileConditionalUri = codes "profile_conditional_uri"
name_of ProfileConst = codes "profile_const"
name_of ProfileContinueCase = codes "profile_continue_case"
name_of ProfileCovariant = codes "profile_covariant"
name_of ProfileDeferred = codes "profile_deferred"
name_of ProfileDouble = codes "profile_double"
name_of ProfileEnum = codes "profile_enum"
name_of ProfileExtension = codes "profile_extension"
name_of ProfileExternal = codes "profile_external"
name_of ProfileFileLength = codes "profile_file_length"
name_of ProfileIdentifier = codes "profile_identifier"
name_of ProfileLate = codes "profile_late"
name_of ProfileMixinApplication = codes "profile_mixin_application"
name_of ProfileNesting = codes "profile_nesting"
name_of ProfilePartOfName = codes "profile_part_of_name"
name_of ProfileRedirectingFactory = codes "profile_redirecting_factory"
name_of ProfileSymbol = codes "profile_symbol"
name_of ProfileTripleShift = codes "profile_triple_shift"
name_of ProfileTypedef = codes "profile_typedef"
name_of ReferencedBeforeDeclaration = codes "referenced_before_declaration"
name_of SyntaxError = codes "syntax_error"
name_of UnassignedRead = codes "unassigned_read"
name_of UncheckedNullableUse = codes "unchecked_nullable_use"
name_of UnclosedGroup = codes "unclosed_group"
name_of UndefinedName = codes "undefined_name"
name_of UndefinedOperator = codes "undefined_operator"
name_of UnopenedGroup = codes "unopened_group"
name_of UnterminatedComment = codes "unterminated_comment"
name_of UnterminatedString = codes "unterminated_string"
name_of UriDoesNotExist = codes "uri_does_not_exist"

-- two codes by the bytes of their names: the first byte that differs decides, else the shorter name is less
abbrev pub name_cmp : DiagnosticCode → DiagnosticCode → Ordering
name_cmp a b = slice_cmp nat_cmp (name_of a) (name_of b)

-- the words of a name: a space stands for each low line
abbrev pub words_of : List ℕ → List ℕ
words_of name = map (λ b. if b == byte "_" then byte " " else b) name

-- the text with its first letter in upper case
abbrev pub capitalized : List ℕ → List ℕ
capitalized [] = []
capitalized (first ∷ rest) = to_ascii_uppercase first ∷ rest

-- the sentence of a code: the words of its name, the first letter in upper case, and a full stop
abbrev pub message_of : DiagnosticCode → List ℕ
message_of code = capitalized (words_of (name_of code)) ++ codes "."

-- the kind of a code: what is wrong with lexemes, brackets or grammar is a syntactic error; a form of Dart that is left out is a compile-time error, and so is every other
abbrev pub kind_of : DiagnosticCode → ErrorKind
kind_of AmbiguousExport = CompileTimeError
kind_of ArgumentType = CompileTimeError
kind_of BadEscape = SyntacticError
kind_of ConditionNotBool = CompileTimeError
kind_of DirectiveOrder = CompileTimeError
kind_of DuplicateDefinition = CompileTimeError
kind_of FileNotUtf8 = CompileTimeError
kind_of IllegalCharacter = SyntacticError
kind_of ImportOfPart = CompileTimeError
kind_of IntegerLiteralOutOfRange = CompileTimeError
kind_of InvalidAssignment = CompileTimeError
kind_of NotBuilt = CompileTimeError
kind_of PartMismatch = CompileTimeError
kind_of ProfileAnnotation = CompileTimeError
kind_of ProfileAssert = CompileTimeError
kind_of ProfileAsync = CompileTimeError
kind_of ProfileCollectionElement = CompileTimeError
kind_of ProfileConditionalUri = CompileTimeError
kind_of ProfileConst = CompileTimeError
kind_of ProfileContinueCase = CompileTimeError
kind_of ProfileCovariant = CompileTimeError
kind_of ProfileDeferred = CompileTimeError
kind_of ProfileDouble = CompileTimeError
kind_of ProfileEnum = CompileTimeError
kind_of ProfileExtension = CompileTimeError
kind_of ProfileExternal = CompileTimeError
kind_of ProfileFileLength = CompileTimeError
kind_of ProfileIdentifier = CompileTimeError
kind_of ProfileLate = CompileTimeError
kind_of ProfileMixinApplication = CompileTimeError
kind_of ProfileNesting = SyntacticError
kind_of ProfilePartOfName = CompileTimeError
kind_of ProfileRedirectingFactory = CompileTimeError
kind_of ProfileSymbol = CompileTimeError
kind_of ProfileTripleShift = CompileTimeError
kind_of ProfileTypedef = CompileTimeError
kind_of ReferencedBeforeDeclaration = CompileTimeError
kind_of SyntaxError = SyntacticError
kind_of UnassignedRead = CompileTimeError
kind_of UncheckedNullableUse = CompileTimeError
kind_of UnclosedGroup = SyntacticError
kind_of UndefinedName = CompileTimeError
kind_of UndefinedOperator = CompileTimeError
kind_of UnopenedGroup = SyntacticError
kind_of UnterminatedComment = SyntacticError
kind_of UnterminatedString = SyntacticError
kind_of UriDoesNotExist = CompileTimeError
