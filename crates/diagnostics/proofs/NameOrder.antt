-- The order of codes and that of their names are the same for each two of them: all are tried.
use Rattle.std.proofs.Common.{◌≡◌, ℕ, suc, zero, Bool, true, false, ◌&&◌, List, [], ◌∷◌, Option, Some, None, refl, subst}
use Rattle.std.proofs.lemmas.Bool.{and_parts}
use Rattle.std.specs.declared.cmp.Ordering.{Ordering}
use Rattle.std.specs.declared.cmp.Ordering.TheVariants.{Less, Equal, Greater}
use Rattle.judgement.specs.declared.code.DiagnosticCode.{DiagnosticCode}
use Rattle.judgement.specs.declared.code.DiagnosticCode.TheVariants.{AmbiguousExport, ArgumentType, BadEscape, ConditionNotBool, DirectiveOrder, DuplicateDefinition, FileNotUtf8, IllegalCharacter, ImportOfPart, IntegerLiteralOutOfRange, InvalidAssignment, NotBuilt, PartMismatch, ProfileAnnotation, ProfileAssert, ProfileAsync, ProfileCollectionElement, ProfileConditionalUri, ProfileConst, ProfileContinueCase, ProfileCovariant, ProfileDeferred, ProfileDouble, ProfileEnum, ProfileExtension, ProfileExternal, ProfileFileLength, ProfileIdentifier, ProfileLate, ProfileMixinApplication, ProfileNesting, ProfilePartOfName, ProfileRedirectingFactory, ProfileSymbol, ProfileTripleShift, ProfileTypedef, ReferencedBeforeDeclaration, SyntaxError, UnassignedRead, UncheckedNullableUse, UnclosedGroup, UndefinedName, UndefinedOperator, UnopenedGroup, UnterminatedComment, UnterminatedString, UriDoesNotExist}
use Rattle.judgement.specs.contracts.code.DiagnosticCodeOrd.TheImpl as code
use Rattle.diagnostics.specs.Codes.{name_cmp}

-- whether two answers are the same
abbrev same : Ordering → Ordering → Bool
same Less Less = true
same Less Equal = false
same Less Greater = false
same Equal Less = false
same Equal Equal = true
same Equal Greater = false
same Greater Less = false
same Greater Equal = false
same Greater Greater = true

same_is : (r s : Ordering) → same r s ≡ true → r ≡ s
same_is Less Less h = refl
same_is Less Equal h = cc h
same_is Less Greater h = cc h
same_is Equal Less h = cc h
same_is Equal Equal h = refl
same_is Equal Greater h = cc h
same_is Greater Less h = cc h
same_is Greater Equal h = cc h
same_is Greater Greater h = refl

-- all codes
abbrev all_codes : List DiagnosticCode
all_codes = AmbiguousExport ∷ ArgumentType ∷ BadEscape ∷ ConditionNotBool ∷ DirectiveOrder ∷ DuplicateDefinition ∷ FileNotUtf8 ∷ IllegalCharacter ∷ ImportOfPart ∷ IntegerLiteralOutOfRange ∷ InvalidAssignment ∷ NotBuilt ∷ PartMismatch ∷ ProfileAnnotation ∷ ProfileAssert ∷ ProfileAsync ∷ ProfileCollectionElement ∷ ProfileConditionalUri ∷ ProfileConst ∷ ProfileContinueCase ∷ ProfileCovariant ∷ ProfileDeferred ∷ ProfileDouble ∷ ProfileEnum ∷ ProfileExtension ∷ ProfileExternal ∷ ProfileFileLength ∷ ProfileIdentifier ∷ ProfileLate ∷ ProfileMixinApplication ∷ ProfileNesting ∷ ProfilePartOfName ∷ ProfileRedirectingFactory ∷ ProfileSymbol ∷ ProfileTripleShift ∷ ProfileTypedef ∷ ReferencedBeforeDeclaration ∷ SyntaxError ∷ UnassignedRead ∷ UncheckedNullableUse ∷ UnclosedGroup ∷ UndefinedName ∷ UndefinedOperator ∷ UnopenedGroup ∷ UnterminatedComment ∷ UnterminatedString ∷ UriDoesNotExist ∷ []

-- where a code stands among them
abbrev place : DiagnosticCode → ℕ
place AmbiguousExport = 0
place ArgumentType = 1
place BadEscape = 2
place ConditionNotBool = 3
place DirectiveOrder = 4
place DuplicateDefinition = 5
place FileNotUtf8 = 6
place IllegalCharacter = 7
place ImportOfPart = 8
place IntegerLiteralOutOfRange = 9
place InvalidAssignment = 10
place NotBuilt = 11
place PartMismatch = 12
place ProfileAnnotation = 13
place ProfileAssert = 14
place ProfileAsync = 15
place ProfileCollectionElement = 16
place ProfileConditionalUri = 17
place ProfileConst = 18
place ProfileContinueCase = 19
place ProfileCovariant = 20
place ProfileDeferred = 21
place ProfileDouble = 22
place ProfileEnum = 23
place ProfileExtension = 24
place ProfileExternal = 25
place ProfileFileLength = 26
place ProfileIdentifier = 27
place ProfileLate = 28
place ProfileMixinApplication = 29
place ProfileNesting = 30
place ProfilePartOfName = 31
place ProfileRedirectingFactory = 32
place ProfileSymbol = 33
place ProfileTripleShift = 34
place ProfileTypedef = 35
place ReferencedBeforeDeclaration = 36
place SyntaxError = 37
place UnassignedRead = 38
place UncheckedNullableUse = 39
place UnclosedGroup = 40
place UndefinedName = 41
place UndefinedOperator = 42
place UnopenedGroup = 43
place UnterminatedComment = 44
place UnterminatedString = 45
place UriDoesNotExist = 46

-- the code at a place
abbrev code_at : List DiagnosticCode → ℕ → Option DiagnosticCode
code_at [] n = None
code_at (c ∷ cs) zero = Some c
code_at (c ∷ cs) (suc n) = code_at cs n

placed : (c : DiagnosticCode) → code_at all_codes (place c) ≡ Some c
placed AmbiguousExport = refl
placed ArgumentType = refl
placed BadEscape = refl
placed ConditionNotBool = refl
placed DirectiveOrder = refl
placed DuplicateDefinition = refl
placed FileNotUtf8 = refl
placed IllegalCharacter = refl
placed ImportOfPart = refl
placed IntegerLiteralOutOfRange = refl
placed InvalidAssignment = refl
placed NotBuilt = refl
placed PartMismatch = refl
placed ProfileAnnotation = refl
placed ProfileAssert = refl
placed ProfileAsync = refl
placed ProfileCollectionElement = refl
placed ProfileConditionalUri = refl
placed ProfileConst = refl
placed ProfileContinueCase = refl
placed ProfileCovariant = refl
placed ProfileDeferred = refl
placed ProfileDouble = refl
placed ProfileEnum = refl
placed ProfileExtension = refl
placed ProfileExternal = refl
placed ProfileFileLength = refl
placed ProfileIdentifier = refl
placed ProfileLate = refl
placed ProfileMixinApplication = refl
placed ProfileNesting = refl
placed ProfilePartOfName = refl
placed ProfileRedirectingFactory = refl
placed ProfileSymbol = refl
placed ProfileTripleShift = refl
placed ProfileTypedef = refl
placed ReferencedBeforeDeclaration = refl
placed SyntaxError = refl
placed UnassignedRead = refl
placed UncheckedNullableUse = refl
placed UnclosedGroup = refl
placed UndefinedName = refl
placed UndefinedOperator = refl
placed UnopenedGroup = refl
placed UnterminatedComment = refl
placed UnterminatedString = refl
placed UriDoesNotExist = refl

-- all of these pass
abbrev all_pass : (DiagnosticCode → Bool) → List DiagnosticCode → Bool
all_pass p [] = true
all_pass p (c ∷ cs) = p c && all_pass p cs

-- so does the one at a place
passes_at : (p : DiagnosticCode → Bool) (cs : List DiagnosticCode) (n : ℕ) (c : DiagnosticCode) → all_pass p cs ≡ true → code_at cs n ≡ Some c → p c ≡ true
passes_at p [] n c all at = cc at
passes_at p (d ∷ ds) zero c all at = let is : d ≡ c = cc in subst (λ (e : DiagnosticCode). p e ≡ true) is (and_parts (p d) (all_pass p ds) all).0
passes_at p (d ∷ ds) (suc n) c all at = passes_at p ds n c (and_parts (p d) (all_pass p ds) all).1 at

-- a code compares with all others as its name does
abbrev agrees : DiagnosticCode → Bool
agrees a = all_pass (λ b. same (code.ghosts.cmp a b) (name_cmp a b)) all_codes

-- and so does each
all_agree : all_pass agrees all_codes ≡ true
all_agree = refl

pub ordered_by_name : (a b : DiagnosticCode) → code.ghosts.cmp a b ≡ name_cmp a b
ordered_by_name a b =
    same_is (code.ghosts.cmp a b) (name_cmp a b)
    (passes_at (λ c. same (code.ghosts.cmp a c) (name_cmp a c)) all_codes (place b) b (passes_at agrees all_codes (place a) a all_agree (placed a)) (placed b))
