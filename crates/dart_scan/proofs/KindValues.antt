-- The kinds of lexemes that have the empty value.
use Rattle.std.proofs.Common.{◌≡◌, ℕ, List, [], refl}
use Rattle.dart_tokens.specs.declared.token.Kind.{Kind}
use Rattle.dart_tokens.specs.declared.token.Kind.TheVariants.{StringLiteral, StringOpening, StringPart, StringClosing}
use Rattle.dart_scan.specs.Values.{string_value}

pub no_value : (kind : Kind) (lexeme : List ℕ) → (kind ≡ StringLiteral → ⊥) → (kind ≡ StringOpening → ⊥) → (kind ≡ StringPart → ⊥) → (kind ≡ StringClosing → ⊥) → string_value kind lexeme ≡ []
unfolding string_value
no_value StringLiteral lexeme a b c d = absurd (a refl)
no_value StringOpening lexeme a b c d = absurd (b refl)
no_value StringPart lexeme a b c d = absurd (c refl)
no_value StringClosing lexeme a b c d = absurd (d refl)
no_value _ lexeme a b c d = refl
