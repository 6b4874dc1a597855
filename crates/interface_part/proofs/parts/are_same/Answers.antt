use Rattle.std.specs.Prelude.{◌==◌, ◌&&◌}
use Rattle.std.proofs.Common.{◌≡◌, ℕ, Bool, true, false, refl, ap}
use Rattle.std.specs.Bool.{Decides, beq}
use Rattle.std.specs.Cmp.{booleans_Decides}
use Rattle.std.proofs.lemmas.Bool.{false≢true}
use Rattle.std.proofs.lemmas.Bool.Decides.{Decides-and, Decides-eqb}
use denote.Enum.Bare.{sameb}
use Rattle.dart_tokens.specs.declared.token.Kind.{Kind}
use Rattle.dart_tokens.specs.contracts.token.Kind as kinds
use Rattle.interface_part.specs.Same.{same_kind_Decides}
use Rattle.interface_part.specs.declared.parts.Piece.{Piece}
use Rattle.interface_part.specs.declared.parts.Piece.TheVariants as piece
use Rattle.interface_part.specs.contracts.parts.PiecePartialEq.TheImpl.{eq-value}
use Rattle.interface_part.proofs.Cuts.{same_then, same_else}
use Rattle.interface_part.proofs.parts.are_same.Goals as goal

-- the piece is a lexeme, or the mark
abbrev is_lexeme : Piece → Bool
is_lexeme piece.Mark = false
is_lexeme (piece.Lexeme kind adjoins size) = true

abbrev is_mark : Piece → Bool
is_mark piece.Mark = true
is_mark (piece.Lexeme kind adjoins size) = false

-- the kind of a lexeme, or else this one; whether it adjoins; how many letters it has
abbrev kind_or : Kind → Piece → Kind
kind_or otherwise piece.Mark = otherwise
kind_or otherwise (piece.Lexeme kind adjoins size) = kind

abbrev is_joined : Piece → Bool
is_joined piece.Mark = false
is_joined (piece.Lexeme kind adjoins size) = adjoins

abbrev size_of : Piece → ℕ
size_of piece.Mark = 0
size_of (piece.Lexeme kind adjoins size) = size

-- pieces are compared by their fields
same_piece : (p q : Piece) → Decides (eq-value.it p q) (p ≡ q)
same_piece piece.Mark piece.Mark = (λ e. refl, λ e. refl)
same_piece piece.Mark (piece.Lexeme kind adjoins size) = (λ e. absurd (false≢true e), λ e. ap is_lexeme e)
same_piece (piece.Lexeme kind adjoins size) piece.Mark = (λ e. absurd (false≢true e), λ e. ap is_mark e)
same_piece (piece.Lexeme kind adjoins size) (piece.Lexeme other joins most) =
    let both = Decides-and (beq adjoins joins) (size == most) (booleans_Decides adjoins joins) (Decides-eqb size most) in
    let all = Decides-and (sameb kinds.the_type kind other) (beq adjoins joins && (size == most)) (same_kind_Decides kind other) both in (
      λ e. λ i. piece.Lexeme ((all.0 e).0 i) ((all.0 e).1.0 i) ((all.0 e).1.1 i),
      λ e. all.1 (ap (kind_or kind) e, (ap is_joined e, ap size_of e)),
    )

pub returns-then-eq : goal.returns-then-eq
returns-then-eq c =
    same_then eq-value.it _ same_piece Decides-eqb c.args.pieces.now c.args.others.now c.args.letters.now c.args.more.now c.eq.result c.eq-then-eq.result
    c.requires.full c.requires.all c.eq.ensures c.if-eq.true c.eq-then-eq.ensures

pub returns-else-eq : goal.returns-else-eq
returns-else-eq c =
    same_else eq-value.it same_piece c.args.pieces.now c.args.others.now c.args.letters.now c.args.more.now c.eq.result c.requires.full c.requires.all
    c.eq.ensures c.if-eq.false
