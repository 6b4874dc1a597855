-- Whether two interface parts are the same.
use Rattle.std.specs.Prelude.{◌≡◌, ℕ, Bool, true, false, ◌&&◌, List, [], refl, bytes_eq}
use Rattle.std.specs.Bool.{Decides, beq}
use Rattle.std.specs.Cmp.{IsPartialEquivalence, partial_equiv_from_equiv, decided, booleans_Decides}
use Rattle.std.specs.Cmp.Lexicographic.{pointwise, lists_per}
use Rattle.std.proofs.Common.{ap}
use Rattle.std.proofs.lemmas.Bool.{false≢true}
use Rattle.std.proofs.lemmas.Bool.Decides.{Decides-and}
use Rattle.std.proofs.lemmas.Slice.Eq.{bytes_eq-Decides, slice_eq-Decides}
use Rattle.dart_tokens.specs.declared.token.Kind.{Kind}
use Rattle.dart_tokens.specs.contracts.token.Kind as kinds
use denote.Enum.Bare.{sameb, same_true, true_same}
use Rattle.interface_part.specs.Parts.{Part, mark, lexeme}

-- both are the mark, or both the same lexeme
abbrev pub same_part : Part → Part → Bool
same_part mark mark = true
same_part mark (lexeme kind letters adjoins) = false
same_part (lexeme kind letters adjoins) mark = false
same_part (lexeme kind letters adjoins) (lexeme other others joins) = sameb kinds.the_type kind other && (bytes_eq letters others && beq adjoins joins)

-- the same parts in the same order
abbrev pub same_parts : List Part → List Part → Bool
same_parts parts others = pointwise same_part parts others

-- the part is the mark
abbrev is_mark : Part → Bool
is_mark mark = true
is_mark (lexeme kind letters adjoins) = false

-- the part is a lexeme
abbrev is_lexeme : Part → Bool
is_lexeme mark = false
is_lexeme (lexeme kind letters adjoins) = true

-- the kind of a lexeme, or else this one
abbrev kind_or : Kind → Part → Kind
kind_or otherwise mark = otherwise
kind_or otherwise (lexeme kind letters adjoins) = kind

-- the letters of a lexeme
abbrev pub letters_of_part : Part → List ℕ
letters_of_part mark = []
letters_of_part (lexeme kind letters adjoins) = letters

-- the lexeme is a `>` that the next token follows without a gap
abbrev is_joined : Part → Bool
is_joined mark = false
is_joined (lexeme kind letters adjoins) = adjoins

pub same_kind_Decides : (k j : Kind) → Decides (sameb kinds.the_type k j) (k ≡ j)
same_kind_Decides k j = (λ e. same_true kinds.the_type tt k j e, λ e. true_same kinds.the_type k j e)

pub same_part_Decides : (p q : Part) → Decides (same_part p q) (p ≡ q)
same_part_Decides mark mark = (λ e. refl, λ e. refl)
same_part_Decides mark (lexeme kind letters adjoins) = (λ e. absurd (false≢true e), λ e. ap is_lexeme e)
same_part_Decides (lexeme kind letters adjoins) mark = (λ e. absurd (false≢true e), λ e. ap is_mark e)
same_part_Decides (lexeme kind letters adjoins) (lexeme other others joins) =
    let letters_same = bytes_eq-Decides letters others in
    let joins_same = booleans_Decides adjoins joins in
    let both = Decides-and (bytes_eq letters others) (beq adjoins joins) letters_same joins_same in
    let all = Decides-and (sameb kinds.the_type kind other) (bytes_eq letters others && beq adjoins joins) (same_kind_Decides kind other) both in (
      λ e. λ i. lexeme ((all.0 e).0 i) ((all.0 e).1.0 i) ((all.0 e).1.1 i),
      λ e. all.1 (ap (kind_or kind) e, (ap letters_of_part e, ap is_joined e)),
    )

pub same_parts_Decides : (parts others : List Part) → Decides (same_parts parts others) (parts ≡ others)
same_parts_Decides parts others = slice_eq-Decides same_part_Decides parts others (same_parts parts others) refl

pub same_parts_laws : IsPartialEquivalence same_parts
same_parts_laws = lists_per (partial_equiv_from_equiv (decided same_part same_part_Decides))
