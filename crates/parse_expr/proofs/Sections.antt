-- A section where no node may lie.
use Rattle.std.proofs.Common.{◌≡◌, ℕ, zero, Bool, true, false, if◌then◌else◌, List, [], ◌∷◌, Option, Some, None, Result, refl, sym, ap, subst, ◌∙◌}
use Rattle.dart_tokens.specs.declared.token.Kind.TheVariants as kind
use Rattle.readings.specs.Readings.{Reading, made}
use Rattle.readings.specs.Descent.{bind, take_token, take_turn, take_where, take_make, take_inside}
use Rattle.dart_tree.specs.Tree.{Tree}
use Rattle.dart_tokens.specs.declared.grouped_token.GroupedToken.{GroupedToken as Token}
use Rattle.grammar.specs.Tokens.{is, is_name, heads_name, width, past}
use Rattle.grammar.specs.Expressions.{cascaded_name_of, cascaded_index_of}
use Rattle.grammar.specs.Descents.{take_section_head}
use Rattle.parse_leaves.specs.declared.miss.Miss.{Miss}
use Rattle.parse_leaves.specs.Answers.{Gives}
use Rattle.parse_leaves.specs.Groups.{inside_nothing}

either : {A : Type 0} (b : Bool) (x y z : A) → (b ≡ true → x ≡ z) → (b ≡ false → y ≡ z) → (if b then x else y) ≡ z
either true x y z f g = f refl
either false x y z f g = g refl

none_at : (b : Bool) (t : Token) (ts : List Token) → b ≡ false → bind (if b then Some (t, ts) else None) (λ x. Some (made (λ read a. cascaded_name_of a) (t ∷ ts) x)) ≡ None
none_at true t ts e = cc
none_at false t ts e = refl

no_name : (ts : List Token) → heads_name ts ≡ false → take_turn cascaded_name_of (take_token is_name) ts ≡ None
no_name [] e = refl
no_name (t ∷ ts) e = none_at (is_name t) t ts e

-- an index has no place
either_head : (ts : List Token) → take_section_head (λ us. None) ts ≡ take_turn cascaded_name_of (take_token is_name) ts
unfolding take_section_head
either_head ts =
    either (heads_name ts) (take_turn cascaded_name_of (take_token is_name) ts) (take_make cascaded_index_of (take_inside (is kind.OpenBracket) width past (λ us. None)) ts) (take_turn cascaded_name_of (take_token is_name) ts)
    (λ e. refl) (λ e. inside_nothing (is kind.OpenBracket) cascaded_index_of ts ∙ sym (no_name ts e))

pub gives_name : {X : Type 0} (view : X → Reading Token Tree) (r : Result X Miss) (ts : List Token) →
    Gives view r (take_turn cascaded_name_of (take_token is_name) ts) → Gives view r (take_section_head (λ us. None) ts)
gives_name view r ts g = subst (λ o. Gives view r o) (sym (either_head ts)) g
